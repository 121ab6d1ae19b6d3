-- A planner step by step: each step asks for what is good, or goes on.
use Rattle.std.proofs.Common.{◌≡◌, ℕ, Bool, true, false, if◌then◌else◌, Option, Some, None, refl}
use Rattle.std.specs.Prelude.{Result, Ok, Err}
use Rattle.ds_base.specs.declared.sectors.Sector.{Sector}
use Rattle.ds_image.specs.declared.asks.Ask.{Ask}
use Rattle.ds_image.specs.declared.asks.Ask.TheVariants.{Read, Odd, Done}
use Rattle.ds_plan_base.specs.Bodies.{part_seen}
use Rattle.ds_plan_base.proofs.Goes.{Goes}
use Rattle.ds_plan_base.specs.Steps.{after, settled}
use Rattle.ds_plan_base.specs.declared.stops.Stop.{Stop}
use Rattle.ds_tree.specs.declared.calls.TreeReply.{TreeReply}

pub goes-after : {V W : Type 0} (Good : Ask → Type 0) (Is : V → Type 0) (Then : W → Type 0) (r : Result V Stop) (next : V → Result W Stop)
    → Goes Good r Is → ((v : V) → Is v → Goes Good (next v) Then) → Goes Good (after r next) Then
goes-after Good Is Then (Ok v) next is each = each v is
goes-after Good Is Then (Err stop) next good each = good

pub goes-weaker : {V : Type 0} (Good : Ask → Type 0) (Is Then : V → Type 0) (r : Result V Stop) → Goes Good r Is → ((v : V) → Is v → Then v)
    → Goes Good r Then
goes-weaker Good Is Then (Ok v) is each = each v is
goes-weaker Good Is Then (Err stop) good each = good

pub goes-settled : (Good : Ask → Type 0) (r : Result TreeReply Stop) → Goes Good r (λ reply. Good (Done reply)) → Good (settled r)
goes-settled Good (Ok reply) good = good
goes-settled Good (Err stop) good = good

pub goes-if : {V : Type 0} (Good : Ask → Type 0) (Is : V → Type 0) (test : Bool) (r s : Result V Stop) → (test ≡ true → Goes Good r Is)
    → (test ≡ false → Goes Good s Is) → Goes Good (if test then r else s) Is
goes-if Good Is true r s one other = one refl
goes-if Good Is false r s one other = other refl

-- a part is asked for where its sector wasn't read, and is odd where the sector spells none
pub goes-part : {V : Type 0} (Good : Ask → Type 0) (Is : V → Type 0) (at : ℕ) (look : Option Sector) (part : Option V)
    → (look ≡ None → Good (Read at)) → ((s : Sector) → look ≡ Some s → part ≡ None → Good (Odd at))
    → ((s : Sector) (v : V) → look ≡ Some s → part ≡ Some v → Is v) → Goes Good (part_seen at look part) Is
goes-part Good Is at None part unread odd known = unread refl
goes-part Good Is at (Some s) None unread odd known = odd s refl refl
goes-part Good Is at (Some s) (Some v) unread odd known = known s v refl refl
