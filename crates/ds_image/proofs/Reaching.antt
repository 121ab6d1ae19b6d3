-- A planner that keeps the law asks only for what was not seen, and holds the guards of all that it has read.
use Rattle.std.proofs.Common.{◌≡◌, ℕ, ◌==◌, Bool, true, arith, ◌||◌, List, [], ◌∷◌, ◌++◌, Option, Some, None, sym, ap, subst, ◌∙◌}
use Rattle.std.proofs.lemmas.List.Folds.{list_any-append}
use Rattle.std.specs.List.{list_any}
use Rattle.std.specs.Option.{option_or}
use Rattle.ds_base.specs.declared.geometry.Geom.{Geom}
use Rattle.ds_base.specs.declared.names.Key.{Key}
use Rattle.ds_base.specs.declared.sectors.Sector.{Sector}
use Rattle.ds_image.specs.Asking.{Agrees, Given, IsFew, IsGuarded, Keeps, Locked, Reached, Start}
use Rattle.ds_image.specs.Planning.{AllAreFew, AllGuarded, AllKeep, Answers, Asks, IsFresh}
use Rattle.ds_image.specs.SeenValues.{SeenValue, has_lock, look_of, sector_in, with_lock, with_sector}
use Rattle.ds_image.specs.Sound.{StandsFor}
use Rattle.ds_image.specs.declared.asks.Ask.{Ask}
use Rattle.ds_image.specs.declared.asks.Ask.TheVariants.{Change, Done, Lock, Odd, Read, Worn}
use Rattle.ds_image.proofs.Seeing.{sector_in-append}
use Rattle.ds_tree.specs.declared.calls.CallOf.{CallOf}

any-append : (object other : ℕ) (locks : List ℕ) → list_any (λ x. x == object) locks ≡ true → list_any (λ x. x == object) (locks ++ other ∷ []) ≡ true
any-append object other locks is =
    list_any-append (λ x. x == object) locks (other ∷ []) ∙ ap (λ (held : Bool). held || list_any (λ x. x == object) (other ∷ [])) is

first-of : (one other : Option Sector) (s : Sector) → one ≡ Some s → option_or one other ≡ Some s
first-of None other s is = absurd cc
first-of (Some t) other s is = is

either-of : (one other : Option Sector) (s : Sector) (P : Type 0) → (one ≡ Some s → P) → (other ≡ Some s → P) → option_or one other ≡ Some s → P
either-of None other s P first second is = second is
either-of (Some t) other s P first second is = first is

-- an image that agrees with what was seen agrees with what was seen before
agrees-before : (seen : SeenValue) (at : ℕ) (s : Sector) (image : List Sector) → Agrees (with_sector seen at s) image → Agrees seen image
agrees-before seen at s image agrees k t there =
    agrees k t (sector_in-append seen.sectors ((at, s) ∷ []) k ∙ first-of (sector_in seen.sectors k) (sector_in ((at, s) ∷ []) k) t there)

-- a sector that is in a list of one is that one
only-one : (at k : ℕ) (s t : Sector) → sector_in ((at, s) ∷ []) k ≡ Some t → at ≡ k
only-one at k s t there = grind (arith, there)

module _ (g : Geom) (call : CallOf Key) (answers : Answers) (keep : AllKeep g call answers) where
  kept : (seen : SeenValue) (ask : Ask) → (asks : Asks g answers seen ask) → Keeps g call seen asks.parts ask
  kept seen ask asks = subst (Keeps g call seen asks.parts) (sym asks.answered) (keep seen asks.parts asks.reads)

  pub all-guarded : (seen : SeenValue) → Reached (Asks g answers) seen → AllGuarded g seen
  all-guarded _ (Start locks few) = λ image t stands agrees at s there. absurd cc
  all-guarded _ (Locked seen object before asks) = λ image t stands agrees at s there.
      let one = all-guarded seen before image t stands agrees at s there in
      record { object = one.object; guards = one.guards; held = any-append one.object object seen.locks one.held }
  all-guarded _ (Given seen at s before asks block) = λ image t stands agrees k u there.
      let earlier = agrees-before seen at s image agrees in
      either-of (sector_in seen.sectors k) (sector_in ((at, s) ∷ []) k) u (IsGuarded g (with_sector seen at s) image k)
      (λ read.
      let one = all-guarded seen before image t stands earlier k u read in
      record { object = one.object; guards = one.guards; held = one.held })
      (λ read.
      let one = (kept seen (Read at) asks).form.guarded image t stands earlier in
      subst (IsGuarded g (with_sector seen at s) image) (only-one at k s u read)
      (record { object = one.object; guards = one.guards; held = one.held }))
      (sym (sector_in-append seen.sectors ((at, s) ∷ []) k) ∙ there)

  pub all-fresh : (seen : SeenValue) (ask : Ask) → Asks g answers seen ask → IsFresh seen ask
  all-fresh seen (Lock object) asks = (kept seen (Lock object) asks).form.1
  all-fresh seen (Read at) asks = (kept seen (Read at) asks).form.unread
  all-fresh seen (Odd at) asks = tt
  all-fresh seen (Worn object) asks = tt
  all-fresh seen (Done reply) asks = tt
  all-fresh seen (Change redo reply) asks = tt

-- and there is room for it
pub all-few : (g : Geom) (answers : Answers) → AllAreFew g answers → (seen : SeenValue) (ask : Ask) → Reached (Asks g answers) seen → Asks g answers seen ask
    → IsFew seen ask
all-few g answers few seen ask reached asks = subst (IsFew seen) (sym asks.answered) (few seen asks.parts asks.reads reached)
