-- A sector spells the same part wherever it is looked at.
use Rattle.std.proofs.Common.{◌≡◌, ℕ, ◌<◌, false, Option, Some, None, is_some, refl, sym, ap, subst, ◌∙◌}
use Rattle.std.specs.Prelude.{IsSome}
use Rattle.std.proofs.lemmas.Bool.{false≢true}
use Rattle.ds_base.specs.Decoding.{IsDecoded}
use Rattle.ds_base.specs.Geometry.{items_of}
use Rattle.ds_base.specs.declared.geometry.Geom.{Geom}
use Rattle.ds_base.specs.declared.geometry.Kind.TheVariants.{Fd, Sb, Pb}
use Rattle.ds_base.specs.declared.sectors.Sector.{Sector}
use Rattle.ds_dir.specs.SubBlock.{IsSubBlock, sub_bytes}
use Rattle.ds_dir.specs.declared.sub_block.SubBlock.{SubBlock}
use Rattle.ds_fd.specs.Body.{IsBody, body_bytes}
use Rattle.ds_fd.specs.declared.body.Body.{Body}
use Rattle.ds_image_parts.specs.Looks.{Look}
use Rattle.ds_image_parts.specs.Parts.{Parts, part_at}
use Rattle.ds_image_parts.specs.Readings.{ReadsParts, SpellsBody, SpellsSub, SpellsPtr}
use Rattle.ds_image_parts.proofs.Spelling.Decoded.{decoded_same, numbered_at, spelled_at}
use Rattle.ds_layout.specs.Places.{place_sector}
use Rattle.ds_layout.specs.declared.places.Place.TheVariants as places
use Rattle.ds_plan_base.specs.Bodies.{part_seen}
use Rattle.ds_ptr.specs.PtrBlock.{IsPtrBlock, ptr_bytes}
use Rattle.ds_ptr.specs.declared.ptr_block.PtrBlock.{PtrBlock}

-- what is there, and what is not
pub some-there : {X : Type 0} (r : Option X) → IsSome r → (x : X) × (r ≡ Some x)
some-there None some = absurd (false≢true some)
some-there (Some x) some = (x, refl)

pub none-there : {X : Type 0} (r : Option X) → is_some r ≡ false → r ≡ None
none-there None none = refl
none-there (Some x) none = absurd (false≢true (sym none))

-- what is decoded of a sector that is there is the part of its number
pub body_decoded : (g : Geom) (look : Look) (p : Parts) (object at : ℕ) (s : Sector) (r : Option Body) → object < items_of g Fd
    → at ≡ place_sector g (places.Body object) → look at ≡ Some s
    → IsDecoded r (λ b. (b.object ≡ object) × IsBody b × (s.bytes ≡ body_bytes b)) → ReadsParts g look p → r ≡ part_at p.bodies object
body_decoded g look p object at s r l here there read reads =
    decoded_same r (part_at p.bodies object) (SpellsBody g look object)
    (numbered_at look (place_sector g (places.Body object)) s (λ b. b.object ≡ object) IsBody body_bytes r (ap look (sym here) ∙ there) read)
    (reads.bodies.each object l)

pub sub_decoded : (g : Geom) (look : Look) (p : Parts) (n at : ℕ) (s : Sector) (r : Option SubBlock) → n < items_of g Sb
    → at ≡ place_sector g (places.SubBlock n) → look at ≡ Some s
    → IsDecoded r (λ b. IsSubBlock b × (s.bytes ≡ sub_bytes b)) → ReadsParts g look p → r ≡ part_at p.subs n
sub_decoded g look p n at s r l here there read reads =
    decoded_same r (part_at p.subs n) (SpellsSub g look n)
    (spelled_at look (place_sector g (places.SubBlock n)) s IsSubBlock sub_bytes r (ap look (sym here) ∙ there) read)
    (reads.subs.each n l)

-- so it is what was seen of it
pub part_seen-as : {V : Type 0} (look : Look) (at here : ℕ) (s : Sector) (r part : Option V) → at ≡ here → look at ≡ Some s → r ≡ part
    → part_seen at (Some s) r ≡ part_seen here (look here) part
part_seen-as look at here s r part same there is =
    ap (part_seen at (Some s)) is ∙ ap (λ (x : Option Sector). part_seen at x part) (sym there) ∙ ap (λ k. part_seen k (look k) part) same

-- two looks that have the same sector there, or none, have the same part
pub body_alike : (g : Geom) (look other : Look) (p q : Parts) (object : ℕ) → object < items_of g Fd
    → look (place_sector g (places.Body object)) ≡ other (place_sector g (places.Body object)) → ReadsParts g look p → ReadsParts g other q
    → part_at p.bodies object ≡ part_at q.bodies object
body_alike g look other p q object l same reads others =
    let Spells : Option Sector → Body → Type 0 = λ x b. (b.object ≡ object) × IsBody b × ((s : Sector) × (x ≡ Some s) × (s.bytes ≡ body_bytes b)) in
    decoded_same (part_at p.bodies object) (part_at q.bodies object) (SpellsBody g look object) (reads.bodies.each object l)
    (subst (λ (x : Option Sector). IsDecoded (part_at q.bodies object) (Spells x)) (sym same) (others.bodies.each object l))

pub sub_alike : (g : Geom) (look other : Look) (p q : Parts) (n : ℕ) → n < items_of g Sb
    → look (place_sector g (places.SubBlock n)) ≡ other (place_sector g (places.SubBlock n)) → ReadsParts g look p → ReadsParts g other q
    → part_at p.subs n ≡ part_at q.subs n
sub_alike g look other p q n l same reads others =
    let Spells : Option Sector → SubBlock → Type 0 = λ x b. IsSubBlock b × ((s : Sector) × (x ≡ Some s) × (s.bytes ≡ sub_bytes b)) in
    decoded_same (part_at p.subs n) (part_at q.subs n) (SpellsSub g look n) (reads.subs.each n l)
    (subst (λ (x : Option Sector). IsDecoded (part_at q.subs n) (Spells x)) (sym same) (others.subs.each n l))

pub ptr_alike : (g : Geom) (look other : Look) (p q : Parts) (n : ℕ) → n < items_of g Pb
    → look (place_sector g (places.PtrBlock n)) ≡ other (place_sector g (places.PtrBlock n)) → ReadsParts g look p → ReadsParts g other q
    → part_at p.ptrs n ≡ part_at q.ptrs n
ptr_alike g look other p q n l same reads others =
    let Spells : Option Sector → PtrBlock → Type 0 = λ x b. IsPtrBlock b × ((s : Sector) × (x ≡ Some s) × (s.bytes ≡ ptr_bytes b)) in
    decoded_same (part_at p.ptrs n) (part_at q.ptrs n) (SpellsPtr g look n) (reads.ptrs.each n l)
    (subst (λ (x : Option Sector). IsDecoded (part_at q.ptrs n) (Spells x)) (sym same) (others.ptrs.each n l))

-- where there is no sector there is no part
pub body_unread : (g : Geom) (look : Look) (p : Parts) (object : ℕ) (r : Option Body) → object < items_of g Fd
    → look (place_sector g (places.Body object)) ≡ None → ReadsParts g look p → part_at p.bodies object ≡ r → r ≡ None
body_unread g look p object None l none reads is = refl
body_unread g look p object (Some b) l none reads is =
    let spelled : SpellsBody g look object b = (reads.bodies.each object l b).0 is in
    let wrong : None ≡ Some spelled.2.0 = sym none ∙ spelled.2.1 in
    absurd cc
