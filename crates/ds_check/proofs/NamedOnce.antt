-- Where entries and names have no findings, the directory that names an object is its parent.
use Rattle.std.proofs.Common.{◌≡◌, ◌≢◌, ℕ, zero, suc, ◌+◌, ◌<◌, ◌≤◌, cond, Bool, true, false, eqb, not, ◌&&◌, List, [], ◌++◌, length, take, Option, None, Some, slice_get, slice_index_or, refl, sym, ap, ◌∙◌, inl, inr, arith}
use Rattle.std.specs.Prelude.{if◌then◌else◌, ◌==◌}
use Rattle.std.specs.List.{list_any}
use Rattle.std.proofs.lemmas.Bool.{cases_Bool, cases_eq, cases_lt, false≢true, eqb-true, ne_eqb}
use Rattle.std.proofs.lemmas.List.{get_or_past}
use Rattle.std.proofs.lemmas.List.Sums.{sum_by-append}
use Rattle.std.proofs.lemmas.Option.{slice_get_within, get_or_from_slice_get}
use Rattle.ds_base.specs.Geometry.{items_of}
use Rattle.ds_base.specs.declared.geometry.Geom.{Geom}
use Rattle.ds_base.specs.declared.geometry.Kind.TheVariants.{Fd}
use Rattle.ds_base.specs.declared.names.NodeKind.{NodeKind}
use Rattle.ds_base.specs.declared.names.NodeKind.TheVariants as kinds
use Rattle.ds_dir.specs.declared.sub_block.Entry.{Entry}
use Rattle.ds_fd.specs.declared.body.Body.{Body}
use Rattle.ds_tree.specs.WellFormed.{Names}
use Rattle.ds_image_parts.specs.Objects.{is_used, rooms_of, subs_of, tree_of}
use Rattle.ds_image_tables.specs.Parents.{parent_of}
use Rattle.ds_image_parts.specs.Parts.{Parts, part_at}
use Rattle.ds_image_tables.proofs.Parenthood.TreeParents.{AreParentsIn}
use Rattle.ds_image.proofs.Parenthood.ReachedObjects.{used-within}
use Rattle.ds_check.specs.Unreached.{named_at, times, AreNamers}
use Rattle.ds_check.specs.declared.findings.Find.TheVariants.{Dangling, Again}
use Rattle.ds_check.specs.declared.findings.Find.TheVariants as finds
use Rattle.ds_check.specs.Entries.{dangling_room, dangling_in, repeated_room, repeated_in, same_kind, is_body_of, is_dangling, has_name, is_named_in, rooms_at, dangling, repeated}
use Rattle.ds_check.specs.Names.{misnamed_at, named_in, names_of, wanted_names, misnamed, naming_stage}
use Rattle.ds_check.proofs.EntryRooms.{find-first, room-found, room-counts, given-counted}
use Rattle.ds_check.proofs.NamedRooms.{named_below, named-more}
use Rattle.ds_check.proofs.NoFinds.{both-none, not-found, row-none}
use Rattle.ds_check.proofs.TreeRooms.{name-found}

-- how often an object is named

times-more : (p : Parts) (o n : ℕ) → times o (named_below p (n + 1)) ≡ times o (named_below p n) + times o (named_at p n)
times-more p o n = ap (times o) (named-more p n) ∙ sum_by-append (λ x. cond (eqb x o) 1 0) (named_below p n) (named_at p n)

times-suc : (p : Parts) (o n : ℕ) → times o (named_below p (suc n)) ≡ times o (named_below p n) + times o (named_at p n)
times-suc p o n = ap (λ k. times o (named_below p k)) (let next : suc n ≡ n + 1 = omega arith in next) ∙ times-more p o n

below-one : (p : Parts) (o dir n : ℕ) → dir < n → times o (named_at p dir) ≤ times o (named_below p n)
below-one p o dir zero within = absurd (omega (arith, within))
below-one p o dir (suc n) within = elim (cases_eq dir n) [
  | inl same ↦ omega (arith, times-suc p o n, ap (λ d. times o (named_at p d)) same)
  | inr other ↦ omega (arith, times-suc p o n, below-one p o dir n (omega (arith, within, other)))
]

below-two : (p : Parts) (o dir dir' n : ℕ) → dir < dir' → dir' < n → times o (named_at p dir) + times o (named_at p dir') ≤ times o (named_below p n)
below-two p o dir dir' zero less within = absurd (omega (arith, within))
below-two p o dir dir' (suc n) less within = elim (cases_eq dir' n) [
  | inl same ↦ omega (arith, times-suc p o n, ap (λ d. times o (named_at p d)) same, below-one p o dir n (omega (arith, less, same)))
  | inr other ↦ omega (arith, times-suc p o n, below-two p o dir dir' n less (omega (arith, within, other)))
]

-- the object of an entry that isn't dangling

kind-used : (kind : NodeKind) (other : Option NodeKind) (b : Body) → b.kind ≡ other → same_kind kind other ≡ true → is_used (Some b) ≡ true
kind-used kinds.File None b is same = absurd (false≢true same)
kind-used kinds.Dir None b is same = absurd (false≢true same)
kind-used kind (Some other) b is same = rw is refl

both-true : (a b : Bool) → (a && b) ≡ true → a ≡ true
both-true true b is = refl
both-true false b is = absurd (false≢true is)

body-used : (e : Entry) (body : Option Body) → is_body_of e body ≡ true → is_used body ≡ true
body-used e None is = absurd (false≢true is)
body-used e (Some b) is = kind-used e.kind b.kind b refl (both-true (same_kind e.kind b.kind) (b.birth == e.key.birth) is)

not-false : (b : Bool) → not b ≡ false → b ≡ true
not-false true is = refl
not-false false is = absurd (cc)

pub gives-object : (p : Parts) (e : Entry) → is_body_of e (part_at p.bodies e.key.object) ≡ true → named_in p (Some e) ≡ Some e.key.object
gives-object p e is = rw is refl

entry-given : (p : Parts) (room : Option Entry) (o : ℕ) → named_in p room ≡ Some o → (e : Entry) × (room ≡ Some e) × (e.key.object ≡ o)
entry-given p None o gives = absurd (cc)
entry-given p (Some e) o gives = elim (cases_Bool (is_body_of e (part_at p.bodies e.key.object))) [
  | inl is ↦
      let some : Some e.key.object ≡ Some o = sym (gives-object p e is) ∙ gives in
      let object : e.key.object ≡ o = cc in
      (e, refl, object)
  | inr isnt ↦
      let nothing : named_in p (Some e) ≡ None = rw isnt refl in
      absurd (let wrong : None ≡ Some o = sym nothing ∙ gives in cc)
]

one-name : (used : Bool) (names o : ℕ) → used ≡ true → o ≢ 0 → (used && not (names == wanted_names o)) ≡ false → names ≡ 1
one-name true names o is other none =
    let same : names ≡ wanted_names o = eqb-true names (wanted_names o) (not-false (names == wanted_names o) none) in
    let wanted : wanted_names o ≡ 1 = ap (λ b. if b then 0 else 1) (ne_eqb o 0 other) in
    same ∙ wanted
one-name false names o is other none = absurd (false≢true is)

-- an object without a body has no rooms
pub room-within : (p : Parts) (dir r : ℕ) (room : Option Entry) → slice_get (rooms_at p dir) r ≡ Some room → dir < length p.bodies
room-within p dir r room at = elim (cases_lt dir (length p.bodies)) [
  | inl below ↦ below
  | inr past ↦
      let none : rooms_at p dir ≡ [] = ap (λ body. rooms_of p (subs_of body)) (get_or_past p.bodies dir None past) in
      let wrong : slice_get [] r ≡ Some room = ap (λ rooms. slice_get rooms r) (sym none) ∙ at in
      absurd (cc)
]

module _ (g : Geom) (p : Parts) (count : length p.bodies ≡ items_of g Fd) (none : naming_stage g p ≡ []) where
  pub stages : ((dangling g p ≡ []) × (repeated g p ≡ [])) × (misnamed g p ≡ [])
  stages =
      let two = both-none (dangling g p ++ repeated g p) (misnamed g p) none in
      (both-none (dangling g p) (repeated g p) two.0, two.1)

  pub not-dangling : (o r : ℕ) → o < items_of g Fd → r < length (rooms_at p o) → is_dangling p (slice_index_or (rooms_at p o) r None) ≡ false
  not-dangling o r there within =
      not-found (is_dangling p (slice_index_or (rooms_at p o) r None)) (Dangling o r)
      (row-none (length (rooms_at p o)) (dangling_room p o (rooms_at p o)) (row-none (items_of g Fd) (λ d. dangling_in p d (rooms_at p d)) stages.0.0 o there) r within)

  pub not-repeated : (o r : ℕ) → o < items_of g Fd → r < length (rooms_at p o) → is_named_in (take r (rooms_at p o)) (slice_index_or (rooms_at p o) r None) ≡ false
  not-repeated o r there within =
      not-found (is_named_in (take r (rooms_at p o)) (slice_index_or (rooms_at p o) r None)) (Again o r)
      (row-none (length (rooms_at p o)) (repeated_room o (rooms_at p o)) (row-none (items_of g Fd) (λ d. repeated_in d (rooms_at p d)) stages.0.1 o there) r within)

  named-once : (o : ℕ) → o < items_of g Fd → o ≢ 0 → is_used (part_at p.bodies o) ≡ true → names_of g p o ≡ 1
  named-once o there other used =
      one-name (is_used (part_at p.bodies o)) (names_of g p o) o used other
      (not-found (is_used (part_at p.bodies o) && not (names_of g p o == wanted_names o)) (finds.Names o (names_of g p o))
      (row-none (items_of g Fd) (misnamed_at g p) stages.1 o there))

  -- no two directories name an object
  one-namer : (o dir dir' : ℕ) → names_of g p o ≡ 1 → dir < items_of g Fd → dir' < items_of g Fd
      → 1 ≤ times o (named_at p dir) → 1 ≤ times o (named_at p dir') → dir ≡ dir'
  one-namer o dir dir' once there there' names names' = elim (cases_eq dir dir') [
    | inl same ↦ same
    | inr other ↦ elim (cases_lt dir dir') [
      | inl below ↦ absurd (omega (arith, once, names, names', below-two p o dir dir' (items_of g Fd) below there'))
      | inr above ↦ absurd (omega (arith, once, names, names', below-two p o dir' dir (items_of g Fd) (omega (arith, above, other)) there))
    ]
  ]

  -- what a room names is named in the tree
  room-names : (dir r o : ℕ) (room : Option Entry) → dir < items_of g Fd → slice_get (rooms_at p dir) r ≡ Some room → named_in p room ≡ Some o
      → (name : List ℕ) × Names (tree_of p) dir name o
  room-names dir r o room there at gives =
      let given = entry-given p room o gives in
      let e = given.0 in
      let here : slice_get (rooms_at p dir) r ≡ Some (Some e) = at ∙ ap Some given.1 in
      let new : list_any (has_name e.name) (take r (rooms_at p dir)) ≡ false =
      ap (is_named_in (take r (rooms_at p dir))) (sym (get_or_from_slice_get (rooms_at p dir) r (Some e) None here))
      ∙ not-repeated dir r there (slice_get_within (rooms_at p dir) r room at) in
      (e.name, name-found p dir e.name ∙ find-first (rooms_at p dir) r e here new ∙ ap Some given.2)

  -- what is named in the tree is named by a room, and in use
  names-room : (dir o : ℕ) (name : List ℕ) → Names (tree_of p) dir name o
      → (dir < items_of g Fd) × (1 ≤ times o (named_at p dir)) × (is_used (part_at p.bodies o) ≡ true)
  names-room dir o name names =
      let found = room-found (rooms_at p dir) name o (sym (name-found p dir name) ∙ names) in
      let r = found.0 in
      let e = found.1.0 in
      let there : dir < items_of g Fd = omega (arith, count, room-within p dir r (Some e) found.1.1) in
      let known : is_dangling p (Some e) ≡ false =
      ap (is_dangling p) (sym (get_or_from_slice_get (rooms_at p dir) r (Some e) None found.1.1))
      ∙ not-dangling dir r there (slice_get_within (rooms_at p dir) r (Some e) found.1.1) in
      let body : is_body_of e (part_at p.bodies e.key.object) ≡ true = not-false (is_body_of e (part_at p.bodies e.key.object)) known in (
        there,
        room-counts (named_in p) (rooms_at p dir) r (Some e) o found.1.1 (gives-object p e body ∙ ap Some found.1.2),
        ap (λ x. is_used (part_at p.bodies x)) (sym found.1.2) ∙ body-used e (part_at p.bodies e.key.object) body,
      )

  module _ (parents : List (Option ℕ)) (len : length parents ≡ items_of g Fd) (are : AreNamers p (items_of g Fd) parents) where
    only-parent : (dir o : ℕ) → o ≢ 0 → dir < items_of g Fd → 1 ≤ times o (named_at p dir) → is_used (part_at p.bodies o) ≡ true
        → (r : Option ℕ) → parent_of parents o ≡ r → parent_of parents o ≡ Some dir
    only-parent dir o other there named used None is =
        let below : o < items_of g Fd = omega (arith, count, used-within p o used) in
        absurd (omega (arith, named, are.none o dir (omega (arith, below, len)) there is))
    only-parent dir o other there named used (Some dir') is =
        let below : o < items_of g Fd = omega (arith, count, used-within p o used) in
        let was = are.named o dir' is in
        is ∙ ap Some (one-namer o dir' dir (named-once o below other used) was.0 there was.1 named)

    pub namers-parents : AreParentsIn (tree_of p) parents
    namers-parents = record {
      named = λ o dir other is.
          let was = are.named o dir is in
          let at = given-counted (named_in p) (rooms_at p dir) o was.1 in
          room-names dir at.0 o at.1.0 was.0 at.1.1 at.1.2;
      only = λ dir name o other names.
          let at = names-room dir o name names in
          only-parent dir o other at.0 at.1 at.2 (parent_of parents o) refl;
    }
