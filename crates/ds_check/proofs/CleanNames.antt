-- Where entries and names have no findings, names are apart, entries say the life and the kind of their objects, and each used
-- object but the root is named once.
use Rattle.std.proofs.Common.{◌≡◌, ◌≢◌, ℕ, zero, suc, ◌+◌, ◌<◌, ◌≤◌, Bool, true, false, not, ◌&&◌, ◌||◌, List, [], ◌∷◌, ◌++◌, length, map, take, get_or, set, slice_get, slice_index_or, Option, None, Some, refl, sym, ap, ◌∙◌, subst, inl, inr, arith}
use Rattle.std.specs.Prelude.{◌==◌, if◌then◌else◌, bytes_eq}
use Rattle.std.specs.Cmp.Lexicographic.{nat_list_eq_equiv}
use Rattle.std.specs.List.{flat_map, filter_map, list_any, range_with_len, IsDistinct}
use Rattle.std.proofs.lemmas.Bool.{false≢true, cases_Bool, cases_eq, eq-eqb, ne_eqb, eqb-true}
use Rattle.std.proofs.lemmas.List.{map-append, append-nil, take_all, take_more}
use Rattle.std.proofs.lemmas.List.Elements.{filter_map-append}
use Rattle.std.proofs.lemmas.Map.Keys.{IsDistinct-push}
use Rattle.std.proofs.lemmas.Option.{slice_get_within, get_or_from_slice_get, slice_get-get_or}
use Rattle.ds_base.specs.Geometry.{items_of}
use Rattle.ds_base.specs.declared.geometry.Geom.{Geom}
use Rattle.ds_base.specs.declared.geometry.Kind.TheVariants.{Fd}
use Rattle.ds_base.specs.declared.names.NodeKind.{NodeKind}
use Rattle.ds_base.specs.declared.names.NodeKind.TheVariants as kinds
use Rattle.ds_dir.specs.declared.sub_block.Entry.{Entry}
use Rattle.ds_fd.specs.declared.body.Body.{Body}
use Rattle.ds_image_parts.specs.Listings.{named_by, lists_by}
use Rattle.ds_image_parts.specs.declared.listings.Listed.TheVariants as listed
use Rattle.ds_image_parts.specs.Objects.{is_used}
use Rattle.ds_image_tables.specs.Owns.{Owns, bit}
use Rattle.ds_image_parts.specs.Parts.{Parts, part_at}
use Rattle.ds_image.specs.Rooted.{named_bits}
use Rattle.ds_image.specs.Sound.{IsNamedRight, rooms_used_by}
use Rattle.ds_image.specs.SoundObjects.{AreNamesApart}
use Rattle.ds_image_tables.specs.Users.{users}
use Rattle.ds_image_tables.proofs.Ownership.OwningUsers as usage
use Rattle.ds_image.proofs.FileTrees.NamesApart.{apart-none}
use Rattle.ds_image_tables.proofs.Ownership.OwningUsers.{owns-from_users, AreUsedOnce}
use Rattle.ds_image.proofs.FileTrees.RootedTrees.{named_bit}
use Rattle.ds_image.proofs.Parenthood.ReachedObjects.{used-within}
use Rattle.ds_check.specs.declared.findings.Find.TheVariants as finds
use Rattle.ds_check.specs.Unreached.{times}
use Rattle.ds_check.specs.Names.{misnamed_at, named_in, all_named, names_of, wanted_names, naming_stage}
use Rattle.ds_check.specs.Entries.{same_kind, is_body_of, is_dangling, has_name, is_named_in, rooms_at}
use Rattle.ds_check.proofs.CleanItems.{users-listed, uses-same, listed-absent}
use Rattle.ds_check.proofs.CleanMetadata.{not-false, both-true}
use Rattle.ds_check.proofs.EntryRooms.{kept-some}
use Rattle.ds_check.proofs.NamedOnce.{stages, not-dangling, not-repeated, room-within, gives-object}
use Rattle.ds_check.proofs.NoFinds.{not-found, row-none}

-- the entries in rooms that are in use
abbrev kept : List (Option Entry) → List Entry
kept rooms = filter_map (λ room. room) rooms

abbrev names : List Entry → List (List ℕ)
names entries = map (λ (e : Entry). e.name) entries

kept-at : (rooms : List (Option Entry)) (i : ℕ) (e : Entry) → slice_get (kept rooms) i ≡ Some e → (r : ℕ) × (slice_get rooms r ≡ Some (Some e))
kept-at [] i e at = absurd (cc)
kept-at (None ∷ rooms) i e at = let rest = kept-at rooms i e at in (suc rest.0, rest.1)
kept-at (Some a ∷ rooms) zero e at = (0, ap Some at)
kept-at (Some a ∷ rooms) (suc i) e at = let rest = kept-at rooms i e at in (suc rest.0, rest.1)

objects-at : (entries : List Entry) (i x : ℕ) → slice_get (map (λ (e : Entry). e.key.object) entries) i ≡ Some x
    → (e : Entry) × (slice_get entries i ≡ Some e) × (e.key.object ≡ x)
objects-at [] i x at = absurd (cc)
objects-at (e ∷ entries) zero x at = let same : e.key.object ≡ x = cc in (e, refl, same)
objects-at (e ∷ entries) (suc i) x at = objects-at entries i x at

-- Names apart

name-any : (name : List ℕ) (rooms : List (Option Entry)) → list_any (has_name name) rooms ≡ list_any (bytes_eq name) (names (kept rooms))
name-any name [] = refl
name-any name (None ∷ rooms) = name-any name rooms
name-any name (Some e ∷ rooms) =
    ap (λ b. b || list_any (has_name name) rooms) (nat_list_eq_equiv.symm e.name name) ∙ ap (λ b. bytes_eq name e.name || b) (name-any name rooms)

apart-room : (before : List (Option Entry)) (room : Option Entry) → AreNamesApart (kept before) → is_named_in before room ≡ false
    → AreNamesApart (kept (before ++ room ∷ []))
apart-room before None apart new =
    let same : kept (before ++ None ∷ []) ≡ kept before = filter_map-append (λ room. room) before (None ∷ []) ∙ append-nil (kept before) in
    subst AreNamesApart (sym same) apart
apart-room before (Some e) apart new =
    let more : kept (before ++ Some e ∷ []) ≡ kept before ++ e ∷ [] = filter_map-append (λ room. room) before (Some e ∷ []) in
    let named : names (kept (before ++ Some e ∷ [])) ≡ names (kept before) ++ e.name ∷ [] = ap names more ∙ map-append (λ (x : Entry). x.name) (kept before) (e ∷ []) in
    subst (IsDistinct bytes_eq) (sym named) (IsDistinct-push nat_list_eq_equiv (names (kept before)) e.name apart (sym (name-any e.name before) ∙ new))

apart-to : (rooms : List (Option Entry)) → ((r : ℕ) → r < length rooms → is_named_in (take r rooms) (slice_index_or rooms r None) ≡ false)
    → (n : ℕ) → n ≤ length rooms → AreNamesApart (kept (take n rooms))
apart-to rooms new zero within = apart-none
apart-to rooms new (suc n) within =
    let below : n < length rooms = omega (arith, within) in
    let next : suc n ≡ n + 1 = omega arith in
    let more : take (suc n) rooms ≡ take n rooms ++ get_or rooms n None ∷ [] = ap (λ k. take k rooms) next ∙ take_more rooms n None below in
    subst (λ rs. AreNamesApart (kept rs)) (sym more) (apart-room (take n rooms) (get_or rooms n None) (apart-to rooms new n (omega (arith, within))) (new n below))

apart-all : (rooms : List (Option Entry)) → ((r : ℕ) → r < length rooms → is_named_in (take r rooms) (slice_index_or rooms r None) ≡ false) → AreNamesApart (kept rooms)
apart-all rooms new =
    subst (λ rs. AreNamesApart (kept rs)) (take_all (length rooms) rooms (omega arith)) (apart-to rooms new (length rooms) (omega arith))

-- Entries that are right

kind-same : (kind : NodeKind) (other : Option NodeKind) → same_kind kind other ≡ true → other ≡ Some kind
kind-same kinds.File None is = absurd (false≢true is)
kind-same kinds.Dir None is = absurd (false≢true is)
kind-same kinds.File (Some kinds.File) is = refl
kind-same kinds.File (Some kinds.Dir) is = absurd (false≢true is)
kind-same kinds.Dir (Some kinds.File) is = absurd (false≢true is)
kind-same kinds.Dir (Some kinds.Dir) is = refl

right-from : (p : Parts) (e : Entry) (r : Option Body) → part_at p.bodies e.key.object ≡ r → is_body_of e r ≡ true → IsNamedRight p e
right-from p e None there is = absurd (false≢true is)
right-from p e (Some b) there is =
    let both = both-true (same_kind e.kind b.kind) (b.birth == e.key.birth) is in
    record { body = b; there = there; birth = eqb-true b.birth e.key.birth both.1; kind = kind-same e.kind b.kind both.0 }

right-used : (p : Parts) (e : Entry) → IsNamedRight p e → is_used (part_at p.bodies e.key.object) ≡ true
right-used p e right =
    let used : is_used (Some right.body) ≡ true = rw right.kind refl in
    ap is_used right.there ∙ used

-- what rooms name, where each names the object of its entry
named-kept : (p : Parts) (rooms : List (Option Entry))
    → ((r : ℕ) (e : Entry) → slice_get rooms r ≡ Some (Some e) → is_body_of e (part_at p.bodies e.key.object) ≡ true)
    → filter_map (named_in p) rooms ≡ map (λ (e : Entry). e.key.object) (kept rooms)
named-kept p [] right = refl
named-kept p (None ∷ rooms) right = named-kept p rooms (λ r e at. right (suc r) e at)
named-kept p (Some a ∷ rooms) right =
    kept-some (named_in p) (Some a) rooms a.key.object (gives-object p a (right 0 a refl))
    ∙ ap (λ l. a.key.object ∷ l) (named-kept p rooms (λ r e at. right (suc r) e at))

root_bit : (bits : List Bool) → bit (set bits 0 false) 0 ≡ false
root_bit [] = refl
root_bit (b ∷ bits) = refl

module _ (g : Geom) (p : Parts) (count : length p.bodies ≡ items_of g Fd) (none : naming_stage g p ≡ []) where
  body-known : (o r : ℕ) (e : Entry) → slice_get (rooms_at p o) r ≡ Some (Some e) → is_body_of e (part_at p.bodies e.key.object) ≡ true
  body-known o r e at =
      let there : o < items_of g Fd = omega (arith, count, room-within p o r (Some e) at) in
      let known : is_dangling p (Some e) ≡ false =
      ap (is_dangling p) (sym (get_or_from_slice_get (rooms_at p o) r (Some e) None at))
      ∙ not-dangling g p count none o r there (slice_get_within (rooms_at p o) r (Some e) at) in
      not-false (is_body_of e (part_at p.bodies e.key.object)) known

  pub entries-right : (o i : ℕ) (e : Entry) → slice_get (rooms_used_by p o) i ≡ Some e → IsNamedRight p e
  entries-right o i e at =
      let room = kept-at (rooms_at p o) i e at in
      right-from p e (part_at p.bodies e.key.object) refl (body-known o room.0 e room.1)

  pub names-apart : (o : ℕ) → AreNamesApart (rooms_used_by p o)
  names-apart o = apart-all (rooms_at p o) (λ r within.
      not-repeated g p count none o r (omega (arith, count, room-within p o r (get_or (rooms_at p o) r None) (slice_get-get_or (rooms_at p o) r None within))) within)

  -- Objects named once

  lists-named : flat_map (λ o. named_by p (part_at p.bodies o)) (range_with_len 0 (items_of g Fd)) ≡ all_named g p
  lists-named =
      let by_rooms : ℕ → List ℕ = λ o. filter_map (named_in p) (rooms_at p o) in
      let by_body : ℕ → List ℕ = λ o. named_by p (part_at p.bodies o) in
      let same : by_body ≡ by_rooms = λ i o. sym (named-kept p (rooms_at p o) (body-known o)) i in
      ap (λ each. flat_map each (range_with_len 0 (items_of g Fd))) same

  users-named : (x : ℕ) → length (users (usage.uses_of (lists_by p listed.Names)) x) ≡ names_of g p x
  users-named x =
      ap (λ us. length (users us x)) (uses-same (named_by p) p.bodies (items_of g Fd) refl count)
      ∙ users-listed (λ o. named_by p (part_at p.bodies o)) (range_with_len 0 (items_of g Fd)) x
      ∙ ap (times x) lists-named

  names-wanted : (x : ℕ) → is_used (part_at p.bodies x) ≡ true → names_of g p x ≡ wanted_names x
  names-wanted x used =
      let below : x < items_of g Fd = omega (arith, count, used-within p x used) in
      let known : (is_used (part_at p.bodies x) && not (names_of g p x == wanted_names x)) ≡ false =
      not-found (is_used (part_at p.bodies x) && not (names_of g p x == wanted_names x)) (finds.Names x (names_of g p x))
      (row-none (items_of g Fd) (misnamed_at g p) (stages g p count none).1 x below) in
      let right : not (names_of g p x == wanted_names x) ≡ false = ap (λ b. b && not (names_of g p x == wanted_names x)) (sym used) ∙ known in
      eqb-true (names_of g p x) (wanted_names x) (not-false (names_of g p x == wanted_names x) right)

  names-none : (x : ℕ) → is_used (part_at p.bodies x) ≡ false → names_of g p x ≡ 0
  names-none x unused =
      ap (times x) (sym lists-named)
      ∙ listed-absent (λ o. named_by p (part_at p.bodies o)) (range_with_len 0 (items_of g Fd)) x
      (λ o i at.
      let entry = objects-at (rooms_used_by p o) i x at in
      let used = right-used p entry.0 (entries-right o i entry.0 entry.1) in
      false≢true (sym unused ∙ ap (λ y. is_used (part_at p.bodies y)) (sym entry.2) ∙ used))

  wanted-root : (x : ℕ) → x ≡ 0 → wanted_names x ≡ 0
  wanted-root x same = ap (λ b. if b then 0 else 1) (eq-eqb x 0 same)

  wanted-other : (x : ℕ) → x ≢ 0 → wanted_names x ≡ 1
  wanted-other x other = ap (λ b. if b then 0 else 1) (ne_eqb x 0 other)

  few-names : (x : ℕ) → names_of g p x ≤ 1
  few-names x = elim (cases_Bool (is_used (part_at p.bodies x))) [
    | inl used ↦ elim (cases_eq x 0) [
      | inl same ↦ omega (arith, names-wanted x used, wanted-root x same)
      | inr other ↦ omega (arith, names-wanted x used, wanted-other x other)
    ]
    | inr unused ↦ omega (arith, names-none x unused)
  ]

  bit-named : (x : ℕ) → bit (named_bits p) x ≡ true → 1 ≤ names_of g p x
  bit-named x marked = elim (cases_eq x 0) [
    | inl same ↦ absurd (false≢true (sym (ap (bit (named_bits p)) same ∙ root_bit (map is_used p.bodies)) ∙ marked))
    | inr other ↦ omega (arith, names-wanted x (sym (named_bit p x other) ∙ marked), wanted-other x other)
  ]

  named-bit : (x : ℕ) → 1 ≤ names_of g p x → bit (named_bits p) x ≡ true
  named-bit x some = elim (cases_Bool (is_used (part_at p.bodies x))) [
    | inl used ↦ elim (cases_eq x 0) [
      | inl same ↦ absurd (omega (arith, some, names-wanted x used, wanted-root x same))
      | inr other ↦ named_bit p x other ∙ used
    ]
    | inr unused ↦ absurd (omega (arith, some, names-none x unused))
  ]

  pub names-owned : Owns (lists_by p listed.Names) (named_bits p)
  names-owned = owns-from_users (lists_by p listed.Names) (named_bits p) (record {
    few = λ x. omega (arith, users-named x, few-names x);
    used = λ x. (λ marked. omega (arith, users-named x, bit-named x marked), λ some. named-bit x (omega (arith, users-named x, some)));
  })
