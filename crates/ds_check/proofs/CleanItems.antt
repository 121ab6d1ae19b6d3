-- Where items have no findings, each is listed at most once and marked exactly where it is used.
use Rattle.std.proofs.Common.{◌≡◌, ◌≢◌, ℕ, suc, ◌+◌, ◌<◌, ◌≤◌, Bool, true, false, not, ◌&&◌, cond, eqb, nat_lt, List, [], ◌∷◌, ◌++◌, length, map, slice_get, Option, None, Some, refl, sym, ap, ◌∙◌, inl, inr, arith}
use Rattle.std.specs.List.{flat_map, range_with_len}
use Rattle.std.proofs.lemmas.Bool.{cases_lt, ne_eqb, lt-ltb, ltb-true}
use Rattle.std.proofs.lemmas.List.{map-append, length-map, get_or-map, ext_get_or}
use Rattle.std.proofs.lemmas.List.Concat.{flat_map-cons}
use Rattle.std.proofs.lemmas.List.Sums.{sum_by-cons, sum_by-append}
use Rattle.ds_base.specs.Geometry.{items_of}
use Rattle.ds_base.specs.declared.geometry.Geom.{Geom}
use Rattle.ds_base.specs.declared.geometry.Kind.{Kind}
use Rattle.ds_base.specs.declared.geometry.Kind.TheVariants.{Fd, Sb, Pb, Fb}
use Rattle.ds_fd.specs.declared.body.Body.{Body}
use Rattle.ds_image_parts.specs.Looks.{Look}
use Rattle.ds_image_parts.specs.Objects.{subs_of, ptrs_of, blocks_of, is_used}
use Rattle.ds_image_tables.specs.Owns.{list_of, bit, Owns}
use Rattle.ds_image_parts.specs.Parts.{Parts, part_at, maps_of, bits_in, AllSpelled}
use Rattle.ds_image_parts.specs.Readings.{ReadsParts}
use Rattle.ds_image.specs.SoundObjects.{IsMarked}
use Rattle.ds_image_tables.specs.Users.{users, uses_by}
use Rattle.ds_image_tables.proofs.Ownership.OwningUsers as usage
use Rattle.ds_image.proofs.Ownership.Listed.{bits_length}
use Rattle.ds_image_tables.proofs.Ownership.OwningUsers.{owns-from_users, AreUsedOnce}
use Rattle.ds_image_tables.proofs.Spelling.Places.{marked-within}
use Rattle.ds_image.proofs.Spelling.SoundParts.{list-is}
use Rattle.ds_check.specs.declared.findings.Find.{Find}
use Rattle.ds_check.specs.declared.findings.Find.TheVariants.{Marked, Unmarked}
use Rattle.ds_check.specs.Unreached.{times}
use Rattle.ds_check.specs.Uses.{items_by, uses_of}
use Rattle.ds_check.specs.Sharing.{twice, shared_items, sharing_stage}
use Rattle.ds_check.specs.Marking.{is_in_use, is_marked, mismarked, marking_stage}
use Rattle.ds_check.specs.Rows.{find_if, row}
use Rattle.ds_check.proofs.NoBad.{each_kind}
use Rattle.ds_check.proofs.NoFinds.{both-none, not-found, row-none}

-- Users counted

abbrev one : Bool → ℕ
one b = cond b 1 0

times-cons : (x y : ℕ) (ys : List ℕ) → times x (y ∷ ys) ≡ one (eqb y x) + times x ys
times-cons x y ys = sum_by-cons (λ z. one (eqb z x)) y ys

pub times-append : (x : ℕ) (xs ys : List ℕ) → times x (xs ++ ys) ≡ times x xs + times x ys
times-append x xs ys = sum_by-append (λ z. one (eqb z x)) xs ys

users-first : (x : ℕ) (u : ℕ × ℕ) (l : List (ℕ × ℕ)) (b : Bool) → eqb u.0 x ≡ b → length (users l x) ≡ times x (map (λ (v : ℕ × ℕ). v.0) l)
    → length (users (u ∷ l) x) ≡ times x (map (λ (v : ℕ × ℕ). v.0) (u ∷ l))
users-first x u l true is rest =
    let count : length (users (u ∷ l) x) ≡ suc (length (users l x)) = rw is refl in
    omega (arith, count, rest, times-cons x u.0 (map (λ (v : ℕ × ℕ). v.0) l), ap one is)
users-first x u l false is rest =
    let count : length (users (u ∷ l) x) ≡ length (users l x) = rw is refl in
    omega (arith, count, rest, times-cons x u.0 (map (λ (v : ℕ × ℕ). v.0) l), ap one is)

users-times : (x : ℕ) (l : List (ℕ × ℕ)) → length (users l x) ≡ times x (map (λ (v : ℕ × ℕ). v.0) l)
users-times x [] = refl
users-times x (u ∷ l) = users-first x u l (eqb u.0 x) refl (users-times x l)

items-kept : (o : ℕ) (items : List ℕ) → map (λ (v : ℕ × ℕ). v.0) (uses_by o items) ≡ items
items-kept o [] = refl
items-kept o (item ∷ items) = ap (λ l. item ∷ l) (items-kept o items)

uses-kept : (f : ℕ → List ℕ) (os : List ℕ) → map (λ (v : ℕ × ℕ). v.0) (flat_map (λ o. uses_by o (f o)) os) ≡ flat_map f os
uses-kept f [] = refl
uses-kept f (o ∷ os) =
    ap (map (λ (v : ℕ × ℕ). v.0)) (flat_map-cons (λ o. uses_by o (f o)) o os)
    ∙ map-append (λ (v : ℕ × ℕ). v.0) (uses_by o (f o)) (flat_map (λ o. uses_by o (f o)) os)
    ∙ ap (λ l. l ++ map (λ (v : ℕ × ℕ). v.0) (flat_map (λ o. uses_by o (f o)) os)) (items-kept o (f o))
    ∙ ap (λ l. f o ++ l) (uses-kept f os)
    ∙ sym (flat_map-cons f o os)

-- an item has as many users as it is listed
pub users-listed : (f : ℕ → List ℕ) (os : List ℕ) (x : ℕ) → length (users (flat_map (λ o. uses_by o (f o)) os) x) ≡ times x (flat_map f os)
users-listed f os x = users-times x (flat_map (λ o. uses_by o (f o)) os) ∙ ap (times x) (uses-kept f os)

-- a number that isn't listed isn't counted
times-absent : (x : ℕ) (ys : List ℕ) → ((i : ℕ) → slice_get ys i ≡ Some x → ⊥) → times x ys ≡ 0
times-absent x [] absent = refl
times-absent x (y ∷ ys) absent =
    let other : y ≢ x = λ same. absent 0 (ap Some same) in
    omega (arith, times-cons x y ys, ap one (ne_eqb y x other), times-absent x ys (λ i at. absent (suc i) at))

pub listed-absent : (f : ℕ → List ℕ) (os : List ℕ) (x : ℕ) → ((o i : ℕ) → slice_get (f o) i ≡ Some x → ⊥) → times x (flat_map f os) ≡ 0
listed-absent f [] x absent = refl
listed-absent f (o ∷ os) x absent =
    ap (times x) (flat_map-cons f o os) ∙ times-append x (f o) (flat_map f os)
    ∙ omega (arith, times-absent x (f o) (absent o), listed-absent f os x absent)

-- the uses of what descriptors list, by their numbers
pub uses-same : (f : Option Body → List ℕ) (bodies : List (Option Body)) (n : ℕ) → f None ≡ [] → length bodies ≡ n
    → usage.uses_of (map f bodies) ≡ flat_map (λ o. uses_by o (f (part_at bodies o))) (range_with_len 0 n)
uses-same f bodies n nothing len =
    let by_list : ℕ → List (ℕ × ℕ) = λ o. uses_by o (list_of (map f bodies) o) in
    let by_body : ℕ → List (ℕ × ℕ) = λ o. uses_by o (f (part_at bodies o)) in
    let same : by_list ≡ by_body = λ i o. uses_by o (list-is f bodies nothing o i) in
    ap (λ each. flat_map each (range_with_len 0 (length (map f bodies)))) same ∙ ap (λ k. flat_map by_body (range_with_len 0 k)) (length-map bodies f ∙ len)

-- Items used once

once-from : (lists : List (List ℕ)) (bits : List Bool) (m : ℕ) → ((x : ℕ) → x < m → length (users (usage.uses_of lists) x) ≤ 1)
    → ((x : ℕ) → m ≤ x → length (users (usage.uses_of lists) x) ≡ 0) → length bits ≡ m
    → ((x : ℕ) → x < m → bit bits x ≡ nat_lt 0 (length (users (usage.uses_of lists) x))) → AreUsedOnce lists bits
once-from lists bits m few none len same = record {
  few = λ x. elim (cases_lt x m) [ inl below ↦ few x below | inr past ↦ omega (arith, none x past) ];
  used = λ x. (
    λ marked.
        let below : x < m = omega (arith, marked-within bits x marked, len) in
        ltb-true 0 (length (users (usage.uses_of lists) x)) (sym (same x below) ∙ marked),
    λ some. elim (cases_lt x m) [
      | inl below ↦ same x below ∙ lt-ltb 0 (length (users (usage.uses_of lists) x)) some
      | inr past ↦ absurd (omega (arith, some, none x past))
    ],
  );
}

few-users : (kind : Kind) (n : ℕ) (us : List ℕ) → twice kind n us ≡ [] → length us ≤ 1
few-users kind n [] none = omega arith
few-users kind n (a ∷ []) none = omega arith
few-users kind n (a ∷ b ∷ us) none = absurd (cc)

bits-same : (a b : Bool) → (a && not b) ≡ false → (b && not a) ≡ false → a ≡ b
bits-same true true p q = refl
bits-same true false p q = absurd (cc)
bits-same false true p q = absurd (cc)
bits-same false false p q = refl

module _ (g : Geom) (look : Look) (p : Parts) (reads : ReadsParts g look p) (maps : (kind : Kind) → AllSpelled (maps_of p kind))
    (sharing : sharing_stage g p ≡ []) (marking : marking_stage g p ≡ []) where
  marks-of : (kind : Kind) (n : ℕ) → n < items_of g kind → is_marked p kind n ≡ is_in_use g p kind n
  marks-of kind n within =
      let marked : ℕ → List Find = λ n. find_if (is_marked p kind n && not (is_in_use g p kind n)) (Marked kind n) in
      let unmarked : ℕ → List Find = λ n. find_if (is_in_use g p kind n && not (is_marked p kind n)) (Unmarked kind n) in
      let rows = both-none (row (items_of g kind) marked) (row (items_of g kind) unmarked) (each_kind (mismarked g p) kind marking) in
      bits-same (is_marked p kind n) (is_in_use g p kind n)
      (not-found (is_marked p kind n && not (is_in_use g p kind n)) (Marked kind n) (row-none (items_of g kind) marked rows.0 n within))
      (not-found (is_in_use g p kind n && not (is_marked p kind n)) (Unmarked kind n) (row-none (items_of g kind) unmarked rows.1 n within))

  few-of : (kind : Kind) (n : ℕ) → n < items_of g kind → length (users (uses_of g p kind) n) ≤ 1
  few-of kind n within =
      few-users kind n (users (uses_of g p kind) n)
      (row-none (items_of g kind) (λ n. twice kind n (users (uses_of g p kind) n)) (each_kind (shared_items g p) kind sharing) n within)

  owners : (kind : Kind) → items_by p kind None ≡ [] → ((n : ℕ) → is_in_use g p kind n ≡ nat_lt 0 (length (users (uses_of g p kind) n)))
      → ((o i n : ℕ) → slice_get (items_by p kind (part_at p.bodies o)) i ≡ Some n → n < items_of g kind)
      → Owns (map (items_by p kind) p.bodies) (bits_in (maps_of p kind))
  owners kind nothing in_use inside =
      let lists = map (items_by p kind) p.bodies in
      let listed : ℕ → List ℕ = λ o. items_by p kind (part_at p.bodies o) in
      let uses : usage.uses_of lists ≡ uses_of g p kind = uses-same (items_by p kind) p.bodies (items_of g Fd) nothing reads.bodies.len in
      let count : (x : ℕ) → length (users (usage.uses_of lists) x) ≡ length (users (uses_of g p kind) x) = λ x. ap (λ us. length (users us x)) uses in
      owns-from_users lists (bits_in (maps_of p kind))
      (once-from lists (bits_in (maps_of p kind)) (items_of g kind)
      (λ x below. omega (arith, count x, few-of kind x below))
      (λ x past. count x ∙ users-listed listed (range_with_len 0 (items_of g Fd)) x ∙ listed-absent listed (range_with_len 0 (items_of g Fd)) x
      (λ o i at. omega (arith, inside o i x at, past)))
      (bits_length g look kind (maps_of p kind) (reads.maps kind) (maps kind))
      (λ x below. marks-of kind x below ∙ in_use x ∙ ap (nat_lt 0) (sym (count x))))

  used-bits : bits_in p.fd_maps ≡ map is_used p.bodies
  used-bits =
      let size : length (bits_in p.fd_maps) ≡ items_of g Fd = bits_length g look Fd p.fd_maps (reads.maps Fd) (maps Fd) in
      ext_get_or false (bits_in p.fd_maps) (map is_used p.bodies) (size ∙ sym reads.bodies.len ∙ sym (length-map p.bodies is_used))
      (λ n l.
      let below : n < items_of g Fd = omega (arith, l, size) in
      marks-of Fd n below ∙ sym (get_or-map is_used p.bodies n None false (omega (arith, below, reads.bodies.len))))

  pub items-marked : ((o i n : ℕ) → slice_get (subs_of (part_at p.bodies o)) i ≡ Some n → n < items_of g Sb)
      → ((o i n : ℕ) → slice_get (ptrs_of (part_at p.bodies o)) i ≡ Some n → n < items_of g Pb)
      → ((o i n : ℕ) → slice_get (blocks_of p (part_at p.bodies o)) i ≡ Some n → n < items_of g Fb) → IsMarked p
  items-marked subs ptrs blocks = record {
    used = used-bits;
    sub_owners = owners Sb refl (λ n. refl) subs;
    ptr_owners = owners Pb refl (λ n. refl) ptrs;
    block_owners = owners Fb refl (λ n. refl) blocks;
  }
