-- A bit of a cluster's bitmap is a bit of its kind, by the number of the item.
use Rattle.std.proofs.Common.{◌≡◌, ℕ, zero, suc, ◌+◌, ◌-◌, ◌*◌, ◌<◌, ◌≤◌, cond, Bool, true, false, List, [], ◌∷◌, ◌++◌, length, get_or, slice_get, slice_set, Option, Some, None, IsSome, is_some, refl, sym, ap, subst, ◌∙◌, length-set, arith, inl, inr}
use Rattle.std.specs.Prelude.{count_by, not}
use Rattle.std.specs.List.{flat_map, sum_by}
use Rattle.std.proofs.lemmas.Bool.{cases_eq}
use Rattle.std.proofs.lemmas.List.{set-append_left, set-append_right, get_or-set_same, get_or-set_other, get_or_append_left, get_or-append_right}
use Rattle.std.proofs.lemmas.List.Sums.{sum_by-cons, sum_by-append}
use Rattle.std.proofs.lemmas.Option.{slice_get_within, slice_get-get_or, get_or_from_slice_get}
use Rattle.ds_base.specs.Geometry.{clusters_of, per_cluster}
use Rattle.ds_base.specs.declared.geometry.Geom.{Geom}
use Rattle.ds_base.specs.declared.geometry.Kind.{Kind}
use Rattle.ds_bitmap.specs.Bits.{Bitmap}
use Rattle.ds_image_parts.specs.Looks.{Look}
use Rattle.ds_image_parts.specs.Parts.{part_at, AllSpelled, used_bits, bits_in}
use Rattle.ds_image_parts.specs.Readings.{SpellsBits, IsReading}
use Rattle.ds_image.proofs.Ownership.Listed.{bits_length}
use Rattle.ds_image_tables.proofs.Ownership.OwnedCounts.{marked_count}
use Rattle.ds_image.proofs.Spelling.Sizes.{part_within}

-- Rows of one width, one after another

-- an item of one row is one of all
pub flat-set : {X A : Type 0} (f : X → List A) (width : ℕ) (xs : List X) (c it : ℕ) (y d : X) (v : A)
    → ((i : ℕ) (x : X) → slice_get xs i ≡ Some x → length (f x) ≡ width) → c < length xs → it < width
    → f y ≡ slice_set (f (get_or xs c d)) it v → flat_map f (slice_set xs c y) ≡ slice_set (flat_map f xs) (c * width + it) v
flat-set f width [] c it y d v wide within small same = absurd (omega (arith, within))
flat-set f width (x ∷ xs) zero it y d v wide within small same =
    let here : length (f x) ≡ width = wide 0 x refl in
    let at : 0 * width + it ≡ it = omega arith in
    ap (λ row. row ++ flat_map f xs) same ∙ sym (set-append_left (f x) (flat_map f xs) it v (omega (arith, here)))
    ∙ ap (λ k. slice_set (f x ++ flat_map f xs) k v) (sym at)
flat-set f width (x ∷ xs) (suc c) it y d v wide within small same =
    let here : length (f x) ≡ width = wide 0 x refl in
    let rest = flat-set f width xs c it y d v (λ i z at. wide (suc i) z at) (omega (arith, within)) small same in
    let past : width ≤ suc c * width + it = grind arith in
    let less : suc c * width + it - width ≡ c * width + it = grind arith in
    ap (λ row. f x ++ row) rest ∙ ap (λ k. f x ++ slice_set (flat_map f xs) k v) (sym less)
    ∙ sym (set-append_right (f x) (flat_map f xs) width (suc c * width + it) v here past)

pub flat-get : {X A : Type 0} (f : X → List A) (width : ℕ) (xs : List X) (c it : ℕ) (d : X) (e : A)
    → ((i : ℕ) (x : X) → slice_get xs i ≡ Some x → length (f x) ≡ width) → c < length xs → it < width
    → get_or (flat_map f xs) (c * width + it) e ≡ get_or (f (get_or xs c d)) it e
flat-get f width [] c it d e wide within small = absurd (omega (arith, within))
flat-get f width (x ∷ xs) zero it d e wide within small =
    let here : length (f x) ≡ width = wide 0 x refl in
    let at : 0 * width + it ≡ it = omega arith in
    ap (λ k. get_or (f x ++ flat_map f xs) k e) at ∙ get_or_append_left (f x) (flat_map f xs) e it (omega (arith, here))
flat-get f width (x ∷ xs) (suc c) it d e wide within small =
    let here : length (f x) ≡ width = wide 0 x refl in
    let past : width ≤ suc c * width + it = grind arith in
    let less : suc c * width + it - width ≡ c * width + it = grind arith in
    get_or-append_right (f x) (flat_map f xs) width (suc c * width + it) e here past
    ∙ ap (λ k. get_or (flat_map f xs) k e) less
    ∙ flat-get f width xs c it d e (λ i z at. wide (suc i) z at) (omega (arith, within)) small

-- Bitmaps of a kind

map-length : (g : Geom) (look : Look) (kind : Kind) (maps : List (Option Bitmap)) (i : ℕ) (r : Option Bitmap)
    → IsReading (clusters_of g kind) (SpellsBits g look kind) maps → i < length maps → part_at maps i ≡ r → IsSome r → length (used_bits r) ≡ per_cluster g kind
map-length g look kind maps i None reads within is some = absurd (cc)
map-length g look kind maps i (Some b) reads within is some = ((reads.each i (omega (arith, within, reads.len)) b).0 is).0.count

-- each bitmap has the bits of one cluster
pub maps-wide : (g : Geom) (look : Look) (kind : Kind) (maps : List (Option Bitmap)) → IsReading (clusters_of g kind) (SpellsBits g look kind) maps → AllSpelled maps
    → (i : ℕ) (r : Option Bitmap) → slice_get maps i ≡ Some r → length (used_bits r) ≡ per_cluster g kind
maps-wide g look kind maps reads all i r at =
    let within = slice_get_within maps i r at in
    let is : part_at maps i ≡ r = get_or_from_slice_get maps i r None at in
    map-length g look kind maps i r reads within is (subst (λ (o : Option Bitmap). IsSome o) is (all i within))

-- a bit of a cluster changes, and so does that bit of the kind
pub bits-set : (g : Geom) (look : Look) (kind : Kind) (maps : List (Option Bitmap)) (c it : ℕ) (old new : Bitmap) (v : Bool)
    → IsReading (clusters_of g kind) (SpellsBits g look kind) maps → AllSpelled maps → part_at maps c ≡ Some old → it < per_cluster g kind
    → new.used ≡ slice_set old.used it v → bits_in (slice_set maps c (Some new)) ≡ slice_set (bits_in maps) (c * per_cluster g kind + it) v
bits-set g look kind maps c it old new v reads all there small changed =
    flat-set used_bits (per_cluster g kind) maps c it (Some new) None v (maps-wide g look kind maps reads all) (part_within maps c old there) small
    (changed ∙ ap (λ r. slice_set (used_bits r) it v) (sym there))

pub bits-get : (g : Geom) (look : Look) (kind : Kind) (maps : List (Option Bitmap)) (c it : ℕ) (old : Bitmap) (e : Bool)
    → IsReading (clusters_of g kind) (SpellsBits g look kind) maps → AllSpelled maps → part_at maps c ≡ Some old → it < per_cluster g kind
    → get_or (bits_in maps) (c * per_cluster g kind + it) e ≡ get_or old.used it e
bits-get g look kind maps c it old e reads all there small =
    flat-get used_bits (per_cluster g kind) maps c it None e (maps-wide g look kind maps reads all) (part_within maps c old there) small
    ∙ ap (λ r. get_or (used_bits r) it e) there

-- a bit that a cluster's bitmap has is that of an item of the cluster
pub bit-within : (g : Geom) (look : Look) (kind : Kind) (maps : List (Option Bitmap)) (c it : ℕ) (b : Bitmap) (v : Bool)
    → IsReading (clusters_of g kind) (SpellsBits g look kind) maps → part_at maps c ≡ Some b → slice_get b.used it ≡ Some v → it < per_cluster g kind
bit-within g look kind maps c it b v reads there at =
    let bits = ((reads.each c (omega (arith, part_within maps c b there, reads.len)) b).0 there).0 in
    omega (arith, slice_get_within b.used it v at, bits.count)

-- a bit of a cluster as one of the kind
pub bits-at : (g : Geom) (look : Look) (kind : Kind) (maps : List (Option Bitmap)) (c it : ℕ) (b : Bitmap) (v : Bool)
    → IsReading (clusters_of g kind) (SpellsBits g look kind) maps → AllSpelled maps → part_at maps c ≡ Some b → slice_get b.used it ≡ Some v
    → slice_get (bits_in maps) (c * per_cluster g kind + it) ≡ Some v
bits-at g look kind maps c it b v reads all there at =
    let k : ℕ = c * per_cluster g kind + it in
    let small = bit-within g look kind maps c it b v reads there at in
    let bits = ((reads.each c (omega (arith, part_within maps c b there, reads.len)) b).0 there).0 in
    let clusters : c + 1 ≤ clusters_of g kind = omega (arith, part_within maps c b there, reads.len) in
    let within : k < length (bits_in maps) = grind (arith, bits_length g look kind maps reads all, clusters, small) in
    slice_get-get_or (bits_in maps) k (not v) within
    ∙ ap Some (bits-get g look kind maps c it b (not v) reads all there small ∙ get_or_from_slice_get b.used it v (not v) at)

-- where all parts are spelled, and another one is put in the place of one, all are
pub all-put : {V : Type 0} (xs : List (Option V)) (at : ℕ) (v : V) → AllSpelled xs → AllSpelled (slice_set xs at (Some v))
all-put xs at v all i within =
    let small : i < length xs = omega (arith, within, length-set xs at (Some v)) in
    elim (cases_eq i at) [
      | inl here ↦ ap is_some (ap (λ k. part_at (slice_set xs at (Some v)) k) here ∙ get_or-set_same xs at (Some v) None (omega (arith, here)))
      | inr apart ↦ ap is_some (get_or-set_other xs at i (Some v) None apart) ∙ all i small
    ]

-- Bits that are clear

abbrev pub clear_count : List Bool → ℕ
clear_count bits = count_by not bits

-- as many as in all clusters together
pub clear-by_cluster : (maps : List (Option Bitmap)) → clear_count (bits_in maps) ≡ sum_by (λ m. clear_count (used_bits m)) maps
clear-by_cluster [] = refl
clear-by_cluster (m ∷ maps) =
    sum_by-append (λ b. cond (not b) 1 0) (used_bits m) (bits_in maps)
    ∙ ap (λ n. clear_count (used_bits m) + n) (clear-by_cluster maps)
    ∙ sym (sum_by-cons (λ r. clear_count (used_bits r)) m maps)

-- a bit is clear or marked
pub clear-and_marked : (bits : List Bool) → clear_count bits + marked_count bits ≡ length bits
clear-and_marked [] = refl
clear-and_marked (true ∷ bits) =
    omega (arith, clear-and_marked bits, sum_by-cons (λ (b : Bool). cond (not b) 1 0) true bits, sum_by-cons (λ (b : Bool). cond b 1 0) true bits)
clear-and_marked (false ∷ bits) =
    omega (arith, clear-and_marked bits, sum_by-cons (λ (b : Bool). cond (not b) 1 0) false bits, sum_by-cons (λ (b : Bool). cond b 1 0) false bits)

-- where one is clear some are
pub clear-some : (bits : List Bool) (x : ℕ) → slice_get bits x ≡ Some false → 1 ≤ clear_count bits
clear-some [] x at = absurd (cc)
clear-some (b ∷ bits) zero at =
    let clear : b ≡ false = cc in
    omega (arith, sum_by-cons (λ (b : Bool). cond (not b) 1 0) b bits, ap (λ (c : Bool). let n : ℕ = cond (not c) 1 0 in n) clear)
clear-some (b ∷ bits) (suc x) at =
    omega (arith, sum_by-cons (λ (b : Bool). cond (not b) 1 0) b bits, clear-some bits x at)
