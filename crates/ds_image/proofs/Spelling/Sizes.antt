-- A file has as many blocks as its body counts.
use Rattle.std.proofs.Common.{◌≡◌, ℕ, suc, ◌+◌, ◌*◌, ◌/◌, ◌<◌, ◌≤◌, ⊎_elim, Bool, true, false, nat_le, if◌then◌else◌, List, [], ◌∷◌, length, take, slice_get, Option, Some, None, IsSome, refl, sym, ap, subst, ◌∙◌, length-append, length-take-le, arith}
use Rattle.std.proofs.lemmas.Bool.{false≢true, cases_lt}
use Rattle.std.proofs.lemmas.Bool.Decides.{nat_tests}
use Rattle.std.proofs.lemmas.List.{get_or-map, get_or_past}
use Rattle.std.specs.List.{flat_map}
use Rattle.ds_base.specs.declared.geometry.Geom.{Geom}
use Rattle.ds_base.specs.declared.names.NodeKind.TheVariants as kinds
use Rattle.ds_fd.specs.Body.{IsBody, most_count}
use Rattle.ds_fd.specs.declared.body.Body.{Body}
use Rattle.ds_ptr.specs.declared.ptr_block.PtrBlock.{PtrBlock}
use Rattle.ds_tree.specs.Counts.{pointer_blocks}
use Rattle.ds_image_parts.specs.Looks.{Look}
use Rattle.ds_image_parts.specs.Objects.{addresses_in, ptrs_by, ptrs_of, pointed_by, blocks_by}
use Rattle.ds_image_tables.specs.Owns.{IsAt, list_of}
use Rattle.ds_image_parts.specs.Parts.{Parts, part_at}
use Rattle.ds_image_parts.specs.Readings.{ReadsParts}
use Rattle.ds_image.specs.Sound.{IsSound, ptr_lists}

-- a part that is there has a number below the count
pub part_within : {V : Type 0} (xs : List (Option V)) (i : ℕ) (v : V) → part_at xs i ≡ Some v → i < length xs
part_within xs i v there =
    ⊎_elim (λ below. below) (λ past. let none : None ≡ Some v = sym (get_or_past xs i None past) ∙ there in absurd cc) (cases_lt i (length xs))

-- what a body that is there spells
pub body_is : (g : Geom) (look : Look) (p : Parts) (o : ℕ) (b : Body) → ReadsParts g look p → part_at p.bodies o ≡ Some b → IsBody b
body_is g look p o b reads there =
    ((reads.bodies.each o (omega (arith, part_within p.bodies o b there, reads.bodies.len)) b).0 there).1

-- a pointer block that is there has 128 addresses
pub ptr_length : (g : Geom) (look : Look) (p : Parts) (n : ℕ) (r : Option PtrBlock) → ReadsParts g look p → part_at p.ptrs n ≡ r → IsSome r → length (addresses_in r) ≡ 128
ptr_length g look p n None reads e some = absurd (false≢true some)
ptr_length g look p n (Some b) reads e some =
    ((reads.ptrs.each n (omega (arith, part_within p.ptrs n b e, reads.ptrs.len)) b).0 e).0.count

-- lists of one length, one after another
pub length-flat_map_each : {X A : Type 0} (f : X → List A) (width : ℕ) (ns : List X) → ((i : ℕ) (n : X) → slice_get ns i ≡ Some n → length (f n) ≡ width) → length (flat_map f ns) ≡ width * length ns
length-flat_map_each f width [] each = omega arith
length-flat_map_each f width (n ∷ ns) each =
    length-append (f n) (flat_map f ns) ∙ omega (arith, each 0 n refl, length-flat_map_each f width ns (λ i m e. each (suc i) m e))

-- the pointer blocks of a file are listed by it
ptr_listed : (p : Parts) (o : ℕ) (b : Body) (i n : ℕ) → part_at p.bodies o ≡ Some b → b.kind ≡ Some kinds.File → slice_get (ptrs_by b (Some kinds.File)) i ≡ Some n → IsAt (ptr_lists p) o i n
ptr_listed p o b i n there kind e =
    let list : list_of (ptr_lists p) o ≡ ptrs_of (part_at p.bodies o) = get_or-map ptrs_of p.bodies o None [] (part_within p.bodies o b there) in
    rw (list, there, kind) e

pub many_pointers : (n : ℕ) → n ≤ 12288 → pointer_blocks n ≤ 96
many_pointers n h =
    ⊎_elim
    (λ (above : 96 < n). let test : nat_le n 96 ≡ false = grind (arith, nat_tests) in rw test (omega arith))
    (λ (small : n ≤ 96). let test : nat_le n 96 ≡ true = grind (arith, nat_tests) in rw test (omega arith))
    (cases_lt 96 n)

-- so the addresses in its pointer blocks are as many as its count, or more
pointed_enough : (g : Geom) (look : Look) (p : Parts) (o : ℕ) (b : Body) → ReadsParts g look p → IsSound p → part_at p.bodies o ≡ Some b → b.kind ≡ Some kinds.File → nat_le b.count 96 ≡ false → b.count ≤ length (pointed_by p b (Some kinds.File))
pointed_enough g look p o b reads sound there kind large =
    let is = body_is g look p o b reads there in
    let most : b.count ≤ 12288 = subst (λ k. b.count ≤ most_count k) kind is.ranges.count_to in
    let few : pointer_blocks b.count ≤ 96 = many_pointers b.count most in
    let listed : length (ptrs_by b (Some kinds.File)) ≡ pointer_blocks b.count =
    length-take-le (pointer_blocks b.count) b.addresses (omega (arith, few, is.widths.address_count)) in
    let all : length (pointed_by p b (Some kinds.File)) ≡ 128 * length (ptrs_by b (Some kinds.File)) =
    length-flat_map_each (λ n. addresses_in (part_at p.ptrs n)) 128 (ptrs_by b (Some kinds.File))
    (λ i n e. ptr_length g look p n (part_at p.ptrs n) reads refl (sound.ptrs o i n (ptr_listed p o b i n there kind e))) in
    let count : pointer_blocks b.count ≡ (b.count + 127) / 128 = rw large refl in
    omega (arith, all, listed, count)

-- a file's node has as many blocks as its body counts
pub file_size : (g : Geom) (look : Look) (p : Parts) (o : ℕ) (b : Body) → ReadsParts g look p → IsSound p → part_at p.bodies o ≡ Some b → b.kind ≡ Some kinds.File → length (blocks_by p b (Some kinds.File)) ≡ b.count
file_size g look p o b reads sound there kind =
    let is = body_is g look p o b reads there in
    let chosen : Bool → ℕ = λ test. length (take b.count (if test then b.addresses else pointed_by p b (Some kinds.File))) in
    ⊎_elim
    (λ (above : 96 < b.count).
    let test : nat_le b.count 96 ≡ false = grind (arith, nat_tests) in
    ap chosen test ∙ length-take-le b.count (pointed_by p b (Some kinds.File)) (pointed_enough g look p o b reads sound there kind test))
    (λ (small : b.count ≤ 96).
    let test : nat_le b.count 96 ≡ true = grind (arith, nat_tests) in
    ap chosen test ∙ length-take-le b.count b.addresses (omega (arith, small, is.widths.address_count)))
    (cases_lt 96 b.count)
