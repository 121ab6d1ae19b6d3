-- The blocks of a file whose pointer blocks were seen.
use Rattle.std.proofs.Common.{◌≡◌, ℕ, zero, suc, ◌+◌, ◌*◌, ◌/◌, ◌%◌, ◌<◌, Bool, true, false, nat_le, if◌then◌else◌, List, [], ◌∷◌, ◌++◌, length, take, get_or, slice_get, Option, Some, None, refl, sym, ap, ◌∙◌, arith, length-take, length-append}
use Rattle.std.specs.Prelude.{slice_index}
use Rattle.std.specs.List.{flat_map}
use Rattle.std.proofs.Math.Nat.{mod-lt}
use Rattle.std.proofs.lemmas.List.{get_or-take}
use Rattle.std.proofs.lemmas.Nat.{div-add-mod'}
use Rattle.std.proofs.lemmas.Option.{slice_get_within, slice_get-get_or, get_or_from_slice_get}
use Rattle.ds_base.specs.declared.names.NodeKind.{NodeKind}
use Rattle.ds_base.specs.declared.names.NodeKind.TheVariants as kinds
use Rattle.ds_image.proofs.Bits.{flat-get}
use Rattle.ds_fd.specs.declared.body.Body.{Body}
use Rattle.ds_image_parts.specs.Objects.{addresses_in, ptrs_by, ptrs_of, pointed_by, blocks_by, blocks_of}
use Rattle.ds_image_parts.specs.Parts.{Parts, part_at}
use Rattle.ds_image.specs.Locks.{block_seen}
use Rattle.ds_tree.specs.Counts.{pointer_blocks}

-- an item of the first n of a list
pub at-take : {X : Type 0} (n : ℕ) (xs : List X) (i : ℕ) (x : X) → slice_get (take n xs) i ≡ Some x → (i < n) × (slice_get xs i ≡ Some x)
at-take zero xs i x at = absurd (let wrong : None ≡ Some x = at in cc)
at-take (suc n) [] i x at = absurd (let wrong : None ≡ Some x = at in cc)
at-take (suc n) (y ∷ xs) zero x at = (omega arith, at)
at-take (suc n) (y ∷ xs) (suc i) x at = let rest = at-take n xs i x at in (omega (arith, rest.0), rest.1)

-- pieces of one width
length-pieces : {X A : Type 0} (f : X → List A) (width : ℕ) (xs : List X) → ((i : ℕ) (x : X) → slice_get xs i ≡ Some x → length (f x) ≡ width) → length (flat_map f xs) ≡ length xs * width
length-pieces f width [] wide = omega arith
length-pieces f width (x ∷ xs) wide =
    let rest = length-pieces f width xs (λ i y at. wide (suc i) y at) in
    let one = wide 0 x refl in
    let both : length (flat_map f (x ∷ xs)) ≡ length (f x) + length (flat_map f xs) = length-append (f x) (flat_map f xs) in
    grind (arith, rest, one, both)

-- pieces that are the same are the same when joined
pub same-pieces : {X A : Type 0} (f h : X → List A) (xs : List X) → ((i : ℕ) (x : X) → slice_get xs i ≡ Some x → f x ≡ h x) → flat_map f xs ≡ flat_map h xs
same-pieces f h [] same = refl
same-pieces f h (x ∷ xs) same = ap (λ l. l ++ flat_map f xs) (same 0 x refl) ∙ ap (λ l. h x ++ l) (same-pieces f h xs (λ i y at. same (suc i) y at))

-- the blocks of a file in other parts where its pointer blocks are the same
pub blocks-alike : (p q : Parts) (b : Body) → ((i n : ℕ) → slice_get (ptrs_of (Some b)) i ≡ Some n → part_at q.ptrs n ≡ part_at p.ptrs n) → blocks_of q (Some b) ≡ blocks_of p (Some b)
blocks-alike p q b same = by b.kind refl
  where
    by : (kind : Option NodeKind) → b.kind ≡ kind → blocks_by q b kind ≡ blocks_by p b kind
    by None e = refl
    by (Some kinds.Dir) e = refl
    by (Some kinds.File) e =
        let pieces : pointed_by q b (Some kinds.File) ≡ pointed_by p b (Some kinds.File) =
        same-pieces (λ n. addresses_in (part_at q.ptrs n)) (λ n. addresses_in (part_at p.ptrs n)) (ptrs_by b (Some kinds.File))
        (λ i n at. ap addresses_in (same i n (ap (λ k. slice_get (ptrs_by b k) i) e ∙ at))) in
        ap (λ l. take b.count (if nat_le b.count 96 then b.addresses else l)) pieces

-- a block of a file is the one that was seen at its place
pub block-seen : (p : Parts) (b : Body) → b.kind ≡ Some kinds.File
    → ((i n : ℕ) → slice_get (ptrs_of (Some b)) i ≡ Some n → length (addresses_in (part_at p.ptrs n)) ≡ 128)
    → (i n : ℕ) → slice_get (blocks_of p (Some b)) i ≡ Some n → (i < b.count) × (block_seen p b i ≡ Some n)
block-seen p b file wide i n at =
    let first : List ℕ = if nat_le b.count 96 then b.addresses else pointed_by p b (Some kinds.File) in
    let one = at-take b.count first i n (ap (λ l. slice_get l i) (ap (blocks_by p b) (sym file)) ∙ at) in
    (one.0, by (nat_le b.count 96) one.1)
  where
    by : (few : Bool) → slice_get (if few then b.addresses else flat_map (λ m. addresses_in (part_at p.ptrs m)) (ptrs_by b (Some kinds.File))) i ≡ Some n
        → (if few then slice_get b.addresses i else slice_get (addresses_in (part_at p.ptrs (slice_index b.addresses (i / 128)))) (i % 128)) ≡ Some n
    by true at = at
    by false at =
        let f : ℕ → List ℕ = λ m. addresses_in (part_at p.ptrs m) in
        let ptrs : List ℕ = ptrs_by b (Some kinds.File) in
        let each : (k m : ℕ) → slice_get ptrs k ≡ Some m → length (f m) ≡ 128 = λ k m at. wide k m (ap (λ l. slice_get l k) (ap (ptrs_by b) file) ∙ at) in
        let c : ℕ = i / 128 in
        let it : ℕ = i % 128 in
        let place : c * 128 + it ≡ i = div-add-mod' i 128 in
        let small : it < 128 = mod-lt i (omega arith) in
        let all : i < length ptrs * 128 = omega (arith, slice_get_within (flat_map f ptrs) i n at, length-pieces f 128 ptrs each) in
        let inside : c < length ptrs = omega (arith, all, place, small) in
        let number : slice_index b.addresses c ≡ get_or ptrs c 0 =
        sym (get_or-take (pointer_blocks b.count) b.addresses c 0 (omega (arith, inside, length-take (pointer_blocks b.count) b.addresses))) in
        let piece : length (f (get_or ptrs c 0)) ≡ 128 = each c (get_or ptrs c 0) (slice_get-get_or ptrs c 0 inside) in
        let value : get_or (f (get_or ptrs c 0)) it 0 ≡ n =
        sym (flat-get f 128 ptrs c it 0 0 each inside small) ∙ ap (λ k. get_or (flat_map f ptrs) k 0) place ∙ get_or_from_slice_get (flat_map f ptrs) i n 0 at in
        ap (λ m. slice_get (f m) it) number ∙ slice_get-get_or (f (get_or ptrs c 0)) it 0 (omega (arith, small, piece)) ∙ ap Some value
