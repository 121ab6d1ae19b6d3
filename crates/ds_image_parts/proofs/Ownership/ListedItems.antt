-- What descriptors list, as it is put together.
use Rattle.std.proofs.Common.{◌≡◌, ℕ, ◌+◌, ◌<◌, false, nat_le, List, [], ◌∷◌, ◌++◌, length, take, get_or, Option, Some, refl, ap, ◌∙◌, arith}
use Rattle.std.proofs.lemmas.Bool.Decides.{nat_tests}
use Rattle.std.proofs.lemmas.List.{take_more, append-nil}
use Rattle.std.proofs.lemmas.List.Concat.{flat_map-append}
use Rattle.std.proofs.lemmas.List.Elements.{filter_map-append}
use Rattle.std.specs.List.{flat_map, filter_map}
use Rattle.ds_base.specs.declared.names.NodeKind.TheVariants as kinds
use Rattle.ds_dir.specs.declared.sub_block.Entry.{Entry}
use Rattle.ds_fd.specs.declared.body.Body.{Body}
use Rattle.ds_image_parts.specs.Objects.{addresses_in, ptrs_of, blocks_of, rooms_in, rooms_of, used_rooms}
use Rattle.ds_image_parts.specs.Parts.{Parts, part_at}

-- the blocks of a file of more than 96 are in its pointer blocks
pub blocks-pointed : (p : Parts) (body : Option Body) (b : Body) → body ≡ Some b → b.kind ≡ Some kinds.File → 96 < b.count
    → take b.count (flat_map (λ n. addresses_in (part_at p.ptrs n)) (ptrs_of body)) ≡ blocks_of p body
blocks-pointed p body b there kind above =
    let test : nat_le b.count 96 ≡ false = grind (arith, nat_tests) in
    rw (there, kind, test) refl

rooms-more : (p : Parts) (subs : List ℕ) (i : ℕ) → i < length subs
    → rooms_of p (take (i + 1) subs) ≡ rooms_of p (take i subs) ++ rooms_in (part_at p.subs (get_or subs i 0))
rooms-more p subs i l =
    let f : ℕ → List (Option Entry) = λ n. rooms_in (part_at p.subs n) in
    ap (flat_map f) (take_more subs i 0 l) ∙ flat_map-append f (take i subs) (get_or subs i 0 ∷ []) ∙ ap (λ rest. flat_map f (take i subs) ++ rest) (append-nil (f (get_or subs i 0)))

-- the entries of one more sub-block
pub used_rooms-more : (p : Parts) (subs : List ℕ) (i : ℕ) → i < length subs
    → used_rooms p (take (i + 1) subs) ≡ used_rooms p (take i subs) ++ filter_map (λ room. room) (rooms_in (part_at p.subs (get_or subs i 0)))
used_rooms-more p subs i l =
    ap (filter_map (λ room. room)) (rooms-more p subs i l) ∙ filter_map-append (λ room. room) (rooms_of p (take i subs)) (rooms_in (part_at p.subs (get_or subs i 0)))
