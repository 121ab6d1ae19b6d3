-- One block more of a run.
use Rattle.std.proofs.Common.{◌≡◌, ℕ, ◌+◌, ◌*◌, ◌<◌, suc, zero, List, [], ◌∷◌, ◌++◌, length, take, drop, refl, sym, ap, ◌∙◌, arith, append_assoc, length-append, length-drop, add-zero, add-one, ◌-◌}
use Rattle.std.specs.Prelude.{slice_get, slice_set, Option, Some}
use Rattle.std.specs.List.{flat_map}
use Rattle.std.proofs.lemmas.List.{drop_more, take_more, drop_at, take_at, drop-drop, append-nil, set_at, length-take-le, get_or-drop, take-append-drop}
use Rattle.std.proofs.lemmas.List.Concat.{flat_map-append}
use Rattle.std.proofs.lemmas.Option.{slice_get_within, get_or_from_slice_get}
use borrow.Rule.Slice.PartMut.{put_mid}
use Rattle.std.proofs.Math.ListN.{get_or}
use Rattle.ds_base.specs.declared.sectors.Sector.{Sector}
use Rattle.ds_target.specs.Blocks.{bytes_from, images_in, overwritten}

-- the bytes of one sector more
pub bytes_from_more : (sectors : List Sector) (lba count : ℕ) (s : Sector) → slice_get sectors (lba + count) ≡ Some s
    → bytes_from sectors lba (count + 1) ≡ bytes_from sectors lba count ++ s.bytes
bytes_from_more sectors lba count s is =
    let within : lba + count < length sectors = slice_get_within sectors (lba + count) s is in
    let there : count < length (drop lba sectors) = rw length-drop (omega arith) in
    let here : get_or (drop lba sectors) count s ≡ s =
    get_or-drop lba sectors count s ∙ get_or_from_slice_get sectors (lba + count) s s is in
    let f : Sector → List ℕ = λ t. t.bytes in
    rw (take_more (drop lba sectors) count s there, here)
    (flat_map-append f (take count (drop lba sectors)) (s ∷ []) ∙ ap (λ (bs : List ℕ). flat_map f (take count (drop lba sectors)) ++ bs) (append-nil s.bytes))

-- a part put where the front ends makes the front longer
pub put_next : (front rest part : List ℕ) (at size : ℕ) → length front ≡ at → length part ≡ size
    → put_mid at size (front ++ rest) part ≡ (front ++ part) ++ drop size rest
put_next front rest part at size whole fits =
    rw (take_at front rest at whole, drop_at front rest at whole) (sym (append_assoc front part (drop size rest)))

-- the images in one block more
pub images_in_more : (n : ℕ) (bytes : List ℕ)
    → images_in (suc n) bytes ≡ images_in n bytes ++ record { bytes = take 512 (drop (512 * n) bytes) } ∷ []
unfolding images_in
images_in_more zero bytes = refl
images_in_more (suc n) bytes =
    let further : 512 + 512 * n ≡ 512 * suc n = omega arith in
    let last : ℕ → List Sector = λ k. images_in n (drop 512 bytes) ++ record { bytes = take 512 (drop k bytes) } ∷ [] in
    let shifted : List ℕ → List Sector = λ rest. images_in n (drop 512 bytes) ++ record { bytes = take 512 rest } ∷ [] in
    let first : List Sector → List Sector = λ images. record { bytes = take 512 bytes } ∷ images in
    ap first (images_in_more n (drop 512 bytes) ∙ ap shifted (drop-drop (512 * n) 512 bytes) ∙ ap last further)

pub length-images_in : (n : ℕ) (bytes : List ℕ) → length (images_in n bytes) ≡ n
unfolding images_in
length-images_in zero bytes = refl
length-images_in (suc n) bytes = ap suc (length-images_in n (drop 512 bytes))

-- no images leave the sectors
pub overwritten_none : (sectors : List Sector) (lba : ℕ) → overwritten sectors lba [] ≡ sectors
overwritten_none sectors lba = rw (append-nil, add-zero) (take-append-drop lba sectors)

-- a sector put where the images end is one image more
pub overwritten_more : (sectors : List Sector) (lba : ℕ) (images : List Sector) (image : Sector) → lba + length images < length sectors
    → slice_set (overwritten sectors lba images) (lba + length images) image ≡ overwritten sectors lba (images ++ image ∷ [])
overwritten_more sectors lba images image within =
    let n : ℕ = lba + length images in
    let front : List Sector = take lba sectors ++ images in
    let whole : length front ≡ n =
    length-append (take lba sectors) images ∙ ap (λ (k : ℕ). k + length images) (length-take-le lba sectors (omega arith)) in
    let put : List Sector → List Sector = λ rest. slice_set (front ++ rest) n image in
    let longer : lba + length (images ++ image ∷ []) ≡ n + 1 = omega (arith, length-append images (image ∷ [])) in
    let cut : ℕ → List Sector = λ k. take lba sectors ++ (images ++ image ∷ []) ++ drop k sectors in
    let joined : List Sector → List Sector = λ front. front ++ drop (n + 1) sectors in
    ap put (drop_more sectors n image within)
    ∙ set_at front (get_or sectors n image) (drop (n + 1) sectors) image n whole
    ∙ sym (ap cut longer ∙ ap joined (sym (append_assoc (take lba sectors) images (image ∷ [])))
    ∙ append_assoc front (image ∷ []) (drop (n + 1) sectors))

-- one image
pub overwritten_one : (sectors : List Sector) (lba : ℕ) (image : Sector) → lba < length sectors
    → overwritten sectors lba (image ∷ []) ≡ slice_set sectors lba image
overwritten_one sectors lba image within =
    let here : lba + 0 ≡ lba = add-zero lba in
    let put : ℕ → List Sector = λ k. slice_set sectors k image in
    let into : List Sector → List Sector = λ old. slice_set old (lba + 0) image in
    sym (overwritten_more sectors lba [] image (omega arith)) ∙ ap into (overwritten_none sectors lba) ∙ ap put here

-- the bytes of one sector
pub bytes_from_one : (sectors : List Sector) (lba : ℕ) (s : Sector) → slice_get sectors lba ≡ Some s
    → bytes_from sectors lba 1 ≡ s.bytes
bytes_from_one sectors lba s is =
    let at : ℕ → Option Sector = λ k. slice_get sectors k in
    bytes_from_more sectors lba 0 s (ap at (add-zero lba) ∙ is)

-- a turn of reading: the part that is put holds the next sector
pub read_turn : (sectors : List Sector) (lba i : ℕ) (s : Sector) (old into part : List ℕ)
    → slice_get sectors (lba + i) ≡ Some s → length part ≡ 512 → part ≡ s.bytes
    → into ≡ bytes_from sectors lba i ++ drop (512 * i) old → length (bytes_from sectors lba i) ≡ 512 * i
    → put_mid (512 * i) (512 * i + 512 - 512 * i) into part ≡ bytes_from sectors lba (i + 1) ++ drop (512 * (i + 1)) old
read_turn sectors lba i s old into part is long same so_far whole =
    let front : List ℕ = bytes_from sectors lba i in
    let rest : List ℕ = drop (512 * i) old in
    let width : 512 * i + 512 - 512 * i ≡ 512 = omega arith in
    let further : 512 * i + 512 ≡ 512 * (i + 1) = omega arith in
    let by_width : ℕ → List ℕ = λ k. put_mid (512 * i) k into part in
    let by_into : List ℕ → List ℕ = λ xs. put_mid (512 * i) 512 xs part in
    let by_part : List ℕ → List ℕ = λ xs. (front ++ xs) ++ drop 512 rest in
    let by_front : List ℕ → List ℕ = λ xs. xs ++ drop 512 rest in
    let by_rest : List ℕ → List ℕ = λ xs. bytes_from sectors lba (i + 1) ++ xs in
    let by_start : ℕ → List ℕ = λ k. bytes_from sectors lba (i + 1) ++ drop k old in
    ap by_width width ∙ ap by_into so_far
    ∙ put_next front rest part (512 * i) 512 whole long
    ∙ ap by_part same ∙ ap by_front (sym (bytes_from_more sectors lba i s is))
    ∙ ap by_rest (drop-drop 512 (512 * i) old) ∙ ap by_start further

pub length-bytes_from_more : (sectors : List Sector) (lba i : ℕ) (s : Sector) → slice_get sectors (lba + i) ≡ Some s
    → length s.bytes ≡ 512 → length (bytes_from sectors lba i) ≡ 512 * i
    → length (bytes_from sectors lba (i + 1)) ≡ 512 * (i + 1)
length-bytes_from_more sectors lba i s is long whole =
    let more : length (bytes_from sectors lba (i + 1)) ≡ length (bytes_from sectors lba i ++ s.bytes) =
    ap (λ (xs : List ℕ). length xs) (bytes_from_more sectors lba i s is) in
    omega (arith, more, length-append (bytes_from sectors lba i) s.bytes)

-- a turn of writing: the next sector takes the next image
pub write_turn : (sectors : List Sector) (lba i : ℕ) (out : List ℕ) (image : Sector) (now later : List Sector)
    → lba + i < length sectors → image.bytes ≡ take (512 * i + 512 - 512 * i) (drop (512 * i) out)
    → now ≡ overwritten sectors lba (images_in i out) → later ≡ slice_set now (lba + i) image
    → later ≡ overwritten sectors lba (images_in (i + 1) out)
write_turn sectors lba i out image now later within is so_far put =
    let images : List Sector = images_in i out in
    let count : length images ≡ i = length-images_in i out in
    let width : 512 * i + 512 - 512 * i ≡ 512 = omega arith in
    let cut : ℕ → List ℕ = λ k. take k (drop (512 * i) out) in
    let made : List ℕ → List Sector = λ bytes. images ++ record { bytes = bytes } ∷ [] in
    let next : images ++ image ∷ [] ≡ images_in (i + 1) out =
    ap made (is ∙ ap cut width) ∙ sym (images_in_more i out) ∙ ap (λ (k : ℕ). images_in k out) (sym (add-one i)) in
    let into : List Sector → List Sector = λ old. slice_set old (lba + i) image in
    let at : ℕ → List Sector = λ k. slice_set (overwritten sectors lba images) (lba + k) image in
    put ∙ ap into so_far ∙ ap at (sym count)
    ∙ overwritten_more sectors lba images image (omega arith)
    ∙ ap (λ (all : List Sector). overwritten sectors lba all) next
