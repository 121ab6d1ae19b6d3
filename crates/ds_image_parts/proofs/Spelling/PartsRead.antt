-- Parts that are decoded one after another.
use Rattle.std.proofs.Common.{◌≡◌, ℕ, suc, ◌+◌, ◌<◌, ◌≤◌, List, [], ◌∷◌, ◌++◌, Option, Some, None, refl, sym, ap, subst, ◌∙◌, slice_get, arith}
use Rattle.std.proofs.lemmas.List.{get_or_past}
use Rattle.ds_base.specs.Decoding.{IsDecoded}
use Rattle.ds_base.specs.Geometry.{clusters_of, items_of}
use Rattle.ds_base.specs.declared.geometry.Geom.{Geom}
use Rattle.ds_base.specs.declared.geometry.Kind.{Kind}
use Rattle.ds_base.specs.declared.geometry.Kind.TheVariants.{Fd, Sb, Pb, Fb}
use Rattle.ds_base.specs.declared.sectors.Sector.{Sector}
use Rattle.ds_bitmap.specs.Bits.{Bitmap}
use Rattle.ds_fd.specs.declared.body.Body.{Body}
use Rattle.ds_ptr.proofs.Laws.{ptr_same}
use Rattle.ds_ptr.specs.PtrBlock.{IsPtrBlock, ptr_bytes}
use Rattle.ds_ptr.specs.declared.ptr_block.PtrBlock.{PtrBlock}
use Rattle.ds_image_parts.specs.ImageValues.{IsImage}
use Rattle.ds_image_parts.specs.Looks.{Look, HasBytes}
use Rattle.ds_image_parts.specs.Parts.{Parts, part_at, maps_of}
use Rattle.ds_image_parts.specs.Readings.{SpellsBody, SpellsBits, IsReading, ReadsParts}
use Rattle.ds_image_parts.specs.SpelledParts.{spelled_subs, spelled_ptrs}
use Rattle.ds_image_parts.proofs.Spelling.Decoded.{decoded_same, reading_push, spelled_at}
use Rattle.ds_image_parts.proofs.Spelling.SpellingParts.{subs-read, ptrs-read}

pub reading-none : {V : Type 0} (Spells : ℕ → V → Type 0) (xs : List (Option V)) → xs ≡ [] → IsReading 0 Spells xs
reading-none Spells xs none = subst (IsReading 0 Spells) (sym none) (record { len = refl; each = λ i l. absurd (omega arith) })

pub reading-more : {V : Type 0} (n : ℕ) (Spells : ℕ → V → Type 0) (xs ys : List (Option V)) (r : Option V) → ys ≡ xs ++ r ∷ []
    → IsReading n Spells xs → IsDecoded r (Spells n) → IsReading (n + 1) Spells ys
reading-more n Spells xs ys r more read last =
    let next : suc n ≡ n + 1 = omega arith in
    subst (λ k. IsReading k Spells ys) next (subst (IsReading (suc n) Spells) (sym more) (reading_push n Spells xs r read last))

pub reading-all : {V : Type 0} (n m : ℕ) (Spells : ℕ → V → Type 0) (xs : List (Option V)) → n ≡ m → IsReading n Spells xs
    → IsReading m Spells xs
reading-all n m Spells xs same read = subst (λ k. IsReading k Spells xs) same read

-- the pointer block that a sector spells is the only one
pub ptr_read : (look : Look) (at : ℕ) (s : Sector) (p : PtrBlock) → look at ≡ Some s → s.bytes ≡ ptr_bytes p → IsPtrBlock p
    → IsDecoded (Some p) (λ b. IsPtrBlock b × HasBytes look at (ptr_bytes b))
ptr_read look at s p there spelled fits =
    spelled_at look at s IsPtrBlock ptr_bytes (Some p) there (λ b. (
      λ e. let same : p ≡ b = cc in subst (λ (q : PtrBlock). IsPtrBlock q × (s.bytes ≡ ptr_bytes q)) same (fits, spelled),
      λ d. ap Some (ptr_same p b fits d.0 (sym spelled ∙ d.1)),
    ))

-- a part that is decoded alone is the one among all
pub part_read : {V : Type 0} (n : ℕ) (Spells : ℕ → V → Type 0) (xs : List (Option V)) (i : ℕ) (r : Option V) → IsReading n Spells xs → i < n
    → IsDecoded r (Spells i) → r ≡ part_at xs i
part_read n Spells xs i r read l decoded = decoded_same r (part_at xs i) (Spells i) decoded (read.each i l)

-- past the last there is none
pub part_past : {V : Type 0} (n : ℕ) (Spells : ℕ → V → Type 0) (xs : List (Option V)) (i : ℕ) → IsReading n Spells xs → n ≤ i → None ≡ part_at xs i
part_past n Spells xs i read past = sym (get_or_past xs i None (omega (arith, read.len, past)))

-- the parts of an image of which bodies and bitmaps were decoded
pub parts_read : (g : Geom) (sectors : List Sector) (bodies : List (Option Body)) (fd sb pb fb : List (Option Bitmap)) (is : IsImage g sectors)
    → IsReading (items_of g Fd) (SpellsBody g (slice_get sectors)) bodies → IsReading (clusters_of g Fd) (SpellsBits g (slice_get sectors) Fd) fd
    → IsReading (clusters_of g Sb) (SpellsBits g (slice_get sectors) Sb) sb → IsReading (clusters_of g Pb) (SpellsBits g (slice_get sectors) Pb) pb
    → IsReading (clusters_of g Fb) (SpellsBits g (slice_get sectors) Fb) fb
    → ReadsParts g (slice_get sectors) (record {
      bodies = bodies;
      fd_maps = fd;
      sb_maps = sb;
      pb_maps = pb;
      fb_maps = fb;
      subs = spelled_subs g sectors is;
      ptrs = spelled_ptrs g sectors is;
    })
parts_read g sectors bodies fd sb pb fb is read fds sbs pbs fbs =
    let p : Parts = record { bodies = bodies; fd_maps = fd; sb_maps = sb; pb_maps = pb; fb_maps = fb; subs = spelled_subs g sectors is; ptrs = spelled_ptrs g sectors is } in
    let MapsRead : Kind → Type 0 = λ kind. IsReading (clusters_of g kind) (SpellsBits g (slice_get sectors) kind) (maps_of p kind) in
    let maps : (kind : Kind) → MapsRead kind = λ kind. elim kind as MapsRead [ Fd ↦ fds | Sb ↦ sbs | Pb ↦ pbs | Fb ↦ fbs ] in
    record { bodies = read; maps = maps; subs = subs-read g sectors is; ptrs = ptrs-read g sectors is }
