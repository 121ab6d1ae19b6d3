-- What a volume spells after one sector of a place was written: that part is another one, and all others stay.
use Rattle.std.proofs.Common.{◌≡◌, ◌≢◌, ℕ, ◌<◌, if◌then◌else◌, List, length, inl, inr, Option, Some, None, slice_get, slice_set, refl, sym, ap, subst, ◌∙◌, length-set, ne_eqb, eq-eqb, get_or-set_same, get_or-set_other, arith}
use Rattle.std.proofs.lemmas.Bool.{cases_eq, cases_lt}
use Rattle.std.proofs.lemmas.Option.{slice_get_past}
use Rattle.ds_base.specs.Decoding.{IsDecoded}
use Rattle.ds_base.specs.declared.geometry.Geom.{Geom}
use Rattle.ds_base.specs.declared.geometry.Kind.{Kind}
use Rattle.ds_base.specs.declared.geometry.Kind.TheVariants.{Fd, Sb, Pb, Fb}
use Rattle.ds_base.specs.declared.sectors.Sector.{Sector}
use Rattle.ds_base.specs.Geometry.{IsGeom, clusters_of, items_of}
use Rattle.ds_bitmap.proofs.Bounds.{most_per_cluster}
use Rattle.ds_bitmap.proofs.Packed.{bits_same}
use Rattle.ds_bitmap.specs.Bits.{Bitmap, IsBits, bits_bytes}
use Rattle.ds_dir.proofs.Laws.{sub_same}
use Rattle.ds_dir.specs.SubBlock.{IsSubBlock, sub_bytes}
use Rattle.ds_dir.specs.declared.sub_block.SubBlock.{SubBlock}
use Rattle.ds_fd.proofs.Laws.{body_same}
use Rattle.ds_fd.specs.Body.{IsBody, body_bytes}
use Rattle.ds_fd.specs.declared.body.Body.{Body}
use Rattle.ds_layout.proofs.SamePlace.{same_place}
use Rattle.ds_layout.specs.Places.{IsPlace, place_sector}
use Rattle.ds_layout.specs.declared.places.Place.{Place}
use Rattle.ds_layout.specs.declared.places.Place.TheVariants as places
use Rattle.ds_ptr.proofs.Laws.{ptr_same}
use Rattle.ds_ptr.specs.PtrBlock.{IsPtrBlock, ptr_bytes}
use Rattle.ds_ptr.specs.declared.ptr_block.PtrBlock.{PtrBlock}
use Rattle.ds_image_parts.specs.Looks.{Look, HasBytes}
use Rattle.ds_image_parts.specs.Parts.{Parts, part_at, maps_of}
use Rattle.ds_image_parts.specs.Readings.{SpellsBody, SpellsBits, SpellsSub, SpellsPtr, IsReading, ReadsParts}
use Rattle.ds_image_parts.proofs.Spelling.Decoded.{decoded_as}
use Rattle.ds_image.proofs.NewVolumes.FreshLists.{decoded_one}
use Rattle.ds_image_parts.proofs.Journaling.LaidOver.{slice_get-set_same, slice_get-set_other}
use Rattle.ds_image.proofs.SameSectors.{reading-as, body-as, bits-as, sub-as, ptr-as}
use Rattle.ds_image.proofs.Spelling.SoundParts.{each_kind}
use Rattle.ds_image.proofs.NewVolumes.FreshVolume.{same_bytes}
use Rattle.ds_image_parts.proofs.Spelling.Readings.{few_clusters}
use Rattle.ds_plan_laws_new.specs.Changed.{with_maps}

-- Readings of which one part was put

reading-put : {V : Type 0} (n : ℕ) (Spells Then : ℕ → V → Type 0) (xs : List (Option V)) (at : ℕ) (r : Option V) → at < n
    → ((i : ℕ) → i < n → i ≢ at → (v : V) → Spells i v → Then i v) → ((i : ℕ) → i < n → i ≢ at → (v : V) → Then i v → Spells i v)
    → IsDecoded r (Then at) → IsReading n Spells xs → IsReading n Then (slice_set xs at r)
reading-put n Spells Then xs at r within to from new read = record {
  len = length-set xs at r ∙ read.len;
  each = λ i l. elim (cases_eq i at) [
    | inl here ↦ subst (λ k. IsDecoded (part_at (slice_set xs at r) k) (Then k)) (sym here)
        (subst (λ x. IsDecoded x (Then at)) (sym (get_or-set_same xs at r None (omega (arith, read.len)))) new)
    | inr apart ↦ subst (λ x. IsDecoded x (Then i)) (sym (get_or-set_other xs at i r None apart))
        (decoded_as (part_at xs i) (Spells i) (Then i) (to i l apart) (from i l apart) (read.each i l))
  ];
}

-- What the other places spell

module _ (g : Geom) (is : IsGeom g) (image : List Sector) (at : Place) (s : Sector) (inside : IsPlace g at) where
  abbrev before : Look
  before = slice_get image

  abbrev after : Look
  after = slice_get (slice_set image (place_sector g at) s)

  elsewhere : (place : Place) → IsPlace g place → place ≢ at → before (place_sector g place) ≡ after (place_sector g place)
  elsewhere place there apart =
      sym (slice_get-set_other image (place_sector g at) (place_sector g place) s (λ e. apart (same_place g place at is there inside (sym e))))

  bodies-stay : (xs : List (Option Body)) → ((o : ℕ) → places.Body o ≢ at) → IsReading (items_of g Fd) (SpellsBody g before) xs
      → IsReading (items_of g Fd) (SpellsBody g after) xs
  bodies-stay xs apart = reading-as (items_of g Fd) (SpellsBody g before) (SpellsBody g after) xs
      (λ o l. body-as g before after o (elsewhere (places.Body o) l (apart o)))
      (λ o l. body-as g after before o (sym (elsewhere (places.Body o) l (apart o))))

  maps-stay : (kind : Kind) (xs : List (Option Bitmap)) → ((c : ℕ) → places.Bitmap kind c ≢ at) → IsReading (clusters_of g kind) (SpellsBits g before kind) xs
      → IsReading (clusters_of g kind) (SpellsBits g after kind) xs
  maps-stay kind xs apart = reading-as (clusters_of g kind) (SpellsBits g before kind) (SpellsBits g after kind) xs
      (λ c l. bits-as g before after kind c (elsewhere (places.Bitmap kind c) l (apart c)))
      (λ c l. bits-as g after before kind c (sym (elsewhere (places.Bitmap kind c) l (apart c))))

  subs-stay : (xs : List (Option SubBlock)) → ((n : ℕ) → places.SubBlock n ≢ at) → IsReading (items_of g Sb) (SpellsSub g before) xs
      → IsReading (items_of g Sb) (SpellsSub g after) xs
  subs-stay xs apart = reading-as (items_of g Sb) (SpellsSub g before) (SpellsSub g after) xs
      (λ n l. sub-as g before after n (elsewhere (places.SubBlock n) l (apart n)))
      (λ n l. sub-as g after before n (sym (elsewhere (places.SubBlock n) l (apart n))))

  ptrs-stay : (xs : List (Option PtrBlock)) → ((n : ℕ) → places.PtrBlock n ≢ at) → IsReading (items_of g Pb) (SpellsPtr g before) xs
      → IsReading (items_of g Pb) (SpellsPtr g after) xs
  ptrs-stay xs apart = reading-as (items_of g Pb) (SpellsPtr g before) (SpellsPtr g after) xs
      (λ n l. ptr-as g before after n (elsewhere (places.PtrBlock n) l (apart n)))
      (λ n l. ptr-as g after before n (sym (elsewhere (places.PtrBlock n) l (apart n))))

  -- no bitmap was written
  maps-all_stay : (p q : Parts) → ((kind : Kind) (c : ℕ) → places.Bitmap kind c ≢ at) → ((kind : Kind) → maps_of q kind ≡ maps_of p kind)
      → ((kind : Kind) → IsReading (clusters_of g kind) (SpellsBits g before kind) (maps_of p kind))
      → (kind : Kind) → IsReading (clusters_of g kind) (SpellsBits g after kind) (maps_of q kind)
  maps-all_stay p q apart same reads kind =
      subst (IsReading (clusters_of g kind) (SpellsBits g after kind)) (sym (same kind)) (maps-stay kind (maps_of p kind) (apart kind) (reads kind))

  written : (bytes : List ℕ) → place_sector g at < length image → s.bytes ≡ bytes → HasBytes after (place_sector g at) bytes
  written bytes within spelled = (s, slice_get-set_same image (place_sector g at) s within, spelled)

-- the body of a descriptor was written
pub reads-body : (g : Geom) (image : List Sector) (p : Parts) (o : ℕ) (b : Body) (s : Sector) → IsGeom g → o < items_of g Fd
    → place_sector g (places.Body o) < length image → b.object ≡ o → IsBody b → s.bytes ≡ body_bytes b → ReadsParts g (slice_get image) p
    → ReadsParts g (slice_get (slice_set image (place_sector g (places.Body o)) s)) (record p { bodies = slice_set p.bodies o (Some b) })
reads-body g image p o b s is l within number body spelled reads =
    let at = places.Body o in
    let q : Parts = record p { bodies = slice_set p.bodies o (Some b) } in
    let look = slice_get image in
    let look' = slice_get (slice_set image (place_sector g at) s) in
    let has = written g is image at s l (body_bytes b) within spelled in
    let other : (i : ℕ) → i ≢ o → places.Body i ≢ at = λ i apart e. apart (let same : i ≡ o = cc in same) in
    record {
      bodies = reading-put (items_of g Fd) (SpellsBody g look) (SpellsBody g look') p.bodies o (Some b) l
          (λ i small apart. body-as g look look' i (elsewhere g is image at s l (places.Body i) small (other i apart)))
          (λ i small apart. body-as g look' look i (sym (elsewhere g is image at s l (places.Body i) small (other i apart))))
          (decoded_one b (SpellsBody g look' o) (number, body, has)
          (λ w d. body_same w b d.1 body (same_bytes look' (place_sector g at) (body_bytes w) (body_bytes b) d.2 has)))
          reads.bodies;
      maps = maps-all_stay g is image at s l p q (λ kind c e. absurd (cc)) (each_kind (λ kind. maps_of q kind ≡ maps_of p kind) refl refl refl refl) reads.maps;
      subs = subs-stay g is image at s l p.subs (λ n e. absurd (cc)) reads.subs;
      ptrs = ptrs-stay g is image at s l p.ptrs (λ n e. absurd (cc)) reads.ptrs;
    }

-- a sub-block was written
pub reads-sub : (g : Geom) (image : List Sector) (p : Parts) (n : ℕ) (b : SubBlock) (s : Sector) → IsGeom g → n < items_of g Sb
    → place_sector g (places.SubBlock n) < length image → IsSubBlock b → s.bytes ≡ sub_bytes b → ReadsParts g (slice_get image) p
    → ReadsParts g (slice_get (slice_set image (place_sector g (places.SubBlock n)) s)) (record p { subs = slice_set p.subs n (Some b) })
reads-sub g image p n b s is l within block spelled reads =
    let at = places.SubBlock n in
    let q : Parts = record p { subs = slice_set p.subs n (Some b) } in
    let look = slice_get image in
    let look' = slice_get (slice_set image (place_sector g at) s) in
    let has = written g is image at s l (sub_bytes b) within spelled in
    let other : (i : ℕ) → i ≢ n → places.SubBlock i ≢ at = λ i apart e. apart (let same : i ≡ n = cc in same) in
    record {
      bodies = bodies-stay g is image at s l p.bodies (λ o e. absurd (cc)) reads.bodies;
      maps = maps-all_stay g is image at s l p q (λ kind c e. absurd (cc)) (each_kind (λ kind. maps_of q kind ≡ maps_of p kind) refl refl refl refl) reads.maps;
      subs = reading-put (items_of g Sb) (SpellsSub g look) (SpellsSub g look') p.subs n (Some b) l
          (λ i small apart. sub-as g look look' i (elsewhere g is image at s l (places.SubBlock i) small (other i apart)))
          (λ i small apart. sub-as g look' look i (sym (elsewhere g is image at s l (places.SubBlock i) small (other i apart))))
          (decoded_one b (SpellsSub g look' n) (block, has)
          (λ w d. sub_same w b d.0 block (same_bytes look' (place_sector g at) (sub_bytes w) (sub_bytes b) d.1 has)))
          reads.subs;
      ptrs = ptrs-stay g is image at s l p.ptrs (λ n e. absurd (cc)) reads.ptrs;
    }

-- a pointer block was written
pub reads-ptr : (g : Geom) (image : List Sector) (p : Parts) (n : ℕ) (b : PtrBlock) (s : Sector) → IsGeom g → n < items_of g Pb
    → place_sector g (places.PtrBlock n) < length image → IsPtrBlock b → s.bytes ≡ ptr_bytes b → ReadsParts g (slice_get image) p
    → ReadsParts g (slice_get (slice_set image (place_sector g (places.PtrBlock n)) s)) (record p { ptrs = slice_set p.ptrs n (Some b) })
reads-ptr g image p n b s is l within block spelled reads =
    let at = places.PtrBlock n in
    let q : Parts = record p { ptrs = slice_set p.ptrs n (Some b) } in
    let look = slice_get image in
    let look' = slice_get (slice_set image (place_sector g at) s) in
    let has = written g is image at s l (ptr_bytes b) within spelled in
    let other : (i : ℕ) → i ≢ n → places.PtrBlock i ≢ at = λ i apart e. apart (let same : i ≡ n = cc in same) in
    record {
      bodies = bodies-stay g is image at s l p.bodies (λ o e. absurd (cc)) reads.bodies;
      maps = maps-all_stay g is image at s l p q (λ kind c e. absurd (cc)) (each_kind (λ kind. maps_of q kind ≡ maps_of p kind) refl refl refl refl) reads.maps;
      subs = subs-stay g is image at s l p.subs (λ n e. absurd (cc)) reads.subs;
      ptrs = reading-put (items_of g Pb) (SpellsPtr g look) (SpellsPtr g look') p.ptrs n (Some b) l
          (λ i small apart. ptr-as g look look' i (elsewhere g is image at s l (places.PtrBlock i) small (other i apart)))
          (λ i small apart. ptr-as g look' look i (sym (elsewhere g is image at s l (places.PtrBlock i) small (other i apart))))
          (decoded_one b (SpellsPtr g look' n) (block, has)
          (λ w d. ptr_same w b d.0 block (same_bytes look' (place_sector g at) (ptr_bytes w) (ptr_bytes b) d.1 has)))
          reads.ptrs;
    }

-- one kind has other bitmaps, and the three others have the same
each-with_maps : (P : Kind → List (Option Bitmap) → Type 0) (p : Parts) (kind : Kind) (maps : List (Option Bitmap)) → P kind maps
    → ((k : Kind) → k ≢ kind → P k (maps_of p k)) → (k : Kind) → P k (maps_of (with_maps p kind maps) k)
each-with_maps P p Fd maps new others = each_kind (λ k. P k (maps_of (with_maps p Fd maps) k)) new (others Sb (λ e. absurd (cc))) (others Pb (λ e. absurd (cc))) (others Fb (λ e. absurd (cc)))
each-with_maps P p Sb maps new others = each_kind (λ k. P k (maps_of (with_maps p Sb maps) k)) (others Fd (λ e. absurd (cc))) new (others Pb (λ e. absurd (cc))) (others Fb (λ e. absurd (cc)))
each-with_maps P p Pb maps new others = each_kind (λ k. P k (maps_of (with_maps p Pb maps) k)) (others Fd (λ e. absurd (cc))) (others Sb (λ e. absurd (cc))) new (others Fb (λ e. absurd (cc)))
each-with_maps P p Fb maps new others = each_kind (λ k. P k (maps_of (with_maps p Fb maps) k)) (others Fd (λ e. absurd (cc))) (others Sb (λ e. absurd (cc))) (others Pb (λ e. absurd (cc))) new

-- the other parts of such parts are the same
bodies-with_maps : (p : Parts) (kind : Kind) (maps : List (Option Bitmap)) → (with_maps p kind maps).bodies ≡ p.bodies
bodies-with_maps p Fd maps = refl
bodies-with_maps p Sb maps = refl
bodies-with_maps p Pb maps = refl
bodies-with_maps p Fb maps = refl

subs-with_maps : (p : Parts) (kind : Kind) (maps : List (Option Bitmap)) → (with_maps p kind maps).subs ≡ p.subs
subs-with_maps p Fd maps = refl
subs-with_maps p Sb maps = refl
subs-with_maps p Pb maps = refl
subs-with_maps p Fb maps = refl

ptrs-with_maps : (p : Parts) (kind : Kind) (maps : List (Option Bitmap)) → (with_maps p kind maps).ptrs ≡ p.ptrs
ptrs-with_maps p Fd maps = refl
ptrs-with_maps p Sb maps = refl
ptrs-with_maps p Pb maps = refl
ptrs-with_maps p Fb maps = refl

-- the bitmap of a cluster was written
pub reads-map : (g : Geom) (image : List Sector) (p : Parts) (kind : Kind) (c : ℕ) (b : Bitmap) (s : Sector) → IsGeom g → c < clusters_of g kind
    → place_sector g (places.Bitmap kind c) < length image → IsBits g kind c b → s.bytes ≡ bits_bytes b → ReadsParts g (slice_get image) p
    → ReadsParts g (slice_get (slice_set image (place_sector g (places.Bitmap kind c)) s)) (with_maps p kind (slice_set (maps_of p kind) c (Some b)))
reads-map g image p kind c b s is l within bits spelled reads =
    let at = places.Bitmap kind c in
    let maps = slice_set (maps_of p kind) c (Some b) in
    let look = slice_get image in
    let look' = slice_get (slice_set image (place_sector g at) s) in
    let has = written g is image at s l (bits_bytes b) within spelled in
    let other : (i : ℕ) → i ≢ c → places.Bitmap kind i ≢ at = λ i apart e. apart (let same : i ≡ c = cc in same) in
    let most = most_per_cluster g kind is in
    let one : (w : Bitmap) → SpellsBits g look' kind c w → w ≡ b = λ w d.
    bits_same w b (omega (arith, d.0.same_cluster, few_clusters g kind c is l)) (omega (arith, bits.same_cluster, few_clusters g kind c is l)) (omega (arith, d.0.count)) (omega (arith, bits.count))
    (same_bytes look' (place_sector g at) (bits_bytes w) (bits_bytes b) d.1 has) in
    record {
      bodies = subst (IsReading (items_of g Fd) (SpellsBody g look')) (sym (bodies-with_maps p kind maps)) (bodies-stay g is image at s l p.bodies (λ o e. absurd (cc)) reads.bodies);
      maps = each-with_maps (λ k xs. IsReading (clusters_of g k) (SpellsBits g look' k) xs) p kind maps
          (reading-put (clusters_of g kind) (SpellsBits g look kind) (SpellsBits g look' kind) (maps_of p kind) c (Some b) l
          (λ i small apart. bits-as g look look' kind i (elsewhere g is image at s l (places.Bitmap kind i) small (other i apart)))
          (λ i small apart. bits-as g look' look kind i (sym (elsewhere g is image at s l (places.Bitmap kind i) small (other i apart))))
          (decoded_one b (SpellsBits g look' kind c) (bits, has) one)
          (reads.maps kind))
          (λ k apart. maps-stay g is image at s l k (maps_of p k) (λ i e. apart (let same : k ≡ kind = cc in same)) (reads.maps k));
      subs = subst (IsReading (items_of g Sb) (SpellsSub g look')) (sym (subs-with_maps p kind maps)) (subs-stay g is image at s l p.subs (λ n e. absurd (cc)) reads.subs);
      ptrs = subst (IsReading (items_of g Pb) (SpellsPtr g look')) (sym (ptrs-with_maps p kind maps)) (ptrs-stay g is image at s l p.ptrs (λ n e. absurd (cc)) reads.ptrs);
    }
