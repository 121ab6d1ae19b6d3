-- Every look at sectors of 512 bytes has parts, and just one list of each.
use Rattle.std.proofs.Common.{◌≡◌, ℕ, ◌<◌, List, Option, arith}
use Rattle.ds_base.specs.Decoding.{IsDecoded}
use Rattle.ds_base.specs.declared.geometry.Geom.{Geom}
use Rattle.ds_base.specs.declared.geometry.Kind.{Kind}
use Rattle.ds_base.specs.declared.geometry.Kind.TheVariants.{Fd, Sb, Pb, Fb}
use Rattle.ds_base.specs.Geometry.{IsGeom, clusters_of, items_of}
use Rattle.ds_bitmap.proofs.Readings.{bits_reading}
use Rattle.ds_bitmap.specs.Bits.{Bitmap, IsBits, bits_bytes}
use Rattle.ds_dir.proofs.Readings.{sub_reading}
use Rattle.ds_dir.specs.SubBlock.{IsSubBlock, sub_bytes}
use Rattle.ds_dir.specs.declared.sub_block.SubBlock.{SubBlock}
use Rattle.ds_fd.proofs.Readings.{body_reading}
use Rattle.ds_fd.specs.Body.{IsBody, body_bytes}
use Rattle.ds_fd.specs.declared.body.Body.{Body}
use Rattle.ds_layout.specs.Places.{place_sector}
use Rattle.ds_layout.specs.declared.places.Place.TheVariants as places
use Rattle.ds_marks.proofs.Readings.{slot_reading, header_reading}
use Rattle.ds_marks.specs.Slot.{IsSlot, slot_bytes}
use Rattle.ds_marks.specs.Header.{IsHeader, header_bytes}
use Rattle.ds_marks.specs.declared.slot.Slot.{Slot}
use Rattle.ds_marks.specs.declared.header.Header.{Header}
use Rattle.ds_ptr.proofs.Laws.{ptr_decoded}
use Rattle.ds_ptr.specs.PtrBlock.{IsPtrBlock, ptr_bytes}
use Rattle.ds_ptr.specs.declared.ptr_block.PtrBlock.{PtrBlock}
use Rattle.ds_layout.proofs.Bounds.{bounds}
use Rattle.ds_image_parts.specs.Looks.{Look, AreBlocks}
use Rattle.ds_image_parts.specs.Parts.{Parts, maps_of}
use Rattle.ds_image_parts.specs.Readings.{SpellsSlot, SpellsHeader, SpellsBody, SpellsBits, SpellsSub, SpellsPtr, IsReading, ReadsParts}
use Rattle.ds_image_parts.proofs.Spelling.Decoded.{spelled_there, numbered_there, reading_same, reading_there}

pub slot_there : (g : Geom) (look : Look) (number : ℕ) → number < 256 → AreBlocks look → (r : Option Slot) × IsDecoded r (SpellsSlot g look number)
slot_there g look number small blocks =
    spelled_there look (place_sector g (places.Slot number)) IsSlot (slot_bytes number) blocks (λ bytes is. slot_reading number bytes small is.size is.below)

pub header_there : (g : Geom) (look : Look) (object : ℕ) → AreBlocks look → (r : Option Header) × IsDecoded r (SpellsHeader g look object)
header_there g look object blocks =
    numbered_there look (place_sector g (places.Header object)) (λ h. h.object ≡ object) IsHeader header_bytes blocks (λ bytes is. header_reading object bytes is.size is.below)

pub body_there : (g : Geom) (look : Look) (object : ℕ) → AreBlocks look → (r : Option Body) × IsDecoded r (SpellsBody g look object)
body_there g look object blocks =
    numbered_there look (place_sector g (places.Body object)) (λ b. b.object ≡ object) IsBody body_bytes blocks (λ bytes is. body_reading object bytes is.size is.below)

pub bits_there : (g : Geom) (look : Look) (kind : Kind) (cluster : ℕ) → IsGeom g → cluster < 256 → AreBlocks look → (r : Option Bitmap) × IsDecoded r (SpellsBits g look kind cluster)
bits_there g look kind cluster is_geom small blocks =
    spelled_there look (place_sector g (places.Bitmap kind cluster)) (IsBits g kind cluster) bits_bytes blocks (λ bytes is. bits_reading g kind cluster bytes is_geom small is.size is.below)

pub sub_there : (g : Geom) (look : Look) (n : ℕ) → AreBlocks look → (r : Option SubBlock) × IsDecoded r (SpellsSub g look n)
sub_there g look n blocks =
    spelled_there look (place_sector g (places.SubBlock n)) IsSubBlock sub_bytes blocks (λ bytes is. sub_reading bytes is.size is.below)

pub ptr_there : (g : Geom) (look : Look) (n : ℕ) → AreBlocks look → (r : Option PtrBlock) × IsDecoded r (SpellsPtr g look n)
ptr_there g look n blocks =
    spelled_there look (place_sector g (places.PtrBlock n)) IsPtrBlock ptr_bytes blocks (λ bytes is. ptr_decoded bytes is.size is.below)

pub few_clusters : (g : Geom) (kind : Kind) (cluster : ℕ) → IsGeom g → cluster < clusters_of g kind → cluster < 256
few_clusters g Fd cluster is l = omega (arith, (bounds g is).fd_clusters)
few_clusters g Sb cluster is l = omega (arith, (bounds g is).sb_clusters)
few_clusters g Pb cluster is l = omega (arith, (bounds g is).pb_clusters)
few_clusters g Fb cluster is l = omega (arith, (bounds g is).fb_clusters)

maps_there : (g : Geom) (look : Look) (kind : Kind) → IsGeom g → AreBlocks look → (xs : List (Option Bitmap)) × IsReading (clusters_of g kind) (SpellsBits g look kind) xs
maps_there g look kind is blocks =
    reading_there (clusters_of g kind) (SpellsBits g look kind) (λ c l. bits_there g look kind c is (few_clusters g kind c is l) blocks)

-- every look at sectors of 512 bytes has parts
pub parts_there : (g : Geom) (look : Look) → IsGeom g → AreBlocks look → (p : Parts) × ReadsParts g look p
parts_there g look is blocks =
    let bodies = reading_there (items_of g Fd) (SpellsBody g look) (λ o l. body_there g look o blocks) in
    let fd = maps_there g look Fd is blocks in
    let sb = maps_there g look Sb is blocks in
    let pb = maps_there g look Pb is blocks in
    let fb = maps_there g look Fb is blocks in
    let subs = reading_there (items_of g Sb) (SpellsSub g look) (λ n l. sub_there g look n blocks) in
    let ptrs = reading_there (items_of g Pb) (SpellsPtr g look) (λ n l. ptr_there g look n blocks) in
    let p : Parts = record { bodies = bodies.0; fd_maps = fd.0; sb_maps = sb.0; pb_maps = pb.0; fb_maps = fb.0; subs = subs.0; ptrs = ptrs.0 } in
    let MapsRead : Kind → Type 0 = λ kind. IsReading (clusters_of g kind) (SpellsBits g look kind) (maps_of p kind) in
    let maps : (kind : Kind) → MapsRead kind = λ kind. elim kind as MapsRead [ Fd ↦ fd.1 | Sb ↦ sb.1 | Pb ↦ pb.1 | Fb ↦ fb.1 ] in
    (p, record { bodies = bodies.1; maps = maps; subs = subs.1; ptrs = ptrs.1 })

-- and only these
pub parts_same : (g : Geom) (look : Look) (p q : Parts) → ReadsParts g look p → ReadsParts g look q → p ≡ q
parts_same g look p q r s =
    let bodies = reading_same (items_of g Fd) (SpellsBody g look) p.bodies q.bodies r.bodies s.bodies in
    let maps : (kind : Kind) → maps_of p kind ≡ maps_of q kind = λ kind. reading_same (clusters_of g kind) (SpellsBits g look kind) (maps_of p kind) (maps_of q kind) (r.maps kind) (s.maps kind) in
    let subs = reading_same (items_of g Sb) (SpellsSub g look) p.subs q.subs r.subs s.subs in
    let ptrs = reading_same (items_of g Pb) (SpellsPtr g look) p.ptrs q.ptrs r.ptrs s.ptrs in
    λ i. record { bodies = bodies i; fd_maps = maps Fd i; sb_maps = maps Sb i; pb_maps = maps Pb i; fb_maps = maps Fb i; subs = subs i; ptrs = ptrs i }
