-- Parts of a volume that are written, one after another.
use Rattle.std.specs.Prelude.{◌≡◌, ℕ, ◌<◌, List, [], ◌∷◌, length, fold, slice_get, slice_set, Option, Some}
use Rattle.ds_base.specs.Geometry.{clusters_of, items_of}
use Rattle.ds_base.specs.declared.geometry.Geom.{Geom}
use Rattle.ds_base.specs.declared.geometry.Kind.{Kind}
use Rattle.ds_base.specs.declared.geometry.Kind.TheVariants.{Fd, Sb, Pb}
use Rattle.ds_base.specs.declared.sectors.Sector.{Sector}
use Rattle.ds_bitmap.specs.Bits.{Bitmap, IsBits, bits_bytes}
use Rattle.ds_plan_laws_new.specs.Changed.{with_maps}
use Rattle.ds_dir.specs.SubBlock.{IsSubBlock, sub_bytes}
use Rattle.ds_dir.specs.declared.sub_block.SubBlock.{SubBlock}
use Rattle.ds_fd.specs.Body.{IsBody, body_bytes}
use Rattle.ds_fd.specs.declared.body.Body.{Body}
use Rattle.ds_image_parts.specs.Parts.{Parts, maps_of}
use Rattle.ds_image_parts.specs.Pending.{Pair}
use Rattle.ds_layout.specs.Places.{place_sector}
use Rattle.ds_layout.specs.declared.places.Place.{Place}
use Rattle.ds_layout.specs.declared.places.Place.TheVariants as places
use Rattle.ds_ptr.specs.PtrBlock.{IsPtrBlock, ptr_bytes}
use Rattle.ds_ptr.specs.declared.ptr_block.PtrBlock.{PtrBlock}

-- a part by its number, and what it is to be
pub data Written : Type 0 where
  MapPart : Kind → ℕ → Bitmap → Written
  BodyPart : ℕ → Body → Written
  SubPart : ℕ → SubBlock → Written
  PtrPart : ℕ → PtrBlock → Written

-- its place, and the bytes that spell it
abbrev pub place_of : Written → Place
place_of (MapPart kind cluster bits) = places.Bitmap kind cluster
place_of (BodyPart object body) = places.Body object
place_of (SubPart n block) = places.SubBlock n
place_of (PtrPart n block) = places.PtrBlock n

abbrev pub bytes_of : Written → List ℕ
bytes_of (MapPart kind cluster bits) = bits_bytes bits
bytes_of (BodyPart object body) = body_bytes body
bytes_of (SubPart n block) = sub_bytes block
bytes_of (PtrPart n block) = ptr_bytes block

-- it is one of the volume, and of the form that its place asks for
abbrev pub IsWritten : Geom → Written → Type 0
IsWritten g (MapPart kind cluster bits) = (cluster < clusters_of g kind) × IsBits g kind cluster bits
IsWritten g (BodyPart object body) = (object < items_of g Fd) × (body.object ≡ object) × IsBody body
IsWritten g (SubPart n block) = (n < items_of g Sb) × IsSubBlock block
IsWritten g (PtrPart n block) = (n < items_of g Pb) × IsPtrBlock block

-- the parts with this one in the place of another
abbrev pub with_part : Parts → Written → Parts
with_part p (MapPart kind cluster bits) = with_maps p kind (slice_set (maps_of p kind) cluster (Some bits))
with_part p (BodyPart object body) = record p { bodies = slice_set p.bodies object (Some body) }
with_part p (SubPart n block) = record p { subs = slice_set p.subs n (Some block) }
with_part p (PtrPart n block) = record p { ptrs = slice_set p.ptrs n (Some block) }

abbrev pub with_parts : Parts → List Written → Parts
with_parts p parts = fold with_part p parts

-- the pairs are the sectors of these parts, in their order
pub record IsPairOf (g : Geom) (pair : Pair) (part : Written) : Type 0 where
  pub target : pair.0 ≡ place_sector g (place_of part)
  pub spelled : pair.1.bytes ≡ bytes_of part

abbrev pub ArePairsOf : Geom → List Pair → List Written → Type 0
ArePairsOf g [] [] = Unit {0}
ArePairsOf g (pair ∷ pairs) (part ∷ parts) = IsPairOf g pair part × ArePairsOf g pairs parts
ArePairsOf g _ _ = ⊥

-- each part can be written to the image
pub record CanWrite (g : Geom) (image : List Sector) (part : Written) : Type 0 where
  pub is : IsWritten g part
  pub in_image : place_sector g (place_of part) < length image

-- each of these can
abbrev pub CanWriteAll : Geom → List Sector → List Written → Type 0
CanWriteAll g image parts = (i : ℕ) (part : Written) → slice_get parts i ≡ Some part → CanWrite g image part

-- Parts of one kind, by their numbers

-- no number stands twice
abbrev pub AreOnce : {V : Type 0} → List (ℕ × V) → Type 0
AreOnce {V} writes = (i j : ℕ) (x y : ℕ × V) → slice_get writes i ≡ Some x → slice_get writes j ≡ Some y → x.0 ≡ y.0 → i ≡ j

-- each in its place
abbrev pub put_all : {V : Type 0} → List (Option V) → List (ℕ × V) → List (Option V)
put_all xs writes = fold (λ xs write. slice_set xs write.0 (Some write.1)) xs writes
