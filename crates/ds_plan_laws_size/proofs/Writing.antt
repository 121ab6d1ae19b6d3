-- What a volume spells after sectors of several parts were written.
use Rattle.std.proofs.Common.{◌≡◌, suc, List, [], ◌∷◌, ◌++◌, length, slice_get, slice_set, refl, sym, subst, length-set, arith}
use Rattle.ds_base.specs.Geometry.{IsGeom}
use Rattle.ds_base.specs.declared.geometry.Geom.{Geom}
use Rattle.ds_base.specs.declared.sectors.Sector.{Sector}
use Rattle.ds_image_parts.specs.Logical.{laid_over}
use Rattle.ds_image_parts.specs.Parts.{Parts}
use Rattle.ds_image_parts.specs.Pending.{Pair}
use Rattle.ds_image_parts.specs.Readings.{ReadsParts}
use Rattle.ds_layout.specs.Places.{place_sector}
use Rattle.ds_plan_laws_new.proofs.Frames.{reads-body, reads-map, reads-sub, reads-ptr}
use Rattle.ds_plan_laws_size.specs.Written.{Written, MapPart, BodyPart, SubPart, PtrPart, place_of, bytes_of, with_part, with_parts, ArePairsOf, CanWrite, CanWriteAll}

-- one part
reads-part : (g : Geom) → IsGeom g → (image : List Sector) (p : Parts) (part : Written) (s : Sector) → CanWrite g image part → s.bytes ≡ bytes_of part
    → ReadsParts g (slice_get image) p → ReadsParts g (slice_get (slice_set image (place_sector g (place_of part)) s)) (with_part p part)
reads-part g is image p (MapPart kind cluster bits) s can spelled reads = reads-map g image p kind cluster bits s is can.is.0 can.in_image can.is.1 spelled reads
reads-part g is image p (BodyPart object body) s can spelled reads = reads-body g image p object body s is can.is.0 can.in_image can.is.1 can.is.2 spelled reads
reads-part g is image p (SubPart n block) s can spelled reads = reads-sub g image p n block s is can.is.0 can.in_image can.is.1 spelled reads
reads-part g is image p (PtrPart n block) s can spelled reads = reads-ptr g image p n block s is can.is.0 can.in_image can.is.1 spelled reads

-- and all, one after another
pub reads-written : (g : Geom) → IsGeom g → (image : List Sector) (p : Parts) (pairs : List Pair) (parts : List Written) → ArePairsOf g pairs parts
    → CanWriteAll g image parts → ReadsParts g (slice_get image) p → ReadsParts g (slice_get (laid_over image pairs)) (with_parts p parts)
reads-written g is image p [] [] are can reads = reads
reads-written g is image p [] (part ∷ parts) are can reads = absurd are
reads-written g is image p (pair ∷ pairs) [] are can reads = absurd are
reads-written g is image p (pair ∷ pairs) (part ∷ parts) are can reads =
    let next : List Sector = slice_set image pair.0 pair.1 in
    let length-next : length next ≡ length image = length-set image pair.0 pair.1 in
    reads-written g is next (with_part p part) pairs parts are.1
    (λ i x at. let was = can (suc i) x at in record { is = was.is; in_image = omega (arith, was.in_image, length-next) })
    (subst (λ n. ReadsParts g (slice_get (slice_set image n pair.1)) (with_part p part)) (sym are.0.target)
    (reads-part g is image p part pair.1 (can 0 part refl) are.0.spelled reads))

-- pairs one after another
pub pairs-joined : (g : Geom) (pairs more : List Pair) (parts rest : List Written) → ArePairsOf g pairs parts → ArePairsOf g more rest
    → ArePairsOf g (pairs ++ more) (parts ++ rest)
pairs-joined g [] more [] rest are then = then
pairs-joined g [] more (part ∷ parts) rest are then = absurd are
pairs-joined g (pair ∷ pairs) more [] rest are then = absurd are
pairs-joined g (pair ∷ pairs) more (part ∷ parts) rest are then = (are.0, pairs-joined g pairs more parts rest are.1 then)
