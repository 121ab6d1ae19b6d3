-- What is read of the first two sectors, and what they spell.
use Rattle.std.proofs.Common.{◌≡◌, ℕ, ◌%◌, ◌^◌, ◌<◌, ◌≤◌, List, [], ◌∷◌, length, slice_index, refl, sym, ◌∙◌, arith}
use Rattle.ds_base.specs.declared.geometry.Geom.{Geom}
use Rattle.ds_base.specs.declared.geometry.Kind.TheVariants.{Fd, Sb, Pb, Fb}
use Rattle.ds_base.specs.declared.geometry.GeomField.TheVariants.{Slots, Block, Clusters, Items}
use Rattle.ds_base.specs.Geometry.{IsGeom, clusters_of, per_cluster}
use Rattle.ds_bytes.specs.Fields.{front, spelled, FieldsFit}
use Rattle.ds_bytes.proofs.Fronts.{front-padded}
use Rattle.ds_bytes.proofs.Little.{length-zeros}
use Rattle.ds_bytes.proofs.SameFields.{length-spelled, read_same}
use Rattle.ds_layout.specs.Places.{total_of}
use Rattle.ds_layout.specs.Volume.{IsId, IsVol, vol_fields, vol_bytes, fs_fields, fs_bytes}
use Rattle.ds_layout.specs.VolumeParts.{vol_part_fields, geom_of, fs_part_fields}
use Rattle.ds_layout.specs.declared.volume.VolParts.{VolParts}
use Rattle.ds_layout.specs.declared.volume.FsParts.{FsParts}
use Rattle.ds_layout.proofs.Bounds.{bounds}

pub fs_fields_fit : (volume : List ℕ) → IsId volume → FieldsFit (fs_fields volume)
fs_fields_fit volume h = (refl, (length-zeros 4, (omega arith, (omega arith, (h, (omega arith, tt))))))

pub names_fs : (bytes volume : List ℕ) (p : FsParts) → FieldsFit (fs_part_fields p) → IsId volume → front 36 bytes ≡ spelled (fs_part_fields p) → bytes ≡ fs_bytes volume → p.volume ≡ volume
unfolding fs_bytes
names_fs bytes volume p fits h read e =
    let same : fs_part_fields p ≡ fs_fields volume = read_same 36 (fs_part_fields p) (fs_fields volume) bytes refl refl fits (fs_fields_fit volume h) read e in
    cc

-- two ids whose file system information is spelled alike are one
pub fs_same : (a b : List ℕ) → IsId a → IsId b → fs_bytes a ≡ fs_bytes b → a ≡ b
unfolding fs_bytes
fs_same a b h k e =
    let read = front-padded 36 (spelled (fs_fields a)) (length-spelled (fs_fields a) (fs_fields_fit a h)) in
    let same : fs_fields a ≡ fs_fields b = read_same 36 (fs_fields a) (fs_fields b) (fs_bytes a) refl refl (fs_fields_fit a h) (fs_fields_fit b k) read e in
    cc

pub total_fits : (g : Geom) → IsGeom g → total_of g < 256 ^ 4
total_fits g is =
    let most = bounds g is in
    omega arith

pub vol_fields_fit : (g : Geom) (volume : List ℕ) → IsVol g volume → FieldsFit (vol_fields g volume)
vol_fields_fit g volume h =
    let is = h.is_geom in
    let slots : g.slots ≤ 16 = (is Slots).1 in
    let block : g.block ≤ 2048 = (is Block).1 in
    let fd : clusters_of g Fd ≤ 8 = (is (Clusters Fd)).1 in
    let sb : clusters_of g Sb ≤ 8 = (is (Clusters Sb)).1 in
    let pb : clusters_of g Pb ≤ 8 = (is (Clusters Pb)).1 in
    let fb : clusters_of g Fb ≤ 8 = (is (Clusters Fb)).1 in
    let fd_items : per_cluster g Fd ≤ 256 = (is (Items Fd)).1 in
    let sb_items : per_cluster g Sb ≤ 3840 = (is (Items Sb)).1 in
    let pb_items : per_cluster g Pb ≤ 3840 = (is (Items Pb)).1 in
    let fb_items : per_cluster g Fb ≤ 3840 = (is (Items Fb)).1 in (
      refl,
      (
        length-zeros 2,
        (
          omega arith,
          (
            total_fits g is,
            (
              h.is_id,
              (
                omega arith,
                (
                  omega arith,
                  (omega arith, (omega arith, (omega arith, (omega arith, (omega arith, (omega arith, (omega arith, (omega arith, tt)))))))),
                ),
              ),
            ),
          ),
        ),
      ),
    )

four_numbers : (xs : List ℕ) → length xs ≡ 4 → xs ≡ slice_index xs 0 ∷ slice_index xs 1 ∷ slice_index xs 2 ∷ slice_index xs 3 ∷ []
four_numbers [] h = absurd (omega arith)
four_numbers (a ∷ []) h = absurd (omega arith)
four_numbers (a ∷ b ∷ []) h = absurd (omega arith)
four_numbers (a ∷ b ∷ c ∷ []) h = absurd (omega arith)
four_numbers (a ∷ b ∷ c ∷ d ∷ []) h = refl
four_numbers (a ∷ b ∷ c ∷ d ∷ e ∷ xs) h = absurd (omega arith)

low : (x y : ℕ) → x ≡ y → y ≤ 16 → x % 256 ≡ y
low x y e h = omega arith

same_geom : (a b : Geom) → a.slots ≡ b.slots → a.block ≡ b.block → a.clusters ≡ b.clusters → a.items ≡ b.items → a ≡ b
same_geom a b p q r s =
    let made : Geom = record { slots = a.slots; block = a.block; clusters = a.clusters; items = a.items } in
    let same : made ≡ b = rw (p, q, r, s) refl in
    same

four_same : (a b c d : ℕ) (xs : List ℕ) → length xs ≡ 4 → a ≡ slice_index xs 0 → b ≡ slice_index xs 1 → c ≡ slice_index xs 2 → d ≡ slice_index xs 3 → a ∷ b ∷ c ∷ d ∷ [] ≡ xs
four_same a b c d xs h p q r s =
    let all : a ∷ b ∷ c ∷ d ∷ [] ≡ slice_index xs 0 ∷ slice_index xs 1 ∷ slice_index xs 2 ∷ slice_index xs 3 ∷ [] = rw (p, q, r, s) refl in
    all ∙ sym (four_numbers xs h)

-- what was read of a sector that spells a volume information is what it spells
pub names_vol : (bytes volume : List ℕ) (p : VolParts) (g : Geom) → FieldsFit (vol_part_fields p) → IsVol g volume → front 52 bytes ≡ spelled (vol_part_fields p) → bytes ≡ vol_bytes g volume → (geom_of p ≡ g) × (p.volume ≡ volume)
unfolding vol_bytes
names_vol bytes volume p g fits h read e =
    let is = h.is_geom in
    let same : vol_part_fields p ≡ vol_fields g volume = read_same 52 (vol_part_fields p) (vol_fields g volume) bytes refl refl fits (vol_fields_fit g volume h) read e in
    let id : p.volume ≡ volume = cc in
    let slots : p.slots ≡ g.slots = cc in
    let block : p.block ≡ g.block = cc in
    let fd : p.fd_clusters ≡ clusters_of g Fd = cc in
    let sb : p.sb_clusters ≡ clusters_of g Sb = cc in
    let pb : p.pb_clusters ≡ clusters_of g Pb = cc in
    let fb : p.fb_clusters ≡ clusters_of g Fb = cc in
    let fd_items : p.fd_items ≡ per_cluster g Fd = cc in
    let sb_items : p.sb_items ≡ per_cluster g Sb = cc in
    let pb_items : p.pb_items ≡ per_cluster g Pb = cc in
    let fb_items : p.fb_items ≡ per_cluster g Fb = cc in
    let to_slots : g.slots ≤ 16 = (is Slots).1 in
    let to_fd : clusters_of g Fd ≤ 8 = (is (Clusters Fd)).1 in
    let to_sb : clusters_of g Sb ≤ 8 = (is (Clusters Sb)).1 in
    let to_pb : clusters_of g Pb ≤ 8 = (is (Clusters Pb)).1 in
    let to_fb : clusters_of g Fb ≤ 8 = (is (Clusters Fb)).1 in (
      same_geom (geom_of p) g (low p.slots g.slots slots to_slots) block
          (four_same _ _ _ _ g.clusters h.shape.four_clusters (low p.fd_clusters (clusters_of g Fd) fd (omega arith)) (low p.sb_clusters (clusters_of g Sb) sb (omega arith))
          (low p.pb_clusters (clusters_of g Pb) pb (omega arith)) (low p.fb_clusters (clusters_of g Fb) fb (omega arith)))
          (four_same _ _ _ _ g.items h.shape.four_items fd_items sb_items pb_items fb_items),
      id,
    )

-- two volumes whose information is spelled alike are one
pub vol_same : (g h : Geom) (a b : List ℕ) → IsVol g a → IsVol h b → vol_bytes g a ≡ vol_bytes h b → (g ≡ h) × (a ≡ b)
unfolding vol_bytes
vol_same g h a b p q e =
    let read = front-padded 52 (spelled (vol_fields g a)) (length-spelled (vol_fields g a) (vol_fields_fit g a p)) in
    let same : vol_fields g a ≡ vol_fields h b = read_same 52 (vol_fields g a) (vol_fields h b) (vol_bytes g a) refl refl (vol_fields_fit g a p) (vol_fields_fit h b q) read e in
    let id : a ≡ b = cc in
    let slots : g.slots ≡ h.slots = cc in
    let block : g.block ≡ h.block = cc in
    let fd : clusters_of g Fd ≡ clusters_of h Fd = cc in
    let sb : clusters_of g Sb ≡ clusters_of h Sb = cc in
    let pb : clusters_of g Pb ≡ clusters_of h Pb = cc in
    let fb : clusters_of g Fb ≡ clusters_of h Fb = cc in
    let fd_items : per_cluster g Fd ≡ per_cluster h Fd = cc in
    let sb_items : per_cluster g Sb ≡ per_cluster h Sb = cc in
    let pb_items : per_cluster g Pb ≡ per_cluster h Pb = cc in
    let fb_items : per_cluster g Fb ≡ per_cluster h Fb = cc in (
      same_geom g h slots block
          (four_numbers g.clusters p.shape.four_clusters ∙ four_same _ _ _ _ h.clusters q.shape.four_clusters fd sb pb fb)
          (four_numbers g.items p.shape.four_items ∙ four_same _ _ _ _ h.items q.shape.four_items fd_items sb_items pb_items fb_items),
      id,
    )

pub both_same : (r : Geom × List ℕ) (g : Geom) (volume : List ℕ) → r.0 ≡ g → r.1 ≡ volume → r ≡ (g, volume)
both_same r g volume p q =
    let same : (r.0, r.1) ≡ (g, volume) = rw (p, q) refl in
    same
