-- A volume that is zero at first is formatted in front of its file blocks.
use Rattle.std.proofs.Common.{◌≡◌, ℕ, ◌+◌, ◌*◌, ◌<◌, ◌≤◌, ⊎_elim, inl, inr, nat_lt, true, List, length, get_or, replicate, slice_get, Some, refl, sym, ap, subst, ◌∙◌, length-set, arith}
use Rattle.std.specs.Prelude.{slice_set}
use Rattle.std.proofs.lemmas.Bool.{cases_lt}
use Rattle.std.proofs.lemmas.Bool.Decides.{nat_tests}
use Rattle.std.proofs.lemmas.List.{get_or-replicate, get_or-set_same, get_or-set_other, length-replicate}
use Rattle.std.proofs.lemmas.Option.{slice_get-get_or}
use Rattle.ds_base.specs.declared.geometry.Geom.{Geom}
use Rattle.ds_base.specs.declared.geometry.Kind.{Kind}
use Rattle.ds_base.specs.declared.geometry.Kind.TheVariants.{Fd, Sb, Pb, Fb}
use Rattle.ds_base.specs.declared.sectors.Sector.{Sector}
use Rattle.ds_base.specs.Geometry.{IsGeom, clusters_of, items_of}
use Rattle.ds_layout.proofs.Bounds.{bounds, header_of_cluster}
use Rattle.ds_layout.proofs.SamePlace.{place_within}
use Rattle.ds_layout.specs.Regions.{HasBounds}
use Rattle.ds_layout.specs.Places.{descriptors_at, cluster_at, header_sector, blocks_at, IsLock, IsPlace, place_sector, total_of}
use Rattle.ds_layout.specs.declared.places.Place.{Place}
use Rattle.ds_layout.specs.declared.places.Place.TheVariants as places
use Rattle.ds_lun.specs.Devices.{zero_sector}
use Rattle.ds_image.specs.Formatted.{formatted_at, IsFormatted}
use Rattle.ds_image_parts.specs.Looks.{HasBytes}
use Rattle.ds_layout.proofs.MetadataPlaces.{metadata_within}

-- the first n sectors of the formatted volume, and zero behind them
pub record IsFormattedInFront (g : Geom) (volume : List ℕ) (n : ℕ) (sectors : List Sector) : Type 0 where
  pub size : length sectors ≡ total_of g
  pub each : (place : Place) → IsPlace g place → place_sector g place < n → HasBytes (slice_get sectors) (place_sector g place) (formatted_at g volume place)
  pub rest : (k : ℕ) → n ≤ k → k < total_of g → slice_get sectors k ≡ Some zero_sector

put_there : (sectors : List Sector) (k : ℕ) (s : Sector) → k < length sectors → slice_get (slice_set sectors k s) k ≡ Some s
put_there sectors k s within =
    slice_get-get_or (slice_set sectors k s) k s (omega (arith, length-set sectors k s)) ∙ ap Some (get_or-set_same sectors k s s within)

put_elsewhere : (sectors : List Sector) (i k : ℕ) (s : Sector) → (k ≡ i → ⊥) → k < length sectors → slice_get (slice_set sectors i s) k ≡ slice_get sectors k
put_elsewhere sectors i k s apart within =
    slice_get-get_or (slice_set sectors i s) k s (omega (arith, length-set sectors i s))
    ∙ ap Some (get_or-set_other sectors i k s s apart) ∙ sym (slice_get-get_or sectors k s within)

pub none_put : (g : Geom) (volume : List ℕ) (sectors : List Sector) → sectors ≡ replicate (total_of g) zero_sector → IsFormattedInFront g volume 0 sectors
none_put g volume sectors is =
    let size : length sectors ≡ total_of g = ap (λ (all : List Sector). length all) is ∙ length-replicate (total_of g) zero_sector in
    record {
      size = size;
      each = λ place h l. absurd (omega arith);
      rest = λ k above within.
          slice_get-get_or sectors k zero_sector (omega arith)
          ∙ ap Some (ap (λ (all : List Sector). get_or all k zero_sector) is ∙ get_or-replicate (total_of g) k zero_sector zero_sector within);
    }

-- the next sector is put
pub one_put : (g : Geom) (volume : List ℕ) (n : ℕ) (sectors more : List Sector) (s : Sector) → IsGeom g → n < total_of g → more ≡ slice_set sectors n s
    → IsFormattedInFront g volume n sectors
    → ((place : Place) → IsPlace g place → place_sector g place ≡ n → s.bytes ≡ formatted_at g volume place) → IsFormattedInFront g volume (n + 1) more
one_put g volume n sectors more s is there e so_far next =
    let InFront : List Sector → Type 0 = λ ss. IsFormattedInFront g volume (n + 1) ss in
    subst InFront (sym e) (record {
      size = length-set sectors n s ∙ so_far.size;
      each = λ place h l.
          ⊎_elim
          (λ (below : place_sector g place < n).
          let old = so_far.each place h below in
          (old.0, put_elsewhere sectors n (place_sector g place) s (λ here. omega (arith, here, below)) (omega (arith, so_far.size, place_within g place is h)) ∙ old.1, old.2))
          (λ above.
          let here : place_sector g place ≡ n = omega arith in
          (s, ap (slice_get (slice_set sectors n s)) here ∙ put_there sectors n s (omega (arith, so_far.size)), next place h here))
          (cases_lt (place_sector g place) n);
      rest = λ k above within. put_elsewhere sectors n k s (λ here. omega (arith, here, above)) (omega (arith, so_far.size, within)) ∙ so_far.rest k (omega arith) within;
    })

-- Behind the first file block

cluster_in_front : (g : Geom) (kind : Kind) (cluster : ℕ) → cluster < clusters_of g kind → cluster_at g kind cluster < blocks_at g
cluster_in_front g Fd cluster h = omega arith
cluster_in_front g Sb cluster h = omega arith
cluster_in_front g Pb cluster h = omega arith
cluster_in_front g Fb cluster h = omega arith

header_in_front : (g : Geom) (object : ℕ) → HasBounds g → IsLock g object → header_sector g object < blocks_at g
header_in_front g object b (inl h) =
    let most : items_of g Fd ≤ 2048 = b.fd_items in
    let small : nat_lt object 2048 ≡ true = grind (arith, nat_tests) in
    let head : header_sector g object ≡ descriptors_at g + 2 * object = rw small refl in
    omega arith
header_in_front g object b (inr h) =
    omega (arith, header_of_cluster g h.kind h.cluster object b h.within h.number, cluster_in_front g h.kind h.cluster h.within)

zero_behind : (g : Geom) (volume : List ℕ) (place : Place) → HasBounds g → IsPlace g place → blocks_at g ≤ place_sector g place
    → zero_sector.bytes ≡ formatted_at g volume place
unfolding zero_sector
zero_behind g volume places.VolInfo b h behind = absurd (omega (arith, behind))
zero_behind g volume places.FsInfo b h behind = absurd (omega (arith, behind))
zero_behind g volume (places.Slot slot) b h behind = absurd (omega (arith, h, behind))
zero_behind g volume (places.Header object) b h behind = absurd (omega (arith, header_in_front g object b h, behind))
zero_behind g volume (places.Bitmap kind cluster) b h behind = absurd (omega (arith, metadata_within g (places.Bitmap kind cluster) h refl, behind))
zero_behind g volume (places.Body object) b h behind = absurd (omega (arith, h, behind))
zero_behind g volume (places.Journal slot index) b h behind = refl
zero_behind g volume (places.SubBlock n) b h behind = refl
zero_behind g volume (places.PtrBlock n) b h behind = refl
zero_behind g volume (places.Block block index) b h behind = refl

-- in front of the file blocks is all that is to be put
pub all_put : (g : Geom) (volume : List ℕ) (n : ℕ) (sectors : List Sector) → IsGeom g → n ≡ blocks_at g → IsFormattedInFront g volume n sectors → IsFormatted g volume sectors
all_put g volume n sectors is all in_front = record {
  size = in_front.size;
  each = λ place h.
      ⊎_elim
      (λ (below : place_sector g place < n). in_front.each place h below)
      (λ above.
      let behind : n ≤ place_sector g place = omega arith in
      (zero_sector, in_front.rest (place_sector g place) behind (place_within g place is h), zero_behind g volume place (bounds g is) h (omega (arith, all, behind))))
      (cases_lt (place_sector g place) n);
}
