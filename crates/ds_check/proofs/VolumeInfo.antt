-- What the first sector tells of a volume.
use Rattle.std.proofs.Common.{◌≡◌, ◌≢◌, ℕ, List, Option, Some, None, [], ◌∷◌, inl, inr, length, min, slice_get, refl, subst, arith}
use Rattle.ds_base.specs.Decoding.{IsDecoded}
use Rattle.ds_base.specs.declared.geometry.Geom.{Geom}
use Rattle.ds_base.specs.declared.sectors.Sector.{Sector}
use Rattle.ds_layout.specs.Places.{total_of}
use Rattle.ds_layout.specs.Volume.{IsVol, vol_bytes}
use Rattle.ds_check.specs.Volumes.{SpellsVolume, IsBadImage}

-- the information of a volume in these bytes
abbrev pub Informs : Sector → Geom × List ℕ → Type 0
Informs first v = IsVol v.0 v.1 × (first.bytes ≡ vol_bytes v.0 v.1)

no_sector : (sectors : List Sector) → slice_get sectors 0 ≡ None → IsBadImage sectors 0
no_sector sectors none = inl (record { none = λ g id s. let there : slice_get sectors 0 ≡ Some s.1.0 = s.1.1 in absurd cc; here = refl })

pub no_first : (sectors : List Sector) → length sectors ≡ 0 → IsBadImage sectors 0
no_first [] none = no_sector [] refl
no_first (first ∷ more) none = absurd (omega arith)

pub not_spelled : (sectors : List Sector) (first : Sector) (r : Option (Geom × List ℕ)) → slice_get sectors 0 ≡ Some first
    → IsDecoded r (Informs first) → r ≡ None → IsBadImage sectors 0
not_spelled sectors first r here read none = inl (record {
  none = λ g id s.
      let there : slice_get sectors 0 ≡ Some s.1.0 = s.1.1 in
      let same : s.1.0 ≡ first = cc in
      let bytes : first.bytes ≡ vol_bytes g id = subst (λ (t : Sector). t.bytes ≡ vol_bytes g id) same s.1.2 in
      let found : r ≡ Some (g, id) = (read (g, id)).1 (s.0, bytes) in
      absurd cc;
  here = refl;
})

pub spelled : (sectors : List Sector) (first : Sector) (r : Option (Geom × List ℕ)) (g : Geom) (id : List ℕ) → slice_get sectors 0 ≡ Some first
    → IsDecoded r (Informs first) → r ≡ Some (g, id) → SpellsVolume sectors g id
spelled sectors first r g id here read some =
    let informs = (read (g, id)).0 some in
    (informs.0, (first, here, informs.1))

pub other_size : (sectors : List Sector) (g : Geom) (id : List ℕ) (at : ℕ) → SpellsVolume sectors g id → length sectors ≢ total_of g
    → at ≡ min (length sectors) (total_of g) → IsBadImage sectors at
other_size sectors g id at spells other least = inr (record { geom = g; id = id; spelled = spells; other = other; here = least })
