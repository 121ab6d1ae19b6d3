-- A volume is formatted one sector after another.
use Rattle.std.proofs.Common.{◌≡◌, ℕ, ◌+◌, ◌-◌, ◌<◌, ⊎_elim, List, [], ◌∷◌, ◌++◌, length, get_or, slice_get, Some, sym, ap, subst, ◌∙◌, length-append, arith}
use Rattle.std.proofs.lemmas.Bool.{cases_lt}
use Rattle.std.proofs.lemmas.List.{get_or_append_left, get_or-append_right}
use Rattle.std.proofs.lemmas.Option.{slice_get-get_or, slice_get_within}
use Rattle.ds_base.specs.declared.geometry.Geom.{Geom}
use Rattle.ds_base.specs.declared.sectors.Sector.{Sector}
use Rattle.ds_base.specs.Geometry.{IsGeom}
use Rattle.ds_layout.proofs.SamePlace.{place_within}
use Rattle.ds_layout.specs.Places.{IsPlace, place_sector, total_of}
use Rattle.ds_layout.specs.declared.places.Place.{Place}
use Rattle.ds_image.specs.Formatted.{formatted_at, IsFormatted}
use Rattle.ds_image_parts.specs.Looks.{HasBytes}

-- the first n sectors of the formatted volume
pub record IsFormattedUpTo (g : Geom) (volume : List ℕ) (n : ℕ) (sectors : List Sector) : Type 0 where
  pub size : length sectors ≡ n
  pub each : (place : Place) → IsPlace g place → place_sector g place < n → HasBytes (slice_get sectors) (place_sector g place) (formatted_at g volume place)

pub none_yet : (g : Geom) (volume : List ℕ) (sectors : List Sector) → sectors ≡ [] → IsFormattedUpTo g volume 0 sectors
none_yet g volume sectors e = record { size = ap length e; each = λ place h l. absurd (omega arith) }

kept : (sectors : List Sector) (s : Sector) (at : ℕ) (bytes : List ℕ) → HasBytes (slice_get sectors) at bytes → HasBytes (slice_get (sectors ++ s ∷ [])) at bytes
kept sectors s at bytes h =
    let old : Sector = h.0 in
    let l : at < length sectors = slice_get_within sectors at old h.1 in
    let there : slice_get (sectors ++ s ∷ []) at ≡ Some old =
    slice_get-get_or (sectors ++ s ∷ []) at old (omega (arith, length-append sectors (s ∷ [])))
    ∙ ap Some (get_or_append_left sectors (s ∷ []) old at l)
    ∙ sym (slice_get-get_or sectors at old l)
    ∙ h.1 in
    (old, there, h.2)

added : (sectors : List Sector) (s : Sector) (at : ℕ) → length sectors ≡ at → slice_get (sectors ++ s ∷ []) at ≡ Some s
added sectors s at size =
    let first : at - at ≡ 0 = omega arith in
    slice_get-get_or (sectors ++ s ∷ []) at s (omega (arith, length-append sectors (s ∷ [])))
    ∙ ap Some (get_or-append_right sectors (s ∷ []) at at s size (omega arith) ∙ ap (λ k. get_or (s ∷ []) k s) first)

-- the next sector is added behind them
pub one_more : (g : Geom) (volume : List ℕ) (n : ℕ) (sectors more : List Sector) (s : Sector) → more ≡ sectors ++ s ∷ [] → IsFormattedUpTo g volume n sectors
    → ((place : Place) → IsPlace g place → place_sector g place ≡ n → s.bytes ≡ formatted_at g volume place) → IsFormattedUpTo g volume (n + 1) more
one_more g volume n sectors more s e so_far next =
    let UpTo : List Sector → Type 0 = λ ss. IsFormattedUpTo g volume (n + 1) ss in
    subst UpTo (sym e) (record {
      size = length-append sectors (s ∷ []) ∙ omega (arith, so_far.size);
      each = λ place h l.
          ⊎_elim
          (λ (below : place_sector g place < n). kept sectors s (place_sector g place) (formatted_at g volume place) (so_far.each place h below))
          (λ above.
          let here : place_sector g place ≡ n = omega arith in
          (s, ap (slice_get (sectors ++ s ∷ [])) here ∙ added sectors s n so_far.size, next place h here))
          (cases_lt (place_sector g place) n);
    })

-- all of them are the formatted volume
pub all_formatted : (g : Geom) (volume : List ℕ) (n : ℕ) (sectors : List Sector) → IsGeom g → n ≡ total_of g → IsFormattedUpTo g volume n sectors → IsFormatted g volume sectors
all_formatted g volume n sectors is all up_to = record {
  size = up_to.size ∙ all;
  each = λ place h. up_to.each place h (omega (arith, place_within g place is h));
}
