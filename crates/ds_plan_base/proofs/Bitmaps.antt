-- Bitmaps of clusters: what their sectors spell, and their first clear bit.
use Rattle.std.proofs.Common.{◌≡◌, ℕ, zero, suc, ◌+◌, ◌-◌, ◌%◌, ◌<◌, Bool, true, false, List, [], ◌∷◌, slice_get, option_map, Option, Some, None, MatchOption, refl, sym, ap, ◌∙◌, arith}
use Rattle.std.specs.Prelude.{Result, Ok, Err}
use Rattle.std.specs.Result.{IsErrAnd}
use Rattle.std.proofs.Math.Nat.{mod-lt}
use Rattle.ds_base.specs.Decoding.{IsDecoded}
use Rattle.ds_base.specs.Geometry.{IsGeom, clusters_of}
use Rattle.ds_base.specs.declared.geometry.Geom.{Geom}
use Rattle.ds_base.specs.declared.geometry.GeomField.TheVariants.{Clusters}
use Rattle.ds_base.specs.declared.geometry.Kind.{Kind}
use Rattle.ds_base.specs.declared.sectors.Sector.{Sector}
use Rattle.ds_bitmap.specs.Bits.{Bitmap, IsBits, bits_bytes, AllUsed, IsFirstFree}
use Rattle.ds_image_parts.specs.Looks.{Look}
use Rattle.ds_image_parts.specs.Parts.{Parts, part_at, maps_of}
use Rattle.ds_image_parts.specs.Readings.{ReadsParts, SpellsBits}
use Rattle.ds_image_parts.proofs.Spelling.Decoded.{decoded_same, spelled_at}
use Rattle.ds_layout.specs.Places.{place_sector}
use Rattle.ds_layout.specs.declared.places.Place.TheVariants as places
use Rattle.ds_image.specs.SeenValues.{SeenValue}
use Rattle.ds_plan_base.specs.Items.{first_clear, map_seen, item_or, item_from}
use Rattle.ds_plan_base.specs.declared.items.FreeItem.{FreeItem}
use Rattle.ds_image.specs.Locks.{cluster_tried}
use Rattle.ds_plan_base.specs.Steps.{after}
use Rattle.ds_plan_base.specs.declared.stops.Stop.{Stop}

-- what is decoded of a sector that is there is the part of its number
pub map_decoded : (g : Geom) (look : Look) (p : Parts) (kind : Kind) (cluster at : ℕ) (s : Sector) (r : Option Bitmap) → cluster < clusters_of g kind
    → at ≡ place_sector g (places.Bitmap kind cluster) → look at ≡ Some s
    → IsDecoded r (λ b. IsBits g kind cluster b × (s.bytes ≡ bits_bytes b)) → ReadsParts g look p → r ≡ part_at (maps_of p kind) cluster
map_decoded g look p kind cluster at s r l here there read reads =
    decoded_same r (part_at (maps_of p kind) cluster) (SpellsBits g look kind cluster)
    (spelled_at look (place_sector g (places.Bitmap kind cluster)) s (IsBits g kind cluster) bits_bytes r (ap look (sym here) ∙ there) read)
    ((reads.maps kind).each cluster l)

-- there are clusters of each kind, at most eight
pub tried-within : (g : Geom) (kind : Kind) (n : ℕ) → IsGeom g → n % clusters_of g kind < clusters_of g kind
tried-within g kind n is = mod-lt n (omega (arith, (is (Clusters kind)).0))

-- the first item that is not used
pub first_clear-some : (used : List Bool) (item : ℕ) → IsFirstFree used item → first_clear used ≡ Some item
first_clear-some [] item is = absurd (let wrong : None ≡ Some false = is.is_free in cc)
first_clear-some (false ∷ used) zero is = refl
first_clear-some (false ∷ used) (suc item) is = absurd (let wrong : Some false ≡ Some true = is.used_before 0 (omega arith) in cc)
first_clear-some (true ∷ used) zero is = absurd (let wrong : Some true ≡ Some false = is.is_free in cc)
first_clear-some (true ∷ used) (suc item) is =
    ap (option_map suc) (first_clear-some used item (record { is_free = is.is_free; used_before = λ k l. is.used_before (suc k) (omega (arith, l)) }))

pub first_clear-none : (used : List Bool) → AllUsed used → first_clear used ≡ None
first_clear-none [] all = refl
first_clear-none (false ∷ used) all = absurd (let wrong : Some false ≡ Some true = all 0 (omega arith) in cc)
first_clear-none (true ∷ used) all = ap (option_map suc) (first_clear-none used (λ k l. all (suc k) (omega (arith, l))))

pub first_clear-is : (used : List Bool) (r : Option ℕ) → MatchOption r (AllUsed used) (λ item. IsFirstFree used item) → r ≡ first_clear used
first_clear-is used None is = sym (first_clear-none used is)
first_clear-is used (Some item) is = sym (first_clear-some used item is)

first_clear-behind : (used : List Bool) (item : ℕ) (r : Option ℕ) → ((k : ℕ) → first_clear used ≡ Some k → slice_get used k ≡ Some false)
    → first_clear used ≡ r → option_map suc r ≡ Some item → slice_get (true ∷ used) item ≡ Some false
first_clear-behind used item None each first e = absurd cc
first_clear-behind used item (Some k) each first e = let same : suc k ≡ item = cc in ap (slice_get (true ∷ used)) (sym same) ∙ each k first

pub first_clear-free : (used : List Bool) (item : ℕ) → first_clear used ≡ Some item → slice_get used item ≡ Some false
first_clear-free [] item is = absurd cc
first_clear-free (false ∷ used) item is = let same : 0 ≡ item = cc in ap (slice_get (false ∷ used)) (sym same)
first_clear-free (true ∷ used) item is = first_clear-behind used item (first_clear used) (first_clear-free used) refl is

-- what is asked for is handed on
pub err-handed : {V : Type 0} (r read : Result V Stop) (stop : Stop) → IsErrAnd r (λ e. e ≡ stop) → read ≡ Err stop → r ≡ read
err-handed (Ok v) read stop err is = absurd err
err-handed (Err other) read stop err is = ap Err err ∙ sym is

-- the clusters that are left, one after another
module _ (g : Geom) (slot : ℕ) (seen : SeenValue) (p : Parts) (kind : Kind) (tried cluster : ℕ) (l : tried < clusters_of g kind)
    (here : cluster ≡ cluster_tried g slot kind tried) where
  abbrev left : ℕ → Result (Option FreeItem) Stop
  left n = item_from g slot seen p kind n (clusters_of g kind - n)

  abbrev next : Bitmap → Result (Option FreeItem) Stop
  next map = item_or (cluster_tried g slot kind tried) map (first_clear map.used) (item_from g slot seen p kind (suc tried) (clusters_of g kind - suc tried))

  free-step : left tried ≡ after (map_seen g seen p kind (cluster_tried g slot kind tried)) next
  free-step =
      let more : clusters_of g kind - tried ≡ suc (clusters_of g kind - suc tried) = omega (arith, l) in
      ap (item_from g slot seen p kind tried) more

  pub free-err : (stop : Stop) → map_seen g seen p kind cluster ≡ Err stop → left tried ≡ Err stop
  free-err stop is = free-step ∙ ap (λ r. after r next) (ap (map_seen g seen p kind) (sym here) ∙ is)

  pub free-some : (map : Bitmap) (item : ℕ) → map_seen g seen p kind cluster ≡ Ok map → first_clear map.used ≡ Some item
      → left tried ≡ Ok (Some (record { cluster = cluster; item = item; map = map }))
  free-some map item is first =
      free-step ∙ ap (λ r. after r next) (ap (map_seen g seen p kind) (sym here) ∙ is)
      ∙ ap (λ r. item_or (cluster_tried g slot kind tried) map r (left (suc tried))) first
      ∙ ap (λ c. Ok (Some (record { cluster = c; item = item; map = map }))) (sym here)

  pub free-more : (map : Bitmap) → map_seen g seen p kind cluster ≡ Ok map → first_clear map.used ≡ None → left tried ≡ left (tried + 1)
  free-more map is first =
      let one : suc tried ≡ tried + 1 = omega arith in
      free-step ∙ ap (λ r. after r next) (ap (map_seen g seen p kind) (sym here) ∙ is)
      ∙ ap (λ r. item_or (cluster_tried g slot kind tried) map r (left (suc tried))) first
      ∙ ap left one
