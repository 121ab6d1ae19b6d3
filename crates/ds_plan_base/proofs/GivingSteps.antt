-- Bitmaps without items that are given up, cluster after cluster.
use Rattle.std.proofs.Common.{◌≡◌, ℕ, suc, ◌+◌, ◌-◌, ◌<◌, ◌≤◌, true, false, if◌then◌else◌, List, [], ◌∷◌, ◌++◌, refl, sym, ap, ◌∙◌, arith, append_assoc, append-nil}
use Rattle.std.specs.Prelude.{Result, Ok, Err}
use Rattle.ds_base.specs.Geometry.{clusters_of}
use Rattle.ds_base.specs.declared.geometry.Geom.{Geom}
use Rattle.ds_base.specs.declared.geometry.Kind.{Kind}
use Rattle.ds_bitmap.specs.Bits.{Bitmap}
use Rattle.ds_image_parts.specs.Parts.{Parts}
use Rattle.ds_image_parts.specs.Pending.{Pair}
use Rattle.ds_image.specs.SeenValues.{SeenValue}
use Rattle.ds_jrnl.specs.declared.redo.Redo.{Redo}
use Rattle.ds_plan_base.specs.Giving.{Maps, some_outside, is_touched, map_left, maps_from, map_sector, map_sectors, with_maps_left, given_up}
use Rattle.ds_plan_base.specs.Steps.{after}
use Rattle.ds_plan_base.specs.declared.stops.Stop.{Stop}
use Rattle.ds_plan_base.specs.declared.stops.Stop.TheVariants.{Odd}

-- what is written so far, and the bitmaps that are still to come
abbrev pub written_from : Geom → SeenValue → Parts → Kind → List ℕ → Redo → ℕ → Result Redo Stop
written_from g seen p kind items redo from = after (maps_from g seen p kind items from (clusters_of g kind - from)) (λ maps. Ok (with_maps_left g kind redo maps))

one-more : (g : Geom) (kind : Kind) (before after_it : Redo) (from : ℕ) (map : Bitmap) (maps : Maps) → after_it.pairs.items ≡ before.pairs.items ++ map_sector g kind (from, map) ∷ []
    → with_maps_left g kind before ((from, map) ∷ maps) ≡ with_maps_left g kind after_it maps
one-more g kind before after_it from map maps more =
    ap (λ (xs : List Pair). record { pairs = record { items = xs } })
    (sym (append_assoc before.pairs.items (map_sector g kind (from, map) ∷ []) (map_sectors g kind maps)) ∙ ap (λ xs. xs ++ map_sectors g kind maps) (sym more))

module _ (g : Geom) (seen : SeenValue) (p : Parts) (kind : Kind) (items : List ℕ) (redo : Redo) (from : ℕ) (l : from < clusters_of g kind) where
  abbrev next : Result Maps Stop
  next = maps_from g seen p kind items (suc from) (clusters_of g kind - suc from)

  step : written_from g seen p kind items redo from
      ≡ after (if is_touched g kind from items then after (map_left g seen p kind from items) (λ map. after next (λ maps. Ok ((from, map) ∷ maps))) else next) (λ maps. Ok (with_maps_left g kind redo maps))
  step =
      let more : clusters_of g kind - from ≡ suc (clusters_of g kind - suc from) = omega (arith, l) in
      ap (λ n. after (maps_from g seen p kind items from n) (λ maps. Ok (with_maps_left g kind redo maps))) more

  touched-step : is_touched g kind from items ≡ true
      → written_from g seen p kind items redo from ≡ after (after (map_left g seen p kind from items) (λ map. after next (λ maps. Ok ((from, map) ∷ maps)))) (λ maps. Ok (with_maps_left g kind redo maps))
  touched-step touched =
      step ∙ ap (λ t. after (if t then after (map_left g seen p kind from items) (λ map. after next (λ maps. Ok ((from, map) ∷ maps))) else next) (λ maps. Ok (with_maps_left g kind redo maps))) touched

  pub give-err : (stop : Stop) → is_touched g kind from items ≡ true → map_left g seen p kind from items ≡ Err stop → written_from g seen p kind items redo from ≡ Err stop
  give-err stop touched is =
      touched-step touched ∙ ap (λ r. after (after r (λ map. after next (λ maps. Ok ((from, map) ∷ maps)))) (λ maps. Ok (with_maps_left g kind redo maps))) is

  pub give-more : (map : Bitmap) (written : Redo) → is_touched g kind from items ≡ true → map_left g seen p kind from items ≡ Ok map
      → written.pairs.items ≡ redo.pairs.items ++ map_sector g kind (from, map) ∷ []
      → written_from g seen p kind items redo from ≡ written_from g seen p kind items written (from + 1)
  give-more map written touched is more =
      let one : suc from ≡ from + 1 = omega arith in
      touched-step touched ∙ ap (λ r. after (after r (λ map. after next (λ maps. Ok ((from, map) ∷ maps)))) (λ maps. Ok (with_maps_left g kind redo maps))) is
      ∙ joined next ∙ ap (written_from g seen p kind items written) one
    where
      joined : (r : Result Maps Stop) → after (after r (λ maps. Ok ((from, map) ∷ maps))) (λ maps. Ok (with_maps_left g kind redo maps)) ≡ after r (λ maps. Ok (with_maps_left g kind written maps))
      joined (Ok maps) = ap Ok (one-more g kind redo written from map maps more)
      joined (Err stop) = refl

  pub give-skip : is_touched g kind from items ≡ false → written_from g seen p kind items redo from ≡ written_from g seen p kind items redo (from + 1)
  give-skip none =
      let one : suc from ≡ from + 1 = omega arith in
      step ∙ ap (λ t. after (if t then after (map_left g seen p kind from items) (λ map. after next (λ maps. Ok ((from, map) ∷ maps))) else next) (λ maps. Ok (with_maps_left g kind redo maps))) none
      ∙ ap (written_from g seen p kind items redo) one

pub give-end : (g : Geom) (seen : SeenValue) (p : Parts) (kind : Kind) (items : List ℕ) (redo : Redo) (from : ℕ) → clusters_of g kind ≤ from
    → written_from g seen p kind items redo from ≡ Ok redo
give-end g seen p kind items redo from past =
    let none : clusters_of g kind - from ≡ 0 = omega (arith, past) in
    ap (λ n. after (maps_from g seen p kind items from n) (λ maps. Ok (with_maps_left g kind redo maps))) none
    ∙ ap (λ (xs : List Pair). Ok (record { pairs = record { items = xs } })) (append-nil redo.pairs.items)

pub give-start : (g : Geom) (seen : SeenValue) (p : Parts) (kind : Kind) (items : List ℕ) (listed : ℕ) (redo : Redo) → some_outside g kind items ≡ false
    → given_up g seen p kind items listed redo ≡ written_from g seen p kind items redo 0
give-start g seen p kind items listed redo inside =
    let all : clusters_of g kind ≡ clusters_of g kind - 0 = omega arith in
    ap (λ t. after (if t then Err (Odd listed) else maps_from g seen p kind items 0 (clusters_of g kind)) (λ maps. Ok (with_maps_left g kind redo maps))) inside
    ∙ ap (λ n. after (maps_from g seen p kind items 0 n) (λ maps. Ok (with_maps_left g kind redo maps))) all
