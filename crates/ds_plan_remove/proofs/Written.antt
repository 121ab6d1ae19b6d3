-- The bitmaps that are written to take an object away, kind after kind: they clear its items, stand in their order, and their
-- clusters are held.
use Rattle.std.proofs.Common.{◌≡◌, ◌≢◌, ℕ, zero, suc, ◌+◌, ◌<◌, ◌≤◌, ◌⊎◌, inl, inr, List, [], ◌∷◌, ◌++◌, length, Option, None, Some, true, refl, sym, ap, subst, ◌∙◌, arith, slice_get, length-append}
use Rattle.std.proofs.lemmas.List.{length-map, map-append}
use Rattle.ds_base.specs.Geometry.{IsGeom, clusters_of}
use Rattle.ds_base.specs.declared.geometry.Geom.{Geom}
use Rattle.ds_base.specs.declared.geometry.GeomField.TheVariants.{Clusters}
use Rattle.ds_base.specs.declared.geometry.Kind.{Kind}
use Rattle.ds_base.specs.declared.geometry.Kind.TheVariants.{Fd, Sb, Pb, Fb}
use Rattle.ds_base.specs.declared.sectors.Sector.{Sector}
use Rattle.ds_plan_laws_gone.specs.MapWrites.{MapWrite, map_pair, map_pairs, ClearsMaps}
use Rattle.ds_image.specs.Asking.{Agrees}
use Rattle.ds_image_parts.specs.Parts.{Parts}
use Rattle.ds_image_parts.specs.Pending.{Pair}
use Rattle.ds_image_parts.specs.Readings.{ReadsParts}
use Rattle.ds_image.specs.SeenValues.{SeenValue, has_lock, look_of}
use Rattle.ds_image.specs.Sound.{StandsFor}
use Rattle.ds_image_tables.proofs.Spelling.Places.{at-append}
use Rattle.ds_jrnl.specs.declared.redo.Redo.{Redo}
use Rattle.ds_layout.specs.Places.{cluster_lock, place_sector}
use Rattle.ds_layout.specs.declared.places.Place.TheVariants as places
use Rattle.ds_plan_base.specs.Giving.{Maps, map_sectors, with_maps_left}
use Rattle.ds_plan_base.proofs.Cleared.{ClearsKind, ClearsSome, map_write, map_writes, writes-sectors, write-of, clears-none, clears-more, clears-all, left-clears}
use Rattle.ds_plan_base.proofs.GivingWalk.{AreMarked, map-known}
use Rattle.ds_plan_base.proofs.MapsLeft.{AreLeft}
use Rattle.ds_tree.specs.Nodes.{FileTree}

-- the items of each kind that go, by the parts of an image
abbrev pub Given : Type 0
Given = Parts → Kind → List ℕ

-- the bitmaps of some kinds that are written
pub record AreWritten (g : Geom) (seen : SeenValue) (given : Given) (Done : Kind → Type 0) (most : ℕ) (redo : Redo) (writes : List MapWrite) : Type 0 where
  pub few : length writes ≤ most
  pub pairs : redo.pairs.items ≡ map_pairs g writes
  pub clears : (image : List Sector) (t : FileTree) (stands : StandsFor g image t) → Agrees seen image → ClearsSome g stands.parts (given stands.parts) Done writes
  pub inside : (i : ℕ) (w : MapWrite) → slice_get writes i ≡ Some w → w.cluster < clusters_of g w.kind
  pub held : (i : ℕ) (w : MapWrite) → slice_get writes i ≡ Some w → has_lock seen (cluster_lock w.kind w.cluster) ≡ true
  pub of : (i : ℕ) (w : MapWrite) → slice_get writes i ≡ Some w → Done w.kind
  pub rising : (i j : ℕ) (w v : MapWrite) → i < j → slice_get writes i ≡ Some w → slice_get writes j ≡ Some v
      → place_sector g (places.Bitmap w.kind w.cluster) < place_sector g (places.Bitmap v.kind v.cluster)

pub nothing-written : (g : Geom) (seen : SeenValue) (given : Given) → AreWritten g seen given (λ kind. ⊥) 0 (record { pairs = record { items = [] } }) []
nothing-written g seen given = record {
  few = omega arith;
  pairs = refl;
  clears = λ image t stands agrees. clears-none g stands.parts (given stands.parts);
  inside = λ i w at. absurd (let wrong : ◌≡◌ {A = Option MapWrite} None (Some w) = at in cc);
  held = λ i w at. absurd (let wrong : ◌≡◌ {A = Option MapWrite} None (Some w) = at in cc);
  of = λ i w at. absurd (let wrong : ◌≡◌ {A = Option MapWrite} None (Some w) = at in cc);
  rising = λ i j w v l one two. absurd (let wrong : ◌≡◌ {A = Option MapWrite} None (Some w) = one in cc);
}

module _ (g : Geom) (is_geom : IsGeom g) (seen : SeenValue) (p : Parts) (reads : ReadsParts g (look_of seen) p) (given : Given) where
  -- one kind more, whose bitmaps stand behind those before
  pub more-written : (Done : Kind → Type 0) (most : ℕ) (redo : Redo) (writes : List MapWrite) (kind : Kind) (items : List ℕ) (maps : Maps) → AreWritten g seen given Done most redo writes
      → ¬ Done kind → AreLeft g seen p kind items 0 maps
      → ((image : List Sector) (t : FileTree) (stands : StandsFor g image t) → Agrees seen image → given stands.parts kind ≡ items)
      → ((image : List Sector) (t : FileTree) (stands : StandsFor g image t) → Agrees seen image → AreMarked stands.parts kind items)
      → ((of : Kind) → Done of → (c c' : ℕ) → c < clusters_of g of → place_sector g (places.Bitmap of c) < place_sector g (places.Bitmap kind c'))
      → AreWritten g seen given (λ k. Done k ⊎ (kind ≡ k)) (most + 8) (with_maps_left g kind redo maps) (writes ++ map_writes kind maps)
  more-written Done most redo writes kind items maps are new left same owned before = record {
    few = omega (arith, are.few, length-append writes (map_writes kind maps), length-map maps (map_write kind), left.few, (is_geom (Clusters kind)).1);
    pairs =
        ap (λ (xs : List Pair). xs ++ map_sectors g kind maps) are.pairs ∙ ap (λ xs. map_pairs g writes ++ xs) (sym (writes-sectors g kind maps))
        ∙ sym (map-append (map_pair g) writes (map_writes kind maps));
    clears = λ image t stands agrees.
        clears-more g stands.parts (given stands.parts) Done writes kind maps (are.clears image t stands agrees) new
        (subst (λ l. ClearsKind g stands.parts kind l maps) (sym (same image t stands agrees))
        (left-clears g is_geom seen p reads kind items maps left image t stands agrees (owned image t stands agrees)));
    inside = λ i w at. elim (at-append writes (map_writes kind maps) i w at) [
      | inl front ↦ are.inside i w front
      | inr back ↦
          let one = write-of kind maps back.0 w back.2 in
          subst (λ (w : MapWrite). w.cluster < clusters_of g w.kind) one.2 (left.each back.0 one.0 one.1).inside
    ];
    held = λ i w at. elim (at-append writes (map_writes kind maps) i w at) [
      | inl front ↦ are.held i w front
      | inr back ↦
          let one = write-of kind maps back.0 w back.2 in
          let is = left.each back.0 one.0 one.1 in
          subst (λ (w : MapWrite). has_lock seen (cluster_lock w.kind w.cluster) ≡ true) one.2 (map-known g seen p reads kind one.0.0 is.before is.inside is.is_seen).held
    ];
    of = λ i w at. elim (at-append writes (map_writes kind maps) i w at) [
      | inl front ↦ inl (are.of i w front)
      | inr back ↦ inr (ap (λ (x : MapWrite). x.kind) (write-of kind maps back.0 w back.2).2)
    ];
    rising = λ i j w v l one two. elim (at-append writes (map_writes kind maps) i w one) [
      | inl front ↦ elim (at-append writes (map_writes kind maps) j v two) [
        | inl front' ↦ are.rising i j w v l front front'
        | inr back' ↦
            let b = write-of kind maps back'.0 v back'.2 in
            subst (λ (v : MapWrite). place_sector g (places.Bitmap w.kind w.cluster) < place_sector g (places.Bitmap v.kind v.cluster)) b.2
            (before w.kind (are.of i w front) w.cluster b.0.0 (are.inside i w front))
      ]
      | inr back ↦ elim (at-append writes (map_writes kind maps) j v two) [
        | inl front' ↦ absurd (omega (arith, l, back.1, within writes j v front'))
        | inr back' ↦
            let a = write-of kind maps back.0 w back.2 in
            let b = write-of kind maps back'.0 v back'.2 in
            let below : a.0.0 < b.0.0 = left.rising back.0 back'.0 a.0 b.0 (omega (arith, l, back.1, back'.1)) a.1 b.1 in
            subst (λ (w : MapWrite). place_sector g (places.Bitmap w.kind w.cluster) < place_sector g (places.Bitmap v.kind v.cluster)) a.2
            (subst (λ (v : MapWrite). place_sector g (places.Bitmap kind a.0.0) < place_sector g (places.Bitmap v.kind v.cluster)) b.2 (omega (arith, below)))
      ]
    ];
  }
    where
      within : (xs : List MapWrite) (j : ℕ) (v : MapWrite) → slice_get xs j ≡ Some v → j < length xs
      within [] j v at = absurd (let wrong : ◌≡◌ {A = Option MapWrite} None (Some v) = at in cc)
      within (x ∷ xs) zero v at = omega arith
      within (x ∷ xs) (suc j) v at = omega (arith, within xs j v at)

-- bitmaps of descriptors stand before those of the other kinds, and those of pointer blocks before those of file blocks
pub fd-first : (g : Geom) (kind : Kind) → kind ≢ Fd → (c c' : ℕ) → c < clusters_of g Fd → place_sector g (places.Bitmap Fd c) < place_sector g (places.Bitmap kind c')
fd-first g Fd other c c' l = absurd (other refl)
fd-first g Sb other c c' l = omega (arith, l)
fd-first g Pb other c c' l = omega (arith, l)
fd-first g Fb other c c' l = omega (arith, l)

pub pb-before_fb : (g : Geom) (c c' : ℕ) → c < clusters_of g Pb → place_sector g (places.Bitmap Pb c) < place_sector g (places.Bitmap Fb c')
pb-before_fb g c c' l = omega (arith, l)

-- all bitmaps that are written
pub record IsGiven (g : Geom) (seen : SeenValue) (given : Given) (redo : Redo) : Type 0 where
  pub writes : List MapWrite
  pub few : length writes ≤ 24
  pub pairs : redo.pairs.items ≡ map_pairs g writes
  pub clears : (image : List Sector) (t : FileTree) (stands : StandsFor g image t) → Agrees seen image → ClearsMaps g stands.parts (given stands.parts) writes
  pub inside : (i : ℕ) (w : MapWrite) → slice_get writes i ≡ Some w → w.cluster < clusters_of g w.kind
  pub held : (i : ℕ) (w : MapWrite) → slice_get writes i ≡ Some w → has_lock seen (cluster_lock w.kind w.cluster) ≡ true
  pub rising : (i j : ℕ) (w v : MapWrite) → i < j → slice_get writes i ≡ Some w → slice_get writes j ≡ Some v
      → place_sector g (places.Bitmap w.kind w.cluster) < place_sector g (places.Bitmap v.kind v.cluster)

pub all-written : (g : Geom) (seen : SeenValue) (given : Given) (Done : Kind → Type 0) (most : ℕ) (redo : Redo) (writes : List MapWrite) → AreWritten g seen given Done most redo writes → most ≤ 24
    → ((q : Parts) (kind : Kind) → Done kind ⊎ (given q kind ≡ [])) → IsGiven g seen given redo
all-written g seen given Done most redo writes are fits all = record {
  writes = writes;
  few = omega (arith, are.few, fits);
  pairs = are.pairs;
  clears = λ image t stands agrees. clears-all g stands.parts (given stands.parts) Done writes (are.clears image t stands agrees) (all stands.parts);
  inside = are.inside;
  held = are.held;
  rising = are.rising;
}
