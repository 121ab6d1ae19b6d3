-- The bitmaps of a kind without items, among those that are written: the bits of the items are cleared.
use Rattle.std.proofs.Common.{◌≡◌, ℕ, ◌+◌, ◌/◌, ◌<◌, ◌⊎◌, inl, inr, List, [], ◌∷◌, ◌++◌, map, length, Option, Some, None, slice_get, refl, sym, ap, subst, ◌∙◌, arith}
use Rattle.std.specs.Prelude.{Contains, option_map}
use Rattle.std.proofs.Math.Nat.{div-lt_iff_lt-mul}
use Rattle.std.proofs.lemmas.Bool.{cases_lt}
use Rattle.std.proofs.lemmas.Option.{slice_get-map}
use Rattle.ds_base.specs.Geometry.{IsGeom, per_cluster, items_of}
use Rattle.ds_base.specs.declared.geometry.Geom.{Geom}
use Rattle.ds_base.specs.declared.geometry.GeomField.TheVariants.{Items}
use Rattle.ds_base.specs.declared.geometry.Kind.{Kind}
use Rattle.ds_base.specs.declared.sectors.Sector.{Sector}
use Rattle.ds_bitmap.specs.Bits.{Bitmap, bits_bytes}
use Rattle.ds_plan_laws_gone.specs.MapWrites.{MapWrite, map_pairs, ChangesMap, AreWrittenOnce, IsClearedOf, ClearsMaps}
use Rattle.ds_image.specs.Asking.{Agrees}
use Rattle.ds_image_parts.specs.Parts.{Parts, part_at, maps_of, bits_in}
use Rattle.ds_image_parts.specs.Readings.{ReadsParts}
use Rattle.ds_image.specs.SeenValues.{SeenValue, look_of}
use Rattle.ds_image.specs.Sound.{StandsFor}
use Rattle.ds_image.proofs.Ownership.Listed.{bits_length}
use Rattle.ds_image_tables.proofs.Spelling.Places.{at-append, at-append_left, at-append_right, at-from_Contains, marked-within}
use Rattle.ds_plan_base.specs.Giving.{Maps, map_sector, map_sectors}
use Rattle.ds_plan_base.proofs.GivingWalk.{AreMarked, map-known, map-in}
use Rattle.ds_plan_base.proofs.MapsLeft.{IsWithout, without-is, AreLeft}
use Rattle.ds_tree.specs.Nodes.{FileTree}

-- bitmaps of a kind without these items, each of its cluster, and one of each of the items' clusters
pub record ClearsKind (g : Geom) (q : Parts) (kind : Kind) (items : List ℕ) (maps : Maps) : Type 0 where
  pub before : (i : ℕ) (m : ℕ × Bitmap) → slice_get maps i ≡ Some m
      → (b : Bitmap) × (part_at (maps_of q kind) m.0 ≡ Some b) × IsWithout g kind m.0 items b m.1
  pub once : (i j : ℕ) (m n : ℕ × Bitmap) → slice_get maps i ≡ Some m → slice_get maps j ≡ Some n → m.0 ≡ n.0 → i ≡ j
  pub whole : (n : ℕ) → Contains items n → (j : ℕ) × ((m : ℕ × Bitmap) × (slice_get maps j ≡ Some m) × (m.0 ≡ n / per_cluster g kind))

-- no bitmap for no item
pub clears-nothing : (g : Geom) (q : Parts) (kind : Kind) → ClearsKind g q kind [] []
clears-nothing g q kind = record {
  before = λ i m at. absurd (let wrong : ◌≡◌ {A = Option (ℕ × Bitmap)} None (Some m) = at in cc);
  once = λ i j m n one two same. absurd (let wrong : ◌≡◌ {A = Option (ℕ × Bitmap)} None (Some m) = one in cc);
  whole = λ n held. absurd (omega (arith, held.1));
}

-- so the bitmaps that are left clear the items in each image that agrees
pub left-clears : (g : Geom) → IsGeom g → (seen : SeenValue) (p : Parts) → ReadsParts g (look_of seen) p → (kind : Kind) (items : List ℕ) (maps : Maps) → AreLeft g seen p kind items 0 maps
    → (image : List Sector) (t : FileTree) (stands : StandsFor g image t) → Agrees seen image → AreMarked stands.parts kind items → ClearsKind g stands.parts kind items maps
left-clears g is_geom seen p reads kind items maps are image t stands agrees marked = record {
  before = λ i m at.
      let is = are.each i m at in
      let has = map-known g seen p reads kind m.0 is.before is.inside is.is_seen in
      (is.before, map-in g seen p reads kind m.0 is.before has image t stands agrees, without-is g kind m.0 items is.before m.1 has.is_bits.count is.without);
  once = λ i j m n one two same. elim (cases_lt i j) [
    | inl below ↦ absurd (omega (arith, are.rising i j m n below one two, same))
    | inr past ↦ elim (cases_lt j i) [
      | inl above ↦ absurd (omega (arith, are.rising j i n m above two one, same))
      | inr other ↦ omega (arith, past, other)
    ]
  ];
  whole = λ n held.
      let at = at-from_Contains items n held in
      let q = stands.parts in
      let within = marked-within (bits_in (maps_of q kind)) n (marked.marked at.0 n at.1) in
      let item : n < items_of g kind = omega (arith, within, bits_length g (slice_get image) kind (maps_of q kind) (stands.reads.maps kind) (stands.sound.maps kind)) in
      let some : 0 < per_cluster g kind = omega (arith, (is_geom (Items kind)).0) in
      are.whole at.0 n at.1 (omega arith) ((div-lt_iff_lt-mul some).1 item);
}

-- The bitmaps of several kinds

abbrev pub map_write : Kind → ℕ × Bitmap → MapWrite
map_write kind m = record { kind = kind; cluster = m.0; map = m.1; sector = record { bytes = bits_bytes m.1 } }

abbrev pub map_writes : Kind → Maps → List MapWrite
map_writes kind maps = map (map_write kind) maps

pub writes-sectors : (g : Geom) (kind : Kind) (maps : Maps) → map_pairs g (map_writes kind maps) ≡ map_sectors g kind maps
writes-sectors g kind [] = refl
writes-sectors g kind (m ∷ maps) = ap (λ rest. map_sector g kind m ∷ rest) (writes-sectors g kind maps)

-- a write is that of a bitmap
pub write-of : (kind : Kind) (maps : Maps) (i : ℕ) (w : MapWrite) → slice_get (map_writes kind maps) i ≡ Some w
    → (m : ℕ × Bitmap) × (slice_get maps i ≡ Some m) × (map_write kind m ≡ w)
write-of kind maps i w at = by (slice_get maps i) refl (sym (slice_get-map (map_write kind) maps i) ∙ at)
  where
    by : (r : Option (ℕ × Bitmap)) → slice_get maps i ≡ r → option_map (map_write kind) r ≡ Some w → (m : ℕ × Bitmap) × (slice_get maps i ≡ Some m) × (map_write kind m ≡ w)
    by None e is = absurd cc
    by (Some m) e is = let same : map_write kind m ≡ w = cc in (m, e, same)

of-write : (kind : Kind) (maps : Maps) (i : ℕ) (m : ℕ × Bitmap) → slice_get maps i ≡ Some m → slice_get (map_writes kind maps) i ≡ Some (map_write kind m)
of-write kind maps i m at = slice_get-map (map_write kind) maps i ∙ ap (option_map (map_write kind)) at

-- the writes of some kinds, which clear all items of these
pub record ClearsSome (g : Geom) (q : Parts) (given : Kind → List ℕ) (Done : Kind → Type 0) (writes : List MapWrite) : Type 0 where
  pub each : (i : ℕ) (w : MapWrite) → slice_get writes i ≡ Some w → ChangesMap g q (IsClearedOf given) w
  pub once : AreWrittenOnce writes
  pub of : (i : ℕ) (w : MapWrite) → slice_get writes i ≡ Some w → Done w.kind
  pub whole : (kind : Kind) → Done kind → (item : ℕ) → Contains (given kind) item
      → (i : ℕ) × ((w : MapWrite) × (slice_get writes i ≡ Some w) × (w.kind ≡ kind) × (w.cluster ≡ item / per_cluster g kind))

pub clears-none : (g : Geom) (q : Parts) (given : Kind → List ℕ) → ClearsSome g q given (λ kind. ⊥) []
clears-none g q given = record {
  each = λ i w at. absurd (let wrong : ◌≡◌ {A = Option MapWrite} None (Some w) = at in cc);
  once = λ i j w v one two kind cluster. absurd (let wrong : ◌≡◌ {A = Option MapWrite} None (Some w) = one in cc);
  of = λ i w at. absurd (let wrong : ◌≡◌ {A = Option MapWrite} None (Some w) = at in cc);
  whole = λ kind done item held. absurd done;
}

module _ (g : Geom) (q : Parts) (given : Kind → List ℕ) where
  changed-map : (kind : Kind) (m : ℕ × Bitmap) (b : Bitmap) → part_at (maps_of q kind) m.0 ≡ Some b → IsWithout g kind m.0 (given kind) b m.1
      → ChangesMap g q (IsClearedOf given) (map_write kind m)
  changed-map kind m b there is = record {
    before = b;
    there = there;
    same_kind = is.same_kind;
    same_cluster = is.same_cluster;
    same_count = is.same_count;
    bits = is.bits;
    spells = refl;
  }

  -- one kind more
  pub clears-more : (Done : Kind → Type 0) (writes : List MapWrite) (kind : Kind) (maps : Maps) → ClearsSome g q given Done writes → ¬ Done kind → ClearsKind g q kind (given kind) maps
      → ClearsSome g q given (λ k. Done k ⊎ (kind ≡ k)) (writes ++ map_writes kind maps)
  clears-more Done writes kind maps clears new is = record {
    each = λ i w at. elim (at-append writes (map_writes kind maps) i w at) [
      | inl front ↦ clears.each i w front
      | inr back ↦
          let one = write-of kind maps back.0 w back.2 in
          let before = is.before back.0 one.0 one.1 in
          subst (ChangesMap g q (IsClearedOf given)) one.2 (changed-map kind one.0 before.0 before.1 before.2)
    ];
    once = λ i j w v one two kind_is cluster_is. elim (at-append writes (map_writes kind maps) i w one) [
      | inl front ↦ elim (at-append writes (map_writes kind maps) j v two) [
        | inl front' ↦ clears.once i j w v front front' kind_is cluster_is
        | inr back' ↦ absurd (crossed i back'.0 w v front back'.2 kind_is)
      ]
      | inr back ↦ elim (at-append writes (map_writes kind maps) j v two) [
        | inl front' ↦ absurd (crossed j back.0 v w front' back.2 (sym kind_is))
        | inr back' ↦
            let a = write-of kind maps back.0 w back.2 in
            let b = write-of kind maps back'.0 v back'.2 in
            let same : a.0.0 ≡ b.0.0 = ap (λ (x : MapWrite). x.cluster) a.2 ∙ cluster_is ∙ sym (ap (λ (x : MapWrite). x.cluster) b.2) in
            omega (arith, back.1, back'.1, is.once back.0 back'.0 a.0 b.0 a.1 b.1 same)
      ]
    ];
    of = λ i w at. elim (at-append writes (map_writes kind maps) i w at) [
      | inl front ↦ inl (clears.of i w front)
      | inr back ↦ inr (ap (λ (x : MapWrite). x.kind) (write-of kind maps back.0 w back.2).2)
    ];
    whole = λ k done item held. elim done [
      | inl before ↦
          let found = clears.whole k before item held in
          (found.0, (found.1.0, at-append_left writes (map_writes kind maps) found.0 found.1.0 found.1.1, found.1.2, found.1.3))
      | inr here ↦
          let found = is.whole item (subst (λ x. Contains (given x) item) (sym here) held) in (
            length writes + found.0,
            (
              map_write kind found.1.0,
              at-append_right writes (map_writes kind maps) found.0 (map_write kind found.1.0) (of-write kind maps found.0 found.1.0 found.1.1),
              here,
              found.1.2 ∙ ap (λ x. item / per_cluster g x) here,
            ),
          )
    ];
  }
    where
      crossed : (i j : ℕ) (w v : MapWrite) → slice_get writes i ≡ Some w → slice_get (map_writes kind maps) j ≡ Some v → w.kind ≡ v.kind → ⊥
      crossed i j w v front back same =
          let one = write-of kind maps j v back in
          new (subst Done (same ∙ sym (ap (λ (x : MapWrite). x.kind) one.2)) (clears.of i w front))

  -- where each kind is done, or gives nothing up
  pub clears-all : (Done : Kind → Type 0) (writes : List MapWrite) → ClearsSome g q given Done writes → ((kind : Kind) → Done kind ⊎ (given kind ≡ [])) → ClearsMaps g q given writes
  clears-all Done writes clears all = record {
    each = clears.each;
    once = clears.once;
    whole = λ kind item held. elim (all kind) [
      | inl done ↦ clears.whole kind done item held
      | inr none ↦ absurd (let wrong : Contains [] item = subst (λ l. Contains l item) none held in omega (arith, wrong.1))
    ];
  }
