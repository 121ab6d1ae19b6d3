-- What parts are after bitmaps of several clusters were written.
use Rattle.std.proofs.Common.{◌≡◌, ◌≢◌, ℕ, zero, suc, ◌+◌, ◌*◌, ◌<◌, ◌⊎◌, inl, inr, List, [], ◌∷◌, length, Option, Some, None, slice_get, slice_set, refl, sym, ap, subst, ◌∙◌, length-set, get_or-set_same, get_or-set_other, arith}
use Rattle.std.specs.Prelude.{Contains}
use Rattle.std.proofs.lemmas.Bool.{cases_eq}
use Rattle.std.proofs.lemmas.Nat.{div-mul-add}
use Rattle.ds_base.specs.Geometry.{IsGeom, clusters_of, per_cluster, items_of}
use Rattle.ds_base.specs.declared.geometry.Geom.{Geom}
use Rattle.ds_base.specs.declared.geometry.Kind.{Kind}
use Rattle.ds_base.specs.declared.geometry.Kind.TheVariants.{Fd, Sb, Pb, Fb}
use Rattle.ds_base.specs.declared.sectors.Sector.{Sector}
use Rattle.ds_bitmap.specs.Bits.{Bitmap, IsBits, bits_bytes}
use Rattle.ds_layout.specs.Places.{place_sector}
use Rattle.ds_layout.specs.declared.places.Place.TheVariants as places
use Rattle.ds_image_parts.specs.Logical.{laid_over}
use Rattle.ds_image_tables.specs.Owns.{bit}
use Rattle.ds_image_parts.specs.Parts.{Parts, part_at, AllSpelled, maps_of, bits_in}
use Rattle.ds_image_parts.specs.Readings.{ReadsParts}
use Rattle.ds_image.proofs.Ownership.Listed.{bits_length}
use Rattle.ds_image_tables.proofs.Spelling.Places.{marked-within}
use Rattle.ds_plan_laws_new.specs.Changed.{with_maps}
use Rattle.ds_image.proofs.Bits.{all-put}
use Rattle.ds_plan_laws_new.proofs.Frames.{reads-map}
use Rattle.ds_plan_laws_new.proofs.Spelling.{map-at}
use Rattle.ds_plan_laws_gone.specs.MapWrites.{MapWrite, map_pairs, with_map, with_all_maps, BitChange, ChangesMap, ChangesMaps, IsUnwritten, AreWrittenOnce, IsClearedOf, IsReplacedBy, ClearsMaps}
use Rattle.ds_plan_laws_gone.specs.Replaced.{ReplacesMarks}
use Rattle.ds_plan_laws_gone.proofs.ManyBits.{some-is, bits-each, bits-count, clears-each}
use Rattle.ds_image_tables.proofs.Ownership.Marking.{ClearsMarks}

pub same-kind_or_not : (a b : Kind) → (a ≡ b) ⊎ (a ≢ b)
same-kind_or_not Fd Fd = inl refl
same-kind_or_not Sb Sb = inl refl
same-kind_or_not Pb Pb = inl refl
same-kind_or_not Fb Fb = inl refl
same-kind_or_not Fd Sb = inr (λ e. absurd (cc))
same-kind_or_not Fd Pb = inr (λ e. absurd (cc))
same-kind_or_not Fd Fb = inr (λ e. absurd (cc))
same-kind_or_not Sb Fd = inr (λ e. absurd (cc))
same-kind_or_not Sb Pb = inr (λ e. absurd (cc))
same-kind_or_not Sb Fb = inr (λ e. absurd (cc))
same-kind_or_not Pb Fd = inr (λ e. absurd (cc))
same-kind_or_not Pb Sb = inr (λ e. absurd (cc))
same-kind_or_not Pb Fb = inr (λ e. absurd (cc))
same-kind_or_not Fb Fd = inr (λ e. absurd (cc))
same-kind_or_not Fb Sb = inr (λ e. absurd (cc))
same-kind_or_not Fb Pb = inr (λ e. absurd (cc))

-- Parts with other bitmaps of one kind

pub maps-here : (p : Parts) (kind : Kind) (maps : List (Option Bitmap)) → maps_of (with_maps p kind maps) kind ≡ maps
maps-here p Fd maps = refl
maps-here p Sb maps = refl
maps-here p Pb maps = refl
maps-here p Fb maps = refl

pub maps-there : (p : Parts) (kind other : Kind) (maps : List (Option Bitmap)) → kind ≢ other → maps_of (with_maps p kind maps) other ≡ maps_of p other
maps-there p Fd Sb maps apart = refl
maps-there p Fd Pb maps apart = refl
maps-there p Fd Fb maps apart = refl
maps-there p Sb Fd maps apart = refl
maps-there p Sb Pb maps apart = refl
maps-there p Sb Fb maps apart = refl
maps-there p Pb Fd maps apart = refl
maps-there p Pb Sb maps apart = refl
maps-there p Pb Fb maps apart = refl
maps-there p Fb Fd maps apart = refl
maps-there p Fb Sb maps apart = refl
maps-there p Fb Pb maps apart = refl
maps-there p Fd Fd maps apart = absurd (apart refl)
maps-there p Sb Sb maps apart = absurd (apart refl)
maps-there p Pb Pb maps apart = absurd (apart refl)
maps-there p Fb Fb maps apart = absurd (apart refl)

-- the parts but for their bitmaps are the same
pub record SameButMaps (p q : Parts) : Type 0 where
  pub bodies : q.bodies ≡ p.bodies
  pub subs : q.subs ≡ p.subs
  pub ptrs : q.ptrs ≡ p.ptrs

same-with_maps : (p : Parts) (kind : Kind) (maps : List (Option Bitmap)) → SameButMaps p (with_maps p kind maps)
same-with_maps p Fd maps = record { bodies = refl; subs = refl; ptrs = refl }
same-with_maps p Sb maps = record { bodies = refl; subs = refl; ptrs = refl }
same-with_maps p Pb maps = record { bodies = refl; subs = refl; ptrs = refl }
same-with_maps p Fb maps = record { bodies = refl; subs = refl; ptrs = refl }

pub same-but_maps : (p : Parts) (writes : List MapWrite) → SameButMaps p (with_all_maps p writes)
same-but_maps p [] = record { bodies = refl; subs = refl; ptrs = refl }
same-but_maps p (w ∷ writes) =
    let one = same-with_maps p w.kind (slice_set (maps_of p w.kind) w.cluster (Some w.map)) in
    let rest = same-but_maps (with_map p w) writes in
    record { bodies = rest.bodies ∙ one.bodies; subs = rest.subs ∙ one.subs; ptrs = rest.ptrs ∙ one.ptrs }

-- one write, seen from any kind
count-with_map : (p : Parts) (w : MapWrite) (kind : Kind) → length (maps_of (with_map p w) kind) ≡ length (maps_of p kind)
count-with_map p w kind =
    let maps = slice_set (maps_of p w.kind) w.cluster (Some w.map) in
    elim (same-kind_or_not w.kind kind) [
      | inl here ↦
          ap (λ k. length (maps_of (with_map p w) k)) (sym here) ∙ ap length (maps-here p w.kind maps) ∙ length-set (maps_of p w.kind) w.cluster (Some w.map)
          ∙ ap (λ k. length (maps_of p k)) here
      | inr apart ↦ ap length (maps-there p w.kind kind maps apart)
    ]

other-with_map : (p : Parts) (w : MapWrite) (kind : Kind) (c : ℕ) → (w.kind ≡ kind → w.cluster ≡ c → ⊥)
    → part_at (maps_of (with_map p w) kind) c ≡ part_at (maps_of p kind) c
other-with_map p w kind c apart =
    let maps = slice_set (maps_of p w.kind) w.cluster (Some w.map) in
    elim (same-kind_or_not w.kind kind) [
      | inl here ↦
          ap (λ k. part_at (maps_of (with_map p w) k) c) (sym here) ∙ ap (λ l. part_at l c) (maps-here p w.kind maps)
          ∙ get_or-set_other (maps_of p w.kind) w.cluster c (Some w.map) None (λ same. apart here (sym same))
          ∙ ap (λ k. part_at (maps_of p k) c) here
      | inr other ↦ ap (λ l. part_at l c) (maps-there p w.kind kind maps other)
    ]

spelled-with_map : (p : Parts) (w : MapWrite) → ((kind : Kind) → AllSpelled (maps_of p kind)) → (kind : Kind) → AllSpelled (maps_of (with_map p w) kind)
spelled-with_map p w all kind =
    let maps = slice_set (maps_of p w.kind) w.cluster (Some w.map) in
    elim (same-kind_or_not w.kind kind) [
      | inl here ↦ subst (λ k. AllSpelled (maps_of (with_map p w) k)) here
          (subst AllSpelled (sym (maps-here p w.kind maps)) (all-put (maps_of p w.kind) w.cluster w.map (all w.kind)))
      | inr apart ↦ subst AllSpelled (sym (maps-there p w.kind kind maps apart)) (all kind)
    ]

-- a bitmap that isn't written stays
pub map-unwritten : (p : Parts) (writes : List MapWrite) (kind : Kind) (c : ℕ) → IsUnwritten writes kind c
    → part_at (maps_of (with_all_maps p writes) kind) c ≡ part_at (maps_of p kind) c
map-unwritten p [] kind c none = refl
map-unwritten p (w ∷ writes) kind c none =
    map-unwritten (with_map p w) writes kind c (λ i v at. none (suc i) v at) ∙ other-with_map p w kind c (none 0 w refl)

-- one that is written is there
pub map-written : (p : Parts) (writes : List MapWrite) (i : ℕ) (w : MapWrite) → AreWrittenOnce writes → slice_get writes i ≡ Some w
    → w.cluster < length (maps_of p w.kind) → part_at (maps_of (with_all_maps p writes) w.kind) w.cluster ≡ Some w.map
map-written p [] i w once at within = absurd (cc)
map-written p (v ∷ writes) zero w once at within =
    let same : v ≡ w = cc in
    let maps = slice_set (maps_of p w.kind) w.cluster (Some w.map) in
    map-unwritten (with_map p v) writes w.kind w.cluster (λ j u there kind cluster. omega (arith, once 0 (suc j) w u at there (sym kind) (sym cluster)))
    ∙ ap (λ (x : MapWrite). part_at (maps_of (with_map p x) w.kind) w.cluster) same
    ∙ ap (λ l. part_at l w.cluster) (maps-here p w.kind maps) ∙ get_or-set_same (maps_of p w.kind) w.cluster (Some w.map) None within
map-written p (v ∷ writes) (suc i) w once at within =
    map-written (with_map p v) writes i w (λ j k x y one two kind cluster. omega (arith, once (suc j) (suc k) x y one two kind cluster)) at
    (omega (arith, within, count-with_map p v w.kind))

pub all-written : (p : Parts) (writes : List MapWrite) → ((kind : Kind) → AllSpelled (maps_of p kind)) → (kind : Kind) → AllSpelled (maps_of (with_all_maps p writes) kind)
all-written p [] all = all
all-written p (w ∷ writes) all = all-written (with_map p w) writes (spelled-with_map p w all)

-- whether a cluster's bitmap is among those that are written
pub written-or_not : (writes : List MapWrite) (kind : Kind) (c : ℕ)
    → ((i : ℕ) × ((w : MapWrite) × (slice_get writes i ≡ Some w) × (w.kind ≡ kind) × (w.cluster ≡ c))) ⊎ IsUnwritten writes kind c
written-or_not [] kind c = inr (λ i w at. absurd (cc))
written-or_not (w ∷ writes) kind c = elim (written-or_not writes kind c) [
  | inl later ↦ inl (suc later.0, (later.1.0, later.1.1, later.1.2, later.1.3))
  | inr none ↦ elim (same-kind_or_not w.kind kind) [
    | inr apart ↦ inr (neither none (λ kind_is cluster_is. apart kind_is))
    | inl here ↦ elim (cases_eq w.cluster c) [
      | inl there ↦ inl (0, (w, refl, here, there))
      | inr apart ↦ inr (neither none (λ kind_is cluster_is. apart cluster_is))
    ]
  ]
]
  where
    neither : IsUnwritten writes kind c → (w.kind ≡ kind → w.cluster ≡ c → ⊥) → IsUnwritten (w ∷ writes) kind c
    neither none apart zero v at kind_is cluster_is =
        let same : w ≡ v = cc in
        apart (ap (λ (x : MapWrite). x.kind) same ∙ kind_is) (ap (λ (x : MapWrite). x.cluster) same ∙ cluster_is)
    neither none apart (suc i) v at kind_is cluster_is = none i v at kind_is cluster_is

-- What the image then spells

-- each is a bitmap of its cluster, and its sector spells it
pub record AreMaps (g : Geom) (writes : List MapWrite) : Type 0 where
  pub within : (i : ℕ) (w : MapWrite) → slice_get writes i ≡ Some w → w.cluster < clusters_of g w.kind
  pub bits : (i : ℕ) (w : MapWrite) → slice_get writes i ≡ Some w → IsBits g w.kind w.cluster w.map
  pub spells : (i : ℕ) (w : MapWrite) → slice_get writes i ≡ Some w → w.sector.bytes ≡ bits_bytes w.map

pub reads-maps : (g : Geom) (is : IsGeom g) (image : List Sector) (p : Parts) (writes : List MapWrite) → AreMaps g writes
    → ((kind : Kind) → AllSpelled (maps_of p kind)) → ReadsParts g (slice_get image) p
    → ReadsParts g (slice_get (laid_over image (map_pairs g writes))) (with_all_maps p writes)
reads-maps g is image p [] are all reads = reads
reads-maps g is image p (w ∷ writes) are all reads =
    let cluster : w.cluster < clusters_of g w.kind = are.within 0 w refl in
    let was = some-is (part_at (maps_of p w.kind) w.cluster) (all w.kind w.cluster (omega (arith, cluster, (reads.maps w.kind).len))) in
    reads-maps g is (slice_set image (place_sector g (places.Bitmap w.kind w.cluster)) w.sector) (with_map p w) writes
    (record { within = λ i v at. are.within (suc i) v at; bits = λ i v at. are.bits (suc i) v at; spells = λ i v at. are.spells (suc i) v at })
    (spelled-with_map p w all)
    (reads-map g image p w.kind w.cluster w.map w.sector is cluster (map-at g image p reads w.kind w.cluster was.0 was.1).1 (are.bits 0 w refl) (are.spells 0 w refl) reads)

-- bitmaps that change others are of their clusters
pub changed-are_maps : (g : Geom) (image : List Sector) (p : Parts) (Change : BitChange) (writes : List MapWrite) → ReadsParts g (slice_get image) p
    → ((i : ℕ) (w : MapWrite) → slice_get writes i ≡ Some w → ChangesMap g p Change w) → AreMaps g writes
changed-are_maps g image p Change writes reads each = record {
  within = λ i w at. let one = each i w at in (map-at g image p reads w.kind w.cluster one.before one.there).0;
  bits = λ i w at.
      let one = each i w at in
      let before = (((reads.maps w.kind).each w.cluster (map-at g image p reads w.kind w.cluster one.before one.there).0 one.before).0 one.there).0 in
      record { same_kind = one.same_kind ∙ before.same_kind; same_cluster = one.same_cluster ∙ before.same_cluster; count = one.same_count ∙ before.count };
  spells = λ i w at. (each i w at).spells;
}

-- The bits of all kinds after

module _ (g : Geom) (is : IsGeom g) (image : List Sector) (p : Parts) (reads : ReadsParts g (slice_get image) p) (all : (kind : Kind) → AllSpelled (maps_of p kind))
    (writes : List MapWrite) where
  module _ (Change : BitChange) (changes : ChangesMaps g p Change writes) where
    pub changes-read : ReadsParts g (slice_get (laid_over image (map_pairs g writes))) (with_all_maps p writes)
    changes-read = reads-maps g is image p writes (changed-are_maps g image p Change writes reads changes.each) all reads

    -- each item's bit changes as the bitmaps say
    pub bits-change : (kind : Kind) (n : ℕ) → n < items_of g kind
        → Change kind n (bit (bits_in (maps_of p kind)) n) (bit (bits_in (maps_of (with_all_maps p writes) kind)) n)
    bits-change kind =
        bits-each g (slice_get image) (slice_get (laid_over image (map_pairs g writes))) kind (maps_of p kind) (maps_of (with_all_maps p writes) kind)
        (reads.maps kind) (all kind) (changes-read.maps kind) (all-written p writes all kind) (Change kind) each
      where
        stayed : (c it : ℕ) (b b' : Bitmap) → part_at (maps_of p kind) c ≡ Some b → part_at (maps_of (with_all_maps p writes) kind) c ≡ Some b' → it < per_cluster g kind
            → IsUnwritten writes kind c → Change kind (c * per_cluster g kind + it) (bit b.used it) (bit b'.used it)
        stayed c it b b' there there' small none =
            let both : Some b' ≡ Some b = sym there' ∙ map-unwritten p writes kind c none ∙ there in
            let same : b' ≡ b = cc in
            subst (λ (x : Bitmap). Change kind (c * per_cluster g kind + it) (bit b.used it) (bit x.used it)) (sym same)
            (changes.stays kind c it (bit b.used it) small none)

        changed : (i : ℕ) (w : MapWrite) (it : ℕ) (b b' : Bitmap) → slice_get writes i ≡ Some w → part_at (maps_of p w.kind) w.cluster ≡ Some b
            → part_at (maps_of (with_all_maps p writes) w.kind) w.cluster ≡ Some b' → it < per_cluster g w.kind
            → Change w.kind (w.cluster * per_cluster g w.kind + it) (bit b.used it) (bit b'.used it)
        changed i w it b b' at there there' small =
            let one = changes.each i w at in
            let old : Some one.before ≡ Some b = sym one.there ∙ there in
            let was : one.before ≡ b = cc in
            let within : w.cluster < length (maps_of p w.kind) = omega (arith, (reads.maps w.kind).len, (map-at g image p reads w.kind w.cluster one.before one.there).0) in
            let new : Some w.map ≡ Some b' = sym (map-written p writes i w changes.once at within) ∙ there' in
            let is_map : w.map ≡ b' = cc in
            subst (λ (x : Bitmap). Change w.kind (w.cluster * per_cluster g w.kind + it) (bit b.used it) (bit x.used it)) is_map
            (subst (λ (x : Bitmap). Change w.kind (w.cluster * per_cluster g w.kind + it) (bit x.used it) (bit w.map.used it)) was (one.bits it small))

        at-kind : (k : Kind) (c it : ℕ) (b b' : Bitmap) (i : ℕ) (w : MapWrite) → slice_get writes i ≡ Some w → w.kind ≡ k → w.cluster ≡ c
            → part_at (maps_of p k) c ≡ Some b → part_at (maps_of (with_all_maps p writes) k) c ≡ Some b' → it < per_cluster g k
            → Change k (c * per_cluster g k + it) (bit b.used it) (bit b'.used it)
        at-kind k c it b b' i w at kind_is cluster_is there there' small =
            subst (λ x. Change x (c * per_cluster g x + it) (bit b.used it) (bit b'.used it)) kind_is
            (subst (λ x. Change w.kind (x * per_cluster g w.kind + it) (bit b.used it) (bit b'.used it)) cluster_is
            (changed i w it b b' at
            (ap (part_at (maps_of p w.kind)) cluster_is ∙ ap (λ x. part_at (maps_of p x) c) kind_is ∙ there)
            (ap (part_at (maps_of (with_all_maps p writes) w.kind)) cluster_is ∙ ap (λ x. part_at (maps_of (with_all_maps p writes) x) c) kind_is ∙ there')
            (subst (λ x. it < per_cluster g x) (sym kind_is) small)))

        each : (c it : ℕ) (b b' : Bitmap) → part_at (maps_of p kind) c ≡ Some b → part_at (maps_of (with_all_maps p writes) kind) c ≡ Some b' → it < per_cluster g kind
            → Change kind (c * per_cluster g kind + it) (bit b.used it) (bit b'.used it)
        each c it b b' there there' small = elim (written-or_not writes kind c) [
          | inl found ↦ at-kind kind c it b b' found.0 found.1.0 found.1.1 found.1.2 found.1.3 there there' small
          | inr none ↦ stayed c it b b' there there' small none
        ]

  -- old items that new ones of the volume take the place of
  pub replaces-marks : (old new : Kind → List ℕ) → ChangesMaps g p (IsReplacedBy old new) writes → (kind : Kind) → ((x : ℕ) → Contains (new kind) x → x < items_of g kind)
      → ReplacesMarks (bits_in (maps_of p kind)) (old kind) (new kind) (bits_in (maps_of (with_all_maps p writes) kind))
  replaces-marks old new changes kind in_range =
      let after = bits_in (maps_of (with_all_maps p writes) kind) in
      let reads' = (changes-read (IsReplacedBy old new) changes).maps kind in
      let look' = slice_get (laid_over image (map_pairs g writes)) in
      let all' = all-written p writes all kind in
      let each = bits-change (IsReplacedBy old new) changes kind in
      record {
        count = bits-count g (slice_get image) look' kind (maps_of p kind) (maps_of (with_all_maps p writes) kind) (reads.maps kind) (all kind) reads' all';
        marks = λ x. (
          λ marked. (each x (omega (arith, marked-within after x marked, bits_length g look' kind (maps_of (with_all_maps p writes) kind) reads' all'))).0 marked,
          λ either. elim either [
            | inl held ↦ (each x (in_range x held)).1 (inl held)
            | inr both ↦ (each x (omega (arith, marked-within (bits_in (maps_of p kind)) x both.0, bits_length g (slice_get image) kind (maps_of p kind) (reads.maps kind) (all kind)))).1 (inr both)
          ],
        );
      }

  -- bits that are cleared change so
  pub clears-change : (given : Kind → List ℕ) → ClearsMaps g p given writes → ChangesMaps g p (IsClearedOf given) writes
  clears-change given clears = record {
    each = clears.each;
    once = clears.once;
    stays = λ kind c it b small none. (
      λ marked. (
        marked,
        λ held.
            let found = clears.whole kind (c * per_cluster g kind + it) held in
            none found.0 found.1.0 found.1.1 found.1.2 (found.1.3 ∙ div-mul-add c (per_cluster g kind) it small),
      ),
      λ both. both.0,
    );
  }

  -- and the items are no longer marked
  pub clears-marks : (given : Kind → List ℕ) → ClearsMaps g p given writes → (kind : Kind)
      → ClearsMarks (bits_in (maps_of p kind)) (given kind) (bits_in (maps_of (with_all_maps p writes) kind))
  clears-marks given clears kind =
      let changes = clears-change given clears in
      clears-each g (slice_get image) (slice_get (laid_over image (map_pairs g writes))) kind (maps_of p kind) (maps_of (with_all_maps p writes) kind)
      (reads.maps kind) (all kind) ((changes-read (IsClearedOf given) changes).maps kind) (all-written p writes all kind) (given kind)
      (bits-change (IsClearedOf given) changes kind)
