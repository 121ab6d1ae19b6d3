-- Where the bitmaps of clusters change by items given up and taken, the marks of the kind do.
use Rattle.std.proofs.Common.{◌≡◌, ◌≢◌, ℕ, ◌+◌, ◌*◌, ◌/◌, ◌%◌, ◌<◌, inl, inr, true, false, List, length, slice_get, Option, Some, None, IsSome, refl, sym, ap, subst, ◌∙◌, arith}
use Rattle.std.specs.Prelude.{Contains}
use Rattle.std.proofs.Math.Nat.{div-lt_iff_lt-mul}
use Rattle.std.proofs.lemmas.Bool.{cases_lt, false≢true}
use Rattle.std.proofs.lemmas.List.{get_or_past}
use Rattle.std.proofs.lemmas.Option.{slice_get_within}
use Rattle.ds_base.specs.Geometry.{clusters_of, per_cluster, items_of}
use Rattle.ds_base.specs.declared.geometry.Geom.{Geom}
use Rattle.ds_base.specs.declared.geometry.Kind.{Kind}
use Rattle.ds_bitmap.specs.Bits.{Bitmap, IsBits}
use Rattle.ds_image_parts.specs.Looks.{Look}
use Rattle.ds_image_tables.specs.Owned.{CanMark}
use Rattle.ds_image_tables.specs.Owns.{bit}
use Rattle.ds_image_parts.specs.Parts.{Parts, part_at, AllSpelled, maps_of, bits_in}
use Rattle.ds_image_parts.specs.Readings.{ReadsParts, SpellsBits, IsReading}
use Rattle.ds_image.proofs.Ownership.Listed.{bits_length}
use Rattle.ds_image_tables.proofs.Spelling.Places.{at-from_Contains}
use Rattle.ds_image.proofs.Spelling.Sizes.{part_within}
use Rattle.ds_image.proofs.Bits.{bits-get}
use Rattle.ds_plan_laws_size.specs.Clusters.{MarksCluster, MarksClusters}
use Rattle.ds_plan_laws_size.specs.Remarks.{Remarks}
use Rattle.ds_plan_laws_size.specs.Written.{put_all}
use Rattle.ds_plan_laws_size.proofs.PutAll.{put-spelled, put-cases, put-other, put-there}

some-part : {V : Type 0} (r : Option V) → IsSome r → (v : V) × (r ≡ Some v)
some-part None some = absurd (false≢true some)
some-part (Some v) some = (v, refl)

-- such a bitmap is one of its cluster
pub marked-is_bits : (g : Geom) (look : Look) (p : Parts) (kind : Kind) (given taken : List ℕ) (c : ℕ) (after : Bitmap) → ReadsParts g look p
    → MarksCluster g p kind given taken c after → (c < clusters_of g kind) × IsBits g kind c after
marked-is_bits g look p kind given taken c after reads marks =
    let within : c < clusters_of g kind = omega (arith, part_within (maps_of p kind) c marks.before marks.there, (reads.maps kind).len) in
    let before = (((reads.maps kind).each c within marks.before).0 marks.there).0 in (
      within,
      record {
        same_kind = marks.same_kind ∙ before.same_kind;
        same_cluster = marks.same_cluster ∙ before.same_cluster;
        count = marks.count ∙ before.count;
      },
    )

module _ (g : Geom) (look look' : Look) (p : Parts) (kind : Kind) (given taken : List ℕ) (writes : List (ℕ × Bitmap)) (reads : ReadsParts g look p)
    (all : AllSpelled (maps_of p kind)) (marks : MarksClusters g p kind given taken writes) (can : CanMark (bits_in (maps_of p kind)) taken)
    (reads' : IsReading (clusters_of g kind) (SpellsBits g look' kind) (put_all (maps_of p kind) writes)) where
  abbrev maps : List (Option Bitmap)
  maps = maps_of p kind

  abbrev maps' : List (Option Bitmap)
  maps' = put_all maps writes

  abbrev per : ℕ
  per = per_cluster g kind

  all' : AllSpelled maps'
  all' = put-spelled maps writes all

  length-before : length (bits_in maps) ≡ items_of g kind
  length-before = bits_length g look kind maps (reads.maps kind) all

  length-after : length (bits_in maps') ≡ items_of g kind
  length-after = bits_length g look' kind maps' reads' all'

  -- what becomes of one bit
  record BitAt (x : ℕ) : Type 0 where
    gone : Contains given x → bit (bits_in maps') x ≡ false
    come : Contains taken x → bit (bits_in maps') x ≡ true
    kept : ¬ Contains given x → ¬ Contains taken x → bit (bits_in maps') x ≡ bit (bits_in maps) x

  module _ (c it : ℕ) (small : it < per) (low : c < length maps) where
    abbrev x : ℕ
    x = c * per + it

    in_written : (i : ℕ) (w : ℕ × Bitmap) → slice_get writes i ≡ Some w → w.0 ≡ c → BitAt x
    in_written i w at is =
        let m = marks.each i w at in
        let there : part_at maps c ≡ Some m.before = ap (part_at maps) (sym is) ∙ m.there in
        let there' : part_at maps' c ≡ Some w.1 = ap (part_at maps') (sym is) ∙ put-there maps writes i w marks.once at (omega (arith, is, low)) in
        let before : bit (bits_in maps) x ≡ bit m.before.used it = bits-get g look kind maps c it m.before false (reads.maps kind) all there small in
        let after : bit (bits_in maps') x ≡ bit w.1.used it = bits-get g look' kind maps' c it w.1 false reads' all' there' small in
        let number : x ≡ w.0 * per + it = ap (λ k. k * per + it) (sym is) in
        record {
          gone = λ held. after ∙ m.gone it small (subst (Contains given) number held);
          come = λ held. after ∙ m.come it small (subst (Contains taken) number held);
          kept = λ stays fresh. after
              ∙ m.kept it small (λ held. stays (subst (Contains given) (sym number) held)) (λ held. fresh (subst (Contains taken) (sym number) held)) ∙ sym before;
        }

    cluster-is : x / per ≡ c
    cluster-is = grind (arith, small)

    elsewhere : ((i : ℕ) (w : ℕ × Bitmap) → slice_get writes i ≡ Some w → w.0 ≢ c) → BitAt x
    elsewhere none =
        let old = some-part (part_at maps c) (all c low) in
        let there' : part_at maps' c ≡ Some old.0 = put-other maps writes c none ∙ old.1 in
        let before : bit (bits_in maps) x ≡ bit old.0.used it = bits-get g look kind maps c it old.0 false (reads.maps kind) all old.1 small in
        let after : bit (bits_in maps') x ≡ bit old.0.used it = bits-get g look' kind maps' c it old.0 false reads' all' there' small in
        record {
          gone = λ held. absurd (let w = marks.all x (inl held) in none w.0 w.1.0 w.1.1 (w.1.2 ∙ cluster-is));
          come = λ held. absurd (let w = marks.all x (inr held) in none w.0 w.1.0 w.1.1 (w.1.2 ∙ cluster-is));
          kept = λ stays fresh. after ∙ sym before;
        }

    bit-in_cluster : BitAt x
    bit-in_cluster = elim (put-cases writes c) [
      | inl found ↦ in_written found.0 found.1.0 found.1.1 found.1.2
      | inr none ↦ elsewhere none
    ]

  bit-of : (x : ℕ) → BitAt x
  bit-of x = elim (cases_lt x (length (bits_in maps))) [
    | inl within ↦
        let count : length maps ≡ clusters_of g kind = (reads.maps kind).len in
        let some : 0 < per = grind (arith, within, length-before) in
        let small : x % per < per = grind (arith, some) in
        let place : x / per * per + x % per ≡ x = grind (arith, some) in
        let below : x < clusters_of g kind * per = omega (arith, within, length-before) in
        let low : x / per < length maps = omega (arith, (div-lt_iff_lt-mul some).1 below, count) in
        subst BitAt place (bit-in_cluster (x / per) (x % per) small low)
    | inr past ↦
        let clear : bit (bits_in maps') x ≡ false = get_or_past (bits_in maps') x false (omega (arith, past, length-before, length-after)) in
        record {
          gone = λ held. clear;
          come = λ held.
              let at = at-from_Contains taken x held in
              absurd (omega (arith, past, slice_get_within (bits_in maps) x false (can.clear at.0 x at.1)));
          kept = λ stays fresh. clear ∙ sym (get_or_past (bits_in maps) x false past);
        }
  ]

  -- just those items change
  pub clusters-remarked : Remarks (bits_in maps) given taken (bits_in maps')
  clusters-remarked = record {
    count = length-after ∙ sym length-before;
    gone = λ x. (bit-of x).gone;
    come = λ x. (bit-of x).come;
    kept = λ x. (bit-of x).kept;
  }
