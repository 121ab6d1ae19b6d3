-- Items that are marked or cleared, cluster by cluster.
use Rattle.std.proofs.Common.{◌≡◌, ℕ, ◌+◌, ◌*◌, ◌/◌, ◌%◌, ◌<◌, ◌≤◌, ◌⊎◌, ◌↔◌, Bool, true, false, List, length, Option, sym, subst, ◌∙◌, inl, inr, arith}
use Rattle.std.specs.Prelude.{Contains}
use Rattle.std.proofs.lemmas.Bool.{cases_lt, false≢true}
use Rattle.std.proofs.Math.Nat.{div-add-mod', mod-lt}
use Rattle.std.proofs.lemmas.List.{get_or_past}
use Rattle.ds_base.specs.Geometry.{clusters_of, per_cluster, items_of}
use Rattle.ds_base.specs.declared.geometry.Geom.{Geom}
use Rattle.ds_base.specs.declared.geometry.Kind.{Kind}
use Rattle.ds_bitmap.specs.Bits.{Bitmap}
use Rattle.ds_layout.proofs.Bounds.{block_numbered}
use Rattle.ds_image_parts.specs.Looks.{Look}
use Rattle.ds_image_tables.specs.Owned.{AddsMarks}
use Rattle.ds_image_tables.specs.Owns.{bit}
use Rattle.ds_image_parts.specs.Parts.{part_at, AllSpelled, used_bits, bits_in}
use Rattle.ds_image_parts.specs.Readings.{SpellsBits, IsReading}
use Rattle.ds_image.proofs.Ownership.Listed.{bits_length}
use Rattle.ds_image_tables.proofs.Ownership.Marking.{ClearsMarks}
use Rattle.ds_image.proofs.Bits.{flat-get, maps-wide}

module _ (g : Geom) (look look' : Look) (kind : Kind) (maps maps' : List (Option Bitmap))
    (reads : IsReading (clusters_of g kind) (SpellsBits g look kind) maps) (all : AllSpelled maps)
    (reads' : IsReading (clusters_of g kind) (SpellsBits g look' kind) maps') (all' : AllSpelled maps') where
  abbrev per : ℕ
  per = per_cluster g kind

  -- what holds of the bits of each cluster holds of those of the kind
  pub each-item : (P : ℕ → Bool → Bool → Type 0)
      → ((c it : ℕ) → c < clusters_of g kind → it < per → P (c * per + it) (bit (used_bits (part_at maps c)) it) (bit (used_bits (part_at maps' c)) it))
      → ((x : ℕ) → items_of g kind ≤ x → P x false false) → (x : ℕ) → P x (bit (bits_in maps) x) (bit (bits_in maps') x)
  each-item P each past x = elim (cases_lt x (items_of g kind)) [
    | inl within ↦
        let some : 1 ≤ per = grind (arith, within) in
        let c : ℕ = x / per in
        let it : ℕ = x % per in
        let is : c * per + it ≡ x = div-add-mod' x per in
        let cluster : c < clusters_of g kind = block_numbered per (clusters_of g kind) x some (let same : per * clusters_of g kind ≡ items_of g kind = grind arith in omega (arith, same, within)) in
        let small : it < per = mod-lt x some in
        subst (λ k. P k (bit (bits_in maps) k) (bit (bits_in maps') k)) is
        (subst (λ b. P (c * per + it) b (bit (bits_in maps') (c * per + it)))
        (sym (flat-get used_bits per maps c it _ false (maps-wide g look kind maps reads all) (omega (arith, cluster, reads.len)) small))
        (subst (P (c * per + it) (bit (used_bits (part_at maps c)) it))
        (sym (flat-get used_bits per maps' c it _ false (maps-wide g look' kind maps' reads' all') (omega (arith, cluster, reads'.len)) small))
        (each c it cluster small)))
    | inr above ↦
        let one : bit (bits_in maps) x ≡ false = get_or_past (bits_in maps) x false (omega (arith, above, bits_length g look kind maps reads all)) in
        let two : bit (bits_in maps') x ≡ false = get_or_past (bits_in maps') x false (omega (arith, above, bits_length g look' kind maps' reads' all')) in
        subst (λ b. P x b (bit (bits_in maps') x)) (sym one) (subst (P x false) (sym two) (past x above))
  ]

  count-same : length (bits_in maps') ≡ length (bits_in maps)
  count-same = bits_length g look' kind maps' reads' all' ∙ sym (bits_length g look kind maps reads all)

  -- in each cluster just these items were cleared
  pub clears-by_cluster : (items : List ℕ)
      → ((c it : ℕ) → c < clusters_of g kind → it < per
      → (bit (used_bits (part_at maps' c)) it ≡ true) ↔ ((bit (used_bits (part_at maps c)) it ≡ true) × ¬ Contains items (c * per + it)))
      → ClearsMarks (bits_in maps) items (bits_in maps')
  clears-by_cluster items each = record {
    count = count-same;
    marks = each-item (λ x was is. (is ≡ true) ↔ ((was ≡ true) × ¬ Contains items x)) each (λ x past. (λ wrong. absurd (false≢true wrong), λ both. both.0));
  }

  -- in each cluster just these items were marked
  pub adds-by_cluster : (items : List ℕ) → ((x : ℕ) → Contains items x → x < items_of g kind)
      → ((c it : ℕ) → c < clusters_of g kind → it < per
      → (bit (used_bits (part_at maps' c)) it ≡ true) ↔ ((bit (used_bits (part_at maps c)) it ≡ true) ⊎ Contains items (c * per + it)))
      → AddsMarks (bits_in maps) items (bits_in maps')
  adds-by_cluster items within each = record {
    count = count-same;
    marks = each-item (λ x was is. (is ≡ true) ↔ ((was ≡ true) ⊎ Contains items x)) each
        (λ x past. (λ wrong. absurd (false≢true wrong), λ either. elim either [ inl was ↦ was | inr held ↦ absurd (omega (arith, within x held, past)) ]));
  }
