-- Which lock object protects a sector: that of a body's descriptor, of a bitmap's cluster, of the one descriptor that lists an
-- item, and of the item's cluster where none does.
use Rattle.std.proofs.Common.{◌≡◌, ℕ, zero, suc, ◌+◌, ◌*◌, ◌/◌, ◌<◌, ◌==◌, ◌||◌, Bool, true, false, nat_lt, List, [], ◌∷◌, length, slice_get, Some, refl, sym, ap, subst, ◌∙◌, eq-eqb, ne_eqb, inl, inr, arith}
use Rattle.std.specs.List.{list_any}
use Rattle.std.proofs.lemmas.Bool.{cases_lt}
use Rattle.std.proofs.lemmas.Bool.Decides.{nat_tests}
use Rattle.std.proofs.lemmas.List.{get_or_past}
use Rattle.std.proofs.lemmas.List.Sums.{position_or_len_is}
use Rattle.std.proofs.lemmas.Nat.{div-mul-add}
use Rattle.ds_base.specs.Geometry.{clusters_of, per_cluster, items_of}
use Rattle.ds_base.specs.declared.geometry.Geom.{Geom}
use Rattle.ds_base.specs.declared.geometry.Kind.{Kind}
use Rattle.ds_base.specs.declared.geometry.Kind.TheVariants.{Fd, Sb, Pb}
use Rattle.ds_layout.specs.Places.{cluster_lock, place_sector}
use Rattle.ds_layout.specs.declared.places.Place.TheVariants as places
use Rattle.ds_image.specs.Guards.{least_lister, lister_or, IsGuard}
use Rattle.ds_image_parts.specs.Looks.{Look}
use Rattle.ds_image_tables.specs.Owns.{Owns, IsAt, list_of}
use Rattle.ds_image_parts.specs.Parts.{Parts, bits_in}
use Rattle.ds_image_parts.specs.Readings.{ReadsParts}
use Rattle.ds_image.specs.Sound.{sub_lists, ptr_lists}

-- Who lists an item

any-at : (test : ℕ → Bool) (xs : List ℕ) (i x : ℕ) → slice_get xs i ≡ Some x → test x ≡ true → list_any test xs ≡ true
any-at test [] i x at holds = absurd (cc)
any-at test (y ∷ xs) zero x at holds =
    let same : y ≡ x = cc in
    ap (λ b. b || list_any test xs) (ap test same ∙ holds)
any-at test (y ∷ xs) (suc i) x at holds = elim (test y) as (λ b. (b || list_any test xs) ≡ true) [ true ↦ refl | false ↦ any-at test xs i x at holds ]

none-at : (test : ℕ → Bool) (xs : List ℕ) → ((i x : ℕ) → slice_get xs i ≡ Some x → test x ≡ false) → list_any test xs ≡ false
none-at test [] none = refl
none-at test (y ∷ xs) none = ap (λ b. b || list_any test xs) (none 0 y refl) ∙ none-at test xs (λ i x at. none (suc i) x at)

not-listed : (lists : List (List ℕ)) (k n : ℕ) → ((i : ℕ) → ¬ IsAt lists k i n) → list_any (λ x. x == n) (list_of lists k) ≡ false
not-listed lists k n none = none-at (λ x. x == n) (list_of lists k) (λ i x at. ne_eqb x n (λ same. none i (at ∙ ap Some same)))

lists-within : (lists : List (List ℕ)) (d i n : ℕ) → IsAt lists d i n → d < length lists
lists-within lists d i n at = elim (cases_lt d (length lists)) [
  | inl within ↦ within
  | inr past ↦ absurd (let nothing : slice_get [] i ≡ Some n = subst (λ l. slice_get l i ≡ Some n) (get_or_past lists d [] past) at in cc)
]

-- where no item is listed twice, the one that lists it is the least
pub lister-listed : (lists : List (List ℕ)) (bits : List Bool) (d i n cluster : ℕ) → Owns lists bits → IsAt lists d i n → lister_or lists n cluster ≡ d
lister-listed lists bits d i n cluster owns at =
    let within : d < length lists = lists-within lists d i n at in
    let least : least_lister lists n ≡ d =
    position_or_len_is (λ list. list_any (λ x. x == n) list) lists d [] (omega (arith, within))
    (λ k below. not-listed lists k n (λ j at'. omega (arith, (owns.once k j d i n at' at).0, below)))
    (λ _. any-at (λ x. x == n) (list_of lists d) i n at (eq-eqb n n refl)) in
    let test : nat_lt d (length lists) ≡ true = grind (arith, nat_tests) in
    rw (least, test) refl

pub lister-unlisted : (lists : List (List ℕ)) (n cluster : ℕ) → ((k i : ℕ) → ¬ IsAt lists k i n) → lister_or lists n cluster ≡ cluster
lister-unlisted lists n cluster none =
    let least : least_lister lists n ≡ length lists =
    position_or_len_is (λ list. list_any (λ x. x == n) list) lists (length lists) [] (omega arith)
    (λ k below. not-listed lists k n (none k))
    (λ l. absurd (omega arith)) in
    let test : nat_lt (length lists) (length lists) ≡ false = grind (arith, nat_tests) in
    rw (least, test) refl

-- The guards of sectors

module _ (g : Geom) (look : Look) (p : Parts) (reads : ReadsParts g look p) where
  pub guard-body : (o : ℕ) → o < items_of g Fd → IsGuard g look (place_sector g (places.Body o)) o
  guard-body o within = record { parts = p; reads = reads; place = places.Body o; is_place = within; here = refl; guards = refl }

  pub guard-map : (kind : Kind) (c : ℕ) → c < clusters_of g kind → IsGuard g look (place_sector g (places.Bitmap kind c)) (cluster_lock kind c)
  guard-map kind c within = record { parts = p; reads = reads; place = places.Bitmap kind c; is_place = within; here = refl; guards = refl }

  -- a sub-block that is listed, and one that is not, of this cluster
  pub guard-sub_listed : (d i n : ℕ) → n < items_of g Sb → Owns (sub_lists p) (bits_in p.sb_maps) → IsAt (sub_lists p) d i n
      → IsGuard g look (place_sector g (places.SubBlock n)) d
  guard-sub_listed d i n within owns at = record {
    parts = p;
    reads = reads;
    place = places.SubBlock n;
    is_place = within;
    here = refl;
    guards = ap Some (lister-listed (sub_lists p) (bits_in p.sb_maps) d i n (cluster_lock Sb (n / per_cluster g Sb)) owns at);
  }

  pub guard-sub_unlisted : (n c it : ℕ) → n < items_of g Sb → c * per_cluster g Sb + it ≡ n → it < per_cluster g Sb → ((k i : ℕ) → ¬ IsAt (sub_lists p) k i n)
      → IsGuard g look (place_sector g (places.SubBlock n)) (cluster_lock Sb c)
  guard-sub_unlisted n c it within is_item small none = record {
    parts = p;
    reads = reads;
    place = places.SubBlock n;
    is_place = within;
    here = refl;
    guards = ap Some (lister-unlisted (sub_lists p) n (cluster_lock Sb (n / per_cluster g Sb)) none
        ∙ ap (cluster_lock Sb) (ap (λ k. k / per_cluster g Sb) (sym is_item) ∙ div-mul-add c (per_cluster g Sb) it small));
  }

  -- the same of a pointer block
  pub guard-ptr_listed : (d i n : ℕ) → n < items_of g Pb → Owns (ptr_lists p) (bits_in p.pb_maps) → IsAt (ptr_lists p) d i n
      → IsGuard g look (place_sector g (places.PtrBlock n)) d
  guard-ptr_listed d i n within owns at = record {
    parts = p;
    reads = reads;
    place = places.PtrBlock n;
    is_place = within;
    here = refl;
    guards = ap Some (lister-listed (ptr_lists p) (bits_in p.pb_maps) d i n (cluster_lock Pb (n / per_cluster g Pb)) owns at);
  }

  pub guard-ptr_unlisted : (n c it : ℕ) → n < items_of g Pb → c * per_cluster g Pb + it ≡ n → it < per_cluster g Pb → ((k i : ℕ) → ¬ IsAt (ptr_lists p) k i n)
      → IsGuard g look (place_sector g (places.PtrBlock n)) (cluster_lock Pb c)
  guard-ptr_unlisted n c it within is_item small none = record {
    parts = p;
    reads = reads;
    place = places.PtrBlock n;
    is_place = within;
    here = refl;
    guards = ap Some (lister-unlisted (ptr_lists p) n (cluster_lock Pb (n / per_cluster g Pb)) none
        ∙ ap (cluster_lock Pb) (ap (λ k. k / per_cluster g Pb) (sym is_item) ∙ div-mul-add c (per_cluster g Pb) it small));
  }
