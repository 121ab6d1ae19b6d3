-- What sectors hold of which some are replaced.
use Rattle.std.proofs.Common.{◌≡◌, ℕ, zero, suc, ◌+◌, ◌<◌, ◌≤◌, ◌==◌, inl, inr, Bool, true, false, cond, if◌then◌else◌, List, [], ◌∷◌, length, get_or, slice_get, slice_set, Option, Some, None, refl, sym, ap, ◌∙◌, length-set, length-take-le, eq-eqb, ne_eqb, arith}
use Rattle.std.specs.Prelude.{option_map, unwrap_or}
use Rattle.std.specs.BTreeMap.{is_at}
use Rattle.std.specs.Cmp.{nat_cmp_is}
use Rattle.std.specs.Ordering.{nat_cmp, is_eq}
use Rattle.std.proofs.lemmas.Bool.{cases_eq, cases_lt}
use Rattle.std.proofs.lemmas.List.{ext_get_or, get_or-take}
use Rattle.std.proofs.lemmas.Option.{slice_get-get_or, get_or_from_slice_get, unwrap_or-slice_get}
use Rattle.ds_base.specs.declared.geometry.Geom.{Geom}
use Rattle.ds_base.specs.declared.sectors.Sector.{Sector}
use Rattle.std.specs.declared.cmp.Ordering.TheVariants.{Less, Equal, Greater}
use Rattle.ds_layout.specs.Places.{blocks_at}
use Rattle.ds_image_parts.specs.Looks.{Look}
use Rattle.ds_layout.specs.Metadata.{front_of}
use Rattle.ds_image_parts.specs.Replaced.{or_sector, replaced_from, image_of}
use Rattle.ds_image_parts.proofs.Journaling.LaidOver.{slice_get-set}

pub length-replaced : (pending : Look) (at : ℕ) (xs : List Sector) → length (replaced_from pending at xs) ≡ length xs
length-replaced pending at [] = refl
length-replaced pending at (x ∷ xs) = ap suc (length-replaced pending (suc at) xs)

-- where nothing is pending the sectors stay
pub replaced_none : (pending : Look) (at : ℕ) (xs : List Sector) → ((k : ℕ) → pending k ≡ None) → replaced_from pending at xs ≡ xs
replaced_none pending at [] none = refl
replaced_none pending at (x ∷ xs) none =
    ap (λ o. or_sector o x ∷ replaced_from pending (suc at) xs) (none at) ∙ ap (λ ys. x ∷ ys) (replaced_none pending (suc at) xs none)

replaced_get : (pending : Look) (at : ℕ) (xs : List Sector) (k : ℕ) → slice_get (replaced_from pending at xs) k ≡ option_map (or_sector (pending (at + k))) (slice_get xs k)
replaced_get pending at [] k = refl
replaced_get pending at (x ∷ xs) zero = let here : at ≡ at + 0 = omega arith in ap (λ n. Some (or_sector (pending n) x)) here
replaced_get pending at (x ∷ xs) (suc k) =
    let next : suc at + k ≡ at + suc k = omega arith in
    replaced_get pending (suc at) xs k ∙ ap (λ n. option_map (or_sector (pending n)) (slice_get xs k)) next

-- a sector is the pending one, or else what was there
pub replaced_at : (pending : Look) (xs : List Sector) (k : ℕ) → slice_get (replaced_from pending 0 xs) k ≡ option_map (or_sector (pending k)) (slice_get xs k)
replaced_at pending xs k =
    let here : 0 + k ≡ k = omega arith in
    replaced_get pending 0 xs k ∙ ap (λ n. option_map (or_sector (pending n)) (slice_get xs k)) here

-- a number is found by its comparison
is_at-number : (k q : ℕ) → is_at (nat_cmp k) q ≡ (k == q)
is_at-number k q =
    elim (cases_eq k q) [
      | inl same ↦ ap is_eq (sym (nat_cmp_is k q Equal same)) ∙ sym (eq-eqb k q same)
      | inr apart ↦
          elim (cases_lt k q) [
            | inl below ↦ ap is_eq (sym (nat_cmp_is k q Less below)) ∙ sym (ne_eqb k q apart)
            | inr above ↦ ap is_eq (sym (nat_cmp_is k q Greater (omega (arith, apart)))) ∙ sym (ne_eqb k q apart)
          ]
    ]

set_here : (b : Bool) (s y : Sector) (o : Option Sector) → option_map (or_sector (cond b (Some s) o)) (Some y) ≡ (if b then Some s else option_map (or_sector o) (Some y))
set_here true s y o = refl
set_here false s y o = refl

-- what is pending for one more number is written there
pub replaced_set : (old new : Look) (k : ℕ) (s : Sector) (xs : List Sector) → ((q : ℕ) → new q ≡ cond (is_at (nat_cmp k) q) (Some s) (old q))
    → replaced_from new 0 xs ≡ slice_set (replaced_from old 0 xs) k s
replaced_set old new k s xs sets =
    let before = replaced_from old 0 xs in
    let after = replaced_from new 0 xs in
    ext_get_or s after (slice_set before k s) (length-replaced new 0 xs ∙ sym (length-set before k s ∙ length-replaced old 0 xs))
    (λ i l.
    let within : i < length xs = omega (arith, l, length-replaced new 0 xs) in
    let y = get_or xs i s in
    let there : slice_get xs i ≡ Some y = slice_get-get_or xs i s within in
    let fresh : new i ≡ cond (k == i) (Some s) (old i) = sets i ∙ ap (λ b. cond b (Some s) (old i)) (is_at-number k i) in
    let stays : slice_get before i ≡ option_map (or_sector (old i)) (Some y) = replaced_at old xs i ∙ ap (option_map (or_sector (old i))) there in
    let same : slice_get after i ≡ slice_get (slice_set before k s) i =
    replaced_at new xs i
    ∙ ap (option_map (or_sector (new i))) there
    ∙ ap (λ o. option_map (or_sector o) (Some y)) fresh
    ∙ set_here (k == i) s y (old i)
    ∙ ap (λ o. if k == i then Some s else o) (sym stays)
    ∙ sym (slice_get-set before k i s (omega (arith, within, length-replaced old 0 xs))) in
    sym (unwrap_or-slice_get after i s) ∙ ap (λ o. unwrap_or o s) same ∙ unwrap_or-slice_get (slice_set before k s) i s)

front_there : (g : Geom) (sectors : List Sector) (at : ℕ) (d : Sector) → at < blocks_at g → blocks_at g ≤ length sectors → slice_get (front_of g sectors) at ≡ Some (get_or sectors at d)
front_there g sectors at d inside whole =
    slice_get-get_or (front_of g sectors) at d (omega (arith, inside, length-take-le (blocks_at g) sectors whole))
    ∙ ap Some (get_or-take (blocks_at g) sectors at d inside)

-- so a sector of an image is the pending one, or else that of the store
pub held-pending : (g : Geom) (sectors : List Sector) (pending : Look) (at : ℕ) (s : Sector) → at < blocks_at g → blocks_at g ≤ length sectors
    → pending at ≡ Some s → slice_get (image_of g sectors pending) at ≡ Some s
held-pending g sectors pending at s inside whole is =
    replaced_at pending (front_of g sectors) at ∙ ap (option_map (or_sector (pending at))) (front_there g sectors at s inside whole)
    ∙ ap (λ o. Some (or_sector o (get_or sectors at s))) is

pub held-stored : (g : Geom) (sectors : List Sector) (pending : Look) (at : ℕ) (s : Sector) → at < blocks_at g → blocks_at g ≤ length sectors
    → pending at ≡ None → slice_get sectors at ≡ Some s → slice_get (image_of g sectors pending) at ≡ Some s
held-stored g sectors pending at s inside whole none there =
    replaced_at pending (front_of g sectors) at ∙ ap (option_map (or_sector (pending at))) (front_there g sectors at s inside whole)
    ∙ ap (λ o. Some (or_sector o (get_or sectors at s))) none ∙ ap Some (get_or_from_slice_get sectors at s s there)
