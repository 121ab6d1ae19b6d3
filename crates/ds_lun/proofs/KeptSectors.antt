-- The sectors of a device that keeps some of them.
use Rattle.std.proofs.Common.{inl, inr, ◌≡◌, ℕ, zero, suc, ◌+◌, ◌<◌, ◌≤◌, Bool, true, false, ◌==◌, ◌&&◌, cond, List, [], ◌∷◌, ◌++◌, length, replicate, refl, ap, sym, ◌∙◌, arith, length-set}
use Rattle.std.specs.Prelude.{Option, Some, None, slice_get, slice_set, nat_eq, MatchOption}
use Rattle.std.specs.Option.{option_or}
use Rattle.std.specs.List.{list_all}
use Rattle.std.proofs.lemmas.Bool.Decides.{eqb_tells, Decides-eqb}
use Rattle.std.proofs.lemmas.List.{ext_get_or, get_or-replicate, get_or-set_other, length-replicate}
use Rattle.std.proofs.lemmas.Grind.{get_or-set_at}
use Rattle.std.proofs.lemmas.List.FromFn.{length-map-range_with_len, get_or-map-range_with_len}
use Rattle.std.proofs.lemmas.Option.{slice_get-get_or, slice_get_past, get_or_from_slice_get}
use Rattle.std.proofs.Math.ListN.{get_or}
use Rattle.ds_base.specs.declared.sectors.Sector.{Sector}
use Rattle.ds_base.specs.Device.{IsFirstDifference}
use Rattle.ds_base.proofs.DeviceLaws.{same_from_bytes}
use Rattle.ds_lun.specs.Devices.{zero_sector, kept_or_zero, held_in, sectors_of}

pub length-sectors_of : (kept : ℕ → Option Sector) (n : ℕ) → length (sectors_of kept n) ≡ n
unfolding sectors_of
length-sectors_of kept n = length-map-range_with_len (λ (at : ℕ). kept_or_zero (kept at)) 0 n

get_or-sectors_of : (kept : ℕ → Option Sector) (n at : ℕ) (d : Sector) → at < n → get_or (sectors_of kept n) at d ≡ kept_or_zero (kept at)
unfolding sectors_of
get_or-sectors_of kept n at d within = get_or-map-range_with_len (λ (k : ℕ). kept_or_zero (kept k)) 0 n at at d within (omega arith)

-- the sector of a number
pub sector_at : (kept : ℕ → Option Sector) (n at : ℕ) → at < n → slice_get (sectors_of kept n) at ≡ Some (kept_or_zero (kept at))
sector_at kept n at within =
    slice_get-get_or (sectors_of kept n) at zero_sector (omega (arith, length-sectors_of kept n))
    ∙ ap Some (get_or-sectors_of kept n at zero_sector within)

-- the sectors are those that are kept
pub sectors_of-same : (f g : ℕ → Option Sector) (n : ℕ) → ((at : ℕ) → g at ≡ f at) → sectors_of g n ≡ sectors_of f n
sectors_of-same f g n same = ext_get_or zero_sector _ _ (length-sectors_of g n ∙ sym (length-sectors_of f n))
    (λ i less. let within : i < n = omega (arith, less, length-sectors_of g n) in
    get_or-sectors_of g n i zero_sector within ∙ ap kept_or_zero (same i) ∙ sym (get_or-sectors_of f n i zero_sector within))

-- where none is kept, all are zero
pub sectors_of-none : (f : ℕ → Option Sector) (n : ℕ) → ((at : ℕ) → f at ≡ None) → sectors_of f n ≡ replicate n zero_sector
sectors_of-none f n none = ext_get_or zero_sector _ _ (length-sectors_of f n ∙ sym (length-replicate n zero_sector))
    (λ i less. let within : i < n = omega (arith, less, length-sectors_of f n) in
    get_or-sectors_of f n i zero_sector within ∙ ap kept_or_zero (none i) ∙ sym (get_or-replicate n i zero_sector zero_sector within))

-- what is kept changes at one number
pub sectors_of-put : (f g : ℕ → Option Sector) (n at : ℕ) (w : Option Sector) (s : Sector) → at < n
    → ((q : ℕ) → g q ≡ cond (nat_eq at q) w (f q)) → kept_or_zero w ≡ s
    → sectors_of g n ≡ slice_set (sectors_of f n) at s
sectors_of-put f g n at w s there changes is = ext_get_or zero_sector _ _
    (length-sectors_of g n ∙ sym (length-set (sectors_of f n) at s ∙ length-sectors_of f n))
    (λ i less. let within : i < n = omega (arith, less, length-sectors_of g n) in
    let now : get_or (sectors_of g n) i zero_sector ≡ kept_or_zero (cond (nat_eq at i) w (f i)) =
    get_or-sectors_of g n i zero_sector within ∙ ap kept_or_zero (changes i) in
    let chosen : Bool → Sector = λ b. kept_or_zero (cond b w (f i)) in
    elim (eqb_tells at i) [
      | inl same ↦ now ∙ ap chosen same.0 ∙ is ∙ sym (get_or-set_at (sectors_of f n) at i s zero_sector (sym same.1) (omega (arith, length-sectors_of f n)))
      | inr apart ↦ now ∙ ap chosen apart.0 ∙ sym (get_or-sectors_of f n i zero_sector within)
          ∙ sym (get_or-set_other (sectors_of f n) at i s zero_sector (λ e. apart.1 (sym e)))
    ])

-- a zero sector that is not kept is put already
pub sectors_of-put_zero : (f : ℕ → Option Sector) (n at : ℕ) (s : Sector) → at < n → f at ≡ None → s ≡ zero_sector
    → sectors_of f n ≡ slice_set (sectors_of f n) at s
sectors_of-put_zero f n at s there none is =
    sectors_of-put f f n at None s there
    (λ q. let chosen : Bool → Option Sector = λ b. cond b None (f q) in
    elim (eqb_tells at q) [
      | inl same ↦ sym (ap f same.1) ∙ none ∙ sym (ap chosen same.0)
      | inr apart ↦ sym (ap chosen apart.0)
    ])
    (sym is)

-- the front changes at one number
put_in_front : (front after : List Sector) (kept : ℕ → Option Sector) (n at : ℕ) (s : Sector) → at < n
    → slice_get after at ≡ Some s → ((q : ℕ) → (at ≡ q → ⊥) → slice_get after q ≡ slice_get front q)
    → sectors_of (held_in after kept) n ≡ slice_set (sectors_of (held_in front kept) n) at s
put_in_front front after kept n at s there is others = sectors_of-put (held_in front kept) (held_in after kept) n at (Some s) s there
    (λ q. let chosen : Bool → Option Sector = λ b. cond b (Some s) (held_in front kept q) in
    let in_front : Option Sector → Option Sector = λ o. option_or o (kept q) in
    elim (eqb_tells at q) [
      | inl same ↦ ap in_front (ap (λ (k : ℕ). slice_get after k) (sym same.1) ∙ is) ∙ sym (ap chosen same.0)
      | inr apart ↦ ap in_front (others q apart.1) ∙ sym (ap chosen apart.0)
    ])
    refl

slice_get-set_other : (xs : List Sector) (at : ℕ) (s : Sector) (q : ℕ) → (at ≡ q → ⊥) → slice_get (slice_set xs at s) q ≡ slice_get xs q
slice_get-set_other [] at s q apart = refl
slice_get-set_other (x ∷ xs) zero s zero apart = absurd (apart refl)
slice_get-set_other (x ∷ xs) zero s (suc q) apart = refl
slice_get-set_other (x ∷ xs) (suc at) s zero apart = refl
slice_get-set_other (x ∷ xs) (suc at) s (suc q) apart = slice_get-set_other xs at s q (λ e. apart (ap suc e))

slice_get-push : (xs : List Sector) (s : Sector) → slice_get (xs ++ s ∷ []) (length xs) ≡ Some s
slice_get-push [] s = refl
slice_get-push (x ∷ xs) s = slice_get-push xs s

slice_get-push_other : (xs : List Sector) (s : Sector) (q : ℕ) → (length xs ≡ q → ⊥) → slice_get (xs ++ s ∷ []) q ≡ slice_get xs q
slice_get-push_other [] s zero apart = absurd (apart refl)
slice_get-push_other [] s (suc q) apart = refl
slice_get-push_other (x ∷ xs) s zero apart = refl
slice_get-push_other (x ∷ xs) s (suc q) apart = slice_get-push_other xs s q (λ e. apart (ap suc e))

-- a sector is put in its place in front
pub set_in_front : (front : List Sector) (kept : ℕ → Option Sector) (n at : ℕ) (s : Sector) → at < n → at < length front
    → sectors_of (held_in (slice_set front at s) kept) n ≡ slice_set (sectors_of (held_in front kept) n) at s
set_in_front front kept n at s there within = put_in_front front (slice_set front at s) kept n at s there
    (slice_get-get_or (slice_set front at s) at s (omega (arith, length-set front at s)) ∙ ap Some (get_or-set_at front at at s s refl within))
    (slice_get-set_other front at s)

-- the front grows by the next sector
pub push_in_front : (front : List Sector) (kept : ℕ → Option Sector) (n at : ℕ) (s : Sector) → at < n → at ≡ length front
    → sectors_of (held_in (front ++ s ∷ []) kept) n ≡ slice_set (sectors_of (held_in front kept) n) at s
push_in_front front kept n at s there next = put_in_front front (front ++ s ∷ []) kept n at s there
    (ap (λ (k : ℕ). slice_get (front ++ s ∷ []) k) next ∙ slice_get-push front s)
    (λ q apart. slice_get-push_other front s q (λ e. apart (next ∙ e)))

-- what is kept beyond the front changes at one number
pub put_beyond : (front : List Sector) (kept after : ℕ → Option Sector) (n at : ℕ) (w : Option Sector) (s : Sector) → at < n → length front ≤ at
    → ((q : ℕ) → after q ≡ cond (nat_eq at q) w (kept q)) → kept_or_zero w ≡ s
    → sectors_of (held_in front after) n ≡ slice_set (sectors_of (held_in front kept) n) at s
put_beyond front kept after n at w s there past changes is = sectors_of-put (held_in front kept) (held_in front after) n at w s there
    (λ q. let now : Bool → Option Sector = λ b. cond b w (kept q) in
    let chosen : Bool → Option Sector = λ b. cond b w (held_in front kept q) in
    elim (eqb_tells at q) [
      | inl same ↦ ap (λ (o : Option Sector). option_or o (after q)) (ap (λ (k : ℕ). slice_get front k) (sym same.1) ∙ slice_get_past front at past)
          ∙ changes q ∙ ap now same.0 ∙ sym (ap chosen same.0)
      | inr apart ↦ ap (λ (o : Option Sector). option_or (slice_get front q) o) (changes q ∙ ap now apart.0) ∙ sym (ap chosen apart.0)
    ])
    is

and_true : (a b : Bool) → (a && b) ≡ true → (a ≡ true) × (b ≡ true)
and_true true b h = (refl, h)
and_true false b h = absurd (cc)

all_zero : (xs : List ℕ) → list_all (λ x. x == 0) xs ≡ true → xs ≡ replicate (length xs) 0
all_zero [] h = refl
all_zero (x ∷ xs) h =
    let both = and_true (x == 0) (list_all (λ y. y == 0) xs) h in
    let head : x ≡ 0 = (Decides-eqb x 0).0 both.0 in
    let tail : xs ≡ replicate (length xs) 0 = all_zero xs both.1 in
    rw head (ap (λ (r : List ℕ). 0 ∷ r) tail)

-- a sector with zero bytes is the zero sector
pub is_zero_sector : (s : Sector) → s.bytes ≡ replicate 512 0 → s ≡ zero_sector
unfolding zero_sector
is_zero_sector s is = same_from_bytes s (record { bytes = replicate 512 0 }) is

-- the sector of a number, of sectors that are these
pub sector_of : (kept : ℕ → Option Sector) (n at : ℕ) (sectors : List Sector) (held : Option Sector) (s : Sector)
    → sectors_of kept n ≡ sectors → at < length sectors → held ≡ kept at → kept_or_zero held ≡ s → slice_get sectors at ≡ Some s
sector_of kept n at sectors held s is there found same =
    let within : at < n = omega (arith, ap (λ (xs : List Sector). length xs) is, length-sectors_of kept n) in
    sym (ap (λ (xs : List Sector). slice_get xs at) is) ∙ sector_at kept n at within
    ∙ ap (λ (o : Option Sector). Some (kept_or_zero o)) (sym found) ∙ ap Some same

-- what is told of the sector is told of the device
pub told_of : (sectors : List Sector) (at : ℕ) (s verify : Sector) (answer : Option ℕ) → slice_get sectors at ≡ Some s
    → MatchOption answer (s ≡ verify) (λ offset. IsFirstDifference s.bytes verify.bytes offset)
    → MatchOption answer (slice_get sectors at ≡ Some verify)
    (λ offset. (x : Sector) × (slice_get sectors at ≡ Some x) × IsFirstDifference x.bytes verify.bytes offset)
told_of sectors at s verify None is same = is ∙ ap Some same
told_of sectors at s verify (Some offset) is differs = (s, is, differs)

below_apart : (i k : ℕ) → k < i + 1 → (i ≡ k → ⊥) → k < i
below_apart i k less apart = omega arith

-- the sectors so far are those of a list
pub record AgreeBelow (list sectors : List Sector) (i : ℕ) : Type 0 where
  pub long : length sectors ≡ length list
  pub same : (k : ℕ) → k < i → get_or sectors k zero_sector ≡ get_or list k zero_sector

pub agree_more : (list now later : List Sector) (i : ℕ) (s : Sector) → slice_get list i ≡ Some s → i < length list → later ≡ slice_set now i s
    → AgreeBelow list now i → AgreeBelow list later (i + 1)
agree_more list now later i s is within put agrees = record {
  long = ap (λ (xs : List Sector). length xs) put ∙ length-set now i s ∙ agrees.long;
  same = λ k less. ap (λ (xs : List Sector). get_or xs k zero_sector) put ∙ elim (eqb_tells i k) as (λ _. get_or (slice_set now i s) k zero_sector ≡ get_or list k zero_sector) [
    | inl same ↦ get_or-set_at now i k s zero_sector (sym same.1) (omega (arith, agrees.long))
        ∙ sym (get_or_from_slice_get list k s zero_sector (ap (λ (n : ℕ). slice_get list n) (sym same.1) ∙ is))
    | inr apart ↦ get_or-set_other now i k s zero_sector (λ e. apart.1 (sym e)) ∙ agrees.same k (below_apart i k less apart.1)
  ];
}

pub agree_all : (list sectors : List Sector) → AgreeBelow list sectors (length list) → sectors ≡ list
agree_all list sectors agrees = ext_get_or zero_sector sectors list agrees.long (λ i less. agrees.same i (omega (arith, agrees.long)))

-- a sector of zero bytes is the zero sector
pub zero_from_bytes : (s : Sector) → length s.bytes ≡ 512 → list_all (λ x. x == 0) s.bytes ≡ true → s ≡ zero_sector
zero_from_bytes s len zeros = is_zero_sector s (all_zero s.bytes zeros ∙ ap (λ (n : ℕ). replicate n 0) len)
