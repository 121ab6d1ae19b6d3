-- What is decoded is determined, and lists of decoded parts are put together one by one.
use Rattle.std.proofs.Common.{◌≡◌, ℕ, zero, suc, ◌-◌, ◌<◌, ⊎_elim, List, [], ◌∷◌, ◌++◌, get_or, Option, Some, None, refl, sym, ap, subst, ◌∙◌, length-append, arith}
use Rattle.std.proofs.lemmas.List.{ext_get_or, get_or_append_left, get_or-append_right}
use Rattle.std.proofs.lemmas.Bool.{cases_lt}
use Rattle.ds_base.specs.Decoding.{IsDecoded}
use Rattle.ds_base.specs.declared.sectors.Sector.{Sector}
use Rattle.ds_image_parts.specs.Looks.{Look, HasBytes, IsBlock, AreBlocks}
use Rattle.ds_image_parts.specs.Parts.{part_at}
use Rattle.ds_image_parts.specs.Readings.{IsReading}

-- two answers of a decoder are one
pub decoded_same : {V : Type 0} (a b : Option V) (Describes : V → Type 0) → IsDecoded a Describes → IsDecoded b Describes → a ≡ b
decoded_same None None Describes p q = refl
decoded_same None (Some y) Describes p q = (p y).1 ((q y).0 refl)
decoded_same (Some x) b Describes p q = sym ((q x).1 ((p x).0 refl))

-- what describes the same values is decoded alike
pub decoded_as : {V : Type 0} (a : Option V) (Describes Then : V → Type 0) → ((v : V) → Describes v → Then v) → ((v : V) → Then v → Describes v) → IsDecoded a Describes → IsDecoded a Then
decoded_as a Describes Then to from p v = (λ e. to v ((p v).0 e), λ d. (p v).1 (from v d))

-- two lists of the same parts are one
pub reading_same : {V : Type 0} (n : ℕ) (Spells : ℕ → V → Type 0) (xs ys : List (Option V)) → IsReading n Spells xs → IsReading n Spells ys → xs ≡ ys
reading_same n Spells xs ys p q =
    ext_get_or None xs ys (p.len ∙ sym q.len)
    (λ i l. decoded_same (part_at xs i) (part_at ys i) (Spells i) (p.each i (omega (arith, p.len))) (q.each i (omega (arith, p.len))))

-- what is said of a sector's bytes is said of those of the sector that stands there
sector_found : (look : Look) (at : ℕ) (s : Sector) → look at ≡ Some s → (P : List ℕ → Type 0) (t : Sector) → look at ≡ Some t → P t.bytes → P s.bytes
sector_found look at s there P t found holds = let same : t ≡ s = cc in subst (λ (u : Sector). P u.bytes) same holds

-- what a sector may spell can be decoded, and where there is no sector there is nothing to spell
looked_by : {V : Type 0} (o : Option Sector) (Describes : List ℕ → V → Type 0) → ((s : Sector) → o ≡ Some s → IsBlock s.bytes)
    → ((bytes : List ℕ) → IsBlock bytes → (r : Option V) × IsDecoded r (Describes bytes))
    → (r : Option V) × IsDecoded r (λ v. (s : Sector) × (o ≡ Some s) × Describes s.bytes v)
looked_by None Describes blocks reading = (None, λ v. (λ e. absurd cc, λ d. let none : None ≡ Some d.0 = d.1 in absurd cc))
looked_by (Some s) Describes blocks reading =
    let read = reading s.bytes (blocks s refl) in
    (read.0, λ v. (λ e. (s, refl, (read.1 v).0 e), λ d. (read.1 v).1 (let same : d.0 ≡ s = cc in subst (λ (t : Sector). Describes t.bytes v) same d.2)))

-- the same of a sector that is looked at
looked_at : {V : Type 0} (look : Look) (at : ℕ) (Describes : List ℕ → V → Type 0) → AreBlocks look
    → ((bytes : List ℕ) → IsBlock bytes → (r : Option V) × IsDecoded r (Describes bytes))
    → (r : Option V) × IsDecoded r (λ v. (s : Sector) × (look at ≡ Some s) × Describes s.bytes v)
looked_at look at Describes blocks reading = looked_by (look at) Describes (blocks at) reading

-- so what a sector spells is there, where it is described by its form alone
pub spelled_there : {V : Type 0} (look : Look) (at : ℕ) (Is : V → Type 0) (spell : V → List ℕ) → AreBlocks look
    → ((bytes : List ℕ) → IsBlock bytes → (r : Option V) × IsDecoded r (λ v. Is v × (bytes ≡ spell v)))
    → (r : Option V) × IsDecoded r (λ v. Is v × HasBytes look at (spell v))
spelled_there look at Is spell blocks reading =
    let read = looked_at look at (λ bytes v. Is v × (bytes ≡ spell v)) blocks reading in
    (read.0, decoded_as read.0 _ (λ v. Is v × HasBytes look at (spell v)) (λ v d. (d.2.0, (d.0, d.1, d.2.1))) (λ v d. (d.1.0, d.1.1, (d.0, d.1.2))) read.1)

-- and where it is described by its number too
pub numbered_there : {V : Type 0} (look : Look) (at : ℕ) (Has Is : V → Type 0) (spell : V → List ℕ) → AreBlocks look
    → ((bytes : List ℕ) → IsBlock bytes → (r : Option V) × IsDecoded r (λ v. Has v × Is v × (bytes ≡ spell v)))
    → (r : Option V) × IsDecoded r (λ v. Has v × Is v × HasBytes look at (spell v))
numbered_there look at Has Is spell blocks reading =
    let read = looked_at look at (λ bytes v. Has v × Is v × (bytes ≡ spell v)) blocks reading in
    (read.0, decoded_as read.0 _ (λ v. Has v × Is v × HasBytes look at (spell v)) (λ v d. (d.2.0, d.2.1, (d.0, d.1, d.2.2))) (λ v d. (d.2.0, d.2.1, (d.0, d.1, d.2.2))) read.1)

-- what is decoded of a sector is what the sector spells, by its form alone
pub spelled_at : {V : Type 0} (look : Look) (at : ℕ) (s : Sector) (Is : V → Type 0) (spell : V → List ℕ) (r : Option V) → look at ≡ Some s
    → IsDecoded r (λ v. Is v × (s.bytes ≡ spell v)) → IsDecoded r (λ v. Is v × HasBytes look at (spell v))
spelled_at look at s Is spell r there read =
    decoded_as r _ _ (λ v d. (d.0, (s, there, d.1))) (λ v d. (d.0, sector_found look at s there (λ bytes. bytes ≡ spell v) d.1.0 d.1.1 d.1.2)) read

-- and by its number too
pub numbered_at : {V : Type 0} (look : Look) (at : ℕ) (s : Sector) (Has Is : V → Type 0) (spell : V → List ℕ) (r : Option V) → look at ≡ Some s
    → IsDecoded r (λ v. Has v × Is v × (s.bytes ≡ spell v)) → IsDecoded r (λ v. Has v × Is v × HasBytes look at (spell v))
numbered_at look at s Has Is spell r there read =
    decoded_as r _ _ (λ v d. (d.0, d.1, (s, there, d.2))) (λ v d. (d.0, d.1, sector_found look at s there (λ bytes. bytes ≡ spell v) d.2.0 d.2.1 d.2.2)) read

-- a part put behind others is read at its place
pub reading_push : {V : Type 0} (n : ℕ) (Spells : ℕ → V → Type 0) (xs : List (Option V)) (r : Option V) → IsReading n Spells xs → IsDecoded r (Spells n) → IsReading (suc n) Spells (xs ++ r ∷ [])
reading_push n Spells xs r read last = record {
  len = length-append xs (r ∷ []) ∙ omega (arith, read.len);
  each = λ i l.
      ⊎_elim
      (λ below. subst (λ x. IsDecoded x (Spells i)) (sym (get_or_append_left xs (r ∷ []) None i (omega (arith, read.len)))) (read.each i below))
      (λ above.
      let here : i ≡ n = omega arith in
      let there : part_at (xs ++ r ∷ []) n ≡ r = get_or-append_right xs (r ∷ []) n n None read.len (omega arith) ∙ ap (λ k. get_or (r ∷ []) k None) (let none : n - n ≡ 0 = omega arith in none) in
      subst (λ k. IsDecoded (part_at (xs ++ r ∷ []) k) (Spells k)) (sym here) (subst (λ x. IsDecoded x (Spells n)) (sym there) last))
      (cases_lt i n);
}

-- a part for each number makes a list of parts
pub reading_there : {V : Type 0} (n : ℕ) (Spells : ℕ → V → Type 0) → ((i : ℕ) → i < n → (r : Option V) × IsDecoded r (Spells i)) → (xs : List (Option V)) × IsReading n Spells xs
reading_there zero Spells each = ([], record { len = refl; each = λ i l. absurd (omega arith) })
reading_there (suc n) Spells each =
    let rest = reading_there n Spells (λ i l. each i (omega arith)) in
    let last = each n (omega arith) in
    (rest.0 ++ last.0 ∷ [], reading_push n Spells rest.0 last.0 rest.1 last.1)
