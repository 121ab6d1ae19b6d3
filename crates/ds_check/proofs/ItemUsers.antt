-- What objects list, and tables of users that grow object by object.
use Rattle.std.proofs.Common.{◌≡◌, ◌≢◌, ℕ, ◌+◌, ◌<◌, ◌≤◌, cond, eqb, List, [], ◌∷◌, ◌++◌, length, take, map, filter, get_or, Some, None, refl, sym, ap, subst, ◌∙◌, append_assoc, arith}
use Rattle.std.specs.Prelude.{slice_get}
use Rattle.std.specs.List.{flat_map, range_with_len}
use Rattle.std.proofs.lemmas.Bool.{ne_eqb}
use Rattle.std.proofs.lemmas.List.{map-append, map_more, append-nil}
use Rattle.std.proofs.lemmas.List.Concat.{flat_map-append}
use Rattle.std.proofs.lemmas.List.Elements.{filter-append}
use Rattle.std.proofs.lemmas.List.Folds.{flat_map-map}
use Rattle.std.proofs.lemmas.List.FromFn.{map-range_with_len_more}
use Rattle.ds_base.specs.declared.geometry.Kind.{Kind}
use Rattle.ds_image_tables.specs.Users.{users, uses_by, KnowsUsers}
use Rattle.ds_check.specs.declared.findings.Find.TheVariants.{Twice}
use Rattle.ds_check.specs.Sharing.{twice}

-- Uses that are not noted

one-apart : (item object n : ℕ) → item ≢ n → users ((item, object) ∷ []) n ≡ []
one-apart item object n apart = ap (λ t. map (λ (u : ℕ × ℕ). u.1) (cond t ((item, object) ∷ []) [])) (ne_eqb item n apart)

users-apart : (uses : List (ℕ × ℕ)) (item object n : ℕ) → item ≢ n → users (uses ++ (item, object) ∷ []) n ≡ users uses n
users-apart uses item object n apart =
    ap (map (λ (u : ℕ × ℕ). u.1)) (filter-append (λ (u : ℕ × ℕ). eqb u.0 n) uses ((item, object) ∷ []))
    ∙ map-append (λ (u : ℕ × ℕ). u.1) (filter (λ (u : ℕ × ℕ). eqb u.0 n) uses) (filter (λ (u : ℕ × ℕ). eqb u.0 n) ((item, object) ∷ []))
    ∙ ap (λ l. users uses n ++ l) (one-apart item object n apart)
    ∙ append-nil (users uses n)

-- a table tells nothing of a use of an item without a row
pub knows-outside : (table : List (List ℕ)) (item object : ℕ) → length table ≤ item → (uses : List (ℕ × ℕ)) → KnowsUsers table uses
    → KnowsUsers table (uses ++ (item, object) ∷ [])
knows-outside table item object out uses knows = λ n within.
    let apart : item ≢ n = omega arith in
    knows n within ∙ ap (take 2) (sym (users-apart uses item object n apart))

-- Uses one after another

pub uses-none : (uses : List (ℕ × ℕ)) (table : List (List ℕ)) → KnowsUsers table uses → KnowsUsers table (uses ++ [])
uses-none uses table knows = subst (KnowsUsers table) (sym (append-nil uses)) knows

-- the uses of a list's items up to a place, and then that of the item there
pub uses-more : (table : List (List ℕ)) (uses : List (ℕ × ℕ)) (object : ℕ) (items : List ℕ) (i : ℕ) → i < length items
    → KnowsUsers table ((uses ++ uses_by object (take i items)) ++ (get_or items i 0, object) ∷ [])
    → KnowsUsers table (uses ++ uses_by object (take (i + 1) items))
uses-more table uses object items i there knows =
    subst (KnowsUsers table) (
    append_assoc uses (uses_by object (take i items)) ((get_or items i 0, object) ∷ [])
    ∙ ap (λ us. uses ++ us) (sym (map_more (λ item. (item, object)) items i 0 there))) knows

-- the lists of the numbers below one, and then that of the number
lists-more : {A : Type 0} (each : ℕ → List A) (n : ℕ) → flat_map each (range_with_len 0 n) ++ each n ≡ flat_map each (range_with_len 0 (n + 1))
lists-more each n =
    let numbers = range_with_len 0 n in
    ap (λ xs. xs ++ each n) (sym (flat_map-map each (λ k. k) numbers))
    ∙ ap (λ xs. flat_map each (map (λ k. k) numbers) ++ xs) (sym (append-nil (each n)))
    ∙ sym (flat_map-append each (map (λ k. k) numbers) (n ∷ []))
    ∙ ap (flat_map each) (sym (map-range_with_len_more (λ k. k) 0 n n (let here : 0 + n ≡ n = omega arith in here)))
    ∙ flat_map-map each (λ k. k) (range_with_len 0 (n + 1))

-- the uses of the objects below one, and then those of that object
pub objects-more : (table : List (List ℕ)) (each : ℕ → List (ℕ × ℕ)) (n : ℕ) → KnowsUsers table (flat_map each (range_with_len 0 n) ++ each n)
    → KnowsUsers table (flat_map each (range_with_len 0 (n + 1)))
objects-more table each n knows = subst (KnowsUsers table) (lists-more each n) knows

-- Items with two users

pub none-first : (kind : Kind) (n : ℕ) (users : List ℕ) → None ≡ slice_get users 0 → twice kind n users ≡ []
none-first kind n [] e = refl
none-first kind n (a ∷ us) e = absurd (cc)

pub none-second : (kind : Kind) (n : ℕ) (users : List ℕ) → None ≡ slice_get users 1 → twice kind n users ≡ []
none-second kind n [] e = refl
none-second kind n (a ∷ []) e = refl
none-second kind n (a ∷ b ∷ us) e = absurd (cc)

pub two-users : (kind : Kind) (n first second : ℕ) (users : List ℕ) → Some first ≡ slice_get users 0 → Some second ≡ slice_get users 1
    → twice kind n users ≡ Twice kind n first second ∷ []
two-users kind n first second [] e f = absurd (cc)
two-users kind n first second (a ∷ []) e f = absurd (cc)
two-users kind n first second (a ∷ b ∷ us) e f =
    let p : a ≡ first = cc in
    let q : b ≡ second = cc in
    ap (λ x. Twice kind n x b ∷ []) p ∙ ap (λ y. Twice kind n first y ∷ []) q
