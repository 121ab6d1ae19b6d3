-- The used rooms of the sub-blocks that a directory lists, where one sub-block is another one or is added.
use Rattle.std.proofs.Common.{◌≡◌, ◌≢◌, ℕ, zero, suc, List, [], ◌∷◌, ◌++◌, slice_get, Some, refl, sym, ap, subst, ◌∙◌, arith}
use Rattle.std.proofs.lemmas.List.{append-nil}
use Rattle.std.proofs.lemmas.List.Concat.{flat_map-append}
use Rattle.std.proofs.lemmas.List.Elements.{filter_map-append}
use Rattle.ds_dir.specs.declared.sub_block.Entry.{Entry}
use Rattle.ds_image_parts.specs.Objects.{rooms_in, rooms_of, used_rooms}
use Rattle.ds_image_parts.specs.Parts.{Parts, part_at}
use Rattle.ds_plan_laws_new.proofs.Puts.{in_use, put-last, put-left, put-right}
use Rattle.ds_plan_laws_new.specs.Puts.{IsPut}

-- the used rooms of one sub-block
abbrev pub used_in : Parts → ℕ → List Entry
used_in p n = in_use (rooms_in (part_at p.subs n))

used-cons : (p : Parts) (n : ℕ) (subs : List ℕ) → used_rooms p (n ∷ subs) ≡ used_in p n ++ used_rooms p subs
used-cons p n subs = filter_map-append (λ room. room) (rooms_in (part_at p.subs n)) (rooms_of p subs)

pub used-append : (p : Parts) (subs more : List ℕ) → used_rooms p (subs ++ more) ≡ used_rooms p subs ++ used_rooms p more
used-append p subs more =
    ap in_use (flat_map-append (λ n. rooms_in (part_at p.subs n)) subs more)
    ∙ filter_map-append (λ room. room) (rooms_of p subs) (rooms_of p more)

-- sub-blocks that are the same have the same entries
pub used-same : (p q : Parts) (subs : List ℕ) → ((i n : ℕ) → slice_get subs i ≡ Some n → part_at q.subs n ≡ part_at p.subs n)
    → used_rooms q subs ≡ used_rooms p subs
used-same p q [] same = refl
used-same p q (n ∷ subs) same =
    used-cons q n subs ∙ ap (λ s. in_use (rooms_in s) ++ used_rooms q subs) (same 0 n refl)
    ∙ ap (λ es. used_in p n ++ es) (used-same p q subs (λ i m at. same (suc i) m at)) ∙ sym (used-cons p n subs)

-- one of them has an entry more
pub used-put : (p q : Parts) (subs : List ℕ) (i n : ℕ) (e : Entry) → slice_get subs i ≡ Some n
    → ((k m : ℕ) → slice_get subs k ≡ Some m → k ≢ i → part_at q.subs m ≡ part_at p.subs m) → IsPut e (used_in p n) (used_in q n)
    → IsPut e (used_rooms p subs) (used_rooms q subs)
used-put p q [] i n e here same put = absurd (cc)
used-put p q (m ∷ subs) zero n e here same put =
    let first : m ≡ n = cc in
    let rest : used_rooms q subs ≡ used_rooms p subs = used-same p q subs (λ k x at. same (suc k) x at (λ e. omega (arith, e))) in
    let put' : IsPut e (used_in p m) (used_in q m) = subst (λ k. IsPut e (used_in p k) (used_in q k)) (sym first) put in
    subst (λ l. IsPut e l (used_rooms q (m ∷ subs))) (sym (used-cons p m subs))
    (subst (IsPut e (used_in p m ++ used_rooms p subs)) (sym (used-cons q m subs ∙ ap (λ l. used_in q m ++ l) rest))
    (put-left e (used_rooms p subs) (used_in p m) (used_in q m) put'))
used-put p q (m ∷ subs) (suc i) n e here same put =
    let rest = used-put p q subs i n e here (λ k x at apart. same (suc k) x at (λ e. apart (omega (arith, e)))) put in
    let first : used_in q m ≡ used_in p m = ap (λ s. in_use (rooms_in s)) (same 0 m refl (λ e. omega (arith, e))) in
    subst (λ l. IsPut e l (used_rooms q (m ∷ subs))) (sym (used-cons p m subs))
    (subst (IsPut e (used_in p m ++ used_rooms p subs)) (sym (used-cons q m subs ∙ ap (λ l. l ++ used_rooms q subs) first))
    (put-right e (used_in p m) (used_rooms p subs) (used_rooms q subs) rest))

-- a sub-block with just one entry was added at the end
pub used-added : (p q : Parts) (subs : List ℕ) (n : ℕ) (e : Entry) → ((i m : ℕ) → slice_get subs i ≡ Some m → part_at q.subs m ≡ part_at p.subs m)
    → used_in q n ≡ e ∷ [] → IsPut e (used_rooms p subs) (used_rooms q (subs ++ n ∷ []))
used-added p q subs n e same single =
    let one : used_rooms q (n ∷ []) ≡ e ∷ [] = used-cons q n [] ∙ append-nil (used_in q n) ∙ single in
    let all : used_rooms q (subs ++ n ∷ []) ≡ used_rooms p subs ++ e ∷ [] =
    used-append q subs (n ∷ []) ∙ ap (λ l. l ++ used_rooms q (n ∷ [])) (used-same p q subs same) ∙ ap (λ l. used_rooms p subs ++ l) one in
    subst (IsPut e (used_rooms p subs)) (sym all) (put-last e (used_rooms p subs))
