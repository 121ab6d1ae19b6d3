-- Past a body's last block and last address nothing is wrong with an address.
use Rattle.std.proofs.Common.{◌≡◌, ℕ, zero, suc, ◌+◌, ◌-◌, ◌<◌, ◌≤◌, leb, Bool, true, false, ◌&&◌, ◌||◌, cond, eqb, nat_lt, List, [], ◌++◌, length, take, min, Option, Some, None, refl, sym, ap, ◌∙◌, arith}
use Rattle.std.proofs.lemmas.List.{append-nil, length-take}
use Rattle.std.proofs.lemmas.Bool.Decides.{nat_tests}
use Rattle.ds_base.specs.declared.geometry.Geom.{Geom}
use Rattle.ds_base.specs.declared.names.NodeKind.{NodeKind}
use Rattle.ds_base.specs.declared.names.NodeKind.TheVariants as kinds
use Rattle.ds_fd.specs.declared.body.Body.{Body}
use Rattle.ds_image_parts.specs.Parts.{Parts}
use Rattle.ds_tree.specs.Counts.{pointer_blocks}
use Rattle.ds_check.specs.declared.findings.Find.{Find}
use Rattle.ds_check.specs.declared.findings.Find.TheVariants.{Address}
use Rattle.ds_check.specs.Addresses.{address_at, is_outside, is_bad_address, past_last, first_past, most_addresses}
use Rattle.ds_check.specs.Rows.{find_if, row}
use Rattle.ds_check.proofs.Rows.{row_step}

-- a test that fails makes both fail
both_false : (a b : Bool) → a ≡ false → (a && b) ≡ false
both_false true b wrong = cc
both_false false b is = refl

outside_past : (items : ℕ) (list : List ℕ) (i : ℕ) → length list ≤ i → is_outside items list i ≡ false
outside_past items list i past = both_false (nat_lt i (length list)) _ (grind (arith, nat_tests))

first_in : (items n : ℕ) (list : List ℕ) (i : ℕ) → n ≤ i → is_outside items (take n list) i ≡ false
first_in items n list i past = outside_past items (take n list) i (omega (arith, length-take n list))

few_pointers : (n : ℕ) → pointer_blocks n ≤ n
few_pointers n = grind (arith, nat_tests)

past_first : (first count len i : ℕ) → count + len ≤ i → (nat_lt first len && eqb i (count + first)) ≡ false
past_first first count len i past = grind (arith, nat_tests)

neither : (a b c : Bool) → a ≡ false → b ≡ false → c ≡ false → (a || b || c) ≡ false
neither true b c p q r = cc
neither false true c p q r = cc
neither false false c p q r = r

first_false : (small x y : Bool) → small ≡ true → x ≡ false → cond small x y ≡ false
first_false true x y small is = is
first_false false x y small is = cc

second_false : (small x y : Bool) → small ≡ false → y ≡ false → cond small x y ≡ false
second_false true x y large is = cc
second_false false x y large is = is

in_file : (g : Geom) (p : Parts) (b : Body) (i : ℕ) (small : Bool) → leb b.count 96 ≡ small → b.count + length (past_last p b) ≤ i
    → is_bad_address g p b (Some kinds.File) i ≡ false
in_file g p b i true is past = first_false (leb b.count 96) _ _ is (first_in _ b.count b.addresses i (omega arith))
in_file g p b i false is past =
    second_false (leb b.count 96) _ _ is
    (neither _ _ _ (first_in _ (pointer_blocks b.count) b.addresses i (omega (arith, few_pointers b.count)))
    (both_false (nat_lt i b.count) _ (grind (arith, nat_tests)))
    (past_first (first_past p b) b.count (length (past_last p b)) i past))

pub good_past : (g : Geom) (p : Parts) (b : Body) (kind : Option NodeKind) (i : ℕ) → b.count + length (past_last p b) ≤ i → is_bad_address g p b kind i ≡ false
good_past g p b None i past = refl
good_past g p b (Some kinds.Dir) i past = first_in _ b.count b.addresses i (omega arith)
good_past g p b (Some kinds.File) i past = in_file g p b i (leb b.count 96) refl past

-- where nothing is found from a number on, the row ends there
row_more : (each : ℕ → List Find) (m k : ℕ) → ((i : ℕ) → m ≤ i → i < m + k → each i ≡ []) → row (m + k) each ≡ row m each
row_more each m zero none = ap (λ n. row n each) (let same : m + 0 ≡ m = omega arith in same)
row_more each m (suc k) none =
    let last : row (m + k) each ++ each (m + k) ≡ row (m + k + 1) each = row_step [] (row (m + k) each) (row (m + k) each ++ each (m + k)) each (m + k) refl refl in
    let next : m + suc k ≡ m + k + 1 = omega arith in
    ap (λ n. row n each) next ∙ sym last ∙ ap (λ xs. row (m + k) each ++ xs) (none (m + k) (omega arith) (omega arith)) ∙ append-nil (row (m + k) each)
    ∙ row_more each m k (λ i from to. none i from (omega arith))

pub row_ends : (each : ℕ → List Find) (most m : ℕ) → ((i : ℕ) → m ≤ i → each i ≡ []) → row (min m most) each ≡ row most each
row_ends each most m none =
    let whole : min m most + (most - min m most) ≡ most = omega arith in
    sym (row_more each (min m most) (most - min m most) (λ i from to. none i (omega arith))) ∙ ap (λ n. row n each) whole

-- the findings of all addresses are those of a body's own
pub all_addresses : (g : Geom) (p : Parts) (o : ℕ) (b : Body) → row (min (b.count + length (past_last p b)) most_addresses) (address_at g p o b) ≡ row most_addresses (address_at g p o b)
all_addresses g p o b =
    row_ends (address_at g p o b) most_addresses (b.count + length (past_last p b))
    (λ i past. ap (λ t. find_if t (Address o i)) (good_past g p b b.kind i past))
