-- Trees in which one or two objects changed.
use Rattle.std.proofs.Common.{◌≡◌, ◌≢◌, ℕ, ◌+◌, ◌<◌, inl, inr, length, sym, ap, subst, ◌∙◌, arith}
use Rattle.std.proofs.Math.ListN.{length-set}
use Rattle.std.proofs.lemmas.Bool.Decides.{eqb_tells}
use Rattle.std.proofs.lemmas.List.Sums.{sum_by-set}
use Rattle.std.specs.List.{sum_by}
use Rattle.ds_tree.specs.Nodes.{Object, FileTree, unborn, object_at, with_object}
use Rattle.ds_tree.proofs.ObjectLists.{with_object-here, with_object-there}

-- u is t with x at a, and with y at b
pub record Changed (t u : FileTree) (a : ℕ) (x : Object) (b : ℕ) (y : Object) : Type 0 where
  pub at_a : object_at u a ≡ x
  pub at_b : object_at u b ≡ y
  pub others : (m : ℕ) → m ≢ a → m ≢ b → object_at u m ≡ object_at t m
  pub count : length u.objects ≡ length t.objects
  pub sums : (f : Object → ℕ) → sum_by f u.objects + f (object_at t a) + f (object_at t b) ≡ sum_by f t.objects + f x + f y

pub changed : (t : FileTree) (a b : ℕ) (x y : Object) → a ≢ b → a < length t.objects → b < length t.objects
    → Changed t (with_object (with_object t a x) b y) a x b y
changed t a b x y apart in_a in_b =
    let t1 = with_object t a x in
    let len1 : length t1.objects ≡ length t.objects = length-set t.objects a x in
    let in_b1 : b < length t1.objects = omega (arith, len1) in
    let b_there : object_at t1 b ≡ object_at t b = with_object-there t a b x (λ e. apart (sym e)) in
    record {
      at_a = with_object-there t1 b a y apart ∙ with_object-here t a x in_a;
      at_b = with_object-here t1 b y in_b1;
      others = λ m na nb. with_object-there t1 b m y nb ∙ with_object-there t a m x na;
      count = length-set t1.objects b y ∙ len1;
      sums = λ f.
          let one = sum_by-set f t.objects a x unborn in_a in
          let two = sum_by-set f t1.objects b y unborn in_b1 in
          let same : f (object_at t1 b) ≡ f (object_at t b) = ap f b_there in
          omega (arith, one, two, same);
    }

-- where a number stands among the changed ones
pub data Where (t u : FileTree) (a : ℕ) (x : Object) (b : ℕ) (y : Object) (n : ℕ) : Type 0 where
  is_a : n ≡ a → object_at u n ≡ x → Where t u a x b y n
  is_b : n ≡ b → object_at u n ≡ y → Where t u a x b y n
  is_other : n ≢ a → n ≢ b → object_at u n ≡ object_at t n → Where t u a x b y n

pub where_is : (t u : FileTree) (a : ℕ) (x : Object) (b : ℕ) (y : Object) → Changed t u a x b y → (n : ℕ) → Where t u a x b y n
where_is t u a x b y ch n =
    elim (eqb_tells n a) [
      | inl p ↦ is_a p.1 (ap (object_at u) p.1 ∙ ch.at_a)
      | inr p ↦ elim (eqb_tells n b) [
        | inl q ↦ is_b q.1 (ap (object_at u) q.1 ∙ ch.at_b)
        | inr q ↦ is_other p.1 q.1 (ch.others n p.1 q.1)
      ]
    ]

-- what each object keeps
pub keep : (t u : FileTree) (a : ℕ) (x : Object) (b : ℕ) (y : Object) → Changed t u a x b y → (P : Object → Type 0)
    → ((n : ℕ) → P (object_at t n)) → P x → P y → (n : ℕ) → P (object_at u n)
keep t u a x b y ch P all at_x at_y n =
    elim (where_is t u a x b y ch n) [
      | is_a e is ↦ subst P (sym is) at_x
      | is_b e is ↦ subst P (sym is) at_y
      | is_other na nb is ↦ subst P (sym is) (all n)
    ]

-- u is t with x at a
pub record ChangedOne (t u : FileTree) (a : ℕ) (x : Object) : Type 0 where
  pub at_a : object_at u a ≡ x
  pub others : (m : ℕ) → m ≢ a → object_at u m ≡ object_at t m
  pub count : length u.objects ≡ length t.objects
  pub sums : (f : Object → ℕ) → sum_by f u.objects + f (object_at t a) ≡ sum_by f t.objects + f x

pub changed_one : (t : FileTree) (a : ℕ) (x : Object) → a < length t.objects → ChangedOne t (with_object t a x) a x
changed_one t a x in_a = record {
  at_a = with_object-here t a x in_a;
  others = λ m na. with_object-there t a m x na;
  count = length-set t.objects a x;
  sums = λ f. sum_by-set f t.objects a x unborn in_a;
}

-- whether a number is the changed one
pub data Whether (t u : FileTree) (a : ℕ) (x : Object) (n : ℕ) : Type 0 where
  is_it : n ≡ a → object_at u n ≡ x → Whether t u a x n
  is_not : n ≢ a → object_at u n ≡ object_at t n → Whether t u a x n

pub whether_is : (t u : FileTree) (a : ℕ) (x : Object) → ChangedOne t u a x → (n : ℕ) → Whether t u a x n
whether_is t u a x ch n =
    elim (eqb_tells n a) [
      | inl p ↦ is_it p.1 (ap (object_at u) p.1 ∙ ch.at_a)
      | inr p ↦ is_not p.1 (ch.others n p.1)
    ]

-- what each object keeps
pub keep_one : (t u : FileTree) (a : ℕ) (x : Object) → ChangedOne t u a x → (P : Object → Type 0)
    → ((n : ℕ) → P (object_at t n)) → P x → (n : ℕ) → P (object_at u n)
keep_one t u a x ch P all at_x n =
    elim (whether_is t u a x ch n) [
      | is_it e is ↦ subst P (sym is) at_x
      | is_not na is ↦ subst P (sym is) (all n)
    ]
