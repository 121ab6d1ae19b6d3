-- Walks from object to parent: what a walk keeps, and what it has found out at its end.
use Rattle.std.proofs.Common.{◌≡◌, ◌≢◌, ℕ, ◌<◌, ◌≤◌, ◌⊎◌, ◌↔◌, cond, Bool, true, false, List, [], ◌∷◌, ◌++◌, length, set, inl, inr, refl, sym, ap, ◌∙◌, subst, arith}
use Rattle.std.specs.Prelude.{Option, None, Some, is_none, is_some, not, count_by, Result, Ok, Err, IfOk}
use Rattle.std.proofs.lemmas.Bool.{cases_eq, false≢true}
use Rattle.std.proofs.lemmas.List.{length-set, get_or-set_same, get_or-set_other, get_or_past, get_or_append_left, get_or_push, length_push}
use Rattle.std.proofs.lemmas.List.Sums.{sum_by-set}
use Rattle.std.proofs.lemmas.Option.{none-some, same_Some}
use Rattle.ds_image_tables.specs.Parents.{parent_of, LeadsToRoot, AtRoot, ByParent, AreReached}
use Rattle.ds_image_tables.specs.ParentWalks.{walk_to, led, AreSettled}

-- The root has no parent to follow, and another object leads to the root exactly where its parent does

lead-cases : (parents : List (Option ℕ)) (o : ℕ) → LeadsToRoot parents o → (o ≡ 0)
    ⊎ ((p : ℕ) × (parent_of parents o ≡ Some p) × LeadsToRoot parents p)
lead-cases parents _ AtRoot = inl refl
lead-cases parents _ (ByParent o p is leads) = inr (p, is, leads)

pub leads-as_parent : (parents : List (Option ℕ)) (o p : ℕ) → o ≢ 0 → parent_of parents o ≡ Some p
    → LeadsToRoot parents o ↔ LeadsToRoot parents p
leads-as_parent parents o p apart is = (
  λ leads. elim (lead-cases parents o leads) [
    | inl root ↦ absurd (apart root)
    | inr up ↦ subst (LeadsToRoot parents) (same_Some up.0 p (sym up.1 ∙ is)) up.2
  ],
  λ leads. ByParent o p is leads,
)

-- an object whose parent, if it has one, is past the last object doesn't lead to the root
pub leads-not : (parents : List (Option ℕ)) (o : ℕ) → o ≢ 0 → 0 < length parents
    → ((p : ℕ) → parent_of parents o ≡ Some p → length parents ≤ p) → ¬ LeadsToRoot parents o
leads-not parents o apart some past leads = elim (lead-cases parents o leads) [
  | inl root ↦ apart root
  | inr up ↦ elim (lead-cases parents up.0 up.2) [
    | inl root ↦ let beyond = past up.0 up.1 in omega arith
    | inr further ↦ none-some further.0 (sym (get_or_past parents up.0 None (past up.0 up.1)) ∙ further.1)
  ]
]

-- objects whose parents are all among them, and none of which is the root, don't lead to the root
pub closed-not : (parents : List (Option ℕ)) (Among : ℕ → Type 0) → ¬ Among 0 → ((o p : ℕ) → Among o → parent_of parents o ≡ Some p → Among p)
    → (o : ℕ) → LeadsToRoot parents o → ¬ Among o
closed-not parents Among no_root closed _ AtRoot among = no_root among
closed-not parents Among no_root closed _ (ByParent o p is leads) among = closed-not parents Among no_root closed p leads (closed o p among is)

module _ (parents : List (Option ℕ)) (leads : List Bool) where
  -- what a walk with the next number keeps: it leads where the object leads at which it stands
  pub record IsPath (seen : List (Option ℕ)) (object : ℕ) : Type 0 where
    pub count : length seen ≡ length parents
    pub root : walk_to seen 0 ≡ Some 0
    pub later : 0 < length leads
    pub within : object < length parents
    pub known : (o walk : ℕ) → walk_to seen o ≡ Some walk → walk ≢ length leads
        → (walk < length leads) × ((led leads walk ≡ true) ↔ LeadsToRoot parents o)
    pub path : (o : ℕ) → walk_to seen o ≡ Some (length leads) → LeadsToRoot parents o ↔ LeadsToRoot parents object
    pub covered : (o : ℕ) → o < length leads → (walk : ℕ) × (walk_to seen o ≡ Some walk)

  -- a walk: each parent on its way is on it or is the object at which it stands
  pub record IsWalk (seen : List (Option ℕ)) (object : ℕ) : Type 0 where
    pub is_path : IsPath seen object
    pub closed : (o p : ℕ) → walk_to seen o ≡ Some (length leads) → parent_of parents o ≡ Some p → (p ≡ object)
        ⊎ (walk_to seen p ≡ Some (length leads))
    pub begun : (object ≡ length leads) ⊎ (walk_to seen (length leads) ≡ Some (length leads))

  -- Its beginning

  none-yet : (seen : List (Option ℕ)) → AreSettled parents seen leads → (o : ℕ) → ¬ (walk_to seen o ≡ Some (length leads))
  none-yet seen settled o at = omega (arith, (settled.known o (length leads) at).0)

  pub walk-begins : (seen : List (Option ℕ)) → AreSettled parents seen leads → length leads < length parents → IsWalk seen (length leads)
  walk-begins seen settled within = record {
    is_path = record {
      count = settled.count;
      root = settled.root;
      later = (settled.known 0 0 settled.root).0;
      within = within;
      known = λ o walk at apart. settled.known o walk at;
      path = λ o at. absurd (none-yet seen settled o at);
      covered = settled.covered;
    };
    closed = λ o p at is. absurd (none-yet seen settled o at);
    begun = inl refl;
  }

  -- One object further

  module _ (seen : List (Option ℕ)) (object : ℕ) (unseen : walk_to seen object ≡ None) where
    seen-within : IsPath seen object → object < length seen
    seen-within is = omega (arith, is.within, is.count)

    at-object : IsPath seen object → walk_to (set seen object (Some (length leads))) object ≡ Some (length leads)
    at-object is = get_or-set_same seen object (Some (length leads)) None (seen-within is)

    at-other : (o : ℕ) → o ≢ object → walk_to (set seen object (Some (length leads))) o ≡ walk_to seen o
    at-other o apart = get_or-set_other seen object o (Some (length leads)) None apart

    -- an object to which a walk came is another
    differs : (o walk : ℕ) → walk_to seen o ≡ Some walk → o ≢ object
    differs o walk at same = none-some walk (sym unseen ∙ ap (walk_to seen) (sym same) ∙ at)

    pub still : (o walk : ℕ) → walk_to seen o ≡ Some walk → walk_to (set seen object (Some (length leads))) o ≡ Some walk
    still o walk at = at-other o (differs o walk at) ∙ at

    pub not-root : IsPath seen object → object ≢ 0
    not-root is same = differs 0 0 is.root (sym same)

    pub path-marked : IsPath seen object → IsPath (set seen object (Some (length leads))) object
    path-marked is = record {
      count = length-set seen object (Some (length leads)) ∙ is.count;
      root = still 0 0 is.root;
      later = is.later;
      within = is.within;
      known = λ o walk at apart. elim (cases_eq o object) [
        | inl same ↦ absurd (apart (same_Some walk (length leads)
            (sym at ∙ ap (walk_to (set seen object (Some (length leads)))) same ∙ at-object is)))
        | inr other ↦ is.known o walk (sym (at-other o other) ∙ at) apart
      ];
      path = λ o at. elim (cases_eq o object) [
        | inl same ↦ (λ l. subst (LeadsToRoot parents) same l, λ l. subst (LeadsToRoot parents) (sym same) l)
        | inr other ↦ is.path o (sym (at-other o other) ∙ at)
      ];
      covered = λ o below. let at = is.covered o below in (at.0, still o at.0 at.1);
    }

    pub start-marked : IsWalk seen object → walk_to (set seen object (Some (length leads))) (length leads) ≡ Some (length leads)
    start-marked is = elim is.begun [
      | inl same ↦ ap (walk_to (set seen object (Some (length leads)))) (sym same) ∙ at-object is.is_path
      | inr at ↦ still (length leads) (length leads) at
    ]

    pub walk-moves : (parent : ℕ) → IsWalk seen object → parent_of parents object ≡ Some parent → parent < length parents
        → IsWalk (set seen object (Some (length leads))) parent
    walk-moves parent is up within =
        let marked = path-marked is.is_path in
        let as_parent = leads-as_parent parents object parent (not-root is.is_path) up in
        record {
          is_path = record {
            count = marked.count;
            root = marked.root;
            later = marked.later;
            within = within;
            known = marked.known;
            path = λ o at. let here = marked.path o at in (λ l. as_parent.0 (here.0 l), λ l. here.1 (as_parent.1 l));
            covered = marked.covered;
          };
          closed = λ o p at of. elim (cases_eq o object) [
            | inl same ↦ inl (same_Some p parent (sym of ∙ ap (parent_of parents) same ∙ up))
            | inr other ↦ elim (is.closed o p (sym (at-other o other) ∙ at) of) [
              | inl here ↦ inr (ap (walk_to (set seen object (Some (length leads)))) here ∙ at-object is.is_path)
              | inr before ↦ inr (still p (length leads) before)
            ]
          ];
          begun = inr (start-marked is);
        }

  -- Its end

  pub path-settles : (seen : List (Option ℕ)) (object : ℕ) (result : Bool) → IsPath seen object → (walk : ℕ)
      → walk_to seen (length leads) ≡ Some walk
      → ((result ≡ true) ↔ LeadsToRoot parents object) → AreSettled parents seen (leads ++ result ∷ [])
  path-settles seen object result is start at right = record {
    count = is.count;
    root = is.root;
    known = λ o walk at. elim (cases_eq walk (length leads)) [
      | inl same ↦
          let here = is.path o (at ∙ ap Some same) in
          let last : led (leads ++ result ∷ []) walk ≡ result = get_or_push leads result false walk (sym same) in
          (omega (arith, same, length_push leads result), (λ yes. here.1 (right.0 (sym last ∙ yes)), λ l. last ∙ right.1 (here.0 l)))
      | inr apart ↦
          let before = is.known o walk at apart in
          let kept : led (leads ++ result ∷ []) walk ≡ led leads walk = get_or_append_left leads (result ∷ []) false walk before.0 in
          (omega (arith, before.0, length_push leads result), (λ yes. before.1.0 (sym kept ∙ yes), λ l. kept ∙ before.1.1 l))
    ];
    covered = λ o below. elim (cases_eq o (length leads)) [
      | inl same ↦ (start, ap (walk_to seen) same ∙ at)
      | inr apart ↦ is.covered o (omega (arith, below, length_push leads result, apart))
    ];
  }

  -- the walk has come to an object that has no parent
  pub walk-stops : (seen : List (Option ℕ)) (object : ℕ) → walk_to seen object ≡ None → IsWalk seen object
      → ((p : ℕ) → parent_of parents object ≡ Some p → length parents ≤ p)
      → AreSettled parents (set seen object (Some (length leads))) (leads ++ false ∷ [])
  walk-stops seen object unseen is past =
      let some : 0 < length parents = omega (arith, is.is_path.within) in
      let not = leads-not parents object (not-root seen object unseen is.is_path) some past in
      path-settles (set seen object (Some (length leads))) object false (path-marked seen object unseen is.is_path) (length leads)
      (start-marked seen object unseen is)
      (λ no. absurd (false≢true no), λ l. absurd (not l))

  -- the walk has come to an object that was seen before: by an earlier walk, or by itself
  pub walk-meets : (seen : List (Option ℕ)) (object walk : ℕ) → walk_to seen object ≡ Some walk → IsWalk seen object
      → AreSettled parents seen (leads ++ led leads walk ∷ [])
  walk-meets seen object walk at is = path-settles seen object (led leads walk) is.is_path (start.0) (start.1) right
    where
      start : (first : ℕ) × (walk_to seen (length leads) ≡ Some first)
      start = elim is.begun [
        | inl same ↦ (walk, ap (walk_to seen) (sym same) ∙ at)
        | inr begun ↦ (length leads, begun)
      ]

      no_root : ¬ (walk_to seen 0 ≡ Some (length leads))
      no_root root =
          let same : 0 ≡ length leads = same_Some 0 (length leads) (sym is.is_path.root ∙ root) in
          omega (arith, same, is.is_path.later)

      stays : walk_to seen object ≡ Some (length leads) → (o p : ℕ) → walk_to seen o ≡ Some (length leads) → parent_of parents o ≡ Some p
          → walk_to seen p ≡ Some (length leads)
      stays on_it o p o_at of = elim (is.closed o p o_at of) [ inl here ↦ ap (walk_to seen) here ∙ on_it | inr there ↦ there ]

      right : (led leads walk ≡ true) ↔ LeadsToRoot parents object
      right = elim (cases_eq walk (length leads)) [
        | inr apart ↦ (is.is_path.known object walk at apart).1
        | inl same ↦
            let on_it : walk_to seen object ≡ Some (length leads) = at ∙ ap Some same in (
              λ yes. absurd (false≢true (sym (get_or_past leads walk false (omega (arith, same))) ∙ yes)),
              λ l. absurd (closed-not parents (λ o. walk_to seen o ≡ Some (length leads)) no_root (stays on_it) object l on_it),
            )
      ]

-- One walk after another

-- an object that was seen before needs no walk
pub settled-passes : (parents seen : List (Option ℕ)) (leads : List Bool) (walk : ℕ) → AreSettled parents seen leads
    → walk_to seen (length leads) ≡ Some walk
    → AreSettled parents seen (leads ++ false ∷ [])
settled-passes parents seen leads start settled at = record {
  count = settled.count;
  root = settled.root;
  known = λ o walk came.
      let before = settled.known o walk came in
      let kept : led (leads ++ false ∷ []) walk ≡ led leads walk = get_or_append_left leads (false ∷ []) false walk before.0 in
      (omega (arith, before.0, length_push leads false), (λ yes. before.1.0 (sym kept ∙ yes), λ l. kept ∙ before.1.1 l));
  covered = λ o below. elim (cases_eq o (length leads)) [
    | inl same ↦ (start, ap (walk_to seen) same ∙ at)
    | inr apart ↦ settled.covered o (omega (arith, below, length_push leads false, apart))
  ];
}

pub settled-first : (parents seen : List (Option ℕ)) → length seen ≡ length parents → 0 < length parents → ((o : ℕ) → walk_to seen o ≡ None)
    → AreSettled parents (set seen 0 (Some 0)) (true ∷ [])
settled-first parents seen count some unseen =
    let within : 0 < length seen = omega (arith, count, some) in
    let root : walk_to (set seen 0 (Some 0)) 0 ≡ Some 0 = get_or-set_same seen 0 (Some 0) None within in
    record {
      count = length-set seen 0 (Some 0) ∙ count;
      root = root;
      known = λ o walk at. elim (cases_eq o 0) [
        | inl same ↦
            let first : walk ≡ 0 = same_Some walk 0 (sym at ∙ ap (walk_to (set seen 0 (Some 0))) same ∙ root) in
            (omega (arith, first), (λ yes. subst (LeadsToRoot parents) (sym same) AtRoot, λ l. ap (led (true ∷ [])) first))
        | inr apart ↦ absurd (none-some walk (sym (unseen o) ∙ sym (get_or-set_other seen 0 o (Some 0) None apart) ∙ at))
      ];
      covered = λ o below. (0, let first : o ≡ 0 = omega (arith, below) in ap (walk_to (set seen 0 (Some 0))) first ∙ root);
    }

-- objects that no walk came to, counted
abbrev pub unseen_count : List (Option ℕ) → ℕ
unseen_count seen = count_by (λ o. is_none o) seen

abbrev one : Bool → ℕ
one b = cond b 1 0

pub unseen-fewer : (seen : List (Option ℕ)) (object walk : ℕ) → object < length seen → walk_to seen object ≡ None
    → unseen_count (set seen object (Some walk)) < unseen_count seen
unseen-fewer seen object walk within unseen =
    omega (arith, sum_by-set (λ (o : Option ℕ). cond (is_none o) 1 0) seen object (Some walk) None within, number (walk_to seen object) unseen)
  where
    number : (o : Option ℕ) → o ≡ None → one (is_none o) ≡ 1
    number None is = refl
    number (Some n) is = absurd (cc)

-- All walks

pub reached-all : (parents seen : List (Option ℕ)) (leads reached : List Bool) → AreSettled parents seen leads → length leads ≡ length parents
    → length reached ≡ length seen → ((o walk : ℕ) → walk_to seen o ≡ Some walk → led reached o ≡ led leads walk) → AreReached parents reached
reached-all parents seen leads reached settled all count exact = record {
  count = count ∙ settled.count;
  exact = λ o within.
      let at = settled.covered o (omega (arith, within, all)) in
      let known = (settled.known o at.0 at.1).1 in
      let same = exact o at.0 at.1 in
      (λ yes. known.0 (sym same ∙ yes), λ l. same ∙ known.1 l);
}

-- What tests of an option say

pub none-tested : {X : Type 0} (o : Option X) (none : Bool) → is_some o ≡ not none → none ≡ true → o ≡ None
none-tested None none is tested = refl
none-tested (Some x) none is tested = absurd (false≢true (ap not (sym tested) ∙ sym is))

pub some-tested : {X : Type 0} (o : Option X) (some : Bool) → is_some o ≡ some → some ≡ true → (x : X) × (o ≡ Some x)
some-tested None some is tested = absurd (false≢true (is ∙ tested))
some-tested (Some x) some is tested = (x, refl)

pub IfOk-both : {X E : Type 0} (r : Result X E) (P Q R : X → Type 0) → ((x : X) → P x → Q x → R x) → IfOk r P → IfOk r Q → IfOk r R
IfOk-both (Ok x) P Q R both p q = both x p q
IfOk-both (Err e) P Q R both p q = tt
