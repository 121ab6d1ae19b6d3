-- A tree with a file of another size keeps the rules.
use Rattle.std.proofs.Common.{◌≡◌, ◌≢◌, ℕ, suc, zero, ◌+◌, ◌-◌, ◌<◌, ◌≤◌, min, true, false, ◌⊎◌, inl, inr, List, [], ◌∷◌, ◌++◌, length, take, nat_eq, refl, sym, ap, subst, ◌∙◌, arith, slice_index_or}
use Rattle.std.specs.Prelude.{Option, Some, None, IsSome, is_some, All, Contains, slice_get}
use Rattle.std.specs.List.{AllByRecursion, IsDistinct, flat_map}
use Rattle.std.proofs.lemmas.Bool.{eqb-false}
use Rattle.std.proofs.lemmas.Bool.{cases_lt}
use Rattle.std.proofs.lemmas.List.{length-append, length-take, get_or-take, get_or_append_left}
use Rattle.std.proofs.Math.Seq.{get_or-append_right}
use Rattle.std.proofs.lemmas.List.Concat.{get_or-flat_map}
use Rattle.std.proofs.lemmas.List.Elements.{All-append, All-take}
use Rattle.std.proofs.lemmas.List.Folds.{length-flat_map-take}
use Rattle.std.proofs.lemmas.Option.{slice_get_cases, slice_get-get_or}
use Rattle.std.specs.FinMap as maps
use Rattle.ds_base.specs.declared.geometry.Geom.{Geom}
use Rattle.ds_base.specs.declared.geometry.Kind.{Kind}
use Rattle.ds_base.specs.declared.geometry.Kind.TheVariants.{Fd, Sb, Pb, Fb}
use Rattle.ds_base.specs.Geometry.{items_of}
use Rattle.ds_tree.specs.Counts.{pointer_blocks, node_uses, used_of, free_of}
use Rattle.ds_tree.specs.Nodes.{Entries, Node, Dir, File, Object, FileTree, unborn, node_at, birth_at, blocks_of, all_blocks, with_object}
use Rattle.ds_tree.specs.Steps.{is_dir}
use Rattle.ds_tree.specs.Trees.{entries_of}
use Rattle.ds_tree.specs.WellFormed.{IsTree, IsDir, AreApart, AreNamedOnce, Names, Reached, root, entry}
use Rattle.ds_tree.proofs.Changed.{ChangedOne, changed_one, Whether, is_it, is_not, whether_is, keep_one}
use Rattle.ds_tree.proofs.EntryLists.{get_empty}
use Rattle.ds_tree.proofs.ObjectLists.{in_range}

-- what an index finds
found : (xs : List ℕ) (i b : ℕ) → slice_get xs i ≡ Some b → (i < length xs) × (slice_index_or xs i b ≡ b)
found xs i b h = elim (slice_get_cases xs i).1 [
  | inl p ↦
      let same : Some p.0 ≡ Some b = sym p.2 ∙ h in
      let is : p.0 ≡ b = cc in
      (p.1, ap (λ d. slice_index_or xs i d) (sym is) ∙ p.3 ∙ is)
  | inr p ↦ let none : None ≡ Some b = sym p.1 ∙ h in absurd (cc)
]

all-at : (P : ℕ → Type 0) (xs : List ℕ) (i d : ℕ) → AllByRecursion P xs → i < length xs → P (slice_index_or xs i d)
all-at P [] i d all h = absurd (omega arith)
all-at P (x ∷ xs) zero d all h = all.0
all-at P (x ∷ xs) (suc i) d all h = all-at P xs i d all.1 (omega arith)

one_place : (xs : List ℕ) → IsDistinct nat_eq xs → (i j b : ℕ) → i < length xs → j < length xs → slice_index_or xs i b ≡ b → slice_index_or xs j b ≡ b → i ≡ j
unfolding IsDistinct
one_place [] apart i j b p q e f = absurd (omega arith)
one_place (x ∷ xs) apart zero zero b p q e f = refl
one_place (x ∷ xs) apart zero (suc j) b p q e f =
    absurd (eqb-false x (slice_index_or xs j b) (all-at (λ y. nat_eq x y ≡ false) xs j b apart.0 (omega arith)) (e ∙ sym f))
one_place (x ∷ xs) apart (suc i) zero b p q e f =
    absurd (eqb-false x (slice_index_or xs i b) (all-at (λ y. nat_eq x y ≡ false) xs i b apart.0 (omega arith)) (f ∙ sym e))
one_place (x ∷ xs) apart (suc i) (suc j) b p q e f = ap suc (one_place xs apart.1 i j b (omega arith) (omega arith) e f)

has_node : (n : Option Node) (i b : ℕ) → slice_get (blocks_of n) i ≡ Some b → IsSome n
has_node None i b h = absurd (cc)
has_node (Some node) i b h = refl

-- a file's block is among all blocks
held : (t : FileTree) (n i b : ℕ) → slice_get (blocks_of (node_at t n)) i ≡ Some b → Contains (all_blocks t) b
held t n i b h =
    let f : Object → List ℕ = λ o. blocks_of o.node in
    let at = found (blocks_of (node_at t n)) i b h in
    let within = in_range t n (has_node (node_at t n) i b h) in
    let fits = length-flat_map-take f t.objects n unborn within in
    (length (flat_map f (take n t.objects)) + i, omega (arith, fits, at.0), get_or-flat_map f t.objects n i unborn b within at.0 ∙ at.1)

module _ (g : Geom) (t : FileTree) (is : IsTree g t) (f size : ℕ) (blocks added : List ℕ)
    (in_file : node_at t f ≡ Some (File blocks)) (most : size ≤ 12288) (grows : length added ≡ size - length blocks)
    (added_in_range : All (λ b. b < items_of g Fb) added) (free : All (λ b. ¬ Contains (all_blocks t) b) added) (distinct : IsDistinct nat_eq added)
    (fb : size - length blocks ≤ free_of g t Fb) (pb : pointer_blocks size - pointer_blocks (length blocks) ≤ free_of g t Pb) where
  abbrev kept : List ℕ
  kept = take size blocks

  abbrev x : Object
  x = record { birth = birth_at t f; node = Some (File (kept ++ added)) }

  abbrev u : FileTree
  u = with_object t f x

  is_used : IsSome (node_at t f)
  is_used = ap is_some in_file

  kept_length : length kept ≡ min size (length blocks)
  kept_length = length-take size blocks

  new_length : length (kept ++ added) ≡ size
  new_length = omega (arith, length-append kept added, kept_length, grows)

  ch : ChangedOne t u f x
  ch = changed_one t f x (in_range t f is_used)

  at : (n : ℕ) → Whether t u f x n
  at n = whether_is t u f x ch n

  nonzero : 0 ≢ f
  nonzero e = let b : false ≡ true = sym (ap is_dir in_file) ∙ ap (λ n. is_dir (node_at t n)) (sym e) ∙ is.root_dir in cc

  root_dir : is_dir (node_at u 0) ≡ true
  root_dir = elim (at 0) [
    | is_it e i ↦ absurd (nonzero e)
    | is_not na i ↦ ap (λ (o : Object). is_dir o.node) i ∙ is.root_dir
  ]

  root_birth : birth_at u 0 ≡ 1
  root_birth = elim (at 0) [
    | is_it e i ↦ absurd (nonzero e)
    | is_not na i ↦ ap (λ (o : Object). o.birth) i ∙ is.root_birth
  ]

  names_of : (m : ℕ) (nm : List ℕ) (o : ℕ) → Names u m nm o → Names t m nm o
  names_of m nm o h = elim (at m) [
    | is_it e i ↦
        let none : None ≡ Some o = sym (ap (λ (z : Object). maps.get (entries_of z.node) nm) i ∙ get_empty nm) ∙ h in
        absurd (cc)
    | is_not na i ↦ sym (ap (λ (z : Object). maps.get (entries_of z.node) nm) i) ∙ h
  ]

  names_stay : (m : ℕ) (nm : List ℕ) (o : ℕ) → Names t m nm o → Names u m nm o
  names_stay m nm o h = elim (at m) [
    | is_it e i ↦
        let none : None ≡ Some o = sym (ap (λ n. maps.get (entries_of (node_at t n)) nm) e ∙ ap (λ n. maps.get (entries_of n) nm) in_file ∙ get_empty nm) ∙ h in
        absurd (cc)
    | is_not na i ↦ ap (λ (z : Object). maps.get (entries_of z.node) nm) i ∙ h
  ]

  used_stays : (n : ℕ) → IsSome (node_at t n) → IsSome (node_at u n)
  used_stays n h = elim (at n) [
    | is_it e i ↦ ap (λ (z : Object). is_some z.node) i
    | is_not na i ↦ ap (λ (z : Object). is_some z.node) i ∙ h
  ]

  named_once : AreNamedOnce u
  named_once = record {
    used = λ m nm o h. used_stays o (is.named_once.used m nm o (names_of m nm o h));
    not_root = λ m nm h. is.named_once.not_root m nm (names_of m nm 0 h);
    once = λ m m' nm nm' o h h'. is.named_once.once m m' nm nm' o (names_of m nm o h) (names_of m' nm' o h');
  }

  still_reached : (n : ℕ) → Reached t n → Reached u n
  still_reached _ root = root
  still_reached _ (entry dir nm o r h) = entry dir nm o (still_reached dir r) (names_stay dir nm o h)

  reached : (n : ℕ) → IsSome (node_at u n) → Reached u n
  reached n h = elim (at n) [
    | is_it e i ↦ subst (Reached u) (sym e) (still_reached f (is.reached f is_used))
    | is_not na i ↦ still_reached n (is.reached n (sym (ap (λ (z : Object). is_some z.node) i) ∙ h))
  ]

  -- a block of the new tree is where it was, or is one of those that were added
  pub record IsAdded (n i b : ℕ) : Type 0 where
    pub file : n ≡ f
    pub place : ℕ
    pub index : i ≡ length kept + place
    pub within : place < length added
    pub value : slice_index_or added place b ≡ b

  block_of : (n i b : ℕ) → slice_get (blocks_of (node_at u n)) i ≡ Some b → (slice_get (blocks_of (node_at t n)) i ≡ Some b) ⊎ IsAdded n i b
  block_of n i b h = elim (at n) [
    | is_it e o ↦
        let new : slice_get (kept ++ added) i ≡ Some b = sym (ap (λ (z : Object). slice_get (blocks_of z.node) i) o) ∙ h in
        let p = found (kept ++ added) i b new in
        elim (cases_lt i (length kept)) [
          | inl low ↦
              let i_size : i < size = omega (arith, kept_length, low) in
              let i_blocks : i < length blocks = omega (arith, kept_length, low) in
              let value : slice_index_or blocks i b ≡ b = sym (get_or-take size blocks i b i_size) ∙ sym (get_or_append_left kept added b i low) ∙ p.1 in
              inl (ap (λ m. slice_get (blocks_of (node_at t m)) i) e ∙ ap (λ n. slice_get (blocks_of n) i) in_file
              ∙ slice_get-get_or blocks i b i_blocks ∙ ap Some value)
          | inr high ↦ inr (record {
            file = e;
            place = i - length kept;
            index = omega arith;
            within = omega (arith, length-append kept added, p.0);
            value = sym (get_or-append_right kept added i b high) ∙ p.1;
          })
        ]
    | is_not na o ↦ inl (sym (ap (λ (z : Object). slice_get (blocks_of z.node) i) o) ∙ h)
  ]

  not_held : (n i b m j : ℕ) → IsAdded n i b → ¬ (slice_get (blocks_of (node_at t m)) j ≡ Some b)
  not_held n i b m j new old = subst (λ y. ¬ Contains (all_blocks t) y) new.value (free new.place b new.within) (held t m j b old)

  apart : AreApart u
  apart n m i j b h h' = elim (block_of n i b h) [
    | inl p ↦ elim (block_of m j b h') [
      | inl q ↦ is.blocks_apart n m i j b p q
      | inr q ↦ absurd (not_held m j b n i q p)
    ]
    | inr p ↦ elim (block_of m j b h') [
      | inl q ↦ absurd (not_held n i b m j p q)
      | inr q ↦ (p.file ∙ sym q.file, p.index ∙ ap (λ k. length kept + k) (one_place added distinct p.place q.place b p.within q.within p.value q.value) ∙ sym q.index)
    ]
  ]

  uses : (q : Kind) → used_of u q + node_uses q (Some (File blocks)) ≡ used_of t q + node_uses q x.node
  uses q =
      let all = ch.sums (λ o. node_uses q o.node) in
      let a : node_uses q (node_at t f) ≡ node_uses q (Some (File blocks)) = ap (node_uses q) in_file in
      omega (arith, all, a)

  within : (q : Kind) → used_of u q ≤ items_of g q
  within Fd = omega (arith, uses Fd, is.within Fd)
  within Sb = omega (arith, uses Sb, is.within Sb)
  within Pb = omega (arith, uses Pb, is.within Pb, pb, ap pointer_blocks new_length)
  within Fb = omega (arith, uses Fb, is.within Fb, fb, new_length)

  blocks_in_range : All (λ b. b < items_of g Fb) (kept ++ added)
  blocks_in_range =
      let old : All (λ b. b < items_of g Fb) blocks = subst (λ n. All (λ b. b < items_of g Fb) (blocks_of n)) in_file (is.blocks_in_range f) in
      All-append (λ b. b < items_of g Fb) kept added (All-take (λ b. b < items_of g Fb) size blocks old) added_in_range

  pub resize-keeps : IsTree g u
  resize-keeps = record {
    count = ch.count ∙ is.count;
    root_dir = root_dir;
    root_birth = root_birth;
    born = keep_one t u f x ch (λ o. IsSome o.node → 1 ≤ o.birth) is.born (λ h. is.born f is_used);
    dirs = keep_one t u f x ch (λ o. (es : Entries) (rs : ℕ) → o.node ≡ Some (Dir es rs) → IsDir es rs) is.dirs (λ es rs e. absurd (cc));
    files = keep_one t u f x ch (λ o. (bs : List ℕ) → o.node ≡ Some (File bs) → length bs ≤ 12288) is.files
        (λ bs e. let same : kept ++ added ≡ bs = cc in omega (arith, new_length, ap length same));
    named_once = named_once;
    reached = reached;
    blocks_apart = apart;
    blocks_in_range = keep_one t u f x ch (λ o. All (λ b. b < items_of g Fb) (blocks_of o.node)) is.blocks_in_range blocks_in_range;
    within = within;
  }
