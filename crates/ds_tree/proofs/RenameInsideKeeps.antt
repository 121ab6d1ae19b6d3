-- A tree in which an entry has another name in its directory keeps the rules.
use Rattle.std.proofs.Common.{◌≡◌, ◌≢◌, ℕ, ◌+◌, ◌%◌, ◌<◌, ◌≤◌, true, ◌⊎◌, inl, inr, List, length, sym, ap, subst, ◌∙◌, arith}
use Rattle.std.specs.Prelude.{Some, None, IsSome, is_some, All, slice_get}
use Rattle.std.proofs.lemmas.List.Elements.{All-nil}
use Rattle.std.specs.FinMap as maps
use Rattle.ds_base.specs.declared.geometry.Geom.{Geom}
use Rattle.ds_base.specs.declared.geometry.Kind.{Kind}
use Rattle.ds_base.specs.declared.geometry.Kind.TheVariants.{Fb}
use Rattle.ds_base.specs.Geometry.{items_of}
use Rattle.ds_base.specs.Names.{IsName}
use Rattle.ds_tree.specs.Counts.{node_uses, used_of}
use Rattle.ds_tree.specs.Nodes.{Entries, Dir, File, Object, FileTree, node_at, birth_at, blocks_of, with_object}
use Rattle.ds_tree.specs.Steps.{is_dir}
use Rattle.ds_tree.specs.Trees.{entries_of}
use Rattle.ds_tree.specs.WellFormed.{IsTree, IsDir, AreNamedOnce, Names, Reached, root, entry}
use Rattle.ds_tree.proofs.Changed.{ChangedOne, changed_one, Whether, is_it, is_not, whether_is, keep_one}
use Rattle.ds_tree.proofs.EntryLists.{inserted, removed, get-insert_here, get-insert_other, get-remove_other, get-remove_none, len-insert_new, len-remove_there, len-there, same_key}
use Rattle.ds_tree.proofs.ObjectLists.{in_range}
use Rattle.ds_tree.proofs.RemoveKeeps.{same_uses}

module _ (g : Geom) (t : FileTree) (is : IsTree g t) (d k : ℕ) (entries : Entries) (rooms : ℕ) (name fresh : List ℕ)
    (in_dir : node_at t d ≡ Some (Dir entries rooms)) (there : maps.get entries name ≡ Some k)
    (absent : maps.get entries fresh ≡ None) (named_well : IsName fresh) where
  abbrev left : Entries
  left = maps.remove entries name

  abbrev x : Object
  x = record { birth = birth_at t d; node = Some (Dir (maps.insert left fresh k) rooms) }

  abbrev u : FileTree
  u = with_object t d x

  is_used : IsSome (node_at t d)
  is_used = ap is_some in_dir

  named : Names t d name k
  named = ap (λ n. maps.get (entries_of n) name) in_dir ∙ there

  still_absent : maps.get left fresh ≡ None
  still_absent = get-remove_none entries name fresh absent

  ch : ChangedOne t u d x
  ch = changed_one t d x (in_range t d is_used)

  at : (n : ℕ) → Whether t u d x n
  at n = whether_is t u d x ch n

  root_dir : is_dir (node_at u 0) ≡ true
  root_dir = elim (at 0) [
    | is_it e i ↦ ap (λ (o : Object). is_dir o.node) i
    | is_not na i ↦ ap (λ (o : Object). is_dir o.node) i ∙ is.root_dir
  ]

  root_birth : birth_at u 0 ≡ 1
  root_birth = elim (at 0) [
    | is_it e i ↦ ap (λ (o : Object). o.birth) i ∙ ap (birth_at t) (sym e) ∙ is.root_birth
    | is_not na i ↦ ap (λ (o : Object). o.birth) i ∙ is.root_birth
  ]

  old : IsDir entries rooms
  old = is.dirs d entries rooms in_dir

  x_dir : (es : Entries) (rs : ℕ) → x.node ≡ Some (Dir es rs) → IsDir es rs
  x_dir es rs e =
      let a : maps.insert left fresh k ≡ es = cc in
      let b : rooms ≡ rs = cc in
      let len : maps.len es ≡ maps.len left + 1 = ap maps.len (sym a) ∙ len-insert_new left fresh k still_absent in
      record {
        names = λ nm o h. elim (inserted left fresh k nm o (ap (λ (m : Entries). maps.get m nm) a ∙ h)) [
          | inl p ↦ subst IsName (sym p.0) named_well
          | inr p ↦ old.names nm o (removed entries name nm o p).1
        ];
        have_rooms = omega (arith, len, old.have_rooms, len-remove_there entries name k there, len-there entries name k there);
        most = omega (arith, old.most);
        by_four = ap (λ r. r % 4) (sym b) ∙ old.by_four;
      }

  -- a name of the new tree is the new one, or one of the old tree that stays
  names_of : (m : ℕ) (nm : List ℕ) (o : ℕ) → Names u m nm o → ((m ≡ d) × (nm ≡ fresh) × (o ≡ k)) ⊎ (Names t m nm o × (m ≡ d → nm ≢ name))
  names_of m nm o h = elim (at m) [
    | is_it e i ↦ elim (inserted left fresh k nm o (sym (ap (λ (z : Object). maps.get (entries_of z.node) nm) i) ∙ h)) [
      | inl p ↦ inl (e, p.0, p.1)
      | inr p ↦
          let r = removed entries name nm o p in
          inr (ap (λ n. maps.get (entries_of (node_at t n)) nm) e ∙ ap (λ n. maps.get (entries_of n) nm) in_dir ∙ r.1, λ _. r.0)
    ]
    | is_not na i ↦ inr (sym (ap (λ (z : Object). maps.get (entries_of z.node) nm) i) ∙ h, λ e. absurd (na e))
  ]

  new_name : Names u d fresh k
  new_name = ap (λ (z : Object). maps.get (entries_of z.node) fresh) ch.at_a ∙ get-insert_here left fresh k

  -- an old name stays, or is the one that changed
  names_move : (m : ℕ) (nm : List ℕ) (o : ℕ) → Names t m nm o → Names u m nm o ⊎ ((m ≡ d) × (o ≡ k))
  names_move m nm o h = elim (at m) [
    | is_it e i ↦
        let before : maps.get entries nm ≡ Some o = sym (ap (λ n. maps.get (entries_of (node_at t n)) nm) e ∙ ap (λ n. maps.get (entries_of n) nm) in_dir) ∙ h in
        elim (same_key nm name) [
          | inl same ↦
              let one : Some o ≡ Some k = sym before ∙ ap (maps.get entries) same ∙ there in
              let o_is : o ≡ k = cc in
              inr (e, o_is)
          | inr differs ↦ inl (ap (λ (z : Object). maps.get (entries_of z.node) nm) i
              ∙ get-insert_other left fresh k nm o still_absent (get-remove_other entries name nm o differs before))
        ]
    | is_not na i ↦ inl (ap (λ (z : Object). maps.get (entries_of z.node) nm) i ∙ h)
  ]

  used_stays : (n : ℕ) → IsSome (node_at t n) → IsSome (node_at u n)
  used_stays n h = elim (at n) [
    | is_it e i ↦ ap (λ (z : Object). is_some z.node) i
    | is_not na i ↦ ap (λ (z : Object). is_some z.node) i ∙ h
  ]

  -- an old name of the object is the one that changed
  no_other : (m : ℕ) (nm : List ℕ) (o : ℕ) → o ≡ k → Names t m nm o → ¬ (m ≡ d → nm ≢ name)
  no_other m nm o e h stays =
      let once = is.named_once.once m d nm name k (subst (Names t m nm) e h) named in
      stays once.0 once.1

  named_once : AreNamedOnce u
  named_once = record {
    used = λ m nm o h. elim (names_of m nm o h) [
      | inl p ↦ used_stays o (subst (λ n. IsSome (node_at t n)) (sym p.2) (is.named_once.used d name k named))
      | inr p ↦ used_stays o (is.named_once.used m nm o p.0)
    ];
    not_root = λ m nm h. elim (names_of m nm 0 h) [
      | inl p ↦ is.named_once.not_root d name (subst (Names t d name) (sym p.2) named)
      | inr p ↦ is.named_once.not_root m nm p.0
    ];
    once = λ m m' nm nm' o h h'. elim (names_of m nm o h) [
      | inl p ↦ elim (names_of m' nm' o h') [
        | inl q ↦ (p.0 ∙ sym q.0, p.1 ∙ sym q.1)
        | inr q ↦ absurd (no_other m' nm' o p.2 q.0 q.1)
      ]
      | inr p ↦ elim (names_of m' nm' o h') [
        | inl q ↦ absurd (no_other m nm o q.2 p.0 p.1)
        | inr q ↦ is.named_once.once m m' nm nm' o p.0 q.0
      ]
    ];
  }

  still_reached : (n : ℕ) → Reached t n → Reached u n
  still_reached _ root = root
  still_reached _ (entry dir nm o r h) =
      let before = still_reached dir r in
      elim (names_move dir nm o h) [
        | inl p ↦ entry dir nm o before p
        | inr p ↦ subst (Reached u) (sym p.1) (entry d fresh k (subst (Reached u) p.0 before) new_name)
      ]

  reached : (n : ℕ) → IsSome (node_at u n) → Reached u n
  reached n h = elim (at n) [
    | is_it e i ↦ subst (Reached u) (sym e) (still_reached d (is.reached d is_used))
    | is_not na i ↦ still_reached n (is.reached n (sym (ap (λ (z : Object). is_some z.node) i) ∙ h))
  ]

  block_stays : (n i b : ℕ) → slice_get (blocks_of (node_at u n)) i ≡ Some b → slice_get (blocks_of (node_at t n)) i ≡ Some b
  block_stays n i b h = elim (at n) [
    | is_it e is' ↦ let none : None ≡ Some b = sym (ap (λ (z : Object). slice_get (blocks_of z.node) i) is') ∙ h in absurd (cc)
    | is_not na is' ↦ sym (ap (λ (z : Object). slice_get (blocks_of z.node) i) is') ∙ h
  ]

  within : (q : Kind) → used_of u q ≤ items_of g q
  within q =
      let all = ch.sums (λ o. node_uses q o.node) in
      let a : node_uses q (node_at t d) ≡ node_uses q x.node = ap (node_uses q) in_dir ∙ same_uses q entries (maps.insert left fresh k) rooms in
      omega (arith, all, a, is.within q)

  pub rename-inside-keeps : IsTree g u
  rename-inside-keeps = record {
    count = ch.count ∙ is.count;
    root_dir = root_dir;
    root_birth = root_birth;
    born = keep_one t u d x ch (λ o. IsSome o.node → 1 ≤ o.birth) is.born (λ h. is.born d is_used);
    dirs = keep_one t u d x ch (λ o. (es : Entries) (rs : ℕ) → o.node ≡ Some (Dir es rs) → IsDir es rs) is.dirs x_dir;
    files = keep_one t u d x ch (λ o. (bs : List ℕ) → o.node ≡ Some (File bs) → length bs ≤ 12288) is.files (λ bs e. absurd (cc));
    named_once = named_once;
    reached = reached;
    blocks_apart = λ n m i j b h h'. is.blocks_apart n m i j b (block_stays n i b h) (block_stays m j b h');
    blocks_in_range = keep_one t u d x ch (λ o. All (λ b. b < items_of g Fb) (blocks_of o.node)) is.blocks_in_range (All-nil (λ b. b < items_of g Fb));
    within = within;
  }
