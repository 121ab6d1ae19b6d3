-- A tree with a new object keeps the rules.
use Rattle.std.proofs.Common.{◌≡◌, ◌≢◌, ℕ, ◌+◌, ◌%◌, ◌<◌, ◌≤◌, cond, Bool, true, false, ◌⊎◌, inl, inr, List, [], length, refl, sym, ap, subst, ◌∙◌, arith}
use Rattle.std.specs.Prelude.{Some, None, IsSome, is_some, All, nat_le, slice_get}
use Rattle.std.proofs.lemmas.Bool.Decides.{nat_tests}
use Rattle.std.proofs.lemmas.List.Elements.{All-nil}
use Rattle.std.specs.FinMap as maps
use Rattle.ds_base.specs.declared.geometry.Geom.{Geom}
use Rattle.ds_base.specs.declared.geometry.Kind.{Kind}
use Rattle.ds_base.specs.declared.geometry.Kind.TheVariants.{Fd, Sb, Pb, Fb}
use Rattle.ds_base.specs.declared.names.NodeKind.{NodeKind}
use Rattle.ds_base.specs.declared.names.NodeKind.TheVariants as nodes
use Rattle.ds_base.specs.Geometry.{items_of}
use Rattle.ds_base.specs.Names.{IsName}
use Rattle.ds_tree.specs.Counts.{node_uses, used_of, free_of}
use Rattle.ds_tree.specs.Nodes.{Entries, Node, Dir, File, Object, FileTree, node_at, birth_at, blocks_of, with_object}
use Rattle.ds_tree.specs.Steps.{is_dir, is_full, rooms_with_one_more}
use Rattle.ds_tree.specs.Trees.{entries_of, empty_node}
use Rattle.ds_tree.specs.WellFormed.{IsTree, IsDir, AreNamedOnce, Names, Reached, root, entry}
use Rattle.ds_tree.proofs.Changed.{Changed, changed, Where, is_a, is_b, is_other, where_is, keep}
use Rattle.ds_tree.proofs.EntryLists.{get_empty, inserted, get-insert_here, get-insert_other, len-insert_new}
use Rattle.ds_tree.proofs.FreshTree.{the_dir}
use Rattle.ds_tree.proofs.ObjectLists.{in_range}

-- a room for one more entry
pub more_rooms : (len rooms rooms' : ℕ) → rooms' ≡ (let b : Bool = nat_le rooms len in cond b (rooms + 4) rooms) → len ≤ rooms → len < 384 → rooms ≤ 384 → rooms % 4 ≡ 0
    → (len + 1 ≤ rooms') × (rooms' ≤ 384) × (rooms' % 4 ≡ 0)
more_rooms len rooms rooms' e a b c d = go (nat_le rooms len) refl e
  where
    go : (full : Bool) → nat_le rooms len ≡ full → rooms' ≡ cond full (rooms + 4) rooms → (len + 1 ≤ rooms') × (rooms' ≤ 384) × (rooms' % 4 ≡ 0)
    go true is e = let f : rooms ≤ len = grind (arith, nat_tests) in (omega arith, omega arith, omega arith)
    go false is e = let f : len < rooms = grind (arith, nat_tests) in (omega arith, omega arith, omega arith)

no_file : (kind : NodeKind) → blocks_of (Some (empty_node kind)) ≡ []
no_file nodes.Dir = refl
no_file nodes.File = refl

no_entries : (kind : NodeKind) → entries_of (Some (empty_node kind)) ≡ maps.empty
no_entries nodes.Dir = refl
no_entries nodes.File = refl

empty_dir : (kind : NodeKind) (entries : Entries) (rooms : ℕ) → Some (empty_node kind) ≡ Some (Dir entries rooms) → IsDir entries rooms
empty_dir nodes.Dir entries rooms e = the_dir entries rooms e
empty_dir nodes.File entries rooms e = absurd (cc)

empty_file : (kind : NodeKind) (blocks : List ℕ) → Some (empty_node kind) ≡ Some (File blocks) → length blocks ≤ 12288
empty_file nodes.Dir blocks e = absurd (cc)
empty_file nodes.File blocks e = let none : [] ≡ blocks = cc in omega (arith, ap length (sym none))

none_used : (kind : NodeKind) → (node_uses Fd (Some (empty_node kind)) ≡ 1) × (node_uses Sb (Some (empty_node kind)) ≡ 0) × (node_uses Pb (Some (empty_node kind)) ≡ 0) × (node_uses Fb (Some (empty_node kind)) ≡ 0)
none_used nodes.Dir = (refl, refl, refl, refl)
none_used nodes.File = (refl, refl, refl, refl)

module _ (g : Geom) (t : FileTree) (is : IsTree g t) (d k birth : ℕ) (entries : Entries) (rooms : ℕ) (name : List ℕ) (kind : NodeKind)
    (in_dir : node_at t d ≡ Some (Dir entries rooms)) (within_items : k < items_of g Fd) (free : node_at t k ≡ None) (later : birth_at t k < birth)
    (absent : maps.get entries name ≡ None) (few : maps.len entries < 384) (named : IsName name)
    (object : free_of g t Fd ≢ 0) (room : is_full entries rooms ≡ true → free_of g t Sb ≢ 0) where
  abbrev rooms' : ℕ
  rooms' = rooms_with_one_more entries rooms

  abbrev x : Object
  x = record { birth = birth_at t d; node = Some (Dir (maps.insert entries name k) rooms') }

  abbrev y : Object
  y = record { birth = birth; node = Some (empty_node kind) }

  abbrev u : FileTree
  u = with_object (with_object t d x) k y

  is_used : IsSome (node_at t d)
  is_used = ap is_some in_dir

  apart : d ≢ k
  apart e = let none : Some (Dir entries rooms) ≡ None = sym in_dir ∙ ap (node_at t) e ∙ free in cc

  ch : Changed t u d x k y
  ch = changed t d k x y apart (in_range t d is_used) (omega (arith, is.count))

  at : (n : ℕ) → Where t u d x k y n
  at n = where_is t u d x k y ch n

  nonzero : 0 ≢ k
  nonzero e = let b : is_dir None ≡ true = ap is_dir (sym free) ∙ ap (λ n. is_dir (node_at t n)) (sym e) ∙ is.root_dir in cc

  root_dir : is_dir (node_at u 0) ≡ true
  root_dir = elim (at 0) [
    | is_a e i ↦ ap (λ (o : Object). is_dir o.node) i
    | is_b e i ↦ absurd (nonzero e)
    | is_other na nb i ↦ ap (λ (o : Object). is_dir o.node) i ∙ is.root_dir
  ]

  root_birth : birth_at u 0 ≡ 1
  root_birth = elim (at 0) [
    | is_a e i ↦ ap (λ (o : Object). o.birth) i ∙ ap (birth_at t) (sym e) ∙ is.root_birth
    | is_b e i ↦ absurd (nonzero e)
    | is_other na nb i ↦ ap (λ (o : Object). o.birth) i ∙ is.root_birth
  ]

  old : IsDir entries rooms
  old = is.dirs d entries rooms in_dir

  x_dir : (es : Entries) (rs : ℕ) → x.node ≡ Some (Dir es rs) → IsDir es rs
  x_dir es rs e =
      let a : maps.insert entries name k ≡ es = cc in
      let b : rooms' ≡ rs = cc in
      let len : maps.len es ≡ maps.len entries + 1 = ap maps.len (sym a) ∙ len-insert_new entries name k absent in
      let more = more_rooms (maps.len entries) rooms rs (sym b) old.have_rooms few old.most old.by_four in
      record {
        names = λ nm o h. elim (inserted entries name k nm o (ap (λ (m : Entries). maps.get m nm) a ∙ h)) [
          | inl p ↦ subst IsName (sym p.0) named
          | inr p ↦ old.names nm o p
        ];
        have_rooms = omega (arith, len, more.0);
        most = more.1;
        by_four = more.2;
      }

  -- a name of the new tree is the new one, or one of the old tree
  names_of : (m : ℕ) (nm : List ℕ) (o : ℕ) → Names u m nm o → ((m ≡ d) × (nm ≡ name) × (o ≡ k)) ⊎ Names t m nm o
  names_of m nm o h = elim (at m) [
    | is_a e i ↦ elim (inserted entries name k nm o (sym (ap (λ (z : Object). maps.get (entries_of z.node) nm) i) ∙ h)) [
      | inl p ↦ inl (e, p.0, p.1)
      | inr p ↦ inr (ap (λ n. maps.get (entries_of (node_at t n)) nm) e ∙ ap (λ n. maps.get (entries_of n) nm) in_dir ∙ p)
    ]
    | is_b e i ↦
        let none : None ≡ Some o = sym (ap (λ (z : Object). maps.get (entries_of z.node) nm) i ∙ ap (λ (m : Entries). maps.get m nm) (no_entries kind) ∙ get_empty nm) ∙ h in
        absurd (cc)
    | is_other na nb i ↦ inr (sym (ap (λ (z : Object). maps.get (entries_of z.node) nm) i) ∙ h)
  ]

  -- a name of the old tree stays
  names_stay : (m : ℕ) (nm : List ℕ) (o : ℕ) → Names t m nm o → Names u m nm o
  names_stay m nm o h = elim (at m) [
    | is_a e i ↦
        let before : maps.get entries nm ≡ Some o = sym (ap (λ n. maps.get (entries_of (node_at t n)) nm) e ∙ ap (λ n. maps.get (entries_of n) nm) in_dir) ∙ h in
        ap (λ (z : Object). maps.get (entries_of z.node) nm) i ∙ get-insert_other entries name k nm o absent before
    | is_b e i ↦
        let none : None ≡ Some o = sym (ap (λ n. maps.get (entries_of (node_at t n)) nm) e ∙ ap (λ n. maps.get (entries_of n) nm) free ∙ get_empty nm) ∙ h in
        absurd (cc)
    | is_other na nb i ↦ ap (λ (z : Object). maps.get (entries_of z.node) nm) i ∙ h
  ]

  used_stays : (n : ℕ) → IsSome (node_at t n) → IsSome (node_at u n)
  used_stays n h = elim (at n) [
    | is_a e i ↦ ap (λ (z : Object). is_some z.node) i
    | is_b e i ↦ ap (λ (z : Object). is_some z.node) i
    | is_other na nb i ↦ ap (λ (z : Object). is_some z.node) i ∙ h
  ]

  not_new : (o : ℕ) → o ≡ k → ¬ IsSome (node_at t o)
  not_new o e h = let b : is_some {T = Node} None ≡ true = ap is_some (sym free) ∙ ap (λ n. is_some (node_at t n)) (sym e) ∙ h in cc

  named_once : AreNamedOnce u
  named_once = record {
    used = λ m nm o h. elim (names_of m nm o h) [
      | inl p ↦ ap (λ n. is_some (node_at u n)) p.2 ∙ ap (λ (z : Object). is_some z.node) ch.at_b
      | inr p ↦ used_stays o (is.named_once.used m nm o p)
    ];
    not_root = λ m nm h. elim (names_of m nm 0 h) [ inl p ↦ nonzero p.2 | inr p ↦ is.named_once.not_root m nm p ];
    once = λ m m' nm nm' o h h'. elim (names_of m nm o h) [
      | inl p ↦ elim (names_of m' nm' o h') [
        | inl q ↦ (p.0 ∙ sym q.0, p.1 ∙ sym q.1)
        | inr q ↦ absurd (not_new o p.2 (is.named_once.used m' nm' o q))
      ]
      | inr p ↦ elim (names_of m' nm' o h') [
        | inl q ↦ absurd (not_new o q.2 (is.named_once.used m nm o p))
        | inr q ↦ is.named_once.once m m' nm nm' o p q
      ]
    ];
  }

  still_reached : (n : ℕ) → Reached t n → Reached u n
  still_reached _ root = root
  still_reached _ (entry dir nm o r h) = entry dir nm o (still_reached dir r) (names_stay dir nm o h)

  new_name : Names u d name k
  new_name = ap (λ (z : Object). maps.get (entries_of z.node) name) ch.at_a ∙ get-insert_here entries name k

  reached : (n : ℕ) → IsSome (node_at u n) → Reached u n
  reached n h = elim (at n) [
    | is_a e i ↦ subst (Reached u) (sym e) (still_reached d (is.reached d is_used))
    | is_b e i ↦ subst (Reached u) (sym e) (entry d name k (still_reached d (is.reached d is_used)) new_name)
    | is_other na nb i ↦ still_reached n (is.reached n (sym (ap (λ (z : Object). is_some z.node) i) ∙ h))
  ]

  block_stays : (n i b : ℕ) → slice_get (blocks_of (node_at u n)) i ≡ Some b → slice_get (blocks_of (node_at t n)) i ≡ Some b
  block_stays n i b h = elim (at n) [
    | is_a e is' ↦ let none : None ≡ Some b = sym (ap (λ (z : Object). slice_get (blocks_of z.node) i) is') ∙ h in absurd (cc)
    | is_b e is' ↦ let none : None ≡ Some b = sym (ap (λ (z : Object). slice_get (blocks_of z.node) i) is' ∙ ap (λ bs. slice_get bs i) (no_file kind)) ∙ h in absurd (cc)
    | is_other na nb is' ↦ sym (ap (λ (z : Object). slice_get (blocks_of z.node) i) is') ∙ h
  ]

  uses : (q : Kind) → used_of u q + node_uses q (Some (Dir entries rooms)) + 0 ≡ used_of t q + node_uses q x.node + node_uses q y.node
  uses q =
      let all = ch.sums (λ o. node_uses q o.node) in
      let a : node_uses q (node_at t d) ≡ node_uses q (Some (Dir entries rooms)) = ap (node_uses q) in_dir in
      let b : node_uses q (node_at t k) ≡ 0 = ap (node_uses q) free in
      omega (arith, all, a, b)

  room_within : (b : Bool) → is_full entries rooms ≡ b → used_of u Sb ≤ items_of g Sb
  room_within true e =
      let r : rooms' ≡ rooms + 4 = ap (λ b. cond b (rooms + 4) rooms) e in
      omega (arith, uses Sb, is.within Sb, room e, (none_used kind).1, r)
  room_within false e =
      let r : rooms' ≡ rooms = ap (λ b. cond b (rooms + 4) rooms) e in
      omega (arith, uses Sb, is.within Sb, (none_used kind).1, r)

  within : (q : Kind) → used_of u q ≤ items_of g q
  within Fd = omega (arith, uses Fd, is.within Fd, object, (none_used kind).0)
  within Sb = room_within (is_full entries rooms) refl
  within Pb = omega (arith, uses Pb, is.within Pb, (none_used kind).2)
  within Fb = omega (arith, uses Fb, is.within Fb, (none_used kind).3)

  pub make-keeps : IsTree g u
  make-keeps = record {
    count = ch.count ∙ is.count;
    root_dir = root_dir;
    root_birth = root_birth;
    born = keep t u d x k y ch (λ o. IsSome o.node → 1 ≤ o.birth) is.born (λ h. is.born d is_used) (λ h. omega (arith, later));
    dirs = keep t u d x k y ch (λ o. (es : Entries) (rs : ℕ) → o.node ≡ Some (Dir es rs) → IsDir es rs) is.dirs x_dir (empty_dir kind);
    files = keep t u d x k y ch (λ o. (bs : List ℕ) → o.node ≡ Some (File bs) → length bs ≤ 12288) is.files (λ bs e. absurd (cc)) (empty_file kind);
    named_once = named_once;
    reached = reached;
    blocks_apart = λ n m i j b h h'. is.blocks_apart n m i j b (block_stays n i b h) (block_stays m j b h');
    blocks_in_range = keep t u d x k y ch (λ o. All (λ b. b < items_of g Fb) (blocks_of o.node)) is.blocks_in_range
        (All-nil (λ b. b < items_of g Fb)) (subst (λ bs. All (λ b. b < items_of g Fb) bs) (sym (no_file kind)) (All-nil (λ b. b < items_of g Fb)));
    within = within;
  }
