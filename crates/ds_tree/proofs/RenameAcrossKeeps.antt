-- A tree in which the entry of a file moved to another directory keeps the rules.
use Rattle.std.proofs.Common.{◌≡◌, ◌≢◌, ℕ, ◌+◌, ◌-◌, ◌%◌, ◌<◌, ◌≤◌, cond, Bool, true, false, ◌⊎◌, inl, inr, List, length, refl, sym, ap, subst, ◌∙◌, arith}
use Rattle.std.specs.Prelude.{Some, None, IsSome, is_some, All, slice_get}
use Rattle.std.proofs.lemmas.List.Elements.{All-nil}
use Rattle.std.proofs.lemmas.Bool.Decides.{eqb_tells}
use Rattle.std.specs.FinMap as maps
use Rattle.ds_base.specs.declared.geometry.Geom.{Geom}
use Rattle.ds_base.specs.declared.geometry.Kind.{Kind}
use Rattle.ds_base.specs.declared.geometry.Kind.TheVariants.{Fd, Sb, Pb, Fb}
use Rattle.ds_base.specs.Geometry.{items_of}
use Rattle.ds_base.specs.Names.{IsName}
use Rattle.ds_tree.specs.Counts.{node_uses, used_of, free_of}
use Rattle.ds_tree.specs.Nodes.{Entries, Dir, File, Object, FileTree, node_at, birth_at, blocks_of, with_object}
use Rattle.ds_tree.specs.Steps.{is_dir, is_full, rooms_with_one_more}
use Rattle.ds_tree.specs.Trees.{entries_of}
use Rattle.ds_tree.specs.WellFormed.{IsTree, IsDir, AreNamedOnce, Names, Reached, root, entry}
use Rattle.ds_tree.proofs.Changed.{Changed, changed, Where, is_a, is_b, is_other, where_is, keep}
use Rattle.ds_tree.proofs.EntryLists.{get_empty, inserted, removed, get-insert_here, get-insert_other, get-remove_other, len-insert_new, len-remove_there}
use Rattle.ds_tree.proofs.Granted.{file_names}
use Rattle.ds_tree.proofs.MakeKeeps.{more_rooms}
use Rattle.ds_tree.proofs.ObjectLists.{in_range}
use Rattle.ds_tree.proofs.RemoveKeeps.{same_uses}

module _ (g : Geom) (t : FileTree) (is : IsTree g t) (d k to : ℕ) (entries : Entries) (rooms : ℕ) (entries' : Entries) (rooms' : ℕ) (name fresh : List ℕ)
    (in_dir : node_at t d ≡ Some (Dir entries rooms)) (in_to : node_at t to ≡ Some (Dir entries' rooms')) (apart : d ≢ to)
    (there : maps.get entries name ≡ Some k) (is_file : is_dir (node_at t k) ≡ false)
    (absent : maps.get entries' fresh ≡ None) (named_well : IsName fresh) (few : maps.len entries' < 384)
    (room : is_full entries' rooms' ≡ true → free_of g t Sb ≢ 0) where
  abbrev more : ℕ
  more = rooms_with_one_more entries' rooms'

  abbrev x : Object
  x = record { birth = birth_at t d; node = Some (Dir (maps.remove entries name) rooms) }

  abbrev y : Object
  y = record { birth = birth_at t to; node = Some (Dir (maps.insert entries' fresh k) more) }

  abbrev u : FileTree
  u = with_object (with_object t d x) to y

  is_used : IsSome (node_at t d)
  is_used = ap is_some in_dir

  to_used : IsSome (node_at t to)
  to_used = ap is_some in_to

  named : Names t d name k
  named = ap (λ n. maps.get (entries_of n) name) in_dir ∙ there

  no_names : (m : ℕ) (nm : List ℕ) (o : ℕ) → m ≡ k → ¬ Names t m nm o
  no_names m nm o e h =
      let none : None ≡ Some o = sym (ap (λ n. maps.get (entries_of (node_at t n)) nm) e ∙ ap (λ (z : Entries). maps.get z nm) (file_names (node_at t k) is_file) ∙ get_empty nm) ∙ h in
      absurd (cc)

  to_is_not : to ≢ k
  to_is_not e = let b : true ≡ false = sym (ap is_dir in_to) ∙ ap (λ n. is_dir (node_at t n)) e ∙ is_file in cc

  ch : Changed t u d x to y
  ch = changed t d to x y apart (in_range t d is_used) (in_range t to to_used)

  at : (n : ℕ) → Where t u d x to y n
  at n = where_is t u d x to y ch n

  root_dir : is_dir (node_at u 0) ≡ true
  root_dir = elim (at 0) [
    | is_a e i ↦ ap (λ (o : Object). is_dir o.node) i
    | is_b e i ↦ ap (λ (o : Object). is_dir o.node) i
    | is_other na nb i ↦ ap (λ (o : Object). is_dir o.node) i ∙ is.root_dir
  ]

  root_birth : birth_at u 0 ≡ 1
  root_birth = elim (at 0) [
    | is_a e i ↦ ap (λ (o : Object). o.birth) i ∙ ap (birth_at t) (sym e) ∙ is.root_birth
    | is_b e i ↦ ap (λ (o : Object). o.birth) i ∙ ap (birth_at t) (sym e) ∙ is.root_birth
    | is_other na nb i ↦ ap (λ (o : Object). o.birth) i ∙ is.root_birth
  ]

  old : IsDir entries rooms
  old = is.dirs d entries rooms in_dir

  other : IsDir entries' rooms'
  other = is.dirs to entries' rooms' in_to

  x_dir : (es : Entries) (rs : ℕ) → x.node ≡ Some (Dir es rs) → IsDir es rs
  x_dir es rs e =
      let a : maps.remove entries name ≡ es = cc in
      let b : rooms ≡ rs = cc in
      let len : maps.len es ≡ maps.len entries - 1 = ap maps.len (sym a) ∙ len-remove_there entries name k there in
      record {
        names = λ nm o h. old.names nm o (removed entries name nm o (ap (λ (m : Entries). maps.get m nm) a ∙ h)).1;
        have_rooms = omega (arith, len, old.have_rooms);
        most = omega (arith, old.most);
        by_four = ap (λ r. r % 4) (sym b) ∙ old.by_four;
      }

  y_dir : (es : Entries) (rs : ℕ) → y.node ≡ Some (Dir es rs) → IsDir es rs
  y_dir es rs e =
      let a : maps.insert entries' fresh k ≡ es = cc in
      let b : more ≡ rs = cc in
      let len : maps.len es ≡ maps.len entries' + 1 = ap maps.len (sym a) ∙ len-insert_new entries' fresh k absent in
      let grown = more_rooms (maps.len entries') rooms' rs (sym b) other.have_rooms few other.most other.by_four in
      record {
        names = λ nm o h. elim (inserted entries' fresh k nm o (ap (λ (m : Entries). maps.get m nm) a ∙ h)) [
          | inl p ↦ subst IsName (sym p.0) named_well
          | inr p ↦ other.names nm o p
        ];
        have_rooms = omega (arith, len, grown.0);
        most = grown.1;
        by_four = grown.2;
      }

  -- a name of the new tree is the new one, or one of the old tree that stays
  names_of : (m : ℕ) (nm : List ℕ) (o : ℕ) → Names u m nm o → ((m ≡ to) × (nm ≡ fresh) × (o ≡ k)) ⊎ (Names t m nm o × (m ≡ d → nm ≢ name))
  names_of m nm o h = elim (at m) [
    | is_a e i ↦
        let r = removed entries name nm o (sym (ap (λ (z : Object). maps.get (entries_of z.node) nm) i) ∙ h) in
        inr (ap (λ n. maps.get (entries_of (node_at t n)) nm) e ∙ ap (λ n. maps.get (entries_of n) nm) in_dir ∙ r.1, λ _. r.0)
    | is_b e i ↦ elim (inserted entries' fresh k nm o (sym (ap (λ (z : Object). maps.get (entries_of z.node) nm) i) ∙ h)) [
      | inl p ↦ inl (e, p.0, p.1)
      | inr p ↦ inr (ap (λ n. maps.get (entries_of (node_at t n)) nm) e ∙ ap (λ n. maps.get (entries_of n) nm) in_to ∙ p, λ e'. absurd (apart (sym e' ∙ e)))
    ]
    | is_other na nb i ↦ inr (sym (ap (λ (z : Object). maps.get (entries_of z.node) nm) i) ∙ h, λ e. absurd (na e))
  ]

  new_name : Names u to fresh k
  new_name = ap (λ (z : Object). maps.get (entries_of z.node) fresh) ch.at_b ∙ get-insert_here entries' fresh k

  -- a name of another object stays
  names_stay : (m : ℕ) (nm : List ℕ) (o : ℕ) → Names t m nm o → o ≢ k → Names u m nm o
  names_stay m nm o h differs = elim (at m) [
    | is_a e i ↦
        let before : maps.get entries nm ≡ Some o = sym (ap (λ n. maps.get (entries_of (node_at t n)) nm) e ∙ ap (λ n. maps.get (entries_of n) nm) in_dir) ∙ h in
        ap (λ (z : Object). maps.get (entries_of z.node) nm) i ∙ get-remove_other entries name nm o (λ same.
        let one : Some o ≡ Some k = sym before ∙ ap (maps.get entries) same ∙ there in
        let e' : o ≡ k = cc in
        differs e') before
    | is_b e i ↦
        let before : maps.get entries' nm ≡ Some o = sym (ap (λ n. maps.get (entries_of (node_at t n)) nm) e ∙ ap (λ n. maps.get (entries_of n) nm) in_to) ∙ h in
        ap (λ (z : Object). maps.get (entries_of z.node) nm) i ∙ get-insert_other entries' fresh k nm o absent before
    | is_other na nb i ↦ ap (λ (z : Object). maps.get (entries_of z.node) nm) i ∙ h
  ]

  used_stays : (n : ℕ) → IsSome (node_at t n) → IsSome (node_at u n)
  used_stays n h = elim (at n) [
    | is_a e i ↦ ap (λ (z : Object). is_some z.node) i
    | is_b e i ↦ ap (λ (z : Object). is_some z.node) i
    | is_other na nb i ↦ ap (λ (z : Object). is_some z.node) i ∙ h
  ]

  no_other : (m : ℕ) (nm : List ℕ) (o : ℕ) → o ≡ k → Names t m nm o → ¬ (m ≡ d → nm ≢ name)
  no_other m nm o e h stays =
      let once = is.named_once.once m d nm name k (subst (Names t m nm) e h) named in
      stays once.0 once.1

  named_once : AreNamedOnce u
  named_once = record {
    used = λ m nm o h. elim (names_of m nm o h) [
      | inl p ↦ used_stays o (subst (λ n. IsSome (node_at t n)) (sym p.2) (is.named_once.used d name k named))
      | inr p ↦ used_stays o (is.named_once.used m nm o p.0)
    ];
    not_root = λ m nm h. elim (names_of m nm 0 h) [
      | inl p ↦ is.named_once.not_root d name (subst (Names t d name) (sym p.2) named)
      | inr p ↦ is.named_once.not_root m nm p.0
    ];
    once = λ m m' nm nm' o h h'. elim (names_of m nm o h) [
      | inl p ↦ elim (names_of m' nm' o h') [
        | inl q ↦ (p.0 ∙ sym q.0, p.1 ∙ sym q.1)
        | inr q ↦ absurd (no_other m' nm' o p.2 q.0 q.1)
      ]
      | inr p ↦ elim (names_of m' nm' o h') [
        | inl q ↦ absurd (no_other m nm o q.2 p.0 p.1)
        | inr q ↦ is.named_once.once m m' nm nm' o p.0 q.0
      ]
    ];
  }

  -- a directory is reached as before
  still_reached : (n : ℕ) → Reached t n → n ≢ k → Reached u n
  still_reached _ root differs = root
  still_reached _ (entry dir nm o r h) differs = entry dir nm o (still_reached dir r (λ e. no_names dir nm o e h)) (names_stay dir nm o h differs)

  reached_by : (n : ℕ) → (n ≡ k) ⊎ (n ≢ k) → IsSome (node_at t n) → Reached u n
  reached_by n (inl e) h = subst (Reached u) (sym e) (entry to fresh k (still_reached to (is.reached to to_used) to_is_not) new_name)
  reached_by n (inr differs) h = still_reached n (is.reached n h) differs

  used_before : (n : ℕ) → IsSome (node_at u n) → IsSome (node_at t n)
  used_before n h = elim (at n) [
    | is_a e i ↦ subst (λ m. IsSome (node_at t m)) (sym e) is_used
    | is_b e i ↦ subst (λ m. IsSome (node_at t m)) (sym e) to_used
    | is_other na nb i ↦ sym (ap (λ (z : Object). is_some z.node) i) ∙ h
  ]

  reached : (n : ℕ) → IsSome (node_at u n) → Reached u n
  reached n h = elim (eqb_tells n k) [
    | inl p ↦ reached_by n (inl p.1) (used_before n h)
    | inr p ↦ reached_by n (inr p.1) (used_before n h)
  ]

  block_stays : (n i b : ℕ) → slice_get (blocks_of (node_at u n)) i ≡ Some b → slice_get (blocks_of (node_at t n)) i ≡ Some b
  block_stays n i b h = elim (at n) [
    | is_a e is' ↦ let none : None ≡ Some b = sym (ap (λ (z : Object). slice_get (blocks_of z.node) i) is') ∙ h in absurd (cc)
    | is_b e is' ↦ let none : None ≡ Some b = sym (ap (λ (z : Object). slice_get (blocks_of z.node) i) is') ∙ h in absurd (cc)
    | is_other na nb is' ↦ sym (ap (λ (z : Object). slice_get (blocks_of z.node) i) is') ∙ h
  ]

  uses : (q : Kind) → used_of u q + node_uses q (Some (Dir entries rooms)) + node_uses q (Some (Dir entries' rooms')) ≡ used_of t q + node_uses q (Some (Dir entries rooms)) + node_uses q y.node
  uses q =
      let all = ch.sums (λ o. node_uses q o.node) in
      let a : node_uses q (node_at t d) ≡ node_uses q (Some (Dir entries rooms)) = ap (node_uses q) in_dir in
      let b : node_uses q (node_at t to) ≡ node_uses q (Some (Dir entries' rooms')) = ap (node_uses q) in_to in
      omega (arith, all, a, b, same_uses q entries (maps.remove entries name) rooms)

  room_within : (b : Bool) → is_full entries' rooms' ≡ b → used_of u Sb ≤ items_of g Sb
  room_within true e =
      let r : more ≡ rooms' + 4 = ap (λ b. cond b (rooms' + 4) rooms') e in
      omega (arith, uses Sb, is.within Sb, room e, r)
  room_within false e =
      let r : more ≡ rooms' = ap (λ b. cond b (rooms' + 4) rooms') e in
      omega (arith, uses Sb, is.within Sb, r)

  within : (q : Kind) → used_of u q ≤ items_of g q
  within Fd = omega (arith, uses Fd, is.within Fd)
  within Sb = room_within (is_full entries' rooms') refl
  within Pb = omega (arith, uses Pb, is.within Pb)
  within Fb = omega (arith, uses Fb, is.within Fb)

  pub rename-across-keeps : IsTree g u
  rename-across-keeps = record {
    count = ch.count ∙ is.count;
    root_dir = root_dir;
    root_birth = root_birth;
    born = keep t u d x to y ch (λ o. IsSome o.node → 1 ≤ o.birth) is.born (λ h. is.born d is_used) (λ h. is.born to to_used);
    dirs = keep t u d x to y ch (λ o. (es : Entries) (rs : ℕ) → o.node ≡ Some (Dir es rs) → IsDir es rs) is.dirs x_dir y_dir;
    files = keep t u d x to y ch (λ o. (bs : List ℕ) → o.node ≡ Some (File bs) → length bs ≤ 12288) is.files (λ bs e. absurd (cc)) (λ bs e. absurd (cc));
    named_once = named_once;
    reached = reached;
    blocks_apart = λ n m i j b h h'. is.blocks_apart n m i j b (block_stays n i b h) (block_stays m j b h');
    blocks_in_range = keep t u d x to y ch (λ o. All (λ b. b < items_of g Fb) (blocks_of o.node)) is.blocks_in_range
        (All-nil (λ b. b < items_of g Fb)) (All-nil (λ b. b < items_of g Fb));
    within = within;
  }
