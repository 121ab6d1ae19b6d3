-- A tree without an entry and its object keeps the rules.
use Rattle.std.proofs.Common.{◌≡◌, ◌≢◌, ℕ, ◌-◌, ◌%◌, ◌<◌, ◌≤◌, true, List, length, refl, sym, ap, subst, ◌∙◌, arith}
use Rattle.std.specs.Prelude.{Some, None, IsSome, is_some, All, slice_get}
use Rattle.std.proofs.lemmas.List.Elements.{All-nil}
use Rattle.std.specs.FinMap as maps
use Rattle.ds_base.specs.declared.geometry.Geom.{Geom}
use Rattle.ds_base.specs.declared.geometry.Kind.{Kind}
use Rattle.ds_base.specs.declared.geometry.Kind.TheVariants.{Fd, Sb, Pb, Fb}
use Rattle.ds_base.specs.Geometry.{items_of}
use Rattle.ds_tree.specs.Counts.{node_uses, used_of}
use Rattle.ds_tree.specs.Nodes.{Entries, Node, Dir, File, Object, FileTree, node_at, birth_at, blocks_of, with_object}
use Rattle.ds_tree.specs.Steps.{is_dir}
use Rattle.ds_tree.specs.Trees.{entries_of}
use Rattle.ds_tree.specs.WellFormed.{IsTree, IsDir, AreNamedOnce, Names, Reached, root, entry}
use Rattle.ds_tree.proofs.Changed.{Changed, changed, Where, is_a, is_b, is_other, where_is, keep}
use Rattle.ds_tree.proofs.EntryLists.{get_empty, removed, get-remove_other, len-remove_there}
use Rattle.ds_tree.proofs.ObjectLists.{in_range}

pub same_uses : (q : Kind) (es es' : Entries) (rooms : ℕ) → node_uses q (Some (Dir es rooms)) ≡ node_uses q (Some (Dir es' rooms))
same_uses Fd es es' rooms = refl
same_uses Sb es es' rooms = refl
same_uses Pb es es' rooms = refl
same_uses Fb es es' rooms = refl

module _ (g : Geom) (t : FileTree) (is : IsTree g t) (d k : ℕ) (entries : Entries) (rooms : ℕ) (name : List ℕ)
    (in_dir : node_at t d ≡ Some (Dir entries rooms)) (there : maps.get entries name ≡ Some k)
    (bare : entries_of (node_at t k) ≡ maps.empty) where
  abbrev x : Object
  x = record { birth = birth_at t d; node = Some (Dir (maps.remove entries name) rooms) }

  abbrev y : Object
  y = record { birth = birth_at t k; node = None }

  abbrev u : FileTree
  u = with_object (with_object t d x) k y

  is_used : IsSome (node_at t d)
  is_used = ap is_some in_dir

  named : Names t d name k
  named = ap (λ n. maps.get (entries_of n) name) in_dir ∙ there

  no_names : (m : ℕ) (nm : List ℕ) (o : ℕ) → m ≡ k → ¬ Names t m nm o
  no_names m nm o e h =
      let none : None ≡ Some o = sym (ap (λ n. maps.get (entries_of (node_at t n)) nm) e ∙ ap (λ (z : Entries). maps.get z nm) bare ∙ get_empty nm) ∙ h in
      absurd (cc)

  apart : d ≢ k
  apart e = no_names d name k e named

  ch : Changed t u d x k y
  ch = changed t d k x y apart (in_range t d is_used) (in_range t k (is.named_once.used d name k named))

  at : (n : ℕ) → Where t u d x k y n
  at n = where_is t u d x k y ch n

  nonzero : 0 ≢ k
  nonzero e = is.named_once.not_root d name (subst (Names t d name) (sym e) named)

  root_dir : is_dir (node_at u 0) ≡ true
  root_dir = elim (at 0) [
    | is_a e i ↦ ap (λ (o : Object). is_dir o.node) i
    | is_b e i ↦ absurd (nonzero e)
    | is_other na nb i ↦ ap (λ (o : Object). is_dir o.node) i ∙ is.root_dir
  ]

  root_birth : birth_at u 0 ≡ 1
  root_birth = elim (at 0) [
    | is_a e i ↦ ap (λ (o : Object). o.birth) i ∙ ap (birth_at t) (sym e) ∙ is.root_birth
    | is_b e i ↦ absurd (nonzero e)
    | is_other na nb i ↦ ap (λ (o : Object). o.birth) i ∙ is.root_birth
  ]

  old : IsDir entries rooms
  old = is.dirs d entries rooms in_dir

  x_dir : (es : Entries) (rs : ℕ) → x.node ≡ Some (Dir es rs) → IsDir es rs
  x_dir es rs e =
      let a : maps.remove entries name ≡ es = cc in
      let b : rooms ≡ rs = cc in
      let len : maps.len es ≡ maps.len entries - 1 = ap maps.len (sym a) ∙ len-remove_there entries name k there in
      record {
        names = λ nm o h. old.names nm o (removed entries name nm o (ap (λ (m : Entries). maps.get m nm) a ∙ h)).1;
        have_rooms = omega (arith, len, old.have_rooms);
        most = omega (arith, old.most);
        by_four = ap (λ r. r % 4) (sym b) ∙ old.by_four;
      }

  -- a name of the new tree is one of the old tree, and not the one that went
  names_of : (m : ℕ) (nm : List ℕ) (o : ℕ) → Names u m nm o → Names t m nm o × (m ≡ d → nm ≢ name)
  names_of m nm o h = elim (at m) [
    | is_a e i ↦
        let left = removed entries name nm o (sym (ap (λ (z : Object). maps.get (entries_of z.node) nm) i) ∙ h) in
        (ap (λ n. maps.get (entries_of (node_at t n)) nm) e ∙ ap (λ n. maps.get (entries_of n) nm) in_dir ∙ left.1, λ _. left.0)
    | is_b e i ↦
        let none : None ≡ Some o = sym (ap (λ (z : Object). maps.get (entries_of z.node) nm) i ∙ get_empty nm) ∙ h in
        absurd (cc)
    | is_other na nb i ↦ (sym (ap (λ (z : Object). maps.get (entries_of z.node) nm) i) ∙ h, λ e. absurd (na e))
  ]

  -- a name of another object stays
  names_stay : (m : ℕ) (nm : List ℕ) (o : ℕ) → Names t m nm o → o ≢ k → Names u m nm o
  names_stay m nm o h differs = elim (at m) [
    | is_a e i ↦
        let before : maps.get entries nm ≡ Some o = sym (ap (λ n. maps.get (entries_of (node_at t n)) nm) e ∙ ap (λ n. maps.get (entries_of n) nm) in_dir) ∙ h in
        ap (λ (z : Object). maps.get (entries_of z.node) nm) i ∙ get-remove_other entries name nm o (λ same.
        let one : Some o ≡ Some k = sym before ∙ ap (maps.get entries) same ∙ there in
        let e' : o ≡ k = cc in
        differs e') before
    | is_b e i ↦ absurd (no_names m nm o e h)
    | is_other na nb i ↦ ap (λ (z : Object). maps.get (entries_of z.node) nm) i ∙ h
  ]

  used_stays : (n : ℕ) → IsSome (node_at t n) → n ≢ k → IsSome (node_at u n)
  used_stays n h differs = elim (at n) [
    | is_a e i ↦ ap (λ (z : Object). is_some z.node) i
    | is_b e i ↦ absurd (differs e)
    | is_other na nb i ↦ ap (λ (z : Object). is_some z.node) i ∙ h
  ]

  not_gone : (m : ℕ) (nm : List ℕ) (o : ℕ) → Names u m nm o → o ≢ k
  not_gone m nm o h e =
      let n = names_of m nm o h in
      let once = is.named_once.once m d nm name k (subst (Names t m nm) e n.0) named in
      n.1 once.0 once.1

  named_once : AreNamedOnce u
  named_once = record {
    used = λ m nm o h. used_stays o (is.named_once.used m nm o (names_of m nm o h).0) (not_gone m nm o h);
    not_root = λ m nm h. is.named_once.not_root m nm (names_of m nm 0 h).0;
    once = λ m m' nm nm' o h h'. is.named_once.once m m' nm nm' o (names_of m nm o h).0 (names_of m' nm' o h').0;
  }

  still_reached : (n : ℕ) → Reached t n → n ≢ k → Reached u n
  still_reached _ root differs = root
  still_reached _ (entry dir nm o r h) differs = entry dir nm o (still_reached dir r (λ e. no_names dir nm o e h)) (names_stay dir nm o h differs)

  reached : (n : ℕ) → IsSome (node_at u n) → Reached u n
  reached n h = elim (at n) [
    | is_a e i ↦ still_reached n (subst (Reached t) (sym e) (is.reached d is_used)) (λ e'. apart (sym e ∙ e'))
    | is_b e i ↦ let none : is_some {T = Node} None ≡ true = sym (ap (λ (z : Object). is_some z.node) i) ∙ h in absurd (cc)
    | is_other na nb i ↦ still_reached n (is.reached n (sym (ap (λ (z : Object). is_some z.node) i) ∙ h)) nb
  ]

  block_stays : (n i b : ℕ) → slice_get (blocks_of (node_at u n)) i ≡ Some b → slice_get (blocks_of (node_at t n)) i ≡ Some b
  block_stays n i b h = elim (at n) [
    | is_a e is' ↦ let none : None ≡ Some b = sym (ap (λ (z : Object). slice_get (blocks_of z.node) i) is') ∙ h in absurd (cc)
    | is_b e is' ↦ let none : None ≡ Some b = sym (ap (λ (z : Object). slice_get (blocks_of z.node) i) is') ∙ h in absurd (cc)
    | is_other na nb is' ↦ sym (ap (λ (z : Object). slice_get (blocks_of z.node) i) is') ∙ h
  ]

  within : (q : Kind) → used_of u q ≤ items_of g q
  within q =
      let all = ch.sums (λ o. node_uses q o.node) in
      let a : node_uses q (node_at t d) ≡ node_uses q x.node = ap (node_uses q) in_dir ∙ same_uses q entries (maps.remove entries name) rooms in
      omega (arith, all, a, is.within q)

  pub remove-keeps : IsTree g u
  remove-keeps = record {
    count = ch.count ∙ is.count;
    root_dir = root_dir;
    root_birth = root_birth;
    born = keep t u d x k y ch (λ o. IsSome o.node → 1 ≤ o.birth) is.born (λ h. is.born d is_used) (λ h. absurd (cc));
    dirs = keep t u d x k y ch (λ o. (es : Entries) (rs : ℕ) → o.node ≡ Some (Dir es rs) → IsDir es rs) is.dirs x_dir (λ es rs e. absurd (cc));
    files = keep t u d x k y ch (λ o. (bs : List ℕ) → o.node ≡ Some (File bs) → length bs ≤ 12288) is.files (λ bs e. absurd (cc)) (λ bs e. absurd (cc));
    named_once = named_once;
    reached = reached;
    blocks_apart = λ n m i j b h h'. is.blocks_apart n m i j b (block_stays n i b h) (block_stays m j b h');
    blocks_in_range = keep t u d x k y ch (λ o. All (λ b. b < items_of g Fb) (blocks_of o.node)) is.blocks_in_range
        (All-nil (λ b. b < items_of g Fb)) (All-nil (λ b. b < items_of g Fb));
    within = within;
  }
