-- The tree of a new volume keeps the rules.
use Rattle.std.proofs.Common.{◌≡◌, ℕ, suc, zero, ◌+◌, ◌-◌, ◌%◌, ◌<◌, ◌≤◌, List, [], ◌∷◌, length, replicate, inl, inr, refl, sym, ap, subst, ◌∙◌, arith, slice_index_or}
use Rattle.std.specs.Prelude.{Option, Some, None, IsSome, All}
use Rattle.std.specs.List.{sum_by}
use Rattle.std.specs.FinMap as maps
use Rattle.std.proofs.lemmas.List.Elements.{All-replicate, All-nil, All-head, All-tail}
use Rattle.std.proofs.lemmas.List.Sums.{sum_by-cons}
use Rattle.std.proofs.lemmas.Option.{slice_get_cases, unwrap_or-slice_get}
use Rattle.std.specs.Prelude.{unwrap_or, slice_get}
use Rattle.ds_base.specs.declared.geometry.Geom.{Geom}
use Rattle.ds_base.specs.declared.geometry.Kind.{Kind}
use Rattle.ds_base.specs.declared.geometry.Kind.TheVariants.{Fd, Sb, Pb, Fb}
use Rattle.ds_base.specs.Geometry.{IsGeom, items_of}
use Rattle.ds_tree.specs.Counts.{node_uses, used_of}
use Rattle.ds_tree.specs.Nodes.{Entries, Node, Dir, File, Object, unborn, node_at, birth_at, blocks_of, fresh_tree}
use Rattle.ds_tree.specs.Trees.{entries_of}
use Rattle.ds_tree.specs.WellFormed.{IsTree, IsDir, Names, Reached, root}
use Rattle.ds_tree.proofs.EntryLists.{cmp, get_empty}
use Rattle.ds_tree.proofs.GeometryBounds.{items_of-positive, length-first_and_rest}

abbrev first : Object
first = record { birth = 1; node = Some (Dir maps.empty 0) }

-- a list of free numbers holds nothing else
free_at : (os : List Object) → All (λ o. o ≡ unborn) os → (n : ℕ) → slice_index_or os n unborn ≡ unborn
free_at os all n =
    elim (slice_get_cases os n).1 [
      | inl p ↦ all n unborn p.1
      | inr p ↦ sym (unwrap_or-slice_get os n unborn) ∙ ap (λ o. unwrap_or o unborn) p.1
    ]

no_uses : (kind : Kind) (os : List Object) → All (λ o. o ≡ unborn) os → sum_by (λ o. node_uses kind o.node) os ≡ 0
no_uses kind [] all = refl
no_uses kind (o ∷ os) all =
    let here : node_uses kind o.node ≡ 0 = ap (λ (x : Object). node_uses kind x.node) (All-head (λ (o : Object). o ≡ unborn) o os all) in
    sum_by-cons (λ (o : Object). node_uses kind o.node) o os ∙ omega (arith, here, no_uses kind os (All-tail (λ (o : Object). o ≡ unborn) o os all))

one_at_most : (kind : Kind) → node_uses kind (Some (Dir maps.empty 0)) ≤ 1
one_at_most Fd = omega arith
one_at_most Sb = omega arith
one_at_most Pb = omega arith
one_at_most Fb = omega arith

nothing_there : (node : Option Node) → node ≡ None → ¬ IsSome node
nothing_there None e h = absurd (cc)
nothing_there (Some node) e h = absurd (cc)

-- an empty directory without rooms keeps the rules
pub the_dir : (entries : Entries) (rooms : ℕ) → Some (Dir maps.empty 0) ≡ Some (Dir entries rooms) → IsDir entries rooms
the_dir entries rooms e =
    let a : maps.empty ≡ entries = cc in
    let b : 0 ≡ rooms = cc in
    let len : maps.len entries ≡ 0 = ap maps.len (sym a) ∙ maps.len-empty cmp ℕ in
    record {
      names = λ name object h.
          let none : None ≡ Some object = sym (get_empty name) ∙ ap (λ (m : Entries). maps.get m name) a ∙ h in
          absurd (cc);
      have_rooms = omega (arith, len);
      most = omega (arith, b);
      by_four = ap (λ r. r % 4) (sym b);
    }

module _ (g : Geom) (is : IsGeom g) where
  abbrev rest : List Object
  rest = replicate (items_of g Fd - 1) unborn

  free : All (λ o. o ≡ unborn) rest
  free = All-replicate (λ o. o ≡ unborn) (items_of g Fd - 1) unborn refl

  only_root : (n : ℕ) → IsSome (node_at (fresh_tree g) n) → n ≡ 0
  only_root zero h = refl
  only_root (suc n) h = absurd (nothing_there _ (ap (λ (o : Object). o.node) (free_at rest free n)) h)

  no_entries : (n : ℕ) → entries_of (node_at (fresh_tree g) n) ≡ maps.empty
  no_entries zero = refl
  no_entries (suc n) = ap (λ (o : Object). entries_of o.node) (free_at rest free n)

  no_names : (n : ℕ) (name : List ℕ) (object : ℕ) → ¬ Names (fresh_tree g) n name object
  no_names n name object h =
      let none : None ≡ Some object = sym (ap (λ (m : Entries). maps.get m name) (no_entries n) ∙ get_empty name) ∙ h in
      absurd (cc)

  no_blocks : (n : ℕ) → blocks_of (node_at (fresh_tree g) n) ≡ []
  no_blocks zero = refl
  no_blocks (suc n) = ap (λ (o : Object). blocks_of o.node) (free_at rest free n)

  no_block : (n i b : ℕ) → ¬ (slice_get (blocks_of (node_at (fresh_tree g) n)) i ≡ Some b)
  no_block n i b h =
      let none : None ≡ Some b = sym (ap (λ bs. slice_get bs i) (no_blocks n)) ∙ h in
      absurd (cc)

  no_file : (n : ℕ) (blocks : List ℕ) → node_at (fresh_tree g) n ≡ Some (File blocks) → length blocks ≤ 12288
  no_file zero blocks e = absurd (cc)
  no_file (suc n) blocks e = let none : None ≡ Some (File blocks) = sym (ap (λ (o : Object). o.node) (free_at rest free n)) ∙ e in absurd (cc)

  dirs : (n : ℕ) (entries : Entries) (rooms : ℕ) → node_at (fresh_tree g) n ≡ Some (Dir entries rooms) → IsDir entries rooms
  dirs zero entries rooms e = the_dir entries rooms e
  dirs (suc n) entries rooms e = let none : None ≡ Some (Dir entries rooms) = sym (ap (λ (o : Object). o.node) (free_at rest free n)) ∙ e in absurd (cc)

  born : (n : ℕ) → IsSome (node_at (fresh_tree g) n) → 1 ≤ birth_at (fresh_tree g) n
  born zero h = omega arith
  born (suc n) h = absurd (nothing_there _ (ap (λ (o : Object). o.node) (free_at rest free n)) h)

  pub fresh-is_tree : IsTree g (fresh_tree g)
  fresh-is_tree =
      let one = items_of-positive g Fd is in
      record {
        count = length-first_and_rest (items_of g Fd) first unborn one;
        root_dir = refl;
        root_birth = refl;
        born = born;
        dirs = dirs;
        files = no_file;
        named_once = record {
          used = λ n name object h. absurd (no_names n name object h);
          not_root = λ n name. no_names n name 0;
          once = λ n n' name name' object h h'. absurd (no_names n name object h);
        };
        reached = λ n h. subst (Reached (fresh_tree g)) (sym (only_root n h)) root;
        blocks_apart = λ n m i j b h h'. absurd (no_block n i b h);
        blocks_in_range = λ n. subst (λ bs. All (λ b. b < items_of g Fb) bs) (sym (no_blocks n)) (All-nil (λ b. b < items_of g Fb));
        within = λ kind.
            let uses : used_of (fresh_tree g) kind ≡ node_uses kind first.node + sum_by (λ o. node_uses kind o.node) rest =
            sum_by-cons (λ (o : Object). node_uses kind o.node) first rest in
            omega (arith, uses, no_uses kind rest free, one_at_most kind, items_of-positive g kind is);
      }
