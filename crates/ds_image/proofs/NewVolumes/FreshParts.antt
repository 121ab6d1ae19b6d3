-- The parts of a formatted volume agree with one another, and spell the tree that has the root alone.
use Rattle.std.proofs.Common.{◌≡◌, ℕ, zero, suc, ◌*◌, ◌≤◌, Bool, false, List, [], map, replicate, Option, Some, None, refl, sym, ap, subst, ◌∙◌, arith}
use Rattle.std.proofs.Math.ListN as lists
use Rattle.std.proofs.Math.Nat.{one-le-mul}
use Rattle.std.specs.Prelude.{bytes_eq}
use Rattle.std.specs.List.{IsDistinct}
use Rattle.ds_base.specs.declared.geometry.Geom.{Geom}
use Rattle.ds_base.specs.declared.geometry.GeomField.TheVariants.{Clusters, Items}
use Rattle.ds_base.specs.declared.geometry.Kind.{Kind}
use Rattle.ds_base.specs.declared.geometry.Kind.TheVariants.{Fd, Sb, Pb, Fb}
use Rattle.ds_base.specs.Geometry.{IsGeom, clusters_of, per_cluster, items_of}
use Rattle.ds_bitmap.specs.Bits.{Bitmap}
use Rattle.ds_dir.proofs.Laws.{empty_sub}
use Rattle.ds_dir.specs.declared.sub_block.Entry.{Entry}
use Rattle.ds_fd.specs.declared.body.Body.{Body}
use Rattle.ds_ptr.specs.declared.ptr_block.PtrBlock.{PtrBlock}
use Rattle.ds_tree.specs.Nodes.{FileTree, Object, unborn, fresh_tree}
use Rattle.ds_image.specs.Formatted.{fresh_body, fresh_bits}
use Rattle.ds_image_parts.specs.Objects.{is_used, subs_of, ptrs_of, blocks_of, tail_of, used_rooms, object_of, tree_of}
use Rattle.ds_image_tables.specs.Owns.{list_of, bit}
use Rattle.ds_image_parts.specs.Parts.{Parts, part_at, AllSpelled, maps_of, bits_in}
use Rattle.ds_image.specs.Sound.{sub_lists, ptr_lists, block_lists, rooms_used_by, AreZero, IsSound}
use Rattle.ds_image.proofs.NewVolumes.FreshLists.{made, each_made, all_made, first_and_same, clear_bits_in, first_bit_in, get_or-replicate_same, none_there, owns_nothing}

-- the pointer block without addresses
abbrev pub empty_ptr : PtrBlock
empty_ptr = record { addresses = replicate 128 0 }

-- the parts of a formatted volume
abbrev pub fresh_parts : Geom → Parts
fresh_parts g =
    record {
      bodies = made fresh_body (items_of g Fd);
      fd_maps = made (fresh_bits g Fd) (clusters_of g Fd);
      sb_maps = made (fresh_bits g Sb) (clusters_of g Sb);
      pb_maps = made (fresh_bits g Pb) (clusters_of g Pb);
      fb_maps = made (fresh_bits g Fb) (clusters_of g Fb);
      subs = made (λ _. empty_sub) (items_of g Sb);
      ptrs = made (λ _. empty_ptr) (items_of g Pb);
    }

-- no descriptor lists anything
fresh_subs : (o : ℕ) → subs_of (Some (fresh_body o)) ≡ []
fresh_subs zero = refl
fresh_subs (suc n) = refl

fresh_ptrs : (o : ℕ) → ptrs_of (Some (fresh_body o)) ≡ []
fresh_ptrs zero = refl
fresh_ptrs (suc n) = refl

fresh_blocks : (p : Parts) (o : ℕ) → blocks_of p (Some (fresh_body o)) ≡ []
fresh_blocks p zero = refl
fresh_blocks p (suc n) = refl

fresh_tail : (p : Parts) (o : ℕ) → tail_of p (Some (fresh_body o)) ≡ []
fresh_tail p zero = refl
fresh_tail p (suc n) = refl

-- what is listed by each descriptor alike is so in the list of all
listed_alike : (list : Option Body → List ℕ) (n : ℕ) → list None ≡ [] → ((o : ℕ) → list (Some (fresh_body o)) ≡ []) → (o : ℕ) → list_of (map list (made fresh_body n)) o ≡ []
listed_alike list n none some o =
    let P : Option Body → Type 0 = λ b. list b ≡ [] in
    ap (λ d. lists.get_or (map list (made fresh_body n)) o d) (sym none)
    ∙ lists.get_or-map list (made fresh_body n) o None
    ∙ each_made fresh_body n P none some o

no_bit : (f : ℕ → Bitmap) (per n : ℕ) → ((i : ℕ) → (f i).used ≡ replicate per false) → (x : ℕ) → bit (bits_in (made f n)) x ≡ false
no_bit f per n clear x =
    ap (λ (bits : List Bool). bit bits x) (clear_bits_in f per n clear) ∙ get_or-replicate_same (n * per) x false

module _ (g : Geom) (is : IsGeom g) where
  abbrev p : Parts
  p = fresh_parts g

  no_subs : (o : ℕ) → subs_of (part_at p.bodies o) ≡ []
  no_subs o =
      let P : Option Body → Type 0 = λ b. subs_of b ≡ [] in
      each_made fresh_body (items_of g Fd) P refl fresh_subs o

  no_rooms : (o : ℕ) → rooms_used_by p o ≡ []
  no_rooms o = ap (used_rooms p) (no_subs o)

  no_sub_listed : (o : ℕ) → list_of (sub_lists p) o ≡ []
  no_sub_listed o = listed_alike subs_of (items_of g Fd) refl fresh_subs o

  no_ptr_listed : (o : ℕ) → list_of (ptr_lists p) o ≡ []
  no_ptr_listed o = listed_alike ptrs_of (items_of g Fd) refl fresh_ptrs o

  no_block_listed : (o : ℕ) → list_of (block_lists p) o ≡ []
  no_block_listed o = listed_alike (blocks_of p) (items_of g Fd) refl (fresh_blocks p) o

  no_tail : (o : ℕ) → AreZero (tail_of p (part_at p.bodies o))
  no_tail o =
      let P : Option Body → Type 0 = λ b. tail_of p b ≡ [] in
      subst AreZero (sym (each_made fresh_body (items_of g Fd) P refl (fresh_tail p) o)) (λ i. refl)

  all_maps : (kind : Kind) → AllSpelled (maps_of p kind)
  all_maps Fd = all_made (fresh_bits g Fd) (clusters_of g Fd)
  all_maps Sb = all_made (fresh_bits g Sb) (clusters_of g Sb)
  all_maps Pb = all_made (fresh_bits g Pb) (clusters_of g Pb)
  all_maps Fb = all_made (fresh_bits g Fb) (clusters_of g Fb)

  later_unused : (i : ℕ) → 1 ≤ i → is_used (Some (fresh_body i)) ≡ false
  later_unused zero l = absurd (omega arith)
  later_unused (suc i) l = refl

  later_clear : (i : ℕ) → 1 ≤ i → (fresh_bits g Fd i).used ≡ replicate (per_cluster g Fd) false
  later_clear zero l = absurd (omega arith)
  later_clear (suc i) l = refl

  later_unborn : (i : ℕ) → 1 ≤ i → object_of p (Some (fresh_body i)) ≡ unborn
  later_unborn zero l = absurd (omega arith)
  later_unborn (suc i) l = refl

  one_item : 1 ≤ items_of g Fd
  one_item = one-le-mul (is (Clusters Fd)).0 (is (Items Fd)).0

  used_root : bits_in p.fd_maps ≡ map is_used p.bodies
  used_root =
      first_bit_in (fresh_bits g Fd) (per_cluster g Fd) (clusters_of g Fd) (is (Clusters Fd)).0 (is (Items Fd)).0 refl later_clear
      ∙ sym (first_and_same is_used fresh_body false (items_of g Fd) one_item later_unused)

  pub fresh_sound : IsSound p
  unfolding IsDistinct
  fresh_sound = record {
    bodies = all_made fresh_body (items_of g Fd);
    maps = all_maps;
    subs = λ o i n at. absurd (none_there (list_of (sub_lists p) o) i n (no_sub_listed o) at);
    ptrs = λ o i n at. absurd (none_there (list_of (ptr_lists p) o) i n (no_ptr_listed o) at);
    names = λ o.
        let P : List Entry → Type 0 = λ es. IsDistinct bytes_eq (map (λ (e : Entry). e.name) es) in
        subst P (sym (no_rooms o)) tt;
    entries = λ o i e at. absurd (none_there (rooms_used_by p o) i e (no_rooms o) at);
    tails = no_tail;
    used = used_root;
    sub_owners = owns_nothing (sub_lists p) (bits_in p.sb_maps) no_sub_listed (no_bit (fresh_bits g Sb) (per_cluster g Sb) (clusters_of g Sb) (λ i. refl));
    ptr_owners = owns_nothing (ptr_lists p) (bits_in p.pb_maps) no_ptr_listed (no_bit (fresh_bits g Pb) (per_cluster g Pb) (clusters_of g Pb) (λ i. refl));
    block_owners = owns_nothing (block_lists p) (bits_in p.fb_maps) no_block_listed (no_bit (fresh_bits g Fb) (per_cluster g Fb) (clusters_of g Fb) (λ i. refl));
  }

  pub tree_of-fresh : fresh_tree g ≡ tree_of p
  unfolding tree_of
  tree_of-fresh =
      let tree : List Object → FileTree = λ objects. record { objects = objects } in
      ap tree (sym (first_and_same (object_of p) fresh_body unborn (items_of g Fd) one_item later_unborn))
