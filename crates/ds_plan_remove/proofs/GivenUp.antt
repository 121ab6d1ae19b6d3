-- What an object gives up that goes: each item is marked once, and the call gives it up.
use Rattle.std.proofs.Common.{◌≡◌, ℕ, true, false, List, [], ◌∷◌, length, map, Option, None, Some, refl, sym, ap, subst, ◌∙◌, arith, slice_get, is_some}
use Rattle.std.proofs.lemmas.List.{get_or-map}
use Rattle.ds_base.specs.declared.geometry.Kind.{Kind}
use Rattle.ds_base.specs.declared.geometry.Kind.TheVariants.{Fd, Sb, Pb, Fb}
use Rattle.ds_base.specs.declared.geometry.Geom.{Geom}
use Rattle.ds_base.specs.declared.names.Key.{Key}
use Rattle.ds_base.specs.declared.names.NodeKind.{NodeKind}
use Rattle.ds_base.specs.declared.names.NodeKind.TheVariants as kinds
use Rattle.ds_dir.specs.declared.sub_block.Entry.{Entry}
use Rattle.ds_fd.specs.declared.body.Body.{Body}
use Rattle.ds_plan_laws_gone.specs.Leaving.{go_call, given_up}
use Rattle.ds_image_parts.specs.Objects.{subs_by, ptrs_by, subs_of, ptrs_of, blocks_by, blocks_of, addresses_in, is_used}
use Rattle.ds_image_tables.specs.Owns.{Owns, IsAt, bit}
use Rattle.ds_image_parts.specs.Parts.{Parts, part_at, maps_of, bits_in}
use Rattle.ds_image.specs.SeenValues.{SeenValue}
use Rattle.ds_image.specs.Sound.{IsSound}
use Rattle.ds_image_tables.proofs.Spelling.Places.{at-single, Contains-from_at}
use Rattle.ds_image.proofs.Spelling.Sizes.{part_within}
use Rattle.ds_image.proofs.Spelling.SoundParts.{list-is}
use Rattle.ds_image.specs.Locks.{SeesBody, SeesEntry, SeesNamed, SeesEmpty, block_past, pointer_past, GivesUp, file_itself, item_of_file, dir_itself, sub_block_of_dir}
use Rattle.ds_plan_base.proofs.GivingWalk.{AreMarked}
use Rattle.ds_plan_remove.proofs.BlocksSeen.{block-seen}
use Rattle.ds_plan_remove.proofs.ContentsWalk.{HasContents}

-- Marks

module _ (q : Parts) (sound : IsSound q) (o : ℕ) (b : Body) (there : part_at q.bodies o ≡ Some b) where
  -- what a descriptor lists is marked once
  listed-marked : (kind : Kind) (Lists : Option Body → List ℕ) → Lists None ≡ [] → Owns (map Lists q.bodies) (bits_in (maps_of q kind)) → AreMarked q kind (Lists (Some b))
  listed-marked kind Lists none owns =
      let at : (i n : ℕ) → slice_get (Lists (Some b)) i ≡ Some n → IsAt (map Lists q.bodies) o i n =
      λ i n at. ap (λ l. slice_get l i) (list-is Lists q.bodies none o ∙ ap Lists there) ∙ at in
      record {
        marked = λ i n here. owns.marked o i n (at i n here);
        once = λ i j n one two. (owns.once o i o j n (at i n one) (at j n two)).1;
      }

  -- and so is a descriptor that is in use
  itself-marked : is_used (Some b) ≡ true → AreMarked q Fd (o ∷ [])
  itself-marked used = record {
    marked = λ i n at.
        let here = (at-single o i n at).1 in
        ap (bit (bits_in q.fd_maps)) here ∙ ap (λ l. bit l o) sound.used
        ∙ get_or-map is_used q.bodies o None false (part_within q.bodies o b there) ∙ ap is_used there ∙ used;
    once = λ i j n one two. omega (arith, (at-single o i n one).0, (at-single o j n two).0);
  }

  pub given-marked : (kind : NodeKind) → b.kind ≡ Some kind → (of : Kind) → AreMarked q of (given_up q o b of)
  given-marked kind is Fd = itself-marked (ap is_some is)
  given-marked kind is Sb = listed-marked Sb subs_of refl sound.sub_owners
  given-marked kind is Pb = listed-marked Pb ptrs_of refl sound.ptr_owners
  given-marked kind is Fb = listed-marked Fb (blocks_of q) refl sound.block_owners

-- What the call gives up

module _ (g : Geom) (seen : SeenValue) (p : Parts) (key : Key) (name : List ℕ) (e : Entry) (sees : SeesEntry p key name e) (b : Body) (contents : HasContents g seen p b)
    (wide : (i n : ℕ) → slice_get (ptrs_of (Some b)) i ≡ Some n → length (addresses_in (part_at p.ptrs n)) ≡ 128) where
  file-gives : e.kind ≡ kinds.File → SeesBody p e.key kinds.File b → (of : Kind) (i n : ℕ) → slice_get (given_up p e.key.object b of) i ≡ Some n → GivesUp p (go_call kinds.File key name) of n
  file-gives is body Fd i n at =
      let named : SeesNamed p key name kinds.File e b = record { entry = sees; is_kind = is; body = body } in
      subst (λ k. GivesUp p (go_call kinds.File key name) Fd k) (sym (at-single e.key.object i n at).1) (file_itself e b named)
  file-gives is body Sb i n at =
      let none : subs_of (Some b) ≡ [] = ap (subs_by b) body.is_kind in
      let wrong : ◌≡◌ {A = Option ℕ} None (Some n) = sym (ap (λ l. slice_get l i) none) ∙ at in
      absurd cc
  file-gives is body Pb i n at =
      item_of_file e b Pb n (record { entry = sees; is_kind = is; body = body }) (pointer_past i n (omega arith) at)
  file-gives is body Fb i n at =
      let block = block-seen p b body.is_kind wide i n at in
      item_of_file e b Fb n (record { entry = sees; is_kind = is; body = body }) (block_past i n (omega arith) block.0 block.1)

  dir-gives : e.kind ≡ kinds.Dir → SeesBody p e.key kinds.Dir b → (of : Kind) (i n : ℕ) → slice_get (given_up p e.key.object b of) i ≡ Some n → GivesUp p (go_call kinds.Dir key name) of n
  dir-gives is body of i n at = by of i n at
    where
      empty : SeesEmpty p key name e b
      empty = record {
        named = record { entry = sees; is_kind = is; body = body };
        whole = record { body = body; subs = λ i n at. ap is_some (contents.subs i n at).1.there };
        empty = contents.bare;
      }

      by : (of : Kind) (i n : ℕ) → slice_get (given_up p e.key.object b of) i ≡ Some n → GivesUp p (go_call kinds.Dir key name) of n
      by Fd i n at = subst (λ k. GivesUp p (go_call kinds.Dir key name) Fd k) (sym (at-single e.key.object i n at).1) (dir_itself e b empty)
      by Sb i n at = sub_block_of_dir e b n empty (Contains-from_at (subs_of (Some b)) i n at)
      by Pb i n at =
          let none : ptrs_of (Some b) ≡ [] = ap (ptrs_by b) body.is_kind in
          let wrong : ◌≡◌ {A = Option ℕ} None (Some n) = sym (ap (λ l. slice_get l i) none) ∙ at in
          absurd cc
      by Fb i n at =
          let none : blocks_of p (Some b) ≡ [] = ap (blocks_by p b) body.is_kind in
          let wrong : ◌≡◌ {A = Option ℕ} None (Some n) = sym (ap (λ l. slice_get l i) none) ∙ at in
          absurd cc

  pub object-gives : (kind : NodeKind) → e.kind ≡ kind → SeesBody p e.key kind b → (of : Kind) (i n : ℕ) → slice_get (given_up p e.key.object b of) i ≡ Some n → GivesUp p (go_call kind key name) of n
  object-gives kinds.Dir is body of i n at = dir-gives is body of i n at
  object-gives kinds.File is body of i n at = file-gives is body of i n at
