-- What a file lists, by its body.
use Rattle.std.proofs.Common.{◌≡◌, ℕ, Some, refl, ap, ◌∙◌}
use Rattle.ds_base.specs.declared.names.NodeKind.TheVariants as kinds
use Rattle.ds_fd.specs.declared.body.Body.{Body}
use Rattle.ds_image_parts.specs.Objects.{ptrs_by, blocks_by, subs_by, tail_by, ptrs_of, blocks_of, subs_of, tail_of}
use Rattle.ds_image_tables.specs.Owns.{list_of}
use Rattle.ds_image_parts.specs.Parts.{Parts, part_at}
use Rattle.ds_image.specs.Sound.{ptr_lists, block_lists}
use Rattle.ds_image.proofs.Spelling.SoundParts.{list-is}
use Rattle.ds_plan_laws_size.specs.Pages.{ptrs_in, blocks_in}

module _ (p : Parts) (o : ℕ) (b : Body) (there : part_at p.bodies o ≡ Some b) (file : b.kind ≡ Some kinds.File) where
  pub ptrs-of_file : ptrs_of (part_at p.bodies o) ≡ ptrs_in b
  ptrs-of_file = ap ptrs_of there ∙ ap (ptrs_by b) file

  pub blocks-of_file : blocks_of p (part_at p.bodies o) ≡ blocks_in p b
  blocks-of_file = ap (blocks_of p) there ∙ ap (blocks_by p b) file

  pub tail-of_file : tail_of p (part_at p.bodies o) ≡ tail_by p b (Some kinds.File)
  tail-of_file = ap (tail_of p) there ∙ ap (tail_by p b) file

  pub subs-of_file : subs_of (part_at p.bodies o) ≡ subs_by b (Some kinds.File)
  subs-of_file = ap subs_of there ∙ ap (subs_by b) file

  pub ptr_list-is : list_of (ptr_lists p) o ≡ ptrs_in b
  ptr_list-is = list-is ptrs_of p.bodies refl o ∙ ptrs-of_file

  pub block_list-is : list_of (block_lists p) o ≡ blocks_in p b
  block_list-is = list-is (blocks_of p) p.bodies refl o ∙ blocks-of_file
