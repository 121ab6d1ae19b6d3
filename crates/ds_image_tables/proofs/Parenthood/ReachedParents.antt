-- An object of a tree is reached from the root exactly where its parents lead there.
use Rattle.std.proofs.Common.{ℕ, List, inl, inr, sym, subst}
use Rattle.std.specs.Prelude.{Option, ◌↔◌}
use Rattle.std.proofs.lemmas.Bool.{cases_eq}
use Rattle.ds_tree.specs.Nodes.{FileTree}
use Rattle.ds_tree.specs.WellFormed.{Reached, root, entry}
use Rattle.ds_image_tables.specs.Parents.{LeadsToRoot, AtRoot, ByParent}
use Rattle.ds_image_tables.proofs.Parenthood.TreeParents.{AreParentsIn}

module _ (t : FileTree) (parents : List (Option ℕ)) (are : AreParentsIn t parents) where
  pub reached-from_parents : (o : ℕ) → LeadsToRoot parents o → Reached t o
  reached-from_parents _ AtRoot = root
  reached-from_parents _ (ByParent o dir up leads) = elim (cases_eq o 0) [
    | inl same ↦ subst (Reached t) (sym same) root
    | inr apart ↦ let name = are.named o dir apart up in entry dir name.0 o (reached-from_parents dir leads) name.1
  ]

  pub parents-from_reached : (o : ℕ) → Reached t o → LeadsToRoot parents o
  parents-from_reached _ root = AtRoot
  parents-from_reached _ (entry dir name o reached names) = elim (cases_eq o 0) [
    | inl same ↦ subst (LeadsToRoot parents) (sym same) AtRoot
    | inr apart ↦ ByParent o dir (are.only dir name o apart names) (parents-from_reached dir reached)
  ]

  pub leads-iff_reached : (o : ℕ) → LeadsToRoot parents o ↔ Reached t o
  leads-iff_reached o = (reached-from_parents o, parents-from_reached o)
