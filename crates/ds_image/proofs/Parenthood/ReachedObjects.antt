-- Objects that are reached by their parents.
use Rattle.std.proofs.Common.{◌≡◌, ℕ, ◌<◌, ◌↔◌, Bool, true, false, List, length, Option, None, slice_index_or, sym, ap, ◌∙◌, inl, inr, arith}
use Rattle.std.proofs.lemmas.Bool.{false≢true, cases_lt}
use Rattle.std.proofs.lemmas.List.{get_or_past}
use Rattle.ds_image_parts.specs.Listings.{lists_by}
use Rattle.ds_image_parts.specs.declared.listings.Listed.TheVariants as listed
use Rattle.ds_image.specs.ListParents.{AreParentsOf}
use Rattle.ds_image_parts.specs.Objects.{is_used, tree_of}
use Rattle.ds_image_tables.specs.Owns.{Owns}
use Rattle.ds_image_tables.specs.Parents.{AreReached}
use Rattle.ds_image_parts.specs.Parts.{Parts, part_at}
use Rattle.ds_image.specs.Rooted.{HasRoot, named_bits, IsRooted}
use Rattle.ds_image.specs.Sound.{IsSound}
use Rattle.ds_image.proofs.Parenthood.ListParents.{parents-in}
use Rattle.ds_image_tables.proofs.Parenthood.ReachedParents.{leads-iff_reached}

pub used-within : (p : Parts) (o : ℕ) → is_used (part_at p.bodies o) ≡ true → o < length p.bodies
used-within p o used = elim (cases_lt o (length p.bodies)) [
  | inl below ↦ below
  | inr past ↦ absurd (false≢true (ap is_used (sym (get_or_past p.bodies o None past)) ∙ used))
]

-- whether each used descriptor is among those reached says whether the parts are rooted
pub rooted-where_reached : (p : Parts) (parents : List (Option ℕ)) (reached : List Bool) (r : Bool) → IsSound p → HasRoot p
    → Owns (lists_by p listed.Names) (named_bits p)
    → length parents ≡ length p.bodies → AreParentsOf (lists_by p listed.Names) (length p.bodies) parents → AreReached parents reached
    → (r ≡ true) ↔ ((o : ℕ) → is_used (part_at p.bodies o) ≡ true → slice_index_or reached o false ≡ true) → (r ≡ true) ↔ IsRooted p
rooted-where_reached p parents reached r sound root named count are known test =
    let leads = leads-iff_reached (tree_of p) parents (parents-in p (length p.bodies) parents sound named (omega arith) count are) in (
      λ yes. record {
        root = root;
        named = named;
        reached = λ o used. (leads o).0 ((known.exact o (omega (arith, used-within p o used, count))).0 (test.0 yes o used));
      },
      λ rooted. test.1 (λ o used. (known.exact o (omega (arith, used-within p o used, count))).1 ((leads o).1 (rooted.reached o used))),
    )
