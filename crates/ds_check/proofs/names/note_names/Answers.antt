-- An object has fewer names than four bytes can count.
use Rattle.std.proofs.Common.{arith}
use Rattle.std.proofs.lemmas.List.Sums.{count_by-le-length}
use Rattle.ds_base.specs.declared.geometry.Kind.TheVariants.{Fd}
use Rattle.ds_layout.proofs.Bounds.{most_items_of}
use Rattle.ds_check.specs.Names.{all_named}
use Rattle.ds_check.proofs.names.note_names.Goals as goal
use Rattle.std.specs.Prelude.{◌==◌}

pub overflow_cast-names : goal.overflow_cast-names
overflow_cast-names c =
    let named = all_named c.args.geom.now c.args.parts.now in
    let counted = c.of-names.ensures.counted named c.requires.counted (omega (arith, c.requires.inside, c.requires.count)) in
    omega (arith, counted, count_by-le-length (λ o. o == c.args.object) named, c.requires.few, most_items_of c.args.geom.now Fd c.requires.geom)
