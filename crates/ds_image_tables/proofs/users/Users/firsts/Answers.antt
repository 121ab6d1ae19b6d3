use Rattle.std.proofs.Common.{map, ap, ◌∙◌, List, ℕ}
use Rattle.std.proofs.lemmas.List.{take_all}
use Rattle.std.specs.Prelude.{slice_get}
use Rattle.ds_image_tables.specs.KnownUsers.{known_users}
use Rattle.ds_image_tables.proofs.Ownership.RowsOfUsers.{firsts-of-rows}
use Rattle.ds_image_tables.proofs.users.Users.firsts.Goals as goal

pub returns : goal.returns
returns c =
    c.loop-row.invariant
    ∙ ap (map (λ row. slice_get (known_users row) 0))
    (take_all c.loop-row.row-index c.deref-row-items.result.now c.loop-row-test.false ∙ c.deref-row-items.ensures.value)
    ∙ firsts-of-rows c.self.inside.rows.items
    ∙ ap (map (λ (users : List ℕ). slice_get users 0)) c.self.view_is
