use Rattle.std.proofs.Common.{◌≡◌, ◌∙◌, ap, map, replicate, []}
use Rattle.ds_image_tables.specs.KnownUsers.{known_users}
use Rattle.ds_image_tables.specs.Users.{users_in}
use Rattle.ds_image_tables.proofs.Ownership.RowsOfUsers.{unused-rows, nothing-used}
use Rattle.ds_image_tables.proofs.users.Users.new.Goals as goal

unused : (c : goal.In-Ok) → map known_users c.in-Ok.rows.items ≡ replicate c.args.count []
unused c = ap (map known_users) (c.in-Ok.ensures.items_if_clones_equal (λ y same. same)) ∙ unused-rows c.args.count

pub returns-clause-unused : goal.returns-clause-unused
returns-clause-unused c = unused c

pub returns-clause-knows : goal.returns-clause-knows
returns-clause-knows c = λ item within. ap (λ t. users_in t item) (unused c) ∙ nothing-used c.args.count item
