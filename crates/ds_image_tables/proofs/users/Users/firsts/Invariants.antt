use Rattle.std.proofs.Common.{◌≡◌, map, take}
use Rattle.std.specs.Prelude.{slice_get}
use Rattle.ds_image_tables.specs.KnownUsers.{known_users}
use Rattle.ds_image_tables.proofs.users.Users.firsts.Given as goal

-- the first users of the items so far
abbrev pub invariant-loop-row : goal.invariant-loop-row
invariant-loop-row l = l.firsts.items ≡ map (λ row. slice_get (known_users row) 0) (take l.row-index l.row-items)
