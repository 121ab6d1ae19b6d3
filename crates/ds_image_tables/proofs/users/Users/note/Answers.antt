use Rattle.std.proofs.Common.{◌≡◌, ◌∷◌, [], ◌++◌, take, map, set, sym, ap, ◌∙◌, subst}
use Rattle.std.proofs.lemmas.List.{map-set}
use Rattle.ds_image_tables.specs.Users.{users_in, KnowsUsers}
use Rattle.ds_image_tables.specs.KnownUsers.{known_users}
use Rattle.ds_image_tables.proofs.Ownership.NotedUsers.{knows-more}
use Rattle.ds_image_tables.proofs.Ownership.RowsOfUsers.{row-read}
use Rattle.ds_image_tables.proofs.users.Users.note.Goals as goal

noted : (c : goal.After-self-1) → map known_users (set c.self.inside.rows.items c.args.item c.with.result)
    ≡ set c.args.self.now c.args.item (take 2 (users_in c.args.self.now c.args.item ++ c.args.object ∷ []))
noted c =
    map-set known_users c.self.inside.rows.items c.args.item c.with.result
    ∙ ap (λ t. set t c.args.item (known_users c.with.result)) c.self.view_is
    ∙ ap (set c.args.self.now c.args.item) (c.with.ensures
    ∙ ap (λ l. take 2 (l ++ c.args.object ∷ []))
    (row-read c.self.inside.rows.items c.args.item c.index-row.result.now c.args.self.now c.self.view_is c.requires c.index-row.ensures))

pub returns-clause-noted : goal.returns-clause-noted
returns-clause-noted c = noted c

pub returns-clause-knows : goal.returns-clause-knows
returns-clause-knows c = λ uses knows. subst (λ t. KnowsUsers t (uses ++ (c.args.item, c.args.object) ∷ [])) (sym (noted c))
    (knows-more c.args.self.now c.args.item c.args.object c.requires uses knows)
