-- The body is one of a file that may get the size.
use Rattle.std.proofs.Common.{sym, ◌∙◌}
use Rattle.ds_plan_resize.proofs.FileFacts.{can-resize}
use Rattle.ds_plan_resize.proofs.files.file_to_size.Goals as goal

pub returns-clause-can : goal.returns-clause-can
returns-clause-can c =
    can-resize c.args.geom.now c.args.size c.in_ok-body_of_key.field-0 c.in_ok-body.body c.resizable.result c.in_ok-body_of_key.ensures.inside
    c.in_ok-body_of_key.ensures.is_body (sym c.file_of.ensures ∙ c.in_ok-body.was) c.resizable.ensures
