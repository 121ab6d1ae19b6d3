use Rattle.std.proofs.Common.{length, subst, sym}
use Rattle.std.proofs.lemmas.Result.{IfOk-weaker}
use Rattle.ds_script.specs.Entries.{IsOfHosts, item_of}
use Rattle.ds_script.specs.Reading.{host_line_at}
use Rattle.ds_script.specs.declared.items.Entry.{Entry}
use Rattle.ds_script.proofs.Ends.{end_seen}
use Rattle.ds_script.proofs.items.take_host_line.Goals as goal

pub returns-clause-read : goal.returns-clause-read
unfolding host_line_at
returns-clause-read c =
    let here = end_seen item_of _ _ _ c.ended.ensures.read in
    rw (c.if-begun.false, c.in_ok-name.ensures) here

pub returns-clause-known : goal.returns-clause-known
returns-clause-known c =
    let P : Entry → Type 0 = λ e. IsOfHosts (length c.args.hosts.now) (item_of e) in
    IfOk-weaker c.ended.result _ P (λ x same. subst P (sym same) tt) c.ended.ensures.same
