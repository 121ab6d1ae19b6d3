use Rattle.std.proofs.Common.{rules, tests}
use Rattle.std.proofs.lemmas.Iterator.Adapters.{YieldsList-from_rev_slice}
use Rattle.std.proofs.lemmas.Iterator.Consumers.{YieldsList-from_filter_map}
use Rattle.ds_report.specs.Report.{byte_of}
use Rattle.ds_report.proofs.FirstItem.{first_item}
use Rattle.ds_report.proofs.reads.byte_read.Goals as goal

pub returns : goal.returns
returns c =
    first_item _ c.next.result
    (YieldsList-from_filter_map _ (byte_of c.args.host c.args.directive) (YieldsList-from_rev_slice c.args.events.now (cc)) c.filter_map.ensures.closure (λ x r q k. search (rules, tests)))
    c.next.ensures.steps
