use Rattle.std.proofs.Common.{ap, sym, ◌∙◌, arith}
use Rattle.std.proofs.lemmas.List.{take_rest}
use Rattle.ds_base.proofs.Reading.{drop_split}
use Rattle.ds_base.proofs.memory.MemSourceSource.next.Goals as goal

pub returns-clause-gives : goal.returns-clause-gives
returns-clause-gives c =
    let copied = rw (c.deref-2.ensures.value, take_rest) at c.copy_front-n.ensures.copied in
    let parts = drop_split c.self.inside.bytes.items c.copy_front-n.new.buf c.self.inside.at c.copy_front-n.result copied in
    (omega arith, omega arith, ap (λ s. s.left) (sym c.self.view_is) ∙ parts)
