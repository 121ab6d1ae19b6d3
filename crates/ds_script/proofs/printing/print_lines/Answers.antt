use Rattle.std.proofs.Common.{◌∙◌}
use Rattle.ds_script.proofs.PrintedParts.{text_written}
use Rattle.ds_script.proofs.printing.print_lines.Goals as goal

pub returns : goal.returns
returns c = record {
  is = c.into_bytes.ensures
      ∙ text_written c.args.scenario.now c.as_slice-hosts.result.now c.as_slice.result.now c.new-text.result c.write_volume.new.text
      c.write_hosts.new.text c.write_lists.new.text c.write_steps.new.text c.as_slice-hosts.ensures c.as_slice.ensures c.new-text.ensures
      c.in_ok-write_volume.ensures.line c.in_ok-write_hosts.ensures c.in_ok-write_lists.ensures c.in_ok-write_steps.ensures;
  id = c.in_ok-write_volume.ensures.id;
}
