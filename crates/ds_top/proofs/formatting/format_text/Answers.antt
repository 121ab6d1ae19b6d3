use Rattle.std.proofs.Common.{refl, sym, subst}
use Rattle.ds_top.specs.declared.commands.Command.TheVariants.{Format}
use Rattle.ds_top.specs.declared.outcome.Why.{Why}
use Rattle.ds_top.specs.declared.output.Output.{Output}
use Rattle.ds_top.specs.Runs.{IsMadeOf, IsRefusedOf, bytes_in}
use Rattle.ds_top.proofs.FormatLaws.{volume_refused, volume_caused}
use Rattle.ds_top.proofs.formatting.format_text.Goals as goal

pub returns-in-Err : goal.returns-in-Err
returns-in-Err c =
    subst (λ (w : Why). IsRefusedOf Format c.args.bytes.now w) (sym c.from.ensures)
    (volume_refused c.args.bytes.now c.in-Err.fault c.in-Err.ensures.answer c.in-Err.ensures.only)

pub returns-in-Ok-format : goal.returns-in-Ok-format
returns-in-Ok-format c =
    let volume = c.in-Ok.volume in
    subst (λ (it : Output). IsMadeOf Format c.args.bytes.now it.why it.log (bytes_in it.body)) (sym c.sectors.ensures) (record {
      makes = (
        refl,
        refl,
        record {
          id = volume.0;
          geom = volume.1;
          sectors = c.in-Ok-format.sectors.items;
          is_text = c.in-Ok.ensures.answer;
          formatted = c.in-Ok-format.ensures.formatted;
          is_bytes = refl;
        },
      );
      caused = volume_caused c.args.bytes.now volume c.in-Ok.ensures.answer c.in-Ok.ensures.only;
      written = tt;
    })
