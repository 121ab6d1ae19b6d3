-- The part that is asked reads no more.
use Rattle.std.proofs.Common.{◌≡◌, ℕ, subst}
use Rattle.std.specs.List.{Contains}
use Rattle.ds_image_parts.specs.Parts.{Parts}
use Rattle.ds_image_parts.specs.Readings.{ReadsParts}
use Rattle.ds_image.specs.SeenValues.{look_of}
use Rattle.ds_image.specs.declared.asks.Ask.TheVariants.{Read}
use Rattle.ds_plan_reads.specs.Answers.{ReadsValue, sectors_of}
use Rattle.ds_read.proofs.reads.ReadsPlan.ask.Goals as goal

pub returns-clause-reads : goal.returns-clause-reads
returns-clause-reads c =
    subst (λ (plan : ReadsValue). (at : ℕ) → c.ask.result ≡ Read at → (p : Parts) → ReadsParts plan.geom (look_of c.args.seen.now) p → Contains (sectors_of plan p) at)
    c.self.view_is c.ask.ensures.reads
