-- Each part is what its sectors spell.
use Rattle.ds_base.specs.declared.geometry.Kind.TheVariants.{Fd, Sb, Pb, Fb}
use Rattle.ds_check.proofs.controls.ControlsInMemory.read.Goals as goal

pub returns : goal.returns
returns c = record {
  volume = c.volume_of-volume.ensures;
  slots = c.in_ok-slots.ensures;
  descriptors = c.in_ok-descriptors.ensures;
  clusters = elim [ Fd ↦ c.in_ok-fd_clusters.ensures | Sb ↦ c.in_ok-sb_clusters.ensures | Pb ↦ c.in_ok-pb_clusters.ensures | Fb ↦ c.in_ok-fb_clusters.ensures ];
  pending = c.in_ok-pending.ensures;
}
