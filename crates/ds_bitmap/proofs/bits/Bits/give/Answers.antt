use Rattle.std.proofs.Common.{◌≡◌, false, true, set, take, ap, ◌∙◌}
use Rattle.ds_bitmap.specs.Bits.{Bitmap}
use Rattle.ds_bitmap.proofs.Packed.{put_front}
use Rattle.ds_bitmap.proofs.bits.Bits.give.Goals as goal

pub returns-clause-given : goal.returns-clause-given
returns-clause-given c =
    let seen : take c.self.inside.items c.self.inside.used ≡ c.args.self.now.used = ap (λ (b : Bitmap). b.used) c.self.view_is in
    ap (λ i. take c.self.inside.items (set c.self.inside.used i false)) c.from.ensures
    ∙ put_front c.self.inside.items c.self.inside.used c.args.self.now.used c.args.item false true seen c.requires
