use Rattle.std.proofs.Common.{◌≡◌, false, true, set, take, ap, ◌∙◌}
use Rattle.ds_bitmap.specs.Bits.{Bitmap}
use Rattle.ds_bitmap.proofs.Packed.{put_front}
use Rattle.ds_bitmap.proofs.bits.Bits.take.Goals as goal

pub returns-clause-taken : goal.returns-clause-taken
returns-clause-taken c =
    let seen : take c.self.inside.items c.self.inside.used ≡ c.args.self.now.used = ap (λ (b : Bitmap). b.used) c.self.view_is in
    ap (λ i. take c.self.inside.items (set c.self.inside.used i true)) c.from.ensures
    ∙ put_front c.self.inside.items c.self.inside.used c.args.self.now.used c.args.item true false seen c.requires
