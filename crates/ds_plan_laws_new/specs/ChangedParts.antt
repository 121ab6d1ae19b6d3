-- The parts that changed sectors spell.
use Rattle.std.specs.Prelude.{ℕ, slice_set, Some}
use Rattle.ds_bitmap.specs.Bits.{Bitmap}
use Rattle.ds_dir.specs.declared.sub_block.SubBlock.{SubBlock}
use Rattle.ds_fd.specs.declared.body.Body.{Body}
use Rattle.ds_image_parts.specs.Parts.{Parts}

-- the parts with a bitmap of descriptors, a body and a sub-block in the place of others
abbrev pub filled : Parts → ℕ → ℕ → ℕ → Bitmap → Body → SubBlock → Parts
filled p c o n map new block = record p {
  bodies = slice_set p.bodies o (Some new);
  fd_maps = slice_set p.fd_maps c (Some map);
  subs = slice_set p.subs n (Some block);
}

-- the parts with bitmaps of descriptors and of sub-blocks, two bodies and a sub-block in the place of others
abbrev pub grown_with : Parts → ℕ → ℕ → ℕ → ℕ → ℕ → Bitmap → Bitmap → Body → Body → SubBlock → Parts
grown_with p c c' d o n map map' grown new block = record p {
  bodies = slice_set (slice_set p.bodies d (Some grown)) o (Some new);
  fd_maps = slice_set p.fd_maps c (Some map);
  sb_maps = slice_set p.sb_maps c' (Some map');
  subs = slice_set p.subs n (Some block);
}
