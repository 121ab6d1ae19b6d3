-- Parts of which some are others.
use Rattle.std.specs.Prelude.{List, Option}
use Rattle.ds_base.specs.declared.geometry.Kind.{Kind}
use Rattle.ds_base.specs.declared.geometry.Kind.TheVariants.{Fd, Sb, Pb, Fb}
use Rattle.ds_bitmap.specs.Bits.{Bitmap}
use Rattle.ds_image_parts.specs.Parts.{Parts}

-- the parts with these bitmaps of a kind's clusters
abbrev pub with_maps : Parts → Kind → List (Option Bitmap) → Parts
with_maps p Fd maps = record p { fd_maps = maps }
with_maps p Sb maps = record p { sb_maps = maps }
with_maps p Pb maps = record p { pb_maps = maps }
with_maps p Fb maps = record p { fb_maps = maps }
