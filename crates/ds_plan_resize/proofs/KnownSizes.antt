-- A file with its new size is known once all is that it rests on.
use Rattle.std.proofs.Common.{◌≡◌, ℕ, ◌-◌, ◌/◌, ◌%◌, List, length, take, drop, refl, length-drop, arith}
use Rattle.std.specs.Prelude.{Result, Ok}
use Rattle.std.proofs.lemmas.List.{take_all}
use Rattle.ds_base.specs.declared.geometry.Geom.{Geom}
use Rattle.ds_base.specs.declared.geometry.Kind.TheVariants.{Pb, Fb}
use Rattle.ds_fd.specs.declared.body.Body.{Body}
use Rattle.ds_image_parts.specs.Parts.{Parts}
use Rattle.ds_image.specs.SeenValues.{SeenValue}
use Rattle.ds_jrnl.specs.declared.redo.Redo.{Redo}
use Rattle.ds_layout.specs.Places.{place_sector}
use Rattle.ds_layout.specs.declared.places.Place.TheVariants as places
use Rattle.ds_plan_base.specs.Giving.{given_up}
use Rattle.ds_plan_base.specs.declared.stops.Stop.{Stop}
use Rattle.ds_plan_resize.specs.Blocks.{blocks_seen, pointers_from}
use Rattle.ds_plan_resize.specs.Shrinking.{no_maps, shrunk, shrink_known}
use Rattle.ds_plan_resize.specs.declared.blocks.Blocks.{Blocks}
use Rattle.ds_plan_resize.specs.declared.resized.Resized.{Resized}
use Rattle.ds_tree.specs.Counts.{pointer_blocks}

-- what is behind so many
pub behind : (n : ℕ) (xs : List ℕ) → take (length xs - n) (drop n xs) ≡ drop n xs
behind n xs = take_all (length xs - n) (drop n xs) (omega (arith, length-drop n xs))

pub shrunk-is : (g : Geom) (seen : SeenValue) (p : Parts) (b : Body) (size : ℕ) (old : Blocks) (pointer_maps maps : Redo) (r : Resized)
    → blocks_seen g seen p b (size / 128) ≡ Ok old
    → given_up g seen p Pb (pointers_from b (pointer_blocks size)) (place_sector g (places.Body b.object)) no_maps ≡ Ok pointer_maps
    → given_up g seen p Fb (drop (size % 128) old.list.items) (place_sector g (places.Body b.object)) pointer_maps ≡ Ok maps
    → r ≡ shrunk b size old maps → ◌≡◌ {A = Result Resized Stop} (Ok r) (shrink_known g seen p b size)
shrunk-is g seen p b size old pointer_maps maps r one two three same = rw (one, two, three, same) refl
