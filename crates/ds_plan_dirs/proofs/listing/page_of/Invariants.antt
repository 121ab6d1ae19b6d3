-- The sub-blocks so far are known, and their entries are counted and in the page.
use Rattle.std.proofs.Common.{◌≡◌, ◌≤◌, ◌*◌, length, take, drop}
use Rattle.ds_image_parts.specs.Objects.{used_rooms}
use Rattle.ds_image_parts.specs.Parts.{Parts}
use Rattle.ds_image_parts.specs.Readings.{ReadsParts}
use Rattle.ds_image.specs.SeenValues.{look_of}
use Rattle.ds_plan_dirs.specs.Pages.{page_names}
use Rattle.ds_plan_base.specs.Entries.{subs_known}
use Rattle.ds_plan_dirs.proofs.listing.page_of.Given as goal

abbrev pub invariant-loop-number : goal.invariant-loop-number
invariant-loop-number l = record {
  most : l.total ≤ 4 * l.number-index;
  known : (p : Parts) → ReadsParts l.geom (look_of l.seen) p
      → subs_known l.geom l.seen p l.dir l.subs ≡ subs_known l.geom l.seen p l.dir (drop l.number-index l.subs);
  total : (p : Parts) → ReadsParts l.geom (look_of l.seen) p → l.total ≡ length (used_rooms p (take l.number-index l.subs));
  names : (p : Parts) → ReadsParts l.geom (look_of l.seen) p → l.names.items ≡ page_names l.after (used_rooms p (take l.number-index l.subs));
}
