-- The names so far differ, and the set has just them.
use Rattle.std.proofs.Common.{◌≡◌, ℕ, List, take, map}
use Rattle.std.specs.Prelude.{bytes_eq}
use Rattle.std.specs.BTreeSet.{contains}
use Rattle.std.specs.Cmp.Lexicographic.{slice_cmp}
use Rattle.std.specs.List.{list_any}
use Rattle.std.specs.Ordering.{nat_cmp}
use Rattle.ds_dir.specs.declared.sub_block.Entry.{Entry}
use Rattle.ds_image.specs.SoundObjects.{AreNamesApart}
use Rattle.ds_image.proofs.sound_objects.are_names_apart.Given as goal

abbrev pub invariant-loop-entry : goal.invariant-loop-entry
invariant-loop-entry l = record {
  apart : AreNamesApart (take l.entry-index l.entries);
  known : (q : List ℕ) → contains (slice_cmp nat_cmp) l.names q ≡ list_any (bytes_eq q) (map (λ (e : Entry). e.name) (take l.entry-index l.entries));
}
