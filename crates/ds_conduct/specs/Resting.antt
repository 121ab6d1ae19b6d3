-- Whether a host's call and the tail of it have ended, and whether a write in a tail comes too late, as tests of its digest.
use Rattle.std.specs.Prelude.{ℕ, ◌+◌, ◌&&◌, ◌||◌, ◌==◌, Bool, true, false, not, nat_le, Option, None, Some}
use Rattle.std.specs.List.{list_any}
use Rattle.ds_base.specs.declared.geometry.Geom.{Geom}
use Rattle.ds_base.specs.declared.names.Key.{Key}
use Rattle.ds_layout.specs.Places.{place_sector}
use Rattle.ds_layout.specs.declared.places.Place.TheVariants as places
use Rattle.ds_tree.specs.declared.calls.CallOf.TheVariants.{OpenFile}
use Rattle.ds_tree.specs.declared.calls.HostCallOf.{HostCallOf}
use Rattle.ds_tree.specs.declared.calls.HostCallOf.TheVariants as calls
use Rattle.ds_tree.specs.declared.calls.TreeReply.TheVariants.{Opened, Gone}
use Rattle.ds_conduct.specs.declared.answers.HostAnswer.{HostAnswer}
use Rattle.ds_conduct.specs.declared.answers.HostAnswer.TheVariants.{Tree, Plain}
use Rattle.ds_marks.specs.SlotIn.{slot_in}
use Rattle.ds_conduct.specs.Marks.{has_idle, has_committed}
use Rattle.ds_conduct.specs.Digests.{Own, Owed, Digest, is_some}

-- the file that the call opened
abbrev pub opened_file : Option (HostCallOf Key) → Option HostAnswer → Option Key
opened_file (Some (calls.Tree (OpenFile file))) (Some (Tree (Opened blocks))) = Some file
opened_file call answer = None

-- the file that the call closed or removed
abbrev pub closed_file : Option (HostCallOf Key) → Option HostAnswer → Option Key
closed_file (Some (calls.Close file)) (Some Plain) = Some file
closed_file (Some (calls.Tree call)) (Some (Tree (Gone file))) = Some file
closed_file call answer = None

abbrev pub is_header_of : Geom → Option Key → ℕ → Bool
is_header_of g None at = false
is_header_of g (Some file) at = at == place_sector g (places.Header file.object)

-- whether a tail gives this header back
abbrev pub is_given : Geom → Digest → Owed → Bool
is_given g d owed = (owed.is_new && not (is_header_of g (opened_file d.call d.answer) owed.at)) || is_header_of g
    (closed_file d.call d.answer) owed.at

-- whether nothing is to be sent under the generation held
abbrev pub is_done : Geom → Digest → Option Own → Bool
is_done g d None = true
is_done g d (Some own) = has_idle (slot_in own.slot own.image.bytes) && not (list_any (is_given g d) d.owed)

-- whether the call and its tail have ended, or there was none
abbrev pub rests : Geom → Digest → Bool
rests g d = (not (is_some d.call) || is_some d.answer) && is_done g d d.own

abbrev pub is_late_under : ℕ → Option Own → Bool
is_late_under now None = false
is_late_under now (Some own) = has_committed (slot_in own.slot own.image.bytes) && nat_le (own.last + 16) now

-- whether it stands between a commit and its retire, 16 ticks or more after the last Swap of the own slot
abbrev pub is_late : Digest → ℕ → Bool
is_late d now = is_some d.answer && is_late_under now d.own
