-- The texts of findings and of reports.
use Rattle.std.specs.Prelude.{ℕ, List, [], ◌∷◌, ◌++◌, codes, decimal}
use Rattle.std.specs.List.{flat_map}
use Rattle.ds_base.specs.declared.geometry.Kind.{Kind}
use Rattle.ds_base.specs.declared.geometry.Kind.TheVariants.{Fd, Sb, Pb, Fb}
use Rattle.ds_check.specs.declared.findings.Find.{Find}
use Rattle.ds_check.specs.declared.findings.Find.TheVariants.{SectorForm, HeaderOwner, SlotBreaker, JournalForm, JournalsShare, MetaForm, Root, Address, Room, Twice, Marked, Unmarked, Dangling, Again, Names, Lost}

abbrev pub kind_text : Kind → List ℕ
kind_text Fd = codes "fd"
kind_text Sb = codes "sb"
kind_text Pb = codes "pb"
kind_text Fb = codes "fb"

-- an item by its kind and number
abbrev pub item_text : Kind → ℕ → List ℕ
item_text kind item = kind_text kind ++ codes " " ++ decimal item

-- a sector without its form
abbrev pub form_text : ℕ → List ℕ
form_text sector = codes "sector " ++ decimal sector ++ codes " form"

abbrev pub object_text : ℕ → List ℕ
object_text object = codes "object " ++ decimal object

-- a room of a directory
abbrev pub room_text : ℕ → ℕ → List ℕ
room_text object room = object_text object ++ codes " room " ++ decimal room

-- two numbers with a blank between them
abbrev pub both_text : ℕ → ℕ → List ℕ
both_text first second = decimal first ++ codes " " ++ decimal second

abbrev pub find_text : Find → List ℕ
find_text (SectorForm sector) = form_text sector
find_text (HeaderOwner object) = object_text object ++ codes " owner"
find_text (SlotBreaker slot) = codes "slot " ++ decimal slot ++ codes " breaker"
find_text (JournalForm slot) = codes "journal " ++ decimal slot ++ codes " form"
find_text (JournalsShare first second sector) = codes "journals " ++ both_text first second ++ codes " share " ++ decimal sector
find_text (MetaForm sector) = form_text sector
find_text Root = codes "root"
find_text (Address object index) = object_text object ++ codes " address " ++ decimal index
find_text (Room object room) = room_text object room
find_text (Twice kind item first second) = item_text kind item ++ codes " twice " ++ both_text first second
find_text (Marked kind item) = item_text kind item ++ codes " marked"
find_text (Unmarked kind item) = item_text kind item ++ codes " unmarked"
find_text (Dangling object room) = room_text object room ++ codes " dangling"
find_text (Again object room) = room_text object room ++ codes " again"
find_text (Names object names) = object_text object ++ codes " names " ++ decimal names
find_text (Lost object) = object_text object ++ codes " lost"

-- a line of a finding
abbrev pub find_line : Find → List ℕ
find_line find = find_text find ++ codes "\n"

-- the text of a report: a line for each finding, or one that says that there is none
abbrev pub report_text : List Find → List ℕ
report_text [] = codes "clean\n"
report_text (first ∷ more) = flat_map find_line (first ∷ more)
