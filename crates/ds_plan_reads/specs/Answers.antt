-- What the planner of a call that only reads an object asks for and answers, by what was seen and by the parts that it spells.
use Rattle.std.specs.Prelude.{ℕ, ◌*◌, ◌/◌, List, [], ◌∷◌, Option, Some, None, Result, Ok, Err, ⊤}
use Rattle.ds_base.specs.declared.geometry.Geom.{Geom}
use Rattle.ds_base.specs.declared.names.Key.{Key}
use Rattle.ds_base.specs.declared.names.NodeKind.{NodeKind}
use Rattle.ds_base.specs.declared.names.NodeKind.TheVariants as kinds
use Rattle.ds_fd.specs.declared.body.Body.{Body}
use Rattle.ds_image_parts.specs.Parts.{Parts, part_at}
use Rattle.ds_image.specs.Planning.{Answers}
use Rattle.ds_image.specs.SeenValues.{SeenValue}
use Rattle.ds_layout.specs.Places.{place_sector}
use Rattle.ds_layout.specs.declared.places.Place.TheVariants as places
use Rattle.ds_plan_base.specs.Bodies.{body_of_key}
use Rattle.ds_plan_base.specs.Steps.{after, settled}
use Rattle.ds_plan_base.specs.declared.stops.Ending.TheVariants as endings
use Rattle.ds_plan_base.specs.declared.stops.Stop.{Stop}
use Rattle.ds_plan_base.specs.declared.stops.Stop.TheVariants.{Done}
use Rattle.ds_plan_reads.specs.Blocks.{page_known, block_known, pointer_of}
use Rattle.ds_plan_reads.specs.declared.questions.Question.{Question}
use Rattle.ds_plan_reads.specs.declared.questions.Question.TheVariants.{Stat, Map, OpenFile, At}
use Rattle.ds_tree.specs.declared.calls.CallOf.{CallOf}
use Rattle.ds_tree.specs.declared.calls.CallOf.TheVariants as calls
use Rattle.ds_tree.specs.declared.calls.TreeReply.{TreeReply}
use Rattle.ds_tree.specs.declared.calls.TreeReply.TheVariants.{Info, Opened}

-- a planner: the shape of its volume, its host's slot, and what is asked of the object of a key
pub record ReadsValue : Type 0 where
  pub geom : Geom
  pub slot : ℕ
  pub key : Key
  pub question : Question

-- the calls that only read an object
abbrev pub IsReading : CallOf Key → Type 0
IsReading (calls.Stat key) = ⊤
IsReading (calls.Map file page) = ⊤
IsReading (calls.OpenFile file) = ⊤
IsReading (calls.At file index) = ⊤
IsReading _ = ⊥

-- the call that asks this of the object of a key
abbrev pub call_by : Key → Question → CallOf Key
call_by key Stat = calls.Stat key
call_by key (Map page) = calls.Map key page
call_by key OpenFile = calls.OpenFile key
call_by key (At index) = calls.At key index

abbrev pub call_of : ReadsValue → CallOf Key
call_of plan = call_by plan.key plan.question

-- the kind and the size of an object: the rooms of a directory, four in each sub-block, or the blocks of a file
abbrev pub info_by : Body → Option NodeKind → Result TreeReply Stop
info_by b None = Err (Done endings.NoObject)
info_by b (Some kinds.Dir) = Ok (Info kinds.Dir (4 * b.count))
info_by b (Some kinds.File) = Ok (Info kinds.File b.count)

abbrev pub info_of : Body → Result TreeReply Stop
info_of b = info_by b b.kind

-- the body, where it is of a file
abbrev pub file_by : Body → Option NodeKind → Result Body Stop
file_by b (Some kinds.File) = Ok b
file_by b _ = Err (Done endings.NotFile)

abbrev pub body_of_file : Body → Result Body Stop
body_of_file b = file_by b b.kind

-- what is known of the object with this body
abbrev pub reply_known : Geom → SeenValue → Parts → Question → Body → Result TreeReply Stop
reply_known g seen p Stat b = info_of b
reply_known g seen p (Map page) b = after (body_of_file b) (λ file. page_known g seen p file page)
reply_known g seen p OpenFile b = after (body_of_file b) (λ file. Ok (Opened file.count))
reply_known g seen p (At index) b = after (body_of_file b) (λ file. block_known g seen p file index)

-- and of the object of a key
abbrev pub known_by : Geom → SeenValue → Parts → Key → Question → Result TreeReply Stop
known_by g seen p key question = after (body_of_key g seen p key) (reply_known g seen p question)

-- what the planner asks for
abbrev pub answers_of : ReadsValue → Answers
answers_of plan seen p = settled (known_by plan.geom seen p plan.key plan.question)

-- Which sectors it reads

-- the page of a file's map that is needed, if one is
abbrev pub page_by : Question → Option ℕ
page_by Stat = None
page_by (Map page) = Some page
page_by OpenFile = None
page_by (At index) = Some (index / 128)

-- the sector of the pointer block of that page
abbrev pub pointers_by : Geom → Option Body → Option ℕ → List ℕ
pointers_by g (Some b) (Some page) = place_sector g (places.PtrBlock (pointer_of b page)) ∷ []
pointers_by g _ _ = []

-- it and the sector of the object's body
abbrev pub sectors_by : Geom → Key → Question → Parts → List ℕ
sectors_by g key question p = place_sector g (places.Body key.object) ∷ pointers_by g (part_at p.bodies key.object) (page_by question)

abbrev pub sectors_of : ReadsValue → Parts → List ℕ
sectors_of plan p = sectors_by plan.geom plan.key plan.question p
