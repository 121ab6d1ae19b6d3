-- All that the planner of a call that only reads an object asks for is good.
use Rattle.std.proofs.Common.{◌≡◌, ℕ, ◌*◌, Option, None, Some, refl, sym, ap, subst, ◌∙◌, is_some, slice_get, arith}
use Rattle.std.specs.List.{Contains}
use Rattle.std.specs.Prelude.{Ok}
use Rattle.std.proofs.lemmas.Bool.{false≢true}
use Rattle.ds_base.specs.declared.geometry.Geom.{Geom}
use Rattle.ds_base.specs.declared.names.Key.{Key}
use Rattle.ds_base.specs.declared.names.NodeKind.{NodeKind}
use Rattle.ds_base.specs.declared.names.NodeKind.TheVariants as kinds
use Rattle.ds_fd.specs.declared.body.Body.{Body}
use Rattle.ds_image.specs.Locks.{keys_of}
use Rattle.ds_image_parts.specs.Objects.{entries_of, subs_by}
use Rattle.ds_image_parts.specs.Parts.{Parts}
use Rattle.ds_image_parts.specs.Readings.{ReadsParts}
use Rattle.ds_image.specs.SeenValues.{SeenValue, look_of}
use Rattle.ds_image.specs.declared.asks.Ask.{Ask}
use Rattle.ds_image.specs.declared.asks.Ask.TheVariants as asks
use Rattle.ds_plan_base.proofs.Goes.{Goes}
use Rattle.ds_plan_base.proofs.Going.{goes-after, goes-settled}
use Rattle.ds_plan_base.proofs.PlanAsks.{PlanAsks}
use Rattle.ds_plan_base.specs.Bodies.{body_of_key}
use Rattle.ds_plan_base.specs.Steps.{settled}
use Rattle.ds_plan_laws_size.specs.Pages.{blocks_in}
use Rattle.ds_plan_laws_size.proofs.SpelledBlocks.{size-is}
use Rattle.ds_plan_reads.specs.Answers.{call_by, info_by, file_by, body_of_file, reply_known, known_by, sectors_by}
use Rattle.ds_plan_reads.specs.Blocks.{page_known, block_known}
use Rattle.ds_plan_reads.specs.declared.questions.Question.{Question}
use Rattle.ds_plan_reads.specs.declared.questions.Question.TheVariants.{Stat, Map, OpenFile, At}
use Rattle.ds_plan_reads.proofs.BlockWalk.{page_goes, block_goes}
use Rattle.ds_plan_reads.proofs.Doing.{named_of, missing, does_stat, map_no_file, open_no_file, at_no_file, does_open}
use Rattle.ds_plan_reads.proofs.KeyWalk.{HasObject, key_goes, body_there, object_there}
use Rattle.ds_tree.specs.Nodes.{Entries, Dir, File, FileTree, node_of_key}
use Rattle.ds_tree.specs.Steps.{Does}
use Rattle.ds_tree.specs.declared.calls.CallOf.TheVariants as calls
use Rattle.ds_tree.specs.declared.calls.TreeReply.{TreeReply}
use Rattle.ds_tree.specs.declared.calls.TreeReply.TheVariants as replies

-- the object of the key alone is locked, and no more is read than its body and one pointer block
abbrev pub MayHold : Key → SeenValue → Parts → ℕ → Type 0
MayHold key seen p object = object ≡ key.object

abbrev pub MayRead : Geom → Key → Question → SeenValue → Parts → ℕ → Type 0
MayRead g key question seen p at = Contains (sectors_by g key question p) at

module _ (g : Geom) (slot : ℕ) (key : Key) (seen : SeenValue) (p : Parts) (reads : ReadsParts g (look_of seen) p) where
  abbrev Good : Question → Ask → Type 0
  Good question = PlanAsks g slot (call_by key question) (MayHold key) (MayRead g key question) seen p

  abbrev Replied : Question → TreeReply → Type 0
  Replied question reply = Good question (asks.Done reply)

  abbrev HasFile : Body → Type 0
  HasFile b = HasObject g seen p key b × (b.kind ≡ Some kinds.File)

  stat_goes : (b : Body) → HasObject g seen p key b → (kind : Option NodeKind) → b.kind ≡ kind → Goes (Good Stat) (info_by b kind) (Replied Stat)
  stat_goes b has None is = absurd (false≢true (sym (ap is_some is) ∙ has.used))
  stat_goes b has (Some kinds.Dir) is = record {
    block = tt;
    does = λ image t stands agrees.
        does_stat g t key (Dir (entries_of stands.parts (subs_by b (Some kinds.Dir))) (4 * b.count)) (object_there g seen p reads key b has (Some kinds.Dir) is image t stands agrees);
  }
  stat_goes b has (Some kinds.File) is = record {
    block = tt;
    does = λ image t stands agrees.
        subst (λ n. Does g t (calls.Stat key) (replies.Info kinds.File n) t)
        (size-is g (slice_get image) stands.parts key.object b stands.reads stands.sound (body_there g seen p reads key b has image t stands agrees) is)
        (does_stat g t key (File (blocks_in stands.parts b)) (object_there g seen p reads key b has (Some kinds.File) is image t stands agrees));
  }

  file_goes : (question : Question)
      → ((t : FileTree) (entries : Entries) (rooms : ℕ) → node_of_key t key ≡ Some (Dir entries rooms) → Does g t (call_by key question) replies.NotFile t)
      → (b : Body) → HasObject g seen p key b → (kind : Option NodeKind) → b.kind ≡ kind → Goes (Good question) (file_by b kind) HasFile
  file_goes question no_file b has None is = absurd (false≢true (sym (ap is_some is) ∙ has.used))
  file_goes question no_file b has (Some kinds.Dir) is = record {
    block = tt;
    does = λ image t stands agrees.
        no_file t (entries_of stands.parts (subs_by b (Some kinds.Dir))) (4 * b.count)
        (named_of t key _ (object_there g seen p reads key b has (Some kinds.Dir) is image t stands agrees));
  }
  file_goes question no_file b has (Some kinds.File) is = (has, is)

  open_good : (b : Body) → HasFile b → Replied OpenFile (replies.Opened b.count)
  open_good b file = record {
    block = tt;
    does = λ image t stands agrees.
        does_open g t key (blocks_in stands.parts b) (object_there g seen p reads key b file.0 (Some kinds.File) file.1 image t stands agrees) b.count
        (sym (size-is g (slice_get image) stands.parts key.object b stands.reads stands.sound (body_there g seen p reads key b file.0 image t stands agrees) file.1));
  }

  reply_goes : (question : Question) (b : Body) → HasObject g seen p key b → Goes (Good question) (reply_known g seen p question b) (Replied question)
  reply_goes Stat b has = stat_goes b has b.kind refl
  reply_goes (Map page) b has =
      goes-after (Good (Map page)) HasFile (Replied (Map page)) (body_of_file b) (λ file. page_known g seen p file page)
      (file_goes (Map page) (λ t entries rooms is. map_no_file g t key entries rooms is page) b has b.kind refl)
      (λ file is. page_goes g slot key (MayHold key) seen p reads file is.0 is.1 page)
  reply_goes OpenFile b has =
      goes-after (Good OpenFile) HasFile (Replied OpenFile) (body_of_file b) (λ file. Ok (replies.Opened file.count))
      (file_goes OpenFile (λ t entries rooms is. open_no_file g t key entries rooms is) b has b.kind refl) open_good
  reply_goes (At index) b has =
      goes-after (Good (At index)) HasFile (Replied (At index)) (body_of_file b) (λ file. block_known g seen p file index)
      (file_goes (At index) (λ t entries rooms is. at_no_file g t key entries rooms is index) b has b.kind refl)
      (λ file is. block_goes g slot key (MayHold key) seen p reads file is.0 is.1 index)

  has_key : (question : Question) → Contains (keys_of (call_by key question)) key
  has_key Stat = (0, omega arith, refl)
  has_key (Map page) = (0, omega arith, refl)
  has_key OpenFile = (0, omega arith, refl)
  has_key (At index) = (0, omega arith, refl)

  pub reply_asks : (question : Question) → Good question (settled (known_by g seen p key question))
  reply_asks question =
      goes-settled (Good question) (known_by g seen p key question)
      (goes-after (Good question) (HasObject g seen p key) (Replied question) (body_of_key g seen p key) (reply_known g seen p question)
      (key_goes g seen p reads key slot (call_by key question) (MayHold key) (MayRead g key question) (has_key question) refl (0, omega arith, refl)
      (λ t none. missing g t key question none))
      (reply_goes question))
