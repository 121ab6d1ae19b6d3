-- The texts of answers.
use Rattle.std.specs.Prelude.{ℕ, List, [], ◌++◌, codes, decimal, Option, Some}
use Rattle.std.specs.List.{flat_map}
use Rattle.ds_base.specs.declared.geometry.Kind.{Kind}
use Rattle.ds_base.specs.declared.geometry.Kind.TheVariants.{Fd, Sb, Pb, Fb}
use Rattle.ds_base.specs.declared.names.Key.{Key}
use Rattle.ds_base.specs.declared.names.NodeKind.{NodeKind}
use Rattle.ds_base.specs.declared.names.NodeKind.TheVariants.{File, Dir}
use Rattle.ds_tree.specs.declared.calls.TreeReply.{TreeReply}
use Rattle.ds_tree.specs.declared.calls.TreeReply.TheVariants as replies
use Rattle.ds_conduct.specs.declared.answers.HostAnswer.{HostAnswer}
use Rattle.ds_conduct.specs.declared.answers.HostAnswer.TheVariants.{Tree, Registered, Plain, BadName, Unregistered, NotOpen, StillOpen, OpenFull, Busy, NoSlot, Fenced, LeaseLost, DeviceFault, InDoubt, Damaged, WornOut}
use Rattle.ds_conduct.specs.declared.answers.Spot.{Spot}
use Rattle.ds_conduct.specs.declared.answers.Spot.TheVariants as spots
use Rattle.ds_lock.specs.declared.how.How.{How}
use Rattle.ds_lock.specs.declared.how.How.TheVariants.{Held, Recovering, Raced}
use Rattle.ds_marks.specs.Slot.{breaker_of, breaker_generation_of}

-- two numbers with a dot between them: an object and its birth, or a slot and its generation
abbrev pub pair_text : ℕ → ℕ → List ℕ
pair_text first second = decimal first ++ codes "." ++ decimal second

abbrev pub key_text : Key → List ℕ
key_text key = pair_text key.object key.birth

abbrev pub kind_text : NodeKind → List ℕ
kind_text File = codes "file"
kind_text Dir = codes "dir"

-- an entry of a page, after a blank
abbrev pub entry_text : List ℕ × Key → List ℕ
entry_text entry = codes " " ++ entry.0 ++ codes "=" ++ key_text entry.1

-- a number, after a blank
abbrev pub item_text : ℕ → List ℕ
item_text number = codes " " ++ decimal number

-- a resource of which none is free
abbrev pub no_space_text : Kind → List ℕ
no_space_text Fd = codes "no-space fd"
no_space_text Sb = codes "no-space sb"
no_space_text Pb = codes "no-space pb"
no_space_text Fb = codes "no-space fb"

-- an answer of the file tree
abbrev pub tree_text : TreeReply → List ℕ
tree_text (replies.Made key) = codes "ok " ++ key_text key
tree_text (replies.Found key kind) = codes "ok " ++ key_text key ++ codes " " ++ kind_text kind
tree_text (replies.Page total names) = codes "ok " ++ decimal total ++ flat_map entry_text names.items
tree_text (replies.Info kind size) = codes "ok " ++ kind_text kind ++ codes " " ++ decimal size
tree_text (replies.Blocks list) = codes "ok" ++ flat_map item_text list.items
tree_text (replies.Sized blocks) = codes "ok " ++ decimal blocks
tree_text (replies.Gone key) = codes "ok " ++ key_text key
tree_text (replies.Moved key) = codes "ok " ++ key_text key
tree_text (replies.Opened blocks) = codes "ok " ++ decimal blocks
tree_text (replies.AtBlock block) = codes "ok " ++ decimal block
tree_text replies.NoObject = codes "no-object"
tree_text replies.NotDir = codes "not-dir"
tree_text replies.NotFile = codes "not-file"
tree_text replies.NotFound = codes "not-found"
tree_text replies.Exists = codes "exists"
tree_text replies.NotEmpty = codes "not-empty"
tree_text replies.DirFull = codes "dir-full"
tree_text (replies.NoSpace kind) = no_space_text kind
tree_text replies.TooBig = codes "too-big"
tree_text replies.TooMuch = codes "too-much"
tree_text replies.CrossDir = codes "cross-dir"
tree_text replies.NoBlock = codes "no-block"

-- what is busy: a lock object by its number, or a slot
abbrev pub spot_text : Spot → List ℕ
spot_text (spots.Object object) = decimal object
spot_text (spots.Slot slot) = codes "slot-" ++ decimal slot

-- how it is busy: held by a slot's generation, or that and the breaker which the slot's own image names
abbrev pub busy_text : Spot → How → List ℕ
busy_text spot (Held slot image) = codes "busy held " ++ spot_text spot ++ codes " " ++ pair_text slot image.generation
busy_text spot (Recovering slot image breaker) =
    codes "busy recovering " ++ spot_text spot ++ codes " " ++ pair_text slot image.generation
    ++ codes " " ++ pair_text (breaker_of image.state) (breaker_generation_of image.state)
busy_text spot Raced = codes "busy raced " ++ spot_text spot

abbrev pub answer_text : HostAnswer → List ℕ
answer_text (Tree reply) = tree_text reply
answer_text (Registered slot generation) = codes "ok " ++ pair_text slot generation
answer_text Plain = codes "ok"
answer_text BadName = codes "bad-name"
answer_text Unregistered = codes "unregistered"
answer_text NotOpen = codes "not-open"
answer_text StillOpen = codes "still-open"
answer_text OpenFull = codes "open-full"
answer_text (Busy spot how) = busy_text spot how
answer_text NoSlot = codes "no-slot"
answer_text (Fenced offset) = codes "fenced " ++ decimal offset
answer_text (LeaseLost now last) = codes "lease-lost " ++ decimal now ++ codes " " ++ decimal last
answer_text DeviceFault = codes "device-fault"
answer_text InDoubt = codes "in-doubt"
answer_text (Damaged sector) = codes "damaged " ++ decimal sector
answer_text WornOut = codes "worn-out"

-- the place of an answer of the file tree; no other answer has one
abbrev pub place_text : HostAnswer → Option ℕ → List ℕ
place_text (Tree reply) (Some place) = codes " at " ++ decimal place
place_text _ _ = []
