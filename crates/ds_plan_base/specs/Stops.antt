-- What a planner asks for, or answers, where it stops.
use Rattle.ds_image.specs.declared.asks.Ask.{Ask}
use Rattle.ds_image.specs.declared.asks.Ask.TheVariants as asks
use Rattle.ds_plan_base.specs.declared.stops.Ending.{Ending}
use Rattle.ds_plan_base.specs.declared.stops.Ending.TheVariants as endings
use Rattle.ds_plan_base.specs.declared.stops.Stop.{Stop}
use Rattle.ds_plan_base.specs.declared.stops.Stop.TheVariants as stops
use Rattle.ds_tree.specs.declared.calls.TreeReply.{TreeReply}
use Rattle.ds_tree.specs.declared.calls.TreeReply.TheVariants as replies

abbrev pub reply_of : Ending → TreeReply
reply_of endings.NoObject = replies.NoObject
reply_of endings.NotDir = replies.NotDir
reply_of endings.NotFile = replies.NotFile
reply_of endings.NotFound = replies.NotFound
reply_of endings.Exists = replies.Exists
reply_of endings.NotEmpty = replies.NotEmpty
reply_of endings.DirFull = replies.DirFull
reply_of (endings.NoSpace kind) = replies.NoSpace kind
reply_of endings.TooBig = replies.TooBig
reply_of endings.TooMuch = replies.TooMuch
reply_of endings.CrossDir = replies.CrossDir
reply_of (endings.Sized blocks) = replies.Sized blocks

abbrev pub ask_of : Stop → Ask
ask_of (stops.Lock object) = asks.Lock object
ask_of (stops.Read at) = asks.Read at
ask_of (stops.Odd at) = asks.Odd at
ask_of (stops.Worn object) = asks.Worn object
ask_of (stops.Done ending) = asks.Done (reply_of ending)
