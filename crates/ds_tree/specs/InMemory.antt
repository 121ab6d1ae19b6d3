-- The node that a node in memory stands for.
use Rattle.ds_tree.specs.declared.objects.NodeInMemory.{NodeInMemory}
use Rattle.ds_tree.specs.declared.objects.NodeInMemory.TheVariants as memory
use Rattle.ds_tree.specs.Nodes.{Node, Dir, File}

-- a node in memory, with its list of blocks as a list
abbrev pub node_of : NodeInMemory → Node
node_of (memory.Dir entries rooms) = Dir entries rooms
node_of (memory.File blocks) = File blocks.items
