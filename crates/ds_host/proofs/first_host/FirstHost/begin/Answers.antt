use Rattle.ds_host.proofs.first_host.FirstHost.begin.Goals as goal

pub root_call-requires : goal.root_call-requires
root_call-requires c = (c.args.self.now, rw c.in-Tree.is at c.requires.built)
