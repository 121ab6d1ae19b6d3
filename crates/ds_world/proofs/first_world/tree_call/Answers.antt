use Rattle.std.proofs.Common.{◌≡◌, None, sym, subst}
use Rattle.ds_base.specs.Names.{IsName}
use Rattle.ds_tree.specs.declared.calls.CallOf.{CallOf}
use Rattle.ds_tree.specs.declared.calls.CallOf.TheVariants as calls
use Rattle.ds_tree.specs.declared.calls.HostCallOf.TheVariants as host_calls
use Rattle.ds_tree.specs.declared.scenarios.Directive.TheVariants as directives
use Rattle.ds_tree.specs.declared.variables.Spoken.{Spoken}
use Rattle.ds_tree.specs.Nodes.{root_key}
use Rattle.ds_tree.specs.FirstForm.{IsFirstDirective}
use Rattle.ds_host.specs.declared.first_host.RootCall.{RootCall}
use Rattle.ds_host.specs.FirstConduct.{tree_call}
use Rattle.ds_world.specs.FirstWorlds.{root_directive, name_of}
use Rattle.ds_world.proofs.FirstMoves.{create_asks, lookup_asks}
use Rattle.ds_world.proofs.first_world.tree_call.Goals as goal

abbrev IsFirst : CallOf Spoken → Type 0
IsFirst call = IsFirstDirective (directives.Call (host_calls.Tree call) None)

pub returns-in-Create : goal.returns-in-Create
returns-in-Create c =
    let P : CallOf Spoken → Type 0 = λ call. (x : RootCall) × (directives.Call (host_calls.Tree call) None ≡ root_directive x) × (calls.Create root_key c.copy_of.result ≡ tree_call x) × IsName (name_of x) in
    subst P (sym c.in-Create.is) (create_asks c.in-Create.dir c.in-Create.name c.copy_of.result (subst IsFirst c.in-Create.is c.requires) c.copy_of.ensures)

pub returns-in-Lookup : goal.returns-in-Lookup
returns-in-Lookup c =
    let P : CallOf Spoken → Type 0 = λ call. (x : RootCall) × (directives.Call (host_calls.Tree call) None ≡ root_directive x) × (calls.Lookup root_key c.copy_of-in-Lookup.result ≡ tree_call x) × IsName (name_of x) in
    subst P (sym c.in-Lookup.is) (lookup_asks c.in-Lookup.dir c.in-Lookup.name c.copy_of-in-Lookup.result (subst IsFirst c.in-Lookup.is c.requires) c.copy_of-in-Lookup.ensures)
