-- The turns of the first world, as its methods make them.
use Rattle.std.proofs.Common.{◌≡◌, ℕ, zero, suc, ◌+◌, ◌-◌, ◌*◌, ◌≤◌, ◌<◌, ◌⊎◌, Bool, true, false, List, [], ◌∷◌, ◌++◌, length, refl, ap, sym, subst, ◌∙◌, arith, Option, Some, None}
use Rattle.std.specs.Prelude.{slice_get, slice_index, replicate, map, nat_lt, MatchOption}
use Rattle.std.proofs.lemmas.Bool.Decides.{nat_tests}
use Rattle.ds_base.specs.declared.sectors.Sector.{Sector}
use Rattle.ds_base.specs.declared.names.Key.{Key}
use Rattle.ds_base.specs.declared.commands.Command.{Command}
use Rattle.ds_base.specs.declared.commands.Command.TheVariants.{Read, Write, Swap}
use Rattle.ds_base.specs.declared.commands.Response.{Response}
use Rattle.ds_base.specs.declared.commands.Response.TheVariants.{Got, Done, Miscompare, Fault}
use Rattle.ds_base.specs.declared.commands.Next.TheVariants.{Send}
use Rattle.ds_base.specs.Device.{Answers, IsFirstDifference, stored}
use Rattle.ds_base.specs.Names.{IsName}
use Rattle.ds_tree.specs.declared.calls.CallOf.{CallOf}
use Rattle.ds_tree.specs.declared.calls.CallOf.TheVariants as calls
use Rattle.ds_tree.specs.declared.calls.HostCallOf.{HostCallOf}
use Rattle.ds_tree.specs.declared.calls.HostCallOf.TheVariants as host_calls
use Rattle.ds_tree.specs.declared.calls.TreeReply.TheVariants.{Made, Exists}
use Rattle.ds_tree.specs.declared.scenarios.Directive.TheVariants as directives
use Rattle.ds_tree.specs.declared.variables.Spoken.{Spoken}
use Rattle.ds_tree.specs.declared.variables.Spoken.TheVariants.{Root, Var}
use Rattle.ds_tree.specs.Nodes.{root_key}
use Rattle.ds_tree.specs.declared.scenarios.Directive.{Directive}
use Rattle.ds_tree.specs.FirstForm.{register, IsFirstDirective}
use Rattle.ds_dir.specs.declared.sub_block.Entry.{Entry}
use Rattle.ds_dir.specs.declared.sub_block.SubBlock.{SubBlock}
use Rattle.ds_dir.proofs.Laws.{sub_same}
use Rattle.ds_conduct.specs.declared.answers.HostAnswer.{HostAnswer}
use Rattle.ds_conduct.specs.declared.answers.HostAnswer.TheVariants.{Tree, Registered}
use Rattle.ds_host.specs.declared.first_host.RootCall.{RootCall}
use Rattle.ds_host.specs.declared.first_host.RootCall.TheVariants.{Create, Lookup}
use Rattle.ds_host.specs.declared.first_host.Stage.{Stage}
use Rattle.ds_host.specs.declared.first_host.Stage.TheVariants.{Rest, Reading, Filling}
use Rattle.ds_host.specs.FirstStates.{FirstState}
use Rattle.ds_host.specs.Rooms.{entries_in, entry_named, has_free_room, next_key}
use Rattle.ds_host.specs.FirstConduct.{tree_call, due, IsFirstCall, Begins, SpellsRooms, ReadsRooms, Reads, Fills, Takes, MayTake, reply_to_lookup, at_stage}
use Rattle.ds_log.specs.Scripts.{list_of}
use Rattle.ds_tree.specs.Nodes.{FileTree}
use Rattle.ds_tree.specs.FirstForm.{first_geom}
use Rattle.ds_log.specs.Store.{store}
use Rattle.ds_world.specs.FirstRules.{first_rules, tree_of, IsTreeOf}
use Rattle.ds_world.specs.FirstWorlds.{FirstWorldValue, turns_at, root_directive, name_of, AsksFor, IsReading, IsSwapping, stepped, sent_event, local_event, reply_now, place_of, FirstHolds}
use Rattle.ds_log.proofs.Pushes.{get-within}
use Rattle.ds_world.proofs.FirstDoes.{named, does_lookup, does_exist}
use Rattle.ds_world.proofs.FirstScripts.{host_list, directive_of_list, head_of_list, list_is_short}
use Rattle.ds_world.proofs.FirstSteps.{creates_left}
use Rattle.ds_world.proofs.FirstTurns.{entries_held, under_way_at, filling_at, swap_stored, turn-registered, turn-begun, turn-answered, turn-filling, turn-committed}

-- the list of the host is short
pub short_list : (w : FirstWorldValue) → FirstHolds w → length (list_of w.scenario 0) ≤ 4096
short_list w h = list_is_short (list_of w.scenario 0) (host_list w.scenario h.form 0)

-- a call under way has a directive
pub was_due : (w : FirstWorldValue) (h : FirstHolds w) (call : RootCall) → w.host.stage ≡ Reading call → w.position < length (list_of w.scenario 0)
was_due w h call reading = get-within (list_of w.scenario 0) w.position (root_directive call) (under_way_at w h call reading).due

pub was_due_filling : (w : FirstWorldValue) (h : FirstHolds w) (name : List ℕ) (key : Key) (verify fresh : Sector) → w.host.stage ≡ Filling name key verify fresh
    → w.position < length (list_of w.scenario 0)
was_due_filling w h name key verify fresh filling =
    get-within (list_of w.scenario 0) w.position (root_directive (Create name)) (filling_at w h name key verify fresh filling).1.under_way.due

free_packed : (es : List Entry) (k : ℕ) → has_free_room (map Some es ++ replicate (suc k) None) ≡ true
free_packed [] k = refl
free_packed (e ∷ es) k = free_packed es k

-- the sector that a Read gives is the one of the device
sector_read : (w : FirstWorldValue) (h : FirstHolds w) (s : Sector) → slice_get w.device 0 ≡ Some s → h.sector ≡ s
sector_read w h s at =
    let one : Some h.sector ≡ Some s = sym (ap (λ (sectors : List Sector). slice_get sectors 0) h.holds.one) ∙ at in cc

block_read : (w : FirstWorldValue) (h : FirstHolds w) (s : Sector) (block : SubBlock) → h.sector ≡ s → SpellsRooms s block → h.block ≡ block
block_read w h s block same spelled =
    sub_same h.block block h.holds.spelled.0 spelled.0 (sym h.holds.spelled.1 ∙ ap (λ (x : Sector). x.bytes) same ∙ spelled.1)

-- a create has a free room
has_room : (w : FirstWorldValue) (h : FirstHolds w) (name : List ℕ) → w.host.stage ≡ Reading (Create name) → has_free_room h.block.rooms ≡ true
has_room w h name reading =
    let created = creates_left (list_of w.scenario 0) w.position (root_directive (Create name)) (under_way_at w h (Create name) reading).due in
    let four = h.holds.four in
    let free : h.free ≡ suc (h.free - 1) = omega (arith, h.room, created, four) in
    ap has_free_room (h.holds.packed ∙ ap (λ (n : ℕ). map Some h.entries ++ replicate n None) free) ∙ free_packed h.entries (h.free - 1)

may_read : (w : FirstWorldValue) (h : FirstHolds w) (call : RootCall) (response : Response) → w.host.stage ≡ Reading call → Answers w.device (Read 0) response
    → MayTake (Reading call) response
may_read w h (Lookup name) (Got s) reading at = tt
may_read w h (Create name) (Got s) reading at = λ block spelled absent.
    ap (λ (b : SubBlock). has_free_room b.rooms) (sym (block_read w h s block (sector_read w h s at) spelled)) ∙ has_room w h name reading
may_read w h call Done reading at = absurd at
may_read w h call (Miscompare offset) reading at = absurd at
may_read w h call Fault reading at = absurd at

-- what the device answers to a Read may be taken
pub may_take_read : (w : FirstWorldValue) (h : FirstHolds w) (call : RootCall) (response : Response) → w.host.stage ≡ Reading call → Answers w.device (Read 0) response
    → MayTake w.host.stage response
may_take_read w h call response reading at =
    let P : Stage → Type 0 = λ stage. MayTake stage response in subst P (sym reading) (may_read w h call response reading at)

-- the world after a Read that the call goes on from
pub record GoesOn (w : FirstWorldValue) (response : Response) (new : FirstState) : Type 0 where
  pub holds : FirstHolds (stepped w w.position new w.device w.commits (w.log.events ++ sent_event w (Read 0) response false ∷ []) w.log.replies)
  pub turns : turns_at new.stage ≡ 1

-- the world after a Read that answers the call
pub record IsAnswered (w : FirstWorldValue) (response : Response) (new : FirstState) (answer : HostAnswer) : Type 0 where
  pub holds : FirstHolds (stepped w (w.position + 1) new w.device w.commits (w.log.events ++ sent_event w (Read 0) response false ∷ [])
      (w.log.replies ++ reply_now w answer (place_of answer w.commits) ∷ []))
  pub turns : turns_at new.stage ≡ 2

abbrev pub IsRead : FirstWorldValue → Response → FirstState → Option HostAnswer → Type 0
IsRead w response new answer = MatchOption answer (GoesOn w response new) (λ a. IsAnswered w response new a)

-- the host after a command is as it was, but for its stage
host_is : (w : FirstWorldValue) (new : FirstState) (stage : Stage) → new.registered ≡ w.host.registered → new.stage ≡ stage → at_stage w.host stage ≡ new
host_is w new stage registered at = λ i. record { registered = sym registered i; stage = sym at i }

answered_as : (w : FirstWorldValue) (s : Sector) (new : FirstState) (answer : Option HostAnswer) (a : HostAnswer) → answer ≡ Some a → new.stage ≡ Rest
    → FirstHolds (stepped w (w.position + 1) new w.device w.commits (w.log.events ++ sent_event w (Read 0) (Got s) false ∷ []) (w.log.replies ++ reply_now w a (place_of a w.commits) ∷ []))
    → IsRead w (Got s) new answer
answered_as w s new answer a is rests holds =
    let P : Option HostAnswer → Type 0 = λ x. IsRead w (Got s) new x in
    subst P (sym is) (record { holds = holds; turns = ap turns_at rests })

goes_on_as : (w : FirstWorldValue) (s : Sector) (new : FirstState) (answer : Option HostAnswer) (name : List ℕ) (key : Key) (verify fresh : Sector) → answer ≡ None → new.stage ≡ Filling name key verify fresh
    → FirstHolds (stepped w w.position new w.device w.commits (w.log.events ++ sent_event w (Read 0) (Got s) false ∷ []) w.log.replies)
    → IsRead w (Got s) new answer
goes_on_as w s new answer name key verify fresh is fills holds =
    let P : Option HostAnswer → Type 0 = λ x. IsRead w (Got s) new x in
    subst P (sym is) (record { holds = holds; turns = ap turns_at fills })

-- the entry of a name in the sub-block that was read, found among the entries so far
named_read : (w : FirstWorldValue) (h : FirstHolds w) (name : List ℕ) → entry_named name h.block.rooms ≡ named name h.entries
named_read w h name = ap (named name) (entries_held w h)

few_entries : (w : FirstWorldValue) (h : FirstHolds w) → length h.entries ≤ 4
few_entries w h = omega (arith, h.holds.four)

read_lookup : (w : FirstWorldValue) (h : FirstHolds w) (name : List ℕ) (new : FirstState) (answer : Option HostAnswer) → w.host.stage ≡ Reading (Lookup name)
    → new.registered ≡ w.host.registered → ReadsRooms (Lookup name) h.sector h.block answer new.stage → IsRead w (Got h.sector) new answer
read_lookup w h name new answer reading registered reads =
    let reply = reply_to_lookup (named name h.entries) in
    let same : reply_to_lookup (entry_named name h.block.rooms) ≡ reply = ap reply_to_lookup (named_read w h name) in
    let turned = turn-answered w h (Lookup name) reply reading (does_lookup h.entries name h.numbered (few_entries w h)) in
    let P : FirstState → Type 0 = λ host. FirstHolds (stepped w (w.position + 1) host w.device w.commits (w.log.events ++ sent_event w (Read 0) (Got h.sector) false ∷ [])
    (w.log.replies ++ reply_now w (Tree reply) (Some w.commits) ∷ [])) in
    answered_as w h.sector new answer (Tree reply) (reads.0 ∙ ap (λ x. Some (Tree x)) same) reads.1 (subst P (host_is w new Rest registered reads.1) turned)

create_found : (w : FirstWorldValue) (h : FirstHolds w) (name : List ℕ) (new : FirstState) (answer : Option HostAnswer) (found : Option Entry) → w.host.stage ≡ Reading (Create name)
    → new.registered ≡ w.host.registered → entry_named name h.block.rooms ≡ found
    → MatchOption found (Fills name h.sector h.block answer new.stage) (λ _. (answer ≡ Some (Tree Exists)) × (new.stage ≡ Rest)) → IsRead w (Got h.sector) new answer
create_found w h name new answer None reading registered absent fills =
    let turned = turn-filling w h name fills.fresh reading absent fills.spelled in
    let stage = Filling name (next_key h.block.rooms) h.sector fills.fresh in
    let P : FirstState → Type 0 = λ host. FirstHolds (stepped w w.position host w.device w.commits (w.log.events ++ sent_event w (Read 0) (Got h.sector) false ∷ []) w.log.replies) in
    goes_on_as w h.sector new answer name (next_key h.block.rooms) h.sector fills.fresh fills.goes.0 fills.goes.1
    (subst P (host_is w new stage registered fills.goes.1) turned)
create_found w h name new answer (Some e) reading registered found goes =
    let turned = turn-answered w h (Create name) Exists reading (does_exist h.entries name e h.numbered (sym (named_read w h name) ∙ found)) in
    let P : FirstState → Type 0 = λ host. FirstHolds (stepped w (w.position + 1) host w.device w.commits (w.log.events ++ sent_event w (Read 0) (Got h.sector) false ∷ [])
    (w.log.replies ++ reply_now w (Tree Exists) (Some w.commits) ∷ [])) in
    answered_as w h.sector new answer (Tree Exists) goes.0 goes.1 (subst P (host_is w new Rest registered goes.1) turned)

read_rooms : (w : FirstWorldValue) (h : FirstHolds w) (call : RootCall) (new : FirstState) (answer : Option HostAnswer) → w.host.stage ≡ Reading call
    → new.registered ≡ w.host.registered → ReadsRooms call h.sector h.block answer new.stage → IsRead w (Got h.sector) new answer
read_rooms w h (Lookup name) new answer reading registered reads = read_lookup w h name new answer reading registered reads
read_rooms w h (Create name) new answer reading registered reads = create_found w h name new answer (entry_named name h.block.rooms) reading registered refl reads

read_by : (w : FirstWorldValue) (h : FirstHolds w) (call : RootCall) (response : Response) (new : FirstState) (answer : Option HostAnswer) → w.host.stage ≡ Reading call
    → Answers w.device (Read 0) response → new.registered ≡ w.host.registered → Takes (Reading call) response answer new.stage → IsRead w response new answer
read_by w h call (Got s) new answer reading at registered takes =
    let same = sector_read w h s at in
    let P : Sector → Type 0 = λ x. Reads call x answer new.stage in
    let reads : Reads call h.sector answer new.stage = subst P (sym same) takes in
    let Q : Sector → Type 0 = λ x. IsRead w (Got x) new answer in
    subst Q same (read_rooms w h call new answer reading registered (reads.spelled h.block h.holds.spelled))
read_by w h call Done new answer reading at registered takes = absurd at
read_by w h call (Miscompare offset) new answer reading at registered takes = absurd at
read_by w h call Fault new answer reading at registered takes = absurd at

-- a Read of the call under way
pub moved-read : (w : FirstWorldValue) (h : FirstHolds w) (call : RootCall) (response : Response) (new : FirstState) (answer : Option HostAnswer) → w.host.stage ≡ Reading call
    → Answers w.device (Read 0) response → new.registered ≡ w.host.registered → Takes w.host.stage response answer new.stage → IsRead w response new answer
moved-read w h call response new answer reading at registered takes =
    let P : Stage → Type 0 = λ stage. Takes stage response answer new.stage in
    read_by w h call response new answer reading at registered (subst P reading takes)

-- turns that are left
pub fewer_answered : (list position before after : ℕ) → position < list → before ≡ 2 → after ≡ 2 → 2 * (list - (position + 1)) + after < 2 * (list - position) + before
fewer_answered list position before after less two too = omega arith

pub fewer_filling : (left before after : ℕ) → before ≡ 2 → after ≡ 1 → left + after < left + before
fewer_filling left before after two one = omega arith

pub fewer_committed : (list position before after : ℕ) → position < list → before ≡ 1 → after ≡ 2 → 2 * (list - (position + 1)) + after < 2 * (list - position) + before
fewer_committed list position before after less one two = omega arith

-- the world after the Swap of the call under way
pub record IsCommitted (w : FirstWorldValue) (verify fresh : Sector) (response : Response) (new : FirstState) (answer : HostAnswer) : Type 0 where
  pub done : response ≡ Done
  pub holds : FirstHolds (stepped w (w.position + 1) new (stored w.device (Swap 0 verify fresh)) (w.commits + 1)
      (w.log.events ++ sent_event w (Swap 0 verify fresh) response true ∷ []) (w.log.replies ++ reply_now w answer (place_of answer (w.commits + 1)) ∷ []))
  pub turns : turns_at new.stage ≡ 2

abbrev pub IsSwapped : FirstWorldValue → Sector → Sector → Response → FirstState → Option HostAnswer → Type 0
IsSwapped w verify fresh response new answer = MatchOption answer ⊥ (λ a. IsCommitted w verify fresh response new a)

-- the device holds the image that the host read
device_swapped : (w : FirstWorldValue) (h : FirstHolds w) (verify fresh : Sector) → verify ≡ h.sector → stored w.device (Swap 0 verify fresh) ≡ fresh ∷ []
device_swapped w h verify fresh same =
    ap (λ (sectors : List Sector). stored sectors (Swap 0 verify fresh)) h.is_store ∙ swap_stored w h verify fresh same

never_differs : (w : FirstWorldValue) (h : FirstHolds w) (s verify : Sector) (offset : ℕ) → slice_get w.device 0 ≡ Some s → verify ≡ h.sector → IsFirstDifference s.bytes verify.bytes offset → ⊥
never_differs w h s verify offset at same differs =
    let bytes : s.bytes ≡ verify.bytes = ap (λ (x : Sector). x.bytes) (sym (sector_read w h s at) ∙ sym same) in
    differs.differs (ap (λ (xs : List ℕ). slice_index xs offset) bytes)

swap_by : (w : FirstWorldValue) (h : FirstHolds w) (name : List ℕ) (key : Key) (verify fresh : Sector) (response : Response) (new : FirstState) (answer : Option HostAnswer)
    → w.host.stage ≡ Filling name key verify fresh → Answers w.device (Swap 0 verify fresh) response → new.registered ≡ w.host.registered
    → Takes (Filling name key verify fresh) response answer new.stage → IsSwapped w verify fresh response new answer
swap_by w h name key verify fresh Done new answer filling at registered takes =
    let is = (filling_at w h name key verify fresh filling).1 in
    let turned = turn-committed w h name key verify fresh filling in
    let device = device_swapped w h verify fresh is.verified in
    let P : List Sector → FirstState → Type 0 = λ sectors host. FirstHolds (stepped w (w.position + 1) host sectors (w.commits + 1)
    (w.log.events ++ sent_event w (Swap 0 verify fresh) Done true ∷ []) (w.log.replies ++ reply_now w (Tree (Made key)) (Some (w.commits + 1)) ∷ [])) in
    let Q : Option HostAnswer → Type 0 = λ x. IsSwapped w verify fresh Done new x in
    subst Q (sym takes.0) (record {
      done = refl;
      holds = subst (λ (sectors : List Sector). P sectors new) (sym device) (subst (λ (host : FirstState). P (fresh ∷ []) host) (host_is w new Rest registered takes.1) turned);
      turns = ap turns_at takes.1;
    })
swap_by w h name key verify fresh (Miscompare offset) new answer filling at registered takes =
    absurd (never_differs w h at.0 verify offset at.1 (filling_at w h name key verify fresh filling).1.verified at.2)
swap_by w h name key verify fresh (Got s) new answer filling at registered takes = absurd at
swap_by w h name key verify fresh Fault new answer filling at registered takes = absurd at

-- the Swap of the call under way takes effect, and answers it
pub moved-swap : (w : FirstWorldValue) (h : FirstHolds w) (name : List ℕ) (key : Key) (verify fresh : Sector) (response : Response) (new : FirstState) (answer : Option HostAnswer)
    → w.host.stage ≡ Filling name key verify fresh → Answers w.device (Swap 0 verify fresh) response → new.registered ≡ w.host.registered
    → Takes w.host.stage response answer new.stage → IsSwapped w verify fresh response new answer
moved-swap w h name key verify fresh response new answer filling at registered takes =
    let P : Stage → Type 0 = λ stage. Takes stage response answer new.stage in
    swap_by w h name key verify fresh response new answer filling at registered (subst P filling takes)

-- a response that the device gives to the Swap may be taken
pub may_take_swap : (w : FirstWorldValue) (name : List ℕ) (key : Key) (verify fresh : Sector) (response : Response) → w.host.stage ≡ Filling name key verify fresh
    → Answers w.device (Swap 0 verify fresh) response → MayTake w.host.stage response
may_take_swap w name key verify fresh response filling at =
    let P : Stage → Type 0 = λ stage. MayTake stage response in subst P (sym filling) (by_response response at) where
      by_response : (r : Response) → Answers w.device (Swap 0 verify fresh) r → MayTake (Filling name key verify fresh) r
      by_response Done is = tt
      by_response (Miscompare offset) is = tt
      by_response (Got s) is = absurd is
      by_response Fault is = absurd is

-- a directive of the list is the registration, or one of those that come after it
pub directive_listed : (w : FirstWorldValue) (h : FirstHolds w) (n : ℕ) (d : Directive) → slice_get (list_of w.scenario 0) n ≡ Some d → (d ≡ register) ⊎ IsFirstDirective d
directive_listed w h n d at =
    directive_of_list (list_of w.scenario 0) (host_list w.scenario h.form 0) n d at

not_register : (c : RootCall) → register ≡ root_directive c → ⊥
not_register (Create name) same = cc
not_register (Lookup name) same = cc

above_none : (n : ℕ) → nat_lt 0 (suc n) ≡ true
above_none n = grind (arith, nat_tests)

registered_by : (w : FirstWorldValue) (h : FirstHolds w) (c : RootCall) (n : ℕ) → w.position ≡ n → slice_get (list_of w.scenario 0) n ≡ Some (root_directive c) → w.host.registered ≡ true
registered_by w h c zero place at =
    absurd (not_register c (sym (head_of_list (list_of w.scenario 0) (host_list w.scenario h.form 0) (root_directive c) at)))
registered_by w h c (suc n) place at = h.registered ∙ ap (nat_lt 0) place ∙ above_none n

-- a host whose next directive is a call on the root is registered
pub is_registered : (w : FirstWorldValue) (h : FirstHolds w) (c : RootCall) → slice_get (list_of w.scenario 0) w.position ≡ Some (root_directive c) → w.host.registered ≡ true
is_registered w h c at = registered_by w h c w.position refl at

-- the command that is due at a stage
pub swap_due : (host : FirstState) (name : List ℕ) (key : Key) (verify fresh : Sector) (command : Command) → host.stage ≡ Filling name key verify fresh
    → due host ≡ Send command → command ≡ Swap 0 verify fresh
swap_due host name key verify fresh command filling is =
    let now : due host ≡ Send (Swap 0 verify fresh) = ap (λ (stage : Stage). due (record { registered = host.registered; stage = stage })) filling in
    let same : Send command ≡ Send (Swap 0 verify fresh) = sym is ∙ now in cc

reading_by : (registered : Bool) (stage : Stage) (at : ℕ) → due (record { registered = registered; stage = stage }) ≡ Send (Read at) → (call : RootCall) × (stage ≡ Reading call)
reading_by registered Rest at is = absurd (cc is)
reading_by registered (Reading call) at is = (call, refl)
reading_by registered (Filling name key verify fresh) at is = absurd (cc is)

-- a host that is due to send a Read is about to read
pub reading_due : (host : FirstState) (at : ℕ) → due host ≡ Send (Read at) → IsReading host
reading_due host at is = reading_by host.registered host.stage at is

swapping_by : (registered : Bool) (stage : Stage) (at : ℕ) (old new : Sector) → due (record { registered = registered; stage = stage }) ≡ Send (Swap at old new)
    → IsSwapping (record { registered = registered; stage = stage })
swapping_by registered Rest at old new is = absurd (cc is)
swapping_by registered (Reading call) at old new is = absurd (cc is)
swapping_by registered (Filling name key verify fresh) at old new is = (name, (key, (verify, (fresh, refl))))

-- a host that is due to send a Swap is about to fill a room
pub swapping_due : (host : FirstState) (at : ℕ) (old new : Sector) → due host ≡ Send (Swap at old new) → IsSwapping host
swapping_due host at old new is = swapping_by host.registered host.stage at old new is

never_writes : (registered : Bool) (stage : Stage) (at : ℕ) (fresh : Sector) → due (record { registered = registered; stage = stage }) ≡ Send (Write at fresh) → ⊥
never_writes registered Rest at fresh is = cc is
never_writes registered (Reading call) at fresh is = cc is
never_writes registered (Filling name key verify f) at fresh is = cc is

-- no plain write is ever due
pub no_write_due : (host : FirstState) (at : ℕ) (fresh : Sector) → due host ≡ Send (Write at fresh) → ⊥
no_write_due host at fresh is = never_writes host.registered host.stage at fresh is

-- a directive that creates or looks up a name asks for that call
pub create_asks : (dir : Spoken) (name copy : List ℕ) → IsFirstDirective (directives.Call (host_calls.Tree (calls.Create dir name)) None) → copy ≡ name
    → (x : RootCall) × (directives.Call (host_calls.Tree (calls.Create dir name)) None ≡ root_directive x) × (calls.Create root_key copy ≡ tree_call x) × IsName (name_of x)
create_asks Root name copy is same = (Create name, refl, ap (λ (n : List ℕ). calls.Create root_key n) same, is)
create_asks (Var var) name copy is same = absurd is

pub lookup_asks : (dir : Spoken) (name copy : List ℕ) → IsFirstDirective (directives.Call (host_calls.Tree (calls.Lookup dir name)) None) → copy ≡ name
    → (x : RootCall) × (directives.Call (host_calls.Tree (calls.Lookup dir name)) None ≡ root_directive x) × (calls.Lookup root_key copy ≡ tree_call x) × IsName (name_of x)
lookup_asks Root name copy is same = (Lookup name, refl, ap (λ (n : List ℕ). calls.Lookup root_key n) same, is)
lookup_asks (Var var) name copy is same = absurd is

-- what the beginning of a call says of it
begins_answered : (host new : FirstState) (c : RootCall) (answer : HostAnswer) → Begins host (host_calls.Tree (tree_call c)) (Some answer) new → ⊥
begins_answered host new (Create name) answer begins = cc (begins.0)
begins_answered host new (Lookup name) answer begins = cc (begins.0)

begins_reading : (host new : FirstState) (c : RootCall) → Begins host (host_calls.Tree (tree_call c)) None new → new ≡ at_stage host (Reading c)
begins_reading host new (Create name) begins = begins.1
begins_reading host new (Lookup name) begins = begins.1

-- a call that is answered at its beginning is a registration
pub begun_answered : (host new : FirstState) (call : HostCallOf Key) (d : Directive) (answer : HostAnswer) → AsksFor d call → Begins host call (Some answer) new
    → (d ≡ register) × (answer ≡ Registered 0 1) × (new ≡ record { registered = true; stage = Rest })
begun_answered host new host_calls.Register d answer asks begins =
    let same : Some answer ≡ Some (Registered 0 1) = begins.0 in (asks, cc, begins.1)
begun_answered host new (host_calls.Tree call) d answer asks begins =
    let P : CallOf Key → Type 0 = λ x. Begins host (host_calls.Tree x) (Some answer) new in
    absurd (begins_answered host new asks.0 answer (subst P asks.2 begins))
begun_answered host new _ d answer asks begins = absurd asks

-- what a call that isn't answered at its beginning is
pub record IsBegun (host new : FirstState) (d : Directive) : Type 0 where
  pub call : RootCall
  pub directive : d ≡ root_directive call
  pub stage : new ≡ at_stage host (Reading call)
  pub is_name : IsName (name_of call)

pub begun : (host new : FirstState) (call : HostCallOf Key) (d : Directive) → AsksFor d call → Begins host call None new → IsBegun host new d
begun host new host_calls.Register d asks begins = absurd (cc (begins.0))
begun host new (host_calls.Tree call) d asks begins =
    let P : CallOf Key → Type 0 = λ x. Begins host (host_calls.Tree x) None new in
    record { call = asks.0; directive = asks.1; stage = begins_reading host new asks.0 (subst P asks.2 begins); is_name = asks.3 }
begun host new _ d asks begins = absurd asks

may_begin_root : (host : FirstState) (c : RootCall) → host.registered ≡ true → IsName (name_of c) → IsFirstCall host (host_calls.Tree (tree_call c))
may_begin_root host (Create name) registered is = (registered, refl, is)
may_begin_root host (Lookup name) registered is = (registered, refl, is)

may_begin_by : (w : FirstWorldValue) (h : FirstHolds w) (call : HostCallOf Key) (d : Directive) → slice_get (list_of w.scenario 0) w.position ≡ Some d → AsksFor d call → IsFirstCall w.host call
may_begin_by w h host_calls.Register d at asks = tt
may_begin_by w h (host_calls.Tree call) d at asks =
    let P : CallOf Key → Type 0 = λ x. IsFirstCall w.host (host_calls.Tree x) in
    subst P (sym asks.2) (may_begin_root w.host asks.0 (is_registered w h asks.0 (at ∙ ap Some asks.1)) asks.3)
may_begin_by w h _ d at asks = absurd asks

-- the call that is due may begin
pub may_begin : (w : FirstWorldValue) (h : FirstHolds w) (call : HostCallOf Key) (d : Directive) → slice_get (list_of w.scenario 0) w.position ≡ Some d → AsksFor d call → IsFirstCall w.host call
may_begin w h call d at asks = may_begin_by w h call d at asks

-- the world in which the call that is due has begun
pub moved-begun : (w : FirstWorldValue) (h : FirstHolds w) (new : FirstState) (d : Directive) → w.host.stage ≡ Rest → slice_get (list_of w.scenario 0) w.position ≡ Some d → IsBegun w.host new d
    → FirstHolds (stepped w w.position new w.device w.commits w.log.events w.log.replies)
moved-begun w h new d rests at is =
    let due = at ∙ ap Some is.directive in
    let P : FirstState → Type 0 = λ host. FirstHolds (stepped w w.position host w.device w.commits w.log.events w.log.replies) in
    subst P (sym is.stage) (turn-begun w h is.call rests (record { due = due; registered = is_registered w h is.call due; is_name = is.is_name }))

-- the world in which the host has registered
pub moved-registered : (w : FirstWorldValue) (h : FirstHolds w) (new : FirstState) (d : Directive) (answer : HostAnswer) → w.host.stage ≡ Rest → slice_get (list_of w.scenario 0) w.position ≡ Some d
    → (d ≡ register) × (answer ≡ Registered 0 1) × (new ≡ record { registered = true; stage = Rest })
    → FirstHolds (stepped w (w.position + 1) new w.device w.commits (w.log.events ++ local_event w ∷ []) (w.log.replies ++ reply_now w answer (place_of answer w.commits) ∷ []))
moved-registered w h new d answer rests at is =
    let P : FirstState → HostAnswer → Type 0 = λ host a. FirstHolds (stepped w (w.position + 1) host w.device w.commits (w.log.events ++ local_event w ∷ []) (w.log.replies ++ reply_now w a (place_of a w.commits) ∷ [])) in
    let turned = turn-registered w h rests (at ∙ ap Some is.0) in
    subst (λ (host : FirstState). P host answer) (sym is.2) (subst (λ (a : HostAnswer). P (record { registered = true; stage = Rest }) a) (sym is.1) turned)

-- The tree of the device

-- a sub-block that the device spells is the one of the entries so far
pub block_is : (w : FirstWorldValue) (h : FirstHolds w) (s : Sector) (block : SubBlock) → slice_get w.device 0 ≡ Some s → SpellsRooms s block → h.block ≡ block
block_is w h s block at spelled = block_read w h s block (sector_read w h s at) spelled

-- its entries are those so far
pub block_entries : (w : FirstWorldValue) (h : FirstHolds w) (s : Sector) (block : SubBlock) → slice_get w.device 0 ≡ Some s → SpellsRooms s block → h.entries ≡ entries_in block.rooms
block_entries w h s block at spelled = sym (entries_held w h) ∙ ap (λ (b : SubBlock). entries_in b.rooms) (block_is w h s block at spelled)

-- the device stands for the tree of its entries
pub tree_stands : (w : FirstWorldValue) (h : FirstHolds w) (s : Sector) (block : SubBlock) (t : FileTree) → slice_get w.device 0 ≡ Some s → SpellsRooms s block → t ≡ tree_of first_geom (entries_in block.rooms)
    → IsTreeOf first_geom (store first_rules.start w.log.events) t
tree_stands w h s block t at spelled is = record {
  sector = s;
  block = block;
  there = ap (λ (sectors : List Sector). slice_get sectors 0) (sym h.is_store) ∙ at;
  spelled = spelled;
  tree = is;
}

-- and for no other
pub tree_only : (w : FirstWorldValue) (h : FirstHolds w) (s : Sector) (block : SubBlock) (t u : FileTree) → slice_get w.device 0 ≡ Some s → SpellsRooms s block → t ≡ tree_of first_geom (entries_in block.rooms)
    → IsTreeOf first_geom (store first_rules.start w.log.events) u → u ≡ t
tree_only w h s block t u at spelled is stands =
    let there : slice_get w.device 0 ≡ Some stands.sector = ap (λ (sectors : List Sector). slice_get sectors 0) h.is_store ∙ stands.there in
    let same : stands.block ≡ block = sym (block_is w h stands.sector stands.block there stands.spelled) ∙ block_is w h s block at spelled in
    stands.tree ∙ ap (λ (b : SubBlock). tree_of first_geom (entries_in b.rooms)) same ∙ sym is
