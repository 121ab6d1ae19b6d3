-- A text that spells a scenario is read as it.
use Rattle.std.proofs.Common.{◌≡◌, ℕ, zero, suc, ◌+◌, ◌≤◌, ◌<◌, Bool, true, false, not, cond, List, [], ◌∷◌, ◌++◌, length, map, Option, Some, None, Result, Ok, Err, refl, ap, sym, ◌∙◌, subst}
use Rattle.std.specs.Prelude.{slice_get, nat_eq, if◌then◌else◌}
use Rattle.std.specs.List.{AllByRecursion, AllZip, cons_option}
use Rattle.std.proofs.lemmas.Bool.{eq-eqb, eqb-true, le-ltb, lt-ltb, false≢true}
use Rattle.ds_base.specs.declared.geometry.Geom.{Geom}
use Rattle.ds_layout.specs.Places.{total_of}
use Rattle.ds_tree.specs.declared.scenarios.Directive.{Directive}
use Rattle.ds_tree.specs.declared.scenarios.HostPlan.{HostPlan}
use Rattle.ds_tree.specs.declared.scenarios.Scenario.{Scenario}
use Rattle.ds_tree.specs.Lines.{Words, lines_of, words_of, is_comment, kept}
use Rattle.ds_tree.specs.Grammar.{names_of, SpellsText, Fits, IsStep, IsPlan, IsHostName, IsNameOf, AreArmed, Item, Volume, Host, Does, Step, SpellsItem, IsOfBody, IsScenario}
use Rattle.ds_tree.specs.PlainPass.{list_at, directives_of}
use Rattle.ds_script.specs.declared.faults.ScriptFault.{ScriptFault}
use Rattle.ds_script.specs.declared.faults.ScriptFault.TheVariants.{TooLarge}
use Rattle.ds_script.specs.declared.faults.What.TheVariants as whats
use Rattle.ds_script.specs.Faults.{most_sectors}
use Rattle.ds_script.specs.Answers.{IsInOrder}
use Rattle.ds_script.specs.Reading.{Reads, is_begun, with_item, line_read, read_from, volume_line_at, volume_read, first_read, scenario_of, text_read}
use Rattle.ds_script.proofs.LookupLaws.{AreNames}
use Rattle.ds_script.proofs.ItemLaws.{item_again}
use Rattle.ds_script.proofs.VolumeLaws.{SaysVolume, volume_line_again}
use Rattle.ds_script.proofs.LineSteps.{first_read-passed, first_read-ok, first_read-err, read_from-none, read_from-passed, read_from-ok}
use Rattle.ds_script.proofs.StateLaws.{are_more}
use Rattle.ds_script.proofs.LineOrder.{IsTaken, Continues, done, passed, more}
use Rattle.ds_script.proofs.Growth.{MayBe, Grows, directives_in, steps_in}
use Rattle.ds_script.proofs.Continuing.{IsEnd, continues}

-- The lines behind the volume line.

line_again : (s : Scenario) (number : ℕ) (ws : Words) (behind : List (List ℕ)) (item : Item) → AreNames (names_of s.hosts)
    → IsTaken s ws behind item → line_read s number ws behind ≡ Ok (with_item s item)
unfolding line_read
line_again s number ws behind item are taken =
    rw (item_again (names_of s.hosts) are (is_begun s) ws item taken.says, taken.armed, taken.within) refl

-- lines that are taken one by one are read
lines_again : (s t : Scenario) (suffix : List (List ℕ)) (number : ℕ) → AreNames (names_of s.hosts) → Continues s suffix t
    → read_from s number suffix ≡ Ok t
lines_again s t [] number are done = read_from-none s number [] refl
lines_again s t (line ∷ behind) number are (passed is rest) =
    read_from-passed s number (line ∷ behind) line behind refl is ∙ lines_again s t behind (number + 1) are rest
lines_again s t (line ∷ behind) number are (more item is taken rest) =
    read_from-ok s number (line ∷ behind) line behind (with_item s item) refl is (line_again s number (words_of line) behind item are taken)
    ∙ lines_again (with_item s item) t behind (number + 1) (are_more s item are taken.says.stands) rest

-- The volume line.

volume_again : (number : ℕ) (ws : Words) (volume : List ℕ × Geom) → SaysVolume ws volume → total_of volume.1 ≤ most_sectors
    → volume_read number ws ≡ Ok volume
unfolding volume_read
volume_again number ws volume says few = rw (volume_line_again ws volume says, le-ltb most_sectors (total_of volume.1) few) refl

volume_large : (number : ℕ) (ws : Words) (volume : List ℕ × Geom) → SaysVolume ws volume → most_sectors < total_of volume.1
    → volume_read number ws ≡ Err (TooLarge whats.Volume)
unfolding volume_read
volume_large number ws volume says many = rw (volume_line_again ws volume says, lt-ltb most_sectors (total_of volume.1) many) refl

-- the words of a line, the number of the line behind it, and the lines from that one on
abbrev Place : Type 0
Place = Words × ℕ × List (List ℕ)

-- that of the first line that isn't passed over
abbrev first_kept : ℕ → List (List ℕ) → Option Place
first_kept number [] = None
first_kept number (line ∷ behind) =
    if is_comment (words_of line) then first_kept (number + 1) behind else Some (words_of line, number + 1, behind)

-- the first line is that of the volume, and these items are left; it is read where the volume isn't too large
record LeavesItems (lines : List (List ℕ)) (number : ℕ) (names : Words) (volume : List ℕ × Geom) (items : List Item) : Type 0 where
  words : Words
  next : ℕ
  behind : List (List ℕ)
  is_first : first_kept number lines ≡ Some (words, next, behind)
  says : SaysVolume words volume
  reads : total_of volume.1 ≤ most_sectors → first_read number lines ≡ Ok (volume, next, behind)
  refuses : most_sectors < total_of volume.1 → first_read number lines ≡ Err (TooLarge whats.Volume)
  spelled : AllZip (SpellsItem names) (kept behind) items

module _ (names : Words) (volume : List ℕ × Geom) (items : List Item)
    (says : (ws : Words) → SpellsItem names ws (Volume volume.0 volume.1) → SaysVolume ws volume) where
  abbrev Leaves : ℕ → List (List ℕ) → Type 0
  Leaves number lines = LeavesItems lines number names volume items

  abbrev AllItems : List Item
  AllItems = Volume volume.0 volume.1 ∷ items

  first_line : (line : List ℕ) (behind : List (List ℕ)) (number : ℕ)
      → (AllZip (SpellsItem names) (kept behind) AllItems → Leaves (number + 1) behind) → (b : Bool) → is_comment (words_of line) ≡ b
      → AllZip (SpellsItem names) (cond (not b) (words_of line ∷ kept behind) (kept behind)) AllItems → Leaves number (line ∷ behind)
  first_line line behind number rest true is spelled =
      let later = rest spelled in
      let passes : first_read number (line ∷ behind) ≡ first_read (number + 1) behind =
      first_read-passed number (line ∷ behind) line behind refl is in
      record {
        words = later.words;
        next = later.next;
        behind = later.behind;
        is_first = rw is later.is_first;
        says = later.says;
        reads = λ few. passes ∙ later.reads few;
        refuses = λ many. passes ∙ later.refuses many;
        spelled = later.spelled;
      }
  first_line line behind number rest false is spelled =
      let here = says (words_of line) spelled.0 in
      record {
        words = words_of line;
        next = number + 1;
        behind = behind;
        is_first = rw is refl;
        says = here;
        reads = λ few. first_read-ok number (line ∷ behind) line behind volume refl is (volume_again number (words_of line) volume here few);
        refuses = λ many. first_read-err number (line ∷ behind) line behind (TooLarge whats.Volume) refl is
            (volume_large number (words_of line) volume here many);
        spelled = spelled.1;
      }

  first_again : (lines : List (List ℕ)) (number : ℕ) → AllZip (SpellsItem names) (kept lines) AllItems → Leaves number lines
  first_again [] number spelled = absurd spelled
  first_again (line ∷ behind) number spelled =
      first_line line behind number (first_again behind (number + 1)) (is_comment (words_of line)) refl spelled

-- The hosts of a scenario.

each_list : (P : List Directive → Type 0) → P [] → (hosts : ℕ) → ((plan : HostPlan) → IsPlan hosts plan → P plan.list)
    → (plans : List HostPlan) → AllByRecursion (IsPlan hosts) plans → (host : ℕ) → P (list_at plans host)
each_list P none hosts each [] are host = none
each_list P none hosts each (plan ∷ plans) are zero = each plan are.0
each_list P none hosts each (plan ∷ plans) are (suc host) = each_list P none hosts each plans are.1 host

each_name : (hosts : ℕ) (plans : List HostPlan) → AllByRecursion (IsPlan hosts) plans
    → (i : ℕ) (name : List ℕ) → IsNameOf (names_of plans) i name → IsHostName name
each_name hosts [] are i name e = absurd cc
each_name hosts (plan ∷ plans) are zero name e =
    let same : plan.name ≡ name = cc in subst (λ (w : List ℕ). IsHostName w) same are.0.name
each_name hosts (plan ∷ plans) are (suc i) name e = each_name hosts plans are.1 i name e

scenario_end : (s : Scenario) → IsScenario s → IsEnd s
scenario_end s is = record {
  within = record {
    few_hosts = is.few_hosts;
    few_directives = is.few_directives;
    few_turns = is.few_steps;
    are = record { hosts = each_name (length s.hosts) s.hosts is.plans; apart = is.apart };
  };
  armed = each_list AreArmed (λ n d e. absurd cc) (length s.hosts) (λ plan p. p.armed) s.hosts is.plans;
}

-- The items of a text.

body_left : (names news : Words) (body : List Item) (lines : List Words) → AllZip (SpellsItem names) lines (map Host news ++ body)
    → (rest : List Words) × AllZip (SpellsItem names) rest body
body_left names [] body lines h = (lines, h)
body_left names (name ∷ news) body [] h = absurd h
body_left names (name ∷ news) body (line ∷ lines) h = body_left names news body lines h.1

-- a host that has no name has no directives
none_past : (names : Words) (host : ℕ) → slice_get names host ≡ None → (body : List Item) (lines : List Words)
    → AllZip (SpellsItem names) lines body → directives_in host body ≡ []
none_past names host none [] lines h = refl
none_past names host none (item ∷ body) [] h = absurd h
none_past names host none (Volume id g ∷ body) (line ∷ lines) h = none_past names host none body lines h.1
none_past names host none (Host name ∷ body) (line ∷ lines) h = none_past names host none body lines h.1
none_past names host none (Step other count ∷ body) (line ∷ lines) h = none_past names host none body lines h.1
none_past names host none (Does other d ∷ body) (line ∷ lines) h =
    by_host (none_past names host none body lines h.1) (nat_eq host other) refl
  where
    by_host : directives_in host body ≡ [] → (b : Bool) → nat_eq host other ≡ b
        → cons_option (if b then Some d else None) (directives_in host body) ≡ []
    by_host rest false e = rest
    by_host rest true e =
        let there : IsNameOf names host h.0.0 = ap (slice_get names) (eqb-true host other e) ∙ h.0.2 in
        let both : None ≡ Some h.0.0 = sym none ∙ there in
        absurd cc

module _ (hosts : ℕ) (d : Directive) (list : List Directive) where
  abbrev AllWith : Bool → Type 0
  AllWith b = AllByRecursion (Fits hosts) (cons_option (if b then Some d else None) list)

  all_but_first : (b : Bool) → AllWith b → AllByRecursion (Fits hosts) list
  all_but_first true h = h.1
  all_but_first false h = h

  first_fits : (host : ℕ) → AllWith (nat_eq host host) → Fits hosts d
  first_fits host h = (subst (λ (b : Bool). AllWith b) (eq-eqb host host refl) h).0

may_be : (hosts : ℕ) (body : List Item) → AllByRecursion IsOfBody body → ((host : ℕ) → AllByRecursion (Fits hosts) (directives_in host body))
    → AllByRecursion (IsStep hosts) (steps_in body) → AllByRecursion (MayBe hosts) body
may_be hosts [] of_body fits steps = tt
may_be hosts (Volume id g ∷ body) of_body fits steps = absurd of_body.0
may_be hosts (Host name ∷ body) of_body fits steps = absurd of_body.0
may_be hosts (Step host count ∷ body) of_body fits steps = (steps.0, may_be hosts body of_body.1 fits steps.1)
may_be hosts (Does other d ∷ body) of_body fits steps = (
  first_fits hosts d (directives_in other body) other (fits other),
  may_be hosts body of_body.1 (λ host. all_but_first hosts d (directives_in host body) (nat_eq host other) (fits host)) steps,
)

name_none : (plans : List HostPlan) (host : ℕ) → slice_get plans host ≡ None → slice_get (names_of plans) host ≡ None
name_none [] host e = refl
name_none (plan ∷ plans) zero e = absurd cc
name_none (plan ∷ plans) (suc host) e = name_none plans host e

-- The text.

text_from : (bytes : List ℕ) (volume : List ℕ × Geom) (number : ℕ) (behind : List (List ℕ))
    → first_read 1 (lines_of bytes) ≡ Ok (volume, number, behind)
    → text_read bytes ≡ read_from (scenario_of volume) number behind
unfolding text_read
text_from bytes volume number behind e = rw e refl

text_refused : (bytes : List ℕ) (fault : ScriptFault) → first_read 1 (lines_of bytes) ≡ Err fault → text_read bytes ≡ Err fault
unfolding text_read
text_refused bytes fault e = rw e refl

module _ (bytes : List ℕ) (s : Scenario) (h : SpellsText bytes s) where
  abbrev names : Words
  names = names_of s.hosts

  abbrev body : List Item
  body = h.body

  abbrev volume : List ℕ × Geom
  volume = (s.volume, s.geom)

  first : LeavesItems (lines_of bytes) 1 names volume (map Host names ++ body)
  first =
      first_again names volume (map Host names ++ body)
      (λ ws spells. record { spells = spells; four = h.is_scenario.four; geometry = h.is_scenario.geometry })
      (lines_of bytes) 1 h.lines

  lists : (host : ℕ) → list_at s.hosts host ≡ directives_in host body
  lists host = by_plan (slice_get s.hosts host) refl
    where
      by_plan : (o : Option HostPlan) → slice_get s.hosts host ≡ o → directives_of o ≡ directives_in host body
      by_plan (Some plan) e = h.lists host plan e
      by_plan None e =
          let left = body_left names names body (kept first.behind) first.spelled in
          sym (none_past names host (name_none s.hosts host e) body left.0 left.1)

  abbrev AllFit : List Directive → Type 0
  AllFit list = AllByRecursion (Fits (length s.hosts)) list

  stands : AllByRecursion (MayBe (length s.hosts)) body
  stands =
      may_be (length s.hosts) body h.of_body
      (λ host. subst (λ (ds : List Directive). AllFit ds) (lists host)
      (each_list AllFit tt (length s.hosts) (λ plan p. p.fit) s.hosts h.is_scenario.plans host))
      (subst (λ (steps : List (ℕ × ℕ)). AllByRecursion (IsStep (length s.hosts)) steps) h.steps h.is_scenario.steps)

  growth : Grows (scenario_of volume) first.behind s
  growth = record {
    news = names;
    body = body;
    of_body = h.of_body;
    stands = stands;
    names = refl;
    lines = first.spelled;
    begun = λ b. absurd (false≢true b);
    lists = lists;
    steps = h.steps;
    volume = refl;
    geom = refl;
  }

  -- the scenario is read behind the line of its volume
  behind_again : read_from (scenario_of volume) first.next first.behind ≡ Ok s
  behind_again =
      lines_again (scenario_of volume) s first.behind first.next
      (record { hosts = λ i w e. absurd cc; apart = λ i j w e f. absurd cc })
      (continues s (scenario_end s h.is_scenario) first.behind (scenario_of volume) growth)

  read_within : total_of s.geom ≤ most_sectors → text_read bytes ≡ Ok s
  read_within few = text_from bytes volume first.next first.behind (first.reads few) ∙ behind_again

  -- a volume that is too large is told
  pub large_told : most_sectors < total_of s.geom → text_read bytes ≡ Err (TooLarge whats.Volume)
  large_told many = text_refused bytes (TooLarge whats.Volume) (first.refuses many)

-- the scenario is read
pub again : (bytes : List ℕ) (s : Scenario) → IsInOrder bytes s → text_read bytes ≡ Ok s
again bytes s is = read_within bytes s is.spells is.few_sectors

-- what is read of the same lines is the same
one_read : (ws other : Words) (number next : ℕ) (behind rest : List (List ℕ)) (one last : List ℕ × Geom) (s t : Scenario)
    → ◌≡◌ {A = Option Place} (Some (ws, number, behind)) (Some (other, next, rest)) → volume_line_at ws ≡ Ok one → volume_line_at other ≡ Ok last
    → read_from (scenario_of one) number behind ≡ Ok s → read_from (scenario_of last) next rest ≡ Ok t → s ≡ t
one_read ws other number next behind rest one last s t both says other_says reads later =
    let places : ◌≡◌ {A = Place} (ws, number, behind) (other, next, rest) = cc in
    let words : ws ≡ other = ap (λ (p : Place). p.0) places in
    let numbers : number ≡ next = ap (λ (p : Place). p.1) places in
    let lines : behind ≡ rest = ap (λ (p : Place). p.2) places in
    let volumes : ◌≡◌ {A = Reads (List ℕ × Geom)} (Ok one) (Ok last) = sym says ∙ (ap volume_line_at words ∙ other_says) in
    let same : one ≡ last = cc in
    let as_one : read_from (scenario_of one) number behind ≡ read_from (scenario_of last) next rest =
    ap (λ (v : List ℕ × Geom). read_from (scenario_of v) number behind) same
    ∙ (ap (λ (n : ℕ). read_from (scenario_of last) n behind) numbers
    ∙ ap (λ (ls : List (List ℕ)). read_from (scenario_of last) next ls) lines) in
    let texts : ◌≡◌ {A = Result Scenario ScriptFault} (Ok s) (Ok t) = sym reads ∙ (as_one ∙ later) in
    cc

-- and no other is spelled
pub same_scenario : (bytes : List ℕ) (s t : Scenario) → SpellsText bytes s → SpellsText bytes t → s ≡ t
same_scenario bytes s t h k =
    let a = first bytes s h in
    let b = first bytes t k in
    one_read a.words b.words a.next b.next a.behind b.behind (s.volume, s.geom) (t.volume, t.geom) s t (sym a.is_first ∙ b.is_first)
    (volume_line_again a.words (s.volume, s.geom) a.says) (volume_line_again b.words (t.volume, t.geom) b.says)
    (behind_again bytes s h) (behind_again bytes t k)
