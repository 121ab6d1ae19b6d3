-- A text whose lines all stand is the scenario that is read of it.
use Rattle.std.proofs.Common.{◌≡◌, ℕ, zero, suc, ◌≤◌, Bool, true, false, List, [], ◌∷◌, ◌++◌, length, take, drop, map, Some, None, refl, ap, sym, ◌∙◌, subst, arith}
use Rattle.std.specs.Prelude.{slice_get, nat_eq, if◌then◌else◌}
use Rattle.std.specs.List.{AllByRecursion, AllZip, cons_option}
use Rattle.std.proofs.lemmas.List.{take-append-drop}
use Rattle.ds_base.specs.declared.geometry.Geom.{Geom}
use Rattle.ds_base.specs.Geometry.{IsGeom}
use Rattle.ds_tree.specs.declared.scenarios.Directive.{Directive}
use Rattle.ds_tree.specs.declared.scenarios.HostPlan.{HostPlan}
use Rattle.ds_tree.specs.declared.scenarios.Scenario.{Scenario}
use Rattle.ds_tree.specs.Lines.{Words, lines_of, words_of, kept}
use Rattle.ds_tree.specs.Grammar.{most_bytes, names_of, Fits, IsStep, IsPlan, IsScenario, HasFourKinds, AreArmed, Item, Volume, Host, Does, Step, SpellsItem, SpellsText}
use Rattle.ds_tree.specs.PlainPass.{directives_of}
use Rattle.ds_layout.specs.Places.{total_of}
use Rattle.ds_script.specs.Faults.{most_sectors}
use Rattle.ds_script.specs.Answers.{IsInOrder}
use Rattle.ds_script.specs.Reading.{scenario_of}
use Rattle.ds_script.proofs.LineOrder.{kept-append}
use Rattle.ds_script.proofs.TextLaws.{TextStands}
use Rattle.ds_script.proofs.Growth.{MayBe, Grows, grows, directives_in, steps_in}
use Rattle.ds_script.proofs.ArmedCalls.{new_is_armed}
use Rattle.ds_script.proofs.Within.{IsWithinLimits, stays_within}

all_from_index : (A : Type 0) (P : A → Type 0) (xs : List A) → ((i : ℕ) (x : A) → slice_get xs i ≡ Some x → P x) → AllByRecursion P xs
all_from_index A P [] each = tt
all_from_index A P (x ∷ xs) each = (each 0 x refl, all_from_index A P xs (λ i. each (suc i)))

name_of_plan : (plans : List HostPlan) (i : ℕ) (plan : HostPlan) → slice_get plans i ≡ Some plan → slice_get (names_of plans) i ≡ Some plan.name
name_of_plan [] i plan e = absurd cc
name_of_plan (p ∷ plans) zero plan e = let same : p ≡ plan = cc in ap (λ (q : HostPlan). Some q.name) same
name_of_plan (p ∷ plans) (suc i) plan e = name_of_plan plans i plan e

-- the directives of a host, and the `step` lines, are of the scenario

option_fits : (hosts : ℕ) (d : Directive) (list : List Directive) → Fits hosts d → AllByRecursion (Fits hosts) list → (b : Bool)
    → AllByRecursion (Fits hosts) (cons_option (if b then Some d else None) list)
option_fits hosts d list fits rest true = (fits, rest)
option_fits hosts d list fits rest false = rest

fits_in : (hosts host : ℕ) (body : List Item) → AllByRecursion (MayBe hosts) body → AllByRecursion (Fits hosts) (directives_in host body)
fits_in hosts host [] may = tt
fits_in hosts host (Volume id g ∷ body) may = absurd may.0
fits_in hosts host (Host name ∷ body) may = absurd may.0
fits_in hosts host (Does other d ∷ body) may = option_fits hosts d (directives_in host body) may.0 (fits_in hosts host body may.1) (nat_eq host other)
fits_in hosts host (Step other count ∷ body) may = fits_in hosts host body may.1

steps_fit : (hosts : ℕ) (body : List Item) → AllByRecursion (MayBe hosts) body → AllByRecursion (IsStep hosts) (steps_in body)
steps_fit hosts [] may = tt
steps_fit hosts (Volume id g ∷ body) may = absurd may.0
steps_fit hosts (Host name ∷ body) may = absurd may.0
steps_fit hosts (Does other d ∷ body) may = steps_fit hosts body may.1
steps_fit hosts (Step host count ∷ body) may = (may.0, steps_fit hosts body may.1)

within_first : (volume : List ℕ × Geom) → IsWithinLimits (scenario_of volume)
within_first volume = record {
  few_hosts = omega arith;
  few_directives = omega arith;
  few_turns = omega arith;
  are = record { hosts = λ i w e. absurd cc; apart = λ i j w e f. absurd cc };
}

-- each directive about a next call has one
abbrev pub EachIsArmed : List HostPlan → Type 0
EachIsArmed plans = (host : ℕ) (plan : HostPlan) → slice_get plans host ≡ Some plan → AreArmed plan.list

module _ (bytes : List ℕ) (s : Scenario) (h : TextStands (lines_of bytes) s) where
  abbrev volume : List ℕ × Geom
  volume = h.r.0

  abbrev first : Words
  first = words_of h.first.line

  growth : Grows (scenario_of volume) h.r.2 s
  growth = grows (scenario_of volume) s h.r.2 h.all.continues

  within : IsWithinLimits s
  within = stays_within (scenario_of volume) s h.r.2 h.all.continues (within_first volume)

  all_kept : kept (lines_of bytes) ≡ first ∷ kept h.r.2
  all_kept =
      ap kept (sym (take-append-drop h.first.m (lines_of bytes)))
      ∙ (kept-append (take h.first.m (lines_of bytes)) (drop h.first.m (lines_of bytes))
      ∙ (ap (λ (ks : List Words). ks ++ kept (drop h.first.m (lines_of bytes))) h.first.kept_so
      ∙ ap (λ (ls : List (List ℕ)). first ∷ kept ls) h.first.later))

  all_lines : AllZip (SpellsItem (names_of s.hosts)) (kept (lines_of bytes))
      (Volume s.volume s.geom ∷ map Host (names_of s.hosts) ++ growth.body)
  all_lines =
      let names = names_of s.hosts in
      let P : List ℕ → Type 0 = λ id. SpellsItem names first (Volume id volume.1) in
      let Q : Geom → Type 0 = λ g. SpellsItem names first (Volume s.volume g) in
      let here : SpellsItem names first (Volume s.volume s.geom) =
      subst Q (sym growth.geom) (subst P (sym growth.volume) h.first.volume.says.spells) in
      let later : AllZip (SpellsItem names) (kept h.r.2) (map Host names ++ growth.body) =
      subst (λ (news : Words). AllZip (SpellsItem names) (kept h.r.2) (map Host news ++ growth.body)) (sym growth.names) growth.lines in
      subst (λ (ks : List Words). AllZip (SpellsItem names) ks (Volume s.volume s.geom ∷ map Host names ++ growth.body)) (sym all_kept)
      (here, later)

  list_of : (host : ℕ) (plan : HostPlan) → slice_get s.hosts host ≡ Some plan → plan.list ≡ directives_in host growth.body
  list_of host plan e = sym (ap directives_of e) ∙ growth.lists host

  each_is_armed : EachIsArmed s.hosts
  each_is_armed host plan e =
      subst (λ (list : List Directive). AreArmed list) (ap directives_of e)
      (new_is_armed (scenario_of volume) s h.r.2 host h.all.continues (within_first volume).are refl)

  is_plan : (host : ℕ) (plan : HostPlan) → slice_get s.hosts host ≡ Some plan → IsPlan (length s.hosts) plan
  is_plan host plan e = record {
    name = within.are.hosts host plan.name (name_of_plan s.hosts host plan e);
    fit = subst (λ (list : List Directive). AllByRecursion (Fits (length s.hosts)) list) (sym (list_of host plan e))
        (fits_in (length s.hosts) host growth.body growth.stands);
    armed = each_is_armed host plan e;
  }

  pub text_scenario : IsScenario s
  text_scenario = record {
    four = subst (λ (g : Geom). HasFourKinds g) (sym growth.geom) h.first.volume.says.four;
    geometry = subst (λ (g : Geom). IsGeom g) (sym growth.geom) h.first.volume.says.geometry;
    plans = all_from_index HostPlan (IsPlan (length s.hosts)) s.hosts (is_plan);
    apart = within.are.apart;
    steps = subst (λ (steps : List (ℕ × ℕ)). AllByRecursion (IsStep (length s.hosts)) steps) (sym growth.steps)
        (steps_fit (length s.hosts) growth.body growth.stands);
    few_hosts = within.few_hosts;
    few_directives = within.few_directives;
    few_steps = within.few_turns;
  }

  -- the text is that scenario
  pub text_spells : length bytes ≤ most_bytes → SpellsText bytes s
  text_spells few = record {
    body = growth.body;
    of_body = growth.of_body;
    lines = all_lines;
    lists = list_of;
    steps = growth.steps;
    is_scenario = text_scenario;
    few_bytes = few;
  }

  -- and its volume isn't too large
  pub text_in_order : length bytes ≤ most_bytes → IsInOrder bytes s
  text_in_order few = record {
    spells = text_spells few;
    few_sectors = subst (λ (g : Geom). total_of g ≤ most_sectors) (sym growth.geom) h.first.volume.few;
  }
