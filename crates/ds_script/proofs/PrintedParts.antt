-- A printed text by its parts: the volume, the hosts, the lists of the hosts, the steps.
use Rattle.std.proofs.Common.{◌≡◌, ℕ, zero, suc, ◌+◌, List, [], ◌∷◌, ◌++◌, map, Some, refl, ap, sym, ◌∙◌, subst, arith, append_assoc}
use Rattle.std.specs.Prelude.{codes, slice_get}
use Rattle.std.specs.List.{flat_map, enumerate_from}
use Rattle.std.proofs.lemmas.Grind.{flat_map-append}
use Rattle.std.proofs.lemmas.List.Folds.{flat_map-map}
use Rattle.ds_tree.specs.declared.scenarios.HostPlan.{HostPlan}
use Rattle.ds_tree.specs.declared.scenarios.Scenario.{Scenario}
use Rattle.ds_tree.specs.Lines.{Words}
use Rattle.ds_tree.specs.Grammar.{names_of, Volume, Host, Does, Step}
use Rattle.ds_script.specs.Printed.{behind_blanks, name_at, directive_words, line_text, item_text, list_text, directive_items, step_items, printed_text}

-- The words of a line.

-- more words of a line, behind these
pub behind_more : (text : List ℕ) (front more : Words) → text ++ behind_blanks front ++ behind_blanks more ≡ text ++ behind_blanks (front ++ more)
behind_more text front more =
    append_assoc text (behind_blanks front) (behind_blanks more)
    ∙ ap (λ (t : List ℕ). text ++ t) (sym (flat_map-append (λ w. codes " " ++ w) front more))

behind_then : (t0 t1 t2 : List ℕ) (front more : Words) → t1 ≡ t0 ++ behind_blanks front → t2 ≡ t1 ++ behind_blanks more
    → t2 ≡ t0 ++ behind_blanks (front ++ more)
behind_then t0 t1 t2 front more first next =
    next ∙ (ap (λ (t : List ℕ). t ++ behind_blanks more) first ∙ behind_more t0 front more)

-- five parts of a line, one behind another
pub five_behind : (t0 t1 t2 t3 t4 t5 : List ℕ) (a b c d e : Words)
    → t1 ≡ t0 ++ behind_blanks a → t2 ≡ t1 ++ behind_blanks b → t3 ≡ t2 ++ behind_blanks c → t4 ≡ t3 ++ behind_blanks d
    → t5 ≡ t4 ++ behind_blanks e → t5 ≡ t0 ++ behind_blanks (a ++ b ++ c ++ d ++ e)
five_behind t0 t1 t2 t3 t4 t5 a b c d e pa pb pc pd pe =
    behind_then t0 t4 t5 (a ++ b ++ c ++ d) e
    (behind_then t0 t3 t4 (a ++ b ++ c) d (behind_then t0 t2 t3 (a ++ b) c (behind_then t0 t1 t2 a b pa pb) pc) pd) pe

-- The lines.

-- the numbers of these hosts, from this one on, are those of their names
abbrev AreNamed : Words → ℕ → List HostPlan → Type 0
AreNamed names n plans = (i : ℕ) (plan : HostPlan) → slice_get plans i ≡ Some plan → name_at names (n + i) ≡ plan.name

named : (plans : List HostPlan) (i : ℕ) (plan : HostPlan) → slice_get plans i ≡ Some plan → name_at (names_of plans) i ≡ plan.name
named [] i plan there = absurd cc
named (first ∷ plans) zero plan there = let same : first ≡ plan = cc in ap (λ (p : HostPlan). p.name) same
named (first ∷ plans) (suc i) plan there = named plans i plan there

module _ (names : Words) where
  list_part : (n : ℕ) (plan : HostPlan) → name_at names n ≡ plan.name
      → flat_map (item_text names) (map (Does n) plan.list) ≡ list_text names plan
  list_part n plan same =
      flat_map-map (item_text names) (Does n) plan.list
      ∙ ap (λ (name : List ℕ). flat_map (λ d. line_text (name ∷ directive_words names d)) plan.list) same

  lists_part : (n : ℕ) (plans : List HostPlan) → AreNamed names n plans
      → flat_map (item_text names) (flat_map (λ e. map (Does e.0) e.1.list) (enumerate_from n plans)) ≡ flat_map (list_text names) plans
  lists_part n [] are = refl
  lists_part n (plan ∷ plans) are =
      let own : name_at names n ≡ plan.name = subst (λ (k : ℕ). name_at names k ≡ plan.name) (omega arith) (are 0 plan refl) in
      let later : AreNamed names (n + 1) plans =
      λ i p there. subst (λ (k : ℕ). name_at names k ≡ p.name) (omega arith) (are (suc i) p there) in
      let rest = flat_map (λ e. map (Does e.0) e.1.list) (enumerate_from (n + 1) plans) in
      flat_map-append (item_text names) (map (Does n) plan.list) rest
      ∙ (ap (λ (front : List ℕ). front ++ flat_map (item_text names) rest) (list_part n plan own)
      ∙ ap (λ (back : List ℕ). list_text names plan ++ back) (lists_part (n + 1) plans later))

hosts_part : (names : Words) (plans : List HostPlan)
    → flat_map (item_text names) (map Host (names_of plans)) ≡ flat_map (λ plan. item_text [] (Host plan.name)) plans
hosts_part names [] = refl
hosts_part names (plan ∷ plans) = ap (λ (text : List ℕ). item_text [] (Host plan.name) ++ text) (hosts_part names plans)

regroup : (a b c d : List ℕ) → a ++ b ++ c ++ d ≡ a ++ (b ++ (c ++ d))
regroup a b c d = simp append_assoc

-- what is written part by part is the text
pub printed_by_parts : (s : Scenario)
    → item_text [] (Volume s.volume s.geom) ++ flat_map (λ plan. item_text [] (Host plan.name)) s.hosts
    ++ flat_map (list_text (names_of s.hosts)) s.hosts ++ flat_map (λ step. item_text (names_of s.hosts) (Step step.0 step.1)) s.steps
    ≡ printed_text s
printed_by_parts s =
    let names = names_of s.hosts in
    let text = flat_map (item_text names) in
    let volume = item_text [] (Volume s.volume s.geom) in
    let hosts = flat_map (λ plan. item_text [] (Host plan.name)) s.hosts in
    let lists = flat_map (list_text names) s.hosts in
    let steps = flat_map (λ step. item_text names (Step step.0 step.1)) s.steps in
    let whole : printed_text s ≡ volume ++ (hosts ++ (lists ++ steps)) =
    ap (λ (t : List ℕ). volume ++ t) (flat_map-append (item_text names) (map Host names) (directive_items s.hosts ++ step_items s.steps)
    ∙ (ap (λ (t : List ℕ). t ++ text (directive_items s.hosts ++ step_items s.steps)) (hosts_part names s.hosts)
    ∙ ap (λ (t : List ℕ). hosts ++ t) (flat_map-append (item_text names) (directive_items s.hosts) (step_items s.steps)
    ∙ (ap (λ (t : List ℕ). t ++ text (step_items s.steps)) (lists_part names 0 s.hosts (λ i plan there. named s.hosts (0 + i) plan (subst (λ (k : ℕ). slice_get s.hosts k ≡ Some plan) (omega arith) there)))
    ∙ ap (λ (t : List ℕ). lists ++ t) (flat_map-map (item_text names) (λ step. Step step.0 step.1) s.steps))))) in
    regroup volume hosts lists steps ∙ sym whole

pub text_written : (s : Scenario) (plans : List HostPlan) (steps : List (ℕ × ℕ)) (t0 t1 t2 t3 t4 : List ℕ) → plans ≡ s.hosts → steps ≡ s.steps
    → t0 ≡ [] → t1 ≡ t0 ++ item_text [] (Volume s.volume s.geom)
    → t2 ≡ t1 ++ flat_map (λ plan. item_text [] (Host plan.name)) plans → t3 ≡ t2 ++ flat_map (list_text (names_of plans)) plans
    → t4 ≡ t3 ++ flat_map (λ step. item_text (names_of plans) (Step step.0 step.1)) steps → t4 ≡ printed_text s
text_written s plans steps t0 t1 t2 t3 t4 all_plans all_steps none volume hosts lists ends =
    let v : List ℕ = item_text [] (Volume s.volume s.geom) in
    let h : List HostPlan → List ℕ = λ ps. flat_map (λ plan. item_text [] (Host plan.name)) ps in
    let l : List HostPlan → List ℕ = λ ps. flat_map (list_text (names_of ps)) ps in
    let e : List HostPlan → List (ℕ × ℕ) → List ℕ = λ ps ss. flat_map (λ step. item_text (names_of ps) (Step step.0 step.1)) ss in
    let first : t1 ≡ v = volume ∙ ap (λ (t : List ℕ). t ++ v) none in
    let second : t2 ≡ v ++ h plans = hosts ∙ ap (λ (t : List ℕ). t ++ h plans) first in
    let third : t3 ≡ v ++ h plans ++ l plans = lists ∙ ap (λ (t : List ℕ). t ++ l plans) second in
    let fourth : t4 ≡ v ++ h plans ++ l plans ++ e plans steps = ends ∙ ap (λ (t : List ℕ). t ++ e plans steps) third in
    fourth
    ∙ (ap (λ (ps : List HostPlan). v ++ h ps ++ l ps ++ e ps steps) all_plans
    ∙ (ap (λ (ss : List (ℕ × ℕ)). v ++ h s.hosts ++ l s.hosts ++ e s.hosts ss) all_steps ∙ printed_by_parts s))
