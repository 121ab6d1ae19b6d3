-- What is printed of a scenario spells it.
use Rattle.std.proofs.Common.{◌≡◌, ℕ, zero, suc, ◌+◌, ◌≤◌, ◌<◌, ◌≢◌, false, List, [], ◌∷◌, ◌++◌, length, map, Some, refl, ap, sym, ◌∙◌, subst, arith, append-nil}
use Rattle.std.specs.Prelude.{decimal, slice_get, filter_map}
use Rattle.std.specs.List.{flat_map, enumerate_from, AllByRecursion, AllZip}
use Rattle.std.proofs.lemmas.Bool.{eq-eqb, ne_eqb}
use Rattle.std.proofs.lemmas.Bool.Decides.{nat_tests}
use Rattle.std.proofs.lemmas.List.Elements.{filter_map-append}
use Rattle.std.proofs.lemmas.List.Folds.{flat_map-map}
use Rattle.uuid.specs.Text.{parsed, hyphenated_text, lower}
use Rattle.ds_tree.specs.declared.scenarios.Directive.{Directive}
use Rattle.ds_tree.specs.declared.scenarios.HostPlan.{HostPlan}
use Rattle.ds_tree.specs.declared.scenarios.Scenario.{Scenario}
use Rattle.ds_tree.specs.Lines.{Words, is_comment, kept_lines}
use Rattle.ds_tree.specs.Grammar.{most_bytes, names_of, IsHostName, IsNameOf, Fits, IsPlan, IsStep, IsScenario, Item, Volume, Host, Does, Step, SpellsItem, IsOfBody, directive_of, step_of, SpellsText, geometry_part}
use Rattle.ds_script.specs.Answers.{IsScenarioText}
use Rattle.ds_script.specs.Printed.{name_at, directive_words, item_words, line_text, directive_items, step_items, printed_items, printed_text, IsPrinted}
use Rattle.ds_script.proofs.LookupLaws.{AreNames}
use Rattle.ds_script.proofs.PrintedLines.{AreOfLine, lines_kept}
use Rattle.ds_script.proofs.PrintedWords.{name_there, is_word-name, directive_stands, directive_spelled, is_word-id, geometry_stands, more_words}
use Rattle.ds_script.proofs.StateLaws.{length_names}
use Rattle.ds_script.proofs.WordLaws.{label_means, is_word-label, is_word-decimal, IsLabel}

all_append : {A : Type 0} (P : A → Type 0) (xs ys : List A) → AllByRecursion P xs → AllByRecursion P ys → AllByRecursion P (xs ++ ys)
all_append P [] ys some all = all
all_append P (x ∷ xs) ys some all = (some.0, all_append P xs ys some.1 all)

-- The lists of the hosts and the steps, among the items of a body.

-- the directives of these hosts, the first of which has this number
abbrev items_from : ℕ → List HostPlan → List Item
items_from n plans = flat_map (λ e. map (Does e.0) e.1.list) (enumerate_from n plans)

abbrev list_of : ℕ → List Item → List Directive
list_of host items = filter_map (directive_of host) items

list_append : (host : ℕ) (xs ys : List Item) → list_of host (xs ++ ys) ≡ list_of host xs ++ list_of host ys
list_append host xs ys = filter_map-append (directive_of host) xs ys

own_list : (host other : ℕ) (list : List Directive) → host ≡ other → list_of host (map (Does other) list) ≡ list
own_list host other [] same = refl
own_list host other (d ∷ list) same = rw (eq-eqb host other same) (ap (λ (ds : List Directive). d ∷ ds) (own_list host other list same))

other_list : (host other : ℕ) (list : List Directive) → host ≢ other → list_of host (map (Does other) list) ≡ []
other_list host other [] apart = refl
other_list host other (d ∷ list) apart = rw (ne_eqb host other apart) (other_list host other list apart)

later_lists : (host n : ℕ) (plans : List HostPlan) → host < n → list_of host (items_from n plans) ≡ []
later_lists host n [] less = refl
later_lists host n (plan ∷ plans) less =
    list_append host (map (Does n) plan.list) (items_from (n + 1) plans)
    ∙ (ap (λ (ds : List Directive). ds ++ list_of host (items_from (n + 1) plans)) (other_list host n plan.list (λ e. omega (arith, less, e)))
    ∙ later_lists host (n + 1) plans (omega (arith, less)))

list_in : (host n : ℕ) (plans : List HostPlan) (i : ℕ) (plan : HostPlan) → slice_get plans i ≡ Some plan → host ≡ n + i
    → list_of host (items_from n plans) ≡ plan.list
list_in host n [] i plan there at = absurd cc
list_in host n (first ∷ plans) zero plan there at =
    let same : first ≡ plan = cc in
    list_append host (map (Does n) first.list) (items_from (n + 1) plans)
    ∙ (ap (λ (ds : List Directive). ds ++ list_of host (items_from (n + 1) plans)) (own_list host n first.list (omega (arith, at)))
    ∙ (ap (λ (ds : List Directive). first.list ++ ds) (later_lists host (n + 1) plans (omega (arith, at)))
    ∙ (append-nil first.list ∙ ap (λ (p : HostPlan). p.list) same)))
list_in host n (first ∷ plans) (suc i) plan there at =
    list_append host (map (Does n) first.list) (items_from (n + 1) plans)
    ∙ (ap (λ (ds : List Directive). ds ++ list_of host (items_from (n + 1) plans)) (other_list host n first.list (λ e. omega (arith, at, e)))
    ∙ list_in host (n + 1) plans i plan there (omega (arith, at)))

no_list : (host : ℕ) (steps : List (ℕ × ℕ)) → list_of host (step_items steps) ≡ []
no_list host [] = refl
no_list host (step ∷ steps) = no_list host steps

own_steps : (steps : List (ℕ × ℕ)) → filter_map step_of (step_items steps) ≡ steps
own_steps [] = refl
own_steps (step ∷ steps) = ap (λ (xs : List (ℕ × ℕ)). step ∷ xs) (own_steps steps)

no_steps : (host : ℕ) (list : List Directive) → filter_map step_of (map (Does host) list) ≡ []
no_steps host [] = refl
no_steps host (d ∷ list) = no_steps host list

no_steps_from : (n : ℕ) (plans : List HostPlan) → filter_map step_of (items_from n plans) ≡ []
no_steps_from n [] = refl
no_steps_from n (plan ∷ plans) =
    filter_map-append step_of (map (Does n) plan.list) (items_from (n + 1) plans)
    ∙ (ap (λ (xs : List (ℕ × ℕ)). xs ++ filter_map step_of (items_from (n + 1) plans)) (no_steps n plan.list) ∙ no_steps_from (n + 1) plans)

of_body_list : (host : ℕ) (list : List Directive) → AllByRecursion IsOfBody (map (Does host) list)
of_body_list host [] = tt
of_body_list host (d ∷ list) = (tt, of_body_list host list)

of_body_from : (n : ℕ) (plans : List HostPlan) → AllByRecursion IsOfBody (items_from n plans)
of_body_from n [] = tt
of_body_from n (plan ∷ plans) = all_append IsOfBody (map (Does n) plan.list) (items_from (n + 1) plans) (of_body_list n plan.list) (of_body_from (n + 1) plans)

of_body_steps : (steps : List (ℕ × ℕ)) → AllByRecursion IsOfBody (step_items steps)
of_body_steps [] = tt
of_body_steps (step ∷ steps) = (tt, of_body_steps steps)

-- Each item is spelled by the words of its line.

label_stays : (w : List ℕ) (ws : Words) → IsLabel w → is_comment (w ∷ ws) ≡ false
label_stays [] ws label = absurd (omega (arith, label.some))
label_stays (b ∷ bs) ws label = grind (arith, nat_tests, label.letter)

record WritesOut (names : Words) (item : Item) : Type 0 where
  spelled : SpellsItem names (item_words names item) item
  line : AreOfLine (item_words names item)

name_in : (hosts : ℕ) (plans : List HostPlan) → AllByRecursion (IsPlan hosts) plans
    → (i : ℕ) (name : List ℕ) → IsNameOf (names_of plans) i name → IsHostName name
name_in hosts [] all i name e = absurd cc
name_in hosts (plan ∷ plans) all zero name e = let same : plan.name ≡ name = cc in subst IsHostName same all.0.name
name_in hosts (plan ∷ plans) all (suc i) name e = name_in hosts plans all.1 i name e

module _ (s : Scenario) (is : IsScenario s) (reads : parsed (hyphenated_text lower s.volume) ≡ Some s.volume) where
  abbrev names : Words
  names = names_of s.hosts

  are : AreNames names
  are = record { hosts = name_in (length s.hosts) s.hosts is.plans; apart = is.apart }

  label_at : (host : ℕ) → host < length names → IsLabel (name_at names host)
  label_at host within = label_means (name_at names host) (are.hosts host (name_at names host) (name_there names are host within)).label

  volume_out : WritesOut names (Volume s.volume s.geom)
  volume_out = record {
    spelled = (hyphenated_text lower s.volume, record { whole = is_word-id s.volume; reads = reads }, refl);
    line = record { words = more_words (hyphenated_text lower s.volume) (geometry_part s.geom) (is_word-id s.volume) (geometry_stands s.geom is.geometry); stay = refl };
  }

  host_out : (name : List ℕ) → IsHostName name → WritesOut names (Host name)
  host_out name is_name = record {
    spelled = refl;
    line = record { words = more_words name [] (is_word-label name (label_means name is_name.label)) refl; stay = refl };
  }

  hosts_out : (plans : List HostPlan) → AllByRecursion (IsPlan (length s.hosts)) plans → AllByRecursion (WritesOut names) (map Host (names_of plans))
  hosts_out [] all = tt
  hosts_out (plan ∷ plans) all = (host_out plan.name all.0.name, hosts_out plans all.1)

  does_out : (host : ℕ) (d : Directive) → host < length names → Fits (length names) d → WritesOut names (Does host d)
  does_out host d within fits = record {
    spelled = (name_at names host, directive_words names d, name_there names are host within, refl, directive_spelled names are d fits);
    line = record {
      words = more_words (name_at names host) (directive_words names d) (is_word-name names are host within) (directive_stands names are d fits);
      stay = label_stays (name_at names host) (directive_words names d) (label_at host within);
    };
  }

  list_out : (host : ℕ) (list : List Directive) → host < length names → AllByRecursion (Fits (length s.hosts)) list
      → AllByRecursion (WritesOut names) (map (Does host) list)
  list_out host [] within fits = tt
  list_out host (d ∷ list) within fits =
      (does_out host d within (subst (λ (n : ℕ). Fits n d) (sym (length_names s.hosts)) fits.0), list_out host list within fits.1)

  lists_out : (n : ℕ) (plans : List HostPlan) → n + length plans ≤ length names → AllByRecursion (IsPlan (length s.hosts)) plans
      → AllByRecursion (WritesOut names) (items_from n plans)
  lists_out n [] within all = tt
  lists_out n (plan ∷ plans) within all =
      all_append (WritesOut names) (map (Does n) plan.list) (items_from (n + 1) plans)
      (list_out n plan.list (omega (arith, within)) all.0.fit) (lists_out (n + 1) plans (omega (arith, within)) all.1)

  step_out : (host count : ℕ) → IsStep (length s.hosts) (host, count) → WritesOut names (Step host count)
  step_out host count step =
      let within : host < length names = omega (arith, step.0, length_names s.hosts) in
      record {
        spelled = (name_at names host, name_there names are host within, refl);
        line = record {
          words = more_words (name_at names host) (decimal count ∷ []) (is_word-name names are host within)
              (more_words (decimal count) [] (is_word-decimal count (omega (arith, step.2))) refl);
          stay = refl;
        };
      }

  steps_out : (steps : List (ℕ × ℕ)) → AllByRecursion (IsStep (length s.hosts)) steps → AllByRecursion (WritesOut names) (step_items steps)
  steps_out [] all = tt
  steps_out (step ∷ steps) all = (step_out step.0 step.1 all.0, steps_out steps all.1)

  abbrev body : List Item
  body = directive_items s.hosts ++ step_items s.steps

  all_out : AllByRecursion (WritesOut names) (printed_items s)
  all_out = (
    volume_out,
    all_append (WritesOut names) (map Host names) body (hosts_out s.hosts is.plans)
        (all_append (WritesOut names) (directive_items s.hosts) (step_items s.steps)
        (lists_out 0 s.hosts (omega (arith, length_names s.hosts)) is.plans) (steps_out s.steps is.steps)),
  )

  lines_of_items : (items : List Item) → AllByRecursion (WritesOut names) items → AllByRecursion AreOfLine (map (item_words names) items)
  lines_of_items [] all = tt
  lines_of_items (item ∷ items) all = (all.0.line, lines_of_items items all.1)

  spelled_items : (items : List Item) → AllByRecursion (WritesOut names) items → AllZip (SpellsItem names) (map (item_words names) items) items
  spelled_items [] all = tt
  spelled_items (item ∷ items) all = (all.0.spelled, spelled_items items all.1)

  kept_so : kept_lines (printed_text s) ≡ map (item_words names) (printed_items s)
  kept_so =
      ap kept_lines (sym (flat_map-map line_text (item_words names) (printed_items s)))
      ∙ lines_kept (map (item_words names) (printed_items s)) (lines_of_items (printed_items s) all_out)

  list_so : (host : ℕ) (plan : HostPlan) → slice_get s.hosts host ≡ Some plan → plan.list ≡ list_of host body
  list_so host plan there =
      sym (list_append host (directive_items s.hosts) (step_items s.steps)
      ∙ (ap (λ (ds : List Directive). list_of host (directive_items s.hosts) ++ ds) (no_list host s.steps)
      ∙ (append-nil (list_of host (directive_items s.hosts)) ∙ list_in host 0 s.hosts host plan there (omega arith))))

  steps_so : s.steps ≡ filter_map step_of body
  steps_so =
      sym (filter_map-append step_of (directive_items s.hosts) (step_items s.steps)
      ∙ (ap (λ (xs : List (ℕ × ℕ)). xs ++ filter_map step_of (step_items s.steps)) (no_steps_from 0 s.hosts) ∙ own_steps s.steps))

  pub printed_spells : length (printed_text s) ≤ most_bytes → SpellsText (printed_text s) s
  printed_spells few = record {
    body = body;
    of_body = all_append IsOfBody (directive_items s.hosts) (step_items s.steps) (of_body_from 0 s.hosts) (of_body_steps s.steps);
    lines = subst (λ (ks : List Words). AllZip (SpellsItem names) ks (printed_items s)) (sym kept_so) (spelled_items (printed_items s) all_out);
    lists = list_so;
    steps = steps_so;
    is_scenario = is;
    few_bytes = few;
  }

-- the same of a text that is printed
pub printed_bytes_spell : (s : Scenario) (bytes : List ℕ) → IsPrinted bytes s → IsScenario s → length bytes ≤ most_bytes → SpellsText bytes s
printed_bytes_spell s bytes printed is few =
    subst (λ (b : List ℕ). SpellsText b s) (sym printed.is)
    (printed_spells s is printed.id (subst (λ (b : List ℕ). length b ≤ most_bytes) printed.is few))

-- and so it is the text of a scenario that some other text is of
pub printed_bytes_read : (s : Scenario) (bytes other : List ℕ) → IsPrinted bytes s → IsScenarioText other s → length bytes ≤ most_bytes
    → IsScenarioText bytes s
printed_bytes_read s bytes other printed is few = record {
  in_order = record {
    spells = printed_bytes_spell s bytes printed is.in_order.spells.is_scenario few;
    few_sectors = is.in_order.few_sectors;
  };
  passes = is.passes;
}
