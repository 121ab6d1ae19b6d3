-- A name was among them where it isn't new.
use Rattle.std.proofs.Common.{◌≡◌, ◌||◌, cond, true, not, ap, sym, ◌∙◌, rules}
use Rattle.std.specs.Prelude.{bytes_eq}
use Rattle.std.specs.BTreeSet.{contains, Updates}
use Rattle.std.specs.Cmp.Lexicographic.{slice_cmp}
use Rattle.std.specs.Ordering.{nat_cmp}
use Rattle.std.proofs.lemmas.Map.Text.{is_eq-slice_cmp}
use Rattle.ds_check.specs.Entries.{is_known, has_name}
use Rattle.ds_check.proofs.MetNames.{not-not, put-or}
use Rattle.ds_check.proofs.entries.meet.Goals as goal

pub returns-clause-known : goal.returns-clause-known
returns-clause-known c =
    let known = contains (slice_cmp nat_cmp) c.args.names.now in
    let copied : c.in_ok-name.name ≡ c.in-Some.entry.name = c.in_ok-name.ensures in
    let added : c.in_ok-is_new.is_new ≡ not (known c.in_ok-name.name) = search rules in
    ap not added ∙ not-not (known c.in_ok-name.name) ∙ ap known copied ∙ sym (ap (is_known known) c.in-Some.is)

pub returns-clause-met : goal.returns-clause-met
returns-clause-met c = λ name.
    let known = contains (slice_cmp nat_cmp) c.args.names.now in
    let copied : c.in_ok-name.name ≡ c.in-Some.entry.name = c.in_ok-name.ensures in
    let updates : Updates (slice_cmp nat_cmp) c.args.names.now c.insert.new.self c.in_ok-name.name true = search rules in
    updates.0 name
    ∙ ap (λ b. cond b true (known name)) (is_eq-slice_cmp c.in_ok-name.name name ∙ ap (λ n. bytes_eq n name) copied)
    ∙ put-or (bytes_eq c.in-Some.entry.name name) (known name)
    ∙ ap (λ room. known name || has_name name room) (sym c.in-Some.is)
