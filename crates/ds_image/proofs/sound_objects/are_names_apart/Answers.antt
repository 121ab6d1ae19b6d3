-- A name is new where the set didn't have it.
use Rattle.std.proofs.Common.{◌≡◌, cond, subst, Bool, true, false, not, take, map, refl, sym, ap, ◌∙◌, rules}
use Rattle.std.specs.Prelude.{bytes_eq}
use Rattle.std.specs.BTreeMap.{is_at}
use Rattle.std.specs.BTreeSet.{contains, Updates}
use Rattle.std.specs.Cmp.Lexicographic.{slice_cmp}
use Rattle.std.specs.List.{list_any}
use Rattle.std.specs.Ordering.{nat_cmp, is_eq}
use Rattle.std.proofs.lemmas.Bool.{false≢true}
use Rattle.ds_dir.specs.declared.sub_block.Entry.{Entry}
use Rattle.ds_image.proofs.FileTrees.NamesApart.{apart-none, apart-more, apart-not, known-more}
use Rattle.ds_image.proofs.sound_objects.are_names_apart.Goals as goal

not_false : (b : Bool) → not b ≡ false → b ≡ true
not_false true e = refl
not_false false e = absurd (cc)

not_true : (b : Bool) → not b ≡ true → b ≡ false
not_true true e = absurd (cc)
not_true false e = refl

pub loop-entry-init : goal.loop-entry-init
loop-entry-init c = record { apart = apart-none; known = λ q. ap (list_any (is_at (slice_cmp nat_cmp q))) c.new-names.ensures.empty }

pub returns-then-not-branch : goal.returns-then-not-branch
returns-then-not-branch c =
    let added : c.in_ok-insert.field-0 ≡ not (contains (slice_cmp nat_cmp) c.loop-entry.names c.copy-name.result) = search rules in
    let known : list_any (bytes_eq c.copy-name.result) (map (λ (e : Entry). e.name) (take c.loop-entry.entry-index c.args.entries.now)) ≡ true =
    sym (c.loop-entry.invariant.known c.copy-name.result) ∙ not_false _ (sym added ∙ c.if-not-branch.true) in
    let not_apart = apart-not c.args.entries.now c.loop-entry.entry-index c.entry-item.result c.loop-entry-test.true c.entry-item.is
    (subst (λ q. list_any (bytes_eq q) (map (λ (e : Entry). e.name) (take c.loop-entry.entry-index c.args.entries.now)) ≡ true) c.copy-name.ensures.same known) in
    (λ wrong. absurd (false≢true wrong), λ apart. absurd (not_apart apart))

pub loop-entry-preserved : goal.loop-entry-preserved
loop-entry-preserved c =
    let added : c.in_ok-insert.field-0 ≡ not (contains (slice_cmp nat_cmp) c.loop-entry.names c.copy-name.result) = search rules in
    let updates : Updates (slice_cmp nat_cmp) c.loop-entry.names c.insert.new.self c.copy-name.result true = search rules in
    let new : list_any (bytes_eq c.copy-name.result) (map (λ (e : Entry). e.name) (take c.loop-entry.entry-index c.args.entries.now)) ≡ false =
    sym (c.loop-entry.invariant.known c.copy-name.result) ∙ not_true _ (sym added ∙ c.if-not-branch.false) in
    let name : c.copy-name.result ≡ c.entry-item.result.name = c.copy-name.ensures.same in
    record {
      apart = apart-more c.args.entries.now c.loop-entry.entry-index c.entry-item.result c.loop-entry-test.true c.entry-item.is
          (subst (λ q. list_any (bytes_eq q) (map (λ (e : Entry). e.name) (take c.loop-entry.entry-index c.args.entries.now)) ≡ false) name new) c.loop-entry.invariant.apart;
      known = known-more c.args.entries.now c.loop-entry.entry-index c.entry-item.result (contains (slice_cmp nat_cmp) c.loop-entry.names) (contains (slice_cmp nat_cmp) c.insert.new.self)
          c.loop-entry-test.true c.entry-item.is c.loop-entry.invariant.known
          (λ q. updates.0 q ∙ ap (λ k. cond (is_eq (slice_cmp nat_cmp k q)) true (contains (slice_cmp nat_cmp) c.loop-entry.names q)) name);
    }
