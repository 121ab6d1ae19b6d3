-- No line passes the limit of the bytes.
use Rattle.std.proofs.Common.{◌≡◌, ℕ, ◌+◌, Bool, true, false, ◌&&◌, List, [], ◌∷◌, get_or, take, drop, Option, Some, None, ap}
use Rattle.std.specs.Prelude.{if◌then◌else◌, nat_lt, nat_le, count_by, sum_by}
use Rattle.ds_layout.specs.Places.{total_of}
use Rattle.ds_tree.specs.Lines.{Words, words_of, is_comment, kept}
use Rattle.ds_tree.specs.Grammar.{most_hosts, most_directives, most_steps}
use Rattle.ds_script.specs.declared.faults.LineFault.{LineFault}
use Rattle.ds_script.specs.declared.faults.What.{What}
use Rattle.ds_script.specs.declared.faults.What.TheVariants as whats
use Rattle.ds_script.specs.Faults.{most_sectors, line_fault, limit_passed, is_host_line, is_directive_line, is_step_line, turns_of, geometry_of, Large, in_scenario, PassesLimit}
use Rattle.ds_script.proofs.ItemEffects.{wants_call}
use Rattle.ds_script.proofs.LineOrder.{judged}

one_limit : (a : Bool) → (if a then Some whats.Volume else None) ≡ Some whats.Bytes → ⊥
one_limit true e = cc
one_limit false e = cc

three_limits : (a b c : Bool) → (if a then Some whats.Hosts else if b then Some whats.Directives else if c then Some whats.Steps else None) ≡ Some whats.Bytes → ⊥
three_limits true b c e = cc
three_limits false true c e = cc
three_limits false false true e = cc
three_limits false false false e = cc

limit_not_bytes : (before : List Words) (ws : Words) → limit_passed before ws ≡ Some whats.Bytes → ⊥
limit_not_bytes [] ws e = one_limit (nat_lt most_sectors (total_of (geometry_of ws))) e
limit_not_bytes (first ∷ before) ws e =
    three_limits (is_host_line ws && nat_le most_hosts (count_by is_host_line before))
    (is_directive_line ws && nat_le most_directives (count_by is_directive_line before))
    (is_step_line ws && nat_lt most_steps (sum_by turns_of before + turns_of ws)) e

judged_not_bytes : (fault : Option LineFault) (wants : Bool) (limit : Option What) → (limit ≡ Some whats.Bytes → ⊥)
    → judged fault wants limit ≡ Some (Large whats.Bytes) → ⊥
judged_not_bytes (Some why) wants limit other e = cc
judged_not_bytes None true limit other e = cc
judged_not_bytes None false None other e = cc
judged_not_bytes None false (Some what) other e = let is : what ≡ whats.Bytes = cc in other (ap (λ (w : What). Some w) is)

pub trouble_not_bytes : (before : List Words) (ws : Words) (behind : List (List ℕ)) (b : Bool)
    → (if b then None else in_scenario before ws behind) ≡ Some (Large whats.Bytes) → ⊥
trouble_not_bytes before ws behind true e = cc
trouble_not_bytes before ws behind false e =
    judged_not_bytes (line_fault before ws) (wants_call ws behind) (limit_passed before ws) (limit_not_bytes before ws) e

pub no_line_of_bytes : (lines : List (List ℕ)) → PassesLimit in_scenario lines whats.Bytes → ⊥
no_line_of_bytes lines h =
    let ws = words_of (get_or lines h.0 []) in
    trouble_not_bytes (kept (take h.0 lines)) ws (drop (h.0 + 1) lines) (is_comment ws) h.1.stands_not
