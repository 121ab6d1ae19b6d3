-- A page that is made entry by entry.
use Rattle.std.proofs.Common.{◌≡◌, ℕ, ◌+◌, ◌<◌, ◌≤◌, Bool, true, false, cond, List, [], ◌∷◌, ◌++◌, length, take, drop, map, Option, None, Some, sym, ap, ◌∙◌, arith, length-take, ◌-◌, ◌≢◌}
use Rattle.std.specs.List.{insert}
use Rattle.std.specs.FinMap as maps
use Rattle.std.proofs.lemmas.List.{map-append, append-nil, take_all, take-append-drop}
use Rattle.std.proofs.lemmas.List.Edits.{length-insert, insert-append_left}
use Rattle.std.proofs.lemmas.List.Elements.{filter-append}
use Rattle.std.proofs.lemmas.List.{take-append-le}
use Rattle.ds_base.specs.declared.names.Key.{Key}
use Rattle.ds_dir.specs.declared.sub_block.Entry.{Entry}
use Rattle.ds_plan_dirs.specs.Pages.{name_cmp, name_key, entries_past, page_names, place_in, put_new}
use Rattle.ds_plan_dirs.proofs.NamesInOrder.{entries_push, take_put, put_no_place, put_at_place}
use Rattle.ds_tree.specs.Steps.{is_above}

past_push : (after : Option (List ℕ)) (es : List Entry) (e : Entry) (above : Bool) → is_above after e.name ≡ above
    → entries_past after (es ++ e ∷ []) ≡ entries_past after es ++ cond above (e ∷ []) []
past_push after es e above is =
    filter-append (λ (e : Entry). is_above after e.name) es (e ∷ []) ∙ ap (λ b. entries_past after es ++ cond b (e ∷ []) []) is

-- an entry above the name is put at its place, and only the first 32 stay
pub page_more : (after : Option (List ℕ)) (es : List Entry) (e : Entry) (names : List (List ℕ × Key)) → is_above after e.name ≡ true
    → names ≡ page_names after es → take 32 (put_new e.name e.key names) ≡ page_names after (es ++ e ∷ [])
page_more after es e names above are =
    let before = entries_past after es in
    ap (λ l. take 32 (put_new e.name e.key l)) are
    ∙ sym (take_put 32 e.name e.key (maps.entries (maps.from_entries {R = name_cmp} (map name_key before))))
    ∙ ap (take 32) (sym (entries_push (map name_key before) e.name e.key))
    ∙ ap (λ l. take 32 (maps.entries (maps.from_entries {R = name_cmp} l))) (sym (map-append name_key before (e ∷ [])))
    ∙ ap (λ l. take 32 (maps.entries (maps.from_entries {R = name_cmp} (map name_key l)))) (sym (past_push after es e true above))

-- any other changes nothing
pub page_same : (after : Option (List ℕ)) (es : List Entry) (e : Entry) (names : List (List ℕ × Key)) → is_above after e.name ≡ false
    → names ≡ page_names after es → names ≡ page_names after (es ++ e ∷ [])
page_same after es e names below are =
    are ∙ ap (λ l. take 32 (maps.entries (maps.from_entries {R = name_cmp} (map name_key l)))) (sym (past_push after es e false below ∙ append-nil (entries_past after es)))

-- a name that is there already changes nothing
pub put_none : (k : List ℕ) (v : Key) (es : List (List ℕ × Key)) → length es ≤ 32 → place_in es k ≡ None → es ≡ take 32 (put_new k v es)
put_none k v es most none = sym (ap (take 32) (put_no_place k v es none) ∙ take_all 32 es most)

-- nor does one behind 32 others
pub put_end : (k : List ℕ) (v : Key) (es : List (List ℕ × Key)) (i : ℕ) → length es ≡ 32 → place_in es k ≡ Some i → i ≡ 32 → es ≡ take 32 (put_new k v es)
put_end k v es i full there end =
    let all : take 32 es ≡ es = take_all 32 es (omega (arith, full)) in
    sym (ap (take 32) ((put_at_place k v es i there).0 ∙ ap (λ j. insert es j (k, v)) end ∙ ap (λ l. l ++ (k, v) ∷ drop 32 es) all)
    ∙ take-append-le 32 es ((k, v) ∷ drop 32 es) (omega (arith, full)) ∙ all)

-- a full list from which the last goes has room for another before it
pub put_full : (k : List ℕ) (v : Key) (old new last : List (List ℕ × Key)) (i : ℕ) → old ≡ new ++ last → length new + 1 ≡ 32 → place_in old k ≡ Some i
    → i ≤ length new → insert new i (k, v) ≡ take 32 (put_new k v old)
put_full k v old new last i split count there within =
    let size : length (insert new i (k, v)) ≡ 32 = length-insert new i (k, v) within ∙ count in
    sym (ap (take 32) ((put_at_place k v old i there).0 ∙ ap (λ l. insert l i (k, v)) split ∙ insert-append_left new last i (k, v) within)
    ∙ take-append-le 32 (insert new i (k, v)) last (omega (arith, size)) ∙ take_all 32 (insert new i (k, v)) (omega (arith, size)))

pub put_room : (k : List ℕ) (v : Key) (old : List (List ℕ × Key)) (i : ℕ) → length old < 32 → place_in old k ≡ Some i
    → insert old i (k, v) ≡ take 32 (put_new k v old)
put_room k v old i room there =
    let at = put_at_place k v old i there in
    sym (ap (take 32) at.0 ∙ take_all 32 (insert old i (k, v)) (omega (arith, length-insert old i (k, v) at.1)))

-- so has one that is its first 31 names
pub put_popped : (k : List ℕ) (v : Key) (old s new : List (List ℕ × Key)) (i : ℕ) → s ≡ old → length old ≡ 32 → new ≡ take (length old - 1) old
    → place_in s k ≡ Some i → i ≤ length s → i ≢ 32 → insert new i (k, v) ≡ take 32 (put_new k v old)
put_popped k v old s new i same full popped there within other =
    let split : old ≡ new ++ drop (length old - 1) old = sym (ap (λ l. l ++ drop (length old - 1) old) popped ∙ take-append-drop (length old - 1) old) in
    let size : length new + 1 ≡ 32 = omega (arith, full, ap length popped ∙ length-take (length old - 1) old) in
    put_full k v old new (drop (length old - 1) old) i split size (ap (λ l. place_in l k) (sym same) ∙ there)
    (omega (arith, size, within, ap length same, full, other))

pub put_into_room : (k : List ℕ) (v : Key) (old s : List (List ℕ × Key)) (i : ℕ) → s ≡ old → length old ≤ 32 → length old ≢ 32
    → place_in s k ≡ Some i → insert old i (k, v) ≡ take 32 (put_new k v old)
put_into_room k v old s i same most other there = put_room k v old i (omega (arith, most, other)) (ap (λ l. place_in l k) (sym same) ∙ there)
