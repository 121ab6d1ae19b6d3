-- Names that were met in a directory.
use Rattle.std.proofs.Common.{◌≡◌, ℕ, Bool, true, false, cond, not, ◌||◌, List, Option, None, Some, refl}
use Rattle.std.specs.List.{list_any}
use Rattle.ds_dir.specs.declared.sub_block.Entry.{Entry}
use Rattle.ds_check.specs.Entries.{is_known, has_name, is_named_in}

pub not-not : (b : Bool) → not (not b) ≡ b
not-not true = refl
not-not false = refl

-- what is there, or is put there
pub put-or : (b c : Bool) → cond b true c ≡ (c || b)
put-or true true = refl
put-or true false = refl
put-or false true = refl
put-or false false = refl

-- where the names of these rooms are known, a room's name is known exactly where it stands in one of them
pub known-named : (known : List ℕ → Bool) (rooms : List (Option Entry)) (room : Option Entry)
    → ((name : List ℕ) → known name ≡ list_any (has_name name) rooms) → is_known known room ≡ is_named_in rooms room
known-named known rooms None all = refl
known-named known rooms (Some e) all = all e.name
