-- The entries of a directory, one after another.
use Rattle.std.proofs.Common.{◌≡◌, ℕ, ◌⊎◌, Bool, true, false, cond, ◌&&◌, T, List, [], ◌∷◌, ◌++◌, refl, sym, ap, subst, ◌∙◌, append-nil, append_assoc, ⊎_elim, inl, inr}
use Rattle.std.specs.Prelude.{Option, Some, None, slice_get, filter}
use Rattle.std.specs.declared.cmp.Ordering.{Ordering}
use Rattle.std.specs.declared.cmp.Ordering.TheVariants.{Less, Equal, Greater}
use Rattle.std.specs.Ordering.{nat_cmp, is_lt, ordering_reverse}
use Rattle.std.specs.Cmp.{tied_itself}
use Rattle.std.specs.Cmp.Lexicographic.{slice_cmp, nat_list_cmp_total}
use Rattle.std.specs.FinMap as maps
use Rattle.std.specs.FinMap.Entries.{below_all, is_sorted}
use Rattle.std.specs.List.{flat_map}
use Rattle.ds_tree.specs.Nodes.{Entries, FileTree, node_at}
use Rattle.ds_tree.specs.Trees.{entries_of}
use Rattle.ds_tree.specs.Steps.{is_above, entries_above}
use Rattle.ds_report.specs.Listing.{listing_below, path_in}

abbrev cmp : List ℕ → List ℕ → Ordering
cmp = slice_cmp nat_cmp

abbrev Entry : Type 0
Entry = List ℕ × ℕ

first : (a b : Bool) → T (a && b) → T a
first true b p = tt
first false b p = p

second : (a b : Bool) → T (a && b) → T b
second true b p = p
second false b p = absurd p

less : (o : Ordering) → T (is_lt o) → o ≡ Less
less Less p = refl
less Equal p = absurd p
less Greater p = absurd p

not_above_itself : (x : List ℕ) → is_lt (cmp x x) ≡ false
not_above_itself x = ap is_lt (tied_itself nat_list_cmp_total x)

-- what is below another name isn't above it
not_above : (x y : List ℕ) → cmp x y ≡ Less → is_lt (cmp y x) ≡ false
not_above x y h = ap is_lt (nat_list_cmp_total.antisymm y x ∙ ap ordering_reverse h)

abbrev above : Option (List ℕ) → List Entry → List Entry
above after es = filter (λ e. is_above after e.0) es

same_entry : (e f : Entry) → Some e ≡ Some f → e ≡ f
same_entry e f h = cc

no_items : (es : List Entry) → slice_get es 0 ≡ None → es ≡ []
no_items [] none = refl
no_items (e ∷ es) none = absurd (cc)

first_found : (b : Bool) (after : Option (List ℕ)) (e f : Entry) (es : List Entry) → slice_get (cond b (e ∷ above after es) (above after es)) 0 ≡ Some f → (e ≡ f) ⊎ (slice_get (above after es) 0 ≡ Some f)
first_found true after e f es found = inl (same_entry e f found)
first_found false after e f es found = inr found

-- the first entry above a name, among entries that are all above another one, is above that too
found_after : (x : List ℕ) (after : Option (List ℕ)) (es : List Entry) (f : Entry) → T (below_all cmp x es) → slice_get (above after es) 0 ≡ Some f → cmp x f.0 ≡ Less
found_after x after [] f low found = absurd (cc)
found_after x after (e ∷ es) f low found =
    ⊎_elim
    (λ (h : e ≡ f). ap (λ g. cmp x g.0) (sym h) ∙ less _ (first _ _ low))
    (λ (h : slice_get (above after es) 0 ≡ Some f). found_after x after es f (second _ _ low) h)
    (first_found (is_above after e.0) after e f es found)

above_later : (after : Option (List ℕ)) (x y : List ℕ) → is_above after x ≡ true → cmp x y ≡ Less → is_above after y ≡ true
above_later None x y h l = refl
above_later (Some a) x y h l = ap is_lt (nat_list_cmp_total.trans a x y (less _ (subst T (sym h) tt)) l)

all_above : (after : Option (List ℕ)) (x : List ℕ) (es : List Entry) → is_above after x ≡ true → T (below_all cmp x es) → above after es ≡ es
all_above after x [] h low = refl
all_above after x (e ∷ es) h low =
    rw (above_later after x e.0 h (less (cmp x e.0) (first _ (below_all cmp x es) low))) (ap (λ l. e ∷ l) (all_above after x es h (second _ _ low)))

all_above_itself : (x : List ℕ) (es : List Entry) → T (below_all cmp x es) → above (Some x) es ≡ es
all_above_itself x [] low = refl
all_above_itself x (e ∷ es) low =
    rw (ap is_lt (less (cmp x e.0) (first _ (below_all cmp x es) low))) (ap (λ l. e ∷ l) (all_above_itself x es (second _ _ low)))

next_at : (b : Bool) (after : Option (List ℕ)) (e f : Entry) (es : List Entry) → is_above after e.0 ≡ b → T (below_all cmp e.0 es) → (slice_get (above after es) 0 ≡ Some f → above after es ≡ f ∷ above (Some f.0) es) → slice_get (cond b (e ∷ above after es) (above after es)) 0 ≡ Some f → cond b (e ∷ above after es) (above after es) ≡ f ∷ above (Some f.0) (e ∷ es)
next_at true after e f es is low later found =
    let same : e ≡ f = same_entry e f found in
    let rest : above after es ≡ above (Some e.0) (e ∷ es) =
    all_above after e.0 es is low ∙ sym (rw (not_above_itself e.0) (all_above_itself e.0 es low)) in
    ap (λ l. e ∷ l) rest ∙ ap (λ g. g ∷ above (Some g.0) (e ∷ es)) same
next_at false after e f es is low later found =
    rw (not_above e.0 f.0 (found_after e.0 after es f low found)) (later found)

-- the entries above a name are the first of them, and those above that
above-next : (after : Option (List ℕ)) (es : List Entry) (f : Entry) → T (is_sorted cmp es) → slice_get (above after es) 0 ≡ Some f → above after es ≡ f ∷ above (Some f.0) es
above-next after [] f sorted found = absurd (cc)
above-next after (e ∷ es) f sorted found =
    next_at (is_above after e.0) after e f es refl (first _ _ sorted) (λ h. above-next after es f (second _ _ sorted) h) found

pub entries_above-next : (entries : Entries) (after : Option (List ℕ)) (name : List ℕ) (object : ℕ) → slice_get (entries_above entries after) 0 ≡ Some (name, object) → entries_above entries after ≡ (name, object) ∷ entries_above entries (Some name)
entries_above-next entries after name object found =
    above-next after (maps.entries entries) (name, object) (maps.entries_sorted entries) found

entries_above-none : (es : List Entry) → above None es ≡ es
entries_above-none [] = refl
entries_above-none (e ∷ es) = ap (λ l. e ∷ l) (entries_above-none es)

-- the lines of a directory's entries, one level lower
abbrev pub entry_lines : ℕ → FileTree → List ℕ → List Entry → List ℕ
entry_lines levels t path entries = flat_map (λ e. listing_below levels t (path_in path e.0) e.1) entries

-- the text has the lines of the entries up to a name
pub record IsListedTo (levels : ℕ) (t : FileTree) (path : List ℕ) (dir : ℕ) (old text : List ℕ) (after : Option (List ℕ)) : Type 0 where
  pub lines : text ++ entry_lines levels t path (entries_above (entries_of (node_at t dir)) after)
      ≡ old ++ entry_lines levels t path (maps.entries (entries_of (node_at t dir)))

pub IsListedTo-start : (levels : ℕ) (t : FileTree) (path : List ℕ) (dir : ℕ) (text : List ℕ) → IsListedTo levels t path dir text text None
IsListedTo-start levels t path dir text = record {
  lines = ap (λ l. text ++ entry_lines levels t path l) (entries_above-none (maps.entries (entries_of (node_at t dir))));
}

-- one more entry is listed
pub IsListedTo-next : (levels : ℕ) (t : FileTree) (path : List ℕ) (dir : ℕ) (old text text' : List ℕ) (after : Option (List ℕ)) (name : List ℕ) (object : ℕ) (path' : List ℕ) → IsListedTo levels t path dir old text after → slice_get (entries_above (entries_of (node_at t dir)) after) 0 ≡ Some (name, object) → path' ≡ path_in path name → text' ≡ text ++ listing_below levels t path' object → IsListedTo levels t path dir old text' (Some name)
IsListedTo-next levels t path dir old text text' after name object path' before found below written =
    let entries = entries_of (node_at t dir) in
    let rest = entry_lines levels t path (entries_above entries (Some name)) in
    record {
      lines =
          ap (λ l. l ++ rest) (written ∙ ap (λ p. text ++ listing_below levels t p object) below)
          ∙ (append_assoc text (listing_below levels t (path_in path name) object) rest
          ∙ (ap (λ l. text ++ entry_lines levels t path l) (sym (entries_above-next entries after name object found)) ∙ before.lines));
    }

-- no entry is left
pub IsListedTo-end : (levels : ℕ) (t : FileTree) (path : List ℕ) (dir : ℕ) (old text : List ℕ) (after : Option (List ℕ)) → IsListedTo levels t path dir old text after → slice_get (entries_above (entries_of (node_at t dir)) after) 0 ≡ None → text ≡ old ++ entry_lines levels t path (maps.entries (entries_of (node_at t dir)))
IsListedTo-end levels t path dir old text after before none =
    sym (append-nil text) ∙ (ap (λ l. text ++ entry_lines levels t path l) (sym (no_items _ none)) ∙ before.lines)
