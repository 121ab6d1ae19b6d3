-- The replies of each event, along replies that rise by their events.
use Rattle.std.proofs.Common.{◌≡◌, ◌≢◌, ℕ, suc, ◌+◌, ◌≤◌, ◌<◌, ⊎_elim, true, false, cond, List, [], ◌∷◌, ◌++◌, length, length-drop, take, drop, refl, sym, ap, ◌∙◌, append_assoc, arith}
use Rattle.std.specs.Prelude.{◌==◌, slice_index_or}
use Rattle.std.proofs.lemmas.List.{drop-drop}
use Rattle.std.specs.List.{flat_map, enumerate_from, AllByRecursion}
use Rattle.std.proofs.lemmas.Bool.Decides.{eqb_tells}
use Rattle.std.proofs.lemmas.List.Elements.{recursion_from_All}
use Rattle.std.proofs.Math.Seq.{drop-cons}
use Rattle.ds_tree.specs.declared.scenarios.Scenario.{Scenario}
use Rattle.ds_log.specs.declared.logs.Event.{Event}
use Rattle.ds_log.specs.declared.logs.Reply.{Reply}
use Rattle.ds_report.specs.Slots.{slot_line}
use Rattle.ds_log.specs.Logged.{AreInOrder}
use Rattle.ds_report.specs.Report.{given_in, reply_line, event_part, parts_of, death_line}

abbrev pub IsRising : List Reply → Type 0
IsRising [] = Unit {0}
IsRising (r ∷ replies) = AllByRecursion (λ q. r.event < q.event) replies × IsRising replies

pub IsRising-from_order : (replies : List Reply) → AreInOrder replies → IsRising replies
IsRising-from_order [] order = tt
IsRising-from_order (r ∷ replies) order = (
  recursion_from_All (λ q. r.event < q.event) replies (λ k d in_range. order 0 (suc k) d (omega arith) (omega arith)),
  IsRising-from_order replies (λ i j d less in_range. order (suc i) (suc j) d (omega arith) (omega arith)),
)

differs : (a b : ℕ) → a ≢ b → (a == b) ≡ false
differs a b apart = ⊎_elim (λ (h : ((a == b) ≡ true) × (a ≡ b)). absurd (apart h.1)) (λ (h : ((a == b) ≡ false) × (a ≢ b)). h.0) (eqb_tells a b)

-- no reply of a later event is given in an earlier one
none_given : (replies : List Reply) (n : ℕ) → AllByRecursion (λ q. n < q.event) replies → given_in replies n ≡ []
none_given [] n later = refl
none_given (r ∷ replies) n later =
    rw (differs r.event n (λ e. absurd (omega (arith, e, later.0)))) (none_given replies n later.1)

All-weaker_bound : (a b : ℕ) (replies : List Reply) → a ≤ b → AllByRecursion (λ q. b < q.event) replies → AllByRecursion (λ q. a < q.event) replies
All-weaker_bound a b [] le all = tt
All-weaker_bound a b (r ∷ replies) le all = (omega (arith, le, all.0), All-weaker_bound a b replies le all.1)

All-next_bound : (a b : ℕ) (replies : List Reply) → a ≤ b → AllByRecursion (λ q. b < q.event) replies → AllByRecursion (λ q. a + 1 ≤ q.event) replies
All-next_bound a b [] le all = tt
All-next_bound a b (r ∷ replies) le all = (omega (arith, le, all.0), All-next_bound a b replies le all.1)

-- the rest of the replies are those of the events from this index on
pub record IsTold (replies rest : List Reply) (n : ℕ) : Type 0 where
  pub rising : IsRising rest
  pub later : AllByRecursion (λ q. n ≤ q.event) rest
  pub same : (m : ℕ) → n ≤ m → given_in replies m ≡ given_in rest m

All-nothing_below : (replies : List Reply) → AllByRecursion (λ q. 0 ≤ q.event) replies
All-nothing_below [] = tt
All-nothing_below (r ∷ replies) = (omega arith, All-nothing_below replies)

pub IsTold-start : (replies : List Reply) → AreInOrder replies → IsTold replies replies 0
IsTold-start replies order =
    record { rising = IsRising-from_order replies order; later = All-nothing_below replies; same = λ m le. refl }

-- one event on: its replies are the first of the rest, if that is given in it
pub IsTold-next : (replies rest : List Reply) (n : ℕ) → IsTold replies rest n → (given_in rest n ≡ given_in (take 1 rest) n) × IsTold replies (drop (length (given_in (take 1 rest) n)) rest) (n + 1)
IsTold-next replies [] n told = (refl, record { rising = tt; later = tt; same = λ m le. told.same m (omega (arith, le)) })
IsTold-next replies (r ∷ rest) n told =
    ⊎_elim
    (λ (h : ((r.event == n) ≡ true) × (r.event ≡ n)). given r rest told h.0 h.1)
    (λ (h : ((r.event == n) ≡ false) × (r.event ≢ n)). not_given r rest told h.0 h.1)
    (eqb_tells r.event n)
  where
    given : (r : Reply) (rest : List Reply) → IsTold replies (r ∷ rest) n → (r.event == n) ≡ true → r.event ≡ n → (given_in (r ∷ rest) n ≡ given_in (take 1 (r ∷ rest)) n) × IsTold replies (drop (length (given_in (take 1 (r ∷ rest)) n)) (r ∷ rest)) (n + 1)
    given r rest told is same = rw is (
      ap (λ l. r ∷ l) (none_given rest n (All-weaker_bound n r.event rest (omega (arith, same)) told.rising.0)),
      record {
        rising = told.rising.1;
        later = All-next_bound n r.event rest (omega (arith, same)) told.rising.0;
        same = λ m le. told.same m (omega (arith, le)) ∙ rw (differs r.event m (λ e. absurd (omega (arith, e, same, le)))) refl;
      },
    )

    not_given : (r : Reply) (rest : List Reply) → IsTold replies (r ∷ rest) n → (r.event == n) ≡ false → r.event ≢ n → (given_in (r ∷ rest) n ≡ given_in (take 1 (r ∷ rest)) n) × IsTold replies (drop (length (given_in (take 1 (r ∷ rest)) n)) (r ∷ rest)) (n + 1)
    not_given r rest told is apart =
        let after : n < r.event = omega (arith, told.later.0, apart) in
        rw is (
          none_given rest n (All-weaker_bound n r.event rest (omega arith) told.rising.0),
          record {
            rising = told.rising;
            later = (omega arith, All-next_bound n r.event rest (omega arith) told.rising.0);
            same = λ m le. told.same m (omega (arith, le));
          },
        )

-- the text has the parts of the events before this index
pub record IsToldTo (s : Scenario) (events : List Event) (replies : List Reply) (old text : List ℕ) (told n : ℕ) : Type 0 where
  pub in_range : told ≤ length replies
  pub rest : IsTold replies (drop told replies) n
  pub parts : text ++ flat_map (λ e. event_part s events replies e) (enumerate_from n (drop n events)) ≡ old ++ parts_of s events replies

given_fits : (rest : List Reply) (n : ℕ) → length (given_in (take 1 rest) n) ≤ length rest
given_fits [] n = omega arith
given_fits (r ∷ rest) n = elim (r.event == n) as (λ b. length (cond b (r ∷ []) []) ≤ length (r ∷ rest)) [ true ↦ omega arith | false ↦ omega arith ]

-- nothing is told yet
pub IsToldTo-start : (s : Scenario) (events : List Event) (replies : List Reply) (text : List ℕ) → AreInOrder replies → IsToldTo s events replies text text 0 0
IsToldTo-start s events replies text order = record { in_range = omega arith; rest = IsTold-start replies order; parts = refl }

regroup : (text lines death rest : List ℕ) → text ++ lines ++ death ++ rest ≡ text ++ (lines ++ death ++ rest)
regroup text lines death rest =
    append_assoc (text ++ lines) death rest ∙ (append_assoc text lines (death ++ rest) ∙ ap (λ l. text ++ l) (sym (append_assoc lines death rest)))

regroup_part : (text slot lines death rest : List ℕ) → text ++ slot ++ lines ++ death ++ rest ≡ text ++ (slot ++ lines ++ death ++ rest)
regroup_part text slot lines death rest =
    regroup (text ++ slot) lines death rest ∙ (append_assoc text slot (lines ++ death ++ rest) ∙ ap (λ l. text ++ l) (sym (regroup slot lines death rest)))

-- the text with what is told of one more event: what it did to a slot, its replies, and a death
pub record TellsEvent (s : Scenario) (events : List Event) (given : List Reply) (n : ℕ) (e : Event) (text slotted replied died : List ℕ) : Type 0 where
  pub slot : slotted ≡ text ++ slot_line s e
  pub lines : replied ≡ slotted ++ flat_map (λ r. reply_line s (take (n + 1) events) r) given
  pub death : died ≡ replied ++ death_line s e

-- one more event is told
pub IsToldTo-next : (s : Scenario) (events : List Event) (replies : List Reply) (old text slotted replied died : List ℕ) (told count n : ℕ) (e : Event) → IsToldTo s events replies old text told n → n < length events → e ≡ slice_index_or events n e → count ≡ length (given_in (take 1 (drop told replies)) n) → TellsEvent s events (given_in (take 1 (drop told replies)) n) n e text slotted replied died → IsToldTo s events replies old died (told + count) (n + 1)
IsToldTo-next s events replies old text slotted replied died told count n e before in_range is_event counted tells =
    let rest = drop told replies in
    let next = IsTold-next replies rest n before.rest in
    let given : given_in replies n ≡ given_in (take 1 rest) n = before.rest.same n (omega arith) ∙ next.0 in
    let lines = λ (given : List Reply). flat_map (λ r. reply_line s (take (n + 1) events) r) given in
    let after = flat_map (λ f. event_part s events replies f) (enumerate_from (n + 1) (drop (n + 1) events)) in
    let more : suc n ≡ n + 1 = omega arith in
    let here : drop n events ≡ e ∷ drop (n + 1) events =
    drop-cons events n e in_range ∙ (ap (λ f. f ∷ drop (suc n) events) (sym is_event) ∙ ap (λ k. e ∷ drop k events) more) in
    record {
      in_range = omega (arith, given_fits rest n, length-drop told replies, counted, before.in_range);
      rest = rw (counted, ← drop-drop (length (given_in (take 1 rest) n)) told replies) next.1;
      parts =
          ap (λ t. t ++ after) (tells.death ∙ ap (λ t. t ++ death_line s e) (tells.lines ∙ ap (λ t. t ++ lines (given_in (take 1 rest) n)) tells.slot))
          ∙ (regroup_part text (slot_line s e) (lines (given_in (take 1 rest) n)) (death_line s e) after
          ∙ (ap (λ l. text ++ (slot_line s e ++ lines l ++ death_line s e ++ after)) (sym given)
          ∙ (ap (λ l. text ++ flat_map (λ f. event_part s events replies f) (enumerate_from n l)) (sym here) ∙ before.parts)));
    }
