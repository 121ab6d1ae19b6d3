-- A host rests where the test of its digest says so.
use Rattle.std.proofs.Common.{◌≡◌, ℕ, suc, zero, ◌⊎◌, inl, inr, Bool, true, false, ◌&&◌, List, [], ◌∷◌, Option, Some, None, refl, sym, ◌∙◌, ap, subst, arith}
use Rattle.std.specs.Prelude.{◌||◌, ◌==◌, not}
use Rattle.std.specs.List.{Contains, list_any}
use Rattle.std.proofs.lemmas.Bool.Decides.{nat_tests}
use Rattle.ds_base.specs.declared.names.Key.{Key}
use Rattle.ds_layout.specs.Places.{place_sector}
use Rattle.ds_layout.specs.declared.places.Place.TheVariants as places
use Rattle.ds_marks.specs.declared.slot.Slot.{Slot}
use Rattle.ds_marks.specs.declared.slot.Journal.{Journal}
use Rattle.ds_marks.specs.declared.slot.Journal.TheVariants.{Idle, Committed}
use Rattle.ds_tree.specs.declared.calls.CallOf.TheVariants.{OpenFile}
use Rattle.ds_tree.specs.declared.calls.HostCallOf.{HostCallOf}
use Rattle.ds_tree.specs.declared.calls.HostCallOf.TheVariants as calls
use Rattle.ds_tree.specs.declared.calls.TreeReply.TheVariants.{Opened}
use Rattle.ds_conduct.specs.declared.answers.HostAnswer.{HostAnswer}
use Rattle.ds_conduct.specs.declared.answers.HostAnswer.TheVariants.{Tree}
use Rattle.ds_marks.specs.SlotIn.{slot_in, is_idle}
use Rattle.ds_conduct.specs.Marks.{has_idle}
use Rattle.ds_conduct.specs.Digests.{Own, Owed, Digest, is_some}
use Rattle.ds_conduct.specs.Guards.{MayRest, OwnIdle, IsAnswered, IsOpened, IsClosed, ByClose, ByRemove, IsHeaderOf}
use Rattle.ds_conduct.specs.Settings.{Setting}
use Rattle.ds_conduct.specs.Resting.{opened_file, closed_file, is_header_of, rests, is_done, is_given}
use Rattle.ds_marks.proofs.Deciding.{first, second}

is_idle-is : (j : Journal) → is_idle j ≡ true → j ≡ Idle
is_idle-is Idle e = refl
is_idle-is (Committed txn count) e = absurd (cc)

any-none_with : (p : Owed → Bool) (y : Owed) (ys : List Owed) → (not (list_any p ys) ≡ true → (x : Owed) → Contains ys x → p x ≡ false)
    → (b : Bool) → p y ≡ b → not (b || list_any p ys) ≡ true → (x : Owed) → Contains (y ∷ ys) x → p x ≡ false
any-none_with p y ys more true test none x has = absurd (cc)
any-none_with p y ys more false test none x (zero, within, is) = let same : y ≡ x = is in subst (λ (z : Owed). p z ≡ false) same test
any-none_with p y ys more false test none x (suc k, within, is) = more none x (k, omega (arith, within), is)

any-none : (p : Owed → Bool) (xs : List Owed) → not (list_any p xs) ≡ true → (x : Owed) → Contains xs x → p x ≡ false
any-none p [] none x (k, within, is) = absurd (omega (arith, within))
any-none p (y ∷ ys) none x has = any-none_with p y ys (any-none p ys) (p y) refl none x has

left-false : (a b : Bool) → (a || b) ≡ false → a ≡ false
left-false true b e = e
left-false false b e = refl

right-false : (a b : Bool) → (a || b) ≡ false → b ≡ false
right-false true b e = absurd (cc)
right-false false b e = e

not-and : (b : Bool) → (true && not b) ≡ false → b ≡ true
not-and true e = refl
not-and false e = absurd (cc)

module _ (setting : Setting) (d : Digest) (now : ℕ) where
  idle-of : (own : Own) → has_idle (slot_in own.slot own.image.bytes) ≡ true → OwnIdle setting d now own
  idle-of own test = by_slot (slot_in own.slot own.image.bytes) refl test
    where
      by_slot : (o : Option Slot) → slot_in own.slot own.image.bytes ≡ o → has_idle o ≡ true → OwnIdle setting d now own
      by_slot None spelled e = absurd (cc)
      by_slot (Some s) spelled e = record { slot = s; spelled = spelled; idle = is_idle-is s.journal e }

  ended-of : (call : Option (HostCallOf Key)) (answer : Option HostAnswer) → d.call ≡ call → d.answer ≡ answer
      → (not (is_some call) || is_some answer) ≡ true → (d.call ≡ None) ⊎ IsAnswered setting d now
  ended-of None answer is_call is_answer test = inl is_call
  ended-of (Some call) None is_call is_answer test = absurd (cc)
  ended-of (Some call) (Some answer) is_call is_answer test = inr (answer, is_answer)

  opened-of : (call : Option (HostCallOf Key)) (answer : Option HostAnswer) (file : Key) → d.call ≡ call → d.answer ≡ answer
      → opened_file call answer ≡ Some file → IsOpened setting d now file
  opened-of (Some (calls.Tree (OpenFile file))) (Some (Tree (Opened blocks))) file' is_call is_answer e =
      let same : file ≡ file' = cc in subst (IsOpened setting d now) same (record { call = is_call; blocks = blocks; answer = is_answer })
  opened-of call answer file is_call is_answer e = absurd (cc)

  header-of : (file : Option Key) (at : ℕ) → is_header_of setting.geom file at ≡ true
      → (key : Key) × (file ≡ Some key) × IsHeaderOf setting.geom key at
  header-of None at test = absurd (cc)
  header-of (Some key) at test = (key, refl, grind (arith, nat_tests))

  closed-of : (file : Key) → IsClosed setting d now file → closed_file d.call d.answer ≡ Some file
  closed-of file (ByClose call answer) = ap (λ c. closed_file c d.answer) call ∙ ap (closed_file (Some (calls.Close file))) answer
  closed-of file (ByRemove c call answer) = ap (λ c. closed_file c d.answer) call ∙ ap (closed_file (Some (calls.Tree c))) answer

  header-test : (at k : ℕ) → at ≡ k → (at == k) ≡ true
  header-test at k e = grind (arith, nat_tests)

  pub rests-MayRest : rests setting.geom d ≡ true → (d.own ≡ None → d.owed ≡ []) → MayRest setting d now
  rests-MayRest test dropped =
      let ended = first (not (is_some d.call) || is_some d.answer) (is_done setting.geom d d.own) test in
      let done = second (not (is_some d.call) || is_some d.answer) (is_done setting.geom d d.own) test in
      let none = none-given d.own refl done in
      record {
        ended = ended-of d.call d.answer refl refl ended;
        idle = λ own holds. idle-of own (first (has_idle (slot_in own.slot own.image.bytes)) _ (ap (is_done setting.geom d) (sym holds)
            ∙ done));
        given = λ owed has new.
            let left = left-false (owed.is_new && not (is_header_of setting.geom (opened_file d.call d.answer) owed.at)) _
            (none owed has) in
            let kept = not-and (is_header_of setting.geom (opened_file d.call d.answer) owed.at)
            (ap (λ b. b && not (is_header_of setting.geom (opened_file d.call d.answer) owed.at)) (sym new) ∙ left) in
            let file = header-of (opened_file d.call d.answer) owed.at kept in
            (file.0, opened-of d.call d.answer file.0 refl refl file.1, file.2);
        closed = λ owed file has is_closed here.
            let right = right-false (owed.is_new && not (is_header_of setting.geom (opened_file d.call d.answer) owed.at))
            (is_header_of setting.geom (closed_file d.call d.answer) owed.at) (none owed has) in
            let test : is_header_of setting.geom (closed_file d.call d.answer) owed.at ≡ true =
            ap (λ f. is_header_of setting.geom f owed.at) (closed-of file is_closed)
            ∙ header-test owed.at (place_sector setting.geom (places.Header file.object)) here in
            let clash : true ≡ false = sym test ∙ right in cc;
      }
    where
      none-given : (own : Option Own) → d.own ≡ own → is_done setting.geom d own ≡ true → (owed : Owed) → Contains d.owed owed
          → is_given setting.geom d owed ≡ false
      none-given None holds done owed has = let e : d.owed
          ≡ [] = dropped holds in absurd (let h : Contains [] owed = subst (λ l. Contains l owed) e has in omega (arith, h.1))
      none-given (Some own) holds done owed has = any-none (is_given setting.geom d) d.owed (second (has_idle
          (slot_in own.slot own.image.bytes)) _ done) owed has
