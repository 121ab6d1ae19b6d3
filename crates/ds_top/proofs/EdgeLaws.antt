-- How pieces that are read or written one after another add up.
use Rattle.std.proofs.Common.{◌≡◌, ℕ, ◌+◌, ◌≤◌, ◌<◌, List, [], ◌++◌, length, take, drop, refl, sym, ap, ◌∙◌, append-nil, append_assoc, length-append, length-drop, arith}
use Rattle.std.proofs.Math.Seq.{take-add}
use Rattle.std.specs.Prelude.{Option, Some, None, IfSome}
use Rattle.ds_base.specs.Outside.{Extends, Continues, HasRisen}
use Rattle.ds_top.specs.Edges.{IsReadWhole}

-- the first bytes, so many, were taken, and faults did not fall
pub record IsWrittenTo (old new : Option (List ℕ)) (before after : ℕ) (bytes : List ℕ) (at : ℕ) : Type 0 where
  pub in_range : at ≤ length bytes
  pub taken : Extends old new (take at bytes)
  pub faults : before ≤ after

-- these bytes came, within the limit, and faults did not fall
pub record IsReadTo (old new : Option (List ℕ)) (before after : ℕ) (bytes : List ℕ) (limit : ℕ) : Type 0 where
  pub in_range : length bytes ≤ limit
  pub came : Continues old new bytes
  pub faults : before ≤ after

-- a count that rose after it did not fall has risen
pub HasRisen-later : (old mid new : ℕ) → old ≤ mid → HasRisen mid new → HasRisen old new
HasRisen-later old mid new later rises = omega arith

pub Extends-nothing : (o : Option (List ℕ)) → Extends o o []
Extends-nothing None = refl
Extends-nothing (Some taken) = ap Some (sym (append-nil taken))

pub Extends-more : (o m n : Option (List ℕ)) (xs ys : List ℕ) → Extends o m xs → Extends m n ys → Extends o n (xs ++ ys)
Extends-more None None n xs ys e f = f
Extends-more None (Some u) n xs ys e f = absurd (cc)
Extends-more (Some t) None n xs ys e f = absurd (cc)
Extends-more (Some t) (Some u) n xs ys e f =
    let mid : u ≡ t ++ xs = cc in
    f ∙ ap Some (ap (λ l. l ++ ys) mid ∙ append_assoc t xs ys)

-- one more piece is taken
pub IsWrittenTo-next : (old mid new : Option (List ℕ)) (f h k : ℕ) (bytes : List ℕ) (at n : ℕ) → IsWrittenTo old mid f h bytes at → n ≤ length (drop at bytes) → Extends mid new (take n (drop at bytes)) → h ≤ k → IsWrittenTo old new f k bytes (at + n)
IsWrittenTo-next old mid new f h k bytes at n written fits more later = record {
  in_range = omega (arith, written.in_range, fits, length-drop at bytes);
  taken = rw (take-add at n bytes) (Extends-more old mid new _ _ written.taken more);
  faults = omega (arith, written.faults);
}

pub Continues-nothing : (o : Option (List ℕ)) → Continues o o []
Continues-nothing None = refl
Continues-nothing (Some left) = refl

pub Continues-more : (o m n : Option (List ℕ)) (xs ys : List ℕ) → Continues o m xs → Continues m n ys → Continues o n (xs ++ ys)
Continues-more None None n xs ys e f = f
Continues-more None (Some u) n xs ys e f = absurd (cc)
Continues-more (Some t) None n xs ys e f = absurd e
Continues-more (Some t) (Some u) None xs ys e f = absurd f
Continues-more (Some t) (Some u) (Some v) xs ys e f = e ∙ ap (λ l. xs ++ l) f ∙ sym (append_assoc xs ys v)

-- what came before an end is all
pub IsReadWhole-at_end : (o m n : Option (List ℕ)) (bytes : List ℕ) → Continues o m bytes → Continues m n [] → IfSome m (λ left. left ≡ []) → IsReadWhole o n bytes
IsReadWhole-at_end None None n bytes e f ended = f
IsReadWhole-at_end None (Some u) n bytes e f ended = absurd (cc)
IsReadWhole-at_end (Some t) None n bytes e f ended = absurd e
IsReadWhole-at_end (Some t) (Some u) None bytes e f ended = absurd f
IsReadWhole-at_end (Some t) (Some u) (Some v) bytes e f ended =
    (e ∙ ap (λ l. bytes ++ l) ended ∙ append-nil bytes, ap Some (sym f ∙ ended))

-- where more came than the limit, more was left
pub more_was_left : (o n : Option (List ℕ)) (bytes : List ℕ) (limit : ℕ) → Continues o n bytes → limit < length bytes → IfSome o (λ left. limit < length left)
more_was_left None n bytes limit e over = tt
more_was_left (Some t) None bytes limit e over = absurd e
more_was_left (Some t) (Some v) bytes limit e over = omega (arith, ap length e, length-append bytes v)
