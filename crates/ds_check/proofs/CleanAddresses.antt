-- Where addresses have no findings, what descriptors list are items, sub-blocks are spelled, and nothing stands past a file's
-- last block.
use Rattle.std.proofs.Common.{◌≡◌, ℕ, ◌+◌, ◌*◌, ◌-◌, ◌/◌, ◌%◌, ◌<◌, ◌≤◌, Bool, true, false, not, ◌&&◌, ◌||◌, leb, ltb, eqb, nat_lt, is_none, List, [], ◌∷◌, length, take, drop, get_or, slice_get, slice_index, Option, None, Some, IsSome, suc, refl, sym, ap, ◌∙◌, subst, inl, inr, arith}
use Rattle.std.specs.Prelude.{◌==◌, if◌then◌else◌}
use Rattle.std.specs.List.{flat_map, position_or_len}
use Rattle.std.proofs.lemmas.Bool.{false≢true, cases_Bool, cases_lt, eq-eqb, eqb-true, lt-ltb, leb-false}
use Rattle.std.proofs.lemmas.List.{get_or_past, get_or-take, get_or-drop, length-take, length-drop}
use Rattle.std.proofs.lemmas.List.Sums.{fails_before_first}
use Rattle.std.proofs.lemmas.Option.{slice_get_within, get_or_from_slice_get, slice_get-get_or}
use Rattle.ds_base.specs.Geometry.{items_of}
use Rattle.ds_base.specs.declared.geometry.Geom.{Geom}
use Rattle.ds_base.specs.declared.geometry.Kind.TheVariants.{Fd, Sb, Pb, Fb}
use Rattle.ds_base.specs.declared.names.NodeKind.{NodeKind}
use Rattle.ds_base.specs.declared.names.NodeKind.TheVariants as kinds
use Rattle.ds_fd.specs.Body.{most_count}
use Rattle.ds_fd.specs.declared.body.Body.{Body}
use Rattle.ds_tree.specs.Counts.{pointer_blocks}
use Rattle.ds_image_parts.specs.Looks.{Look}
use Rattle.ds_image_parts.specs.Objects.{addresses_in, subs_by, ptrs_by, blocks_by, tail_by, pointed_by, subs_of, ptrs_of, blocks_of, tail_of}
use Rattle.ds_image_parts.specs.Parts.{Parts, part_at}
use Rattle.ds_image_parts.specs.Readings.{ReadsParts}
use Rattle.ds_image.specs.Sound.{AreZero}
use Rattle.ds_image_tables.proofs.Spelling.Places.{at-append}
use Rattle.ds_image.proofs.Spelling.Sizes.{body_is, part_within}
use Rattle.ds_check.specs.declared.findings.Find.{Find}
use Rattle.ds_check.specs.declared.findings.Find.TheVariants.{Address, Room}
use Rattle.ds_check.specs.Addresses.{is_outside, is_bad_block, pointed_at, is_bad_address, past_last, first_past, is_first_past, most_addresses, address_finds, misaddressed, room_finds, unroomed, addresses_stage}
use Rattle.ds_check.specs.Rows.{find_if, row}
use Rattle.ds_check.proofs.CleanMetadata.{some-there, not-false}
use Rattle.ds_check.proofs.NoFinds.{both-none, not-found, row-none}

-- Tests

and-second : (a b : Bool) → (a && b) ≡ false → a ≡ true → b ≡ false
and-second true b none is = none
and-second false b none is = absurd (false≢true is)

or-three : (a b c : Bool) → (a || b || c) ≡ false → (a ≡ false) × (b ≡ false) × (c ≡ false)
or-three true b c none = absurd (cc)
or-three false true c none = absurd (cc)
or-three false false c none = (refl, refl, none)

chosen-first : (small a b : Bool) → small ≡ true → (if small then a else b) ≡ false → a ≡ false
chosen-first true a b is none = none
chosen-first false a b is none = absurd (false≢true is)

chosen-second : (small a b : Bool) → small ≡ false → (if small then a else b) ≡ false → b ≡ false
chosen-second true a b is none = absurd (false≢true (sym is))
chosen-second false a b is none = none

inside : (items : ℕ) (list : List ℕ) (i n : ℕ) → slice_get list i ≡ Some n → is_outside items list i ≡ false → n < items
inside items list i n at good =
    let within : ltb i (length list) ≡ true = lt-ltb i (length list) (slice_get_within list i n at) in
    let value : slice_index list i ≡ n = get_or_from_slice_get list i n 0 at in
    omega (arith, leb-false items (slice_index list i) (and-second (ltb i (length list)) (leb items (slice_index list i)) good within), value)

-- Lists of one length, one after another

pieces-at : (f : ℕ → List ℕ) (ns : List ℕ) (i x : ℕ) → ((k n : ℕ) → slice_get ns k ≡ Some n → length (f n) ≡ 128) → slice_get (flat_map f ns) i ≡ Some x
    → (q : ℕ) × ((r : ℕ) × ((n : ℕ) × (i ≡ 128 * q + r) × (r < 128) × (slice_get ns q ≡ Some n) × (slice_get (f n) r ≡ Some x)))
pieces-at f [] i x each at = absurd (cc)
pieces-at f (n ∷ ns) i x each at = elim (at-append (f n) (flat_map f ns) i x at) [
  | inl front ↦ (0, (i, (n, omega arith, omega (arith, each 0 n refl, slice_get_within (f n) i x front), refl, front)))
  | inr back ↦
      let rest = pieces-at f ns back.0 x (λ k m e. each (suc k) m e) back.2 in
      (suc rest.0, (rest.1.0, (rest.1.1.0, omega (arith, back.1, rest.1.1.1, each 0 n refl), rest.1.1.2, rest.1.1.3, rest.1.1.4)))
]

taken-at : (n : ℕ) (xs : List ℕ) (i x : ℕ) → slice_get (take n xs) i ≡ Some x → (i < n) × (slice_get xs i ≡ Some x)
taken-at n xs i x at =
    let within = slice_get_within (take n xs) i x at in
    let below : i < n = omega (arith, within, length-take n xs) in
    (below, slice_get-get_or xs i x (omega (arith, within, length-take n xs)) ∙ ap Some (sym (get_or-take n xs i x below) ∙ get_or_from_slice_get (take n xs) i x x at))

dropped-at : (n : ℕ) (xs : List ℕ) (i x : ℕ) → slice_get xs (n + i) ≡ Some x → slice_get (drop n xs) i ≡ Some x
dropped-at n xs i x at =
    slice_get-get_or (drop n xs) i x (omega (arith, slice_get_within xs (n + i) x at, length-drop n xs))
    ∙ ap Some (get_or-drop n xs i x ∙ get_or_from_slice_get xs (n + i) x x at)

-- where no number is told to be the first that isn't zero, all are zero
no-first : (xs : List ℕ) (i x : ℕ) → length xs ≤ position_or_len (λ y. not (y == 0)) xs → slice_get xs i ≡ Some x → x ≡ 0
no-first xs i x past at =
    let fails = fails_before_first (λ y. not (y == 0)) xs i 0 (omega (arith, past, slice_get_within xs i x at)) in
    sym (get_or_from_slice_get xs i x 0 at) ∙ eqb-true (get_or xs i 0) 0 (not-false (eqb (get_or xs i 0) 0) fails)

many : most_addresses ≡ 12288
unfolding most_addresses
many = refl

pointed-some : (p : Parts) (b : Body) (i n x : ℕ) → slice_get (ptrs_by b (Some kinds.File)) (i / 128) ≡ Some n
    → slice_get (addresses_in (part_at p.ptrs n)) (i % 128) ≡ Some x → pointed_at p b i ≡ Some x
pointed-some p b i n x there at = rw (there, pointed_at) at

past-some : (p : Parts) (b : Body) (n : ℕ) → slice_get (ptrs_by b (Some kinds.File)) (b.count / 128) ≡ Some n
    → past_last p b ≡ drop (b.count % 128) (addresses_in (part_at p.ptrs n))
past-some p b n there = rw (there, past_last) refl

small-pointers : (n : ℕ) → leb n 96 ≡ true → pointer_blocks n ≡ 0
small-pointers n small = rw small refl

large-pointers : (n : ℕ) → leb n 96 ≡ false → pointer_blocks n ≡ (n + 127) / 128
large-pointers n large = rw large refl

module _ (g : Geom) (look : Look) (p : Parts) (reads : ReadsParts g look p) (none : addresses_stage g p ≡ [])
    (pointers : (n : ℕ) → n < items_of g Pb → length (addresses_in (part_at p.ptrs n)) ≡ 128) where
  stages : (misaddressed g p ≡ []) × (unroomed g p ≡ [])
  stages = both-none (misaddressed g p) (unroomed g p) none

  good-address : (o : ℕ) (b : Body) (i : ℕ) → part_at p.bodies o ≡ Some b → i < 12288 → is_bad_address g p b b.kind i ≡ false
  good-address o b i there within =
      let below : o < items_of g Fd = omega (arith, part_within p.bodies o b there, reads.bodies.len) in
      let here : address_finds g p o (part_at p.bodies o) ≡ [] = row-none (items_of g Fd) (λ n. address_finds g p n (part_at p.bodies n)) stages.0 o below in
      let each : ℕ → List Find = λ k. find_if (is_bad_address g p b b.kind k) (Address o k) in
      let mine : row most_addresses each ≡ [] = ap (address_finds g p o) (sym there) ∙ here in
      not-found (is_bad_address g p b b.kind i) (Address o i) (row-none most_addresses each mine i (omega (arith, within, many)))

  good-as : (o : ℕ) (b : Body) (kind : NodeKind) (i : ℕ) → part_at p.bodies o ≡ Some b → b.kind ≡ Some kind → i < 12288 → is_bad_address g p b (Some kind) i ≡ false
  good-as o b kind i there is within = subst (λ k. is_bad_address g p b k i ≡ false) is (good-address o b i there within)

  module _ (o : ℕ) (b : Body) (there : part_at p.bodies o ≡ Some b) where
    first-few : (n i x : ℕ) → slice_get (take n b.addresses) i ≡ Some x → i < 12288
    first-few n i x at =
        omega (arith, slice_get_within (take n b.addresses) i x at, length-take n b.addresses, (body_is g look p o b reads there).widths.address_count)

    sub-item : (i n : ℕ) → b.kind ≡ Some kinds.Dir → slice_get (subs_by b (Some kinds.Dir)) i ≡ Some n → n < items_of g Sb
    sub-item i n is at = inside (items_of g Sb) (subs_by b (Some kinds.Dir)) i n at (good-as o b kinds.Dir i there is (first-few b.count i n at))

    module _ (is : b.kind ≡ Some kinds.File) where
      small-block : (i n : ℕ) → leb b.count 96 ≡ true → slice_get (take b.count b.addresses) i ≡ Some n → n < items_of g Fb
      small-block i n small at =
          inside (items_of g Fb) (take b.count b.addresses) i n at
          (chosen-first (leb b.count 96) _ _ small (good-as o b kinds.File i there is (first-few b.count i n at)))

      module _ (large : leb b.count 96 ≡ false) where
        good-parts : (i : ℕ) → i < 12288 → (is_outside (items_of g Pb) (ptrs_by b (Some kinds.File)) i ≡ false)
            × ((nat_lt i b.count && is_bad_block (items_of g Fb) (pointed_at p b i)) ≡ false) × (is_first_past p b i ≡ false)
        good-parts i within = or-three _ _ _ (chosen-second (leb b.count 96) _ _ large (good-as o b kinds.File i there is within))

        ptr-item : (i n : ℕ) → slice_get (ptrs_by b (Some kinds.File)) i ≡ Some n → n < items_of g Pb
        ptr-item i n at = inside (items_of g Pb) (ptrs_by b (Some kinds.File)) i n at (good-parts i (first-few (pointer_blocks b.count) i n at)).0

        most : b.count ≤ 12288
        most = omega (arith, subst (λ k. b.count ≤ most_count k) is (body_is g look p o b reads there).ranges.count_to)

        pointed : List ℕ
        pointed = pointed_by p b (Some kinds.File)

        piece : (i x : ℕ) → slice_get (pointed_by p b (Some kinds.File)) i ≡ Some x
            → (q : ℕ) × ((r : ℕ) × ((n : ℕ) × (i ≡ 128 * q + r) × (r < 128) × (slice_get (ptrs_by b (Some kinds.File)) q ≡ Some n) × (slice_get (addresses_in (part_at p.ptrs n)) r ≡ Some x)))
        piece i x at =
            pieces-at (λ n. addresses_in (part_at p.ptrs n)) (ptrs_by b (Some kinds.File)) i x (λ k n e. pointers n (ptr-item k n e)) at

        large-block : (i x : ℕ) → slice_get (take b.count (pointed_by p b (Some kinds.File))) i ≡ Some x → x < items_of g Fb
        large-block i x at =
            let taken = taken-at b.count (pointed_by p b (Some kinds.File)) i x at in
            let here = piece i x taken.1 in
            let q = here.0 in
            let r = here.1.0 in
            let n = here.1.1.0 in
            let by : i / 128 ≡ q = omega (arith, here.1.1.1, here.1.1.2) in
            let rest : i % 128 ≡ r = omega (arith, here.1.1.1, here.1.1.2) in
            let found : pointed_at p b i ≡ Some x =
            pointed-some p b i n x (ap (slice_get (ptrs_by b (Some kinds.File))) by ∙ here.1.1.3) (ap (slice_get (addresses_in (part_at p.ptrs n))) rest ∙ here.1.1.4) in
            let good = and-second (ltb i b.count) (is_bad_block (items_of g Fb) (pointed_at p b i)) (good-parts i (omega (arith, taken.0, most))).1 (lt-ltb i b.count taken.0) in
            leb-false (items_of g Fb) x (ap (is_bad_block (items_of g Fb)) (sym found) ∙ good)

        large-tail : (j x : ℕ) → slice_get (pointed_by p b (Some kinds.File)) (b.count + j) ≡ Some x → x ≡ 0
        large-tail j x at =
            let here = piece (b.count + j) x at in
            let q = here.0 in
            let r = here.1.0 in
            let n = here.1.1.0 in
            let more : 96 < b.count = leb-false b.count 96 large in
            let few : q < pointer_blocks b.count =
            omega (arith, slice_get_within (ptrs_by b (Some kinds.File)) q n here.1.1.3, length-take (pointer_blocks b.count) b.addresses) in
            let few_there : q < 96 = omega (
              arith,
              slice_get_within (ptrs_by b (Some kinds.File)) q n here.1.1.3,
              length-take (pointer_blocks b.count) b.addresses,
              (body_is g look p o b reads there).widths.address_count,
            ) in
            let last : b.count / 128 ≡ q = omega (arith, few, large-pointers b.count large, more, here.1.1.1, here.1.1.2) in
            let rest : b.count % 128 ≤ r = omega (arith, last, here.1.1.1) in
            let past : past_last p b ≡ drop (b.count % 128) (addresses_in (part_at p.ptrs n)) =
            past-some p b n (ap (slice_get (ptrs_by b (Some kinds.File))) last ∙ here.1.1.3) in
            let full : length (addresses_in (part_at p.ptrs n)) ≡ 128 = pointers n (ptr-item q n here.1.1.3) in
            let size : length (past_last p b) + b.count % 128 ≡ 128 =
            omega (arith, ap (length {A = ℕ}) past, length-drop (b.count % 128) (addresses_in (part_at p.ptrs n)), full, here.1.1.2, rest) in
            let reached : length (past_last p b) ≤ first_past p b = elim (cases_lt (first_past p b) (length (past_last p b))) [
              | inr ends ↦ ends
              | inl before ↦
                  let where_told : b.count + first_past p b < 12288 = omega (arith, before, size, last, few_there) in
                  let told = (good-parts (b.count + first_past p b) where_told).2 in
                  let unlike = and-second (ltb (first_past p b) (length (past_last p b))) (eqb (b.count + first_past p b) (b.count + first_past p b)) told
                  (lt-ltb (first_past p b) (length (past_last p b)) before) in
                  absurd (false≢true (sym unlike ∙ eq-eqb (b.count + first_past p b) (b.count + first_past p b) refl))
            ] in
            let place : b.count % 128 + (r - b.count % 128) ≡ r = omega (arith, rest) in
            let found : slice_get (past_last p b) (r - b.count % 128) ≡ Some x =
            ap (λ l. slice_get l (r - b.count % 128)) past
            ∙ dropped-at (b.count % 128) (addresses_in (part_at p.ptrs n)) (r - b.count % 128) x (ap (slice_get (addresses_in (part_at p.ptrs n))) place ∙ here.1.1.4) in
            no-first (past_last p b) (r - b.count % 128) x reached found

  -- What a descriptor lists, by its kind

  sub-by : (o : ℕ) (b : Body) (kind : Option NodeKind) (i n : ℕ) → part_at p.bodies o ≡ Some b → b.kind ≡ kind → slice_get (subs_by b kind) i ≡ Some n → n < items_of g Sb
  sub-by o b None i n there is at = absurd (cc)
  sub-by o b (Some kinds.Dir) i n there is at = sub-item o b there i n is at
  sub-by o b (Some kinds.File) i n there is at = absurd (cc)

  ptr-small : (b : Body) (i n : ℕ) → leb b.count 96 ≡ true → slice_get (ptrs_by b (Some kinds.File)) i ≡ Some n → ⊥
  ptr-small b i n is at =
      let none : slice_get (take 0 b.addresses) i ≡ Some n = ap (λ k. slice_get (take k b.addresses) i) (sym (small-pointers b.count is)) ∙ at in
      omega (arith, slice_get_within (take 0 b.addresses) i n none, length-take 0 b.addresses)

  ptr-by : (o : ℕ) (b : Body) (kind : Option NodeKind) (i n : ℕ) → part_at p.bodies o ≡ Some b → b.kind ≡ kind → slice_get (ptrs_by b kind) i ≡ Some n → n < items_of g Pb
  ptr-by o b None i n there is at = absurd (cc)
  ptr-by o b (Some kinds.Dir) i n there is at = absurd (cc)
  ptr-by o b (Some kinds.File) i n there is at = elim (cases_Bool (leb b.count 96)) [
    | inl small ↦ absurd (ptr-small b i n small at)
    | inr large ↦ ptr-item o b there is large i n at
  ]

  block-by : (o : ℕ) (b : Body) (kind : Option NodeKind) (i n : ℕ) → part_at p.bodies o ≡ Some b → b.kind ≡ kind → slice_get (blocks_by p b kind) i ≡ Some n → n < items_of g Fb
  block-by o b None i n there is at = absurd (cc)
  block-by o b (Some kinds.Dir) i n there is at = absurd (cc)
  block-by o b (Some kinds.File) i n there is at =
      let chosen : Bool → List ℕ = λ small. take b.count (if small then b.addresses else pointed_by p b (Some kinds.File)) in
      elim (cases_Bool (leb b.count 96)) [
        | inl small ↦ small-block o b there is i n small (ap (λ s. slice_get (chosen s) i) (sym small) ∙ at)
        | inr large ↦ large-block o b there is large i n (ap (λ s. slice_get (chosen s) i) (sym large) ∙ at)
      ]

  zero-tail : (n : ℕ) (xs : List ℕ) → ((j x : ℕ) → slice_get xs (n + j) ≡ Some x → x ≡ 0) → AreZero (drop n xs)
  zero-tail n xs each i = get_or-drop n xs i 0 ∙ (elim (cases_lt (n + i) (length xs)) [
    | inl within ↦ each i (get_or xs (n + i) 0) (slice_get-get_or xs (n + i) 0 within)
    | inr past ↦ get_or_past xs (n + i) 0 past
  ])

  pieces-none : (f : ℕ → List ℕ) (ns : List ℕ) (i x : ℕ) → ((k n : ℕ) → slice_get ns k ≡ Some n → ⊥) → slice_get (flat_map f ns) i ≡ Some x → ⊥
  pieces-none f [] i x each at = absurd (cc)
  pieces-none f (n ∷ ns) i x each at = each 0 n refl

  tail-by : (o : ℕ) (b : Body) (kind : Option NodeKind) → part_at p.bodies o ≡ Some b → b.kind ≡ kind → AreZero (tail_by p b kind)
  tail-by o b None there is = zero-tail b.count [] (λ j x at. absurd (cc))
  tail-by o b (Some kinds.Dir) there is = zero-tail b.count [] (λ j x at. absurd (cc))
  tail-by o b (Some kinds.File) there is = zero-tail b.count (pointed_by p b (Some kinds.File)) (λ j x at. elim (cases_Bool (leb b.count 96)) [
    | inl small ↦
        absurd (pieces-none (λ n. addresses_in (part_at p.ptrs n)) (ptrs_by b (Some kinds.File)) (b.count + j) x (λ k n e. ptr-small b k n small e) at)
    | inr large ↦ large-tail o b there is large j x at
  ])

  -- What each descriptor lists

  subs-at : (o i n : ℕ) (r : Option Body) → part_at p.bodies o ≡ r → slice_get (subs_of r) i ≡ Some n → n < items_of g Sb
  subs-at o i n None there at = absurd (cc)
  subs-at o i n (Some b) there at = sub-by o b b.kind i n there refl at

  ptrs-at : (o i n : ℕ) (r : Option Body) → part_at p.bodies o ≡ r → slice_get (ptrs_of r) i ≡ Some n → n < items_of g Pb
  ptrs-at o i n None there at = absurd (cc)
  ptrs-at o i n (Some b) there at = ptr-by o b b.kind i n there refl at

  blocks-at : (o i n : ℕ) (r : Option Body) → part_at p.bodies o ≡ r → slice_get (blocks_of p r) i ≡ Some n → n < items_of g Fb
  blocks-at o i n None there at = absurd (cc)
  blocks-at o i n (Some b) there at = block-by o b b.kind i n there refl at

  tails-at : (o : ℕ) (r : Option Body) → part_at p.bodies o ≡ r → AreZero (tail_of p r)
  tails-at o None there = λ i. refl
  tails-at o (Some b) there = tail-by o b b.kind there refl

  pub subs-listed : (o i n : ℕ) → slice_get (subs_of (part_at p.bodies o)) i ≡ Some n → n < items_of g Sb
  subs-listed o i n at = subs-at o i n (part_at p.bodies o) refl at

  pub ptrs-listed : (o i n : ℕ) → slice_get (ptrs_of (part_at p.bodies o)) i ≡ Some n → n < items_of g Pb
  ptrs-listed o i n at = ptrs-at o i n (part_at p.bodies o) refl at

  pub blocks-listed : (o i n : ℕ) → slice_get (blocks_of p (part_at p.bodies o)) i ≡ Some n → n < items_of g Fb
  blocks-listed o i n at = blocks-at o i n (part_at p.bodies o) refl at

  pub tails-zero : (o : ℕ) → AreZero (tail_of p (part_at p.bodies o))
  tails-zero o = tails-at o (part_at p.bodies o) refl

  -- only a descriptor that is there lists sub-blocks
  lister-there : (o i n : ℕ) (r : Option Body) → part_at p.bodies o ≡ r → slice_get (subs_of r) i ≡ Some n → o < items_of g Fd
  lister-there o i n None there at = absurd (cc)
  lister-there o i n (Some b) there at = omega (arith, part_within p.bodies o b there, reads.bodies.len)

  pub subs-spelled : (o i n : ℕ) → slice_get (subs_of (part_at p.bodies o)) i ≡ Some n → IsSome (part_at p.subs n)
  subs-spelled o i n at =
      let subs = subs_of (part_at p.bodies o) in
      let below : o < items_of g Fd = lister-there o i n (part_at p.bodies o) refl at in
      let rooms : room_finds g p o subs ≡ [] = row-none (items_of g Fd) (λ d. room_finds g p d (subs_of (part_at p.bodies d))) stages.1 o below in
      let missing : ℕ → Bool = λ m. nat_lt m (items_of g Sb) && is_none (part_at p.subs m) in
      let each : ℕ → List Find = λ k. find_if (missing (slice_index subs k)) (Room o (4 * k)) in
      let known : missing (slice_index subs i) ≡ false =
      not-found (missing (slice_index subs i)) (Room o (4 * i)) (row-none (length subs) each rooms i (slice_get_within subs i n at)) in
      let here : missing n ≡ false = ap missing (sym (get_or_from_slice_get subs i n 0 at)) ∙ known in
      some-there (part_at p.subs n) (and-second (ltb n (items_of g Sb)) (is_none (part_at p.subs n)) here (lt-ltb n (items_of g Sb) (subs-listed o i n at)))
