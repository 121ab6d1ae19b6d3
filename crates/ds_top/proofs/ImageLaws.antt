-- How bytes are cut into sectors, and how they are read sector by sector.
use Rattle.std.proofs.Common.{◌≡◌, ◌≢◌, ℕ, ◌+◌, ◌-◌, ◌*◌, ◌≤◌, ◌<◌, List, [], ◌∷◌, ◌++◌, length, take, drop, refl, sym, ap, ◌∙◌, subst, append-nil, append_assoc, length-append, length-take-le, length-drop, take-add, take-take, take_at, drop_at, take_all, arith, Option}
use Rattle.std.specs.Prelude.{IfSome}
use Rattle.std.specs.List.{AllByRecursion}
use Rattle.std.proofs.lemmas.List.Concat.{flat_map-append}
use Rattle.std.proofs.lemmas.Slice.{take-put_mid}
use borrow.Rule.Slice.PartMut.{put_mid, same_len_mid}
use Rattle.ds_base.specs.Outside.{Continues}
use Rattle.ds_base.specs.declared.sectors.Sector.{Sector}
use Rattle.ds_top.specs.Images.{bytes_of, IsImage, most_image_bytes}
use Rattle.ds_top.specs.Promise.{OfInput}
use Rattle.ds_top.proofs.EdgeLaws.{Continues-nothing, Continues-more, IsReadWhole-at_end, more_was_left}

abbrev pub AreWhole : List Sector → Type 0
AreWhole sectors = AllByRecursion (λ (s : Sector). length s.bytes ≡ 512) sectors

pub length-bytes_of : (sectors : List Sector) → AreWhole sectors → length (bytes_of sectors) ≡ length sectors * 512
length-bytes_of [] whole = refl
length-bytes_of (s ∷ sectors) whole =
    omega (arith, length-append s.bytes (bytes_of sectors), whole.0, length-bytes_of sectors whole.1)

AreWhole-push : (sectors : List Sector) (s : Sector) → AreWhole sectors → length s.bytes ≡ 512 → AreWhole (sectors ++ s ∷ [])
AreWhole-push [] s whole size = (size, tt)
AreWhole-push (first ∷ sectors) s whole size = (whole.0, AreWhole-push sectors s whole.1 size)

bytes_of-push : (sectors : List Sector) (s : Sector) → bytes_of (sectors ++ s ∷ []) ≡ bytes_of sectors ++ s.bytes
bytes_of-push sectors s =
    flat_map-append (λ (s : Sector). s.bytes) sectors (s ∷ []) ∙ ap (λ l. bytes_of sectors ++ l) (append-nil s.bytes)

-- these sectors came, and the first bytes, so many, of the next
pub record IsPartRead (old new : Option (List ℕ)) (before after : ℕ) (sectors : List Sector) (part : List ℕ) (filled : ℕ) : Type 0 where
  pub came : List ℕ
  pub continues : Continues old new came
  pub split : came ≡ bytes_of sectors ++ take filled part
  pub whole : AreWhole sectors
  pub size : length part ≡ 512
  pub short : filled < 512
  pub few : length came ≤ most_image_bytes
  pub faults : before ≤ after

pub IsPartRead-start : (old : Option (List ℕ)) (faults : ℕ) (part : List ℕ) → length part ≡ 512 → IsPartRead old old faults faults [] part 0
IsPartRead-start old faults part size = record {
  came = [];
  continues = Continues-nothing old;
  split = refl;
  whole = tt;
  size = size;
  short = omega arith;
  few = omega arith;
  faults = omega arith;
}

-- the bytes that came, counted
counted : (sectors : List Sector) (part came : List ℕ) (filled : ℕ) → came ≡ bytes_of sectors ++ take filled part → AreWhole sectors → length part ≡ 512 → filled ≤ 512
    → length came ≡ length sectors * 512 + filled
counted sectors part came filled split whole size short =
    omega (arith, ap length split, length-append (bytes_of sectors) (take filled part), length-bytes_of sectors whole, length-take-le filled part (omega arith))

-- a part of a sector was read behind its first bytes, and so many bytes of it count
part_more : (filled n : ℕ) (part buf : List ℕ) → length part ≡ 512 → filled < 512 → length buf ≡ 512 - filled → n ≤ length buf
    → take (filled + n) (put_mid filled (512 - filled) part buf) ≡ take filled part ++ take n buf
part_more filled n part buf size short long few =
    let b : List ℕ = put_mid filled (512 - filled) part buf in
    let front : length (take filled part) ≡ filled = length-take-le filled part (omega arith) in
    let all : take (filled + length buf) b ≡ take filled part ++ buf = take-put_mid filled (512 - filled) part buf (filled + length buf) refl (omega arith) in
    sym (take-take (filled + n) (filled + length buf) b (omega arith)) ∙ ap (take (filled + n)) all ∙ take-add filled n (take filled part ++ buf)
    ∙ (λ k. take_at (take filled part) buf filled front k ++ take n (drop_at (take filled part) buf filled front k))

part_size : (filled : ℕ) (part buf : List ℕ) → length part ≡ 512 → filled < 512 → length buf ≡ 512 - filled → length (put_mid filled (512 - filled) part buf) ≡ 512
part_size filled part buf size short long =
    same_len_mid filled (512 - filled) part buf (omega (arith, length-take-le (512 - filled) (drop filled part) (omega (arith, length-drop filled part)))) ∙ size

more_split : (sectors : List Sector) (came part buf : List ℕ) (filled n : ℕ) → came ≡ bytes_of sectors ++ take filled part → length part ≡ 512 → filled < 512
    → length buf ≡ 512 - filled → n ≤ length buf → came ++ take n buf ≡ bytes_of sectors ++ take (filled + n) (put_mid filled (512 - filled) part buf)
more_split sectors came part buf filled n split size short long few =
    ap (λ l. l ++ take n buf) split ∙ append_assoc (bytes_of sectors) (take filled part) (take n buf)
    ∙ ap (λ l. bytes_of sectors ++ l) (sym (part_more filled n part buf size short long few))

-- more of a sector is read, and not yet all
pub IsPartRead-more : (old mid new : Option (List ℕ)) (f h k : ℕ) (sectors : List Sector) (part buf : List ℕ) (filled n : ℕ)
    → IsPartRead old mid f h sectors part filled → length buf ≡ 512 - filled → n ≤ length buf → Continues mid new (take n buf) → h ≤ k → filled + n ≢ 512
    → length sectors ≢ 131072 → IsPartRead old new f k sectors (put_mid filled (512 - filled) part buf) (filled + n)
IsPartRead-more old mid new f h k sectors part buf filled n read long few continues later unfilled room =
    let all : length read.came ≡ length sectors * 512 + filled = counted sectors part read.came filled read.split read.whole read.size (omega (arith, read.short)) in
    record {
      came = read.came ++ take n buf;
      continues = Continues-more old mid new _ _ read.continues continues;
      split = more_split sectors read.came part buf filled n read.split read.size read.short long few;
      whole = read.whole;
      size = part_size filled part buf read.size read.short long;
      short = omega (arith, read.short);
      few = omega (arith, all, read.few, read.short, length-append read.came (take n buf), length-take-le n buf few);
      faults = omega (arith, read.faults);
    }

-- a sector is read whole
pub IsPartRead-next : (old mid new : Option (List ℕ)) (f h k : ℕ) (sectors sectors' : List Sector) (part buf : List ℕ) (filled n : ℕ)
    → IsPartRead old mid f h sectors part filled → length buf ≡ 512 - filled → n ≤ length buf → Continues mid new (take n buf) → h ≤ k → filled + n ≡ 512
    → length sectors ≢ 131072 → sectors' ≡ sectors ++ record { bytes = put_mid filled (512 - filled) part buf } ∷ []
    → IsPartRead old new f k sectors' (put_mid filled (512 - filled) part buf) 0
IsPartRead-next old mid new f h k sectors sectors' part buf filled n read long few continues later full room pushed =
    let b : List ℕ = put_mid filled (512 - filled) part buf in
    let all : length read.came ≡ length sectors * 512 + filled = counted sectors part read.came filled read.split read.whole read.size (omega (arith, read.short)) in
    let size : length b ≡ 512 = part_size filled part buf read.size read.short long in
    let s : Sector = record { bytes = b } in
    let split : read.came ++ take n buf ≡ bytes_of sectors ++ take (filled + n) b = more_split sectors read.came part buf filled n read.split read.size read.short long few in
    let whole_part : take (filled + n) b ≡ b = take_all (filled + n) b (omega (arith, size, full)) in
    record {
      came = read.came ++ take n buf;
      continues = Continues-more old mid new _ _ read.continues continues;
      split = split ∙ ap (λ l. bytes_of sectors ++ l) whole_part ∙ sym (bytes_of-push sectors s) ∙ ap bytes_of (sym pushed) ∙ sym (append-nil (bytes_of sectors'));
      whole = subst AreWhole (sym pushed) (AreWhole-push sectors s read.whole size);
      size = size;
      short = omega arith;
      few = omega (arith, all, read.few, read.short, length-append read.came (take n buf), length-take-le n buf few);
      faults = omega (arith, read.faults);
    }

-- where more came with all sectors read, there were too many bytes
pub too_many : (old mid new : Option (List ℕ)) (f h : ℕ) (sectors : List Sector) (part buf : List ℕ) (filled n : ℕ)
    → IsPartRead old mid f h sectors part filled → 1 ≤ n → n ≤ length buf → Continues mid new (take n buf) → length sectors ≡ 131072
    → IfSome old (λ left. most_image_bytes < length left)
too_many old mid new f h sectors part buf filled n read some few continues full =
    let all : length read.came ≡ length sectors * 512 + filled = counted sectors part read.came filled read.split read.whole read.size (omega (arith, read.short)) in
    more_was_left old new (read.came ++ take n buf) most_image_bytes (Continues-more old mid new _ _ read.continues continues)
    (omega (arith, all, full, length-append read.came (take n buf), length-take-le n buf few))

pub image_of : (old mid new : Option (List ℕ)) (f h : ℕ) (sectors : List Sector) (part : List ℕ) (filled : ℕ)
    → IsPartRead old mid f h sectors part filled → Continues mid new [] → IfSome mid (λ left. left ≡ [])
    → OfInput old new (λ bytes. IsImage bytes sectors filled)
image_of old mid new f h sectors part filled read continues ended = record {
  input = read.came;
  read = IsReadWhole-at_end old mid new read.came read.continues continues ended;
  holds = record {
    cut = record {
      behind = take filled part;
      split = read.split;
      whole = read.whole;
      counted = length-take-le filled part (omega (arith, read.size, read.short));
      short = read.short;
    };
    few = read.few;
  };
}

-- so many bytes came
pub within : (old new : Option (List ℕ)) (f h : ℕ) (sectors : List Sector) (part : List ℕ) (filled : ℕ) → IsPartRead old new f h sectors part filled
    → length sectors * 512 + filled ≤ most_image_bytes
within old new f h sectors part filled read =
    omega (arith, read.few, counted sectors part read.came filled read.split read.whole read.size (omega (arith, read.short)))

pub count_within : (old new : Option (List ℕ)) (f h : ℕ) (sectors : List Sector) (part : List ℕ) (filled : ℕ) → IsPartRead old new f h sectors part filled
    → length sectors ≤ 131072
count_within old new f h sectors part filled read = omega (arith, within old new f h sectors part filled read)

-- bytes are cut into sectors in one way
same_sectors : (a b : List Sector) (x y : List ℕ) → AreWhole a → AreWhole b → length x < 512 → length y < 512 → bytes_of a ++ x ≡ bytes_of b ++ y → (a ≡ b) × (x ≡ y)
same_sectors [] [] x y wa wb lx ly e = (refl, e)
same_sectors [] (s ∷ b) x y wa wb lx ly e =
    absurd (omega (arith, lx, ap length e, length-append (s.bytes ++ bytes_of b) y, length-append s.bytes (bytes_of b), wb.0))
same_sectors (r ∷ a) [] x y wa wb lx ly e =
    absurd (omega (arith, ly, ap length e, length-append (r.bytes ++ bytes_of a) x, length-append r.bytes (bytes_of a), wa.0))
same_sectors (r ∷ a) (s ∷ b) x y wa wb lx ly e =
    let parts : r.bytes ++ (bytes_of a ++ x) ≡ s.bytes ++ (bytes_of b ++ y) = sym (append_assoc r.bytes (bytes_of a) x) ∙ e ∙ append_assoc s.bytes (bytes_of b) y in
    let heads : r.bytes ≡ s.bytes = sym (take_at r.bytes (bytes_of a ++ x) 512 wa.0) ∙ ap (take 512) parts ∙ take_at s.bytes (bytes_of b ++ y) 512 wb.0 in
    let tails : bytes_of a ++ x ≡ bytes_of b ++ y = sym (drop_at r.bytes (bytes_of a ++ x) 512 wa.0) ∙ ap (drop 512) parts ∙ drop_at s.bytes (bytes_of b ++ y) 512 wb.0 in
    let sector : List ℕ → Sector = λ bytes. record { bytes = bytes } in
    let first : r ≡ s = ap sector heads in
    let rest : (a ≡ b) × (x ≡ y) = same_sectors a b x y wa.1 wb.1 lx ly tails in
    let others : a ≡ b = rest.0 in
    (cc, rest.1)

-- bytes are one image
pub same_image : (bytes : List ℕ) (a b : List Sector) (n m : ℕ) → IsImage bytes a n → IsImage bytes b m → (a ≡ b) × (n ≡ m)
same_image bytes a b n m first second =
    let same : (a ≡ b) × (first.cut.behind ≡ second.cut.behind) = same_sectors a b first.cut.behind second.cut.behind first.cut.whole second.cut.whole
    (omega (arith, first.cut.counted, first.cut.short)) (omega (arith, second.cut.counted, second.cut.short)) (sym first.cut.split ∙ second.cut.split) in
    (same.0, sym first.cut.counted ∙ ap length same.1 ∙ second.cut.counted)
