-- Tables of fields of one form that are spelled alike are one.
use Rattle.std.proofs.Common.{◌≡◌, ℕ, ◌*◌, ◌^◌, ◌<◌, List, [], ◌∷◌, ◌++◌, length, refl, sym, ap, ◌∙◌, arith}
use Rattle.std.proofs.lemmas.List.{append_assoc, append-nil, length-append}
use Rattle.ds_bytes.specs.Fields.{little, littles, front, AllBelow, Field, Num, Raw, Nums, field_bytes, field_size, kind_of, FieldFits, spelled_after, spelled, sector_of_fields, kinds, fields_size, FieldsFit}
use Rattle.ds_bytes.proofs.Fronts.{front-padded}
use Rattle.ds_bytes.proofs.Little.{append_parts, length-little, length-littles, little_same, littles_same}

-- the fields, the last first put to its neighbour
abbrev pub joined : List Field → List ℕ
joined [] = []
joined (f ∷ fs) = field_bytes f ++ joined fs

pub spelled_after-joined : (bytes : List ℕ) (fs : List Field) → spelled_after bytes fs ≡ bytes ++ joined fs
spelled_after-joined bytes [] = sym (append-nil bytes)
spelled_after-joined bytes (f ∷ fs) =
    spelled_after-joined (bytes ++ field_bytes f) fs ∙ append_assoc bytes (field_bytes f) (joined fs)

pub spelled-joined : (fs : List Field) → spelled fs ≡ joined fs
spelled-joined fs = spelled_after-joined [] fs

pub length-field_bytes : (f : Field) → FieldFits f → length (field_bytes f) ≡ field_size f
length-field_bytes (Num n x) h = length-little n x
length-field_bytes (Raw n xs) h = h
length-field_bytes (Nums n k xs) h = length-littles n xs ∙ ap (λ m. n * m) h.0

pub length-joined : (fs : List Field) → FieldsFit fs → length (joined fs) ≡ fields_size fs
length-joined [] h = refl
length-joined (f ∷ fs) h =
    omega (arith, length-append (field_bytes f) (joined fs), length-field_bytes f h.0, length-joined fs h.1)

pub length-spelled : (fs : List Field) → FieldsFit fs → length (spelled fs) ≡ fields_size fs
length-spelled fs h = ap length (spelled-joined fs) ∙ length-joined fs h

field_size-kind : (f g : Field) → kind_of f ≡ kind_of g → field_size f ≡ field_size g
field_size-kind (Num n x) (Num m y) e = cc
field_size-kind (Raw n x) (Raw m y) e = cc
field_size-kind (Nums n k x) (Nums m l y) e =
    let width : n ≡ m = cc in
    let count : k ≡ l = cc in
    rw (width, count) refl
field_size-kind (Num n x) (Raw m y) e = cc
field_size-kind (Num n x) (Nums m l y) e = cc
field_size-kind (Raw n x) (Num m y) e = cc
field_size-kind (Raw n x) (Nums m l y) e = cc
field_size-kind (Nums n k x) (Num m y) e = cc
field_size-kind (Nums n k x) (Raw m y) e = cc

num_same : (n m x y : ℕ) → n ≡ m → x < 256 ^ n → y < 256 ^ m → little n x ≡ little m y → Num n x ≡ Num m y
num_same n m x y w p q e =
    let below : y < 256 ^ n = rw w q in
    let same : little n x ≡ little n y = rw w (rw w at e) in
    let value : x ≡ y = little_same n x y p below same in
    rw (w, value) refl

nums_same : (n m j l : ℕ) (x y : List ℕ) → n ≡ m → j ≡ l → (length x ≡ j) × AllBelow (256 ^ n) x → (length y ≡ l) × AllBelow (256 ^ m) y → littles n x ≡ littles m y → Nums n j x ≡ Nums m l y
nums_same n m j l x y w k p q e =
    let below : AllBelow (256 ^ n) y = rw w q.1 in
    let len : length x ≡ length y = p.0 ∙ k ∙ sym q.0 in
    let same : littles n x ≡ littles n y = rw w (rw w at e) in
    let value : x ≡ y = littles_same n x y len p.1 below same in
    rw (w, k, value) refl

field_same : (f g : Field) → kind_of f ≡ kind_of g → FieldFits f → FieldFits g → field_bytes f ≡ field_bytes g → f ≡ g
field_same (Num n x) (Num m y) k p q e = num_same n m x y (cc) p q e
field_same (Raw n x) (Raw m y) k p q e =
    let width : n ≡ m = cc in
    rw (width, e) refl
field_same (Nums n j x) (Nums m l y) k p q e = nums_same n m j l x y (cc) (cc) p q e
field_same (Num n x) (Raw m y) k p q e = absurd (cc)
field_same (Num n x) (Nums m l y) k p q e = absurd (cc)
field_same (Raw n x) (Num m y) k p q e = absurd (cc)
field_same (Raw n x) (Nums m l y) k p q e = absurd (cc)
field_same (Nums n j x) (Num m y) k p q e = absurd (cc)
field_same (Nums n j x) (Raw m y) k p q e = absurd (cc)

joined_same : (fs gs : List Field) → kinds fs ≡ kinds gs → FieldsFit fs → FieldsFit gs → joined fs ≡ joined gs → fs ≡ gs
joined_same [] [] k p q e = refl
joined_same [] (g ∷ gs) k p q e = absurd (cc)
joined_same (f ∷ fs) [] k p q e = absurd (cc)
joined_same (f ∷ fs) (g ∷ gs) k p q e =
    let cells : kind_of f ∷ kinds fs ≡ kind_of g ∷ kinds gs = k in
    let kind : kind_of f ≡ kind_of g = cc in
    let others : kinds fs ≡ kinds gs = cc in
    let len : length (field_bytes f) ≡ length (field_bytes g) =
    length-field_bytes f p.0 ∙ field_size-kind f g kind ∙ sym (length-field_bytes g q.0) in
    let parts = append_parts (field_bytes f) (joined fs) (field_bytes g) (joined gs) len e in
    let head : f ≡ g = field_same f g kind p.0 q.0 parts.0 in
    let tail : fs ≡ gs = joined_same fs gs others p.1 q.1 parts.1 in
    rw (head, tail) refl

-- tables that are spelled alike, also where they are less than a sector
pub same_fields : (fs gs : List Field) → kinds fs ≡ kinds gs → FieldsFit fs → FieldsFit gs → spelled fs ≡ spelled gs → fs ≡ gs
same_fields fs gs k p q e = joined_same fs gs k p q (sym (spelled-joined fs) ∙ e ∙ spelled-joined gs)

-- what was read, field by field, from the first n bytes is what the sector spells
pub read_same : (n : ℕ) (fs gs : List Field) (bytes : List ℕ) → kinds fs ≡ kinds gs → fields_size gs ≡ n → FieldsFit fs → FieldsFit gs → front n bytes ≡ spelled fs → bytes ≡ sector_of_fields gs → fs ≡ gs
read_same n fs gs bytes k size p q r e =
    same_fields fs gs k p q (sym r ∙ ap (front n) e ∙ front-padded n (spelled gs) (length-spelled gs q ∙ size))
