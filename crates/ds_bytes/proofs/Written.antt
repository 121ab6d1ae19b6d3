-- What a sector's writer keeps: behind what was written the sector is zero.
use Rattle.std.proofs.Common.{◌≡◌, ℕ, ◌+◌, ◌-◌, ◌*◌, ◌<◌, ◌≤◌, List, [], ◌∷◌, ◌++◌, length, get_or, take, drop, replicate, sym, ap, ◌∙◌, arith}
use Rattle.std.proofs.Math.Seq.{take-add}
use Rattle.std.proofs.lemmas.List.{append_assoc, append-nil, take_more, drop-drop, drop-replicate, take-replicate, take-append-drop, length-take-le}
use Rattle.std.proofs.lemmas.Slice.{drop-put_mid}
use borrow.Rule.Slice.PartMut.{put_mid}
use Rattle.ds_bytes.specs.Fields.{little, littles, zeros, padded}
use Rattle.ds_bytes.proofs.Little.{littles-nil, littles_push, littles-append, littles-zeros}

pub rest_stays : (at k : ℕ) (bytes : List ℕ) → drop at bytes ≡ zeros (512 - at) → drop (at + k) bytes ≡ zeros (512 - (at + k))
unfolding zeros
rest_stays at k bytes e =
    sym (drop-drop k at bytes) ∙ ap (drop k) e ∙ drop-replicate k (512 - at) 0
    ∙ ap (λ n. replicate n 0) (let same : 512 - at - k ≡ 512 - (at + k) = omega arith in same)

-- after more was put behind what was written
pub written : (at k : ℕ) (bytes more : List ℕ) → at ≤ length bytes → length more ≡ k → drop at bytes ≡ zeros (512 - at) → drop (at + k) (put_mid at (at + k - at) bytes more) ≡ zeros (512 - (at + k))
written at k bytes more h len e =
    drop-put_mid at (at + k - at) bytes more (at + k) (omega arith) h (omega arith) ∙ rest_stays at k bytes e

-- the zeros behind what was written, taken as written
pub zeros_written : (at k : ℕ) (bytes : List ℕ) → at + k ≤ 512 → drop at bytes ≡ zeros (512 - at) → take (at + k) bytes ≡ take at bytes ++ zeros k
unfolding zeros
zeros_written at k bytes h e =
    take-add at k bytes ∙ ap (λ r. take at bytes ++ take k r) e
    ∙ ap (λ r. take at bytes ++ r) (take-replicate k (512 - at) 0 (omega arith))

-- the whole sector, as what was written and zeros
pub whole_written : (at : ℕ) (bytes : List ℕ) → at ≤ length bytes → drop at bytes ≡ zeros (512 - at) → bytes ≡ padded (take at bytes)
unfolding padded
whole_written at bytes h e =
    sym (take-append-drop at bytes) ∙ ap (λ r. take at bytes ++ r) (e ∙ ap (λ n. zeros (512 - n)) (sym (length-take-le at bytes h)))

-- as many bytes are seen as were written
pub length-seen : (at : ℕ) (bytes seen : List ℕ) → at ≤ length bytes → take at bytes ≡ seen → length seen ≡ at
length-seen at bytes seen h e = sym (ap length e) ∙ length-take-le at bytes h

-- a list of numbers one longer
pub one_more : (start old new ns : List ℕ) (i n : ℕ) → i < length ns → old ≡ start ++ littles 4 (take i ns) → new ≡ old ++ little 4 n → n ≡ get_or ns i 0 → new ≡ start ++ littles 4 (take (i + 1) ns)
one_more start old new ns i n h before after value =
    after ∙ ap (λ r. r ++ little 4 n) before ∙ append_assoc start (littles 4 (take i ns)) (little 4 n)
    ∙ ap (λ r. start ++ r) (sym (littles_push 4 (take i ns) n) ∙ ap (λ x. littles 4 (take i ns ++ x ∷ [])) value ∙ ap (littles 4) (sym (take_more ns i 0 h)))

pub none_yet : (start ns : List ℕ) → start ≡ start ++ littles 4 (take 0 ns)
none_yet start ns = sym (ap (λ r. start ++ r) (littles-nil 4) ∙ append-nil start)

-- numbers, and zeros up to their room
pub numbers_padded : (start mid new ns : List ℕ) (k : ℕ) → mid ≡ start ++ littles 4 ns → new ≡ mid ++ zeros (4 * k) → new ≡ start ++ littles 4 (ns ++ zeros k)
numbers_padded start mid new ns k first then =
    then ∙ ap (λ r. r ++ zeros (4 * k)) first ∙ append_assoc start (littles 4 ns) (zeros (4 * k))
    ∙ ap (λ r. start ++ r) (ap (λ r. littles 4 ns ++ r) (sym (littles-zeros 4 k)) ∙ sym (littles-append 4 ns (zeros k)))
