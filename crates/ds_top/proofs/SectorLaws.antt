-- How sectors that are written one after another add up.
use Rattle.std.proofs.Common.{◌≡◌, ℕ, ◌+◌, ◌≤◌, List, [], ◌∷◌, ◌++◌, length, take, refl, sym, ap, subst, ◌∙◌, append-nil, append_assoc, length-append, arith, Option}
use Rattle.std.proofs.Math.Seq.{take-append-add}
use Rattle.std.proofs.lemmas.List.{take-append-le}
use Rattle.ds_base.specs.Outside.{Extends}
use Rattle.ds_base.specs.declared.sectors.Sector.{Sector}
use Rattle.ds_top.specs.Edges.{ExtendsByPart}
use Rattle.ds_top.specs.Images.{bytes_of}
use Rattle.ds_top.proofs.EdgeLaws.{Extends-nothing, Extends-more}

-- all sectors but these were written
pub record IsFrontWritten (old new : Option (List ℕ)) (before after : ℕ) (all left : List Sector) : Type 0 where
  pub written : List ℕ
  pub split : bytes_of all ≡ written ++ bytes_of left
  pub taken : Extends old new written
  pub faults : before ≤ after

pub IsFrontWritten-start : (old : Option (List ℕ)) (faults : ℕ) (all : List Sector) → IsFrontWritten old old faults faults all all
IsFrontWritten-start old faults all = record { written = []; split = refl; taken = Extends-nothing old; faults = omega arith }

split_next : (all left rest : List Sector) (first : Sector) (written : List ℕ) → bytes_of all ≡ written ++ bytes_of left → left ≡ first ∷ rest
    → bytes_of all ≡ written ++ (first.bytes ++ bytes_of rest)
split_next all left rest first written split is = split ∙ ap (λ (xs : List Sector). written ++ bytes_of xs) is

pub IsFrontWritten-next : (old mid new : Option (List ℕ)) (f h k : ℕ) (all left rest : List Sector) (first : Sector) → IsFrontWritten old mid f h all left
    → left ≡ first ∷ rest → Extends mid new first.bytes → h ≤ k → IsFrontWritten old new f k all rest
IsFrontWritten-next old mid new f h k all left rest first front is more later = record {
  written = front.written ++ first.bytes;
  split = split_next all left rest first front.written front.split is ∙ sym (append_assoc front.written first.bytes (bytes_of rest));
  taken = Extends-more old mid new _ _ front.taken more;
  faults = omega (arith, front.faults);
}

pub all_written : (old new : Option (List ℕ)) (f h : ℕ) (all left : List Sector) → IsFrontWritten old new f h all left → left ≡ [] → Extends old new (bytes_of all)
all_written old new f h all left front is =
    let split : bytes_of all ≡ front.written = front.split ∙ ap (λ (xs : List Sector). front.written ++ bytes_of xs) is ∙ append-nil front.written in
    subst (λ (bytes : List ℕ). Extends old new bytes) (sym split) front.taken

-- a front of the next sector is written
pub part_written : (old mid new : Option (List ℕ)) (f h : ℕ) (all left rest : List Sector) (first : Sector) → IsFrontWritten old mid f h all left
    → left ≡ first ∷ rest → ExtendsByPart mid new first.bytes → ExtendsByPart old new (bytes_of all)
part_written old mid new f h all left rest first front is part =
    let n = part.0 in
    let behind : List ℕ = first.bytes ++ bytes_of rest in
    let split : bytes_of all ≡ front.written ++ behind = split_next all left rest first front.written front.split is in
    let same : take (length front.written + n) (bytes_of all) ≡ front.written ++ take n first.bytes =
    ap (take (length front.written + n)) split ∙ take-append-add front.written behind n ∙ ap (λ (xs : List ℕ). front.written ++ xs) (take-append-le n first.bytes (bytes_of rest) part.1) in (
      length front.written + n,
      omega (arith, part.1, ap length split, length-append front.written behind, length-append first.bytes (bytes_of rest)),
      subst (λ (bytes : List ℕ). Extends old new bytes) (sym same) (Extends-more old mid new _ _ front.taken part.2),
    )
