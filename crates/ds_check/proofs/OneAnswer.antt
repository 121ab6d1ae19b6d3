-- Sectors have one answer of a check.
use Rattle.std.proofs.Common.{◌≡◌, ℕ, List, [], ◌∷◌, length, map, min, slice_get, Result, Ok, Err, refl, sym, ap, ◌∙◌, subst, inl, inr}
use Rattle.std.specs.Prelude.{IfOk, IfErr}
use Rattle.ds_base.specs.Geometry.{clusters_of, items_of}
use Rattle.ds_base.specs.declared.geometry.Geom.{Geom}
use Rattle.ds_base.specs.declared.geometry.Kind.{Kind}
use Rattle.ds_base.specs.declared.geometry.Kind.TheVariants.{Fd, Sb, Pb, Fb}
use Rattle.ds_base.specs.declared.sectors.Sector.{Sector}
use Rattle.ds_layout.specs.Places.{total_of}
use Rattle.ds_layout.specs.Volume.{vol_bytes}
use Rattle.ds_layout.proofs.FirstSectors.{vol_same}
use Rattle.ds_image_parts.specs.Parts.{Parts}
use Rattle.ds_image_parts.specs.Readings.{ReadsParts, SpellsSlot}
use Rattle.ds_image_parts.proofs.Spelling.Decoded.{decoded_same, reading_same}
use Rattle.ds_image_parts.proofs.Journaling.OneLogical.{logical_once}
use Rattle.ds_image_parts.proofs.Spelling.Readings.{parts_same}
use Rattle.ds_check.specs.Checks.{AreFindingsOf, IsCheckFault, IsCheckAnswer, OrNoMemory}
use Rattle.ds_check.specs.Controls.{Controls, owners_of, SpellsId, SpellsOwner, SpellsCluster, SpellsPending, ReadsControls}
use Rattle.ds_check.specs.Findings.{AreLost, AreFoundOrLost, found_in, AreFoundIn, AreFoundBehind, AreFoundFrom, AreFoundInFront, AreFindings}
use Rattle.ds_check.specs.Journals.{journals_stage}
use Rattle.ds_check.specs.Headers.{headers_stage}
use Rattle.ds_check.specs.Rows.{first_found}
use Rattle.ds_check.specs.Volumes.{SpellsVolume, AreOfVolume, IsBadImage}
use Rattle.ds_check.specs.declared.checking.CheckFault.{CheckFault}
use Rattle.ds_check.specs.declared.checking.CheckFault.TheVariants.{NoMemory, BadImage}
use Rattle.ds_check.specs.declared.findings.Find.{Find}
use Rattle.ds_check.specs.declared.findings.Find.TheVariants.{Lost}
use Rattle.ds_check.proofs.RisingLists.{increasing-same}

-- the first sector spells one volume
pub volume-once : (sectors : List Sector) (g h : Geom) (a b : List ℕ) → SpellsVolume sectors g a → SpellsVolume sectors h b → (g ≡ h) × (a ≡ b)
volume-once sectors g h a b one two =
    let same : one.1.0 ≡ two.1.0 = cc (one.1.1, two.1.1) in
    let bytes : vol_bytes g a ≡ vol_bytes h b = sym one.1.2 ∙ ap (λ (s : Sector). s.bytes) same ∙ two.1.2 in
    vol_same g h a b one.0 two.0 bytes

-- and those that control the volume spell one thing
controls-once : (g : Geom) (sectors : List Sector) (c d : Controls) → ReadsControls g sectors c → ReadsControls g sectors d → c ≡ d
controls-once g sectors c d r s =
    let volume = decoded_same c.volume d.volume (SpellsId g (slice_get sectors)) r.volume s.volume in
    let slots = reading_same g.slots (SpellsSlot g (slice_get sectors)) c.slots d.slots r.slots s.slots in
    let descriptors = reading_same (items_of g Fd) (SpellsOwner g (slice_get sectors)) c.descriptors d.descriptors r.descriptors s.descriptors in
    let clusters : (kind : Kind) → owners_of c kind ≡ owners_of d kind =
    λ kind. reading_same (clusters_of g kind) (SpellsCluster g (slice_get sectors) kind) (owners_of c kind) (owners_of d kind) (r.clusters kind) (s.clusters kind) in
    let pending = reading_same g.slots (SpellsPending g sectors) c.pending d.pending r.pending s.pending in
    λ i. record {
      volume = volume i;
      slots = slots i;
      descriptors = descriptors i;
      fd_clusters = clusters Fd i;
      sb_clusters = clusters Sb i;
      pb_clusters = clusters Pb i;
      fb_clusters = clusters Fb i;
      pending = pending i;
    }

front-once : (g : Geom) (id : List ℕ) (sectors : List Sector) (xs ys : List Find) → AreFoundInFront g id sectors xs → AreFoundInFront g id sectors ys → xs ≡ ys
front-once g id sectors xs ys a b =
    a.found ∙ ap (λ (c : Controls). first_found (headers_stage g id c ∷ journals_stage g c ∷ [])) (controls-once g sectors a.controls b.controls a.reads b.reads) ∙ sym b.found

-- the lost objects are one rising list
lost-once : (p : Parts) (xs ys : List Find) → AreLost p xs → AreLost p ys → xs ≡ ys
lost-once p xs ys a b =
    let same = increasing-same a.objects b.objects a.rising b.rising (λ o has. (b.exact o).1 ((a.exact o).0 has)) (λ o has. (a.exact o).1 ((b.exact o).0 has)) in
    a.told ∙ ap (map Lost) same ∙ sym b.told

or-lost-once : (p : Parts) (before xs ys : List Find) → AreFoundOrLost p before xs → AreFoundOrLost p before ys → xs ≡ ys
or-lost-once p [] xs ys a b = lost-once p xs ys a b
or-lost-once p (first ∷ more) xs ys a b = a ∙ sym b

behind-once : (g : Geom) (sectors : List Sector) (xs ys : List Find) → AreFoundBehind g sectors xs → AreFoundBehind g sectors ys → xs ≡ ys
behind-once g sectors xs ys a b =
    let image : a.image ≡ b.image = logical_once g sectors a.image b.image a.is_logical b.is_logical in
    let reads : ReadsParts g (slice_get b.image) a.parts = subst (λ (s : List Sector). ReadsParts g (slice_get s) a.parts) image a.reads in
    let parts : a.parts ≡ b.parts = parts_same g (slice_get b.image) a.parts b.parts reads b.reads in
    or-lost-once b.parts (found_in g b.parts) xs ys (subst (λ (p : Parts). AreFoundIn g p xs) parts a.found) b.found

from-once : (g : Geom) (sectors : List Sector) (front xs ys : List Find) → AreFoundFrom g sectors front xs → AreFoundFrom g sectors front ys → xs ≡ ys
from-once g sectors [] xs ys a b = behind-once g sectors xs ys a b
from-once g sectors (first ∷ more) xs ys a b = a ∙ sym b

findings-once : (g : Geom) (id : List ℕ) (sectors : List Sector) (xs ys : List Find) → AreFindings g id sectors xs → AreFindings g id sectors ys → xs ≡ ys
findings-once g id sectors xs ys a b =
    let front : a.front ≡ b.front = front-once g id sectors a.front b.front a.in_front b.in_front in
    from-once g sectors b.front xs ys (subst (λ (f : List Find). AreFoundFrom g sectors f xs) front a.found) b.found

-- sectors have one list of findings
of-once : (sectors : List Sector) (xs ys : List Find) → AreFindingsOf sectors xs → AreFindingsOf sectors ys → xs ≡ ys
of-once sectors xs ys a b =
    let same = volume-once sectors a.geom b.geom a.id b.id a.volume.spelled b.volume.spelled in
    let findings : AreFindings b.geom b.id sectors xs =
    subst (λ (i : List ℕ). AreFindings b.geom i sectors xs) same.1 (subst (λ (g : Geom). AreFindings g a.id sectors xs) same.0 a.findings) in
    findings-once b.geom b.id sectors xs ys findings b.findings

-- or one sector that tells that they are not those of a volume
bad-once : (sectors : List Sector) (m n : ℕ) → IsBadImage sectors m → IsBadImage sectors n → m ≡ n
bad-once sectors m n (inl a) (inl b) = a.here ∙ sym b.here
bad-once sectors m n (inl a) (inr b) = absurd (a.none b.geom b.id b.spelled)
bad-once sectors m n (inr a) (inl b) = absurd (b.none a.geom a.id a.spelled)
bad-once sectors m n (inr a) (inr b) =
    let same = volume-once sectors a.geom b.geom a.id b.id a.spelled b.spelled in
    a.here ∙ ap (λ (g : Geom). min (length sectors) (total_of g)) same.0 ∙ sym b.here

-- and not both
bad-not-of : (sectors : List Sector) (g : Geom) (id : List ℕ) (at : ℕ) → AreOfVolume sectors g id → IsBadImage sectors at → ⊥
bad-not-of sectors g id at volume (inl a) = a.none g id volume.spelled
bad-not-of sectors g id at volume (inr a) =
    let same = volume-once sectors g a.geom id a.id volume.spelled a.spelled in
    a.other (volume.size ∙ ap total_of same.0)

answer-once : (sectors : List Sector) (a b : Result (List Find) CheckFault) → IsCheckAnswer sectors a → IsCheckAnswer sectors b → a ≡ b
answer-once sectors (Ok xs) (Ok ys) a b = ap Ok (of-once sectors xs ys a b)
answer-once sectors (Ok xs) (Err (BadImage at)) a b = absurd (bad-not-of sectors a.geom a.id at a.volume b)
answer-once sectors (Ok xs) (Err NoMemory) a b = absurd b
answer-once sectors (Err (BadImage at)) (Ok ys) a b = absurd (bad-not-of sectors b.geom b.id at b.volume a)
answer-once sectors (Err (BadImage m)) (Err (BadImage n)) a b = ap (λ at. Err (BadImage at)) (bad-once sectors m n a b)
answer-once sectors (Err (BadImage m)) (Err NoMemory) a b = absurd b
answer-once sectors (Err NoMemory) b a other = absurd a

pub only-answer : (sectors : List Sector) (result : Result (List Find) CheckFault) → IfOk result (AreFindingsOf sectors) → IfErr result (IsCheckFault sectors)
    → (answer : Result (List Find) CheckFault) → IsCheckAnswer sectors answer → OrNoMemory result (result ≡ answer)
only-answer sectors (Ok finds) ok err answer is = inr (answer-once sectors (Ok finds) answer ok is)
only-answer sectors (Err (BadImage at)) ok err answer is = inr (answer-once sectors (Err (BadImage at)) answer err is)
only-answer sectors (Err NoMemory) ok err answer is = inl refl
