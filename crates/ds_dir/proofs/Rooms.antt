-- What is read of a room, and what it spells.
use Rattle.std.proofs.Common.{◌≡◌, ℕ, ◌-◌, ◌^◌, ◌<◌, ◌≤◌, List, [], ◌∷◌, ◌++◌, length, take, Option, Some, None, refl, sym, ap, ◌∙◌, arith}
use Rattle.std.proofs.lemmas.List.{append_assoc, length-append, take_at}
use Rattle.ds_base.specs.declared.names.NodeKind.{NodeKind}
use Rattle.ds_bytes.specs.Fields.{little, zeros, front, Field, Num, Raw, spelled, FieldsFit}
use Rattle.ds_bytes.proofs.Fronts.{front_all}
use Rattle.ds_bytes.proofs.Little.{length-zeros, append_parts}
use Rattle.ds_bytes.proofs.SameFields.{same_fields, length-spelled, spelled_after-joined, spelled-joined}
use Rattle.ds_bytes.specs.NodeKinds.{kind_code, kind_of_code}
use Rattle.ds_bytes.proofs.KindCodes.{kind_code_below, kind_of_code-kind_code, kind_code_same}
use Rattle.ds_dir.specs.SubBlock.{IsEntry, IsRoom, entry_fields, room_bytes}
use Rattle.ds_dir.specs.RoomParts.{part_fields}
use Rattle.ds_dir.specs.declared.room.RoomParts.{RoomParts}
use Rattle.ds_dir.specs.declared.sub_block.Entry.{Entry}

length-name : (name : List ℕ) → length name ≤ 112 → length (name ++ zeros (112 - length name)) ≡ 112
length-name name h = omega (arith, length-append name (zeros (112 - length name)), length-zeros (112 - length name))

entry_fields_fit : (e : Entry) → IsEntry e → FieldsFit (entry_fields e)
entry_fields_fit e h =
    let short : length e.name ≤ 100 = h.is_name.short in
    let object : e.key.object < 2 ^ 32 = h.object_fits in
    let birth : e.key.birth ≤ 2 ^ 62 = h.birth_to in
    (kind_code_below (Some e.kind), (omega arith, (length-zeros 2, (omega arith, (omega arith, (length-name e.name (omega arith), tt))))))

pub length-room_bytes : (room : Option Entry) → IsRoom room → length (room_bytes room) ≡ 128
unfolding room_bytes
length-room_bytes None h = length-zeros 128
length-room_bytes (Some e) h = length-spelled (entry_fields e) (entry_fields_fit e h)

-- a free room, field by field
abbrev free_fields : List Field
free_fields = Num 1 0 ∷ Num 1 0 ∷ Raw 2 (zeros 2) ∷ Num 4 0 ∷ Num 8 0 ∷ Raw 112 (zeros 112) ∷ []

spelled-free_fields : zeros 128 ≡ spelled free_fields
unfolding zeros little
spelled-free_fields = refl

free_fields_fit : FieldsFit free_fields
free_fields_fit = (omega arith, (omega arith, (length-zeros 2, (omega arith, (omega arith, (length-zeros 112, tt))))))

-- the parts are those of the entry
pub record Holds (p : RoomParts) (e : Entry) : Type 0 where
  pub same_kind : p.kind ≡ kind_code (Some e.kind)
  pub same_length : p.length ≡ length e.name
  pub same_object : p.object ≡ e.key.object
  pub same_birth : p.birth ≡ e.key.birth
  pub same_name : take p.length p.name ≡ e.name

name_held : (count : ℕ) (held name : List ℕ) (k : ℕ) → count ≡ length name → held ≡ name ++ zeros k → take count held ≡ name
name_held count held name k len e = ap (take count) e ∙ take_at name (zeros k) count (sym len)

holds_entry : (p : RoomParts) (e : Entry) → part_fields p ≡ entry_fields e → Holds p e
holds_entry p e same =
    let kind : p.kind ≡ kind_code (Some e.kind) = cc in
    let len : p.length ≡ length e.name = cc in
    let object : p.object ≡ e.key.object = cc in
    let birth : p.birth ≡ e.key.birth = cc in
    let name : p.name ≡ e.name ++ zeros (112 - length e.name) = cc in
    record {
      same_kind = kind;
      same_length = len;
      same_object = object;
      same_birth = birth;
      same_name = name_held p.length p.name e.name (112 - length e.name) len name;
    }

-- what was read of the bytes, field by field
pub record IsRead (bytes : List ℕ) (p : RoomParts) : Type 0 where
  pub size : length bytes ≡ 128
  pub parts : front 128 bytes ≡ spelled (part_fields p)
  pub fits : FieldsFit (part_fields p)

whole : (bytes : List ℕ) (p : RoomParts) → IsRead bytes p → bytes ≡ spelled (part_fields p)
whole bytes p r = sym (front_all bytes) ∙ ap (λ n. front n bytes) r.size ∙ r.parts

holds_named : (bytes : List ℕ) (p : RoomParts) (e : Entry) → IsRead bytes p → IsEntry e → bytes ≡ room_bytes (Some e) → Holds p e
unfolding room_bytes
holds_named bytes p e r h b =
    holds_entry p e (same_fields (part_fields p) (entry_fields e) refl r.fits (entry_fields_fit e h) (sym (whole bytes p r) ∙ b))

free_named : (bytes : List ℕ) (p : RoomParts) → IsRead bytes p → bytes ≡ room_bytes None → p.kind ≡ 0
unfolding room_bytes
free_named bytes p r b =
    let same : part_fields p ≡ free_fields = same_fields (part_fields p) free_fields refl r.fits free_fields_fit (sym (whole bytes p r) ∙ b ∙ spelled-free_fields) in
    cc

-- the kind of the node that a room stands for, if it stands for one
abbrev pub kind_in : Option Entry → Option NodeKind
kind_in None = None
kind_in (Some e) = Some e.kind

-- the byte of the kind is the room's
pub kind_named : (bytes : List ℕ) (p : RoomParts) (room : Option Entry) → IsRead bytes p → IsRoom room → bytes ≡ room_bytes room → kind_of_code p.kind ≡ Some (kind_in room)
kind_named bytes p None r h b = ap kind_of_code (free_named bytes p r b)
kind_named bytes p (Some e) r h b = ap kind_of_code (holds_named bytes p e r h b).same_kind ∙ kind_of_code-kind_code (Some e.kind)

-- a room that stands for no node is free
pub named_free : (room : Option Entry) → kind_in room ≡ None → room ≡ None
named_free None k = refl
named_free (Some e) k = absurd (cc)

-- the entry that a room holds
pub record Used (p : RoomParts) (room : Option Entry) (kind : NodeKind) : Type 0 where
  pub entry : Entry
  pub is_some : room ≡ Some entry
  pub is_entry : IsEntry entry
  pub has_kind : kind ≡ entry.kind
  pub holds : Holds p entry

-- a room that stands for a node is used
pub named_used : (bytes : List ℕ) (p : RoomParts) (room : Option Entry) (kind : NodeKind) → IsRead bytes p → kind_in room ≡ Some kind → IsRoom room → bytes ≡ room_bytes room → Used p room kind
named_used bytes p None kind r k h b = absurd (cc)
named_used bytes p (Some e) kind r k h b =
    record { entry = e; is_some = refl; is_entry = h; has_kind = cc; holds = holds_named bytes p e r h b }

-- what is written of an entry, field after field
pub entry_written : (old : List ℕ) (e : Entry) →
    old ++ little 1 (kind_code (Some e.kind)) ++ little 1 (length e.name) ++ zeros 2 ++ little 4 e.key.object ++ little 8 e.key.birth ++ e.name ++ zeros (112 - length e.name) ≡ old ++ room_bytes (Some e)
unfolding room_bytes
entry_written old e =
    let start : List ℕ = old ++ little 1 (kind_code (Some e.kind)) ++ little 1 (length e.name) ++ zeros 2 ++ little 4 e.key.object ++ little 8 e.key.birth in
    append_assoc start e.name (zeros (112 - length e.name)) ∙ spelled_after-joined old (entry_fields e) ∙ ap (λ r. old ++ r) (sym (spelled-joined (entry_fields e)))

pub free_written : (old : List ℕ) → old ++ zeros 128 ≡ old ++ room_bytes None
unfolding room_bytes
free_written old = refl

-- seven writes, one after another
pub all_written : (o a b c d e f g s t u v w x y : List ℕ) → a ≡ o ++ s → b ≡ a ++ t → c ≡ b ++ u → d ≡ c ++ v → e ≡ d ++ w → f ≡ e ++ x → g ≡ f ++ y → g ≡ o ++ s ++ t ++ u ++ v ++ w ++ x ++ y
all_written o a b c d e f g s t u v w x y h i j k l m n = rw (n, m, l, k, j, i, h) refl

pub none_or_some : {X : Type 0} (o : Option X) (x : X) → o ≡ None → o ≡ Some x → ⊥
none_or_some o x none some = absurd (cc)

pub some_same : {X : Type 0} (o : Option X) (x y : X) → o ≡ Some x → o ≡ Some y → x ≡ y
some_same o x y p q = cc

pub same_entry : (e : Entry) (name : List ℕ) (object birth : ℕ) (kind : NodeKind) → name ≡ e.name → object ≡ e.key.object → birth ≡ e.key.birth → kind ≡ e.kind → (let made : Entry = record { name = name; key = record { object = object; birth = birth }; kind = kind } in made) ≡ e
same_entry e name object birth kind p q r s = rw (p, q, r, s) refl

name_same : (x y : List ℕ) (k l : ℕ) → length x ≡ length y → x ++ zeros k ≡ y ++ zeros l → x ≡ y
name_same x y k l len e = (append_parts x (zeros k) y (zeros l) len e).0

entry_same : (e f : Entry) → entry_fields e ≡ entry_fields f → e ≡ f
entry_same e f same =
    let code : kind_code (Some e.kind) ≡ kind_code (Some f.kind) = cc in
    let len : length e.name ≡ length f.name = cc in
    let object : e.key.object ≡ f.key.object = cc in
    let birth : e.key.birth ≡ f.key.birth = cc in
    let name : e.name ++ zeros (112 - length e.name) ≡ f.name ++ zeros (112 - length f.name) = cc in
    same_entry f e.name e.key.object e.key.birth e.kind (name_same e.name f.name (112 - length e.name) (112 - length f.name) len name) object birth (let same : Some e.kind ≡ Some f.kind = kind_code_same (Some e.kind) (Some f.kind) code in let kind : e.kind ≡ f.kind = cc in kind)

free_or_used : (e : Entry) → IsEntry e → zeros 128 ≡ spelled (entry_fields e) → ⊥
free_or_used e h b =
    let same : free_fields ≡ entry_fields e = same_fields free_fields (entry_fields e) refl free_fields_fit (entry_fields_fit e h) (sym spelled-free_fields ∙ b) in
    let code : 0 ≡ kind_code (Some e.kind) = cc in
    let none : None ≡ Some e.kind = kind_code_same None (Some e.kind) code in
    cc

-- two rooms that are spelled alike are one
pub room_same : (r q : Option Entry) → IsRoom r → IsRoom q → room_bytes r ≡ room_bytes q → r ≡ q
unfolding room_bytes
room_same None None h k b = refl
room_same None (Some f) h k b = absurd (free_or_used f k b)
room_same (Some e) None h k b = absurd (free_or_used e h (sym b))
room_same (Some e) (Some f) h k b =
    ap Some (entry_same e f (same_fields (entry_fields e) (entry_fields f) refl (entry_fields_fit e h) (entry_fields_fit f k) b))
