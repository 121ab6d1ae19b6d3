-- Sub-blocks with one entry more.
use Rattle.std.proofs.Common.{◌≡◌, ℕ, suc, ◌≤◌, false, List, [], ◌∷◌, length, Option, Some, None, All, refl, ap, sym, subst, ◌∙◌, arith}
use Rattle.std.specs.Prelude.{is_some}
use Rattle.std.specs.Option.{option_copied}
use Rattle.std.specs.Borrow.{Bor}
use Rattle.std.proofs.lemmas.List.Elements.{All-cons, All-head, All-tail}
use Rattle.ds_base.specs.declared.sectors.Sector.{Sector}
use Rattle.ds_base.specs.declared.names.Key.{Key}
use Rattle.ds_base.specs.Names.{IsName}
use Rattle.ds_dir.specs.declared.sub_block.Entry.{Entry}
use Rattle.ds_dir.specs.declared.sub_block.SubBlock.{SubBlock}
use Rattle.ds_dir.specs.SubBlock.{IsEntry, IsRoom, IsSubBlock, sub_bytes}
use Rattle.ds_host.specs.declared.first_host.RootCall.TheVariants.{Create}
use Rattle.ds_host.specs.declared.first_host.Stage.TheVariants.{Filling}
use Rattle.ds_host.specs.Rooms.{Rooms, entry_named, with_entry, next_key, file_entry}
use Rattle.ds_host.specs.FirstConduct.{SpellsRooms, ReadsRooms}

length-with_entry : (e : Entry) (rooms : Rooms) → length (with_entry e rooms) ≡ length rooms
length-with_entry e [] = refl
length-with_entry e (None ∷ rooms) = refl
length-with_entry e (Some used ∷ rooms) = ap suc (length-with_entry e rooms)

All-with_entry : (e : Entry) (rooms : Rooms) → IsEntry e → All IsRoom rooms → All IsRoom (with_entry e rooms)
All-with_entry e [] is all = all
All-with_entry e (None ∷ rooms) is all = All-cons IsRoom (Some e) rooms is (All-tail IsRoom None rooms all)
All-with_entry e (Some used ∷ rooms) is all =
    All-cons IsRoom (Some used) (with_entry e rooms) (All-head IsRoom (Some used) rooms all) (All-with_entry e rooms is (All-tail IsRoom (Some used) rooms all))

-- a sub-block stays one when it gets an entry
pub IsSubBlock-with_entry : (e : Entry) (b c : SubBlock) → IsEntry e → IsSubBlock b → c.rooms ≡ with_entry e b.rooms → IsSubBlock c
IsSubBlock-with_entry e b c is sub same =
    let len = length-with_entry e b.rooms in
    let all = All-with_entry e b.rooms is sub.are_rooms in
    record { four = rw same (omega (arith, len, sub.four)); are_rooms = rw same all }

-- what was not found isn't there
none_of : {A : Type 0} (o : Option (Bor A)) → false ≡ is_some o → option_copied o ≡ None
none_of None e = refl
none_of (Some x) e = absurd cc

-- the file's entry of a name under the next key is an entry
pub IsEntry-file : (name : List ℕ) (key : Key) (rooms : Rooms) → IsName name → key ≡ next_key rooms → key.object ≤ 5 → IsEntry (file_entry name key)
IsEntry-file name key rooms is same small =
    let birth : key.birth ≡ 1 = ap (λ (k : Key). k.birth) same in
    record { is_name = is; object_fits = omega (arith, small); birth_from = omega (arith, birth); birth_to = omega (arith, birth) }

-- an image that spells the rooms with the new entry is to be swapped in
pub fills : (name copy : List ℕ) (image fresh : Sector) (block new : SubBlock) (key : Key) (found : Option (Bor Entry))
    → option_copied found ≡ entry_named name block.rooms → false ≡ is_some found → key ≡ next_key block.rooms → copy ≡ name
    → new.rooms ≡ with_entry (file_entry copy key) block.rooms → IsSubBlock new → fresh.bytes ≡ sub_bytes new
    → ReadsRooms (Create name) image block None (Filling name key image fresh)
fills name copy image fresh block new key found is none same_key same put sub spelled =
    let absent : entry_named name block.rooms ≡ None = sym is ∙ none_of found none in
    let rooms : new.rooms ≡ with_entry (file_entry name (next_key block.rooms)) block.rooms =
    put ∙ (λ i. with_entry (file_entry (same i) (same_key i)) block.rooms) in
    let block' : SubBlock = record { rooms = with_entry (file_entry name (next_key block.rooms)) block.rooms } in
    let whole : new ≡ block' = λ i. record { rooms = rooms i } in
    let P : SubBlock → Type 0 = λ b. SpellsRooms fresh b in
    rw absent (record {
      fresh = fresh;
      goes = (refl, λ i. Filling name (same_key i) image fresh);
      spelled = subst P whole (sub, spelled);
    })
