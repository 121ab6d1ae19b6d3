-- The room that is found for a name has the first entry of the name.
use Rattle.std.proofs.Common.{◌≡◌, ℕ, suc, List, [], ◌∷◌, Option, None, Some, refl, sym, ap, subst, ◌∙◌, arith, slice_get}
use Rattle.std.specs.Prelude.{Ok, option_map}
use Rattle.ds_base.specs.declared.geometry.Geom.{Geom}
use Rattle.ds_dir.specs.declared.sub_block.Entry.{Entry}
use Rattle.ds_dir.specs.declared.sub_block.SubBlock.{SubBlock}
use Rattle.ds_fd.specs.declared.body.Body.{Body}
use Rattle.ds_image_parts.specs.Objects.{subs_of, used_rooms}
use Rattle.ds_image_parts.specs.Parts.{Parts}
use Rattle.ds_image_parts.specs.Readings.{ReadsParts}
use Rattle.ds_image.specs.SeenValues.{SeenValue, look_of}
use Rattle.ds_plan_base.specs.Bodies.{sub_seen}
use Rattle.ds_plan_base.specs.Entries.{named_among, found_at, found_from, found_in, entry_by, wanted_entry}
use Rattle.ds_image_parts.specs.Objects.{entry_named}
use Rattle.ds_plan_base.specs.Objects.{IsFoundRoom}
use Rattle.ds_plan_base.specs.Steps.{or_later}
use Rattle.ds_plan_base.specs.declared.entries.Found.{Found}
use Rattle.ds_plan_base.specs.declared.entries.Named.{Named}
use Rattle.ds_plan_base.proofs.Finding.{among-known, none-among, used_seen}
use Rattle.ds_plan_base.proofs.Known.{HasBlock, block-known}
use Rattle.ds_plan_base.proofs.Limits.{after-ok}

-- a room of a sub-block has the entry that was found there
pub record IsNamedRoom (rooms : List (Option Entry)) (named : Named) : Type 0 where
  pub entry : Entry
  pub here : slice_get rooms named.room ≡ Some (Some entry)
  pub key : named.key ≡ entry.key

pub among-room : (name : List ℕ) (rooms : List (Option Entry)) (named : Named) → named_among 0 name rooms ≡ Some named → IsNamedRoom rooms named
among-room name rooms named is =
    let among = among-known 0 name rooms named is in
    let room : among.place ≡ named.room = omega (arith, among.room_is) in
    record { entry = among.entry; here = ap (slice_get rooms) (sym room) ∙ among.used; key = among.key }

-- a room with an entry of this name, in a sub-block that was seen, which is the first in these sub-blocks of a directory
pub record HasFound (g : Geom) (seen : SeenValue) (p : Parts) (b : Body) (name subs : List ℕ) (found : Found) : Type 0 where
  pub place : ℕ
  pub entry : Entry
  pub listed : slice_get subs place ≡ Some found.sub
  pub is_seen : sub_seen g seen p b found.sub ≡ Ok found.block
  pub has : HasBlock g seen p found.sub found.block
  pub used : slice_get found.block.rooms found.room ≡ Some (Some entry)
  pub key : found.key ≡ entry.key
  pub kind : found.kind ≡ entry.kind
  pub named : entry.name ≡ name
  pub first : entry_named (used_rooms p subs) name ≡ Some entry

pub by-known : (r : Option Found) (found : Found) → entry_by r ≡ Ok found → r ≡ Some found
by-known None found is = absurd cc
by-known (Some x) found is = let same : x ≡ found = cc in ap Some same

module _ (g : Geom) (seen : SeenValue) (p : Parts) (reads : ReadsParts g (look_of seen) p) (b : Body) (name : List ℕ) where
  pub found-known : (subs : List ℕ) (found : Found) → found_from g seen p b name subs ≡ Ok (Some found) → HasFound g seen p b name subs found
  found-known [] found is = absurd cc
  found-known (n ∷ subs) found is =
      let known = after-ok (sub_seen g seen p b n) _ (Some found) is in
      by known.0 known.1 (named_among 0 name known.0.rooms) refl known.2 (found-known subs found)
    where
      by : (block : SubBlock) → sub_seen g seen p b n ≡ Ok block → (r : Option Named) → named_among 0 name block.rooms ≡ r
          → or_later (option_map (found_at n block) r) (found_from g seen p b name subs) ≡ Ok (Some found)
          → (found_from g seen p b name subs ≡ Ok (Some found) → HasFound g seen p b name subs found) → HasFound g seen p b name (n ∷ subs) found
      by block here None none is later =
          let rest = later is in
          let there = (block-known g seen p reads b n block here).there in
          record {
            place = suc rest.place;
            entry = rest.entry;
            listed = rest.listed;
            is_seen = rest.is_seen;
            has = rest.has;
            used = rest.used;
            key = rest.key;
            kind = rest.kind;
            named = rest.named;
            first = ap (λ es. entry_named es name) (used_seen p n block subs there) ∙ none-among 0 name block.rooms (used_rooms p subs) none ∙ rest.first;
          }
      by block here (Some named) there is later =
          let same : found_at n block named ≡ found = cc in
          let among = among-known 0 name block.rooms named there in
          let has = block-known g seen p reads b n block here in
          let room : among.place ≡ named.room = omega (arith, among.room_is) in
          subst (HasFound g seen p b name (n ∷ subs)) same (record {
            place = 0;
            entry = among.entry;
            listed = refl;
            is_seen = here;
            has = has;
            used = ap (slice_get block.rooms) (sym room) ∙ among.used;
            key = among.key;
            kind = among.kind;
            named = among.is_named;
            first = ap (λ es. entry_named es name) (used_seen p n block subs has.there) ∙ among.first (used_rooms p subs);
          })

  -- an entry that is known was found
  pub entry-known : (found : Found) → wanted_entry g seen p b name ≡ Ok found → (found_in g seen p b name ≡ Ok (Some found)) × HasFound g seen p b name (subs_of (Some b)) found
  entry-known found is =
      let known = after-ok (found_in g seen p b name) entry_by found is in
      let one : found_in g seen p b name ≡ Ok (Some found) = known.1 ∙ ap Ok (by-known known.0 found known.2) in
      (one, found-known (subs_of (Some b)) found one)

-- it is a room of a sub-block with an entry
pub found-room : (g : Geom) (seen : SeenValue) (p : Parts) (b : Body) (name subs : List ℕ) (found : Found) → HasFound g seen p b name subs found → IsFoundRoom found
found-room g seen p b name subs found has = record { is_sub = has.has.is_sub; entry = has.entry; used = has.used; key = has.key }
