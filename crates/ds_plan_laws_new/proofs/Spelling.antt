-- What changed parts spell, and where the sectors of an image are.
use Rattle.std.proofs.Common.{◌≡◌, ℕ, ◌<◌, ◌≤◌, Bool, List, [], ◌∷◌, length, slice_get, slice_set, Option, Some, None, sym, ap, subst, ◌∙◌, length-set, get_or-set_same, get_or-set_other, get_or, inl, inr, arith}
use Rattle.std.specs.Prelude.{All}
use Rattle.std.proofs.lemmas.Bool.{cases_eq}
use Rattle.std.proofs.lemmas.List.Elements.{All-nil, All-cons}
use Rattle.std.proofs.lemmas.Option.{slice_get_within}
use Rattle.ds_base.specs.Geometry.{clusters_of, items_of}
use Rattle.ds_base.specs.Names.{IsName}
use Rattle.ds_base.specs.declared.geometry.Geom.{Geom}
use Rattle.ds_base.specs.declared.geometry.Kind.{Kind}
use Rattle.ds_base.specs.declared.geometry.Kind.TheVariants.{Fd, Sb}
use Rattle.ds_base.specs.declared.sectors.Sector.{Sector}
use Rattle.ds_bitmap.specs.Bits.{Bitmap, IsBits, bits_bytes}
use Rattle.ds_dir.specs.SubBlock.{IsEntry, IsRoom, IsSubBlock, sub_bytes}
use Rattle.ds_dir.specs.declared.sub_block.Entry.{Entry}
use Rattle.ds_dir.specs.declared.sub_block.SubBlock.{SubBlock}
use Rattle.ds_fd.specs.Body.{body_bytes, least_birth}
use Rattle.ds_fd.specs.declared.body.Body.{Body}
use Rattle.ds_layout.specs.Places.{place_sector}
use Rattle.ds_layout.specs.declared.places.Place.TheVariants as places
use Rattle.ds_image_parts.specs.Looks.{HasBytes}
use Rattle.ds_image_parts.specs.Parts.{Parts, part_at, maps_of}
use Rattle.ds_image_parts.specs.Readings.{ReadsParts}
use Rattle.ds_image.proofs.Spelling.Sizes.{part_within}
use Rattle.ds_plan_laws_new.specs.Beginning.{SetsBit, Begins}
use Rattle.ds_plan_laws_new.specs.Entering.{FillsRoom}

bytes-within : (image : List Sector) (at : ℕ) (bytes : List ℕ) → HasBytes (slice_get image) at bytes → at < length image
bytes-within image at bytes has = slice_get_within image at has.0 has.1

module _ (g : Geom) (image : List Sector) (p : Parts) (reads : ReadsParts g (slice_get image) p) where
  -- a part that is spelled has its sector in the image, and its number is one of the volume
  pub body-at : (o : ℕ) (b : Body) → part_at p.bodies o ≡ Some b → (o < items_of g Fd) × (place_sector g (places.Body o) < length image)
  body-at o b there =
      let within : o < items_of g Fd = omega (arith, part_within p.bodies o b there, reads.bodies.len) in
      (within, bytes-within image (place_sector g (places.Body o)) (body_bytes b) ((reads.bodies.each o within b).0 there).2)

  pub map-at : (kind : Kind) (c : ℕ) (b : Bitmap) → part_at (maps_of p kind) c ≡ Some b → (c < clusters_of g kind) × (place_sector g (places.Bitmap kind c) < length image)
  map-at kind c b there =
      let within : c < clusters_of g kind = omega (arith, part_within (maps_of p kind) c b there, (reads.maps kind).len) in
      (within, bytes-within image (place_sector g (places.Bitmap kind c)) (bits_bytes b) (((reads.maps kind).each c within b).0 there).1)

  pub sub-at : (n : ℕ) (b : SubBlock) → part_at p.subs n ≡ Some b → (n < items_of g Sb) × (place_sector g (places.SubBlock n) < length image)
  sub-at n b there =
      let within : n < items_of g Sb = omega (arith, part_within p.subs n b there, reads.subs.len) in
      (within, bytes-within image (place_sector g (places.SubBlock n)) (sub_bytes b) ((reads.subs.each n within b).0 there).1)

  -- a bitmap of which a bit changed is one of its cluster
  pub set-bits : (kind : Kind) (c it : ℕ) (v : Bool) (after : Bitmap) → SetsBit p kind c it v after → IsBits g kind c after
  set-bits kind c it v after sets =
      let before = (((reads.maps kind).each c (map-at kind c sets.before sets.there).0 sets.before).0 sets.there).0 in
      record {
        same_kind = sets.same_kind ∙ before.same_kind;
        same_cluster = sets.same_cluster ∙ before.same_cluster;
        count = ap length sets.changed ∙ length-set sets.before.used it v ∙ before.count;
      }

  rooms-set : (rooms : List (Option Entry)) (room : Option Entry) → IsRoom room → All IsRoom rooms → (j : ℕ) → All IsRoom (slice_set rooms j room)
  rooms-set rooms room fits all j i d l =
      let within : i < length rooms = omega (arith, l, length-set rooms j room) in
      elim (cases_eq i j) [
        | inl here ↦ subst IsRoom (sym (ap (λ k. get_or (slice_set rooms j room) k d) here ∙ get_or-set_same rooms j room d (omega (arith, here)))) fits
        | inr other ↦ subst IsRoom (sym (get_or-set_other rooms j i room d other)) (all i d within)
      ]

  pub set-is_sub : (n j : ℕ) (room : Option Entry) (before after : SubBlock) → IsRoom room → part_at p.subs n ≡ Some before
      → after.rooms ≡ slice_set before.rooms j room → IsSubBlock after
  set-is_sub n j room before after fits there changed =
      let was : IsSubBlock before = ((reads.subs.each n (sub-at n before there).0 before).0 there).0 in
      record {
        four = ap length changed ∙ length-set before.rooms j room ∙ was.four;
        are_rooms = subst (All IsRoom) (sym changed) (rooms-set before.rooms room fits was.are_rooms j);
      }

  -- a sub-block of which a room was filled or emptied is one
  pub filled-is_sub : (dir : Body) (n : ℕ) (e : Entry) (after : SubBlock) → IsEntry e → FillsRoom p dir n e after → IsSubBlock after
  filled-is_sub dir n e after entry fills = set-is_sub n fills.room (Some e) fills.before after entry fills.there fills.filled

-- so is one with an entry alone
pub alone-is_sub : (e : Entry) (after : SubBlock) → IsEntry e → after.rooms ≡ Some e ∷ None ∷ None ∷ None ∷ [] → IsSubBlock after
alone-is_sub e after entry alone = record {
  four = ap length alone;
  are_rooms = subst (All IsRoom) (sym alone)
      (All-cons IsRoom (Some e) (None ∷ None ∷ None ∷ []) entry (All-cons IsRoom None (None ∷ None ∷ []) tt (All-cons IsRoom None (None ∷ []) tt (All-cons IsRoom None [] tt (All-nil IsRoom)))));
}

-- the entry of an object that begins a life
pub begun-is_entry : (p : Parts) (o : ℕ) (e : Entry) (new : Body) → Begins p o e new → IsName e.name → IsEntry e
begun-is_entry p o e new begins named =
    let from : 1 ≤ new.birth = subst (λ kind. least_birth kind ≤ new.birth) begins.kind begins.is_body.ranges.birth_from in
    record {
      is_name = named;
      object_fits = omega (arith, begins.named_object, begins.object, begins.is_body.widths.object_fits);
      birth_from = omega (arith, begins.named_birth, from);
      birth_to = omega (arith, begins.named_birth, begins.is_body.ranges.birth_to);
    }
