-- What is listed is an item of the geometry.
use Rattle.std.proofs.Common.{◌≡◌, ℕ, ◌<◌, ⊎_elim, Bool, false, List, length, Option, Some, None, IsSome, sym, ◌∙◌, arith}
use Rattle.std.proofs.lemmas.Bool.{false≢true, cases_lt}
use Rattle.std.proofs.lemmas.List.{get_or_past}
use Rattle.std.proofs.lemmas.Option.{get_or_from_slice_get, slice_get_within}
use Rattle.ds_base.specs.Geometry.{clusters_of, per_cluster, items_of}
use Rattle.ds_base.specs.declared.geometry.Geom.{Geom}
use Rattle.ds_base.specs.declared.geometry.Kind.{Kind}
use Rattle.ds_base.specs.declared.geometry.Kind.TheVariants.{Sb, Pb, Fb}
use Rattle.ds_bitmap.specs.Bits.{Bitmap}
use Rattle.ds_image_parts.specs.Looks.{Look}
use Rattle.ds_image_tables.specs.Owns.{Owns, IsAt}
use Rattle.ds_image_parts.specs.Parts.{Parts, part_at, AllSpelled, used_bits, bits_in}
use Rattle.ds_image_parts.specs.Readings.{SpellsBits, IsReading, ReadsParts}
use Rattle.ds_image.specs.Sound.{IsSound, sub_lists, ptr_lists, block_lists}
use Rattle.ds_image.proofs.Spelling.Sizes.{length-flat_map_each}

map_length : (g : Geom) (look : Look) (kind : Kind) (maps : List (Option Bitmap)) (c : ℕ) (r : Option Bitmap) → IsReading (clusters_of g kind) (SpellsBits g look kind) maps → c < length maps → part_at maps c ≡ r → IsSome r → length (used_bits r) ≡ per_cluster g kind
map_length g look kind maps c None reads l e some = absurd (false≢true some)
map_length g look kind maps c (Some b) reads l e some = ((reads.each c (omega (arith, l, reads.len)) b).0 e).0.count

-- the bits of a kind are as many as its items
pub bits_length : (g : Geom) (look : Look) (kind : Kind) (maps : List (Option Bitmap)) → IsReading (clusters_of g kind) (SpellsBits g look kind) maps → AllSpelled maps → length (bits_in maps) ≡ items_of g kind
bits_length g look kind maps reads all =
    length-flat_map_each used_bits (per_cluster g kind) maps
    (λ c r e.
    let l : c < length maps = slice_get_within maps c r e in
    let at : part_at maps c ≡ r = get_or_from_slice_get maps c r None e in
    map_length g look kind maps c r reads l at (rw (sym at) (all c l)))
    ∙ grind (arith, reads.len)

-- an item that is listed has a bit
pub listed_within : (lists : List (List ℕ)) (bits : List Bool) (o i n : ℕ) → Owns lists bits → IsAt lists o i n → n < length bits
listed_within lists bits o i n owns at =
    ⊎_elim (λ below. below)
    (λ past. absurd (false≢true (sym (get_or_past bits n false past) ∙ owns.marked o i n at))) (cases_lt n (length bits))

pub sub_listed_within : (g : Geom) (look : Look) (p : Parts) (o i n : ℕ) → ReadsParts g look p → IsSound p → IsAt (sub_lists p) o i n → n < items_of g Sb
sub_listed_within g look p o i n reads sound at =
    omega (arith, listed_within (sub_lists p) (bits_in p.sb_maps) o i n sound.sub_owners at, bits_length g look Sb p.sb_maps (reads.maps Sb) (sound.maps Sb))

pub ptr_listed_within : (g : Geom) (look : Look) (p : Parts) (o i n : ℕ) → ReadsParts g look p → IsSound p → IsAt (ptr_lists p) o i n → n < items_of g Pb
ptr_listed_within g look p o i n reads sound at =
    omega (arith, listed_within (ptr_lists p) (bits_in p.pb_maps) o i n sound.ptr_owners at, bits_length g look Pb p.pb_maps (reads.maps Pb) (sound.maps Pb))

pub block_listed_within : (g : Geom) (look : Look) (p : Parts) (o i n : ℕ) → ReadsParts g look p → IsSound p → IsAt (block_lists p) o i n → n < items_of g Fb
block_listed_within g look p o i n reads sound at =
    omega (arith, listed_within (block_lists p) (bits_in p.fb_maps) o i n sound.block_owners at, bits_length g look Fb p.fb_maps (reads.maps Fb) (sound.maps Fb))
