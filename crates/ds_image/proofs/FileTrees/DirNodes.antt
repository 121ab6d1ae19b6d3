-- The directories and files that parts spell keep the rules.
use Rattle.std.proofs.Common.{◌≡◌, ℕ, ◌+◌, ◌*◌, ◌≤◌, cond, nat_le, if◌then◌else◌, List, [], ◌∷◌, length, Option, None, Some, refl, sym, ap, ◌∙◌, subst, inl, inr, arith, length-append, length-take}
use Rattle.std.specs.Prelude.{IsSome, All}
use Rattle.std.specs.Cmp.Lexicographic.{slice_cmp, nat_list_cmp_total}
use Rattle.std.specs.FinMap as maps
use Rattle.std.specs.List.{filter_map}
use Rattle.std.specs.Ordering.{nat_cmp}
use Rattle.std.proofs.lemmas.Bool.{false≢true, cases_Bool}
use Rattle.std.proofs.lemmas.List.{length-map}
use Rattle.std.proofs.lemmas.List.Elements.{All-nil, All-cons, All-head, All-tail, All-append}
use Rattle.ds_base.specs.Names.{IsName}
use Rattle.ds_base.specs.declared.geometry.Geom.{Geom}
use Rattle.ds_base.specs.declared.names.NodeKind.{NodeKind}
use Rattle.ds_base.specs.declared.names.NodeKind.TheVariants as kinds
use Rattle.ds_dir.specs.SubBlock.{IsEntry, IsRoom, IsSubBlock}
use Rattle.ds_dir.specs.declared.sub_block.Entry.{Entry}
use Rattle.ds_dir.specs.declared.sub_block.SubBlock.{SubBlock}
use Rattle.ds_fd.specs.Body.{IsBody, most_count, least_birth}
use Rattle.ds_fd.specs.declared.body.Body.{Body}
use Rattle.ds_tree.specs.Nodes.{Entries, Dir, File}
use Rattle.ds_tree.specs.WellFormed.{IsDir}
use Rattle.ds_image_parts.specs.Looks.{Look}
use Rattle.ds_image_parts.specs.Objects.{subs_by, pointed_by, blocks_by, node_by, object_of, rooms_in, rooms_of, used_rooms, entries_of}
use Rattle.ds_image_parts.specs.Parts.{Parts, part_at}
use Rattle.ds_image_parts.specs.Readings.{ReadsParts}
use Rattle.ds_image.proofs.FileTrees.EntryNames.{pairs, find-some, get-entries}
use Rattle.ds_image.proofs.Spelling.Sizes.{part_within}
use Rattle.ds_image.proofs.Spelling.SoundParts.{all-at}

-- the entries of rooms are entries, no more than the rooms
entries-in : (rooms : List (Option Entry)) → All IsRoom rooms → All IsEntry (filter_map (λ room. room) rooms)
entries-in [] all = All-nil IsEntry
entries-in (None ∷ rooms) all = entries-in rooms (All-tail IsRoom None rooms all)
entries-in (Some e ∷ rooms) all =
    All-cons IsEntry e (filter_map (λ room. room) rooms) (All-head IsRoom (Some e) rooms all) (entries-in rooms (All-tail IsRoom (Some e) rooms all))

fewer-entries : (rooms : List (Option Entry)) → length (filter_map (λ room. room) rooms) ≤ length rooms
fewer-entries [] = omega arith
fewer-entries (None ∷ rooms) = omega (arith, fewer-entries rooms)
fewer-entries (Some e ∷ rooms) = omega (arith, fewer-entries rooms)

-- the rooms that are read are rooms, four in each sub-block
rooms-by : (g : Geom) (look : Look) (p : Parts) (n : ℕ) (r : Option SubBlock) → ReadsParts g look p → part_at p.subs n ≡ r
    → All IsRoom (rooms_in r) × (length (rooms_in r) ≤ 4)
rooms-by g look p n None reads is = (All-nil IsRoom, omega arith)
rooms-by g look p n (Some b) reads is =
    let block : IsSubBlock b = ((reads.subs.each n (omega (arith, part_within p.subs n b is, reads.subs.len)) b).0 is).0 in
    (block.are_rooms, omega (arith, block.four))

rooms-are : (g : Geom) (look : Look) (p : Parts) (subs : List ℕ) → ReadsParts g look p
    → All IsRoom (rooms_of p subs) × (length (rooms_of p subs) ≤ 4 * length subs)
rooms-are g look p [] reads = (All-nil IsRoom, omega arith)
rooms-are g look p (n ∷ subs) reads =
    let here = rooms-by g look p n (part_at p.subs n) reads refl in
    let rest = rooms-are g look p subs reads in (
      All-append IsRoom (rooms_in (part_at p.subs n)) (rooms_of p subs) here.0 rest.0,
      omega (arith, length-append (rooms_in (part_at p.subs n)) (rooms_of p subs), here.1, rest.1),
    )

-- a map has no more entries than the list that it is made of
map-length : (es : List (List ℕ × ℕ)) → maps.len (maps.from_entries {R = slice_cmp nat_cmp} es) ≤ length es
map-length [] = omega (arith, maps.len-empty (slice_cmp nat_cmp) ℕ)
map-length (e ∷ es) =
    let m = maps.from_entries {R = slice_cmp nat_cmp} es in
    let put = maps.len-insert nat_list_cmp_total m e.0 e.1 in
    elim (cases_Bool (maps.contains_key m e.0)) [
      | inl known ↦ omega (arith, put ∙ ap (λ b. cond b (maps.len m) (maps.len m + 1)) known, map-length es)
      | inr new ↦ omega (arith, put ∙ ap (λ b. cond b (maps.len m) (maps.len m + 1)) new, map-length es)
    ]

-- a directory of at most 96 sub-blocks keeps the rules
pub dir-rules : (g : Geom) (look : Look) (p : Parts) (b : Body) → ReadsParts g look p → b.count ≤ 96
    → IsDir (entries_of p (subs_by b (Some kinds.Dir))) (4 * b.count)
dir-rules g look p b reads few =
    let subs = subs_by b (Some kinds.Dir) in
    let rooms = rooms-are g look p subs reads in
    record {
      names = λ name x found.
          let at = find-some (used_rooms p subs) name x (sym (get-entries (used_rooms p subs) name) ∙ found) in
          subst IsName at.1.2 (all-at IsEntry (used_rooms p subs) (entries-in (rooms_of p subs) rooms.0) at.0 at.1.0 at.1.1).is_name;
      have_rooms = omega (arith, map-length (pairs (used_rooms p subs)), length-map {B = List ℕ × ℕ} (used_rooms p subs) (λ (e : Entry). (e.name, e.key.object)), fewer-entries (rooms_of p subs), rooms.1, length-take b.count b.addresses);
      most = omega (arith, few);
      by_four = omega arith;
    }

dir-count : (b : Body) → IsBody b → b.kind ≡ Some kinds.Dir → b.count ≤ 96
dir-count b is kind = subst (λ k. b.count ≤ most_count k) kind is.ranges.count_to

-- so do all directories that bodies spell
dirs-by : (g : Geom) (look : Look) (p : Parts) (b : Body) (kind : Option NodeKind) (entries : Entries) (rooms : ℕ) → ReadsParts g look p
    → IsBody b → b.kind ≡ kind
    → node_by p b kind ≡ Some (Dir entries rooms) → IsDir entries rooms
dirs-by g look p b None entries rooms reads is kind node = absurd (cc)
dirs-by g look p b (Some kinds.Dir) entries rooms reads is kind node =
    let same : entries_of p (subs_by b (Some kinds.Dir)) ≡ entries = cc in
    let count : 4 * b.count ≡ rooms = cc in
    let rules = dir-rules g look p b reads (dir-count b is kind) in
    subst (λ r. IsDir entries r) count (subst (λ (m : Entries). IsDir m (4 * b.count)) same rules)
dirs-by g look p b (Some kinds.File) entries rooms reads is kind node = absurd (cc)

pub dirs-of : (g : Geom) (look : Look) (p : Parts) (body : Option Body) (entries : Entries) (rooms : ℕ) → ReadsParts g look p
    → ((b : Body) → body ≡ Some b → IsBody b)
    → (object_of p body).node ≡ Some (Dir entries rooms) → IsDir entries rooms
dirs-of g look p None entries rooms reads are node = absurd (cc)
dirs-of g look p (Some b) entries rooms reads are node = dirs-by g look p b b.kind entries rooms reads (are b refl) refl node

-- and files have at most 12,288 blocks
files-by : (p : Parts) (b : Body) (kind : Option NodeKind) (blocks : List ℕ) → IsBody b → b.kind ≡ kind
    → node_by p b kind ≡ Some (File blocks) → length blocks ≤ 12288
files-by p b None blocks is kind node = absurd (cc)
files-by p b (Some kinds.Dir) blocks is kind node = absurd (cc)
files-by p b (Some kinds.File) blocks is kind node =
    let same : blocks_by p b (Some kinds.File) ≡ blocks = cc in
    let most : b.count ≤ 12288 = subst (λ k. b.count ≤ most_count k) kind is.ranges.count_to in
    omega (arith, most, sym (ap (length {A = ℕ}) same) ∙ length-take b.count (if nat_le b.count 96 then b.addresses else pointed_by p b (Some kinds.File)))

pub files-of : (p : Parts) (body : Option Body) (blocks : List ℕ) → ((b : Body) → body ≡ Some b → IsBody b)
    → (object_of p body).node ≡ Some (File blocks) → length blocks ≤ 12288
files-of p None blocks are node = absurd (cc)
files-of p (Some b) blocks are node = files-by p b b.kind blocks (are b refl) refl node

-- births begin at 1
born-by : (p : Parts) (b : Body) (kind : Option NodeKind) → IsBody b → b.kind ≡ kind → IsSome (node_by p b kind) → 1 ≤ b.birth
born-by p b None is kind some = absurd (false≢true some)
born-by p b (Some k) is kind some = subst (λ x. least_birth x ≤ b.birth) kind is.ranges.birth_from

pub born-of : (p : Parts) (body : Option Body) → ((b : Body) → body ≡ Some b → IsBody b) → IsSome (object_of p body).node
    → 1 ≤ (object_of p body).birth
born-of p None are some = absurd (false≢true some)
born-of p (Some b) are some = born-by p b b.kind (are b refl) refl some
