-- Parts agree where each descriptor does and the items are marked.
use Rattle.std.proofs.Common.{◌≡◌, ℕ, ◌*◌, ◌<◌, ◌^◌, List, length, map, get_or, [], Option, None, Some, lit<, refl, sym, ap, ◌∙◌, subst, inl, inr, arith}
use Rattle.std.specs.Prelude.{IsSome, All, slice_get}
use Rattle.std.proofs.lemmas.Bool.{cases_lt}
use Rattle.std.proofs.lemmas.List.{get_or-map, get_or_past, length-map}
use Rattle.std.proofs.lemmas.Option.{slice_get_within, get_or_from_slice_get, slice_get-get_or}
use Rattle.ds_base.specs.Geometry.{IsGeom, most_items}
use Rattle.ds_base.specs.declared.geometry.Geom.{Geom}
use Rattle.ds_base.specs.declared.geometry.Kind.{Kind}
use Rattle.ds_base.specs.declared.geometry.Kind.TheVariants.{Fd, Sb, Pb, Fb}
use Rattle.ds_fd.specs.declared.body.Body.{Body}
use Rattle.ds_layout.proofs.Bounds.{most_items_of}
use Rattle.ds_image_parts.specs.Looks.{Look}
use Rattle.ds_image_parts.specs.Objects.{subs_of, ptrs_of, used_rooms}
use Rattle.ds_image_tables.specs.Owns.{IsAt, list_of}
use Rattle.ds_image_parts.specs.Parts.{Parts, part_at, AllSpelled, maps_of}
use Rattle.ds_image_parts.specs.Readings.{ReadsParts}
use Rattle.ds_image.specs.Sound.{IsSound, IsNamedRight}
use Rattle.ds_image.specs.SoundObjects.{IsSoundObject, IsMarked, HasShortRows}
use Rattle.ds_image.proofs.Ownership.Listed.{bits_length}

few : (kind : Kind) → 8 * most_items kind < 2 ^ 32
few Fd = lit< tt
few Sb = lit< tt
few Pb = lit< tt
few Fb = lit< tt

pub short_rows : (g : Geom) (look : Look) (p : Parts) → IsGeom g → ReadsParts g look p → ((kind : Kind) → AllSpelled (maps_of p kind))
    → HasShortRows p
short_rows g look p is reads all kind =
    omega (arith, bits_length g look kind (maps_of p kind) (reads.maps kind) (all kind), most_items_of g kind is, few kind)

-- what holds of each of the four kinds holds of all
pub each_kind : (P : Kind → Type 0) → P Fd → P Sb → P Pb → P Fb → (kind : Kind) → P kind
each_kind P fd sb pb fb Fd = fd
each_kind P fd sb pb fb Sb = sb
each_kind P fd sb pb fb Pb = pb
each_kind P fd sb pb fb Fb = fb

pub all-at : {X : Type 0} (P : X → Type 0) (xs : List X) → All P xs → (i : ℕ) (x : X) → slice_get xs i ≡ Some x → P x
all-at P xs all i x at = subst P (get_or_from_slice_get xs i x x at) (all i x (slice_get_within xs i x at))

pub all-from_at : {X : Type 0} (P : X → Type 0) (xs : List X) → ((i : ℕ) (x : X) → slice_get xs i ≡ Some x → P x) → All P xs
all-from_at P xs each = λ i d within. each i (get_or xs i d) (slice_get-get_or xs i d within)

-- the list of a descriptor by its number, also past the last, where there is nothing to list
pub list-is : (f : Option Body → List ℕ) (bodies : List (Option Body)) → f None ≡ [] → (o : ℕ)
    → list_of (map f bodies) o ≡ f (part_at bodies o)
list-is f bodies nothing o = elim (cases_lt o (length bodies)) [
  | inl below ↦ get_or-map f bodies o None [] below
  | inr past ↦ get_or_past (map f bodies) o [] (omega (arith, length-map bodies f)) ∙ sym nothing ∙ ap f (sym (get_or_past bodies o None past))
]

pub listed-spelled : (f : Option Body → List ℕ) (bodies : List (Option Body)) (P : ℕ → Type 0) → f None ≡ []
    → ((o : ℕ) → All P (f (part_at bodies o))) → (o i n : ℕ) → IsAt (map f bodies) o i n → P n
listed-spelled f bodies P nothing each o i n at =
    all-at P (f (part_at bodies o)) (each o) i n (subst (λ l. slice_get l i ≡ Some n) (list-is f bodies nothing o) at)

pub spelled-listed : (f : Option Body → List ℕ) (bodies : List (Option Body)) (P : ℕ → Type 0) → f None ≡ []
    → ((o i n : ℕ) → IsAt (map f bodies) o i n → P n) → (o : ℕ) → All P (f (part_at bodies o))
spelled-listed f bodies P nothing each o =
    all-from_at P (f (part_at bodies o)) (λ i n at. each o i n (subst (λ l. slice_get l i ≡ Some n) (sym (list-is f bodies nothing o)) at))

pub sound-from : (p : Parts) → AllSpelled p.bodies → ((kind : Kind) → AllSpelled (maps_of p kind))
    → ((o : ℕ) → IsSoundObject p (part_at p.bodies o)) → IsMarked p → IsSound p
sound-from p bodies maps objects marked = record {
  bodies = bodies;
  maps = maps;
  subs = listed-spelled subs_of p.bodies (λ n. IsSome (part_at p.subs n)) refl (λ o. (objects o).subs);
  ptrs = listed-spelled ptrs_of p.bodies (λ n. IsSome (part_at p.ptrs n)) refl (λ o. (objects o).ptrs);
  names = λ o. (objects o).names;
  entries = λ o. all-at (IsNamedRight p) (used_rooms p (subs_of (part_at p.bodies o))) (objects o).entries;
  tails = λ o. (objects o).tails;
  used = marked.used;
  sub_owners = marked.sub_owners;
  ptr_owners = marked.ptr_owners;
  block_owners = marked.block_owners;
}

pub objects-of : (p : Parts) → IsSound p → (o : ℕ) → IsSoundObject p (part_at p.bodies o)
objects-of p sound o = record {
  subs = spelled-listed subs_of p.bodies (λ n. IsSome (part_at p.subs n)) refl sound.subs o;
  ptrs = spelled-listed ptrs_of p.bodies (λ n. IsSome (part_at p.ptrs n)) refl sound.ptrs o;
  names = sound.names o;
  entries = all-from_at (IsNamedRight p) (used_rooms p (subs_of (part_at p.bodies o))) (sound.entries o);
  tails = sound.tails o;
}

pub marked-of : (p : Parts) → IsSound p → IsMarked p
marked-of p sound = record { used = sound.used; sub_owners = sound.sub_owners; ptr_owners = sound.ptr_owners; block_owners = sound.block_owners }
