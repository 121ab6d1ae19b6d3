-- What the descriptors of an image list: items of a kind, or objects by name.
use Rattle.std.specs.Prelude.{ℕ, List, map, Option}
use Rattle.ds_dir.specs.declared.sub_block.Entry.{Entry}
use Rattle.ds_fd.specs.declared.body.Body.{Body}
use Rattle.ds_image_parts.specs.declared.listings.Listed.{Listed}
use Rattle.ds_image_parts.specs.declared.listings.Listed.TheVariants as listed
use Rattle.ds_image_parts.specs.Objects.{subs_of, ptrs_of, blocks_of, used_rooms}
use Rattle.ds_image_parts.specs.Parts.{Parts}

-- the objects that a descriptor names: those of its entries, where it is a directory
abbrev pub named_by : Parts → Option Body → List ℕ
named_by p body = map (λ (e : Entry). e.key.object) (used_rooms p (subs_of body))

-- what a descriptor lists of such a form
abbrev pub listed_by : Parts → Listed → Option Body → List ℕ
listed_by p listed.Subs = subs_of
listed_by p listed.Ptrs = ptrs_of
listed_by p listed.Blocks = blocks_of p
listed_by p listed.Names = named_by p

-- what each descriptor lists of such a form
abbrev pub lists_by : Parts → Listed → List (List ℕ)
lists_by p what = map (listed_by p what) p.bodies
