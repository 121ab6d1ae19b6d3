-- What is written to make an object.
use Rattle.std.specs.Prelude.{ℕ, ◌+◌, List, [], ◌∷◌, replicate, Some}
use Rattle.ds_base.specs.declared.geometry.Geom.{Geom}
use Rattle.ds_base.specs.declared.geometry.Kind.TheVariants.{Fd, Sb}
use Rattle.ds_base.specs.declared.names.NodeKind.{NodeKind}
use Rattle.ds_dir.specs.declared.sub_block.Entry.{Entry}
use Rattle.ds_fd.specs.Body.{links_of}
use Rattle.ds_fd.specs.declared.body.Body.{Body}
use Rattle.ds_image_parts.specs.Pending.{Pair}
use Rattle.ds_plan_make.specs.declared.objects.NewObject.{NewObject}
use Rattle.ds_plan_base.specs.Items.{number_of}
use Rattle.ds_plan_base.specs.Redos.{block_alone, block_filled, body_grown, body_pair, in_order, map_pair, sub_pair}
use Rattle.ds_plan_base.specs.declared.items.FreeItem.{FreeItem}
use Rattle.ds_plan_base.specs.declared.rooms.FreeRoom.{FreeRoom}

-- the body of a descriptor as it begins its next life: an empty object of this kind
abbrev pub begun : Body → NodeKind → Body
begun before kind = record { object = before.object; kind = Some kind; links = links_of (Some kind); birth = before.birth + 1; count = 0; addresses = replicate 96 0 }

-- its entry
abbrev pub entry_of : Body → NodeKind → List ℕ → Entry
entry_of new kind name = record { name = name; key = record { object = new.object; birth = new.birth }; kind = kind }

-- all that is known of a new object
abbrev pub new_object : FreeItem → Body → NodeKind → List ℕ → NewObject
new_object item before kind name = record { item = item; body = begun before kind; entry = entry_of (begun before kind) kind name }

-- the object gets a free room
abbrev pub pairs_filled : Geom → NewObject → FreeRoom → List Pair
pairs_filled g new free = map_pair g Fd new.item ∷ body_pair g new.body ∷ sub_pair g free.sub (block_filled free new.entry) ∷ []

-- the object gets the first room of a sub-block that its directory gets
abbrev pub pairs_grown : Geom → Body → NewObject → FreeItem → List Pair
pairs_grown g dir new sub =
    map_pair g Fd new.item ∷ map_pair g Sb sub
    ∷ in_order g (body_grown dir (number_of g Sb sub)) new.body (sub_pair g (number_of g Sb sub) (block_alone new.entry) ∷ [])
