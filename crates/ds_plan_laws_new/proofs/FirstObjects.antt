-- A new volume is ready for a first object in its root: so what planners have to find out can be met.
use Rattle.std.proofs.Common.{◌≡◌, ℕ, ◌<◌, ◌≤◌, Bool, false, true, List, [], ◌∷◌, replicate, slice_get, slice_set, Some, None, refl, ap, ◌∙◌, arith}
use Rattle.std.specs.Cmp.Lexicographic.{slice_cmp}
use Rattle.std.specs.FinMap as maps
use Rattle.std.specs.Ordering.{nat_cmp}
use Rattle.std.proofs.lemmas.List.{get_or-replicate, length-replicate}
use Rattle.std.proofs.lemmas.Option.{slice_get-get_or}
use Rattle.ds_base.specs.Geometry.{IsGeom, clusters_of, per_cluster, items_of}
use Rattle.ds_base.specs.Names.{IsName}
use Rattle.ds_base.specs.declared.geometry.Geom.{Geom}
use Rattle.ds_base.specs.declared.geometry.GeomField.TheVariants.{Clusters, Items}
use Rattle.ds_base.specs.declared.geometry.Kind.TheVariants.{Fd, Sb}
use Rattle.ds_base.specs.declared.names.NodeKind.{NodeKind}
use Rattle.ds_base.specs.declared.names.NodeKind.TheVariants as kinds
use Rattle.ds_bitmap.specs.Bits.{Bitmap, clear_bits}
use Rattle.ds_dir.specs.declared.sub_block.Entry.{Entry}
use Rattle.ds_dir.specs.declared.sub_block.SubBlock.{SubBlock}
use Rattle.ds_fd.specs.Body.{IsBody, links_of}
use Rattle.ds_fd.specs.declared.body.Body.{Body}
use Rattle.ds_tree.specs.Nodes.{root_key}
use Rattle.ds_image.proofs.NewVolumes.FreshLists.{made_at}
use Rattle.ds_image.proofs.NewVolumes.FreshParts.{fresh_parts}
use Rattle.ds_image.specs.Formatted.{fresh_body, fresh_bits}
use Rattle.ds_image_parts.specs.Parts.{Parts}
use Rattle.ds_plan_laws_new.specs.Making.{ReadyToMake, ReadyToGrow}
use Rattle.ds_plan_laws_new.proofs.Bodies.{empty-is_body, grown-is_body}
use Rattle.ds_image_parts.proofs.Journaling.LaidOver.{slice_get-set_other}

module _ (g : Geom) (is : IsGeom g) (two : 2 ≤ per_cluster g Fd) (name : List ℕ) (named : IsName name) (kind : NodeKind) where
  abbrev p : Parts
  p = fresh_parts g

  abbrev pub first-entry : Entry
  first-entry = record { name = name; key = record { object = 1; birth = 1 }; kind = kind }

  abbrev pub first-body : Body
  first-body = record { object = 1; kind = Some kind; links = links_of (Some kind); birth = 1; count = 0; addresses = replicate 96 0 }

  abbrev pub first-map : Bitmap
  first-map = record (fresh_bits g Fd 0) { used = slice_set (fresh_bits g Fd 0).used 1 true }

  abbrev pub root-grown : Body
  root-grown = record { object = 0; kind = Some kinds.Dir; links = 0; birth = 1; count = 1; addresses = slice_set (replicate 96 0) 0 0 }

  abbrev pub first-sub_map : Bitmap
  first-sub_map = record (clear_bits g Sb 0) { used = slice_set (clear_bits g Sb 0).used 0 true }

  abbrev pub first-block : SubBlock
  first-block = record { rooms = Some first-entry ∷ None ∷ None ∷ None ∷ [] }

  at-replicate : (n i : ℕ) (b : Bool) → i < n → slice_get (replicate n b) i ≡ Some b
  at-replicate n i b within = slice_get-get_or (replicate n b) i b (omega (arith, within, length-replicate n b)) ∙ ap Some (get_or-replicate n i b b within)

  some-cluster : 1 ≤ clusters_of g Fd
  some-cluster = (is (Clusters Fd)).0

  two-items : 1 < items_of g Fd
  two-items = grind (arith, some-cluster, two)

  pub first-ready : ReadyToMake g p root_key (fresh_body 0) 1 first-entry first-body 0 first-map
  first-ready = record {
    item = 1;
    is_item = omega arith;
    marks = record {
      before = fresh_bits g Fd 0;
      there = made_at (fresh_bits g Fd) (clusters_of g Fd) 0 (omega (arith, some-cluster));
      was = slice_get-set_other (replicate (per_cluster g Fd) false) 0 1 true (λ e. omega (arith, e)) ∙ at-replicate (per_cluster g Fd) 1 false (omega (arith, two));
      changed = refl;
      same_kind = refl;
      same_cluster = refl;
    };
    begins = record {
      before = fresh_body 1;
      there = made_at fresh_body (items_of g Fd) 1 two-items;
      unused = refl;
      is_body = empty-is_body first-body 1 kind 1 (omega arith) (omega arith) (omega arith) (record { object = refl; kind_is = refl; links = refl; birth_is = refl; count = refl; addresses = refl });
      object = refl;
      kind = refl;
      birth = omega arith;
      empty = refl;
      named_object = refl;
      named_birth = refl;
    };
    lacks = record {
      there = made_at fresh_body (items_of g Fd) 0 (omega (arith, two-items));
      is_dir = refl;
      absent = maps.get-empty (slice_cmp nat_cmp) name;
    };
    life = refl;
    named = named;
  }

  root-is_body : IsBody (fresh_body 0)
  root-is_body = empty-is_body (fresh_body 0) 0 kinds.Dir 1 (omega arith) (omega arith) (omega arith) (record { object = refl; kind_is = refl; links = refl; birth_is = refl; count = refl; addresses = refl })

  pub first-grows : ReadyToGrow g p (fresh_body 0) 0 first-entry root-grown 0 first-sub_map first-block
  first-grows = record {
    item = 0;
    is_item = omega arith;
    marks = record {
      before = clear_bits g Sb 0;
      there = made_at (fresh_bits g Sb) (clusters_of g Sb) 0 (let some = (is (Clusters Sb)).0 in omega (arith, some));
      was = at-replicate (per_cluster g Sb) 0 false (let some = (is (Items Sb)).0 in omega (arith, some));
      changed = refl;
      same_kind = refl;
      same_cluster = refl;
    };
    adds = record {
      full = refl;
      is_body = grown-is_body root-grown (fresh_body 0) 0 root-is_body refl (omega arith) (omega arith) (record { object = refl; kind_is = refl; links = refl; birth = refl; count = omega arith; addresses = refl });
      object = refl;
      kind = refl;
      birth = refl;
      count = omega arith;
      addresses = refl;
      alone = refl;
    };
  }
