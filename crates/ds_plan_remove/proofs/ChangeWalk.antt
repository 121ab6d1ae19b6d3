-- What is written to take an object away is right.
use Rattle.std.proofs.Common.{◌≡◌, ℕ, true, List, [], ◌∷◌, ◌++◌, Some, refl, sym, ap, subst, ◌∙◌, slice_get, append_assoc}
use Rattle.ds_base.specs.Geometry.{IsGeom}
use Rattle.ds_base.specs.declared.geometry.Geom.{Geom}
use Rattle.ds_base.specs.declared.names.Key.{Key}
use Rattle.ds_base.specs.declared.names.NodeKind.{NodeKind}
use Rattle.ds_base.specs.declared.names.NodeKind.TheVariants as kinds
use Rattle.ds_base.specs.declared.sectors.Sector.{Sector}
use Rattle.ds_bytes.specs.Fields.{zeros}
use Rattle.ds_image.specs.SeenValues.{HoldsLock}
use Rattle.ds_plan_laws_new.proofs.RightChanges.{right-change}
use Rattle.ds_dir.specs.SubBlock.{sub_bytes}
use Rattle.ds_dir.specs.declared.sub_block.Entry.{Entry}
use Rattle.ds_dir.specs.declared.sub_block.SubBlock.{SubBlock}
use Rattle.ds_fd.specs.Body.{IsBody, body_bytes}
use Rattle.ds_fd.specs.declared.body.Body.{Body}
use Rattle.ds_plan_laws_gone.specs.Leaving.{ReadyToGo, go_call, given_up}
use Rattle.ds_plan_laws_gone.specs.MapWrites.{map_pairs}
use Rattle.ds_plan_laws_gone.proofs.Ended.{ended-is_body}
use Rattle.ds_plan_laws_gone.proofs.GuardedGone.{gone-guarded_before, gone-guarded_after}
use Rattle.ds_plan_laws_gone.proofs.StandsGone.{gone-pairs, gone-leaves}
use Rattle.ds_image.specs.Asking.{Agrees}
use Rattle.ds_image_parts.specs.Objects.{subs_by, subs_of, used_rooms}
use Rattle.ds_image_parts.specs.Parts.{Parts}
use Rattle.ds_image_parts.specs.Pending.{Pair}
use Rattle.ds_image_parts.specs.Readings.{ReadsParts}
use Rattle.ds_image.specs.SeenValues.{SeenValue, look_of}
use Rattle.ds_image.specs.Sound.{StandsFor}
use Rattle.ds_image.proofs.Spelling.Sizes.{body_is}
use Rattle.ds_jrnl.specs.declared.redo.Redo.{Redo}
use Rattle.ds_layout.specs.Places.{place_sector}
use Rattle.ds_layout.specs.declared.places.Place.TheVariants as places
use Rattle.ds_plan_base.specs.Redos.{block_emptied}
use Rattle.ds_plan_base.proofs.DirSeen.{HasDir}
use Rattle.ds_plan_base.proofs.PlanAsks.{IsPlanChange}
use Rattle.ds_plan_base.specs.declared.entries.Found.{Found}
use Rattle.ds_plan_base.proofs.Founds.{HasFound}
use Rattle.ds_plan_base.proofs.Alike.{sub_alike, some-there}
use Rattle.ds_plan_base.proofs.Dirs.{body_in, dir_in}
use Rattle.ds_plan_remove.specs.Answers.{ended, with_ended}
use Rattle.ds_plan_remove.proofs.EntryWalk.{HasObject}
use Rattle.ds_plan_remove.proofs.TargetsGone.{gone-targets}
use Rattle.ds_plan_remove.proofs.Written.{IsGiven}
use Rattle.ds_tree.specs.Nodes.{FileTree}
use Rattle.ds_tree.specs.Steps.{has_change}
use Rattle.ds_tree.specs.declared.calls.CallOf.{CallOf}
use Rattle.ds_tree.specs.declared.calls.TreeReply.TheVariants as replies

-- the entry as the call names it
abbrev entry_of : List ℕ → Key → NodeKind → Entry
entry_of name key kind = record { name = name; key = key; kind = kind }

entry-is : (e : Entry) (name : List ℕ) (key : Key) (kind : NodeKind) → e.name ≡ name → e.key ≡ key → e.kind ≡ kind → e ≡ entry_of name key kind
entry-is e name key kind a b c =
    ap (λ (n : List ℕ). record { name = n; key = e.key; kind = e.kind }) a
    ∙ ap (λ (k : Key). record { name = name; key = k; kind = e.kind }) b ∙ ap (λ (k : NodeKind). record { name = name; key = key; kind = k }) c

-- a call that takes an object away changes the tree
gone-changes : (t : FileTree) (kind : NodeKind) (dir : Key) (name : List ℕ) → has_change t (go_call kind dir name) ≡ true
gone-changes t kinds.Dir dir name = refl
gone-changes t kinds.File dir name = refl

pub ended-body : (b : Body) → IsBody b → IsBody (ended b)
unfolding zeros
ended-body b is = ended-is_body b (ended b) is refl refl refl refl refl refl

module _ (g : Geom) (is_geom : IsGeom g) (key : Key) (name : List ℕ) (kind : NodeKind) (seen : SeenValue) (p : Parts) (reads : ReadsParts g (look_of seen) p)
    (dir : Body) (has : HasDir g seen p key dir) (f : Found) (at : HasFound g seen p dir name (subs_of (Some dir)) f) (is_kind : f.kind ≡ kind)
    (b : Body) (obj : HasObject g seen p kind f.key b) (redo : Redo) (given : IsGiven g seen (λ q. given_up q f.key.object b) redo)
    (bare : (image : List Sector) (t : FileTree) (stands : StandsFor g image t) → Agrees seen image → used_rooms stands.parts (subs_of (Some b)) ≡ []) where
  abbrev call : CallOf Key
  call = go_call kind key name

  abbrev o : ℕ
  o = f.key.object

  abbrev n : ℕ
  n = f.sub

  abbrev block : SubBlock
  block = block_emptied f

  abbrev e : Entry
  e = entry_of name f.key kind

  abbrev body_sector : Sector
  body_sector = record { bytes = body_bytes (ended b) }

  abbrev block_sector : Sector
  block_sector = record { bytes = sub_bytes block }

  object-is : b.object ≡ o
  object-is = ((reads.bodies.each o obj.inside b).0 obj.there).0

  -- the object can go in each image that agrees
  ready : (image : List Sector) (t : FileTree) (stands : StandsFor g image t) → Agrees seen image → ReadyToGo g stands.parts key dir e b (ended b) n block given.writes
  ready image t stands agrees =
      let known = at.has in
      let sector = some-there (look_of seen (place_sector g (places.SubBlock n))) known.read in
      let same = sub_alike g (slice_get image) (look_of seen) stands.parts p n known.inside (agrees (place_sector g (places.SubBlock n)) sector.0 sector.1 ∙ sym sector.1) stands.reads reads in
      record {
        in_dir = record { there = (dir_in g seen p key dir image t stands reads agrees has).0; is_dir = has.sees.is_kind };
        life = has.sees.life;
        empties = record {
          place = at.place;
          room = f.room;
          before = f.block;
          listed = ap (λ l. slice_get l at.place) (sym (ap (subs_by dir) has.sees.is_kind)) ∙ at.listed;
          there = same ∙ known.there;
          used = at.used ∙ ap (λ (x : Entry). Some (Some x)) (entry-is at.entry name f.key kind at.named (sym at.key) (sym at.kind ∙ is_kind));
          emptied = refl;
        };
        ends = record {
          there = body_in g seen p o image t stands obj.inside reads agrees obj.read ∙ obj.there;
          bare = bare image t stands agrees;
          is_body = ended-body b (body_is g (look_of seen) p o b reads obj.there);
          object = object-is;
          unused = refl;
          birth = refl;
        };
        clears = given.clears image t stands agrees;
      }

  abbrev pairs : List Pair
  pairs = gone-pairs g given.writes o n body_sector block_sector

  ordered-good : IsPlanChange g call seen pairs (replies.Gone f.key)
  ordered-good = record {
    targets =
        gone-targets g given.writes given.few given.inside given.rising o n obj.inside at.has.inside body_sector block_sector;
    right = λ image t stands agrees.
        let go = ready image t stands agrees in
        right-change g call seen image t pairs (replies.Gone f.key) refl (gone-changes t kind key name) tt
        (gone-leaves g is_geom image t stands key dir e b (ended b) n block given.writes go body_sector block_sector refl refl)
        (gone-guarded_before g is_geom image t stands key dir e b (ended b) n block given.writes go body_sector block_sector refl refl (HoldsLock seen) given.held obj.held has.held)
        (gone-guarded_after g is_geom image t stands key dir e b (ended b) n block given.writes go body_sector block_sector refl refl (HoldsLock seen) given.held obj.held has.held);
  }

  pairs-are : (with_ended g redo b f).pairs.items ≡ pairs
  pairs-are =
      ap (λ (xs : List Pair). (xs ++ (place_sector g (places.Body b.object), body_sector) ∷ []) ++ (place_sector g (places.SubBlock n), block_sector) ∷ []) given.pairs
      ∙ append_assoc (map_pairs g given.writes) ((place_sector g (places.Body b.object), body_sector) ∷ []) ((place_sector g (places.SubBlock n), block_sector) ∷ [])
      ∙ ap (λ x. map_pairs g given.writes ++ (place_sector g (places.Body x), body_sector) ∷ (place_sector g (places.SubBlock n), block_sector) ∷ []) object-is

  -- the change is good
  pub gone-good : IsPlanChange g call seen (with_ended g redo b f).pairs.items (replies.Gone f.key)
  gone-good = subst (λ pairs. IsPlanChange g call seen pairs (replies.Gone f.key)) (sym pairs-are) ordered-good
