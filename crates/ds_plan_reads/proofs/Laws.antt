-- The planner of the calls that only read an object keeps the law of planners.
use Rattle.std.proofs.Common.{◌≡◌, ℕ, zero, suc, ◌<◌, ◌≤◌, List, [], ◌∷◌, length, slice_index_or, Option, None, Some, refl, sym, subst, ◌∙◌, arith}
use Rattle.std.specs.List.{Contains}
use Rattle.std.proofs.lemmas.Cmp.{nat_eq_equiv}
use Rattle.std.proofs.lemmas.Map.Views.{list_any-from_Contains}
use Rattle.ds_base.specs.Geometry.{IsGeom, items_of}
use Rattle.ds_base.specs.declared.geometry.Geom.{Geom}
use Rattle.ds_base.specs.declared.geometry.Kind.TheVariants.{Fd}
use Rattle.ds_base.specs.declared.names.Key.{Key}
use Rattle.ds_fd.specs.declared.body.Body.{Body}
use Rattle.ds_image_parts.specs.Parts.{Parts, part_at}
use Rattle.ds_image.specs.Planning.{AllAreAllowed, AllAreFew, AllKeep}
use Rattle.ds_image_parts.specs.Readings.{ReadsParts}
use Rattle.ds_image.specs.SeenValues.{SeenValue, look_of}
use Rattle.ds_image.specs.declared.asks.Ask.TheVariants as asks
use Rattle.ds_image.proofs.Spelling.Sizes.{part_within}
use Rattle.ds_layout.specs.Places.{place_sector}
use Rattle.ds_layout.specs.declared.places.Place.TheVariants as places
use Rattle.ds_plan_base.proofs.Alike.{body_alike}
use Rattle.ds_plan_base.proofs.Growing.{Grows}
use Rattle.ds_plan_base.proofs.PlanAsks.{PlanAsks}
use Rattle.ds_plan_base.proofs.PlanLaws.{plan_keeps, plan_allowed, plan_few}
use Rattle.ds_plan_reads.specs.Answers.{ReadsValue, call_of, answers_of, page_by, pointers_by, sectors_by, sectors_of}
use Rattle.ds_plan_reads.proofs.ReplyWalk.{MayHold, MayRead, reply_asks}
use Rattle.ds_tree.specs.CallNames.{HasNames}

asks_of : (plan : ReadsValue) (seen : SeenValue) (p : Parts) → ReadsParts plan.geom (look_of seen) p
    → PlanAsks plan.geom plan.slot (call_of plan) (MayHold plan.key) (MayRead plan.geom plan.key plan.question) seen p (answers_of plan seen p)
asks_of plan seen p reads = reply_asks plan.geom plan.slot plan.key seen p reads plan.question

-- each answer has its form and is right
pub reads_keep : (plan : ReadsValue) → IsGeom plan.geom → HasNames (call_of plan) → AllKeep plan.geom (call_of plan) (answers_of plan)
reads_keep plan is names seen p reads =
    plan_keeps plan.geom plan.slot (call_of plan) (MayHold plan.key) (MayRead plan.geom plan.key plan.question) seen p (answers_of plan seen p) (asks_of plan seen p reads)

-- only allowed locks are asked for
pub reads_allowed : (plan : ReadsValue) → IsGeom plan.geom → HasNames (call_of plan) → AllAreAllowed plan.geom plan.slot (call_of plan) (answers_of plan)
reads_allowed plan is names seen p reads =
    plan_allowed plan.geom plan.slot (call_of plan) (MayHold plan.key) (MayRead plan.geom plan.key plan.question) seen p (answers_of plan seen p) (asks_of plan seen p reads)

-- and no sectors but the body's and one pointer block's
pub reads_needed : (plan : ReadsValue) (seen : SeenValue) (p : Parts) (at : ℕ) → ReadsParts plan.geom (look_of seen) p → answers_of plan seen p ≡ asks.Read at
    → Contains (sectors_of plan p) at
reads_needed plan seen p at reads is =
    (subst (PlanAsks plan.geom plan.slot (call_of plan) (MayHold plan.key) (MayRead plan.geom plan.key plan.question) seen p) is (asks_of plan seen p reads)).one

-- What was known stays known

alone : (x at : ℕ) (others : List ℕ) (i : ℕ) → i < length (x ∷ []) → slice_index_or (x ∷ []) i at ≡ at → Contains (x ∷ others) at
alone x at others zero within is = (0, omega arith, is)
alone x at others (suc i) within is = absurd (omega (arith, within))

module _ (g : Geom) (key : Key) (page : Option ℕ) (seen next : SeenValue) (p q : Parts) (grows : Grows seen next) (reads : ReadsParts g (look_of seen) p) (reads' : ReadsParts g (look_of next) q) where
  sectors_stay : (at : ℕ) (r : Option Body) → part_at p.bodies key.object ≡ r → Contains (place_sector g (places.Body key.object) ∷ pointers_by g r page) at
      → Contains (place_sector g (places.Body key.object) ∷ pointers_by g (part_at q.bodies key.object) page) at
  sectors_stay at None is one =
      alone (place_sector g (places.Body key.object)) at (pointers_by g (part_at q.bodies key.object) page) one.0 one.1 one.2
  sectors_stay at (Some b) is one =
      let inside : key.object < items_of g Fd = omega (arith, part_within p.bodies key.object b is, reads.bodies.len) in
      let here = ((reads.bodies.each key.object inside b).0 is).2 in
      let there = grows.sectors (place_sector g (places.Body key.object)) here.0 here.1 in
      let same = body_alike g (look_of seen) (look_of next) p q key.object inside (here.1 ∙ sym there) reads reads' in
      subst (λ (r : Option Body). Contains (place_sector g (places.Body key.object) ∷ pointers_by g r page) at) (sym is ∙ same) one

few-pointers : (g : Geom) (r : Option Body) (page : Option ℕ) → length (pointers_by g r page) ≤ 1
few-pointers g None page = omega arith
few-pointers g (Some b) None = omega arith
few-pointers g (Some b) (Some page) = omega arith

-- few locks are held, and few sectors read
pub reads_few : (plan : ReadsValue) → IsGeom plan.geom → HasNames (call_of plan) → AllAreFew plan.geom (answers_of plan)
reads_few plan is names =
    let g = plan.geom in
    let key = plan.key in
    let question = plan.question in
    plan_few g plan.slot (call_of plan) (MayHold key) (MayRead g key question) (answers_of plan) (asks_of plan)
    (λ seen next p q grows reads reads' object may. may)
    (λ seen next p q grows reads reads' at may. sectors_stay g key (page_by question) seen next p q grows reads reads' at (part_at p.bodies key.object) refl may)
    (λ seen p. key.object ∷ []) (λ seen p. sectors_by g key question p)
    (λ seen p reads k may. list_any-from_Contains nat_eq_equiv k (key.object ∷ []) (0, omega arith, sym may))
    (λ seen p reads k may. list_any-from_Contains nat_eq_equiv k (sectors_by g key question p) may)
    (λ seen p reads. omega arith)
    (λ seen p reads. omega (arith, few-pointers g (part_at p.bodies key.object) (page_by question)))
