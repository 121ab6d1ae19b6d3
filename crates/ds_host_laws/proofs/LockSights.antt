-- What a pass shows of a header and of slots, as causes of answers say it.
use Rattle.std.proofs.Common.{◌≡◌, ℕ, ◌<◌, List, [], ◌∷◌, ◌++◌, Some, refl, sym, ap, ◌∙◌, append_assoc, arith}
use Rattle.ds_base.specs.Exchanges.{Exchange}
use Rattle.ds_base.specs.Geometry.{IsGeom}
use Rattle.ds_conduct.specs.Causes.{ReadsHeader, ReadsOther, ReadsOwner, ReadsSlot}
use Rattle.ds_conduct.specs.Digests.{Own}
use Rattle.ds_conduct.specs.Exchanges.{ReadAt}
use Rattle.ds_lock.specs.Locking.{IsOwned, IsOwnedBy, IsShown, header_image, lock_sector, read_of, slot_image, slot_sector}
use Rattle.ds_lock.specs.declared.steps.Wanted.{Wanted}
use Rattle.ds_lock.proofs.Order.{read-after}
use Rattle.ds_lock.proofs.Shown.{few-slots}
use Rattle.ds_marks.specs.Header.{IsHeader}
use Rattle.ds_marks.specs.Slot.{IsSlot}
use Rattle.ds_marks.specs.SlotIn.{slot_in}
use Rattle.ds_marks.specs.declared.header.Header.{Header}
use Rattle.ds_marks.specs.declared.header.Owner.{Owner}
use Rattle.ds_marks.specs.declared.slot.Slot.{Slot}
use Rattle.ds_base.specs.declared.sectors.Sector.{Sector}
use Rattle.ds_host_laws.proofs.Spelled.{header-again, slot-again}

-- a Read with what came later and before
abbrev pub read-at : (all later earlier : List Exchange) (at tick : ℕ) (s : Sector) → all ≡ later ++ read_of at s tick ∷ earlier
    → ReadAt all at s
read-at all later earlier at tick s parts = record {
  later = later;
  exchange = read_of at s tick;
  earlier = earlier;
  is_at = record { parts = parts };
  got = record { command = refl; response = refl };
}

pub regrouped : {X : Type 0} (front pass newer middle rest : List X) (x y : X) → pass ≡ newer ++ x ∷ (middle ++ y ∷ [])
    → front ++ (pass ++ rest) ≡ ((front ++ newer) ++ x ∷ middle) ++ y ∷ rest
regrouped front pass newer middle rest x y parts =
    ap (λ l. front ++ (l ++ rest)) parts
    ∙ (ap (λ l. front ++ l) (append_assoc newer (x ∷ (middle ++ y ∷ [])) rest
    ∙ ap (λ l. newer ++ x ∷ l) (append_assoc middle (y ∷ []) rest))
    ∙ (sym (append_assoc front newer (x ∷ (middle ++ y ∷ rest))) ∙ sym (append_assoc (front ++ newer) (x ∷ middle) (y ∷ rest))))

module _ (w : Wanted) (is_geom : IsGeom w.geom) where
  pub slot-spelled : (slot : ℕ) (s : Slot) → slot < w.geom.slots → IsSlot s → slot_in slot (slot_image slot s).bytes ≡ Some s
  slot-spelled slot s within is =
      let few : slot < 16 = few-slots w.geom slot is_geom within in
      slot-again slot s (omega (arith, few)) is

  -- a slot that was read
  abbrev pub reads-slot : (all later earlier : List Exchange) (tick slot : ℕ) (s : Slot) → slot < w.geom.slots → IsSlot s
      → all ≡ later ++ read_of (slot_sector w.geom slot) (slot_image slot s) tick ∷ earlier → ReadsSlot w.geom all slot s
  reads-slot all later earlier tick slot s within is parts = record {
    within = within;
    sector = slot_image slot s;
    read = read-at all later earlier (slot_sector w.geom slot) tick (slot_image slot s) parts;
    spelled = slot-spelled slot s within is;
  }

  -- the header that was read
  abbrev pub reads-header : (all later earlier : List Exchange) (tick : ℕ) (h : Header) → IsHeader h → h.object ≡ w.object
      → all ≡ later ++ read_of (lock_sector w.geom w.object) (header_image h) tick ∷ earlier → ReadsHeader w.geom all w.object h
  reads-header all later earlier tick h is same parts = record {
    sector = header_image h;
    read = read-at all later earlier (lock_sector w.geom w.object) tick (header_image h) parts;
    spelled = header-again h is;
    same_object = same;
  }

  module _ (own : Own) (same_slot : own.slot ≡ w.own.slot) (front pass rest : List Exchange) where
    pub shown-parts : (h : Header) (shown : IsShown w pass h)
        → front ++ (pass ++ rest) ≡ (front ++ shown.later) ++ read_of (lock_sector w.geom w.object) (header_image h) shown.tick ∷ rest
    shown-parts h shown =
        let header : Exchange = read_of (lock_sector w.geom w.object) (header_image h) shown.tick in
        ap (λ (l : List Exchange). front ++ (l ++ rest)) shown.parts
        ∙ (ap (λ (l : List Exchange). front ++ l) (append_assoc shown.later (header ∷ []) rest)
        ∙ sym (append_assoc front shown.later (header ∷ rest)))

    -- a pass that shows a header had read it
    abbrev pub shown-header : (h : Header) → IsShown w pass h → ReadsHeader w.geom (front ++ (pass ++ rest)) w.object h
    shown-header h shown = reads-header (front ++ (pass ++ rest)) (front ++ shown.later) rest shown.tick h shown.is_header
        shown.same_object (shown-parts h shown)

    abbrev pub shown-owner : (h : Header) (o : Owner) → IsOwned w pass h o → ReadsOwner w.geom (front ++ (pass ++ rest)) w.object o
    shown-owner h o owned = record { header = h; reads = shown-header h owned.shown; owned = owned.owned }

    module _ (h : Header) (slot : ℕ) (s : Slot) (by : IsOwnedBy w pass h slot s) where
      abbrev header_read : Exchange
      header_read = read_of (lock_sector w.geom w.object) (header_image h) by.names.shown.tick

      abbrev slot_read : Exchange
      slot_read = read_of (slot_sector w.geom slot) (slot_image slot s) by.read.tick

      pub order : (middle : List Exchange) × (pass ≡ by.read.later ++ slot_read ∷ (middle ++ header_read ∷ []))
      order = read-after w pass h by.names.shown slot s by.read

      abbrev behind : List Exchange
      behind = (front ++ by.read.later) ++ slot_read ∷ order.0

      pub other-parts : front ++ (pass ++ rest) ≡ behind ++ header_read ∷ rest
      other-parts = regrouped front pass by.read.later order.0 rest slot_read header_read order.1

      -- a pass that shows the owner had read its slot after the header
      abbrev pub shown-other : ReadsOther w.geom own (front ++ (pass ++ rest)) w.object slot s
      shown-other = record {
        owner = by.owner;
        named = record {
          header = h;
          reads = reads-header (front ++ (pass ++ rest)) behind rest by.names.shown.tick h by.names.shown.is_header
              by.names.shown.same_object other-parts;
          owned = by.names.owned;
        };
        same_slot = by.same_slot;
        other = λ same. by.other (same ∙ same_slot);
        shown = reads-slot behind (front ++ by.read.later) order.0 by.read.tick slot s by.read.within by.read.is_slot refl;
        same_generation = by.same_generation;
      }
