-- No descriptor so far lists the item.
use Rattle.std.proofs.Common.{◌≡◌, ℕ, ◌<◌, ◌==◌, false, slice_get}
use Rattle.std.specs.List.{list_any}
use Rattle.ds_image.specs.Listers.{listed_of}
use Rattle.ds_image_parts.specs.Parts.{Parts, part_at}
use Rattle.ds_image_parts.specs.Readings.{ReadsParts}
use Rattle.ds_image.proofs.guards.lister_or.Given as goal

abbrev pub invariant-loop-object : goal.invariant-loop-object
invariant-loop-object _ l =
    (p : Parts) → ReadsParts l.image.geom (slice_get l.image.sectors) p
    → (i : ℕ) → i < l.object → list_any (λ x. x == l.n) (listed_of l.kind (part_at p.bodies i)) ≡ false
