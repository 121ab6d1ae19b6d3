-- The owners that headers name.
use Rattle.std.specs.Prelude.{◌≡◌, ℕ}
use Rattle.ds_marks.specs.declared.header.Owner.{Owner}
use Rattle.ds_conduct.specs.Digests.{Own}
use Rattle.ds_conduct.specs.Settings.{Setting}

-- the owner is this generation of this slot
pub record IsOf (owner : Owner) (slot generation : ℕ) : Type 0 where
  pub same_slot : owner.slot ≡ slot
  pub same_generation : owner.generation ≡ generation

-- the owner that the host writes under a generation that it holds
abbrev pub owner_of : Setting → Own → Owner
owner_of setting own = record { slot = own.slot; generation = own.generation; host = setting.host }
