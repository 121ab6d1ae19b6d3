-- What is read off a list of exchanges, the newest first, besides what was shown.
use Rattle.std.specs.Prelude.{◌≡◌, ℕ, List, [], ◌∷◌, ◌++◌}
use Rattle.std.specs.List.{Contains}
use Rattle.ds_base.specs.Exchanges.{Exchange, IsLast, seen_of}
use Rattle.ds_base.specs.declared.sectors.Sector.{Sector}
use Rattle.ds_base.specs.declared.commands.Command.{Command}
use Rattle.ds_base.specs.declared.commands.Command.TheVariants.{Read, Write, Swap}
use Rattle.ds_base.specs.declared.commands.Response.{Response}
use Rattle.ds_base.specs.declared.commands.Response.TheVariants.{Got, Done, Miscompare}
use Rattle.ds_image_parts.specs.Pending.{Pair}

abbrev pub written_with : Command → Response → List Pair → List Pair
written_with (Write at fresh) Done rest = (at, fresh) ∷ rest
written_with command response rest = rest

-- the plain writes that were done
abbrev pub written_of : List Exchange → List Pair
written_of [] = []
written_of (x ∷ xs) = written_with x.command x.response (written_of xs)

-- the exchange is in the list, after these and before those
pub record IsAt (xs : List Exchange) (later : List Exchange) (x : Exchange) (earlier : List Exchange) : Type 0 where
  pub parts : xs ≡ later ++ x ∷ earlier

-- the exchange is a Read that gave this
pub record GotOf (x : Exchange) (at : ℕ) (s : Sector) : Type 0 where
  pub command : x.command ≡ Read at
  pub response : x.response ≡ Got s

-- the exchange is a plain write that was done
pub record WroteOf (x : Exchange) (at : ℕ) (s : Sector) : Type 0 where
  pub command : x.command ≡ Write at s
  pub response : x.response ≡ Done

-- the exchange is a Swap that was done
pub record SwapOf (x : Exchange) (at : ℕ) (verify fresh : Sector) : Type 0 where
  pub command : x.command ≡ Swap at verify fresh
  pub response : x.response ≡ Done

-- the exchange is a Swap that found another image in place
pub record MissOf (x : Exchange) (at : ℕ) (verify fresh : Sector) (offset : ℕ) : Type 0 where
  pub command : x.command ≡ Swap at verify fresh
  pub response : x.response ≡ Miscompare offset

-- a Read in the list gave this
pub record HasRead (xs : List Exchange) (at : ℕ) (s : Sector) : Type 0 where
  pub exchange : Exchange
  pub there : Contains xs exchange
  pub got : GotOf exchange at s

-- a Read in the list gave this, with what came later and before
pub record ReadAt (xs : List Exchange) (at : ℕ) (s : Sector) : Type 0 where
  pub later : List Exchange
  pub exchange : Exchange
  pub earlier : List Exchange
  pub is_at : IsAt xs later exchange earlier
  pub got : GotOf exchange at s

-- a Swap in the list that verified what was shown there last found another image in place, with what came later and before
pub record MissAt (xs : List Exchange) (at : ℕ) : Type 0 where
  pub later : List Exchange
  pub exchange : Exchange
  pub earlier : List Exchange
  pub is_at : IsAt xs later exchange earlier
  pub verify : Sector
  pub fresh : Sector
  pub offset : ℕ
  pub missed : MissOf exchange at verify fresh offset
  pub last : IsLast (seen_of earlier) at verify
