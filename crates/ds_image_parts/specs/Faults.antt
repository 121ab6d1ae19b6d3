-- What a fault of an image says.
use Rattle.std.specs.Prelude.{List, ⊤}
use Rattle.ds_base.specs.declared.geometry.Geom.{Geom}
use Rattle.ds_base.specs.declared.sectors.Sector.{Sector}
use Rattle.ds_image_parts.specs.BadSectors.{IsLeastBad}
use Rattle.ds_image_parts.specs.declared.images.ImageFault.{ImageFault}
use Rattle.ds_image_parts.specs.declared.images.ImageFault.TheVariants.{NoMemory, Bad}

-- memory may be wanting at any time; a bad sector is the least one
abbrev pub IsFaultOf : Geom → List Sector → ImageFault → Type 0
IsFaultOf g sectors NoMemory = ⊤
IsFaultOf g sectors (Bad at) = IsLeastBad g sectors at
