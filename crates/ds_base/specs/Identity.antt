-- Host ids.
use Rattle.std.specs.Prelude.{ℕ, List, ◌++◌, take}
use Rattle.uuid.specs.Parts.{with_version, with_variant}
use Rattle.uuid.specs.declared.Variant.TheVariants as variants
use Rattle.uuid.specs.declared.Version.TheVariants as versions
use Rattle.sha1.specs.Sha1.{sha1}

-- the version 5 id (RFC 9562, 5.5) of a name in the namespace of the volume's id
abbrev pub host_id_of : List ℕ → List ℕ → List ℕ
host_id_of volume name = with_version (with_variant (take 16 (sha1 (volume ++ name))) variants.RFC4122) versions.Sha1
