-- What is written for a fault.
use Rattle.std.specs.Prelude.{ℕ, List, codes}
use Rattle.ds_script.specs.declared.faults.LineFault.{LineFault}
use Rattle.ds_script.specs.declared.faults.LineFault.TheVariants as faults
use Rattle.ds_script.specs.declared.faults.What.{What}
use Rattle.ds_script.specs.declared.faults.What.TheVariants as whats

-- the name of the fault in lower case
abbrev pub fault_text : LineFault → List ℕ
fault_text faults.Volume = codes "volume"
fault_text faults.Word = codes "word"
fault_text faults.Count = codes "count"
fault_text faults.Number = codes "number"
fault_text faults.Uuid = codes "uuid"
fault_text faults.Geom = codes "geom"
fault_text faults.Host = codes "host"
fault_text faults.Variable = codes "variable"
fault_text faults.Point = codes "point"
fault_text faults.Arm = codes "arm"

abbrev pub what_text : What → List ℕ
what_text whats.Bytes = codes "bytes"
what_text whats.Hosts = codes "hosts"
what_text whats.Directives = codes "directives"
what_text whats.Steps = codes "steps"
what_text whats.Volume = codes "volume"
