-- The statuses' numbers and names.
use Rattle.std.specs.Prelude.{ℕ, List, codes}
use Rattle.script_front.specs.declared.status.Status.{Status}
use Rattle.script_front.specs.declared.status.Status.TheVariants.{Done, Usage, SourceFault, SinkFault, Memory, LineTooLong}

abbrev pub code_of : Status → ℕ
code_of Done = 0
code_of Usage = 2
code_of SourceFault = 4
code_of SinkFault = 5
code_of Memory = 6
code_of LineTooLong = 8

abbrev pub name_of : Status → List ℕ
name_of Done = codes "Done"
name_of Usage = codes "Usage"
name_of SourceFault = codes "SourceFault"
name_of SinkFault = codes "SinkFault"
name_of Memory = codes "Memory"
name_of LineTooLong = codes "LineTooLong"
