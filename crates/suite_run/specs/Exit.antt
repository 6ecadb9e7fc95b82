-- The exit status of a process, by how its run ended (this project's own).
use Rattle.std.specs.Prelude.{ℕ}
use Rattle.suite_run.specs.declared.status.Status.{Status}
use Rattle.suite_run.specs.declared.status.Status.TheVariants.{Done, SomeRefused, BadWords, OpenFault, ReadFault, WriteFault, NoMemory, InputTooLong}

abbrev pub exit_code_of : Status → ℕ
exit_code_of Done = 0
exit_code_of SomeRefused = 1
exit_code_of BadWords = 2
exit_code_of OpenFault = 3
exit_code_of ReadFault = 4
exit_code_of WriteFault = 5
exit_code_of NoMemory = 6
exit_code_of InputTooLong = 7
