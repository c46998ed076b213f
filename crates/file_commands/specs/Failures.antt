-- Why the program does not end well.
use Rattle.file_commands.specs.declared.desk.ReadFault.{ReadFault}
use Rattle.file_commands.specs.declared.desk.ReadFault.TheVariants as fault
use Rattle.file_commands.specs.declared.failure.Failure.{Failure}
use Rattle.file_commands.specs.declared.failure.Failure.TheVariants as failure

-- what a file that gives no bytes means
abbrev pub read_failure : ReadFault → Failure
read_failure fault.OutOfMemory = failure.OutOfMemory
read_failure fault.CannotRead = failure.CannotRead
