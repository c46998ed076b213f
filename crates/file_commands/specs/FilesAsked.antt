-- The files that a command goes over.
use Rattle.file_commands.specs.FileWork.{Asked}
use Rattle.file_commands.specs.declared.files.FilesAsked.{FilesAsked}

-- what is asked, without where the names lie in memory
abbrev pub asked_by : FilesAsked → Asked
asked_by asked = record { files = asked.files.now; options = asked.options; work = asked.work; jobs = asked.jobs }
