-- The sections so far, and those of the files that are left, are all sections.
use Rattle.std.proofs.Common.{◌≡◌, ◌++◌, drop}
use Rattle.race_page.specs.Files as spec
use Rattle.race_page.proofs.files.file_sections.Given as goal

abbrev pub invariant-loop-number : goal.invariant-loop-number
invariant-loop-number l =
    l.sections.items ++ spec.each_from spec.file_section l.number (drop l.number l.files)
    ≡ spec.each_from spec.file_section 0 l.files
