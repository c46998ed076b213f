-- The rows so far, and those of the files that are left, are all rows.
use Rattle.std.proofs.Common.{◌≡◌, ◌++◌, drop}
use Rattle.race_page.specs.Files as spec
use Rattle.race_page.proofs.files.file_rows.Given as goal

abbrev pub invariant-loop-number : goal.invariant-loop-number
invariant-loop-number l =
    l.rows.items ++ spec.each_from spec.file_row l.number (drop l.number l.files) ≡ spec.each_from spec.file_row 0 l.files
