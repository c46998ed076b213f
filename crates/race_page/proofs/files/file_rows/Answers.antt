-- One row more, and those that are left.
use Rattle.std.proofs.Common.{◌+◌, ◌++◌, ◌∙◌, List, ℕ, ap, append_assoc, arith, drop}
use Rattle.race_page.specs.Files.{each_from, file_row}
use Rattle.race_page.proofs.FileSteps.{each_step}
use Rattle.race_page.proofs.files.file_rows.Goals as goal

pub loop-number-preserved : goal.loop-number-preserved
loop-number-preserved c =
    let number = c.loop-number.number in
    let files = c.args.files.now in
    let file = c.index-files-number.result in
    let more = each_from file_row (number + 1) (drop (number + 1) files) in
    ap (λ (t : List ℕ). t ++ more) (c.in_ok-add_text.ensures (file_row number file) c.file_row.ensures)
    ∙ append_assoc c.loop-number.rows.items (file_row number file) more
    ∙ ap (λ (t : List ℕ). c.loop-number.rows.items ++ t) (each_step file_row files number file (omega arith) c.index-files-number.is)
    ∙ c.loop-number.invariant
