-- One section more, and those that are left.
use Rattle.std.proofs.Common.{◌+◌, ◌++◌, ◌∙◌, List, ℕ, ap, append_assoc, arith, drop}
use Rattle.race_page.specs.Files.{each_from, file_section}
use Rattle.race_page.proofs.FileSteps.{each_step}
use Rattle.race_page.proofs.files.file_sections.Goals as goal

pub loop-number-preserved : goal.loop-number-preserved
loop-number-preserved c =
    let number = c.loop-number.number in
    let files = c.args.files.now in
    let file = c.index-files-number.result in
    let more = each_from file_section (number + 1) (drop (number + 1) files) in
    ap (λ (t : List ℕ). t ++ more) (c.in_ok-add_text.ensures (file_section number file) c.file_section.ensures)
    ∙ append_assoc c.loop-number.sections.items (file_section number file) more
    ∙ ap (λ (t : List ℕ). c.loop-number.sections.items ++ t) (each_step file_section files number file (omega arith) c.index-files-number.is)
    ∙ c.loop-number.invariant
