-- The line on the head is that on what is found in it, and then come those on tokens.
use Rattle.std.proofs.Common.{◌++◌, ◌∙◌, List, Option, ap, ap₂, ℕ}
use Rattle.std.proofs.lemmas.List.{append_assoc}
use Rattle.litmus_syntax.specs.Views.{program_of}
use Rattle.check_warnings.specs.HeadText.{text_in}
use Rattle.check_warnings.specs.OtherReadings.{lines_at, places_of}
use Rattle.check_warnings.specs.Warnings.{head_line, program_lines}
use Rattle.check_warnings.proofs.warnings.text_warnings.Goals as goal

pub returns : goal.returns
returns c = λ name tokens spelled.
    let head = c.in_ok-lines.ensures
    ∙ ap (λ (found : Option ℕ). head_line c.args.file.now c.args.text.now found) (c.passed_text.ensures.exact name spelled.at spelled.head) in
    let readings = c.deref.ensures.value ∙ c.in_ok-readings.ensures name tokens spelled in
    let others = c.deref-2.ensures.value ∙ c.in_ok-others.ensures in
    c.in_ok-extend_from_slice-2.ensures.items
    ∙ (ap₂ (λ (one other : List ℕ). one ++ other)
    (c.in_ok-extend_from_slice.ensures.items ∙ ap₂ (λ (one other : List ℕ). one ++ other) head readings) others
    ∙ append_assoc (head_line c.args.file.now c.args.text.now (text_in spelled.head))
    (lines_at c.args.file.now c.args.text.now (places_of tokens)) (program_lines c.args.file.now (program_of c.args.program.now)))
