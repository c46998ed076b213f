-- A cell that isn't there comes last.
use Rattle.std.proofs.Common.{◌≡◌, ◌∙◌, ◌==◌, ℕ, List, ap, false, sym}
use Rattle.std.specs.List.{list_any}
use Rattle.litmus_semantics.specs.Layout.{block_of}
use Rattle.prepared_program.proofs.program_layout.CellLemmas.{new_cell}
use Rattle.prepared_program.proofs.program_layout.layout.add_cell.Goals as goal

pub returns : goal.returns
returns c =
    let there = λ (cells : List ℕ). list_any (λ other. other == block_of c.args.variable.0.addr) cells in
    let none : there c.args.cells.now.items ≡ false = sym (c.if-is_among.ensures ∙ ap there c.as_slice.ensures.value) in
    c.in_ok-push.ensures.items ∙ new_cell c.args.cells.now.items c.args.variable c.if-bytes-eq0.false none
