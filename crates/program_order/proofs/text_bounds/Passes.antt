-- A text that keeps its limits passes none.
use Rattle.std.proofs.Common.{◌≡◌, ◌≤◌, ◌^◌, ℕ, List, [], arith}
use Rattle.litmus_syntax.specs.Limits.{BlockScopes, block_rises}
use Rattle.litmus_syntax.specs.Tree.{Block}
use Rattle.slot_table.specs.declared.records.Record.{Record}
use Rattle.program_order.proofs.text_bounds.Rises.{disables_grow, nest_opens_grow}
use Rattle.program_order.proofs.text_bounds.Scopes.{few_in_force}
use Rattle.program_order.specs.text_bounds.Passes.{PassesALimit, disables, nest_opens, scopes}
use Rattle.program_order.specs.Standing.{Setting}
use Rattle.program_order.specs.WrittenOrder.{SpellsAll, at_first}

pub passes_none : (s : Setting) (registers : ℕ) (body : Block) (records : List Record) → BlockScopes 0 body → block_rises body ≤ 2 ^ 32
    → (spells : SpellsAll s registers body records) → ¬ PassesALimit s spells.end
passes_none s registers body records fits rises spells (disables more) =
    let most = disables_grow s 0 body (at_first registers) records spells.end [] spells.steps in omega (arith, more, most, rises)
passes_none s registers body records fits rises spells (nest_opens more) =
    let most = nest_opens_grow s 0 body (at_first registers) records spells.end [] spells.steps in omega (arith, more, most, rises)
passes_none s registers body records fits rises spells (scopes front back split more) =
    let few = few_in_force s registers body records fits spells front back split in omega (arith, few, more)
