-- Parts whose steps may be answered in any way.
use Rattle.std.specs.Prelude.{◌++◌, List, [], ◌∷◌}
use Rattle.slot_table.specs.declared.records.Record.{Record}
use Rattle.task_plan.specs.task_laws.SameStep.{IsAlike}

-- where a record of a whole part had another answer, the records up to it and some more are the whole of one too
abbrev pub AnswersLeadOn : {X : Type 0} → (List Record → X → List Record → Type 0) → Type 0
AnswersLeadOn {X = X} Begins =
    (front : List Record) (first other : Record) (back : List Record) (value : X)
    → Begins (front ++ first ∷ back) value [] → IsAlike first other
    → (more : List Record) × (another : X) × Begins (front ++ other ∷ more) another []
