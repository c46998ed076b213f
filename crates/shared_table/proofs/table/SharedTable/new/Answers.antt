use Rattle.std.proofs.Common.{ℕ, List, [], ◌∷◌, sym, ◌∙◌, subst}
use Rattle.shared_table.specs.Given.{Given}
use Rattle.shared_table.specs.RunningWords.{RunningWords}
use Rattle.shared_table.specs.Views.{everyone}
use Rattle.shared_table.proofs.Beginning.{begins}
use Rattle.shared_table.proofs.table.SharedTable.new.Goals as goal

pub of_words-requires : goal.of_words-requires
of_words-requires c =
    let given : Given = c.in_ok-opening.opening in
    let P : List ℕ → Type 0 = λ row. RunningWords given row (everyone given ∷ []) in
    subst P (sym (c.as_slice.ensures.value ∙ c.in_ok-words.ensures)) (begins given)
