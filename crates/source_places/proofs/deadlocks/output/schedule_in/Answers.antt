-- The words are those behind the option.
use Rattle.std.proofs.Common.{◌≡◌, ◌∙◌, ℕ, List, subst, sym}
use Rattle.std.specs.Prelude.{IsUtf8}
use Rattle.std.proofs.lemmas.Result.{IfOk-weaker}
use Rattle.prepared_program.specs.step_schedule.Spelling.{Spells}
use Rattle.source_places.specs.deadlocks.Explained as spec
use Rattle.source_places.proofs.deadlocks.output.schedule_in.Goals as goal

pub returns-in-Ok : goal.returns-in-Ok
returns-in-Ok c =
    let same : c.in-Ok.words.now ≡ spec.behind_option c.args.line.now = c.in-Ok.ensures.cases.0 ∙ c.behind_option.ensures in
    let utf8 = subst (λ (t : List ℕ). IsUtf8 t) c.behind_option.ensures c.in-Ok.ensures.cases.1 in
    IfOk-weaker c.parse.result _ _
    (λ read is entries. (
      (λ names. (is entries).0 (subst (λ (t : List ℕ). Spells t entries) (sym same) names.1)),
      (λ found. (utf8, subst (λ (t : List ℕ). Spells t entries) same ((is entries).1 found))),
    ))
    c.parse.ensures
