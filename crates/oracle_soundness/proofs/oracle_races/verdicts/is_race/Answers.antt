-- What never writes is said by tests.
use Rattle.std.proofs.Common.{◌↔◌, Bool, IsTrue, not}
use Rattle.std.proofs.lemmas.Result.{IfOk-weaker}
use Rattle.access_types.specs.Access.{Access}
use Rattle.access_types.specs.History.{History}
use Rattle.oracle_soundness.specs.oracle_races.Shown.{AreRace, SomeTwo, WritesNever}
use Rattle.oracle_soundness.proofs.oracle_races.MaskLemmas.{race_on, says_no, some_two_on}
use Rattle.oracle_soundness.proofs.oracle_races.verdicts.is_race.Goals as goal

pub returns : goal.returns
returns c =
    let first = says_no c.some_happens-first_never.ensures in
    let second = says_no c.some_happens-second_never.ensures in
    let Tested : History → Access → Access → Type 0 =
    AreRace c.args.atomic (IsTrue (not c.some_happens-first_never.result)) (IsTrue (not c.some_happens-second_never.result)) in
    let Said : History → Access → Access → Type 0 =
    AreRace c.args.atomic (WritesNever c.args.executions.now c.args.pair.first) (WritesNever c.args.executions.now c.args.pair.second) in
    IfOk-weaker c.some_two.result
    (λ (answer : Bool). IsTrue answer ↔ SomeTwo c.args.executions.now c.args.pair Tested)
    (λ (answer : Bool). IsTrue answer ↔ SomeTwo c.args.executions.now c.args.pair Said)
    (λ answer tells. (
      (λ told. some_two_on c.args.executions.now c.args.pair Tested Said (λ history a b. race_on history c.args.atomic first.0 second.0 a b) (tells.0 told)),
      (λ some. tells.1 (some_two_on c.args.executions.now c.args.pair Said Tested (λ history a b. race_on history c.args.atomic first.1 second.1 a b) some)),
    ))
    c.some_two.ensures
