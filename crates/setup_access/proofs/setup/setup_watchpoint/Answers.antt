-- An access that no word can stand for, and one that is watched.
use Rattle.std.proofs.Common.{◌≡◌, ◌+◌, false, true, refl}
use Rattle.setup_access.specs.Kept.{setting_with}
use Rattle.setup_access.specs.declared.outcome.Outcome.TheVariants.{Unencodable}
use Rattle.setup_access.specs.declared.pass.Pass.TheVariants as passes
use Rattle.slot_table.specs.declared.index_order.place.ProbeIndex.TheVariants.{First}
use Rattle.setup_access.specs.declared.setup.Setup.TheVariants.{Insert}
use Rattle.setup_access.proofs.PassLemmas.{going_left, through, unencodable_left, unsettled_left, watched_left}
use Rattle.setup_access.proofs.setup.setup_watchpoint.Goals as goal

pub returns-in-Some-clause-left : goal.returns-in-Some-clause-left
returns-in-Some-clause-left c = λ sites asked given later rest unmarked watched.
    let s = setting_with c.args.setting.now sites in
    through (watched_left s c.args.begun.now asked later given rest c.in-Some.word unmarked watched (c.in-Some.ensures.encodable.0 refl) c.in-Some.ensures.word.is)
    (going_left s c.args.begun.now (asked + 1) later given rest c.going.result (passes.Setup (Insert First c.in-Some.word)) c.going.ensures)

pub returns-in-None-clause-left : goal.returns-in-None-clause-left
returns-in-None-clause-left c = λ sites asked given later rest unmarked watched.
    let s = setting_with c.args.setting.now sites in
    through (unencodable_left s c.args.begun.now asked later given rest unmarked watched (λ word. let no : false ≡ true = c.in-None.ensures.encodable.1 word in cc))
    (unsettled_left s c.args.begun.now (asked + 1) later given rest c.over.result Unencodable c.over.ensures)
