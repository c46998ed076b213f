-- What a small list tells.
use Rattle.std.proofs.Common.{◌≡◌, ◌∙◌, ℕ, zero, suc, Bool, true, false, List, [], ◌∷◌, None, Some, IsTrue, ◌≤◌, arith, lit<, refl, slice_get, subst, sym}
use Rattle.std.proofs.lemmas.Bool.{ne_eqb}
use Rattle.access_types.specs.Sites.{map_of}
use Rattle.access_types.proofs.SiteEntries.{get-lookup}
use Rattle.access_types.specs.declared.history.Happening.{Happening}
use Rattle.access_types.specs.declared.history.Happening.TheVariants as happenings
use Rattle.access_types.specs.declared.history.Mark.TheVariants as marks
use Rattle.access_types.specs.declared.history.Moment.{Moment}
use Rattle.litmus_semantics.specs.RunOfProgram.{setting_of}
use Rattle.litmus_semantics.specs.TextSites.{block_sites}
use Rattle.litmus_semantics.specs.declared.site.Site.{Site}
use Rattle.litmus_syntax.specs.Tree.{Block, Program}
use Rattle.litmus_syntax.specs.Tree as tree
use Rattle.litmus_syntax.specs.declared.program.Contents.TheVariants.{Lock}
use Rattle.litmus_syntax.specs.declared.proposition.Quantifier.TheVariants as quantifiers
use Rattle.litmus_syntax.specs.declared.statement.Call.TheVariants as calls
use Rattle.slot_table.specs.Records.{records_of}
use Rattle.slot_table.specs.declared.records.Record.{Record}
use Rattle.slot_table.specs.declared.step.Answer.TheVariants as answers
use Rattle.slot_table.specs.declared.step.Step.TheVariants as steps
use Rattle.watch_word.specs.declared.layout.Layout.TheVariants.{W64}
use Rattle.program_order.specs.Standing.{Standing, doing}
use Rattle.program_order.specs.Waits.{WithinTurns}
use Rattle.program_order.specs.WrittenOrder.{at_first}
use Rattle.executions.specs.execution.Run.{Run, task_of}
use Rattle.executions.specs.execution.Execution.{InWrittenOrder, Execution}
use Rattle.executions.specs.execution.Observed.{history_of}

-- one lock; the one task takes it in a flat region and gives it up after that, the other takes it in a nested one
abbrev first_text : Block
first_text = tree.first (tree.call (calls.Mark marks.FlatBegin)) (tree.first (tree.call (calls.Lock 0))
    (tree.first (tree.call (calls.Mark marks.FlatEnd)) (tree.first (tree.call (calls.Unlock 0)) tree.empty)))

abbrev second_text : Block
second_text = tree.first (tree.call (calls.Mark marks.NestOpen)) (tree.first (tree.call (calls.Lock 0)) tree.empty)

abbrev run : Run
run = record {
  program = record {
    name = [];
    variables = record { name = 97 ∷ []; contents = Lock } ∷ [];
    tasks = record { parameters = []; registers = []; body = first_text } ∷ record { parameters = []; registers = []; body = second_text } ∷ [];
    quantifier = quantifiers.Exists;
    condition = tree.always;
  };
  places = [];
  rules = record { slots = 1; skip = 0; randomize = false; seed = 0; value_change_only = false; plain_writes_atomic = true; layout = W64; turns = 3 };
  sites = map_of [];
}

abbrev tried : ℕ → Bool → Record
tried task was_free = record { task = task; step = steps.LockTry 0 task; answer = answers.Flag was_free }

abbrev freed : Record
freed = record { task = 0; step = steps.LockStore 0; answer = answers.Done }

-- the latest first: task 1 tries while task 0 has the lock, and takes it afterwards
abbrev made : List Record
made = tried 1 true ∷ freed ∷ tried 1 false ∷ tried 0 true ∷ []

first_part : InWrittenOrder run 0 (freed ∷ tried 0 true ∷ [])
first_part =
    let one : Standing = doing (at_first 0) (tried 0 true ∷ freed ∷ []) (happenings.Mark marks.FlatBegin ∷ []) in
    let two : Standing = doing one (freed ∷ []) (happenings.Lock 0 ∷ []) in
    let three : Standing = doing two (freed ∷ []) (happenings.Mark marks.FlatEnd ∷ []) in
    let four : Standing = doing three [] (happenings.Unlock 0 ∷ []) in
    let none : IsTrue false → ⊥ = λ h. let no_way : false ≡ true = h in cc in
    record {
      more = [];
      whole = record {
        end = four;
        steps = (
          one,
          tried 0 true ∷ freed ∷ [],
          (false, (λ h. none h, λ h. absurd h), (refl, refl)),
          (
            two,
            freed ∷ [],
            (refl, (refl, refl, refl), refl),
            (
              three,
              freed ∷ [],
              (false, (λ h. none h, λ h. absurd h), (refl, refl)),
              (four, [], ((refl, refl, (refl, refl)), refl), (refl, refl)),
            ),
          ),
        );
      };
    }

second_part : InWrittenOrder run 1 (tried 1 true ∷ tried 1 false ∷ [])
second_part =
    let one : Standing = doing (at_first 0) (tried 1 false ∷ tried 1 true ∷ []) (happenings.Mark marks.NestOpen ∷ []) in
    let two : Standing = doing one [] (happenings.Lock 0 ∷ []) in
    let none : IsTrue false → ⊥ = λ h. let no_way : false ≡ true = h in cc in
    record {
      more = [];
      whole = record {
        end = two;
        steps = (
          one,
          tried 1 false ∷ tried 1 true ∷ [],
          (false, (λ h. none h, λ h. absurd h), (refl, refl)),
          (two, [], (refl, (refl, refl, (refl, refl, refl)), refl), (refl, refl)),
        );
      };
    }

nobody_else : (n : ℕ) → records_of (suc (suc n)) made ≡ []
nobody_else n = rw (ne_eqb 1 (suc (suc n)) (λ e. omega (arith, e)), ne_eqb 0 (suc (suc n)) (λ e. omega (arith, e))) refl

parts : (task : ℕ) → InWrittenOrder run task (records_of task made)
parts zero = first_part
parts (suc zero) = second_part
parts (suc (suc n)) = subst (λ (own : List Record). InWrittenOrder run (suc (suc n)) own) (sym (nobody_else n))
    (record { more = []; whole = record { end = at_first 0; steps = (refl, refl) } })

turns : (task : ℕ) → WithinTurns 3 (records_of task made)
turns zero = ((tt, λ h. let more : 3 ≤ 0 = h.1 in omega arith), λ h. h.0)
turns (suc zero) = ((tt, λ h. let more : 3 ≤ 0 = h.1 in omega arith), λ h. let more : 3 ≤ 1 = h.1 in omega arith)
turns (suc (suc n)) = subst (λ (own : List Record). WithinTurns 3 own) (sym (nobody_else n)) tt

no_sites : (task number : ℕ) (site : Site) → slice_get (block_sites (setting_of run.program run.places task) (task_of run task).body) number ≡ Some site → ⊥
no_sites zero number site is = cc
no_sites (suc zero) number site is = cc
no_sites (suc (suc n)) number site is = cc

list : Execution run made
list = record {
  legal = ((((tt, record { names = lit< tt; answer = refl }), record { names = lit< tt; answer = refl }), record { names = lit< tt; answer = refl }), record { names = lit< tt; answer = refl });
  tasks = parts;
  within = turns;
  sites = λ ticket a. ((λ h. let none : None ≡ Some a = sym (get-lookup [] ticket) ∙ h in absurd (cc)), (λ h. absurd (no_sites a.task a.site h.1.site h.1.stands)));
}

abbrev moment : ℕ → Happening → Moment
moment task happening = record { task = task; happening = happening }

-- first the marks before any step, by task; the end of the flat region comes with the lock, before task 1 tries
told : history_of list ≡ moment 0 (happenings.Mark marks.FlatBegin) ∷ moment 1 (happenings.Mark marks.NestOpen) ∷ moment 0 (happenings.Lock 0)
    ∷ moment 0 (happenings.Mark marks.FlatEnd) ∷ moment 0 (happenings.Unlock 0) ∷ moment 1 (happenings.Lock 0) ∷ []
unfolding list parts first_part second_part
told = refl
