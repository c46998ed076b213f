-- What one record more says of a task's records that are read as its whole text.
use Rattle.std.proofs.Common.{◌≡◌, ◌<◌, ◌↔◌, ◌++◌, ◌∷◌, ◌∙◌, [], ℕ, suc, Bool, false, true, IfSome, IsTrue}
use Rattle.std.proofs.Common.{◌⊎◌, ◌+◌, List, None, Option, Some, add-one, ap, drop, get_or, inl, inr, is_some, length, subst, sym, take}
use Rattle.std.proofs.Math.Seq.{drop-cons, take-length, take-suc}
use Rattle.std.proofs.lemmas.List.{append_assoc, append-nil, take-append-drop}
use Rattle.litmus_syntax.specs.Limits.{TaskKeepsLimits}
use Rattle.litmus_syntax.specs.Tree.{Block, Task}
use Rattle.setup_access.specs.Parts.{made}
use Rattle.slot_table.specs.Answer.{Answers}
use Rattle.slot_table.specs.declared.records.Record.{Record}
use Rattle.slot_table.specs.declared.step.Answer.{Answer}
use Rattle.slot_table.specs.declared.step.Step.{Step}
use Rattle.task_plan.specs.task_laws.Fits.{ArePlaced}
use Rattle.task_run.specs.Leads.{Leads}
use Rattle.task_run.specs.declared.run.TaskRun.{TaskRun}
use Rattle.program_order.specs.Standing.{Setting}
use Rattle.program_order.specs.Waits.{IsStuck, OnlyStep}
use Rattle.program_order.specs.WrittenOrder.{SpellsAll, WrittenOrder}
use Rattle.oracle_steps.specs.oracle_accesses.Reading.{IsMade}

-- nothing follows on records that spell a whole text
abbrev pub NothingFollows : Type 0
NothingFollows = (s : Setting) (registers : ℕ) (body : Block) (records more : List Record)
    → SpellsAll s registers body records → SpellsAll s registers body (records ++ more) → more ≡ []

-- what is answered leads on
abbrev pub AnAnswerLeadsOn : Type 0
AnAnswerLeadsOn = (s : Setting) (task : Task) (records : List Record) (step : Step) (answer : Answer)
    → ArePlaced s → TaskKeepsLimits s.text.variables task → Answers step answer
    → WrittenOrder s (length task.registers) task.body records
    → OnlyStep s (length task.registers) task.body records step
    → WrittenOrder s (length task.registers) task.body (records ++ made s.text.task step answer ∷ [])

-- the text is over where the task isn't stuck
pub over_whole : (s : Setting) (registers : ℕ) (body : Block) (records : List Record) (stuck : Bool)
    → (IsTrue stuck ↔ IsStuck s registers body records) → stuck ≡ false
    → SpellsAll s registers body records ⊎ IsStuck s registers body records → SpellsAll s registers body records
over_whole s registers body records stuck is off (inl whole) = whole
over_whole s registers body records stuck is off (inr h) = absurd (let both : false ≡ true = sym off ∙ is.1 h in cc)

-- a record is the step that it is made of
same_made : (s : Setting) (task : ℕ) (step : Step) (latest : Record) → s.text.task ≡ task → IsMade latest task step
    → latest ≡ made s.text.task step latest.answer
same_made s task step latest own is = ap (λ (t : ℕ). made t latest.step latest.answer) (is.0 ∙ sym own)
    ∙ ap (λ (other : Step). made s.text.task other latest.answer) is.1

-- one record more, of the step that goes on
pub one_more : (s : Setting) (text : Task) (records : List Record) (n : ℕ) (default : Record) → n < length records
    → (task : ℕ) (step : Step) (test : Bool) → s.text.task ≡ task → (IsTrue test ↔ IsMade (get_or records n default) task step) → test ≡ true
    → AnAnswerLeadsOn → ArePlaced s → TaskKeepsLimits s.text.variables text
    → OnlyStep s (length text.registers) text.body (take n records) step
    → WrittenOrder s (length text.registers) text.body (take n records) → (after : TaskRun)
    → Leads s (length text.registers) text.body (take n records ++ made s.text.task step (get_or records n default).answer ∷ []) after
    → Leads s (length text.registers) text.body (take (n + 1) records) after
    × WrittenOrder s (length text.registers) text.body (take (n + 1) records)
one_more s text records n default below task step test own is on leads_on placed limits only written after leads =
    let latest = get_or records n default in
    let now = is.0 on in
    let same : take n records ++ made s.text.task step latest.answer ∷ [] ≡ take (n + 1) records
    = ap (λ (r : Record). take n records ++ r ∷ []) (sym (same_made s task step latest own now))
    ∙ (sym (take-suc records n default below) ∙ ap (λ (k : ℕ). take k records) (sym (add-one n))) in (
      subst (λ (all : List Record). Leads s (length text.registers) text.body all after) same leads,
      subst (WrittenOrder s (length text.registers) text.body) same
          (leads_on s text (take n records) step latest.answer placed limits now.2 written only),
    )

module _ (s : Setting) (registers : ℕ) (body : Block) (records : List Record) (n : ℕ) where
  -- all of them are read
  pub all_read : n ≡ length records → (run : TaskRun)
      → Leads s registers body (take n records) run × WrittenOrder s registers body (take n records)
      → Leads s registers body records run × WrittenOrder s registers body records
  all_read same run here =
      let all : take n records ≡ records = ap (λ k. take k records) same ∙ take-length records in
      (subst (λ (r : List Record). Leads s registers body r run) all here.0, subst (WrittenOrder s registers body) all here.1)

  -- the records so far may be stuck
  pub stuck_here : IsStuck s registers body (take n records)
      → (earlier rest : List Record) × (records ≡ earlier ++ rest) × IsStuck s registers body earlier
  stuck_here stuck = (take n records, drop n records, sym (take-append-drop n records), stuck)

  module _ (default : Record) (below : n < length records) where
    -- the records are those read so far, the next one and the rest
    parted : records ≡ take n records ++ get_or records n default ∷ drop (suc n) records
    parted = sym (take-append-drop n records) ∙ ap (λ (rest : List Record). take n records ++ rest) (drop-cons records n default below)

    -- so they are with more
    longer : (more : List Record) → records ++ more ≡ take n records ++ get_or records n default ∷ (drop (suc n) records ++ more)
    longer more = ap (λ (all : List Record). all ++ more) parted
        ∙ append_assoc (take n records) (get_or records n default ∷ drop (suc n) records) more

    -- a step after the end
    pub step_too_many : NothingFollows → SpellsAll s registers body (take n records) → ¬ WrittenOrder s registers body records
    step_too_many ends whole = λ written.
        let rest = get_or records n default ∷ (drop (suc n) records ++ written.more) in
        let none : rest ≡ [] = ends s registers body (take n records) rest whole
        (subst (SpellsAll s registers body) (longer written.more) written.whole) in cc

    module _ (task : ℕ) (step : Step) (test : Bool) (own : s.text.task ≡ task) (is : IsTrue test ↔ IsMade (get_or records n default) task step) where
      -- another step than the one that goes on
      pub other_step : OnlyStep s registers body (take n records) step → test ≡ false → ¬ WrittenOrder s registers body records
      other_step only off = λ written.
          let goes = only (get_or records n default ∷ (drop (suc n) records ++ written.more))
          (subst (SpellsAll s registers body) (longer written.more) written.whole) in
          let both : false ≡ true = sym off ∙ is.1 (goes.0 ∙ own, goes.1, goes.2) in cc

-- a step is missing
pub step_missing : (s : Setting) (registers : ℕ) (body : Block) (records : List Record) (next : Option Step)
    → IfSome next (OnlyStep s registers body records) → is_some next ≡ true → ¬ SpellsAll s registers body records
step_missing s registers body records None only some = absurd (let no : false ≡ true = some in cc)
step_missing s registers body records (Some step) only some = λ whole.
    only [] (subst (SpellsAll s registers body) (sym (append-nil records)) whole)
