-- What a machine says of the latest record of an execution is noted of it.
use Rattle.std.proofs.Common.{◌≡◌, ◌∙◌, ◌++◌, ◌∷◌, [], ℕ, List, Option, ap, length, refl, reverse, subst, sym}
use Rattle.std.proofs.lemmas.List.{length-reverse, reverse-append}
use Rattle.litmus_syntax.specs.Tree.{Block}
use Rattle.executions.specs.execution.Run.{Run, task_of, task_setting}
use Rattle.executions.specs.execution.Execution.{Execution}
use Rattle.executions.specs.execution.Observed.{made_by}
use Rattle.executions.proofs.execution.OwnLasts.{own_latest}
use Rattle.log_correctness.specs.Noted.{IsBegun, IsNoted}
use Rattle.log_correctness.proofs.MachineMatchesRecords.{says_what_begins, says_what_is_noted}
use Rattle.soundness.specs.Events.{DoesEvent, EachDoesItsEvent}
use Rattle.setup_access.specs.declared.begun.Begun.{Begun}
use Rattle.setup_access.specs.declared.outcome.Outcome.{Outcome}
use Rattle.slot_table.specs.Records.{records_of}
use Rattle.slot_table.specs.declared.records.Record.{Record}
use Rattle.task_log.specs.declared.noted.Noted.{Noted}
use Rattle.task_run.specs.Fell.{FellAt}
use Rattle.task_run.specs.Leads.{BeginsNext, Leads, stands_at}
use Rattle.task_run.specs.Says.{Says}
use Rattle.task_run.specs.declared.run.TaskRun.{TaskRun}
use Rattle.program_order.specs.Standing.{Setting}
use Rattle.program_order.specs.TaskObserved.{did_by, did_next}
use Rattle.program_order.specs.WrittenOrder.{WrittenOrder}

-- the same of the same records
same_of : (s : Setting) (registers : ℕ) (body : Block) (P : (r : List Record) → WrittenOrder s registers body r → Type 0) (latest : Record) (made : ℕ)
    (records others : List Record) → others ≡ records
    → (written : WrittenOrder s registers body others) → DoesEvent s (did_by written made) latest.step latest.answer (did_next written made)
    → ((w : WrittenOrder s registers body records) → DoesEvent s (did_by w made) latest.step latest.answer (did_next w made) → P records w)
    → P others written
same_of s registers body P latest made records others is =
    subst (λ (r : List Record). (written : WrittenOrder s registers body r) → DoesEvent s (did_by written made) latest.step latest.answer (did_next written made)
    → ((w : WrittenOrder s registers body records) → DoesEvent s (did_by w made) latest.step latest.answer (did_next w made) → P records w)
    → P r written) (sym is) (λ written does each. each written does)

pub noted_of_machine : (run : Run) (latest : Record) (earlier : List Record) (old : TaskRun) (begins : Option Begun) (fell : Option Outcome)
    → (list : Execution run (latest ∷ earlier))
    → (leads : Leads (task_setting run latest.task) (length (task_of run latest.task).registers) (task_of run latest.task).body (reverse (records_of latest.task earlier)) old)
    → Says old latest.step
    → ((later : List Record) → BeginsNext (task_setting run latest.task) leads.part (stands_at leads later) leads.mine begins) → FellAt old fell latest.answer
    → EachDoesItsEvent list (latest ∷ earlier)
    → IsNoted (list.tasks latest.task) (made_by latest.task earlier) latest
    (record { step = latest.step; answer = latest.answer; begins = begins; outcome = fell })
noted_of_machine run latest earlier old begins fell list leads says next falls does =
    let s : Setting = task_setting run latest.task in
    let registers : ℕ = length (task_of run latest.task).registers in
    let body : Block = (task_of run latest.task).body in
    let own : List Record = records_of latest.task earlier in
    let noted : Noted = record { step = latest.step; answer = latest.answer; begins = begins; outcome = fell } in
    let all : reverse (records_of latest.task (latest ∷ earlier)) ≡ reverse own ++ latest ∷ [] =
    ap (λ (l : List Record). reverse l) (own_latest latest.task latest earlier refl) ∙ reverse-append (latest ∷ []) own in
    same_of s registers body (λ r w. IsNoted w (length own) latest noted) latest (length own) (reverse own ++ latest ∷ [])
    (reverse (records_of latest.task (latest ∷ earlier))) all
    (list.tasks latest.task) does.1
    (λ w event. subst (λ (n : ℕ). IsNoted w n latest noted) (length-reverse own)
    (says_what_is_noted s registers body (reverse own) old latest.step latest.answer begins fell leads says next falls w
    (subst (λ (n : ℕ). DoesEvent s (did_by w n) latest.step latest.answer (did_next w n)) (sym (length-reverse own)) event)))

-- with what it says before the record begins the access that begins in what the list tells of the record
pub begun_of_machine : (run : Run) (latest : Record) (earlier : List Record) (old : TaskRun) (begins : Option Begun)
    → (list : Execution run (latest ∷ earlier))
    → (leads : Leads (task_setting run latest.task) (length (task_of run latest.task).registers) (task_of run latest.task).body (reverse (records_of latest.task earlier)) old)
    → Says old latest.step
    → ((later : List Record) → BeginsNext (task_setting run latest.task) leads.part (stands_at leads later) leads.mine begins)
    → EachDoesItsEvent list (latest ∷ earlier)
    → IsBegun run.rules.plain_writes_atomic latest.task (did_by (list.tasks latest.task) (made_by latest.task earlier))
    (did_next (list.tasks latest.task) (made_by latest.task earlier)) begins
begun_of_machine run latest earlier old begins list leads says next does =
    let s : Setting = task_setting run latest.task in
    let registers : ℕ = length (task_of run latest.task).registers in
    let body : Block = (task_of run latest.task).body in
    let own : List Record = records_of latest.task earlier in
    let all : reverse (records_of latest.task (latest ∷ earlier)) ≡ reverse own ++ latest ∷ [] =
    ap (λ (l : List Record). reverse l) (own_latest latest.task latest earlier refl) ∙ reverse-append (latest ∷ []) own in
    same_of s registers body
    (λ r w. IsBegun run.rules.plain_writes_atomic latest.task (did_by w (length own)) (did_next w (length own)) begins) latest (length own)
    (reverse own ++ latest ∷ []) (reverse (records_of latest.task (latest ∷ earlier))) all (list.tasks latest.task) does.1
    (λ w event. subst (λ (n : ℕ). IsBegun run.rules.plain_writes_atomic latest.task (did_by w n) (did_next w n) begins) (length-reverse own)
    (says_what_begins s registers body (reverse own) old latest.step latest.answer begins leads says next w
    (subst (λ (n : ℕ). DoesEvent s (did_by w n) latest.step latest.answer (did_next w n)) (sym (length-reverse own)) event)))
