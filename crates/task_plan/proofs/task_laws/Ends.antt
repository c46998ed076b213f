-- What is open is open to its end: another answer of a step goes on to an end of its own.
use Rattle.std.proofs.Common.{◌≡◌, ◌++◌, ℕ, Bool, List, [], ◌∷◌, None, Option, Some, refl, subst}
use Rattle.access_types.specs.Access.{Access}
use Rattle.task_plan.specs.task_laws.LeadsOn.{AnswersLeadOn}
use Rattle.task_plan.proofs.task_laws.Checks.{PassesAreOpen, check_open, close_open}
use Rattle.task_plan.proofs.task_laws.Memory.{operates_open}
use Rattle.task_plan.proofs.task_laws.Opens.{Begins, IsOpen, Lists, Open}
use Rattle.task_plan.proofs.task_laws.Waits.{lock_open}
use Rattle.access_run.specs.memory_operation.Locks.{TakesLock}
use Rattle.access_run.specs.memory_operation.Operations.{Operates}
use Rattle.access_run.specs.declared.memory_operation.effect.Effect.{Effect}
use Rattle.access_run.specs.declared.memory_operation.operation.Operation.{Operation}
use Rattle.setup_access.specs.Check.{Check, Close, Passes}
use Rattle.setup_access.specs.Setting.{Setting}
use Rattle.setup_access.specs.declared.begun.Begun.{Begun}
use Rattle.slot_table.specs.declared.records.Record.{Record}

-- nothing follows
abbrev pub AtEnd : Lists
AtEnd rest = rest ≡ []

never : (front : List Record) (first : Record) (back : List Record) → (front ++ first ∷ back ≡ []) → ⊥
never [] first back is = cc
never (before ∷ front) first back is = cc

pub end_open : Open AtEnd AtEnd
end_open = record {
  some = ([], refl);
  turns = λ front first other back h alike. absurd (never front first back h);
}

-- a whole part leads on where it is open at one, by the value that it gives
leads_on : (X : Type 0) (R : Begins X) → IsOpen X R → AnswersLeadOn R
leads_on X R opens front first other back value h alike =
    let own = (opens (λ v. AtEnd) (λ v. AtEnd) (λ v. end_open)).turns front first other back (value, [], h, refl) alike in
    (own.0, own.1.0, subst (λ (r : List Record). R (front ++ other ∷ own.0) own.1.0 r) own.1.3 own.1.2)

passes_lead_on : (R : Begins Passes) → PassesAreOpen R → AnswersLeadOn R
passes_lead_on R opens front first other back value h alike =
    let own = (opens (λ asked. AtEnd) (λ asked. AtEnd) (λ asked. end_open)).turns front first other back (value, [], h, refl) alike in
    (own.0, own.1.0, subst (λ (r : List Record). R (front ++ other ∷ own.0) own.1.0 r) own.1.3 own.1.2)

pub check_leads : (s : Setting) (scopes : List Begun) (begun : Begun) (asked : ℕ) → AnswersLeadOn (Check s scopes begun asked)
check_leads s scopes begun asked front first other back value h alike =
    passes_lead_on (Check s scopes begun asked) (check_open s scopes begun asked h.0 h.1) front first other back value h alike

pub close_leads : (s : Setting) (scope : Begun) (silenced : Bool) (asked : ℕ) → AnswersLeadOn (Close s scope silenced asked)
close_leads s scope silenced asked front first other back value h alike =
    passes_lead_on (Close s scope silenced asked) (close_open s scope silenced asked h.0) front first other back value h alike

pub operation_leads : (s : Setting) (a : Access) (operation : Option Operation) → AnswersLeadOn (Operates s a operation)
operation_leads s a None front first other back value h alike =
    leads_on Effect (Operates s a None) (operates_open s a None tt) front first other back value h alike
operation_leads s a (Some operation) front first other back value h alike =
    leads_on Effect (Operates s a (Some operation)) (operates_open s a (Some operation) (rw h.1 refl)) front first other back value h alike

pub tries_lead : (task lock : ℕ) → AnswersLeadOn {X = Unit {0}} (λ records value rest. TakesLock task lock records rest)
tries_lead task lock front first other back value h alike =
    leads_on (Unit {0}) (λ records v rest. TakesLock task lock records rest) (lock_open task lock) front first other back value h alike
