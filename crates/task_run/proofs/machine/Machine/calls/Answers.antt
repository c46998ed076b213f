-- A call, by its form.
use Rattle.task_run.proofs.StopLemmas.{on_err}
use Rattle.std.proofs.lemmas.Result.{IfOk-weaker}
use Rattle.task_run.proofs.PlanLemmas.{ends_barrier, ends_mark}
use Rattle.std.proofs.lemmas.Result.{IfErr-weaker}
use Rattle.litmus_semantics.specs.Task as meaning
use Rattle.litmus_syntax.specs.declared.statement.Call.{Call}
use Rattle.litmus_syntax.specs.declared.statement.Call.TheVariants as calls
use Rattle.std.proofs.Common.{◌≡◌, ◌==◌, ◌∙◌, ℕ, Bool, true, false, None, Some, if◌then◌else◌, ap, inl, inr, refl, sym}
use Rattle.std.proofs.lemmas.Bool.{eqb-true}
use Rattle.task_plan.specs.Plans.{call_plan}
use Rattle.task_plan.specs.Views.{Plan}
use Rattle.task_run.specs.Plans.{ChecksNoByte}
use Rattle.task_run.proofs.machine.Machine.calls.Goals as goal

-- a call with an access is no check of no byte
has_plan : (text : meaning.Setting) (call one : Call) (plan : Plan) → call ≡ one → call_plan text one ≡ Some plan
    → call_plan text call ≡ None → ChecksNoByte call
has_plan text call one plan is some none =
    absurd (let no : Some plan ≡ None = sym some ∙ (sym (ap (call_plan text) is) ∙ none) in cc)

no_access : (b : Bool) (plan : Plan) → (if b then None else Some plan) ≡ None → b ≡ true
no_access true plan none = refl
no_access false plan none = absurd (let no : Some plan ≡ None = none in cc)

-- of the checks only one of no byte has none
of_check : (text : meaning.Setting) (call : Call) (write : Bool) (x size : ℕ) → call ≡ calls.Check write x size
    → call_plan text call ≡ None → ChecksNoByte call
of_check text call write x size is none = (
  write,
  x,
  is ∙ ap (λ (n : ℕ). calls.Check write x n) (eqb-true size 0 (no_access (size == 0) _ (sym (ap (call_plan text) is) ∙ none))),
)

pub returns-in-Lock-clause-begins : goal.returns-in-Lock-clause-begins
returns-in-Lock-clause-begins c = rw c.in-Lock.is (IfOk-weaker c.locks.result _ _ (λ stage begins s. begins s c.args.site) c.locks.ensures.begins)

pub returns-in-Unlock-clause-begins : goal.returns-in-Unlock-clause-begins
returns-in-Unlock-clause-begins c = λ s. rw c.in-Unlock.is (c.unlocks.ensures.begins s c.args.site)

pub returns-in_ok-marks-in-Mark-clause-begins : goal.returns-in_ok-marks-in-Mark-clause-begins
returns-in_ok-marks-in-Mark-clause-begins c = λ s. rw c.in-Mark.is
    (ends_mark s c.in-Mark.mark c.args.site c.args.self.now c.marks.new.self c.marks.ensures.walk (c.in_ok-marks-in-Mark.ensures.stands s))

pub returns-in-Barrier-clause-begins : goal.returns-in-Barrier-clause-begins
returns-in-Barrier-clause-begins c = λ s. rw c.in-Barrier.is (ends_barrier s c.in-Barrier.field-0 c.args.site c.args.self.now)

pub plans-requires : goal.plans-requires
plans-requires c = record {
  planned = λ text none. elim c.in-Check.is [
    | inl at ↦ of_check text c.args.call at.0 at.1 at.2 at.3 none
    | inr rest ↦ elim rest [
      | inl at ↦ has_plan text c.args.call (calls.AssertWriter at.0 at.1) _ at.2 refl none
      | inr more ↦ elim more [
        | inl at ↦ has_plan text c.args.call (calls.AssertAccess at.0 at.1) _ at.2 refl none
        | inr at ↦ has_plan text c.args.call (calls.AssertBits at.0 at.1) _ at.2 refl none
      ]
    ]
  ];
}

pub returns-in-Lock-clause-stops : goal.returns-in-Lock-clause-stops
returns-in-Lock-clause-stops c = rw c.in-Lock.is (IfErr-weaker c.locks.result _ _ (λ error stops s. stops s c.args.site) c.locks.ensures.stops)

pub returns-in_err-marks-in-Mark-clause-stops : goal.returns-in_err-marks-in-Mark-clause-stops
returns-in_err-marks-in-Mark-clause-stops c = on_err c.from_residual.result (λ s. rw c.in-Mark.is (c.in_err-marks-in-Mark.ensures.stops s c.args.site))
