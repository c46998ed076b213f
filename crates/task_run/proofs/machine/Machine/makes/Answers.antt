-- Reports are turned off, the access is counted, and its check begins.
use Rattle.task_run.proofs.StopLemmas.{on_err}
use Rattle.std.proofs.Common.{◌≡◌, ◌+◌, ◌<◌, ◌≤◌, ◌^◌, ◌∙◌, ℕ, [], ap, false, refl, subst, sym, true}
use Rattle.task_plan.specs.Views.{plan_of}
use Rattle.task_run.proofs.BeginLemmas.{begins_making}
use Rattle.access_run.specs.Leads.{HasCell}
use Rattle.access_types.specs.Access.{Access}
use Rattle.setup_access.specs.Shown.{context_of}
use Rattle.task_run.proofs.StopLemmas.{plan_stops, plan_stops_off}
use Rattle.task_run.specs.Part.{disabled}
use Rattle.task_run.specs.Stands.{Stands}
use Rattle.task_run.proofs.machine.Machine.makes.Goals as goal
use Rattle.program_order.specs.Standing.{checks_of}

pub returns-clause-begins : goal.returns-clause-begins
returns-clause-begins c = λ s fit before stands.
    begins_making s c.args.site (plan_of c.args.plan) c.in_ok-access.access c.args.self.now c.begun-begun.new.self c.begins_at.new.self c.begin-run.new.checker
    c.begin-run.ensures.begins.0 c.begin-run.result c.args.plan.after refl fit (subst (λ (n : ℕ). n ≤ 2 ^ 32) c.data_races.ensures c.in_ok-disable.ensures.few)
    (ap (λ m. m.walk) c.begun-begun.ensures.unchanged ∙ c.disable.ensures.walk) c.in_ok-access.ensures.made.1 c.in_ok-access.ensures.made.2
    c.begin-run.ensures.begins.1 (c.in_ok-access.ensures.made.3 s)
    (λ there later standing. subst (λ (n : ℕ). Stands s (disabled n there later) c.begun-begun.new.self) c.data_races.ensures
    (subst (λ m. Stands s (disabled c.data_races.result there later) m) (sym c.begun-begun.ensures.unchanged)
    (c.in_ok-disable.ensures.stands s there later standing)))
    ((c.has_cell.ensures s (before []) (stands [])).0 c.if-not-has_cell.false)
    (λ variables there later keeps. c.begins_at.ensures.keeps variables there c.in_ok-access.access later keeps c.in_ok-access.ensures.made.1)
    (λ scopes asked last. c.begin-run.ensures.begins.2 (checks_of s) scopes asked last)
    (λ scopes asked last. c.begin-run.ensures.context (checks_of s) scopes asked last) c.begun-begun.result
    (λ there standing own. c.begun-begun.ensures.begins s there (subst (λ m. Stands s there m) c.begun-begun.ensures.unchanged standing) own) before stands

pub returns-in_err-access-clause-stops : goal.returns-in_err-access-clause-stops
returns-in_err-access-clause-stops c = on_err c.from_residual.result (λ s. plan_stops s c.args.site (plan_of c.args.plan) c.args.self.now
    (λ before stands both. c.in_err-access.ensures.cannot s before stands both.0))

pub returns-then-not-has_cell-clause-stops : goal.returns-then-not-has_cell-clause-stops
returns-then-not-has_cell-clause-stops c = λ s. plan_stops s c.args.site (plan_of c.args.plan) c.args.self.now
    (λ before stands both.
    let planned = c.in_ok-access.ensures.made.3 s before stands in
    let has = (c.has_cell.ensures s before stands).1 (subst (λ (a : Access). HasCell (checks_of s) a (plan_of c.args.plan).operation) (sym planned) both.1) in
    let no : false ≡ true = sym c.if-not-has_cell.true ∙ has in cc)

pub returns-in_err-disable-clause-stops : goal.returns-in_err-disable-clause-stops
returns-in_err-disable-clause-stops c = on_err c.from_residual-in_err-disable.result (λ s. plan_stops_off s c.args.site (plan_of c.args.plan) c.args.self.now
    (subst (λ (n : ℕ). 2 ^ 32 < (context_of c.args.self.now.checker).disable_count + n) c.data_races.ensures c.in_err-disable.ensures.many))
