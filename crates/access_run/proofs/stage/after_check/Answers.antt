-- The check goes on, or the operation follows, or the end.
use Rattle.std.proofs.Common.{◌≡◌, ◌++◌, ◌∷◌, [], None, false, subst, sym, true}
use Rattle.std.proofs.lemmas.List.{append-nil}
use Rattle.access_run.specs.Leads.{IsReady, Runs, same_effect}
use Rattle.access_run.specs.Whole.{IsWhole}
use Rattle.access_run.specs.memory_operation.Effects.{nothing}
use Rattle.access_run.specs.memory_operation.Operations.{Operates}
use Rattle.setup_access.specs.Checker.{Checks}
use Rattle.access_run.proofs.LeadsLemmas.{checked_now, not_operated, nothing_operated, still_checked}
use Rattle.access_run.proofs.stage.after_check.Goals as goal

pub returns-then-not-is_over-clause-leads : goal.returns-then-not-is_over-clause-leads
returns-then-not-is_over-clause-leads c = λ s scopes begun asked operation records last leads none ready. (
  leads,
  still_checked s scopes begun asked records last none
      (λ done. let yes : c.is_over.result ≡ true = (c.is_over.ensures.done s scopes (Checks begun) asked (records ++ last ∷ []) leads).1 done in
      let no : c.is_over.result ≡ false = c.if-not-is_over.true in cc),
  ready,
)

pub returns-in-Some-clause-leads : goal.returns-in-Some-clause-leads
returns-in-Some-clause-leads c = λ s scopes begun asked operation records last leads none ready.
    let runs : Runs s begun.access operation [] c.in-Some.run' = subst (λ o. IsReady s begun.access operation o) c.in-Some.is ready in
    let done = (c.is_over.ensures.done s scopes (Checks begun) asked (records ++ last ∷ []) leads).0 c.if-not-is_over.false in (
      records ++ last ∷ [],
      [],
      sym (append-nil (records ++ last ∷ [])),
      checked_now s scopes begun asked records last c.args.checker.now leads none (c.is_over.ensures.complete s scopes (Checks begun) asked (records ++ last ∷ []) leads done),
      not_operated s begun.access operation c.in-Some.run' runs,
      runs,
    )

pub returns-in-None-clause-leads : goal.returns-in-None-clause-leads
returns-in-None-clause-leads c = λ s scopes begun asked operation records last leads none ready.
    let is_none : operation ≡ None = subst (λ o. IsReady s begun.access operation o) c.in-None.is ready in
    let done = (c.is_over.ensures.done s scopes (Checks begun) asked (records ++ last ∷ []) leads).0 c.if-not-is_over.false in (
      records ++ last ∷ [],
      [],
      sym (append-nil (records ++ last ∷ [])),
      checked_now s scopes begun asked records last c.args.checker.now leads none (c.is_over.ensures.complete s scopes (Checks begun) asked (records ++ last ∷ []) leads done),
      subst (λ o. IsWhole same_effect (Operates s begun.access o) [] nothing) (sym is_none) (nothing_operated s begun.access),
    )
