-- Each call does what its form does.
use Rattle.std.proofs.Common.{◌≡◌, ◌∷◌, [], ◌∙◌, IfOk, ap, subst}
use Rattle.access_types.specs.declared.history.Happening.TheVariants as happenings
use Rattle.access_types.specs.declared.history.Mark.TheVariants as marks
use Rattle.litmus_semantics.specs.Task.{Progress, doing}
use Rattle.oracle_semantics.proofs.oracle_meaning.StepLemmas.{doing_twice, is_some}
use Rattle.oracle_semantics.specs.oracle_meaning.Walks.{stands}
use Rattle.oracle_semantics.proofs.oracle_meaning.call.calls.Goals as goal

pub returns-in-AssertWriter-clause-means : goal.returns-in-AssertWriter-clause-means
returns-in-AssertWriter-clause-means c = λ s is.
    rw c.in-AssertWriter.is (rw (c.bytes_in.ensures s is) at (c.checks_at.ensures.means s is))

pub returns-in-AssertAccess-clause-means : goal.returns-in-AssertAccess-clause-means
returns-in-AssertAccess-clause-means c = λ s is.
    rw c.in-AssertAccess.is (rw (c.bytes_in-in-AssertAccess.ensures s is) at (c.checks_at-in-AssertAccess.ensures.means s is))

pub returns-in_ok-checked-in-AssertBits-clause-means :
    goal.returns-in_ok-checked-in-AssertBits-clause-means
returns-in_ok-checked-in-AssertBits-clause-means c = λ s is.
    let next = happenings.Mark (marks.Next 1) ∷ [] in
    let checked = rw (c.bytes_in-bytes.ensures s is) at (c.in_ok-checked-in-AssertBits.ensures.means s is) in
    rw c.in-AssertBits.is
    (subst (λ (p : Progress). IfOk c.doing-in-AssertBits.result (λ after. stands after ≡ p))
    (ap (λ (p : Progress). doing p next) checked ∙ doing_twice (stands c.args.before) _ next)
    c.doing-in-AssertBits.ensures.comes)

pub returns-else-size-eq0-clause-means : goal.returns-else-size-eq0-clause-means
returns-else-size-eq0-clause-means c = λ s is.
    rw (c.in-Check.is, is_some c.in-Check.size c.if-size-eq0.false)
    (rw (c.checked_bytes-bytes.ensures s is, c.check_kind.ensures) at (c.checks_at-in-Check.ensures.means s is))
