-- Each assignment does what its form does, with the values of its expressions.
use Rattle.oracle_semantics.specs.oracle_meaning.Walks.{stands}
use Rattle.oracle_semantics.proofs.oracle_meaning.store.assigns.Goals as goal

pub returns-in_ok-between-in-Register-clause-means :
    goal.returns-in_ok-between-in-Register-clause-means
returns-in_ok-between-in-Register-clause-means c = λ s is.
    rw c.in-Register.is
    (c.in_ok-between-in-Register.value, stands c.in_ok-between-in-Register.between, c.in_ok-between-in-Register.ensures.means s is, c.assigning.ensures.comes)

pub returns-in-Write-clause-means : goal.returns-in-Write-clause-means
returns-in-Write-clause-means c = λ s is.
    rw c.in-Write.is (rw (c.write_kind.ensures, c.pure_value-value.ensures, c.as_slice.ensures.value) at (c.writes_to.ensures.means s is))

pub returns-in-Add-clause-means : goal.returns-in-Add-clause-means
returns-in-Add-clause-means c = λ s is.
    rw c.in-Add.is (rw (c.pure_value-amount.ensures, c.as_slice-in-Add.ensures.value) at (c.adds_to.ensures.means s is))

pub returns-in-Increment-clause-means : goal.returns-in-Increment-clause-means
returns-in-Increment-clause-means c = λ s is. rw c.in-Increment.is (c.adds_to-in-Increment.ensures.means s is)

pub returns-in-AtomicAdd-clause-means : goal.returns-in-AtomicAdd-clause-means
returns-in-AtomicAdd-clause-means c = λ s is.
    rw c.in-AtomicAdd.is (rw (c.pure_value-amount-in-AtomicAdd.ensures, c.as_slice-in-AtomicAdd.ensures.value) at (c.adds_to-in-AtomicAdd.ensures.means s is))

pub returns-in-AtomicIncrement-clause-means : goal.returns-in-AtomicIncrement-clause-means
returns-in-AtomicIncrement-clause-means c = λ s is. rw c.in-AtomicIncrement.is (c.adds_to-in-AtomicIncrement.ensures.means s is)

pub returns-in-AtomicDecrement-clause-means : goal.returns-in-AtomicDecrement-clause-means
returns-in-AtomicDecrement-clause-means c = λ s is. rw c.in-AtomicDecrement.is (c.adds_to-in-AtomicDecrement.ensures.means s is)
