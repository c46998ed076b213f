-- The arming is the one that the record takes.
use Rattle.std.proofs.Common.{◌≡◌, ◌∙◌, ℕ, List, false, subst, sym, true}
use Rattle.oracle_soundness.specs.oracle_headline.Tried.{Answered, WasArmed, account_of}
use Rattle.slot_table.specs.declared.records.Record.{Record}
use Rattle.oracle_soundness.proofs.oracle_headline.endings.is_answered_if_ended.Goals as goal

pub returns-then-not-was_armed : goal.returns-then-not-was_armed
returns-then-not-was_armed c = λ told_so index number finder word is ended armed.
    let told = account_of c.args.told.now in
    let taken = c.in-Some.taken in
    let same = c.in-Some.ensures index number finder word is in
    let there = subst (λ (r : List Record). WasArmed told taken.index taken.number r) (sym c.as_slice.ensures.value)
    (subst (λ (n : ℕ). WasArmed told taken.index n told.records) same.1
    (subst (λ (i : ℕ). WasArmed told i number told.records) same.0 armed)) in
    let both : false ≡ true = sym c.if-not-was_armed.true ∙ c.was_armed.ensures there in cc

pub returns : goal.returns
returns c = λ told_so index number finder word is ended armed.
    let same = c.in-Some.ensures index number finder word is in
    subst (λ (i : ℕ). Answered (account_of c.args.told.now) i number) (sym same.0)
    (subst (λ (n : ℕ). Answered (account_of c.args.told.now) c.in-Some.taken.index n) (sym same.1) (c.is_answered.ensures told_so))
