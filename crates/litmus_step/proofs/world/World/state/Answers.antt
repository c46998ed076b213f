-- What is told of a machine is so whatever records reach it.
use Rattle.std.proofs.Common.{◌≡◌, ◌∙◌, Bool, false, subst, sym, true}
use Rattle.litmus_step.proofs.TurnLemmas.{same_machine}
use Rattle.litmus_step.proofs.world.World.state.Goals as goal
use Rattle.litmus_step.specs.Steps.{GoesOn, IsFree, IsFailedWait, IsTaskOver}

never : (says : Bool) → says ≡ false → ¬ says ≡ true
never says is so = let no : true ≡ false = sym so ∙ is in cc

pub returns-then-stuck : goal.returns-then-stuck
returns-then-stuck c = λ machine stands.
    let failed_wait : IsFailedWait c.index.result.now = λ s registers body records reach.
    (c.stuck.ensures.records s registers body records reach.leads reach.written reach.scopes reach.rises).0 c.if-stuck.true in
    subst IsFailedWait (same_machine c.args.self.now c.args.task c.index.result.now machine c.requires c.index.ensures stands) failed_wait

pub returns-then-is_over : goal.returns-then-is_over
returns-then-is_over c = λ machine stands.
    let free : IsFree c.index.result.now = λ s registers body records reach stuck.
    never c.stuck.result c.if-stuck.false
    ((c.stuck.ensures.records s registers body records reach.leads reach.written reach.scopes reach.rises).1 stuck) in
    let over : IsTaskOver c.index-2.result.now = λ s registers body records reach.
    (c.is_over.ensures s registers body records reach.leads reach.scopes reach.rises).0 c.if-is_over.true in (
      subst IsFree (same_machine c.args.self.now c.args.task c.index.result.now machine c.requires c.index.ensures stands) free,
      subst IsTaskOver (same_machine c.args.self.now c.args.task c.index-2.result.now machine c.requires c.index-2.ensures stands) over,
    )

pub returns : goal.returns
returns c = λ machine stands.
    let free : IsFree c.index.result.now = λ s registers body records reach stuck.
    never c.stuck.result c.if-stuck.false
    ((c.stuck.ensures.records s registers body records reach.leads reach.written reach.scopes reach.rises).1 stuck) in
    let goes_on : GoesOn c.index-2.result.now = λ s registers body records reach spelled.
    never c.is_over.result c.if-is_over.false ((c.is_over.ensures s registers body records reach.leads reach.scopes reach.rises).1 spelled) in (
      subst IsFree (same_machine c.args.self.now c.args.task c.index.result.now machine c.requires c.index.ensures stands) free,
      subst GoesOn (same_machine c.args.self.now c.args.task c.index-2.result.now machine c.requires c.index-2.ensures stands) goes_on,
    )
