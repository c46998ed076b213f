-- A record that is refused on the words before it breaks the rules, and one that isn't keeps them.
use Rattle.std.proofs.Common.{◌↔◌, IsTrue}
use Rattle.std.proofs.lemmas.Bool.{false≢true}
use Rattle.slot_table.specs.declared.records.Record.{Record}
use Rattle.slot_table.specs.declared.step.Answer.TheVariants.{Word}
use Rattle.slot_table.specs.declared.step.Step.TheVariants.{Load}
use Rattle.slot_table.proofs.Prefixes.{May, accepted_at, refused_at}
use Rattle.slot_table.proofs.replay.keeps_rules.Goals as goal

-- any record, for an index past the last
abbrev none : Record
none = record { task = 0; step = Load 0; answer = Word 0 }

pub returns-then-not-follows-clause-rules : goal.returns-then-not-follows-clause-rules
returns-then-not-follows-clause-rules c =
    let shape = c.args.shape in
    let made = c.args.made.now in
    let index = c.loop-position.position in
    let before = c.loop-position.board in
    let May = May shape.slots shape.locks shape.cells.now made index none in
    let rules : IsTrue c.follows.result ↔ May before = c.follows.ensures.rules in
    let breaks =
    refused_at shape.slots shape.locks shape.cells.now made index none before c.follows.result
    c.loop-position-test.true c.loop-position.invariant.board c.if-not-follows.true rules in
    (λ both. absurd (false≢true both), λ both. absurd (breaks both))

pub loop-position-preserved : goal.loop-position-preserved
loop-position-preserved c =
    let shape = c.args.shape in
    let made = c.args.made.now in
    let index = c.loop-position.position in
    let before = c.loop-position.board in
    let May = May shape.slots shape.locks shape.cells.now made index none in
    let rules : IsTrue c.follows.result ↔ May before = c.follows.ensures.rules in
    let more =
    accepted_at shape.slots shape.locks shape.cells.now made index none before
    c.follows.new.board
    c.loop-position-test.true c.loop-position.invariant.board c.loop-position.invariant.rules
    (rules.0 c.if-not-follows.false) (c.follows.ensures.after c.if-not-follows.false) in
    record { board = more.0; rules = more.1 }
