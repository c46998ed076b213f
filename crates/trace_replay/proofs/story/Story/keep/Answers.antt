-- the place that the line reached, and what it added
use Rattle.std.proofs.Common.{◌∙◌, refl, subst}
use Rattle.report_text.specs.Standing.{Stands, accesses_of}
use Rattle.report_text.specs.declared.line.Line.TheVariants as lines
use Rattle.trace_replay.proofs.Bags.{on_ok}
use Rattle.trace_replay.proofs.Lines.{knows_access, knows_at, tells_push}
use Rattle.trace_replay.proofs.story.Story.keep.Goals as goal

pub returns-in-Access : goal.returns-in-Access
returns-in-Access c = λ head all tells stands.
    let stood = subst (Stands head all) c.in-Access.is stands in
    let is = stood.content in
    on_ok c.add.result
    (λ kept. tells_push head all c.args.line.now (lines.Access c.in-Access.stamped) _ stands c.place_of-self.ensures c.in-Access.is
    (knows_access all c.in-Access.stamped (record c.args.self.now { place = c.place_of-self.result }) _
    (knows_at all c.args.self.now c.place_of-self.result tells.knows) kept refl))
    (c.add.ensures (accesses_of all) tells.knows.accesses (record { stamps = is.new_stamps; name = is.new_name }) is.has_bytes)

pub returns-in-Arm : goal.returns-in-Arm
returns-in-Arm c = λ head all tells stands. on_ok c.keep_arm.result
    (λ knows. tells_push head all c.args.line.now (lines.Arm c.in-Arm.arm) c.keep_arm.new.self stands
    (c.keep_arm.ensures.place ∙ c.place_of-self.ensures) c.in-Arm.is knows)
    (c.keep_arm.ensures.knows all (knows_at all c.args.self.now c.place_of-self.result tells.knows))

pub returns-in-Take : goal.returns-in-Take
returns-in-Take c = λ head all tells stands. on_ok c.keep_take.result
    (λ knows. tells_push head all c.args.line.now (lines.Take c.in-Take.take) c.keep_take.new.self stands
    (c.keep_take.ensures.place ∙ c.place_of-self.ensures) c.in-Take.is knows)
    (c.keep_take.ensures.knows all (knows_at all c.args.self.now c.place_of-self.result tells.knows))

pub returns-in-Report : goal.returns-in-Report
returns-in-Report c = λ head all tells stands. on_ok c.keep_report.result
    (λ knows. tells_push head all c.args.line.now (lines.Report c.in-Report.report) c.keep_report.new.self stands
    (c.keep_report.ensures.place ∙ c.place_of-self.ensures) c.in-Report.is knows)
    (c.keep_report.ensures.knows all (knows_at all c.args.self.now c.place_of-self.result tells.knows))
