-- What the run has of the list is written, and it is to be accepted where all tasks have ended.
use Rattle.std.proofs.Common.{◌≡◌, ◌≤◌, ◌∙◌, ℕ, All, List, ap, length, rules, subst, sym}
use Rattle.accepted_traces.specs.Parts.{HasLowMask}
use Rattle.trace_replay.specs.Answer.{IsAccepted}
use Rattle.trace_replay.specs.declared.accepted.Accepted.TheVariants as accepted
use Rattle.report_text.specs.TraceText.{written_trace}
use Rattle.run_output.proofs.trace.trace_of.Goals as goal
use Rattle.watch_word.specs.declared.layout.Layout.{Layout}

pub returns-in-Ok-clause-accepted : goal.returns-in-Ok-clause-accepted
returns-in-Ok-clause-accepted g c = λ run records comes ended same_slots same_layout few.
    let accesses = c.in_ok-accesses.accesses.items in
    let arms = c.in_ok-arms.arms.items in
    let takes = c.in_ok-takes.takes.items in
    let reports = c.reports.result.now in
    let settings = c.args.settings.now in
    let spelled : c.into_bytes.result.items ≡ written_trace settings.slots settings.layout accesses arms takes reports = search rules in
    let masks : All HasLowMask accesses = search rules in
    let can = g.R.Ran.can c.args.ran.now run records comes in
    let true_one = c.law_traces_in_either_order_are_true.ensures.accepted run records (g.R.Ran.list_of c.args.ran.now run records comes)
    can.limits can.slots (subst (λ (n : ℕ). n ≤ 1024) (sym same_slots) few) ended accesses arms takes
    (record {
      accesses_are = c.in_ok-accesses.ensures run records comes;
      arms_are = c.in_ok-arms.ensures run records comes;
      takes_are = c.in_ok-takes.ensures run records comes;
      masks = masks;
    }) reports (c.reports.ensures.told run records comes) in
    let counts = accepted.Second (length accesses) (length arms) (length takes) (length reports) in (
      counts,
      subst (λ (bytes : List ℕ). IsAccepted bytes counts) (sym spelled)
          (subst (λ (l : Layout). IsAccepted (written_trace settings.slots l accesses arms takes reports) counts) same_layout
          (subst (λ (n : ℕ). IsAccepted (written_trace n run.rules.layout accesses arms takes reports) counts) same_slots true_one)),
    )
