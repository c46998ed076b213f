-- the map's entry of the text counts once more
use Rattle.std.proofs.Common.{◌≡◌, ◌∙◌, ℕ, List, Some, ap, sym, unwrap_or}
use Rattle.report_text.specs.Groups.{counted, one_more}
use Rattle.report_text.specs.ReportOf.{report_text}
use Rattle.report_text.specs.Sink.{appended}
use Rattle.report_text.proofs.Entries.{counted_is, shown}
use Rattle.report_text.proofs.SinkSteps.{takes_unless_error}
use Rattle.report_text.proofs.groups.Groups.add.Goals as goal

-- what is in a Some
the_same : (xs ys : List ℕ) → Some xs ≡ Some ys → xs ≡ ys
the_same xs ys e = cc

pub returns-clause-counted : goal.returns-clause-counted
returns-clause-counted c =
    let whole = takes_unless_error _ _ _ _ _ _ (sym c.is_err.ensures.value ∙ c.if-is_err.false) c.write_report.ensures in
    ap shown c.in_ok-insert.ensures.entries
    ∙ counted_is c.self.inside.counts.entries c.into_bytes-text.result _
    (c.saturating_add.ensures ∙ ap one_more (c.unwrap_or-seen.ensures
    ∙ ap (λ o. unwrap_or o 0) (c.copied.ensures ∙ c.get.ensures.value)))
    ∙ ap (λ gs. counted gs c.into_bytes-text.result.items) c.self.view_is
    ∙ ap (counted c.args.self.now) (ap (λ v. v.items) c.into_bytes-text.ensures
    ∙ the_same _ _ (whole.holds ∙ ap (λ xs. appended (Some xs) (report_text c.args.sites.now c.args.report.now)) c.new-sink.ensures.bytes))
