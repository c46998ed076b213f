-- the counts of all lists stand in place of those of the first ones
use Rattle.std.proofs.Common.{◌∙◌, ap, refl}
use Rattle.search_text.proofs.CountedLemmas.{finds_counted}
use Rattle.search_text.proofs.KnownReports.{counted_texts, texts_found}
use Rattle.search_text.specs.Counted.{with_counts}
use Rattle.search_text.proofs.found.SearchFindings.counted.Goals as goal

pub returns-clause-finds : goal.returns-clause-finds
returns-clause-finds c = λ all some finds keeps are.
    finds_counted all some c.args.self _ c.args.counts finds keeps are
    (c.set_times.ensures ∙ ap (λ counts. with_counts counts c.args.self.reports) c.deref.ensures.value)
    c.set_stuck.ensures
    (c.set_times-2.ensures ∙ ap (λ counts. with_counts counts c.args.self.states) c.deref-2.ensures.value)
    refl refl refl

pub returns-clause-known : goal.returns-clause-known
returns-clause-known c = λ sites are.
    ap texts_found (c.set_times.ensures ∙ ap (λ counts. with_counts counts c.args.self.reports) c.deref.ensures.value)
    ∙ counted_texts c.args.counts.reports.items c.args.self.reports
    ∙ are
