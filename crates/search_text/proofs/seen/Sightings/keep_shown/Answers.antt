-- the entries of the map whose texts aren't hidden stay
use Rattle.std.proofs.Common.{◌∙◌, ap, false, not, rules}
use Rattle.indexmap.proofs.CallerLemmas.{filter-RetainsPairs}
use Rattle.report_text.specs.printed_reports.Texts.{is_hidden_text}
use Rattle.search_text.proofs.Shown.{Entry, shown, shown_kept}
use Rattle.search_text.specs.Printed as spec
use Rattle.search_text.proofs.seen.Sightings.keep_shown.Goals as goal

pub returns : goal.returns
returns c =
    ap shown (filter-RetainsPairs _ (λ (entry : Entry). not (is_hidden_text entry.0.items)) _ (λ k v b w g call. search rules) _ _
    c.retain.ensures.filtered)
    ∙ shown_kept c.self.inside.seen.entries
    ∙ ap (spec.shown false) c.self.view_is
