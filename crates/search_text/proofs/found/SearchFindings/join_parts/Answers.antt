-- what is found of the later ones is added
use Rattle.std.proofs.Common.{◌++◌, ◌∙◌, ap, map, sym}
use Rattle.report_text.specs.Groups.{first_seen}
use Rattle.report_text.specs.ReportOf.{report_text}
use Rattle.search_text.proofs.JoinLemmas.{finds_joined, known_joined}
use Rattle.search_text.proofs.KnownReports.{texts_found}
use Rattle.search_text.specs.Joined.{found_in}
use Rattle.search_text.proofs.found.SearchFindings.join_parts.Goals as goal

pub returns-clause-finds : goal.returns-clause-finds
returns-clause-finds c = λ lists more first second.
    finds_joined lists more c.args.self.now (found_in c.args.later) _ first second
    c.in_ok-add_texts.ensures c.join_seen.ensures c.in_ok-add_texts-2.ensures
    c.saturating_add-self.ensures c.saturating_add-self-2.ensures c.saturating_add-self-3.ensures

pub returns-clause-known : goal.returns-clause-known
returns-clause-known c = λ sites first second.
    let reports = found_in c.args.later in
    ap texts_found c.in_ok-add_texts.ensures
    ∙ known_joined sites c.args.self.now.reports reports.reports c.args.self.now.known.items c.args.later.known.items first second
    ∙ ap (λ more. first_seen (map (report_text sites) (c.args.self.now.known.items ++ more))) (sym c.deref.ensures.value)
    ∙ ap (λ all. first_seen (map (report_text sites) all)) (sym c.in_ok-extend_from_slice.ensures.items)
