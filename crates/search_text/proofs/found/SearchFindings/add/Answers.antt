-- one list more is counted
use Rattle.std.proofs.Common.{◌≡◌, ◌++◌, ◌∙◌, Vec, ap, fold, map, sym, if◌then◌else◌, true, false}
use Rattle.std.specs.Global.{Global}
use Rattle.access_types.specs.declared.report.Report.{Report}
use Rattle.report_text.specs.ReportOf.{report_text}
use Rattle.report_text.specs.Groups.{first_seen, one_more}
use Rattle.search_text.proofs.FoundLemmas.{finds_on}
use Rattle.search_text.proofs.KnownReports.{known_on, texts_found}
use Rattle.search_text.specs.SearchFindings.{ends_so, is_none, option_again, state_in}
use Rattle.search_text.specs.Seen.{sighted}
use Rattle.search_text.specs.Texts.{ending_of}
use Rattle.search_text.proofs.found.SearchFindings.add.Goals as goal

pub returns-clause-finds : goal.returns-clause-finds
returns-clause-finds c = λ lists one finds texts schedule ending.
    let ends = c.in_ok-add_ending.ensures in
    let old = c.args.self.now in
    finds_on lists one old _ finds
    (ends.reports ∙ c.in_ok-add_texts.ensures
    ∙ ap (λ own. fold (sighted c.args.schedule.now) old.reports own) (c.in_ok-texts.ensures ∙ ap first_seen (sym texts))
    ∙ ap (λ s. fold (sighted s) old.reports (first_seen one.texts)) (sym schedule))
    (ends.stuck ∙ ap (λ s. if is_none (ending_of c.args.ending) then option_again s old.stuck else old.stuck) (sym schedule)
    ∙ ap (λ e. if is_none e then option_again one.schedule old.stuck else old.stuck) (sym ending))
    (ends.states ∙ ap (λ s. fold (sighted s) old.states (state_in (ending_of c.args.ending))) (sym schedule)
    ∙ ap (λ e. fold (sighted one.schedule) old.states (state_in e)) (sym ending))
    (c.saturating_add-self.ensures ∙ ap one_more ends.searched)
    (ends.held ∙ ap (λ e. if ends_so true e then one_more old.held else old.held) (sym ending))
    (ends.failed ∙ ap (λ e. if ends_so false e then one_more old.failed else old.failed) (sym ending))

pub returns-clause-known : goal.returns-clause-known
returns-clause-known c = λ are.
    let ends = c.in_ok-add_ending.ensures in
    let old = c.args.self.now in
    let sites = c.args.sites.now in
    let reports = c.args.reports.now in
    ap texts_found (ends.reports ∙ c.in_ok-add_texts.ensures
    ∙ ap (λ own. fold (sighted c.args.schedule.now) old.reports own) c.in_ok-texts.ensures)
    ∙ known_on sites c.args.schedule.now old.reports old.known.items reports are
    ∙ ap (λ all. first_seen (map (report_text sites) (all ++ reports))) (ap (λ (v : Vec Report Global). v.items) (sym ends.known))
    ∙ ap (λ all. first_seen (map (report_text sites) all)) (sym c.in_ok-extend_from_slice.ensures.items)
