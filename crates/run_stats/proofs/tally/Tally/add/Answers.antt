-- one run more is counted
use Rattle.std.proofs.Common.{fold, ◌≡◌, ◌∷◌, ◌∙◌, [], All, Bool, List, ap, map, refl, rules, subst, sym, if◌then◌else◌}
use Rattle.std.proofs.lemmas.List.{map-append}
use Rattle.report_text.specs.Groups.{counted}
use Rattle.report_text.specs.ReportOf.{NamesAccesses, report_text}
use Rattle.access_types.specs.declared.report.Report.{Report}
use Rattle.report_text.specs.printed_reports.Printed.{printed_reports}
use Rattle.run_stats.proofs.NameLemmas.{printed_are_named}
use Rattle.run_stats.proofs.TallyLemmas.{counted_on, groups_on, raced_on, rested, sums_go_on}
use Rattle.access_types.specs.Sites.{AccessMap}
use Rattle.litmus_step.specs.Runs.{run_of}
use Rattle.prepared_program.specs.program_sites.Prepared.{sites_in}
use Rattle.run_stats.specs.Output.{AreSums}
use Rattle.run_stats.specs.Runs.{OneRun}
use Rattle.task_log.specs.declared.counters.Counters.{Counters}
use Rattle.run_stats.proofs.tally.Tally.add.Goals as goal
use Rattle.run_stats.proofs.tally.Tally.add.Goals.{then-self, else-self}

-- the reports that are printed, of the accesses of the program
are_printed : (unknown : Bool) (map_of sites : AccessMap) (own reports : List Report) → map_of ≡ sites → own ≡ reports
    → printed_reports unknown map_of own ≡ printed_reports unknown sites reports
are_printed unknown map_of sites own reports of are =
    ap (λ all. printed_reports unknown all own) of ∙ ap (printed_reports unknown sites) are

pub count_reports-requires : goal.count_reports-requires
count_reports-requires c =
    let sites = sites_in c.args.prepared.now in
    let ended = c.args.ended.now in
    let is : c.as_slice-shown.result.now ≡ printed_reports c.args.unknown sites ended.reports.items =
    c.as_slice-shown.ensures.value ∙ c.in_ok-printed.ensures
    ∙ are_printed c.args.unknown c.sites-sites.result.now sites c.reports.result.now ended.reports.items c.sites-sites.ensures c.reports.ensures in
    subst (λ map_of. All (NamesAccesses map_of) c.as_slice-shown.result.now) (sym c.sites-sites.ensures)
    (subst (All (NamesAccesses sites)) (sym is) (printed_are_named c.args.unknown sites ended.reports.items c.requires.names))

pub returns : goal.returns
returns c = λ settings runs tallies prepared once.
    let unknown = c.args.unknown in
    let program = c.args.program.now in
    let ended = c.args.ended.now in
    let sites = sites_in c.args.prepared.now in
    let one : OneRun program settings = record {
      result = ended;
      once = once;
      headline = c.law_the_headline_holds.ensures (run_of program settings once.sites) once.records once.list;
      found = c.in_ok-found.found;
      found_of = c.in_ok-found.ensures settings once.sites once.records (once.list, once.is_of) prepared;
    } in
    let own : OneRun program settings → List Report = λ r. printed_reports unknown sites r.result.reports.items in
    let is : c.in_ok-printed.printed.items ≡ own one =
    c.in_ok-printed.ensures
    ∙ are_printed unknown c.sites-sites.result.now sites c.reports.result.now ended.reports.items c.sites-sites.ensures c.reports.ensures in
    let raced = raced_on c.args.self.now.raced c.as_slice-shown.result.now own runs one (c.as_slice-shown.ensures.value ∙ is)
    tallies.raced c.if-self.self
    (elim c.if-self.branch [
      | then-self w ↦ search rules
      | else-self w ↦ search rules
    ]) in (
      one,
      refl,
      record {
        groups = groups_on (report_text sites) own runs one c.args.self.now.groups c.count_reports.new.groups tallies.groups
            (c.in_ok-count_reports.ensures
            ∙ ap (λ (map_of : AccessMap). fold counted c.args.self.now.groups (map (report_text map_of) c.as_slice-shown.result.now)) c.sites-sites.ensures
            ∙ ap (λ reports. fold counted c.args.self.now.groups (map (report_text sites) reports)) (c.as_slice-shown.ensures.value ∙ is));
        counters = subst (λ (all : List Counters). AreSums all c.add.new.self)
            (sym (map-append (λ (r : OneRun program settings). r.found.counters) runs (one ∷ [])))
            (sums_go_on (map (λ (r : OneRun program settings). r.found.counters) runs) c.in_ok-found.found.counters c.args.self.now.counters c.add.new.self
            tallies.counters (record {
              arms = c.add.ensures.arms;
              quiet = c.add.ensures.quiet;
              taken = c.add.ensures.taken;
              lost = c.add.ensures.lost;
              two_sided = c.add.ensures.two_sided;
              unknown = c.add.ensures.unknown;
              encoding = c.add.ensures.encoding;
              same = c.add.ensures.same;
              masked = c.add.ensures.masked;
              capacity = c.add.ensures.capacity;
              unencodable = c.add.ensures.unencodable;
            }));
        unbalanced = rested (λ (r : OneRun program settings). r.found.unbalanced) runs one c.args.self.now.unbalanced
            c.saturating_add-self.result tallies.unbalanced c.saturating_add-self.ensures;
        held = counted_on (λ (r : OneRun program settings). r.found.held) runs one c.args.self.now.held c.from.result
            c.saturating_add-self-2.result tallies.held
            (let is : c.from.result ≡ (if c.in_ok-found.found.held then 1 else 0) = search rules in is) c.saturating_add-self-2.ensures;
        raced = raced;
      },
    )
