-- what is kept is written
use Rattle.std.proofs.Common.{◌≡◌, ◌∙◌, ◌++◌, ◌+◌, ◌<◌, ◌≤◌, ◌^◌, List, ℕ, ap, arith, length, map, rules, subst, sym}
use Rattle.std.proofs.lemmas.List.Sums.{count_by-le-length}
use Rattle.report_text.specs.Groups.{AreGroupsOf, Group}
use Rattle.report_text.specs.ReportOf.{report_text}
use Rattle.run_stats.specs.Output.{found_text, held_in, printed_in, stuck_text, unbalanced_in}
use Rattle.task_log.specs.Counters.{resting}
use Rattle.run_stats.proofs.made.Made.output.Goals as goal

pub returns-in-Ok : goal.returns-in-Ok
returns-in-Ok c = λ unknown program settings sites runs stuck are_made are.
    let made = c.args.self.now in
    let tally = made.tally in
    let counted = c.args.counted in
    let texts = map (report_text sites) (printed_in unknown sites runs) in
    let spelled : c.into_bytes.result.items ≡ found_text tally.groups tally.counters tally.unbalanced tally.held made.ended
    ++ stuck_text counted made.stuck (made.ended + made.stuck) = search rules in
    let tallies = are_made.tallies in
    let kept : tally.held ≡ resting (held_in runs) = tallies.held in
    let few : held_in runs ≤ length runs = count_by-le-length (λ one. one.found.held) runs in
    let fits : made.ended + made.stuck < 2 ^ 64 = c.requires in
    let ended : made.ended ≡ length runs = are_made.ended in
    let held : tally.held ≡ held_in runs = omega (arith, kept, few, ended, fits) in
    record {
      sites = sites;
      sites_are = are;
      groups = tally.groups;
      groups_are = subst (λ (groups : List Group). AreGroupsOf texts groups) (sym tallies.groups) (c.law_groups_are_of_their_texts.ensures texts);
      sums = tally.counters;
      sums_are = tallies.counters;
      spelled = spelled
          ∙ (ap (λ (n : ℕ). found_text tally.groups tally.counters n tally.held made.ended ++ stuck_text counted made.stuck (made.ended + made.stuck))
          tallies.unbalanced
          ∙ (ap (λ (n : ℕ). found_text tally.groups tally.counters (unbalanced_in runs) n made.ended
          ++ stuck_text counted made.stuck (made.ended + made.stuck)) held
          ∙ (ap (λ (n : ℕ). found_text tally.groups tally.counters (unbalanced_in runs) (held_in runs) n ++ stuck_text counted made.stuck (n + made.stuck))
          ended
          ∙ ap (λ (n : ℕ). found_text tally.groups tally.counters (unbalanced_in runs) (held_in runs) (length runs)
          ++ stuck_text counted n (length runs + n)) are_made.stuck_are)));
    }
