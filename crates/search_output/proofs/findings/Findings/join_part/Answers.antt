-- what is found of the later lists is added, and the first trace is the first of both
use Rattle.std.proofs.Common.{◌++◌, ◌∙◌, ap, subst, sym}
use Rattle.std.specs.Option.{option_map, option_or}
use Rattle.std.proofs.lemmas.List.{map-append}
use Rattle.search_output.proofs.JoinedTraces.{trace_joined}
use Rattle.search_output.specs.Lists.{all_searched, searched_of}
use Rattle.search_output.specs.Traces.{IsFirstTrace}
use Rattle.search_text.specs.SearchFindings.{Finds}
use Rattle.search_output.proofs.findings.Findings.join_part.Goals as goal

pub returns : goal.returns
returns c = λ settings traced run lists more finds part. record {
  locations = finds.locations;
  finds = subst (λ all. Finds all c.join_parts.new.self) (sym (map-append searched_of lists more))
      (c.in_ok-join_parts.ensures.finds (all_searched lists) (all_searched more) finds.finds part.finds);
  known = c.in_ok-join_parts.ensures.known run.sites finds.known part.known;
  traced_is = finds.traced_is;
  trace = subst (λ trace. IsFirstTrace settings traced (lists ++ more) (option_map (λ bytes. bytes.items) trace))
      (sym (c.or.ensures ∙ ap (λ trace. option_or trace c.args.later.trace) c.take.ensures.value))
      (trace_joined settings traced lists more c.args.self.now.trace c.args.later.trace finds.trace part.trace);
}
