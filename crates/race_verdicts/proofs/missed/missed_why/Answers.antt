-- Each fact that was found is shown by executions, and where all was visited each that is shown was found.
use Rattle.std.proofs.Common.{inl, inr}
use Rattle.race_verdicts.proofs.MissedLemmas.{AreWhys, are_reasons, are_so_far, said_so, so_said}
use Rattle.race_verdicts.proofs.missed.missed_why.Goals as goal
use Rattle.races.specs.Shown.{IsDroppedIn, IsTakenIn, SomeShows}
use Rattle.races.specs.Verdicts.{IsArmed}
use Rattle.value_filter.specs.declared.verdict.Reason.TheVariants.{MaskedBits, SameValue}

pub returns-clause-whole : goal.returns-clause-whole
returns-clause-whole c = λ run visited can conflicts all lists covers are reports.
    let pair = c.args.pair in
    let found = c.found_between.result in
    let is = c.found_between.ensures in
    let next = c.law_next_records_show_facts.ensures in
    let tells = c.law_explored_executions_tell_facts.ensures in
    let facts_of = c.args.facts.now in
    let origins = c.law_reports_say_what_executions_show.ensures.origin run can pair in
    let whys : AreWhys c.args.settled found c.why.result = record {
      same_value = c.why.ensures.same_value;
      masked = c.why.ensures.masked;
      origin = c.why.ensures.origin;
      never_taken = c.why.ensures.never_taken;
      never_armed = c.why.ensures.never_armed;
    } in
    are_reasons run pair c.args.settled found c.why.result whys all (
      said_so run visited facts_of are _ _ found.same_value is.same_value (SomeShows run (IsDroppedIn run pair SameValue))
          (next.same_value run visited can lists pair),
      so_said run visited facts_of are _ _ found.same_value is.same_value (SomeShows run (IsDroppedIn run pair SameValue))
          (tells.same_value run visited can covers pair),
    ) (
      said_so run visited facts_of are _ _ found.masked is.masked (SomeShows run (IsDroppedIn run pair MaskedBits)) (next.masked run visited can lists pair),
      so_said run visited facts_of are _ _ found.masked is.masked (SomeShows run (IsDroppedIn run pair MaskedBits)) (tells.masked run visited can covers pair),
    ) (
      (λ told. origins.1 (elim (is.origin.0 told) [ inl one ↦ inl ((reports _).0 one) | inr other ↦ inr ((reports _).0 other) ])),
      (λ shows. is.origin.1 (elim (origins.0 shows) [ inl one ↦ inl ((reports _).1 one) | inr other ↦ inr ((reports _).1 other) ])),
    ) (
      said_so run visited facts_of are _ _ found.armed is.armed (IsArmed run pair) (next.armed run visited can lists pair),
      so_said run visited facts_of are _ _ found.armed is.armed (IsArmed run pair) (tells.armed run visited can covers pair),
    ) (
      said_so run visited facts_of are _ _ found.taken is.taken (SomeShows run (IsTakenIn run pair)) (next.taken run visited can lists pair),
      so_said run visited facts_of are _ _ found.taken is.taken (SomeShows run (IsTakenIn run pair)) (tells.taken run visited can covers pair),
    )

pub returns-clause-so_far : goal.returns-clause-so_far
returns-clause-so_far c = λ run visited can conflicts not_all lists are reports.
    let pair = c.args.pair in
    let found = c.found_between.result in
    let is = c.found_between.ensures in
    let next = c.law_next_records_show_facts.ensures in
    let facts_of = c.args.facts.now in
    let origins = c.law_reports_say_what_executions_show.ensures.origin run can pair in
    let whys : AreWhys c.args.settled found c.why.result = record {
      same_value = c.why.ensures.same_value;
      masked = c.why.ensures.masked;
      origin = c.why.ensures.origin;
      never_taken = c.why.ensures.never_taken;
      never_armed = c.why.ensures.never_armed;
    } in
    are_so_far run pair c.args.settled found c.why.result whys not_all
    (said_so run visited facts_of are _ _ found.same_value is.same_value (SomeShows run (IsDroppedIn run pair SameValue))
    (next.same_value run visited can lists pair))
    (said_so run visited facts_of are _ _ found.masked is.masked (SomeShows run (IsDroppedIn run pair MaskedBits)) (next.masked run visited can lists pair))
    (λ told. origins.1 (elim (is.origin.0 told) [ inl one ↦ inl (reports _ one) | inr other ↦ inr (reports _ other) ]))
