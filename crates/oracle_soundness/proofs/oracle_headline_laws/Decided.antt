-- The headline of an execution, and that of what it tells.
use Rattle.std.proofs.Common.{◌∷◌, ◌++◌, ◌∙◌, [], ℕ, Bool, All, Contains, IsTrue, List, Option, ap, map, slice_index_or, subst, sym}
use Rattle.std.specs.Option.{option_map}
use Rattle.std.proofs.lemmas.List.Elements.{All-map}
use Rattle.access_types.specs.Access.{Access}
use Rattle.oracle_soundness.specs.oracle_headline_laws.Accounts.{HoldsAccesses, IfRaces, SaysAlike, account_of, armed_as, came_as}
use Rattle.oracle_soundness.proofs.oracle_headline_laws.Counted.{answered, of_map, one_answer, totals_of_list, totals_told}
use Rattle.oracle_soundness.proofs.oracle_headline_laws.Endings.{ended_in_list, ended_in_told}
use Rattle.oracle_soundness.specs.oracle_headline.Tried.{Account, HasHeadline, IsTrueIn, IsTrueOf, NamesRace, TakingsAnswered}
use Rattle.oracle_soundness.proofs.oracle_headline.Tellings.{told_after}
use Rattle.soundness.specs.Headline.{Headline}
use Rattle.soundness.specs.Origins.{IfUnknown}
use Rattle.soundness.specs.Races.{IfTwoSided, NamesTheRace}
use Rattle.soundness.specs.Watched.{IfUnknownInWatch}
use Rattle.executions.specs.execution.Run.{Run}
use Rattle.executions.specs.execution.Execution.{AllHaveEnded, Execution}
use Rattle.executions.specs.execution.Observed.{Armed, OutcomeAt, outcomes_of}
use Rattle.setup_access.specs.declared.outcome.Outcome.{Outcome}
use Rattle.setup_access.specs.declared.outcome.Outcome.TheVariants as outcomes
use Rattle.slot.specs.Pair.{Halves}
use Rattle.slot_table.specs.Hearings.{IsArming, IsTaking}
use Rattle.slot_table.specs.Meetings.{Meeting, finders_told}
use Rattle.slot_table.specs.declared.records.Record.{Record}

-- what a finder told it has told later on
told_later : (later earlier : List Record) (met : Meeting) → Contains (finders_told earlier) met
    → Contains (finders_told (later ++ earlier)) met
told_later [] earlier met there = there
told_later (latest ∷ later) earlier met there =
    told_after latest.task latest.step (later ++ earlier) (finders_told (later ++ earlier)) met
    (told_later later earlier met there)

-- the meeting over an arming of those whom a pair names
abbrev met_by : ℕ → ℕ → Halves → Meeting
met_by index number pair = record { index = index; number = number; setter = pair.setter; finder = pair.finder }

module _ {run : Run} {records : List Record} (list : Execution run records) (accesses : List Access) (over : Bool) where
  abbrev told : Account
  told = account_of list accesses over

  -- each taking whose two accesses ended has one answer
  takings_answered : Headline list → TakingsAnswered told records
  takings_answered headline = λ index number taken armed.
      answered list accesses over index number (headline.one_answer index number (record {
        setter = armed.setter;
        word = armed.word;
        finder = taken.finder;
        taken_word = taken.word;
        armed = ended_in_list list accesses over (IsArming index number armed.setter armed.word) armed.there;
        taken = ended_in_list list accesses over (IsTaking index number taken.finder taken.word) taken.there;
      }))

  -- a report of two sides names a race of the one that was checked with one that told of its arming
  names_race : HoldsAccesses run accesses → (came : OutcomeAt) (pair : Halves) → NamesTheRace list came pair
      → NamesRace told (came_as came) pair
  names_race holds came pair named =
      let answer = named.both.answer in
      let met : Halves → Meeting = λ p. met_by answer.index answer.number p in
      record {
        finder = answer.finder;
        there = holds answer.finder answer.finder_is;
        names = record {
          arming = record { index = answer.index; number = answer.number };
          armed = ap (λ (arming : Option Armed). option_map armed_as arming) answer.armed;
          setter_named = ap (λ (p : Halves). p.setter) named.is ∙ answer.setter_named;
          finder_named = ap (λ (p : Halves). p.finder) named.is ∙ answer.finder_named;
          told_of = subst (λ (r : List Record). Contains (finders_told r) (met pair)) (sym answer.split)
              (told_later answer.later answer.by_then (met pair)
              (subst (λ (p : Halves). Contains (finders_told answer.by_then) (met p)) (sym named.is) answer.told));
          race = named.race;
        };
      }

  is_true : HoldsAccesses run accesses → (came : OutcomeAt) (outcome : Outcome) → IfTwoSided list came outcome
      → IfUnknownInWatch list came outcome → IsTrueIn told (came_as came) outcome
  is_true holds came (outcomes.Report pair seen) race change = names_race holds came pair race
  is_true holds came (outcomes.Unknown old new) race change = change.changed
  is_true holds came outcome race change = tt

  reports_true : HoldsAccesses run accesses → Headline list → All (IsTrueOf told) (map came_as (outcomes_of list))
  reports_true holds headline =
      All-map (IsTrueOf told) came_as (outcomes_of list) (λ k d below.
      let came : OutcomeAt = slice_index_or (outcomes_of list) k d in
      is_true holds came came.outcome (headline.true_races k d below) (headline.origins_changed k d below))

  pub has_headline : Headline list → HoldsAccesses run accesses → (IsTrue over → AllHaveEnded run records) → HasHeadline told
  has_headline headline holds all_ended = record {
    taken_once = headline.taken_once;
    reports = reports_true holds headline;
    one_answer = takings_answered headline;
    totals = λ ended. totals_told list accesses over (headline.totals (all_ended ended));
  }

  race_of : (came : OutcomeAt) (outcome : Outcome) → IsTrueIn told (came_as came) outcome → IfRaces list came outcome
  race_of came (outcomes.Report pair seen) named = record {
    finder = named.finder;
    setter_named = named.names.setter_named;
    finder_named = named.names.finder_named;
    race = named.names.race;
  }
  race_of came outcome named = tt

  change_of : (came : OutcomeAt) (outcome : Outcome) → IsTrueIn told (came_as came) outcome → IfUnknown list came outcome
  change_of came (outcomes.Unknown old new) changed = changed
  change_of came outcome changed = tt

  pub says_alike : HasHeadline told → SaysAlike list over
  says_alike headline =
      let came_at : ℕ → OutcomeAt → OutcomeAt = λ k d. slice_index_or (outcomes_of list) k d in
      let true_of = of_map (IsTrueOf told) came_as (outcomes_of list) headline.reports in
      record {
        taken_once = headline.taken_once;
        races = λ k d below. race_of (came_at k d) (came_at k d).outcome (true_of k d below);
        origins = λ k d below. change_of (came_at k d) (came_at k d).outcome (true_of k d below);
        one_answer = λ index number both. one_answer list accesses over index number (headline.one_answer index number
            (record {
              finder = both.finder;
              word = both.taken_word;
              there = ended_in_told list accesses over (IsTaking index number both.finder both.taken_word) both.taken;
            })
            (record {
              setter = both.setter;
              word = both.word;
              there = ended_in_told list accesses over (IsArming index number both.setter both.word) both.armed;
            }));
        totals = λ ended. totals_of_list list accesses over (headline.totals ended);
      }
