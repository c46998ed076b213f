-- each command ends as its status says
use Rattle.std.proofs.Common.{List, subst, sym, ℕ}
use Rattle.cli.specs.Bounds.{MayBeAsked}
use Rattle.cli.specs.declared.request.Request.{Request}
use Rattle.cli.specs.declared.request.Request.TheVariants.{Calls, Races, Replay, Run, Search, Show, Step}
use Rattle.litmus_command.proofs.CarryLemmas.{carried_check, carried_join, carried_kept, carried_races, carried_searches}
use Rattle.litmus_command.proofs.command.carry_out.Goals as goal
use Rattle.file_commands.specs.Desks.{DeskState}
use Rattle.litmus_command.specs.Ends.{IsCarriedOut, IsNoCheck}
use Rattle.litmus_command.specs.Overwrite.{Overwrites}

-- a file that would be overwritten was kept
pub returns-in-Some : goal.returns-in-Some
returns-in-Some g c = carried_kept c.args.request.now c.in-Some.path.now _ _ _ c.in-Some.ensures.same c.refuse_overwrite.ensures

pub returns-in-Step : goal.returns-in-Step
returns-in-Step g c =
    let seen = g.D.Desk.state in
    let before : DeskState = seen c.args.desk.now in
    let plain : IsNoCheck (Step c.in-Step.request) = record {
      checks = λ status first last. tt;
      races = λ status first last. tt;
      searches = λ status first last. tt;
      joins = λ status first last. tt;
      keeps = λ path over. c.in_default.ensures.other path (subst (λ (request : Request). Overwrites request path) (sym c.in-Step.is) over);
    } in
    subst (λ (request : Request). IsCarriedOut request c.finish.result before (seen c.finish.new.desk)) (sym c.in-Step.is)
    (c.finish.ensures (Step c.in-Step.request) before plain c.step-done.ensures)

pub returns-in-Run : goal.returns-in-Run
returns-in-Run g c =
    let seen = g.D.Desk.state in
    let before : DeskState = seen c.args.desk.now in
    let plain : IsNoCheck (Run c.in-Run.request) = record {
      checks = λ status first last. tt;
      races = λ status first last. tt;
      searches = λ status first last. tt;
      joins = λ status first last. tt;
      keeps = λ path over. c.in_default.ensures.other path (subst (λ (request : Request). Overwrites request path) (sym c.in-Run.is) over);
    } in
    subst (λ (request : Request). IsCarriedOut request c.finish-in-Run.result before (seen c.finish-in-Run.new.desk)) (sym c.in-Run.is)
    (c.finish-in-Run.ensures (Run c.in-Run.request) before plain c.run-done.ensures)

pub returns-in-Search : goal.returns-in-Search
returns-in-Search g c =
    let seen = g.D.Desk.state in
    let before : DeskState = seen c.args.desk.now in
    let plain : IsNoCheck (Search c.in-Search.request) = record {
      checks = λ status first last. tt;
      races = λ status first last. tt;
      searches = λ status first last. tt;
      joins = λ status first last. tt;
      keeps = λ path over. c.in_default.ensures.other path (subst (λ (request : Request). Overwrites request path) (sym c.in-Search.is) over);
    } in
    subst (λ (request : Request). IsCarriedOut request c.finish-in-Search.result before (seen c.finish-in-Search.new.desk)) (sym c.in-Search.is)
    (c.finish-in-Search.ensures (Search c.in-Search.request) before plain c.search-done.ensures)

pub returns-in-Replay : goal.returns-in-Replay
returns-in-Replay g c =
    let seen = g.D.Desk.state in
    let before : DeskState = seen c.args.desk.now in
    let plain : IsNoCheck (Replay c.in-Replay.request) = record {
      checks = λ status first last. tt;
      races = λ status first last. tt;
      searches = λ status first last. tt;
      joins = λ status first last. tt;
      keeps = λ path over. c.in_default.ensures.other path (subst (λ (request : Request). Overwrites request path) (sym c.in-Replay.is) over);
    } in
    subst (λ (request : Request). IsCarriedOut request c.finish-in-Replay.result before (seen c.finish-in-Replay.new.desk)) (sym c.in-Replay.is)
    (c.finish-in-Replay.ensures (Replay c.in-Replay.request) before plain c.replay-done.ensures)

pub returns-in-Show : goal.returns-in-Show
returns-in-Show g c =
    let seen = g.D.Desk.state in
    let before : DeskState = seen c.args.desk.now in
    let plain : IsNoCheck (Show c.in-Show.request) = record {
      checks = λ status first last. tt;
      races = λ status first last. tt;
      searches = λ status first last. tt;
      joins = λ status first last. tt;
      keeps = λ path over. c.in_default.ensures.other path (subst (λ (request : Request). Overwrites request path) (sym c.in-Show.is) over);
    } in
    subst (λ (request : Request). IsCarriedOut request c.finish-in-Show.result before (seen c.finish-in-Show.new.desk)) (sym c.in-Show.is)
    (c.finish-in-Show.ensures (Show c.in-Show.request) before plain c.show-done.ensures)

pub returns-in-Calls : goal.returns-in-Calls
returns-in-Calls g c =
    let seen = g.D.Desk.state in
    let before : DeskState = seen c.args.desk.now in
    let plain : IsNoCheck Calls = record {
      checks = λ status first last. tt;
      races = λ status first last. tt;
      searches = λ status first last. tt;
      joins = λ status first last. tt;
      keeps = λ path over. c.in_default.ensures.other path (subst (λ (request : Request). Overwrites request path) (sym c.in-Calls.is) over);
    } in
    subst (λ (request : Request). IsCarriedOut request c.finish-in-Calls.result before (seen c.finish-in-Calls.new.desk)) (sym c.in-Calls.is)
    (c.finish-in-Calls.ensures Calls before plain c.list_calls-done.ensures)

pub returns-in-Check : goal.returns-in-Check
returns-in-Check g c =
    let seen = g.D.Desk.state in
    let bounds = subst (λ (request : Request). MayBeAsked request) c.in-Check.is c.requires in
    subst (λ (request : Request). IsCarriedOut request c.carry_check.result (seen c.args.desk.now) (seen c.carry_check.new.desk)) (sym c.in-Check.is)
    (carried_check c.in-Check.request c.carry_check.result _ _ bounds c.carry_check.ensures)

pub returns-in-Races : goal.returns-in-Races
returns-in-Races g c =
    let seen = g.D.Desk.state in
    let bounds = subst (λ (request : Request). MayBeAsked request) c.in-Races.is c.requires in
    let kept : (path : List ℕ) → Overwrites (Races c.in-Races.request) path → ⊥ = λ path over.
    c.in_default.ensures.other path (subst (λ (request : Request). Overwrites request path) (sym c.in-Races.is) over) in
    subst (λ (request : Request). IsCarriedOut request c.carry_all_races.result (seen c.args.desk.now) (seen c.carry_all_races.new.desk)) (sym c.in-Races.is)
    (carried_races c.in-Races.request c.carry_all_races.result _ _ bounds kept c.carry_all_races.ensures)

pub returns-in-Searches : goal.returns-in-Searches
returns-in-Searches g c =
    let seen = g.D.Desk.state in
    subst (λ (request : Request). IsCarriedOut request c.carry_searches.result (seen c.args.desk.now) (seen c.carry_searches.new.desk))
    (sym c.in-Searches.is) (carried_searches c.in-Searches.request c.carry_searches.result _ _ c.carry_searches.ensures)

pub returns-in-Join : goal.returns-in-Join
returns-in-Join g c =
    let seen = g.D.Desk.state in
    subst (λ (request : Request). IsCarriedOut request c.carry_join.result (seen c.args.desk.now) (seen c.carry_join.new.desk))
    (sym c.in-Join.is) (carried_join c.in-Join.request c.carry_join.result _ _ c.carry_join.ensures)
