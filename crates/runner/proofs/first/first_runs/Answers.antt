-- one run more
use Rattle.std.proofs.Common.{◌≡◌, ◌∙◌, ◌∷◌, ◌++◌, [], List, Some, ap, arith, map, slice_get, subst, sym}
use Rattle.std.proofs.lemmas.List.{map-append}
use Rattle.prepared_program.specs.program_sites.Prepared.{sites_in}
use Rattle.litmus_step.proofs.FirstLemmas.{each_push}
use Rattle.runner.proofs.BatchLemmas.{more_starts, no_starts}
use Rattle.runner.proofs.first.first_runs.Goals as goal
use Rattle.runner.specs.Starts.{AreStartsOfEach}
use Rattle.runner.specs.Terms.{AreGiven, AreGivenEach}
use Rattle.shared_table.specs.Seats.{Opened}

pub loop-init : goal.loop-init
loop-init c = record {
  made = c.in_ok-tables.ensures.len;
  made_rows = c.in_ok-rows.ensures.len;
  room = omega (arith, c.in_ok-tables.ensures.capacity);
  room_rows = omega (arith, c.in_ok-rows.ensures.capacity);
  given = λ settings ready can list at opened is. absurd (let none : slice_get [] at ≡ Some opened =
      ap (λ (xs : List Opened). slice_get xs at) (sym c.in_ok-tables.ensures.items) ∙ is in cc);
  starts = no_starts c.in_ok-tables.tables.items _ c.in_ok-tables.ensures.items (ap (map (λ row. row.items)) c.in_ok-rows.ensures.items);
}

pub loop-preserved : goal.loop-preserved
loop-preserved c =
    let was = c.loop.invariant in
    let tables = c.push_reserved-in-loop.ensures in
    let rows = c.push_reserved.ensures in
    let starts = c.in_ok-first_starts.ensures c.in_ok-table.table c.in_ok-table.ensures.seats in
    record {
      made = omega (arith, was.made, tables.len);
      made_rows = omega (arith, was.made_rows, rows.len);
      room = omega (arith, was.room, tables.capacity);
      room_rows = omega (arith, was.room_rows, rows.capacity);
      given = λ settings ready can list.
          let here : AreGiven c.args.program.now settings c.args.prepared.now c.in_ok-table.table = record {
            ready = ready;
            can = can;
            list = list;
            words = c.in_ok-table.ensures.words settings (sites_in c.args.prepared.now) ready;
            tasks = c.in_ok-table.ensures.tasks settings (sites_in c.args.prepared.now);
          } in
          subst (AreGivenEach c.args.program.now settings c.args.prepared.now) (sym tables.items)
          (each_push (λ at opened. AreGiven c.args.program.now settings c.args.prepared.now opened) c.loop.tables.items c.in_ok-table.table
          (was.given settings ready can list) here);
      starts = subst (λ (all : List Opened). AreStartsOfEach all (map (λ row. row.items) c.push_reserved.new.self.items)) (sym tables.items)
          (subst (AreStartsOfEach (c.loop.tables.items ++ c.in_ok-table.table ∷ []))
          (sym (map-append (λ row. row.items) c.loop.rows.items (c.in_ok-first_starts.field-0 ∷ [])) ∙ ap (map (λ row. row.items)) (sym rows.items))
          (more_starts c.loop.tables.items (map (λ row. row.items) c.loop.rows.items) c.in_ok-table.table c.in_ok-first_starts.field-0.items
          was.starts starts));
    }
