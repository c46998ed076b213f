-- The closure is shared by the threads: so may be each that it captures.
use Rattle.std.proofs.Common.{rules, ◌<◌, ◌+◌, ◌*◌, ◌∷◌, [], ℕ, IfOk, List, Ok, arith, length, slice_index_or, subst}
use Rattle.std.proofs.lemmas.Option.{get_or_from_slice_get, slice_get_within}
use Rattle.run_stats.specs.Runs.{ComeFrom}
use Rattle.std.proofs.Crossing.{crosses}
use Rattle.std.proofs.alloc.Global.TheSendSync as global
use Rattle.std.specs.contracts.alloc.Global as global_row
use denote.Exit.{yes}
use denote.Param.{param}
use denote.Param.Send.{AllSync, IsSync, arg_sync, param_sync, recorded_sync, sendable, shr_sync, struct_sync}
use denote.RattleType.{RattleType}
use denote.Struct.Declared as declared
use denote.Struct.Field.{shr_ref_field, u64-field, usize-field}
use denote.Struct.Struct.{Struct}
use denote.Struct.Tuple.{type_at}
use mir.Syntax.{named}
use Rattle.prepared_program.proofs.program_sites.prepared.Prepared.TheSendSync as prepared
use Rattle.prepared_program.proofs.program_sites.settings.Settings.TheSendSync as settings
use Rattle.prepared_program.specs.contracts.program_sites.prepared.Prepared as prepared_row
use Rattle.prepared_program.specs.contracts.program_sites.settings.Settings as settings_row
use Rattle.litmus_syntax.specs.contracts.program.Program as program_row
use Rattle.litmus_syntax.proofs.Shared.{program_shared}
use Rattle.run_stats.proofs.starters.Starters.TheSendSync as starters
use Rattle.run_stats.specs.contracts.starters.Starters as starters_row
use Rattle.run_stats.proofs.times.Times.TheSendSync as times
use Rattle.run_stats.specs.contracts.times.Times as times_row
use Rattle.run_stats.proofs.made.side_by_side.Goals as goal
use Rattle.run_stats.proofs.made.side_by_side.Lts as lts

closure_sync : (T : declared.Declared) → AllSync (declared.shape T).fields → IsSync (declared.row T)
closure_sync T all = recorded_sync (Struct (declared.shape T)) T.D T.to T.to_one (struct_sync (declared.shape T) all)

pub map_indices-requires-sync-F : goal.map_indices-requires-sync-F
map_indices-requires-sync-F g c κs within =
    let rows : List RattleType =
    (shr_ref_field (record { mir = named 6; lft = κs.1.1.1.1.1.1.0 }) program_row.the_row tt).row
    ∷ (shr_ref_field (record { mir = named 7; lft = κs.1.1.1.1.1.1.1.0 }) settings_row.the_row tt).row
    ∷ (shr_ref_field (record { mir = named 8; lft = κs.1.1.1.1.1.1.1.1.0 }) prepared_row.the_row tt).row
    ∷ times_row.the_row
    ∷ starters_row.the_row
    ∷ u64-field.row
    ∷ (shr_ref_field (record { mir = named 9; lft = κs.1.1.1.1.1.1.1.1.1.0 }) (param 1 g.row.H) tt).row
    ∷ (shr_ref_field (record { mir = named 10; lft = κs.1.1.1.1.1.1.1.1.1.1.0 }) (param 0 g.row.R) tt).row
    ∷ global_row.the_row
    ∷ u64-field.row
    ∷ usize-field.row
    ∷ [] in
    let number : IsSync u64-field.row = search (sendable, crosses) in
    let many : IsSync usize-field.row = search (sendable, crosses) in
    let all : AllSync rows = (
      shr_sync _ _ _ program_shared,
      (
        shr_sync _ _ _ settings.the_sync,
        (
          shr_sync _ _ _ prepared.the_sync,
          (
            times.the_sync,
            (
              starters.the_sync,
              (number, (shr_sync _ _ _ c.type_bounds.sync-H, (shr_sync _ _ _ c.type_bounds.sync-R, (global.the_sync, (number, (many, tt)))))),
            ),
          ),
        ),
      ),
    ) in
    param_sync 3 (lts.arg-0-3 g.row.R g.row.H g.row.H-OfRun g.R.laws g.H.laws g.H.OfRun.laws g.R.Threads-dict g.R.Wait-dict g.H.Hooks-dict
    g.H.OfRun.Stall-dict g.H.OfRun.Gate-dict g.H.OfRun.Destruct-dict κs)
    (arg_sync _ yes _ (closure_sync (type_at _ rows) all))

pub returns : goal.returns
returns g c =
    let made = c.in_ok-map_indices.field-0 in
    subst (λ (n : ℕ). IfOk c.joined.result (λ all. ComeFrom c.args.plan.now.program.now c.args.plan.now.settings.now c.args.number
    (n * c.args.lot.runs) all.items)) (omega (arith, made.ok.0, c.in_ok-map_indices.ensures.len))
    (c.joined.ensures c.args.plan.now.program.now c.args.plan.now.settings.now c.args.number c.args.lot.runs
    (λ at batch is.
    let within : at < length made.items = slice_get_within made.items at (Ok batch) is in
    let got = c.in_ok-map_indices.ensures.each at (Ok batch) (omega (arith, within, made.ok.0, c.in_ok-map_indices.ensures.len)) in
    let same = get_or_from_slice_get made.items at (Ok batch) (Ok batch) is in
    let post : IfOk (slice_index_or made.items at (Ok batch)) (λ all. ComeFrom c.args.plan.now.program.now c.args.plan.now.settings.now
    (c.args.number + at * c.args.lot.runs) c.args.lot.runs all.items) = search (rules, got) in
    subst (λ made. IfOk made (λ all. ComeFrom c.args.plan.now.program.now c.args.plan.now.settings.now (c.args.number + at * c.args.lot.runs)
    c.args.lot.runs all.items)) same post))
