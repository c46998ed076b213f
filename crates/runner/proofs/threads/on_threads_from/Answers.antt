-- The tasks are turned, and what comes of them is turned back.
use Rattle.std.proofs.Common.{◌≡◌, ◌≤◌, ℕ, arith, length, subst, vec_len}
use Rattle.std.specs.List.{RotatedLeft, RotatedRight}
use Rattle.litmus_step.specs.Runs.{tasks_of}
use Rattle.runner.proofs.TurnLemmas.{are_some_starts, put_back}
use Rattle.runner.proofs.threads.on_threads_from.Goals as goal
use Rattle.runner.specs.Terms.{run_of_batch}

pub on_threads-requires-clause-starts : goal.on_threads-requires-clause-starts
on_threads-requires-clause-starts g c κs within =
    let starts = c.args.starts.items in
    let turned = c.rotate_left.new.self.items in
    let first : ℕ = c.min-first.result in
    let many : vec_len c.args.starts ≡ length starts = omega (arith, c.args.starts.ok.0) in
    let few : first ≤ length starts = let min = c.min-first.ensures in let len = c.len.ensures in omega (arith, min, len, many) in
    let long : length turned ≡ length starts = omega (arith, c.rotate_left.ensures.len, many, c.rotate_left.new.self.ok.0) in
    are_some_starts c.args.batch.tables.now (tasks_of (run_of_batch c.args.batch)) starts turned first c.requires.starts few long
    (subst (λ (n : ℕ). RotatedLeft starts turned n first) many c.rotate_left.ensures.by_index)

pub returns-clause-outcomes : goal.returns-clause-outcomes
returns-clause-outcomes g c =
    let starts = c.args.starts.items in
    let turned = c.rotate_left.new.self.items in
    let came = c.in_ok-outcomes.outcomes.items in
    let back = c.rotate_right.new.self.items in
    let first : ℕ = c.min-first.result in
    let many : vec_len c.args.starts ≡ length starts = omega (arith, c.args.starts.ok.0) in
    let few : first ≤ length starts = let min = c.min-first.ensures in let len = c.len.ensures in omega (arith, min, len, many) in
    let long : length turned ≡ length starts = omega (arith, c.rotate_left.ensures.len, many, c.rotate_left.new.self.ok.0) in
    let all : vec_len c.in_ok-outcomes.outcomes ≡ length came = omega (arith, c.in_ok-outcomes.outcomes.ok.0) in
    let as_many : length back ≡ length came = omega (arith, c.rotate_right.ensures.len, all, c.rotate_right.new.self.ok.0) in
    put_back c.args.batch.tables.now (tasks_of (run_of_batch c.args.batch)) starts turned first c.requires.starts few long
    (subst (λ (n : ℕ). RotatedLeft starts turned n first) many c.rotate_left.ensures.by_index)
    (run_of_batch c.args.batch) came back c.in_ok-outcomes.ensures.outcomes as_many
    (subst (λ (n : ℕ). RotatedRight came back n first) all c.rotate_right.ensures.by_index)
