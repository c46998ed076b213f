-- branch by branch: which rule decides, and whether the begin takes one of what is left
use Rattle.std.proofs.Common.{◌≡◌, ◌∙◌, ◌⊎◌, ◌↔◌, ◌<◌, IsTrue, true, false, arith}
use Rattle.std.proofs.lemmas.Bool.{lt-ltb}
use Rattle.access_types.specs.Kind.{is_assertion, is_marked}
use Rattle.access_types.specs.Marked.{is_atomic_write}
use Rattle.task_context.proofs.Begins.{assertion_uncounted, atomic_uncounted, bare_counted}
use Rattle.task_context.proofs.Begins.{begin_finds_none, begin_takes_none, begin_takes_one}
use Rattle.task_context.proofs.Begins.{counts_in_regions, declared_uncounted, says_flat}
use Rattle.task_context.proofs.Begins.{says_nested}
use Rattle.task_context.proofs.context.Context.counts_as_marked.Goals as goal
use Rattle.task_context.proofs.context.Context.counts_as_marked.Goals.{then-self-gt0-2}
use Rattle.task_context.proofs.context.Context.counts_as_marked.Goals.{else-self-gt0-2}

pub returns-then-is_marked-clause-follows : goal.returns-then-is_marked-clause-follows
returns-then-is_marked-clause-follows c =
    let plain : is_marked c.args.access.now.kind ≡ true = cc in
    begin_takes_none c.args.plain_writes_atomic c.args.access.now _ _ _ _
    (declared_uncounted c.args.plain_writes_atomic c.args.access.now plain)

pub returns-then-is_assertion-clause-follows : goal.returns-then-is_assertion-clause-follows
returns-then-is_assertion-clause-follows c =
    let asserts : is_assertion c.args.access.now.kind ≡ true = cc in
    begin_takes_none c.args.plain_writes_atomic c.args.access.now _ _ _ _
    (assertion_uncounted c.args.plain_writes_atomic c.args.access.now asserts)

pub returns-then-is_atomic_write-clause-follows : goal.returns-then-is_atomic_write-clause-follows
returns-then-is_atomic_write-clause-follows c =
    let plain : is_marked c.args.access.now.kind ≡ false = cc in
    let real : is_assertion c.args.access.now.kind ≡ false = cc in
    let atomic : is_atomic_write c.args.plain_writes_atomic c.args.access.now ≡ true = cc in
    begin_takes_none c.args.plain_writes_atomic c.args.access.now _ _ _ _
    (atomic_uncounted c.args.plain_writes_atomic c.args.access.now plain real atomic)

pub returns-then-self-gt0-clause-follows : goal.returns-then-self-gt0-clause-follows
returns-then-self-gt0-clause-follows c =
    let plain : is_marked c.args.access.now.kind ≡ false = cc in
    let real : is_assertion c.args.access.now.kind ≡ false = cc in
    let bare : is_atomic_write c.args.plain_writes_atomic c.args.access.now ≡ false = cc in
    rw (← c.self.view_is)
    (begin_takes_one c.args.plain_writes_atomic c.args.access.now _ _ _ _
    (bare_counted c.args.plain_writes_atomic c.args.access.now plain real bare))

pub returns-clause-counts : goal.returns-clause-counts
returns-clause-counts c =
    let plain : is_marked c.args.access.now.kind ≡ false = cc in
    let real : is_assertion c.args.access.now.kind ≡ false = cc in
    let bare : is_atomic_write c.args.plain_writes_atomic c.args.access.now ≡ false = cc in
    let none : c.self.inside.atomic_next ≡ 0 = omega arith in
    let says : IsTrue c.if-self-gt0-2.result
    ↔ ((0 < c.self.inside.nest_count) ⊎ IsTrue c.self.inside.in_flat) =
    elim c.if-self-gt0-2.branch [
      | then-self-gt0-2 w ↦ says_nested _ _ _ (omega arith)
          (w.result-is ∙ lt-ltb 0 c.self.inside.nest_count (omega arith))
      | else-self-gt0-2 w ↦ says_flat _ _ _ (omega arith) w.result-is
    ] in
    rw (← c.self.view_is, none)
    (λ before. counts_in_regions c.args.plain_writes_atomic c.args.access.now before
    _ _ _ _ plain real bare says)

pub returns-clause-follows : goal.returns-clause-follows
returns-clause-follows c =
    let none : c.self.inside.atomic_next ≡ 0 = omega arith in
    rw (← c.self.view_is, none)
    (begin_finds_none c.args.plain_writes_atomic c.args.access.now _ _ _)
