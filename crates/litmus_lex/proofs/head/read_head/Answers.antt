-- The gap, the name and the first brace that were found are the text's, and no other head is.
use Rattle.std.proofs.Common.{◌+◌}
use Rattle.std.proofs.lemmas.List.{take_rest}
use Rattle.litmus_lex.proofs.HeadPieces.{head_unique}
use Rattle.litmus_lex.proofs.Heads.{head_found, no_head_unbraced, no_head_unclosed, no_head_untitled}
use Rattle.litmus_lex.proofs.head.read_head.Goals as goal

pub returns-in-Some-clause-head : goal.returns-in-Some-clause-head
returns-in-Some-clause-head c =
    let gap = c.in-Before.ensures in
    let found = c.in-Some.ensures.found in
    head_found c.args.text.now _ _ c.in-Before.gap c.in-Some.passed c.in-Ok.title
    (take_rest c.args.text.now c.in-Before.gap)
    (take_rest c.args.text.now (c.in-Before.gap + c.in-Ok.title.end))
    gap.0 gap.1 c.in-Ok.ensures.ok c.in-Some.ensures.within found.0 found.1

pub returns-in-Some-clause-only : goal.returns-in-Some-clause-only
returns-in-Some-clause-only c =
    let gap = c.in-Before.ensures in
    let found = c.in-Some.ensures.found in
    let head = head_found c.args.text.now _ _ c.in-Before.gap c.in-Some.passed c.in-Ok.title
    (take_rest c.args.text.now c.in-Before.gap)
    (take_rest c.args.text.now (c.in-Before.gap + c.in-Ok.title.end))
    gap.0 gap.1 c.in-Ok.ensures.ok c.in-Some.ensures.within found.0 found.1 in
    λ name at other. head_unique c.args.text.now _ _ name at head other

pub returns-in-None-clause-only : goal.returns-in-None-clause-only
returns-in-None-clause-only c =
    let gap = c.in-Before.ensures in
    no_head_unbraced c.args.text.now _ _ c.in-Before.gap c.in-Ok.title
    (take_rest c.args.text.now c.in-Before.gap)
    (take_rest c.args.text.now (c.in-Before.gap + c.in-Ok.title.end))
    gap.1 gap.2 c.in-Ok.ensures.ok c.in-None.ensures.none

pub returns-in-Err-clause-only : goal.returns-in-Err-clause-only
returns-in-Err-clause-only c =
    let gap = c.in-Before.ensures in
    let none = c.in-Err.ensures.only in
    no_head_untitled c.args.text.now _ c.in-Before.gap
    (take_rest c.args.text.now c.in-Before.gap) gap.1 gap.2
    (λ name rest title. cc (none name rest title))

pub returns-in-Unclosed-clause-only : goal.returns-in-Unclosed-clause-only
returns-in-Unclosed-clause-only c =
    let gap = c.in-Unclosed.ensures in
    no_head_unclosed c.args.text.now gap.0 gap.1 gap.2 gap.3 gap.4
