-- a picture of what was read, or why there is none
use Rattle.std.proofs.Common.{◌≡◌, ◌≤◌, ◌<◌, ◌∙◌, ap, arith, length}
use Rattle.trace_replay.specs.trace_lines.HeadReading.{head_of}
use Rattle.trace_replay.proofs.FirstFailingLine.{head_fails}
use Rattle.timeline.specs.picture.Drawn.{access_limit}
use Rattle.timeline.proofs.picture.Whole.{ordered, parts_sound, pictured, read_truly, too_long}
use Rattle.timeline.proofs.picture.draw.picture_of.Goals as goal

pub returns-in-Err-read_head-clause-undrawn : goal.returns-in-Err-read_head-clause-undrawn
returns-in-Err-read_head-clause-undrawn c =
    head_fails c.args.bytes.now _ c.in_default.ensures.accepted.is_true.begins.within c.in-Err-read_head.ensures.fails

pub returns-then-len-gt-ACCESS_LIMIT-clause-undrawn : goal.returns-then-len-gt-ACCESS_LIMIT-clause-undrawn
returns-then-len-gt-ACCESS_LIMIT-clause-undrawn c =
    let read = read_truly c.args.bytes.now _ _ _ c.in_ok-parts.parts c.in_default.ensures.accepted c.in-Ok.ensures.head c.in_ok-parts.ensures in
    let size : c.len.result ≡ length c.in_ok-parts.parts.accesses.items = c.len.ensures ∙ c.in_ok-parts.parts.accesses.ok.0 in
    let more : access_limit < c.len.result = c.if-len-gt-ACCESS_LIMIT.true in
    too_long c.args.bytes.now _ c.in_ok-parts.parts read (omega (arith, size, more))

pub drawn-requires : goal.drawn-requires
drawn-requires c = parts_sound c.args.bytes.now _ c.in_ok-parts.parts
    (read_truly c.args.bytes.now _ _ _ c.in_ok-parts.parts c.in_default.ensures.accepted c.in-Ok.ensures.head c.in_ok-parts.ensures)

pub returns-clause-drawn : goal.returns-clause-drawn
returns-clause-drawn c =
    let read = read_truly c.args.bytes.now _ _ _ c.in_ok-parts.parts c.in_default.ensures.accepted c.in-Ok.ensures.head c.in_ok-parts.ensures in
    let size : c.len.result ≡ length c.in_ok-parts.parts.accesses.items = c.len.ensures ∙ c.in_ok-parts.parts.accesses.ok.0 in
    let few : c.len.result ≤ access_limit = c.if-len-gt-ACCESS_LIMIT.false in
    pictured c.args.bytes.now _ c.in_ok-parts.parts c.in_ok-picture.picture read (omega (arith, size, few))
    (ap head_of c.in_ok-picture.ensures.head) c.in_ok-picture.ensures.shows

pub returns-clause-ordered : goal.returns-clause-ordered
returns-clause-ordered c = ordered c.in_ok-parts.parts c.in_ok-picture.picture c.in_ok-picture.ensures.shows
