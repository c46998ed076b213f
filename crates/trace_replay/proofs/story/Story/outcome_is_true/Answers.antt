-- by the finder that was found
use Rattle.std.proofs.Common.{◌≡◌, ◌∙◌, ap, sym, subst, true≢false}
use Rattle.watch_word.specs.Word.{IsWatchWord, watch_in}
use Rattle.report_text.specs.Standing.{accesses_of}
use Rattle.trace_replay.proofs.Naming.{found_has_bytes, hit_of, no_hit}
use Rattle.trace_replay.proofs.story.Story.outcome_is_true.Goals as goal

pub returns-in_default-named : goal.returns-in_default-named
returns-in_default-named c = λ all knows. (
  λ t. absurd (true≢false (sym t)),
  λ is. absurd (no_hit c.named.result c.args.shape.slots c.args.shape.layout all c.args.setter.now c.args.arm.now c.in-Hit.finder c.in-Hit.result
      (c.named.ensures (accesses_of all) knows.accesses) c.in_default-named.is (sym c.in-Hit.ensures) is),
)

pub returns-in_default-decode_in : goal.returns-in_default-decode_in
returns-in_default-decode_in c =
    let watches = c.law_words_read_back.ensures c.args.shape.layout c.args.setter.now.access c.args.arm.now.watch_word c.requires.word in
    absurd (true≢false (sym (c.in_default-decode_in.ensures.watch_word.1
    (subst (IsWatchWord c.args.shape.layout) (sym c.watch_word.ensures) watches.is_watch_word))))

pub may_hit-requires-clause-has_bytes : goal.may_hit-requires-clause-has_bytes
may_hit-requires-clause-has_bytes c = found_has_bytes c.named.result c.requires.known.0 c.in-Hit.finder c.in-Some.finder
    (c.named.ensures (accesses_of c.requires.known.0) c.requires.known.1.accesses) c.in-Some.is c.requires.known.1.accesses.have_bytes

pub returns : goal.returns
returns c = λ all knows.
    let hit = hit_of c.named.result c.args.shape.slots c.args.shape.layout all c.args.setter.now c.args.arm.now c.in-Hit.finder c.in-Hit.result c.in-Some.finder
    (c.named.ensures (accesses_of all) knows.accesses) c.in-Some.is (sym c.in-Hit.ensures) in
    let watch : c.in-Some-decode_in.watch ≡ watch_in c.args.shape.layout c.args.arm.now.watch_word =
    c.in-Some-decode_in.ensures.watch.says ∙ ap (watch_in c.args.shape.layout) c.watch_word.ensures in (
      λ t. hit.0 (rw (watch, c.index.ensures) at (c.may_hit.ensures.0 t)),
      λ is. c.may_hit.ensures.1 (rw (watch, c.index.ensures) (hit.1 is)),
    )
