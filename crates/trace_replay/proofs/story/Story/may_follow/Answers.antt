-- the place and the content
use Rattle.std.proofs.Common.{◌≤◌, arith, sym, subst}
use Rattle.std.proofs.lemmas.Bool.{leb-true, le-leb}
use Rattle.report_text.specs.Standing.{kind_place}
use Rattle.trace_replay.proofs.story.Story.may_follow.Goals as goal

pub returns-then-self-place_of : goal.returns-then-self-place_of
returns-then-self-place_of c = λ all tells. (
  λ t. record {
    in_order = (tells.places (kind_place c.args.line.now)).1 (subst (λ n. c.args.self.now.place ≤ n) c.place_of.ensures c.if-self-place_of.true);
    content = (c.content_stands.ensures all tells.knows).0 t;
  },
  λ stands. (c.content_stands.ensures all tells.knows).1 stands.content,
)

pub returns-else-self-place_of : goal.returns-else-self-place_of
returns-else-self-place_of c = λ all tells. (
  λ t. let high = leb-true c.args.self.now.place c.place_of.result t in absurd (omega arith),
  λ stands. let high = (tells.places (kind_place c.args.line.now)).0 stands.in_order in
      le-leb c.args.self.now.place c.place_of.result (subst (λ n. c.args.self.now.place ≤ n) (sym c.place_of.ensures) high),
)
