-- the labels are those of the sites of the program
use Rattle.std.proofs.Common.{ℕ, List, Option, Vec, subst}
use Rattle.std.specs.Global.{Global}
use Rattle.std.specs.Option.{option_map}
use Rattle.litmus_command.specs.Show.{IsPictureDrawn}
use Rattle.source_places.specs.picture_source.Source.{AreLabelsIn}
use Rattle.timeline.specs.declared.picture.labels.Label.{Label}
use Rattle.timeline.specs.declared.picture.rows.Row.{Row}
use Rattle.litmus_command.proofs.show.drawn_reading.Goals as goal

pub returns-in_ok-written-in-Some-clause-drawn : goal.returns-in_ok-written-in-Some-clause-drawn
returns-in_ok-written-in-Some-clause-drawn c =
    let picture = c.args.picture.now in
    let program = c.args.reading.now.program in
    let written = c.in_ok-written-in-Some.written in
    let svg = option_map (λ own. own.items) written.trace in
    let found = subst (λ (rows : List Row). AreLabelsIn program c.args.text.now rows c.in_ok-labels_of.field-0) c.deref.ensures.value
    c.in_ok-labels_of.ensures in
    let drawn = subst
    (λ (labels : List Label). IsPictureDrawn picture c.test_of-test.result.now labels c.args.wanted written.output.items svg)
    c.deref-in-Some.ensures.value c.in_ok-written-in-Some.ensures.drawn in (
      c.in-Some.labels,
      subst (λ (labels : Option (Vec Label Global)). AreLabelsIn program c.args.text.now picture.rows.items labels) c.in-Some.is found,
      subst (λ (test : List ℕ). IsPictureDrawn picture test c.in-Some.labels.items c.args.wanted written.output.items svg)
          c.test_of-test.ensures drawn,
    )
