-- The parts so far are right, and at this place is one that isn't.
use Rattle.std.proofs.Common.{arith, length, refl}
use Rattle.std.proofs.lemmas.Option.{slice_get_read}
use Rattle.part_search.proofs.part_file.RightParts.{right_more}
use Rattle.part_search.proofs.part_file.whole.first_wrong.Goals as goal

pub returns-in-Some : goal.returns-in-Some
returns-in-Some c =
    let parts = c.args.parts.now in
    record {
      part = c.index-parts-place.result;
      here = slice_get_read parts (length parts) c.loop-place.place c.index-parts-place.result refl (omega arith) c.index-parts-place.is;
      before = c.loop-place.invariant;
      wrong = c.in-Some.ensures;
    }

pub loop-place-preserved : goal.loop-place-preserved
loop-place-preserved c =
    right_more c.args.first.now c.args.parts.now c.loop-place.place c.index-parts-place.result (omega arith) c.index-parts-place.is
    c.in_default.ensures c.loop-place.invariant

pub returns : goal.returns
returns c = λ place part below here. c.loop-place.invariant place part (omega arith) here
