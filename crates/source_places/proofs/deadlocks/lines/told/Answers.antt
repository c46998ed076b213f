-- The lock has this name.
use Rattle.std.proofs.Common.{◌∙◌, ℕ, List, ap}
use Rattle.std.proofs.lemmas.Result.{IfOk-weaker}
use Rattle.source_places.proofs.deadlocks.lines.told.Goals as goal
use Rattle.source_places.specs.deadlocks.Lines.{place_words, wait_line}

pub returns : goal.returns
returns c =
    let sources = c.args.sources in
    let place = place_words sources.file.now sources.text.now c.place_of_call-at.result in
    IfOk-weaker c.wait_line.result _ _
    (λ line is. record {
      at = c.place_of_call-at.result;
      spelled = is ∙ ap (λ (name : List ℕ). wait_line c.args.wait name place) c.lock_name-name.ensures;
    })
    (c.wait_line.ensures place c.place_words-place.ensures)
