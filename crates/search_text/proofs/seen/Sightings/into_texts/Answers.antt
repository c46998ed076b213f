-- one text more is moved out
use Rattle.std.proofs.Common.{◌++◌, ◌∙◌, ap, append-nil, sym}
use Rattle.search_text.proofs.JoinLemmas.{one_moved}
use Rattle.search_text.proofs.Shown.{shown}
use Rattle.search_text.specs.Joined.{sightings_of}
use Rattle.search_text.proofs.seen.Sightings.into_texts.Goals as goal

pub loop-text-init : goal.loop-text-init
loop-text-init c =
    ap (λ texts. sightings_of texts ++ shown c.into_iter-text-iterator.result) c.new-texts.ensures.items
    ∙ ap shown c.into_iter-text-iterator.ensures.into_iter_gives.0
    ∙ c.self.view_is

pub loop-text-preserved : goal.loop-text-preserved
loop-text-preserved c =
    ap (λ texts. sightings_of texts ++ shown c.next.new.self) c.in_ok-push.ensures.items
    ∙ one_moved c.loop-text.texts.items (record { text = c.in-Some.text; seen = c.in-Some.seen }) c.loop-text.text-iterator c.next.new.self _
    c.in-Some.ensures.steps c.loop-text.invariant

pub returns : goal.returns
returns c =
    sym (append-nil (sightings_of c.loop-text.texts.items))
    ∙ ap (λ es. sightings_of c.loop-text.texts.items ++ shown es) (sym c.in-None.ensures.steps.0)
    ∙ c.loop-text.invariant
