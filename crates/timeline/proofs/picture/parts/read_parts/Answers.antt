-- the next line is the first of those that are left
use Rattle.std.proofs.Common.{◌≡◌, ◌++◌, ◌∷◌, ◌∙◌, [], ap, append_assoc, append-nil, refl, subst, sym}
use Rattle.timeline.specs.picture.Parts.{ArePartsOf}
use Rattle.timeline.proofs.picture.Reading.{next_is, none_left, shorter}
use Rattle.timeline.proofs.picture.parts.read_parts.Goals as goal

pub loop-line-init : goal.loop-line-init
loop-line-init c = λ all spelled. ([], all, refl, spelled, c.new-parts.ensures)

pub loop-line-smaller : goal.loop-line-smaller
loop-line-smaller c = shorter c.loop-line.rest.now c.in-Some.line c.in-Some.more.now ((c.in-Some.ensures c.in-Some.line c.in-Some.more.now).1 refl)

pub loop-line-preserved : goal.loop-line-preserved
loop-line-preserved c = λ all spelled.
    let inv = c.loop-line.invariant all spelled in
    let next = next_is inv.1 c.loop-line.rest.now c.in-Some.line c.in-Some.more.now inv.3
    ((c.in-Some.ensures c.in-Some.line c.in-Some.more.now).1 refl) in (
      inv.0 ++ c.in-Some.line ∷ [],
      next.0,
      inv.2 ∙ ap (λ ls. inv.0 ++ ls) next.1 ∙ sym (append_assoc inv.0 (c.in-Some.line ∷ []) next.0),
      next.2,
      c.in_ok-keep.ensures inv.0 inv.4,
    )

pub returns : goal.returns
returns c = λ all spelled.
    let inv = c.loop-line.invariant all spelled in
    let none = none_left inv.1 c.loop-line.rest.now inv.3 c.in_default.ensures in
    let whole : all ≡ inv.0 = inv.2 ∙ ap (λ ls. inv.0 ++ ls) none ∙ append-nil inv.0 in
    subst (λ ls. ArePartsOf ls c.loop-line.parts) (sym whole) inv.4
