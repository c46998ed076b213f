-- what is written stands before `at`, and what the sink took of the rest follows it
use Rattle.std.proofs.Common.{◌≡◌, ◌+◌, ◌-◌, ◌<◌, ◌≤◌, ◌++◌, ◌∙◌, ℕ, List, arith, drop, length, length-drop, length-take, ap, subst, sym, take}
use Rattle.std.proofs.Math.Seq.{take-add}
use Rattle.std.proofs.lemmas.List.{take-take}
use Rattle.report_text.specs.Sink.{Takes}
use Rattle.report_text.proofs.SinkSteps.{takes_both}
use Rattle.report_text.proofs.sink.write_all.Goals as goal

-- a part of the rest is a part of the text
part_is : (text : List ℕ) (at count : ℕ) → count ≤ length text - at
    → take at text ++ take count (take (length text - at) (drop at text)) ≡ take (at + count) text
part_is text at count within =
    ap (λ t. take at text ++ t) (take-take count _ (drop at text) within) ∙ sym (take-add at count text)

pub loop-at-preserved : goal.loop-at-preserved
loop-at-preserved g c =
    let taken = c.in-Ok.ensures.taken in
    let within : c.in-Ok.count ≤ length c.args.text.now - c.loop-at.at =
    omega (arith, length-take {A = ℕ}, length-drop {A = ℕ}, taken.0) in
    let some : 0 < c.in-Ok.count = omega (arith, c.if-count-eq0.false) in (
      omega arith,
      subst (λ t. Takes g.K.Sink.written g.K.Sink.failures t c.args.sink.now c.write.new.self)
          (part_is c.args.text.now c.loop-at.at c.in-Ok.count within)
          (takes_both g.K.Sink.written g.K.Sink.failures _ _ _ _ _ c.loop-at.invariant.1
          (record { holds = taken.1; works = c.in-Ok.ensures.worked some })),
    )
