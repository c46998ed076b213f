-- the ends of one lot more
use Rattle.std.proofs.Common.{◌≡◌, ◌∙◌, ◌<◌, ◌++◌, ◌∷◌, [], All, IfOk, List, Ok, Result, Vec, ap, append_assoc, arith, length, length-append, subst, sym}
use Rattle.std.proofs.Math.Seq.{get_or-append_seam}
use Rattle.std.proofs.lemmas.List.Elements.{All-append}
use Rattle.std.specs.Global.{Global}
use Rattle.std.specs.Vec.Iter.{into_iter_items}
use Rattle.std.specs.declared.alloc.AllocError.{AllocError}
use Rattle.file_commands.specs.Together.{AreEndsOf, IsEndAt}
use Rattle.file_commands.specs.declared.together.NumberedEnd.{NumberedEnd}
use Rattle.file_commands.proofs.together.joined.Goals as goal

pub loop-lot-preserved : goal.loop-lot-preserved
loop-lot-preserved c =
    let was = c.loop-lot.invariant in
    let steps = c.in-Some.ensures.steps in
    let yielded = c.loop-lot.yielded in
    let rest = into_iter_items c.next.new.self in
    let ends = c.in_ok-ends.ends in
    let lots : yielded ++ c.in-Some.lot ∷ rest ≡ into_iter_items c.into_iter-lot-iterator.result =
    ap (λ (xs : List _). yielded ++ xs) (sym steps.0) ∙ was.lots in
    record {
      lots = append_assoc yielded (c.in-Some.lot ∷ []) rest ∙ lots;
      ends = λ asked settings texts are.
          let P : Result (Vec NumberedEnd Global) AllocError → Type 0 = λ lot. IfOk lot (λ ends. AreEndsOf asked settings texts ends.items) in
          let all : All P (yielded ++ c.in-Some.lot ∷ rest) = subst (λ (xs : List _). All P xs) (sym lots) are in
          let within : length yielded < length (yielded ++ c.in-Some.lot ∷ rest) =
          let n = length-append yielded (c.in-Some.lot ∷ rest) in omega (arith, n) in
          let own : P (Ok ends) = subst P (get_or-append_seam yielded c.in-Some.lot rest (Ok ends) ∙ c.in_ok-ends.was)
          (all (length yielded) (Ok ends) within) in
          subst (λ (xs : List NumberedEnd). AreEndsOf asked settings texts xs) (sym c.in_ok-append.ensures.items)
          (All-append (IsEndAt asked settings texts) c.loop-lot.all.items ends.items (was.ends asked settings texts are) own);
    }
