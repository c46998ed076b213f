use Rattle.std.proofs.Common.{◌≡◌, ◌≢◌, ◌+◌, ◌∙◌, [], suc, ap, arith, length, refl, subst, sym}
use Rattle.std.specs.List.{slice_split}
use Rattle.std.specs.Prelude.{◌==◌}
use Rattle.std.proofs.lemmas.Bool.{eqb-false, eqb-true}
use Rattle.std.proofs.lemmas.List.{take_all}
use Rattle.prepared_program.specs.Lists.{SpellEach}
use Rattle.prepared_program.specs.place_list.Spelling.{SpellsPlace}
use Rattle.prepared_program.proofs.ListLemmas.{each-more, no-bytes, spells-empty, spells-nothing, spells-read, texts_of}
use Rattle.prepared_program.proofs.place_list.SpellingLemmas.{place-item}
use Rattle.prepared_program.proofs.place_list.places.parse_places.Goals as goal

pub returns-then-is_empty : goal.returns-then-is_empty
returns-then-is_empty c = λ places.
    let none = eqb-true (length c.args.text.now) 0 (sym c.is_empty.ensures ∙ c.if-is_empty.true) in
    spells-empty place-item c.args.text.now c.new-places.result.items places (no-bytes c.args.text.now none)
    c.new-places.ensures.items

pub returns-in-None : goal.returns-in-None
returns-in-None c = λ places.
    let some : c.args.text.now ≢ [] = λ e. eqb-false (length c.args.text.now) 0 (sym c.is_empty.ensures
    ∙ c.if-is_empty.false) (ap length e) in
    let are : texts_of c.deref-item-items.result.now ≡ slice_split (λ byte. byte == 44) c.args.text.now = ap
    texts_of c.deref-item-items.ensures.value ∙ c.in_ok-items.ensures in
    spells-nothing place-item c.args.text.now c.deref-item-items.result.now c.loop-item.item-index _ _ some are (omega
    arith)
    (λ place spelled. let read = (c.in-None.ensures place).0 spelled in absurd cc) refl places

pub loop-item-preserved : goal.loop-item-preserved
loop-item-preserved c =
    let next : c.loop-item.item-index + 1 ≡ suc c.loop-item.item-index = omega arith in
    let spelled = (c.in-Some.ensures _).1 refl in
    rw (c.in_ok-push-in-Some.ensures.items, next, c.in_ok-place-in-Some.ensures)
    (each-more place-item c.deref-item-items.result.now c.loop-item.item-index _ c.loop-item.places.items _ (omega arith)
    c.loop-item.invariant spelled)

pub returns : goal.returns
returns c = λ places.
    let some : c.args.text.now ≢ [] = λ e. eqb-false (length c.args.text.now) 0 (sym c.is_empty.ensures
    ∙ c.if-is_empty.false) (ap length e) in
    let are : texts_of c.deref-item-items.result.now ≡ slice_split (λ byte. byte == 44) c.args.text.now = ap
    texts_of c.deref-item-items.ensures.value ∙ c.in_ok-items.ensures in
    let all = take_all c.loop-item.item-index c.deref-item-items.result.now (omega arith) in
    let each = subst (λ items. SpellEach SpellsPlace (texts_of items) c.loop-item.places.items) all
    c.loop-item.invariant in
    spells-read place-item c.args.text.now (texts_of c.deref-item-items.result.now) c.loop-item.places.items some are
    each places
