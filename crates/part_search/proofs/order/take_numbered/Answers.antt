-- The first part of the number is taken.
use Rattle.std.proofs.Common.{◌≡◌, ◌==◌, ◌∙◌, ◌∷◌, List, ap, subst, sym}
use Rattle.std.specs.List.{position}
use Rattle.std.specs.List.Sorted.{IsPermutation}
use Rattle.std.proofs.lemmas.Bool.{eqb-true}
use Rattle.std.proofs.lemmas.List.Quantifiers.{position-Some}
use Rattle.std.proofs.lemmas.List.Sorted.{IsPermutation-swap_remove}
use Rattle.part_search.proofs.Ordered.{nowhere}
use Rattle.part_search.specs.declared.part_file.part.Part.{Part}
use Rattle.part_search.proofs.order.take_numbered.Goals as goal

pub returns-in-Some : goal.returns-in-Some
returns-in-Some c =
    let parts = c.args.parts.now.items in
    let part = c.swap_remove.result in
    let found = λ (all : List Part). position (λ (one : Part). one.part == c.args.number) all in
    let at = position-Some (λ (one : Part). one.part == c.args.number) parts c.in-Some.at part
    (sym (c.place_of.ensures ∙ ap found c.deref.ensures.value) ∙ c.in-Some.is) in
    let is = c.swap_remove.ensures.value in (
      eqb-true part.part c.args.number (ap (λ (one : Part). one.part == c.args.number) is ∙ at.1),
      subst (λ (l : List Part). IsPermutation parts (part ∷ l)) (sym c.swap_remove.ensures.items)
          (IsPermutation-swap_remove parts c.in-Some.at part at.0 is),
    )

pub returns-in-None : goal.returns-in-None
returns-in-None c =
    let found = λ (all : List Part). position (λ (one : Part). one.part == c.args.number) all in
    nowhere (λ (one : Part). one.part == c.args.number) c.args.parts.now.items
    (sym (c.place_of.ensures ∙ ap found c.deref.ensures.value) ∙ c.in-None.is)
