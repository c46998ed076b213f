use Rattle.std.proofs.Common.{◌≡◌, ◌≢◌, ◌∙◌, [], ◌∷◌, sym}
use Rattle.std.proofs.lemmas.Slice.Eq.{bytes_eq-Decides}
use Rattle.prepared_program.proofs.place_list.NumberLemmas.{number-none, number-plain, number-prefixed}
use Rattle.prepared_program.proofs.place_list.places.number.Goals as goal

pub returns-then-eq : goal.returns-then-eq
returns-then-eq c =
    let zeroed : c.in-Some.zero.now ≡ 48 ∷ [] = (bytes_eq-Decides c.in-Some.zero.now (48 ∷ [])).0 (sym c.eq.ensures ∙ c.if-eq.true) in
    number-prefixed c.args.text.now c.split_once.result (c.in-Some.zero, c.in-Some.digits) c.split_once.ensures.cases
    c.in-Some.is zeroed c.numeral.result c.numeral.ensures

pub returns-else-eq : goal.returns-else-eq
returns-else-eq c = λ n.
    let other : c.in-Some.zero.now ≢ 48 ∷ [] = λ e. let same = (bytes_eq-Decides c.in-Some.zero.now (48 ∷ [])).1 e in
    let not = sym c.eq.ensures ∙ c.if-eq.false in cc in (
      λ spelled. absurd (number-none c.args.text.now c.split_once.result (c.in-Some.zero, c.in-Some.digits)
          c.split_once.ensures.cases c.in-Some.is other n spelled),
      λ e. absurd cc,
    )

pub returns-in-None : goal.returns-in-None
returns-in-None c =
    number-plain c.args.text.now c.split_once.result c.split_once.ensures.cases c.in-None.is c.numeral-in-None.result
    c.numeral-in-None.ensures
