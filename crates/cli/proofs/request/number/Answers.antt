-- the value of the option spells the number
use Rattle.std.proofs.Common.{◌≡◌, ◌≤◌, ◌<◌, ◌∙◌, ◌^◌, IfSome, ap, is_some, rules, subst, sym, true}
use Rattle.std.specs.Bool.{then_some}
use Rattle.std.specs.Str.Parse.{ExplainsUnsignedError, HasUnsignedDigitsIfOk, ParsesUnsigned}
use Rattle.clap.specs.Words.{found_of, rows_of}
use Rattle.cli.proofs.ValueLemmas.{kept, number_read, number_same, number_there}
use Rattle.cli.specs.Words.{IsNumber}
use Rattle.cli.proofs.request.number.Goals as goal
use Rattle.cli.proofs.request.number.Goals.{else-bounds-number, then-bounds-number}

pub returns-clause-asked : goal.returns-clause-asked
returns-clause-asked c =
    let found = found_of c.args.matches.now in
    let P = IsNumber (rows_of found) c.args.option.now in
    subst (λ result. IfSome result P) (sym c.then_some.ensures)
    (kept P c.if-bounds-number.then_some c.in_ok-number.number
    (number_read
    (λ text result. ParsesUnsigned 64 10 text result × ExplainsUnsignedError 10 text result × HasUnsignedDigitsIfOk text result)
    (λ text n gives. (gives.0.0.0, sym gives.0.1, subst (λ m. m < 2 ^ 64) (sym gives.0.1) gives.0.0.1))
    found c.args.option.now c.get_one.result c.in_ok-number.number c.in_ok-number.was
    c.get_one.ensures.none c.get_one.ensures.value))

pub returns-in_err-number-clause-complete : goal.returns-in_err-number-clause-complete
returns-in_err-number-clause-complete c = λ number from to asks.
    absurd (number_there
    (λ text result. ParsesUnsigned 64 10 text result × ExplainsUnsignedError 10 text result × HasUnsignedDigitsIfOk text result)
    (λ text e gives numeral fits. gives.0 (numeral, fits)) (found_of c.args.matches.now) c.args.option.now c.get_one.result number
    c.get_one.ensures.value asks c.in_err-number.was)

pub returns-clause-complete : goal.returns-clause-complete
returns-clause-complete c = λ number from to asks.
    let same : c.in_ok-number.number ≡ number = number_same
    (λ text result. ParsesUnsigned 64 10 text result × ExplainsUnsignedError 10 text result × HasUnsignedDigitsIfOk text result)
    (λ text n gives. gives.0.1) (found_of c.args.matches.now) c.args.option.now c.get_one.result c.in_ok-number.number number
    c.in_ok-number.was c.get_one.ensures.value asks in
    let low : c.args.bounds.0 ≤ c.in_ok-number.number = subst (λ n. c.args.bounds.0 ≤ n) (sym same) from in
    let high : c.in_ok-number.number ≤ c.args.bounds.1 = subst (λ n. n ≤ c.args.bounds.1) (sym same) to in
    let keeps : c.if-bounds-number.then_some ≡ true = elim c.if-bounds-number.branch [
      | then-bounds-number w ↦ search rules
      | else-bounds-number w ↦ search rules
    ] in
    ap is_some c.then_some.ensures ∙ ap (λ b. is_some (then_some b c.in_ok-number.number)) keeps
