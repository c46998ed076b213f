-- Branch by branch.
use Rattle.std.proofs.Common.{◌≡◌, ◌∙◌, Bool, IsTrue, false, not, refl, sym, true}
use Rattle.races.proofs.VerdictLemmas.{fits_apart, fits_missed, fits_no_race, fits_race}
use Rattle.races.proofs.found.verdict_of.Goals as goal

untrue : {b : Bool} → b ≡ false → ¬ IsTrue b
untrue is said = let bad : false ≡ true = sym is ∙ said in cc

not_untrue : {b : Bool} → not b ≡ false → IsTrue b
not_untrue {b = true} is = refl
not_untrue {b = false} is = sym is

-- what isn't open is settled
closed : {open_ true_race settled : Bool} → open_ ≡ false → (IsTrue true_race × (¬ IsTrue settled) → IsTrue open_) → IsTrue true_race → IsTrue settled
closed {settled = true} is law race = refl
closed {open_ = open_} {settled = false} is law race =
    let no : ¬ (false ≡ true) = λ e. cc in
    absurd (untrue is (law (race, no)))

pub returns-then-watched-2-clause-fits : goal.returns-then-watched-2-clause-fits
returns-then-watched-2-clause-fits c = λ run pair found seen races.
    fits_missed run pair c.args.unwatched c.args.watched found seen races (untrue c.if-watched.false) c.if-unwatched.true c.if-watched-2.true

pub returns-else-watched-2-clause-fits : goal.returns-else-watched-2-clause-fits
returns-else-watched-2-clause-fits c = λ run pair found seen races.
    fits_race run pair c.args.unwatched c.args.watched found seen races c.if-unwatched.true (untrue c.if-watched-2.false)

pub returns-then-shown-clause-fits : goal.returns-then-shown-clause-fits
returns-then-shown-clause-fits c = λ run pair found seen races.
    fits_no_race run pair c.args.unwatched c.args.watched found seen races (untrue c.if-watched.false) (untrue c.if-unwatched.false)
    (not_untrue c.if-not-unwatched.false) (closed c.if-is_open.false c.is_open.ensures.1) c.if-shown.true

pub returns-clause-fits : goal.returns-clause-fits
returns-clause-fits c = λ run pair found seen races.
    fits_apart run pair c.args.unwatched c.args.watched found seen races (untrue c.if-watched.false) (untrue c.if-unwatched.false)
    (not_untrue c.if-not-unwatched.false) (closed c.if-is_open.false c.is_open.ensures.1) (untrue c.if-shown.false)
