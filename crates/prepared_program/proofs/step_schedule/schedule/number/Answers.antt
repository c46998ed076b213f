use Rattle.std.proofs.Common.{◌≡◌, ◌∙◌, sym, true, false}
use Rattle.std.specs.Str.{all_ascii_digits}
use Rattle.prepared_program.proofs.step_schedule.SpellingLemmas.{digits-all, number-read, number-unread}
use Rattle.prepared_program.proofs.step_schedule.schedule.number.Goals as goal

pub returns-then-is_digits : goal.returns-then-is_digits
returns-then-is_digits c = λ n.
    let digits : all_ascii_digits c.args.text.now ≡ true = sym (digits-all c.args.text.now)
    ∙ sym c.is_digits.ensures ∙ c.if-is_digits.true in
    rw c.ok.ensures.value (number-read c.args.text.now c.parse.result c.parse.ensures.value.0 digits n)

pub returns-else-is_digits : goal.returns-else-is_digits
returns-else-is_digits c = λ n.
    let other : all_ascii_digits c.args.text.now ≡ false = sym (digits-all c.args.text.now)
    ∙ sym c.is_digits.ensures ∙ c.if-is_digits.false in
    (λ spelled. absurd (number-unread c.args.text.now other n spelled), λ e. absurd cc)
