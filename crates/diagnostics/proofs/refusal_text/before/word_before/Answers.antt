-- The word at the end of the bytes before the place, without the blanks there.
use Rattle.std.proofs.Common.{◌∙◌, List, ap, ℕ}
use Rattle.std.specs.List.{after_last}
use Rattle.diagnostics.specs.refusal_text.Before.{unblanked, word_before}
use Rattle.diagnostics.specs.refusal_text.Token.{is_no_name_byte}
use Rattle.diagnostics.proofs.refusal_text.before.word_before.Goals as goal

pub returns : goal.returns
unfolding word_before
returns c =
    c.last_word.ensures
    ∙ ap (λ (bytes : List ℕ). after_last is_no_name_byte bytes) (c.unblanked.ensures ∙ ap unblanked c.before_of.ensures.exact)
