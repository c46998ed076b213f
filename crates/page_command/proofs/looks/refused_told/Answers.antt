-- why it has no output
use Rattle.std.proofs.Common.{◌∙◌, refl}
use Rattle.page_command.proofs.looks.refused_told.Goals as goal

pub returns : goal.returns
returns c = record {
  name_is = c.in_ok-name.ensures.items ∙ c.as_bytes.ensures.value;
  text_is = refl;
  words = c.in_ok-words.words;
  words_are = c.in_ok-words.ensures;
  end_is = refl;
}
