-- what is said of it, and what a page tells
use Rattle.std.proofs.Common.{◌∙◌, refl}
use Rattle.page_command.proofs.looks.found_looked.Goals as goal

pub returns : goal.returns
returns c = record {
  said = c.in_ok-said.ensures c.args.text.items;
  name_is = c.in_ok-own_name.ensures.items ∙ c.as_bytes.ensures.value;
  text_is = refl;
  end_is = refl;
}
