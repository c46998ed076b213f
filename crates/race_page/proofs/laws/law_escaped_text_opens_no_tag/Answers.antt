-- Each byte is harmless as it is escaped, and so is a text.
use Rattle.race_page.proofs.EscapeLemmas.{escaped_harmless}
use Rattle.race_page.proofs.laws.law_escaped_text_opens_no_tag.Goals as goal

pub returns : goal.returns
returns c = escaped_harmless
