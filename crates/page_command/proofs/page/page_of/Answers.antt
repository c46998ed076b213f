-- the page of these files
use Rattle.std.proofs.Common.{◌∙◌, refl}
use Rattle.page_command.proofs.page.page_of.Goals as goal

pub returns : goal.returns
returns c = record {
  page = _;
  files_are = refl;
  settings_are = refl;
  program_is = c.deref.ensures ∙ c.in_ok-program.ensures;
  bytes_are = c.in_ok-bytes.ensures;
}
