-- each is what its array has
use Rattle.std.proofs.Common.{ap, map}
use Rattle.cli.proofs.program.option_names.Goals as goal

pub returns : goal.returns
returns c = record {
  sizes = ap (map (λ name. name.now)) c.as_slice-sizes.ensures;
  formats = ap (map (λ name. name.now)) c.as_slice-formats.ensures;
  search_formats = ap (map (λ name. name.now)) c.as_slice-search_formats.ensures;
  choices = ap (map (λ name. name.now)) c.as_slice-choices.ensures;
  colors = ap (map (λ name. name.now)) c.as_slice-colors.ensures;
}
