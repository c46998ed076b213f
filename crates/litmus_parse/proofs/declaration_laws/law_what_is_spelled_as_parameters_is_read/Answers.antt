-- Parameter by parameter, behind the items.
use Rattle.std.proofs.Common.{◌∙◌, List, ap, sym, subst, refl}
use Rattle.litmus_expression.proofs.Taken.{same_given}
use Rattle.litmus_parse.specs.Entries.{Entry}
use Rattle.litmus_parse.specs.ItemReader.{Heading}
use Rattle.litmus_parse.proofs.Fits.{Fits, fits_at_first}
use Rattle.litmus_parse.proofs.ItemsComplete.{block_goes, heading}
use Rattle.litmus_parse.proofs.ParametersComplete.{parameters_complete}
use Rattle.litmus_lex.specs.declared.sign.Sign.TheVariants.{OpenParen}
use Rattle.litmus_lex.specs.Words.{sign}
use Rattle.std.specs.Prelude.{◌∷◌}
use Rattle.litmus_parse.proofs.declaration_laws.law_what_is_spelled_as_parameters_is_read.Goals as goal

pub returns : goal.returns
returns c = λ all items symbols inside rest names later table parameters items_are numbered are reads spelled typed.
    let go = block_goes all symbols (sign OpenParen ∷ inside) items names items_are numbered (fits_at_first all) are in
    let same = same_given (heading (sign OpenParen ∷ inside) names go.behind.table) (heading (sign OpenParen ∷ inside) names table)
    (sym go.reads ∙ reads) in
    let fits : Fits all names table = subst (λ (t : List Entry). Fits all names t) (ap (λ (h : Heading). h.table) same) go.behind.fits in
    let p = parameters_complete all (heading (sign OpenParen ∷ inside) names table) inside rest parameters later refl spelled fits typed in
    (p.behind.table, p.reads)
