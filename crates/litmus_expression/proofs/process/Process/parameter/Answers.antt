-- The parameter that is found is the one of the name.
use Rattle.std.proofs.Common.{◌≡◌, List, Option, ap, ◌∙◌}
use Rattle.std.specs.Prelude.{find, option_map}
use Rattle.litmus_lex.specs.Words.{is_same}
use Rattle.litmus_expression.specs.declared.process.Parameter as coded
use Rattle.litmus_expression.specs.NameReader.{parameter_named}
use Rattle.litmus_expression.specs.Names.{Parameter}
use Rattle.litmus_expression.specs.States.{parameter_of}
use Rattle.litmus_expression.proofs.Found.{find_map}
use Rattle.litmus_expression.proofs.process.Process.parameter.Goals as goal

pub returns : goal.returns
unfolding parameter_named
returns c =
    let found : c.find_parameter.result ≡ find (λ (p : coded.Parameter). is_same p.name.now c.args.name.now) c.args.self.now.parameters.items =
    c.find_parameter.ensures ∙ ap (λ (ps : List coded.Parameter). find (λ (p : coded.Parameter). is_same p.name.now c.args.name.now) ps) c.deref.ensures.value in
    ap (λ (o : Option coded.Parameter). option_map parameter_of o) found
    ∙ find_map parameter_of (λ (p : Parameter). is_same p.name c.args.name.now) c.args.self.now.parameters.items
