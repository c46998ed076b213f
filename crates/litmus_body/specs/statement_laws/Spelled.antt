-- Where the body of a process begins to be read: its parameters are known, and nothing is counted.
use Rattle.std.specs.Prelude.{List, [], ◌∷◌}
use Rattle.litmus_lex.specs.declared.sign.Sign.TheVariants.{OpenBrace}
use Rattle.litmus_lex.specs.Words.{Symbol, sign}
use Rattle.litmus_expression.specs.Names.{Parameter}
use Rattle.litmus_expression.specs.States.{State}

-- before a `{` and these symbols
abbrev pub begins_body : List Parameter → List Symbol → State
begins_body parameters inside =
    record { symbols = sign OpenBrace ∷ inside; parameters = parameters; names = []; statements = 0; repeats = 0 }
