-- The symbols of the printed form of a condition, before what follows it, and its nesting.
use Rattle.std.specs.Prelude.{◌<◌, ℕ, suc, List, ◌∷◌}
use Rattle.litmus_lex.specs.declared.sign.Sign.TheVariants.{OpenParen, CloseParen, Colon, Assign, Tilde, Conjunction, Disjunction}
use Rattle.litmus_syntax.specs.declared.program.Variable.{Variable}
use Rattle.litmus_syntax.specs.declared.proposition.Quantifier.{Quantifier}
use Rattle.litmus_syntax.specs.declared.proposition.Quantifier.TheVariants.{Exists, NotExists, Forall}
use Rattle.litmus_syntax.specs.Limits.{nesting_limit}
use Rattle.litmus_syntax.specs.PrintedForm.{name_at, registers_of, variable_name}
use Rattle.litmus_syntax.specs.Tree.{Proposition, Task}
use Rattle.litmus_syntax.specs.Tree as tree
use Rattle.litmus_lex.specs.declared.words.Word.TheVariants as words
use Rattle.litmus_lex.specs.Words.{Symbol, word, identifier, number, sign}

abbrev pub proposition_symbols : List Variable → List Task → Proposition → List Symbol → List Symbol
proposition_symbols variables tasks tree.always rest = word words.True ∷ rest
proposition_symbols variables tasks tree.never rest = word words.False ∷ rest
proposition_symbols variables tasks (tree.register_is k r n) rest =
    number k ∷ sign Colon ∷ identifier (name_at (registers_of tasks k) r) ∷ sign Assign ∷ number n ∷ rest
proposition_symbols variables tasks (tree.variable_is x n) rest = identifier (variable_name variables x) ∷ sign Assign ∷ number n ∷ rest
proposition_symbols variables tasks (tree.negation p) rest =
    sign OpenParen ∷ sign Tilde ∷ proposition_symbols variables tasks p (sign CloseParen ∷ rest)
proposition_symbols variables tasks (tree.both p q) rest =
    sign OpenParen ∷ proposition_symbols variables tasks p (sign Conjunction
    ∷ proposition_symbols variables tasks q (sign CloseParen ∷ rest))
proposition_symbols variables tasks (tree.either p q) rest =
    sign OpenParen ∷ proposition_symbols variables tasks p (sign Disjunction
    ∷ proposition_symbols variables tasks q (sign CloseParen ∷ rest))

abbrev pub quantifier_symbols : Quantifier → List Symbol → List Symbol
quantifier_symbols Exists rest = word words.Exists ∷ rest
quantifier_symbols NotExists rest = sign Tilde ∷ word words.Exists ∷ rest
quantifier_symbols Forall rest = word words.Forall ∷ rest

-- the printed form of a proposition keeps the limit, where so many parentheses are open round it
abbrev pub PropositionNests : ℕ → Proposition → Type 0
PropositionNests depth tree.always = Unit {0}
PropositionNests depth tree.never = Unit {0}
PropositionNests depth (tree.register_is k r n) = Unit {0}
PropositionNests depth (tree.variable_is x n) = Unit {0}
PropositionNests depth (tree.negation p) = (depth < nesting_limit) × PropositionNests (suc depth) p
PropositionNests depth (tree.both p q) = (depth < nesting_limit) × (PropositionNests (suc depth) p × PropositionNests (suc depth) q)
PropositionNests depth (tree.either p q) = (depth < nesting_limit) × (PropositionNests (suc depth) p × PropositionNests (suc depth) q)
