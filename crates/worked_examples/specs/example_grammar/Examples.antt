-- Small lists of symbols, and the trees that they spell.
use Rattle.std.specs.Prelude.{List, [], ◌∷◌, codes, false, pos}
use Rattle.litmus_lex.specs.declared.sign.Sign.TheVariants.{OpenBrace, CloseBrace, OpenParen, CloseParen, Semicolon, Colon, Comma, Assign, Increment, Plus, Minus, Star, Ampersand, Less}
use Rattle.litmus_lex.specs.declared.sign.Sign.TheVariants as signs
use Rattle.litmus_syntax.specs.declared.expression.UnaryOperator.TheVariants.{Negate}
use Rattle.litmus_syntax.specs.declared.expression.BinaryOperator.TheVariants.{Multiply, Add, Subtract, BitAnd}
use Rattle.litmus_syntax.specs.declared.expression.BinaryOperator.TheVariants as binaries
use Rattle.litmus_syntax.specs.declared.expression.ReadForm.TheVariants.{Plain}
use Rattle.litmus_syntax.specs.declared.program.Contents.TheVariants as contents
use Rattle.litmus_syntax.specs.declared.proposition.Quantifier.TheVariants.{Exists}
use Rattle.litmus_syntax.specs.Tree as tree
use Rattle.litmus_lex.specs.declared.words.VariableType.TheVariants.{Char, Int, Atomic, Lock}
use Rattle.litmus_lex.specs.declared.words.Word.TheVariants as words
use Rattle.litmus_lex.specs.Words.{Symbol, word, identifier, number, sign}
use Rattle.litmus_expression.specs.Names.{Names, Parameter}
use Rattle.litmus_parse.specs.Mentions.{Mention, parameter}

-- 1 - 2 - 3 ;
abbrev pub differences : List Symbol
differences = number 1 ∷ sign Minus ∷ number 2 ∷ sign Minus ∷ number 3 ∷ sign Semicolon ∷ []

abbrev pub differences_tree : tree.Expression
differences_tree = tree.pure (tree.binary Subtract (tree.binary Subtract (tree.number 1) (tree.number 2)) (tree.number 3))

-- 1 + 2 * ( 3 + 4 ) ;
abbrev pub factors : List Symbol
factors = number 1 ∷ sign Plus ∷ number 2 ∷ sign Star ∷ sign OpenParen ∷ number 3 ∷ sign Plus ∷ number 4 ∷ sign CloseParen ∷ sign Semicolon ∷ []

abbrev pub factors_tree : tree.Expression
factors_tree = tree.pure (tree.binary Add (tree.number 1) (tree.binary Multiply (tree.number 2) (tree.binary Add (tree.number 3) (tree.number 4))))

-- r0 & r1 == 2 ;
abbrev pub masks : List Symbol
masks = identifier (codes "r0") ∷ sign Ampersand ∷ identifier (codes "r1") ∷ sign signs.Equal ∷ number 2 ∷ sign Semicolon ∷ []

abbrev pub masks_tree : tree.Expression
masks_tree = tree.pure (tree.binary BitAnd (tree.register 0) (tree.binary binaries.Equal (tree.register 1) (tree.number 2)))

abbrev pub r0_r1 : Names
r0_r1 = codes "r0" ∷ codes "r1" ∷ []

-- - data_race ( * x ) ;
abbrev pub loads : List Symbol
loads = sign Minus ∷ word words.DataRace ∷ sign OpenParen ∷ sign Star ∷ identifier (codes "x") ∷ sign CloseParen ∷ sign Semicolon ∷ []

abbrev pub loads_tree : tree.Expression
loads_tree = tree.loading (tree.unary_of Negate (tree.load (record { data_races = 1; fetch = tree.read Plain 0 })))

-- a process with one parameter, an int named x
abbrev pub x : List Parameter
x = record { name = codes "x"; variable = 0; type = Int } ∷ []

-- { } P0 ( int * x ) { r0 = * x ; } exists ( 0 : r0 = 1 )
abbrev pub small : List Symbol
small = sign OpenBrace ∷ sign CloseBrace
    ∷ identifier (codes "P0") ∷ sign OpenParen ∷ word (words.Type Int) ∷ sign Star ∷ identifier (codes "x") ∷ sign CloseParen
    ∷ sign OpenBrace ∷ identifier (codes "r0") ∷ sign Assign ∷ sign Star ∷ identifier (codes "x") ∷ sign Semicolon ∷ sign CloseBrace
    ∷ word words.Exists ∷ sign OpenParen ∷ number 0 ∷ sign Colon ∷ identifier (codes "r0") ∷ sign Assign ∷ number 1 ∷ sign CloseParen ∷ []

abbrev pub small_body : tree.Block
small_body = tree.first (tree.assign false (tree.to_register 0 (tree.loading (tree.load (record { data_races = 0; fetch = tree.read Plain 0 }))))) tree.empty

abbrev pub small_tree : tree.Program
small_tree = record {
  name = codes "t";
  variables = record { name = codes "x"; contents = contents.Int (pos 0) } ∷ [];
  tasks = record { parameters = 0 ∷ []; registers = codes "r0" ∷ []; body = small_body } ∷ [];
  quantifier = Exists;
  condition = tree.register_is 0 0 1;
}

-- r0 = * x + * x ;
abbrev pub two_loads : List Symbol
two_loads = identifier (codes "r0") ∷ sign Assign ∷ sign Star ∷ identifier (codes "x") ∷ sign Plus ∷ sign Star ∷ identifier (codes "x") ∷ sign Semicolon ∷ []

-- a process with one parameter, an atomic_t named a
abbrev pub a_counted : List Parameter
a_counted = record { name = codes "a"; variable = 0; type = Atomic } ∷ []

-- * a ;
abbrev pub atomic_read : List Symbol
atomic_read = sign Star ∷ identifier (codes "a") ∷ sign Semicolon ∷ []

-- for ( i = 0 ; i < 3 ; i ++ ) i = 1 ;
abbrev pub own_counter : List Symbol
own_counter =
    word words.For ∷ sign OpenParen ∷ identifier (codes "i") ∷ sign Assign ∷ number 0 ∷ sign Semicolon
    ∷ identifier (codes "i") ∷ sign Less ∷ number 3 ∷ sign Semicolon ∷ identifier (codes "i") ∷ sign Increment ∷ sign CloseParen
    ∷ identifier (codes "i") ∷ sign Assign ∷ number 1 ∷ sign Semicolon ∷ []

-- if ( 1 ) if ( 2 ) ; else ;
abbrev pub dangling : List Symbol
dangling =
    word words.If ∷ sign OpenParen ∷ number 1 ∷ sign CloseParen ∷ word words.If ∷ sign OpenParen ∷ number 2 ∷ sign CloseParen
    ∷ sign Semicolon ∷ word words.Else ∷ sign Semicolon ∷ []

-- the statement whose outer `if` has the `else`
abbrev pub outer_else : tree.Statement
outer_else = tree.if_else (tree.pure (tree.number 1)) (tree.first (tree.if_block (tree.pure (tree.number 2)) tree.empty) tree.empty) tree.empty

-- int * x , int * x )
abbrev pub x_twice : List Symbol
x_twice =
    word (words.Type Int) ∷ sign Star ∷ identifier (codes "x") ∷ sign Comma
    ∷ word (words.Type Int) ∷ sign Star ∷ identifier (codes "x") ∷ sign CloseParen ∷ []

-- char x ; x = 1 }
abbrev pub two_types : List Symbol
two_types =
    word (words.Type Char) ∷ identifier (codes "x") ∷ sign Semicolon ∷ identifier (codes "x") ∷ sign Assign ∷ number 1 ∷ sign CloseBrace ∷ []

-- ( l = 0 )
abbrev pub lock_asked : List Symbol
lock_asked = sign OpenParen ∷ identifier (codes "l") ∷ sign Assign ∷ number 0 ∷ sign CloseParen ∷ []

-- what one parameter says, a spinlock_t named l
abbrev pub l_said : List Mention
l_said = record { name = codes "l"; said = parameter Lock } ∷ []
