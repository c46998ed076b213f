-- The grammar of conditions. Each relation is between the processes known before, symbols, what they spell
-- at their front, the symbols left behind it, and the processes known after: an atom may name a register.
use Rattle.std.specs.Prelude.{◌≡◌, ◌≢◌, ◌<◌, ℕ, suc, List, ◌∷◌, Some, slice_get, slice_set}
use Rattle.litmus_lex.specs.declared.sign.Sign.TheVariants.{OpenParen, CloseParen, OpenBracket, CloseBracket, Colon, Assign, Tilde, Conjunction, Disjunction}
use Rattle.litmus_syntax.specs.declared.proposition.Quantifier.{Quantifier}
use Rattle.litmus_syntax.specs.declared.proposition.Quantifier.TheVariants.{Exists, NotExists, Forall}
use Rattle.litmus_syntax.specs.Tree.{Proposition}
use Rattle.litmus_syntax.specs.Tree as tree
use Rattle.litmus_lex.specs.declared.words.VariableType.{VariableType}
use Rattle.litmus_lex.specs.declared.words.VariableType.TheVariants.{Lock}
use Rattle.litmus_lex.specs.declared.words.Word.TheVariants as words
use Rattle.litmus_lex.specs.Words.{Symbol, word, identifier, number, sign}
use Rattle.litmus_syntax.specs.Limits.{nesting_limit}
use Rattle.litmus_expression.specs.Names.{Names, IsRegister}
use Rattle.litmus_parse.specs.ProcessHeaders.{Process, Signed}
use Rattle.litmus_parse.specs.Mentions.{Mention, HasType}

-- `exists`, `~exists` or `forall`
pub data Quantifies : List Symbol → Quantifier → List Symbol → Type 0 where
  exists : {rest : List Symbol} → Quantifies (word words.Exists ∷ rest) Exists rest
  not_exists : {rest : List Symbol} → Quantifies (sign Tilde ∷ word words.Exists ∷ rest) NotExists rest
  for_all : {rest : List Symbol} → Quantifies (word words.Forall ∷ rest) Forall rest

-- VAR in the condition: a variable that the text has named before, and no lock
pub record IsKnown (mentions : List Mention) (names : Names) (name : List ℕ) (variable : ℕ) : Type 0 where
  pub type : VariableType
  pub stands : slice_get names variable ≡ Some name
  pub typed : HasType mentions name type
  pub no_lock : type ≢ Lock

-- the process with these registers
abbrev pub with_registers : Process → Names → Process
with_registers process registers = record { parameters = process.parameters; registers = registers; body = process.body }

-- an atom, `true` or `false`
pub data Atom (mentions : List Mention) (names : Names) : (before : List Process) → List Symbol → Proposition → List Symbol → (after : List Process) → Type 0 where
  always : {before : List Process} {rest : List Symbol} → Atom mentions names before (word words.True ∷ rest) tree.always rest before
  never : {before : List Process} {rest : List Symbol} → Atom mentions names before (word words.False ∷ rest) tree.never rest before
  register_is : {before : List Process} {task register value : ℕ} {process : Process} {name : List ℕ} {registers : Names} {symbols rest : List Symbol}
      → slice_get before task ≡ Some process
      → IsRegister process.parameters process.registers name register registers
      → Signed symbols value rest
      → Atom mentions names before (number task ∷ sign Colon ∷ identifier name ∷ sign Assign ∷ symbols) (tree.register_is task register value) rest
      (slice_set before task (with_registers process registers))
  variable_is : {before : List Process} {variable value : ℕ} {name : List ℕ} {symbols rest : List Symbol}
      → IsKnown mentions names name variable
      → Signed symbols value rest
      → Atom mentions names before (identifier name ∷ sign Assign ∷ symbols) (tree.variable_is variable value) rest before
  in_brackets : {before : List Process} {variable value : ℕ} {name : List ℕ} {symbols rest : List Symbol}
      → IsKnown mentions names name variable
      → Signed symbols value rest
      → Atom mentions names before (sign OpenBracket ∷ identifier name ∷ sign CloseBracket ∷ sign Assign ∷ symbols) (tree.variable_is variable value) rest before

mutual
  -- conjunctions joined by `\/`, from the left, where so many parentheses are open
  pub data Disjoined (mentions : List Mention) (names : Names) : (depth : ℕ) (before : List Process) → List Symbol → Proposition → List Symbol → (after : List Process) → Type 0 where
    conjunction : {depth : ℕ} {before after : List Process} {symbols rest : List Symbol} {a : Proposition}
        → Conjoined mentions names depth before symbols a rest after
        → Disjoined mentions names depth before symbols a rest after
    or : {depth : ℕ} {before between after : List Process} {symbols middle rest : List Symbol} {a b : Proposition}
        → Disjoined mentions names depth before symbols a (sign Disjunction ∷ middle) between
        → Conjoined mentions names depth between middle b rest after
        → Disjoined mentions names depth before symbols (tree.either a b) rest after

  -- negations joined by `/\`, from the left
  pub data Conjoined (mentions : List Mention) (names : Names) : (depth : ℕ) (before : List Process) → List Symbol → Proposition → List Symbol → (after : List Process) → Type 0 where
    negation : {depth : ℕ} {before after : List Process} {symbols rest : List Symbol} {a : Proposition}
        → Negation mentions names depth before symbols a rest after
        → Conjoined mentions names depth before symbols a rest after
    and : {depth : ℕ} {before between after : List Process} {symbols middle rest : List Symbol} {a b : Proposition}
        → Conjoined mentions names depth before symbols a (sign Conjunction ∷ middle) between
        → Negation mentions names depth between middle b rest after
        → Conjoined mentions names depth before symbols (tree.both a b) rest after

  -- an atom, a proposition in parentheses, or either behind `~`
  pub data Negation (mentions : List Mention) (names : Names) : (depth : ℕ) (before : List Process) → List Symbol → Proposition → List Symbol → (after : List Process) → Type 0 where
    atom : {depth : ℕ} {before after : List Process} {symbols rest : List Symbol} {a : Proposition}
        → Atom mentions names before symbols a rest after
        → Negation mentions names depth before symbols a rest after
    not : {depth : ℕ} {before after : List Process} {symbols rest : List Symbol} {a : Proposition}
        → Negation mentions names depth before symbols a rest after
        → Negation mentions names depth before (sign Tilde ∷ symbols) (tree.negation a) rest after
    parenthesized : {depth : ℕ} {before after : List Process} {symbols rest : List Symbol} {a : Proposition}
        → depth < nesting_limit
        → Disjoined mentions names (suc depth) before symbols a (sign CloseParen ∷ rest) after
        → Negation mentions names depth before (sign OpenParen ∷ symbols) a rest after
