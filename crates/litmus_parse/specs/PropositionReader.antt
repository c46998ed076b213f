-- Reading propositions: what the parser's functions answer, apart from which refusal it is. As with expressions,
-- each part is given by how it calls the parts, which are a record of readers, with fuel.
use Rattle.std.specs.Prelude.{◌==◌, ◌+◌, ◌-◌, ◌*◌, nat_lt, ℕ, zero, suc, List, Option, Some, None, Bool, true, false, length, map, set}
use Rattle.std.specs.Prelude.{slice_get, if◌then◌else◌}
use Rattle.litmus_lex.specs.declared.sign.Sign.TheVariants.{OpenParen, CloseParen, OpenBracket, CloseBracket, Colon, Tilde, Conjunction}
use Rattle.litmus_lex.specs.declared.sign.Sign.TheVariants.{Disjunction}
use Rattle.litmus_syntax.specs.Limits.{nesting_limit, operators_limit}
use Rattle.litmus_syntax.specs.Tree as tree
use Rattle.litmus_lex.specs.declared.words.Word.{Word}
use Rattle.litmus_lex.specs.declared.words.Word.TheVariants as words
use Rattle.litmus_lex.specs.Front.{◌>>=◌, first, is_sign, number_of, others, symbols_left, take_sign, word_at}
use Rattle.litmus_lex.specs.Words.{Symbol}
use Rattle.litmus_expression.specs.NameReader.{take_register}
use Rattle.litmus_expression.specs.Names.{Names}
use Rattle.litmus_expression.specs.States.{State, state_of, with_left}
use Rattle.litmus_parse.specs.declared.condition.Condition.{Condition}
use Rattle.litmus_parse.specs.ConditionReader.{given_value}
use Rattle.litmus_parse.specs.VariableReader.{known_variable}

-- what a reader of propositions has: what is left, the processes, and how many operators may follow
pub record Asked : Type 0 where
  pub symbols : List Symbol
  pub states : List State
  pub operators : ℕ

abbrev pub asked_of : Condition → (operators : ℕ) → Asked
asked_of condition operators = record {
  symbols = symbols_left condition.cursor;
  states = map state_of condition.processes.items;
  operators = operators;
}

-- with these symbols left
abbrev pub asked_behind : Asked → List Symbol → Asked
asked_behind a symbols = record a { symbols = symbols }

-- the symbol that is next is taken
abbrev pub asked_past : Asked → Asked
asked_past a = asked_behind a (others a.symbols)

abbrev pub is_true_word : Option Word → Bool
is_true_word (Some words.True) = true
is_true_word _ = false

abbrev pub is_true : Symbol → Bool
is_true symbol = is_true_word (word_at symbol)

abbrev pub is_false_word : Option Word → Bool
is_false_word (Some words.False) = true
is_false_word _ = false

abbrev pub is_false : Symbol → Bool
is_false symbol = is_false_word (word_at symbol)

-- REG of the process of a number, which may appear here first
abbrev pub register_with : (task : ℕ) → Asked → State → Option (ℕ × Asked)
register_with task a s =
    take_register (with_left s a.symbols) >>= λ r.
    Some (r.0, record a { symbols = r.1.symbols; states = set a.states task r.1 })

unfoldable pub register_in : (task : ℕ) → Asked → Option (ℕ × Asked)
register_in task a = slice_get a.states task >>= λ s. register_with task a s

-- `: REG = num` behind the number of a process
unfoldable pub register_atom : (task : ℕ) → Asked → Option (tree.Proposition × Asked)
register_atom task a =
    take_sign Colon a.symbols >>= λ l. register_in task (asked_behind a l) >>= λ r. given_value r.1.symbols >>= λ v.
    Some (tree.register_is task r.0 v.0, asked_behind r.1 v.1)

-- the `]` behind a variable in brackets
abbrev pub behind_bracket : Bool → List Symbol → Option (List Symbol)
behind_bracket bracketed symbols = if bracketed then take_sign CloseBracket symbols else Some symbols

-- the operator that is next is taken, and counted
unfoldable pub take_connective : Asked → Option Asked
take_connective a =
    if a.operators == 0
    then None
    else Some (record { symbols = others a.symbols; states = a.states; operators = a.operators - 1 })

-- the parts, inside so many parentheses
pub record Readers : Type 0 where
  pub disjunction : (depth : ℕ) → Asked → Option (tree.Proposition × Asked)
  pub or_more : (depth : ℕ) → tree.Proposition → Asked → Option (tree.Proposition × Asked)
  pub conjunction : (depth : ℕ) → Asked → Option (tree.Proposition × Asked)
  pub and_more : (depth : ℕ) → tree.Proposition → Asked → Option (tree.Proposition × Asked)
  pub negation : (depth : ℕ) → Asked → Option (tree.Proposition × Asked)

abbrev pub disjunction_by : Readers → (depth : ℕ) → Asked → Option (tree.Proposition × Asked)
disjunction_by R depth a = R.conjunction depth a >>= λ x. R.or_more depth x.0 x.1

abbrev pub or_more_by : Readers → (depth : ℕ) → tree.Proposition → Asked → Option (tree.Proposition × Asked)
or_more_by R depth left a =
    if is_sign Disjunction (first a.symbols)
    then (take_connective a >>= λ u. R.conjunction depth u >>= λ x. R.or_more depth (tree.either left x.0) x.1)
    else Some (left, a)

abbrev pub conjunction_by : Readers → (depth : ℕ) → Asked → Option (tree.Proposition × Asked)
conjunction_by R depth a = R.negation depth a >>= λ x. R.and_more depth x.0 x.1

abbrev pub and_more_by : Readers → (depth : ℕ) → tree.Proposition → Asked → Option (tree.Proposition × Asked)
and_more_by R depth left a =
    if is_sign Conjunction (first a.symbols)
    then (take_connective a >>= λ u. R.negation depth u >>= λ x. R.and_more depth (tree.both left x.0) x.1)
    else Some (left, a)

-- `( prop )` behind the `(`
abbrev pub inside_by : Readers → (depth : ℕ) → Asked → Option (tree.Proposition × Asked)
inside_by R depth a =
    R.disjunction (depth + 1) a >>= λ x. take_sign CloseParen x.1.symbols >>= λ l. Some (x.0, asked_behind x.1 l)

-- the readers that read nothing
abbrev pub idle : Readers
idle = record {
  disjunction = λ depth a. None;
  or_more = λ depth left a. None;
  conjunction = λ depth a. None;
  and_more = λ depth left a. None;
  negation = λ depth a. None;
}

-- a proposition behind which nothing stands
abbrev pub at_the_end : tree.Proposition × Asked → Option (tree.Proposition × List State)
at_the_end x = if length x.1.symbols == 0 then Some (x.0, x.1.states) else None

-- the names that variables have, and whether each is a lock
module _ (names : Names) (locks : List Bool) where
  -- `VAR = num`, or `[ VAR ] = num` behind the `[`
  unfoldable pub variable_atom : (bracketed : Bool) → Asked → Option (tree.Proposition × Asked)
  variable_atom bracketed a =
      known_variable names locks a.symbols >>= λ v. behind_bracket bracketed v.1 >>= λ l. given_value l >>= λ w.
      Some (tree.variable_is v.0 w.0, asked_behind a w.1)

  abbrev pub variable_or_bracket : Asked → Option (tree.Proposition × Asked)
  variable_or_bracket a = if is_sign OpenBracket (first a.symbols) then variable_atom true (asked_past a) else variable_atom false a

  abbrev pub numbered_or_not : Asked → Option (ℕ × List Symbol) → Option (tree.Proposition × Asked)
  numbered_or_not a None = variable_or_bracket a
  numbered_or_not a (Some n) = register_atom n.0 (asked_behind a n.1)

  -- `true`, `false`, `NUMBER : REG = num`, `VAR = num` or `[ VAR ] = num`
  unfoldable pub atom_at : Asked → Option (tree.Proposition × Asked)
  atom_at a =
      if is_true (first a.symbols)
      then Some (tree.always, asked_past a)
      else (if is_false (first a.symbols)
      then Some (tree.never, asked_past a)
      else numbered_or_not a (number_of (first a.symbols) (others a.symbols)))

  abbrev pub negation_by : Readers → (depth : ℕ) → Asked → Option (tree.Proposition × Asked)
  negation_by R depth a =
      if is_sign Tilde (first a.symbols)
      then (take_connective a >>= λ u. R.negation depth u >>= λ x. Some (tree.negation x.0, x.1))
      else (if is_sign OpenParen (first a.symbols)
      then (if nat_lt depth nesting_limit then inside_by R depth (asked_past a) else None)
      else atom_at a)

  -- the readers that call these
  abbrev pub by : Readers → Readers
  by R = record {
    disjunction = disjunction_by R;
    or_more = or_more_by R;
    conjunction = conjunction_by R;
    and_more = and_more_by R;
    negation = negation_by R;
  }

  -- the readers whose calls go so deep
  unfoldable pub deep : ℕ → Readers
  deep zero = idle
  deep (suc fuel) = by (deep fuel)

  unfoldable pub disjunction_at : (depth : ℕ) → Asked → Option (tree.Proposition × Asked)
  disjunction_at depth a = (deep (10 * length a.symbols + 10)).disjunction depth a

  unfoldable pub or_more_at : (depth : ℕ) → tree.Proposition → Asked → Option (tree.Proposition × Asked)
  or_more_at depth left a = (deep (10 * length a.symbols + 10)).or_more depth left a

  unfoldable pub conjunction_at : (depth : ℕ) → Asked → Option (tree.Proposition × Asked)
  conjunction_at depth a = (deep (10 * length a.symbols + 10)).conjunction depth a

  unfoldable pub and_more_at : (depth : ℕ) → tree.Proposition → Asked → Option (tree.Proposition × Asked)
  and_more_at depth left a = (deep (10 * length a.symbols + 10)).and_more depth left a

  unfoldable pub negation_at : (depth : ℕ) → Asked → Option (tree.Proposition × Asked)
  negation_at depth a = (deep (10 * length a.symbols + 10)).negation depth a

  -- the readers, each as deep as it has to be
  abbrev pub readers : Readers
  readers = record {
    disjunction = disjunction_at;
    or_more = or_more_at;
    conjunction = conjunction_at;
    and_more = and_more_at;
    negation = negation_at;
  }

  -- the proposition, behind which the text ends
  unfoldable pub whole_at : List Symbol → List State → Option (tree.Proposition × List State)
  whole_at symbols states =
      disjunction_at 0 (record { symbols = symbols; states = states; operators = operators_limit }) >>= λ x. at_the_end x
