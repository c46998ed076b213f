-- What a reader of a process's body has: what is left, what names mean, and how much of the limits is used.
use Rattle.std.specs.Prelude.{ℕ, List, [], Bool, map}
use Rattle.litmus_lex.specs.Front.{now, others, symbols_left}
use Rattle.litmus_lex.specs.Words.{Symbol}
use Rattle.litmus_expression.specs.declared.process.Parameter as coded
use Rattle.litmus_expression.specs.declared.process.Process.{Process}
use Rattle.litmus_expression.specs.Names.{Names, Parameter}

pub record State : Type 0 where
  pub symbols : List Symbol
  pub parameters : List Parameter
  pub names : Names
  pub statements : ℕ
  pub repeats : ℕ

-- a parameter of the code, without where it lies in memory
abbrev pub parameter_of : coded.Parameter → Parameter
parameter_of p = record { name = p.name.now; variable = p.variable; type = p.variable_type }

-- a process as far as it is read
abbrev pub state_of : Process → State
state_of p = record {
  symbols = symbols_left p.cursor;
  parameters = map parameter_of p.parameters.items;
  names = map now p.registers.items;
  statements = p.statements;
  repeats = p.repeats;
}

-- where the body of a process begins to be read: nothing of it is counted
abbrev pub entering : List Parameter → List Symbol → State
entering parameters symbols = record { symbols = symbols; parameters = parameters; names = []; statements = 0; repeats = 0 }

-- the state with these symbols left
abbrev pub with_left : State → List Symbol → State
with_left s symbols = record s { symbols = symbols }

-- the state behind the symbol that is next
abbrev pub after : State → State
after s = with_left s (others s.symbols)
