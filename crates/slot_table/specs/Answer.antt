-- Which kind of answer each step has.
use Rattle.std.specs.Prelude.{◌⊎◌, ◌≡◌, true}
use Rattle.slot_table.specs.declared.step.Answer.{Answer}
use Rattle.slot_table.specs.declared.step.Answer.TheVariants.{Word, Flag, Halves, Done}
use Rattle.slot_table.specs.declared.step.Step.{Step}
use Rattle.slot_table.specs.declared.step.Step.TheVariants.{Load, Insert, TryConsume, Consume}
use Rattle.slot_table.specs.declared.step.Step.TheVariants.{Remove, PairLoad, Name, Tell, Clear}
use Rattle.slot_table.specs.declared.step.Step.TheVariants.{CellLoad, CellExchange, LockTry}
use Rattle.slot_table.specs.declared.step.Step.TheVariants.{LockStore, Clock}

-- the answer is a word
abbrev pub IsWord : Answer → Type 0
IsWord (Word word) = Unit {0}
IsWord (Flag flag) = ⊥
IsWord (Halves setter finder) = ⊥
IsWord Done = ⊥

-- the answer is whether the step was accepted
abbrev pub IsFlag : Answer → Type 0
IsFlag (Word word) = ⊥
IsFlag (Flag flag) = Unit {0}
IsFlag (Halves setter finder) = ⊥
IsFlag Done = ⊥

-- the answer is both halves of a pair
abbrev pub IsHalves : Answer → Type 0
IsHalves (Word word) = ⊥
IsHalves (Flag flag) = ⊥
IsHalves (Halves setter finder) = Unit {0}
IsHalves Done = ⊥

-- the answer is of the step's kind
abbrev pub Answers : Step → Answer → Type 0
Answers (Load index) answer = IsWord answer
Answers (Insert index word) answer = IsFlag answer
Answers (TryConsume index word) answer = IsFlag answer
Answers (Consume index) answer = IsFlag answer
Answers (Remove index) answer = answer ≡ Done
Answers (PairLoad index) answer = IsHalves answer
Answers (Name index ticket) answer = answer ≡ Done
Answers (Tell index ticket) answer = answer ≡ Done
Answers (Clear index) answer = answer ≡ Done
Answers (CellLoad cell) answer = IsWord answer
-- an accepted exchange answers so, and a refused one what the cell holds
Answers (CellExchange cell expected new) answer = (answer ≡ Flag true) ⊎ IsWord answer
Answers (LockTry lock task) answer = IsFlag answer
Answers (LockStore lock) answer = answer ≡ Done
Answers Clock answer = IsWord answer
