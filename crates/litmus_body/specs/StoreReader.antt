-- Reading calls that change a variable: what the parser's functions answer, apart from which refusal it is.
use Rattle.std.specs.Prelude.{ℕ, Option, Some, None}
use Rattle.litmus_lex.specs.declared.sign.Sign.TheVariants.{OpenParen, CloseParen, Comma}
use Rattle.litmus_syntax.specs.Tree as tree
use Rattle.litmus_syntax.specs.declared.statement.WriteForm.{WriteForm}
use Rattle.litmus_syntax.specs.declared.statement.WriteForm.TheVariants as writes
use Rattle.litmus_lex.specs.declared.words.StoreWord.{StoreWord}
use Rattle.litmus_lex.specs.declared.words.StoreWord.TheVariants as stores
use Rattle.litmus_lex.specs.Front.{◌>>=◌, others, take_sign}
use Rattle.litmus_expression.specs.declared.process.Takes.{Takes}
use Rattle.litmus_expression.specs.declared.process.Takes.TheVariants.{Integers, Atomics}
use Rattle.litmus_expression.specs.ExpressionReader.{pure_at, take_star}
use Rattle.litmus_expression.specs.NameReader.{count_access, take_variable}
use Rattle.litmus_expression.specs.States.{State, with_left}

-- `VAR , pure`
unfoldable pub written : (turns depth : ℕ) → Takes → WriteForm → State → Option (tree.Assignment × State)
written turns depth takes form s =
    take_variable takes s >>= λ v. take_sign Comma v.1.symbols >>= λ symbols. pure_at turns depth (with_left v.1 symbols) >>= λ x.
    Some (tree.write form v.0 x.0, x.1)

-- `* VAR , pure` for `WRITE_ONCE`, `VAR , pure` for the others. No word is a plain write
unfoldable pub write : (turns depth : ℕ) → WriteForm → State → Option (tree.Assignment × State)
write turns depth writes.Plain s = None
write turns depth writes.Once s = take_star s >>= λ starred. written turns depth Integers writes.Once starred
write turns depth writes.Release s = written turns depth Integers writes.Release s
write turns depth writes.Atomic s = written turns depth Atomics writes.Atomic s

-- what stands between the parentheses
unfoldable pub stored : (turns depth : ℕ) → StoreWord → State → Option (tree.Assignment × State)
stored turns depth (stores.Write form) s = write turns depth form s
stored turns depth stores.Add s =
    pure_at turns depth s >>= λ x. take_sign Comma x.1.symbols >>= λ symbols. take_variable Atomics (with_left x.1 symbols) >>= λ v.
    Some (tree.atomic_add x.0 v.0, v.1)
stored turns depth stores.Increment s = take_variable Atomics s >>= λ v. Some (tree.atomic_increment v.0, v.1)
stored turns depth stores.Decrement s = take_variable Atomics s >>= λ v. Some (tree.atomic_decrement v.0, v.1)

-- a call that changes a variable, whose word is next
unfoldable pub store_at : (turns depth : ℕ) → StoreWord → State → Option (tree.Assignment × State)
store_at turns depth w s =
    count_access turns s >>= λ counted. take_sign OpenParen (others counted.symbols) >>= λ symbols.
    stored turns depth w (with_left counted symbols) >>= λ x. take_sign CloseParen x.1.symbols >>= λ symbols.
    Some (x.0, with_left x.1 symbols)
