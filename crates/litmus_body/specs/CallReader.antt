-- Reading calls that give no value: what the parser's functions answer, apart from which refusal it is.
use Rattle.std.specs.Prelude.{ℕ, ◌≡◌, ◌≤◌, ◌+◌, ◌==◌, nat_lt, Option, Some, None, Bool, true, false, if◌then◌else◌}
use Rattle.access_types.specs.declared.history.Mark.{Mark}
use Rattle.access_types.specs.declared.history.Mark.TheVariants as marks
use Rattle.litmus_lex.specs.declared.sign.Sign.TheVariants.{OpenParen, CloseParen, Comma}
use Rattle.litmus_syntax.specs.Limits.{call_scopes, check_limit, scoped_limit}
use Rattle.litmus_syntax.specs.Sites.{call_has_access}
use Rattle.litmus_syntax.specs.declared.statement.Call.{Call}
use Rattle.litmus_syntax.specs.declared.statement.Call.TheVariants as calls
use Rattle.litmus_lex.specs.declared.words.CallWord.{CallWord}
use Rattle.litmus_lex.specs.declared.words.CallWord.TheVariants as asks
use Rattle.litmus_lex.specs.Front.{◌>>=◌, others, take_number, take_sign}
use Rattle.litmus_expression.specs.declared.process.Takes.TheVariants.{Locks, Memory}
use Rattle.litmus_expression.specs.ExpressionReader.{take_star}
use Rattle.litmus_expression.specs.NameReader.{count_access, take_variable}
use Rattle.litmus_body.specs.Statements.{Calls}
use Rattle.litmus_expression.specs.States.{State, with_left}

-- an assertion is counted, of which so many scoped ones are in force
abbrev pub count_assertion : (turns scopes : ℕ) (scoped : Bool) → State → Option State
count_assertion turns scopes true s = if scopes == scoped_limit then None else count_access turns s
count_assertion turns scopes false s = count_access turns s

abbrev pub count_call : (turns scopes : ℕ) → CallWord → State → Option State
count_call turns scopes (asks.Barrier b) s = Some s
count_call turns scopes asks.Lock s = Some s
count_call turns scopes asks.Unlock s = Some s
count_call turns scopes (asks.AssertWriter scoped) s = count_assertion turns scopes scoped s
count_call turns scopes (asks.AssertAccess scoped) s = count_assertion turns scopes scoped s
count_call turns scopes asks.AssertBits s = count_access turns s
count_call turns scopes (asks.Mark m) s = Some s
count_call turns scopes asks.AtomicNext s = Some s
count_call turns scopes (asks.Check write) s = Some s

-- `* VAR` of an assertion
unfoldable pub target : State → Option (ℕ × State)
target s = take_star s >>= λ starred. take_variable Memory starred

-- the access of a check is counted, if it has one
abbrev pub count_check : ℕ → ℕ → State → Option State
count_check turns size s = if nat_lt 0 size then count_access turns s else Some s

abbrev pub sized : (turns : ℕ) (write : Bool) (variable size : ℕ) → State → Option (Call × State)
sized turns write variable size s =
    if nat_lt check_limit size
    then None
    else (count_check turns size s >>= λ counted. Some (calls.Check write variable size, counted))

-- `VAR , NUMBER` of a check
unfoldable pub check : ℕ → Bool → State → Option (Call × State)
check turns write s =
    take_variable Memory s >>= λ v. take_sign Comma v.1.symbols >>= λ symbols. take_number symbols >>= λ n.
    sized turns write v.0 n.0 (with_left v.1 n.1)

-- a mark that a word names
abbrev pub marked : Mark → State → Option (Call × State)
marked marks.Disable s = Some (calls.Mark marks.Disable, s)
marked marks.Enable s = Some (calls.Mark marks.Enable, s)
marked marks.NestOpen s = Some (calls.Mark marks.NestOpen, s)
marked marks.NestClose s = Some (calls.Mark marks.NestClose, s)
marked marks.FlatBegin s = Some (calls.Mark marks.FlatBegin, s)
marked marks.FlatEnd s = Some (calls.Mark marks.FlatEnd, s)
marked (marks.Next n) s = None

-- what stands between the parentheses of a call
unfoldable pub arguments : (turns : ℕ) → CallWord → State → Option (Call × State)
arguments turns (asks.Barrier b) s = Some (calls.Barrier b, s)
arguments turns asks.Lock s = take_variable Locks s >>= λ v. Some (calls.Lock v.0, v.1)
arguments turns asks.Unlock s = take_variable Locks s >>= λ v. Some (calls.Unlock v.0, v.1)
arguments turns (asks.AssertWriter scoped) s = target s >>= λ v. Some (calls.AssertWriter v.0 scoped, v.1)
arguments turns (asks.AssertAccess scoped) s = target s >>= λ v. Some (calls.AssertAccess v.0 scoped, v.1)
arguments turns asks.AssertBits s =
    target s >>= λ v. take_sign Comma v.1.symbols >>= λ symbols. take_number symbols >>= λ n.
    Some (calls.AssertBits v.0 n.0, with_left v.1 n.1)
arguments turns (asks.Mark m) s = marked m s
arguments turns asks.AtomicNext s = take_number s.symbols >>= λ n. Some (calls.Mark (marks.Next n.0), with_left s n.1)
arguments turns (asks.Check write) s = check turns write s

-- a call whose word is next, in loops that repeat so often and with so many scoped assertions in force
unfoldable pub call_at : (turns scopes : ℕ) → CallWord → State → Option (Call × State)
call_at turns scopes w s =
    count_call turns scopes w s >>= λ counted. take_sign OpenParen (others counted.symbols) >>= λ symbols.
    arguments turns w (with_left counted symbols) >>= λ x. take_sign CloseParen x.1.symbols >>= λ symbols.
    Some (x.0, with_left x.1 symbols)

-- how often a call's access is made, in loops that repeat it so often
abbrev pub call_accesses : ℕ → Call → ℕ
call_accesses turns c = if call_has_access c then turns else 0

-- a call that is read is spelled so; its scope and its access are counted, and no more
pub record ReadsCall (turns scopes : ℕ) (s : State) (x : Call × State) : Type 0 where
  pub spelled : Calls s.parameters s.symbols x.0 x.1.symbols
  pub scopes_left : scopes + call_scopes x.0 ≤ scoped_limit
  pub repeats : x.1.repeats ≡ s.repeats + call_accesses turns x.0
  pub parameters : x.1.parameters ≡ s.parameters
  pub names : x.1.names ≡ s.names
  pub statements : x.1.statements ≡ s.statements
