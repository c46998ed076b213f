-- What is read as a call is spelled so, and what is spelled so is read.
use Rattle.std.proofs.Common.{◌≡◌, ◌∙◌, ℕ, zero, suc, ◌+◌, ◌<◌, ◌≤◌, ◌==◌, nat_lt, List, [], ◌∷◌, Bool, true, false, cond, not, Option, Some, None, map, refl, sym, ap, subst, arith, if◌then◌else◌}
use Rattle.std.proofs.lemmas.Bool.{eq-eqb, eqb-true, le-ltb, lt-ltb, ltb-false}
use Rattle.access_types.specs.declared.history.Mark.{Mark}
use Rattle.access_types.specs.declared.history.Mark.TheVariants as marks
use Rattle.litmus_lex.specs.declared.sign.Sign.TheVariants.{OpenParen, CloseParen, Comma, Star}
use Rattle.litmus_syntax.specs.Limits.{call_scopes}
use Rattle.litmus_syntax.specs.declared.statement.Call.{Call}
use Rattle.litmus_syntax.specs.declared.statement.Call.TheVariants as calls
use Rattle.litmus_lex.specs.declared.words.CallWord.{CallWord}
use Rattle.litmus_lex.specs.declared.words.CallWord.TheVariants as asks
use Rattle.litmus_lex.specs.declared.words.VariableType.{VariableType}
use Rattle.litmus_lex.specs.declared.words.VariableType.TheVariants as types
use Rattle.litmus_lex.specs.declared.words.Word.TheVariants as words
use Rattle.litmus_lex.specs.Front.{◌>>=◌, first, number_of, others, take_number, take_sign}
use Rattle.litmus_lex.specs.Words.{Symbol, word, identifier, number, sign, fault}
use Rattle.litmus_expression.specs.declared.process.Takes.{Takes}
use Rattle.litmus_expression.specs.declared.process.Takes.TheVariants.{Locks, Memory}
use Rattle.litmus_body.specs.CallReader.{ReadsCall, arguments, call_accesses, call_at, check, count_assertion, count_call, count_check, marked, sized, target}
use Rattle.litmus_expression.specs.ExpressionReader.{take_star}
use Rattle.litmus_expression.specs.Followed.{Differ, name_of}
use Rattle.litmus_expression.specs.Names.{HasBytes, IsLock, IsVariable, Names, Parameter}
use Rattle.litmus_expression.specs.NameReader.{count_access, take_variable, takes_type, variable_of}
use Rattle.litmus_body.specs.Statements as grammar
use Rattle.litmus_body.specs.Statements.{Calls}
use Rattle.litmus_expression.specs.States.{State, with_left}
use Rattle.litmus_expression.proofs.Complete.{placed}
use Rattle.litmus_expression.proofs.Named.{named_there}
use Rattle.litmus_expression.proofs.Sound.{Moved, ReadsVariable, variable_reads}
use Rattle.litmus_expression.proofs.Taken.{bind_some, front, guarded, same_given, sign_taken}

-- ---- variables and numbers

memory_type : (type : VariableType) → takes_type Memory type ≡ true → HasBytes type
memory_type types.Char e = λ is. cc
memory_type types.Short e = λ is. cc
memory_type types.Int e = λ is. cc
memory_type types.Long e = λ is. cc
memory_type types.Atomic e = λ is. cc
memory_type types.Lock e = absurd cc

lock_type : (type : VariableType) → takes_type Locks type ≡ true → IsLock type
lock_type types.Char e = absurd cc
lock_type types.Short e = absurd cc
lock_type types.Int e = absurd cc
lock_type types.Long e = absurd cc
lock_type types.Atomic e = absurd cc
lock_type types.Lock e = refl

memory_variable : (s : State) (x : ℕ × State) (v : ReadsVariable Memory s x) → IsVariable s.parameters HasBytes v.name x.0
memory_variable s x v =
    let at_name = subst (λ (n : List ℕ). IsVariable s.parameters HasBytes n v.p.variable) v.name_is (record { type = v.p.type; parameter = v.there; of_form = memory_type v.p.type v.takes_it }) in
    subst (λ (n : ℕ). IsVariable s.parameters HasBytes v.name n) v.variable_is at_name

lock_variable : (s : State) (x : ℕ × State) (v : ReadsVariable Locks s x) → IsVariable s.parameters IsLock v.name x.0
lock_variable s x v =
    let at_name = subst (λ (n : List ℕ). IsVariable s.parameters IsLock n v.p.variable) v.name_is (record { type = v.p.type; parameter = v.there; of_form = lock_type v.p.type v.takes_it }) in
    subst (λ (n : ℕ). IsVariable s.parameters IsLock v.name n) v.variable_is at_name

number_is : (y : Symbol) (rest : List Symbol) (x : ℕ × List Symbol) → number_of y rest ≡ Some x → (y ≡ number x.0) × (rest ≡ x.1)
number_is (word w) rest x e = absurd cc
number_is (identifier name) rest x e = absurd cc
number_is (number n) rest x e =
    let same = same_given (n, rest) x e in
    (ap (λ (z : ℕ × List Symbol). number z.0) same, ap (λ (z : ℕ × List Symbol). z.1) same)
number_is (sign t) rest x e = absurd cc
number_is fault rest x e = absurd cc

number_taken : (symbols : List Symbol) (x : ℕ × List Symbol) → take_number symbols ≡ Some x → symbols ≡ number x.0 ∷ x.1
unfolding take_number
number_taken symbols x e =
    let is = number_is (first symbols) (others symbols) x e in
    front symbols (number x.0) is.0 (λ never. cc) ∙ ap (λ (l : List Symbol). number x.0 ∷ l) is.1

-- `* VAR`
record ReadsTarget (s : State) (x : ℕ × State) : Type 0 where
  name : List ℕ
  next : s.symbols ≡ sign Star ∷ identifier name ∷ x.1.symbols
  is : IsVariable s.parameters HasBytes name x.0
  moved : Moved s x.1

target_reads : (s : State) (x : ℕ × State) → target s ≡ Some x → ReadsTarget s x
unfolding target take_star
target_reads s x e =
    let one = bind_some (take_star s) (λ starred. take_variable Memory starred) x e in
    let two = bind_some (take_sign Star s.symbols) (λ l. Some (with_left s l)) one.0 one.1 in
    let same : with_left s two.0 ≡ one.0 = same_given (with_left s two.0) one.0 two.2 in
    let rest : take_variable Memory (with_left s two.0) ≡ Some x = subst (λ (u : State). take_variable Memory u ≡ Some x) (sym same) one.2 in
    let v = variable_reads Memory (with_left s two.0) x rest in
    record {
      name = v.name;
      next = sign_taken Star s.symbols two.0 two.1 ∙ ap (λ (l : List Symbol). sign Star ∷ l) v.next;
      is = memory_variable (with_left s two.0) x v;
      moved = record { parameters = v.moved.parameters; names = v.moved.names; statements = v.moved.statements; repeats = v.moved.repeats };
    }

-- ---- what stands between the parentheses

-- what was counted of a word before its `(`
abbrev asserted : ℕ → CallWord → ℕ
asserted t (asks.AssertWriter scoped) = t
asserted t (asks.AssertAccess scoped) = t
asserted t asks.AssertBits = t
asserted t _ = 0

abbrev one_if : Bool → ℕ
one_if scoped = if scoped then 1 else 0

abbrev asked_scopes : CallWord → ℕ
asked_scopes (asks.AssertWriter scoped) = one_if scoped
asked_scopes (asks.AssertAccess scoped) = one_if scoped
asked_scopes _ = 0

record ReadsArguments (t : ℕ) (w : CallWord) (u : State) (y : Call × State) : Type 0 where
  spelled : (rest : List Symbol) → y.1.symbols ≡ sign CloseParen ∷ rest
      → Calls u.parameters (word (words.Call w) ∷ sign OpenParen ∷ u.symbols) y.0 rest
  scopes_are : call_scopes y.0 ≡ asked_scopes w
  repeats : y.1.repeats + asserted t w ≡ u.repeats + call_accesses t y.0
  parameters : y.1.parameters ≡ u.parameters
  names : y.1.names ≡ u.names
  statements : y.1.statements ≡ u.statements

abbrev begun : CallWord → List Symbol → List Symbol
begun w args = word (words.Call w) ∷ sign OpenParen ∷ args

mark_reads : (t : ℕ) (m : Mark) (u : State) (y : Call × State) → grammar.IsPlainMark m → (calls.Mark m, u) ≡ y → ReadsArguments t (asks.Mark m) u y
mark_reads t m u y plain same = subst (ReadsArguments t (asks.Mark m) u) same (record {
  spelled = λ rest closes. subst (λ (l : List Symbol). Calls u.parameters (begun (asks.Mark m) l) (calls.Mark m) rest) (sym closes) (grammar.mark m plain);
  scopes_are = refl;
  repeats = omega arith;
  parameters = refl;
  names = refl;
  statements = refl;
})

marked_reads : (t : ℕ) (m : Mark) (u : State) (y : Call × State) → marked m u ≡ Some y → ReadsArguments t (asks.Mark m) u y
marked_reads t marks.Disable u y e = mark_reads t marks.Disable u y (λ count is. cc) (same_given (calls.Mark marks.Disable, u) y e)
marked_reads t marks.Enable u y e = mark_reads t marks.Enable u y (λ count is. cc) (same_given (calls.Mark marks.Enable, u) y e)
marked_reads t marks.NestOpen u y e = mark_reads t marks.NestOpen u y (λ count is. cc) (same_given (calls.Mark marks.NestOpen, u) y e)
marked_reads t marks.NestClose u y e = mark_reads t marks.NestClose u y (λ count is. cc) (same_given (calls.Mark marks.NestClose, u) y e)
marked_reads t marks.FlatBegin u y e = mark_reads t marks.FlatBegin u y (λ count is. cc) (same_given (calls.Mark marks.FlatBegin, u) y e)
marked_reads t marks.FlatEnd u y e = mark_reads t marks.FlatEnd u y (λ count is. cc) (same_given (calls.Mark marks.FlatEnd, u) y e)
marked_reads t (marks.Next n) u y e = absurd cc

-- a lock between the parentheses, of one word or the other
lock_reads : (t : ℕ) (w : CallWord) (made : ℕ → Call) (u : State) (y : Call × State)
    → ((name : List ℕ) (x : ℕ) (rest : List Symbol) → IsVariable u.parameters IsLock name x
    → Calls u.parameters (begun w (identifier name ∷ sign CloseParen ∷ rest)) (made x) rest)
    → ((x : ℕ) → call_scopes (made x) ≡ asked_scopes w) → ((x : ℕ) → call_accesses t (made x) ≡ asserted t w)
    → (take_variable Locks u >>= λ v. Some (made v.0, v.1)) ≡ Some y → ReadsArguments t w u y
lock_reads t w made u y spells scopes accesses e =
    let one = bind_some (take_variable Locks u) (λ v. Some (made v.0, v.1)) y e in
    let v = variable_reads Locks u one.0 one.1 in
    subst (ReadsArguments t w u) (same_given (made one.0.0, one.0.1) y one.2) (record {
      spelled = λ rest closes. subst (λ (l : List Symbol). Calls u.parameters (begun w l) (made one.0.0) rest)
          (sym (v.next ∙ ap (λ (l : List Symbol). identifier v.name ∷ l) closes)) (spells v.name one.0.0 rest (lock_variable u one.0 v));
      scopes_are = scopes one.0.0;
      repeats = omega (arith, v.moved.repeats, accesses one.0.0);
      parameters = v.moved.parameters;
      names = v.moved.names;
      statements = v.moved.statements;
    })

-- the target of an assertion alone
assertion_reads : (t : ℕ) (w : CallWord) (made : ℕ → Call) (u : State) (y : Call × State)
    → ((name : List ℕ) (x : ℕ) (rest : List Symbol) → IsVariable u.parameters HasBytes name x
    → Calls u.parameters (begun w (sign Star ∷ identifier name ∷ sign CloseParen ∷ rest)) (made x) rest)
    → ((x : ℕ) → call_scopes (made x) ≡ asked_scopes w) → ((x : ℕ) → call_accesses t (made x) ≡ asserted t w)
    → (target u >>= λ v. Some (made v.0, v.1)) ≡ Some y → ReadsArguments t w u y
assertion_reads t w made u y spells scopes accesses e =
    let one = bind_some (target u) (λ v. Some (made v.0, v.1)) y e in
    let v = target_reads u one.0 one.1 in
    subst (ReadsArguments t w u) (same_given (made one.0.0, one.0.1) y one.2) (record {
      spelled = λ rest closes. subst (λ (l : List Symbol). Calls u.parameters (begun w l) (made one.0.0) rest)
          (sym (v.next ∙ ap (λ (l : List Symbol). sign Star ∷ identifier v.name ∷ l) closes)) (spells v.name one.0.0 rest v.is);
      scopes_are = scopes one.0.0;
      repeats = omega (arith, v.moved.repeats, accesses one.0.0);
      parameters = v.moved.parameters;
      names = v.moved.names;
      statements = v.moved.statements;
    })

bits_reads : (t : ℕ) (u : State) (y : Call × State)
    → (target u >>= λ v. take_sign Comma v.1.symbols >>= λ symbols. take_number symbols >>= λ n. Some (calls.AssertBits v.0 n.0, with_left v.1 n.1)) ≡ Some y
    → ReadsArguments t asks.AssertBits u y
bits_reads t u y e =
    let one = bind_some (target u) (λ v. take_sign Comma v.1.symbols >>= λ symbols. take_number symbols >>= λ n. Some (calls.AssertBits v.0 n.0, with_left v.1 n.1)) y e in
    let two = bind_some (take_sign Comma one.0.1.symbols) (λ symbols. take_number symbols >>= λ n. Some (calls.AssertBits one.0.0 n.0, with_left one.0.1 n.1)) y one.2 in
    let three = bind_some (take_number two.0) (λ n. Some (calls.AssertBits one.0.0 n.0, with_left one.0.1 n.1)) y two.2 in
    let v = target_reads u one.0 one.1 in
    let comma = sign_taken Comma one.0.1.symbols two.0 two.1 in
    let value = number_taken two.0 three.0 three.1 in
    subst (ReadsArguments t asks.AssertBits u) (same_given (calls.AssertBits one.0.0 three.0.0, with_left one.0.1 three.0.1) y three.2) (record {
      spelled = λ rest closes. subst (λ (l : List Symbol). Calls u.parameters (begun asks.AssertBits l) (calls.AssertBits one.0.0 three.0.0) rest)
          (sym (v.next ∙ ap (λ (l : List Symbol). sign Star ∷ identifier v.name ∷ l)
          (comma ∙ ap (λ (l : List Symbol). sign Comma ∷ l) (value ∙ ap (λ (l : List Symbol). number three.0.0 ∷ l) closes))))
          (grammar.assert_bits v.is);
      scopes_are = refl;
      repeats = omega (arith, v.moved.repeats);
      parameters = v.moved.parameters;
      names = v.moved.names;
      statements = v.moved.statements;
    })

-- a check, which is counted behind its size
record ReadsSized (t : ℕ) (write : Bool) (variable size : ℕ) (u : State) (y : Call × State) : Type 0 where
  within : size ≤ 1048576
  made : y.0 ≡ calls.Check write variable size
  symbols : y.1.symbols ≡ u.symbols
  repeats : y.1.repeats ≡ u.repeats + call_accesses t (calls.Check write variable size)
  parameters : y.1.parameters ≡ u.parameters
  names : y.1.names ≡ u.names
  statements : y.1.statements ≡ u.statements

counted_access : (t : ℕ) (u v : State) → count_access t u ≡ Some v → record u { repeats = u.repeats + t } ≡ v
counted_access t u v e = same_given (record u { repeats = u.repeats + t }) v (guarded (nat_lt 1024 (u.repeats + t)) (Some (record u { repeats = u.repeats + t })) v e).1

-- a size is above 0 where it isn't 0
some_size : (size : ℕ) → nat_lt 0 size ≡ not (size == 0)
some_size zero = refl
some_size (suc size) = lt-ltb 0 (suc size) (omega arith) ∙ ap not (sym (not_none size))
  where
    not_none : (n : ℕ) → (suc n == 0) ≡ false
    not_none n = grind (arith, eqb-true (suc n) 0)

abbrev times_if : ℕ → Bool → ℕ
times_if t b = if b then t else 0

record Tested (t : ℕ) (b : Bool) (u v : State) : Type 0 where
  repeats : v.repeats ≡ u.repeats + times_if t b
  symbols : v.symbols ≡ u.symbols
  parameters : v.parameters ≡ u.parameters
  names : v.names ≡ u.names
  statements : v.statements ≡ u.statements

tested : (t : ℕ) (b : Bool) (u v : State) → (if b then count_access t u else Some u) ≡ Some v → Tested t b u v
tested t true u v e = subst (Tested t true u) (counted_access t u v e)
    (record { repeats = refl; symbols = refl; parameters = refl; names = refl; statements = refl })
tested t false u v e = subst (Tested t false u) (same_given u v e)
    (record { repeats = omega arith; symbols = refl; parameters = refl; names = refl; statements = refl })

sized_as : (t : ℕ) (write : Bool) (variable size : ℕ) (u v : State) → size ≤ 1048576 → count_check t size u ≡ Some v
    → ReadsSized t write variable size u (calls.Check write variable size, v)
sized_as t write variable size u v within e =
    let is : Tested t (not (size == 0)) u v = subst (λ (b : Bool). Tested t b u v) (some_size size) (tested t (nat_lt 0 size) u v e) in
    record { within = within; made = refl; symbols = is.symbols; repeats = is.repeats; parameters = is.parameters; names = is.names; statements = is.statements }

sized_reads : (t : ℕ) (write : Bool) (variable size : ℕ) (u : State) (y : Call × State) → sized t write variable size u ≡ Some y → ReadsSized t write variable size u y
sized_reads t write variable size u y e =
    let g = guarded (nat_lt 1048576 size) (count_check t size u >>= λ counted. Some (calls.Check write variable size, counted)) y e in
    let within = ltb-false 1048576 size g.0 in
    let one = bind_some (count_check t size u) (λ counted. Some (calls.Check write variable size, counted)) y g.1 in
    subst (ReadsSized t write variable size u) (same_given (calls.Check write variable size, one.0) y one.2) (sized_as t write variable size u one.0 within one.1)

check_reads : (t : ℕ) (write : Bool) (u : State) (y : Call × State) → check t write u ≡ Some y → ReadsArguments t (asks.Check write) u y
unfolding check
check_reads t write u y e =
    let one = bind_some (take_variable Memory u) (λ v. take_sign Comma v.1.symbols >>= λ symbols. take_number symbols >>= λ n. sized t write v.0 n.0 (with_left v.1 n.1)) y e in
    let two = bind_some (take_sign Comma one.0.1.symbols) (λ symbols. take_number symbols >>= λ n. sized t write one.0.0 n.0 (with_left one.0.1 n.1)) y one.2 in
    let three = bind_some (take_number two.0) (λ n. sized t write one.0.0 n.0 (with_left one.0.1 n.1)) y two.2 in
    let v = variable_reads Memory u one.0 one.1 in
    let comma = sign_taken Comma one.0.1.symbols two.0 two.1 in
    let value = number_taken two.0 three.0 three.1 in
    let s = sized_reads t write one.0.0 three.0.0 (with_left one.0.1 three.0.1) y three.2 in
    record {
      spelled = λ rest closes. subst (λ (c : Call). Calls u.parameters (begun (asks.Check write) u.symbols) c rest) (sym s.made)
          (subst (λ (l : List Symbol). Calls u.parameters (begun (asks.Check write) l) (calls.Check write one.0.0 three.0.0) rest)
          (sym (v.next ∙ ap (λ (l : List Symbol). identifier v.name ∷ l)
          (comma ∙ ap (λ (l : List Symbol). sign Comma ∷ l) (value ∙ ap (λ (l : List Symbol). number three.0.0 ∷ l) (sym s.symbols ∙ closes)))))
          (grammar.check write (memory_variable u one.0 v) s.within));
      scopes_are = ap call_scopes s.made;
      repeats =
          let counted : y.1.repeats ≡ one.0.1.repeats + call_accesses t (calls.Check write one.0.0 three.0.0) = s.repeats in
          let same : call_accesses t y.0 ≡ call_accesses t (calls.Check write one.0.0 three.0.0) = ap (call_accesses t) s.made in
          omega (arith, counted, same, v.moved.repeats);
      parameters = s.parameters ∙ v.moved.parameters;
      names = s.names ∙ v.moved.names;
      statements = s.statements ∙ v.moved.statements;
    }

arguments_read : (t : ℕ) (w : CallWord) (u : State) (y : Call × State) → arguments t w u ≡ Some y → ReadsArguments t w u y
unfolding arguments
arguments_read t (asks.Barrier b) u y e = subst (ReadsArguments t (asks.Barrier b) u) (same_given (calls.Barrier b, u) y e) (record {
  spelled = λ rest closes. subst (λ (l : List Symbol). Calls u.parameters (begun (asks.Barrier b) l) (calls.Barrier b) rest) (sym closes) (grammar.barrier b);
  scopes_are = refl;
  repeats = omega arith;
  parameters = refl;
  names = refl;
  statements = refl;
})
arguments_read t asks.Lock u y e = lock_reads t asks.Lock (λ x. calls.Lock x) u y (λ name x rest is. grammar.lock is) (λ x. refl) (λ x. refl) e
arguments_read t asks.Unlock u y e = lock_reads t asks.Unlock (λ x. calls.Unlock x) u y (λ name x rest is. grammar.unlock is) (λ x. refl) (λ x. refl) e
arguments_read t (asks.AssertWriter scoped) u y e =
    assertion_reads t (asks.AssertWriter scoped) (λ x. calls.AssertWriter x scoped) u y (λ name x rest is. grammar.assert_writer scoped is) (λ x. refl) (λ x. refl) e
arguments_read t (asks.AssertAccess scoped) u y e =
    assertion_reads t (asks.AssertAccess scoped) (λ x. calls.AssertAccess x scoped) u y (λ name x rest is. grammar.assert_access scoped is) (λ x. refl) (λ x. refl) e
arguments_read t asks.AssertBits u y e = bits_reads t u y e
arguments_read t (asks.Mark m) u y e = marked_reads t m u y e
arguments_read t asks.AtomicNext u y e =
    let one = bind_some (take_number u.symbols) (λ n. Some (calls.Mark (marks.Next n.0), with_left u n.1)) y e in
    let value = number_taken u.symbols one.0 one.1 in
    subst (ReadsArguments t asks.AtomicNext u) (same_given (calls.Mark (marks.Next one.0.0), with_left u one.0.1) y one.2) (record {
      spelled = λ rest closes. subst (λ (l : List Symbol). Calls u.parameters (begun asks.AtomicNext l) (calls.Mark (marks.Next one.0.0)) rest)
          (sym (value ∙ ap (λ (l : List Symbol). number one.0.0 ∷ l) closes)) grammar.atomic_next;
      scopes_are = refl;
      repeats = omega arith;
      parameters = refl;
      names = refl;
      statements = refl;
    })
arguments_read t (asks.Check write) u y e = check_reads t write u y e

-- ---- what is counted before

record CountsCall (t k : ℕ) (w : CallWord) (s u : State) : Type 0 where
  scopes : k + asked_scopes w ≤ 8
  repeats : u.repeats ≡ s.repeats + asserted t w
  symbols : u.symbols ≡ s.symbols
  parameters : u.parameters ≡ s.parameters
  names : u.names ≡ s.names
  statements : u.statements ≡ s.statements

uncounted : (t k : ℕ) (w : CallWord) (s u : State) → k ≤ 8 → asked_scopes w ≡ 0 → asserted t w ≡ 0 → Some s ≡ Some u → CountsCall t k w s u
uncounted t k w s u few scopes none e = subst (CountsCall t k w s) (same_given s u e)
    (record { scopes = omega (arith, few, scopes); repeats = omega (arith, none); symbols = refl; parameters = refl; names = refl; statements = refl })

accessed : (t k : ℕ) (w : CallWord) (s u : State) → k + asked_scopes w ≤ 8 → asserted t w ≡ t → count_access t s ≡ Some u → CountsCall t k w s u
accessed t k w s u few one e = subst (CountsCall t k w s) (counted_access t s u e)
    (record { scopes = few; repeats = omega (arith, one); symbols = refl; parameters = refl; names = refl; statements = refl })

not_eight : (k : ℕ) → (k == 8) ≡ false → k ≤ 8 → k + 1 ≤ 8
not_eight k e few = grind (arith, eq-eqb k 8)

assertion_counted : (t k : ℕ) (w : CallWord) (scoped : Bool) (s u : State) → k ≤ 8 → asked_scopes w ≡ one_if scoped → asserted t w ≡ t
    → count_assertion t k scoped s ≡ Some u → CountsCall t k w s u
assertion_counted t k w true s u few scopes one e =
    let g = guarded (k == 8) (count_access t s) u e in
    accessed t k w s u (omega (arith, scopes, not_eight k g.0 few)) one g.1
assertion_counted t k w false s u few scopes one e = accessed t k w s u (omega (arith, few, scopes)) one e

call_counted : (t k : ℕ) (w : CallWord) (s u : State) → k ≤ 8 → count_call t k w s ≡ Some u → CountsCall t k w s u
call_counted t k (asks.Barrier b) s u few e = uncounted t k (asks.Barrier b) s u few refl refl e
call_counted t k asks.Lock s u few e = uncounted t k asks.Lock s u few refl refl e
call_counted t k asks.Unlock s u few e = uncounted t k asks.Unlock s u few refl refl e
call_counted t k (asks.AssertWriter scoped) s u few e = assertion_counted t k (asks.AssertWriter scoped) scoped s u few refl refl e
call_counted t k (asks.AssertAccess scoped) s u few e = assertion_counted t k (asks.AssertAccess scoped) scoped s u few refl refl e
call_counted t k asks.AssertBits s u few e = accessed t k asks.AssertBits s u (omega (arith, few)) refl e
call_counted t k (asks.Mark m) s u few e = uncounted t k (asks.Mark m) s u few refl refl e
call_counted t k asks.AtomicNext s u few e = uncounted t k asks.AtomicNext s u few refl refl e
call_counted t k (asks.Check write) s u few e = uncounted t k (asks.Check write) s u few refl refl e

-- ---- a call

-- what is read as a call is spelled so
pub call_reads : (t k : ℕ) (w : CallWord) (s : State) (x : Call × State) → k ≤ 8 → first s.symbols ≡ word (words.Call w) → call_at t k w s ≡ Some x → ReadsCall t k s x
unfolding call_at
call_reads t k w s x few next e =
    let one = bind_some (count_call t k w s)
    (λ counted. take_sign OpenParen (others counted.symbols) >>= λ l. arguments t w (with_left counted l) >>= λ y. take_sign CloseParen y.1.symbols >>= λ m. Some (y.0, with_left y.1 m)) x e in
    let u = one.0 in
    let two = bind_some (take_sign OpenParen (others u.symbols))
    (λ l. arguments t w (with_left u l) >>= λ y. take_sign CloseParen y.1.symbols >>= λ m. Some (y.0, with_left y.1 m)) x one.2 in
    let three = bind_some (arguments t w (with_left u two.0)) (λ y. take_sign CloseParen y.1.symbols >>= λ m. Some (y.0, with_left y.1 m)) x two.2 in
    let y = three.0 in
    let four = bind_some (take_sign CloseParen y.1.symbols) (λ m. Some (y.0, with_left y.1 m)) x three.2 in
    let c = call_counted t k w s u few one.1 in
    let a = arguments_read t w (with_left u two.0) y three.1 in
    let opens : others s.symbols ≡ sign OpenParen ∷ two.0 = ap others (sym c.symbols) ∙ sign_taken OpenParen (others u.symbols) two.0 two.1 in
    let whole : s.symbols ≡ begun w two.0 = front s.symbols (word (words.Call w)) next (λ never. cc) ∙ ap (λ (l : List Symbol). word (words.Call w) ∷ l) opens in
    let inside : Calls u.parameters (begun w two.0) y.0 four.0 = a.spelled four.0 (sign_taken CloseParen y.1.symbols four.0 four.1) in
    let spelled : Calls s.parameters (begun w two.0) y.0 four.0 = subst (λ (P : List Parameter). Calls P (begun w two.0) y.0 four.0) c.parameters inside in
    let scopes : call_scopes y.0 ≡ asked_scopes w = a.scopes_are in
    let counts : y.1.repeats + asserted t w ≡ u.repeats + call_accesses t y.0 = a.repeats in
    subst (ReadsCall t k s) (same_given (y.0, with_left y.1 four.0) x four.2) (record {
      spelled = subst (λ (l : List Symbol). Calls s.parameters l y.0 four.0) (sym whole) spelled;
      scopes_left = omega (arith, c.scopes, scopes);
      repeats = omega (arith, counts, c.repeats);
      parameters = a.parameters ∙ c.parameters;
      names = a.names ∙ c.names;
      statements = a.statements ∙ c.statements;
    })

-- ---- what is spelled is read

memory_taken : (type : VariableType) → HasBytes type → takes_type Memory type ≡ true
memory_taken types.Char is = refl
memory_taken types.Short is = refl
memory_taken types.Int is = refl
memory_taken types.Long is = refl
memory_taken types.Atomic is = refl
memory_taken types.Lock is = absurd (is refl)

fewer_than_eight : (k : ℕ) → k + 1 ≤ 8 → (k == 8) ≡ false
fewer_than_eight k le = grind (arith, eqb-true k 8)

module _ (P : List Parameter) (st t k : ℕ) (apart : Differ (map name_of P)) where
  variable_there : (takes : Takes) (Form : VariableType → Type 0) → ((type : VariableType) → Form type → takes_type takes type ≡ true) → (name : List ℕ) (variable : ℕ) → IsVariable P Form name variable
      → (rest : List Symbol) (names : Names) (n : ℕ) → take_variable takes (placed P st (identifier name ∷ rest) names n) ≡ Some (variable, placed P st rest names n)
  unfolding take_variable
  variable_there takes Form form name variable is rest names n =
      ap (variable_of takes (placed P st (identifier name ∷ rest) names n)) (named_there P (record { name = name; variable = variable; type = is.type }) apart is.parameter)
      ∙ ap (λ (b : Bool). cond b (Some (variable, placed P st rest names n)) None) (form is.type is.of_form)

  target_there : (name : List ℕ) (variable : ℕ) → IsVariable P HasBytes name variable → (rest : List Symbol) (names : Names) (n : ℕ)
      → target (placed P st (sign Star ∷ identifier name ∷ rest) names n) ≡ Some (variable, placed P st rest names n)
  unfolding target take_star take_sign
  target_there name variable is rest names n = variable_there Memory HasBytes memory_taken name variable is rest names n

  access_there : (symbols : List Symbol) (names : Names) (n : ℕ) → n + t ≤ 1024 → count_access t (placed P st symbols names n) ≡ Some (placed P st symbols names (n + t))
  access_there symbols names n le = ap (λ (b : Bool). cond b None (Some (placed P st symbols names (n + t)))) (le-ltb 1024 (n + t) le)

  assertion_there : (scoped : Bool) (symbols : List Symbol) (names : Names) (n : ℕ) → k + one_if scoped ≤ 8 → n + t ≤ 1024
      → count_assertion t k scoped (placed P st symbols names n) ≡ Some (placed P st symbols names (n + t))
  assertion_there true symbols names n few le =
      ap (λ (b : Bool). cond b None (count_access t (placed P st symbols names n))) (fewer_than_eight k few) ∙ access_there symbols names n le
  assertion_there false symbols names n few le = access_there symbols names n le

  -- a call from what is counted and what stands between the parentheses
  enclosed : (w : CallWord) (args rest : List Symbol) (names : Names) (n m l : ℕ) (c : Call)
      → count_call t k w (placed P st (begun w args) names n) ≡ Some (placed P st (begun w args) names m)
      → arguments t w (placed P st args names m) ≡ Some (c, placed P st (sign CloseParen ∷ rest) names l)
      → call_at t k w (placed P st (begun w args) names n) ≡ Some (c, placed P st rest names l)
  unfolding call_at take_sign
  enclosed w args rest names n m l c counted inside =
      ap (λ (o : Option State). o >>= λ u. take_sign OpenParen (others u.symbols) >>= λ symbols. arguments t w (with_left u symbols) >>= λ x. take_sign CloseParen x.1.symbols >>= λ symbols. Some (x.0, with_left x.1 symbols)) counted
      ∙ ap (λ (o : Option (Call × State)). o >>= λ x. take_sign CloseParen x.1.symbols >>= λ symbols. Some (x.0, with_left x.1 symbols)) inside

  abbrev pub IsRead : List Symbol → Names → ℕ → Call → List Symbol → Type 0
  IsRead symbols names n c rest =
      (w : CallWord) × (first symbols ≡ word (words.Call w)) × (call_at t k w (placed P st symbols names n) ≡ Some (c, placed P st rest names (n + call_accesses t c)))

  free_call : (w : CallWord) (args rest : List Symbol) (names : Names) (n : ℕ) (c : Call) → call_accesses t c ≡ 0
      → count_call t k w (placed P st (begun w args) names n) ≡ Some (placed P st (begun w args) names n)
      → arguments t w (placed P st args names n) ≡ Some (c, placed P st (sign CloseParen ∷ rest) names n)
      → IsRead (begun w args) names n c rest
  free_call w args rest names n c none counted inside =
      let same : n ≡ n + call_accesses t c = omega (arith, none) in
      (w, refl, subst (λ (m : ℕ). call_at t k w (placed P st (begun w args) names n) ≡ Some (c, placed P st rest names m)) same (enclosed w args rest names n n n c counted inside))

  marked_there : (m : Mark) (u : State) → grammar.IsPlainMark m → marked m u ≡ Some (calls.Mark m, u)
  marked_there marks.Disable u plain = refl
  marked_there marks.Enable u plain = refl
  marked_there marks.NestOpen u plain = refl
  marked_there marks.NestClose u plain = refl
  marked_there marks.FlatBegin u plain = refl
  marked_there marks.FlatEnd u plain = refl
  marked_there (marks.Next n) u plain = absurd (plain n refl)

  tested_there : (b : Bool) (symbols : List Symbol) (names : Names) (n : ℕ) → n + times_if t b ≤ 1024
      → (if b then count_access t (placed P st symbols names n) else Some (placed P st symbols names n)) ≡ Some (placed P st symbols names (n + times_if t b))
  tested_there true symbols names n le = access_there symbols names n le
  tested_there false symbols names n le =
      let same : n ≡ n + 0 = omega arith in
      ap (λ (m : ℕ). Some (placed P st symbols names m)) same

  counted_there : (size : ℕ) (symbols : List Symbol) (names : Names) (n : ℕ) → n + times_if t (not (size == 0)) ≤ 1024
      → count_check t size (placed P st symbols names n) ≡ Some (placed P st symbols names (n + times_if t (not (size == 0))))
  counted_there size symbols names n le =
      ap (λ (b : Bool). if b then count_access t (placed P st symbols names n) else Some (placed P st symbols names n)) (some_size size)
      ∙ tested_there (not (size == 0)) symbols names n le

  check_there : (write : Bool) (name : List ℕ) (variable size : ℕ) (rest : List Symbol) (names : Names) (n : ℕ) → IsVariable P HasBytes name variable → size ≤ 1048576
      → n + call_accesses t (calls.Check write variable size) ≤ 1024
      → check t write (placed P st (identifier name ∷ sign Comma ∷ number size ∷ rest) names n)
      ≡ Some (calls.Check write variable size, placed P st rest names (n + call_accesses t (calls.Check write variable size)))
  unfolding check take_sign take_number
  check_there write name variable size rest names n is within le =
      ap (λ (o : Option (ℕ × State)). o >>= λ v. take_sign Comma v.1.symbols >>= λ symbols. take_number symbols >>= λ m. sized t write v.0 m.0 (with_left v.1 m.1))
      (variable_there Memory HasBytes memory_taken name variable is (sign Comma ∷ number size ∷ rest) names n)
      ∙ ap (λ (b : Bool). cond b None (count_check t size (placed P st rest names n) >>= λ u. Some (calls.Check write variable size, u))) (le-ltb 1048576 size within)
      ∙ ap (λ (o : Option State). o >>= λ u. Some (calls.Check write variable size, u)) (counted_there size rest names n le)

  pub call_is_read : (names : Names) (n : ℕ) {symbols rest : List Symbol} {c : Call} → Calls P symbols c rest → k + call_scopes c ≤ 8 → n + call_accesses t c ≤ 1024
      → IsRead symbols names n c rest
  unfolding arguments take_sign take_number
  call_is_read names n (grammar.barrier {rest = rest} b) few le = free_call (asks.Barrier b) (sign CloseParen ∷ rest) rest names n (calls.Barrier b) refl refl refl
  call_is_read names n (grammar.lock {variable = x} {rest = rest} {name = name} is) few le =
      free_call asks.Lock (identifier name ∷ sign CloseParen ∷ rest) rest names n (calls.Lock x) refl refl
      (ap (λ (o : Option (ℕ × State)). o >>= λ v. Some (calls.Lock v.0, v.1)) (variable_there Locks IsLock (λ type same. ap (takes_type Locks) same) name x is (sign CloseParen ∷ rest) names n))
  call_is_read names n (grammar.unlock {variable = x} {rest = rest} {name = name} is) few le =
      free_call asks.Unlock (identifier name ∷ sign CloseParen ∷ rest) rest names n (calls.Unlock x) refl refl
      (ap (λ (o : Option (ℕ × State)). o >>= λ v. Some (calls.Unlock v.0, v.1)) (variable_there Locks IsLock (λ type same. ap (takes_type Locks) same) name x is (sign CloseParen ∷ rest) names n))
  call_is_read names n (grammar.assert_writer {variable = x} {rest = rest} {name = name} scoped is) few le =
      let args : List Symbol = sign Star ∷ identifier name ∷ sign CloseParen ∷ rest in (
        asks.AssertWriter scoped,
        refl,
        enclosed (asks.AssertWriter scoped) args rest names n (n + t) (n + t) (calls.AssertWriter x scoped)
            (assertion_there scoped (begun (asks.AssertWriter scoped) args) names n few le)
            (ap (λ (o : Option (ℕ × State)). o >>= λ v. Some (calls.AssertWriter v.0 scoped, v.1)) (target_there name x is (sign CloseParen ∷ rest) names (n + t))),
      )
  call_is_read names n (grammar.assert_access {variable = x} {rest = rest} {name = name} scoped is) few le =
      let args : List Symbol = sign Star ∷ identifier name ∷ sign CloseParen ∷ rest in (
        asks.AssertAccess scoped,
        refl,
        enclosed (asks.AssertAccess scoped) args rest names n (n + t) (n + t) (calls.AssertAccess x scoped)
            (assertion_there scoped (begun (asks.AssertAccess scoped) args) names n few le)
            (ap (λ (o : Option (ℕ × State)). o >>= λ v. Some (calls.AssertAccess v.0 scoped, v.1)) (target_there name x is (sign CloseParen ∷ rest) names (n + t))),
      )
  call_is_read names n (grammar.assert_bits {variable = x} {mask = mask} {rest = rest} {name = name} is) few le =
      let args : List Symbol = sign Star ∷ identifier name ∷ sign Comma ∷ number mask ∷ sign CloseParen ∷ rest in (
        asks.AssertBits,
        refl,
        enclosed asks.AssertBits args rest names n (n + t) (n + t) (calls.AssertBits x mask)
            (access_there (begun asks.AssertBits args) names n le)
            (ap (λ (o : Option (ℕ × State)). o >>= λ v. take_sign Comma v.1.symbols >>= λ l. take_number l >>= λ m. Some (calls.AssertBits v.0 m.0, with_left v.1 m.1))
            (target_there name x is (sign Comma ∷ number mask ∷ sign CloseParen ∷ rest) names (n + t))),
      )
  call_is_read names n (grammar.mark {rest = rest} m plain) few le =
      free_call (asks.Mark m) (sign CloseParen ∷ rest) rest names n (calls.Mark m) refl refl (marked_there m (placed P st (sign CloseParen ∷ rest) names n) plain)
  call_is_read names n (grammar.atomic_next {count = count} {rest = rest}) few le =
      free_call asks.AtomicNext (number count ∷ sign CloseParen ∷ rest) rest names n (calls.Mark (marks.Next count)) refl refl refl
  call_is_read names n (grammar.check {variable = x} {size = size} {rest = rest} {name = name} write is within) few le =
      let args : List Symbol = identifier name ∷ sign Comma ∷ number size ∷ sign CloseParen ∷ rest in (
        asks.Check write,
        refl,
        enclosed (asks.Check write) args rest names n n (n + call_accesses t (calls.Check write x size)) (calls.Check write x size) refl
            (check_there write name x size (sign CloseParen ∷ rest) names n is within le),
      )
