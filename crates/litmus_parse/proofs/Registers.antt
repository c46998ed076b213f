-- A register of a process is read among all processes.
use Rattle.std.proofs.Common.{◌≡◌, ◌∙◌, ℕ, ◌≤◌, Option, Some, None, length, refl, ap}
use Rattle.std.specs.Prelude.{set, slice_get}
use Rattle.std.proofs.lemmas.Option.{slice_get_past}
use Rattle.litmus_lex.specs.declared.sign.Sign.TheVariants.{Colon}
use Rattle.litmus_syntax.specs.Tree as tree
use Rattle.litmus_lex.specs.Front.{◌>>=◌, take_sign}
use Rattle.litmus_expression.specs.NameReader.{take_register}
use Rattle.litmus_expression.specs.States.{State, with_left}
use Rattle.litmus_expression.proofs.Unrolled.{then_same}
use Rattle.litmus_parse.specs.ConditionReader.{given_value}
use Rattle.litmus_parse.specs.PropositionReader.{Asked, asked_behind, register_atom, register_in, register_with}

module _ (task : ℕ) (a : Asked) where
  -- a register of a process that is there
  pub register_there : (s : State) (r : ℕ × State) → slice_get a.states task ≡ Some s → take_register (with_left s a.symbols) ≡ Some r
      → register_in task a ≡ Some (r.0, record { symbols = r.1.symbols; states = set a.states task r.1; operators = a.operators })
  unfolding register_in
  register_there s r is e =
      ap (λ (o : Option State). o >>= λ t. register_with task a t) is
      ∙ ap (λ (o : Option (ℕ × State)). o >>= λ q. Some (q.0, record a { symbols = q.1.symbols; states = set a.states task q.1 })) e

  pub register_refused : (s : State) → slice_get a.states task ≡ Some s → take_register (with_left s a.symbols) ≡ None → register_in task a
      ≡ None
  unfolding register_in
  register_refused s is e =
      ap (λ (o : Option State). o >>= λ t. register_with task a t) is
      ∙ ap (λ (o : Option (ℕ × State)). o >>= λ q. Some (q.0, record a { symbols = q.1.symbols; states = set a.states task q.1 })) e

  pub register_nowhere : length a.states ≤ task → register_in task a ≡ None
  unfolding register_in
  register_nowhere past = ap (λ (o : Option State). o >>= λ t. register_with task a t) (slice_get_past a.states task past)

nothing_follows : {A B : Type 0} (o : Option A) (p : Option B) → p ≡ None → (o >>= λ x. p) ≡ None
nothing_follows None p e = refl
nothing_follows (Some x) p e = e

-- a process that isn't there has no registers
pub no_process : (task : ℕ) (a : Asked) → length a.states ≤ task → register_atom task a ≡ None
unfolding register_atom
no_process task a past =
    then_same (take_sign Colon a.symbols) (λ l. register_in task (asked_behind a l) >>= λ r. given_value r.1.symbols >>= λ v.
    Some (tree.register_is task r.0 v.0, asked_behind r.1 v.1)) (λ l. None)
    (λ l colon. ap (λ (o : Option (ℕ × Asked)). o >>= λ r. given_value r.1.symbols >>= λ v. Some
    (tree.register_is task r.0 v.0, asked_behind r.1 v.1))
    (register_nowhere task (asked_behind a l) past))
    ∙ nothing_follows (take_sign Colon a.symbols) None refl
