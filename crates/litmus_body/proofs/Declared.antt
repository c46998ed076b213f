-- The registers of a declaration, one at a time.
use Rattle.std.proofs.Common.{◌≡◌, ◌∙◌, List, [], ◌∷◌, Bool, true, false, cond, Option, Some, None, ℕ, refl, sym, ap}
use Rattle.std.specs.Prelude.{IsTrue}
use Rattle.litmus_lex.specs.declared.sign.Sign.TheVariants.{Comma, Star}
use Rattle.litmus_lex.specs.Front.{◌>>=◌, first, identifier_at, is_sign, others}
use Rattle.litmus_lex.specs.Words.{Symbol, word, identifier, number, sign, fault}
use Rattle.litmus_expression.specs.NameReader.{name_among, register_at, register_name, register_named}
use Rattle.litmus_expression.specs.PlaceReader.{take_changed}
use Rattle.litmus_expression.specs.Places.{is_counter}
use Rattle.litmus_expression.specs.States.{State, after, with_left}
use Rattle.litmus_expression.proofs.Fewer.{at_last, behind_it, unless_it}
use Rattle.litmus_expression.proofs.Shorter.{register_fewer_named}
use Rattle.litmus_expression.proofs.Unrolled.{then_same}
use Rattle.litmus_body.specs.StatementReader.{more_declared}

-- one symbol is taken
changed_left : (counters : List Bool) (s : State) (x : ℕ × State) → take_changed counters s ≡ Some x → x.1.symbols ≡ others s.symbols
unfolding take_changed register_at
changed_left counters s x e =
    behind_it (register_at s) (λ r. cond (is_counter counters r.0) None (Some (r.0, after r.1))) (λ (y : ℕ × State). y.1.symbols ≡ others s.symbols) x e
    (λ r found e.
    unless_it (is_counter counters r.0) (Some (r.0, after r.1)) (λ (y : ℕ × State). y.1.symbols ≡ others s.symbols) x e (λ is_not e.
    at_last (r.0, after r.1) (λ (y : ℕ × State). y.1.symbols ≡ others s.symbols) x e
    (ap others (register_fewer_named s (register_name s) r refl found).0)))

nothing_more : (b : Bool) (counters : List Bool) (s : State) (rest : Option State)
    → cond b None rest ≡ cond b (take_changed counters (with_left s []) >>= λ r. more_declared counters r.1 r.1.symbols) rest
unfolding take_changed register_at
nothing_more true counters s rest = refl
nothing_more false counters s rest = refl

pub more_unrolls : (counters : List Bool) (s : State) (symbols : List Symbol)
    → more_declared counters s symbols
    ≡ cond (is_sign Comma (first symbols)) (take_changed counters (with_left s (others symbols)) >>= λ r. more_declared counters r.1 r.1.symbols)
    (Some (with_left s symbols))
unfolding more_declared
more_unrolls counters s [] = refl
more_unrolls counters s (a ∷ []) = nothing_more (is_sign Comma a) counters s (Some (with_left s (a ∷ [])))
more_unrolls counters s (a ∷ b ∷ symbols) =
    ap (λ (o : Option State). cond (is_sign Comma a) o (Some (with_left s (a ∷ b ∷ symbols))))
    (then_same (take_changed counters (with_left s (b ∷ symbols))) (λ r. more_declared counters r.1 symbols) (λ r. more_declared counters r.1 r.1.symbols)
    (λ r changed. ap (more_declared counters r.1) (sym (changed_left counters (with_left s (b ∷ symbols)) r changed))))

-- ---- where no register is changed

pub nameless : (counters : List Bool) (s : State) → register_name s ≡ None → take_changed counters s ≡ None
unfolding take_changed register_at
nameless counters s e =
    ap (λ (o : Option (List ℕ)). register_named s o >>= λ r. cond (is_counter counters r.0) None (Some (r.0, after r.1))) e

no_name : (y : Symbol) → is_sign Star y ≡ true → identifier_at y ≡ None
no_name (word w) e = refl
no_name (identifier name) e = absurd cc
no_name (number n) e = refl
no_name (sign t) e = refl
no_name fault e = refl

pub starred : (counters : List Bool) (s : State) → IsTrue (is_sign Star (first s.symbols)) → take_changed counters s ≡ None
starred counters s e = nameless counters s (ap (name_among s.parameters) (no_name (first s.symbols) e))
