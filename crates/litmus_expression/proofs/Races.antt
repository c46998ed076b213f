-- The `data_race (` before a load, and the `)` behind it, one at a time.
use Rattle.std.proofs.Common.{◌≡◌, ◌∙◌, ℕ, zero, suc, ◌+◌, ◌-◌, ◌<◌, ◌≤◌, List, [], ◌∷◌, Bool, true, false, cond, Option, Some, None, refl, sym, ap, arith}
use Rattle.litmus_lex.specs.declared.sign.Sign.TheVariants.{OpenParen, CloseParen}
use Rattle.litmus_lex.specs.Front.{◌>>=◌, first, others, is_sign, take_sign, word_at}
use Rattle.litmus_lex.specs.Words.{Symbol}
use Rattle.litmus_expression.specs.ExpressionReader.{closed, is_data_race, opened}

opened_step : (b : Bool) (count : ℕ) (rest : List Symbol) → cond b (opened (count + 1) rest) None ≡ (cond b (Some rest) None >>= λ l. opened (count + 1) l)
opened_step true count rest = refl
opened_step false count rest = refl

pub opened_unrolls : (count : ℕ) (symbols : List Symbol)
    → opened count symbols ≡ cond (is_data_race (first symbols)) (take_sign OpenParen (others symbols) >>= λ rest. opened (count + 1) rest) (Some (count, symbols))
unfolding opened take_sign
opened_unrolls count [] = refl
opened_unrolls count (a ∷ []) = refl
opened_unrolls count (a ∷ b ∷ symbols) =
    ap (λ (o : Option (ℕ × List Symbol)). cond (is_data_race a) o (Some (count, a ∷ b ∷ symbols))) (opened_step (is_sign OpenParen b) count symbols)

closed_unrolls : (count : ℕ) (symbols : List Symbol) → closed (suc count) symbols ≡ (take_sign CloseParen symbols >>= λ rest. closed count rest)
unfolding closed
closed_unrolls count symbols = refl

pub closes : (whole : Option (List Symbol)) (count i : ℕ) (symbols rest : List Symbol) → whole ≡ closed (count - i) symbols → i < count → take_sign CloseParen symbols ≡ Some rest
    → whole ≡ closed (count - (i + 1)) rest
closes whole count i symbols rest so_far lt is =
    let n : count - i ≡ suc (count - (i + 1)) = omega arith in
    so_far ∙ ap (λ (m : ℕ). closed m symbols) n ∙ closed_unrolls (count - (i + 1)) symbols ∙ ap (λ (o : Option (List Symbol)). o >>= λ l. closed (count - (i + 1)) l) is

pub closes_not : (whole : Option (List Symbol)) (count i : ℕ) (symbols : List Symbol) → whole ≡ closed (count - i) symbols → i < count → take_sign CloseParen symbols ≡ None
    → whole ≡ None
closes_not whole count i symbols so_far lt is =
    let n : count - i ≡ suc (count - (i + 1)) = omega arith in
    so_far ∙ ap (λ (m : ℕ). closed m symbols) n ∙ closed_unrolls (count - (i + 1)) symbols ∙ ap (λ (o : Option (List Symbol)). o >>= λ l. closed (count - (i + 1)) l) is

pub all_closed : (whole : Option (List Symbol)) (count i : ℕ) (symbols : List Symbol) → whole ≡ closed (count - i) symbols → count ≤ i → whole ≡ Some symbols
unfolding closed
all_closed whole count i symbols so_far le =
    let n : count - i ≡ 0 = omega arith in
    so_far ∙ ap (λ (m : ℕ). closed m symbols) n

pub ruleset closing = (closes, closes_not, all_closed)
