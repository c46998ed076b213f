-- Tokens that were read, followed by those that the text still spells, are the tokens from the start on: with
-- each token that is read the first grow by it.
use Rattle.std.proofs.Common.{◌≡◌, ℕ, List, [], ◌∷◌, ◌++◌, refl, sym, ap, subst, ◌∙◌, append_assoc}
use Rattle.std.specs.Prelude.{◌↔◌, Some}
use Rattle.litmus_lex.specs.declared.token.Token.{Token}
use Rattle.litmus_lex.specs.declared.token.Token.TheVariants as tokens
use Rattle.litmus_lex.specs.Token.{Terminal, name, number, sign, too_large, stray, unclosed, terminal_of}
use Rattle.litmus_lex.specs.Tokens.{Placed}
use Rattle.litmus_lex.specs.declared.cursor.Spot.{Spot}
use Rattle.litmus_lex.specs.Spots.{AreSpots}

-- a token that isn't the end is a terminal
pub terminal_there : (token : Token) → (token ≡ tokens.End → ⊥) → (t : Terminal) × (terminal_of token ≡ Some t)
terminal_there (tokens.Name bytes) other = (name bytes.now, refl)
terminal_there (tokens.Number value) other = (number value, refl)
terminal_there (tokens.Sign s) other = (sign s, refl)
terminal_there tokens.TooLarge other = (too_large, refl)
terminal_there tokens.Stray other = (stray, refl)
terminal_there tokens.Unclosed other = (unclosed, refl)
terminal_there tokens.End other = absurd (other refl)

-- a token is that which was read
abbrev pub Matches : Spot → Placed → Type 0
Matches spot token = (terminal_of spot.token ≡ Some token.terminal) × (spot.at ≡ token.at)

pub AreSpots-push : (spots : List Spot) (read : List Placed) (spot : Spot) (token : Placed)
    → AreSpots spots read → Matches spot token → AreSpots (spots ++ spot ∷ []) (read ++ token ∷ [])
AreSpots-push [] [] spot token are is = (is.0, (is.1, tt))
AreSpots-push [] (t ∷ read) spot token are is = absurd are
AreSpots-push (s ∷ spots) [] spot token are is = absurd are
AreSpots-push (s ∷ spots) (t ∷ read) spot token are is = (are.0, (are.1.0, AreSpots-push spots read spot token are.1.1 is))

-- what the last of tokens that were read is
record Pushed (spots : List Spot) (spot : Spot) (read : List Placed) : Type 0 where
  before : List Placed
  last : Placed
  whole : read ≡ before ++ last ∷ []
  are : AreSpots spots before
  is : Matches spot last

pushed : (spots : List Spot) (spot : Spot) (read : List Placed) → AreSpots (spots ++ spot ∷ []) read → Pushed spots spot read
pushed [] spot [] are = absurd are
pushed [] spot (t ∷ []) are = record { before = []; last = t; whole = refl; are = tt; is = (are.0, are.1.0) }
pushed [] spot (t ∷ u ∷ read) are = absurd are.1.1
pushed (s ∷ spots) spot [] are = absurd are
pushed (s ∷ spots) spot (t ∷ read) are =
    let p = pushed spots spot read are.1.1 in
    record { before = t ∷ p.before; last = p.last; whole = ap (λ (l : List Placed). t ∷ l) p.whole; are = (are.0, (are.1.0, p.are)); is = p.is }

-- the tokens are those that were read, and others behind them
abbrev pub GoesOn : List Spot → (List Placed → Type 0) → List Placed → Type 0
GoesOn spots Rest found = (first rest : List Placed) × (found ≡ first ++ rest) × AreSpots spots first × Rest rest

pub none_read : (All : List Placed → Type 0) (found : List Placed) → All found ↔ GoesOn [] All found
none_read All found = (λ a. ([], found, refl, tt, a), back)
  where
    back : GoesOn [] All found → All found
    back ([], rest, e, are, a) = subst All (sym e) a
    back (t ∷ first, rest, e, are, a) = absurd are

abbrev placed_at : Terminal → ℕ → Placed
placed_at terminal at = record { terminal = terminal; at = at }

placed_same : (s t : Terminal) (m n : ℕ) → s ≡ t → m ≡ n → placed_at s m ≡ placed_at t n
placed_same s t m n e f = ap (λ (x : Terminal). placed_at x m) e ∙ ap (λ (k : ℕ). placed_at t k) f

same_terminal : (spot : Spot) (a b : Placed) → Matches spot a → Matches spot b → a ≡ b
same_terminal spot a b p q =
    let terminal : a.terminal ≡ b.terminal = cc in
    let at : a.at ≡ b.at = sym p.1 ∙ q.1 in
    placed_same a.terminal b.terminal a.at b.at terminal at

pub one_more : (All Rest Later : List Placed → Type 0) (spots : List Spot) (spot : Spot) (token : Placed)
    → ((found : List Placed) → All found ↔ GoesOn spots Rest found)
    → ((found : List Placed) → Rest found ↔ ((rest : List Placed) × (found ≡ token ∷ rest) × Later rest))
    → Matches spot token
    → (found : List Placed) → All found ↔ GoesOn (spots ++ spot ∷ []) Later found
one_more All Rest Later spots spot token so_far next is found = (forth, back)
  where
    forth : All found → GoesOn (spots ++ spot ∷ []) Later found
    forth a =
        let g = (so_far found).0 a in
        let n = (next g.1).0 g.4 in
        (g.0 ++ token ∷ [], n.0, g.2 ∙ ap (λ (l : List Placed). g.0 ++ l) n.1 ∙ sym (append_assoc g.0 (token ∷ []) n.0), AreSpots-push spots g.0 spot token g.3 is, n.2)

    back : GoesOn (spots ++ spot ∷ []) Later found → All found
    back (first, rest, e, are, later) =
        let p = pushed spots spot first are in
        let same : p.last ≡ token = same_terminal spot p.last token p.is is in
        let whole : found ≡ p.before ++ (token ∷ rest) = e ∙ ap (λ (l : List Placed). l ++ rest) (p.whole ∙ ap (λ (t : Placed). p.before ++ t ∷ []) same) ∙ append_assoc p.before (token ∷ []) rest in
        (so_far found).1 (p.before, token ∷ rest, whole, p.are, (next (token ∷ rest)).1 (rest, refl, later))

append_nothing : (l : List Placed) → l ++ [] ≡ l
append_nothing [] = refl
append_nothing (t ∷ l) = ap (λ (m : List Placed). t ∷ m) (append_nothing l)

pub all_read : (All Rest : List Placed → Type 0) (spots : List Spot)
    → ((found : List Placed) → All found ↔ GoesOn spots Rest found)
    → ((found : List Placed) → Rest found ↔ (found ≡ []))
    → (found : List Placed) → All found ↔ AreSpots spots found
all_read All Rest spots so_far next found = (forth, back)
  where
    forth : All found → AreSpots spots found
    forth a =
        let g = (so_far found).0 a in
        let whole : found ≡ g.0 = g.2 ∙ ap (λ (l : List Placed). g.0 ++ l) ((next g.1).0 g.4) ∙ append_nothing g.0 in
        subst (AreSpots spots) (sym whole) g.3

    back : AreSpots spots found → All found
    back are = (so_far found).1 (found, [], sym (append_nothing found), are, (next []).1 refl)
