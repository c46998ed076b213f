-- What was taken from the front of symbols stood there, and one symbol less is left.
use Rattle.std.proofs.Common.{◌≡◌, ◌∙◌, ℕ, ◌+◌, ◌<◌, ◌≤◌, List, [], ◌∷◌, Bool, true, false, cond, eqb, get_or, Option, Some, None, length, refl, sym, ap, subst, arith}
use Rattle.std.proofs.lemmas.Bool.{eqb-true}
use Rattle.litmus_lex.specs.declared.sign.Sign.{Sign}
use Rattle.litmus_lex.specs.declared.sign.Sign.TheVariants.{OpenBrace, CloseBrace, OpenParen, CloseParen, OpenBracket, CloseBracket, Semicolon, Comma, Colon, Assign}
use Rattle.litmus_lex.specs.declared.sign.Sign.TheVariants.{AddAssign, Increment, Plus, Minus, Star, Tilde, Not, Ampersand, Caret, Bar}
use Rattle.litmus_lex.specs.declared.sign.Sign.TheVariants.{Less, Greater, LessEqual, GreaterEqual, Equal, NotEqual, Conjunction, Disjunction, Slash, Percent}
use Rattle.litmus_lex.specs.declared.sign.Sign.TheVariants.{ShiftLeft, ShiftRight, LogicalAnd, LogicalOr, Question}
use Rattle.litmus_lex.specs.Front.{◌>>=◌, first, others, is_sign, same_sign, sign_number, take_number, take_sign, number_of}
use Rattle.litmus_lex.specs.Words.{Symbol, word, identifier, number, sign, fault}

-- ---- steps that gave a value

pub bind_some : {A B : Type 0} (o : Option A) (f : A → Option B) (y : B) → (o >>= f) ≡ Some y → (x : A) × (o ≡ Some x) × (f x ≡ Some y)
bind_some None f y e = absurd cc
bind_some (Some x) f y e = (x, refl, e)

pub guarded : {A : Type 0} (b : Bool) (o : Option A) (y : A) → cond b None o ≡ Some y → (b ≡ false) × (o ≡ Some y)
guarded true o y e = absurd cc
guarded false o y e = (refl, e)

pub allowed : {A : Type 0} (b : Bool) (o : Option A) (y : A) → cond b o None ≡ Some y → (b ≡ true) × (o ≡ Some y)
allowed true o y e = (refl, e)
allowed false o y e = absurd cc

pub chosen : {A : Type 0} (b : Bool) (o p : Option A) (y : A) (P : Type 0) → cond b o p ≡ Some y → (b ≡ true → o ≡ Some y → P) → (b ≡ false → p ≡ Some y → P) → P
chosen true o p y P e f g = f refl e
chosen false o p y P e f g = g refl e

abbrev given : {A : Type 0} → A → Option A
given x = Some x

pub same_given : {A : Type 0} (x y : A) → given x ≡ given y → x ≡ y
same_given x y e = cc

-- ---- signs

abbrev signs : List Sign
signs =
    OpenBrace ∷ CloseBrace ∷ OpenParen ∷ CloseParen ∷ OpenBracket ∷ CloseBracket ∷ Semicolon ∷ Comma ∷ Colon ∷ Assign ∷
    AddAssign ∷ Increment ∷ Plus ∷ Minus ∷ Star ∷ Tilde ∷ Not ∷ Ampersand ∷ Caret ∷ Bar ∷
    Less ∷ Greater ∷ LessEqual ∷ GreaterEqual ∷ Equal ∷ NotEqual ∷ Conjunction ∷ Disjunction ∷ Slash ∷ Percent ∷
    ShiftLeft ∷ ShiftRight ∷ LogicalAnd ∷ LogicalOr ∷ Question ∷ []

at_number : (s : Sign) → get_or signs (sign_number s) Question ≡ s
at_number OpenBrace = refl
at_number CloseBrace = refl
at_number OpenParen = refl
at_number CloseParen = refl
at_number OpenBracket = refl
at_number CloseBracket = refl
at_number Semicolon = refl
at_number Comma = refl
at_number Colon = refl
at_number Assign = refl
at_number AddAssign = refl
at_number Increment = refl
at_number Plus = refl
at_number Minus = refl
at_number Star = refl
at_number Tilde = refl
at_number Not = refl
at_number Ampersand = refl
at_number Caret = refl
at_number Bar = refl
at_number Less = refl
at_number Greater = refl
at_number LessEqual = refl
at_number GreaterEqual = refl
at_number Equal = refl
at_number NotEqual = refl
at_number Conjunction = refl
at_number Disjunction = refl
at_number Slash = refl
at_number Percent = refl
at_number ShiftLeft = refl
at_number ShiftRight = refl
at_number LogicalAnd = refl
at_number LogicalOr = refl
at_number Question = refl

pub same_sign_is : (a b : Sign) → same_sign a b ≡ true → a ≡ b
same_sign_is a b e =
    sym (at_number a) ∙ ap (λ (n : ℕ). get_or signs n Question) (eqb-true (sign_number a) (sign_number b) e) ∙ at_number b

pub is_sign_is : (s : Sign) (x : Symbol) → is_sign s x ≡ true → x ≡ sign s
is_sign_is s (word w) e = absurd cc
is_sign_is s (identifier name) e = absurd cc
is_sign_is s (number n) e = absurd cc
is_sign_is s (sign t) e = ap sign (same_sign_is t s e)
is_sign_is s fault e = absurd cc

-- ---- the front

-- the symbol that is next, where it is none that stands for the end
pub front : (symbols : List Symbol) (x : Symbol) → first symbols ≡ x → ¬ (x ≡ fault) → symbols ≡ x ∷ others symbols
front [] x e some = absurd (some (sym e))
front (s ∷ rest) x e some = ap (λ (y : Symbol). y ∷ rest) e

pub sign_taken : (s : Sign) (symbols rest : List Symbol) → take_sign s symbols ≡ Some rest → symbols ≡ sign s ∷ rest
unfolding take_sign
sign_taken s symbols rest e =
    let a = allowed (is_sign s (first symbols)) (Some (others symbols)) rest e in
    let same : others symbols ≡ rest = same_given (others symbols) rest a.1 in
    front symbols (sign s) (is_sign_is s (first symbols) a.0) (λ no. cc) ∙ ap (λ (l : List Symbol). sign s ∷ l) same

-- fewer symbols are left
pub fewer : (x : Symbol) (symbols rest : List Symbol) → symbols ≡ x ∷ rest → length rest < length symbols
fewer x symbols rest e = let n : length symbols ≡ length (x ∷ rest) = ap length e in omega arith

pub sign_fewer : (s : Sign) (symbols rest : List Symbol) → take_sign s symbols ≡ Some rest → length rest < length symbols
sign_fewer s symbols rest e = fewer (sign s) symbols rest (sign_taken s symbols rest e)

-- a symbol that isn't a fault is one that is left
pub others_fewer : (symbols : List Symbol) (x : Symbol) → first symbols ≡ x → ¬ (x ≡ fault) → length (others symbols) < length symbols
others_fewer symbols x e some = fewer x symbols (others symbols) (front symbols x e some)
