-- What is read as a number or as an initial value is what is spelled as one.
use Rattle.std.proofs.Common.{◌≡◌, ◌∙◌, ℕ, ◌-◌, ◌%◌, ◌^◌, List, ◌∷◌, true, Option, Some, refl, sym, ap, subst}
use Rattle.litmus_lex.specs.declared.sign.Sign.TheVariants.{OpenParen, CloseParen, Minus}
use Rattle.litmus_lex.specs.declared.words.Word.TheVariants as words
use Rattle.litmus_lex.specs.Front.{◌>>=◌, first, is_sign, number_of, others, take_number, take_sign, take_signed}
use Rattle.litmus_lex.specs.Words.{Symbol, word, identifier, number, sign, fault}
use Rattle.litmus_expression.proofs.Fewer.{at_last, behind_it, either_way}
use Rattle.litmus_expression.proofs.Taken.{front, is_sign_is, same_given, sign_taken}
use Rattle.litmus_parse.specs.HeaderReader.{enclosed_value, is_atomic_init, value_at}
use Rattle.litmus_parse.specs.ProcessHeaders as grammar
use Rattle.litmus_parse.specs.ProcessHeaders.{Signed, Value}

number_is : (y : Symbol) (rest : List Symbol) (x : ℕ × List Symbol) → number_of y rest ≡ Some x → (y ≡ number x.0) × (rest ≡ x.1)
number_is (word w) rest x e = absurd cc
number_is (identifier name) rest x e = absurd cc
number_is (number n) rest x e =
    let same = same_given (n, rest) x e in
    (ap (λ (z : ℕ × List Symbol). number z.0) same, ap (λ (z : ℕ × List Symbol). z.1) same)
number_is (sign t) rest x e = absurd cc
number_is fault rest x e = absurd cc

number_taken : (symbols : List Symbol) (x : ℕ × List Symbol) → take_number symbols ≡ Some x → symbols ≡ number x.0 ∷ x.1
unfolding take_number
number_taken symbols x e =
    let is = number_is (first symbols) (others symbols) x e in
    front symbols (number x.0) is.0 (λ never. cc) ∙ ap (λ (l : List Symbol). number x.0 ∷ l) is.1

-- ---- numbers with a sign or without

pub signed_spelled : (symbols : List Symbol) (x : ℕ × List Symbol) → take_signed symbols ≡ Some x → Signed symbols x.0 x.1
unfolding take_signed
signed_spelled symbols x e =
    either_way (is_sign Minus (first symbols)) (take_number (others symbols) >>= λ n. Some ((2 ^ 64 - n.0) % 2 ^ 64, n.1))
    (take_number symbols)
    (λ (y : ℕ × List Symbol). Signed symbols y.0 y.1) x e
    (λ minus e.
    behind_it (take_number (others symbols)) (λ n. Some ((2 ^ 64 - n.0) % 2 ^ 64, n.1))
    (λ (y : ℕ × List Symbol). Signed symbols y.0 y.1) x e (λ n is e.
    let whole : symbols ≡ sign Minus ∷ number n.0 ∷ n.1 = front symbols (sign Minus) (is_sign_is Minus (first symbols) minus) (λ never. cc)
    ∙ ap (λ (l : List Symbol). sign Minus ∷ l) (number_taken (others symbols) n is) in
    at_last _ (λ (y : ℕ × List Symbol). Signed symbols y.0 y.1) x e
    (subst (λ (l : List Symbol). Signed l ((2 ^ 64 - n.0) % 2 ^ 64) n.1) (sym whole) grammar.negative)))
    (λ none e. subst (λ (l : List Symbol). Signed l x.0 x.1) (sym (number_taken symbols x e)) grammar.positive)

pub signed_read : {symbols rest : List Symbol} {value : ℕ} → Signed symbols value rest → take_signed symbols ≡ Some (value, rest)
unfolding take_signed take_number
signed_read grammar.positive = refl
signed_read grammar.negative = refl

-- ---- initial values

atomic_is : (y : Symbol) → is_atomic_init y ≡ true → y ≡ word words.AtomicInit
atomic_is (word words.AtomicInit) e = refl
atomic_is _ e = absurd cc

enclosed_spelled : (symbols : List Symbol) (x : ℕ × List Symbol) → first symbols ≡ word words.AtomicInit → enclosed_value (others symbols)
    ≡ Some x
    → Value symbols x.0 x.1
unfolding enclosed_value
enclosed_spelled symbols x next e =
    behind_it (take_sign OpenParen (others symbols)) (λ l. take_signed l >>= λ v. take_sign CloseParen v.1 >>= λ m. Some (v.0, m))
    (λ (y : ℕ × List Symbol). Value symbols y.0 y.1) x e (λ l opens e.
    behind_it (take_signed l) (λ v. take_sign CloseParen v.1 >>= λ m. Some (v.0, m)) (λ (y : ℕ × List Symbol). Value symbols y.0 y.1) x e
    (λ v is e.
    behind_it (take_sign CloseParen v.1) (λ m. Some (v.0, m)) (λ (y : ℕ × List Symbol). Value symbols y.0 y.1) x e (λ m closes e.
    let whole : symbols ≡ word words.AtomicInit ∷ sign OpenParen ∷ l = front symbols (word words.AtomicInit) next (λ never. cc)
    ∙ ap (λ (j : List Symbol). word words.AtomicInit ∷ j) (sign_taken OpenParen (others symbols) l opens) in
    let inside = subst (λ (j : List Symbol). Signed l v.0 j) (sign_taken CloseParen v.1 m closes) (signed_spelled l v is) in
    at_last _ (λ (y : ℕ × List Symbol). Value symbols y.0 y.1) x e
    (subst (λ (j : List Symbol). Value j v.0 m) (sym whole) (grammar.in_atomic_init inside)))))

pub value_spelled : (symbols : List Symbol) (x : ℕ × List Symbol) → value_at symbols ≡ Some x → Value symbols x.0 x.1
unfolding value_at
value_spelled symbols x e =
    either_way (is_atomic_init (first symbols)) (enclosed_value (others symbols)) (take_signed symbols)
    (λ (y : ℕ × List Symbol). Value symbols y.0 y.1) x e
    (λ atomic e. enclosed_spelled symbols x (atomic_is (first symbols) atomic) e)
    (λ none e. grammar.plain (signed_spelled symbols x e))

pub value_read : {symbols rest : List Symbol} {value : ℕ} → Value symbols value rest → value_at symbols ≡ Some (value, rest)
unfolding value_at enclosed_value take_sign take_signed take_number
value_read (grammar.plain grammar.positive) = refl
value_read (grammar.plain grammar.negative) = refl
value_read (grammar.in_atomic_init inside) =
    ap (λ (o : Option (ℕ × List Symbol)). o >>= λ v. take_sign CloseParen v.1 >>= λ m. Some (v.0, m)) (signed_read inside)
