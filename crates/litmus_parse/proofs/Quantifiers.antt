-- What is read as a quantifier is what is spelled as one.
use Rattle.std.proofs.Common.{◌≡◌, ◌∙◌, List, ◌∷◌, true, cond, Some, None, refl, sym, ap, subst}
use Rattle.litmus_lex.specs.declared.sign.Sign.TheVariants.{Tilde}
use Rattle.litmus_syntax.specs.declared.proposition.Quantifier.{Quantifier}
use Rattle.litmus_syntax.specs.declared.proposition.Quantifier.TheVariants.{Exists, NotExists, Forall}
use Rattle.litmus_lex.specs.declared.words.Word.TheVariants as words
use Rattle.litmus_lex.specs.Front.{◌>>=◌, first, is_sign, others}
use Rattle.litmus_lex.specs.Words.{Symbol, word, sign}
use Rattle.litmus_expression.proofs.Fewer.{at_last, behind_it, either_way}
use Rattle.litmus_expression.proofs.Taken.{front, is_sign_is}
use Rattle.litmus_parse.specs.ConditionReader.{is_exists, is_forall, quantifier_at, take_exists}
use Rattle.litmus_parse.specs.Conditions as grammar
use Rattle.litmus_parse.specs.Conditions.{Quantifies}

forall_is : (y : Symbol) → is_forall y ≡ true → y ≡ word words.Forall
forall_is (word words.Forall) e = refl
forall_is _ e = absurd cc

exists_is : (y : Symbol) → is_exists y ≡ true → y ≡ word words.Exists
exists_is (word words.Exists) e = refl
exists_is _ e = absurd cc

exists_taken : (symbols rest : List Symbol) → take_exists symbols ≡ Some rest → symbols ≡ word words.Exists ∷ rest
exists_taken symbols rest e =
    either_way (is_exists (first symbols)) (Some (others symbols)) None (λ (l : List Symbol). symbols ≡ word words.Exists ∷ l) rest e
    (λ is e. at_last (others symbols) (λ (l : List Symbol). symbols ≡ word words.Exists ∷ l) rest e
    (front symbols (word words.Exists) (exists_is (first symbols) is) (λ never. cc)))
    (λ none e. absurd cc)

abbrev Spelled : List Symbol → Quantifier × List Symbol → Type 0
Spelled symbols y = Quantifies symbols y.0 y.1

pub quantifier_spelled : (symbols : List Symbol) (x : Quantifier × List Symbol) → quantifier_at symbols ≡ Some x
    → Quantifies symbols x.0 x.1
unfolding quantifier_at
quantifier_spelled symbols x e =
    either_way (is_forall (first symbols)) (Some (Forall, others symbols))
    (cond (is_sign Tilde (first symbols)) (take_exists (others symbols) >>= λ l. Some (NotExists, l))
    (take_exists symbols >>= λ l. Some (Exists, l)))
    (Spelled symbols) x e
    (λ is e. at_last (Forall, others symbols) (Spelled symbols) x e
    (subst (λ (l : List Symbol). Quantifies l Forall (others symbols))
    (sym (front symbols (word words.Forall) (forall_is (first symbols) is) (λ never. cc)))
    grammar.for_all))
    (λ none e.
    either_way (is_sign Tilde (first symbols)) (take_exists (others symbols) >>= λ l. Some (NotExists, l))
    (take_exists symbols >>= λ l. Some (Exists, l))
    (Spelled symbols) x e
    (λ denied e.
    behind_it (take_exists (others symbols)) (λ l. Some (NotExists, l)) (Spelled symbols) x e (λ l is e.
    let whole : symbols ≡ sign Tilde ∷ word words.Exists ∷ l = front symbols (sign Tilde) (is_sign_is Tilde (first symbols) denied)
    (λ never. cc)
    ∙ ap (λ (j : List Symbol). sign Tilde ∷ j) (exists_taken (others symbols) l is) in
    at_last (NotExists, l) (Spelled symbols) x e (subst (λ (j : List Symbol). Quantifies j NotExists l) (sym whole) grammar.not_exists)))
    (λ plain e.
    behind_it (take_exists symbols) (λ l. Some (Exists, l)) (Spelled symbols) x e (λ l is e.
    at_last (Exists, l) (Spelled symbols) x e (subst (λ (j : List Symbol). Quantifies j Exists l)
    (sym (exists_taken symbols l is)) grammar.exists))))

pub quantifier_read : {symbols rest : List Symbol} {quantifier : Quantifier} → Quantifies symbols quantifier rest
    → quantifier_at symbols ≡ Some (quantifier, rest)
unfolding quantifier_at
quantifier_read grammar.exists = refl
quantifier_read grammar.not_exists = refl
quantifier_read grammar.for_all = refl
