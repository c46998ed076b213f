-- What lines say of a setting, line by line.
use Rattle.std.proofs.Common.{◌≡◌, ◌∙◌, ◌++◌, ◌∷◌, [], Bool, Bor, ℕ, List, None, Option, Some, ap, false, if◌then◌else◌, map, option_map, refl, sym}
use Rattle.std.specs.Prelude.{codes}
use Rattle.std.specs.Option.{option_or}
use Rattle.std.proofs.lemmas.List.{map-append}
use Rattle.cli.specs.kernel_config.Line.{said}
use Rattle.cli.specs.kernel_config.Setting.{is_set, last_said, switch_in}
use Rattle.cli.specs.kernel_config.Config.{loose_in}

option_or-none : {T : Type 0} (o : Option T) → option_or o None ≡ o
option_or-none None = refl
option_or-none (Some x) = refl

option_or_assoc : {T : Type 0} (a b c : Option T) → option_or (option_or a b) c ≡ option_or a (option_or b c)
option_or_assoc None b c = refl
option_or_assoc (Some x) b c = refl

option_map-option_or : {A B : Type 0} (f : A → B) (a b : Option A) → option_map f (option_or a b) ≡ option_or (option_map f a) (option_map f b)
option_map-option_or f None b = refl
option_map-option_or f (Some x) b = refl

-- one line more decides, if it says anything
last_said-push : (name : List ℕ) (lines : List (List ℕ)) (line : List ℕ)
    → last_said name (lines ++ line ∷ []) ≡ option_or (said name line) (last_said name lines)
last_said-push name [] line = sym (option_or-none (said name line))
last_said-push name (first ∷ later) line =
    ap (λ (o : Option (List ℕ)). option_or o (said name first)) (last_said-push name later line)
    ∙ option_or_assoc (said name line) (last_said name later) (said name first)

-- so does a line of a loop over lines
pub said_further : (name : List ℕ) (seen : List (Bor (List ℕ))) (line : Bor (List ℕ)) (found before after : Option (Bor (List ℕ)))
    → option_map (λ (value : Bor (List ℕ)). value.now) found ≡ said name line.now
    → option_map (λ (value : Bor (List ℕ)). value.now) before ≡ last_said name (map (λ (it : Bor (List ℕ)). it.now) seen)
    → after ≡ option_or found before
    → option_map (λ (value : Bor (List ℕ)). value.now) after ≡ last_said name (map (λ (it : Bor (List ℕ)). it.now) (seen ++ line ∷ []))
said_further name seen line found before after says so_far is =
    let now : Bor (List ℕ) → List ℕ = λ it. it.now in
    ap (option_map now) is
    ∙ option_map-option_or now found before
    ∙ ap (λ (o : Option (List ℕ)). option_or o (option_map now before)) says
    ∙ ap (λ (o : Option (List ℕ)). option_or (said name line.now) o) so_far
    ∙ sym (last_said-push name (map now seen) line.now)
    ∙ ap (last_said name) (sym (map-append now seen (line ∷ [])))

-- a setting that a strict kernel lacks, by what is read of both
pub loosened : (name text : List ℕ) (strict : Bool) (said result : Option Bool) → result ≡ (if strict then Some false else said)
    → strict ≡ is_set (codes "CONFIG_KCSAN_STRICT") text → said ≡ switch_in name text → result ≡ loose_in name text
loosened name text strict said result is strictly says =
    is
    ∙ ap (λ (b : Bool). if b then Some false else said) strictly
    ∙ ap (λ (o : Option Bool). if is_set (codes "CONFIG_KCSAN_STRICT") text then Some false else o) says
