-- What a line says, by what stands behind the texts that it begins with.
use Rattle.std.proofs.Common.{◌≡◌, ◌∙◌, ◌++◌, ◌↔◌, ℕ, Bool, IsTrue, List, None, Option, Some, ap, append_assoc, drop, false, if◌then◌else◌, length, nat_eq, option_map, refl, sym, true, ⊎_elim, Bor}
use Rattle.std.specs.Prelude.{bytes_eq, codes}
use Rattle.std.specs.List.{starts_with}
use Rattle.std.specs.Option.{MatchOption, option_or}
use Rattle.std.specs.Str.Pattern.{FindsTextPrefix, StripsPrefix}
use Rattle.std.proofs.lemmas.Bool.{cases_Bool}
use Rattle.std.proofs.lemmas.Bool.Decides.{Decides-eqb, same_from_decides}
use Rattle.std.proofs.lemmas.List.Prefix.{front_rest}
use Rattle.std.proofs.lemmas.Slice.Eq.{bytes_eq-Decides, starts_is}
use Rattle.cli.specs.kernel_config.Line.{assigned, said, unset_line}

-- what is left of a text whose front was taken off stands behind that front
pub stripped : (front text rest : List ℕ) → StripsPrefix (FindsTextPrefix front) text rest → text ≡ front ++ rest
stripped front text rest strips = strips.1.1 ∙ ap (λ (tail : List ℕ). front ++ tail) (sym strips.2)

-- a line `NAME=VALUE` gives the value
assigned_is : (name line value : List ℕ) → line ≡ name ++ codes "=" ++ value → assigned name line ≡ Some value
assigned_is name line value is =
    let begins : starts_with nat_eq line (name ++ codes "=") ≡ true = (starts_is Decides-eqb line (name ++ codes "=") _ refl).1 value is in
    ap (λ (b : Bool). if b then Some (drop (length (name ++ codes "=")) line) else None) begins
    ∙ ap (λ (tail : List ℕ). Some tail) (front_rest line (name ++ codes "=") value is)

-- and any other gives none
assigned_none : (name line : List ℕ) → ((value : List ℕ) → line ≡ name ++ codes "=" ++ value → ⊥) → assigned name line ≡ None
assigned_none name line never =
    ⊎_elim (λ begins. absurd (never _ ((starts_is Decides-eqb line (name ++ codes "=") _ refl).0 begins)))
    (λ others. ap (λ (b : Bool). if b then Some (drop (length (name ++ codes "=")) line) else None) others)
    (cases_Bool (starts_with nat_eq line (name ++ codes "=")))

-- a name, and behind it `=` and the value
assigned_behind : (name line rest value : List ℕ) → line ≡ name ++ rest → rest ≡ codes "=" ++ value → assigned name line ≡ Some value
assigned_behind name line rest value is behind =
    assigned_is name line value
    (is ∙ ap (λ (tail : List ℕ). name ++ tail) behind ∙ sym (append_assoc name (codes "=") value))

-- a name, and no `=` behind it
assigned_otherwise : (name line rest : List ℕ) → line ≡ name ++ rest → ((value : List ℕ) → rest ≡ codes "=" ++ value → ⊥)
    → assigned name line ≡ None
assigned_otherwise name line rest is never =
    assigned_none name line (λ value set.
    never value (sym (front_rest line name rest is) ∙ front_rest line name (codes "=" ++ value) (set ∙ append_assoc name (codes "=") value)))

-- so what stands behind the name decides
pub assigned_by : (name line rest : List ℕ) (value : Option (Bor (List ℕ))) → line ≡ name ++ rest
    → MatchOption value (FindsTextPrefix (codes "=") rest None) (λ x. StripsPrefix (FindsTextPrefix (codes "=")) rest x.now)
    → option_map (λ (it : Bor (List ℕ)). it.now) value ≡ assigned name line
assigned_by name line rest None is never = sym (assigned_otherwise name line rest is never)
assigned_by name line rest (Some value) is strips =
    sym (assigned_behind name line rest value.now is (stripped (codes "=") rest value.now strips))

-- no name at the front
pub assigned_elsewhere : (name line : List ℕ) → ((rest : List ℕ) → line ≡ name ++ rest → ⊥) → assigned name line ≡ None
assigned_elsewhere name line never =
    assigned_none name line (λ value set. never (codes "=" ++ value) (set ∙ append_assoc name (codes "=") value))

-- a test of what stands behind a front is a test of the whole
pub tail_tested : (front text rest tail : List ℕ) (answer : Bool) → text ≡ front ++ rest → answer ≡ bytes_eq rest tail
    → IsTrue answer ↔ (text ≡ front ++ tail)
tail_tested front text rest tail answer is tests = (
  λ yes. is ∙ ap (λ (end : List ℕ). front ++ end) ((bytes_eq-Decides rest tail).0 (sym tests ∙ yes)),
  λ same. tests ∙ (bytes_eq-Decides rest tail).1 (sym (front_rest text front rest is) ∙ front_rest text front tail same),
)

-- what says whether the rest behind `# ` is `NAME is not set` says it of the line
pub marked : (line rest name : List ℕ) (answer : Bool) → line ≡ codes "# " ++ rest → IsTrue answer ↔ (rest ≡ name ++ codes " is not set")
    → IsTrue answer ↔ (line ≡ unset_line name)
marked line rest name answer is says = (
  λ yes. is ∙ ap (λ (tail : List ℕ). codes "# " ++ tail) (says.0 yes),
  λ same. says.1 (sym (front_rest line (codes "# ") rest is) ∙ front_rest line (codes "# ") (name ++ codes " is not set") same),
)
