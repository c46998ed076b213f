-- What a refusal means where names are made of what is read.
use Rattle.std.proofs.Common.{◌≡◌, ◌++◌, ◌≤◌, suc, List, [], ◌∷◌, get_or, length, map}
use Rattle.std.proofs.Common.{sym, subst, arith}
use Rattle.std.specs.Prelude.{All, Err, IfErr, Ok, Result}
use Rattle.std.specs.Result.{IsErrAnd}
use Rattle.std.specs.Str.{IsUtf8}
use Rattle.litmus_syntax.specs.declared.program.Variable.{Variable}
use Rattle.litmus_parse.specs.declared.declaration.Declared.{Declared}
use Rattle.litmus_parse.specs.Entries.{entry_of}
use Rattle.litmus_parse.specs.VariableReader.{name_of}
use Rattle.litmus_parse.specs.Variables.{variables_in}

-- what holds of the error that a result has
pub err_holds : {X E : Type 0} (P : E → Type 0) (result : Result X E) (error : E) → IsErrAnd result (λ found. found ≡ error) → P error
    → IfErr result P
err_holds P (Ok x) error is holds = tt
err_holds P (Err other) error is holds = subst P (sym is) holds

-- ---- names that are made

pub all_there : {A : Type 0} (P : A → Type 0) (one : List A) (x : A) (rest : List A) → All P (one ++ x ∷ rest) → P x
all_there P [] x rest all = all 0 x (omega arith)
all_there P (y ∷ one) x rest all = all_there P one x rest (λ k d lt. all (suc k) d (omega arith))

pub declared_there : (ds : List Declared) (made whole : List Variable) (d : Declared) → 1 ≤ length ds
    → made ++ variables_in (map name_of ds) (map entry_of ds) ≡ whole → All (λ (v : Variable). IsUtf8 v.name) whole
    → IsUtf8 (get_or ds 0 d).name.now
declared_there [] made whole d some is all = absurd (omega arith)
declared_there (e ∷ ds) made whole d some is all =
    all_there (λ (v : Variable). IsUtf8 v.name) made _ (variables_in (map name_of ds) (map entry_of ds))
    (subst (λ (l : List Variable). All (λ (v : Variable). IsUtf8 v.name) l) (sym is) all)
