-- One line more.
use Rattle.std.proofs.Common.{◌≡◌, ◌<◌, ◌+◌, ◌++◌, ◌∷◌, ◌∙◌, [], ℕ, List, ap, get_or, length, sym, take}
use Rattle.std.proofs.lemmas.List.{append-nil, take_more}
use Rattle.std.proofs.lemmas.List.Folds.{concat-append}
use Rattle.std.specs.List.{AllZip, concat}
use Rattle.source_places.specs.deadlocks.Lines.{AreWaitLines, IsWaitLine}
use Rattle.source_places.specs.declared.deadlocks.waits.LockWait.{LockWait}
use Rattle.litmus_syntax.specs.declared.program.Variable.{Variable}

one_more : (lines : List (List ℕ)) (line : List ℕ) → concat lines ++ line ≡ concat (lines ++ line ∷ [])
one_more lines line = ap (λ (last : List ℕ). concat lines ++ last) (sym (append-nil line)) ∙ sym (concat-append lines (line ∷ []))

each_more : (R : LockWait → List ℕ → Type 0) (waits : List LockWait) (lines : List (List ℕ)) (wait : LockWait) (line : List ℕ)
    → AllZip R waits lines → R wait line → AllZip R (waits ++ wait ∷ []) (lines ++ line ∷ [])
each_more R [] [] wait line each is = (is, tt)
each_more R [] (one ∷ lines) wait line each is = absurd each
each_more R (first ∷ waits) [] wait line each is = absurd each
each_more R (first ∷ waits) (one ∷ lines) wait line each is = (each.0, each_more R waits lines wait line each.1 is)

lines_more : (variables : List Variable) (file text : List ℕ) (waits : List LockWait) (wait : LockWait) (said line : List ℕ)
    → AreWaitLines variables file text waits said → IsWaitLine variables file text wait line
    → AreWaitLines variables file text (waits ++ wait ∷ []) (said ++ line)
lines_more variables file text waits wait said line are is = record {
  lines = are.lines ++ line ∷ [];
  each = each_more (IsWaitLine variables file text) waits are.lines wait line are.each is;
  spelled = ap (λ (all : List ℕ). all ++ line) are.spelled ∙ one_more are.lines line;
}

pub lines_step : (variables : List Variable) (file text : List ℕ) (waits : List LockWait) (at : ℕ) (otherwise : LockWait)
    (said line all : List ℕ) → at < length waits → AreWaitLines variables file text (take at waits) said
    → IsWaitLine variables file text (get_or waits at otherwise) line → all ≡ said ++ line
    → AreWaitLines variables file text (take (at + 1) waits) all
lines_step variables file text waits at otherwise said line all below are is added =
    rw (take_more waits at otherwise below, added)
    (lines_more variables file text (take at waits) (get_or waits at otherwise) said line are is)
