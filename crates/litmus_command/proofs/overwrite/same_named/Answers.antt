-- a path that is named is that of a file that is read
use Rattle.std.proofs.Common.{Bor, IfSome, ℕ, List, Option, subst, sym}
use Rattle.std.specs.Option.{option_map}
use Rattle.std.specs.Prelude.{IfNone}
use Rattle.litmus_command.specs.Overwrite.{AreNamedPath}
use Rattle.litmus_command.proofs.overwrite.same_named.Goals as goal

pub returns-in-Some : goal.returns-in-Some
returns-in-Some c =
    let to = option_map (λ (path : Bor (List ℕ)). path.now) c.args.output in
    record {
      same = subst
          (λ (named : Option (Bor (List ℕ))). IfSome c.same_path.result (λ path. AreNamedPath (option_map (λ own. own.now) named) to path.now))
          (sym c.in-Some.is) c.same_path.ensures.same;
      other = subst
          (λ (named : Option (Bor (List ℕ))). IfNone c.same_path.result ((path : List ℕ) → AreNamedPath (option_map (λ own. own.now) named) to path → ⊥))
          (sym c.in-Some.is) c.same_path.ensures.other;
    }
