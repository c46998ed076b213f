-- where the version is said, the words ask for it
use Rattle.std.proofs.Common.{◌≡◌, inl, inr, subst, List, ℕ}
use Rattle.clap.specs.Words.{kind_of}
use Rattle.clap.specs.declared.error.kind.ErrorKind.{ErrorKind}
use Rattle.clap.specs.declared.error.kind.ErrorKind.TheVariants.{DisplayVersion, ValueValidation}
use Rattle.cli.specs.Words.{AskForVersion, IsSaidOf, MayFail}
use Rattle.litmus_command.proofs.command.explain.Goals as goal

version_asked : (words : List (List ℕ)) (kind : ErrorKind) → kind ≡ DisplayVersion → MayFail words kind → AskForVersion words
version_asked words kind is (inl out) = cc
version_asked words kind is (inr (inl invalid)) = let other : kind ≡ ValueValidation = invalid.0 in cc
version_asked words kind is (inr (inr said)) = subst (λ (k : ErrorKind). IsSaidOf words k) is said

pub returns-in-DisplayVersion-clause-unwritten : goal.returns-in-DisplayVersion-clause-unwritten
returns-in-DisplayVersion-clause-unwritten g c = λ words may cut.
    let is : kind_of c.args.error ≡ DisplayVersion = cc (c.kind.ensures, c.in-DisplayVersion.is) in
    inr (c.version.ensures.unwritten words (version_asked words (kind_of c.args.error) is may) cut)
