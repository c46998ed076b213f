-- What is written of files, file by file.
use Rattle.std.proofs.Common.{◌≡◌, ◌+◌, ◌++◌, ◌<◌, ◌∙◌, ℕ, suc, List, add-one, ap, drop, get_or, length, sym}
use Rattle.std.proofs.Math.Seq.{drop-cons}
use Rattle.race_page.specs.Files.{each_from}
use Rattle.race_page.specs.declared.values.FileTold.{FileTold}

-- of the files that are left the first is written, and then the others
pub each_step : (text : ℕ → FileTold → List ℕ) (files : List FileTold) (number : ℕ) (file : FileTold) → number < length files
    → file ≡ get_or files number file
    → text number file ++ each_from text (number + 1) (drop (number + 1) files) ≡ each_from text number (drop number files)
each_step text files number file within is =
    ap (λ (n : ℕ). text number file ++ each_from text n (drop n files)) (add-one number)
    ∙ ap (λ (f : FileTold). text number f ++ each_from text (suc number) (drop (suc number) files)) is
    ∙ sym (ap (each_from text number) (drop-cons files number file within))
