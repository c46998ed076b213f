-- Blanks and comments between tokens: which comments a part of a text has, where they end, and where none begins.
use Rattle.std.specs.Prelude.{◌≡◌, ℕ, List, [], ◌∷◌, true, false}
use Rattle.litmus_lex.specs.declared.bytes.Class.TheVariants.{Blank, InLine}
use Rattle.litmus_lex.specs.declared.gap.Comment.{Comment}
use Rattle.litmus_lex.specs.declared.gap.Comment.TheVariants.{Parens, Slashes, Line}
use Rattle.litmus_lex.specs.declared.token.Part.{Part}
use Rattle.litmus_lex.specs.declared.token.Part.TheVariants.{Head, Init, Between, Body}
use Rattle.litmus_lex.specs.Bytes.{belongs, EndsAtPair, IsRow, IsRun, LacksPair}

-- `(* .. *)` is no comment in a process's body
abbrev pub IsOutsideBodies : Part → Type 0
IsOutsideBodies (Body depth) = ⊥
IsOutsideBodies Head = Unit {0}
IsOutsideBodies Init = Unit {0}
IsOutsideBodies Between = Unit {0}

-- `/* .. */` and `// ..` are no comments in the head
abbrev pub IsAfterHead : Part → Type 0
IsAfterHead Head = ⊥
IsAfterHead Init = Unit {0}
IsAfterHead Between = Unit {0}
IsAfterHead (Body depth) = Unit {0}

-- a comment begins with these two bytes; 40 is '(', 42 is '*' and 47 is '/'
abbrev pub Opens : Part → Comment → ℕ → ℕ → Type 0
Opens part Parens first second = IsOutsideBodies part × (first ≡ 40) × (second ≡ 42)
Opens part Slashes first second = IsAfterHead part × (first ≡ 47) × (second ≡ 42)
Opens part Line first second = IsAfterHead part × (first ≡ 47) × (second ≡ 47)

-- an opened comment goes on with these bytes, which end it; 41 is ')'
abbrev pub Closes : Comment → List ℕ → List ℕ → Type 0
Closes Parens inside rest = EndsAtPair 42 41 inside
Closes Slashes inside rest = EndsAtPair 42 47 inside
Closes Line inside rest = IsRun InLine inside rest

-- an opened comment goes on with these bytes up to the end of the text, and isn't closed
abbrev pub NeverCloses : Comment → List ℕ → Type 0
NeverCloses Parens inside = LacksPair 42 41 inside
NeverCloses Slashes inside = LacksPair 42 47 inside
NeverCloses Line inside = ⊥

-- the bytes are a blank, or a comment, before the rest
abbrev pub IsSeparator : Part → List ℕ → List ℕ → Type 0
IsSeparator part [] rest = ⊥
IsSeparator part (byte ∷ []) rest = belongs Blank byte ≡ true
IsSeparator part (first ∷ second ∷ inside) rest =
    (comment : Comment) × Opens part comment first second × Closes comment inside rest

-- the bytes are blanks and comments before the rest, one after the other, maybe none
abbrev pub IsGap : Part → List ℕ → List ℕ → Type 0
IsGap part gap rest = IsRow (IsSeparator part) gap rest

-- no blank and no comment begins here
abbrev pub IsAtToken : Part → List ℕ → Type 0
IsAtToken part [] = Unit {0}
IsAtToken part (byte ∷ []) = belongs Blank byte ≡ false
IsAtToken part (first ∷ second ∷ bytes) =
    (belongs Blank first ≡ false) × ((comment : Comment) → ¬ Opens part comment first second)

-- the rest of the text is a comment that doesn't end
abbrev pub IsUnclosed : Part → List ℕ → Type 0
IsUnclosed part [] = ⊥
IsUnclosed part (byte ∷ []) = ⊥
IsUnclosed part (first ∷ second ∷ inside) =
    (comment : Comment) × Opens part comment first second × NeverCloses comment inside
