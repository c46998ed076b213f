-- What is gone over in a head is what the head passes over.
use Rattle.std.proofs.Common.{◌≡◌, ◌∙◌, ◌+◌, ◌-◌, ◌<◌, ◌++◌, ◌∷◌, [], ℕ, Bool, List, None, Option, Some, add-one, ap, ap₂, append_assoc}
use Rattle.std.proofs.Common.{arith, drop, false, inl, inr, length, length-append, ne_eqb, refl, subst, suc, sym, true, zero-add}
use Rattle.std.specs.Prelude.{◌==◌, ◌&&◌, if◌then◌else◌, option_and_then, slice_index}
use Rattle.std.specs.List.{concat}
use Rattle.std.proofs.lemmas.Bool.{not-true}
use Rattle.std.proofs.lemmas.List.{drop_more, get_or-drop}
use Rattle.std.proofs.lemmas.Bool.Decides.{eqb_tells, nat_tests}
use Rattle.std.proofs.Math.Bool.{and-false}
use Rattle.std.proofs.Math.Nat.{add-zero}
use Rattle.std.proofs.Math.Seq.{drop-append-add}
use Rattle.litmus_lex.specs.Bytes.{EndsAtPair, InRow, IsRun, belongs}
use Rattle.litmus_lex.specs.Gap.{IsAtToken, IsSeparator}
use Rattle.litmus_lex.specs.Head.{IsAtBrace, IsHead, IsOther, IsPassed, IsQuoted}
use Rattle.litmus_lex.specs.declared.bytes.Class.TheVariants as classes
use Rattle.litmus_lex.specs.declared.gap.Comment.TheVariants as comments
use Rattle.litmus_lex.specs.declared.token.Part.TheVariants.{Head}
use Rattle.check_warnings.specs.HeadScan.{after_step, passed_text, piece_step, step_of, text_at, text_behind}
use Rattle.check_warnings.specs.HeadText.{first_text, text_from, text_in}
use Rattle.check_warnings.specs.declared.head_text.Step.{Step}
use Rattle.check_warnings.specs.declared.head_text.Step.TheVariants.{End, Text, To}
use Rattle.check_warnings.specs.declared.head_text.Within.{Within}
use Rattle.check_warnings.specs.declared.head_text.Within.TheVariants as within

-- one byte is gone over
one_step : (w : Within) (at byte : ℕ) (rest : List ℕ) (step : Step) → step_of w byte (slice_index rest 0) ≡ step
    → text_at w at (byte ∷ rest) ≡ after_step step at (λ next. text_at next (suc at) rest)
one_step w at byte rest step is = ap (λ (s : Step). after_step s at (λ next. text_at next (suc at) rest)) is

-- at another place that is the same
at_place : (w : Within) (one other : ℕ) (bytes : List ℕ) → one ≡ other → text_at w one bytes ≡ text_at w other bytes
at_place w one other bytes same = ap (λ n. text_at w n bytes) same

-- what a byte that begins a piece leads to
blank_step : (byte next : ℕ) → belongs classes.Blank byte ≡ true → piece_step byte next ≡ To within.Pieces
blank_step byte next is =
    ap (λ (b : Bool). if b then To within.Pieces else (if byte == 34 then To within.Quotes else (if byte == 123 then End
    else (if byte == 40 && next == 42 then To within.Opening else Text)))) is

other_step : (byte next : ℕ) → belongs classes.Blank byte ≡ false → (byte == 34) ≡ false → (byte == 123) ≡ false
    → (byte == 40 && next == 42) ≡ false → piece_step byte next ≡ Text
other_step byte next blank quote brace comment =
    ap (λ (b : Bool). if b then To within.Pieces else (if byte == 34 then To within.Quotes else (if byte == 123 then End
    else (if byte == 40 && next == 42 then To within.Opening else Text)))) blank
    ∙ (ap (λ (b : Bool). if b then To within.Quotes else (if byte == 123 then End
    else (if byte == 40 && next == 42 then To within.Opening else Text))) quote
    ∙ (ap (λ (b : Bool). if b then End else (if byte == 40 && next == 42 then To within.Opening else Text)) brace
    ∙ ap (λ (b : Bool). if b then To within.Opening else Text) comment))

-- a pair of bytes that isn't this one
no_pair : (a b x y : ℕ) → ((a ≡ x) × (b ≡ y) → ⊥) → (a == x && b == y) ≡ false
no_pair a b x y other = elim (eqb_tells a x) [
  | inl is ↦ ap (λ (t : Bool). t && b == y) is.0 ∙ ne_eqb b y (λ too. other (is.1, too))
  | inr is_not ↦ ap (λ (t : Bool). t && b == y) is_not.0
]

this_pair : (a b x y : ℕ) → a ≡ x → b ≡ y → (a == x && b == y) ≡ true
this_pair a b x y one other = grind (arith, nat_tests)

-- a comment is gone over up to its end
over_comment : (at : ℕ) (inside rest : List ℕ) → EndsAtPair 42 41 inside
    → text_at within.Comment at (inside ++ rest) ≡ text_at within.Pieces (at + length inside) rest
over_comment at [] rest ends = absurd ends
over_comment at (a ∷ []) rest ends = absurd ends
over_comment at (a ∷ b ∷ []) rest ends =
    one_step within.Comment at a (b ∷ rest) (To within.Closing)
    (ap (λ (t : Bool). if t then To within.Closing else To within.Comment) (this_pair a b 42 41 ends.0 ends.1))
    ∙ at_place within.Pieces (suc (suc at)) (at + 2) rest (omega arith)
over_comment at (a ∷ b ∷ c ∷ more) rest ends =
    one_step within.Comment at a (b ∷ c ∷ (more ++ rest)) (To within.Comment)
    (ap (λ (t : Bool). if t then To within.Closing else To within.Comment) (no_pair a b 42 41 ends.0))
    ∙ (over_comment (suc at) (b ∷ c ∷ more) rest ends.1
    ∙ at_place within.Pieces (suc at + length (b ∷ c ∷ more)) (at + length (a ∷ b ∷ c ∷ more)) rest (omega arith))

-- a text in quotes is gone over up to its end
over_quotes : (at : ℕ) (quoted rest : List ℕ) → IsRun classes.InQuotes quoted (34 ∷ [])
    → text_at within.Quotes at (quoted ++ 34 ∷ rest) ≡ text_at within.Pieces (at + length quoted + 1) rest
over_quotes at [] rest run = at_place within.Pieces (suc at) (at + 0 + 1) rest (omega arith)
over_quotes at (b ∷ quoted) rest run =
    let inside : (b == 34) ≡ false = no_quote b run.0 in
    one_step within.Quotes at b (quoted ++ 34 ∷ rest) (To within.Quotes)
    (ap (λ (t : Bool). if t then To within.Pieces else To within.Quotes) inside)
    ∙ (over_quotes (suc at) quoted rest run.1
    ∙ at_place within.Pieces (suc at + length quoted + 1) (at + length (b ∷ quoted) + 1) rest (omega arith)) where
      no_quote : (b : ℕ) → belongs classes.InQuotes b ≡ true → (b == 34) ≡ false
      no_quote b is = not-true (b == 34) is

-- a blank or a comment is gone over
over_separator : (at : ℕ) (piece rest : List ℕ) → IsSeparator Head piece rest
    → text_at within.Pieces at (piece ++ rest) ≡ text_at within.Pieces (at + length piece) rest
over_separator at [] rest stands = absurd stands
over_separator at (byte ∷ []) rest stands =
    one_step within.Pieces at byte rest (To within.Pieces) (blank_step byte (slice_index rest 0) stands)
    ∙ at_place within.Pieces (suc at) (at + 1) rest (omega arith)
over_separator at (a ∷ b ∷ inside) rest (comments.Parens, opens, closes) =
    ap₂ (λ (m n : ℕ). text_at within.Pieces at (m ∷ n ∷ (inside ++ rest))) opens.1 opens.2
    ∙ (over_comment (suc (suc at)) inside rest closes
    ∙ at_place within.Pieces (suc (suc at) + length inside) (at + length (a ∷ b ∷ inside)) rest (omega arith))
over_separator at (a ∷ b ∷ inside) rest (comments.Slashes, opens, closes) = absurd opens.0
over_separator at (a ∷ b ∷ inside) rest (comments.Line, opens, closes) = absurd opens.0

-- so is a text in quotes
over_quoted : (at : ℕ) (piece rest : List ℕ) → IsQuoted piece
    → text_at within.Pieces at (piece ++ rest) ≡ text_at within.Pieces (at + length piece) rest
over_quoted at piece rest (inside, begins, (quoted, ends, run)) =
    let is : piece ≡ 34 ∷ (quoted ++ 34 ∷ []) = begins ∙ ap (λ (xs : List ℕ). 34 ∷ xs) ends in
    let size : length piece ≡ length quoted + 2 = ap (λ (xs : List ℕ). length xs) is ∙ omega (arith, length-append {A = ℕ}) in
    ap (λ (xs : List ℕ). text_at within.Pieces at (xs ++ rest)) is
    ∙ (ap (λ (xs : List ℕ). text_at within.Quotes (suc at) xs) (append_assoc quoted (34 ∷ []) rest)
    ∙ (over_quotes (suc at) quoted rest run
    ∙ at_place within.Pieces (suc at + length quoted + 1) (at + length piece) rest (omega arith)))

-- text is found
at_other : (at : ℕ) (piece rest : List ℕ) → IsOther piece rest → text_at within.Pieces at (piece ++ rest) ≡ Some at
at_other at piece rest (byte, is, no_brace, no_quote, token) =
    ap (λ (xs : List ℕ). text_at within.Pieces at (xs ++ rest)) is
    ∙ one_step within.Pieces at byte rest Text
    (other_step byte (slice_index rest 0) (no_blank rest token) (ne_eqb byte 34 no_quote) (ne_eqb byte 123 no_brace) (no_comment rest token)) where
      no_blank : (bytes : List ℕ) → IsAtToken Head (byte ∷ bytes) → belongs classes.Blank byte ≡ false
      no_blank [] token = token
      no_blank (next ∷ bytes) token = token.0

      no_comment : (bytes : List ℕ) → IsAtToken Head (byte ∷ bytes) → (byte == 40 && slice_index bytes 0 == 42) ≡ false
      no_comment [] token = and-false (byte == 40)
      no_comment (next ∷ bytes) token = no_pair byte next 40 42 (λ both. token.1 comments.Parens (tt, both.0, both.1))

-- a piece that a head passes over is gone over, where it is no text
over_piece : (at : ℕ) (piece rest : List ℕ) (stands : IsPassed piece rest) (later : Option ℕ)
    → text_at within.Pieces (at + length piece) rest ≡ later
    → text_at within.Pieces at (piece ++ rest) ≡ first_text piece rest stands at later
over_piece at piece rest (inl separator) later found = over_separator at piece rest separator ∙ found
over_piece at piece rest (inr (inl quoted)) later found = over_quoted at piece rest quoted ∙ found
over_piece at piece rest (inr (inr text)) later found = at_other at piece rest text

-- what a head passes over is gone over, up to text or to the brace
over_passed : (at : ℕ) (pieces : List (List ℕ)) (rest : List ℕ) (row : InRow IsPassed pieces rest) → IsAtBrace rest
    → text_at within.Pieces at (concat pieces ++ rest) ≡ text_from at pieces rest row
over_passed at [] [] row brace = absurd brace
over_passed at [] (first ∷ bytes) row brace = ap (λ (b : ℕ). text_at within.Pieces at (b ∷ bytes)) brace
over_passed at (piece ∷ pieces) rest row brace =
    ap (λ (xs : List ℕ). text_at within.Pieces at xs) (append_assoc piece (concat pieces) rest)
    ∙ over_piece at piece (concat pieces ++ rest) row.0 (text_from (at + length piece) pieces rest row.1)
    (over_passed (at + length piece) pieces rest row.1 brace)

-- blanks and comments are gone over
over_gap : (at : ℕ) (pieces : List (List ℕ)) (rest : List ℕ) → InRow (IsSeparator Head) pieces rest
    → text_at within.Pieces at (concat pieces ++ rest) ≡ text_at within.Pieces (at + length (concat pieces)) rest
over_gap at [] rest row = at_place within.Pieces at (at + 0) rest (omega arith)
over_gap at (piece ∷ pieces) rest row =
    ap (λ (xs : List ℕ). text_at within.Pieces at xs) (append_assoc piece (concat pieces) rest)
    ∙ (over_separator at piece (concat pieces ++ rest) row.0
    ∙ (over_gap (at + length piece) pieces rest row.1
    ∙ at_place within.Pieces (at + length piece + length (concat pieces)) (at + length (piece ++ concat pieces)) rest
    (omega (arith, length-append {A = ℕ}))))

-- the blanks before the test's name are gone over
over_blanks : (at : ℕ) (blanks rest : List ℕ) → IsRun classes.Blank blanks rest
    → text_at within.Blanks at (blanks ++ rest) ≡ text_at within.Blanks (at + length blanks) rest
over_blanks at [] rest run = at_place within.Blanks at (at + 0) rest (omega arith)
over_blanks at (b ∷ blanks) rest run =
    one_step within.Blanks at b (blanks ++ rest) (To within.Blanks)
    (ap (λ (t : Bool). if t then To within.Blanks else To within.Name) run.0)
    ∙ (over_blanks (suc at) blanks rest run.1
    ∙ at_place within.Blanks (suc at + length blanks) (at + length (b ∷ blanks)) rest (omega arith))

-- and its bytes, behind the first
over_name : (at : ℕ) (name rest : List ℕ) → IsRun classes.Graphic name rest
    → text_at within.Name at (name ++ rest) ≡ text_at within.Pieces (at + length name) rest
over_name at [] [] run = refl
over_name at [] (next ∷ rest) run =
    one_step within.Name at next rest (piece_step next (slice_index rest 0))
    (ap (λ (t : Bool). if t then To within.Name else piece_step next (slice_index rest 0)) run)
    ∙ at_place within.Pieces at (at + 0) (next ∷ rest) (omega arith)
over_name at (b ∷ name) rest run =
    one_step within.Name at b (name ++ rest) (To within.Name)
    (ap (λ (t : Bool). if t then To within.Name else piece_step b (slice_index (name ++ rest) 0)) run.0)
    ∙ (over_name (suc at) name rest run.1
    ∙ at_place within.Pieces (suc at + length name) (at + length (b ∷ name)) rest (omega arith))

-- the first byte of the name is no blank
over_title : (at : ℕ) (blanks name rest : List ℕ) → IsRun classes.Blank blanks (name ++ rest) → 0 < length name
    → IsRun classes.Graphic name rest
    → text_at within.Blanks at (blanks ++ (name ++ rest)) ≡ text_at within.Pieces (at + length blanks + length name) rest
over_title at blanks [] rest blank some run = absurd (omega (arith, some))
over_title at blanks (b ∷ name) rest blank some run =
    over_blanks at blanks (b ∷ (name ++ rest)) blank
    ∙ (one_step within.Blanks (at + length blanks) b (name ++ rest) (To within.Name)
    (ap (λ (t : Bool). if t then To within.Blanks else To within.Name) (next_is_none blanks (name ++ rest) blank))
    ∙ (over_name (suc (at + length blanks)) name rest run.1
    ∙ at_place within.Pieces (suc (at + length blanks) + length name) (at + length blanks + length (b ∷ name)) rest (omega arith))) where
      next_is_none : (bytes more : List ℕ) → IsRun classes.Blank bytes (b ∷ more) → belongs classes.Blank b ≡ false
      next_is_none [] more run = run
      next_is_none (first ∷ bytes) more run = next_is_none bytes more run.1

-- where text is first in a head
pub scanned : (text name : List ℕ) (at : ℕ) (head : IsHead text name at) → passed_text text ≡ text_in head
scanned text name at head =
    let gap = head.separated.0 in
    let letter = length (concat gap) in
    let behind = head.title.blanks ++ (name ++ head.behind) in
    let whole : text ≡ concat gap ++ 67 ∷ behind =
    head.whole ∙ (ap (λ (xs : List ℕ). xs ++ head.titled) head.separated.1 ∙ ap (λ (xs : List ℕ). concat gap ++ xs) head.title.whole) in
    let first : text_at within.Pieces 0 text ≡ Some letter =
    ap (λ (xs : List ℕ). text_at within.Pieces 0 xs) whole
    ∙ (over_gap 0 gap (67 ∷ behind) (subst (λ (xs : List ℕ). InRow (IsSeparator Head) gap xs) head.title.whole head.separated.2)
    ∙ ap (λ (n : ℕ). Some n) (zero-add letter)) in
    let rest : drop (letter + 1) text ≡ behind = ap (λ (xs : List ℕ). drop (letter + 1) xs) whole ∙ drop-append-add (concat gap) (67 ∷ behind) 1 in
    let start = letter + 1 + length head.title.blanks + length name in
    let size : start ≡ length text - length head.behind =
    let sizes = ap (λ (xs : List ℕ). length xs) whole in omega (arith, sizes, length-append {A = ℕ}) in
    ap (λ (found : Option ℕ). option_and_then (text_behind text) found) first
    ∙ (ap (λ (xs : List ℕ). text_at within.Blanks (letter + 1) xs) rest
    ∙ (over_title (letter + 1) head.title.blanks name head.behind head.title.blank head.title.some_name head.title.longest
    ∙ (at_place within.Pieces start (length text - length head.behind) head.behind size
    ∙ (ap (λ (xs : List ℕ). text_at within.Pieces (length text - length head.behind) xs)
    (head.tail ∙ ap (λ (xs : List ℕ). xs ++ head.rest) head.passes.1)
    ∙ over_passed (length text - length head.behind) head.passes.0 head.rest head.passes.2 head.brace))))

-- one byte of a text is gone over
pub at_step : (text : List ℕ) (w : Within) (at byte after : ℕ) (step : Step) → at < length text → byte ≡ slice_index text at
    → after ≡ slice_index text (at + 1) → step ≡ step_of w byte after
    → text_at w at (drop at text) ≡ after_step step at (λ next. text_at next (at + 1) (drop (at + 1) text))
at_step text w at byte after step within byte_is after_is step_is =
    let next : slice_index (drop (at + 1) text) 0 ≡ after =
    get_or-drop (at + 1) text 0 0 ∙ (ap (λ n. slice_index text n) (add-zero (at + 1)) ∙ sym after_is) in
    let same : step_of w (slice_index text at) (slice_index (drop (at + 1) text) 0) ≡ step =
    ap₂ (λ (m n : ℕ). step_of w m n) (sym byte_is) next ∙ sym step_is in
    ap (λ (xs : List ℕ). text_at w at xs) (drop_more text at 0 within)
    ∙ (one_step w at (slice_index text at) (drop (at + 1) text) step same
    ∙ ap (λ n. after_step step at (λ next. text_at next n (drop (at + 1) text))) (sym (add-one at)))

-- what is found from the `C` on is what is found in the head
pub nothing_found : (text : List ℕ) (result : Option ℕ) → None ≡ text_at within.Pieces 0 text → result ≡ None
    → (name : List ℕ) (at : ℕ) (head : IsHead text name at) → result ≡ text_in head
nothing_found text result none is name at head =
    is ∙ (ap (λ (found : Option ℕ). option_and_then (text_behind text) found) none ∙ scanned text name at head)

pub found_behind : (text : List ℕ) (letter : ℕ) (result : Option ℕ) → Some letter ≡ text_at within.Pieces 0 text
    → result ≡ text_behind text letter → (name : List ℕ) (at : ℕ) (head : IsHead text name at) → result ≡ text_in head
found_behind text letter result first is name at head =
    is ∙ (ap (λ (found : Option ℕ). option_and_then (text_behind text) found) first ∙ scanned text name at head)
