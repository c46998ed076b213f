-- What the code found at a place is the first token there, and so the tokens from the place on
-- are those behind it.
use Rattle.std.proofs.Common.{◌≡◌, ℕ, ◌+◌, ◌<◌, ◌≤◌, List, [], ◌++◌, ◌∙◌, Option, Some, None, ap, append-nil, arith, drop, length, length-append, length-drop, length-take-le, refl, subst, sym, take}
use Rattle.std.specs.Prelude.{MatchOption}
use Rattle.std.proofs.Math.Seq.{drop-length}
use Rattle.std.proofs.lemmas.List.{drop-drop, take-append-drop}
use Rattle.litmus_lex.specs.declared.token.Part.{Part}
use Rattle.litmus_lex.specs.declared.token.SourcePosition.{SourcePosition}
use Rattle.litmus_lex.specs.Gap.{IsAtToken, IsGap, IsUnclosed}
use Rattle.litmus_lex.specs.Token.{Terminal, name, unclosed, Spells}
use Rattle.litmus_lex.specs.Tokens.{Placed, First, Continues, StartsAt, part_after, part_behind, place_of}
use Rattle.litmus_lex.specs.Found.{SpellsClosed}
use Rattle.litmus_lex.proofs.UniqueTokens.{tokens_at, tokens_behind, tokens_end}

-- a token that is no open comment begins where a token begins, and stands at its first byte
record IsClosed (part : Part) (t : Terminal) (a x bytes : List ℕ) (at : ℕ) : Type 0 where
  pub starts : StartsAt part t bytes
  pub spells : Spells t a x
  pub place : place_of t at a ≡ at

closed_token : (part : Part) (t : Terminal) (a x bytes : List ℕ) (at : ℕ) → SpellsClosed t a x
    → IsAtToken part bytes → IsClosed part t a x bytes at
closed_token part unclosed a x bytes at spells token = absurd spells
closed_token part (name n) a x bytes at spells token =
    record { starts = token; spells = spells; place = refl }
closed_token part t a x bytes at spells token =
    record { starts = token; spells = spells; place = refl }

-- from the first token of the bytes from a place on
follows_first : (text : List ℕ) (place : SourcePosition) (next_part : Part) (next : ℕ) (token : Placed)
    (f : First place.part place.at (drop place.at text) token)
    → part_after place.part token.terminal ≡ next_part
    → place.at + length f.gap + length f.spelled ≡ next → f.rest ≡ drop next text
    → Continues text place (Some token.terminal) token.at next_part next
follows_first text place next_part next token f part at rest tokens =
    let behind = tokens_behind place.part place.at (drop place.at text) token f tokens in (
      λ are. let more = behind.0 are in
          (more.0, more.1, tokens_at _ _ _ _ _ _ more.0 part at rest more.2),
      λ some. behind.1 (
        some.0,
        some.1,
        tokens_at _ _ _ _ _ _ some.0 (sym part) (sym at) (sym rest) some.2,
      ),
    )

pub follows : (text : List ℕ) (place : SourcePosition) (next_part : Part) (next : ℕ) (bytes more : List ℕ)
    (len size : ℕ) (o : Option Terminal)
    → bytes ≡ drop place.at text → more ≡ drop len bytes → len ≤ length bytes
    → IsGap place.part (take len bytes) (drop len bytes) → IsAtToken place.part (drop len bytes)
    → size ≤ length more
    → MatchOption o (more ≡ [])
    (λ terminal. (0 < size) × SpellsClosed terminal (take size more) (drop size more))
    → next ≡ place.at + len + size → next_part ≡ part_behind place.part o
    → Continues text place o (place.at + len) next_part next
follows text place next_part next bytes more len size None bytes_are more_is within gap token
    fits spells at part =
    let nothing : drop len bytes ≡ [] = sym more_is ∙ spells in
    let all : take len bytes ≡ bytes = sym (append-nil (take len bytes))
    ∙ (ap (λ xs. take len bytes ++ xs) (sym nothing) ∙ take-append-drop len bytes) in
    let whole : IsGap place.part bytes [] =
    subst (λ xs. IsGap place.part xs []) all
    (subst (IsGap place.part (take len bytes)) nothing gap) in
    tokens_end place.part place.at (drop place.at text)
    (subst (λ xs. IsGap place.part xs []) bytes_are whole)
follows text place next_part next bytes more len size
    (Some terminal) bytes_are more_is within gap token fits spells at part =
    let is = closed_token place.part terminal (take size more) (drop size more) (drop len bytes)
    (place.at + len) spells.1 token in
    let tail : drop len bytes ≡ take size more ++ drop size more =
    sym more_is ∙ sym (take-append-drop size more) in
    let gap_len = length-take-le len bytes within in
    let size_is = length-take-le size more fits in
    let here : place.at + length (take len bytes) ≡ place.at + len =
    ap (λ n. place.at + n) gap_len in
    let first : First place.part place.at (drop place.at text)
    (record { terminal = terminal; at = place.at + len }) = record {
      gap = take len bytes;
      spelled = take size more;
      rest = drop size more;
      whole = sym bytes_are
          ∙ (sym (take-append-drop len bytes) ∙ ap (λ xs. take len bytes ++ xs) tail);
      separated = subst (IsGap place.part (take len bytes)) tail gap;
      starts = subst (StartsAt place.part terminal) tail is.starts;
      spells = is.spells;
      place = sym (ap (λ n. place_of terminal n (take size more)) here ∙ is.place);
    } in
    let rest : drop size more ≡ drop next text =
    ap (drop size) (more_is ∙ ap (drop len) bytes_are)
    ∙ (ap (drop size) (drop-drop len place.at text)
    ∙ (drop-drop size (place.at + len) text ∙ ap (λ n. drop n text) (sym at))) in
    follows_first text place next_part next
    (record { terminal = terminal; at = place.at + len }) first (sym part)
    (omega (arith, gap_len, size_is)) rest

-- a comment that doesn't end is the last token
pub follows_unclosed : (text : List ℕ) (place : SourcePosition) (next_part : Part) (next : ℕ)
    (bytes gap comment : List ℕ)
    → place.at ≤ length text → bytes ≡ drop place.at text → bytes ≡ gap ++ comment
    → IsGap place.part gap comment → IsUnclosed place.part comment
    → next ≡ length text → next_part ≡ place.part
    → Continues text place (Some unclosed) (length text) next_part next
follows_unclosed text place next_part next bytes gap comment within bytes_are splits is_gap
    open_comment at part =
    let sizes = sym (length-append gap comment)
    ∙ (ap length (sym splits ∙ bytes_are) ∙ length-drop place.at text) in
    let ends : place.at + length gap + length comment ≡ length text = omega arith in
    let tail : comment ≡ comment ++ [] = sym (append-nil comment) in
    let first : First place.part place.at (drop place.at text)
    (record { terminal = unclosed; at = length text }) = record {
      gap = gap;
      spelled = comment;
      rest = [];
      whole = sym bytes_are ∙ (splits ∙ ap (λ xs. gap ++ xs) tail);
      separated = subst (IsGap place.part gap) tail is_gap;
      starts = subst (IsUnclosed place.part) tail open_comment;
      spells = refl;
      place = sym ends;
    } in
    let none : [] ≡ drop next text = sym (ap (λ n. drop n text) at ∙ drop-length text) in
    follows_first text place next_part next
    (record { terminal = unclosed; at = length text }) first (sym part) (ends ∙ sym at) none
