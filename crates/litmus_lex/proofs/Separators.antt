-- Blanks and comments at the front of some bytes, and rows of pieces.
use Rattle.std.proofs.Common.{◌≡◌, ℕ, suc, ◌+◌, ◌<◌, ◌≤◌, List, [], ◌∷◌, ◌++◌, ◌∙◌, append_assoc, append-nil, ap, arith, drop, get_or, length, refl, subst, sym, take}
use Rattle.std.proofs.lemmas.List.{drop-drop, take-append-drop}
use Rattle.std.proofs.Math.Seq.{take-add}
use Rattle.litmus_lex.specs.declared.gap.Comment.{Comment}
use Rattle.litmus_lex.specs.declared.token.Part.{Part}
use Rattle.litmus_lex.specs.Bytes.{IsRow}
use Rattle.litmus_lex.specs.Gap.{Closes, IsSeparator, IsUnclosed, NeverCloses, Opens}

-- a piece stands at the front
pub record ComesFirst (Stands : List ℕ → List ℕ → Type 0) (bytes : List ℕ) (len : ℕ) : Type 0 where
  pub some : 0 < len
  pub within : len ≤ length bytes
  pub stands : Stands (take len bytes) (drop len bytes)

pub comment_first : (part : Part) (comment : Comment) (bytes inside : List ℕ) (len : ℕ)
    → 2 ≤ length bytes → inside ≡ drop 2 bytes
    → Opens part comment (get_or bytes 0 0) (get_or bytes 1 0)
    → len ≤ length inside → Closes comment (take len inside) (drop len inside)
    → ComesFirst (IsSeparator part) bytes (2 + len)
comment_first part comment [] inside len two is opens within closes = absurd (omega arith)
comment_first part comment (a ∷ []) inside len two is opens within closes = absurd (omega arith)
comment_first part comment (a ∷ b ∷ more) inside len two is opens within closes =
    let more_len : 2 + len ≡ suc (suc len) = omega arith in
    let fits : len ≤ length more = subst (λ xs. len ≤ length xs) is within in
    record {
      some = omega arith;
      within = omega arith;
      stands = rw more_len
          (comment, opens, subst (λ xs. Closes comment (take len xs) (drop len xs)) is closes);
    }

pub unclosed_first : (part : Part) (comment : Comment) (bytes inside : List ℕ) → 2 ≤ length bytes
    → inside ≡ drop 2 bytes
    → Opens part comment (get_or bytes 0 0) (get_or bytes 1 0) → NeverCloses comment inside
    → IsUnclosed part bytes
unclosed_first part comment [] inside two is opens never = absurd (omega arith)
unclosed_first part comment (a ∷ []) inside two is opens never = absurd (omega arith)
unclosed_first part comment (a ∷ b ∷ more) inside two is opens never =
    (comment, opens, subst (NeverCloses comment) is never)

-- Rows of pieces, where each stands before what follows it.
module _ (Stands : List ℕ → List ℕ → Type 0) where
  row_cons : (piece row rest : List ℕ) → Stands piece (row ++ rest) → IsRow Stands row rest
      → IsRow Stands (piece ++ row) rest
  row_cons piece row rest stands more = (
    piece ∷ more.0,
    ap (λ xs. piece ++ xs) more.1,
    (subst (λ xs. Stands piece (xs ++ rest)) more.1 stands, more.2),
  )

  -- one more piece is passed over
  pub row_goes_on : (bytes after : List ℕ) (len more : ℕ) → after ≡ drop len bytes
      → ((row rest : List ℕ) → drop len bytes ≡ row ++ rest → IsRow Stands row rest
      → IsRow Stands (take len bytes ++ row) rest)
      → ComesFirst Stands after more
      → (row rest : List ℕ) → drop (len + more) bytes ≡ row ++ rest → IsRow Stands row rest
      → IsRow Stands (take (len + more) bytes ++ row) rest
  row_goes_on bytes after len more is before first row rest splits is_row =
      let left : drop more after ≡ row ++ rest = ap (λ xs. drop more xs) is
      ∙ (drop-drop more len bytes ∙ splits) in
      let stands : Stands (take more after) (row ++ rest) =
      subst (λ xs. Stands (take more after) xs) left first.stands in
      let front : take (len + more) bytes ++ row ≡ take len bytes ++ (take more after ++ row) =
      ap (λ xs. xs ++ row)
      (take-add len more bytes ∙ ap (λ xs. take len bytes ++ take more xs) (sym is))
      ∙ append_assoc (take len bytes) (take more after) row in
      let whole : drop len bytes ≡ (take more after ++ row) ++ rest =
      sym is ∙ (sym (take-append-drop more after)
      ∙ (ap (λ xs. take more after ++ xs) left
      ∙ sym (append_assoc (take more after) row rest))) in
      subst (λ xs. IsRow Stands xs rest) (sym front)
      (before (take more after ++ row) rest whole
      (row_cons (take more after) row rest stands is_row))

  -- the pieces up to a place, from what holds of them whatever follows
  pub row_so_far : (bytes : List ℕ) (len : ℕ)
      → ((row rest : List ℕ) → drop len bytes ≡ row ++ rest → IsRow Stands row rest
      → IsRow Stands (take len bytes ++ row) rest)
      → IsRow Stands (take len bytes) (drop len bytes)
  row_so_far bytes len before =
      subst (λ xs. IsRow Stands xs (drop len bytes)) (append-nil (take len bytes))
      (before [] (drop len bytes) refl ([], refl, tt))
