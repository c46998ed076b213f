-- what is drawn of rows, one row after the other
use Rattle.std.proofs.Common.{◌≡◌, ◌+◌, ◌<◌, ◌++◌, ◌∷◌, ◌∙◌, ℕ, List, [], Option, ap, append_assoc, append-nil, arith, drop, get_or, length, subst, sym, take}
use Rattle.std.proofs.lemmas.List.{at_drop_more, length-take-le, take-append-drop, take_more}
use Rattle.timeline.specs.declared.picture.rows.Row.{Row}
use Rattle.report_text.specs.Sink.{FailsWithin, Takes}
use Rattle.report_text.proofs.SinkSteps.{fails_first, fails_second, takes_both}
use Rattle.timeline.specs.declared.picture.draw.Picture.{Picture}
use Rattle.timeline.specs.declared.picture.labels.Label.{Label}
use Rattle.picture_svg.specs.declared.lanes.Lanes.{Lanes}
use Rattle.picture_svg.specs.Marks.{row_marks, rows_marks}

module _ (picture : Picture) (labels : List Label) (lanes : Lanes) where
  abbrev one : ℕ → Row → List ℕ
  one place row = row_marks picture labels lanes place row

  abbrev drawn : ℕ → List Row → List ℕ
  drawn place rows = rows_marks picture labels lanes place rows

  -- those behind stand as many places further down
  marks-append : (place : ℕ) (xs ys : List Row)
      → drawn place (xs ++ ys) ≡ drawn place xs ++ drawn (place + length xs) ys
  marks-append place [] ys =
      let here : place ≡ place + length {A = Row} [] = omega arith in
      ap (λ n. drawn n ys) here
  marks-append place (x ∷ xs) ys =
      let further : place + 1 + length xs ≡ place + length (x ∷ xs) = omega arith in
      ap (λ t. one place x ++ t)
      (marks-append (place + 1) xs ys ∙ ap (λ n. drawn (place + 1) xs ++ drawn n ys) further)
      ∙ sym (append_assoc (one place x) (drawn (place + 1) xs) (drawn (place + length (x ∷ xs)) ys))

  -- behind the first of them
  marks_behind : (xs ys : List Row) (i : ℕ) → i < length xs
      → drawn 0 (take i xs ++ ys) ≡ drawn 0 (take i xs) ++ drawn i ys
  marks_behind xs ys i within =
      let here : 0 + length (take i xs) ≡ i = omega (arith, length-take-le i xs (omega arith)) in
      marks-append 0 (take i xs) ys ∙ ap (λ n. drawn 0 (take i xs) ++ drawn n ys) here

  -- one row more
  marks_more : (xs : List Row) (i : ℕ) (x : Row) → i < length xs → x ≡ get_or xs i x
      → drawn 0 (take i xs) ++ one i x ≡ drawn 0 (take (i + 1) xs)
  marks_more xs i x within is =
      let more : take (i + 1) xs ≡ take i xs ++ x ∷ [] = take_more xs i x within ∙ ap (λ y. take i xs ++ y ∷ []) (sym is) in
      sym (ap (λ t. drawn 0 t) more ∙ marks_behind xs (x ∷ []) i within
      ∙ ap (λ t. drawn 0 (take i xs) ++ t) (append-nil (one i x)))

  -- those so far, one more, and the others
  marks_all : (xs : List Row) (i : ℕ) (x : Row) → i < length xs → x ≡ get_or xs i x
      → drawn 0 (take i xs) ++ (one i x ++ drawn (i + 1) (drop (i + 1) xs)) ≡ drawn 0 xs
  marks_all xs i x within is =
      ap (λ y. drawn 0 (take i xs) ++ (one i y ++ drawn (i + 1) (drop (i + 1) xs))) is
      ∙ ap (λ t. drawn 0 (take i xs) ++ t) (sym (at_drop_more (λ ys. drawn i ys) xs i x within))
      ∙ sym (marks_behind xs (drop i xs) i within)
      ∙ ap (λ ys. drawn 0 ys) (take-append-drop i xs)

  module _ {S : Type 0} (written : S → Option (List ℕ)) (failures : S → ℕ) where
    -- one row more is drawn
    pub takes_row : (rows : List Row) (i : ℕ) (x : Row) (a b c : S) → i < length rows → x ≡ get_or rows i x
        → Takes written failures (drawn 0 (take i rows)) a b → Takes written failures (one i x) b c
        → Takes written failures (drawn 0 (take (i + 1) rows)) a c
    takes_row rows i x a b c within is h k = subst (λ t. Takes written failures t a c) (marks_more rows i x within is)
        (takes_both written failures (drawn 0 (take i rows)) (one i x) a b c h k)

    -- it failed within a row
    pub fails_row : (rows : List Row) (i : ℕ) (x : Row) (a b c : S) → i < length rows → x ≡ get_or rows i x
        → Takes written failures (drawn 0 (take i rows)) a b → FailsWithin written failures (one i x) b c
        → FailsWithin written failures (drawn 0 rows) a c
    fails_row rows i x a b c within is h k = subst (λ t. FailsWithin written failures t a c) (marks_all rows i x within is)
        (fails_second written failures (drawn 0 (take i rows)) (one i x ++ drawn (i + 1) (drop (i + 1) rows)) a b c h
        (fails_first written failures (one i x) (drawn (i + 1) (drop (i + 1) rows)) b c k))
