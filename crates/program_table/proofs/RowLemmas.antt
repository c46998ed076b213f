-- Rows, one site more and one task more.
use Rattle.std.proofs.Common.{◌≡◌, ◌+◌, ◌++◌, ◌∙◌, ◌∷◌, [], List, Some, ap, arith, drop, get_or, length, refl, slice_get, subst, suc, sym, ℕ}
use Rattle.std.proofs.Math.Seq.{drop-cons}
use Rattle.std.proofs.lemmas.Grind.{flat_map-append}
use Rattle.std.proofs.lemmas.List.{append_assoc}
use Rattle.std.proofs.lemmas.Option.{get_or_from_slice_get, slice_get_within}
use Rattle.std.specs.List.{flat_map}
use Rattle.access_types.specs.Sites.{AccessMap}
use Rattle.litmus_syntax.specs.Sites.{sites_of}
use Rattle.litmus_syntax.specs.Tree.{Task}
use Rattle.program_table.specs.Rows.{Words, row_of, rows_from, rows_of_task}
use Rattle.program_table.specs.declared.rows.SiteRow.{SiteRow}

next_number : (n : ℕ) → suc n ≡ n + 1
next_number n = omega arith

module _ (text : List ℕ) (places : List (List ℕ)) (words : Words) (sites : AccessMap) where
  pub rows_more : (task count : ℕ) → rows_of_task text places words sites task (count + 1)
      ≡ rows_of_task text places words sites task count ++ (row_of text places words sites task count ∷ [])
  rows_more task count =
      subst (λ (n : ℕ). rows_of_task text places words sites task n
      ≡ rows_of_task text places words sites task count ++ (row_of text places words sites task count ∷ [])) (next_number count) refl

  left : (tasks : List Task) (number : ℕ) (task : Task) → slice_get tasks number ≡ Some task → drop number tasks ≡ task ∷ drop (number + 1) tasks
  left tasks number task there =
      let whole : drop number tasks ≡ get_or tasks number task ∷ drop (suc number) tasks = drop-cons tasks number task (slice_get_within tasks number task there) in
      let is : get_or tasks number task ≡ task = get_or_from_slice_get tasks number task task there in
      subst (λ (n : ℕ). drop number tasks ≡ task ∷ drop n tasks) (next_number number)
      (subst (λ (first : Task). drop number tasks ≡ first ∷ drop (suc number) tasks) is whole)

  -- the lines of a task, and those of the tasks behind it
  pub lines_left : (line : SiteRow → List ℕ) (tasks : List Task) (number : ℕ) (task : Task) (lines : List ℕ) → slice_get tasks number ≡ Some task
      → (lines ++ flat_map line (rows_of_task text places words sites number (length (sites_of task.body))))
      ++ flat_map line (rows_from text places words sites (number + 1) (drop (number + 1) tasks))
      ≡ lines ++ flat_map line (rows_from text places words sites number (drop number tasks))
  lines_left line tasks number task lines there =
      let own : List SiteRow = rows_of_task text places words sites number (length (sites_of task.body)) in
      let more : List SiteRow = rows_from text places words sites (number + 1) (drop (number + 1) tasks) in
      let rows : rows_from text places words sites number (drop number tasks) ≡ own ++ more =
      ap (λ (ts : List Task). rows_from text places words sites number ts) (left tasks number task there)
      ∙ ap (λ (n : ℕ). own ++ rows_from text places words sites n (drop (number + 1) tasks)) (next_number number) in
      let flat : flat_map line (rows_from text places words sites number (drop number tasks)) ≡ flat_map line own ++ flat_map line more =
      ap (flat_map line) rows ∙ flat_map-append line own more in
      append_assoc lines (flat_map line own) (flat_map line more) ∙ ap (λ (t : List ℕ). lines ++ t) (sym flat)
