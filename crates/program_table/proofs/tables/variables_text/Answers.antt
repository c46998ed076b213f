-- The lines are those of the variables where these stand.
use Rattle.std.proofs.Common.{◌≡◌, ◌++◌, ◌∙◌, ℕ, [], List, ap, codes}
use Rattle.prepared_program.specs.program_layout.Places.{places_of}
use Rattle.program_table.specs.Table.{variables_text}
use Rattle.program_table.proofs.tables.variables_text.Goals as goal

-- a table behind its head
one_table : (first x a : List ℕ) → x ≡ a → first ++ (x ++ []) ≡ first ++ (a ++ [])
one_table first x a p = ap (λ t. first ++ (t ++ [])) p

pub returns : goal.returns
unfolding variables_text
returns c = λ settings ready.
    let lines = rw (c.as_slice.ensures, c.deref.ensures) at c.in_ok-lines.ensures in
    c.in_ok-found.ensures
    ∙ one_table (codes "\nvariable                          type        address             initial value\n") _ _
    (c.deref-2.ensures.value ∙ lines (places_of settings.places.items) ready.lays)
