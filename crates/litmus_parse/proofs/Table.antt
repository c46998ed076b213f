-- One entry of a table is changed where its variable is.
use Rattle.std.proofs.Common.{◌≡◌, ◌∙◌, ℕ, List, Option, Some, None, map, sym, ap}
use Rattle.std.proofs.Math.Seq.{map-set_same}
use Rattle.std.proofs.lemmas.List.{map-set}
use Rattle.std.proofs.lemmas.Option.{get_or_from_slice_get, slice_get-map}
use Rattle.std.specs.Prelude.{option_map, set, slice_get}
use Rattle.litmus_lex.specs.Front.{◌>>=◌}
use Rattle.litmus_parse.specs.declared.declaration.Declared.{Declared}
use Rattle.litmus_parse.specs.VariableReader.{name_of}
use Rattle.litmus_parse.specs.Entries.{Entry, changed, changed_from, entry_of}

module _ (f : Entry → Option Entry) (ds : List Declared) (n : ℕ) where
  there : (o : Option Declared) → slice_get ds n ≡ o → slice_get (map entry_of ds) n ≡ option_map entry_of o
  there o e = slice_get-map entry_of ds n ∙ ap (option_map entry_of) e

  pub put : (d later : Declared) → slice_get ds n ≡ Some d → f (entry_of d) ≡ Some (entry_of later)
      → changed f (map entry_of ds) n ≡ Some (map entry_of (set ds n later))
  unfolding changed
  put d later is changes =
      ap (changed_from f (map entry_of ds) n) (there (Some d) is)
      ∙ ap (λ (o : Option Entry). o >>= λ g. Some (set (map entry_of ds) n g)) changes
      ∙ ap (λ (t : List Entry). Some t) (sym (map-set entry_of ds n later))

  pub refused : (d : Declared) → slice_get ds n ≡ Some d → f (entry_of d) ≡ None → changed f (map entry_of ds) n ≡ None
  unfolding changed
  refused d is changes =
      ap (changed_from f (map entry_of ds) n) (there (Some d) is)
      ∙ ap (λ (o : Option Entry). o >>= λ g. Some (set (map entry_of ds) n g)) changes

  pub absent : slice_get ds n ≡ None → changed f (map entry_of ds) n ≡ Some (map entry_of ds)
  unfolding changed
  absent is = ap (changed_from f (map entry_of ds) n) (there None is)

-- an entry that keeps its name leaves the names as they are
pub names_stay : (ds : List Declared) (n : ℕ) (d later : Declared) → slice_get ds n ≡ Some d → name_of later ≡ name_of d
    → map name_of (set ds n later) ≡ map name_of ds
names_stay ds n d later is same =
    map-set_same name_of ds n later d (same ∙ ap name_of (sym (get_or_from_slice_get ds n d d is)))
