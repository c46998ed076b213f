-- One entry more has one value more.
use Rattle.std.proofs.Common.{◌≡◌, ◌∙◌, ◌+◌, ◌<◌, ◌++◌, ◌∷◌, [], ℕ, List, ap, arith, get_or, length, map, sym, take}
use Rattle.std.proofs.lemmas.List.{map_more}
use Rattle.part_search.specs.part_file.Values.{entry_data}
use Rattle.prepared_program.specs.declared.step_schedule.schedule.Entry.{Entry}
use Rattle.serde_json.specs.Data.{Data}
use Rattle.part_search.proofs.part_file.values.entry_values.Goals as goal

one_more : (entries : List Entry) (i : ℕ) (d : Entry) (before after : List Data) → i < length entries
    → after ≡ before ++ entry_data (get_or entries i d) ∷ [] → before ≡ map entry_data (take i entries)
    → after ≡ map entry_data (take (i + 1) entries)
one_more entries i d before after within is so_far =
    is ∙ ap (λ (all : List Data). all ++ entry_data (get_or entries i d) ∷ []) so_far ∙ sym (map_more entry_data entries i d within)

pub loop-entry-preserved : goal.loop-entry-preserved
loop-entry-preserved c =
    one_more c.args.entries.now c.loop-entry.entry-index _ _ _ (omega arith) (c.in_ok-add_item.ensures _ c.entry_value.ensures) c.loop-entry.invariant
