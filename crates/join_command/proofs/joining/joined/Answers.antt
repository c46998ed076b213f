-- the parts are a whole search, which was joined
use Rattle.std.proofs.Common.{◌<◌, List, inl, inr, length, refl, slice_get, string_bytes, subst, ℕ}
use Rattle.std.proofs.lemmas.Option.{slice_get_read, slice_get_within}
use Rattle.std.specs.Option.{option_map}
use Rattle.file_search.specs.Additions.{HasAdditions}
use Rattle.file_search.specs.declared.additions.Additions.{Additions}
use Rattle.part_search.specs.part_file.Wholes.{AreWhole}
use Rattle.part_search.specs.declared.part_file.part.Part.{Part}
use Rattle.join_command.proofs.joining.joined.Goals as goal

pub returns-in-Err-joined_text-clause-refused : goal.returns-in-Err-joined_text-clause-refused
returns-in-Err-joined_text-clause-refused c = inl (inr (record {
  whole = subst (λ (parts : List Part). AreWhole parts) c.deref.ensures.value c.in_default.ensures;
  error = c.in-Err-joined_text.error;
  refused = c.in-Err-joined_text.ensures.memory;
  said_is = refl;
}))

pub returns-clause-found : goal.returns-clause-found
returns-clause-found c =
    let parts = c.args.parts.items in
    let found = c.in-Ok.found in
    let first = c.index.result.now in
    let source = c.in_ok-source.source in
    let own = c.in_ok-source.ensures in
    let output = c.in_ok-checked.checked.output.items in
    let plain = found.written.output.items in
    let whole : AreWhole parts = subst (λ (parts : List Part). AreWhole parts) c.deref.ensures.value c.in_default.ensures in
    let some : 0 < length parts = slice_get_within parts 0 whole.first whole.begins in
    record {
      whole = whole;
      raced = found.written.raced;
      stopped = found.stopped;
      plain = plain;
      joined = record {
        trace = option_map (λ trace. trace.items) found.written.trace;
        joined = c.in-Ok.ensures.joined;
        whole = c.in-Ok.ensures.whole;
      };
      first = first;
      begins = slice_get_read parts (length parts) 0 first refl some c.index.ensures;
      settings = source.settings;
      settings_are = own.settings_are;
      at_terminal = c.args.at_terminal;
      added = subst (λ (wanted : Additions). HasAdditions wanted (string_bytes first.file) first.text.items source.settings plain output)
          c.additions_for.ensures
          (subst (λ (name : List ℕ). HasAdditions c.additions_for.result name first.text.items source.settings plain output) own.name_is
          (subst (λ (text : List ℕ). HasAdditions c.additions_for.result (string_bytes source.name) text source.settings plain output) own.text_is
          c.in_ok-checked.ensures.added));
      status_is = c.in_ok-checked.ensures.status_is;
    }
