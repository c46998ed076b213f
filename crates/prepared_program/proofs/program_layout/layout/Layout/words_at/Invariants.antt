-- The words so far, and there is room for those to come.
use Rattle.std.proofs.Common.{◌≡◌, ◌≤◌, ◌*◌, ◌/◌, length, map, take, vec_capacity, vec_len}
use Rattle.access_types.specs.History.{initial_memory, value_from}
use Rattle.prepared_program.proofs.program_layout.layout.Layout.words_at.Given as goal

abbrev pub invariant-loop-address : goal.invariant-loop-address
invariant-loop-address l = record {
  room : length l.addresses ≤ vec_capacity l.words;
  made : vec_len l.words ≡ l.address-index;
  words : l.words.items
      ≡ map (λ address. value_from (initial_memory l.self.variables.items) (8 * (address / 8)) 8) (take l.address-index l.addresses);
}
