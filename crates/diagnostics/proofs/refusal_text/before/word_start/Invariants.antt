-- Where the word at the end of the bytes so far begins.
use Rattle.std.proofs.Common.{◌≡◌, ◌-◌, ◌≤◌, take}
use Rattle.std.specs.Prelude.{not}
use Rattle.std.specs.List.{suffix_len}
use Rattle.diagnostics.specs.refusal_text.Token.{is_no_name_byte}
use Rattle.diagnostics.proofs.refusal_text.before.word_start.Given as goal

abbrev pub invariant-loop-index : goal.invariant-loop-index
invariant-loop-index l = record {
  exact : l.start ≡ l.index - suffix_len (λ byte. not (is_no_name_byte byte)) (take l.index l.bytes);
  within : l.start ≤ l.index;
}
