-- What stands before the blanks at the end of the bytes so far.
use Rattle.std.proofs.Common.{◌≡◌, ◌-◌, ◌≤◌, take}
use Rattle.std.specs.List.{suffix_len}
use Rattle.diagnostics.specs.refusal_text.Before.{is_blank}
use Rattle.diagnostics.proofs.refusal_text.before.unblanked_len.Given as goal

abbrev pub invariant-loop-index : goal.invariant-loop-index
invariant-loop-index l = record {
  exact : l.len ≡ l.index - suffix_len is_blank (take l.index l.bytes);
  within : l.len ≤ l.index;
}
