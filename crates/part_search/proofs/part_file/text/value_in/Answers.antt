-- A text that is JSON is refused only for want of memory.
use Rattle.std.proofs.Common.{◌∙◌, refl, sym}
use Rattle.std.proofs.lemmas.Option.{same_Some}
use Rattle.part_search.proofs.part_file.text.value_in.Goals as goal

pub returns-in-Ok : goal.returns-in-Ok
returns-in-Ok c = λ is valid spelled. same_Some _ _ (sym c.in-Ok.ensures.ok.1 ∙ spelled)

pub returns-then-is_memory : goal.returns-then-is_memory
returns-then-is_memory c = λ is valid spelled. refl
