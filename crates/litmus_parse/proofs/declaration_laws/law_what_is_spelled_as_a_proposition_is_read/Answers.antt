-- Part by part.
use Rattle.std.proofs.Common.{refl}
use Rattle.litmus_parse.proofs.PropositionComplete.{whole_complete}
use Rattle.litmus_parse.proofs.declaration_laws.law_what_is_spelled_as_a_proposition_is_read.Goals as goal

pub returns : goal.returns
returns c = λ mentions names locks states bodies symbols proposition later is_open apart spelled few.
    whole_complete mentions names locks symbols _ later states bodies proposition spelled refl apart is_open few
