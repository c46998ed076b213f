-- one is kept where a list is deadlocked
use Rattle.std.proofs.Common.{◌∙◌}
use Rattle.search_text.proofs.FoundLemmas.{seen_there}
use Rattle.search_text.specs.SearchFindings.{is_deadlocked}
use Rattle.search_text.proofs.found.SearchFindings.has_stuck.Goals as goal

pub returns : goal.returns
returns c = λ lists finds. c.is_some.ensures ∙ seen_there is_deadlocked lists c.args.self.now.stuck finds.stuck
