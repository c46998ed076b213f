-- What was found so far and what stands in the statements to come are all.
use Rattle.std.proofs.Common.{◌≡◌, ◌++◌, drop, map}
use Rattle.litmus_syntax.specs.Sites.{sites_of}
use Rattle.litmus_syntax.specs.Views.{block_of, statement_of}
use Rattle.litmus_syntax.proofs.sites.+sites.Given as goal

abbrev pub invariant-add_sites-loop-statement : goal.invariant-add_sites-loop-statement
invariant-add_sites-loop-statement l =
    map (λ s. statement_of s.now) l.found.items ++ sites_of (block_of (drop l.statement-index l.block))
    ≡ map (λ s. statement_of s.now) l.initial.found.items ++ sites_of (block_of l.block)
