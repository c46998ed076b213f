-- Outside of loops each site is there once.
use Rattle.std.proofs.Common.{◌≡◌, ◌∙◌, ℕ, ap}
use Rattle.access_types.specs.declared.history.Bytes.{Bytes}
use Rattle.litmus_semantics.specs.Task.{bytes_in}
use Rattle.litmus_semantics.specs.TextSites.{block_by, bytes_among}
use Rattle.litmus_semantics.proofs.RepeatedLemmas.{repeated_once}
use Rattle.litmus_syntax.specs.Views.{block_of}
use Rattle.litmus_semantics.proofs.site.text_sites.Goals as goal

pub returns-clause-among : goal.returns-clause-among
returns-clause-among c = λ fit.
    rw (c.in_ok-add_block.ensures fit, c.new-found.ensures.items)
    (repeated_once (block_by (bytes_among c.args.bytes.now) (block_of c.args.text.now)))

pub returns-clause-setting : goal.returns-clause-setting
returns-clause-setting c = λ s are fit.
    let same : ◌≡◌ {A = ℕ → Bytes} (bytes_among c.args.bytes.now) (bytes_in s) = λ i n. are n i in
    rw (c.in_ok-add_block.ensures fit, c.new-found.ensures.items)
    (repeated_once (block_by (bytes_among c.args.bytes.now) (block_of c.args.text.now))
    ∙ ap (λ (bytes : ℕ → Bytes). block_by bytes (block_of c.args.text.now)) same)
