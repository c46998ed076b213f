-- the ends of all threads, in an order of their own
use Rattle.std.proofs.Common.{arith, rules}
use Rattle.std.proofs.lemmas.List.Sorted.{All-permutation}
use Rattle.file_commands.specs.FilesAsked.{asked_by}
use Rattle.file_commands.specs.Together.{IsEndAt, texts_of}
use Rattle.file_commands.proofs.together.ends_by_threads.Goals as goal

pub returns : goal.returns
returns g c =
    let asked = asked_by c.args.asked.now in
    let settings = c.args.settings.now in
    let texts = texts_of c.args.texts.now in
    let made = c.in_ok-map_indices.field-0 in
    let calls = c.in_ok-map_indices.ensures in
    All-permutation (IsEndAt asked settings texts) c.in_ok-ends.ends.items c.sort_unstable_by_key.new.self.items
    c.sort_unstable_by_key.ensures.permutation
    (c.in_ok-ends.ensures asked settings texts (λ at lot within.
    let got = calls.each at lot (omega (arith, within, made.ok.0, calls.len)) in search (rules, got)))
