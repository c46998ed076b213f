-- the words are those that were read
use Rattle.std.proofs.Common.{None, Some, ap, map, option_map}
use Rattle.std.proofs.lemmas.Result.{IfOk-weaker}
use Rattle.clap.specs.Words.{found_of}
use Rattle.cli.proofs.ValueLemmas.{words_read}
use Rattle.cli.proofs.request.words_given.Goals as goal

pub returns-in-Some : goal.returns-in-Some
returns-in-Some c =
    IfOk-weaker c.from_slice.result _ _
    (λ words items. words_read (found_of c.args.matches.now) c.args.name.now c.get_strs.result words.items
    (Some (map (λ word. word.now) c.in-Some.words.now)) c.get_strs.ensures
    (ap (option_map (λ s. map (λ v. v.now) s.now)) c.in-Some.is) (ap (map (λ word. word.now)) items)) c.from_slice.ensures.items

pub returns-in-None : goal.returns-in-None
returns-in-None c =
    words_read (found_of c.args.matches.now) c.args.name.now c.get_strs.result c.new.result.items None c.get_strs.ensures
    (ap (option_map (λ s. map (λ v. v.now) s.now)) c.in-None.is) (ap (map (λ word. word.now)) c.new.ensures.items)
