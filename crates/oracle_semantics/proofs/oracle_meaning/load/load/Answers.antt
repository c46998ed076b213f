-- The access is the one that begins now; the marks come before and after what it does.
use Rattle.std.proofs.Common.{◌≡◌, ◌∙◌, None, ap, replicate, sym}
use Rattle.access_types.specs.declared.history.Bytes.{Bytes}
use Rattle.access_types.specs.declared.history.Happening.TheVariants as happenings
use Rattle.access_types.specs.declared.history.Mark.TheVariants as marks
use Rattle.litmus_semantics.specs.Loads as loads
use Rattle.litmus_semantics.specs.Task.{Progress, access_now, bytes_in, doing}
use Rattle.litmus_semantics.specs.Values as values
use Rattle.litmus_syntax.specs.Views.{fetch_of}
use Rattle.oracle_semantics.proofs.oracle_meaning.StepLemmas.{doing_silently}
use Rattle.oracle_semantics.specs.oracle_meaning.Walks.{stands}
use Rattle.oracle_semantics.proofs.oracle_meaning.load.load.Goals as goal

pub returns-clause-means : goal.returns-clause-means
returns-clause-means c = λ s is.
    let bytes : c.bytes_in-bytes.result ≡ bytes_in s (loads.variable_of (fetch_of c.args.load.now.fetch))
    = c.bytes_in-bytes.ensures s is ∙ ap (bytes_in s) c.variable_of.ensures in
    let access : c.in_ok-access.access ≡ access_now s c.args.site (stands c.args.before) (bytes_in s (loads.variable_of (fetch_of c.args.load.now.fetch))) (loads.fetch_kind (fetch_of c.args.load.now.fetch)) None
    = rw (bytes, c.kind_of.ensures) at (c.in_ok-access.ensures s is) in
    let registers : c.args.before.registers.items ≡ c.in_ok-silent.silent.registers.items = sym (ap (λ (p : Progress). p.registers) c.in_ok-silent.ensures.comes) in
    let enables = replicate c.args.load.now.data_races (happenings.Mark marks.Enable) in
    let found = c.in_ok-made.ensures.comes s c.args.site (stands c.args.before) registers access in
    record {
      old = c.in_ok-made.old;
      does = found.0;
      fetches = found.1;
      value = c.sign_extended.ensures ∙ ap (λ (b : Bytes). values.sign_extended b.size c.in_ok-made.old) bytes;
      comes_to =
          c.in_ok-after.ensures.comes
          ∙ (ap (λ (p : Progress). doing p enables) (found.2 ∙ ap (λ (p : Progress). doing p found.0) c.in_ok-silent.ensures.comes)
          ∙ doing_silently (stands c.args.before) c.args.load.now.data_races found.0);
    }
