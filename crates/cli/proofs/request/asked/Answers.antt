-- the matches are those of the program on the words
use Rattle.std.proofs.Common.{◌∙◌, ap, inl, inr, map, subst, sym}
use Rattle.std.proofs.lemmas.Result.{IfErr-weaker, IfOk-weaker}
use Rattle.clap.specs.Words.{App, IsAmong, fault_of, is_simple, is_simple_and_free, kind_of, subcommand_of, subcommand_rows_of}
use Rattle.cli.specs.Words.{IsAskedOf, MayBeSaid, MayFail}
use Rattle.cli.proofs.ValueLemmas.{asked_by, err_holds, program_is_free, program_is_simple}
use Rattle.cli.proofs.request.asked.Goals as goal

pub returns-clause-asked : goal.returns-clause-asked
returns-clause-asked g c =
    let program = c.in_ok-program.ensures in
    let words = map g.S.AsStr.text c.args.words.now in
    let called = ap (λ app. subcommand_of app words) (sym program.is)
    ∙ sym (c.in_ok-matches.ensures.matches (ap is_simple program.is ∙ program_is_simple program.names)).1 in
    IfOk-weaker c.request_or_refusal-outcome.result _ _
    (λ request asks. asked_by words program.names program.names_are (subcommand_rows_of c.in_ok-matches.matches) request called asks)
    c.request_or_refusal-outcome.ensures.asked

pub returns-in_err-matches-clause-fails : goal.returns-in_err-matches-clause-fails
returns-in_err-matches-clause-fails g c =
    let program = c.in_ok-program.ensures in
    let words = map g.S.AsStr.text c.args.words.now in
    let has = c.in_err-matches.ensures.kinds (ap is_simple_and_free program.is ∙ program_is_free program.names) in
    let may : MayFail words (kind_of c.in_err-matches.field-0.0) = elim has [
      | inl memory ↦ inl memory
      | inr among ↦ inr (inr (record {
        names = program.names;
        names_are = program.names_are;
        said = subst (λ (app : App). IsAmong (kind_of c.in_err-matches.field-0.0) (fault_of app words)) program.is among;
      }))
    ] in
    err_holds (λ error. MayFail words (kind_of error)) c.from_residual-in_err-matches.result c.in_err-matches.field-0.0
    c.from_residual-in_err-matches.ensures.1 may

pub returns-clause-fails : goal.returns-clause-fails
returns-clause-fails g c =
    let program = c.in_ok-program.ensures in
    let words = map g.S.AsStr.text c.args.words.now in
    let called = ap (λ app. subcommand_of app words) (sym program.is)
    ∙ sym (c.in_ok-matches.ensures.matches (ap is_simple program.is ∙ program_is_simple program.names)).1 in
    let sound = c.in_ok-matches.ensures.kinds (ap is_simple_and_free program.is ∙ program_is_free program.names) in
    let said_as : (kind : _) → MayBeSaid (subcommand_rows_of c.in_ok-matches.matches) kind → MayFail words kind = λ kind may. elim may [
      | inl memory ↦ inl memory
      | inr refused ↦ inr (inl (
        refused.0,
        record {
          names = program.names;
          names_are = program.names_are;
          sound = ap (λ app. fault_of app words) (sym program.is) ∙ sound;
          nothing = λ request bounds asks. refused.1 request bounds (subst (λ called. IsAskedOf called request) called asks);
        },
      ))
    ] in
    IfErr-weaker c.request_or_refusal-outcome.result _ _ (λ error may. said_as (kind_of error) may) c.request_or_refusal-outcome.ensures.fails
