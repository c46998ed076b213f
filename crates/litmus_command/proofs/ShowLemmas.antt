-- How `show` ends, once the trace, and the litmus file that it is of, if one is named, were read.
use Rattle.std.proofs.Common.{◌≡◌, ◌≢◌, ◌∙◌, ℕ, Bool, Bor, Err, IfErr, IfOk, List, None, Ok, OnErr, OnOk, Option, Result, Some, ap, arith, false, inl, inr, is_some, refl, subst, sym, true}
use Rattle.std.specs.Prelude.{IsErrOf}
use Rattle.std.specs.Option.{option_map}
use Rattle.cli.specs.declared.request.Request.TheVariants.{Show}
use Rattle.cli.specs.declared.request.ShowRequest.{ShowRequest}
use Rattle.file_commands.specs.Desks.{DeskState}
use Rattle.file_commands.specs.Failures.{read_failure}
use Rattle.file_commands.specs.Statuses.{status_of}
use Rattle.file_commands.specs.declared.desk.ReadFault.{ReadFault}
use Rattle.file_commands.specs.declared.desk.ReadFault.TheVariants as fault
use Rattle.file_commands.specs.declared.failure.Failure.{Failure}
use Rattle.litmus_command.proofs.CommandLemmas.{can_be_read, done_with, fails_to_write, fails_unwritten, of_no_file, once_gave, read_err}
use Rattle.litmus_command.proofs.ResultLemmas.{shows_no_read, shows_no_sink}
use Rattle.litmus_command.specs.Command.{IsAskedSource, IsGiven, IsGivenInPart, IsRefusedOf, IsShown, OnlyReadFor, OutputState, ShowIsRefused, SourceFile, end_status_of}
use Rattle.litmus_command.specs.Command.{once_read, once_shown, state_in, svg_path, text_of}
use Rattle.litmus_command.specs.Ends.{CommandEnds, Fails, IsDoneWith}
use Rattle.litmus_command.specs.Show.{IsNotDrawn}
use Rattle.litmus_parse.specs.Text.{file_bytes}
use Rattle.report_text.specs.Faults.{size_limit}
use Rattle.report_text.specs.Sink.{CountsFailure}

-- one is named
some_named : (named : Option (Bor (List ℕ))) (path : List ℕ) → option_map (λ own. own.now) named ≡ Some path → is_some named ≡ true
some_named None path is = absurd (cc)
some_named (Some own) path is = refl

pub is_sourced : (request : ShowRequest) (path : List ℕ) → option_map (λ own. own.now) request.source ≡ Some path → is_some request.source ≡ true
is_sourced request path is = some_named request.source path is

-- the files gave these, and nothing else was done
pub record IsReadFor (request : ShowRequest) (bytes : List ℕ) (source : Option SourceFile) (before after : DeskState) : Type 0 where
  pub state : state_in after ≡ once_shown request bytes source (state_in before)
  pub written : after.written ≡ before.written
  pub failures : after.failures ≡ before.failures
  pub told : after.told ≡ before.told
  pub faults : after.faults ≡ before.faults
  pub only : OnlyReadFor (Show request) before.files after.files

pub read_alone : (request : ShowRequest) (bytes : List ℕ) (before after : DeskState) → after ≡ once_gave request.trace.now size_limit bytes before
    → IsReadFor request bytes None before after
read_alone request bytes before after is_read = record {
  state = ap state_in is_read;
  written = ap (λ (at : DeskState). at.written) is_read;
  failures = ap (λ (at : DeskState). at.failures) is_read;
  told = ap (λ (at : DeskState). at.told) is_read;
  faults = ap (λ (at : DeskState). at.faults) is_read;
  only = inl (inr (request.trace.now, size_limit, bytes, ap (λ (at : DeskState). at.files) is_read));
}

pub read_both : (request : ShowRequest) (bytes path text : List ℕ) (before middle after : DeskState) → is_some request.source ≡ true
    → middle ≡ once_gave request.trace.now size_limit bytes before → after ≡ once_gave path file_bytes text middle
    → IsReadFor request bytes (Some (record { path = path; text = text })) before after
read_both request bytes path text before middle after sourced first second = record {
  state = ap state_in second ∙ ap (λ (at : DeskState). once_read path file_bytes text (state_in at)) first;
  written = ap (λ (at : DeskState). at.written) second ∙ ap (λ (at : DeskState). at.written) first;
  failures = ap (λ (at : DeskState). at.failures) second ∙ ap (λ (at : DeskState). at.failures) first;
  told = ap (λ (at : DeskState). at.told) second ∙ ap (λ (at : DeskState). at.told) first;
  faults = ap (λ (at : DeskState). at.faults) second ∙ ap (λ (at : DeskState). at.faults) first;
  only = inr (
    sourced,
    (
      middle.files,
      inr (request.trace.now, size_limit, bytes, ap (λ (at : DeskState). at.files) first),
      inr (path, file_bytes, text, ap (λ (at : DeskState). at.files) second),
    ),
  );
}

-- the trace was read, and then the litmus file can't be read, or there is no memory for it
pub fails_source : (request : ShowRequest) (bytes : List ℕ) (why : ReadFault) (before middle after : DeskState)
    → middle ≡ once_gave request.trace.now size_limit bytes before → after.written ≡ middle.written
    → after.files ≡ middle.files → after.told ≡ middle.told
    → (IsErrOf (read_err why) fault.CannotRead → CountsFailure middle.faults after.faults)
    → ((IsErrOf (read_err why) fault.CannotRead → ⊥) → after.faults ≡ middle.faults)
    → Fails (Show request) (status_of (read_failure why)) before after
fails_source request bytes fault.OutOfMemory before middle after first written files told fails works =
    fails_unwritten (Show request) 71 before after (λ no. omega (arith, no))
    (record {
      written = written ∙ ap (λ (at : DeskState). at.written) first;
      files = inl (inr (request.trace.now, size_limit, bytes, files ∙ ap (λ (at : DeskState). at.files) first));
    })
    (λ of. absurd (of_no_file 71 71 refl (λ no. omega (arith, no)) (λ no. omega (arith, no)) of)) (λ no. absurd (omega (arith, no)))
    (λ _. tt)
    (record { fails = λ no. absurd (omega (arith, no)); works = λ _. works can_be_read ∙ ap (λ (at : DeskState). at.faults) first })
    (told ∙ ap (λ (at : DeskState). at.told) first)
fails_source request bytes fault.CannotRead before middle after first written files told fails works =
    fails_unwritten (Show request) 66 before after (λ no. omega (arith, no))
    (record {
      written = written ∙ ap (λ (at : DeskState). at.written) first;
      files = inl (inr (request.trace.now, size_limit, bytes, files ∙ ap (λ (at : DeskState). at.files) first));
    })
    (λ of. absurd (of_no_file 66 66 refl (λ no. omega (arith, no)) (λ no. omega (arith, no)) of)) (λ no. absurd (omega (arith, no)))
    (λ _. tt)
    (record {
      fails = λ _. subst (λ (n : ℕ). CountsFailure n after.faults) (ap (λ (at : DeskState). at.faults) first) (fails refl);
      works = λ other. absurd (other refl);
    })
    (told ∙ ap (λ (at : DeskState). at.told) first)

module _ (request : ShowRequest) (bytes : List ℕ) (source : Option SourceFile) (asked : IsAskedSource request source)
    (before after : DeskState) (read : IsReadFor request bytes source before after) where
  -- nothing is drawn
  pub not_drawn : (why : Failure) → IsNotDrawn bytes (text_of source) why → Fails (Show request) (status_of why) before after
  not_drawn why reason =
      let refused : ShowIsRefused request (status_of why) (state_in before) (state_in after) = record {
        bytes = bytes;
        source = source;
        asked = asked;
        failure = why;
        undrawn = reason;
        status_is = refl;
        files = ap (λ (at : OutputState). at.files) read.state;
      } in
      fails_unwritten (Show request) (status_of why) before after (shows_no_sink bytes (text_of source) why reason)
      (record { written = read.written; files = read.only })
      (λ of. refused)
      (λ is. inr (inl (subst (λ (n : ℕ). IsRefusedOf (Show request) n (state_in before) (state_in after)) is refused)))
      (λ _. tt)
      (record { fails = λ is. absurd (shows_no_read bytes (text_of source) why reason is); works = λ _. read.faults })
      read.told

  -- what is left was given, as far as that went
  module _ (raced : Bool) (output : List ℕ) (svg : Option (List ℕ)) (left : IsShown request (text_of source) bytes raced output svg)
      (last : DeskState) (told : last.told ≡ after.told) (faults : last.faults ≡ after.faults) where
    pub shown_given : (result : Result ℕ Failure) → IfOk result (λ status. status ≡ end_status_of raced false)
        → OnOk result (IsGiven (svg_path request) output svg (state_in after) (state_in last))
        → IfErr result (λ failure. (status_of failure ≡ 74) × CountsFailure after.failures last.failures)
        → OnErr result (IsGivenInPart (svg_path request) output svg (state_in after) (state_in last))
        → CommandEnds (Show request) result before last
    shown_given (Ok status) is given failed part = record {
      done = subst (λ (n : ℕ). IsDoneWith (Show request) n (state_in before) (state_in last)) (sym is)
          (done_with (Show request) raced (state_in before) (state_in last)
          (record {
            bytes = bytes;
            source = source;
            asked = asked;
            output = output;
            svg = svg;
            left = left;
            given = subst (λ (at : OutputState). IsGiven (svg_path request) output svg at (state_in last)) read.state given;
          }));
      faults = faults ∙ read.faults;
      told = told ∙ read.told;
    }
    shown_given (Err failure) is given failed part =
        subst (λ (n : ℕ). Fails (Show request) n before last) (sym failed.0)
        (fails_to_write (Show request) before last
        (subst (λ (n : ℕ). CountsFailure n last.failures) read.failures failed.1)
        (record {
          bytes = bytes;
          source = source;
          asked = asked;
          raced = raced;
          output = output;
          svg = svg;
          left = left;
          given = subst (λ (at : OutputState). IsGivenInPart (svg_path request) output svg at (state_in last)) read.state part;
        })
        (faults ∙ read.faults) (told ∙ read.told))
