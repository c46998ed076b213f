-- How a command ends that reads a file: where that fails, where what was read is refused, and where what is left is
-- given.
use Rattle.std.proofs.Common.{◌≡◌, ◌≢◌, ◌∙◌, ◌⊎◌, ℕ, Bool, Err, IfErr, IfOk, List, Ok, OnErr, OnOk, Option, Result, Vec, ap, arith, false, inl, inr, refl, subst, sym, true}
use Rattle.std.specs.Global.{Global}
use Rattle.std.specs.Prelude.{IsErrAnd, IsErrOf}
use Rattle.cli.specs.declared.request.Request.{Request}
use Rattle.cli.specs.declared.request.Request.TheVariants.{Search}
use Rattle.cli.specs.declared.request.SearchRequest.{SearchRequest}
use Rattle.file_commands.specs.Desks.{DeskState}
use Rattle.file_commands.specs.Failures.{read_failure}
use Rattle.file_commands.specs.Statuses.{status_of}
use Rattle.litmus_command.specs.Command.{DoesNotRead, DoesRead, IsCut, IsDone, IsGiven, IsGivenInPart, IsMisused, IsOfFile, IsRefusedOf, NothingIsWrittenFor, Reads}
use Rattle.litmus_command.specs.Command.{SearchIsDone, OutputState, end_status_of, once_read, state_in}
use Rattle.litmus_command.specs.Ends.{CommandEnds, Fails, IsDoneWith}
use Rattle.file_commands.specs.Files.{FileEvent, Gave, noted}
use Rattle.file_commands.specs.declared.failure.Failure.{Failure}
use Rattle.file_commands.specs.declared.complaint.Complaint.{Complaint}
use Rattle.file_commands.specs.declared.desk.ReadFault.{ReadFault}
use Rattle.file_commands.specs.declared.desk.ReadFault.TheVariants as fault
use Rattle.report_text.specs.Sink.{CountsFailure}

-- a command that fails so ends so
pub err_ends : (request : Request) (before after : DeskState) (result : Result ℕ Failure) (failure : Failure)
    → IsErrAnd result (λ found. found ≡ failure) → Fails request (status_of failure) before after → CommandEnds request result before after
err_ends request before after (Ok status) failure is fails = absurd is
err_ends request before after (Err found) failure is fails = subst (λ (f : Failure). Fails request (status_of f) before after) (sym is) fails

-- no write failed
pub fails_unwritten : (request : Request) (status : ℕ) (before after : DeskState) → status ≢ 74 → NothingIsWrittenFor request (state_in before) (state_in after)
    → (IsOfFile status → IsRefusedOf request status (state_in before) (state_in after))
    → (status ≡ 64 → IsMisused request (state_in before) (state_in after)) → (status ≡ 66 → DoesRead request)
    → Reads status before.faults after.faults → after.told ≡ before.told → Fails request status before after
fails_unwritten request status before after other nothing refused misused unread reads told = record {
  silent = λ _. nothing;
  failed = λ is. absurd (other is);
  cut = λ is. absurd (other is);
  refused = refused;
  misused = misused;
  unread = unread;
  reads = reads;
  told = told;
}

-- a status that is neither 65 nor 70 is of no file
pub of_no_file : (status other : ℕ) → status ≡ other → other ≢ 65 → other ≢ 70 → IsOfFile status → ⊥
of_no_file status other is one two (inl of) = one (sym is ∙ of)
of_no_file status other is one two (inr of) = two (sym is ∙ of)

-- nothing was read yet: the words are misused, or memory ran out
pub fails_early : (request : Request) (status : ℕ) (at : DeskState) → (status ≡ 64) ⊎ (status ≡ 71) → (status ≡ 64 → DoesNotRead request)
    → Fails request status at at
fails_early request status at (inl is) unread =
    fails_unwritten request status at at (λ no. omega (arith, is, no)) (record { written = refl; files = inl (inl refl) })
    (λ of. absurd (of_no_file status 64 is (λ no. omega (arith, no)) (λ no. omega (arith, no)) of)) (λ at. inl (unread at, refl))
    (λ no. absurd (omega (arith, is, no))) (record { fails = λ no. absurd (omega (arith, is, no)); works = λ _. refl }) refl
fails_early request status at (inr is) unread =
    fails_unwritten request status at at (λ no. omega (arith, is, no)) (record { written = refl; files = inl (inl refl) })
    (λ of. absurd (of_no_file status 71 is (λ no. omega (arith, no)) (λ no. omega (arith, no)) of)) (λ no. absurd (omega (arith, is, no)))
    (λ no. absurd (omega (arith, is, no))) (record { fails = λ no. absurd (omega (arith, is, no)); works = λ _. refl }) refl

-- what a call answers whose read failed
abbrev pub read_err : ReadFault → Result (Vec ℕ Global) ReadFault
read_err why = Err why

pub can_be_read : read_err fault.OutOfMemory ≡ read_err fault.CannotRead → ⊥
can_be_read is = absurd (cc)

-- the file can't be read, or there is no memory for it
pub fails_unread : (request : Request) (why : ReadFault) (before after : DeskState) → DoesRead request → after.written ≡ before.written
    → after.files ≡ before.files → after.told ≡ before.told
    → (IsErrOf (read_err why) fault.CannotRead → CountsFailure before.faults after.faults)
    → ((IsErrOf (read_err why) fault.CannotRead → ⊥) → after.faults ≡ before.faults)
    → Fails request (status_of (read_failure why)) before after
fails_unread request fault.OutOfMemory before after reads written files told fails works =
    fails_unwritten request 71 before after (λ no. omega (arith, no)) (record { written = written; files = inl (inl files) })
    (λ of. absurd (of_no_file 71 71 refl (λ no. omega (arith, no)) (λ no. omega (arith, no)) of)) (λ no. absurd (omega (arith, no)))
    (λ _. reads) (record { fails = λ no. absurd (omega (arith, no)); works = λ _. works can_be_read }) told
fails_unread request fault.CannotRead before after reads written files told fails works =
    fails_unwritten request 66 before after (λ no. omega (arith, no)) (record { written = written; files = inl (inl files) })
    (λ of. absurd (of_no_file 66 66 refl (λ no. omega (arith, no)) (λ no. omega (arith, no)) of)) (λ no. absurd (omega (arith, no)))
    (λ _. reads) (record { fails = λ _. fails refl; works = λ other. absurd (other refl) }) told

-- once the file gave this text
abbrev pub once_gave : (file : List ℕ) (limit : ℕ) (text : List ℕ) → DeskState → DeskState
once_gave file limit text before = record before { files = noted before.files (Gave file limit text) }

abbrev whole : Option (List ℕ) → ℕ → Option (List FileEvent) → Option (List Complaint) → ℕ → DeskState
whole written failures files told faults =
    record { written = written; failures = failures; files = files; told = told; faults = faults }

pub is_read_so : (before after : DeskState) (file : List ℕ) (limit : ℕ) (text : List ℕ) → after.written ≡ before.written
    → after.failures ≡ before.failures → after.files ≡ noted before.files (Gave file limit text) → after.told ≡ before.told
    → after.faults ≡ before.faults → after ≡ once_gave file limit text before
is_read_so before after file limit text written failures files told faults =
    ap (λ w. whole w after.failures after.files after.told after.faults) written
    ∙ (ap (λ n. whole before.written n after.files after.told after.faults) failures
    ∙ (ap (λ f. whole before.written before.failures f after.told after.faults) files
    ∙ (ap (λ t. whole before.written before.failures (noted before.files (Gave file limit text)) t after.faults) told
    ∙ ap (λ n. whole before.written before.failures (noted before.files (Gave file limit text)) before.told n) faults)))

module _ (request : Request) (before after : DeskState) (file : List ℕ) (limit : ℕ) (text : List ℕ)
    (is_read : after ≡ once_gave file limit text before) where
  -- what was read is refused, with a status that is no other failure's
  pub fails_of_file : (status : ℕ) → IsRefusedOf request status (state_in before) (state_in after) → DoesRead request → status ≢ 66 → status ≢ 74
      → Fails request status before after
  fails_of_file status refused reads readable other =
      fails_unwritten request status before after other
      (record {
        written = ap (λ (at : DeskState). at.written) is_read;
        files = inl (inr (file, limit, text, ap (λ (at : DeskState). at.files) is_read));
      })
      (λ of. refused)
      (λ is. inr (inl (subst (λ (n : ℕ). IsRefusedOf request n (state_in before) (state_in after)) is refused)))
      (λ _. reads)
      (record { fails = λ is. absurd (readable is); works = λ _. ap (λ (at : DeskState). at.faults) is_read })
      (ap (λ (at : DeskState). at.told) is_read)

-- it was done, and the status says whether there was a report
pub done_with : (request : Request) (raced : Bool) (before after : OutputState) → IsDone request raced before after
    → IsDoneWith request (end_status_of raced false) before after
done_with request true before after done = inl (refl, done)
done_with request false before after done = inr (inl (refl, done))

-- so it is of a search, which may have been stopped
pub found_with : (request : SearchRequest) (raced stopped : Bool) (before after : OutputState) → SearchIsDone request raced stopped before after
    → IsDoneWith (Search request) (end_status_of raced stopped) before after
found_with request true stopped before after done = inl (refl, (stopped, done))
found_with request false true before after done = inr (inr (refl, done))
found_with request false false before after done = inr (inl (refl, done))

-- what is left was given, as far as that went
module _ (request : Request) (raced stopped : Bool) (path : Option (List ℕ)) (output : List ℕ) (trace : Option (List ℕ))
    (before middle after : DeskState) (file : List ℕ) (limit : ℕ) (text : List ℕ) (is_read : middle ≡ once_gave file limit text before)
    (told : after.told ≡ middle.told) (faults : after.faults ≡ middle.faults)
    (done : IsGiven path output trace (once_read file limit text (state_in before)) (state_in after)
    → IsDoneWith request (end_status_of raced stopped) (state_in before) (state_in after))
    (cut : IsGivenInPart path output trace (once_read file limit text (state_in before)) (state_in after)
    → IsCut request (state_in before) (state_in after)) where
  read : state_in middle ≡ once_read file limit text (state_in before)
  read = ap state_in is_read

  pub ends_given : (result : Result ℕ Failure) → IfOk result (λ status. status ≡ end_status_of raced stopped)
      → OnOk result (IsGiven path output trace (state_in middle) (state_in after))
      → IfErr result (λ failure. (status_of failure ≡ 74) × CountsFailure middle.failures after.failures)
      → OnErr result (IsGivenInPart path output trace (state_in middle) (state_in after)) → CommandEnds request result before after
  ends_given (Ok status) is given failed part = record {
    done = subst (λ (n : ℕ). IsDoneWith request n (state_in before) (state_in after)) (sym is)
        (done (subst (λ (at : OutputState). IsGiven path output trace at (state_in after)) read given));
    faults = faults ∙ ap (λ (at : DeskState). at.faults) is_read;
    told = told ∙ ap (λ (at : DeskState). at.told) is_read;
  }
  ends_given (Err failure) is given failed part =
      let at = failed.0 in
      record {
        silent = λ other. absurd (other at);
        failed = λ _. subst (λ (n : ℕ). CountsFailure n after.failures) (ap (λ (at : DeskState). at.failures) is_read) failed.1;
        cut = λ _. cut (subst (λ (at : OutputState). IsGivenInPart path output trace at (state_in after)) read part);
        refused = λ of. absurd (of_no_file (status_of failure) 74 at (λ no. omega (arith, no)) (λ no. omega (arith, no)) of);
        misused = λ is. absurd (omega (arith, is, at));
        unread = λ is. absurd (omega (arith, is, at));
        reads = record { fails = λ is. absurd (omega (arith, is, at)); works = λ _. faults ∙ ap (λ (at : DeskState). at.faults) is_read };
        told = told ∙ ap (λ (at : DeskState). at.told) is_read;
      }

-- it failed to be written
pub fails_to_write : (request : Request) (before after : DeskState) → CountsFailure before.failures after.failures
    → IsCut request (state_in before) (state_in after) → after.faults ≡ before.faults → after.told ≡ before.told
    → Fails request 74 before after
fails_to_write request before after failed cut faults told = record {
  silent = λ other. absurd (other refl);
  failed = λ _. failed;
  cut = λ _. cut;
  refused = λ of. absurd (of_no_file 74 74 refl (λ no. omega (arith, no)) (λ no. omega (arith, no)) of);
  misused = λ no. absurd (omega (arith, no));
  unread = λ no. absurd (omega (arith, no));
  reads = record { fails = λ no. absurd (omega (arith, no)); works = λ _. faults };
  told = told;
}
