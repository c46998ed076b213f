-- How the check of one file ends, and how that of several.
use Rattle.std.proofs.Common.{◌≡◌, ◌∙◌, ◌<◌, ◌≤◌, ◌⊎◌, ◌∷◌, [], ℕ, All, Bool, List, None, Option, Some, ap, append-nil, arith, false, fold, inl, inr, length, map, max}
use Rattle.std.proofs.Common.{if◌then◌else◌, nat_lt, refl, subst, sym, true}
use Rattle.std.proofs.lemmas.Bool.{cases_lt}
use Rattle.litmus_parse.specs.Text.{file_bytes}
use Rattle.run_output.specs.declared.error.EngineError.TheVariants as engine
use Rattle.diagnostics.specs.check_output.Diagnosis.{Diagnosis, Gave, IsFound, Lost, greatest_status, has_tables, output_of, status_of_one}
use Rattle.diagnostics.specs.declared.check_output.file.Files.{Files}
use Rattle.cli.specs.Bounds.{KeepsCheckBounds}
use Rattle.cli.specs.declared.request.CheckRequest.{CheckRequest}
use Rattle.file_commands.specs.Check.{AreGoneOver, AreListsAtFault, CheckAsksFor, CheckEnds, Checked, Early, IsGoneOver, IsLeftOver, IsListFault, IsToldOfLost}
use Rattle.file_commands.specs.Check.{IsPrinted, IsSeveral, IsWarned, Left, Unread, asked_of}
use Rattle.file_commands.specs.Desks.{DeskState, once_told}
use Rattle.file_commands.specs.Statuses.{complaint_status_of, status_of, text_status_of}
use Rattle.litmus_command.specs.Command.{EndsAs, IsOfNoOverwrite, Reads, StatusComplaint, state_in}
use Rattle.file_commands.specs.Files.{FileEvent, OnlyRead}
use Rattle.file_commands.specs.StandardError.{heard}
use Rattle.file_commands.specs.declared.failure.Failure.{Failure}
use Rattle.file_commands.specs.declared.failure.Failure.TheVariants as failure
use Rattle.file_commands.specs.declared.complaint.Complaint.{Complaint}
use Rattle.file_commands.specs.declared.complaint.Complaint.TheVariants as complaint
use Rattle.litmus_syntax.specs.declared.error.ParseError.{ParseError}
use Rattle.litmus_syntax.specs.declared.error.ParseError.TheVariants as parse
use Rattle.report_text.specs.Sink.{CountsFailure, appended}
use Rattle.prepared_program.specs.declared.program_sites.settings.Settings.{Settings}
use Rattle.diagnostics.specs.declared.text_check.checked.Check.TheVariants as checks

-- what can be said of the end of a check of one file
pub record Ends (status : ℕ) (before after : DeskState) : Type 0 where
  pub tells : StatusComplaint status before.told after.told
  pub reads : Reads status before.faults after.faults
  pub ends : EndsAs status (state_in before) (state_in after)

-- what can be said of the end of a check of one file, of which standard error was warned first, where it reads
pub record EndsWarned (status : ℕ) (before after : DeskState) : Type 0 where
  pub first : Option (List Complaint)
  pub warned : (first ≡ before.told) ⊎ (((status ≡ 0) ⊎ (status ≡ 74)) × ((warnings : List ℕ) × IsWarned warnings before.told first))
  pub ends : Ends status (record before { told = first }) after

unwarned : (status : ℕ) (before after : DeskState) → Ends status before after → EndsWarned status before after
unwarned status before after ends = record { first = before.told; warned = inl refl; ends = ends }

nothing_more : (written : Option (List ℕ)) → appended written [] ≡ written
nothing_more None = refl
nothing_more (Some text) = ap Some (append-nil text)

refused_status : (error : ParseError) → (error ≡ parse.OutOfMemory → ⊥) → text_status_of error ≡ 65
refused_status parse.OutOfMemory other = absurd (other refl)
refused_status (parse.Syntax line) other = refl
refused_status (parse.Unsupported line) other = refl
refused_status (parse.Limit limit) other = refl
refused_status parse.NotAscii other = refl

-- a status of a complaint about a file or a list, or of want of memory
abbrev pub IsTold : ℕ → Type 0
IsTold status = (status ≡ 64) ⊎ ((status ≡ 65) ⊎ ((status ≡ 66) ⊎ (status ≡ 71)))

told_above : (status : ℕ) → IsTold status → (64 ≤ status) × (status ≤ 71)
told_above status (inl is) = (omega (arith, is), omega (arith, is))
told_above status (inr (inl is)) = (omega (arith, is), omega (arith, is))
told_above status (inr (inr (inl is))) = (omega (arith, is), omega (arith, is))
told_above status (inr (inr (inr is))) = (omega (arith, is), omega (arith, is))

told_known : (status : ℕ) → IsTold status → (status ≡ 0) ⊎ (status ≡ 2) ⊎ ((64 ≤ status) × (status ≤ 66))
    ⊎ (status ≡ 70) ⊎ (status ≡ 71) ⊎ (status ≡ 74) ⊎ (status ≡ 75)
told_known status (inl is) = inr (inr (inl (omega (arith, is), omega (arith, is))))
told_known status (inr (inl is)) = inr (inr (inl (omega (arith, is), omega (arith, is))))
told_known status (inr (inr (inl is))) = inr (inr (inl (omega (arith, is), omega (arith, is))))
told_known status (inr (inr (inr is))) = inr (inr (inr (inr (inl is))))

-- an end with a complaint, and nothing printed
pub ends_told : (status : ℕ) (before after : DeskState) (said : Complaint) → IsTold status → complaint_status_of said ≡ status
    → IsOfNoOverwrite said → after.told ≡ heard before.told said → Reads status before.faults after.faults → after.written ≡ before.written
    → OnlyRead before.files after.files → Ends status before after
ends_told status before after said few is plain told reads written files =
    let above = told_above status few in
    let low = above.0 in
    let high = above.1 in
    record {
      tells = record {
        quiet = λ less. absurd (omega (arith, low, less));
        stopped = λ stops. absurd (omega (arith, high, stops));
        told = λ from to. (said, is, plain, told);
      };
      reads = reads;
      ends = record {
        silent = λ from to. record { written = written; files = files };
        failed = λ no. absurd (omega (arith, high, no));
        known = told_known status few;
      };
    }

pub reads_none : (status before after : ℕ) → (status ≡ 66 → ⊥) → after ≡ before → Reads status before after
reads_none status before after other same = record { fails = λ is. absurd (other is); works = λ _. same }

-- an end where standard output failed
pub ends_cut : (status : ℕ) (before after : DeskState) (said : Complaint) → status ≡ 74 → complaint_status_of said ≡ 74
    → IsOfNoOverwrite said → after.told ≡ heard before.told said → after.faults ≡ before.faults → CountsFailure before.failures after.failures → Ends status before after
ends_cut status before after said is said_is plain told faults failed = record {
  tells = record {
    quiet = λ less. absurd (omega (arith, is, less));
    stopped = λ stops. absurd (omega (arith, is, stops));
    told = λ from to. (said, said_is ∙ sym is, plain, told);
  };
  reads = reads_none status before.faults after.faults (λ no. absurd (omega (arith, is, no))) faults;
  ends = record {
    silent = λ from to. absurd (omega (arith, is, to));
    failed = λ _. failed;
    known = inr (inr (inr (inr (inr (inl is)))));
  };
}

-- an end without a complaint
ends_well : (status : ℕ) (before after : DeskState) → status ≡ 0 → after.told ≡ before.told → after.faults ≡ before.faults
    → Ends status before after
ends_well status before after is told faults = record {
  tells = record {
    quiet = λ _. told;
    stopped = λ _. told;
    told = λ from to. absurd (omega (arith, is, from));
  };
  reads = reads_none status before.faults after.faults (λ no. absurd (omega (arith, is, no))) faults;
  ends = record {
    silent = λ from to. absurd (omega (arith, is, from));
    failed = λ no. absurd (omega (arith, is, no));
    known = inl is;
  };
}

-- what was told of the one file that can't be read
lost_alone : (several : Bool) (name : List ℕ) (before after : Option (List Complaint)) → several ≡ false
    → IsToldOfLost several name before after → after ≡ heard before (complaint.Failure failure.CannotRead)
lost_alone true name before after one told = absurd (cc)
lost_alone false name before after one told = told

-- over one file no more reads failed
pub faults_alone : (several : Bool) (middle stopped : DeskState) → several ≡ false
    → (stopped.faults ≡ middle.faults) ⊎ ((several ≡ true) × CountsFailure middle.faults stopped.faults) → stopped.faults ≡ middle.faults
faults_alone several middle stopped one (inl same) = same
faults_alone several middle stopped one (inr many) = absurd (let is = many.0 in let no : false ≡ true = sym one ∙ is in cc)

-- what is told of a list that doesn't read has the status of that failure
fault_status : (IsFault : List ℕ → Type 0) (error : Failure) (said : Complaint) → status_of error ≡ 64 → IsListFault error IsFault said
    → complaint_status_of said ≡ 64
fault_status IsFault error said is at_fault = ap complaint_status_of at_fault.said_is ∙ is

fault_alone : (IsFault : List ℕ → Type 0) (error : Failure) (said : Complaint) → IsListFault error IsFault said → IsOfNoOverwrite said
fault_alone IsFault error said at_fault = subst IsOfNoOverwrite (sym at_fault.said_is) tt

-- the end of the check of one file that has no tables: that was told, and nothing is printed
pub told_one : (output : List ℕ) (status ends : ℕ) (before middle after : DeskState) (said : Complaint) → IsTold status
    → complaint_status_of said ≡ status → IsOfNoOverwrite said → output ≡ [] → middle.told ≡ heard before.told said → Reads status before.faults middle.faults
    → middle.written ≡ before.written → OnlyRead before.files middle.files → IsPrinted output status ends middle after → Ends ends before after
told_one output status ends before middle after said few is plain empty told reads written files (inl done) =
    ends_told ends before after said (subst IsTold (sym done.0) few) (is ∙ sym done.0) plain (ap (λ (at : DeskState). at.told) done.1 ∙ told)
    (subst (λ n. Reads n before.faults after.faults) (sym done.0)
    (subst (λ n. Reads status before.faults n) (sym (ap (λ (at : DeskState). at.faults) done.1)) reads))
    (ap (λ (at : DeskState). at.written) done.1 ∙ (ap (λ (text : List ℕ). appended middle.written text) empty
    ∙ (nothing_more middle.written ∙ written)))
    (subst (λ (f : Option (List FileEvent)). OnlyRead before.files f) (sym (ap (λ (at : DeskState). at.files) done.1)) files)
told_one output status ends before middle after said few is plain empty told reads written files (inr fails) =
    absurd (let some = fails.some in let none : length output ≡ 0 = ap (λ (text : List ℕ). length text) empty in omega (arith, some, none))

-- without several files there is no last line
pub no_last_line : (several : Bool) (line : List ℕ) → several ≡ false → (if several then line else []) ≡ []
no_last_line several line one = ap (λ (b : Bool). if b then line else []) one

-- the end of the check of one file that has no tables, of which this was found
pub one_passed : (files : Files) (settings : Settings) (found : Diagnosis) (output : List ℕ) (status ends : ℕ) (before middle after : DeskState)
    → files.several ≡ false → has_tables found ≡ false → IsFound settings found → IsGoneOver files found before middle
    → output ≡ output_of files (found ∷ []) → status ≡ greatest_status (found ∷ []) → IsPrinted output status ends middle after → Ends ends before after
one_passed files settings (Gave name text (checks.Reads tables printed warnings)) output status ends before middle after one none is_found gone output_is status_is done =
    absurd (cc)
one_passed files settings (Gave name text (checks.Misplaced why)) output status ends before middle after one none is_found gone output_is status_is done =
    let said = complaint.Explained failure.BadPlace gone.1.lines in
    told_one output status ends before middle after said (inl status_is) (sym status_is) tt
    (output_is ∙ no_last_line files.several _ one) gone.1.told
    (reads_none status before.faults middle.faults (λ no. absurd (let is : 64 ≡ 66 = sym status_is ∙ no in omega (arith, is)))
    (ap (λ (at : DeskState). at.faults) gone.0))
    (ap (λ (at : DeskState). at.written) gone.0) (inr (name, file_bytes, text, ap (λ (at : DeskState). at.files) gone.0)) done
one_passed files settings (Gave name text (checks.Refused error why)) output status ends before middle after one none is_found gone output_is status_is done =
    let said = complaint.Explained (failure.Engine (engine.Text error)) gone.1.lines in
    told_one output status ends before middle after said (inr (inl status_is))
    (refused_status error is_found.1.no_want ∙ sym status_is) tt
    (output_is ∙ no_last_line files.several _ one) gone.1.told
    (reads_none status before.faults middle.faults (λ no. absurd (let is : 65 ≡ 66 = sym status_is ∙ no in omega (arith, is)))
    (ap (λ (at : DeskState). at.faults) gone.0))
    (ap (λ (at : DeskState). at.written) gone.0) (inr (name, file_bytes, text, ap (λ (at : DeskState). at.files) gone.0)) done
one_passed files settings (Lost name) output status ends before middle after one none is_found gone output_is status_is done =
    told_one output status ends before middle after (complaint.Failure failure.CannotRead) (inr (inr (inl status_is))) (sym status_is) tt
    (output_is ∙ no_last_line files.several _ one)
    (lost_alone files.several name before.told middle.told one gone.1.1)
    (record { fails = λ _. gone.1.0; works = λ other. absurd (other status_is) })
    (ap (λ (at : DeskState). at.written) gone.0) (inl (ap (λ (at : DeskState). at.files) gone.0)) done

-- the end of the check of one file, of which this was found: one that reads was warned of first
one_found : (files : Files) (settings : Settings) (found : Diagnosis) (output : List ℕ) (status ends : ℕ) (before middle after : DeskState)
    → files.several ≡ false → IsFound settings found → IsGoneOver files found before middle → output ≡ output_of files (found ∷ [])
    → status ≡ greatest_status (found ∷ []) → IsPrinted output status ends middle after → EndsWarned ends before after
one_found files settings (Gave name text (checks.Reads tables printed warnings)) output status ends before middle after one is_found gone output_is status_is (inl done) =
    let none : ends ≡ 0 = done.0 ∙ status_is in
    record {
      first = middle.told;
      warned = inr (inl none, (warnings.items, gone.1));
      ends = ends_well ends (record before { told = middle.told }) after none (ap (λ (at : DeskState). at.told) done.1)
          (ap (λ (at : DeskState). at.faults) done.1 ∙ ap (λ (at : DeskState). at.faults) gone.0);
    }
one_found files settings (Gave name text (checks.Reads tables printed warnings)) output status ends before middle after one is_found gone output_is status_is (inr fails) = record {
  first = middle.told;
  warned = inr (inr fails.ends_is, (warnings.items, gone.1));
  ends = ends_cut ends (record before { told = middle.told }) after (complaint.Failure failure.CannotWrite) fails.ends_is refl tt
      (ap (λ (at : DeskState). at.told) fails.told)
      (ap (λ (at : DeskState). at.faults) fails.told ∙ ap (λ (at : DeskState). at.faults) gone.0)
      (subst (λ n. CountsFailure n after.failures) (ap (λ (at : DeskState). at.failures) gone.0) fails.failed);
}
one_found files settings (Gave name text (checks.Misplaced why)) output status ends before middle after one is_found gone output_is status_is done =
    unwarned ends before after
    (one_passed files settings (Gave name text (checks.Misplaced why)) output status ends before middle after one refl is_found gone output_is status_is done)
one_found files settings (Gave name text (checks.Refused error why)) output status ends before middle after one is_found gone output_is status_is done =
    unwarned ends before after
    (one_passed files settings (Gave name text (checks.Refused error why)) output status ends before middle after one refl is_found gone output_is status_is done)
one_found files settings (Lost name) output status ends before middle after one is_found gone output_is status_is done =
    unwarned ends before after
    (one_passed files settings (Lost name) output status ends before middle after one refl is_found gone output_is status_is done)

-- all of one file were gone over
one_checked : (request : CheckRequest) (founds : List Diagnosis) (settings : Settings) (output : List ℕ) (status ends : ℕ) (before middle after : DeskState)
    → length request.files.items ≡ 1 → length founds ≡ length request.files.items → All (IsFound settings) founds
    → AreGoneOver (asked_of request) founds before middle → output ≡ output_of (asked_of request) founds → status ≡ greatest_status founds
    → IsPrinted output status ends middle after → EndsWarned ends before after
one_checked request [] settings output status ends before middle after one all are_found gone output_is status_is done =
    absurd (let no : 0 ≡ 1 = all ∙ one in omega (arith, no))
one_checked request (found ∷ []) settings output status ends before middle after one all are_found gone output_is status_is done =
    one_found (asked_of request) settings found output status ends before middle after (ap (λ n. nat_lt 1 n) one)
    (are_found 0 found (omega arith)) (subst (λ (at : DeskState). IsGoneOver (asked_of request) found before at) (sym gone.2) gone.1) output_is
    status_is done
one_checked request (found ∷ other ∷ more) settings output status ends before middle after one all are_found gone output_is status_is done =
    absurd (let no : length (found ∷ other ∷ more) ≡ 1 = all ∙ one in omega (arith, no))

-- memory ran out over the one file
one_left : (request : CheckRequest) (founds : List Diagnosis) (status : ℕ) (before middle stopped after : DeskState)
    → length request.files.items ≡ 1 → (length founds < length request.files.items) ⊎ IsSeveral request
    → AreGoneOver (asked_of request) founds before middle → IsLeftOver (asked_of request).several middle stopped → status ≡ 71
    → after ≡ once_told (complaint.Failure failure.OutOfMemory) stopped → Ends status before after
one_left request [] status before middle stopped after one left gone over is told =
    ends_told status before after (complaint.Failure failure.OutOfMemory) (inr (inr (inr is))) (sym is) tt
    (ap (λ (at : DeskState). at.told) told ∙ ap (λ (t : Option (List Complaint)). heard t (complaint.Failure failure.OutOfMemory))
    (ap (λ (at : DeskState). at.told) over.rest ∙ ap (λ (at : DeskState). at.told) gone))
    (reads_none status before.faults after.faults (λ no. absurd (omega (arith, is, no)))
    (ap (λ (at : DeskState). at.faults) told ∙ (faults_alone (asked_of request).several middle stopped (ap (λ n. nat_lt 1 n) one) over.faults
    ∙ ap (λ (at : DeskState). at.faults) gone)))
    (ap (λ (at : DeskState). at.written) told ∙ (ap (λ (at : DeskState). at.written) over.rest ∙ ap (λ (at : DeskState). at.written) gone))
    (subst (λ (f : Option (List FileEvent)). OnlyRead f after.files) (ap (λ (at : DeskState). at.files) gone)
    (subst (λ (f : Option (List FileEvent)). OnlyRead middle.files f) (sym (ap (λ (at : DeskState). at.files) told)) over.files))
one_left request (found ∷ more) status before middle stopped after one (inl less) gone over is told =
    absurd (omega (arith, one, less))
one_left request (found ∷ more) status before middle stopped after one (inr many) gone over is told =
    absurd (omega (arith, one, many))

-- a list that doesn't read has the status of a mistake in the words
list_status : (request : CheckRequest) (said : Complaint) → AreListsAtFault request said → complaint_status_of said ≡ 64
list_status request said (inl schedule) = fault_status _ failure.BadSchedule said refl schedule.1
list_status request said (inr place) = fault_status _ failure.BadPlace said refl place.2

list_alone : (request : CheckRequest) (said : Complaint) → AreListsAtFault request said → IsOfNoOverwrite said
list_alone request said (inl schedule) = fault_alone _ failure.BadSchedule said schedule.1
list_alone request said (inr place) = fault_alone _ failure.BadPlace said place.2

-- how the check of one file ends
one_ends : (request : CheckRequest) (status : ℕ) (before after : DeskState) → length request.files.items ≡ 1
    → CheckEnds request status before after → EndsWarned status before after
one_ends request status before after one (Checked it) =
    one_checked request it.checked.founds it.checked.goes.settings it.output it.status status before it.middle after one it.checked.all
    it.checked.goes.are_found it.checked.goes.gone_over it.checked.output_is it.checked.status_is it.printed
one_ends request status before after one (Left it) = unwarned status before after
    (one_left request it.left.founds status before it.left.middle it.middle after one it.left.left it.left.goes.gone_over it.left.over
    it.status_is it.told)
one_ends request status before after one (Unread it) = unwarned status before after
    (ends_told status before after it.said (inl it.status_is) (list_status request it.said it.at_fault ∙ sym it.status_is)
    (list_alone request it.said it.at_fault)
    (ap (λ (at : DeskState). at.told) it.told)
    (reads_none status before.faults after.faults (λ no. absurd (let is = it.status_is in omega (arith, is, no)))
    (ap (λ (at : DeskState). at.faults) it.told))
    (ap (λ (at : DeskState). at.written) it.told) (inl (ap (λ (at : DeskState). at.files) it.told)))
one_ends request status before after one (Early it) = unwarned status before after
    (ends_told status before after (complaint.Failure failure.OutOfMemory) (inr (inr (inr it.status_is))) (sym it.status_is) tt
    (ap (λ (at : DeskState). at.told) it.told)
    (reads_none status before.faults after.faults (λ no. absurd (let is = it.status_is in omega (arith, is, no)))
    (ap (λ (at : DeskState). at.faults) it.told))
    (ap (λ (at : DeskState). at.written) it.told) (inl (ap (λ (at : DeskState). at.files) it.told)))

-- there are several files, or the check ends as that of one
pub ends_unless_several : (request : CheckRequest) (status : ℕ) (before after : DeskState) → KeepsCheckBounds request
    → CheckEnds request status before after → IsSeveral request ⊎ EndsWarned status before after
ends_unless_several request status before after bounds ends =
    let some = bounds.some in
    elim (cases_lt 1 (length request.files.items)) [
      | inl many ↦ inl many
      | inr few ↦ inr (one_ends request status before after (omega (arith, some, few)) ends)
    ]

-- the statuses of files
abbrev IsOfFiles : ℕ → Type 0
IsOfFiles status = (status ≡ 0) ⊎ ((64 ≤ status) × (status ≤ 66))

one_of_files : (found : Diagnosis) → IsOfFiles (status_of_one found)
one_of_files (Gave name text (checks.Reads tables printed warnings)) = inl refl
one_of_files (Gave name text (checks.Misplaced why)) = inr (omega arith, omega arith)
one_of_files (Gave name text (checks.Refused error why)) = inr (omega arith, omega arith)
one_of_files (Lost name) = inr (omega arith, omega arith)

greater_of_files : (one other : ℕ) → IsOfFiles one → IsOfFiles other → IsOfFiles (max one other)
greater_of_files one other (inl is) (inl none) = inl (omega (arith, is, none))
greater_of_files one other (inl is) (inr some) = let low = some.0 in let high = some.1 in inr (omega (arith, is, low), omega (arith, is, high))
greater_of_files one other (inr some) (inl is) = let low = some.0 in let high = some.1 in inr (omega (arith, is, low), omega (arith, is, high))
greater_of_files one other (inr some) (inr more) =
    let low = some.0 in let high = some.1 in let from = more.0 in let to = more.1 in
    inr (omega (arith, low, from), omega (arith, high, to))

greatest_of_files : (status : ℕ) (founds : List Diagnosis) → IsOfFiles status → IsOfFiles (fold max status (map status_of_one founds))
greatest_of_files status [] few = few
greatest_of_files status (found ∷ more) few =
    greatest_of_files (max status (status_of_one found)) more (greater_of_files status (status_of_one found) few (one_of_files found))

printed_status : (output : List ℕ) (status ends : ℕ) (before after : DeskState) → IsOfFiles status → IsPrinted output status ends before after
    → (ends ≡ 0) ⊎ (((64 ≤ ends) × (ends ≤ 66)) ⊎ ((ends ≡ 71) ⊎ (ends ≡ 74)))
printed_status output status ends before after (inl none) (inl done) = inl (done.0 ∙ none)
printed_status output status ends before after (inr few) (inl done) =
    let is = done.0 in let low = few.0 in let high = few.1 in inr (inl (omega (arith, is, low), omega (arith, is, high)))
printed_status output status ends before after few (inr fails) = inr (inr (inr fails.ends_is))

-- which statuses a check ends with
pub check_status : (request : CheckRequest) (status : ℕ) (before after : DeskState) → CheckEnds request status before after
    → (status ≡ 0) ⊎ (((64 ≤ status) × (status ≤ 66)) ⊎ ((status ≡ 71) ⊎ (status ≡ 74)))
check_status request status before after (Checked it) =
    printed_status it.output it.status status it.middle after
    (subst IsOfFiles (sym it.checked.status_is) (greatest_of_files 0 it.checked.founds (inl refl))) it.printed
check_status request status before after (Left it) = inr (inr (inl it.status_is))
check_status request status before after (Unread it) = let is = it.status_is in inr (inl (omega (arith, is), omega (arith, is)))
check_status request status before after (Early it) = inr (inr (inl it.status_is))

-- at 66 the lists that are asked for read
pub check_reads : (request : CheckRequest) (status : ℕ) (before after : DeskState) → CheckEnds request status before after → status ≡ 66
    → (settings : Settings) × CheckAsksFor request settings
check_reads request status before after (Checked it) is = (it.checked.goes.settings, it.checked.goes.asks)
check_reads request status before after (Left it) is = (it.left.goes.settings, it.left.goes.asks)
check_reads request status before after (Unread it) is = absurd (let other = it.status_is in omega (arith, is, other))
check_reads request status before after (Early it) is = absurd (let other = it.status_is in omega (arith, is, other))

-- one side of a choice follows from another
pub on_right : {A B C : Type 0} → (B → C) → A ⊎ B → A ⊎ C
on_right {A} {B} {C} follows (inl a) = inl a
on_right {A} {B} {C} follows (inr b) = inr (follows b)

pub on_left : {A B C : Type 0} → (A → B) → A ⊎ C → B ⊎ C
on_left {A} {B} {C} follows (inl a) = inl (follows a)
on_left {A} {B} {C} follows (inr c) = inr c

-- no check ends so
pub ends_otherwise : (request : CheckRequest) (status other : ℕ) (before after : DeskState) → CheckEnds request status before after
    → status ≡ other → (other ≡ 2) ⊎ (other ≡ 75) → ⊥
ends_otherwise request status other before after ends is neither = elim (check_status request status before after ends) [
  | inl none ↦ omega (arith, is, neither, none)
  | inr (inl few) ↦ let low = few.0 in let high = few.1 in omega (arith, is, neither, low, high)
  | inr (inr (inl out)) ↦ omega (arith, is, neither, out)
  | inr (inr (inr cut)) ↦ omega (arith, is, neither, cut)
]
