-- How the races of one file end, and how those of several.
use Rattle.std.proofs.Common.{◌≡◌, ◌∙◌, ◌<◌, ◌≢◌, ◌⊎◌, ◌∷◌, ◌&&◌, ◌||◌, [], ℕ, All, Bool, List, Option, ap, arith, false, inl, inr, length}
use Rattle.std.proofs.Common.{max, nat_lt, refl, subst, sym, true}
use Rattle.std.proofs.lemmas.Bool.{cases_lt}
use Rattle.cli.specs.Bounds.{KeepsRacesBounds}
use Rattle.cli.specs.declared.request.RacesRequest.{RacesRequest}
use Rattle.diagnostics.specs.check_output.Diagnosis.{Diagnosis, Gave, Lost, has_tables, output_of}
use Rattle.diagnostics.specs.declared.check_output.file.Files.{Files}
use Rattle.diagnostics.specs.declared.text_check.checked.Check.TheVariants as checks
use Rattle.litmus_command.proofs.EndLemmas.{Ends, IsTold, ends_cut, ends_told, faults_alone, no_last_line, one_passed, reads_none, told_one}
use Rattle.file_commands.specs.Check.{IsLeftOver, IsPrinted}
use Rattle.file_commands.specs.Desks.{DeskState, once_told}
use Rattle.file_commands.specs.Files.{FileEvent, OnlyRead}
use Rattle.file_search.specs.Work as work
use Rattle.file_commands.specs.FileWork.{AllSearched, AreLookedInto, Asked, Early, FileFound, FilesEnd, IsFileFound, IsLookedInto, LeftOut, LeftTogether, Misplaced, PassedOver, Refused, Searched}
use Rattle.file_commands.specs.FileWork.{files_of, files_output_of, has_names, is_more, status_of_all, verdict_status_of}
use Rattle.file_commands.specs.Races.{AreSeveral, RacesEnds, asked_of_races}
use Rattle.file_commands.specs.Settings.{AskSettings}
use Rattle.file_commands.specs.StandardError.{heard}
use Rattle.file_commands.specs.Statuses.{engine_status_of, run_status_of, text_status_of}
use Rattle.file_commands.specs.declared.complaint.Complaint.{Complaint}
use Rattle.file_commands.specs.declared.complaint.Complaint.TheVariants as complaint
use Rattle.file_commands.specs.declared.failure.Failure.TheVariants as failure
use Rattle.litmus_parse.specs.Text.{file_bytes}
use Rattle.litmus_syntax.specs.declared.error.ParseError.{ParseError}
use Rattle.litmus_syntax.specs.declared.error.ParseError.TheVariants as parse
use Rattle.litmus_syntax.specs.declared.program.Program.{Program}
use Rattle.prepared_program.specs.declared.program_sites.error.RunError.{RunError}
use Rattle.prepared_program.specs.declared.program_sites.error.RunError.TheVariants as run
use Rattle.prepared_program.specs.declared.program_sites.settings.Settings.{Settings}
use Rattle.race_output.specs.declared.words.FileVerdict.{FileVerdict}
use Rattle.race_output.specs.declared.words.FileVerdict.TheVariants as verdicts
use Rattle.report_text.specs.Sink.{CountsFailure}
use Rattle.run_output.specs.declared.error.EngineError.{EngineError}
use Rattle.run_output.specs.declared.error.EngineError.TheVariants as engine
use Rattle.search_output.specs.Texts.{IsRefused, RunStops}

-- the statuses for verdicts
IsOfVerdict : ℕ → Type 0
IsOfVerdict status = (status ≡ 0) ⊎ ((status ≡ 2) ⊎ (status ≡ 75))

verdict_known : (verdict : FileVerdict) → IsOfVerdict (verdict_status_of verdict)
unfolding IsOfVerdict
verdict_known verdicts.Free = inl refl
verdict_known verdicts.Reported = inr (inl refl)
verdict_known verdicts.Missed = inr (inl refl)
verdict_known verdicts.Stopped = inr (inr refl)

-- an end with a verdict: nothing was told, and no read failed
ends_searched : (status : ℕ) (before after : DeskState) → IsOfVerdict status → after.told ≡ before.told → after.faults ≡ before.faults
    → Ends status before after
unfolding IsOfVerdict
ends_searched status before after (inl is) told faults = record {
  tells = record { quiet = λ _. told; stopped = λ _. told; told = λ from to. absurd (omega (arith, is, from)) };
  reads = reads_none status before.faults after.faults (λ no. absurd (omega (arith, is, no))) faults;
  ends = record {
    silent = λ from to. absurd (omega (arith, is, from));
    failed = λ no. absurd (omega (arith, is, no));
    known = inl is;
  };
}
ends_searched status before after (inr (inl is)) told faults = record {
  tells = record { quiet = λ _. told; stopped = λ _. told; told = λ from to. absurd (omega (arith, is, from)) };
  reads = reads_none status before.faults after.faults (λ no. absurd (omega (arith, is, no))) faults;
  ends = record {
    silent = λ from to. absurd (omega (arith, is, from));
    failed = λ no. absurd (omega (arith, is, no));
    known = inr (inl is);
  };
}
ends_searched status before after (inr (inr is)) told faults = record {
  tells = record { quiet = λ _. told; stopped = λ _. told; told = λ from to. absurd (omega (arith, is, to)) };
  reads = reads_none status before.faults after.faults (λ no. absurd (omega (arith, is, no))) faults;
  ends = record {
    silent = λ from to. absurd (omega (arith, is, to));
    failed = λ no. absurd (omega (arith, is, no));
    known = inr (inr (inr (inr (inr (inr is)))));
  };
}

-- a text that has no output but for want of memory has the status of a mistake in the words or of a file
text_told : (error : ParseError) → text_status_of error ≢ 71 → IsTold (text_status_of error)
text_told parse.OutOfMemory other = absurd (other refl)
text_told (parse.Syntax line) other = inr (inl refl)
text_told (parse.Unsupported line) other = inr (inl refl)
text_told (parse.Limit limit) other = inr (inl refl)
text_told parse.NotAscii other = inr (inl refl)

run_told : (program : Program) (settings : Settings) (error : RunError) → RunStops program settings error → run_status_of error ≢ 71
    → IsTold (run_status_of error)
run_told program settings run.BadSlots stops other = inl refl
run_told program settings run.BadPlace stops other = inl refl
run_told program settings run.OutOfMemory stops other = absurd (other refl)
run_told program settings (run.Stuck task) stops other = absurd stops
run_told program settings run.BadSchedule stops other = absurd stops
run_told program settings run.NoThread stops other = absurd stops

engine_told : (text : List ℕ) (settings : Settings) (error : EngineError) → IsRefused text settings error → engine_status_of error ≢ 71
    → IsTold (engine_status_of error)
engine_told text settings (engine.Text error) refused other = text_told error other
engine_told text settings (engine.Run error) refused other = run_told refused.0 settings error refused.2 other
engine_told text settings engine.SinkFailed refused other = absurd refused

not_unread : (status : ℕ) → IsTold status → (text : List ℕ) (settings : Settings) (error : EngineError) → IsRefused text settings error
    → status ≡ engine_status_of error → status ≡ 66 → ⊥
not_unread status told text settings (engine.Text error) refused is unread = by error (sym is ∙ unread) where
  by : (error : ParseError) → text_status_of error ≡ 66 → ⊥
  by parse.OutOfMemory same = omega (arith, same)
  by (parse.Syntax line) same = omega (arith, same)
  by (parse.Unsupported line) same = omega (arith, same)
  by (parse.Limit limit) same = omega (arith, same)
  by parse.NotAscii same = omega (arith, same)
not_unread status told text settings (engine.Run error) refused is unread = by error (sym is ∙ unread) where
  by : (error : RunError) → run_status_of error ≡ 66 → ⊥
  by run.BadSlots same = omega (arith, same)
  by run.BadPlace same = omega (arith, same)
  by run.OutOfMemory same = omega (arith, same)
  by (run.Stuck task) same = omega (arith, same)
  by run.BadSchedule same = omega (arith, same)
  by run.NoThread same = omega (arith, same)
not_unread status told text settings engine.SinkFailed refused is unread = absurd refused

-- of one file that is passed over nothing is printed
none_printed : (files : Files) (why : Diagnosis) → has_tables why ≡ false → files.several ≡ false → output_of files (why ∷ []) ≡ []
none_printed files (Gave name text (checks.Reads tables printed warnings)) has one = absurd (cc)
none_printed files (Gave name text (checks.Misplaced why)) has one = no_last_line files.several _ one
none_printed files (Gave name text (checks.Refused error why)) has one = no_last_line files.several _ one
none_printed files (Lost name) has one = no_last_line files.several _ one

greatest_alone : (n : ℕ) → max 0 n ≡ n
greatest_alone n = omega arith

-- the end of the races of one file, of which this was found
one_looked_into : (files : Files) (request : RacesRequest) (settings : Settings) (found : FileFound) (output : List ℕ) (status ends : ℕ)
    (before middle after : DeskState) → files.several ≡ false → IsFileFound (asked_of_races request).work settings found → IsLookedInto files found before middle
    → output ≡ files_output_of false (asked_of_races request).work (found ∷ []) → status ≡ status_of_all (asked_of_races request).work (found ∷ []) → IsPrinted output status ends middle after
    → Ends ends before after
unfolding IsOfVerdict
one_looked_into files request settings (Searched name text output verdict) printed status ends before middle after one _ gone _ status_is (inl done) =
    ends_searched ends before after
    (subst IsOfVerdict (sym (done.0 ∙ (status_is ∙ greatest_alone (verdict_status_of verdict)))) (verdict_known verdict))
    (ap (λ (at : DeskState). at.told) done.1 ∙ ap (λ (at : DeskState). at.told) gone)
    (ap (λ (at : DeskState). at.faults) done.1 ∙ ap (λ (at : DeskState). at.faults) gone)
one_looked_into files request settings (Searched name text output verdict) printed status ends before middle after one _ gone _ _ (inr fails) =
    ends_cut ends before after (complaint.Failure failure.CannotWrite) fails.ends_is refl tt
    (ap (λ (at : DeskState). at.told) fails.told
    ∙ ap (λ (t : Option (List Complaint)). heard t (complaint.Failure failure.CannotWrite)) (ap (λ (at : DeskState). at.told) gone))
    (ap (λ (at : DeskState). at.faults) fails.told ∙ ap (λ (at : DeskState). at.faults) gone)
    (subst (λ n. CountsFailure n after.failures) (ap (λ (at : DeskState). at.failures) gone) fails.failed)
one_looked_into files request settings (Refused name text error) printed status ends before middle after one is_found gone output_is status_is done =
    let is : status ≡ engine_status_of error = status_is ∙ greatest_alone (engine_status_of error) in
    let few : IsTold status = subst IsTold (sym is) (engine_told text settings error is_found.0 is_found.1) in
    told_one printed status ends before middle after (complaint.Failure (failure.Engine error)) few (sym is) tt output_is
    (ap (λ (at : DeskState). at.told) gone)
    (reads_none status before.faults middle.faults (not_unread status few text settings error is_found.0 is)
    (ap (λ (at : DeskState). at.faults) gone))
    (ap (λ (at : DeskState). at.written) gone) (inr (name, file_bytes, text, ap (λ (at : DeskState). at.files) gone)) done
one_looked_into files request settings (PassedOver why) printed status ends before middle after one is_found gone output_is status_is done =
    one_passed files settings why printed status ends before middle after one is_found.1 is_found.0 gone.1
    (output_is ∙ sym (none_printed files why is_found.1 one)) status_is done

-- one file alone has no name over it
no_names : (request : RacesRequest) → length request.files.items ≡ 1 → has_names (asked_of_races request) ≡ false
no_names request one = ap (λ n. nat_lt 1 n && work.is_text (asked_of_races request).work) one

-- and no more is printed than of it
one_alone : (request : RacesRequest) → length request.files.items ≡ 1 → is_more (asked_of_races request) ≡ false
one_alone request one = ap (λ n. nat_lt 1 n || work.has_rows (asked_of_races request).work) one

-- the one file was looked into
one_searched : (request : RacesRequest) (founds : List FileFound) (settings : Settings) (output : List ℕ) (status ends : ℕ)
    (before middle after : DeskState) → length request.files.items ≡ 1 → length founds ≡ length request.files.items
    → All (IsFileFound (asked_of_races request).work settings) founds → AreLookedInto (files_of (asked_of_races request)) founds before middle
    → output ≡ files_output_of (has_names (asked_of_races request)) (asked_of_races request).work founds → status ≡ status_of_all (asked_of_races request).work founds → IsPrinted output status ends middle after
    → Ends ends before after
one_searched request [] settings output status ends before middle after one all are_found gone output_is status_is done =
    absurd (let no : 0 ≡ 1 = all ∙ one in omega (arith, no))
one_searched request (found ∷ []) settings output status ends before middle after one all are_found gone output_is status_is done =
    one_looked_into (files_of (asked_of_races request)) request settings found output status ends before middle after (ap (λ n. nat_lt 1 n) one)
    (are_found 0 found (omega arith)) (subst (λ (at : DeskState). IsLookedInto (files_of (asked_of_races request)) found before at) (sym gone.2) gone.1)
    (output_is ∙ ap (λ (b : Bool). files_output_of b (asked_of_races request).work (found ∷ [])) (no_names request one)) status_is done
one_searched request (found ∷ other ∷ more) settings output status ends before middle after one all are_found gone output_is status_is done =
    absurd (let no : length (found ∷ other ∷ more) ≡ 1 = all ∙ one in omega (arith, no))

-- memory ran out over the one file
one_left_out : (request : RacesRequest) (founds : List FileFound) (status : ℕ) (before middle stopped after : DeskState)
    → length request.files.items ≡ 1 → (length founds < length request.files.items) ⊎ (is_more (asked_of_races request) ≡ true)
    → AreLookedInto (files_of (asked_of_races request)) founds before middle → IsLeftOver (is_more (asked_of_races request)) middle stopped → status ≡ 71
    → after ≡ once_told (complaint.Failure failure.OutOfMemory) stopped → Ends status before after
one_left_out request [] status before middle stopped after one left gone over is told =
    ends_told status before after (complaint.Failure failure.OutOfMemory) (inr (inr (inr is))) (sym is) tt
    (ap (λ (at : DeskState). at.told) told ∙ ap (λ (t : Option (List Complaint)). heard t (complaint.Failure failure.OutOfMemory))
    (ap (λ (at : DeskState). at.told) over.rest ∙ ap (λ (at : DeskState). at.told) gone))
    (reads_none status before.faults after.faults (λ no. absurd (omega (arith, is, no)))
    (ap (λ (at : DeskState). at.faults) told ∙ (faults_alone (is_more (asked_of_races request)) middle stopped (one_alone request one) over.faults
    ∙ ap (λ (at : DeskState). at.faults) gone)))
    (ap (λ (at : DeskState). at.written) told ∙ (ap (λ (at : DeskState). at.written) over.rest ∙ ap (λ (at : DeskState). at.written) gone))
    (subst (λ (f : Option (List FileEvent)). OnlyRead f after.files) (ap (λ (at : DeskState). at.files) gone)
    (subst (λ (f : Option (List FileEvent)). OnlyRead middle.files f) (sym (ap (λ (at : DeskState). at.files) told)) over.files))
one_left_out request (found ∷ more) status before middle stopped after one (inl less) gone over is told =
    absurd (omega (arith, one, less))
one_left_out request (found ∷ more) status before middle stopped after one (inr many) gone over is told =
    absurd (let no : false ≡ true = sym (one_alone request one) ∙ many in cc)

-- how the races of one file end
one_ends : (request : RacesRequest) (status : ℕ) (before after : DeskState) → length request.files.items ≡ 1
    → RacesEnds request status before after → Ends status before after
one_ends request status before after one (AllSearched it) =
    one_searched request it.searched.founds it.searched.looks.settings it.output it.status status before it.middle after one it.searched.all
    it.searched.looks.are_found it.searched.looks.looked_into it.searched.output_is it.searched.status_is it.printed
one_ends request status before after one (LeftOut it) =
    one_left_out request it.left.founds status before it.left.middle it.middle after one it.left.left it.left.looks.looked_into it.left.over
    it.status_is it.told
one_ends request status before after one (LeftTogether it) = absurd (let several = it.left.several in omega (arith, one, several))
one_ends request status before after one (Misplaced it) =
    ends_told status before after (complaint.Failure failure.BadPlace) (inl it.status_is) (sym it.status_is) tt
    (ap (λ (at : DeskState). at.told) it.told)
    (reads_none status before.faults after.faults (λ no. absurd (let is = it.status_is in omega (arith, is, no)))
    (ap (λ (at : DeskState). at.faults) it.told))
    (ap (λ (at : DeskState). at.written) it.told) (inl (ap (λ (at : DeskState). at.files) it.told))
one_ends request status before after one (Early it) =
    ends_told status before after (complaint.Failure failure.OutOfMemory) (inr (inr (inr it.status_is))) (sym it.status_is) tt
    (ap (λ (at : DeskState). at.told) it.told)
    (reads_none status before.faults after.faults (λ no. absurd (let is = it.status_is in omega (arith, is, no)))
    (ap (λ (at : DeskState). at.faults) it.told))
    (ap (λ (at : DeskState). at.written) it.told) (inl (ap (λ (at : DeskState). at.files) it.told))

-- there are several files, or the races end as those of one
pub races_end_unless_several : (request : RacesRequest) (status : ℕ) (before after : DeskState) → KeepsRacesBounds request
    → RacesEnds request status before after → AreSeveral request ⊎ Ends status before after
races_end_unless_several request status before after bounds ends =
    let some = bounds.some in
    elim (cases_lt 1 (length request.files.items)) [
      | inl many ↦ inl many
      | inr few ↦ inr (one_ends request status before after (omega (arith, some, few)) ends)
    ]

-- at 66 the place list that is asked for reads
pub files_read : (asked : Asked) (status : ℕ) (before after : DeskState) → FilesEnd asked status before after → status ≡ 66
    → (settings : Settings) × AskSettings asked.options settings
files_read asked status before after (AllSearched it) is = (it.searched.looks.settings, it.searched.looks.asks)
files_read asked status before after (LeftOut it) is = (it.left.looks.settings, it.left.looks.asks)
files_read asked status before after (LeftTogether it) is = (it.left.looks.settings, it.left.looks.asks)
files_read asked status before after (Misplaced it) is = absurd (let other = it.status_is in omega (arith, is, other))
files_read asked status before after (Early it) is = absurd (let other = it.status_is in omega (arith, is, other))
