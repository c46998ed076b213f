-- Files that are looked into one after the other, and what comes of them all.
use Rattle.std.proofs.Common.{◌≡◌, ◌∙◌, ◌<◌, ◌+◌, ◌^◌, ◌⊎◌, ◌++◌, ◌∷◌, [], ℕ, All, Bool, ◌&&◌, List, None, Option}
use Rattle.std.proofs.Common.{Some, ap, append-nil, append_assoc, arith, false, flat_map, vec_len, Vec, ◌==◌}
use Rattle.std.specs.Global.{Global}
use Rattle.std.proofs.Common.{fold, if◌then◌else◌, inl, inr, length, length-append, map, nat_lt, rules, refl, subst, sym, take, true}
use Rattle.std.proofs.lemmas.Bool.Decides.{eqb_tells}
use Rattle.std.proofs.lemmas.Grind.{flat_map-append}
use Rattle.std.proofs.lemmas.List.{length-map, map-append}
use Rattle.std.proofs.lemmas.List.Elements.{All-append, All-cons, All-head, All-nil, All-tail}
use Rattle.std.proofs.lemmas.List.Sums.{fold-append}
use Rattle.diagnostics.specs.check_output.Diagnosis.{Diagnosis, Gave, Lost, has_tables, status_of_one}
use Rattle.diagnostics.specs.declared.check_output.file.Files.{Files}
use Rattle.diagnostics.specs.declared.text_check.checked.Check.TheVariants as checks
use Rattle.file_commands.proofs.CheckLemmas.{nothing_left, same_but_reads}
use Rattle.file_commands.specs.Check.{IsLeftOver, IsToldOf}
use Rattle.file_commands.specs.declared.complaint.Complaint.{Complaint}
use Rattle.diagnostics.specs.text_check.Check.{IsCheckOf}
use Rattle.diagnostics.specs.declared.text_check.checked.Check.{Check}
use Rattle.file_commands.specs.Desks.{DeskState}
use Rattle.file_commands.specs.FileWork.{AreLeftOut, AreLookedInto, Asked, CanCount, FileFound, IsClear, IsFileFound, IsLookedAt, IsLookedInto, LooksInto, PassedOver}
use Rattle.file_search.specs.Work.{IsClearText, IsFoundIn, IsSearchFound}
use Rattle.file_commands.specs.FileWork.{Refused, Searched, counted, counts_of, file_of, file_status_of, files_of, files_output_of, has_names, is_more}
use Rattle.file_search.specs.Work.{has_rows, heading_of, has_search_rows}
use Rattle.file_commands.specs.FileWork.{no_counts, once_given, printed_of, refused_by, status_of_all}
use Rattle.file_search.specs.Work.{is_text, last_line_of, rank, search_verdict_of, unsearched_text}
use Rattle.file_commands.specs.FileWork.{verdict_in, verdict_status_of}
use Rattle.file_search.specs.Work.{worse}
use Rattle.file_search.specs.declared.work.Work.{Work}
use Rattle.file_search.specs.declared.work.Work.TheVariants as works
use Rattle.search_formats.specs.Refusals as unsearched
use Rattle.search_formats.specs.declared.refusal.Refusal.{Refusal}
use Rattle.search_formats.specs.declared.refusal.Refusal.TheVariants as refusals
use Rattle.search_formats.specs.declared.wanted.Format as search_format
use Rattle.search_formats.specs.declared.wanted.Format.TheVariants as search_formats
use Rattle.file_commands.specs.Settings.{AskSettings}
use Rattle.file_commands.specs.Statuses.{engine_status_of, run_status_of, text_status_of}
use Rattle.file_commands.specs.declared.files.FileSaid.{FileSaid}
use Rattle.litmus_parse.specs.Text.{file_bytes}
use Rattle.litmus_syntax.specs.declared.error.ParseError.{ParseError}
use Rattle.litmus_syntax.specs.declared.error.ParseError.TheVariants as parse
use Rattle.prepared_program.specs.declared.program_sites.error.RunError.{RunError}
use Rattle.prepared_program.specs.declared.program_sites.error.RunError.TheVariants as run
use Rattle.prepared_program.specs.declared.program_sites.settings.Settings.{Settings}
use Rattle.output_pieces.specs.declared.file_counts.FileCounts.{FileCounts}
use Rattle.race_output.specs.declared.words.FileVerdict.{FileVerdict}
use Rattle.race_output.specs.declared.words.FileVerdict.TheVariants as verdicts
use Rattle.run_output.specs.declared.error.EngineError.{EngineError}
use Rattle.run_output.specs.declared.error.EngineError.TheVariants as engine

-- the status and the reason, of one that has them
abbrev in_some : Option (ℕ × Refusal) → ℕ × Refusal
in_some None = (0, refusals.BadPlace)
in_some (Some it) = it

-- of a text that isn't read as a program this is said, once it was told
pub unread_said : (asked : Asked) (settings : Settings) (name text : List ℕ) (check : Check) (status : ℕ) (why : Refusal) (said : FileSaid)
    (before middle after : DeskState) → (files_of asked).several ≡ true → IsCheckOf name text settings check
    → Some (status, why) ≡ refused_by check → middle ≡ once_given name text before → after ≡ record middle { told = after.told }
    → IsToldOf (files_of asked) (Gave name text check) middle.told after.told → said.text.items ≡ unsearched_text asked.work name status why
    → said.verdict ≡ None → said.status ≡ status → IsLookedAt asked settings name said before after
unread_said asked settings name text check status why said before middle after several is_check is given rest told text_is verdict_is status_is =
    by check is_check is told
  where
    gone : (check : Check) → IsToldOf (files_of asked) (Gave name text check) middle.told after.told
        → IsLookedInto (files_of asked) (PassedOver (Gave name text check)) before after
    gone check told = (
      several,
      (
        rest ∙ ap (λ (at : DeskState). record at { told = after.told }) given,
        subst (λ (t : Option (List Complaint)). IsToldOf (files_of asked) (Gave name text check) t after.told)
            (ap (λ (at : DeskState). at.told) given) told,
      ),
    )

    by : (check : Check) → IsCheckOf name text settings check → Some (status, why) ≡ refused_by check
        → IsToldOf (files_of asked) (Gave name text check) middle.told after.told → IsLookedAt asked settings name said before after
    by (checks.Reads tables printed warnings) is_check is told = absurd (cc)
    by (checks.Misplaced line) is_check is told =
        let both : (status, why) ≡ (64, refusals.BadPlace) = ap in_some is in
        let first : status ≡ 64 = ap (λ (it : ℕ × Refusal). it.0) both in
        let second : why ≡ refusals.BadPlace = ap (λ (it : ℕ × Refusal). it.1) both in record {
          found = PassedOver (Gave name text (checks.Misplaced line));
          file_is = refl;
          is_found = (is_check, refl);
          said_is = record {
            text_is = text_is ∙ (ap (λ n. unsearched_text asked.work name n why) first ∙ ap (λ (r : Refusal). unsearched_text asked.work name 64 r) second);
            verdict_is = verdict_is;
            status_is = status_is ∙ first;
          };
          looked_into = gone (checks.Misplaced line) told;
        }
    by (checks.Refused error lines) is_check is told =
        let both : (status, why) ≡ (65, refusals.Text error) = ap in_some is in
        let first : status ≡ 65 = ap (λ (it : ℕ × Refusal). it.0) both in
        let second : why ≡ refusals.Text error = ap (λ (it : ℕ × Refusal). it.1) both in record {
          found = PassedOver (Gave name text (checks.Refused error lines));
          file_is = refl;
          is_found = (is_check, refl);
          said_is = record {
            text_is = text_is ∙ (ap (λ n. unsearched_text asked.work name n why) first ∙ ap (λ (r : Refusal). unsearched_text asked.work name 65 r) second);
            verdict_is = verdict_is;
            status_is = status_is ∙ first;
          };
          looked_into = gone (checks.Refused error lines) told;
        }

-- so many files were counted
abbrev pub total : FileCounts → ℕ
total counts = counts.free + counts.reported + counts.missed + counts.refused + counts.stopped

pub total_counted : (counts : FileCounts) (verdict : Option FileVerdict) → total (counted counts verdict) ≡ total counts + 1
total_counted counts (Some verdicts.Free) = omega arith
total_counted counts (Some verdicts.Reported) = omega arith
total_counted counts (Some verdicts.Missed) = omega arith
total_counted counts (Some verdicts.Stopped) = omega arith
total_counted counts None = omega arith

total_of : (all : List (Option FileVerdict)) (counts : FileCounts) → total (fold counted counts all) ≡ total counts + length all
total_of [] counts = omega arith
total_of (verdict ∷ more) counts =
    let rest = total_of more (counted counts verdict) in
    let first = total_counted counts verdict in omega (arith, rest, first)

-- one file more can be counted, where there can be one more
pub can_count_more : (counts : FileCounts) (count : ℕ) → total counts ≡ count → count + 1 < 2 ^ 64 → CanCount counts
can_count_more counts count all fits = record {
  free = omega (arith, all, fits);
  reported = omega (arith, all, fits);
  missed = omega (arith, all, fits);
  refused = omega (arith, all, fits);
  stopped = omega (arith, all, fits);
}

pub can_count : (founds : List FileFound) (counts : FileCounts) → counts ≡ counts_of founds → length founds + 1 < 2 ^ 64 → CanCount counts
can_count founds counts is fits =
    let all = total_of (map verdict_in founds) no_counts in
    let same : total counts ≡ total (counts_of founds) = ap total is in
    let many : length (map verdict_in founds) ≡ length founds = length-map founds verdict_in in
    can_count_more counts (length founds) (omega (arith, all, same, many)) fits

-- so many files were looked into: what was found of them, what is printed of these, how many have which verdict, and
-- their greatest status
pub record SearchedSoFar (asked : Asked) (settings : Settings) (count : ℕ) (output : List ℕ) (counts : FileCounts) (status : ℕ)
    (before after : DeskState) : Type 0 where
  pub founds : List FileFound
  pub count_is : length founds ≡ count
  pub names_are : map file_of founds ≡ take count (map (λ file. file.now) asked.files)
  pub are_found : All (IsFileFound asked.work settings) founds
  pub looked_into : AreLookedInto (files_of asked) founds before after
  pub output_is : output ≡ heading_of asked.work ++ flat_map (printed_of (has_names asked) asked.work) founds
  pub counts_are : counts ≡ counts_of founds
  pub status_is : status ≡ status_of_all asked.work founds

unfoldable pub none_searched : (asked : Asked) (settings : Settings) (output : List ℕ) (before : DeskState) → output ≡ heading_of asked.work
    → SearchedSoFar asked settings 0 output no_counts 0 before before
none_searched asked settings output before empty = record {
  founds = [];
  count_is = refl;
  names_are = refl;
  are_found = All-nil (IsFileFound asked.work settings);
  looked_into = refl;
  output_is = empty ∙ sym (append-nil (heading_of asked.work));
  counts_are = refl;
  status_is = refl;
}

-- one file more is looked into
pub more_looked_into : (files : Files) (founds : List FileFound) (found : FileFound) (before middle after : DeskState)
    → AreLookedInto files founds before middle → IsLookedInto files found middle after → AreLookedInto files (founds ++ found ∷ []) before after
more_looked_into files [] found before middle after none one =
    (after, subst (λ (at : DeskState). IsLookedInto files found at after) none one, refl)
more_looked_into files (first ∷ more) found before middle after all one =
    (all.0, all.1, more_looked_into files more found all.0 middle after all.2 one)

pub counts_more : (founds : List FileFound) (found : FileFound) → counts_of (founds ++ found ∷ []) ≡ counted (counts_of founds) (verdict_in found)
counts_more founds found =
    ap (fold counted no_counts) (map-append verdict_in founds (found ∷ []))
    ∙ fold-append counted no_counts (map verdict_in founds) (verdict_in found ∷ [])

pub status_more : (work : Work) (founds : List FileFound) (found : FileFound)
    → status_of_all work (founds ++ found ∷ []) ≡ worse work (status_of_all work founds) (file_status_of found)
status_more work founds found =
    ap (fold (worse work) 0) (map-append file_status_of founds (found ∷ [])) ∙ fold-append (worse work) 0 (map file_status_of founds) (file_status_of found ∷ [])

unfoldable pub one_searched : (asked : Asked) (settings : Settings) (count : ℕ) (output : List ℕ) (counts : FileCounts) (status : ℕ)
    (before middle after : DeskState) (name : List ℕ) (said : FileSaid) (more : List ℕ) (others : FileCounts) (greatest : ℕ)
    → SearchedSoFar asked settings count output counts status before middle
    → take (count + 1) (map (λ file. file.now) asked.files) ≡ take count (map (λ file. file.now) asked.files) ++ name ∷ []
    → IsLookedAt asked settings name said middle after → more ≡ output ++ said.text.items → others ≡ counted counts said.verdict
    → greatest ≡ worse asked.work status said.status → SearchedSoFar asked settings (count + 1) more others greatest before after
one_searched asked settings count output counts status before middle after name said more others greatest far named looks more_is others_are greatest_is =
    let founds = far.founds in
    let found = looks.found in
    let names = has_names asked in record {
      founds = founds ++ found ∷ [];
      count_is = length-append founds (found ∷ []) ∙ ap (λ n. n + 1) far.count_is;
      names_are = map-append file_of founds (found ∷ []) ∙ (ap (λ xs. xs ++ file_of found ∷ []) far.names_are
          ∙ (ap (λ (name : List ℕ). take count (map (λ file. file.now) asked.files) ++ name ∷ []) looks.file_is ∙ sym named));
      are_found = All-append (IsFileFound asked.work settings) founds (found ∷ []) far.are_found
          (All-cons (IsFileFound asked.work settings) found [] looks.is_found (All-nil (IsFileFound asked.work settings)));
      looked_into = more_looked_into (files_of asked) founds found before middle after far.looked_into looks.looked_into;
      output_is = more_is ∙ (ap (λ text. output ++ text) looks.said_is.text_is ∙ (ap (λ text. text ++ printed_of names asked.work found) far.output_is
          ∙ (append_assoc (heading_of asked.work) (flat_map (printed_of names asked.work) founds) (printed_of names asked.work found)
          ∙ ap (λ text. heading_of asked.work ++ text) (ap (λ text. flat_map (printed_of names asked.work) founds ++ text)
          (sym (append-nil (printed_of names asked.work found))) ∙ sym (flat_map-append (printed_of names asked.work) founds (found ∷ []))))));
      counts_are = others_are ∙ (ap (λ (verdict : Option FileVerdict). counted counts verdict) looks.said_is.verdict_is
          ∙ (ap (λ (c : FileCounts). counted c (verdict_in found)) far.counts_are ∙ sym (counts_more founds found)));
      status_is = greatest_is ∙ (ap (λ n. worse asked.work status n) looks.said_is.status_is
          ∙ (ap (λ n. worse asked.work n (file_status_of found)) far.status_is ∙ sym (status_more asked.work founds found)));
    }

-- more is printed where there are rows
more_by_rows : (asked : Asked) → has_rows asked.work ≡ true → is_more asked ≡ true
more_by_rows asked rows = by (nat_lt 1 (length asked.files)) refl where
  by : (several : Bool) → nat_lt 1 (length asked.files) ≡ several → is_more asked ≡ true
  by true is = rw is refl
  by false is = rw (is, rows) refl

-- and nothing of a file that isn't looked into where there are none
none_by_format : (name : List ℕ) (format : search_format.Format) (status : ℕ) (why : Refusal) → has_search_rows format ≡ false
    → unsearched.refused_text name format status why ≡ []
none_by_format name search_formats.Text status why none = refl
none_by_format name search_formats.Json status why none = absurd (cc)
none_by_format name search_formats.Csv status why none = absurd (cc)
none_by_format name search_formats.Herd status why none = refl
none_by_format name (search_formats.Part part parts) status why none = refl

pub none_by_rows : (work : Work) (name : List ℕ) (status : ℕ) (why : Refusal) → has_rows work ≡ false → unsearched_text work name status why ≡ []
none_by_rows (works.Races work) name status why none = refl
none_by_rows (works.Search work) name status why none = none_by_format name work.wanted.format status why none

-- so far the files were looked into as they are asked for
abbrev pub looks_so_far : (asked : Asked) (settings : Settings) (count : ℕ) (output : List ℕ) (counts : FileCounts) (status : ℕ)
    (before after : DeskState) → AskSettings asked.options settings
    → (far : SearchedSoFar asked settings count output counts status before after) → LooksInto asked far.founds before after
looks_so_far asked settings count output counts status before after asks far = record {
  settings = settings;
  asks = asks;
  names = far.names_are ∙ ap (λ n. take n (map (λ file. file.now) asked.files)) (sym far.count_is);
  are_found = far.are_found;
  looked_into = far.looked_into;
}

-- memory ran out over the next file, or over what is printed besides
pub left_out_so_far : (asked : Asked) (settings : Settings) (count : ℕ) (output : List ℕ) (counts : FileCounts) (status : ℕ)
    (before middle after : DeskState) → AskSettings asked.options settings
    → SearchedSoFar asked settings count output counts status before middle → (count < length asked.files) ⊎ (is_more asked ≡ true)
    → IsLeftOver (is_more asked) middle after → AreLeftOut asked before after
left_out_so_far asked settings count output counts status before middle after asks far left over = record {
  founds = far.founds;
  left = subst (λ n. (n < length asked.files) ⊎ (is_more asked ≡ true)) (sym far.count_is) left;
  middle = middle;
  looks = looks_so_far asked settings count output counts status before middle asks far;
  over = over;
}

-- Memory ran out over what is printed of a file that was looked into: nothing was told of one that has a verdict, and of
-- another something is printed only for programs.
pub left_behind : (asked : Asked) (settings : Settings) (count : ℕ) (output : List ℕ) (counts : FileCounts) (status : ℕ)
    (before middle after : DeskState) (name : List ℕ) (said : FileSaid) → AskSettings asked.options settings
    → SearchedSoFar asked settings count output counts status before middle → count < length asked.files
    → take (count + 1) (map (λ file. file.now) asked.files) ≡ take count (map (λ file. file.now) asked.files) ++ name ∷ []
    → IsLookedAt asked settings name said middle after → (said.text.items ≡ [] → ⊥) → AreLeftOut asked before after
left_behind asked settings count output counts status before middle after name said asks far there named looks some =
    by looks.found looks.looked_into looks.said_is.text_is (has_rows asked.work) refl
  where
    behind : (has_rows asked.work ≡ true) → AreLeftOut asked before after
    behind rows =
        let more = one_searched asked settings count output counts status before middle after name said (output ++ said.text.items)
        (counted counts said.verdict) (worse asked.work status said.status) far named looks refl refl refl in
        left_out_so_far asked settings (count + 1) (output ++ said.text.items) (counted counts said.verdict) (worse asked.work status said.status)
        before after after asks more (inr (more_by_rows asked rows)) (nothing_left (is_more asked) after)

    by : (found : FileFound) → IsLookedInto (files_of asked) found middle after
        → said.text.items ≡ printed_of (has_names asked) asked.work found → (rows : Bool) → has_rows asked.work ≡ rows
        → AreLeftOut asked before after
    by (Searched own text output verdict) gone is rows rows_are =
        left_out_so_far asked settings count _ counts status before middle after asks far (inl there) (record {
          files = inr (own, file_bytes, text, ap (λ (at : DeskState). at.files) gone);
          faults = inl (ap (λ (at : DeskState). at.faults) gone);
          rest = same_but_reads middle after (ap (λ (at : DeskState). at.written) gone) (ap (λ (at : DeskState). at.failures) gone)
              (ap (λ (at : DeskState). at.told) gone);
        })
    by (Refused own text error) gone is true rows_are = behind rows_are
    by (Refused own text error) gone is false rows_are = absurd (some (is ∙ none_by_rows asked.work own _ _ rows_are))
    by (PassedOver why) gone is true rows_are = behind rows_are
    by (PassedOver why) gone is false rows_are = absurd (some (is ∙ none_by_rows asked.work _ _ _ rows_are))

-- of two statuses neither is above 0 where that which counts isn't
rank_zero : (status : ℕ) → rank status ≡ 0 → status ≡ 0
rank_zero status none = by (status == 75) refl none where
  by : (is : Bool) → (status == 75) ≡ is → (if is then 1 else status) ≡ 0 → status ≡ 0
  by true is none = absurd (omega (arith, none))
  by false is none = none

worse_zero : (work : Work) (status other : ℕ) → worse work status other ≡ 0 → (status ≡ 0) × (other ≡ 0)
worse_zero (works.Races work) status other none = (omega (arith, none), omega (arith, none))
worse_zero (works.Search work) status other none = by (nat_lt (rank status) (rank other)) refl none where
  by : (higher : Bool) → nat_lt (rank status) (rank other) ≡ higher → (if higher then other else status) ≡ 0 → (status ≡ 0) × (other ≡ 0)
  by true is none =
      let zero_rank : rank other ≡ 0 = ap rank none in
      absurd (let no : nat_lt (rank status) 0 ≡ true = ap (nat_lt (rank status)) (sym zero_rank) ∙ is in search rules)
  by false is none =
      let zero_rank : rank status ≡ 0 = ap rank none in
      let no : nat_lt 0 (rank other) ≡ false = ap (λ n. nat_lt n (rank other)) (sym zero_rank) ∙ is in
      (none, rank_zero other (search rules))

least_of_all : (work : Work) (statuses : List ℕ) (first : ℕ) → fold (worse work) first statuses ≡ 0 → first ≡ 0
least_of_all work [] first none = none
least_of_all work (status ∷ more) first none = (worse_zero work first status (least_of_all work more (worse work first status) none)).0

text_above : (error : ParseError) → text_status_of error ≡ 0 → ⊥
text_above parse.OutOfMemory none = omega (arith, none)
text_above (parse.Syntax line) none = omega (arith, none)
text_above (parse.Unsupported line) none = omega (arith, none)
text_above (parse.Limit limit) none = omega (arith, none)
text_above parse.NotAscii none = omega (arith, none)

run_above : (error : RunError) → run_status_of error ≡ 0 → ⊥
run_above run.BadSlots none = omega (arith, none)
run_above run.BadPlace none = omega (arith, none)
run_above run.OutOfMemory none = omega (arith, none)
run_above (run.Stuck task) none = omega (arith, none)
run_above run.BadSchedule none = omega (arith, none)
run_above run.NoThread none = omega (arith, none)

engine_above : (error : EngineError) → engine_status_of error ≡ 0 → ⊥
engine_above (engine.Text error) none = text_above error none
engine_above (engine.Run error) none = run_above error none
engine_above engine.SinkFailed none = omega (arith, none)

verdict_free : (verdict : FileVerdict) → verdict_status_of verdict ≡ 0 → verdict ≡ verdicts.Free
verdict_free verdicts.Free none = refl
verdict_free verdicts.Reported none = absurd (omega (arith, none))
verdict_free verdicts.Missed none = absurd (omega (arith, none))
verdict_free verdicts.Stopped none = absurd (omega (arith, none))

passed_above : (why : Diagnosis) → has_tables why ≡ false → status_of_one why ≡ 0 → ⊥
passed_above (Gave name text (checks.Reads tables printed warnings)) has none = cc
passed_above (Gave name text (checks.Misplaced why)) has none = omega (arith, none)
passed_above (Gave name text (checks.Refused error why)) has none = omega (arith, none)
passed_above (Lost name) has none = omega (arith, none)

search_free : (raced stopped : Bool) → search_verdict_of raced stopped ≡ verdicts.Free → (raced ≡ false) × (stopped ≡ false)
search_free true stopped is = absurd (cc)
search_free false true is = absurd (cc)
search_free false false is = (refl, refl)

-- a text with the verdict that none was found is clear
clear_text : (work : Work) (settings : Settings) (name text output : List ℕ) (verdict : FileVerdict)
    → IsFoundIn work settings name text output verdict → verdict ≡ verdicts.Free → IsClearText work settings name text output
clear_text (works.Races work) settings name text output verdict is free = is.1 free
clear_text (works.Search work) settings name text output verdict is free =
    let none = search_free is.0 is.1 (sym is.3 ∙ free) in
    subst (λ b. IsSearchFound work settings name text output false b) none.1
    (subst (λ b. IsSearchFound work settings name text output b is.1) none.0 is.2)

-- a file has the status 0 where it is clear
clear_alone : (work : Work) (settings : Settings) (found : FileFound) → IsFileFound work settings found → file_status_of found ≡ 0
    → IsClear work settings found
clear_alone work settings (Searched name text output verdict) is none =
    clear_text work settings name text output verdict is (verdict_free verdict none)
clear_alone work settings (Refused name text error) is none = engine_above error none
clear_alone work settings (PassedOver why) is none = passed_above why is.1 none

all_clear_from : (work : Work) (settings : Settings) (founds : List FileFound) (first : ℕ) → All (IsFileFound work settings) founds
    → fold (worse work) first (map file_status_of founds) ≡ 0 → All (IsClear work settings) founds
all_clear_from work settings [] first are none = All-nil (IsClear work settings)
all_clear_from work settings (found ∷ more) first are none =
    let both = least_of_all work (map file_status_of more) (worse work first (file_status_of found)) none in
    let own : file_status_of found ≡ 0 = (worse_zero work first (file_status_of found) both).1 in
    All-cons (IsClear work settings) found more (clear_alone work settings found (All-head (IsFileFound work settings) found more are) own)
    (all_clear_from work settings more (worse work first (file_status_of found)) (All-tail (IsFileFound work settings) found more are) none)

-- and so are all, where that is the status of all
pub all_clear : (work : Work) (settings : Settings) (founds : List FileFound) (status : ℕ) → All (IsFileFound work settings) founds
    → status ≡ status_of_all work founds → status ≡ 0 → All (IsClear work settings) founds
all_clear work settings founds status are is none = all_clear_from work settings founds 0 are (sym is ∙ none)

-- where names are printed more is printed
pub more_by_names : (asked : Asked) → has_names asked ≡ true → is_more asked ≡ true
more_by_names asked names = by (nat_lt 1 (length asked.files)) refl where
  by : (several : Bool) → several ≡ nat_lt 1 (length asked.files) → is_more asked ≡ true
  by true is = rw (sym is) refl
  by false is = absurd (let no : false ≡ true = ap (λ (b : Bool). b && is_text asked.work) is ∙ names in cc)

-- what is printed of all files
pub output_so_far : (asked : Asked) (founds : List FileFound) (output : List ℕ) (counts : FileCounts) (text : List ℕ)
    → output ≡ heading_of asked.work ++ flat_map (printed_of (has_names asked) asked.work) founds → counts ≡ counts_of founds
    → text ≡ output ++ (if has_names asked then last_line_of asked.work counts else [])
    → text ≡ files_output_of (has_names asked) asked.work founds
output_so_far asked founds output counts text output_is counts_are text_is =
    text_is ∙ (ap (λ (xs : List ℕ). xs ++ (if has_names asked then last_line_of asked.work counts else [])) output_is
    ∙ ap (λ (c : FileCounts). heading_of asked.work ++ flat_map (printed_of (has_names asked) asked.work) founds
    ++ (if has_names asked then last_line_of asked.work c else [])) counts_are)

eqb_zero : (n : ℕ) → (n == 0) ≡ true → n ≡ 0
eqb_zero n is = elim (eqb_tells n 0) [
  | inl same ↦ same.1
  | inr differs ↦ absurd (let no : true ≡ false = sym is ∙ differs.0 in cc)
]

-- a text is empty where it has no bytes
pub empty_text : (text : Vec ℕ Global) (is : Bool) → is ≡ (vec_len text == 0) → is ≡ true → text.items ≡ []
empty_text text is told none =
    let len = text.ok.0 in
    let zero_len = eqb_zero (vec_len text) (sym told ∙ none) in
    no_items text.items (omega (arith, len, zero_len))
  where
    no_items : (items : List ℕ) → length items ≡ 0 → items ≡ []
    no_items [] none = refl
    no_items (x ∷ xs) none = absurd (omega (arith, none))
