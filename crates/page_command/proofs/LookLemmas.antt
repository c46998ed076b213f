-- Files that are looked into one after the other, and what a page tells of them.
use Rattle.std.proofs.Common.{◌≡◌, ◌∙◌, ◌+◌, ◌++◌, ◌∷◌, [], ℕ, Err, IfOk, List, None, Ok, Option, Result, Some, ap, map, refl, subst, sym, take, true}
use Rattle.std.specs.List.{AllZip}
use Rattle.diagnostics.specs.check_output.Diagnosis.{Gave}
use Rattle.diagnostics.specs.declared.text_check.checked.Check.{Check}
use Rattle.diagnostics.specs.declared.text_check.checked.Check.TheVariants as checks
use Rattle.diagnostics.specs.text_check.Check.{IsCheckOf}
use Rattle.file_commands.proofs.FilesLemmas.{SearchedSoFar, looks_so_far, none_searched, one_searched}
use Rattle.file_commands.specs.Check.{IsLeftOver, IsToldOf}
use Rattle.file_commands.specs.Desks.{DeskState}
use Rattle.file_commands.specs.FileWork.{Asked, IsLookedInto, PassedOver, counted, files_of, no_counts, once_given, refused_by}
use Rattle.file_search.specs.Work.{heading_of, unsearched_text, worse}
use Rattle.file_commands.specs.Settings.{AskSettings}
use Rattle.file_commands.specs.declared.complaint.Complaint.{Complaint}
use Rattle.file_search.specs.declared.work.RacesWork.{RacesWork}
use Rattle.file_search.specs.declared.work.Work.{Work}
use Rattle.file_search.specs.declared.work.Work.TheVariants as works
use Rattle.output_pieces.specs.declared.file_counts.FileCounts.{FileCounts}
use Rattle.page_command.specs.Looks.{AreLeft, IsLooked}
use Rattle.page_command.specs.Told.{IsRefusedTold, IsTold}
use Rattle.page_command.specs.declared.looks.Looked.{Looked}
use Rattle.prepared_program.specs.declared.program_sites.settings.Settings.{Settings}
use Rattle.race_output.specs.declared.file.Format.{Format}
use Rattle.race_page.specs.declared.values.FileTold.{FileTold}
use Rattle.search_formats.specs.declared.refusal.Refusal.{Refusal}
use Rattle.search_formats.specs.declared.refusal.Refusal.TheVariants as refusals

-- one more of each of two lists
zip_more : {A B : Type 0} (R : A → B → Type 0) (xs : List A) (ys : List B) (x : A) (y : B) → AllZip R xs ys → R x y
    → AllZip R (xs ++ x ∷ []) (ys ++ y ∷ [])
zip_more R [] [] x y all one = (one, tt)
zip_more R [] (other ∷ ys) x y all one = absurd all
zip_more R (other ∷ xs) [] x y all one = absurd all
zip_more R (first ∷ xs) (second ∷ ys) x y all one = (all.0, zip_more R xs ys x y all.1 one)

-- what is so of both is so of a result
pub both_ok : {X E : Type 0} (result : Result X E) (P Q R : X → Type 0) → ((x : X) → P x → Q x → R x) → IfOk result P
    → IfOk result Q → IfOk result R
both_ok (Ok x) P Q R follows first second = follows x first second
both_ok (Err e) P Q R follows first second = tt

-- so many files were looked into, and a page tells this of them
pub record ToldSoFar (asked : Asked) (format : Format) (settings : Settings) (count : ℕ) (output : List ℕ)
    (counts : FileCounts) (status : ℕ) (files : List FileTold) (before after : DeskState) : Type 0 where
  pub far : SearchedSoFar asked settings count output counts status before after
  pub told : AllZip (IsTold settings format) far.founds files

pub none_told : (asked : Asked) (format : Format) (settings : Settings) (output : List ℕ) (files : List FileTold) (before : DeskState)
    → output ≡ heading_of asked.work → files ≡ []
    → ToldSoFar asked format settings 0 output no_counts 0 files before before
unfolding none_searched
none_told asked format settings output files before empty none = record {
  far = none_searched asked settings output before empty;
  told = subst (λ (own : List FileTold). AllZip (IsTold settings format) [] own) (sym none) tt;
}

pub one_told : (asked : Asked) (format : Format) (settings : Settings) (count : ℕ) (output : List ℕ) (counts : FileCounts) (status : ℕ)
    (files : List FileTold) (before middle after : DeskState) (name : List ℕ) (looked : Looked) (more : List ℕ) (others : FileCounts)
    (greatest : ℕ) (all : List FileTold) → ToldSoFar asked format settings count output counts status files before middle
    → take (count + 1) (map (λ file. file.now) asked.files) ≡ take count (map (λ file. file.now) asked.files) ++ name ∷ []
    → IsLooked asked format settings name looked middle after → more ≡ output ++ looked.said.text.items
    → others ≡ counted counts looked.said.verdict → greatest ≡ worse asked.work status looked.said.status
    → all ≡ files ++ looked.told ∷ [] → ToldSoFar asked format settings (count + 1) more others greatest all before after
unfolding one_searched
one_told asked format settings count output counts status files before middle after name looked more others greatest all far named looks more_is others_are greatest_is all_are = record {
  far = one_searched asked settings count output counts status before middle after name looked.said more others greatest far.far named looks.said
      more_is others_are greatest_is;
  told = subst (λ (own : List FileTold). AllZip (IsTold settings format) (far.far.founds ++ looks.said.found ∷ []) own) (sym all_are)
      (zip_more (IsTold settings format) far.far.founds files looks.said.found looked.told far.told looks.told);
}

-- the status and the reason, of one that has them
abbrev in_some : Option (ℕ × Refusal) → ℕ × Refusal
in_some None = (0, refusals.BadPlace)
in_some (Some it) = it

-- of a text that isn't read as a program this is said and told, once standard error was told of it
pub unread_looked : (asked : Asked) (work : RacesWork) (settings : Settings) (name text : List ℕ) (check : Check) (status : ℕ) (why : Refusal)
    (looked : Looked) (before middle after : DeskState) → asked.work ≡ works.Races work → (files_of asked).several ≡ true
    → IsCheckOf name text settings check → Some (status, why) ≡ refused_by check → middle ≡ once_given name text before
    → after ≡ record middle { told = after.told } → IsToldOf (files_of asked) (Gave name text check) middle.told after.told
    → looked.said.text.items ≡ [] → looked.said.verdict ≡ None → looked.said.status ≡ status → IsRefusedTold name text why looked.told
    → IsLooked asked work.format settings name looked before after
unread_looked asked work settings name text check status why looked before middle after work_is several is_check is given rest told text_is verdict_is status_is told_is =
    by check is_check is told
  where
    gone : (check : Check) → IsToldOf (files_of asked) (Gave name text check) middle.told after.told
        → IsLookedInto (files_of asked) (PassedOver (Gave name text check)) before after
    gone check told = (
      several,
      (
        rest ∙ ap (λ (at : DeskState). record at { told = after.told }) given,
        subst (λ (t : Option (List Complaint)). IsToldOf (files_of asked) (Gave name text check) t after.told)
            (ap (λ (at : DeskState). at.told) given) told,
      ),
    )

    nothing : (code : ℕ) (reason : Refusal) → [] ≡ unsearched_text asked.work name code reason
    nothing code reason = ap (λ (own : Work). unsearched_text own name code reason) (sym work_is)

    by : (check : Check) → IsCheckOf name text settings check → Some (status, why) ≡ refused_by check
        → IsToldOf (files_of asked) (Gave name text check) middle.told after.told → IsLooked asked work.format settings name looked before after
    by (checks.Reads tables printed warnings) is_check is told = absurd (cc)
    by (checks.Misplaced line) is_check is told =
        let both : (status, why) ≡ (64, refusals.BadPlace) = ap in_some is in
        let first : status ≡ 64 = ap (λ (it : ℕ × Refusal). it.0) both in
        let second : why ≡ refusals.BadPlace = ap (λ (it : ℕ × Refusal). it.1) both in record {
          said = record {
            found = PassedOver (Gave name text (checks.Misplaced line));
            file_is = refl;
            is_found = (is_check, refl);
            said_is = record { text_is = text_is ∙ nothing 64 refusals.BadPlace; verdict_is = verdict_is; status_is = status_is ∙ first };
            looked_into = gone (checks.Misplaced line) told;
          };
          told = subst (λ (reason : Refusal). IsRefusedTold name text reason looked.told) second told_is;
        }
    by (checks.Refused error lines) is_check is told =
        let both : (status, why) ≡ (65, refusals.Text error) = ap in_some is in
        let first : status ≡ 65 = ap (λ (it : ℕ × Refusal). it.0) both in
        let second : why ≡ refusals.Text error = ap (λ (it : ℕ × Refusal). it.1) both in record {
          said = record {
            found = PassedOver (Gave name text (checks.Refused error lines));
            file_is = refl;
            is_found = (is_check, refl);
            said_is = record { text_is = text_is ∙ nothing 65 (refusals.Text error); verdict_is = verdict_is; status_is = status_is ∙ first };
            looked_into = gone (checks.Refused error lines) told;
          };
          told = subst (λ (reason : Refusal). IsRefusedTold name text reason looked.told) second told_is;
        }

-- memory ran out over the next file, or over what is printed or told of them all
pub left_so_far : (asked : Asked) (format : Format) (settings : Settings) (count : ℕ) (output : List ℕ) (counts : FileCounts) (status : ℕ)
    (files : List FileTold) (before middle after : DeskState) → AskSettings asked.options settings
    → ToldSoFar asked format settings count output counts status files before middle → IsLeftOver true middle after
    → AreLeft asked before after
left_so_far asked format settings count output counts status files before middle after asks far over = record {
  founds = far.far.founds;
  middle = middle;
  looks = looks_so_far asked settings count output counts status before middle asks far.far;
  over = over;
}
