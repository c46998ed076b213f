-- What a status says once a command has ended.
use Rattle.std.proofs.Common.{◌≡◌, ◌≤◌, ◌⊎◌, ℕ, List, Option, arith, false, inl, inr, refl, subst, true}
use Rattle.cli.specs.Bounds.{KeepsCheckBounds, KeepsRacesBounds}
use Rattle.cli.specs.declared.request.CheckRequest.{CheckRequest}
use Rattle.cli.specs.declared.request.JoinRequest.{JoinRequest}
use Rattle.cli.specs.declared.request.RacesRequest.{RacesRequest}
use Rattle.cli.specs.declared.request.SearchesRequest.{SearchesRequest}
use Rattle.cli.specs.declared.request.Request.{Request}
use Rattle.cli.specs.declared.request.Request.TheVariants as requests
use Rattle.cli.specs.declared.request.Request.TheVariants.{Check, Join, Races, Searches}
use Rattle.litmus_command.proofs.EndLemmas.{check_reads, ends_otherwise, ends_unless_several, on_left, on_right}
use Rattle.litmus_command.proofs.OverwriteLemmas.{kept_ends, kept_files, kept_otherwise, kept_reads, no_check, no_joins, no_races, no_searches, same_path}
use Rattle.litmus_command.proofs.ResultLemmas.{failures_are_known, known_above, known_below, known_so, tells_so}
use Rattle.litmus_command.proofs.FilesEndLemmas.{files_read}
use Rattle.litmus_command.proofs.PageEndLemmas.{all_races_end_unless_several, all_races_read}
use Rattle.file_commands.specs.Check.{CheckEnds}
use Rattle.file_commands.specs.Desks.{DeskState, once_told}
use Rattle.file_commands.specs.Statuses.{status_of}
use Rattle.litmus_command.specs.Command.{EndsAs, EndsFor, IsDone, IsStopped, OutputState, WarnsFirst, state_in}
use Rattle.litmus_command.specs.Ends.{Fails, IsCarriedOut, IsDoneWith, IsNoCheck, Succeeds}
use Rattle.litmus_command.specs.Overwrite.{IsKept, Overwrites}
use Rattle.file_commands.specs.Races.{SearchesEnd, asked_of_search}
use Rattle.join_command.specs.Ends.{JoinEnds}
use Rattle.page_command.specs.Ends.{AllRacesEnd}
use Rattle.file_commands.specs.declared.failure.Failure.{Failure}
use Rattle.file_commands.specs.declared.complaint.Complaint.{Complaint}
use Rattle.file_commands.specs.declared.complaint.Complaint.TheVariants as complaint

-- what is done ends with one of three statuses
module _ (request : Request) (status : ℕ) (before after : OutputState) where
  is_reported : IsDoneWith request status before after → status ≡ 2 → IsDone request true before after
  is_reported (inl done) is = done.1
  is_reported (inr (inl none)) is = absurd (let other = none.0 in omega (arith, is, other))
  is_reported (inr (inr stops)) is = absurd (let other = stops.0 in omega (arith, is, other))

  is_unreported : IsDoneWith request status before after → status ≡ 0 → IsDone request false before after
  is_unreported (inl done) is = absurd (let other = done.0 in omega (arith, is, other))
  is_unreported (inr (inl none)) is = none.1
  is_unreported (inr (inr stops)) is = absurd (let other = stops.0 in omega (arith, is, other))

  is_stopped : IsDoneWith request status before after → status ≡ 75 → IsStopped request before after
  is_stopped (inl done) is = absurd (let other = done.0 in omega (arith, is, other))
  is_stopped (inr (inl none)) is = absurd (let other = none.0 in omega (arith, is, other))
  is_stopped (inr (inr stops)) is = stops.1

  is_no_failure : IsDoneWith request status before after → 64 ≤ status → status ≤ 74 → ⊥
  is_no_failure (inl done) from to = let is = done.0 in omega (arith, is, from)
  is_no_failure (inr (inl none)) from to = let is = none.0 in omega (arith, is, from)
  is_no_failure (inr (inr stops)) from to = let is = stops.0 in omega (arith, is, to)

  is_known : IsDoneWith request status before after → (status ≡ 0) ⊎ (status ≡ 2) ⊎ ((64 ≤ status) × (status ≤ 66))
      ⊎ (status ≡ 70) ⊎ (status ≡ 71) ⊎ (status ≡ 74) ⊎ (status ≡ 75)
  is_known (inl done) = inr (inl done.0)
  is_known (inr (inl none)) = inl none.0
  is_known (inr (inr stops)) = inr (inr (inr (inr (inr (inr stops.0)))))

-- whatever is asked, nothing may be told first
warns_nothing : (request : Request) (status : ℕ) (told : Option (List Complaint)) → WarnsFirst request status told told
warns_nothing (requests.Step request) status told = refl
warns_nothing (requests.Run request) status told = refl
warns_nothing (requests.Search request) status told = refl
warns_nothing (requests.Searches request) status told = refl
warns_nothing (requests.Races request) status told = refl
warns_nothing (requests.Replay request) status told = refl
warns_nothing (requests.Show request) status told = refl
warns_nothing (requests.Check request) status told = inl refl
warns_nothing (requests.Join request) status told = refl
warns_nothing requests.Calls status told = refl

-- what ends so, whatever is asked, ends so for this
ends_for : (request : Request) (status : ℕ) (before after : OutputState) → EndsAs status before after → EndsFor request status before after
ends_for request status before after ends = record {
  silent = λ from to. record { written = (ends.silent from to).written; files = inl (ends.silent from to).files };
  failed = ends.failed;
  known = ends.known;
}

-- it was done
pub carried_well : (request : Request) (status : ℕ) (before after : DeskState) → IsNoCheck request → Succeeds request status before after
    → IsCarriedOut request status before after
carried_well request status before after plain well =
    let first = state_in before in
    let last = state_in after in
    let no = is_no_failure request status first last well.done in
    record {
      reported = is_reported request status first last well.done;
      unreported = is_unreported request status first last well.done;
      stopped = is_stopped request status first last well.done;
      unwritten = λ is. absurd (no (omega (arith, is)) (omega (arith, is)));
      refused = λ of. absurd (elim of [
        | inl is ↦ no (omega (arith, is)) (omega (arith, is))
        | inr is ↦ no (omega (arith, is)) (omega (arith, is))
      ]);
      misused = λ is. absurd (no (omega (arith, is)) (omega (arith, is)));
      unread = λ is. absurd (no (omega (arith, is)) (omega (arith, is)));
      checks = plain.checks status before after;
      races = plain.races status before after;
      searches = plain.searches status before after;
      joins = plain.joins status before after;
      keeps = λ path over. absurd (plain.keeps path over);
      reads = inr (record { fails = λ is. absurd (no (omega (arith, is)) (omega (arith, is))); works = λ _. well.faults });
      tells = inr (
        before.told,
        warns_nothing request status before.told,
        record { quiet = λ _. well.told; stopped = λ _. well.told; told = λ from to. absurd (no from to) },
      );
      ends = inr (record {
        silent = λ from to. absurd (no from (omega (arith, to)));
        failed = λ is. absurd (no (omega (arith, is)) (omega (arith, is)));
        known = is_known request status first last well.done;
      });
    }

-- it failed, and that was told
pub carried_failure : (request : Request) (failure : Failure) (before after : DeskState) → IsNoCheck request
    → Fails request (status_of failure) before after
    → IsCarriedOut request (status_of failure) before (once_told (complaint.Failure failure) after)
carried_failure request failure before after plain fails =
    let status = status_of failure in
    let known = failures_are_known failure in
    let above = known_above status known in
    let below = known_below status known in
    record {
      reported = λ is. absurd (omega (arith, is, above));
      unreported = λ is. absurd (omega (arith, is, above));
      stopped = λ is. absurd (omega (arith, is, below));
      unwritten = fails.cut;
      refused = fails.refused;
      misused = fails.misused;
      unread = fails.unread;
      checks = plain.checks status before _;
      races = plain.races status before _;
      searches = plain.searches status before _;
      joins = plain.joins status before _;
      keeps = λ path over. absurd (plain.keeps path over);
      reads = inr fails.reads;
      tells = inr (before.told, warns_nothing request status before.told, tells_so failure status before.told after.told known refl fails.told);
      ends = inr (record {
        silent = λ from to. fails.silent (λ is. omega (arith, is, to));
        failed = fails.failed;
        known = known_so status known;
      });
    }

-- a file that would be overwritten was kept
pub carried_kept : (request : Request) (path : List ℕ) (status : ℕ) (before after : DeskState) → Overwrites request path
    → IsKept path status before after → IsCarriedOut request status before after
carried_kept request path status before after over kept =
    let no : (other : ℕ) → status ≡ other → (other ≡ 64 → ⊥) → (other ≡ 71 → ⊥) → ⊥ =
    λ other. kept_otherwise path status other before after kept in
    record {
      reported = λ is. absurd (no 2 is (λ no. omega (arith, no)) (λ no. omega (arith, no)));
      unreported = λ is. absurd (no 0 is (λ no. omega (arith, no)) (λ no. omega (arith, no)));
      stopped = λ is. absurd (no 75 is (λ no. omega (arith, no)) (λ no. omega (arith, no)));
      unwritten = λ is. absurd (no 74 is (λ no. omega (arith, no)) (λ no. omega (arith, no)));
      refused = λ of. absurd (elim of [
        | inl is ↦ no 65 is (λ no. omega (arith, no)) (λ no. omega (arith, no))
        | inr is ↦ no 70 is (λ no. omega (arith, no)) (λ no. omega (arith, no))
      ]);
      misused = λ is. inr (inr ((path, over), kept_files path status before after kept));
      unread = λ is. absurd (no 66 is (λ no. omega (arith, no)) (λ no. omega (arith, no)));
      checks = no_check request path status before after over;
      races = no_races request path status before after over kept;
      searches = no_searches request path status before after over;
      joins = no_joins request path status before after over;
      keeps = λ other too. subst (λ (p : List ℕ). IsKept p status before after) (same_path request path other over too) kept;
      reads = inr (kept_reads path status before after kept);
      tells = inl (inr (path, over));
      ends = inr (ends_for request status (state_in before) (state_in after) (kept_ends path status before after kept));
    }

-- files were checked
pub carried_check : (request : CheckRequest) (status : ℕ) (before after : DeskState) → KeepsCheckBounds request
    → CheckEnds request status before after → IsCarriedOut (Check request) status before after
carried_check request status before after bounds ends =
    let alone = ends_unless_several request status before after bounds ends in
    let at : (other : ℕ) → status ≡ other → CheckEnds request other before after =
    λ other is. subst (λ (n : ℕ). CheckEnds request n before after) is ends in
    record {
      reported = λ is. ends_otherwise request status 2 before after ends is (inl refl);
      unreported = λ is. (before.told, after.told, before.faults, after.faults, at 0 is);
      stopped = λ is. ends_otherwise request status 75 before after ends is (inr refl);
      unwritten = λ is. (before.told, after.told, before.faults, after.faults, at 74 is);
      refused = λ of. (before.told, after.told, before.faults, after.faults, ends);
      misused = λ is. inr (inl (before.told, after.told, before.faults, after.faults, at 64 is));
      unread = check_reads request status before after ends;
      checks = ends;
      races = tt;
      searches = tt;
      joins = tt;
      keeps = λ path over. absurd over;
      reads = on_right (λ shown. shown.ends.reads) alone;
      tells = on_left inl (on_right (λ shown. (shown.first, shown.warned, shown.ends.tells)) alone);
      ends = on_right (λ shown. ends_for (Check request) status (state_in before) (state_in after) shown.ends.ends) alone;
    }

-- the races of files were looked for
pub carried_races : (request : RacesRequest) (status : ℕ) (before after : DeskState) → KeepsRacesBounds request
    → ((path : List ℕ) → Overwrites (Races request) path → ⊥) → AllRacesEnd request status before after
    → IsCarriedOut (Races request) status before after
carried_races request status before after bounds none ends =
    let alone = all_races_end_unless_several request status before after bounds ends in
    let at : (other : ℕ) → status ≡ other → AllRacesEnd request other before after =
    λ other is. subst (λ (n : ℕ). AllRacesEnd request n before after) is ends in
    record {
      reported = λ is. (before.told, after.told, before.faults, after.faults, at 2 is);
      unreported = λ is. (before.told, after.told, before.faults, after.faults, at 0 is);
      stopped = λ is. (before.told, after.told, before.faults, after.faults, at 75 is);
      unwritten = λ is. (before.told, after.told, before.faults, after.faults, at 74 is);
      refused = λ of. (before.told, after.told, before.faults, after.faults, ends);
      misused = λ is. inr (inl (before.told, after.told, before.faults, after.faults, at 64 is));
      unread = all_races_read request status before after ends;
      checks = tt;
      races = inl ends;
      searches = tt;
      joins = tt;
      keeps = λ path over. absurd (none path over);
      reads = on_right (λ shown. shown.reads) alone;
      tells = on_left inl (on_right (λ shown. (before.told, refl, shown.tells)) alone);
      ends = on_right (λ shown. ends_for (Races request) status (state_in before) (state_in after) shown.ends) alone;
    }

-- several files were searched
pub carried_searches : (request : SearchesRequest) (status : ℕ) (before after : DeskState) → SearchesEnd request status before after
    → IsCarriedOut (Searches request) status before after
carried_searches request status before after ends =
    let at : (other : ℕ) → status ≡ other → SearchesEnd request other before after =
    λ other is. subst (λ (n : ℕ). SearchesEnd request n before after) is ends in
    record {
      reported = λ is. (before.told, after.told, before.faults, after.faults, at 2 is);
      unreported = λ is. (before.told, after.told, before.faults, after.faults, at 0 is);
      stopped = λ is. (before.told, after.told, before.faults, after.faults, at 75 is);
      unwritten = λ is. (before.told, after.told, before.faults, after.faults, at 74 is);
      refused = λ of. (before.told, after.told, before.faults, after.faults, ends);
      misused = λ is. inr (inl (before.told, after.told, before.faults, after.faults, at 64 is));
      unread = files_read (asked_of_search request ends.0) status before after ends.1;
      checks = tt;
      races = tt;
      searches = ends;
      joins = tt;
      keeps = λ path over. absurd over;
      reads = inl tt;
      tells = inl (inl tt);
      ends = inl tt;
    }

-- the parts of a search were joined
pub carried_join : (request : JoinRequest) (status : ℕ) (before after : DeskState) → JoinEnds request status before after
    → IsCarriedOut (Join request) status before after
carried_join request status before after ends =
    let at : (other : ℕ) → status ≡ other → JoinEnds request other before after =
    λ other is. subst (λ (n : ℕ). JoinEnds request n before after) is ends in
    record {
      reported = λ is. (before.told, after.told, before.faults, after.faults, at 2 is);
      unreported = λ is. (before.told, after.told, before.faults, after.faults, at 0 is);
      stopped = λ is. (before.told, after.told, before.faults, after.faults, at 75 is);
      unwritten = λ is. (before.told, after.told, before.faults, after.faults, at 74 is);
      refused = λ of. (before.told, after.told, before.faults, after.faults, ends);
      misused = λ is. inr (inl (before.told, after.told, before.faults, after.faults, at 64 is));
      unread = λ is. tt;
      checks = tt;
      races = tt;
      searches = tt;
      joins = ends;
      keeps = λ path over. absurd over;
      reads = inl tt;
      tells = inl (inl tt);
      ends = inl tt;
    }
