-- What is so where a file that would be overwritten was kept.
use Rattle.std.proofs.Common.{◌≡◌, ◌≤◌, ◌∙◌, ◌⊎◌, [], ℕ, List, None, Option, Some, ap, arith, inl, inr, sym, unwrap_or}
use Rattle.std.specs.Option.{option_map}
use Rattle.cli.specs.declared.request.Request.{Request}
use Rattle.cli.specs.declared.request.Request.TheVariants as requests
use Rattle.cli.specs.declared.request.ShowRequest.{ShowRequest}
use Rattle.file_commands.specs.Desks.{DeskState}
use Rattle.litmus_command.specs.Command.{AreFilesSearched, AreJoined, AreRaced, EndsAs, IsChecked, Reads, OutputState, state_in}
use Rattle.litmus_command.specs.Overwrite.{AreNamedPath, IsKept, Overwrites}

-- it has one of two statuses
pub kept_status : (path : List ℕ) (status : ℕ) (before after : DeskState) → IsKept path status before after → (status ≡ 64) ⊎ (status ≡ 71)
kept_status path status before after (inl told) = inl told.status_is
kept_status path status before after (inr out) = inr out.status_is

-- nothing was read or written
kept_state : (path : List ℕ) (status : ℕ) (before after : DeskState) → IsKept path status before after → state_in after ≡ state_in before
kept_state path status before after (inl told) = ap state_in told.told
kept_state path status before after (inr out) = ap state_in out.told

kept_faults : (path : List ℕ) (status : ℕ) (before after : DeskState) → IsKept path status before after → after.faults ≡ before.faults
kept_faults path status before after (inl told) = ap (λ (at : DeskState). at.faults) told.told
kept_faults path status before after (inr out) = ap (λ (at : DeskState). at.faults) out.told

pub kept_files : (path : List ℕ) (status : ℕ) (before after : DeskState) → IsKept path status before after → after.files ≡ before.files
kept_files path status before after kept = ap (λ (at : OutputState). at.files) (kept_state path status before after kept)

-- so it ends
two_statuses : (status : ℕ) → (status ≡ 64) ⊎ (status ≡ 71) → (status ≡ 0) ⊎ (status ≡ 2) ⊎ ((64 ≤ status) × (status ≤ 66))
    ⊎ (status ≡ 70) ⊎ (status ≡ 71) ⊎ (status ≡ 74) ⊎ (status ≡ 75)
two_statuses status (inl is) = inr (inr (inl (omega (arith, is), omega (arith, is))))
two_statuses status (inr is) = inr (inr (inr (inr (inl is))))

pub kept_otherwise : (path : List ℕ) (status other : ℕ) (before after : DeskState) → IsKept path status before after → status ≡ other
    → (other ≡ 64 → ⊥) → (other ≡ 71 → ⊥) → ⊥
kept_otherwise path status other before after kept is one two = elim (kept_status path status before after kept) [
  | inl first ↦ one (sym is ∙ first)
  | inr second ↦ two (sym is ∙ second)
]

pub kept_ends : (path : List ℕ) (status : ℕ) (before after : DeskState) → IsKept path status before after
    → EndsAs status (state_in before) (state_in after)
kept_ends path status before after kept =
    let same = kept_state path status before after kept in
    record {
      silent = λ from to. record { written = ap (λ (at : OutputState). at.written) same; files = inl (ap (λ (at : OutputState). at.files) same) };
      failed = λ is. absurd (kept_otherwise path status 74 before after kept is (λ no. omega (arith, no)) (λ no. omega (arith, no)));
      known = two_statuses status (kept_status path status before after kept);
    }

pub kept_reads : (path : List ℕ) (status : ℕ) (before after : DeskState) → IsKept path status before after
    → Reads status before.faults after.faults
kept_reads path status before after kept = record {
  fails = λ is. absurd (kept_otherwise path status 66 before after kept is (λ no. omega (arith, no)) (λ no. omega (arith, no)));
  works = λ other. kept_faults path status before after kept;
}

-- no check has a file that is written
pub no_check : (request : Request) (path : List ℕ) (status : ℕ) (before after : DeskState) → Overwrites request path
    → IsChecked request status before after
no_check (requests.Step request) path status before after over = tt
no_check (requests.Run request) path status before after over = tt
no_check (requests.Search request) path status before after over = tt
no_check (requests.Searches request) path status before after over = tt
no_check (requests.Races request) path status before after over = tt
no_check (requests.Replay request) path status before after over = tt
no_check (requests.Show request) path status before after over = tt
no_check (requests.Check request) path status before after over = absurd over
no_check (requests.Join request) path status before after over = tt
no_check requests.Calls path status before after over = tt

-- what is written of a picture is to be written to the file of this path
named_written : (input output : Option (List ℕ)) (path : List ℕ) → AreNamedPath input output path → output ≡ Some path
named_written None output path over = absurd over
named_written (Some input) output path over = over.written

show_written : (request : ShowRequest) (path : List ℕ) → Overwrites (requests.Show request) path
    → option_map (λ svg. svg.now) request.svg ≡ Some path
show_written request path (inl first) = first.written
show_written request path (inr second) = named_written (option_map (λ source. source.now) request.source) _ path second

-- there is one such path
pub same_path : (request : Request) (one other : List ℕ) → Overwrites request one → Overwrites request other → one ≡ other
same_path (requests.Step request) one other over too = sym over.read ∙ too.read
same_path (requests.Run request) one other over too = sym over.read ∙ too.read
same_path (requests.Search request) one other over too = sym over.read ∙ too.read
same_path (requests.Searches request) one other over too = absurd over
same_path (requests.Races request) one other over too =
    ap (λ (written : Option (List ℕ)). unwrap_or written []) (sym over.written ∙ too.written)
same_path (requests.Replay request) one other over too = absurd over
same_path (requests.Show request) one other over too =
    let first = show_written request one over in
    let second = show_written request other too in
    cc
same_path (requests.Check request) one other over too = absurd over
same_path (requests.Join request) one other over too = absurd over
same_path requests.Calls one other over too = absurd over

-- with races a file may be kept
pub no_races : (request : Request) (path : List ℕ) (status : ℕ) (before after : DeskState) → Overwrites request path
    → IsKept path status before after → AreRaced request status before after
no_races (requests.Step request) path status before after over kept = tt
no_races (requests.Run request) path status before after over kept = tt
no_races (requests.Search request) path status before after over kept = tt
no_races (requests.Searches request) path status before after over kept = tt
no_races (requests.Races request) path status before after over kept = inr (path, over, kept)
no_races (requests.Replay request) path status before after over kept = tt
no_races (requests.Show request) path status before after over kept = tt
no_races (requests.Check request) path status before after over kept = tt
no_races (requests.Join request) path status before after over kept = tt
no_races requests.Calls path status before after over kept = tt

-- no file is written with a search of several files
pub no_searches : (request : Request) (path : List ℕ) (status : ℕ) (before after : DeskState) → Overwrites request path
    → AreFilesSearched request status before after
no_searches (requests.Step request) path status before after over = tt
no_searches (requests.Run request) path status before after over = tt
no_searches (requests.Search request) path status before after over = tt
no_searches (requests.Searches request) path status before after over = absurd over
no_searches (requests.Races request) path status before after over = tt
no_searches (requests.Replay request) path status before after over = tt
no_searches (requests.Show request) path status before after over = tt
no_searches (requests.Check request) path status before after over = tt
no_searches (requests.Join request) path status before after over = tt
no_searches requests.Calls path status before after over = tt

-- nor where parts of a search are joined
pub no_joins : (request : Request) (path : List ℕ) (status : ℕ) (before after : DeskState) → Overwrites request path
    → AreJoined request status before after
no_joins (requests.Step request) path status before after over = tt
no_joins (requests.Run request) path status before after over = tt
no_joins (requests.Search request) path status before after over = tt
no_joins (requests.Searches request) path status before after over = tt
no_joins (requests.Races request) path status before after over = tt
no_joins (requests.Replay request) path status before after over = tt
no_joins (requests.Show request) path status before after over = tt
no_joins (requests.Check request) path status before after over = tt
no_joins (requests.Join request) path status before after over = absurd over
no_joins requests.Calls path status before after over = tt
