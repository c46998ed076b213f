-- Accesses that ended since a record, in a list and in what it tells.
use Rattle.std.proofs.Common.{◌≡◌, ◌+◌, ◌-◌, ◌∷◌, ◌++◌, ◌∙◌, [], inl, inr, suc, Bool, List, ap, append_assoc, arith, drop, length, refl, subst, sym, ℕ}
use Rattle.std.proofs.Math.Seq.{drop-append_seam}
use Rattle.std.proofs.lemmas.List.{length-append}
use Rattle.access_types.specs.Access.{Access}
use Rattle.access_types.specs.History.{InProgress}
use Rattle.oracle_soundness.specs.oracle_headline_laws.Accounts.{account_of, first_records}
use Rattle.oracle_soundness.specs.oracle_headline.Tried as given
use Rattle.oracle_soundness.specs.oracle_headline.Tried.{Account, HasEnded}
use Rattle.soundness.specs.Ended.{HasEndedSince}
use Rattle.executions.specs.execution.Run.{Run}
use Rattle.executions.specs.execution.Execution.{Execution}
use Rattle.executions.specs.execution.Observed.{history_by, history_of}
use Rattle.slot_table.specs.Hearings.{SomeRecord}
use Rattle.slot_table.specs.declared.records.Record.{Record}

-- the records before one of a list are the first so many
earlier_first : (records later : List Record) (made : Record) (earlier : List Record) → records ≡ later ++ made ∷ earlier
    → first_records records (length earlier) ≡ earlier
earlier_first records later made earlier is =
    subst (λ (r : List Record). first_records r (length earlier) ≡ earlier) (sym is)
    (ap (λ (n : ℕ). drop n (later ++ made ∷ earlier)) count
    ∙ (ap (λ (r : List Record). drop (length (later ++ made ∷ [])) r) (sym (append_assoc later (made ∷ []) earlier))
    ∙ drop-append_seam (later ++ made ∷ []) earlier))
  where
    count : length (later ++ made ∷ earlier) - length earlier ≡ length (later ++ made ∷ [])
    count =
        let whole : length (later ++ made ∷ earlier) ≡ length later + suc (length earlier) = length-append later (made ∷ earlier) in
        let front : length (later ++ made ∷ []) ≡ length later + 1 = length-append later (made ∷ []) in
        omega (arith, whole, front)

-- where a record of a kind stands, it stands between others
record Stands (P : Record → List Record → Type 0) (records : List Record) : Type 0 where
  pub later : List Record
  pub made : Record
  pub earlier : List Record
  pub split : records ≡ later ++ made ∷ earlier
  pub is : P made earlier

where_it_stands : (P : Record → List Record → Type 0) (records : List Record) → SomeRecord P records → Stands P records
where_it_stands P [] none = absurd none
where_it_stands P (latest ∷ earlier) some = elim some [
  | inl here ↦ record { later = []; made = latest; earlier = earlier; split = refl; is = here }
  | inr there ↦
      let it = where_it_stands P earlier there in
      record {
        later = latest ∷ it.later;
        made = it.made;
        earlier = it.earlier;
        split = ap (λ (r : List Record). latest ∷ r) it.split;
        is = it.is;
      }
]

it_stands : (P : Record → List Record → Type 0) (later : List Record) (made : Record) (earlier : List Record) → P made earlier
    → SomeRecord P (later ++ made ∷ earlier)
it_stands P [] made earlier is = inl is
it_stands P (latest ∷ later) made earlier is = inr (it_stands P later made earlier is)

-- a record of this kind, and an access that has ended since
abbrev AndEnded : Account → (Record → List Record → Type 0) → Record → List Record → Type 0
AndEnded told P made earlier = P made earlier × HasEnded told.history made.task (told.moments (length earlier))

module _ {run : Run} {records : List Record} (list : Execution run records) (accesses : List Access) (over : Bool) where
  abbrev told : Account
  told = account_of list accesses over

  -- the access is in progress after the moments that the first so many records tell
  abbrev Goes : Access → List Record → Type 0
  Goes access earlier = InProgress (history_of list) access (length (history_by list earlier))

  -- what ended since a record of what the list tells has ended since that of the list
  pub ended_in_list : (P : Record → List Record → Type 0) → given.HasEndedSince told P records → HasEndedSince list P
  ended_in_list P since =
      let it = where_it_stands (AndEnded told P) records since in
      record {
        later = it.later;
        made = it.made;
        earlier = it.earlier;
        split = it.split;
        is = it.is.0;
        access = it.is.1.access;
        mine = it.is.1.mine;
        goes = subst (λ (r : List Record). Goes it.is.1.access r)
            (earlier_first records it.later it.made it.earlier it.split) it.is.1.goes;
        ended = it.is.1.ended;
      }

  -- and the other way round
  pub ended_in_told : (P : Record → List Record → Type 0) → HasEndedSince list P → given.HasEndedSince told P records
  ended_in_told P since =
      let has : HasEnded told.history since.made.task (told.moments (length since.earlier)) = record {
        access = since.access;
        mine = since.mine;
        goes = subst (λ (r : List Record). Goes since.access r)
            (sym (earlier_first records since.later since.made since.earlier since.split)) since.goes;
        ended = since.ended;
      } in
      subst (λ (r : List Record). given.HasEndedSince told P r) (sym since.split)
      (it_stands (AndEnded told P) since.later since.made since.earlier (since.is, has))
