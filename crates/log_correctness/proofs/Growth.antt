-- What is noted of records is noted of the same records at the beginning of more.
use Rattle.std.proofs.Common.{◌≡◌, ◌≢◌, ◌<◌, ◌≤◌, ◌∙◌, ◌++◌, ◌∷◌, [], ℕ, List, ap, append_assoc, arith, length, map, refl, reverse, subst, sym}
use Rattle.std.proofs.lemmas.Bool.{ne_eqb}
use Rattle.std.proofs.lemmas.List.{length-reverse, reverse-append}
use Rattle.access_types.specs.declared.history.Happening.{Happening}
use Rattle.litmus_semantics.specs.Task as meaning
use Rattle.litmus_syntax.specs.Tree.{Block}
use Rattle.executions.specs.execution.Run.{Run}
use Rattle.executions.specs.execution.Execution.{Execution}
use Rattle.executions.specs.execution.Observed.{made_by}
use Rattle.executions.proofs.execution.OwnLasts.{own_latest}
use Rattle.log_correctness.specs.Noted.{AreNoted, IsBegun, IsNoted, Notes}
use Rattle.setup_access.specs.Check.{Fallen}
use Rattle.setup_access.specs.declared.outcome.Outcome.{Outcome}
use Rattle.slot_table.specs.Records.{records_of}
use Rattle.slot_table.specs.declared.records.Record.{Record}
use Rattle.task_log.specs.declared.noted.Noted.{Noted}
use Rattle.program_order.specs.Standing.{Setting}
use Rattle.program_order.specs.TaskObserved.{Came, came_of, did_by, did_next, fell_next}
use Rattle.program_order.specs.WrittenOrder.{WrittenOrder}
use Rattle.executions.specs.observation_determinism.TellAlike.{TellAlike}
use Rattle.executions.proofs.observation_determinism.Telling.{told_alike}

outcomes_came : (fallen : List Fallen) → map (λ (f : Fallen). f.outcome) fallen ≡ map (λ (c : Came). c.outcome) (map came_of fallen)
outcomes_came [] = refl
outcomes_came (first ∷ others) = ap (λ (l : List Outcome). first.outcome ∷ l) (outcomes_came others)

module _ {s : Setting} {registers : ℕ} {body : Block} {records others : List Record}
    (one : WrittenOrder s registers body records) (other : WrittenOrder s registers body others) (shared : ℕ) (alike : TellAlike one other shared) where
  same_noted : (made : ℕ) → made < shared → (latest : Record) (noted : Noted) → IsNoted one made latest noted → IsNoted other made latest noted
  same_noted made fewer latest noted is =
      let before : did_by one made ≡ did_by other made = ap (λ (p : meaning.Progress). p.did) (alike.stands made (omega (arith, fewer))).progress in
      let next : did_next one made ≡ did_next other made = alike.did made fewer in
      let first : IsBegun s.rules.plain_writes_atomic s.text.task (did_by other made) (did_next one made) noted.begins =
      subst (λ (d : List Happening). IsBegun s.rules.plain_writes_atomic s.text.task d (did_next one made) noted.begins) before is.begins in
      record {
        step = is.step;
        answer = is.answer;
        begins = subst (λ (d : List Happening). IsBegun s.rules.plain_writes_atomic s.text.task (did_by other made) d noted.begins) next first;
        outcome = outcomes_came (fell_next other made)
            ∙ (ap (λ (l : List Came). map (λ (c : Came). c.outcome) l) (sym (alike.came made fewer))
            ∙ (sym (outcomes_came (fell_next one made)) ∙ is.outcome));
      }

  pub all_same : (own : List Record) (noted : List Noted) → length own ≤ shared → AreNoted one own noted → AreNoted other own noted
  all_same [] [] fewer are = tt
  all_same [] (noted ∷ before) fewer are = absurd are
  all_same (latest ∷ earlier) [] fewer are = absurd are
  all_same (latest ∷ earlier) (noted ∷ before) fewer are =
      (all_same earlier before (omega (arith, fewer)) are.0, same_noted (length earlier) (omega (arith, fewer)) latest noted are.1)

module _ {s : Setting} {registers : ℕ} {body : Block} where
  -- one record more
  pub one_more : (records others own : List Record) (latest : Record) (before : List Noted) (noted : Noted)
      → (one : WrittenOrder s registers body records) → (other : WrittenOrder s registers body others) → others ≡ records ++ latest ∷ []
      → length own ≡ length records → AreNoted one own before → IsNoted other (length own) latest noted → AreNoted other (latest ∷ own) (noted ∷ before)
  one_more records others own latest before noted one other is same are last =
      let alike : TellAlike one other (length records) =
      told_alike s registers body records records others one.more (latest ∷ other.more) one other refl
      (ap (λ (l : List Record). l ++ other.more) is ∙ append_assoc records (latest ∷ []) other.more) in
      (all_same one other (length records) alike own before (omega (arith, same)) are, last)

  -- the same records
  pub as_before : (records others own : List Record) (before : List Noted)
      → (one : WrittenOrder s registers body records) → (other : WrittenOrder s registers body others) → others ≡ records
      → length own ≡ length records → AreNoted one own before → AreNoted other own before
  as_before records others own before one other is same are =
      let alike : TellAlike one other (length records) =
      told_alike s registers body records records others one.more other.more one other refl (ap (λ (l : List Record). l ++ other.more) is) in
      all_same one other (length records) alike own before (omega (arith, same)) are

pub one_more_own : (s : Setting) (registers : ℕ) (body : Block) (records : List Record) (latest : Record) (before : List Noted) (noted : Noted)
    → (one : WrittenOrder s registers body records) → (other : WrittenOrder s registers body (records ++ latest ∷ []))
    → AreNoted one (reverse records) before → IsNoted other (length records) latest noted
    → AreNoted other (reverse (records ++ latest ∷ [])) (noted ∷ before)
one_more_own s registers body records latest before noted one other are last =
    subst (λ (l : List Record). AreNoted other l (noted ∷ before)) (sym (reverse-append records (latest ∷ [])))
    (one_more records (records ++ latest ∷ []) (reverse records) latest before noted one other refl (length-reverse records) are
    (subst (λ (n : ℕ). IsNoted other n latest noted) (sym (length-reverse records)) last))

module _ (run : Run) (latest : Record) (earlier : List Record) (one : Execution run earlier) (other : Execution run (latest ∷ earlier)) where
  pub one_more_listed : (before : List Noted) (noted : Noted) → Notes one latest.task before
      → IsNoted (other.tasks latest.task) (made_by latest.task earlier) latest noted → Notes other latest.task (noted ∷ before)
  one_more_listed before noted are last =
      let task : ℕ = latest.task in
      let own : List Record = records_of task earlier in
      let its : records_of task (latest ∷ earlier) ≡ latest ∷ own = own_latest task latest earlier refl in
      let all : reverse (records_of task (latest ∷ earlier)) ≡ reverse own ++ latest ∷ [] =
      ap (λ (l : List Record). reverse l) its ∙ reverse-append (latest ∷ []) own in
      subst (λ (l : List Record). AreNoted (other.tasks task) l (noted ∷ before)) (sym its)
      (one_more (reverse own) (reverse (records_of task (latest ∷ earlier))) own latest before noted (one.tasks task) (other.tasks task) all
      (sym (length-reverse own)) are last)

  pub others_stay : (task : ℕ) (before : List Noted) → latest.task ≢ task → Notes one task before → Notes other task before
  others_stay task before apart are =
      let own : List Record = records_of task earlier in
      let its : records_of task (latest ∷ earlier) ≡ own = rw (ne_eqb latest.task task apart) refl in
      subst (λ (l : List Record). AreNoted (other.tasks task) l before) (sym its)
      (as_before (reverse own) (reverse (records_of task (latest ∷ earlier))) own before (one.tasks task) (other.tasks task)
      (ap (λ (l : List Record). reverse l) its) (sym (length-reverse own)) are)
