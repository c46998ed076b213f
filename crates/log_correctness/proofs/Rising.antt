-- The begins of a task's accesses rise.
use Rattle.std.proofs.Common.{◌≡◌, ◌∙◌, ◌<◌, ◌≤◌, ◌+◌, ◌++◌, ◌∷◌, [], inl, inr, ℕ, suc, All, Bool, true}
use Rattle.std.proofs.Common.{false, List, None, Option, Some, ap, append_assoc, arith, cond, map, refl, subst, sym, if◌then◌else◌}
use Rattle.std.specs.List.{AllPairs, cons_option, filter_map, list_any}
use Rattle.std.proofs.lemmas.Bool.Decides.{eqb_tells}
use Rattle.std.proofs.lemmas.List.{map-append}
use Rattle.std.proofs.lemmas.List.Elements.{All-cons, All-nil}
use Rattle.std.proofs.lemmas.List.Kept.{AllPairs-cons}
use Rattle.std.proofs.lemmas.List.Sums.{sum_by-cons}
use Rattle.access_types.specs.Stamped.{Stamped}
use Rattle.executions.specs.execution.Run.{Run}
use Rattle.executions.specs.execution.Execution.{Execution}
use Rattle.executions.proofs.execution.OwnLasts.{own_latest}
use Rattle.log_correctness.specs.Noted.{AreNoted, Notes}
use Rattle.setup_access.specs.declared.begun.Begun.{Begun}
use Rattle.slot_table.specs.Records.{records_of}
use Rattle.slot_table.specs.declared.records.Record.{Record}
use Rattle.slot_table.specs.declared.step.Answer.{Answer}
use Rattle.slot_table.specs.declared.step.Answer.TheVariants as answers
use Rattle.slot_table.specs.declared.step.Step.{Step}
use Rattle.slot_table.specs.declared.step.Step.TheVariants as steps
use Rattle.task_log.specs.Touches.{accesses_of, end_newest, goes_on, stamped, touches_at, touches_of}
use Rattle.task_log.specs.declared.noted.Noted.{Noted}
use Rattle.task_log.specs.declared.touches.Touch.{Touch}
use Rattle.log_correctness.specs.Stamps.{is_clock, stamps_in}

-- numbers that rise, from one on, and stay below another
abbrev Rises : ℕ → ℕ → List ℕ → Type 0
Rises low high [] = low ≤ high
Rises low high (x ∷ xs) = (low ≤ x) × Rises (suc x) high xs

rises_more : (low high higher : ℕ) (xs : List ℕ) → high ≤ higher → Rises low high xs → Rises low higher xs
rises_more low high higher [] more h = omega (arith, more, h)
rises_more low high higher (x ∷ xs) more h = (h.0, rises_more (suc x) high higher xs more h.1)

rises_from : (lower low high : ℕ) (xs : List ℕ) → lower ≤ low → Rises low high xs → Rises lower high xs
rises_from lower low high [] less h = omega (arith, less, h)
rises_from lower low high (x ∷ xs) less h = (let here : low ≤ x = h.0 in omega (arith, less, here), h.1)

rises_with : (low high : ℕ) (xs : List ℕ) → Rises low high xs → Rises low (suc high) (xs ++ high ∷ [])
rises_with low high [] h = (h, let same : suc high ≤ suc high = omega arith in same)
rises_with low high (x ∷ xs) h = (h.0, rises_with (suc x) high xs h.1)

abbrev begins_of : List Touch → List ℕ
begins_of touches = map (λ (touch : Touch). touch.begin) touches

same_begins : (stamp : ℕ) (touches : List Touch) → begins_of (end_newest stamp touches) ≡ begins_of touches
same_begins stamp [] = refl
same_begins stamp (touch ∷ newer) = by_newer (list_any goes_on newer) refl (same_begins stamp newer)
  where
    by_first : (b : Bool) → goes_on touch ≡ b → begins_of ((if goes_on touch then record touch { end = Some stamp } else touch) ∷ newer) ≡ begins_of (touch ∷ newer)
    by_first true is = ap (λ (b : Bool). begins_of ((if b then record touch { end = Some stamp } else touch) ∷ newer)) is
    by_first false is = ap (λ (b : Bool). begins_of ((if b then record touch { end = Some stamp } else touch) ∷ newer)) is

    by_newer : (b : Bool) → list_any goes_on newer ≡ b → begins_of (end_newest stamp newer) ≡ begins_of newer
        → begins_of (end_newest stamp (touch ∷ newer)) ≡ begins_of (touch ∷ newer)
    by_newer true is rest =
        ap (λ (b : Bool). begins_of (if b then touch ∷ end_newest stamp newer else (if goes_on touch then record touch { end = Some stamp } else touch) ∷ newer)) is
        ∙ ap (λ (l : List ℕ). touch.begin ∷ l) rest
    by_newer false is rest =
        ap (λ (b : Bool). begins_of (if b then touch ∷ end_newest stamp newer else (if goes_on touch then record touch { end = Some stamp } else touch) ∷ newer)) is
        ∙ by_first (goes_on touch) refl

-- those that have ended are among them, in their order
abbrev begins_in : List Stamped → List ℕ
begins_in accesses = map (λ (one : Stamped). one.begin) accesses

ended_rise : (low high : ℕ) (touches : List Touch) → Rises low high (begins_of touches)
    → Rises low high (begins_in (filter_map stamped touches))
ended_rise low high [] h = h
ended_rise low high (touch ∷ newer) h = by_end touch.end refl (ended_rise (suc touch.begin) high newer h.1)
  where
    by_end : (end : Option ℕ) → touch.end ≡ end → Rises (suc touch.begin) high (begins_in (filter_map stamped newer))
        → Rises low high (begins_in (filter_map stamped (touch ∷ newer)))
    by_end None is rest =
        subst (λ (e : Option ℕ). Rises low high (begins_in (cons_option (stamped (record touch { end = e })) (filter_map stamped newer)))) (sym is)
        (rises_from low (suc touch.begin) high (begins_in (filter_map stamped newer)) (let here : low ≤ touch.begin = h.0 in omega (arith, here)) rest)
    by_end (Some end) is rest =
        subst (λ (e : Option ℕ). Rises low high (begins_in (cons_option (stamped (record touch { end = e })) (filter_map stamped newer)))) (sym is) (h.0, rest)

above_all : (low high : ℕ) (accesses : List Stamped) → Rises (suc low) high (begins_in accesses)
    → All (λ (one : Stamped). low < one.begin) accesses
above_all low high [] h = All-nil (λ (one : Stamped). low < one.begin)
above_all low high (one ∷ others) h =
    let here : suc low ≤ one.begin = h.0 in
    All-cons (λ (other : Stamped). low < other.begin) one others (omega (arith, here))
    (above_all low high others (rises_from (suc low) (suc one.begin) high (begins_in others) (omega (arith, here)) h.1))

in_pairs : (low high : ℕ) (accesses : List Stamped) → Rises low high (begins_in accesses)
    → AllPairs (λ (one later : Stamped). one.begin < later.begin) accesses
in_pairs low high [] h = λ i j d less below. absurd (omega (arith, below))
in_pairs low high (one ∷ others) h =
    AllPairs-cons (λ (a b : Stamped). a.begin < b.begin) one others (above_all one.begin high others h.1) (in_pairs (suc one.begin) high others h.1)

module _ (run : Run) (records : List Record) (list : Execution run records) (task : ℕ)
    (stamps : (later earlier : List Record) (latest : Record) → records ≡ later ++ latest ∷ earlier → latest.step ≡ steps.Clock
    → latest.answer ≡ answers.Word (stamps_in earlier)) where
  one_more : (latest : Record) (earlier : List Record) → stamps_in (latest ∷ earlier) ≡ cond (is_clock latest.step) 1 0 + stamps_in earlier
  one_more latest earlier = sum_by-cons (λ (made : Record). cond (is_clock made.step) 1 0) latest earlier

  abbrev Rising : List Record → List Touch → Type 0
  Rising earlier touches = Rises 0 (stamps_in earlier) (begins_of touches)

  -- after a step of the clock
  at_clock : (earlier : List Record) (begins : Option Begun) (before : List Touch) → Rising earlier before
      → Rises 0 (suc (stamps_in earlier)) (begins_of (touches_at steps.Clock (answers.Word (stamps_in earlier)) begins before))
  at_clock earlier (Some begun) before h =
      subst (λ (l : List ℕ). Rises 0 (suc (stamps_in earlier)) l)
      (sym (map-append (λ (touch : Touch). touch.begin) before (record { begun = begun; begin = stamps_in earlier; end = None } ∷ [])))
      (rises_with 0 (stamps_in earlier) (begins_of before) h)
  at_clock earlier None before h =
      subst (λ (l : List ℕ). Rises 0 (suc (stamps_in earlier)) l) (sym (same_begins (stamps_in earlier) before))
      (rises_more 0 (stamps_in earlier) (suc (stamps_in earlier)) (begins_of before) (omega arith) h)

  still : (before : List Touch) (earlier : List Record) → Rising earlier before → Rises 0 (0 + stamps_in earlier) (begins_of before)
  still before earlier h = rises_more 0 (stamps_in earlier) (0 + stamps_in earlier) (begins_of before) (omega arith) h

  with_step : (step : Step) (answer : Answer) (begins : Option Begun) (earlier : List Record) (before : List Touch)
      → (step ≡ steps.Clock → answer ≡ answers.Word (stamps_in earlier)) → Rising earlier before
      → Rises 0 (cond (is_clock step) 1 0 + stamps_in earlier) (begins_of (touches_at step answer begins before))
  with_step steps.Clock answer begins earlier before answered h =
      let same : suc (stamps_in earlier) ≡ 1 + stamps_in earlier = omega arith in
      subst (λ (an : Answer). Rises 0 (1 + stamps_in earlier) (begins_of (touches_at steps.Clock an begins before))) (sym (answered refl))
      (subst (λ (n : ℕ). Rises 0 n (begins_of (touches_at steps.Clock (answers.Word (stamps_in earlier)) begins before))) same (at_clock earlier begins before h))
  with_step (steps.Load index) answer begins earlier before answered h = still before earlier h
  with_step (steps.Insert index word) answer begins earlier before answered h = still before earlier h
  with_step (steps.TryConsume index word) answer begins earlier before answered h = still before earlier h
  with_step (steps.Consume index) answer begins earlier before answered h = still before earlier h
  with_step (steps.Remove index) answer begins earlier before answered h = still before earlier h
  with_step (steps.PairLoad index) answer begins earlier before answered h = still before earlier h
  with_step (steps.Name index ticket) answer begins earlier before answered h = still before earlier h
  with_step (steps.Tell index ticket) answer begins earlier before answered h = still before earlier h
  with_step (steps.Clear index) answer begins earlier before answered h = still before earlier h
  with_step (steps.CellLoad cell) answer begins earlier before answered h = still before earlier h
  with_step (steps.CellExchange cell expected new) answer begins earlier before answered h = still before earlier h
  with_step (steps.LockTry lock holder) answer begins earlier before answered h = still before earlier h
  with_step (steps.LockStore lock) answer begins earlier before answered h = still before earlier h

  all_rise : (later earlier : List Record) → records ≡ later ++ earlier → (noted : List Noted)
      → AreNoted (list.tasks task) (records_of task earlier) noted
      → Rising earlier (touches_of noted)
  all_rise later [] is [] are = omega arith
  all_rise later [] is (noted ∷ before) are = absurd are
  all_rise later (latest ∷ earlier) is noted are =
      let back : records ≡ (later ++ latest ∷ []) ++ earlier = is ∙ sym (append_assoc later (latest ∷ []) earlier) in
      let more = one_more latest earlier in
      elim (eqb_tells latest.task task) [
        | inl mine ↦
            its (λ kept are_so. all_rise (later ++ latest ∷ []) earlier back kept are_so) noted
            (subst (λ (r : List Record). AreNoted (list.tasks task) r noted) (own_latest task latest earlier mine.1) are)
        | inr others ↦
            let same : records_of task (latest ∷ earlier) ≡ records_of task earlier = rw others.0 refl in
            rises_more 0 (stamps_in earlier) (stamps_in (latest ∷ earlier)) (begins_of (touches_of noted)) (omega (arith, more))
            (all_rise (later ++ latest ∷ []) earlier back noted (subst (λ (r : List Record). AreNoted (list.tasks task) r noted) same are))
      ]
    where
      its : ((kept : List Noted) → AreNoted (list.tasks task) (records_of task earlier) kept → Rising earlier (touches_of kept))
          → (noted : List Noted)
          → AreNoted (list.tasks task) (latest ∷ records_of task earlier) noted → Rising (latest ∷ earlier) (touches_of noted)
      its rest [] are = absurd are
      its rest (now ∷ before) are =
          subst (λ (n : ℕ). Rises 0 n (begins_of (touches_of (now ∷ before)))) (sym (one_more latest earlier))
          (subst (λ (st : Step). Rises 0 (cond (is_clock latest.step) 1 0 + stamps_in earlier) (begins_of (touches_at st now.answer now.begins (touches_of before))))
          (sym are.1.step)
          (subst (λ (an : Answer). Rises 0 (cond (is_clock latest.step) 1 0 + stamps_in earlier) (begins_of (touches_at latest.step an now.begins (touches_of before))))
          (sym are.1.answer)
          (with_step latest.step latest.answer now.begins earlier (touches_of before) (λ clock. stamps later earlier latest is clock) (rest before are.0))))

  pub in_order : (noted : List Noted) → Notes list task noted
      → AllPairs (λ (one later : Stamped). one.begin < later.begin) (accesses_of noted)
  in_order noted notes =
      in_pairs 0 (stamps_in records) (accesses_of noted) (ended_rise 0 (stamps_in records) (touches_of noted) (all_rise [] records refl noted notes))
