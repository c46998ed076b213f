-- Finders told as often as they took, and setters heard as often as their word was hit.
use Rattle.std.proofs.Common.{◌≡◌, ◌+◌, ◌∷◌, ◌∙◌, [], inl, inr, ℕ, suc, Bool, true, false, List, ap, arith, cond, length, refl}
use Rattle.std.proofs.lemmas.Bool.{eq-eqb}
use Rattle.slot_table.specs.Discipline.{AllKeepDiscipline, Allows, in_hand}
use Rattle.slot_table.specs.Hearings.{EachHearsTheOther, HearsTheOther}
use Rattle.slot_table.specs.Meetings.{Meeting, finders_told, heard_by, setters_heard, told_by}
use Rattle.slot_table.specs.Records.{Legal, records_of}
use Rattle.slot_table.specs.Words.{Words}
use Rattle.slot_table.specs.declared.records.Record.{Record}
use Rattle.slot_table.specs.declared.step.Answer.{Answer}
use Rattle.slot_table.specs.declared.step.Answer.TheVariants as answers
use Rattle.slot_table.specs.declared.step.Step.{Step}
use Rattle.slot_table.specs.declared.step.Step.TheVariants.{Clear, Tell, TryConsume}
use Rattle.slot_table.specs.StepLine.{step_line}
use Rattle.slot_table.proofs.Lists.{allowed_at, kept_before}
use Rattle.task_log.specs.Counters.{is_lost}
use Rattle.soundness.specs.Totals.{is_try}
use Rattle.soundness.proofs.EndedOrInHand.{clears_hit, is_taking, is_tell, of_clear}
use Rattle.soundness.proofs.Weights.{of_step, weigh}

one_more : (n : ℕ) → suc n ≡ 1 + n
one_more n = omega arith

none_more : (n : ℕ) → n ≡ 0 + n
none_more n = omega arith

-- a tell adds one to what was told
told_step : (task : ℕ) (step : Step) (answer : Answer) (earlier : List Record) (before : List Meeting) → HearsTheOther task step earlier
    → length (told_by task step earlier before) ≡ cond (is_tell step answer) 1 0 + length before
told_step task (Tell index ticket) answer earlier before (word, both, part, it, hears) = rw (hears.met.last, it) (one_more (length before))
told_step task step answer earlier before hears = none_more (length before)

pub tells_told : (records : List Record) → EachHearsTheOther records → length (finders_told records) ≡ weigh (of_step is_tell) records
tells_told [] hears = refl
tells_told (latest ∷ earlier) hears =
    let rest : length (finders_told earlier) ≡ weigh (of_step is_tell) earlier = tells_told earlier hears.0 in
    let now = told_step latest.task latest.step latest.answer earlier (finders_told earlier) hears.1 in
    now ∙ ap (λ (n : ℕ). cond (is_tell latest.step latest.answer) 1 0 + n) rest

-- the clear of a pair of which the word was hit adds one to what was heard
heard_step : (task : ℕ) (step : Step) (earlier : List Record) (before : List Meeting) → Allows task (records_of task earlier) step
    → HearsTheOther task step earlier
    → length (heard_by task step earlier before) ≡ clears_hit step (in_hand (records_of task earlier)) + length before
heard_step task (Clear index) earlier before (inl untouched) hears =
    rw (untouched, eq-eqb index index refl) (none_more (length before))
heard_step task (Clear index) earlier before (inr hit) hears =
    let it = hears (rw (hit.0, eq-eqb index index refl) refl) in
    rw (hit.0, eq-eqb index index refl, it.2.met.last, it.1) (one_more (length before))
heard_step task step earlier before allows hears = none_more (length before)

pub clears_heard : (records : List Record) → AllKeepDiscipline records → EachHearsTheOther records
    → length (setters_heard records) ≡ weigh of_clear records
clears_heard [] keeps hears = refl
clears_heard (latest ∷ earlier) keeps hears =
    let rest : length (setters_heard earlier) ≡ weigh of_clear earlier = clears_heard earlier (kept_before latest earlier keeps) hears.0 in
    let now = heard_step latest.task latest.step earlier (setters_heard earlier) (allowed_at latest earlier keeps) hears.1 in
    now ∙ ap (λ (n : ℕ). clears_hit latest.step (in_hand (records_of latest.task earlier)) + n) rest

-- each try takes or loses
try_flag : (index word : ℕ) (flag : Bool)
    → cond (is_try (TryConsume index word) (answers.Flag flag)) 1 0
    ≡ cond (is_taking (TryConsume index word) (answers.Flag flag)) 1 0 + cond (is_lost (TryConsume index word) (answers.Flag flag)) 1 0
try_flag index word true = refl
try_flag index word false = refl

try_step : (words : Words) (step : Step) (answer : Answer) → answer ≡ (step_line words step).answer
    → cond (is_try step answer) 1 0 ≡ cond (is_taking step answer) 1 0 + cond (is_lost step answer) 1 0
try_step words (TryConsume index word) answer is = rw is (try_flag index word _)
try_step words step answer is = refl

pub tries_end : (first : Words) (records : List Record) → Legal first records
    → weigh (of_step is_try) records ≡ weigh (λ latest own. of_step is_taking latest own + of_step is_lost latest own) records
tries_end first [] legal = refl
tries_end first (latest ∷ earlier) legal =
    let rest : weigh (of_step is_try) earlier ≡ weigh (λ l own. of_step is_taking l own + of_step is_lost l own) earlier = tries_end first earlier legal.0 in
    let now = try_step _ latest.step latest.answer legal.1.answer in
    ap (λ (n : ℕ). n + weigh (of_step is_try) earlier) now
    ∙ ap (λ (n : ℕ). (cond (is_taking latest.step latest.answer) 1 0 + cond (is_lost latest.step latest.answer) 1 0) + n) rest
