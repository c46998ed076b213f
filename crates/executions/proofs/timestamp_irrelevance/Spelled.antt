-- A text with one other stamp is spelled still.
use Rattle.std.proofs.Common.{◌≡◌, ◌==◌, ◌≤◌, ◌+◌, ◌∙◌, ◌++◌, ◌∷◌, [], ℕ, Bool, true, false, List, ap, arith, eq-eqb, filter, if◌then◌else◌, length, map, refl, subst}
use Rattle.std.proofs.lemmas.Bool.{ne_eqb}
use Rattle.std.proofs.lemmas.List.{length-append}
use Rattle.slot_table.specs.Answer.{IsWord}
use Rattle.slot_table.specs.declared.records.Record.{Record}
use Rattle.slot_table.specs.declared.step.Answer.{Answer}
use Rattle.slot_table.specs.declared.step.Answer.TheVariants as answers
use Rattle.slot_table.specs.declared.step.Step.{Step}
use Rattle.slot_table.specs.declared.step.Step.TheVariants.{Clock}
use Rattle.litmus_syntax.specs.Tree.{Block}
use Rattle.setup_access.specs.Check.{Fallen}
use Rattle.program_order.specs.Standing.{Setting}
use Rattle.program_order.specs.TaskObserved.{Came, came_of}
use Rattle.program_order.specs.WrittenOrder.{SpellsAll, at_first}
use Rattle.executions.proofs.timestamp_irrelevance.Checks.{fallen_there}
use Rattle.executions.proofs.timestamp_irrelevance.Restamped.{AsksClock, GivesStamps, restamped, same_length}
use Rattle.executions.proofs.timestamp_irrelevance.Texts.{block, standing_there}
use Rattle.executions.specs.timestamp_irrelevance.Stamps.{AreButStamp, EndsSo, IsButStamp, came_before}

-- with other stamps the same outcomes fall at the same records
module _ (given : ℕ → Record → Answer) (gives : GivesStamps given) where
  came_there : (left : ℕ) (fallen : List Fallen) → came_before left (map (fallen_there given gives) fallen) ≡ came_before left fallen
  came_there left [] = refl
  came_there left (first ∷ later) =
      by_test (length (restamped given first.later) == left) (length first.later == left)
      (ap (λ (n : ℕ). n == left) (same_length given first.later)) (came_there left later)
    where
      by_test : (b c : Bool) → b ≡ c → came_before left (map (fallen_there given gives) later) ≡ came_before left later
          → map came_of (if b then fallen_there given gives first ∷ filter (λ (f : Fallen). length f.later == left) (map (fallen_there given gives) later)
          else filter (λ (f : Fallen). length f.later == left) (map (fallen_there given gives) later))
          ≡ map came_of (if c then first ∷ filter (λ (f : Fallen). length f.later == left) later
          else filter (λ (f : Fallen). length f.later == left) later)
      by_test true true is rest = ap (λ (l : List Came). came_of first ∷ l) rest
      by_test false false is rest = rest
      by_test true false is rest = absurd (let no : true ≡ false = is in cc)
      by_test false true is rest = absurd (let no : false ≡ true = is in cc)

  spelled : (s : Setting) (registers : ℕ) (body : Block) (records : List Record) (whole : SpellsAll s registers body records)
      → EndsSo whole (restamped given records)
  spelled s registers body records whole = record {
    other = record {
      end = standing_there given gives whole.end;
      steps = block given gives s 0 body (at_first registers) records whole.end [] whole.steps;
    };
    progress = refl;
    came = λ left. came_there left whole.end.outcomes;
  }

-- another answer where the clock is asked
abbrev stamp_or : Step → Answer → Answer → Answer
stamp_or Clock stamp answer = stamp
stamp_or step stamp answer = answer

stamp_kept : (step : Step) (stamp answer : Answer) → (AsksClock step → ⊥) → stamp_or step stamp answer ≡ answer
stamp_kept Clock stamp answer none = absurd (none tt)
stamp_kept step stamp answer none = refl

stamp_given : (step : Step) (stamp answer : Answer) → IsWord stamp → IsWord answer → IsWord (stamp_or step stamp answer)
stamp_given Clock stamp answer is word = is
stamp_given step stamp answer is word = word

stamp_is : (step : Step) (one other : Answer) → AreButStamp step one other → stamp_or step other one ≡ other
stamp_is Clock one other same = refl
stamp_is step one other same = same

-- what is answered by the record that so many follow
abbrev answers_at : ℕ → Answer → ℕ → Record → Answer
answers_at left stamp at made = if at == left then stamp_or made.step stamp made.answer else made.answer

kept_if : (b : Bool) (one other answer : Answer) → one ≡ answer → other ≡ answer → (if b then one else other) ≡ answer
kept_if true one other answer first second = first
kept_if false one other answer first second = second

word_if : (b : Bool) (one other : Answer) → IsWord one → IsWord other → IsWord (if b then one else other)
word_if true one other first second = first
word_if false one other first second = second

gives_at : (left : ℕ) (stamp : Answer) → IsWord stamp → GivesStamps (answers_at left stamp)
gives_at left stamp is = record {
  keeps = λ at made none. kept_if (at == left) (stamp_or made.step stamp made.answer) made.answer made.answer (stamp_kept made.step stamp made.answer none) refl;
  stamps = λ at made asks word. word_if (at == left) (stamp_or made.step stamp made.answer) made.answer (stamp_given made.step stamp made.answer is word) word;
}

module _ (left : ℕ) (stamp : Answer) where
  abbrev put : List Record → List Record
  put records = restamped (answers_at left stamp) records

  -- the records that so many follow stay
  elsewhere : (first : Record) (later : List Record) → (length later ≡ left → ⊥) → put (first ∷ later) ≡ first ∷ put later
  elsewhere first later apart = rw (ne_eqb (length later) left apart) refl

  behind : (records : List Record) → length records ≤ left → put records ≡ records
  behind [] few = refl
  behind (first ∷ later) few =
      elsewhere first later (λ is. absurd (omega (arith, few, is)))
      ∙ ap (λ (r : List Record). first ∷ r) (behind later (omega (arith, few)))

  there_is : (front : List Record) (one : Record) (later : List Record) → length later ≡ left
      → put (front ++ one ∷ later) ≡ front ++ record one { answer = stamp_or one.step stamp one.answer } ∷ later
  there_is [] one later is =
      rw (eq-eqb (length later) left is)
      (ap (λ (r : List Record). record one { answer = stamp_or one.step stamp one.answer } ∷ r) (behind later (omega (arith, is))))
  there_is (first ∷ front) one later is =
      elsewhere first (front ++ one ∷ later) (λ same.
      let many : length (front ++ one ∷ later) ≡ length front + length (one ∷ later) = length-append front (one ∷ later) in
      absurd (omega (arith, many, same, is)))
      ∙ ap (λ (r : List Record). first ∷ r) (there_is front one later is)

same_record : (one other : Record) → IsButStamp one other → record one { answer = stamp_or one.step other.answer one.answer } ≡ other
same_record one other same =
    ap (λ (x : Answer). record one { answer = x }) (stamp_is one.step one.answer other.answer same.answer)
    ∙ (ap (λ (n : ℕ). record { task = n; step = one.step; answer = other.answer }) same.task
    ∙ ap (λ (x : Step). record { task = other.task; step = x; answer = other.answer }) same.step)

-- the stamp of a record of the clock, or any where there is none
abbrev stamp_in : Step → Answer → Answer
stamp_in Clock stamp = stamp
stamp_in step stamp = answers.Word 0

stamp_in_is : (step : Step) (one other : Answer) → AreButStamp step one other → IsWord (stamp_in step other)
stamp_in_is Clock one other same = same.1
stamp_in_is step one other same = tt

stamp_in_or : (step : Step) (one other : Answer) → stamp_or step (stamp_in step other) one ≡ stamp_or step other one
stamp_in_or Clock one other = refl
stamp_in_or step one other = refl

pub with_other_stamp : (s : Setting) (registers : ℕ) (body : Block) (front : List Record) (one other : Record) (later : List Record)
    → IsButStamp one other → (whole : SpellsAll s registers body (front ++ one ∷ later)) → EndsSo whole (front ++ other ∷ later)
with_other_stamp s registers body front one other later same whole =
    let left : ℕ = length later in
    let stamp : Answer = stamp_in one.step other.answer in
    let is : restamped (answers_at left stamp) (front ++ one ∷ later) ≡ front ++ other ∷ later =
    there_is left stamp front one later refl
    ∙ (ap (λ (x : Answer). front ++ record one { answer = x } ∷ later) (stamp_in_or one.step one.answer other.answer)
    ∙ ap (λ (r : Record). front ++ r ∷ later) (same_record one other same)) in
    subst (λ (r : List Record). EndsSo whole r) is
    (spelled (answers_at left stamp) (gives_at left stamp (stamp_in_is one.step one.answer other.answer same.answer)) s registers body
    (front ++ one ∷ later) whole)
