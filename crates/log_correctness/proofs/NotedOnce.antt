-- Of the same records one list is noted, and no other.
use Rattle.std.proofs.Common.{◌≡◌, ◌↔◌, ◌∙◌, ◌<◌, ◌∷◌, [], ℕ, Bool, IsTrue, List, None, Option, Some, ap, length, refl, subst, sym}
use Rattle.std.specs.Coded.{le_prop}
use Rattle.std.specs.Option.{option_to_list}
use Rattle.access_types.specs.Access.{Access}
use Rattle.access_types.specs.Marked.{CountsAfter, EndsRaised, is_disable, is_enable, marks_of}
use Rattle.access_types.specs.declared.history.Happening.{Happening}
use Rattle.litmus_syntax.specs.Tree.{Block}
use Rattle.executions.specs.execution.Observed.{moments_of}
use Rattle.log_correctness.specs.Noted.{AreNoted, IsBegun, IsNoted}
use Rattle.setup_access.specs.declared.begun.Begun.{Begun}
use Rattle.setup_access.specs.declared.outcome.Outcome.{Outcome}
use Rattle.slot_table.specs.declared.records.Record.{Record}
use Rattle.slot_table.specs.declared.step.Answer.{Answer}
use Rattle.slot_table.specs.declared.step.Step.{Step}
use Rattle.task_log.specs.declared.noted.Noted.{Noted}
use Rattle.task_run.proofs.EndLemmas.{one_answer}
use Rattle.program_order.specs.Standing.{Setting}
use Rattle.program_order.specs.TaskObserved.{did_by, did_next}
use Rattle.program_order.specs.WrittenOrder.{WrittenOrder}

begun_is : (one other : Begun) → one.access ≡ other.access → one.marked ≡ other.marked → one.silenced ≡ other.silenced → one ≡ other
begun_is one other same marked silenced =
    let here : one ≡ record { access = other.access; marked = one.marked; silenced = one.silenced; has_bytes = other.has_bytes } =
    subst (λ (a : Access). (h : 0 < a.size) → one ≡ record { access = a; marked = one.marked; silenced = one.silenced; has_bytes = h }) same
    (λ h. ap (λ (g : 0 < one.access.size). record { access = one.access; marked = one.marked; silenced = one.silenced; has_bytes = g }) (le_prop one.has_bytes h))
    other.has_bytes in
    here ∙ (ap (λ (m : Bool). record { access = other.access; marked = m; silenced = one.silenced; has_bytes = other.has_bytes }) marked
    ∙ ap (λ (l : Bool). record { access = other.access; marked = other.marked; silenced = l; has_bytes = other.has_bytes }) silenced)

one_begins : (plain : Bool) (task : ℕ) (before next : List Happening) (one other : Option Begun) → IsBegun plain task before next one
    → IsBegun plain task before next other → one ≡ other
one_begins plain task before next None None p q = refl
one_begins plain task before next None (Some other) p q = absurd (let no : [] ≡ other.access ∷ [] = sym p ∙ q.0 in cc)
one_begins plain task before next (Some one) None p q = absurd (let no : [] ≡ one.access ∷ [] = sym q ∙ p.0 in cc)
one_begins plain task before next (Some one) (Some other) p q =
    let both : one.access ∷ [] ≡ other.access ∷ [] = sym p.0 ∙ q.0 in
    let same : one.access ≡ other.access = cc in
    ap (λ (b : Begun). Some b) (begun_is one other same (one_answer one.marked other.marked (CountsAfter plain one.access (moments_of task before)) p.1
    (subst (λ (a : Access). IsTrue other.marked ↔ CountsAfter plain a (moments_of task before)) (sym same) q.1)) (one_answer one.silenced other.silenced (EndsRaised is_disable is_enable (marks_of task (moments_of task before))) p.2 q.2))

one_fell : (one other : Option Outcome) → option_to_list one ≡ option_to_list other → one ≡ other
one_fell None None is = refl
one_fell None (Some other) is = absurd (let no : [] ≡ other ∷ [] = is in cc)
one_fell (Some one) None is = absurd (let no : one ∷ [] ≡ [] = is in cc)
one_fell (Some one) (Some other) is = let both : one ∷ [] ≡ other ∷ [] = is in cc

module _ {s : Setting} {registers : ℕ} {body : Block} {records : List Record} (written : WrittenOrder s registers body records) where
  same_noted : (made : ℕ) (latest : Record) (one other : Noted) → IsNoted written made latest one → IsNoted written made latest other → one ≡ other
  same_noted made latest one other p q =
      let begins = one_begins s.rules.plain_writes_atomic s.text.task (did_by written made) (did_next written made) one.begins other.begins p.begins q.begins in
      let outcome = one_fell one.outcome other.outcome (sym p.outcome ∙ q.outcome) in
      ap (λ (st : Step). record one { step = st }) (p.step ∙ sym q.step)
      ∙ (ap (λ (an : Answer). record one { step = other.step; answer = an }) (p.answer ∙ sym q.answer)
      ∙ (ap (λ (b : Option Begun). record one { step = other.step; answer = other.answer; begins = b }) begins
      ∙ ap (λ (o : Option Outcome). record other { outcome = o }) outcome))

  pub one_list : (own : List Record) (one other : List Noted) → AreNoted written own one → AreNoted written own other → one ≡ other
  one_list [] [] [] p q = refl
  one_list [] [] (noted ∷ before) p q = absurd q
  one_list [] (noted ∷ before) other p q = absurd p
  one_list (latest ∷ earlier) [] other p q = absurd p
  one_list (latest ∷ earlier) (noted ∷ before) [] p q = absurd q
  one_list (latest ∷ earlier) (noted ∷ before) (new ∷ others) p q =
      ap (λ (n : Noted). n ∷ before) (same_noted (length earlier) latest noted new p.1 q.1) ∙ ap (λ (l : List Noted). new ∷ l) (one_list earlier before others p.0 q.0)
