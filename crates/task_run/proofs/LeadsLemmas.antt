-- One record more leads on: inside of a part, or to the part that follows.
use Rattle.std.proofs.Common.{◌≡◌, ◌↔◌, ◌∙◌, ◌++◌, ◌∷◌, [], ℕ, List, ap, append_assoc, subst, sym}
use Rattle.std.proofs.lemmas.List.{append-nil}
use Rattle.litmus_syntax.specs.Tree.{Block}
use Rattle.slot_table.specs.declared.records.Record.{Record}
use Rattle.task_run.proofs.AccessesLemmas.{AreTold, accesses_on}
use Rattle.task_run.proofs.ScopeLemmas.{scopes_on}
use Rattle.task_run.proofs.ToldLemmas.{told_on}
use Rattle.task_run.proofs.WaitLemmas.{IsNoWait, ends_in_no_wait}
use Rattle.task_run.specs.Agrees.{Agrees, Begins}
use Rattle.task_run.specs.Leads.{Leads}
use Rattle.task_run.specs.Part.{Part, PartLeft}
use Rattle.task_run.specs.Stops.{ScopesAreTold}
use Rattle.task_run.specs.Position.{IsTold}
use Rattle.task_run.specs.declared.run.TaskRun.{TaskRun}
use Rattle.task_plan.proofs.StepsLemmas.{through}
use Rattle.task_plan.specs.Left.{WalkLeft}
use Rattle.task_plan.specs.declared.walk.Walk.{Walk}
use Rattle.program_order.specs.Standing.{Setting, Standing}
use Rattle.program_order.specs.WrittenOrder.{StepsOfBlock, at_first}

module _ (s : Setting) (registers : ℕ) (body : Block) (records : List Record) (old : TaskRun) (leads : Leads s registers body records old)
    (part : Part) (is : leads.part ≡ part) where
  -- in the part
  pub agrees_in : (later : List Record) → Agrees s part (leads.now later) leads.mine old.machine old.stage
  agrees_in later = subst (λ (p : Part). Agrees s p (leads.now later) leads.mine old.machine old.stage) is (leads.agrees later)

  left_in : (later : List Record) (end : Standing) → StepsOfBlock s 0 body (at_first registers) (records ++ later) end []
      ↔ PartLeft s part old.machine.walk (leads.now (leads.mine ++ later)) (leads.mine ++ later) end []
  left_in later end = subst (λ (p : Part). StepsOfBlock s 0 body (at_first registers) (records ++ later) end []
      ↔ PartLeft s p old.machine.walk (leads.now (leads.mine ++ later)) (leads.mine ++ later) end []) is (leads.left later end)

  module _ (made : Record) where
    -- whatever completes one record more completes the same part
    left_on : (later : List Record) (end : Standing) → StepsOfBlock s 0 body (at_first registers) ((records ++ made ∷ []) ++ later) end []
        ↔ PartLeft s part old.machine.walk (leads.now ((leads.mine ++ made ∷ []) ++ later)) ((leads.mine ++ made ∷ []) ++ later) end []
    left_on later end =
        let Goal : List Record → List Record → Type 0 = λ all mine. StepsOfBlock s 0 body (at_first registers) all end []
        ↔ PartLeft s part old.machine.walk (leads.now mine) mine end [] in
        let one : Goal (records ++ made ∷ later) (leads.mine ++ made ∷ later) = left_in (made ∷ later) end in
        subst (λ (all : List Record). Goal all ((leads.mine ++ made ∷ []) ++ later)) (sym (append_assoc records (made ∷ []) later))
        (subst (λ (mine : List Record). Goal (records ++ made ∷ later) mine) (sym (append_assoc leads.mine (made ∷ []) later)) one)

    -- the part goes on
    pub inside : (new : TaskRun) → new.machine.walk ≡ old.machine.walk
        → ((later : List Record) → Agrees s part (leads.now later) (leads.mine ++ made ∷ []) new.machine new.stage)
        → Leads s registers body (records ++ made ∷ []) new
    inside new walk agrees = record {
      part = part;
      earlier = leads.earlier;
      waits = leads.waits;
      mine = leads.mine ++ made ∷ [];
      spelled = ap (λ (x : List Record). x ++ made ∷ []) leads.spelled ∙ append_assoc leads.earlier leads.mine (made ∷ []);
      now = leads.now;
      told = leads.told;
      scopes = leads.scopes;
      accesses = leads.accesses;
      repeats = leads.repeats;
      agrees = agrees;
      left = λ later end. subst (λ (w : Walk). StepsOfBlock s 0 body (at_first registers) ((records ++ made ∷ []) ++ later) end []
          ↔ PartLeft s part w (leads.now ((leads.mine ++ made ∷ []) ++ later)) ((leads.mine ++ made ∷ []) ++ later) end [])
          (sym walk) (left_on later end);
    }

    -- the part is over, and the next begins: from these standings on, what was left after the part is left of the text
    pub next_part : IsNoWait made → (new : TaskRun) (walk : Walk) (next : List Record → Standing)
        → ((later : List Record) → IsTold registers later (next later)) → ((later : List Record) → ScopesAreTold (next later))
        → ((later : List Record) → AreTold s (leads.earlier ++ (leads.mine ++ made ∷ [])) (next later))
        → ((later : List Record) (end : Standing)
        → PartLeft s part old.machine.walk (leads.now ((leads.mine ++ made ∷ []) ++ later)) ((leads.mine ++ made ∷ []) ++ later) end []
        ↔ WalkLeft s walk (next later) later end [])
        → Begins s (WalkLeft s walk) next new.machine new.stage → Leads s registers body (records ++ made ∷ []) new
    next_part none new walk next told scopes accesses over begins =
        let spelled : leads.earlier ++ (leads.mine ++ made ∷ []) ≡ records ++ made ∷ [] =
        sym (ap (λ (x : List Record). x ++ made ∷ []) leads.spelled ∙ append_assoc leads.earlier leads.mine (made ∷ [])) in
        let here : (later : List Record) → AreTold s (records ++ made ∷ []) (begins.1 later) =
        λ later. accesses_on s (records ++ made ∷ []) (begins.4 later)
        (subst (λ (r : List Record). AreTold s r (next later)) spelled (accesses later)) in record {
          part = begins.0;
          earlier = records ++ made ∷ [];
          waits = ends_in_no_wait records made none;
          mine = [];
          spelled = sym (append-nil (records ++ made ∷ []));
          now = begins.1;
          told = λ later. told_on registers (begins.4 later) (told later);
          scopes = λ later. scopes_on (begins.4 later) (scopes later);
          accesses = λ later. (here later).0;
          repeats = λ later. (here later).1;
          agrees = begins.2;
          left = λ later end. through (left_on later end) (through (over later end) (begins.3 later end));
        }
