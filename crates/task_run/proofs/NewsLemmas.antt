-- The outcome that falls at one record more of a part, in each part with checks.
use Rattle.std.proofs.Common.{◌≡◌, ◌∙◌, ◌++◌, ℕ, Bool, List, [], ◌∷◌, Option, ap, append_assoc, length, slice_get, subst, sym}
use Rattle.std.specs.Arc.{arc_value}
use Rattle.access_run.proofs.CheckFronts.{check, close, framed_checks}
use Rattle.access_run.specs.Access.{MakesAccess}
use Rattle.access_run.specs.Leads.{AccessLeads}
use Rattle.access_run.specs.Moved.{FramedChecks}
use Rattle.access_run.specs.Whole.{NoneWhole}
use Rattle.access_run.specs.declared.access.AccessRun.{AccessRun}
use Rattle.access_types.specs.Access as access
use Rattle.litmus_syntax.specs.Tree.{Block}
use Rattle.access_run.specs.memory_operation.Operations.{Operates}
use Rattle.access_run.specs.declared.memory_operation.operation.Operation.{Operation}
use Rattle.setup_access.proofs.LeadsLemmas.{same_ends}
use Rattle.setup_access.specs.Check.{Check, Close, Fallen, Passes}
use Rattle.setup_access.specs.Checker.{Checks, Closes, Doing}
use Rattle.setup_access.specs.Fallen.{outcomes_in}
use Rattle.setup_access.specs.Leads as checks
use Rattle.setup_access.specs.Shown.{outcomes_of}
use Rattle.setup_access.specs.declared.begun.Begun.{Begun}
use Rattle.setup_access.specs.declared.checker.Checker.{Checker}
use Rattle.setup_access.specs.declared.outcome.Outcome.{Outcome}
use Rattle.slot_table.specs.declared.records.Record.{Record}
use Rattle.task_plan.specs.Views.{follow_of}
use Rattle.task_plan.specs.declared.follow.Then.{Then}
use Rattle.task_run.proofs.ComeLemmas.{access_come, going_come, step_come}
use Rattle.task_run.proofs.EndLemmas.{begins_one, one_answer}
use Rattle.task_run.proofs.FellLemmas.{Descends, HasCome, check_descends, close_descends, one_fell}
use Rattle.task_run.proofs.LeadsLemmas.{agrees_in}
use Rattle.task_run.proofs.StageLemmas.{in_closing, in_making, in_opening}
use Rattle.task_run.specs.Fell.{FallsBefore, FallsInPart}
use Rattle.task_run.specs.Leads.{Leads}
use Rattle.task_run.specs.Part.{Part, closes, makes, opens}
use Rattle.task_run.specs.declared.machine.Machine.{Machine}
use Rattle.task_run.specs.declared.run.TaskRun.{TaskRun}
use Rattle.task_run.specs.declared.stage.TaskStage.TheVariants as stages
use Rattle.program_order.specs.Standing.{Setting, Standing, checks_of}

-- the next outcome of the checker is the one that falls
next_fell : (last : Record) (later : List Record) (limit : ℕ) (outcomes before after : List Fallen) (old new : Checker) (fell : Option Outcome)
    → fell ≡ slice_get (outcomes_of new) (length (outcomes_of old)) → outcomes_of old ≡ outcomes_in before → outcomes_of new ≡ outcomes_in after
    → Descends limit outcomes → HasCome (last ∷ later) outcomes before → HasCome later outcomes after → FallsBefore later outcomes fell
next_fell last later limit outcomes before after old new fell is was now descends so_far then =
    subst (λ (o : Option Outcome). FallsBefore later outcomes o)
    (sym (is ∙ (ap (λ (l : List Outcome). slice_get l (length (outcomes_of old))) now
    ∙ ap (λ (l : List Outcome). slice_get (outcomes_in after) (length l)) was)))
    (one_fell last later limit outcomes before after descends so_far then)

module _ (s : Setting) (registers : ℕ) (body : Block) (records : List Record) (old : TaskRun) (leads : Leads s registers body records old) (made : Record)
    (machine : Machine) (fell : Option Outcome) (is_next : fell ≡ slice_get (outcomes_of machine.checker) (length (outcomes_of old.machine.checker)))
    (later : List Record) where
  abbrev all : List Record
  all = leads.mine ++ made ∷ later

  abbrev before : Standing
  before = leads.now all

  one_more : (leads.mine ++ made ∷ []) ++ later ≡ all
  one_more = append_assoc leads.mine (made ∷ []) later

  pub making_fell : (run next_run : AccessRun) (kept : Then) → old.stage ≡ stages.Making run kept
      → ((scopes : List Begun) (begun : Begun) (asked : ℕ) (operation : Option Operation) (so_far : List Record)
      → (checks_of s).sites ≡ arc_value old.machine.sites → AccessLeads (checks_of s) scopes begun asked operation so_far run old.machine.checker
      → AccessLeads (checks_of s) scopes begun asked operation (so_far ++ made ∷ []) next_run machine.checker)
      → FallsInPart s leads.part before all later fell
  making_fell run next_run kept is leads_on =
      let part = in_making s before leads.mine old.machine old.stage leads.part (leads.agrees all).is_in run kept is in
      let agrees = agrees_in s registers body records old leads (makes part.0 part.1 (follow_of kept)) part.2 all in
      let is_in = agrees.is_in in
      let both : stages.Making is_in.0 is_in.1 ≡ stages.Making run kept = sym is_in.3 ∙ is in
      let same : is_in.0 ≡ run = cc in
      let here : AccessLeads (checks_of s) before.scopes is_in.2 before.asked part.1 leads.mine run old.machine.checker =
      subst (λ (r : AccessRun). AccessLeads (checks_of s) before.scopes is_in.2 before.asked part.1 leads.mine r old.machine.checker) same is_in.7 in
      let was = access_come (checks_of s) before.scopes is_in.2 before.asked part.1 leads.mine old.machine.checker run here in
      let now = access_come (checks_of s) before.scopes is_in.2 before.asked part.1 (leads.mine ++ made ∷ []) machine.checker next_run
      (leads_on before.scopes is_in.2 before.asked part.1 leads.mine (sym agrees.of.sites) here) in
      subst (λ (p : Part). FallsInPart s p before all later fell) (sym part.2)
      (λ effect between rest own.
      let begun_same = begins_one s before part.0 own.begun is_in.2 own.begins is_in.6 in
      let whole : MakesAccess (checks_of s) before.scopes is_in.2 before.asked part.1 all own.passes effect rest = record {
        checked = own.checked;
        done = own.done;
        check = subst (λ (b : Begun). Check (checks_of s) before.scopes b before.asked all own.passes own.checked) begun_same own.check;
        operates = subst (λ (x : access.Access). Operates (checks_of s) x part.1 own.checked effect own.done) (sym is_in.6.access) own.operates;
        ends = own.ends;
      } in
      next_fell made later (length all) own.passes.outcomes was.0 now.0 old.machine.checker machine.checker fell is_next was.1 now.1
      (check_descends (checks_of s) before.scopes is_in.2 before.asked all own.passes own.checked whole.check)
      (was.2 (made ∷ later) own.passes effect rest whole)
      (now.2 later own.passes effect rest
      (subst (λ (r : List Record). MakesAccess (checks_of s) before.scopes is_in.2 before.asked part.1 r own.passes effect rest) (sym one_more) whole)))

  pub opening_fell : old.stage ≡ stages.Opening
      → ((scopes : List Begun) (what : Doing) (asked : ℕ) (so_far : List Record) → (checks_of s).sites ≡ arc_value old.machine.sites
      → checks.Leads (checks_of s) scopes what asked so_far old.machine.checker
      → checks.Leads (checks_of s) scopes what asked (so_far ++ made ∷ []) machine.checker)
      → FallsInPart s leads.part before all later fell
  opening_fell is leads_on =
      let part = in_opening s before leads.mine old.machine old.stage leads.part (leads.agrees all).is_in is in
      let agrees = agrees_in s registers body records old leads (opens part.0) part.1 all in
      let is_in = agrees.is_in in
      let now = leads_on before.scopes (Checks is_in.0) before.asked leads.mine (sym agrees.of.sites) is_in.4 in
      subst (λ (p : Part). FallsInPart s p before all later fell) (sym part.1)
      (λ begun opened inside own.
      let begun_same = begins_one s before part.0 begun is_in.0 own.begins is_in.2 in
      let whole : Check (checks_of s) before.scopes is_in.0 before.asked all own.passes inside =
      subst (λ (b : Begun). Check (checks_of s) before.scopes b before.asked all own.passes inside) begun_same own.check in
      let after = check_then is_in.0 now is_in.5 own.passes inside
      (subst (λ (r : List Record). Check (checks_of s) before.scopes is_in.0 before.asked r own.passes inside) (sym one_more) whole) in
      next_fell made later (length all) own.passes.outcomes is_in.4.fallen now.fallen old.machine.checker machine.checker fell is_next is_in.4.outcomes
      now.outcomes
      (check_descends (checks_of s) before.scopes is_in.0 before.asked all own.passes inside whole)
      (going_come (checks_of s) before.scopes (Checks is_in.0) before.asked (Check (checks_of s) before.scopes is_in.0 before.asked)
      (framed_checks (Check (checks_of s) before.scopes is_in.0 before.asked) (check (checks_of s) before.scopes is_in.0 before.asked)) (λ r p h. h)
      leads.mine old.machine.checker is_in.4 is_in.5 (made ∷ later) own.passes inside whole)
      after)
    where
      check_then : (begun : Begun) (now : checks.Leads (checks_of s) before.scopes (Checks begun) before.asked (leads.mine ++ made ∷ []) machine.checker)
          → NoneWhole (Check (checks_of s) before.scopes begun before.asked) leads.mine → (passes : Passes) (inside : List Record)
          → Check (checks_of s) before.scopes begun before.asked ((leads.mine ++ made ∷ []) ++ later) passes inside → HasCome later passes.outcomes now.fallen
      check_then begun now none passes inside whole =
          step_come (checks_of s) before.scopes (Checks begun) before.asked (Check (checks_of s) before.scopes begun before.asked)
          (framed_checks (Check (checks_of s) before.scopes begun before.asked) (check (checks_of s) before.scopes begun before.asked)) (λ r p h. h)
          leads.mine made machine.checker now none later passes inside whole

  pub closing_fell : old.stage ≡ stages.Closing
      → ((scopes : List Begun) (what : Doing) (asked : ℕ) (so_far : List Record) → (checks_of s).sites ≡ arc_value old.machine.sites
      → checks.Leads (checks_of s) scopes what asked so_far old.machine.checker
      → checks.Leads (checks_of s) scopes what asked (so_far ++ made ∷ []) machine.checker)
      → FallsInPart s leads.part before all later fell
  closing_fell is leads_on =
      let part = in_closing s before leads.mine old.machine old.stage leads.part (leads.agrees all).is_in is in
      let agrees = agrees_in s registers body records old leads closes part all in
      let is_in = agrees.is_in in
      let now = leads_on is_in.0 (Closes is_in.1 is_in.2) before.asked leads.mine (sym agrees.of.sites) is_in.6 in
      subst (λ (p : Part). FallsInPart s p before all later fell) (sym part)
      (λ scopes newest closed rest in_force own.
      let ends = same_ends scopes is_in.0 newest is_in.1 (sym in_force ∙ is_in.4) in
      let says : own.silenced ≡ is_in.2 = one_answer own.silenced is_in.2 _ own.is_silenced is_in.5 in
      let whole : Close (checks_of s) is_in.1 is_in.2 before.asked all own.passes rest =
      subst (λ (b : Bool). Close (checks_of s) is_in.1 b before.asked all own.passes rest) says
      (subst (λ (b : Begun). Close (checks_of s) b own.silenced before.asked all own.passes rest) ends.1 own.close) in
      let framed : FramedChecks (Close (checks_of s) is_in.1 is_in.2 before.asked) =
      framed_checks (Close (checks_of s) is_in.1 is_in.2 before.asked) (close (checks_of s) is_in.1 is_in.2 before.asked) in
      next_fell made later (length all) own.passes.outcomes is_in.6.fallen now.fallen old.machine.checker machine.checker fell is_next is_in.6.outcomes
      now.outcomes
      (close_descends (checks_of s) is_in.1 is_in.2 before.asked all own.passes rest whole)
      (going_come (checks_of s) is_in.0 (Closes is_in.1 is_in.2) before.asked (Close (checks_of s) is_in.1 is_in.2 before.asked) framed (λ r p h. h)
      leads.mine old.machine.checker is_in.6 is_in.7 (made ∷ later) own.passes rest whole)
      (step_come (checks_of s) is_in.0 (Closes is_in.1 is_in.2) before.asked (Close (checks_of s) is_in.1 is_in.2 before.asked) framed (λ r p h. h)
      leads.mine made machine.checker now is_in.7 later own.passes rest
      (subst (λ (r : List Record). Close (checks_of s) is_in.1 is_in.2 before.asked r own.passes rest) (sym one_more) whole)))
