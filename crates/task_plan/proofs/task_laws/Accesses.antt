-- An access is open, from wherever its task stands.
use Rattle.std.proofs.Common.{◌≡◌, ◌<◌, ℕ, List, [], Option, None, Some, arith, refl, subst, sym}
use Rattle.access_run.specs.Leads.{HasCell}
use Rattle.access_types.specs.Access.{Access}
use Rattle.task_plan.proofs.task_laws.Checks.{OfPasses, check_open, clock_open}
use Rattle.task_plan.proofs.task_laws.Memory.{operates_open}
use Rattle.task_plan.proofs.task_laws.Opens.{After, Begins, Lists, open_map}
use Rattle.access_run.specs.memory_operation.Operations.{Operates}
use Rattle.access_run.specs.declared.memory_operation.effect.Effect.{Effect}
use Rattle.access_run.specs.declared.memory_operation.operation.Operation.{Operation}
use Rattle.access_run.specs.declared.memory_operation.operation.Operation.TheVariants as operations
use Rattle.setup_access.specs.Check.{Check, Fallen, Passes}
use Rattle.setup_access.specs.OwnAccesses.{AreOwn, IsOwn}
use Rattle.setup_access.specs.Records.{MakesWord}
use Rattle.setup_access.specs.declared.begun.Begun.{Begun}
use Rattle.slot_table.specs.declared.records.Record.{Record}
use Rattle.slot_table.specs.declared.step.Step.TheVariants.{Clock}
use Rattle.task_plan.proofs.task_laws.SpelledAccesses.{after_access, begun_in, ends_at}
use Rattle.task_plan.proofs.task_laws.Decided.{begins_now}
use Rattle.task_plan.specs.task_laws.Begins.{one_at}
use Rattle.task_plan.specs.task_laws.StandingButWay.{Core, core_of, standing}
use Rattle.task_plan.proofs.task_laws.Places.{ByEach, BySome, PartIsOpen, Valued, WithinFrom, sum_open}
use Rattle.program_order.specs.Access.{Makes}
use Rattle.program_order.specs.Standing.{BeginsNow, Point, Setting, Standing, checks_of}

-- where a task stands after an access hangs on what came of it, and on how often the sampler was asked
core_ends : (at : Core) (way : List Point) (outcomes : List Fallen) (a : Access) (operation : Option Operation)
    (records checked done rest : List Record) (effect : Effect) (passes : Passes)
    → core_of (ends_at a operation (standing at way outcomes) records checked done rest effect passes) ≡ after_access at a operation effect passes.asked
core_ends at way outcomes a None records checked done rest effect passes = refl
core_ends at way outcomes a (Some operations.Load) records checked done rest effect passes = refl
core_ends at way outcomes a (Some (operations.Add amount)) records checked done rest effect passes = refl
core_ends at way outcomes a (Some (operations.Change change)) records checked done rest effect passes = refl

module _ (s : Setting) (at : Core) (a : Access) (operation : Option Operation) where
  abbrev Stamp : Begins (Unit {0})
  Stamp records value rest = MakesWord s.text.task Clock (λ stamp later. rest ≡ later) records

  -- what follows on the end of the access
  abbrev Ended : (Effect → Core → Lists) → Effect → ℕ → Lists
  Ended K effect asked = After (Unit {0}) Stamp (λ value. K effect (after_access at a operation effect asked))

  -- and on its check
  abbrev Checked : (Effect → Core → Lists) → ℕ → Lists
  Checked K asked = After Effect (λ records effect rest. Operates (checks_of s) a operation records effect rest) (λ effect. Ended K effect asked)

  -- and where it begins
  abbrev FromBegin : (Effect → Core → Lists) → Begun → Lists
  FromBegin K begun = After Passes (λ records passes rest. Check (checks_of s) at.scopes begun at.asked records passes rest) (OfPasses (Checked K))

  abbrev Decided : Begun → Type 0
  Decided begun = BeginsNow s (standing at [] []) a begun

  abbrev AccessSteps : Valued Effect
  AccessSteps before records effect after rest = Makes s before a operation records effect after rest

  -- its check, its operation and its end, and what follows where they lead
  taken_apart : (K : Effect → Core → Lists) (records : List Record) → BySome Effect AccessSteps at K records
      → (begun : Begun) × Decided begun × FromBegin K begun records
  taken_apart K records h =
      let makes = h.5 in
      let now : BeginsNow s (standing at [] []) a makes.begun =
      record { own = makes.begins.own; access = makes.begins.access; marked = makes.begins.marked; silenced = makes.begins.silenced } in
      let ends : core_of h.3 ≡ after_access at a operation h.2 makes.passes.asked =
      subst (λ (end : Standing). core_of end ≡ after_access at a operation h.2 makes.passes.asked) (sym makes.comes_to)
      (core_ends at h.0 h.1 a operation records makes.checked makes.done h.4 h.2 makes.passes) in (
        makes.begun,
        now,
        (makes.passes, makes.checked, makes.check, (h.2, makes.done, makes.operates, (tt, h.4, makes.ends, subst (λ (c : Core). K h.2 c h.4) ends h.6))),
      )

  put_together : (K : Effect → Core → Lists) (records : List Record) → ((begun : Begun) × Decided begun × FromBegin K begun records)
      → ByEach Effect AccessSteps at K records
  put_together K records h way outcomes =
      let passes : Passes = h.2.0 in
      let checked : List Record = h.2.1 in
      let effect : Effect = h.2.3.0 in
      let done : List Record = h.2.3.1 in
      let rest : List Record = h.2.3.3.1 in
      let makes : Makes s (standing at way outcomes) a operation records effect
      (ends_at a operation (standing at way outcomes) records checked done rest effect passes) rest =
      record {
        begun = h.0;
        passes = passes;
        checked = checked;
        done = done;
        begins = record { own = h.1.own; access = h.1.access; marked = h.1.marked; silenced = h.1.silenced };
        check = h.2.2;
        operates = h.2.3.2;
        ends = h.2.3.3.2;
        comes_to = refl;
      } in (
        effect,
        ends_at a operation (standing at way outcomes) records checked done rest effect passes,
        rest,
        makes,
        subst (λ (c : Core). K effect c rest) (sym (core_ends at way outcomes a operation records checked done rest effect passes)) h.2.3.3.3,
      )

  within : (effect : Effect) (asked : ℕ) → WithinFrom at (one_at a.site) (after_access at a operation effect asked)
  within effect asked = record {
    counts = λ site. let more = begun_in site a operation effect at.progress.did in omega (arith, more);
    scopes = refl;
  }

  pub makes_open : IsOwn (checks_of s) a → 0 < a.size → AreOwn (checks_of s) at.scopes → HasCell (checks_of s) a operation
      → PartIsOpen Effect (λ before records effect after rest. Makes s before a operation records effect after rest) at
      (λ effect after. WithinFrom at (one_at a.site) after)
  makes_open own some others has E A follows =
      let begun = begins_now s (standing at [] []) a own some in
      open_map (λ records. (each : Begun) × Decided each × FromBegin E each records) (BySome Effect AccessSteps at E)
      (λ records. (each : Begun) × Decided each × FromBegin A each records) (ByEach Effect AccessSteps at A)
      (taken_apart E) (put_together A)
      (sum_open Begun Decided (FromBegin E) (FromBegin A) begun.0 begun.1
      (λ each is. check_open (checks_of s) at.scopes each at.asked (subst (λ (b : Access). IsOwn (checks_of s) b) (sym is.access) own) others (Checked E)
      (Checked A)
      (λ asked. operates_open (checks_of s) a operation has (λ effect. Ended E effect asked) (λ effect. Ended A effect asked)
      (λ effect. clock_open (checks_of s) (λ value. E effect (after_access at a operation effect asked))
      (λ value. A effect (after_access at a operation effect asked))
      (λ value. follows effect (after_access at a operation effect asked) (within effect asked))))))
