-- Some records are an access, from wherever its task stands.
use Rattle.std.proofs.Common.{◌≡◌, ◌<◌, ◌∙◌, ◌+◌, ◌++◌, ℕ, true, false, List, [], ◌∷◌, Option, None, Some, IsSome, ap, append_assoc, arith, count_by, drop, refl, subst, sym, if◌then◌else◌}
use Rattle.std.proofs.lemmas.List.Sums.{sum_by-append, sum_by-cons}
use Rattle.access_run.proofs.AccessEnds.{some_operation}
use Rattle.access_run.proofs.CheckEnds.{some_check}
use Rattle.access_run.proofs.LeadsLemmas.{check_joined, operates_joined}
use Rattle.access_run.specs.Leads.{HasCell}
use Rattle.access_run.specs.Moved.{moved}
use Rattle.access_types.specs.Access.{Access}
use Rattle.access_types.specs.declared.history.Happening.{Happening}
use Rattle.access_types.specs.declared.history.Happening.TheVariants as happenings
use Rattle.litmus_semantics.specs.Task.{begins_at}
use Rattle.access_run.specs.memory_operation.Effects.{moments_of, nothing, read_moments, write_moments}
use Rattle.access_run.specs.memory_operation.Operations.{Operates, Reads}
use Rattle.access_run.specs.declared.memory_operation.effect.Effect.{Effect}
use Rattle.access_run.specs.declared.memory_operation.operation.Operation.{Operation}
use Rattle.access_run.specs.declared.memory_operation.operation.Operation.TheVariants as operations
use Rattle.setup_access.specs.Check.{Fallen, Passes}
use Rattle.setup_access.specs.OwnAccesses.{AreOwn, IsOwn}
use Rattle.setup_access.specs.Parts.{made}
use Rattle.setup_access.specs.Setting as checks
use Rattle.setup_access.specs.Values.{source_of}
use Rattle.setup_access.specs.declared.source.Source.{Source}
use Rattle.slot_table.specs.declared.records.Record.{Record}
use Rattle.slot_table.specs.declared.step.Answer.TheVariants as answers
use Rattle.slot_table.specs.declared.step.Step.TheVariants.{Clock}
use Rattle.task_plan.proofs.task_laws.Decided.{begins_now}
use Rattle.access_run.proofs.memory_operation.ReadLemmas.{HasRead, operation_reads}
use Rattle.task_plan.specs.task_laws.Begins.{one_at}
use Rattle.task_plan.specs.task_laws.StandingButWay.{Core, begun_at, standing}
use Rattle.task_plan.proofs.KeepsLemmas.{begun_still}
use Rattle.task_plan.specs.SameProgress.{AreOther}
use Rattle.program_order.specs.Access.{Makes, operated}
use Rattle.program_order.specs.Standing.{Point, Setting, Standing, checks_of, doing}

-- what a task did by the end of an access of which this came
abbrev pub did_in : Access → Option Operation → Effect → List Happening → List Happening
did_in a None effect did = (did ++ happenings.Begin a ∷ []) ++ happenings.End a ∷ []
did_in a (Some operations.Load) effect did =
    ((did ++ happenings.Begin a ∷ []) ++ moments_of a effect) ++ happenings.End a ∷ []
did_in a (Some (operations.Add amount)) effect did =
    (((did ++ happenings.Begin a ∷ []) ++ read_moments a effect.read) ++ write_moments a effect.written) ++ happenings.End a ∷ []
did_in a (Some (operations.Change change)) effect did =
    ((did ++ happenings.Begin a ∷ []) ++ moments_of a effect) ++ happenings.End a ∷ []

abbrev pub after_access : Core → Access → Option Operation → Effect → ℕ → Core
after_access at a operation effect asked = record {
  progress = record { did = did_in a operation effect at.progress.did; registers = at.progress.registers };
  unbalanced = at.unbalanced;
  asked = asked;
  scopes = at.scopes;
}

-- where the task stands then
abbrev pub ends_at : Access → Option Operation → Standing → List Record → List Record → List Record → List Record → Effect → Passes → Standing
ends_at a operation before records checked done rest effect passes =
    let began : Standing = doing before (drop 1 records) (happenings.Begin a ∷ []) in
    let made : Standing = operated a operation began checked effect done in
    record (doing made rest (happenings.End a ∷ [])) { asked = passes.asked; outcomes = before.outcomes ++ passes.outcomes }

comes_to : (at : Core) (way : List Point) (outcomes : List Fallen) (a : Access) (operation : Option Operation)
    (records checked done rest : List Record) (effect : Effect) (passes : Passes)
    → standing (after_access at a operation effect passes.asked)
    (ends_at a operation (standing at way outcomes) records checked done rest effect passes).way
    (ends_at a operation (standing at way outcomes) records checked done rest effect passes).outcomes
    ≡ ends_at a operation (standing at way outcomes) records checked done rest effect passes
comes_to at way outcomes a None records checked done rest effect passes = refl
comes_to at way outcomes a (Some operations.Load) records checked done rest effect passes = refl
comes_to at way outcomes a (Some (operations.Add amount)) records checked done rest effect passes = refl
comes_to at way outcomes a (Some (operations.Change change)) records checked done rest effect passes = refl

-- one access more began
abbrev counted : ℕ → Happening → ℕ
counted site happening = if begins_at site happening then 1 else 0

pub begun_more : (at : ℕ) (did : List Happening) (a : Access)
    → count_by (begins_at at) (did ++ happenings.Begin a ∷ []) ≡ count_by (begins_at at) did + one_at a.site at
begun_more at did a =
    let parts : count_by (begins_at at) (did ++ happenings.Begin a ∷ []) ≡ count_by (begins_at at) did + count_by (begins_at at) (happenings.Begin a ∷ []) =
    sum_by-append (counted at) did (happenings.Begin a ∷ []) in
    let last : count_by (begins_at at) (happenings.Begin a ∷ []) ≡ one_at a.site at + 0 = sum_by-cons (counted at) (happenings.Begin a) [] in
    omega (arith, parts, last)

read_other : (a : Access) (value : Option ℕ) → AreOther (read_moments a value)
read_other a None = tt
read_other a (Some value) = (tt, tt)

write_other : (a : Access) (value : Option ℕ) → AreOther (write_moments a value)
write_other a None = tt
write_other a (Some value) = (tt, tt)

both_other : (a : Access) (old new : Option ℕ) → AreOther (read_moments a old ++ write_moments a new)
both_other a None new = write_other a new
both_other a (Some value) new = (tt, write_other a new)

pub begun_in : (at : ℕ) (a : Access) (operation : Option Operation) (effect : Effect) (did : List Happening)
    → count_by (begins_at at) (did_in a operation effect did) ≡ count_by (begins_at at) did + one_at a.site at
begun_in at a None effect did =
    begun_still at (did ++ happenings.Begin a ∷ []) (happenings.End a ∷ []) (tt, tt) ∙ begun_more at did a
begun_in at a (Some operations.Load) effect did =
    begun_still at ((did ++ happenings.Begin a ∷ []) ++ moments_of a effect) (happenings.End a ∷ []) (tt, tt)
    ∙ (begun_still at (did ++ happenings.Begin a ∷ []) (moments_of a effect) (both_other a effect.read effect.written) ∙ begun_more at did a)
begun_in at a (Some (operations.Add amount)) effect did =
    begun_still at (((did ++ happenings.Begin a ∷ []) ++ read_moments a effect.read) ++ write_moments a effect.written) (happenings.End a ∷ []) (tt, tt)
    ∙ (begun_still at ((did ++ happenings.Begin a ∷ []) ++ read_moments a effect.read) (write_moments a effect.written) (write_other a effect.written)
    ∙ (begun_still at (did ++ happenings.Begin a ∷ []) (read_moments a effect.read) (read_other a effect.read) ∙ begun_more at did a))
begun_in at a (Some (operations.Change change)) effect did =
    begun_still at ((did ++ happenings.Begin a ∷ []) ++ moments_of a effect) (happenings.End a ∷ []) (tt, tt)
    ∙ (begun_still at (did ++ happenings.Begin a ∷ []) (moments_of a effect) (both_other a effect.read effect.written) ∙ begun_more at did a)

-- some records are an operation
of_source : (source : Option Source) → IsSome source → (some : Source) × (source ≡ Some some)
of_source None is = absurd (let no : false ≡ true = is in cc)
of_source (Some source) is = (source, refl)

some_operates : (s : checks.Setting) (a : Access) (operation : Option Operation) → HasCell s a operation
    → (records : List Record) × (effect : Effect) × Operates s a operation records effect []
some_operates s a None has = ([], nothing, (refl, refl))
some_operates s a (Some operation) has =
    let source = of_source (source_of s a) has in
    let own = some_operation s.task a source.0 operation in (own.0, own.1, (source.0, source.1, own.2))

-- an access is made by some records, whatever the way there and whatever follows
pub record Made (s : Setting) (at : Core) (a : Access) (operation : Option Operation) : Type 0 where
  pub effect : Effect
  pub records : List Record
  pub after : Core
  pub spells : (way : List Point) (outcomes : List Fallen) (rest : List Record) → (farther : List Point) × (more : List Fallen)
      × Makes s (standing at way outcomes) a operation (records ++ rest) effect (standing after farther more) rest
  pub reads : Reads operation → HasRead effect
  pub counts : (site : ℕ) → begun_at site after ≡ begun_at site at + one_at a.site site
  pub scopes : after.scopes ≡ at.scopes
  pub registers : after.progress.registers ≡ at.progress.registers

pub some_access : (s : Setting) (at : Core) (a : Access) (operation : Option Operation) → IsOwn (checks_of s) a → 0 < a.size
    → AreOwn (checks_of s) at.scopes → HasCell (checks_of s) a operation → Made s at a operation
some_access s at a operation own some others has =
    let begun = begins_now s (standing at [] []) a own some in
    let is_own : IsOwn (checks_of s) begun.0.access = subst (λ (b : Access). IsOwn (checks_of s) b) (sym begun.1.access) own in
    let check = some_check (checks_of s) at.scopes begun.0 at.asked is_own others in
    let operates = some_operates (checks_of s) a operation has in
    let clock : List Record = made s.text.task Clock (answers.Word 0) ∷ [] in
    record {
      effect = operates.1;
      records = check.0 ++ (operates.0 ++ clock);
      after = after_access at a operation operates.1 check.1.asked;
      spells = λ way outcomes rest.
          let done : List Record = clock ++ rest in
          let checked : List Record = operates.0 ++ done in
          let passes : Passes = moved checked check.1 in
          let end : Standing = ends_at a operation (standing at way outcomes) (check.0 ++ checked) checked done rest operates.1 passes in
          let all : (check.0 ++ (operates.0 ++ clock)) ++ rest ≡ check.0 ++ checked =
          append_assoc check.0 (operates.0 ++ clock) rest ∙ ap (λ (r : List Record). check.0 ++ r) (append_assoc operates.0 clock rest) in
          let makes : Makes s (standing at way outcomes) a operation (check.0 ++ checked) operates.1
          (standing (after_access at a operation operates.1 check.1.asked) end.way end.outcomes) rest =
          record {
            begun = begun.0;
            passes = passes;
            checked = checked;
            done = done;
            begins = record { own = begun.1.own; access = begun.1.access; marked = begun.1.marked; silenced = begun.1.silenced };
            check = check_joined (checks_of s) at.scopes begun.0 at.asked check.0 checked check.1 check.2;
            operates = operates_joined (checks_of s) a operation operates.0 done operates.1 operates.2;
            ends = (refl, refl, refl);
            comes_to = comes_to at way outcomes a operation (check.0 ++ checked) checked done rest operates.1 passes;
          } in (
            end.way,
            end.outcomes,
            subst (λ (r : List Record). Makes s (standing at way outcomes) a operation r operates.1
                (standing (after_access at a operation operates.1 check.1.asked) end.way end.outcomes) rest) (sym all) makes,
          );
      reads = λ reads. operation_reads (checks_of s) a operation operates.0 operates.1 [] reads operates.2;
      counts = λ site. begun_in site a operation operates.1 at.progress.did;
      scopes = refl;
      registers = refl;
    }
