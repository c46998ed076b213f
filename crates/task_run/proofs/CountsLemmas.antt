-- What a machine counts where its task has done more.
use Rattle.std.proofs.Common.{◌≡◌, ◌∙◌, ◌++◌, ℕ, Bool, List, [], ◌∷◌, None, Option, Some, append_assoc, length, map, subst, sym}
use Rattle.std.proofs.lemmas.List.{append-nil, map-append}
use Rattle.access_types.specs.Access.{Access}
use Rattle.access_types.specs.History.{History}
use Rattle.access_types.specs.declared.history.Happening.{Happening}
use Rattle.access_types.specs.declared.history.Happening.TheVariants as happenings
use Rattle.litmus_semantics.specs.Task as meaning
use Rattle.litmus_semantics.specs.Task.{begins_at, has_lock}
use Rattle.access_run.specs.memory_operation.Effects.{moments_of, read_moments, write_moments}
use Rattle.access_run.specs.declared.memory_operation.effect.Effect.{Effect}
use Rattle.access_run.specs.declared.memory_operation.operation.Operation.{Operation}
use Rattle.access_run.specs.declared.memory_operation.operation.Operation.TheVariants as operations
use Rattle.setup_access.specs.Shown.{context_of}
use Rattle.slot_table.specs.declared.records.Record.{Record}
use Rattle.task_context.specs.Context.{Context}
use Rattle.task_context.specs.History.{Concerns, Follows, LeadsTo}
use Rattle.task_context.proofs.OtherMoments.{other_moment}
use Rattle.task_plan.proofs.KeepsLemmas.{keeps_alike, keeps_on}
use Rattle.task_plan.specs.SameProgress.{AreOther, IsOther}
use Rattle.task_run.specs.Stands.{Counts}
use Rattle.task_run.specs.declared.machine.Machine.{Machine}
use Rattle.program_order.specs.Access.{operated}
use Rattle.program_order.specs.Standing.{Setting, Standing, doing}

-- what a task did, as moments
abbrev pub history_of : ℕ → List Happening → History
history_of task did = map (λ happening. record { task = task; happening = happening }) did

-- a context goes on with one thing more that the task does
pub history_on : (flag : Bool) (task : ℕ) (did : List Happening) (happening : Happening) (old new : Context)
    → LeadsTo flag task (history_of task did) old → Follows flag task old happening new → LeadsTo flag task (history_of task (did ++ happening ∷ [])) new
history_on flag task did happening old new leads follows =
    subst (λ (m : History). LeadsTo flag task m new) (sym (map-append (λ h. record { task = task; happening = h }) did (happening ∷ [])))
    (follows (history_of task did) leads)

-- none of these is a mark, begins an access, or takes a lock or gives it back
abbrev pub IsSilent : Happening → Type 0
IsSilent (happenings.Begin a) = ⊥
IsSilent (happenings.End a) = Unit {0}
IsSilent (happenings.Read bytes value) = Unit {0}
IsSilent (happenings.Write bytes value) = Unit {0}
IsSilent (happenings.Lock lock) = ⊥
IsSilent (happenings.Unlock lock) = ⊥
IsSilent (happenings.Mark m) = ⊥

abbrev pub AreSilent : List Happening → Type 0
AreSilent [] = Unit {0}
AreSilent (happening ∷ later) = IsSilent happening × AreSilent later

silent_other : (happening : Happening) → IsSilent happening → IsOther happening
silent_other (happenings.Begin a) silent = absurd silent
silent_other (happenings.End a) silent = tt
silent_other (happenings.Read bytes value) silent = tt
silent_other (happenings.Write bytes value) silent = tt
silent_other (happenings.Lock lock) silent = absurd silent
silent_other (happenings.Unlock lock) silent = absurd silent
silent_other (happenings.Mark m) silent = absurd silent

silents_other : (does : List Happening) → AreSilent does → AreOther does
silents_other [] silent = tt
silents_other (happening ∷ later) silent = (silent_other happening silent.0, silents_other later silent.1)

silent_concerns : (task : ℕ) (happening : Happening) → IsSilent happening → ¬ Concerns task task happening
silent_concerns task (happenings.Begin a) silent = absurd silent
silent_concerns task (happenings.End a) silent = λ no. no
silent_concerns task (happenings.Read bytes value) silent = λ no. no
silent_concerns task (happenings.Write bytes value) silent = λ no. no
silent_concerns task (happenings.Lock lock) silent = absurd silent
silent_concerns task (happenings.Unlock lock) silent = absurd silent
silent_concerns task (happenings.Mark m) silent = absurd silent

-- what doesn't concern the context leaves it
pub unconcerned : (flag : Bool) (task : ℕ) (did : List Happening) (happening : Happening) (context : Context) → ¬ Concerns task task happening
    → LeadsTo flag task (history_of task did) context → LeadsTo flag task (history_of task (did ++ happening ∷ [])) context
unconcerned flag task did happening context other leads =
    subst (λ (m : History). LeadsTo flag task m context) (sym (map-append (λ h. record { task = task; happening = h }) did (happening ∷ [])))
    (other_moment flag task (history_of task did) context (record { task = task; happening = happening }) other leads)

silents_leave : (flag : Bool) (task : ℕ) (did does : List Happening) (context : Context) → AreSilent does
    → LeadsTo flag task (history_of task did) context → LeadsTo flag task (history_of task (did ++ does)) context
silents_leave flag task did [] context silent leads =
    subst (λ (d : List Happening). LeadsTo flag task (history_of task d) context) (sym (append-nil did)) leads
silents_leave flag task did (happening ∷ later) context silent leads =
    subst (λ (d : List Happening). LeadsTo flag task (history_of task d) context) (append_assoc did (happening ∷ []) later)
    (silents_leave flag task (did ++ happening ∷ []) later context silent.1
    (unconcerned flag task did happening context (silent_concerns task happening silent.0) leads))

module _ (s : Setting) (before : Standing) (machine : Machine) (counts : Counts s before machine) where
  -- the same with the scoped assertions in force
  pub counts_as : (after : Standing) → after.progress ≡ before.progress → after.unbalanced ≡ before.unbalanced → length after.scopes ≡ length before.scopes
      → Counts s after machine
  counts_as after same count scopes = record {
    keeps = keeps_alike (length s.text.variables) before after machine.progress (record { progress = sym same; unbalanced = sym count }) counts.keeps;
    context = subst (λ (p : meaning.Progress). LeadsTo s.rules.plain_writes_atomic s.text.task (history_of s.text.task p.did) (context_of machine.checker))
        (sym same) counts.context;
    in_force = counts.in_force ∙ sym scopes;
  }

  -- the task did what isn't counted
  pub counts_silent : (later : List Record) (does : List Happening) → AreSilent does → Counts s (doing before later does) machine
  counts_silent later does silent = record {
    keeps = keeps_on (length s.text.variables) before machine.progress later does (silents_other does silent) counts.keeps;
    context = silents_leave s.rules.plain_writes_atomic s.text.task before.progress.did does (context_of machine.checker) silent counts.context;
    in_force = counts.in_force;
  }

reads_silent : (a : Access) (read : Option ℕ) → AreSilent (read_moments a read)
reads_silent a None = tt
reads_silent a (Some value) = (tt, tt)

writes_silent : (a : Access) (written : Option ℕ) → AreSilent (write_moments a written)
writes_silent a None = tt
writes_silent a (Some value) = (tt, tt)

both_silent : (first later : List Happening) → AreSilent first → AreSilent later → AreSilent (first ++ later)
both_silent [] later silent more = more
both_silent (happening ∷ first) later silent more = (silent.0, both_silent first later silent.1 more)

moments_silent : (a : Access) (effect : Effect) → AreSilent (moments_of a effect)
moments_silent a effect = both_silent (read_moments a effect.read) (write_moments a effect.written) (reads_silent a effect.read) (writes_silent a effect.written)

-- so it is after the operation of an access
pub counts_operated : (s : Setting) (a : Access) (operation : Option Operation) (before : Standing) (records : List Record) (effect : Effect)
    (rest : List Record) (machine : Machine) → Counts s before machine → Counts s (operated a operation before records effect rest) machine
counts_operated s a None before records effect rest machine counts = counts
counts_operated s a (Some operations.Load) before records effect rest machine counts =
    counts_silent s before machine counts rest (moments_of a effect) (moments_silent a effect)
counts_operated s a (Some (operations.Add amount)) before records effect rest machine counts =
    counts_silent s _ machine (counts_silent s before machine counts _ (read_moments a effect.read) (reads_silent a effect.read)) rest
    (write_moments a effect.written) (writes_silent a effect.written)
counts_operated s a (Some (operations.Change change)) before records effect rest machine counts =
    counts_silent s before machine counts rest (moments_of a effect) (moments_silent a effect)
