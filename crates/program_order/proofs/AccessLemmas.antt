-- What an access did: it began, its operation happened, and it ended.
use Rattle.std.proofs.Common.{◌≡◌, ◌∙◌, ◌++◌, ℕ, Bool, true, false, List, [], ◌∷◌, None, Option, Some, ap, drop, refl, sym}
use Rattle.std.proofs.lemmas.List.{append-nil, append_assoc}
use Rattle.access_types.specs.Access as access
use Rattle.access_types.specs.declared.history.Happening.{Happening}
use Rattle.access_types.specs.declared.history.Happening.TheVariants as happenings
use Rattle.litmus_semantics.specs.Task as meaning
use Rattle.access_run.specs.memory_operation.Effects.{moments_of, read_moments, write_moments}
use Rattle.access_run.specs.memory_operation.Operations.{Operates}
use Rattle.access_run.specs.declared.memory_operation.effect.Effect.{Effect}
use Rattle.access_run.specs.declared.memory_operation.operation.Operation.{Operation}
use Rattle.access_run.specs.declared.memory_operation.operation.Operation.TheVariants as operations
use Rattle.slot_table.specs.declared.records.Record.{Record}
use Rattle.program_order.specs.Access.{Makes, operated}
use Rattle.program_order.specs.Standing.{Setting, Standing, checks_of, counting, doing}
use Rattle.program_order.proofs.HeldLocks.{AreQuiet}

-- an operation did what comes of it
pub operated_did : (s : Setting) (a : access.Access) (operation : Option Operation) (records : List Record) (effect : Effect) (rest : List Record)
    → Operates (checks_of s) a operation records effect rest → (before : Standing)
    → (operated a operation before records effect rest).progress.did ≡ before.progress.did ++ moments_of a effect
operated_did s a None records effect rest h before =
    sym (append-nil before.progress.did) ∙ ap (λ (e : Effect). before.progress.did ++ moments_of a e) (sym h.0)
operated_did s a (Some operations.Load) records effect rest h before = refl
operated_did s a (Some (operations.Add amount)) records effect rest h before =
    append_assoc before.progress.did (read_moments a effect.read) (write_moments a effect.written)
operated_did s a (Some (operations.Change change)) records effect rest h before = refl

pub operated_registers : (a : access.Access) (operation : Option Operation) (before : Standing) (records : List Record) (effect : Effect) (rest : List Record)
    → (operated a operation before records effect rest).progress.registers ≡ before.progress.registers
operated_registers a None before records effect rest = refl
operated_registers a (Some operations.Load) before records effect rest = refl
operated_registers a (Some (operations.Add amount)) before records effect rest = refl
operated_registers a (Some (operations.Change change)) before records effect rest = refl

pub counting_progress : (ends_nothing : Bool) (before : Standing) → (counting ends_nothing before).progress ≡ before.progress
counting_progress true before = refl
counting_progress false before = refl

-- reads and writes are none of locks
pub quiet_append : (first second : List Happening) → AreQuiet first → AreQuiet second → AreQuiet (first ++ second)
quiet_append [] second p q = q
quiet_append (happening ∷ first) second p q = (p.0, quiet_append first second p.1 q)

quiet_read : (a : access.Access) (value : Option ℕ) → AreQuiet (read_moments a value)
quiet_read a None = tt
quiet_read a (Some value) = (tt, tt)

quiet_write : (a : access.Access) (value : Option ℕ) → AreQuiet (write_moments a value)
quiet_write a None = tt
quiet_write a (Some value) = (tt, tt)

pub effect_quiet : (a : access.Access) (effect : Effect) → AreQuiet (moments_of a effect)
effect_quiet a effect =
    quiet_append (read_moments a effect.read) (write_moments a effect.written) (quiet_read a effect.read) (quiet_write a effect.written)

-- what an access does, from its begin to its end
abbrev pub access_does : access.Access → Effect → List Happening
access_does a effect = happenings.Begin a ∷ (moments_of a effect ++ happenings.End a ∷ [])

pub access_quiet : (a : access.Access) (effect : Effect) → AreQuiet (access_does a effect)
access_quiet a effect = (tt, quiet_append (moments_of a effect) (happenings.End a ∷ []) (effect_quiet a effect) (tt, tt))

pub makes_did : (s : Setting) (a : access.Access) (operation : Option Operation) (effect : Effect) (before : Standing) (records : List Record) (after : Standing) (rest : List Record)
    → Makes s before a operation records effect after rest → after.progress.did ≡ before.progress.did ++ access_does a effect
makes_did s a operation effect before records after rest h =
    let did : List Happening = before.progress.did in
    let began : Standing = doing before (drop 1 records) (happenings.Begin a ∷ []) in
    let ended : List Happening = happenings.End a ∷ [] in
    ap (λ (st : Standing). st.progress.did) h.comes_to
    ∙ (ap (λ (d : List Happening). d ++ ended) (operated_did s a operation h.checked effect h.done h.operates began)
    ∙ (append_assoc (did ++ happenings.Begin a ∷ []) (moments_of a effect) ended
    ∙ append_assoc did (happenings.Begin a ∷ []) (moments_of a effect ++ ended)))

pub makes_registers : (s : Setting) (a : access.Access) (operation : Option Operation) (effect : Effect) (before : Standing) (records : List Record) (after : Standing) (rest : List Record)
    → Makes s before a operation records effect after rest → after.progress.registers ≡ before.progress.registers
makes_registers s a operation effect before records after rest h =
    ap (λ (st : Standing). st.progress.registers) h.comes_to
    ∙ operated_registers a operation (doing before (drop 1 records) (happenings.Begin a ∷ [])) h.checked effect h.done

pub progress_is : (p q : meaning.Progress) → p.did ≡ q.did → p.registers ≡ q.registers → p ≡ q
progress_is p q did registers =
    let with_did : p ≡ record { did = q.did; registers = p.registers } = ap (λ (d : List Happening). record { did = d; registers = p.registers }) did in
    let with_both : record { did = q.did; registers = p.registers } ≡ q = ap (λ (r : List ℕ). record { did = q.did; registers = r }) registers in
    with_did ∙ with_both
