-- What holds where a command succeeds, and with which status it ends where it fails.
use Rattle.std.proofs.Common.{◌<◌, Bool, ap, ◌≤◌, ◌⊎◌, arith, inl, inr, ◌≡◌, ◌∙◌, ℕ, List, Option, None, Some, Result, Ok, Err, IfOk, IfErr, IfSome, MatchResult, is_some}
use Rattle.std.proofs.Common.{refl, subst, sym, Vec}
use Rattle.std.specs.Global.{Global}
use Rattle.std.specs.Prelude.{IsErrAnd}
use Rattle.file_commands.specs.Statuses.{engine_status_of, run_status_of, status_of, text_status_of, trace_status_of, picture_status_of}
use Rattle.litmus_command.specs.Command.{SpellsNone}
use Rattle.file_commands.specs.declared.failure.Failure.{Failure}
use Rattle.file_commands.specs.declared.failure.Failure.TheVariants as failure
use Rattle.run_output.specs.declared.error.EngineError.{EngineError}
use Rattle.run_output.specs.declared.error.EngineError.TheVariants as engine
use Rattle.std.specs.Option.{option_map}
use Rattle.prepared_program.specs.declared.program_sites.error.RunError.{RunError}
use Rattle.litmus_syntax.specs.declared.error.ParseError.{ParseError}
use Rattle.litmus_syntax.specs.declared.error.ParseError.TheVariants as parse
use Rattle.prepared_program.specs.declared.program_sites.error.RunError.TheVariants as run
use Rattle.trace_replay.specs.declared.accepted.TraceError.{TraceError}
use Rattle.trace_replay.specs.declared.accepted.TraceError.TheVariants as trace
use Rattle.timeline.specs.declared.picture.error.PictureError.{PictureError}
use Rattle.timeline.specs.declared.picture.error.PictureError.TheVariants as picture
use Rattle.litmus_command.specs.Engine.{IsRefused, Stops, StopsReady, StopsRun}
use Rattle.litmus_command.specs.Show.{IsNoPicture, IsNoText, IsNotDrawn, IsUnsuited}
use Rattle.timeline.specs.declared.picture.draw.Picture.{Picture}
use Rattle.run_stats.specs.Errors as tally
use Rattle.search_output.specs.Texts as search
use Rattle.litmus_command.specs.Command.{StatusComplaint}
use Rattle.file_commands.specs.StandardError.{heard}
use Rattle.file_commands.specs.declared.complaint.Complaint.{Complaint}
use Rattle.file_commands.specs.declared.complaint.Complaint.TheVariants as complaint
use Rattle.run_stats.specs.Errors.{IsNotRead}
use Rattle.litmus_parse.specs.Read.{IsReadAs}
use Rattle.litmus_syntax.specs.declared.program.Program.{Program}
use Rattle.prepared_program.specs.program_layout.Places.{AreFit}
use Rattle.prepared_program.specs.program_sites.Errors.{IsOfPreparing}
use Rattle.prepared_program.specs.declared.program_sites.settings.Settings.{Settings}
use Rattle.prepared_program.specs.declared.step_schedule.schedule.Entry.{Entry}

-- a status that a failure can end with
abbrev pub IsKnown : ℕ → Type 0
IsKnown status = ((64 ≤ status) × (status ≤ 66)) ⊎ ((status ≡ 70) ⊎ ((status ≡ 71) ⊎ (status ≡ 74)))

-- four facts of what a call answers are one
pub all_ok : {X E : Type 0} {P Q R S T : X → Type 0} (result : Result X E) → ((x : X) → P x → Q x → R x → S x → T x)
    → IfOk result P → IfOk result Q → IfOk result R → IfOk result S → IfOk result T
all_ok (Ok x) all p q r s = all x p q r s
all_ok (Err e) all p q r s = tt

-- one fact of what a call answers follows from another
pub map_ok : {X E : Type 0} {P Q : X → Type 0} (result : Result X E) → ((x : X) → P x → Q x) → IfOk result P → IfOk result Q
map_ok (Ok x) each p = each x p
map_ok (Err e) each p = tt

-- and of its error
pub map_err : {X E : Type 0} {P Q : E → Type 0} (result : Result X E) → ((e : E) → P e → Q e) → IfErr result P → IfErr result Q
map_err (Ok x) each p = tt
map_err (Err e) each p = each e p

-- what holds of the items of a Vec, if there is one, holds of a list, if there is one
pub items_if_some : (P : List ℕ → Type 0) (bytes : Option (Vec ℕ Global)) → IfSome bytes (λ vec. P vec.items)
    → IfSome (option_map (λ vec. vec.items) bytes) P
items_if_some P None holds = tt
items_if_some P (Some vec) holds = holds

-- there is a list where there is a Vec
pub some_items : (bytes : Option (Vec ℕ Global)) → is_some (option_map (λ vec. vec.items) bytes) ≡ is_some bytes
some_items None = refl
some_items (Some vec) = refl

-- what is answered is no error
pub no_error : {X E : Type 0} (result : Result X E) (x : X) (e : E) → result ≡ Ok x → result ≡ Err e → ⊥
no_error {X} {E} result x e is bad =
    subst (λ (r : Result X E). MatchResult r (λ _. Unit {0}) (λ _. ⊥)) (sym is ∙ bad) tt

-- the error that a call answers is another
apart : {X : Type 0} (result : Result X RunError) (one other : RunError) → result ≡ Err one → result ≡ Err other → one ≡ other
apart result one other is_one is_other = cc

stuck_is_no_schedule : (task : ℕ) → run.Stuck task ≡ run.BadSchedule → ⊥
stuck_is_no_schedule task same = absurd (cc)

pub stuck_is_other : {X : Type 0} (result : Result X RunError) (task : ℕ) → result ≡ Err (run.Stuck task) → result ≡ Err run.BadSchedule → ⊥
stuck_is_other result task is bad = stuck_is_no_schedule task (apart result (run.Stuck task) run.BadSchedule is bad)

-- what holds of an error holds of what is answered with it
pub err_holds : {X E : Type 0} (P : E → Type 0) (result : Result X E) (error : E) → IsErrAnd result (λ found. found ≡ error) → P error
    → IfErr result P
err_holds P (Ok x) error is holds = tt
err_holds P (Err found) error is holds = subst P (sym is) holds

text_is_no_sink : (error : ParseError) → text_status_of error ≡ 74 → ⊥
text_is_no_sink parse.OutOfMemory is = omega (arith, is)
text_is_no_sink (parse.Syntax line) is = omega (arith, is)
text_is_no_sink (parse.Unsupported line) is = omega (arith, is)
text_is_no_sink (parse.Limit limit) is = omega (arith, is)
text_is_no_sink parse.NotAscii is = omega (arith, is)

run_is_no_sink : (error : RunError) → run_status_of error ≡ 74 → ⊥
run_is_no_sink run.BadSlots is = omega (arith, is)
run_is_no_sink run.BadPlace is = omega (arith, is)
run_is_no_sink run.OutOfMemory is = omega (arith, is)
run_is_no_sink (run.Stuck task) is = omega (arith, is)
run_is_no_sink run.BadSchedule is = omega (arith, is)
run_is_no_sink run.NoThread is = omega (arith, is)

run_is_no_text : (error : RunError) → run_status_of error ≡ 65 → ⊥
run_is_no_text run.BadSlots is = omega (arith, is)
run_is_no_text run.BadPlace is = omega (arith, is)
run_is_no_text run.OutOfMemory is = omega (arith, is)
run_is_no_text (run.Stuck task) is = omega (arith, is)
run_is_no_text run.BadSchedule is = omega (arith, is)
run_is_no_text run.NoThread is = omega (arith, is)

-- a text that is refused spells no program
unread_spells_none : (text : List ℕ) (error : ParseError) → IsNotRead text error → text_status_of error ≡ 65 → SpellsNone text
unread_spells_none text error unread is program spells =
    let memory : text_status_of error ≡ 71 = ap text_status_of (unread program spells) in
    omega (arith, is, memory)

pub spells_none : (text : List ℕ) (settings : Settings) (entries : List Entry) (error : EngineError)
    → IsRefused text settings entries error → engine_status_of error ≡ 65 → SpellsNone text
spells_none text settings entries (engine.Text error) refused is = unread_spells_none text error refused is
spells_none text settings entries (engine.Run error) refused is = absurd (run_is_no_text error is)
spells_none text settings entries engine.SinkFailed refused is = absurd refused

pub spells_none_often : (counted : Bool) (text : List ℕ) (settings : Settings) (error : EngineError)
    → tally.IsRefused counted text settings error → engine_status_of error ≡ 65 → SpellsNone text
spells_none_often counted text settings (engine.Text error) refused is = unread_spells_none text error refused is
spells_none_often counted text settings (engine.Run error) refused is = absurd (run_is_no_text error is)
spells_none_often counted text settings engine.SinkFailed refused is = absurd refused

pub spells_none_searched : (text : List ℕ) (settings : Settings) (error : EngineError)
    → search.IsRefused text settings error → engine_status_of error ≡ 65 → SpellsNone text
spells_none_searched text settings (engine.Text error) refused is = unread_spells_none text error refused is
spells_none_searched text settings (engine.Run error) refused is = absurd (run_is_no_text error is)
spells_none_searched text settings engine.SinkFailed refused is = absurd refused

-- where no sink failed the status is not that of one
pub writes_no_sink : (error : EngineError) → (error ≡ engine.SinkFailed → ⊥) → engine_status_of error ≡ 74 → ⊥
writes_no_sink (engine.Text error) other is = text_is_no_sink error is
writes_no_sink (engine.Run error) other is = run_is_no_sink error is
writes_no_sink engine.SinkFailed other is = other refl

-- nor that of a file that can't be read
text_is_no_read : (error : ParseError) → text_status_of error ≡ 66 → ⊥
text_is_no_read parse.OutOfMemory is = omega (arith, is)
text_is_no_read (parse.Syntax line) is = omega (arith, is)
text_is_no_read (parse.Unsupported line) is = omega (arith, is)
text_is_no_read (parse.Limit limit) is = omega (arith, is)
text_is_no_read parse.NotAscii is = omega (arith, is)

run_is_no_read : (error : RunError) → run_status_of error ≡ 66 → ⊥
run_is_no_read run.BadSlots is = omega (arith, is)
run_is_no_read run.BadPlace is = omega (arith, is)
run_is_no_read run.OutOfMemory is = omega (arith, is)
run_is_no_read (run.Stuck task) is = omega (arith, is)
run_is_no_read run.BadSchedule is = omega (arith, is)
run_is_no_read run.NoThread is = omega (arith, is)

pub engine_no_read : (error : EngineError) → engine_status_of error ≡ 66 → ⊥
engine_no_read (engine.Text error) is = text_is_no_read error is
engine_no_read (engine.Run error) is = run_is_no_read error is
engine_no_read engine.SinkFailed is = omega (arith, is)

-- a failure ends with one of these statuses
text_known : (error : ParseError) → IsKnown (text_status_of error)
text_known parse.OutOfMemory = inr (inr (inl refl))
text_known (parse.Syntax line) = inl (omega arith, omega arith)
text_known (parse.Unsupported line) = inl (omega arith, omega arith)
text_known (parse.Limit limit) = inl (omega arith, omega arith)
text_known parse.NotAscii = inl (omega arith, omega arith)

run_known : (error : RunError) → IsKnown (run_status_of error)
run_known run.BadSlots = inl (omega arith, omega arith)
run_known run.BadPlace = inl (omega arith, omega arith)
run_known run.OutOfMemory = inr (inr (inl refl))
run_known (run.Stuck task) = inr (inl refl)
run_known run.BadSchedule = inl (omega arith, omega arith)
run_known run.NoThread = inr (inr (inl refl))

engine_known : (error : EngineError) → IsKnown (engine_status_of error)
engine_known (engine.Text error) = text_known error
engine_known (engine.Run error) = run_known error
engine_known engine.SinkFailed = inr (inr (inr refl))

trace_known : (error : TraceError) → IsKnown (trace_status_of error)
trace_known trace.OutOfMemory = inr (inr (inl refl))
trace_known (trace.BadTrace line) = inl (omega arith, omega arith)
trace_known (trace.FalseReport line) = inl (omega arith, omega arith)

pub failures_are_known : (failure : Failure) → IsKnown (status_of failure)
failures_are_known failure.BadSchedule = inl (omega arith, omega arith)
failures_are_known failure.BadPlace = inl (omega arith, omega arith)
failures_are_known failure.CannotRead = inl (omega arith, omega arith)
failures_are_known failure.CannotWrite = inr (inr (inr refl))
failures_are_known failure.OutOfMemory = inr (inr (inl refl))
failures_are_known (failure.Engine error) = engine_known error
failures_are_known (failure.Trace error) = trace_known error
failures_are_known (failure.Picture (picture.Trace error)) = trace_known error
failures_are_known (failure.Picture picture.TooLong) = inl (omega arith, omega arith)
failures_are_known failure.OtherSource = inl (omega arith, omega arith)

-- which is neither 0 nor 2
pub known_above : (status : ℕ) → IsKnown status → 64 ≤ status
known_above status (inl few) = few.0
known_above status (inr (inl is)) = omega (arith, is)
known_above status (inr (inr (inl is))) = omega (arith, is)
known_above status (inr (inr (inr is))) = omega (arith, is)

pub known_so : (status : ℕ) → IsKnown status → (status ≡ 0) ⊎ (status ≡ 2) ⊎ ((64 ≤ status) × (status ≤ 66))
    ⊎ (status ≡ 70) ⊎ (status ≡ 71) ⊎ (status ≡ 74) ⊎ (status ≡ 75)
known_so status (inl few) = inr (inr (inl few))
known_so status (inr (inl is)) = inr (inr (inr (inl is)))
known_so status (inr (inr (inl is))) = inr (inr (inr (inr (inl is))))
known_so status (inr (inr (inr is))) = inr (inr (inr (inr (inr (inl is)))))

-- nor 75
pub known_below : (status : ℕ) → IsKnown status → status ≤ 74
known_below status (inl few) = let up = few.1 in omega (arith, up)
known_below status (inr (inl is)) = omega (arith, is)
known_below status (inr (inr (inl is))) = omega (arith, is)
known_below status (inr (inr (inr is))) = omega (arith, is)

-- what standard error is told where there is a failure, of which nothing was told before
pub tells_so : (failure : Failure) (status : ℕ) (before middle : Option (List Complaint)) → IsKnown status → status_of failure ≡ status
    → middle ≡ before → StatusComplaint status before (heard middle (complaint.Failure failure))
tells_so failure status before middle known is same = record {
  quiet = λ low. let above = known_above status known in absurd (omega (arith, low, above));
  stopped = λ stops. let below = known_below status known in absurd (omega (arith, stops, below));
  told = λ from to. (complaint.Failure failure, is, tt, ap (λ (all : Option (List Complaint)). heard all (complaint.Failure failure)) same);
}

-- why a program can't be made ready
pub preparing_stops : (program : Program) (settings : Settings) (entries : List Entry) (error : RunError) → IsOfPreparing error
    → (error ≡ run.BadSlots → (settings.slots < 3) ⊎ (1024 < settings.slots))
    → (error ≡ run.BadPlace → AreFit program.variables settings.places.items → ⊥) → StopsRun program settings entries error
preparing_stops program settings entries run.BadSlots of slots place = slots refl
preparing_stops program settings entries run.BadPlace of slots place = place refl
preparing_stops program settings entries run.OutOfMemory of slots place = tt
preparing_stops program settings entries (run.Stuck task) of slots place = absurd of
preparing_stops program settings entries run.BadSchedule of slots place = absurd of
preparing_stops program settings entries run.NoThread of slots place = absurd of

-- what stops a program that is made ready stops it
pub ready_stops : (program : Program) (settings : Settings) (entries : List Entry) (error : EngineError)
    → StopsReady program settings entries error → Stops program settings entries error
ready_stops program settings entries (engine.Text error) stops = absurd stops
ready_stops program settings entries (engine.Run run.BadSlots) stops = absurd stops
ready_stops program settings entries (engine.Run run.BadPlace) stops = absurd stops
ready_stops program settings entries (engine.Run run.OutOfMemory) stops = tt
ready_stops program settings entries (engine.Run (run.Stuck task)) stops = stops
ready_stops program settings entries (engine.Run run.BadSchedule) stops = stops
ready_stops program settings entries (engine.Run run.NoThread) stops = absurd stops
ready_stops program settings entries engine.SinkFailed stops = absurd stops

-- where the run of a program has no output, its text has none
pub refused_of : {X : Type 0} (text : List ℕ) (program : Program) (settings : Settings) (entries : List Entry) (result : Result X EngineError)
    → IsReadAs text program → IfErr result (Stops program settings entries) → IfErr result (IsRefused text settings entries)
refused_of text program settings entries (Ok x) read stops = tt
refused_of text program settings entries (Err (engine.Text error)) read stops = absurd stops
refused_of text program settings entries (Err (engine.Run error)) read stops = (program, read, stops)
refused_of text program settings entries (Err engine.SinkFailed) read stops = stops

-- and that is not for a sink
pub no_sink_stops : {X : Type 0} (program : Program) (settings : Settings) (entries : List Entry) (result : Result X EngineError)
    → IfErr result (Stops program settings entries) → result ≡ Err engine.SinkFailed → ⊥
no_sink_stops {X} program settings entries result stops is =
    subst (λ (r : Result X EngineError). IfErr r (Stops program settings entries)) is stops

-- no trace is refused for want of a sink, nor for a file that can't be read
pub replays_no_sink : (error : TraceError) → trace_status_of error ≡ 74 → ⊥
replays_no_sink trace.OutOfMemory is = omega (arith, is)
replays_no_sink (trace.BadTrace line) is = omega (arith, is)
replays_no_sink (trace.FalseReport line) is = omega (arith, is)

pub replays_no_read : (error : TraceError) → trace_status_of error ≡ 66 → ⊥
replays_no_read trace.OutOfMemory is = omega (arith, is)
replays_no_read (trace.BadTrace line) is = omega (arith, is)
replays_no_read (trace.FalseReport line) is = omega (arith, is)

pub draws_no_sink : (error : PictureError) → picture_status_of error ≡ 74 → ⊥
draws_no_sink (picture.Trace error) is = replays_no_sink error is
draws_no_sink picture.TooLong is = omega (arith, is)

pub draws_no_read : (error : PictureError) → picture_status_of error ≡ 66 → ⊥
draws_no_read (picture.Trace error) is = replays_no_read error is
draws_no_read picture.TooLong is = omega (arith, is)

-- so it is where a litmus text doesn't suit the trace
no_text_no_sink : (source : List ℕ) (error : EngineError) → IsNoText source error → engine_status_of error ≡ 74 → ⊥
no_text_no_sink source (engine.Text error) reason is = text_is_no_sink error is
no_text_no_sink source (engine.Run error) reason is = reason
no_text_no_sink source engine.SinkFailed reason is = reason

no_text_no_read : (source : List ℕ) (error : EngineError) → IsNoText source error → engine_status_of error ≡ 66 → ⊥
no_text_no_read source (engine.Text error) reason is = text_is_no_read error is
no_text_no_read source (engine.Run error) reason is = reason
no_text_no_read source engine.SinkFailed reason is = reason

unsuited_no_sink : (source : List ℕ) (drawn : Picture) (why : Failure) → IsUnsuited source drawn why → status_of why ≡ 74 → ⊥
unsuited_no_sink source drawn failure.BadSchedule reason is = reason
unsuited_no_sink source drawn failure.BadPlace reason is = reason
unsuited_no_sink source drawn failure.CannotRead reason is = reason
unsuited_no_sink source drawn failure.CannotWrite reason is = reason
unsuited_no_sink source drawn failure.OutOfMemory reason is = omega (arith, is)
unsuited_no_sink source drawn (failure.Engine error) reason is = no_text_no_sink source error reason is
unsuited_no_sink source drawn (failure.Trace error) reason is = reason
unsuited_no_sink source drawn (failure.Picture error) reason is = reason
unsuited_no_sink source drawn failure.OtherSource reason is = omega (arith, is)

unsuited_no_read : (source : List ℕ) (drawn : Picture) (why : Failure) → IsUnsuited source drawn why → status_of why ≡ 66 → ⊥
unsuited_no_read source drawn failure.BadSchedule reason is = reason
unsuited_no_read source drawn failure.BadPlace reason is = reason
unsuited_no_read source drawn failure.CannotRead reason is = reason
unsuited_no_read source drawn failure.CannotWrite reason is = reason
unsuited_no_read source drawn failure.OutOfMemory reason is = omega (arith, is)
unsuited_no_read source drawn (failure.Engine error) reason is = no_text_no_read source error reason is
unsuited_no_read source drawn (failure.Trace error) reason is = reason
unsuited_no_read source drawn (failure.Picture error) reason is = reason
unsuited_no_read source drawn failure.OtherSource reason is = omega (arith, is)

no_picture_no_sink : (bytes : List ℕ) (why : Failure) → IsNoPicture bytes why → status_of why ≡ 74 → ⊥
no_picture_no_sink bytes why reason is = draws_no_sink reason.error (sym (ap status_of reason.failure_is) ∙ is)

no_picture_no_read : (bytes : List ℕ) (why : Failure) → IsNoPicture bytes why → status_of why ≡ 66 → ⊥
no_picture_no_read bytes why reason is = draws_no_read reason.error (sym (ap status_of reason.failure_is) ∙ is)

pub shows_no_sink : (bytes : List ℕ) (source : Option (List ℕ)) (why : Failure) → IsNotDrawn bytes source why → status_of why ≡ 74 → ⊥
shows_no_sink bytes None why reason is = no_picture_no_sink bytes why reason is
shows_no_sink bytes (Some source) why (inl reason) is = no_picture_no_sink bytes why reason is
shows_no_sink bytes (Some source) why (inr reason) is = unsuited_no_sink source reason.picture why reason.unsuited is

pub shows_no_read : (bytes : List ℕ) (source : Option (List ℕ)) (why : Failure) → IsNotDrawn bytes source why → status_of why ≡ 66 → ⊥
shows_no_read bytes None why reason is = no_picture_no_read bytes why reason is
shows_no_read bytes (Some source) why (inl reason) is = no_picture_no_read bytes why reason is
shows_no_read bytes (Some source) why (inr reason) is = unsuited_no_read source reason.picture why reason.unsuited is
