-- One run more keeps what is told of those made before: each by a call of its own, no report before the last.
use Rattle.std.proofs.Common.{◌≤◌, ◌&&◌, Bor, ◌≡◌, ◌<◌, ◌⊎◌, ◌++◌, ◌∷◌, ◌==◌, ◌∙◌, [], suc}
use Rattle.std.proofs.Common.{All, List, OnOk, Option, None, Some, Bool, IfErr, IfOk, IfSome, Result, Ok, Err, Vec, ℕ, ap, ap₂, arith}
use Rattle.std.proofs.Common.{drop, false, is_some, length, not, refl, slice_get, slice_index_or, subst, sym, true, zero, ◌+◌, ◌*◌}
use Rattle.std.proofs.lemmas.List.{length-append}
use Rattle.std.proofs.lemmas.List.Elements.{All-append}
use Rattle.std.proofs.lemmas.List.Quantifiers.{all_pairs_push}
use Rattle.std.proofs.lemmas.Option.{slice_get-get_or}
use Rattle.std.specs.Global.{Global}
use Rattle.std.specs.Prelude.{IsErrAnd}
use Rattle.std.specs.Option.{option_copied, option_map}
use Rattle.access_types.specs.Sites.{AccessMap}
use Rattle.litmus_step.specs.Runs.{run_of}
use Rattle.prepared_program.specs.declared.program_sites.settings.Settings.{Settings}
use Rattle.litmus_syntax.specs.declared.program.Program.{Program}
use Rattle.prepared_program.specs.program_layout.Places.{AreFit}
use Rattle.run_stats.proofs.TallyLemmas.{some}
use Rattle.litmus_parse.specs.Read.{IsReadAs}
use Rattle.run_stats.specs.Errors.{IsRefused, Stops, StopsRun, is_counted}
use Rattle.run_output.specs.Traces.{IsToBeAccepted, IsTraceOf}
use Rattle.executions.specs.execution.Run as lists
use Rattle.executions.specs.execution.Execution.{AllHaveEnded, Execution}
use Rattle.runner.proofs.ColumnLemmas.{item_there}
use Rattle.runner.specs.Result.{AreResultsOf, IsOf, IsResultOf, IsRunOnce}
use Rattle.runner.specs.declared.run.RunIndex.{RunIndex}
use Rattle.slot_table.specs.declared.records.Record.{Record}
use Rattle.run_stats.specs.Output.{AreQuietBeforeLast, IsTraceOfLast, printed_in}
use Rattle.run_stats.specs.Runs.{AreMadeApart, AreNumberedFrom, ComeFrom, Comes, IsLast, IsNumbered, OneRun, StuckRun}
use Rattle.run_output.specs.declared.error.EngineError.{EngineError}
use Rattle.run_output.specs.declared.error.EngineError.TheVariants.{Run, SinkFailed, Text}
use Rattle.prepared_program.specs.program_sites.Errors.{IsOfPreparing}
use Rattle.runner.specs.TaskResult.{IsFailedWait, IsOfThreads, IsThrough}
use Rattle.prepared_program.specs.declared.program_sites.error.RunError.{RunError}
use Rattle.prepared_program.specs.declared.program_sites.error.RunError.TheVariants.{BadPlace, BadSchedule, BadSlots, NoThread, OutOfMemory, Stuck}
use Rattle.runner.specs.declared.result.RunResult.{RunResult}

-- there is a last run where there are runs
pub a_last_tells : {program : Program} {settings : Settings} (runs : List (OneRun program settings)) (last : Option RunResult)
    → IsLast runs last → is_some last ≡ not (length runs == 0)
a_last_tells {program} {settings} runs (Some result) is =
    sym (ap (λ (all : List (OneRun program settings)). not (length all == 0)) is.2
    ∙ some (length (is.0 ++ is.1 ∷ [])) (omega (arith, length-append is.0 (is.1 ∷ []))))
a_last_tells {program} {settings} runs None none = sym (ap (λ (all : List (OneRun program settings)). not (length all == 0)) none)

-- there are items or none, as it is told of their number
pub none_of : {X : Type 0} (xs : List X) → not (length xs == 0) ≡ false → xs ≡ []
none_of [] is = refl
none_of (x ∷ xs) is = absurd (let no : true ≡ false = sym (some (length (x ∷ xs)) (omega arith)) ∙ is in cc)

pub some_of : {X : Type 0} (xs : List X) → not (length xs == 0) ≡ true → xs ≡ [] → ⊥
some_of {X} xs is none = absurd (let no : false ≡ true = sym (ap (λ (ys : List X). not (length ys == 0)) none) ∙ is in cc)

empty_is_not : {X : Type 0} (xs : List X) (x : X) → [] ≡ xs ++ x ∷ [] → ⊥
empty_is_not xs x is = let long = ap length is in absurd (omega (arith, long, length-append xs (x ∷ [])))

-- what stands before the last of a list
same_before : {X : Type 0} (xs ys : List X) (x y : X) → xs ++ x ∷ [] ≡ ys ++ y ∷ [] → xs ≡ ys
same_before [] [] x y is = refl
same_before [] (z ∷ ys) x y is = let long = ap length is in absurd (omega (arith, long, length-append ys (y ∷ [])))
same_before (z ∷ xs) [] x y is = let long = ap length is in absurd (omega (arith, long, length-append xs (x ∷ [])))
same_before (a ∷ xs) (b ∷ ys) x y is =
    let first : a ≡ b = cc in
    let rest : xs ++ x ∷ [] ≡ ys ++ y ∷ [] = cc in
    ap₂ (λ z zs. z ∷ zs) first (same_before xs ys x y rest)

pub none_before_none : {program : Program} {settings : Settings} (unknown : Bool) (sites : AccessMap)
    → AreQuietBeforeLast {program = program} {settings = settings} unknown sites []
none_before_none unknown sites before last is = absurd (empty_is_not before last is)

-- after runs without a report that is printed comes one more
pub quiet_before : {program : Program} {settings : Settings} (unknown : Bool) (sites : AccessMap) (runs : List (OneRun program settings))
    (one : OneRun program settings) → printed_in unknown sites runs ≡ [] → AreQuietBeforeLast unknown sites (runs ++ one ∷ [])
quiet_before {program} {settings} unknown sites runs one none before last is =
    ap (λ (all : List (OneRun program settings)). printed_in unknown sites all) (sym (same_before runs before one last is)) ∙ none

-- a run of a number above those of all runs before it was made by a call of its own
pub more_apart : {program : Program} {settings : Settings} (runs : List (OneRun program settings)) (one : OneRun program settings)
    → (many : ℕ) → AreMadeApart runs → All (λ (before : OneRun program settings). before.result.number < many) runs → one.result.number ≡ many
    → AreMadeApart (runs ++ one ∷ [])
more_apart {program} {settings} runs one many apart below is =
    all_pairs_push (λ (before later : OneRun program settings). before.result.number < later.result.number) runs one apart
    (λ k d within. subst (λ (n : ℕ). (slice_index_or runs k d).result.number < n) (sym is) (below k d within))

-- what is below a number is below the next
pub still_below : {program : Program} {settings : Settings} (runs : List (OneRun program settings)) (many : ℕ)
    → All (λ (before : OneRun program settings). before.result.number < many) runs
    → All (λ (before : OneRun program settings). before.result.number < many + 1) runs
still_below runs many below at d within = let less = below at d within in omega (arith, less)

all_one : {X : Type 0} (P : X → Type 0) (x : X) → P x → All P (x ∷ [])
all_one P x p zero d below = p
all_one P x p (suc at) d below = absurd (omega (arith, below))

pub more_below : {program : Program} {settings : Settings} (runs : List (OneRun program settings)) (one : OneRun program settings)
    → (many : ℕ) → All (λ (before : OneRun program settings). before.result.number < many) runs → one.result.number ≡ many
    → All (λ (before : OneRun program settings). before.result.number < many + 1) (runs ++ one ∷ [])
more_below {program} {settings} runs one many below is =
    let P : OneRun program settings → Type 0 = λ before. before.result.number < many + 1 in
    All-append P runs (one ∷ []) (still_below runs many below) (all_one P one (omega (arith, is)))

-- behind the first of what came of runs from a number on is what came of those from the next on
pub numbered_rest : (from : ℕ) (outcomes : List (Result RunResult RunError)) → AreNumberedFrom from outcomes
    → AreNumberedFrom (from + 1) (drop 1 outcomes)
numbered_rest from [] each at d below = absurd (omega (arith, below))
numbered_rest from (x ∷ xs) each at d below =
    subst (λ (n : ℕ). IsNumbered n (slice_index_or xs at d)) (let n : from + suc at ≡ from + 1 + at = omega arith in n)
    (each (suc at) d (omega (arith, below)))

-- what holds of the items of a Vec, if there is one, holds of a list, if there is one
pub items_if_some : (P : List ℕ → Type 0) (bytes : Option (Vec ℕ Global)) → IfSome bytes (λ vec. P vec.items)
    → IfSome (option_map (λ vec. vec.items) bytes) P
items_if_some P None holds = tt
items_if_some P (Some vec) holds = holds

pub some_items : (bytes : Option (Vec ℕ Global)) → is_some (option_map (λ vec. vec.items) bytes) ≡ is_some bytes
some_items None = refl
some_items (Some vec) = refl

-- one fact of what a call answers follows from another
pub map_ok : {X E : Type 0} {P Q : X → Type 0} (result : Result X E) → ((x : X) → P x → Q x) → IfOk result P → IfOk result Q
map_ok (Ok x) each p = each x p
map_ok (Err e) each p = tt

-- why a run of a program that is made ready has no end
run_stops : (program : Program) (settings : Settings) (error : RunError) → IsOfThreads error
    → ((task : ℕ) → error ≡ Stuck task → (sites : AccessMap) × IsFailedWait (run_of program settings sites) task
    × ((below : ℕ) → below < task → IsThrough (run_of program settings sites) below))
    → StopsRun program settings error
run_stops program settings BadSlots of stuck = absurd of
run_stops program settings BadPlace of stuck = absurd of
run_stops program settings OutOfMemory of stuck = tt
run_stops program settings (Stuck task) of stuck =
    let it = stuck task refl in record { sites = it.0; failed = it.1; smallest = it.2 }
run_stops program settings BadSchedule of stuck = absurd of
run_stops program settings NoThread of stuck = tt

-- why a program can't be made ready
pub preparing_stops : (counted : Bool) (program : Program) (settings : Settings) (error : RunError) → IsOfPreparing error
    → (error ≡ BadSlots → (settings.slots < 3) ⊎ (1024 < settings.slots))
    → (error ≡ BadPlace → AreFit program.variables settings.places.items → ⊥)
    → Stops counted program settings (Run error)
preparing_stops counted program settings BadSlots of slots place = (slots refl, refl)
preparing_stops counted program settings BadPlace of slots place = (place refl, refl)
preparing_stops counted program settings OutOfMemory of slots place = (tt, refl)
preparing_stops counted program settings (Stuck task) of slots place = absurd of
preparing_stops counted program settings BadSchedule of slots place = absurd of
preparing_stops counted program settings NoThread of slots place = absurd of

-- what holds of an error holds of what it is answered in
pub err_holds : {X E : Type 0} (P : E → Type 0) (result : Result X E) (error : E) → IsErrAnd result (λ found. found ≡ error) → P error
    → IfErr result P
err_holds P (Ok x) error is holds = tt
err_holds P (Err found) error is holds = subst P (sym is) holds

-- what holds of each item holds of each behind the first
pub all_rest : {X : Type 0} (P : X → Type 0) (xs : List X) → All P xs → All P (drop 1 xs)
all_rest P [] each at d below = absurd (omega (arith, below))
all_rest P (x ∷ xs) each at d below = each (suc at) d (omega (arith, below))

pub on_ok : {X E P Q : Type 0} (result : Result X E) → (P → Q) → OnOk result P → OnOk result Q
on_ok (Ok x) f p = f p
on_ok (Err e) f p = tt

-- what comes of a run, by the clauses of its call
pub comes : (program : Program) (settings : Settings) (outcome : Result RunResult RunError) → IfOk outcome (IsRunOnce program settings)
    → IfErr outcome IsOfThreads
    → ((task : ℕ) → outcome ≡ Err (Stuck task) → (sites : AccessMap) × IsFailedWait (run_of program settings sites) task
    × ((below : ℕ) → below < task → IsThrough (run_of program settings sites) below))
    → Comes program settings outcome
comes program settings (Ok result) once of stuck = record { once = once; stops = tt }
comes program settings (Err error) once of stuck =
    record { once = tt; stops = run_stops program settings error of (λ task is. stuck task (ap (λ (e : RunError). Err e) is)) }

-- a stuck run names its task
pub stuck_of : (program : Program) (settings : Settings) (error : RunError) → is_counted true error ≡ true → StopsRun program settings error
    → StuckRun program settings
stuck_of program settings BadSlots is stops = absurd (let no : false ≡ true = is in cc)
stuck_of program settings BadPlace is stops = absurd (let no : false ≡ true = is in cc)
stuck_of program settings OutOfMemory is stops = absurd (let no : false ≡ true = is in cc)
stuck_of program settings (Stuck task) is stops = record { task = task; stuck = stops }
stuck_of program settings BadSchedule is stops = absurd (let no : false ≡ true = is in cc)
stuck_of program settings NoThread is stops = absurd (let no : false ≡ true = is in cc)

-- what is counted is a stuck run, and stuck runs are counted
pub counts : (counted : Bool) (error : RunError) → is_counted counted error ≡ true → (counted ≡ true) × (is_counted true error ≡ true)
counts counted BadSlots is = absurd (let no : false ≡ true = is in cc)
counts counted BadPlace is = absurd (let no : false ≡ true = is in cc)
counts counted OutOfMemory is = absurd (let no : false ≡ true = is in cc)
counts counted (Stuck task) is = (is, refl)
counts counted BadSchedule is = absurd (let no : false ≡ true = is in cc)
counts counted NoThread is = absurd (let no : false ≡ true = is in cc)

stays_uncounted : (counted : Bool) (error : RunError) → is_counted true error ≡ false → is_counted counted error ≡ false
stays_uncounted counted BadSlots is = refl
stays_uncounted counted BadPlace is = refl
stays_uncounted counted OutOfMemory is = refl
stays_uncounted counted (Stuck task) is = absurd (let no : true ≡ false = is in cc)
stays_uncounted counted BadSchedule is = refl
stays_uncounted counted NoThread is = refl

-- what stops runs where stuck ones are counted stops them anyhow
pub stops_anyhow : {X : Type 0} (counted : Bool) (program : Program) (settings : Settings) (result : Result X EngineError)
    → IfErr result (Stops true program settings) → IfErr result (Stops counted program settings)
stops_anyhow counted program settings (Ok x) stops = tt
stops_anyhow counted program settings (Err (Text error)) stops = stops
stops_anyhow counted program settings (Err (Run error)) stops = (stops.0, stays_uncounted counted error stops.1)
stops_anyhow counted program settings (Err SinkFailed) stops = stops

-- where the runs of a program stop, its text has no output
pub refused_of : {X : Type 0} (counted : Bool) (text : List ℕ) (program : Program) (settings : Settings) (result : Result X EngineError)
    → IsReadAs text program
    → IfErr result (Stops counted program settings) → IfErr result (IsRefused counted text settings)
refused_of counted text program settings (Ok x) read stops = tt
refused_of counted text program settings (Err (Text error)) read stops = absurd stops
refused_of counted text program settings (Err (Run error)) read stops = (program, read, stops.0, stops.1)
refused_of counted text program settings (Err SinkFailed) read stops = stops

-- what is lent is there where it is
pub lent_is_there : (lent : Option (Bor RunResult)) → is_some lent ≡ is_some (option_copied lent)
lent_is_there None = refl
lent_is_there (Some one) = refl

-- the trace of the run that is lent is that of the last
pub traces_last : {program : Program} {settings : Settings} (runs : List (OneRun program settings)) (lent : Option (Bor RunResult))
    (traced : Bool) (trace : Option (Vec ℕ Global)) → IsLast runs (option_copied lent) → settings.slots ≤ 1024
    → IfSome lent (λ one. (run : lists.Run) (records : List Record) → (comes : (list : Execution run records) × IsOf list one.now)
    → IfSome trace (λ bytes. IsTraceOf settings comes.0 one.now.reports.items bytes.items))
    → IfSome lent (λ one. (run : lists.Run) (records : List Record) → ((list : Execution run records) × IsOf list one.now)
    → AllHaveEnded run records → run.rules.slots ≡ settings.slots → run.rules.layout ≡ settings.layout → settings.slots ≤ 1024
    → IfSome trace (λ bytes. IsToBeAccepted bytes.items))
    → is_some trace ≡ (traced && is_some lent) → IfSome trace (λ bytes. IsTraceOfLast runs bytes.items)
traces_last runs lent traced None last few written accepted wanted = tt
traces_last runs None true (Some bytes) last few written accepted wanted = absurd (let no : true ≡ false = wanted in cc)
traces_last runs None false (Some bytes) last few written accepted wanted = absurd (let no : true ≡ false = wanted in cc)
traces_last {program} {settings} runs (Some one) traced (Some bytes) last few written accepted wanted =
    let once = last.1.once in
    let run = run_of program settings once.sites in
    let of : IsOf once.list one.now = subst (λ (result : RunResult). IsOf once.list result) last.3 once.is_of in
    record {
      before = last.0;
      last = last.1;
      runs_are = last.2;
      trace_is = subst (λ (result : RunResult). IsTraceOf settings once.list result.reports.items bytes.items) (sym last.3)
          (written run once.records (once.list, of));
      accepted = accepted run once.records (once.list, of) of.ended refl refl few;
    }

-- behind what came of runs from a number on stands what came of those from the next on
numbers_on : (from : ℕ) (xs ys : List (Result RunResult RunError)) → AreNumberedFrom from xs → AreNumberedFrom (from + length xs) ys
    → AreNumberedFrom from (xs ++ ys)
numbers_on from [] ys here there at d below =
    subst (λ (n : ℕ). IsNumbered n (slice_index_or ys at d)) (let n : from + 0 + at ≡ from + at = omega arith in n) (there at d below)
numbers_on from (x ∷ xs) ys here there zero d below = here zero d (omega arith)
numbers_on from (x ∷ xs) ys here there (suc at) d below =
    subst (λ (n : ℕ). IsNumbered n (slice_index_or (xs ++ ys) at d)) (let n : from + 1 + at ≡ from + suc at = omega arith in n)
    (numbers_on (from + 1) xs ys
    (λ k e less. subst (λ (n : ℕ). IsNumbered n (slice_index_or xs k e)) (let n : from + suc k ≡ from + 1 + k = omega arith in n)
    (here (suc k) e (omega (arith, less))))
    (λ k e less. subst (λ (n : ℕ). IsNumbered n (slice_index_or ys k e)) (let n : from + suc (length xs) + k ≡ from + 1 + length xs + k = omega arith in n)
    (there k e less)) at d (omega (arith, below)))

pub come_on : (program : Program) (settings : Settings) (from many more : ℕ) (xs ys : List (Result RunResult RunError))
    → ComeFrom program settings from many xs → ComeFrom program settings (from + many) more ys
    → ComeFrom program settings from (many + more) (xs ++ ys)
come_on program settings from many more xs ys here there = record {
  many_are = let long = length-append xs ys in omega (arith, long, here.many_are, there.many_are);
  each = All-append (Comes program settings) xs ys here.each there.each;
  numbers = numbers_on from xs ys here.numbers
      (subst (λ (n : ℕ). AreNumberedFrom (from + n) ys) (sym here.many_are) there.numbers);
}

-- what comes of the turns of a batch comes of runs under their numbers
pub come_of : (program : Program) (settings : Settings) (from many : ℕ) (turns : List RunIndex) (outcomes : List (Result RunResult RunError))
    → length turns ≡ many → ((at : ℕ) (turn : RunIndex) → slice_get turns at ≡ Some turn → turn.number ≡ from + at)
    → AreResultsOf program settings turns outcomes → ComeFrom program settings from many outcomes
come_of program settings from many turns outcomes count numbered are = record {
  many_are = are.many ∙ count;
  each = λ at d below.
      let it = result_at at d below in
      comes program settings (slice_index_or outcomes at d) it.1.once it.1.errors it.1.stuck;
  numbers = λ at d below.
      let it = result_at at d below in
      subst (λ (n : ℕ). IsNumbered n (slice_index_or outcomes at d)) (numbered at it.0 it.2) it.1.number;
}
  where
    result_at : (at : ℕ) (d : Result RunResult RunError) → at < length outcomes
        → (turn : RunIndex) × IsResultOf program settings turn (slice_index_or outcomes at d) × (slice_get turns at ≡ Some turn)
    result_at at d below =
        let turn = item_there turns at (omega (arith, below, are.many)) in
        (turn.0, are.each at turn.0 (slice_index_or outcomes at d) turn.1 (slice_get-get_or outcomes at d below), turn.1)

-- nothing comes of no run
pub none_come_of : (program : Program) (settings : Settings) (from many : ℕ) (outcomes : List (Result RunResult RunError)) → outcomes ≡ []
    → ComeFrom program settings from (0 * many) outcomes
none_come_of program settings from many outcomes none =
    let no : length outcomes ≡ 0 = ap length none in
    record {
      many_are = omega (arith, no);
      each = λ at d below. absurd (omega (arith, below, no));
      numbers = λ at d below. absurd (omega (arith, below, no));
    }
