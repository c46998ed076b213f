-- Whatever a checker has left can be completed, by the answers that end it soonest.
use Rattle.std.proofs.Common.{◌≡◌, ◌+◌, ◌++◌, ◌∷◌, [], ◌||◌, ℕ, Bool, true, false, MatchBool, List, Option, None, Some, drop, inl, inr, lit<, refl}
use Rattle.access_types.specs.Access.{Access}
use Rattle.access_types.specs.Ticket.{ticket_number}
use Rattle.setup_access.specs.Check.{Check, ChecksAll, ChecksOnce, ChecksStamped, Close, Ends, NoneFound, Pass, Passes, Rechecks, asked_silenced, counts_as_marked, fallen_of, left_to_check, skipped, unencodable, watched}
use Rattle.setup_access.specs.Checker.{Does, Doing, RoleLeft, StageLeft}
use Rattle.setup_access.specs.Fallen.{followed}
use Rattle.setup_access.specs.Find.{LooksUp}
use Rattle.setup_access.specs.Found.{TellsTo}
use Rattle.setup_access.specs.Leads.{Leads}
use Rattle.setup_access.specs.OwnAccesses.{AreOwn, IsOwn}
use Rattle.setup_access.specs.PassLeft.{Given, PassLeft, given_of, nothing_given}
use Rattle.setup_access.specs.Parts.{FoundLeft, SetupLeft, left_to_look, left_to_try, made}
use Rattle.setup_access.specs.Setting.{Setting, look_order, slot_of, try_order}
use Rattle.setup_access.specs.Setup.{Frees, Judged, Judges, JudgesHit, TriesInsert, Watches}
use Rattle.setup_access.specs.Values.{LoadsFrom, both_values, source_of, value_in}
use Rattle.setup_access.specs.declared.begun.Begun.{Begun}
use Rattle.setup_access.specs.declared.checker.Checker.{Checker}
use Rattle.setup_access.specs.declared.found.Found.{Found}
use Rattle.setup_access.specs.declared.found.Found.TheVariants as founds
use Rattle.setup_access.specs.declared.outcome.Outcome.{Outcome}
use Rattle.setup_access.specs.declared.outcome.Outcome.TheVariants.{Capacity, Lost, Nothing, Told, Unencodable}
use Rattle.setup_access.specs.declared.pass.Pass as code
use Rattle.setup_access.specs.declared.pass.Pass.TheVariants as passes
use Rattle.setup_access.specs.declared.setup.Setup.{Setup}
use Rattle.setup_access.specs.declared.setup.Setup.TheVariants as setups
use Rattle.setup_access.specs.declared.source.Source.{Source}
use Rattle.setup_access.specs.declared.stage.Role.{Role}
use Rattle.setup_access.specs.declared.stage.Role.TheVariants as roles
use Rattle.setup_access.specs.declared.stage.CheckStage.{CheckStage}
use Rattle.setup_access.specs.declared.stage.CheckStage.TheVariants as stages
use Rattle.slot.specs.Pair.{Halves}
use Rattle.slot_table.specs.declared.records.Record.{Record}
use Rattle.slot_table.specs.declared.step.Answer.TheVariants as answers
use Rattle.slot_table.specs.declared.step.Step.TheVariants as steps
use Rattle.watch_word.specs.Word.{word_of}
use Rattle.access_run.proofs.Decisions.{encodable_or_not, some_hit, some_untouched, watched_or_not, zero_misses}

-- a look-up that finds nothing
missed : (s : Setting) (a : Access) (indices : List ℕ) (rest : List Record) → (records : List Record) × LooksUp s a indices records None rest
missed s a [] rest = (rest, (refl, refl))
missed s a (index ∷ indices) rest =
    let more = missed s a indices rest in
    (made s.task (steps.Load index) (answers.Word 0) ∷ more.0, (refl, refl, inr (zero_misses s.rules.layout a, more.1)))

-- an insertion that is refused everywhere
refused : (task word : ℕ) (indices : List ℕ) (rest : List Record) → (records : List Record) × TriesInsert task word indices records None rest
refused task word [] rest = (rest, (refl, refl))
refused task word (index ∷ indices) rest =
    let more = refused task word indices rest in (made task (steps.Insert index word) (answers.Flag false) ∷ more.0, (refl, refl, more.1))

module _ (s : Setting) (a : Access) where
  -- the value of a word that is 0, where there is one
  abbrev zero_value : Option Source → Option ℕ
  zero_value None = None
  zero_value (Some source) = Some (value_in a source 0)

  loaded : (source : Option Source) (rest : List Record) → (records : List Record) × LoadsFrom s a source records (zero_value source) rest
  loaded None rest = (rest, (refl, refl))
  loaded (Some source) rest = (made s.task (steps.CellLoad source.cell) (answers.Word 0) ∷ rest, (refl, refl, (refl, refl)))

  -- a watch that nobody hits
  judged : (index : ℕ) (values : Option (ℕ × ℕ)) → (outcome : Outcome) × ((rest : List Record) → (records : List Record) × Judges s a index values records outcome rest)
  judged index values =
      let verdict = some_untouched s a values in
      (verdict.0, λ rest. (made s.task (steps.Consume index) (answers.Flag true) ∷ rest, (refl, refl, (verdict.1, refl))))

  -- one that was hit, whose finder tells at once
  judged_hit : (index : ℕ) (values : Option (ℕ × ℕ)) → (outcome : Outcome) × ((rest : List Record) → (records : List Record) × JudgesHit s a index values records outcome rest)
  judged_hit index values =
      let both : Halves = record { setter = 1; finder = 1 } in
      let verdict = some_hit s a values both in (
        verdict.0,
        λ rest. (made s.task (steps.PairLoad index) (answers.Halves 1 1) ∷ rest, (both, (refl, refl, inl (lit< tt, refl, refl)), verdict.1)),
      )

  watches : (index : ℕ) → (outcome : Outcome) × ((rest : List Record) → (records : List Record) × Watches s a index records outcome rest)
  watches index =
      let source = source_of s a in
      let value = zero_value source in
      let verdict = judged index (both_values value value) in (
        verdict.0,
        λ rest.
            let last = verdict.1 rest in
            let second = loaded source last.0 in
            let first = loaded source second.0 in
            (first.0, (value, value, second.0, last.0, first.1, second.1, last.1)),
      )

  at_index : ℕ → Outcome → Option Judged
  at_index index outcome = Some (record { index = index; outcome = outcome })

  -- what a setter has left, up to its verdict
  setup_ends : (setup : Setup) → (over : Option Judged) × ((rest : List Record) → (records : List Record) × SetupLeft s a setup records over rest)
  unfolding at_index
  setup_ends (setups.Insert place word) =
      (None, λ rest. let tries = refused s.task word (left_to_try place (slot_of s a)) rest in (tries.0, (None, rest, tries.1, (refl, refl))))
  setup_ends (setups.Name index) =
      let verdict = watches index in (
        at_index index verdict.0,
        λ rest.
            let watch = verdict.1 rest in
            (made s.task (steps.Name index (ticket_number a)) answers.Done ∷ watch.0, (verdict.0, (refl, refl, (refl, watch.1)), refl)),
      )
  setup_ends (setups.LoadOld index source) =
      let value = zero_value (Some source) in
      let verdict = judged index (both_values value value) in (
        at_index index verdict.0,
        λ rest.
            let last = verdict.1 rest in
            let second = loaded (Some source) last.0 in
            let first = loaded (Some source) second.0 in
            (first.0, (verdict.0, (value, value, second.0, last.0, first.1, second.1, last.1), refl)),
      )
  setup_ends (setups.LoadNew index source old) =
      let value = zero_value (Some source) in
      let verdict = judged index (both_values (Some old) value) in (
        at_index index verdict.0,
        λ rest.
            let last = verdict.1 rest in
            let second = loaded (Some source) last.0 in
            (second.0, (verdict.0, (value, last.0, second.1, last.1), refl)),
      )
  setup_ends (setups.Consume index values) =
      let verdict = judged index values in
      (at_index index verdict.0, λ rest. let last = verdict.1 rest in (last.0, (verdict.0, last.1, refl)))
  setup_ends (setups.HearFinder index values tries) =
      let verdict = judged_hit index values in
      (at_index index verdict.0, λ rest. let last = verdict.1 rest in (last.0, (verdict.0, last.1, refl)))

  -- what a finder has left
  tells : (index setter : ℕ) (rest : List Record)
      → (records : List Record) × TellsTo s a index setter records (Told (record { setter = setter; finder = ticket_number a })) rest
  tells index setter rest = (made s.task (steps.Tell index (ticket_number a)) answers.Done ∷ rest, (refl, refl, (refl, (refl, refl))))

  found_ends : (found : Found) (rest : List Record) → (records : List Record) × (outcome : Outcome) × FoundLeft s a found records outcome rest
  found_ends (founds.TryConsume watchpoint) rest =
      (made s.task (steps.TryConsume watchpoint.index watchpoint.word) (answers.Flag false) ∷ rest, Lost, (refl, refl, (refl, refl)))
  found_ends (founds.HearSetter index tries) rest =
      let both : Halves = record { setter = 1; finder = 1 } in
      let last = tells index 1 rest in (
        made s.task (steps.PairLoad index) (answers.Halves 1 1) ∷ last.0,
        Told (record { setter = 1; finder = ticket_number a }),
        (both, last.0, (refl, refl, inl (lit< tt, refl, refl)), last.1),
      )
  found_ends (founds.Tell index setter) rest =
      let last = tells index setter rest in (last.0, Told (record { setter = setter; finder = ticket_number a }), last.1)

frees : (s : Setting) (index : ℕ) (rest : List Record) → (records : List Record) × Frees s index records rest
frees s index rest =
    (made s.task (steps.Clear index) answers.Done ∷ made s.task (steps.Remove index) answers.Done ∷ rest, (refl, refl, (refl, (refl, refl, (refl, refl)))))

-- one check of an access, where what follows on it can be completed whatever it comes to
module _ (s : Setting) (After : Bool → ℕ → List Record → Type 0) (after : (settled : Bool) (asked : ℕ) → (records : List Record) × After settled asked records) where
  abbrev EndsBefore : (List Record → Pass → List Record → Type 0) → Type 0
  EndsBefore Begins = (records : List Record) × (pass : Pass) × (rest : List Record) × Begins records pass rest × After pass.settled pass.asked rest

  watch_ends : (asked : ℕ) (over : Option Judged) → EndsBefore (Ends s asked over)
  watch_ends asked None =
      let last = after false asked in (last.0, record { outcome = Capacity; later = last.0; settled = false; asked = asked }, last.0, (refl, refl), last.1)
  watch_ends asked (Some over) =
      let last = after true asked in
      let freed = frees s over.index last.0 in
      (freed.0, record { outcome = over.outcome; later = freed.0; settled = true; asked = asked }, last.0, (refl, freed.1), last.1)

  none_found : (a : Access) (marked : Bool) (asked : ℕ) → EndsBefore (NoneFound s a marked asked)
  none_found a true asked =
      let last = after false asked in
      (last.0, record { outcome = Nothing; later = last.0; settled = false; asked = asked }, last.0, counts_as_marked refl refl refl, last.1)
  none_found a false asked = elim (watched_or_not s asked) [
    | inr skips ↦
        let last = after false (asked + 1) in
        (last.0, record { outcome = Nothing; later = last.0; settled = false; asked = asked + 1 }, last.0, skipped refl skips refl refl, last.1)
    | inl watches_it ↦ elim (encodable_or_not a) [
      | inr unfit ↦
          let last = after false (asked + 1) in
          (last.0, record { outcome = Unencodable; later = last.0; settled = false; asked = asked + 1 }, last.0, unencodable refl watches_it unfit refl refl, last.1)
      | inl fits ↦
          let last = after false (asked + 1) in
          let tries = refused s.task (word_of s.rules.layout a) (try_order (slot_of s a)) last.0 in (
            tries.0,
            record { outcome = Capacity; later = last.0; settled = false; asked = asked + 1 },
            last.0,
            watched None last.0 refl watches_it fits (None, last.0, tries.1, (refl, refl)) (refl, refl),
            last.1,
          )
    ]
  ]

  checks_once : (a : Access) (marked : Bool) (asked : ℕ) → EndsBefore (ChecksOnce s a marked asked)
  checks_once a marked asked =
      let last = none_found a marked asked in
      let look = missed s a (look_order (slot_of s a)) last.0 in
      (look.0, last.1, last.2, (None, last.0, look.1, last.3), last.4)

  -- what a check has left
  pass_ends : (begun : Begun) (pass : code.Pass) (asked : ℕ)
      → (records : List Record) × (given : Given) × (rest : List Record) × PassLeft s begun pass asked records given rest × After given.settled given.asked rest
  pass_ends begun (passes.Find find) asked =
      let last = none_found begun.access begun.marked asked in
      let look = missed s begun.access (left_to_look find.place (slot_of s begun.access)) last.0 in
      (look.0, given_of begun last.1, last.2, (None, last.0, look.1, (last.1, last.3, refl)), last.4)
  pass_ends begun (passes.Found found) asked =
      let last = after true asked in
      let own = found_ends s begun.access found last.0 in
      (own.0, record { outcomes = record { access = begun.access; outcome = own.1; later = last.0 } ∷ []; settled = true; asked = asked }, last.0, (own.1, own.2, refl), last.1)
  pass_ends begun (passes.Setup setup) asked =
      let own = setup_ends s begun.access setup in
      let last = watch_ends asked own.0 in
      let first = own.1 last.0 in
      (first.0, given_of begun last.1, last.2, (own.0, last.0, first.1, (last.1, last.3, refl)), last.4)
  pass_ends begun (passes.Clear index) asked =
      let last = after true asked in
      let freed = frees s index last.0 in (freed.0, nothing_given true asked, last.0, (freed.1, refl), last.1)
  pass_ends begun (passes.Remove index) asked =
      let last = after true asked in
      (made s.task (steps.Remove index) answers.Done ∷ last.0, nothing_given true asked, last.0, ((refl, refl, (refl, refl)), refl), last.1)

abbrev SomeAre : (List Record → Passes → Type 0) → Type 0
SomeAre Begins = (records : List Record) × (passes : Passes) × Begins records passes

either : (b : Bool) (P Q : List Record → Passes → Type 0) → SomeAre P → SomeAre Q → SomeAre (λ records all. MatchBool b (P records all) (Q records all))
either true P Q p q = p
either false P Q p q = q

abbrev none_asked : ℕ → Passes
none_asked asked = record { outcomes = []; asked = asked }

-- checks of scoped assertions
rechecked : (s : Setting) (scopes : List Begun) (asked : ℕ) (rest : List Record) → SomeAre (λ records all. Rechecks s scopes asked records all rest)
rechecked s [] asked rest = (rest, none_asked asked, (refl, refl))
rechecked s (scope ∷ scopes) asked rest =
    either scope.silenced (λ records all. Rechecks s scopes asked records all rest)
    (λ records all. (pass : Pass) × (later : List Record) × (more : List _) × ChecksOnce s scope.access scope.marked asked records pass later
    × Rechecks s scopes pass.asked later (record { outcomes = more; asked = all.asked }) rest × (all.outcomes ≡ fallen_of scope.access pass ∷ more))
    (rechecked s scopes asked rest)
    (let own = checks_once s (λ settled now records. (all : Passes) × Rechecks s scopes now records all rest) (λ settled now. let more = rechecked s scopes now rest in (more.0, (more.1, more.2)))
    scope.access scope.marked asked in
    (own.0, record { outcomes = fallen_of scope.access own.1 ∷ own.4.0.outcomes; asked = own.4.0.asked }, (own.1, own.2, own.4.0.outcomes, own.3, own.4.1, refl)))

module _ (s : Setting) (scopes : List Begun) where
  checked_all : (begun : Begun) (asked : ℕ) → SomeAre (λ records all. ChecksAll s scopes begun asked records all [])
  checked_all begun asked =
      let own = checks_once s (λ settled now records. (all : Passes) × Rechecks s (left_to_check settled scopes) now records all [])
      (λ settled now. let more = rechecked s (left_to_check settled scopes) now [] in (more.0, (more.1, more.2))) begun.access begun.marked asked in
      (own.0, record { outcomes = fallen_of begun.access own.1 ∷ own.4.0.outcomes; asked = own.4.0.asked }, (own.1, own.2, own.4.0.outcomes, own.3, own.4.1, refl))

  stamped : (begun : Begun) (asked : ℕ) → SomeAre (λ records all. ChecksStamped s scopes begun asked records all [])
  stamped begun asked =
      let own = either begun.silenced (λ records all. (all ≡ none_asked (asked_silenced begun.marked asked)) × ([] ≡ records))
      (λ records all. ChecksAll s scopes begun asked records all []) ([], none_asked (asked_silenced begun.marked asked), (refl, refl)) (checked_all begun asked) in
      (made s.task steps.Clock (answers.Word 0) ∷ own.0, own.1, (refl, refl, own.2))

  role_ends : (role : Role) (settled : Bool) (asked : ℕ) → SomeAre (λ records all. RoleLeft s scopes role settled asked records all)
  role_ends roles.Access settled asked = rechecked s (left_to_check settled scopes) asked []
  role_ends (roles.Scope number) settled asked = rechecked s (drop (number + 1) scopes) asked []
  role_ends roles.Closing settled asked = (made s.task steps.Clock (answers.Word 0) ∷ [], none_asked asked, (refl, (refl, refl, refl)))

  pub stage_ends : (stage : CheckStage) (asked : ℕ) → SomeAre (λ records all. StageLeft s scopes stage asked records all)
  stage_ends stages.Rest asked = ([], none_asked asked, (refl, refl))
  stage_ends (stages.Begin begun) asked = stamped begun asked
  stage_ends (stages.Check role begun pass) asked =
      let own = pass_ends s (λ settled now records. (all : Passes) × RoleLeft s scopes role settled now records all) (λ settled now. let more = role_ends role settled now in (more.0, (more.1, more.2)))
      begun pass asked in
      (own.0, record { outcomes = own.1.outcomes ++ own.4.0.outcomes; asked = own.4.0.asked }, (own.1, own.2, own.4.0, own.3, own.4.1, refl))
  stage_ends (stages.End scope) asked = (made s.task steps.Clock (answers.Word 0) ∷ [], none_asked asked, (refl, (refl, refl, refl)))

-- what leads to a checker can be completed
pub check_ends : (s : Setting) (scopes : List Begun) (doing : Doing) (asked : ℕ) (records : List Record) (checker : Checker) → Leads s scopes doing asked records checker
    → (later : List Record) × (all : Passes) × Does s scopes doing asked (records ++ later) all
check_ends s scopes doing asked records checker leads =
    let own = stage_ends s scopes checker.stage leads.now in
    let all : Passes = record { outcomes = followed own.0 leads.fallen ++ own.1.outcomes; asked = own.1.asked } in
    (own.0, all, (leads.left own.0 all).1 (own.1, own.2, refl))

-- some records are a check, and some a close
pub some_check : (s : Setting) (scopes : List Begun) (begun : Begun) (asked : ℕ) → IsOwn s begun.access → AreOwn s scopes
    → (records : List Record) × (all : Passes) × Check s scopes begun asked records all []
some_check s scopes begun asked own others = let stamp = stamped s scopes begun asked in (stamp.0, stamp.1, (own, others, stamp.2))

pub some_close : (s : Setting) (scope : Begun) (silenced : Bool) (asked : ℕ) → IsOwn s scope.access
    → (records : List Record) × (all : Passes) × Close s scope silenced asked records all []
some_close s scope silenced asked own =
    let last = made s.task steps.Clock (answers.Word 0) ∷ [] in
    let again = rechecked s ((record scope { silenced = scope.silenced || silenced }) ∷ []) asked last in
    (again.0, again.1, (own, (last, again.2, (refl, refl, refl))))
