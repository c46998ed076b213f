-- A check with other stamps comes to the same.
use Rattle.std.proofs.Common.{◌≡◌, ◌<◌, ◌⊎◌, ◌+◌, ◌||◌, ◌∷◌, [], ℕ, Bool, List, MatchOption, Option, None, Some, ap, inl, inr, length, map, subst, sym}
use Rattle.access_types.specs.Access.{Access}
use Rattle.access_types.specs.Ticket.{ticket_number}
use Rattle.slot.specs.Pair.{Halves}
use Rattle.slot_table.specs.declared.records.Record.{Record}
use Rattle.slot_table.specs.declared.step.Answer.{Answer}
use Rattle.slot_table.specs.declared.step.Step.TheVariants.{CellLoad, Clear, Consume, Insert, Load, Name, PairLoad, Remove, Tell, TryConsume}
use Rattle.setup_access.specs.Check as cases
use Rattle.setup_access.specs.Check.{Check, ChecksAll, ChecksBegun, ChecksOnce, Close, Ends, Fallen, NoneFound, Pass, Passes, Rechecks, left_to_check}
use Rattle.setup_access.specs.Find.{LooksUp}
use Rattle.setup_access.specs.Found.{Hears, Takes, finder_half, setter_half}
use Rattle.setup_access.specs.Records.{OnHalves}
use Rattle.setup_access.specs.Setting.{Setting, look_order, slot_of, try_order}
use Rattle.setup_access.specs.Setup.{Arms, Judged, Judges, TriesInsert, WatchesAt}
use Rattle.setup_access.specs.Values.{LoadsFrom, both_values, source_of}
use Rattle.setup_access.specs.declared.begun.Begun.{Begun}
use Rattle.setup_access.specs.declared.outcome.Outcome.{Outcome}
use Rattle.setup_access.specs.declared.outcome.Watchpoint.{Watchpoint}
use Rattle.setup_access.specs.declared.source.Source.{Source}
use Rattle.executions.proofs.timestamp_irrelevance.Restamped.{GivesStamps, done, either_way, flag, halves_so, restamped, same_answer, stamp, word}

module _ (given : ℕ → Record → Answer) (gives : GivesStamps given) where
  abbrev put : List Record → List Record
  put records = restamped given records

  -- outcomes as they fall there
  abbrev pub fallen_there : Fallen → Fallen
  fallen_there fallen = record fallen { later = put fallen.later }

  abbrev pass_there : Pass → Pass
  pass_there pass = record pass { later = put pass.later }

  abbrev pub passes_there : Passes → Passes
  passes_there passes = record { outcomes = map fallen_there passes.outcomes; asked = passes.asked }

  hears : (half : Halves → ℕ) (task index : ℕ) (records : List Record) (both : Halves) (rest : List Record)
      → Hears half task index records both rest → Hears half task index (put records) both (put rest)
  hears half task index [] both rest h = absurd h
  hears half task index (first ∷ later) both rest h = (
    h.0,
    h.1,
    subst (λ (x : Answer). OnHalves x (λ heard.
        ((0 < half heard) × (both ≡ heard) × (put rest ≡ put later)) ⊎ ((half heard ≡ 0) × Hears half task index (put later) both (put rest))))
        (sym (same_answer given gives (length later) first (PairLoad index) (λ none. none) h.1))
        (halves_so first.answer _ _
        (λ heard got. elim got [
          | inl over ↦ inl (over.0, over.1, ap put over.2)
          | inr again ↦ inr (again.0, hears half task index later both rest again.1)
        ]) h.2),
  )

  module _ (s : Setting) (a : Access) where
    looks_up : (indices : List ℕ) (records : List Record) (found : Option Watchpoint) (rest : List Record)
        → LooksUp s a indices records found rest → LooksUp s a indices (put records) found (put rest)
    looks_up [] records found rest h = (h.0, ap put h.1)
    looks_up (index ∷ indices) records found rest h =
        word given gives s.task (Load index) _ _ (λ none. none) records h
        (λ w later got. elim got [
          | inl hit ↦ inl (hit.0, hit.1, ap put hit.2)
          | inr miss ↦ inr (miss.0, looks_up indices later found rest miss.1)
        ])

    takes : (found : Watchpoint) (records : List Record) (outcome : Outcome) (rest : List Record)
        → Takes s a found records outcome rest → Takes s a found (put records) outcome (put rest)
    takes found records outcome rest h =
        flag given gives s.task (TryConsume found.index found.word) _ _ (λ none. none) records h
        (λ taken later got. either_way taken _ _ _ _
        (λ tells. (
          tells.0,
          put tells.1,
          hears setter_half s.task found.index later tells.0 tells.1 tells.2,
          done given gives s.task (Tell found.index (ticket_number a)) _ _ (λ none. none) tells.1 tells.3 (λ told over. (over.0, ap put over.1)),
        ))
        (λ lost. (lost.0, ap put lost.1)) got)

    found_watchpoint : (mask : Option ℕ) (found : Watchpoint) (records : List Record) (outcome : Outcome) (rest : List Record) (Nothing : ℕ → Type 0)
        → MatchOption mask (Takes s a found records outcome rest) (λ mask. Nothing mask × (rest ≡ records))
        → MatchOption mask (Takes s a found (put records) outcome (put rest)) (λ mask. Nothing mask × (put rest ≡ put records))
    found_watchpoint None found records outcome rest Nothing h = takes found records outcome rest h
    found_watchpoint (Some mask) found records outcome rest Nothing h = (h.0, ap put h.1)

    inserts : (word : ℕ) (indices : List ℕ) (records : List Record) (place : Option ℕ) (rest : List Record)
        → TriesInsert s.task word indices records place rest → TriesInsert s.task word indices (put records) place (put rest)
    inserts word [] records place rest h = (h.0, ap put h.1)
    inserts word (index ∷ indices) records place rest h =
        flag given gives s.task (Insert index word) _ _ (λ none. none) records h
        (λ accepted later got. either_way accepted _ _ _ _ (λ stands. (stands.0, ap put stands.1)) (λ more. inserts word indices later place rest more) got)

    loads : (source : Option Source) (records : List Record) (value : Option ℕ) (rest : List Record)
        → LoadsFrom s a source records value rest → LoadsFrom s a source (put records) value (put rest)
    loads None records value rest h = (h.0, ap put h.1)
    loads (Some source) records value rest h =
        word given gives s.task (CellLoad source.cell) _ _ (λ none. none) records h (λ w later got. (got.0, ap put got.1))

    judges : (index : ℕ) (values : Option (ℕ × ℕ)) (records : List Record) (outcome : Outcome) (rest : List Record)
        → Judges s a index values records outcome rest → Judges s a index values (put records) outcome (put rest)
    judges index values records outcome rest h =
        flag given gives s.task (Consume index) _ _ (λ none. none) records h
        (λ untouched later got. either_way untouched _ _ _ _
        (λ quiet. (quiet.0, ap put quiet.1))
        (λ hit. (hit.0, hears finder_half s.task index later hit.0 rest hit.1, hit.2)) got)

    arms : (index : ℕ) (records : List Record) (outcome : Outcome) (rest : List Record)
        → Arms s a index records outcome rest → Arms s a index (put records) outcome (put rest)
    arms index records outcome rest h =
        done given gives s.task (Name index (ticket_number a)) _ _ (λ none. none) records h
        (λ later w. (
          w.0,
          w.1,
          put w.2,
          put w.3,
          loads (source_of s a) later w.0 w.2 w.4,
          loads (source_of s a) w.2 w.1 w.3 w.5,
          judges index (both_values w.0 w.1) w.3 outcome rest w.6,
        ))

    watches_at : (place : Option ℕ) (records : List Record) (judged : Option Judged) (rest : List Record)
        → WatchesAt s a place records judged rest → WatchesAt s a place (put records) judged (put rest)
    watches_at None records judged rest h = (h.0, ap put h.1)
    watches_at (Some index) records judged rest h = (h.0, arms index records h.0 rest h.1, h.2)

    ends : (asked : ℕ) (judged : Option Judged) (records : List Record) (pass : Pass) (rest : List Record)
        → Ends s asked judged records pass rest → Ends s asked judged (put records) (pass_there pass) (put rest)
    ends asked None records pass rest h = (ap pass_there h.0, ap put h.1)
    ends asked (Some judged) records pass rest h = (
      ap pass_there h.0,
      done given gives s.task (Clear judged.index) _ _ (λ none. none) records h.1
          (λ later removes. done given gives s.task (Remove judged.index) _ _ (λ none. none) later removes (λ after over. ap put over)),
    )

    none_found : (marked : Bool) (asked : ℕ) (records : List Record) (pass : Pass) (rest : List Record)
        → NoneFound s a marked asked records pass rest → NoneFound s a marked asked (put records) (pass_there pass) (put rest)
    none_found marked asked records pass rest (cases.counts_as_marked is pass_is over) =
        cases.counts_as_marked is (ap pass_there pass_is) (ap put over)
    none_found marked asked records pass rest (cases.skipped is unwatched pass_is over) =
        cases.skipped is unwatched (ap pass_there pass_is) (ap put over)
    none_found marked asked records pass rest (cases.unencodable is watched no_word pass_is over) =
        cases.unencodable is watched no_word (ap pass_there pass_is) (ap put over)
    none_found marked asked records pass rest (cases.watched judged later is watched encodable setup after) =
        cases.watched judged (put later) is watched encodable
        (setup.0, put setup.1, inserts _ (try_order (slot_of s a)) records setup.0 setup.1 setup.2, watches_at setup.0 setup.1 judged later setup.3)
        (ends (asked + 1) judged later pass rest after)

    goes_on : (marked : Bool) (asked : ℕ) (found : Option Watchpoint) (records : List Record) (pass : Pass) (rest : List Record)
        → cases.GoesOn s a marked asked found records pass rest → cases.GoesOn s a marked asked found (put records) (pass_there pass) (put rest)
    goes_on marked asked None records pass rest h = none_found marked asked records pass rest h
    goes_on marked asked (Some found) records pass rest h =
        (h.0, h.1, ap put h.2, found_watchpoint a.mask found records pass.outcome rest _ h.3)

    once : (marked : Bool) (asked : ℕ) (records : List Record) (pass : Pass) (rest : List Record)
        → ChecksOnce s a marked asked records pass rest → ChecksOnce s a marked asked (put records) (pass_there pass) (put rest)
    once marked asked records pass rest h =
        (h.0, put h.1, looks_up (look_order (slot_of s a)) records h.0 h.1 h.2, goes_on marked asked h.0 h.1 pass rest h.3)

  module _ (s : Setting) where
    rechecks : (scopes : List Begun) (asked : ℕ) (records : List Record) (passes : Passes) (rest : List Record)
        → Rechecks s scopes asked records passes rest → Rechecks s scopes asked (put records) (passes_there passes) (put rest)
    rechecks [] asked records passes rest h = (ap passes_there h.0, ap put h.1)
    rechecks (scope ∷ scopes) asked records passes rest h = either_way scope.silenced _ _ _ _
        (λ more. rechecks scopes asked records passes rest more)
        (λ on. (
          pass_there on.0,
          put on.1,
          map fallen_there on.2,
          once s scope.access scope.marked asked records on.0 on.1 on.3,
          rechecks scopes (on.0).asked on.1 (record { outcomes = on.2; asked = passes.asked }) rest on.4,
          ap (map fallen_there) on.5,
        )) h

    checks_all : (scopes : List Begun) (begun : Begun) (asked : ℕ) (records : List Record) (passes : Passes) (rest : List Record)
        → ChecksAll s scopes begun asked records passes rest → ChecksAll s scopes begun asked (put records) (passes_there passes) (put rest)
    checks_all scopes begun asked records passes rest on = (
      pass_there on.0,
      put on.1,
      map fallen_there on.2,
      once s begun.access begun.marked asked records on.0 on.1 on.3,
      rechecks (left_to_check (on.0).settled scopes) (on.0).asked on.1 (record { outcomes = on.2; asked = passes.asked }) rest on.4,
      ap (map fallen_there) on.5,
    )

    begun_checks : (scopes : List Begun) (begun : Begun) (asked : ℕ) (records : List Record) (passes : Passes) (rest : List Record)
        → ChecksBegun s scopes begun asked records passes rest → ChecksBegun s scopes begun asked (put records) (passes_there passes) (put rest)
    begun_checks scopes begun asked records passes rest h = either_way begun.silenced _ _ _ _
        (λ over. (ap passes_there over.0, ap put over.1))
        (λ on. checks_all scopes begun asked records passes rest on) h

    pub check : (scopes : List Begun) (begun : Begun) (asked : ℕ) (records : List Record) (passes : Passes) (rest : List Record)
        → Check s scopes begun asked records passes rest → Check s scopes begun asked (put records) (passes_there passes) (put rest)
    check scopes begun asked records passes rest h = (
      h.0,
      h.1,
      stamp given gives s.task _ _ records h.2 (λ later on. begun_checks scopes begun asked later passes rest on),
    )

    pub close : (scope : Begun) (silenced : Bool) (asked : ℕ) (records : List Record) (passes : Passes) (rest : List Record)
        → Close s scope silenced asked records passes rest → Close s scope silenced asked (put records) (passes_there passes) (put rest)
    close scope silenced asked records passes rest h =
        let last = h.1 in (
          h.0,
          (
            put last.0,
            rechecks ((record scope { silenced = scope.silenced || silenced }) ∷ []) asked records passes last.0 last.1,
            stamp given gives s.task _ _ last.0 last.2 (λ later over. ap put over),
          ),
        )
