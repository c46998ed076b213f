-- What a task had done at each point on its way is a beginning of what it has done.
use Rattle.std.proofs.Common.{◌≡◌, ◌∙◌, ◌++◌, ℕ, Bool, true, false, List, [], ◌∷◌, None, Option, Some, ap, drop, length, nat_le, refl, replicate, subst, sym, if◌then◌else◌}
use Rattle.std.proofs.lemmas.List.{append-nil, append_assoc}
use Rattle.access_types.specs.Access as access
use Rattle.access_types.specs.declared.history.Happening.{Happening}
use Rattle.access_types.specs.declared.history.Happening.TheVariants as happenings
use Rattle.litmus_semantics.specs.Task as meaning
use Rattle.litmus_syntax.specs.Tree.{Block}
use Rattle.access_run.specs.memory_operation.Effects.{moments_of, read_moments, write_moments}
use Rattle.access_run.specs.declared.memory_operation.effect.Effect.{Effect}
use Rattle.access_run.specs.declared.memory_operation.operation.Operation.{Operation}
use Rattle.access_run.specs.declared.memory_operation.operation.Operation.TheVariants as operations
use Rattle.slot_table.specs.declared.records.Record.{Record}
use Rattle.program_order.specs.Access.{operated}
use Rattle.program_order.specs.Standing.{Point, Setting, Standing, coming, counting, doing, point_by}
use Rattle.program_order.specs.WrittenOrder.{WrittenOrder, at_first, first_point, stands_after}
use Rattle.program_order.proofs.Induction.{Kept, by_block}

-- the one is a beginning of the other
abbrev pub Begins : List Happening → List Happening → Type 0
Begins first all = (rest : List Happening) × (all ≡ first ++ rest)

begins_same : (did : List Happening) → Begins did did
begins_same did = ([], sym (append-nil did))

begins_on : (first middle all : List Happening) → Begins first middle → Begins middle all → Begins first all
begins_on first middle all p q =
    (p.0 ++ q.0, q.1 ∙ (ap (λ (d : List Happening). d ++ q.0) p.1 ∙ append_assoc first p.0 q.0))

abbrev EachBegins : List Happening → List Point → Type 0
EachBegins did [] = Unit {0}
EachBegins did (point ∷ points) = Begins point.progress.did did × EachBegins did points

each_later : (did all : List Happening) (points : List Point) → Begins did all → EachBegins did points → EachBegins all points
each_later did all [] more each = tt
each_later did all (point ∷ points) more each = (begins_on point.progress.did did all each.0 more, each_later did all points more each.1)

each_with : (did : List Happening) (points : List Point) (last : Point) → EachBegins did points → Begins last.progress.did did → EachBegins did (points ++ last ∷ [])
each_with did [] last each begins = (begins, tt)
each_with did (point ∷ points) last each begins = (each.0, each_with did points last each.1 begins)

-- the task goes on
abbrev Goes : Standing → Standing → Type 0
Goes before after =
    Begins before.progress.did after.progress.did
    × (EachBegins before.progress.did before.way → EachBegins after.progress.did after.way)

goes_on : (before between after : Standing) → Goes before between → Goes between after → Goes before after
goes_on before between after p q =
    (begins_on before.progress.did between.progress.did after.progress.did p.0 q.0, λ each. q.1 (p.1 each))

stays : (before : Standing) → Goes before before
stays before = (begins_same before.progress.did, λ each. each)

comes : (before : Standing) (later : List Record) (progress : meaning.Progress) → Begins before.progress.did progress.did → Goes before (coming before later progress)
comes before later progress more = (
  more,
  λ each.
      each_with progress.did before.way _ (each_later before.progress.did progress.did before.way more each) (begins_same progress.did),
)

does : (before : Standing) (later : List Record) (more : List Happening) → Goes before (doing before later more)
does before later more = comes before later (meaning.doing before.progress more) (more, refl)

counts : (ends_nothing : Bool) (before : Standing) → Goes before (counting ends_nothing before)
counts true before = stays before
counts false before = stays before

operates : (a : access.Access) (operation : Option Operation) (before : Standing) (records : List Record) (effect : Effect) (rest : List Record)
    → Goes before (operated a operation before records effect rest)
operates a None before records effect rest = stays before
operates a (Some operations.Load) before records effect rest = does before rest (moments_of a effect)
operates a (Some (operations.Add amount)) before records effect rest =
    let read : Standing = doing before (drop 1 records) (read_moments a effect.read) in
    goes_on before read (doing read rest (write_moments a effect.written)) (does before (drop 1 records) (read_moments a effect.read)) (does read rest (write_moments a effect.written))
operates a (Some (operations.Change change)) before records effect rest = does before rest (moments_of a effect)

abbrev GoesOn : Standing → List Record → Standing → List Record → Type 0
GoesOn before records after rest = Goes before after

kept_way : (s : Setting) → Kept s GoesOn
kept_way s = record {
  still = λ before records. stays before;
  joins = λ before between after records later rest p q. goes_on before between after p q;
  marked = λ ends_nothing count m before records.
      let counted : Standing = counting ends_nothing before in
      goes_on before counted (doing counted records (replicate count (happenings.Mark m))) (counts ends_nothing before)
      (does counted records (replicate count (happenings.Mark m)));
  lost = λ before records. comes (counting true before) records before.progress (begins_same before.progress.did);
  assigned = λ before records register value. comes before records (meaning.assigning before.progress register value) (begins_same before.progress.did);
  makes = λ a operation effect before records after rest h.
      let began : Standing = doing before (drop 1 records) (happenings.Begin a ∷ []) in
      let made : Standing = operated a operation began h.checked effect h.done in
      let ended : Standing = doing made rest (happenings.End a ∷ []) in
      let whole : Goes before ended = goes_on before began ended (does before (drop 1 records) (happenings.Begin a ∷ []))
      (goes_on began made ended (operates a operation began h.checked effect h.done) (does made rest (happenings.End a ∷ []))) in
      subst (λ (st : Standing). Goes before st) (sym h.comes_to) whole;
  locks = λ lock before records rest is takes. does before rest (happenings.Lock lock ∷ []);
  unlocks = λ lock before records rest has stores. does before rest (happenings.Unlock lock ∷ []);
  scoped = λ a assertion begun before opened closing after records inside later rest opens inner closes.
      let first : Goes before opened = subst (λ (st : Standing). Goes before st) (sym opens.comes_to) (does before (drop 1 records) (happenings.Begin a ∷ [])) in
      let last : Goes closing after = subst (λ (st : Standing). Goes closing st) (sym closes.comes_to) (does closing rest (happenings.End begun.access ∷ [])) in
      goes_on before opened after first (goes_on opened closing after inner last);
}

chosen : (b : Bool) (all : List Happening) (first second : Point) → Begins first.progress.did all → Begins second.progress.did all → Begins (if b then first else second).progress.did all
chosen true all first second p q = p
chosen false all first second p q = q

point_begins : (to_come : ℕ) (all : List Happening) (last : Point) (points : List Point) → Begins last.progress.did all → EachBegins all points → Begins (point_by to_come last points).progress.did all
point_begins to_come all last [] begins each = begins
point_begins to_come all last (next ∷ points) begins each =
    chosen (nat_le to_come next.to_come) all (point_by to_come next points) last (point_begins to_come all next points each.0 each.1) begins

-- what a task did by these records is a beginning of what it does in its whole text
pub did_by_then : (s : Setting) (registers : ℕ) (body : Block) (records : List Record) → (written : WrittenOrder s registers body records)
    → Begins (stands_after written).progress.did written.whole.end.progress.did
did_by_then s registers body records written =
    let way = (by_block s GoesOn (kept_way s) 0 body (at_first registers) (records ++ written.more) written.whole.end [] written.whole.steps).1 tt in
    point_begins (length written.more) written.whole.end.progress.did (first_point (length (records ++ written.more)) registers) written.whole.end.way
    (written.whole.end.progress.did, refl) way
