-- What a task has done only grows: at each point on its way it is a beginning of what was done at the next.
use Rattle.std.proofs.Common.{◌≡◌, ◌≤◌, ◌∙◌, ◌++◌, inl, inr, ℕ, Bool, true, false, List, [], ◌∷◌}
use Rattle.std.proofs.Common.{None, Option, Some, ap, arith, drop, length, refl, replicate, subst, sym}
use Rattle.std.proofs.lemmas.Bool.{le-leb}
use Rattle.std.proofs.lemmas.Bool.Decides.{leb_tells}
use Rattle.std.proofs.lemmas.List.{append-nil, append_assoc}
use Rattle.access_types.specs.Access as access
use Rattle.access_types.specs.declared.history.Happening.{Happening}
use Rattle.access_types.specs.declared.history.Happening.TheVariants as happenings
use Rattle.litmus_semantics.specs.Task as meaning
use Rattle.litmus_syntax.specs.Tree.{Block}
use Rattle.access_run.specs.memory_operation.Effects.{moments_of, read_moments, write_moments}
use Rattle.access_run.specs.declared.memory_operation.effect.Effect.{Effect}
use Rattle.access_run.specs.declared.memory_operation.operation.Operation.{Operation}
use Rattle.access_run.specs.declared.memory_operation.operation.Operation.TheVariants as operations
use Rattle.slot_table.specs.declared.records.Record.{Record}
use Rattle.program_order.specs.Access.{operated}
use Rattle.program_order.specs.Standing.{Point, Setting, Standing, coming, counting, doing, point_by}
use Rattle.program_order.specs.WrittenOrder.{SpellsAll, at_first}
use Rattle.program_order.proofs.Induction.{Kept, by_block}
use Rattle.program_order.proofs.WayLemmas.{Begins}

pub begins_same : (did : List Happening) → Begins did did
begins_same did = ([], sym (append-nil did))

pub begins_on : (first middle all : List Happening) → Begins first middle → Begins middle all
    → Begins first all
begins_on first middle all p q =
    (p.0 ++ q.0, q.1 ∙ (ap (λ (d : List Happening). d ++ q.0) p.1 ∙ append_assoc first p.0 q.0))

-- each point begins the next
abbrev pub Chain : Point → List Point → Type 0
Chain last [] = Unit {0}
Chain last (next ∷ points) = Begins last.progress.did next.progress.did × Chain next points

abbrev pub last_of : Point → List Point → Point
last_of last [] = last
last_of last (next ∷ points) = last_of next points

chain_with : (last : Point) (points : List Point) (one : Point) → Chain last points
    → Begins (last_of last points).progress.did one.progress.did → Chain last (points ++ one ∷ [])
chain_with last [] one chain begins = (begins, tt)
chain_with last (next ∷ points) one chain begins =
    (chain.0, chain_with next points one chain.1 begins)

last_with : (last : Point) (points : List Point) (one : Point)
    → last_of last (points ++ one ∷ []) ≡ one
last_with last [] one = refl
last_with last (next ∷ points) one = last_with next points one

-- a point begins those after it
pub by_later : (last : Point) (points : List Point) (n : ℕ) → Chain last points
    → Begins last.progress.did (point_by n last points).progress.did
by_later last [] n chain = begins_same last.progress.did
by_later last (next ∷ points) n chain = elim (leb_tells n next.to_come) [
  | inl more ↦ rw more.0 (begins_on last.progress.did next.progress.did
      (point_by n next points).progress.did chain.0 (by_later next points n chain.1))
  | inr there ↦ rw there.0 (begins_same last.progress.did)
]

-- the fewer records are to come, the more was done
pub by_fewer : (last : Point) (points : List Point) (n m : ℕ) → m ≤ n → Chain last points
    → Begins (point_by n last points).progress.did (point_by m last points).progress.did
by_fewer last [] n m fewer chain = begins_same last.progress.did
by_fewer last (next ∷ points) n m fewer chain = elim (leb_tells n next.to_come) [
  | inl more ↦
      let too : m ≤ next.to_come = let at : n ≤ next.to_come = more.1 in omega (arith, fewer, at) in
      rw (more.0, le-leb m next.to_come too) (by_fewer next points n m fewer chain.1)
  | inr there ↦ rw there.0 (by_later last (next ∷ points) m chain)
]

-- each begins the last
pub by_last : (last : Point) (points : List Point) (n : ℕ) → Chain last points
    → Begins (point_by n last points).progress.did (last_of last points).progress.did
by_last last points n chain = elim_last last points n chain
  where
    to_last : (last : Point) (points : List Point) → Chain last points
        → Begins last.progress.did (last_of last points).progress.did
    to_last last [] chain = begins_same last.progress.did
    to_last last (next ∷ points) chain =
        begins_on last.progress.did next.progress.did (last_of next points).progress.did chain.0
        (to_last next points chain.1)

    elim_last : (last : Point) (points : List Point) (n : ℕ) → Chain last points
        → Begins (point_by n last points).progress.did (last_of last points).progress.did
    elim_last last [] n chain = begins_same last.progress.did
    elim_last last (next ∷ points) n chain = elim (leb_tells n next.to_come) [
      | inl more ↦ rw more.0 (elim_last next points n chain.1)
      | inr there ↦ rw there.0 (to_last last (next ∷ points) chain)
    ]

-- a way is such a chain, which ends with what was done
module _ (first : Point) where
  pub record IsWay (st : Standing) : Type 0 where
    pub chain : Chain first st.way
    pub end : (last_of first st.way).progress.did ≡ st.progress.did

  abbrev pub GoesOn : Standing → List Record → Standing → List Record → Type 0
  GoesOn before records after rest = IsWay before → IsWay after

  comes : (before : Standing) (later : List Record) (progress : meaning.Progress)
      → Begins before.progress.did progress.did → IsWay before → IsWay (coming before later progress)
  comes before later progress more way =
      let one : Point =
      record { to_come = length later; progress = progress; unbalanced = before.unbalanced } in
      record {
        chain = chain_with first before.way one way.chain
            (subst (λ (d : List Happening). Begins d progress.did) (sym way.end) more);
        end = ap (λ (p : Point). p.progress.did) (last_with first before.way one);
      }

  pub does : (before : Standing) (later : List Record) (more : List Happening) → IsWay before
      → IsWay (doing before later more)
  does before later more = comes before later (meaning.doing before.progress more) (more, refl)

  counts : (ends_nothing : Bool) (before : Standing) → IsWay before → IsWay (counting ends_nothing before)
  counts true before way = record { chain = way.chain; end = way.end }
  counts false before way = way

  pub operates : (a : access.Access) (operation : Option Operation) (before : Standing)
      (records : List Record) (effect : Effect) (rest : List Record) → IsWay before
      → IsWay (operated a operation before records effect rest)
  operates a None before records effect rest way = way
  operates a (Some operations.Load) before records effect rest way =
      does before rest (moments_of a effect) way
  operates a (Some (operations.Add amount)) before records effect rest way =
      let read : Standing = doing before (drop 1 records) (read_moments a effect.read) in
      does read rest (write_moments a effect.written)
      (does before (drop 1 records) (read_moments a effect.read) way)
  operates a (Some (operations.Change change)) before records effect rest way =
      does before rest (moments_of a effect) way

  -- what else changes is no part of a way
  pub same_way : (before after : Standing) → after.way ≡ before.way → after.progress.did ≡ before.progress.did
      → IsWay before → IsWay after
  same_way before after way did is = record {
    chain = subst (λ (w : List Point). Chain first w) (sym way) is.chain;
    end = ap (λ (w : List Point). (last_of first w).progress.did) way ∙ (is.end ∙ sym did);
  }

  pub kept_way : (s : Setting) → Kept s GoesOn
  kept_way s = record {
    still = λ before records way. way;
    joins = λ before between after records later rest p q way. q (p way);
    marked = λ ends_nothing count m before records way.
        does (counting ends_nothing before) records (replicate count (happenings.Mark m))
        (counts ends_nothing before way);
    lost = λ before records way.
        comes (counting true before) records before.progress (begins_same before.progress.did)
        (counts true before way);
    assigned = λ before records register value way.
        comes before records (meaning.assigning before.progress register value)
        (begins_same before.progress.did) way;
    makes = λ a operation effect before records after rest h way.
        let began : Standing = doing before (drop 1 records) (happenings.Begin a ∷ []) in
        let made : Standing = operated a operation began h.checked effect h.done in
        let ended : Standing = doing made rest (happenings.End a ∷ []) in
        same_way ended after (ap (λ (st : Standing). st.way) h.comes_to)
        (ap (λ (st : Standing). st.progress.did) h.comes_to)
        (does made rest (happenings.End a ∷ [])
        (operates a operation began h.checked effect h.done
        (does before (drop 1 records) (happenings.Begin a ∷ []) way)));
    locks = λ lock before records rest is takes way. does before rest (happenings.Lock lock ∷ []) way;
    unlocks = λ lock before records rest has stores way. does before rest (happenings.Unlock lock ∷ []) way;
    scoped = λ a assertion begun before opened closing after records inside later rest opens inner closes way.
        let start : IsWay opened =
        same_way (doing before (drop 1 records) (happenings.Begin a ∷ [])) opened
        (ap (λ (st : Standing). st.way) opens.comes_to)
        (ap (λ (st : Standing). st.progress.did) opens.comes_to)
        (does before (drop 1 records) (happenings.Begin a ∷ []) way) in
        same_way (doing closing rest (happenings.End begun.access ∷ [])) after
        (ap (λ (st : Standing). st.way) closes.comes_to)
        (ap (λ (st : Standing). st.progress.did) closes.comes_to)
        (does closing rest (happenings.End begun.access ∷ []) (inner start));
  }

  whole_way : (s : Setting) (registers : ℕ) (body : Block) (records : List Record)
      (whole : SpellsAll s registers body records) → first.progress.did ≡ [] → IsWay whole.end
  whole_way s registers body records whole empty =
      by_block s GoesOn (kept_way s) 0 body (at_first registers) records whole.end [] whole.steps
      (record { chain = tt; end = empty })

-- what was done by any point, and by a later one
pub whole_chain : (s : Setting) (registers : ℕ) (body : Block) (records : List Record)
    (whole : SpellsAll s registers body records) (first : Point) → first.progress.did ≡ []
    → Chain first whole.end.way × ((last_of first whole.end.way).progress.did ≡ whole.end.progress.did)
whole_chain s registers body records whole first empty =
    let way = whole_way first s registers body records whole empty in (way.chain, way.end)
