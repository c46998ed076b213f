-- The accesses of a task end in the other order than they begin.
use Rattle.std.proofs.Common.{◌≡◌, ◌∙◌, ◌++◌, ◌∷◌, [], ℕ, zero, suc, List, None, Option, Some, ap, append_assoc, drop, refl, replicate, subst, sym}
use Rattle.std.proofs.lemmas.List.{append-nil}
use Rattle.access_types.specs.Access.{Access}
use Rattle.access_types.specs.declared.history.Happening.{Happening}
use Rattle.access_types.specs.declared.history.Happening.TheVariants as happenings
use Rattle.access_types.specs.declared.history.Mark.{Mark}
use Rattle.litmus_semantics.specs.Task as meaning
use Rattle.litmus_syntax.specs.Tree.{Block}
use Rattle.access_run.specs.memory_operation.Effects.{moments_of, read_moments, write_moments}
use Rattle.access_run.specs.declared.memory_operation.effect.Effect.{Effect}
use Rattle.access_run.specs.declared.memory_operation.operation.Operation.{Operation}
use Rattle.access_run.specs.declared.memory_operation.operation.Operation.TheVariants as operations
use Rattle.slot_table.specs.declared.records.Record.{Record}
use Rattle.program_order.specs.Access.{operated}
use Rattle.program_order.specs.Standing.{Setting, Standing, counting, doing}
use Rattle.program_order.specs.WrittenOrder.{SpellsAll, at_first}
use Rattle.program_order.proofs.AccessLemmas.{counting_progress}
use Rattle.program_order.proofs.Induction.{Kept, by_block}

-- what goes on after this, where these go on before it, the newest first
abbrev pub Runs : List Access → List Happening → List Access → Type 0
Runs going [] after = after ≡ going
Runs going (happenings.Begin a ∷ later) after = Runs (a ∷ going) later after
Runs going (happenings.End a ∷ later) after = (older : List Access) × (going ≡ a ∷ older) × Runs older later after
Runs going (happenings.Read bytes value ∷ later) after = Runs going later after
Runs going (happenings.Write bytes value ∷ later) after = Runs going later after
Runs going (happenings.Lock lock ∷ later) after = Runs going later after
Runs going (happenings.Unlock lock ∷ later) after = Runs going later after
Runs going (happenings.Mark mark ∷ later) after = Runs going later after

pub runs_both : (going : List Access) (first later : List Happening) (between after : List Access) → Runs going first between → Runs between later after
    → Runs going (first ++ later) after
runs_both going [] later between after p q = subst (λ (o : List Access). Runs o later after) p q
runs_both going (happenings.Begin a ∷ first) later between after p q = runs_both (a ∷ going) first later between after p q
runs_both going (happenings.End a ∷ first) later between after p q = (p.0, p.1, runs_both p.0 first later between after p.2 q)
runs_both going (happenings.Read bytes value ∷ first) later between after p q = runs_both going first later between after p q
runs_both going (happenings.Write bytes value ∷ first) later between after p q = runs_both going first later between after p q
runs_both going (happenings.Lock lock ∷ first) later between after p q = runs_both going first later between after p q
runs_both going (happenings.Unlock lock ∷ first) later between after p q = runs_both going first later between after p q
runs_both going (happenings.Mark mark ∷ first) later between after p q = runs_both going first later between after p q

pub runs_split : (going : List Access) (first later : List Happening) (after : List Access) → Runs going (first ++ later) after
    → (between : List Access) × Runs going first between × Runs between later after
runs_split going [] later after p = (going, refl, p)
runs_split going (happenings.Begin a ∷ first) later after p = runs_split (a ∷ going) first later after p
runs_split going (happenings.End a ∷ first) later after p =
    let it = runs_split p.0 first later after p.2 in (it.0, (p.0, p.1, it.1), it.2)
runs_split going (happenings.Read bytes value ∷ first) later after p = runs_split going first later after p
runs_split going (happenings.Write bytes value ∷ first) later after p = runs_split going first later after p
runs_split going (happenings.Lock lock ∷ first) later after p = runs_split going first later after p
runs_split going (happenings.Unlock lock ∷ first) later after p = runs_split going first later after p
runs_split going (happenings.Mark mark ∷ first) later after p = runs_split going first later after p

pub runs_one : (going : List Access) (did : List Happening) (one other : List Access) → Runs going did one → Runs going did other → one ≡ other
runs_one going [] one other p q = p ∙ sym q
runs_one going (happenings.Begin a ∷ later) one other p q = runs_one (a ∷ going) later one other p q
runs_one going (happenings.End a ∷ later) one other p q =
    let both : a ∷ p.0 ≡ a ∷ q.0 = sym p.1 ∙ q.1 in
    let same : p.0 ≡ q.0 = cc in
    runs_one p.0 later one other p.2 (subst (λ (o : List Access). Runs o later other) (sym same) q.2)
runs_one going (happenings.Read bytes value ∷ later) one other p q = runs_one going later one other p q
runs_one going (happenings.Write bytes value ∷ later) one other p q = runs_one going later one other p q
runs_one going (happenings.Lock lock ∷ later) one other p q = runs_one going later one other p q
runs_one going (happenings.Unlock lock ∷ later) one other p q = runs_one going later one other p q
runs_one going (happenings.Mark mark ∷ later) one other p q = runs_one going later one other p q

-- it begins and ends nothing
abbrev pub IsPlain : Happening → Type 0
IsPlain (happenings.Begin a) = ⊥
IsPlain (happenings.End a) = ⊥
IsPlain happening = Unit {0}

abbrev pub ArePlain : List Happening → Type 0
ArePlain [] = Unit {0}
ArePlain (happening ∷ later) = IsPlain happening × ArePlain later

pub plain_both : (first later : List Happening) → ArePlain first → ArePlain later → ArePlain (first ++ later)
plain_both [] later one two = two
plain_both (happening ∷ first) later one two = (one.0, plain_both first later one.1 two)

pub runs_plain : (going : List Access) (did : List Happening) → ArePlain did → Runs going did going
runs_plain going [] plain = refl
runs_plain going (happenings.Begin a ∷ later) plain = absurd plain.0
runs_plain going (happenings.End a ∷ later) plain = absurd plain.0
runs_plain going (happenings.Read bytes value ∷ later) plain = runs_plain going later plain.1
runs_plain going (happenings.Write bytes value ∷ later) plain = runs_plain going later plain.1
runs_plain going (happenings.Lock lock ∷ later) plain = runs_plain going later plain.1
runs_plain going (happenings.Unlock lock ∷ later) plain = runs_plain going later plain.1
runs_plain going (happenings.Mark mark ∷ later) plain = runs_plain going later plain.1

read_plain : (a : Access) (value : Option ℕ) → ArePlain (read_moments a value)
read_plain a None = tt
read_plain a (Some value) = (tt, tt)

write_plain : (a : Access) (value : Option ℕ) → ArePlain (write_moments a value)
write_plain a None = tt
write_plain a (Some value) = (tt, tt)

moments_plain : (a : Access) (effect : Effect) → ArePlain (moments_of a effect)
moments_plain a effect =
    plain_both (read_moments a effect.read) (write_moments a effect.written) (read_plain a effect.read) (write_plain a effect.written)

marks_plain : (count : ℕ) (mark : Mark) → ArePlain (replicate count (happenings.Mark mark))
marks_plain zero mark = tt
marks_plain (suc count) mark = (tt, marks_plain count mark)

-- what is done in between leaves what goes on
record Adds (before after : Standing) : Type 0 where
  more : List Happening
  did : after.progress.did ≡ before.progress.did ++ more
  runs : (going : List Access) → Runs going more going

adds_plain : (before after : Standing) (more : List Happening) → after.progress.did ≡ before.progress.did ++ more → ArePlain more → Adds before after
adds_plain before after more did plain = record { more = more; did = did; runs = λ going. runs_plain going more plain }

adds_none : (before after : Standing) → after.progress.did ≡ before.progress.did → Adds before after
adds_none before after same = adds_plain before after [] (same ∙ sym (append-nil before.progress.did)) tt

operated_adds : (a : Access) (operation : Option Operation) (before : Standing) (records : List Record) (effect : Effect) (rest : List Record)
    → (more : List Happening) × ((operated a operation before records effect rest).progress.did ≡ before.progress.did ++ more) × ArePlain more
operated_adds a None before records effect rest = ([], sym (append-nil before.progress.did), tt)
operated_adds a (Some operations.Load) before records effect rest = (moments_of a effect, refl, moments_plain a effect)
operated_adds a (Some (operations.Add amount)) before records effect rest = (
  moments_of a effect,
  append_assoc before.progress.did (read_moments a effect.read) (write_moments a effect.written),
  moments_plain a effect,
)
operated_adds a (Some (operations.Change change)) before records effect rest = (moments_of a effect, refl, moments_plain a effect)

-- an access, with what is done in it
enclosed : (a b : Access) (inside : List Happening) → b ≡ a → ((going : List Access) → Runs going inside going) → (going : List Access)
    → Runs going (happenings.Begin a ∷ (inside ++ happenings.End b ∷ [])) going
enclosed a b inside same runs going =
    runs_both (a ∷ going) inside (happenings.End b ∷ []) (a ∷ going) going (runs (a ∷ going)) (going, ap (λ (x : Access). x ∷ going) (sym same), refl)

abbrev AddsOn : Standing → List Record → Standing → List Record → Type 0
AddsOn before records after rest = Adds before after

kept_adds : (s : Setting) → Kept s AddsOn
kept_adds s = record {
  still = λ before records. adds_none before before refl;
  joins = λ before between after records later rest p q. record {
    more = p.more ++ q.more;
    did = q.did ∙ (ap (λ (d : List Happening). d ++ q.more) p.did ∙ append_assoc before.progress.did p.more q.more);
    runs = λ going. runs_both going p.more q.more going going (p.runs going) (q.runs going);
  };
  marked = λ ends_nothing count m before records.
      adds_plain before (doing (counting ends_nothing before) records (replicate count (happenings.Mark m))) (replicate count (happenings.Mark m))
      (ap (λ (p : meaning.Progress). p.did ++ replicate count (happenings.Mark m)) (counting_progress ends_nothing before)) (marks_plain count m);
  lost = λ before records. adds_none before _ refl;
  assigned = λ before records register value. adds_none before _ refl;
  makes = λ a operation effect before records after rest made.
      let began : Standing = doing before (drop 1 records) (happenings.Begin a ∷ []) in
      let inside = operated_adds a operation began made.checked effect made.done in
      record {
        more = happenings.Begin a ∷ (inside.0 ++ happenings.End a ∷ []);
        did = ap (λ (st : Standing). st.progress.did) made.comes_to
            ∙ (ap (λ (d : List Happening). d ++ happenings.End a ∷ []) (inside.1 ∙ append_assoc before.progress.did (happenings.Begin a ∷ []) inside.0)
            ∙ append_assoc before.progress.did (happenings.Begin a ∷ inside.0) (happenings.End a ∷ []));
        runs = enclosed a a inside.0 refl (λ going. runs_plain going inside.0 inside.2);
      };
  locks = λ lock before records rest is takes. adds_plain before _ (happenings.Lock lock ∷ []) refl (tt, tt);
  unlocks = λ lock before records rest has frees. adds_plain before _ (happenings.Unlock lock ∷ []) refl (tt, tt);
  scoped = λ a assertion begun before opened closing after records inside later rest opens inner closes. record {
    more = happenings.Begin a ∷ (inner.more ++ happenings.End begun.access ∷ []);
    did = ap (λ (st : Standing). st.progress.did) closes.comes_to
        ∙ (ap (λ (d : List Happening). d ++ happenings.End begun.access ∷ [])
        (inner.did ∙ (ap (λ (st : Standing). st.progress.did ++ inner.more) opens.comes_to ∙ append_assoc before.progress.did (happenings.Begin a ∷ []) inner.more))
        ∙ append_assoc before.progress.did (happenings.Begin a ∷ inner.more) (happenings.End begun.access ∷ []));
    runs = enclosed a begun.access inner.more opens.begins.access inner.runs;
  };
}

-- so it is of all that a task does
pub whole_runs : (s : Setting) (registers : ℕ) (body : Block) (records : List Record) (whole : SpellsAll s registers body records)
    → Runs [] whole.end.progress.did []
whole_runs s registers body records whole =
    let it = by_block s AddsOn (kept_adds s) 0 body (at_first registers) records whole.end [] whole.steps in
    subst (λ (d : List Happening). Runs [] d []) (sym it.did) (it.runs [])
