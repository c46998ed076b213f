-- A task whose records spell its whole text stands where the text ends.
use Rattle.std.proofs.Common.{◌≡◌, ◌∙◌, ◌++◌, ◌∷◌, [], ℕ, true, List, ap, arith, drop, le_refl, length, refl, replicate, subst, sym}
use Rattle.std.proofs.lemmas.Bool.{le-leb}
use Rattle.std.proofs.lemmas.List.{append-nil}
use Rattle.access_types.specs.declared.history.Happening.TheVariants as happenings
use Rattle.litmus_semantics.specs.Task as meaning
use Rattle.litmus_syntax.specs.Tree.{Block}
use Rattle.slot_table.specs.declared.records.Record.{Record}
use Rattle.task_run.specs.Position.{last_of}
use Rattle.program_order.proofs.Induction.{Kept, by_block}
use Rattle.program_order.specs.Access.{operated}
use Rattle.program_order.specs.Standing.{Point, Setting, Standing, coming, counting, doing, point_by}
use Rattle.program_order.specs.TaskObserved.{stands_by}
use Rattle.program_order.specs.WrittenOrder.{SpellsAll, StepsOfBlock, WrittenOrder, at_first, first_point, stands_after}
use Rattle.executions.specs.observation_determinism.TellAlike.{StandsAlike, TellAlike}

last_with : (last : Point) (points : List Point) (one : Point) → last_of last (points ++ one ∷ []) ≡ one
last_with last [] one = refl
last_with last (next ∷ points) one = last_with next points one

-- at 0 records to come all points are passed
past_all : (last : Point) (points : List Point) → point_by 0 last points ≡ last_of last points
past_all last [] = refl
past_all last (next ∷ points) = rw (le-leb 0 next.to_come (omega arith)) (past_all next points)

module _ (first : Point) where
  -- the last point of the way is where the task stands
  record IsLast (before : Standing) : Type 0 where
    progress : (last_of first before.way).progress ≡ before.progress
    unbalanced : (last_of first before.way).unbalanced ≡ before.unbalanced

  abbrev Stays : Standing → List Record → Standing → List Record → Type 0
  Stays before records after rest = IsLast before → IsLast after

  arrives : (before : Standing) (later : List Record) (progress : meaning.Progress) → IsLast (coming before later progress)
  arrives before later progress =
      let one : Point = record { to_come = length later; progress = progress; unbalanced = before.unbalanced } in record {
        progress = ap (λ (p : Point). p.progress) (last_with first before.way one);
        unbalanced = ap (λ (p : Point). p.unbalanced) (last_with first before.way one);
      }

  -- so it is where it stands so in all else but its checks
  as_before : (one other : Standing) → other.way ≡ one.way → other.progress ≡ one.progress → other.unbalanced ≡ one.unbalanced
      → IsLast one → IsLast other
  as_before one other way progress unbalanced is = record {
    progress = ap (λ (w : List Point). (last_of first w).progress) way ∙ (is.progress ∙ sym progress);
    unbalanced = ap (λ (w : List Point). (last_of first w).unbalanced) way ∙ (is.unbalanced ∙ sym unbalanced);
  }

  kept_last : (s : Setting) → Kept s Stays
  kept_last s = record {
    still = λ before records is. is;
    joins = λ before between after records later rest p q is. q (p is);
    marked = λ ends_nothing count m before records is. arrives (counting ends_nothing before) records
        (meaning.doing (counting ends_nothing before).progress (replicate count (happenings.Mark m)));
    lost = λ before records is. arrives (counting true before) records before.progress;
    assigned = λ before records register value is. arrives before records (meaning.assigning before.progress register value);
    makes = λ a operation effect before records after rest h is.
        let began : Standing = doing before (drop 1 records) (happenings.Begin a ∷ []) in
        let made : Standing = operated a operation began h.checked effect h.done in
        as_before (doing made rest (happenings.End a ∷ [])) after (ap (λ (st : Standing). st.way) h.comes_to)
        (ap (λ (st : Standing). st.progress) h.comes_to) (ap (λ (st : Standing). st.unbalanced) h.comes_to)
        (arrives made rest (meaning.doing made.progress (happenings.End a ∷ [])));
    locks = λ lock before records rest is takes last. arrives before rest (meaning.doing before.progress (happenings.Lock lock ∷ []));
    unlocks = λ lock before records rest has frees last. arrives before rest (meaning.doing before.progress (happenings.Unlock lock ∷ []));
    scoped = λ a assertion begun before opened closing after records inside later rest opens inner closes is.
        as_before (doing closing rest (happenings.End begun.access ∷ [])) after (ap (λ (st : Standing). st.way) closes.comes_to)
        (ap (λ (st : Standing). st.progress) closes.comes_to) (ap (λ (st : Standing). st.unbalanced) closes.comes_to)
        (arrives closing rest (meaning.doing closing.progress (happenings.End begun.access ∷ [])));
  }

module _ (s : Setting) (registers : ℕ) (body : Block) (records : List Record) (written : WrittenOrder s registers body records)
    (spells : SpellsAll s registers body records) where
  -- nothing completes the records
  abbrev pub alone : WrittenOrder s registers body records
  alone = record {
    more = [];
    whole = record {
      end = spells.end;
      steps = subst (λ (r : List Record). StepsOfBlock s 0 body (at_first registers) r spells.end [])
          (sym (append-nil records)) spells.steps;
    };
  }

  last : IsLast (first_point (length (records ++ [])) registers) spells.end
  last =
      by_block s (Stays (first_point (length (records ++ [])) registers))
      (kept_last (first_point (length (records ++ [])) registers) s) 0 body
      (at_first registers) records spells.end [] spells.steps (record { progress = refl; unbalanced = refl })

  module _ (same : TellAlike written alone (length records)) (now : stands_after written ≡ stands_by written (length records))
      (then : stands_after alone ≡ stands_by alone (length records)) where
    at_end : StandsAlike (stands_after written) (stands_after alone)
    at_end =
        let alike = same.stands (length records) (le_refl (length records)) in record {
          progress = ap (λ (p : Point). p.progress) now ∙ (alike.progress ∙ ap (λ (p : Point). p.progress) (sym then));
          unbalanced = ap (λ (p : Point). p.unbalanced) now ∙ (alike.unbalanced ∙ ap (λ (p : Point). p.unbalanced) (sym then));
        }

    pub end_progress : (stands_after written).progress ≡ spells.end.progress
    end_progress =
        at_end.progress
        ∙ (ap (λ (p : Point). p.progress) (past_all (first_point (length (records ++ [])) registers) spells.end.way) ∙ last.progress)

    pub end_unbalanced : (stands_after written).unbalanced ≡ spells.end.unbalanced
    end_unbalanced =
        at_end.unbalanced
        ∙ (ap (λ (p : Point). p.unbalanced) (past_all (first_point (length (records ++ [])) registers) spells.end.way) ∙ last.unbalanced)
