-- Scoped assertions are open: where they open, where they close, and what follows in their block.
use Rattle.std.proofs.Common.{◌≡◌, ◌<◌, ◌≤◌, ◌↔◌, ◌∙◌, ◌+◌, ◌++◌, ℕ, Bool, IsTrue, List, [], ◌∷◌, None, Option, Some, arith, drop, refl, subst, sym}
use Rattle.access_types.specs.Access.{Access}
use Rattle.access_types.specs.declared.history.Happening.TheVariants as happenings
use Rattle.task_plan.proofs.task_laws.Checks.{OfPasses, check_open, close_open}
use Rattle.task_plan.proofs.task_laws.Opens.{After, Lists, open_map}
use Rattle.litmus_semantics.specs.Calls.{Scoped, scoped_access}
use Rattle.litmus_semantics.specs.Task as meaning
use Rattle.litmus_semantics.specs.Task.{bytes_in}
use Rattle.setup_access.specs.Check.{Check, Close, Passes}
use Rattle.setup_access.specs.OwnAccesses.{AreOwn, IsOwn}
use Rattle.setup_access.specs.declared.begun.Begun.{Begun}
use Rattle.slot_table.specs.declared.records.Record.{Record}
use Rattle.task_plan.proofs.task_laws.SpelledAccesses.{begun_more}
use Rattle.task_plan.proofs.task_laws.SpelledBlocks.{ScopedFits, own_more}
use Rattle.task_plan.proofs.task_laws.Decided.{begins_now, disabled_told}
use Rattle.task_plan.proofs.task_laws.Statements.{few_at, in_range, no_mask, own_access}
use Rattle.task_plan.specs.task_laws.Begins.{one_at}
use Rattle.task_plan.specs.task_laws.StandingButWay.{Core, begun_at, core_of, standing}
use Rattle.task_plan.specs.task_laws.Fits.{ArePlaced, HasBytes}
use Rattle.task_plan.proofs.task_laws.Places.{Both, ByEach, BySome, PartIsOpen, Plain, StepsAreOpen, Valued, WithinFrom, part_as, part_both, part_wider, sum_open}
use Rattle.task_plan.proofs.KeepsLemmas.{begun_still}
use Rattle.program_order.specs.Standing.{BeginsNow, IsDisabled, Setting, Standing, checks_of, doing}
use Rattle.program_order.specs.WrittenOrder.{ClosesScope, OpensScope, Steps, StepsInBlock}

-- after a scoped assertion has opened, and after one has closed
abbrev opened_at : Core → Access → Begun → ℕ → Core
opened_at at a begun asked = record {
  progress = meaning.doing at.progress (happenings.Begin a ∷ []);
  unbalanced = at.unbalanced;
  asked = asked;
  scopes = at.scopes ++ begun ∷ [];
}

abbrev closed_at : Core → List Begun → Begun → ℕ → Core
closed_at at scopes begun asked = record {
  progress = meaning.doing at.progress (happenings.End begun.access ∷ []);
  unbalanced = at.unbalanced;
  asked = asked;
  scopes = scopes;
}

-- where it opened: one access more began at its site, and it is in force
pub record OpenedFrom (s : Setting) (at : Core) (site : ℕ) (begun : Begun) (opened : Core) : Type 0 where
  pub own : IsOwn (checks_of s) begun.access
  pub counts : (k : ℕ) → begun_at k opened ≡ begun_at k at + one_at site k
  pub scopes : opened.scopes ≡ at.scopes ++ begun ∷ []

-- where one closed: no access began, and these are in force
pub record ClosedFrom (at : Core) (earlier : List Begun) (closed : Core) : Type 0 where
  pub counts : (k : ℕ) → begun_at k closed ≡ begun_at k at
  pub scopes : closed.scopes ≡ earlier

module _ (s : Setting) (at : Core) (a : Access) where
  abbrev Opens : Valued Begun
  Opens before records begun after rest = OpensScope s before a records begun after rest

  abbrev Decided : Begun → Type 0
  Decided begun = BeginsNow s (standing at [] []) a begun

  abbrev Checked : (Begun → Core → Lists) → Begun → Lists
  Checked K begun =
      After Passes (λ records passes rest. Check (checks_of s) at.scopes begun at.asked records passes rest)
      (OfPasses (λ asked. K begun (opened_at at a begun asked)))

  opening_apart : (K : Begun → Core → Lists) (records : List Record) → BySome Begun Opens at K records
      → (begun : Begun) × Decided begun × Checked K begun records
  opening_apart K records h =
      let opens = h.5 in
      let now : BeginsNow s (standing at [] []) a h.2 =
      record { own = opens.begins.own; access = opens.begins.access; marked = opens.begins.marked; silenced = opens.begins.silenced } in
      (h.2, now, (opens.passes, h.4, opens.check, subst (λ (end : Standing). K h.2 (core_of end) h.4) opens.comes_to h.6))

  opening_together : (K : Begun → Core → Lists) (records : List Record) → ((begun : Begun) × Decided begun × Checked K begun records)
      → ByEach Begun Opens at K records
  opening_together K records h way outcomes =
      let passes : Passes = h.2.0 in
      let rest : List Record = h.2.1 in
      let end : Standing = record (doing (standing at way outcomes) (drop 1 records) (happenings.Begin a ∷ [])) {
        asked = passes.asked;
        scopes = at.scopes ++ h.0 ∷ [];
        outcomes = outcomes ++ passes.outcomes;
      } in
      let opens : OpensScope s (standing at way outcomes) a records h.0 end rest = record {
        passes = passes;
        begins = record { own = h.1.own; access = h.1.access; marked = h.1.marked; silenced = h.1.silenced };
        check = h.2.2;
        comes_to = refl;
      } in
      (h.0, end, rest, opens, h.2.3)

  pub opens_open : IsOwn (checks_of s) a → 0 < a.size → AreOwn (checks_of s) at.scopes
      → PartIsOpen Begun Opens at (λ begun opened. OpenedFrom s at a.site begun opened)
  opens_open own some others E A follows =
      let begun = begins_now s (standing at [] []) a own some in
      let begun_own : (each : Begun) → Decided each → IsOwn (checks_of s) each.access =
      λ each is. subst (λ (b : Access). IsOwn (checks_of s) b) (sym is.access) own in
      open_map (λ records. (each : Begun) × Decided each × Checked E each records) (BySome Begun Opens at E)
      (λ records. (each : Begun) × Decided each × Checked A each records) (ByEach Begun Opens at A)
      (opening_apart E) (opening_together A)
      (sum_open Begun Decided (Checked E) (Checked A) begun.0 begun.1
      (λ each is. check_open (checks_of s) at.scopes each at.asked (begun_own each is) others
      (λ asked. E each (opened_at at a each asked)) (λ asked. A each (opened_at at a each asked))
      (λ asked. follows each (opened_at at a each asked)
      (record { own = begun_own each is; counts = λ k. begun_more k at.progress.did a; scopes = refl }))))

module _ (s : Setting) (at : Core) (begun : Begun) (scopes : List Begun) where
  abbrev Closes : Valued (Unit {0})
  Closes before records value after rest = ClosesScope s before begun scopes records after rest

  abbrev Tells : Bool → Type 0
  Tells silenced = IsTrue silenced ↔ IsDisabled s (standing at [] [])

  abbrev CheckedLast : (Unit {0} → Core → Lists) → Bool → Lists
  CheckedLast K silenced =
      After Passes (λ records passes rest. Close (checks_of s) begun silenced at.asked records passes rest)
      (OfPasses (λ asked. K tt (closed_at at scopes begun asked)))

  closing_apart : (K : Unit {0} → Core → Lists) (records : List Record) → BySome (Unit {0}) Closes at K records
      → (silenced : Bool) × Tells silenced × CheckedLast K silenced records
  closing_apart K records h =
      let closes = h.5 in
      (closes.silenced, closes.is_silenced, (closes.passes, h.4, closes.close, subst (λ (end : Standing). K tt (core_of end) h.4) closes.comes_to h.6))

  closing_together : (K : Unit {0} → Core → Lists) (records : List Record) → ((silenced : Bool) × Tells silenced × CheckedLast K silenced records)
      → ByEach (Unit {0}) Closes at K records
  closing_together K records h way outcomes =
      let passes : Passes = h.2.0 in
      let rest : List Record = h.2.1 in
      let end : Standing = record (doing (standing at way outcomes) rest (happenings.End begun.access ∷ [])) {
        asked = passes.asked;
        scopes = scopes;
        outcomes = outcomes ++ passes.outcomes;
      } in
      let closes : ClosesScope s (standing at way outcomes) begun scopes records end rest =
      record { passes = passes; silenced = h.0; is_silenced = h.1; close = h.2.2; comes_to = refl } in
      (tt, end, rest, closes, h.2.3)

  pub closes_open : IsOwn (checks_of s) begun.access → PartIsOpen (Unit {0}) Closes at (λ value closed. ClosedFrom at scopes closed)
  closes_open own E A follows =
      let silenced = disabled_told s (standing at [] []) in
      open_map (λ records. (each : Bool) × Tells each × CheckedLast E each records) (BySome (Unit {0}) Closes at E)
      (λ records. (each : Bool) × Tells each × CheckedLast A each records) (ByEach (Unit {0}) Closes at A)
      (closing_apart E) (closing_together A)
      (sum_open Bool Tells (CheckedLast E) (CheckedLast A) silenced.0 silenced.1
      (λ each is. close_open (checks_of s) begun each at.asked own (λ asked. E tt (closed_at at scopes begun asked))
      (λ asked. A tt (closed_at at scopes begun asked))
      (λ asked. follows tt (closed_at at scopes begun asked)
      (record { counts = λ k. begun_still k at.progress.did (happenings.End begun.access ∷ []) (tt, tt); scopes = refl }))))

module _ (s : Setting) (placed : ArePlaced s) where
  -- a scoped assertion, and what follows on it in its block
  scoped_open : (Own Later : Steps) (at : Core) (site : ℕ) (scoped : Scoped) (more : ℕ → ℕ) → site < 256 → begun_at site at < 256
      → AreOwn (checks_of s) at.scopes → HasBytes s scoped.variable
      → ((opened : Core) → ((k : ℕ) → begun_at k opened ≡ begun_at k at + one_at site k) → AreOwn (checks_of s) opened.scopes → StepsAreOpen Later opened more)
      → StepsAreOpen (λ before records after rest. StepsInBlock s site (Some scoped) Own Later before records after rest) at (λ k. one_at site k + more k)
  scoped_open Own Later at site scoped more below few own has later =
      let a : Access = scoped_access s.text site at.progress scoped in
      let a_own : IsOwn (checks_of s) a =
      own_access s placed site at.progress (bytes_in s.text scoped.variable) scoped.kind None below few (in_range s placed scoped.variable has)
      (no_mask s placed) in
      let CloseIt : Begun → Valued (Unit {0}) = λ begun before records value after rest. ClosesScope s before begun at.scopes records after rest in
      let Rest : Begun → Valued (Unit {0}) = λ begun. Both (Unit {0}) (Unit {0}) (Plain Later) (λ value. CloseIt begun) in
      let All : Valued (Unit {0}) = Both Begun (Unit {0}) (Opens s at a) Rest in
      let Ends : Unit {0} → Core → Type 0 = λ value after. WithinFrom at (λ k. one_at site k + more k) after in
      part_as (Unit {0}) All (Plain (λ before records after rest. StepsInBlock s site (Some scoped) Own Later before records after rest)) at Ends
      (λ way outcomes records value after rest. (
        λ h. (h.0, h.1, h.4.1, h.2, h.4.2, h.3, h.4.3, h.4.4),
        λ h. (h.0, h.1, h.3, h.5, (tt, h.2, h.4, h.6, h.7)),
      ))
      (part_both Begun (Unit {0}) (Opens s at a) Rest at (λ begun opened. OpenedFrom s at site begun opened) Ends (opens_open s at a a_own has.some own)
      (λ begun opened is. part_both (Unit {0}) (Unit {0}) (Plain Later) (λ value. CloseIt begun) opened (λ value closing. WithinFrom opened more closing) Ends
      (later opened is.counts (subst (λ (scopes : List Begun). AreOwn (checks_of s) scopes) (sym is.scopes)
      (own_more (checks_of s) at.scopes begun own is.own)))
      (λ value closing inside. part_wider (Unit {0}) (CloseIt begun) closing (λ v closed. ClosedFrom closing at.scopes closed) Ends
      (λ v closed ends. record {
        counts = λ k. let first = is.counts k in let rise = inside.counts k in let last = ends.counts k in omega (arith, first, rise, last);
        scopes = ends.scopes;
      })
      (closes_open s closing begun at.scopes is.own))))

  -- a statement, and those after it in its block
  pub in_block_open : (scoped : Option Scoped) (Own Later : Steps) (at : Core) (site : ℕ) (few more : ℕ → ℕ) → ScopedFits s placed scoped site few
      → ((k : ℕ) → begun_at k at + few k ≤ 256) → AreOwn (checks_of s) at.scopes → StepsAreOpen Own at few
      → ((next : Core) → ((k : ℕ) → begun_at k next ≤ begun_at k at + few k) → AreOwn (checks_of s) next.scopes → StepsAreOpen Later next more)
      → StepsAreOpen (λ before records after rest. StepsInBlock s site scoped Own Later before records after rest) at (λ k. few k + more k)
  in_block_open None Own Later at site few more fits room own first later =
      let Ends : Unit {0} → Core → Type 0 = λ value after. WithinFrom at (λ k. few k + more k) after in
      part_as (Unit {0}) (Both (Unit {0}) (Unit {0}) (Plain Own) (λ value. Plain Later))
      (Plain (λ before records after rest. StepsInBlock s site None Own Later before records after rest)) at Ends
      (λ way outcomes records value after rest. (λ h. (h.1, h.2, h.3, h.4), λ h. (tt, h.0, h.1, h.2, h.3)))
      (part_both (Unit {0}) (Unit {0}) (Plain Own) (λ value. Plain Later) at (λ value next. WithinFrom at few next) Ends first
      (λ value next is. part_wider (Unit {0}) (Plain Later) next (λ v after. WithinFrom next more after) Ends
      (λ v after within. record {
        counts = λ k. let one = is.counts k in let two = within.counts k in omega (arith, one, two);
        scopes = within.scopes ∙ is.scopes;
      })
      (later next is.counts (subst (λ (scopes : List Begun). AreOwn (checks_of s) scopes) (sym is.scopes) own))))
  in_block_open (Some scoped) Own Later at site few more fits room own first later =
      let one_room : (k : ℕ) → begun_at k at + one_at site k ≤ 256 = λ k. let one = fits.2 k in let all = room k in omega (arith, one, all) in
      part_wider (Unit {0}) (Plain (λ before records after rest. StepsInBlock s site (Some scoped) Own Later before records after rest)) at
      (λ value after. WithinFrom at (λ k. one_at site k + more k) after) (λ value after. WithinFrom at (λ k. few k + more k) after)
      (λ value after is. record { counts = λ k. let one = fits.2 k in let all = is.counts k in omega (arith, one, all); scopes = is.scopes })
      (scoped_open Own Later at site scoped more fits.1 (few_at s placed site at one_room) own fits.0
      (λ opened raised are. later opened (λ k. let one = fits.2 k in let same = raised k in omega (arith, one, same)) are))
