-- In all that a text does each access begins once: two begins of one access are the same begin.
use Rattle.std.proofs.Common.{◌≡◌, ◌∙◌, ◌++◌, ℕ, List, [], ◌∷◌, Some, ap, length, refl, slice_get, subst, sym, take}
use Rattle.access_types.specs.Access as access
use Rattle.access_types.specs.declared.history.Happening.{Happening}
use Rattle.access_types.specs.declared.history.Happening.TheVariants as happenings
use Rattle.litmus_semantics.proofs.TextSitesLemmas.{begun_at}
use Rattle.litmus_semantics.proofs.TicketLemmas.{numbered}
use Rattle.litmus_syntax.specs.Tree.{Block}
use Rattle.slot_table.specs.declared.records.Record.{Record}
use Rattle.program_order.specs.Standing.{Setting}
use Rattle.program_order.specs.WrittenOrder.{SpellsAll}
use Rattle.program_order.proofs.MeaningLemmas.{whole_means}
use Rattle.executions.proofs.execution.OwnMarks.{begins_once}

pub there : (before later : List Happening) (x : Happening) → slice_get (before ++ x ∷ later) (length before) ≡ Some x
there [] later x = refl
there (first ∷ before) later x = there before later x

take_front : (p q : List Happening) → take (length p) (p ++ q) ≡ p
take_front [] q = refl
take_front (x ∷ p) q = ap (λ (d : List Happening). x ∷ d) (take_front p q)

module _ (s : Setting) (registers : ℕ) (body : Block) (records : List Record) (whole : SpellsAll s registers body records) where
  begins_as : (a : access.Access) (p q : List Happening) → whole.end.progress.did ≡ p ++ happenings.Begin a ∷ q → a.rep ≡ begun_at a.site p
  begins_as a p q split =
      let means = whole_means s registers body records whole in
      let at : slice_get whole.end.progress.did (length p) ≡ Some (happenings.Begin a) =
      subst (λ (d : List Happening). slice_get d (length p) ≡ Some (happenings.Begin a)) (sym split) (there p q (happenings.Begin a)) in
      let got = numbered s.text body _ whole.end.progress means (length p) a at in
      let front : take (length p) whole.end.progress.did ≡ p =
      ap (λ (d : List Happening). take (length p) d) split ∙ take_front p (happenings.Begin a ∷ q) in
      ap (λ (x : access.Access). x.rep) got.2 ∙ ap (λ (d : List Happening). begun_at a.site d) front

  pub begin_once : (a : access.Access) (p q r t : List Happening) → whole.end.progress.did ≡ p ++ happenings.Begin a ∷ q
      → whole.end.progress.did ≡ r ++ happenings.Begin a ∷ t → p ≡ r
  begin_once a p q r t first second =
      begins_once a whole.end.progress.did p q r t first second (begins_as a p q first) (begins_as a r t second)
