-- What a word that was read makes of what a look-up has left.
use Rattle.std.proofs.Common.{◌≡◌, ◌↔◌, ◌∷◌, [], ◌+◌, ℕ, List, Option, Some, inl, inr, refl}
use Rattle.access_types.specs.Access.{Access}
use Rattle.slot_table.specs.declared.records.Record.{Record}
use Rattle.slot_table.specs.declared.step.Answer.TheVariants.{Word}
use Rattle.slot_table.specs.declared.step.Step.TheVariants.{Load}
use Rattle.setup_access.specs.Find.{LooksUp}
use Rattle.setup_access.specs.Hits.{Hits}
use Rattle.setup_access.specs.Parts.{left_to_look, made}
use Rattle.slot_table.specs.index_order.Indices.{look_index}
use Rattle.setup_access.specs.Setting.{Setting, slot_of}
use Rattle.setup_access.specs.declared.outcome.Watchpoint.{Watchpoint}
use Rattle.slot_table.specs.declared.index_order.place.ProbeIndex.{ProbeIndex}
use Rattle.slot_table.specs.declared.index_order.place.ProbeIndex.TheVariants.{First, Second, Third}

module _ (s : Setting) (a : Access) (word : ℕ) (found : Option Watchpoint) (later rest : List Record) (hits : Hits s.rules.layout a word) where
  -- a word that matches ends the look-up
  looked_hit : (index : ℕ) (indices : List ℕ)
      → (LooksUp s a (index ∷ indices) (made s.task (Load index) (Word word) ∷ later) found rest ↔ ((found ≡ Some (record { index = index; word = word })) × (rest ≡ later)))
  looked_hit index indices = (λ h. elim h.2 [ inl p ↦ (p.1, p.2) | inr q ↦ absurd (q.0 hits) ], λ p. (refl, refl, inl (hits, p.0, p.1)))

  -- at whatever place
  pub found_at : (place : ProbeIndex)
      → (LooksUp s a (left_to_look place (slot_of s a)) (made s.task (Load (look_index place (slot_of s a))) (Word word) ∷ later) found rest
      ↔ ((found ≡ Some (record { index = look_index place (slot_of s a); word = word })) × (rest ≡ later)))
  found_at First = looked_hit (slot_of s a) ((slot_of s a + 1) ∷ (slot_of s a + 2) ∷ [])
  found_at Second = looked_hit (slot_of s a + 1) ((slot_of s a + 2) ∷ [])
  found_at Third = looked_hit (slot_of s a + 2) []
