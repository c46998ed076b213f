-- What the records begin with, as a part of them that stands for itself before anything.
use Rattle.std.proofs.Common.{◌≡◌, ◌∙◌, ◌++◌, ◌∷◌, [], ℕ, List, ap, append_assoc, refl, subst, sym}
use Rattle.std.proofs.lemmas.List.{append-nil}
use Rattle.access_run.specs.memory_operation.Frames.{Framed}
use Rattle.setup_access.specs.Records.{MakesWord, OnWord}
use Rattle.slot_table.specs.declared.records.Record.{Record}
use Rattle.slot_table.specs.declared.step.Answer.{Answer}
use Rattle.slot_table.specs.declared.step.Answer.TheVariants as answers
use Rattle.slot_table.specs.declared.step.Step.{Step}

abbrev pub Front : (List Record → List Record → Type 0) → List Record → List Record → Type 0
Front Begins records rest =
    (part : List Record) × (records ≡ part ++ rest) × ((other : List Record) → Begins (part ++ other) other)

-- nothing of them
pub front_none : (P : Type 0) (records rest : List Record) → P → rest ≡ records
    → Front (λ r l. P × (l ≡ r)) records rest
front_none P records rest p is = ([], sym is, λ other. (p, refl))

-- one record, and what follows on it
pub front_first : (Begins Goes : List Record → List Record → Type 0) (first : Record) (later rest : List Record)
    → Front Goes later rest → ((more left : List Record) → Goes more left → Begins (first ∷ more) left)
    → Front Begins (first ∷ later) rest
front_first Begins Goes first later rest front begins = (
  first ∷ front.0,
  ap (λ l. first ∷ l) front.1,
  λ other. begins (front.0 ++ other) other (front.2 other),
)

-- one thing after another
pub front_then : (First Second Both : List Record → List Record → Type 0) (records between rest : List Record)
    → Front First records between → Front Second between rest
    → ((r m l : List Record) → First r m → Second m l → Both r l) → Front Both records rest
front_then First Second Both records between rest first second both = (
  first.0 ++ second.0,
  first.1 ∙ (ap (λ l. first.0 ++ l) second.1 ∙ sym (append_assoc first.0 second.0 rest)),
  λ other. subst (λ r. Both r other) (sym (append_assoc first.0 second.0 other))
      (both (first.0 ++ (second.0 ++ other)) (second.0 ++ other) other (first.2 (second.0 ++ other)) (second.2 other)),
)

pub front_map : (First Second : List Record → List Record → Type 0) (records rest : List Record)
    → Front First records rest → ((r l : List Record) → First r l → Second r l) → Front Second records rest
front_map First Second records rest front map = (front.0, front.1, λ other. map (front.0 ++ other) other (front.2 other))

-- a word for an answer, and what follows on it
front_answer : (Goes : ℕ → List Record → List Record → Type 0) (answer : Answer) (later rest : List Record)
    → OnWord answer (λ word. Goes word later rest)
    → ((word : ℕ) → Goes word later rest → Front (Goes word) later rest)
    → Front (λ l r. OnWord answer (λ word. Goes word l r)) later rest
front_answer Goes (answers.Word word) later rest h fronts = fronts word h
front_answer Goes (answers.Flag flag) later rest h fronts = absurd h
front_answer Goes (answers.Halves setter finder) later rest h fronts = absurd h
front_answer Goes answers.Done later rest h fronts = absurd h

pub front_word : (task : ℕ) (step : Step) (Goes : ℕ → List Record → List Record → Type 0) (records rest : List Record)
    → MakesWord task step (λ word later. Goes word later rest) records
    → ((word : ℕ) (later : List Record) → Goes word later rest → Front (Goes word) later rest)
    → Front (λ r l. MakesWord task step (λ word later. Goes word later l) r) records rest
front_word task step Goes [] rest h fronts = absurd h
front_word task step Goes (first ∷ later) rest h fronts =
    front_first (λ r l. MakesWord task step (λ word more. Goes word more l) r)
    (λ more l. OnWord first.answer (λ word. Goes word more l)) first later rest
    (front_answer Goes first.answer later rest h.2 (λ word got. fronts word later got))
    (λ more left got. (h.0, h.1, got))

-- a front is a frame
pub framed : (Begins : List Record → List Record → Type 0)
    → ((records rest : List Record) → Begins records rest → Front Begins records rest) → Framed Begins
framed Begins front records rest = (
  λ h. let own = front records rest h in (own.0, subst (λ r. Begins r []) (append-nil own.0) (own.2 []), own.1),
  λ h. let own = front h.0 [] h.1 in
      let part_is : own.0 ≡ h.0 = sym (own.1 ∙ append-nil own.0) in
      subst (λ r. Begins r rest) (sym h.2) (subst (λ p. Begins (p ++ rest) rest) part_is (own.2 rest)),
)
