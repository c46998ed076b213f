-- Steps whose answers are flags, halves or nothing, and what follows on them.
use Rattle.std.proofs.Common.{◌≡◌, ◌∷◌, [], ℕ, Bool, List}
use Rattle.access_run.proofs.memory_operation.Fronts.{Front, front_first, front_map}
use Rattle.setup_access.specs.Records.{MakesDone, MakesFlag, OnFlag, OnHalves}
use Rattle.slot.specs.Pair.{Halves}
use Rattle.slot_table.specs.declared.records.Record.{Record}
use Rattle.slot_table.specs.declared.step.Answer.{Answer}
use Rattle.slot_table.specs.declared.step.Answer.TheVariants as answers
use Rattle.slot_table.specs.declared.step.Step.{Step}

flag_answer : (Goes : Bool → List Record → List Record → Type 0) (answer : Answer) (later rest : List Record)
    → OnFlag answer (λ flag. Goes flag later rest)
    → ((flag : Bool) → Goes flag later rest → Front (Goes flag) later rest)
    → Front (λ l r. OnFlag answer (λ flag. Goes flag l r)) later rest
flag_answer Goes (answers.Word word) later rest h fronts = absurd h
flag_answer Goes (answers.Flag flag) later rest h fronts = fronts flag h
flag_answer Goes (answers.Halves setter finder) later rest h fronts = absurd h
flag_answer Goes answers.Done later rest h fronts = absurd h

pub front_flag : (task : ℕ) (step : Step) (Goes : Bool → List Record → List Record → Type 0) (records rest : List Record)
    → MakesFlag task step (λ flag later. Goes flag later rest) records
    → ((flag : Bool) (later : List Record) → Goes flag later rest → Front (Goes flag) later rest)
    → Front (λ r l. MakesFlag task step (λ flag later. Goes flag later l) r) records rest
front_flag task step Goes [] rest h fronts = absurd h
front_flag task step Goes (first ∷ later) rest h fronts =
    front_first (λ r l. MakesFlag task step (λ flag more. Goes flag more l) r)
    (λ more l. OnFlag first.answer (λ flag. Goes flag more l)) first later rest
    (flag_answer Goes first.answer later rest h.2 (λ flag got. fronts flag later got))
    (λ more left got. (h.0, h.1, got))

pub front_done : (task : ℕ) (step : Step) (Goes : List Record → List Record → Type 0) (records rest : List Record)
    → MakesDone task step (λ later. Goes later rest) records
    → ((later : List Record) → Goes later rest → Front Goes later rest)
    → Front (λ r l. MakesDone task step (λ later. Goes later l) r) records rest
front_done task step Goes [] rest h fronts = absurd h
front_done task step Goes (first ∷ later) rest h fronts =
    front_first (λ r l. MakesDone task step (λ more. Goes more l) r)
    (λ more l. (first.answer ≡ answers.Done) × Goes more l) first later rest
    (front_map Goes (λ more l. (first.answer ≡ answers.Done) × Goes more l) later rest (fronts later h.2.1) (λ r l own. (h.2.0, own)))
    (λ more left got. (h.0, h.1, got))

pub halves_answer : (Goes : Halves → List Record → List Record → Type 0) (answer : Answer) (later rest : List Record)
    → OnHalves answer (λ heard. Goes heard later rest)
    → ((heard : Halves) → Goes heard later rest → Front (Goes heard) later rest)
    → Front (λ l r. OnHalves answer (λ heard. Goes heard l r)) later rest
halves_answer Goes (answers.Word word) later rest h fronts = absurd h
halves_answer Goes (answers.Flag flag) later rest h fronts = absurd h
halves_answer Goes (answers.Halves setter finder) later rest h fronts = fronts (record { setter = setter; finder = finder }) h
halves_answer Goes answers.Done later rest h fronts = absurd h
