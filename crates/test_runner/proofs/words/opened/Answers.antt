-- Each seat of a new table is of it, and has no record.
use Rattle.std.proofs.Common.{◌≡◌, ℕ, List, [], All, refl}
use Rattle.std.specs.List.{range_with_len}
use Rattle.std.proofs.lemmas.List.Elements.{All-map, All-same}
use Rattle.std.proofs.lemmas.Result.{IfOk-weaker}
use Rattle.shared_table.specs.Seats.{Opened, Sitting, new_seats}
use Rattle.test_runner.proofs.words.opened.Goals as goal

all_new : (opened : Opened) (tasks : ℕ) (seats : List Sitting) → seats ≡ new_seats opened tasks
    → All (λ (seat : Sitting). (seat.table ≡ opened) × (seat.records ≡ [])) seats
all_new opened tasks seats is =
    let P : Sitting → Type 0 = λ seat. (seat.table ≡ opened) × (seat.records ≡ []) in
    let new : ℕ → Sitting = λ task. record { table = opened; task = task; records = [] } in
    All-same P seats (new_seats opened tasks) is
    (All-map P new (range_with_len 0 tasks) (λ k d lt. (refl, refl)))

pub returns : goal.returns
returns c =
    IfOk-weaker c.new.result _ _ (λ made is. all_new made.0 c.args.tasks made.1.items is) c.new.ensures.seats
