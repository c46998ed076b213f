-- What the records of a list weigh is what those of its tasks weigh together.
use Rattle.std.proofs.Common.{◌≡◌, ◌≢◌, ◌<◌, ◌≤◌, ◌+◌, ◌∙◌, ◌∷◌, [], inl, inr, ℕ, zero, suc, Bool, List, ap, arith, cond, count_by, nat_lt, refl, sym}
use Rattle.std.proofs.lemmas.Bool.{le-ltb, lt-ltb, ne_eqb}
use Rattle.std.proofs.lemmas.Bool.Decides.{eqb_tells, leb_tells}
use Rattle.std.proofs.lemmas.List.Sums.{sum_by-cons}
use Rattle.executions.proofs.execution.OwnLasts.{own_latest}
use Rattle.slot_table.specs.Records.{records_of}
use Rattle.slot_table.specs.declared.records.Record.{Record}
use Rattle.slot_table.specs.declared.step.Answer.{Answer}
use Rattle.slot_table.specs.declared.step.Step.{Step}

pub counted : {X : Type 0} (p : X → Bool) (x : X) (xs : List X) → count_by p (x ∷ xs) ≡ cond (p x) 1 0 + count_by p xs
counted p x xs = sum_by-cons (λ g. cond (p g) 1 0) x xs

-- what a record weighs depends on what its task made before
abbrev pub Weight : Type 0
Weight = Record → List Record → ℕ

-- the records of a list, and the records of one task alone
abbrev pub weigh : Weight → List Record → ℕ
weigh w [] = 0
weigh w (latest ∷ earlier) = w latest (records_of latest.task earlier) + weigh w earlier

abbrev pub weigh_own : Weight → List Record → ℕ
weigh_own w [] = 0
weigh_own w (latest ∷ earlier) = w latest earlier + weigh_own w earlier

-- a step and its answer weigh 1, or nothing
abbrev pub of_step : (Step → Answer → Bool) → Weight
of_step is latest own = cond (is latest.step latest.answer) 1 0

pub counts_weigh : (is : Step → Answer → Bool) (records : List Record) → count_by (λ made. is made.step made.answer) records ≡ weigh (of_step is) records
counts_weigh is [] = refl
counts_weigh is (latest ∷ earlier) =
    counted (λ (made : Record). is made.step made.answer) latest earlier
    ∙ ap (λ (n : ℕ). cond (is latest.step latest.answer) 1 0 + n) (counts_weigh is earlier)

-- those of the tasks below a number
abbrev weigh_below : Weight → ℕ → List Record → ℕ
weigh_below w tasks [] = 0
weigh_below w tasks (latest ∷ earlier) =
    cond (nat_lt latest.task tasks) (w latest (records_of latest.task earlier)) 0 + weigh_below w tasks earlier

kept : (w : Weight) (tasks : ℕ) (latest : Record) (earlier : List Record) → latest.task < tasks
    → weigh_below w tasks (latest ∷ earlier) ≡ w latest (records_of latest.task earlier) + weigh_below w tasks earlier
kept w tasks latest earlier less = rw (lt-ltb latest.task tasks less) refl

dropped : (w : Weight) (tasks : ℕ) (latest : Record) (earlier : List Record) → tasks ≤ latest.task
    → weigh_below w tasks (latest ∷ earlier) ≡ 0 + weigh_below w tasks earlier
dropped w tasks latest earlier more = rw (le-ltb latest.task tasks more) refl

none_below : (w : Weight) (records : List Record) → weigh_below w 0 records ≡ 0
none_below w [] = refl
none_below w (latest ∷ earlier) =
    let one = dropped w 0 latest earlier (omega arith) in let rest = none_below w earlier in omega (arith, one, rest)

-- a record's task is one of those before a number, this one, or one after it
data Place (task : ℕ) (made : Record) : Type 0 where
  comes_before : made.task < task → Place task made
  is_this : made.task ≡ task → Place task made
  comes_after : task < made.task → Place task made

place : (task : ℕ) (made : Record) → Place task made
place task made = elim (leb_tells task made.task) [
  | inr less ↦ comes_before less.1
  | inl more ↦ elim (eqb_tells made.task task) [
    | inl same ↦ is_this same.1
    | inr apart ↦
        let most : task ≤ made.task = more.1 in
        let differs : made.task ≢ task = apart.1 in comes_after (omega (arith, most, differs))
  ]
]

others_own : (w : Weight) (task : ℕ) (latest : Record) (earlier : List Record) → latest.task ≢ task
    → weigh_own w (records_of task (latest ∷ earlier)) ≡ weigh_own w (records_of task earlier)
others_own w task latest earlier differs = rw (ne_eqb latest.task task differs) refl

mine_own : (w : Weight) (task : ℕ) (latest : Record) (earlier : List Record) → latest.task ≡ task
    → weigh_own w (records_of task (latest ∷ earlier)) ≡ w latest (records_of latest.task earlier) + weigh_own w (records_of task earlier)
mine_own w task latest earlier is =
    ap (λ (r : List Record). weigh_own w r) (own_latest task latest earlier is)
    ∙ ap (λ (t : ℕ). w latest (records_of t earlier) + weigh_own w (records_of task earlier)) (sym is)

one_task_more : (w : Weight) (task : ℕ) (records : List Record)
    → weigh_below w (suc task) records ≡ weigh_below w task records + weigh_own w (records_of task records)
one_task_more w task [] = refl
one_task_more w task (latest ∷ earlier) = by_place (one_task_more w task earlier) (place task latest)
  where
    by_place : weigh_below w (suc task) earlier ≡ weigh_below w task earlier + weigh_own w (records_of task earlier)
        → Place task latest
        → weigh_below w (suc task) (latest ∷ earlier) ≡ weigh_below w task (latest ∷ earlier) + weigh_own w (records_of task (latest ∷ earlier))
    by_place rest (comes_before less) =
        let all = kept w (suc task) latest earlier (omega (arith, less)) in
        let some = kept w task latest earlier less in
        let own = others_own w task latest earlier (λ (is : latest.task ≡ task). omega (arith, less, is)) in
        omega (arith, all, some, own, rest)
    by_place rest (is_this is) =
        let all = kept w (suc task) latest earlier (omega (arith, is)) in
        let some = dropped w task latest earlier (omega (arith, is)) in
        let own = mine_own w task latest earlier is in omega (arith, all, some, own, rest)
    by_place rest (comes_after more) =
        let all = dropped w (suc task) latest earlier (omega (arith, more)) in
        let some = dropped w task latest earlier (omega (arith, more)) in
        let own = others_own w task latest earlier (λ (is : latest.task ≡ task). omega (arith, more, is)) in
        omega (arith, all, some, own, rest)

-- no task of a list reaches this number
abbrev bound : List Record → ℕ
bound [] = 0
bound (latest ∷ earlier) = suc latest.task + bound earlier

all_below : (w : Weight) (tasks : ℕ) (records : List Record) → bound records ≤ tasks → weigh_below w tasks records ≡ weigh w records
all_below w tasks [] within = refl
all_below w tasks (latest ∷ earlier) within =
    let all : suc latest.task + bound earlier ≤ tasks = within in
    let one = kept w tasks latest earlier (omega (arith, all)) in
    let rest = all_below w tasks earlier (omega (arith, all)) in one ∙ ap (λ (n : ℕ). w latest (records_of latest.task earlier) + n) rest

-- what weighs the same of each task weighs the same of all
module _ (one other : Weight) (records : List Record)
    (alike : (task : ℕ) → weigh_own one (records_of task records) ≡ weigh_own other (records_of task records)) where
  alike_below : (tasks : ℕ) → weigh_below one tasks records ≡ weigh_below other tasks records
  alike_below zero = none_below one records ∙ sym (none_below other records)
  alike_below (suc task) =
      let left = one_task_more one task records in
      let right = one_task_more other task records in
      let its = alike task in
      let rest = alike_below task in omega (arith, left, right, its, rest)

  pub alike_all : weigh one records ≡ weigh other records
  alike_all =
      sym (all_below one (bound records) records (omega arith))
      ∙ (alike_below (bound records) ∙ all_below other (bound records) records (omega arith))

pub weigh_both : (one other : Weight) (records : List Record)
    → weigh (λ latest own. one latest own + other latest own) records ≡ weigh one records + weigh other records
weigh_both one other [] = refl
weigh_both one other (latest ∷ earlier) =
    let own : List Record = records_of latest.task earlier in
    let rest : weigh (λ l o. one l o + other l o) earlier ≡ weigh one earlier + weigh other earlier = weigh_both one other earlier in
    let sum : (one latest own + other latest own) + weigh (λ l o. one l o + other l o) earlier
    ≡ (one latest own + weigh one earlier) + (other latest own + weigh other earlier) = omega (arith, rest) in sum
