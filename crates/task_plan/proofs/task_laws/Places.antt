-- Parts of a text are open, from a place on: whatever the way there and what came of checks.
use Rattle.std.proofs.Common.{◌≡◌, ◌↔◌, ◌+◌, ◌≤◌, ℕ, List, subst, sym}
use Rattle.task_plan.proofs.task_laws.Opens.{After, Begins, IsOpen, Lists, Open, open_map}
use Rattle.setup_access.specs.Check.{Fallen}
use Rattle.slot_table.specs.declared.records.Record.{Record}
use Rattle.task_plan.specs.task_laws.StandingButWay.{Core, begun_at, core_of, standing}
use Rattle.program_order.specs.Standing.{Point, Standing}

-- the steps of a part of a text that gives a value
abbrev pub Valued : Type 0 → Type 1
Valued X = Standing → List Record → X → Standing → List Record → Type 0

-- a list that begins with the part from this place on, by some way there, and goes on with this
abbrev pub BySome : (X : Type 0) → Valued X → Core → (X → Core → Lists) → Lists
BySome X P at K records =
    (way : List Point) × (outcomes : List Fallen) × (value : X) × (after : Standing) × (rest : List Record)
    × P (standing at way outcomes) records value after rest × K value (core_of after) rest

-- one that does so by each way
abbrev pub ByEach : (X : Type 0) → Valued X → Core → (X → Core → Lists) → Lists
ByEach X P at K records = (way : List Point) (outcomes : List Fallen)
    → (value : X) × (after : Standing) × (rest : List Record) × P (standing at way outcomes) records value after rest × K value (core_of after) rest

-- whatever is open to follow where it may lead, the part is open with that
abbrev pub PartIsOpen : (X : Type 0) → Valued X → Core → (X → Core → Type 0) → Type 1
PartIsOpen X P at Leads =
    (E A : X → Core → Lists) → ((value : X) (after : Core) → Leads value after → Open (E value after) (A value after))
    → Open (BySome X P at E) (ByEach X P at A)

-- one part after another, whose value it goes by
abbrev pub Both : (X Y : Type 0) → Valued X → (X → Valued Y) → Valued Y
Both X Y P Q before records value after rest =
    (first : X) × (between : Standing) × (later : List Record) × P before records first between later × Q first between later value after rest

pub part_both : (X Y : Type 0) (P : Valued X) (Q : X → Valued Y) (at : Core) (One : X → Core → Type 0) (Two : Y → Core → Type 0) → PartIsOpen X P at One
    → ((value : X) (between : Core) → One value between → PartIsOpen Y (Q value) between Two) → PartIsOpen Y (Both X Y P Q) at Two
part_both X Y P Q at One Two first second E A follows =
    let some_later : X → Core → Lists = λ value between. BySome Y (Q value) between E in
    let each_later : X → Core → Lists = λ value between. ByEach Y (Q value) between A in
    open_map (BySome X P at some_later) (BySome Y (Both X Y P Q) at E) (ByEach X P at each_later) (ByEach Y (Both X Y P Q) at A)
    (λ records h. (h.0, h.1, h.5.0, h.5.1, h.5.2, h.5.3, (h.5.1.way, h.5.1.outcomes, h.2, h.3, h.4, h.5.4, h.6)))
    (λ records h way outcomes.
    let one = h way outcomes in
    let two = one.4 one.1.way one.1.outcomes in
    (two.0, two.1, two.2, (one.0, one.1, one.2, one.3, two.3), two.4))
    (first some_later each_later (λ value between is. second value between is E A follows))

-- the same steps
pub part_as : (X : Type 0) (P Q : Valued X) (at : Core) (Leads : X → Core → Type 0)
    → ((way : List Point) (outcomes : List Fallen) (records : List Record) (value : X) (after : Standing) (rest : List Record)
    → P (standing at way outcomes) records value after rest ↔ Q (standing at way outcomes) records value after rest)
    → PartIsOpen X P at Leads → PartIsOpen X Q at Leads
part_as X P Q at Leads same part E A follows =
    open_map (BySome X P at E) (BySome X Q at E) (ByEach X P at A) (ByEach X Q at A)
    (λ records h. (h.0, h.1, h.2, h.3, h.4, (same h.0 h.1 records h.2 h.3 h.4).1 h.5, h.6))
    (λ records h way outcomes. let one = h way outcomes in (one.0, one.1, one.2, (same way outcomes records one.0 one.1 one.2).0 one.3, one.4))
    (part E A follows)

pub part_wider : (X : Type 0) (P : Valued X) (at : Core) (Few Many : X → Core → Type 0) → ((value : X) (after : Core) → Few value after → Many value after)
    → PartIsOpen X P at Few → PartIsOpen X P at Many
part_wider X P at Few Many wider part E A follows = part E A (λ value after is. follows value after (wider value after is))

-- A part is made of another, which gives its value and ends where it does but for what makes no step: it begins from
-- another place, and where it ends the standing is changed.
module _ (X Y : Type 0) (P : Valued X) (Q : Valued Y) (at from : Core) (value_of : X → Y) (end_of : X → Core → Core)
    (One : X → Core → Type 0) (Two : Y → Core → Type 0) where
  pub part_via :
      ((way : List Point) (outcomes : List Fallen) (records : List Record) (value : Y) (after : Standing) (rest : List Record)
      → Q (standing at way outcomes) records value after rest
      → (farther : List Point) × (more : List Fallen) × (first : X) × (between : Standing) × P (standing from farther more) records first between rest
      × (value ≡ value_of first) × (core_of after ≡ end_of first (core_of between)))
      → ((way : List Point) (outcomes : List Fallen) (records : List Record)
      → (farther : List Point) × (more : List Fallen)
      × ((first : X) (between : Standing) (rest : List Record) → P (standing from farther more) records first between rest
      → (after : Standing) × Q (standing at way outcomes) records (value_of first) after rest × (core_of after ≡ end_of first (core_of between))))
      → PartIsOpen X P from One → ((first : X) (between : Core) → One first between → Two (value_of first) (end_of first between))
      → PartIsOpen Y Q at Two
  part_via into out part goes E A follows =
      let some_later : X → Core → Lists = λ first between. E (value_of first) (end_of first between) in
      let each_later : X → Core → Lists = λ first between. A (value_of first) (end_of first between) in
      open_map (BySome X P from some_later) (BySome Y Q at E) (ByEach X P from each_later) (ByEach Y Q at A)
      (λ records h.
      let own = into h.0 h.1 records h.2 h.3 h.4 h.5 in
      (own.0, own.1, own.2, own.3, h.4, own.4, subst (λ (c : Core). E (value_of own.2) c h.4) own.6 (subst (λ (y : Y). E y (core_of h.3) h.4) own.5 h.6)))
      (λ records h way outcomes.
      let goes_out = out way outcomes records in
      let one = h goes_out.0 goes_out.1 in
      let whole = goes_out.2 one.0 one.1 one.2 one.3 in
      (value_of one.0, whole.0, one.2, whole.1, subst (λ (c : Core). A (value_of one.0) c one.2) (sym whole.2) one.4))
      (part some_later each_later (λ first between is. follows (value_of first) (end_of first between) (goes first between is)))

-- a part that makes no step, and comes to this
pub part_still : (X : Type 0) (P : Valued X) (at : Core) (one : X) (end : Core) (Leads : X → Core → Type 0) → Leads one end
    → ((way : List Point) (outcomes : List Fallen) (records : List Record) (value : X) (after : Standing) (rest : List Record)
    → P (standing at way outcomes) records value after rest → (value ≡ one) × (core_of after ≡ end) × (rest ≡ records))
    → ((way : List Point) (outcomes : List Fallen) (records : List Record)
    → (after : Standing) × P (standing at way outcomes) records one after records × (core_of after ≡ end))
    → PartIsOpen X P at Leads
part_still X P at one end Leads is into out E A follows =
    open_map (E one end) (BySome X P at E) (A one end) (ByEach X P at A)
    (λ records h.
    let own = into h.0 h.1 records h.2 h.3 h.4 h.5 in
    subst (λ (r : List Record). E one end r) own.2
    (subst (λ (c : Core). E one c h.4) own.1 (subst (λ (x : X). E x (core_of h.3) h.4) own.0 h.6)))
    (λ records h way outcomes.
    let own = out way outcomes records in
    (one, own.0, records, own.1, subst (λ (c : Core). A one c records) (sym own.2) h))
    (follows one end is)

-- a part of which what lists begin with is open
pub part_of : (X : Type 0) (R : Begins X) (P : Valued X) (at : Core) (end_of : X → Core) (Leads : X → Core → Type 0)
    → ((value : X) → Leads value (end_of value))
    → ((way : List Point) (outcomes : List Fallen) (records : List Record) (value : X) (after : Standing) (rest : List Record)
    → P (standing at way outcomes) records value after rest → R records value rest × (core_of after ≡ end_of value))
    → ((way : List Point) (outcomes : List Fallen) (records : List Record) (value : X) (rest : List Record) → R records value rest
    → (after : Standing) × P (standing at way outcomes) records value after rest × (core_of after ≡ end_of value))
    → IsOpen X R → PartIsOpen X P at Leads
part_of X R P at end_of Leads are into out opens E A follows =
    let some_later : X → Lists = λ value. E value (end_of value) in
    let each_later : X → Lists = λ value. A value (end_of value) in
    open_map (After X R some_later) (BySome X P at E) (After X R each_later) (ByEach X P at A)
    (λ records h.
    let own = into h.0 h.1 records h.2 h.3 h.4 h.5 in
    (h.2, h.4, own.0, subst (λ (c : Core). E h.2 c h.4) own.1 h.6))
    (λ records h way outcomes.
    let own = out way outcomes records h.0 h.1 h.2 in
    (h.0, own.0, h.1, own.1, subst (λ (c : Core). A h.0 c h.1) (sym own.2) h.3))
    (opens some_later each_later (λ value. follows value (end_of value) (are value)))

-- one of those of which this holds: it is the same before and after another answer
pub sum_open : (X : Type 0) (P : X → Type 0) (E A : X → Lists) → (one : X) → P one → ((each : X) → P each → Open (E each) (A each))
    → Open (λ records. (each : X) × P each × E each records) (λ records. (each : X) × P each × A each records)
sum_open X P E A one is opens = record {
  some = let own = (opens one is).some in (own.0, (one, is, own.1));
  turns = λ front first other back h alike. let own = (opens h.0 h.1).turns front first other back h.2 alike in (own.0, (h.0, h.1, own.1));
}

pub part_sum : (Y X : Type 0) (P : Y → Type 0) (Q : Y → Valued X) (at : Core) (Leads : X → Core → Type 0) → (one : Y) → P one
    → ((each : Y) → P each → PartIsOpen X (Q each) at Leads)
    → PartIsOpen X (λ before records value after rest. (each : Y) × P each × Q each before records value after rest) at Leads
part_sum Y X P Q at Leads one is parts E A follows =
    let All : Valued X = λ before records value after rest. (each : Y) × P each × Q each before records value after rest in
    open_map (λ records. (each : Y) × P each × BySome X (Q each) at E records) (BySome X All at E)
    (λ records. (each : Y) × P each × ByEach X (Q each) at A records) (ByEach X All at A)
    (λ records h. (h.5.0, h.5.1, (h.0, h.1, h.2, h.3, h.4, h.5.2, h.6)))
    (λ records h way outcomes. let own = h.2 way outcomes in (own.0, own.1, own.2, (h.0, h.1, own.3), own.4))
    (sum_open Y P (λ each. BySome X (Q each) at E) (λ each. ByEach X (Q each) at A) one is (λ each has. parts each has E A follows))

-- where no more accesses than so many begin at each site, and the scoped assertions in force stay the same
pub record WithinFrom (at : Core) (most : ℕ → ℕ) (after : Core) : Type 0 where
  pub counts : (site : ℕ) → begun_at site after ≤ begun_at site at + most site
  pub scopes : after.scopes ≡ at.scopes

-- the steps of a part that gives no value
abbrev pub Plain : (Standing → List Record → Standing → List Record → Type 0) → Valued (Unit {0})
Plain P before records value after rest = P before records after rest

-- a part that gives no value is open from a place on, and ends within so many accesses more at each site
abbrev pub StepsAreOpen : (Standing → List Record → Standing → List Record → Type 0) → Core → (ℕ → ℕ) → Type 1
StepsAreOpen P at most = PartIsOpen (Unit {0}) (Plain P) at (λ value after. WithinFrom at most after)
