-- What a list says of the last arming at an index its setter's own records say too, and records of one arming are one.
use Rattle.std.proofs.Common.{◌≡◌, ◌≢◌, ◌<◌, ◌+◌, ◌==◌, ◌&&◌, ◌⊎◌, ◌∙◌, ◌++◌, if◌then◌else◌, inl, inr, ℕ, suc, Bool}
use Rattle.std.proofs.Common.{true, false, eqb, length, List, [], ◌∷◌, Option, None, Some, Contains, ap, arith, refl, subst, sym}
use Rattle.std.proofs.lemmas.Bool.{eq-eqb}
use Rattle.std.proofs.lemmas.Bool.Decides.{eqb_tells}
use Rattle.std.proofs.lemmas.List.{length-append}
use Rattle.std.proofs.lemmas.List.Elements.{All-contains, All-contains_itself, All-filter}
use Rattle.slot.specs.Pair.{Halves}
use Rattle.slot_table.specs.Armings.{Arming, armed_after, last_arming, last_arming_number, named_after, named_at, number_after, number_made, number_made_after}
use Rattle.slot_table.specs.Discipline.{Allows, heard, in_hand}
use Rattle.slot_table.specs.Hearings.{EachHearsTheOther, HearsTheOther, IsArming, SomeRecord}
use Rattle.slot_table.specs.Meetings.{Meeting, finders_told, meetings_at, told_by, told_to}
use Rattle.slot_table.specs.Records.{records_of}
use Rattle.slot_table.specs.Roles.{part_of}
use Rattle.slot_table.specs.declared.discipline.Part.TheVariants.{Hit, Inserted}
use Rattle.slot_table.specs.declared.records.Record.{Record}
use Rattle.slot_table.specs.declared.step.Answer.{Answer}
use Rattle.slot_table.specs.declared.step.Answer.TheVariants as answers
use Rattle.slot_table.specs.declared.step.Step.{Step}
use Rattle.slot_table.specs.declared.step.Step.TheVariants.{Insert, Name, Tell}
use Rattle.slot_table.proofs.Lists.{Keeps, allowed_at, fits_all, keeps_before, view_of}
use Rattle.slot_table.proofs.Moves.{is_setter, some_same}
use Rattle.slot_table.proofs.Phases as phases
use Rattle.slot_table.proofs.Phases.{Fits, Open, StillStands, View, meeting}
use Rattle.slot_table.proofs.Steps.{here_part}

-- who names at an index is the setter of the last arming there
namer : (index : ℕ) (v : View) (task word : ℕ) (arming : Arming)
    → Fits index v → v.part task ≡ Some (Inserted word) → v.last.arming ≡ Some arming
    → task ≡ arming.setter
namer index v task word arming (hears, inl idle) has armed =
    let none = idle.nobody task in absurd (cc)
namer index v task word arming (hears, inr (phase, h)) has armed =
    let it = is_setter index phase v h task (Inserted word) has (λ other e. cc) in
    it.0 ∙ ap (λ (its : Arming). its.setter) (some_same (sym h.arming ∙ armed))

-- the setter's own records say the same
record Same (index : ℕ) (arming : Arming) (named : Option ℕ) (own : List Record) : Type 0 where
  last : last_arming index own ≡ Some arming
  names : named_at index own ≡ named

-- one more record of the setter
same_own : (index : ℕ) (arming : Arming) (task : ℕ) (step : Step) (answer : Answer) (before : Option Arming) (named : Option ℕ) (own : List Record)
    → armed_after index task step answer before ≡ Some arming → (before ≡ Some arming → Same index arming named own)
    → Same index arming (named_after index step answer named) (record { task = task; step = step; answer = answer } ∷ own)
same_own index arming task (Insert at word) (answers.Flag true) before named own armed same = elim (eqb_tells at index) [
  | inl here ↦ let it : Some (record { setter = task; word = word }) ≡ Some arming = rw here.0 at armed in
      record { last = rw here.0 it; names = rw here.0 refl }
  | inr apart ↦ let it : before ≡ Some arming = rw apart.0 at armed in
      record { last = rw apart.0 (same it).last; names = rw apart.0 (same it).names }
]
same_own index arming task (Name at ticket) answer before named own armed same =
    record { last = (same armed).last; names = ap (λ (n : Option ℕ). named_after index (Name at ticket) answer n) (same armed).names }
same_own index arming task step answer before named own armed same = record { last = (same armed).last; names = (same armed).names }

-- one more record of another task
same_other : (index : ℕ) (arming : Arming) (task : ℕ) (step : Step) (answer : Answer) (before : Option Arming) (named : Option ℕ) (own : List Record)
    → task ≢ arming.setter → ((ticket : ℕ) → step ≡ Name index ticket → before ≡ Some arming → ⊥)
    → armed_after index task step answer before ≡ Some arming → (before ≡ Some arming → Same index arming named own)
    → Same index arming (named_after index step answer named) own
same_other index arming task (Insert at word) (answers.Flag true) before named own differs unnamed armed same = elim (eqb_tells at index) [
  | inl here ↦ let it : Some (record { setter = task; word = word }) ≡ Some arming = rw here.0 at armed in
      absurd (differs (ap (λ (a : Arming). a.setter) (some_same it)))
  | inr apart ↦ let it : before ≡ Some arming = rw apart.0 at armed in
      record { last = (same it).last; names = rw apart.0 (same it).names }
]
same_other index arming task (Name at ticket) answer before named own differs unnamed armed same = elim (eqb_tells at index) [
  | inl here ↦ absurd (unnamed ticket (ap (λ (i : ℕ). Name i ticket) here.1) armed)
  | inr apart ↦ record { last = (same armed).last; names = rw apart.0 (same armed).names }
]
same_other index arming task step answer before named own differs unnamed armed same = same armed

module _ (page_slots locks : ℕ) (cells : List ℕ) where
  own_says : (records : List Record) (index : ℕ) (arming : Arming) → Keeps page_slots locks cells records → last_arming index records ≡ Some arming
      → Same index arming (named_at index records) (records_of arming.setter records)
  own_says [] index arming rules armed = absurd (let no : None ≡ Some arming = armed in cc)
  own_says (latest ∷ earlier) index arming rules armed =
      let before = keeps_before page_slots locks cells latest earlier rules in
      let rest = own_says earlier index arming before in
      let own : List Record = records_of arming.setter earlier in
      let now : Option ℕ = named_after index latest.step latest.answer (named_at index earlier) in
      elim (eqb_tells latest.task arming.setter) [
        | inl mine ↦
            rw mine.0 (same_own index arming latest.task latest.step latest.answer (last_arming index earlier) (named_at index earlier) own armed rest)
        | inr others ↦
            rw others.0 (same_other index arming latest.task latest.step latest.answer (last_arming index earlier) (named_at index earlier) own others.1
            (λ ticket is stood.
            let allows : Allows latest.task (records_of latest.task earlier) (Name index ticket) =
            subst (λ (step : Step). Allows latest.task (records_of latest.task earlier) step) is (allowed_at latest earlier rules.keeps) in
            let part = here_part index (in_hand (records_of latest.task earlier)) (Inserted allows.1) allows.2 in
            others.1 (namer index (view_of page_slots locks cells earlier index) latest.task allows.1 arming (fits_all page_slots locks cells earlier before index) part stood))
            armed rest)
      ]

  -- so the setter's own records tell its word and its name
  pub own_word : (records : List Record) (index : ℕ) (arming : Arming) → Keeps page_slots locks cells records → last_arming index records ≡ Some arming
      → last_arming index (records_of arming.setter records) ≡ Some arming
  own_word records index arming rules armed = (own_says records index arming rules armed).last

  pub own_name : (records : List Record) (index : ℕ) (arming : Arming) → Keeps page_slots locks cells records → last_arming index records ≡ Some arming
      → named_at index (records_of arming.setter records) ≡ named_at index records
  own_name records index arming rules armed = (own_says records index arming rules armed).names

  -- a setter that found its word hit and heard its finder has met it, and the finder told
  told_in : (index : ℕ) (phase : phases.Phase) (v : View) (h : Open index phase v) (task : ℕ) (both : Halves)
      → task ≡ h.setter → phases.setter_part phase h.word ≡ Hit → v.hears task ≡ Some both → StillStands both v.pair → 0 < both.finder
      → Contains v.told (meeting index h.number both.setter both.finder)
  told_in index (phases.HitTaken finder ticket) v h task both is e heard_so stands above =
      let none : v.pair.finder ≡ 0 = ap (λ (pair : Halves). pair.finder) h.pair_is in
      let it : v.pair.finder ≡ both.finder = stands.1 above in absurd (omega (arith, none, it, above))
  told_in index (phases.HitTold finder ticket telling) v h task both is e heard_so stands above =
      let heard_its : v.hears h.setter ≡ Some both = rw (← is) heard_so in
      let first : both.setter ≡ ticket = h.own_half both heard_its ∙ ap (λ (pair : Halves). pair.setter) h.pair_is in
      let second : both.finder ≡ telling = sym (stands.1 above) ∙ ap (λ (pair : Halves). pair.finder) h.pair_is in
      let met : meeting index h.number ticket telling ≡ meeting index h.number both.setter both.finder =
      ap (λ (n : ℕ). meeting index h.number n telling) (sym first) ∙ ap (λ (n : ℕ). meeting index h.number both.setter n) (sym second) in
      subst (λ (l : List Meeting). Contains l (meeting index h.number both.setter both.finder)) (sym h.told)
      (subst (λ (m : Meeting). Contains (meeting index h.number ticket telling ∷ v.heard) m) met (0, omega arith, refl))
  told_in index phase v h task both is e heard_so stands above = absurd (cc)

  told_of : (index : ℕ) (v : View) (task : ℕ) (both : Halves) → Fits index v → v.part task ≡ Some Hit → v.hears task ≡ Some both → 0 < both.finder
      → (number : ℕ) × (v.last.number ≡ Some number) × Contains v.told (meeting index number both.setter both.finder)
  told_of index v task both (hears, inl idle) has heard_so above = let none = idle.nobody task in absurd (cc)
  told_of index v task both (hears, inr (phase, h)) has heard_so above =
      let it = is_setter index phase v h task Hit has (λ other e. cc) in
      (h.number, h.numbered, told_in index phase v h task both it.0 it.1 heard_so (hears task Hit both has heard_so) above)

  pub finder_told : (records : List Record) (index task : ℕ) (both : Halves) → Keeps page_slots locks cells records → part_of task index records ≡ Some Hit
      → heard index (records_of task records) ≡ Some both → 0 < both.finder
      → (number : ℕ) × (last_arming_number index records ≡ Some number) × Contains (finders_told records) (meeting index number both.setter both.finder)
  finder_told records index task both rules has heard_so above =
      let it = told_of index (view_of page_slots locks cells records index) task both (fits_all page_slots locks cells records rules index) has heard_so above in
      let all = All-filter (λ (met : Meeting). eqb met.index index) (Contains (finders_told records)) (finders_told records) (All-contains_itself (finders_told records)) in
      (it.0, it.1, All-contains (Contains (finders_told records)) (meetings_at index (finders_told records)) (meeting index it.0 both.setter both.finder) all it.2)

-- what was told stays told
told_on : (index ticket : ℕ) (last : Option ℕ) (both : Option Halves) (before : List Meeting) (met : Meeting) → Contains before met → Contains (told_to index ticket last both before) met
told_on index ticket (Some number) (Some both) before met h = (suc h.0, let below : h.0 < length before = h.1 in omega (arith, below), h.2)
told_on index ticket None both before met h = h
told_on index ticket (Some number) None before met h = h

told_after_step : (task : ℕ) (step : Step) (earlier : List Record) (before : List Meeting) (met : Meeting) → Contains before met → Contains (told_by task step earlier before) met
told_after_step task (Tell index ticket) earlier before met h = told_on index ticket (last_arming_number index earlier) (heard index (records_of task earlier)) before met h
told_after_step task step earlier before met h = h

pub still_told : (later earlier : List Record) (met : Meeting) → Contains (finders_told earlier) met → Contains (finders_told (later ++ earlier)) met
still_told [] earlier met h = h
still_told (latest ∷ later) earlier met h = told_after_step latest.task latest.step (later ++ earlier) (finders_told (later ++ earlier)) met (still_told later earlier met h)

-- where in a list a record of this kind stands
pub record Stands (P : Record → List Record → Type 0) (records : List Record) : Type 0 where
  pub later : List Record
  pub latest : Record
  pub earlier : List Record
  pub split : records ≡ later ++ latest ∷ earlier
  pub holds : P latest earlier

pub stands_at : (P : Record → List Record → Type 0) (records : List Record) → SomeRecord P records → Stands P records
stands_at P [] h = absurd h
stands_at P (latest ∷ earlier) h = elim h [
  | inl here ↦ record { later = []; latest = latest; earlier = earlier; split = refl; holds = here }
  | inr before ↦ let it = stands_at P earlier before in record {
    later = latest ∷ it.later;
    latest = it.latest;
    earlier = it.earlier;
    split = ap (λ (r : List Record). latest ∷ r) it.split;
    holds = it.holds;
  }
]

pub stands_later : (P : Record → List Record → Type 0) (later earlier : List Record) → SomeRecord P earlier → SomeRecord P (later ++ earlier)
stands_later P [] earlier h = h
stands_later P (latest ∷ later) earlier h = inr (stands_later P later earlier h)

pub hears_at : (later : List Record) (latest : Record) (earlier : List Record) → EachHearsTheOther (later ++ latest ∷ earlier) → HearsTheOther latest.task latest.step earlier
hears_at [] latest earlier each = each.1
hears_at (last ∷ later) latest earlier each = hears_at later latest earlier each.0

-- armings of one number are one
pub number_below : (index number setter word : ℕ) (records : List Record) → SomeRecord (IsArming index number setter word) records → number < length records
number_below index number setter word [] h = absurd h
number_below index number setter word (latest ∷ earlier) h = elim h [
  | inl here ↦ let is : length earlier ≡ number = here.counts in omega (arith, is)
  | inr before ↦ let below = number_below index number setter word earlier before in omega (arith, below)
]

inserted_word : Step → ℕ
inserted_word (Insert index word) = word
inserted_word step = 0

pub one_arming : (index number s w t v : ℕ) (records : List Record) → SomeRecord (IsArming index number s w) records → SomeRecord (IsArming index number t v) records → (s ≡ t) × (w ≡ v)
unfolding inserted_word
one_arming index number s w t v [] h g = absurd h
one_arming index number s w t v (latest ∷ earlier) h g = elim h [
  | inl one ↦ elim g [
    | inl other ↦ (sym one.task ∙ other.task, ap inserted_word (sym one.step ∙ other.step))
    | inr before ↦ let below = number_below index number t v earlier before in
        let is : length earlier ≡ number = one.counts in absurd (omega (arith, below, is))
  ]
  | inr before ↦ elim g [
    | inl other ↦ let below = number_below index number s w earlier before in
        let is : length earlier ≡ number = other.counts in absurd (omega (arith, below, is))
    | inr too ↦ one_arming index number s w t v earlier before too
  ]
]

-- a task's own records of a list that goes on
pub own_split : (task : ℕ) (later earlier : List Record) → records_of task (later ++ earlier) ≡ records_of task later ++ records_of task earlier
own_split task [] earlier = refl
own_split task (latest ∷ later) earlier = elim (eqb_tells latest.task task) [
  | inl mine ↦ rw mine.0 (ap (λ (r : List Record). latest ∷ r) (own_split task later earlier))
  | inr others ↦ rw others.0 (own_split task later earlier)
]

pub own_latest : (task : ℕ) (latest : Record) (earlier : List Record) → latest.task ≡ task → records_of task (latest ∷ earlier) ≡ latest ∷ records_of task earlier
own_latest task latest earlier is = rw (eq-eqb latest.task task is) refl

-- where a task's last arming keeps its number, the task arms nothing there meanwhile
not_now : (here : Bool) (n number now : ℕ) (before own : Option ℕ) → (if here && true then Some n else before) ≡ Some number → number < n
    → (before ≡ Some number) × ((if here then Some now else own) ≡ own)
not_now true n number now before own made below = let is : n ≡ number = some_same made in absurd (omega (arith, is, below))
not_now false n number now before own made below = (made, refl)

never : (here : Bool) (n number : ℕ) (before : Option ℕ) → (if here && false then Some n else before) ≡ Some number → before ≡ Some number
never true n number before made = made
never false n number before made = made

arms_no_more : (task index maker : ℕ) (step : Step) (answer : Answer) (n number now : ℕ) (before own : Option ℕ) → (maker == task) ≡ true
    → number_made_after task index maker step answer n before ≡ Some number → number < n
    → (before ≡ Some number) × (number_after index step answer now own ≡ own)
arms_no_more task index maker (Insert at word) (answers.Flag true) n number now before own mine made below =
    not_now (at == index) n number now before own
    (subst (λ (c : Bool). (if (at == index) && c then Some n else before) ≡ Some number) mine made) below
arms_no_more task index maker step answer n number now before own mine made below = (made, refl)

others_arm : (task index maker : ℕ) (step : Step) (answer : Answer) (n number : ℕ) (before : Option ℕ) → (maker == task) ≡ false
    → number_made_after task index maker step answer n before ≡ Some number → before ≡ Some number
others_arm task index maker (Insert at word) (answers.Flag true) n number before others made =
    never (at == index) n number before (subst (λ (c : Bool). (if (at == index) && c then Some n else before) ≡ Some number) others made)
others_arm task index maker step answer n number before others made = made

pub same_arming : (task index number : ℕ) (later base : List Record) → number_made task index (later ++ base) ≡ Some number → number < length base
    → last_arming_number index (records_of task (later ++ base)) ≡ last_arming_number index (records_of task base)
same_arming task index number [] base made below = refl
same_arming task index number (latest ∷ later) base made below =
    let parts : length (later ++ base) ≡ length later + length base = length-append later base in
    let under : number < length (later ++ base) = omega (arith, parts, below) in
    let own : List Record = records_of task (later ++ base) in
    elim (eqb_tells latest.task task) [
      | inl mine ↦
          let it = arms_no_more task index latest.task latest.step latest.answer (length (later ++ base)) number (length own)
          (number_made task index (later ++ base)) (last_arming_number index own) mine.0 made under in
          ap (λ (r : List Record). last_arming_number index r) (own_latest task latest (later ++ base) mine.1)
          ∙ (it.1 ∙ same_arming task index number later base it.0 below)
      | inr others ↦
          let skipped : records_of task (latest ∷ (later ++ base)) ≡ own = rw others.0 refl in
          ap (λ (r : List Record). last_arming_number index r) skipped
          ∙ same_arming task index number later base
          (others_arm task index latest.task latest.step latest.answer (length (later ++ base)) number (number_made task index (later ++ base)) others.0 made) below
    ]

-- an arming's number is below how many records there are
one_of : (here : Bool) (now number : ℕ) (before : Option ℕ) → (if here then Some now else before) ≡ Some number → (now ≡ number) ⊎ (before ≡ Some number)
one_of true now number before is = inl (some_same is)
one_of false now number before is = inr is

number_from : (index : ℕ) (step : Step) (answer : Answer) (now number : ℕ) (before : Option ℕ) → number_after index step answer now before ≡ Some number
    → (now ≡ number) ⊎ (before ≡ Some number)
number_from index (Insert at word) (answers.Flag true) now number before is = one_of (at == index) now number before is
number_from index step answer now number before is = inr is

pub last_below : (index number : ℕ) (records : List Record) → last_arming_number index records ≡ Some number → number < length records
last_below index number [] is = let none : None ≡ Some number = is in absurd (cc)
last_below index number (latest ∷ earlier) is =
    elim (number_from index latest.step latest.answer (length earlier) number (last_arming_number index earlier) is) [
      | inl here ↦ let same : length earlier ≡ number = here in omega (arith, same)
      | inr before ↦ let below : number < length earlier = last_below index number earlier before in omega (arith, below)
    ]
