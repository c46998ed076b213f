-- Each step of a handshake at an index leads from one phase to another.
use Rattle.std.proofs.Common.{◌≡◌, ◌≢◌, ◌<◌, inl, inr, ℕ, Bool, true, false, cond, eqb, List, ◌∷◌}
use Rattle.std.proofs.Common.{Option, None, Some, refl, sym, ap, ◌∙◌, arith}
use Rattle.std.proofs.lemmas.Bool.{cases_eq, eq-eqb, ne_eqb}
use Rattle.std.proofs.lemmas.Bool.Decides.{eqb_tells}
use Rattle.std.specs.Int.Bits.{or_zero_l}
use Rattle.slot.specs.Pair.{Halves, unnamed}
use Rattle.slot_table.specs.Discipline.{IsOwnTicket}
use Rattle.slot_table.specs.declared.discipline.Part.{Part}
use Rattle.slot_table.specs.declared.discipline.Part.TheVariants.{Inserted, Named, Untouched, Hit}
use Rattle.slot_table.specs.declared.discipline.Part.TheVariants.{Cleared, Taken}
use Rattle.slot_table.specs.Meetings.{Meeting}
use Rattle.slot_table.proofs.Phases.{View, Phase, Fresh, Watching, FreshTaken, NamedTaken}
use Rattle.slot_table.proofs.Phases.{NamedTold, HitTaken, HitTold, HitCleared, Quiet, QuietCleared}
use Rattle.slot_table.proofs.Phases.{after_clear, after_consume, after_hear, after_insert}
use Rattle.slot_table.proofs.Phases.{after_name, after_remove, after_take, after_tell, found_in}
use Rattle.slot_table.proofs.Phases.{named_pair, told_pair, word_in, pair_in, setter_part}
use Rattle.slot_table.proofs.Phases.{finder_part, finder_in, named_in, telling_in, meeting, told_in}
use Rattle.slot_table.proofs.Phases.{owned_in, StillStands, Hears, Idle, Open, Fits}
use Rattle.slot_table.proofs.Updates.{updated, updated_here, updated_other}

pub some_same : {X : Type 0} {a b : X} → Some a ≡ Some b → a ≡ b
some_same e = cc

taken_if : (b : Bool) (word : ℕ) (part : Part)
    → cond b (Some (Taken word)) None ≡ Some part → part ≡ Taken word
taken_if true word part e = cc
taken_if false word part e = cc

-- a finder's part is to have taken the word
finder_part-is : (phase : Phase) (word task : ℕ) (part : Part)
    → finder_part phase word task ≡ Some part → part ≡ Taken word
finder_part-is (FreshTaken finder) word task part e = taken_if (eqb finder task) word part e
finder_part-is (NamedTaken finder ticket) word task part e = taken_if (eqb finder task) word part e
finder_part-is (HitTaken finder ticket) word task part e = taken_if (eqb finder task) word part e
finder_part-is phase word task part e = cc

-- a setter's part is another
pub setter_part-is : (phase : Phase) (word taken : ℕ) → setter_part phase word ≢ Taken taken
setter_part-is Fresh word taken = λ e. cc
setter_part-is (Watching ticket) word taken = λ e. cc
setter_part-is (FreshTaken finder) word taken = λ e. cc
setter_part-is (NamedTaken finder ticket) word taken = λ e. cc
setter_part-is (NamedTold finder ticket telling) word taken = λ e. cc
setter_part-is (HitTaken finder ticket) word taken = λ e. cc
setter_part-is (HitTold finder ticket telling) word taken = λ e. cc
setter_part-is (HitCleared finder ticket telling) word taken = λ e. cc
setter_part-is (Quiet ticket) word taken = λ e. cc
setter_part-is (QuietCleared ticket) word taken = λ e. cc

-- who has another part than to have taken the word is the setter
pub is_setter : (index : ℕ) (phase : Phase) (v : View) (h : Open index phase v) (task : ℕ)
    (part : Part)
    → v.part task ≡ Some part → ((word : ℕ) → part ≢ Taken word)
    → (task ≡ h.setter) × (setter_part phase h.word ≡ part)
is_setter index phase v h task part has other =
    elim (cases_eq task h.setter) [
      | inl same ↦
          let its : v.part h.setter ≡ Some part = rw same at has in
          (same, some_same (sym h.sets ∙ its))
      | inr apart ↦
          absurd
          (other h.word
          (finder_part-is phase h.word task part (sym (h.others task apart) ∙ has)))
    ]

-- who has taken the word isn't
pub is_finder : (index : ℕ) (phase : Phase) (v : View) (h : Open index phase v) (task word : ℕ)
    → v.part task ≡ Some (Taken word) → task ≢ h.setter
is_finder index phase v h task word has =
    λ e. setter_part-is phase h.word word (some_same (sym h.sets ∙ rw e at has))

-- what others heard still stands, if a step of a handshake there leaves it so
hears_reset : (part : ℕ → Option Part) (hears : ℕ → Option Halves) (old new : Halves) (task : ℕ)
    (its : Option Part)
    → Hears part hears old
    → ((other : ℕ) (theirs : Part) (both : Halves) → other ≢ task → part other ≡ Some theirs
    → StillStands both old → StillStands both new)
    → Hears (updated part task its) (updated hears task None) new
hears_reset part hears old new task its fits kept other theirs both has heard =
    elim (cases_eq other task) [
      | inl same ↦
          let none : updated hears task None task ≡ None =
          updated_here hears task None in absurd (cc)
      | inr apart ↦
          let p = updated_other part task other its apart in
          let q = updated_other hears task other None apart in
          kept other theirs both apart (sym p ∙ has)
          (fits other theirs both (sym p ∙ has) (sym q ∙ heard))
    ]

-- the setter's step leads to another phase with the same finder
setter_moves : (index : ℕ) (phase next : Phase) (v : View) (h : Open index phase v)
    (word : ℕ) (pair : Halves) (named : Option ℕ) (heard : List Meeting)
    → finder_in next ≡ finder_in phase → telling_in next ≡ telling_in phase
    → ((task : ℕ) → finder_part next h.word task ≡ finder_part phase h.word task)
    → word ≡ word_in next h.word → pair ≡ pair_in next → named ≡ named_in next
    → v.told ≡ told_in index h.number next heard → owned_in next h.setter
    → Open index next (record v {
      word = word;
      pair = pair;
      part = updated v.part h.setter (Some (setter_part next h.word));
      hears = updated v.hears h.setter None;
      last = record v.last { named = named };
      heard = heard;
    })
setter_moves index phase next v h word pair named heard same_finder same_telling same_part word_is
    pair_is named_is told owned = record {
      setter = h.setter;
      word = h.word;
      number = h.number;
      above = h.above;
      word_is = word_is;
      pair_is = pair_is;
      sets = updated_here v.part h.setter (Some (setter_part next h.word));
      others = λ task apart.
          updated_other v.part h.setter task (Some (setter_part next h.word)) apart
          ∙ (h.others task apart ∙ sym (same_part task));
      two = λ finder is. h.two finder (sym same_finder ∙ is);
      arming = h.arming;
      numbered = h.numbered;
      named = named_is;
      finder = h.finder ∙ sym same_finder;
      telling = h.telling ∙ sym same_telling;
      own_half = λ both heard_is. let none = updated_here v.hears h.setter None in absurd (cc);
      told = told;
      owned = owned;
    }

-- a watchpoint is inserted
pub fits_insert : (index : ℕ) (v : View) (task word number : ℕ)
    → Fits index v → v.word ≡ 0 → 1 < word → Fits index (after_insert v task word number)
fits_insert index v task word number (hears, inl idle) empty above = (
  hears_reset v.part v.hears v.pair v.pair task (Some (Inserted word)) hears
      (λ other theirs both apart has stands. stands),
  inr (
    Fresh,
    record {
      setter = task;
      word = word;
      number = number;
      above = above;
      word_is = refl;
      pair_is = idle.pair_is;
      sets = updated_here v.part task (Some (Inserted word));
      others = λ other apart.
          updated_other v.part task other (Some (Inserted word)) apart ∙ idle.nobody other;
      two = λ finder is. absurd (cc);
      arming = refl;
      numbered = refl;
      named = refl;
      finder = refl;
      telling = refl;
      own_half = λ both heard. let none = updated_here v.hears task None in absurd (cc);
      told = idle.told;
      owned = tt;
    },
  ),
)
fits_insert index v task word number (hears, inr (phase, h)) empty above = absurd (stands phase h)
  where
    stands : (phase : Phase) → Open index phase v → ⊥
    stands Fresh h = omega (arith, h.word_is, h.above)
    stands (Watching ticket) h = omega (arith, h.word_is, h.above)
    stands phase h = omega (arith, h.word_is)

-- the setter names itself
unnamed_yet : (index : ℕ) (phase : Phase) (v : View) (h : Open index phase v) (word : ℕ)
    → setter_part phase h.word ≡ Inserted word → v.pair ≡ unnamed
unnamed_yet index Fresh v h word e = h.pair_is
unnamed_yet index (FreshTaken finder) v h word e = h.pair_is
unnamed_yet index phase v h word e = absurd (cc)

pair_named : (pair : Halves) (ticket : ℕ)
    → pair ≡ unnamed → named_pair pair ticket ≡ record { setter = ticket; finder = 0 }
pair_named pair ticket e = rw (e, or_zero_l ticket) refl

name_moves : (index : ℕ) (phase : Phase) (v : View) (h : Open index phase v) (word ticket : ℕ)
    → setter_part phase h.word ≡ Inserted word → IsOwnTicket h.setter ticket
    → (next : Phase) × Open index next (after_name v h.setter ticket)
name_moves index Fresh v h word ticket e own = (
  Watching ticket,
  setter_moves index Fresh (Watching ticket) v h v.word (named_pair v.pair ticket) (Some ticket)
      v.heard
      refl refl (λ task. refl) h.word_is (pair_named v.pair ticket h.pair_is) refl h.told own,
)
name_moves index (FreshTaken finder) v h word ticket e own = (
  NamedTaken finder ticket,
  setter_moves index (FreshTaken finder) (NamedTaken finder ticket) v h v.word
      (named_pair v.pair ticket) (Some ticket) v.heard
      refl refl (λ task. refl) h.word_is (pair_named v.pair ticket h.pair_is) refl h.told own,
)
name_moves index phase v h word ticket e own = absurd (cc)

pub fits_name : (index : ℕ) (v : View) (task word ticket : ℕ)
    → Fits index v → v.part task ≡ Some (Inserted word) → IsOwnTicket task ticket
    → Fits index (after_name v task ticket)
fits_name index v task word ticket (hears, inl idle) has own =
    let none = idle.nobody task in absurd (cc)
fits_name index v task word ticket (hears, inr (phase, h)) has own =
    let it = is_setter index phase v h task (Inserted word) has (λ other e. cc) in
    let pair_is = unnamed_yet index phase v h word it.1 in
    let empty : v.pair.setter ≡ 0 = ap (λ (both : Halves). both.setter) pair_is in
    rw it.0 (
      hears_reset v.part v.hears v.pair (named_pair v.pair ticket) h.setter (Some (Named ticket))
          hears
          (λ other theirs both apart has stands.
          (λ above. absurd (omega (arith, stands.0 above, empty)), stands.1)),
      inr (name_moves index phase v h word ticket it.1 (rw it.0 at own)),
    )

-- the setter consumes
untouched_if : (word : ℕ) → 1 < word → found_in word ≡ Untouched
untouched_if word above =
    let not_empty : eqb word 0 ≡ false = ne_eqb word 0 (λ e. omega arith) in
    let not_consumed : eqb word 1 ≡ false = ne_eqb word 1 (λ e. omega arith) in
    rw (not_empty, not_consumed) refl

hit_if : (word : ℕ) → word ≡ 1 → found_in word ≡ Hit
hit_if word e = rw e refl

consume_moves : (index : ℕ) (phase : Phase) (v : View) (h : Open index phase v) (ticket : ℕ)
    → setter_part phase h.word ≡ Named ticket
    → (next : Phase) × Open index next (after_consume v h.setter)
consume_moves index (Watching named) v h ticket e = (
  Quiet named,
  rw (untouched_if v.word (omega (arith, h.word_is, h.above)))
      (setter_moves index (Watching named) (Quiet named) v h 1 v.pair v.last.named v.heard
      refl refl (λ task. refl) refl h.pair_is h.named h.told h.owned),
)
consume_moves index (NamedTaken finder named) v h ticket e = (
  HitTaken finder named,
  rw (hit_if v.word h.word_is)
      (setter_moves index (NamedTaken finder named) (HitTaken finder named) v h
      1 v.pair v.last.named v.heard
      refl refl (λ task. refl) refl h.pair_is h.named h.told h.owned),
)
consume_moves index (NamedTold finder named telling) v h ticket e = (
  HitTold finder named telling,
  rw (hit_if v.word h.word_is)
      (setter_moves index (NamedTold finder named telling) (HitTold finder named telling) v h
      1 v.pair v.last.named v.heard
      refl refl (λ task. refl) refl h.pair_is h.named h.told h.owned),
)
consume_moves index phase v h ticket e = absurd (cc)

pub fits_consume : (index : ℕ) (v : View) (task ticket : ℕ)
    → Fits index v → v.part task ≡ Some (Named ticket) → Fits index (after_consume v task)
fits_consume index v task ticket (hears, inl idle) has = let none = idle.nobody task in absurd (cc)
fits_consume index v task ticket (hears, inr (phase, h)) has =
    let it = is_setter index phase v h task (Named ticket) has (λ other e. cc) in
    rw it.0 (
      hears_reset v.part v.hears v.pair v.pair h.setter (Some (found_in v.word)) hears
          (λ other theirs both apart has stands. stands),
      inr (consume_moves index phase v h ticket it.1),
    )

-- the setter clears a pair whose word nobody had hit
clear_moves : (index : ℕ) (phase : Phase) (v : View) (h : Open index phase v)
    → setter_part phase h.word ≡ Untouched
    → (next : Phase) × Open index next (after_clear v h.setter v.heard)
clear_moves index (Quiet ticket) v h e = (
  QuietCleared ticket,
  setter_moves index (Quiet ticket) (QuietCleared ticket) v h v.word unnamed v.last.named v.heard
      refl refl (λ task. refl) h.word_is refl h.named h.told h.owned,
)
clear_moves index phase v h e = absurd (cc)

-- then no other task has a part
alone : (index : ℕ) (phase : Phase) (v : View) (h : Open index phase v) (task : ℕ) (its : Part)
    → (finder_part phase h.word task ≡ None) → task ≢ h.setter → v.part task ≡ Some its → ⊥
alone index phase v h task its none apart has = let same = h.others task apart in absurd (cc)

no_finder : (phase : Phase) (word task : ℕ)
    → setter_part phase word ≡ Untouched → finder_part phase word task ≡ None
no_finder (Quiet ticket) word task e = refl
no_finder phase word task e = absurd (cc)

pub fits_clear : (index : ℕ) (v : View) (task : ℕ)
    → Fits index v → v.part task ≡ Some Untouched → Fits index (after_clear v task v.heard)
fits_clear index v task (hears, inl idle) has = let none = idle.nobody task in absurd (cc)
fits_clear index v task (hears, inr (phase, h)) has =
    let it = is_setter index phase v h task Untouched has (λ other e. cc) in
    rw it.0 (
      hears_reset v.part v.hears v.pair unnamed h.setter (Some Cleared) hears
          (λ other theirs both apart its stands.
          let nobody = no_finder phase h.word other it.1 in
          absurd (alone index phase v h other theirs nobody apart its)),
      inr (clear_moves index phase v h it.1),
    )

-- the setter clears a pair whose finder's half it heard
hit_moves : (index : ℕ) (phase : Phase) (v : View) (h : Open index phase v) (number : ℕ)
    (both : Halves)
    → setter_part phase h.word ≡ Hit → v.hears h.setter ≡ Some both → v.last.number ≡ Some number
    → StillStands both v.pair → 0 < both.finder
    → ((task : ℕ) → finder_part phase h.word task ≡ None)
    × (next : Phase)
    × Open index next
    (after_clear v h.setter (meeting index number both.setter both.finder ∷ v.heard))
hit_moves index (HitTaken finder ticket) v h number both e heard numbered stands above =
    let half : v.pair.finder ≡ 0 = ap (λ (pair : Halves). pair.finder) h.pair_is in
    absurd (omega (arith, stands.1 above))
hit_moves index (HitTold finder ticket telling) v h number both e heard numbered stands above =
    let its : v.pair.setter ≡ ticket = ap (λ (pair : Halves). pair.setter) h.pair_is in
    let theirs : v.pair.finder ≡ telling = ap (λ (pair : Halves). pair.finder) h.pair_is in
    let one : both.setter ≡ ticket = h.own_half both heard ∙ its in
    let other : both.finder ≡ telling = sym (stands.1 above) ∙ theirs in
    let same : number ≡ h.number = some_same (sym numbered ∙ h.numbered) in
    let met : Meeting = meeting index number both.setter both.finder in (
      λ task. refl,
      HitCleared finder ticket telling,
      setter_moves index (HitTold finder ticket telling) (HitCleared finder ticket telling) v h
          v.word unnamed v.last.named (met ∷ v.heard)
          refl refl (λ task. refl) h.word_is refl h.named (rw (one, other, same) h.told) h.owned,
    )
hit_moves index phase v h number both e heard numbered stands above = absurd (cc)

pub fits_hit_clear : (index : ℕ) (v : View) (task number : ℕ) (both : Halves)
    → Fits index v → v.part task ≡ Some Hit → v.hears task ≡ Some both
    → v.last.number ≡ Some number → 0 < both.finder
    → Fits index (after_clear v task (meeting index number both.setter both.finder ∷ v.heard))
fits_hit_clear index v task number both (hears, inl idle) has heard numbered above =
    let none = idle.nobody task in absurd (cc)
fits_hit_clear index v task number both (hears, inr (phase, h)) has heard numbered above =
    let it = is_setter index phase v h task Hit has (λ other e. cc) in
    let moves = hit_moves index phase v h number both it.1 (rw it.0 at heard) numbered
    (hears task Hit both has heard) above in
    rw it.0 (
      hears_reset v.part v.hears v.pair unnamed h.setter (Some Cleared) hears
          (λ other theirs heard_by_other apart its stands.
          absurd (alone index phase v h other theirs (moves.0 other) apart its)),
      inr (moves.1, moves.2),
    )

-- the setter removes
nobody_left : (index : ℕ) (phase : Phase) (v : View) (h : Open index phase v)
    → ((task : ℕ) → finder_part phase h.word task ≡ None)
    → (task : ℕ) → updated v.part h.setter None task ≡ None
nobody_left index phase v h none task = elim (cases_eq task h.setter) [
  | inl same ↦ rw same (updated_here v.part h.setter None)
  | inr apart ↦ updated_other v.part h.setter task None apart ∙ (h.others task apart ∙ none task)
]

remove_moves : (index : ℕ) (phase : Phase) (v : View) (h : Open index phase v)
    → setter_part phase h.word ≡ Cleared → Idle (after_remove v h.setter)
remove_moves index (HitCleared finder ticket telling) v h e = record {
  word_is = refl;
  pair_is = h.pair_is;
  nobody = nobody_left index (HitCleared finder ticket telling) v h (λ task. refl);
  told = h.told;
}
remove_moves index (QuietCleared ticket) v h e = record {
  word_is = refl;
  pair_is = h.pair_is;
  nobody = nobody_left index (QuietCleared ticket) v h (λ task. refl);
  told = h.told;
}
remove_moves index phase v h e = absurd (cc)

pub fits_remove : (index : ℕ) (v : View) (task : ℕ)
    → Fits index v → v.part task ≡ Some Cleared → Fits index (after_remove v task)
fits_remove index v task (hears, inl idle) has = let none = idle.nobody task in absurd (cc)
fits_remove index v task (hears, inr (phase, h)) has =
    let it = is_setter index phase v h task Cleared has (λ other e. cc) in
    rw it.0 (
      hears_reset v.part v.hears v.pair v.pair h.setter None hears
          (λ other theirs both apart its stands. stands),
      inl (remove_moves index phase v h it.1),
    )

-- a finder's step leads to another phase with the same setter
finder_moves : (index : ℕ) (phase next : Phase) (v : View) (h : Open index phase v) (task : ℕ)
    (its : Option Part) (word : ℕ) (pair : Halves) (finder telling : Option ℕ) (told : List Meeting)
    → task ≢ h.setter
    → finder ≡ finder_in next → finder_in next ≡ Some task → telling ≡ telling_in next
    → named_in next ≡ named_in phase
    → setter_part next h.word ≡ setter_part phase h.word
    → its ≡ finder_part next h.word task
    → ((other : ℕ) → other ≢ task → finder_part next h.word other ≡ finder_part phase h.word other)
    → word ≡ word_in next h.word → pair ≡ pair_in next → pair.setter ≡ v.pair.setter
    → told ≡ told_in index h.number next v.heard → owned_in next h.setter
    → Open index next (record v {
      word = word;
      pair = pair;
      part = updated v.part task its;
      hears = updated v.hears task None;
      last = record v.last { finder = finder; telling = telling };
      told = told;
    })
finder_moves index phase next v h task its word pair finder telling told apart finder_is finds
    telling_is same_named same_part its_is same_others word_is pair_is same_half told_is owned =
    let setter_apart : h.setter ≢ task = λ e. apart (sym e) in
    record {
      setter = h.setter;
      word = h.word;
      number = h.number;
      above = h.above;
      word_is = word_is;
      pair_is = pair_is;
      sets = updated_other v.part task h.setter its setter_apart
          ∙ (h.sets ∙ ap (λ (part : Part). Some part) (sym same_part));
      others = λ other other_apart. elim (cases_eq other task) [
        | inl same ↦ rw same (updated_here v.part task its ∙ its_is)
        | inr differs ↦
            updated_other v.part task other its differs
            ∙ (h.others other other_apart ∙ sym (same_others other differs))
      ];
      two = λ finder is.
          let same : task ≡ finder = some_same (sym finds ∙ is) in λ e. apart (same ∙ e);
      arming = h.arming;
      numbered = h.numbered;
      named = h.named ∙ sym same_named;
      finder = finder_is;
      telling = telling_is;
      own_half = λ both heard.
          let q = updated_other v.hears task h.setter None setter_apart in
          h.own_half both (sym q ∙ heard) ∙ sym same_half;
      told = told_is;
      owned = owned;
    }

taken_by : (task word taken : ℕ)
    → word ≡ taken → Some (Taken word) ≡ cond (eqb task task) (Some (Taken taken)) None
taken_by task word taken same = rw (eq-eqb task task refl, same) refl

nobody_before : (task word other : ℕ)
    → other ≢ task → cond (eqb task other) (Some (Taken word)) None ≡ None
nobody_before task word other differs = rw (ne_eqb task other (λ e. differs (sym e))) refl

-- a finder takes the word
take_moves : (index : ℕ) (phase : Phase) (v : View) (h : Open index phase v) (task word : ℕ)
    → task ≢ h.setter → v.word ≡ word → 1 < word
    → (next : Phase) × Open index next (after_take v task word)
take_moves index Fresh v h task word apart is above =
    let same : word ≡ h.word = sym is ∙ h.word_is in (
      FreshTaken task,
      finder_moves index Fresh (FreshTaken task) v h task
          (Some (Taken word)) 1 v.pair (Some task) v.last.telling v.told
          apart refl refl h.telling refl refl (taken_by task word h.word same)
          (nobody_before task h.word) refl h.pair_is refl h.told tt,
    )
take_moves index (Watching ticket) v h task word apart is above =
    let same : word ≡ h.word = sym is ∙ h.word_is in (
      NamedTaken task ticket,
      finder_moves index (Watching ticket) (NamedTaken task ticket) v h task
          (Some (Taken word)) 1 v.pair (Some task) v.last.telling v.told
          apart refl refl h.telling refl refl (taken_by task word h.word same)
          (nobody_before task h.word) refl h.pair_is refl h.told h.owned,
    )
take_moves index phase v h task word apart is above = absurd (omega (arith, h.word_is))

pub fits_take : (index : ℕ) (v : View) (task word : ℕ)
    → Fits index v → v.part task ≡ None → v.word ≡ word → 1 < word
    → Fits index (after_take v task word)
fits_take index v task word (hears, inl idle) none is above = absurd (omega (arith, idle.word_is))
fits_take index v task word (hears, inr (phase, h)) none is above =
    let apart : task ≢ h.setter =
    λ e. let its : v.part h.setter ≡ None = rw e at none in let sets = h.sets in cc in (
      hears_reset v.part v.hears v.pair v.pair task (Some (Taken word)) hears
          (λ other theirs both differs its stands. stands),
      inr (take_moves index phase v h task word apart is above),
    )

-- a finder tells its ticket
pub taker_is : (finder word task taken : ℕ)
    → cond (eqb finder task) (Some (Taken word)) None ≡ Some (Taken taken)
    → (finder ≡ task) × (word ≡ taken)
taker_is finder word task taken takes = elim (eqb_tells finder task) [
  | inl same ↦
      let its : Some (Taken word) ≡ Some (Taken taken) = rw same.0 at takes in (same.1, cc)
  | inr apart ↦
      let none : cond (eqb finder task) (Some (Taken word)) None ≡ None =
      rw apart.0 refl in absurd (cc)
]

nobody_else : (finder word task other : ℕ)
    → finder ≡ task → other ≢ task → None ≡ cond (eqb finder other) (Some (Taken word)) None
nobody_else finder word task other is differs =
    rw (ne_eqb finder other (λ e. differs (sym e ∙ is))) refl

pair_told : (pair : Halves) (named ticket : ℕ)
    → pair ≡ record { setter = named; finder = 0 }
    → told_pair pair ticket ≡ record { setter = named; finder = ticket }
pair_told pair named ticket e = rw (e, or_zero_l ticket) refl

meets : (index number its named heard ticket : ℕ) (told before : List Meeting)
    → number ≡ its → heard ≡ named → told ≡ before
    → meeting index number heard ticket ∷ told ≡ meeting index its named ticket ∷ before
meets index number its named heard ticket told before one same all = rw (one, same, all) refl

tell_moves : (index : ℕ) (phase : Phase) (v : View) (h : Open index phase v)
    (task word ticket number : ℕ) (both : Halves)
    → task ≢ h.setter → finder_part phase h.word task ≡ Some (Taken word)
    → v.last.number ≡ Some number → StillStands both v.pair → 0 < both.setter
    → IsOwnTicket task ticket
    → (v.pair.finder ≡ 0)
    × (next : Phase)
    × Open index next (after_tell v task ticket (meeting index number both.setter ticket ∷ v.told))
tell_moves index (FreshTaken finder) v h task word ticket number both apart takes numbered stands
    above own =
    let half : v.pair.setter ≡ 0 = ap (λ (pair : Halves). pair.setter) h.pair_is in
    absurd (omega (arith, stands.0 above))
tell_moves index (NamedTaken finder named) v h task word ticket number both apart takes numbered
    stands above own =
    let half : v.pair.setter ≡ named = ap (λ (pair : Halves). pair.setter) h.pair_is in
    let is = (taker_is finder h.word task word takes).0 in
    let same : number ≡ h.number = some_same (sym numbered ∙ h.numbered) in
    let heard : both.setter ≡ named = sym (stands.0 above) ∙ half in (
      ap (λ (pair : Halves). pair.finder) h.pair_is,
      NamedTold finder named ticket,
      finder_moves index (NamedTaken finder named) (NamedTold finder named ticket) v h task None
          v.word (told_pair v.pair ticket) v.last.finder (Some ticket)
          (meeting index number both.setter ticket ∷ v.told)
          apart h.finder (ap (λ (n : ℕ). Some n) is) refl refl refl refl
          (λ other differs. nobody_else finder h.word task other is differs)
          h.word_is (pair_told v.pair named ticket h.pair_is) refl
          (meets index number h.number named both.setter ticket v.told v.heard same heard h.told)
          (h.owned, rw is own),
    )
tell_moves index (HitTaken finder named) v h task word ticket number both apart takes numbered
    stands above own =
    let half : v.pair.setter ≡ named = ap (λ (pair : Halves). pair.setter) h.pair_is in
    let is = (taker_is finder h.word task word takes).0 in
    let same : number ≡ h.number = some_same (sym numbered ∙ h.numbered) in
    let heard : both.setter ≡ named = sym (stands.0 above) ∙ half in (
      ap (λ (pair : Halves). pair.finder) h.pair_is,
      HitTold finder named ticket,
      finder_moves index (HitTaken finder named) (HitTold finder named ticket) v h task None
          v.word (told_pair v.pair ticket) v.last.finder (Some ticket)
          (meeting index number both.setter ticket ∷ v.told)
          apart h.finder (ap (λ (n : ℕ). Some n) is) refl refl refl refl
          (λ other differs. nobody_else finder h.word task other is differs)
          h.word_is (pair_told v.pair named ticket h.pair_is) refl
          (meets index number h.number named both.setter ticket v.told v.heard same heard h.told)
          (h.owned, rw is own),
    )
tell_moves index phase v h task word ticket number both apart takes numbered stands above own =
    absurd (cc)

pub fits_tell : (index : ℕ) (v : View) (task word ticket number : ℕ) (both : Halves)
    → Fits index v → v.part task ≡ Some (Taken word) → v.hears task ≡ Some both
    → v.last.number ≡ Some number → 0 < both.setter → IsOwnTicket task ticket
    → Fits index (after_tell v task ticket (meeting index number both.setter ticket ∷ v.told))
fits_tell index v task word ticket number both (hears, inl idle) has heard numbered above own =
    let none = idle.nobody task in absurd (cc)
fits_tell index v task word ticket number both (hears, inr (phase, h)) has heard numbered above
    own =
    let apart = is_finder index phase v h task word has in
    let moves = tell_moves index phase v h task word ticket number both apart
    (sym (h.others task apart) ∙ has) numbered
    (hears task (Taken word) both has heard) above own in (
      hears_reset v.part v.hears v.pair (told_pair v.pair ticket) task None hears
          (λ other theirs heard_by_other differs its stands. (
            stands.0,
            λ more. let empty = moves.0 in absurd (omega (arith, stands.1 more, empty)),
          )),
      inr (moves.1, moves.2),
    )

-- a task hears the pair
hears_hear : (part : ℕ → Option Part) (hears : ℕ → Option Halves) (pair : Halves) (task : ℕ)
    → Hears part hears pair → Hears part (updated hears task (Some pair)) pair
hears_hear part hears pair task fits other theirs both has heard =
    elim (cases_eq other task) [
      | inl same ↦
          let its : updated hears task (Some pair) task ≡ Some pair =
          updated_here hears task (Some pair) in
          let is : pair ≡ both = some_same (sym its ∙ rw same at heard) in (
            λ above. ap (λ (halves : Halves). halves.setter) is,
            λ above. ap (λ (halves : Halves). halves.finder) is,
          )
      | inr apart ↦
          let q = updated_other hears task other (Some pair) apart in
          fits other theirs both has (sym q ∙ heard)
    ]

hear_moves : (index : ℕ) (phase : Phase) (v : View) (h : Open index phase v) (task : ℕ)
    → Open index phase (after_hear v task)
hear_moves index phase v h task = record {
  setter = h.setter;
  word = h.word;
  number = h.number;
  above = h.above;
  word_is = h.word_is;
  pair_is = h.pair_is;
  sets = h.sets;
  others = h.others;
  two = h.two;
  arming = h.arming;
  numbered = h.numbered;
  named = h.named;
  finder = h.finder;
  telling = h.telling;
  own_half = λ both heard. elim (cases_eq h.setter task) [
    | inl same ↦
        let its : updated v.hears task (Some v.pair) task ≡ Some v.pair =
        updated_here v.hears task (Some v.pair) in
        let is : v.pair ≡ both = some_same (sym its ∙ rw same at heard) in
        sym (ap (λ (halves : Halves). halves.setter) is)
    | inr apart ↦
        let q = updated_other v.hears task h.setter (Some v.pair) apart in
        h.own_half both (sym q ∙ heard)
  ];
  told = h.told;
  owned = h.owned;
}

pub fits_hear : (index : ℕ) (v : View) (task : ℕ) → Fits index v → Fits index (after_hear v task)
fits_hear index v task (hears, inl idle) = (
  hears_hear v.part v.hears v.pair task hears,
  inl (record {
    word_is = idle.word_is;
    pair_is = idle.pair_is;
    nobody = idle.nobody;
    told = idle.told;
  }),
)
fits_hear index v task (hears, inr (phase, h)) =
    (hears_hear v.part v.hears v.pair task hears, inr (phase, hear_moves index phase v h task))
