-- What a look-up by ticket says of accesses among lines.
use Rattle.std.proofs.Common.{◌≡◌, ◌↔◌, ◌<◌, ℕ, List, Option, Some, None, is_some, refl, subst, sym, true≢false}
use Rattle.std.specs.Prelude.{All, IsTrue}
use Rattle.std.proofs.lemmas.List.Elements.{All-contains}
use Rattle.access_types.specs.Arms.{Arm}
use Rattle.access_types.specs.Stamped.{Stamped}
use Rattle.access_types.specs.declared.arms.ArmOutcome.TheVariants.{Hit}
use Rattle.access_types.specs.declared.arms.HitResult.{HitResult}
use Rattle.watch_word.specs.Word.{watch_in}
use Rattle.watch_word.specs.declared.layout.Layout.{Layout}
use Rattle.report_text.specs.Standing.{Names, NamesOne, accesses_of}
use Rattle.report_text.specs.Truth.{ArmIsTrue, MayHit, MaySee, MayWatch, OutcomeIsTrue, RaceByStamps}
use Rattle.report_text.specs.declared.line.Line.{Line}
use Rattle.trace_replay.specs.Accesses.{IsNamed}

-- what was found by a ticket is what the ticket names among the lines
abbrev pub Finds : Option Stamped → List Line → ℕ → Type 0
Finds found all ticket = (s : Stamped) → (found ≡ Some s) ↔ IsNamed (accesses_of all) ticket s

found_is : (found : Option Stamped) (all : List Line) (ticket : ℕ) (s : Stamped) → Finds found all ticket → Names all ticket s → found ≡ Some s
found_is found all ticket s h names = (h s).1 (record { stands = names.stands; ticket_is = names.ticket_is })

pub named_is : (found : Option Stamped) (all : List Line) (ticket : ℕ) (s : Stamped) → Finds found all ticket → found ≡ Some s → Names all ticket s
named_is found all ticket s h e = let is = (h s).0 e in record { stands = is.stands; ticket_is = is.ticket_is }

pub one_named : (found : Option Stamped) (all : List Line) (ticket : ℕ) (s t : Stamped) → Finds found all ticket → found ≡ Some s
    → Names all ticket t → t ≡ s
one_named found all ticket s t h e names = let f = found_is found all ticket t h names in cc

pub none_named : (found : Option Stamped) (all : List Line) (ticket : ℕ) → Finds found all ticket → found ≡ None → ¬ NamesOne all ticket
none_named found all ticket h e names = let f = found_is found all ticket names.0 h names.1 in absurd cc

pub names_one : (found : Option Stamped) (all : List Line) (ticket : ℕ) → Finds found all ticket → IsTrue (is_some found) ↔ NamesOne all ticket
names_one None all ticket h = (λ t. absurd (true≢false (sym t)), λ names. absurd (none_named None all ticket h refl names))
names_one (Some s) all ticket h = (λ t. (s, named_is (Some s) all ticket s h refl), λ names. refl)

-- ---- what is true of what was found

pub arm_of : (found : Option Stamped) (slots : ℕ) (layout : Layout) (all : List Line) (a : Arm) (s : Stamped) → Finds found all a.setter → found ≡ Some s
    → (MayWatch slots layout s a.number a.index a.watch_word × OutcomeIsTrue slots layout all s a a.outcome) ↔ ArmIsTrue slots layout all a
arm_of found slots layout all a s h e = (
  λ is. (s, named_is found all a.setter s h e, is.0, is.1),
  λ is.
      let same : is.0 ≡ s = one_named found all a.setter s is.0 h e is.1 in (
        subst (λ t. MayWatch slots layout t a.number a.index a.watch_word) same is.2,
        subst (λ t. OutcomeIsTrue slots layout all t a a.outcome) same is.3,
      ),
)

pub hit_of : (found : Option Stamped) (slots : ℕ) (layout : Layout) (all : List Line) (s : Stamped) (a : Arm) (finder : ℕ) (result : HitResult) (f : Stamped)
    → Finds found all finder → found ≡ Some f → a.outcome ≡ Hit finder result
    → MayHit slots layout (watch_in layout a.watch_word) a.index s f result ↔ OutcomeIsTrue slots layout all s a a.outcome
hit_of found slots layout all s a finder result f h e is = (
  λ may. subst (OutcomeIsTrue slots layout all s a) (sym is) (f, named_is found all finder f h e, may),
  λ true_one.
      let hit : OutcomeIsTrue slots layout all s a (Hit finder result) = subst (OutcomeIsTrue slots layout all s a) is true_one in
      subst (λ g. MayHit slots layout (watch_in layout a.watch_word) a.index s g result) (one_named found all finder f hit.0 h e hit.1) hit.2,
)

pub no_hit : (found : Option Stamped) (slots : ℕ) (layout : Layout) (all : List Line) (s : Stamped) (a : Arm) (finder : ℕ) (result : HitResult)
    → Finds found all finder → found ≡ None → a.outcome ≡ Hit finder result → ¬ OutcomeIsTrue slots layout all s a a.outcome
no_hit found slots layout all s a finder result h e is true_one =
    let hit : OutcomeIsTrue slots layout all s a (Hit finder result) = subst (OutcomeIsTrue slots layout all s a) is true_one in
    none_named found all finder h e (hit.0, hit.1)

pub race_of : (one other : Option Stamped) (all : List Line) (setter finder : ℕ) (s f : Stamped) → Finds one all setter
    → Finds other all finder → one ≡ Some s → other ≡ Some f
    → RaceByStamps s f ↔ ((t : Stamped) × (g : Stamped) × Names all setter t × Names all finder g × RaceByStamps t g)
race_of one other all setter finder s f h k e d = (
  λ race. (s, f, named_is one all setter s h e, named_is other all finder f k d, race),
  λ is. subst (λ t. RaceByStamps t f) (one_named one all setter s is.0 h e is.2)
      (subst (RaceByStamps is.0) (one_named other all finder f is.1 k d is.3) is.4),
)

pub change_of : (found : Option Stamped) (all : List Line) (setter old new : ℕ) (s : Stamped) → Finds found all setter → found ≡ Some s
    → MaySee s old new ↔ ((t : Stamped) × Names all setter t × MaySee t old new)
change_of found all setter old new s h e = (
  λ may. (s, named_is found all setter s h e, may),
  λ is. subst (λ t. MaySee t old new) (one_named found all setter s is.0 h e is.1) is.2,
)

-- what is found has bytes
pub found_has_bytes : (found : Option Stamped) (all : List Line) (ticket : ℕ) (s : Stamped) → Finds found all ticket → found ≡ Some s
    → All (λ t. 0 < t.access.size) (accesses_of all) → 0 < s.access.size
found_has_bytes found all ticket s h e have =
    All-contains (λ t. 0 < t.access.size) (accesses_of all) s have (named_is found all ticket s h e).stands
