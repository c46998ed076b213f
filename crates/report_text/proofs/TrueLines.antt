-- The lines of a true trace are true.
use Rattle.std.proofs.Common.{◌≡◌, ◌<◌, ◌++◌, ◌∷◌, ℕ, zero, suc, List, [], ap, append_assoc, arith, get_or, length, refl, subst, sym}
use Rattle.std.specs.Prelude.{Contains, Option}
use Rattle.std.proofs.lemmas.List.Elements.{Contains-append_left}
use Rattle.access_types.specs.Stamped.{Stamped}
use Rattle.access_types.specs.declared.report.Report.TheVariants.{Two}
use Rattle.access_types.specs.declared.report.ValueChange.{ValueChange}
use Rattle.report_text.specs.Faults.{AreTrue}
use Rattle.report_text.specs.Standing.{Names, Stands, accesses_of, arms_of, reports_of, takes_of}
use Rattle.report_text.specs.TraceText.{Head}
use Rattle.report_text.specs.Truth.{IsRaceOf, IsTrueLine}
use Rattle.report_text.specs.declared.line.Line.{Line}
use Rattle.report_text.specs.declared.line.Line.TheVariants as lines

-- the accesses among lines, and then among others
pub accesses-append : (xs ys : List Line) → accesses_of (xs ++ ys) ≡ accesses_of xs ++ accesses_of ys
accesses-append [] ys = refl
accesses-append (lines.Access s ∷ xs) ys = ap (λ t. s ∷ t) (accesses-append xs ys)
accesses-append (lines.Arm a ∷ xs) ys = accesses-append xs ys
accesses-append (lines.Take t ∷ xs) ys = accesses-append xs ys
accesses-append (lines.Report r ∷ xs) ys = accesses-append xs ys

-- and so armings, takings and reports
pub arms-append : (xs ys : List Line) → arms_of (xs ++ ys) ≡ arms_of xs ++ arms_of ys
arms-append [] ys = refl
arms-append (lines.Access s ∷ xs) ys = arms-append xs ys
arms-append (lines.Arm a ∷ xs) ys = ap (λ t. a ∷ t) (arms-append xs ys)
arms-append (lines.Take t ∷ xs) ys = arms-append xs ys
arms-append (lines.Report r ∷ xs) ys = arms-append xs ys

pub takes-append : (xs ys : List Line) → takes_of (xs ++ ys) ≡ takes_of xs ++ takes_of ys
takes-append [] ys = refl
takes-append (lines.Access s ∷ xs) ys = takes-append xs ys
takes-append (lines.Arm a ∷ xs) ys = takes-append xs ys
takes-append (lines.Take t ∷ xs) ys = ap (λ u. t ∷ u) (takes-append xs ys)
takes-append (lines.Report r ∷ xs) ys = takes-append xs ys

pub reports-append : (xs ys : List Line) → reports_of (xs ++ ys) ≡ reports_of xs ++ reports_of ys
reports-append [] ys = refl
reports-append (lines.Access s ∷ xs) ys = reports-append xs ys
reports-append (lines.Arm a ∷ xs) ys = reports-append xs ys
reports-append (lines.Take t ∷ xs) ys = reports-append xs ys
reports-append (lines.Report r ∷ xs) ys = ap (λ u. r ∷ u) (reports-append xs ys)

-- what a ticket names among lines it names among more
pub Names-more : (xs ys : List Line) (ticket : ℕ) (s : Stamped) → Names xs ticket s → Names (xs ++ ys) ticket s
Names-more xs ys ticket s h = record {
  stands = subst (λ all. Contains all s) (sym (accesses-append xs ys))
      (Contains-append_left (accesses_of xs) (accesses_of ys) s h.stands);
  ticket_is = h.ticket_is;
}

-- a line that stands among others, which are true
pub record StandsTruly (head : Head) (all : List Line) (line : Line) : Type 0 where
  pub front : List Line
  pub rest : List Line
  pub split : all ≡ front ++ line ∷ rest
  pub stands : Stands head front line
  pub is_true : IsTrueLine head front line

-- the line at a place among lines that are true
pub line_at : (head : Head) (before all : List Line) (k : ℕ) (line : Line) → k < length all
    → get_or all k line ≡ line → AreTrue head before all → StandsTruly head (before ++ all) line
line_at head before [] k line within is h = absurd (omega arith)
line_at head before (x ∷ all) zero line within is h = subst (λ y. StandsTruly head (before ++ x ∷ all) y) is (record {
  front = before;
  rest = all;
  split = refl;
  stands = h.0;
  is_true = h.1;
})
line_at head before (x ∷ all) (suc k) line within is h =
    subst (λ ls. StandsTruly head ls line) (append_assoc before (x ∷ []) all)
    (line_at head (before ++ x ∷ []) all k line (omega arith) is h.2)

-- a race line among lines that are true is a race of two of them
pub race_at : (head : Head) (all : List Line) (setter finder : ℕ) (seen : Option ValueChange) → AreTrue head [] all
    → Contains all (lines.Report (Two setter finder seen)) → IsRaceOf all setter finder
race_at head all setter finder seen h c =
    let at = line_at head [] all c.0 (lines.Report (Two setter finder seen)) c.1 c.2 h in
    let race = at.is_true in
    let more = λ (ticket : ℕ) (s : Stamped) (n : Names at.front ticket s).
    subst (λ ls. Names ls ticket s) (sym at.split) (Names-more at.front _ ticket s n) in
    (race.0, race.1, more setter race.0 race.2, more finder race.1 race.3, race.4)
