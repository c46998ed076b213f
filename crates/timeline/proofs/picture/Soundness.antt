-- what holds of the lines of a true trace
use Rattle.std.proofs.Common.{◌≡◌, ◌<◌, ◌∷◌, ◌++◌, ◌∙◌, inl, inr, ℕ, List, [], ap, append_assoc, append-nil, arith, refl, subst, sym}
use Rattle.std.specs.Prelude.{All, Contains}
use Rattle.std.specs.List.{AllByRecursion}
use Rattle.std.proofs.lemmas.List.Elements.{All-cons, All-contains, All-nil, Contains-push_cases}
use Rattle.access_types.specs.Stamped.{Stamped}
use Rattle.access_types.specs.Ticket.{ticket_number}
use Rattle.access_types.specs.declared.report.Report.TheVariants.{Two, Unknown}
use Rattle.report_text.specs.Faults.{AreTrue}
use Rattle.report_text.specs.Standing.{Names, NamesOne, accesses_of, arms_of, reports_of, takes_of}
use Rattle.report_text.specs.TraceText.{Head, first, second}
use Rattle.report_text.specs.declared.line.Line.{Line}
use Rattle.report_text.specs.declared.line.Line.TheVariants as lines
use Rattle.report_text.proofs.TrueLines.{Names-more, accesses-append}
use Rattle.trace_replay.specs.Accesses.{IsNamed}
use Rattle.timeline.specs.picture.Sound.{ArmHolds, IsSound, NamesOnly, ReportHolds, TakeHolds}

-- ---- accesses

-- no two accesses have one ticket
HaveOtherNames : List Stamped → Type 0
HaveOtherNames xs = (s t : Stamped) → Contains xs s → Contains xs t → ticket_number s.access ≡ ticket_number t.access → s ≡ t

-- a line that is no access adds none
no_access : (before : List Line) (line : Line) → accesses_of (line ∷ []) ≡ [] → accesses_of (before ++ line ∷ []) ≡ accesses_of before
no_access before line e = accesses-append before (line ∷ []) ∙ ap (λ xs. accesses_of before ++ xs) e ∙ append-nil (accesses_of before)

one_name_more : (xs : List Stamped) (new : Stamped) → All (λ t. ticket_number t.access ≡ ticket_number new.access → ⊥) xs
    → HaveOtherNames xs → HaveOtherNames (xs ++ new ∷ [])
unfolding HaveOtherNames
one_name_more xs new fresh h s t in_s in_t e =
    elim (Contains-push_cases xs new s in_s) [
      | inl a ↦ elim (Contains-push_cases xs new t in_t) [
        | inl b ↦ h s t a b e
        | inr is ↦ absurd (All-contains (λ t. ticket_number t.access ≡ ticket_number new.access → ⊥) xs s fresh a
            (e ∙ ap (λ (u : Stamped). ticket_number u.access) (sym is)))
      ]
      | inr is ↦ elim (Contains-push_cases xs new t in_t) [
        | inl b ↦ absurd (All-contains (λ t. ticket_number t.access ≡ ticket_number new.access → ⊥) xs t fresh b
            (sym e ∙ ap (λ (u : Stamped). ticket_number u.access) (sym is)))
        | inr other ↦ sym is ∙ other
      ]
    ]

other_names : (head : Head) (before all : List Line) → AreTrue head before all → HaveOtherNames (accesses_of before)
    → HaveOtherNames (accesses_of (before ++ all))
other_names head before [] h names = subst (λ ls. HaveOtherNames (accesses_of ls)) (sym (append-nil before)) names
other_names head before (lines.Access s ∷ all) h names = subst (λ ls. HaveOtherNames (accesses_of ls)) (append_assoc before (lines.Access s ∷ []) all)
    (other_names head (before ++ lines.Access s ∷ []) all h.2
    (subst HaveOtherNames (sym (accesses-append before (lines.Access s ∷ [])))
    (one_name_more (accesses_of before) s h.0.content.new_name names)))
other_names head before (lines.Arm a ∷ all) h names = subst (λ ls. HaveOtherNames (accesses_of ls)) (append_assoc before (lines.Arm a ∷ []) all)
    (other_names head (before ++ lines.Arm a ∷ []) all h.2 (subst HaveOtherNames (sym (no_access before (lines.Arm a) refl)) names))
other_names head before (lines.Take t ∷ all) h names = subst (λ ls. HaveOtherNames (accesses_of ls)) (append_assoc before (lines.Take t ∷ []) all)
    (other_names head (before ++ lines.Take t ∷ []) all h.2 (subst HaveOtherNames (sym (no_access before (lines.Take t) refl)) names))
other_names head before (lines.Report r ∷ all) h names = subst (λ ls. HaveOtherNames (accesses_of ls)) (append_assoc before (lines.Report r ∷ []) all)
    (other_names head (before ++ lines.Report r ∷ []) all h.2 (subst HaveOtherNames (sym (no_access before (lines.Report r) refl)) names))

-- each access ends after it began
pub all_end_later : (head : Head) (before all : List Line) → AreTrue head before all → All (λ s. s.begin < s.end) (accesses_of all)
all_end_later head before [] h = All-nil (λ s. s.begin < s.end)
all_end_later head before (lines.Access s ∷ all) h =
    All-cons (λ s. s.begin < s.end) s (accesses_of all) h.0.content.ends_later (all_end_later head (before ++ lines.Access s ∷ []) all h.2)
all_end_later head before (lines.Arm a ∷ all) h = all_end_later head (before ++ lines.Arm a ∷ []) all h.2
all_end_later head before (lines.Take t ∷ all) h = all_end_later head (before ++ lines.Take t ∷ []) all h.2
all_end_later head before (lines.Report r ∷ all) h = all_end_later head (before ++ lines.Report r ∷ []) all h.2

-- ---- lines that name accesses

module _ (whole : List Line) (names : HaveOtherNames (accesses_of whole)) (later : All (λ s. s.begin < s.end) (accesses_of whole)) where
  named : (before all : List Line) → before ++ all ≡ whole → (ticket : ℕ) (s : Stamped) → Names before ticket s → IsNamed (accesses_of whole) ticket s
  named before all e ticket s n =
      let more : Names whole ticket s = subst (λ ls. Names ls ticket s) e (Names-more before all ticket s n) in
      record { stands = more.stands; ticket_is = more.ticket_is }

  one_named : (before all : List Line) → before ++ all ≡ whole → (ticket : ℕ) → NamesOne before ticket
      → (s : Stamped) × IsNamed (accesses_of whole) ticket s
  one_named before all e ticket n = (n.0, named before all e ticket n.0 n.1)

  only_named : (before all : List Line) → before ++ all ≡ whole → (ticket : ℕ) (s : Stamped) → Names before ticket s
      → NamesOnly (accesses_of whole) ticket s
  unfolding HaveOtherNames
  only_named before all e ticket s n =
      let is = named before all e ticket s n in
      record {
        names = is;
        only = λ other k. names other s k.stands is.stands (k.ticket_is ∙ sym is.ticket_is);
        ends_later = All-contains (λ s. s.begin < s.end) (accesses_of whole) s later is.stands;
      }

  Holds : List Line → Type 0
  Holds all = AllByRecursion (ArmHolds (accesses_of whole)) (arms_of all)
      × AllByRecursion (TakeHolds (accesses_of whole)) (takes_of all)
      × AllByRecursion (ReportHolds (accesses_of whole)) (reports_of all)

  holds : (head : Head) (before all : List Line) → before ++ all ≡ whole → AreTrue head before all → Holds all
  unfolding Holds
  holds head before [] e h = (tt, tt, tt)
  holds head before (lines.Access s ∷ all) e h =
      holds head (before ++ lines.Access s ∷ []) all (append_assoc before (lines.Access s ∷ []) all ∙ e) h.2
  holds first before (lines.Arm a ∷ all) e h = absurd h.0.content
  holds (second slots layout) before (lines.Arm a ∷ all) e h =
      let next = holds (second slots layout) (before ++ lines.Arm a ∷ []) all (append_assoc before (lines.Arm a ∷ []) all ∙ e) h.2 in
      ((one_named before (lines.Arm a ∷ all) e a.setter h.0.content.setter, next.0), next.1, next.2)
  holds first before (lines.Take t ∷ all) e h = absurd h.0.content
  holds (second slots layout) before (lines.Take t ∷ all) e h =
      let next = holds (second slots layout) (before ++ lines.Take t ∷ []) all (append_assoc before (lines.Take t ∷ []) all ∙ e) h.2 in (
        next.0,
        (
          (
            one_named before (lines.Take t ∷ all) e t.finder h.0.content.finder,
            one_named before (lines.Take t ∷ all) e t.setter h.0.content.setter,
          ),
          next.1,
        ),
        next.2,
      )
  holds head before (lines.Report (Two setter finder seen) ∷ all) e h =
      let line : Line = lines.Report (Two setter finder seen) in
      let next = holds head (before ++ line ∷ []) all (append_assoc before (line ∷ []) all ∙ e) h.2 in
      let race = h.1 in (
        next.0,
        next.1,
        (
          (
            race.0,
            race.1,
            only_named before (line ∷ all) e setter race.0 race.2,
            only_named before (line ∷ all) e finder race.1 race.3,
            race.4.at_once,
          ),
          next.2,
        ),
      )
  holds head before (lines.Report (Unknown setter old new) ∷ all) e h =
      let line : Line = lines.Report (Unknown setter old new) in
      let next = holds head (before ++ line ∷ []) all (append_assoc before (line ∷ []) all ∙ e) h.2 in
      let change = h.1 in
      (next.0, next.1, ((change.0, only_named before (line ∷ all) e setter change.0 change.1), next.2))

-- the lines of a true trace name what is there
pub sound : (head : Head) (all : List Line) → AreTrue head [] all → IsSound (accesses_of all) (arms_of all) (takes_of all) (reports_of all)
unfolding Holds HaveOtherNames
sound head all h =
    let names : HaveOtherNames (accesses_of all) = other_names head [] all h (λ s t in_s in_t e. absurd (omega (arith, in_s.1))) in
    let holding = holds all names (all_end_later head [] all h) head [] all refl h in
    record { arms_hold = holding.0; takes_hold = holding.1; reports_hold = holding.2 }
