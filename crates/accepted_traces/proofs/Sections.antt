-- The lines of a written trace are true, kind by kind.
use Rattle.std.proofs.Common.{◌≡◌, ◌∷◌, ◌++◌, ◌∙◌, ◌+◌, ◌<◌, ◌≤◌, ◌==◌, ◌%◌, ◌/◌, ◌^◌, ◌*◌, ℕ, List, [], ap, append-nil, append_assoc, arith, inl, inr, map, refl, subst, sym}
use Rattle.std.specs.Prelude.{All, Contains, count_by}
use Rattle.std.proofs.lemmas.List.{map-append}
use Rattle.std.proofs.lemmas.List.Elements.{All-append, All-contains, All-cons, All-nil, Contains-append_right}
use Rattle.access_types.specs.Arms.{Arm}
use Rattle.access_types.specs.Stamped.{Stamped}
use Rattle.access_types.specs.Takes.{Take}
use Rattle.access_types.specs.Ticket.{ticket_number}
use Rattle.access_types.specs.declared.arms.ArmOutcome.{ArmOutcome}
use Rattle.access_types.specs.declared.arms.ArmOutcome.TheVariants.{Quiet, Origin, Hit}
use Rattle.access_types.specs.declared.report.Report.{Report}
use Rattle.access_types.specs.declared.report.Report.TheVariants.{Two, Unknown}
use Rattle.watch_word.specs.declared.layout.Layout.{Layout}
use Rattle.report_text.specs.Faults.{AreTrue}
use Rattle.report_text.specs.Standing.{FinderStands, HaveOtherStamps, Names, NamesOne, ReportStands, Stands, accesses_of, arms_of, kind_place, reports_of, takes_of}
use Rattle.report_text.specs.TraceText.{Head, second, written_lines}
use Rattle.report_text.specs.Truth.{IsIndexOf, IsLoadable, IsTrueEnd, IsTrueLine, OutcomeIsTrue, ReportIsTrue}
use Rattle.report_text.specs.declared.line.Line.{Line}
use Rattle.report_text.specs.declared.line.Line.TheVariants as lines
use Rattle.report_text.proofs.TrueLines.{accesses-append, arms-append, reports-append, takes-append}
use Rattle.accepted_traces.specs.Parts.{AccessFits, ArmFits, AreParts, AreOther, IsNamed, OfNamed, OutcomeFits, ReportFits, TakeFits}

-- what is of each kind among lines of one kind
abbrev access_lines : List Stamped → List Line
access_lines xs = map (λ s. lines.Access s) xs

abbrev arm_lines : List Arm → List Line
arm_lines xs = map (λ a. lines.Arm a) xs

abbrev take_lines : List Take → List Line
take_lines xs = map (λ t. lines.Take t) xs

abbrev report_lines : List Report → List Line
report_lines xs = map (λ r. lines.Report r) xs

pub record Holds (all : List Line) (accesses : List Stamped) (arms : List Arm) (takes : List Take) (reports : List Report) : Type 0 where
  pub accesses_are : accesses_of all ≡ accesses
  pub arms_are : arms_of all ≡ arms
  pub takes_are : takes_of all ≡ takes
  pub reports_are : reports_of all ≡ reports

hold_accesses : (xs : List Stamped) → Holds (access_lines xs) xs [] [] []
hold_accesses [] = record { accesses_are = refl; arms_are = refl; takes_are = refl; reports_are = refl }
hold_accesses (x ∷ xs) = let more = hold_accesses xs in
    record { accesses_are = ap (λ t. x ∷ t) more.accesses_are; arms_are = more.arms_are; takes_are = more.takes_are; reports_are = more.reports_are }

hold_arms : (xs : List Arm) → Holds (arm_lines xs) [] xs [] []
hold_arms [] = record { accesses_are = refl; arms_are = refl; takes_are = refl; reports_are = refl }
hold_arms (x ∷ xs) = let more = hold_arms xs in
    record { accesses_are = more.accesses_are; arms_are = ap (λ t. x ∷ t) more.arms_are; takes_are = more.takes_are; reports_are = more.reports_are }

hold_takes : (xs : List Take) → Holds (take_lines xs) [] [] xs []
hold_takes [] = record { accesses_are = refl; arms_are = refl; takes_are = refl; reports_are = refl }
hold_takes (x ∷ xs) = let more = hold_takes xs in
    record { accesses_are = more.accesses_are; arms_are = more.arms_are; takes_are = ap (λ t. x ∷ t) more.takes_are; reports_are = more.reports_are }

hold_reports : (xs : List Report) → Holds (report_lines xs) [] [] [] xs
hold_reports [] = record { accesses_are = refl; arms_are = refl; takes_are = refl; reports_are = refl }
hold_reports (x ∷ xs) = let more = hold_reports xs in
    record { accesses_are = more.accesses_are; arms_are = more.arms_are; takes_are = more.takes_are; reports_are = ap (λ t. x ∷ t) more.reports_are }

hold_both : (xs ys : List Line) (a b : List Stamped) (c d : List Arm) (e f : List Take) (g h : List Report)
    → Holds xs a c e g → Holds ys b d f h → Holds (xs ++ ys) (a ++ b) (c ++ d) (e ++ f) (g ++ h)
hold_both xs ys a b c d e f g h p q = record {
  accesses_are = accesses-append xs ys ∙ rw (p.accesses_are, q.accesses_are);
  arms_are = arms-append xs ys ∙ rw (p.arms_are, q.arms_are);
  takes_are = takes-append xs ys ∙ rw (p.takes_are, q.takes_are);
  reports_are = reports-append xs ys ∙ rw (p.reports_are, q.reports_are);
}

-- with arms behind accesses, takes behind these, and reports behind all
hold_two : (xs : List Stamped) (ys : List Arm) → Holds (access_lines xs ++ arm_lines ys) xs ys [] []
hold_two xs ys = subst (λ l. Holds (access_lines xs ++ arm_lines ys) l ys [] []) (append-nil xs)
    (hold_both (access_lines xs) (arm_lines ys) xs [] [] ys [] [] [] [] (hold_accesses xs) (hold_arms ys))

hold_three : (xs : List Stamped) (ys : List Arm) (zs : List Take) → Holds (access_lines xs ++ arm_lines ys ++ take_lines zs) xs ys zs []
hold_three xs ys zs = subst (λ l. Holds (access_lines xs ++ arm_lines ys ++ take_lines zs) l ys zs []) (append-nil xs)
    (subst (λ l. Holds (access_lines xs ++ arm_lines ys ++ take_lines zs) (xs ++ []) l zs []) (append-nil ys)
    (hold_both (access_lines xs ++ arm_lines ys) (take_lines zs) xs [] ys [] [] zs [] [] (hold_two xs ys) (hold_takes zs)))

pub hold_all : (xs : List Stamped) (ys : List Arm) (zs : List Take) (ws : List Report) → Holds (written_lines xs ys zs ws) xs ys zs ws
hold_all xs ys zs ws = subst (λ l. Holds (written_lines xs ys zs ws) l ys zs ws) (append-nil xs)
    (subst (λ l. Holds (written_lines xs ys zs ws) (xs ++ []) l zs ws) (append-nil ys)
    (subst (λ l. Holds (written_lines xs ys zs ws) (xs ++ []) (ys ++ []) l ws) (append-nil zs)
    (hold_both (access_lines xs ++ arm_lines ys ++ take_lines zs) (report_lines ws) xs [] ys [] zs [] [] ws (hold_three xs ys zs) (hold_reports ws))))

-- ---- lines of one kind

-- each stands and is true where those before it in its kind, and lines before them, stand
module _ {X : Type 0} (kind : X → Line) (head : Head) (before : List Line) (all : List X)
    (each : (earlier later : List X) (x : X) → all ≡ earlier ++ x ∷ later
    → Stands head (before ++ map kind earlier) (kind x) × IsTrueLine head (before ++ map kind earlier) (kind x)) where
  go : (earlier rest : List X) → all ≡ earlier ++ rest → AreTrue head (before ++ map kind earlier) (map kind rest)
  go earlier [] is = tt
  go earlier (x ∷ rest) is =
      let now = each earlier rest x is in
      let same : before ++ map kind (earlier ++ x ∷ []) ≡ (before ++ map kind earlier) ++ kind x ∷ [] =
      ap (λ ls. before ++ ls) (map-append kind earlier (x ∷ [])) ∙ sym (append_assoc before (map kind earlier) (kind x ∷ [])) in (
        now.0,
        now.1,
        subst (λ ls. AreTrue head ls (map kind rest)) same (go (earlier ++ x ∷ []) rest (is ∙ sym (append_assoc earlier (x ∷ []) rest))),
      )

  section_true : AreTrue head before (map kind all)
  section_true = subst (λ ls. AreTrue head ls (map kind all)) (append-nil before) (go [] all refl)

true_both : (head : Head) (before xs ys : List Line) → AreTrue head before xs → AreTrue head (before ++ xs) ys → AreTrue head before (xs ++ ys)
true_both head before [] ys h k = subst (λ ls. AreTrue head ls ys) (append-nil before) k
true_both head before (x ∷ xs) ys h k =
    (h.0, h.1, true_both head (before ++ x ∷ []) xs ys h.2 (subst (λ ls. AreTrue head ls ys) (sym (append_assoc before (x ∷ []) xs)) k))

-- ---- the order of kinds

abbrev UpTo : ℕ → List Line → Type 0
UpTo place all = All (λ (earlier : Line). kind_place earlier ≤ place) all

up_map : {X : Type 0} (kind : X → Line) (place : ℕ) (xs : List X) → ((x : X) → kind_place (kind x) ≤ place) → UpTo place (map kind xs)
up_map kind place [] low = All-nil (λ (earlier : Line). kind_place earlier ≤ place)
up_map kind place (x ∷ xs) low = All-cons (λ (earlier : Line). kind_place earlier ≤ place) (kind x) (map kind xs) (low x) (up_map kind place xs low)

up_both : (place : ℕ) (xs ys : List Line) → UpTo place xs → UpTo place ys → UpTo place (xs ++ ys)
up_both place xs ys p q = All-append (λ (earlier : Line). kind_place earlier ≤ place) xs ys p q

up_accesses : (place : ℕ) (xs : List Stamped) → UpTo place (access_lines xs)
up_accesses place xs = up_map (λ s. lines.Access s) place xs (λ x. omega arith)

up_arms : (place : ℕ) (xs : List Arm) → 1 ≤ place → UpTo place (arm_lines xs)
up_arms place xs low = up_map (λ a. lines.Arm a) place xs (λ x. omega arith)

up_takes : (place : ℕ) (xs : List Take) → 2 ≤ place → UpTo place (take_lines xs)
up_takes place xs low = up_map (λ t. lines.Take t) place xs (λ x. omega arith)

up_reports : (place : ℕ) (xs : List Report) → 3 ≤ place → UpTo place (report_lines xs)
up_reports place xs low = up_map (λ r. lines.Report r) place xs (λ x. omega arith)

-- ---- each kind

-- what is named among the accesses is named among lines that hold them
names_in : (all : List Line) (accesses : List Stamped) (ticket : ℕ) (s : Stamped) → accesses_of all ≡ accesses → IsNamed accesses ticket s → Names all ticket s
names_in all accesses ticket s is h = record { stands = subst (λ xs. Contains xs s) (sym is) h.stands; ticket_is = h.ticket_is }

access_now : (head : Head) (earlier : List Stamped) (s : Stamped) → AccessFits s → All (AreOther s) earlier
    → Stands head ([] ++ access_lines earlier) (lines.Access s)
access_now head earlier s fits other =
    let is = (hold_accesses earlier).accesses_are in
    record {
      in_order = up_accesses 0 earlier;
      content = record {
        limits = fits.limits;
        has_bytes = fits.has_bytes;
        mask = fits.mask;
        letters = fits.letters;
        ends_later = fits.ends_later;
        end_limit = fits.end_limit;
        new_stamps = subst (All (λ t. HaveOtherStamps s t)) (sym is) (λ k d below. (other k d below).stamps);
        new_name = subst (All (λ (t : Stamped). ticket_number t.access ≡ ticket_number s.access → ⊥)) (sym is) (λ k d below. (other k d below).name);
      };
    }

-- a page slot and the two after it are within the table
pub index_within : (slots addr index : ℕ) → 3 ≤ slots → IsIndexOf slots addr index → index ≤ slots + 1
index_within slots addr index some is =
    let low : addr / 4096 % slots < slots = omega arith in
    let most = is.two_after in
    omega (arith, low, most)

module _ (slots : ℕ) (layout : Layout) (accesses : List Stamped) where
  named_one : (all : List Line) (ticket : ℕ) (P : Stamped → Type 0) → accesses_of all ≡ accesses → OfNamed accesses ticket P → NamesOne all ticket
  named_one all ticket P is h = (h.access, names_in all accesses ticket h.access is h.named)

  finder_stands : (all : List Line) (a : Arm) (s : Stamped) (outcome : ArmOutcome) → accesses_of all ≡ accesses
      → OutcomeFits slots layout accesses a s outcome → FinderStands all outcome
  finder_stands all a s Quiet is h = tt
  finder_stands all a s Origin is h = tt
  finder_stands all a s (Hit finder result) is h = named_one all finder _ is h

  outcome_true : (all : List Line) (a : Arm) (s : Stamped) (outcome : ArmOutcome) → accesses_of all ≡ accesses
      → OutcomeFits slots layout accesses a s outcome → OutcomeIsTrue slots layout all s a outcome
  outcome_true all a s Quiet is h = tt
  outcome_true all a s Origin is h = tt
  outcome_true all a s (Hit finder result) is h = (h.access, names_in all accesses finder h.access is h.named, h.holds)

  arm_now : (earlier : List Arm) (a : Arm) → 3 ≤ slots → ArmFits slots layout accesses earlier a
      → Stands (second slots layout) (access_lines accesses ++ arm_lines earlier) (lines.Arm a)
      × IsTrueLine (second slots layout) (access_lines accesses ++ arm_lines earlier) (lines.Arm a)
  arm_now earlier a some fits =
      let before : List Line = access_lines accesses ++ arm_lines earlier in
      let holds = hold_two accesses earlier in
      let is = holds.accesses_are in (
        record {
          in_order = up_both 1 (access_lines accesses) (arm_lines earlier) (up_accesses 1 accesses) (up_arms 1 earlier (omega arith));
          content = record {
            setter = named_one before a.setter _ is fits.setter;
            number = fits.number ∙ ap (λ xs. count_by (λ (b : Arm). b.setter == a.setter) xs) (sym holds.arms_are);
            index = index_within slots fits.setter.access.access.addr a.index some fits.setter.holds.0.index_of_setter;
            watch_word = fits.watch_word;
            finder = finder_stands before a fits.setter.access a.outcome is fits.setter.holds.1;
          };
        },
        (
          fits.setter.access,
          names_in before accesses a.setter fits.setter.access is fits.setter.named,
          fits.setter.holds.0,
          outcome_true before a fits.setter.access a.outcome is fits.setter.holds.1,
        ),
      )

  take_now : (arms : List Arm) (earlier : List Take) (t : Take) → TakeFits slots accesses t
      → Stands (second slots layout) (access_lines accesses ++ arm_lines arms ++ take_lines earlier) (lines.Take t)
  take_now arms earlier t fits =
      let before : List Line = access_lines accesses ++ arm_lines arms ++ take_lines earlier in
      let is = (hold_three accesses arms earlier).accesses_are in
      record {
        in_order = up_both 2 (access_lines accesses ++ arm_lines arms) (take_lines earlier)
            (up_both 2 (access_lines accesses) (arm_lines arms) (up_accesses 2 accesses) (up_arms 2 arms (omega arith))) (up_takes 2 earlier (omega arith));
        content = record {
          finder = named_one before t.finder _ is fits.finder;
          index = fits.index;
          setter = named_one before t.setter _ is fits.setter;
        };
      }

  -- a value of a size that can be loaded has 64 bits
  pub value_limit : (size value : ℕ) → IsLoadable size → value < 2 ^ (8 * size) → value < 2 ^ 64
  value_limit size value loadable fits =
      elim loadable [
        | inl a ↦ let low : value < 2 ^ (8 * 1) = subst (λ n. value < 2 ^ (8 * n)) a fits in omega arith
        | inr more ↦ elim more [
          | inl b ↦ let low : value < 2 ^ (8 * 2) = subst (λ n. value < 2 ^ (8 * n)) b fits in omega arith
          | inr most ↦ elim most [
            | inl c ↦ let low : value < 2 ^ (8 * 4) = subst (λ n. value < 2 ^ (8 * n)) c fits in omega arith
            | inr d ↦ let low : value < 2 ^ (8 * 8) = subst (λ n. value < 2 ^ (8 * n)) d fits in omega arith
          ]
        ]
      ]

  report_stands : (all : List Line) (r : Report) → accesses_of all ≡ accesses → ReportFits accesses r → ReportStands all r
  report_stands all (Two setter finder seen) is h = (named_one all setter _ is h, named_one all finder _ is h.holds)
  report_stands all (Unknown setter old new) is h = (
    named_one all setter _ is h,
    value_limit h.access.access.size old h.holds.size h.holds.old_fits,
    value_limit h.access.access.size new h.holds.size h.holds.new_fits,
  )

  report_true : (all : List Line) (r : Report) → accesses_of all ≡ accesses → ReportFits accesses r → ReportIsTrue all r
  report_true all (Two setter finder seen) is h = (
    h.access,
    h.holds.access,
    names_in all accesses setter h.access is h.named,
    names_in all accesses finder h.holds.access is h.holds.named,
    h.holds.holds,
  )
  report_true all (Unknown setter old new) is h = (h.access, names_in all accesses setter h.access is h.named, h.holds)

  report_now : (arms : List Arm) (takes : List Take) (earlier : List Report) (r : Report) → ReportFits accesses r
      → Stands (second slots layout) (access_lines accesses ++ arm_lines arms ++ take_lines takes ++ report_lines earlier) (lines.Report r)
      × IsTrueLine (second slots layout) (access_lines accesses ++ arm_lines arms ++ take_lines takes ++ report_lines earlier) (lines.Report r)
  report_now arms takes earlier r fits =
      let before : List Line = access_lines accesses ++ arm_lines arms ++ take_lines takes ++ report_lines earlier in
      let is = (hold_all accesses arms takes earlier).accesses_are in (
        record {
          in_order = up_both 3 (access_lines accesses ++ arm_lines arms ++ take_lines takes) (report_lines earlier)
              (up_both 3 (access_lines accesses ++ arm_lines arms) (take_lines takes)
              (up_both 3 (access_lines accesses) (arm_lines arms) (up_accesses 3 accesses) (up_arms 3 arms (omega arith))) (up_takes 3 takes (omega arith)))
              (up_reports 3 earlier (omega arith));
          content = report_stands before r is fits;
        },
        report_true before r is fits,
      )

-- an element of a list
at_split : {X : Type 0} (P : X → Type 0) (all earlier later : List X) (x : X) → All P all → all ≡ earlier ++ x ∷ later → P x
at_split P all earlier later x h is =
    let here : All P (earlier ++ x ∷ later) = subst (All P) is h in
    All-contains P (earlier ++ x ∷ later) x here (Contains-append_right earlier (x ∷ later) x (0, omega arith, refl))

pub parts_true : (slots : ℕ) (layout : Layout) (accesses : List Stamped) (arms : List Arm) (takes : List Take) (reports : List Report)
    → AreParts slots layout accesses arms takes reports → AreTrue (second slots layout) [] (written_lines accesses arms takes reports)
parts_true slots layout accesses arms takes reports h =
    let head : Head = second slots layout in
    let one = section_true (λ s. lines.Access s) head [] accesses (λ earlier later s is.
    (access_now head earlier s (at_split AccessFits accesses earlier later s h.each_access is) (h.others earlier later s is), tt)) in
    let two = section_true (λ a. lines.Arm a) head (access_lines accesses) arms (λ earlier later a is.
    arm_now slots layout accesses earlier a h.few_slots (h.each_arm earlier later a is)) in
    let three = section_true (λ t. lines.Take t) head (access_lines accesses ++ arm_lines arms) takes (λ earlier later t is.
    (take_now slots layout accesses arms earlier t (at_split (TakeFits slots accesses) takes earlier later t h.each_take is), tt)) in
    let four = section_true (λ r. lines.Report r) head (access_lines accesses ++ arm_lines arms ++ take_lines takes) reports (λ earlier later r is.
    report_now slots layout accesses arms takes earlier r (at_split (ReportFits accesses) reports earlier later r h.each_report is)) in
    true_both head [] (access_lines accesses ++ arm_lines arms ++ take_lines takes) (report_lines reports)
    (true_both head [] (access_lines accesses ++ arm_lines arms) (take_lines takes)
    (true_both head [] (access_lines accesses) (arm_lines arms) one two) three) four

pub parts_end : (slots : ℕ) (layout : Layout) (accesses : List Stamped) (arms : List Arm) (takes : List Take) (reports : List Report)
    → AreParts slots layout accesses arms takes reports → IsTrueEnd (second slots layout) (written_lines accesses arms takes reports)
parts_end slots layout accesses arms takes reports h =
    let is = hold_all accesses arms takes reports in
    record {
      takings = rw (is.arms_are, is.takes_are) h.takings;
      races = rw (is.arms_are, is.reports_are) h.races;
      origins = rw (is.arms_are, is.reports_are) h.origins;
    }
