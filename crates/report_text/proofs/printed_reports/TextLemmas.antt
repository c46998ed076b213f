-- By its text a report tells whether it is hidden.
use Rattle.std.proofs.Common.{◌≡◌, ◌<◌, ◌^◌, ◌++◌, ◌∷◌, ◌∙◌, ◌&&◌, ◌||◌, [], ℕ, Bool, List, None, Option, Some, ap, append_assoc, arith, codes, cond, false}
use Rattle.std.proofs.Common.{map, max, min, not, refl, true}
use Rattle.std.specs.Char.{is_ascii_digit}
use Rattle.std.specs.Fmt.{decimal}
use Rattle.std.specs.FinMap as found
use Rattle.std.specs.List.{filter, starts_with}
use Rattle.std.specs.Prelude.{nat_eq}
use Rattle.std.specs.Str.{all_ascii_digits}
use Rattle.std.specs.Str.Parse.{digits_value}
use Rattle.std.proofs.lemmas.Fmt.{digits_decimal}
use Rattle.std.proofs.lemmas.Str.Parse.{IsNumeralModel, numerals_by_value, tells_all_ascii_digits}
use Rattle.access_types.specs.Access.{Access}
use Rattle.access_types.specs.Kind.{is_assertion}
use Rattle.access_types.specs.ReportText.{line, paragraph, race_name, rule, seen_lines, two_sided_text, two_sided_title, unknown_text, unknown_title}
use Rattle.access_types.specs.Sites.{AccessMap}
use Rattle.access_types.specs.declared.report.Report.{Report}
use Rattle.access_types.specs.declared.report.Report.TheVariants.{Two, Unknown}
use Rattle.access_types.specs.declared.report.ValueChange.{ValueChange}
use Rattle.report_text.specs.printed_reports.Printed.{AreNumbered, asserts_nothing, is_hidden, is_printed, printed_reports}
use Rattle.report_text.specs.printed_reports.Texts.{behind_digits, is_hidden_text, is_printed_text, printed_texts}
use Rattle.report_text.specs.ReportOf.{origin_text, report_text, two_text}

own : IsNumeralModel (λ ds. all_ascii_digits ds ≡ true) (digits_value 10)
own = numerals_by_value _ tells_all_ascii_digits

-- what stands behind digits
behind_number : (ds : List ℕ) (byte : ℕ) (more : List ℕ) → all_ascii_digits ds ≡ true → is_ascii_digit byte ≡ false
    → behind_digits (ds ++ byte ∷ more) ≡ byte ∷ more
behind_number [] byte more digits other = rw other refl
behind_number (c ∷ cs) byte more digits other = by (is_ascii_digit c) refl (behind_number cs byte more)
  where
    by : (b : Bool) → is_ascii_digit c ≡ b
        → (all_ascii_digits cs ≡ true → is_ascii_digit byte ≡ false → behind_digits (cs ++ byte ∷ more) ≡ byte ∷ more)
        → behind_digits ((c ∷ cs) ++ byte ∷ more) ≡ byte ∷ more
    by true p rest = rw p (rest (rw p at digits) other)
    by false p rest = absurd (let no : false ≡ true = rw p at digits in cc)

-- a title with this number, and what stands behind it
abbrev titled : (asserted : Bool) (number : ℕ) (more : List ℕ) → List ℕ
titled asserted number more = rule ++ (codes "BUG: KCSAN: " ++ (race_name asserted ++ (codes " in P" ++ (decimal number ++ more))))

title_told : (asserted : Bool) (number byte : ℕ) (more : List ℕ) → number < 2 ^ 64 → is_ascii_digit byte ≡ false
    → is_hidden_text (titled asserted number (byte ∷ more)) ≡ (not asserted && starts_with nat_eq (byte ∷ more) (10 ∷ []))
unfolding rule is_hidden_text
title_told true number byte more small other = refl
title_told false number byte more small other =
    ap (λ text. starts_with nat_eq text (10 ∷ [])) (behind_number (decimal number) byte more (digits_decimal own number small) other)

two_spelled : (setter finder : Access) (seen : Option ValueChange) → two_sided_text setter finder seen
    ≡ titled (is_assertion setter.kind || is_assertion finder.kind) (min setter.task finder.task)
    (codes " / P" ++ (decimal (max setter.task finder.task) ++ (line [] ++ (line [] ++ (paragraph finder
    ++ (line [] ++ (paragraph setter ++ (seen_lines setter.size seen ++ rule))))))))
unfolding two_sided_text two_sided_title
two_spelled setter finder seen = simp append_assoc

unknown_spelled : (setter : Access) (change : ValueChange) → unknown_text setter change
    ≡ titled (is_assertion setter.kind) setter.task
    (line [] ++ (line [] ++ (codes "race at unknown origin, with " ++ (paragraph setter ++ (seen_lines setter.size (Some change) ++ rule)))))
unfolding unknown_text unknown_title
unknown_spelled setter change = simp append_assoc

and_false : (b : Bool) → (b && false) ≡ false
and_false true = refl
and_false false = refl

and_true : (b : Bool) → (b && true) ≡ b
and_true true = refl
and_true false = refl

min_small : (m n : ℕ) → m < 2 ^ 64 → min m n < 2 ^ 64
min_small m n small = omega arith

two_told : (one other : Option Access) (seen : Option ValueChange) → ((access : Access) → one ≡ Some access → access.task < 2 ^ 64)
    → is_hidden_text (two_text one other seen) ≡ false
unfolding rule is_hidden_text
two_told None None seen numbered = refl
two_told None (Some finder) seen numbered = refl
two_told (Some setter) None seen numbered = refl
two_told (Some setter) (Some finder) seen numbered =
    ap is_hidden_text (two_spelled setter finder seen)
    ∙ title_told (is_assertion setter.kind || is_assertion finder.kind) (min setter.task finder.task) 32 _
    (min_small setter.task finder.task (numbered setter refl)) refl
    ∙ and_false (not (is_assertion setter.kind || is_assertion finder.kind))

origin_told : (one : Option Access) (change : ValueChange) → ((access : Access) → one ≡ Some access → access.task < 2 ^ 64)
    → is_hidden_text (origin_text one change) ≡ asserts_nothing one
unfolding rule is_hidden_text
origin_told None change numbered = refl
origin_told (Some setter) change numbered =
    ap is_hidden_text (unknown_spelled setter change)
    ∙ title_told (is_assertion setter.kind) setter.task 10 _ (numbered setter refl) refl
    ∙ and_true (not (is_assertion setter.kind))

pub hidden_told : (sites : AccessMap) (report : Report) → AreNumbered sites
    → is_hidden_text (report_text sites report) ≡ is_hidden sites report
hidden_told sites (Two setter finder seen) numbered =
    two_told (found.get sites setter) (found.get sites finder) seen (λ access is. numbered setter access is)
hidden_told sites (Unknown setter old new) numbered =
    origin_told (found.get sites setter) (record { old = old; new = new }) (λ access is. numbered setter access is)

-- what is left of texts is the texts of what is left
filter_mapped : {X Y : Type 0} (p : Y → Bool) (q : X → Bool) (f : X → Y) → ((x : X) → p (f x) ≡ q x) → (xs : List X)
    → filter p (map f xs) ≡ map f (filter q xs)
filter_mapped p q f same [] = refl
filter_mapped p q f same (x ∷ xs) = by (q x) refl (filter_mapped p q f same xs)
  where
    by : (b : Bool) → q x ≡ b → filter p (map f xs) ≡ map f (filter q xs) → filter p (map f (x ∷ xs)) ≡ map f (filter q (x ∷ xs))
    by true e rest = rw (same x ∙ e, e) (ap (λ ys. f x ∷ ys) rest)
    by false e rest = rw (same x ∙ e, e) rest

pub printed_told : (unknown : Bool) (sites : AccessMap) (all : List Report) → AreNumbered sites
    → printed_texts unknown (map (report_text sites) all) ≡ map (report_text sites) (printed_reports unknown sites all)
printed_told unknown sites all numbered =
    filter_mapped (is_printed_text unknown) (is_printed unknown sites) (report_text sites)
    (λ report. ap (λ hidden. unknown || not hidden) (hidden_told sites report numbered)) all

-- a test that always holds leaves all
pub all_left : {X : Type 0} (test : X → Bool) → ((x : X) → test x ≡ true) → (xs : List X) → filter test xs ≡ xs
all_left test holds [] = refl
all_left test holds (x ∷ xs) =
    ap (λ b. cond b (x ∷ filter test xs) (filter test xs)) (holds x) ∙ ap (λ ys. x ∷ ys) (all_left test holds xs)
