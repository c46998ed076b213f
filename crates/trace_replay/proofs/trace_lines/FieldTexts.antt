-- The fields of a line, both ways: what is spelled is read, and what is read is spelled so.
use Rattle.std.proofs.Common.{◌≡◌, ◌∙◌, ◌+◌, ◌*◌, ◌++◌, ◌^◌, ◌<◌, ◌&&◌, ◌∷◌, ℕ, zero, suc, List, [], Bool, true}
use Rattle.std.proofs.Common.{false, Option, Some, None, ap, append-nil, append_assoc, arith, get_or, length, ltb-true, nat_lt, refl, subst, sym, not}
use Rattle.std.proofs.lemmas.Bool.{ne_eqb}
use Rattle.std.proofs.lemmas.Bool.Decides.{nat_tests}
use Rattle.std.proofs.lemmas.Fmt.{decimal-digits_value, decimal_digit, decimal_is_IsNumeral, first_decimal}
use Rattle.std.proofs.lemmas.Str.Parse.{IsNumeralModel}
use Rattle.std.specs.Char.{digit_value, is_ascii_digit}
use Rattle.std.specs.Fmt.{decimal}
use Rattle.std.specs.Prelude.{if◌then◌else◌, ◌==◌, codes}
use Rattle.std.specs.Str.Parse.{AllDigits, digits_value}
use Rattle.access_types.specs.Kind.{is_scoped}
use Rattle.access_types.specs.Ticket.{rep_in, site_in, task_in}
use Rattle.access_types.specs.declared.arms.ArmOutcome.{ArmOutcome}
use Rattle.access_types.specs.declared.arms.ArmOutcome.TheVariants.{Quiet, Origin, Hit}
use Rattle.access_types.specs.declared.arms.HitResult.{HitResult}
use Rattle.access_types.specs.declared.arms.HitResult.TheVariants as results
use Rattle.access_types.specs.declared.kind.Claim.TheVariants.{NoWrites, NoAccesses}
use Rattle.access_types.specs.declared.kind.Kind.{Kind}
use Rattle.access_types.specs.declared.kind.Kind.TheVariants.{Plain, Marked, Assert, AssertScoped}
use Rattle.access_types.specs.declared.kind.Operation.{Operation}
use Rattle.access_types.specs.declared.kind.Operation.TheVariants.{Read, Write, ReadWrite}
use Rattle.report_text.specs.Line.{hit_word, kind_letters, letter_if, name, name_in, operation_letter, outcome_words, repetition}
use Rattle.trace_replay.specs.declared.trace_lines.fields.AccessLetters.{AccessLetters}
use Rattle.trace_replay.specs.declared.trace_lines.fields.AccessName.{AccessName}
use Rattle.trace_replay.specs.trace_lines.FieldReaders.{◌>>=◌, AreInLimits, behind_digits, decimal_at, digits_of, either, flag_at, flag_by, hit_at, is_number, kind_asserted, kind_at, kind_of, letters_at}
use Rattle.trace_replay.specs.trace_lines.FieldReaders.{letters_marked, means, name_at, name_of, next, number_of, operation_at, outcome_at, past, repetition_at, repetition_by, result_at, small_value, ticket_at}
use Rattle.trace_replay.specs.trace_lines.Reading.{FinderIsPlain, IsTicket}
use Rattle.trace_replay.proofs.trace_lines.Digits.{digits_of_are, small_some}
use Rattle.trace_replay.proofs.trace_lines.Words.{bind_is, bind_some, next_spelled, next_there, past_is, past_there, same_given}

-- ---- decimal numbers

-- no digit stands first
abbrev pub ends : List ℕ → Bool
ends [] = true
ends (b ∷ rest) = not (is_ascii_digit b)

own : IsNumeralModel (AllDigits 10) (digits_value 10)
own = record { to = λ ds d. d; from = λ ds d. d; same = λ ds d. refl }

digit_back : (b : ℕ) → digit_value b < 10 → is_ascii_digit b ≡ true
digit_back b small = grind (arith, nat_tests)

digits_there : (digits rest : List ℕ) → AllDigits 10 digits → ends rest ≡ true
    → (digits_of (digits ++ rest) ≡ digits) × (behind_digits (digits ++ rest) ≡ rest)
unfolding digits_of behind_digits
digits_there [] [] are ended = (refl, refl)
digits_there [] (b ∷ rest) are ended =
    let no : is_ascii_digit b ≡ false = by (is_ascii_digit b) ended in
    (ap (λ t. if t then b ∷ digits_of rest else []) no, ap (λ t. if t then behind_digits rest else b ∷ rest) no)
  where
    by : (t : Bool) → not t ≡ true → t ≡ false
    by true e = absurd cc
    by false e = refl
digits_there (d ∷ digits) rest are ended =
    let yes = digit_back d are.0 in
    let more = digits_there digits rest are.1 ended in (
      ap (λ t. if t then d ∷ digits_of (digits ++ rest) else []) yes ∙ ap (λ ds. d ∷ ds) more.0,
      ap (λ t. if t then behind_digits (digits ++ rest) else d ∷ (digits ++ rest)) yes ∙ more.1,
    )

number_is : (digits : List ℕ) → 0 < length digits → (get_or digits 0 0 ≡ 48 → length digits ≡ 1) → is_number digits ≡ true
number_is [] some first = absurd (omega arith)
number_is (d ∷ []) some first = refl
number_is (d ∷ e ∷ digits) some first = by (d == 48) refl
  where
    by : (t : Bool) → (d == 48) ≡ t → not t ≡ true
    by true p = let is : d ≡ 48 = grind (arith, nat_tests) in let one = first is in absurd (omega arith)
    by false p = refl

is_number_is : (digits : List ℕ) → is_number digits ≡ true → (0 < length digits) × (get_or digits 0 0 ≡ 48 → length digits ≡ 1)
is_number_is [] e = absurd cc
is_number_is (d ∷ []) e = (omega arith, λ h. refl)
is_number_is (d ∷ e ∷ digits) is = (omega arith, λ h. by (d == 48) refl is h)
  where
    by : (t : Bool) → (d == 48) ≡ t → not t ≡ true → d ≡ 48 → length (d ∷ e ∷ digits) ≡ 1
    by true p is h = absurd cc
    by false p is h = absurd (grind (arith, nat_tests))

decimal_is_number : (n : ℕ) → n < 2 ^ 64 → is_number (decimal n) ≡ true
decimal_is_number zero small = ap is_number (decimal_digit 0 (omega arith))
decimal_is_number (suc n) small =
    let first = first_decimal (suc n) (omega arith) small in
    let some = (decimal_is_IsNumeral (suc n) small).0.0 in
    number_is (decimal (suc n)) some (λ h. absurd (omega arith))

pub decimal_there : (n : ℕ) (rest : List ℕ) → n < 2 ^ 64 → ends rest ≡ true → decimal_at (decimal n ++ rest) ≡ Some (n, rest)
unfolding decimal_at
decimal_there n rest small ended =
    let is = decimal_is_IsNumeral n small in
    let split = digits_there (decimal n) rest is.0.1 ended in
    let value : small_value (decimal n) ≡ Some n = sym (small_some (decimal n) n small (sym is.1)) in
    ap (λ ds. number_of ds (behind_digits (decimal n ++ rest))) split.0
    ∙ ap (λ xs. number_of (decimal n) xs) split.1
    ∙ ap (λ t. if t then (small_value (decimal n) >>= λ v. Some (v, rest)) else None) (decimal_is_number n small)
    ∙ bind_is (small_value (decimal n)) n (λ v. Some (v, rest)) value

whole_digits : (bytes : List ℕ) → bytes ≡ digits_of bytes ++ behind_digits bytes
unfolding digits_of behind_digits
whole_digits [] = refl
whole_digits (b ∷ bytes) = by (is_ascii_digit b) (whole_digits bytes)
  where
    by : (t : Bool) → bytes ≡ digits_of bytes ++ behind_digits bytes
        → b ∷ bytes ≡ (if t then b ∷ digits_of bytes else []) ++ (if t then behind_digits bytes else b ∷ bytes)
    by true e = ap (λ xs. b ∷ xs) e
    by false e = refl

small_is : (digits : List ℕ) (value : ℕ) → small_value digits ≡ Some value → (value ≡ digits_value 10 digits) × (value < 2 ^ 64)
unfolding small_value
small_is digits value e = by (nat_lt (digits_value 10 digits) (2 ^ 64)) refl e
  where
    by : (t : Bool) → nat_lt (digits_value 10 digits) (2 ^ 64) ≡ t → (if t then Some (digits_value 10 digits) else None) ≡ Some value
        → (value ≡ digits_value 10 digits) × (value < 2 ^ 64)
    by true p e =
        let same : digits_value 10 digits ≡ value = same_given (digits_value 10 digits) value e in
        let small = ltb-true (digits_value 10 digits) (2 ^ 64) p in
        (sym same, subst (λ m. m < 2 ^ 64) same small)
    by false p e = absurd cc

number_spelled : (digits rest : List ℕ) (found : ℕ × List ℕ) → AllDigits 10 digits → number_of digits rest ≡ Some found
    → (digits ++ rest ≡ decimal found.0 ++ found.1) × (found.0 < 2 ^ 64)
number_spelled digits rest found are e = by (is_number digits) refl e
  where
    by : (t : Bool) → is_number digits ≡ t → (if t then (small_value digits >>= λ v. Some (v, rest)) else None) ≡ Some found
        → (digits ++ rest ≡ decimal found.0 ++ found.1) × (found.0 < 2 ^ 64)
    by true p e =
        let b = bind_some (small_value digits) (λ v. Some (v, rest)) found e in
        let v = small_is digits b.0 b.1 in
        let shape = is_number_is digits p in
        let value = v.0 in
        let small : digits_value 10 digits < 2 ^ 64 = subst (λ m. m < 2 ^ 64) value v.1 in
        let spelled : decimal b.0 ≡ digits = ap decimal value ∙ decimal-digits_value own digits are shape.0 shape.1 small in
        let same : (b.0, rest) ≡ found = same_given (b.0, rest) found b.2 in
        subst (λ (f : ℕ × List ℕ). (digits ++ rest ≡ decimal f.0 ++ f.1) × (f.0 < 2 ^ 64)) same (ap (λ ds. ds ++ rest) (sym spelled), v.1)
    by false p e = absurd cc

pub decimal_spelled : (bytes : List ℕ) (found : ℕ × List ℕ) → decimal_at bytes ≡ Some found
    → (bytes ≡ decimal found.0 ++ found.1) × (found.0 < 2 ^ 64)
unfolding decimal_at
decimal_spelled bytes found e =
    let s = number_spelled (digits_of bytes) (behind_digits bytes) found (digits_of_are bytes) e in
    (whole_digits bytes ∙ s.0, s.1)

-- a word that begins with no digit isn't a number
pub no_word : (c n : ℕ) (text rest : List ℕ) → n < 2 ^ 64 → is_ascii_digit c ≡ false → past (c ∷ text) (decimal n ++ rest) ≡ None
unfolding past
no_word c n text rest small other = by (decimal n) (decimal_is_IsNumeral n small).0.0 (decimal_is_IsNumeral n small).0.1
  where
    by : (digits : List ℕ) → 0 < length digits → AllDigits 10 digits → past (c ∷ text) (digits ++ rest) ≡ None
    by [] some are = absurd (omega arith)
    by (d ∷ digits) some are = byte (c == d) refl
      where
        byte : (t : Bool) → (c == d) ≡ t → (if t then past text (digits ++ rest) else None) ≡ None
        byte true p =
            let same : c ≡ d = grind (arith, nat_tests) in
            let yes = digit_back d are.0 in
            absurd cc
        byte false p = refl

-- ---- names

-- neither a digit nor a dot stands first
abbrev pub ends_name : List ℕ → Bool
ends_name [] = true
ends_name (b ∷ rest) = not (is_ascii_digit b) && not (46 == b)

both : (s t : Bool) → (s && t) ≡ true → (s ≡ true) × (t ≡ true)
both true true e = (refl, refl)
both true false e = absurd cc
both false t e = absurd cc

name_ends : (rest : List ℕ) → ends_name rest ≡ true → ends rest ≡ true
name_ends [] e = refl
name_ends (b ∷ rest) e = (both (not (is_ascii_digit b)) (not (46 == b)) e).0

no_dot : (rest : List ℕ) → ends_name rest ≡ true → past (codes ".") rest ≡ None
unfolding past
no_dot [] e = refl
no_dot (b ∷ rest) e = by (46 == b) (both (not (is_ascii_digit b)) (not (46 == b)) e).1
  where
    by : (t : Bool) → not t ≡ true → (if t then Some rest else None) ≡ None
    by true e = absurd cc
    by false e = refl

positive_text : (rep : ℕ) → 0 < rep → repetition rep ≡ codes "." ++ decimal rep
positive_text rep some =
    let e : (rep == 0) ≡ false = ne_eqb rep 0 (λ h. omega arith) in
    ap (λ b. if b then [] else codes "." ++ decimal rep) e

positive_there : (rep : ℕ) (rest : List ℕ) → 0 < rep → rep < 256 → ends_name rest ≡ true
    → repetition_at (repetition rep ++ rest) ≡ Some (rep, rest)
unfolding repetition_at
positive_there rep rest some small ended =
    let below : rep < 2 ^ 64 = omega arith in
    let e : (rep == 0) ≡ false = ne_eqb rep 0 (λ h. omega arith) in
    ap (λ t. repetition_by (past (codes ".") (t ++ rest)) (t ++ rest)) (positive_text rep some)
    ∙ ap (λ o. repetition_by o (codes "." ++ (decimal rep ++ rest))) (past_there (codes ".") (decimal rep ++ rest))
    ∙ bind_is (decimal_at (decimal rep ++ rest)) (rep, rest) (λ r. if r.0 == 0 then None else Some r)
    (decimal_there rep rest below (name_ends rest ended))
    ∙ ap (λ b. if b then None else Some (rep, rest)) e

repetition_there : (rep : ℕ) (rest : List ℕ) → rep < 256 → ends_name rest ≡ true → repetition_at (repetition rep ++ rest) ≡ Some (rep, rest)
unfolding repetition_at
repetition_there zero rest small ended = ap (λ o. repetition_by o rest) (no_dot rest ended)
repetition_there (suc rep) rest small ended = positive_there (suc rep) rest (omega arith) small ended

repetition_ends : (rep : ℕ) (rest : List ℕ) → ends_name rest ≡ true → ends (repetition rep ++ rest) ≡ true
repetition_ends zero rest ended = name_ends rest ended
repetition_ends (suc rep) rest ended = ap (λ t. ends (t ++ rest)) (positive_text (suc rep) (omega arith))

name_made : (task site rep : ℕ) → task < 16 → site < 256 → rep < 256
    → name_of task site rep ≡ Some (record { task = task; site = site; rep = rep })
name_made task site rep t s r =
    let e : (nat_lt task 16 && nat_lt site 256 && nat_lt rep 256) ≡ true = grind (arith, nat_tests) in
    ap (λ b. if b then Some (record { task = task; site = site; rep = rep }) else None) e

pub name_there : (task site rep : ℕ) (rest : List ℕ) → task < 16 → site < 256 → rep < 256 → ends_name rest ≡ true
    → name_at (name task site rep ++ rest) ≡ Some (record { task = task; site = site; rep = rep }, rest)
unfolding name_at
name_there task site rep rest t s r ended =
    let shape : name task site rep ++ rest ≡ decimal task ++ (codes " " ++ (decimal site ++ (repetition rep ++ rest))) =
    simp append_assoc in
    let tasks : task < 2 ^ 64 = omega arith in
    let sites : site < 2 ^ 64 = omega arith in
    let e1 = decimal_there task (codes " " ++ (decimal site ++ (repetition rep ++ rest))) tasks refl in
    let e2 = past_there (codes " ") (decimal site ++ (repetition rep ++ rest)) in
    let e3 = next_there decimal_at _ _ (repetition rep ++ rest) site e2
    (decimal_there site (repetition rep ++ rest) sites (repetition_ends rep rest ended)) in
    let e4 = repetition_there rep rest r ended in
    let e5 = name_made task site rep t s r in
    rw (shape, e1, e3, e4, e5)

repetition_spelled : (bytes : List ℕ) (found : ℕ × List ℕ) → repetition_at bytes ≡ Some found → bytes ≡ repetition found.0 ++ found.1
unfolding repetition_at
repetition_spelled bytes found e = by (past (codes ".") bytes) refl e
  where
    positive : (rep : ℕ × List ℕ) (t : Bool) → (rep.0 == 0) ≡ t → (if t then None else Some rep) ≡ Some found
        → codes "." ++ (decimal rep.0 ++ rep.1) ≡ repetition found.0 ++ found.1
    positive rep true p e = absurd cc
    positive rep false p e =
        let same : rep ≡ found = same_given rep found e in
        subst (λ (f : ℕ × List ℕ). codes "." ++ (decimal rep.0 ++ rep.1) ≡ repetition f.0 ++ f.1) same
        (ap (λ b. (if b then [] else codes "." ++ decimal rep.0) ++ rep.1) (sym p))

    by : (o : Option (List ℕ)) → past (codes ".") bytes ≡ o → repetition_by o bytes ≡ Some found → bytes ≡ repetition found.0 ++ found.1
    by None p e =
        let same : (0, bytes) ≡ found = same_given (0, bytes) found e in
        subst (λ (f : ℕ × List ℕ). bytes ≡ repetition f.0 ++ f.1) same refl
    by (Some rest) p e =
        let b = bind_some (decimal_at rest) (λ r. if r.0 == 0 then None else Some r) found e in
        let d = decimal_spelled rest b.0 b.1 in
        past_is (codes ".") bytes rest p ∙ ap (λ xs. codes "." ++ xs) d.0 ∙ positive b.0 (b.0.0 == 0) refl b.2

made_is : (task site rep : ℕ) (named : AccessName) → name_of task site rep ≡ Some named
    → (named.task ≡ task) × (named.site ≡ site) × (named.rep ≡ rep) × AreInLimits named
made_is task site rep named e = by (nat_lt task 16 && nat_lt site 256 && nat_lt rep 256) refl e
  where
    by : (t : Bool) → (nat_lt task 16 && nat_lt site 256 && nat_lt rep 256) ≡ t
        → (if t then Some (record { task = task; site = site; rep = rep }) else None) ≡ Some named
        → (named.task ≡ task) × (named.site ≡ site) × (named.rep ≡ rep) × AreInLimits named
    by true p e =
        let whole : AccessName = record { task = task; site = site; rep = rep } in
        let same : whole ≡ named = same_given whole named e in
        let a = both (nat_lt task 16 && nat_lt site 256) (nat_lt rep 256) p in
        let b = both (nat_lt task 16) (nat_lt site 256) a.0 in
        subst (λ (n : AccessName). (n.task ≡ task) × (n.site ≡ site) × (n.rep ≡ rep) × AreInLimits n) same
        (refl, refl, refl, (ltb-true task 16 b.0, ltb-true site 256 b.1, ltb-true rep 256 a.1))
    by false p e = absurd cc

pub name_spelled : (bytes : List ℕ) (found : AccessName × List ℕ) → name_at bytes ≡ Some found
    → (bytes ≡ name found.0.task found.0.site found.0.rep ++ found.1) × AreInLimits found.0
unfolding name_at
name_spelled bytes found e =
    let b1 = bind_some (decimal_at bytes) _ found e in
    let site = next decimal_at (Some b1.0.1) in
    let b2 = bind_some site.1 _ found b1.2 in
    let b3 = next_spelled decimal_at (Some b1.0.1) b2.0 b2.1 in
    let b4 = bind_some (repetition_at b2.0) _ found b2.2 in
    let b5 = bind_some (name_of b1.0.0 site.0 b4.0.0) (λ n. Some (n, b4.0.1)) found b4.2 in
    let d1 = decimal_spelled bytes b1.0 b1.1 in
    let d2 = same_given b1.0.1 b3.before b3.were ∙ b3.spelled in
    let d3 = decimal_spelled b3.behind (site.0, b2.0) b3.read in
    let d4 = repetition_spelled b2.0 b4.0 b4.1 in
    let m = made_is b1.0.0 site.0 b4.0.0 b5.0 b5.1 in
    let same : (b5.0, b4.0.1) ≡ found = same_given (b5.0, b4.0.1) found b5.2 in
    let chain : bytes ≡ decimal b1.0.0 ++ (codes " " ++ (decimal site.0 ++ (repetition b4.0.0 ++ b4.0.1))) =
    d1.0 ∙ ap (λ xs. decimal b1.0.0 ++ xs) (d2 ∙ ap (λ xs. codes " " ++ xs) (d3.0 ∙ ap (λ xs. decimal site.0 ++ xs) d4)) in
    let spelled : bytes ≡ name b5.0.task b5.0.site b5.0.rep ++ b4.0.1 = chain ∙ rw (m.0, m.1, m.2) (simp append_assoc) in
    subst (λ (f : AccessName × List ℕ). (bytes ≡ name f.0.task f.0.site f.0.rep ++ f.1) × AreInLimits f.0) same (spelled, m.3)

-- ---- tickets

pub ticket_there : (ticket : ℕ) (rest : List ℕ) → IsTicket ticket → ends_name rest ≡ true → ticket_at (name_in ticket ++ rest) ≡ Some (ticket, rest)
unfolding ticket_at
ticket_there ticket rest is ended =
    let above = is.above_zero in
    let below = is.limit in
    let t : task_in ticket < 16 = omega arith in
    let s : site_in ticket < 256 = omega arith in
    let r : rep_in ticket < 256 = omega arith in
    let whole : 1 + task_in ticket * 65536 + site_in ticket * 256 + rep_in ticket ≡ ticket = omega arith in
    let e1 = name_there (task_in ticket) (site_in ticket) (rep_in ticket) rest t s r ended in
    rw e1 (ap (λ n. Some (n, rest)) whole)

pub ticket_spelled : (bytes : List ℕ) (found : ℕ × List ℕ) → ticket_at bytes ≡ Some found
    → (bytes ≡ name_in found.0 ++ found.1) × IsTicket found.0
unfolding ticket_at
ticket_spelled bytes found e =
    let b = bind_some (name_at bytes) (λ n. Some (1 + n.0.task * 65536 + n.0.site * 256 + n.0.rep, n.1)) found e in
    let d = name_spelled bytes b.0 b.1 in
    let n = b.0.0 in
    let limits = d.1 in
    let ticket = 1 + n.task * 65536 + n.site * 256 + n.rep in
    let t : task_in ticket ≡ n.task = omega arith in
    let s : site_in ticket ≡ n.site = omega arith in
    let r : rep_in ticket ≡ n.rep = omega arith in
    let is : IsTicket ticket = record { above_zero = omega arith; limit = omega arith } in
    let spelled : bytes ≡ name_in ticket ++ b.0.1 = d.0 ∙ rw (t, s, r) in
    let same : (ticket, b.0.1) ≡ found = same_given (ticket, b.0.1) found b.2 in
    subst (λ (f : ℕ × List ℕ). (bytes ≡ name_in f.0 ++ f.1) × IsTicket f.0) same (spelled, is)

-- ---- letters

abbrev after_kind : Bool → Bool → List ℕ → List ℕ
after_kind marked silenced more = letter_if marked (codes "c") ++ (letter_if silenced (codes "s") ++ (32 ∷ more))

no_a : (marked silenced : Bool) (more : List ℕ) → flag_at (codes "a") (after_kind marked silenced more) ≡ (false, after_kind marked silenced more)
unfolding flag_at past
no_a true true more = refl
no_a true false more = refl
no_a false true more = refl
no_a false false more = refl

no_m : (marked silenced : Bool) (more : List ℕ) → flag_at (codes "m") (after_kind marked silenced more) ≡ (false, after_kind marked silenced more)
unfolding flag_at past
no_m true true more = refl
no_m true false more = refl
no_m false true more = refl
no_m false false more = refl

kind_there : (kind : Kind) (rest : List ℕ) → is_scoped kind ≡ false → flag_at (codes "a") rest ≡ (false, rest)
    → flag_at (codes "m") rest ≡ (false, rest) → kind_at (kind_letters kind ++ rest) ≡ Some (kind, rest)
unfolding kind_at operation_at flag_at past
kind_there (Plain Read) rest u a m = rw (a, m)
kind_there (Plain Write) rest u a m = rw (a, m)
kind_there (Plain ReadWrite) rest u a m = rw (a, m)
kind_there (Marked Read) rest u a m = refl
kind_there (Marked Write) rest u a m = refl
kind_there (Marked ReadWrite) rest u a m = refl
kind_there (Assert NoWrites) rest u a m = rw m
kind_there (Assert NoAccesses) rest u a m = rw m
kind_there (AssertScoped NoWrites) rest u a m = absurd cc
kind_there (AssertScoped NoAccesses) rest u a m = absurd cc

flags_there : (kind : Kind) (marked silenced : Bool) (more : List ℕ)
    → letters_marked kind (flag_at (codes "c") (after_kind marked silenced more))
    ≡ Some (record { kind = kind; marked = marked; silenced = silenced }, 32 ∷ more)
unfolding flag_at past
flags_there kind true true more = refl
flags_there kind true false more = refl
flags_there kind false true more = refl
flags_there kind false false more = refl

pub letters_there : (kind : Kind) (marked silenced : Bool) (more : List ℕ) → is_scoped kind ≡ false
    → letters_at ((kind_letters kind ++ (letter_if marked (codes "c") ++ letter_if silenced (codes "s"))) ++ (32 ∷ more))
    ≡ Some (record { kind = kind; marked = marked; silenced = silenced }, 32 ∷ more)
unfolding letters_at
letters_there kind marked silenced more unscoped =
    let shape : (kind_letters kind ++ (letter_if marked (codes "c") ++ letter_if silenced (codes "s"))) ++ (32 ∷ more)
    ≡ kind_letters kind ++ after_kind marked silenced more = simp append_assoc in
    let e1 = kind_there kind (after_kind marked silenced more) unscoped (no_a marked silenced more) (no_m marked silenced more) in
    rw (shape, e1) (flags_there kind marked silenced more)

flag_spelled : (letter bytes : List ℕ) → bytes ≡ letter_if (flag_at letter bytes).0 letter ++ (flag_at letter bytes).1
unfolding flag_at
flag_spelled letter bytes = by (past letter bytes) refl
  where
    by : (o : Option (List ℕ)) → past letter bytes ≡ o → bytes ≡ letter_if (flag_by o bytes).0 letter ++ (flag_by o bytes).1
    by None e = refl
    by (Some rest) e = past_is letter bytes rest e

pub means_spelled : {V : Type 0} (value : V) (text bytes : List ℕ) (other : Option (V × List ℕ)) (found : V × List ℕ) (P : Type 0)
    → either (means value (past text bytes)) other ≡ Some found
    → ((rest : List ℕ) → bytes ≡ text ++ rest → ◌≡◌ {A = V × List ℕ} (value, rest) found → P) → (other ≡ Some found → P) → P
means_spelled value text bytes other found P e here there = by (past text bytes) refl e
  where
    by : (o : Option (List ℕ)) → past text bytes ≡ o → either (means value o) other ≡ Some found → P
    by None p e = there e
    by (Some rest) p e = here rest (past_is text bytes rest p) (same_given (value, rest) found e)

pub last_spelled : {V : Type 0} (value : V) (text bytes : List ℕ) (found : V × List ℕ) (P : Type 0)
    → means value (past text bytes) ≡ Some found
    → ((rest : List ℕ) → bytes ≡ text ++ rest → ◌≡◌ {A = V × List ℕ} (value, rest) found → P) → P
last_spelled value text bytes found P e here = by (past text bytes) refl e
  where
    by : (o : Option (List ℕ)) → past text bytes ≡ o → means value o ≡ Some found → P
    by None p e = absurd cc
    by (Some rest) p e = here rest (past_is text bytes rest p) (same_given (value, rest) found e)

regroup : (a b c d : List ℕ) → a ++ (b ++ (c ++ d)) ≡ (a ++ (b ++ c)) ++ d
regroup a b c d = simp append_assoc

outcome_by : (quiet origin : Option (List ℕ)) (hit : Option (ArmOutcome × List ℕ)) (found : ArmOutcome × List ℕ) → quiet ≡ None → origin ≡ None
    → hit ≡ Some found → either (means Quiet quiet) (either (means Origin origin) hit) ≡ Some found
outcome_by quiet origin hit found q o h = rw (q, o) h

pub operation_spelled : (bytes : List ℕ) (found : Operation × List ℕ) → operation_at bytes ≡ Some found → bytes ≡ operation_letter found.0 ++ found.1
unfolding operation_at
operation_spelled bytes found e =
    means_spelled Read (codes "r") bytes (either (means Write (past (codes "w") bytes)) (means ReadWrite (past (codes "u") bytes))) found
    (bytes ≡ operation_letter found.0 ++ found.1) e
    (λ rest is same. subst (λ (f : Operation × List ℕ). bytes ≡ operation_letter f.0 ++ f.1) same is)
    (λ e. means_spelled Write (codes "w") bytes (means ReadWrite (past (codes "u") bytes)) found (bytes ≡ operation_letter found.0 ++ found.1) e
    (λ rest is same. subst (λ (f : Operation × List ℕ). bytes ≡ operation_letter f.0 ++ f.1) same is)
    (λ e. last_spelled ReadWrite (codes "u") bytes found (bytes ≡ operation_letter found.0 ++ found.1) e
    (λ rest is same. subst (λ (f : Operation × List ℕ). bytes ≡ operation_letter f.0 ++ f.1) same is)))

kind_is : (operation : Operation) (asserts declared : Bool) (kind : Kind) → kind_of operation asserts declared ≡ Some kind
    → (operation_letter operation ++ (letter_if asserts (codes "a") ++ letter_if declared (codes "m")) ≡ kind_letters kind) × (is_scoped kind ≡ false)
kind_is operation false false kind e =
    let same : Plain operation ≡ kind = same_given (Plain operation) kind e in
    subst (λ (k : Kind). (operation_letter operation ++ [] ≡ kind_letters k) × (is_scoped k ≡ false)) same (append-nil (operation_letter operation), refl)
kind_is operation false true kind e =
    let same : Marked operation ≡ kind = same_given (Marked operation) kind e in
    subst (λ (k : Kind). (operation_letter operation ++ codes "m" ≡ kind_letters k) × (is_scoped k ≡ false)) same (refl, refl)
kind_is Read true false kind e =
    let same : Assert NoWrites ≡ kind = same_given (Assert NoWrites) kind e in
    subst (λ (k : Kind). (codes "ra" ≡ kind_letters k) × (is_scoped k ≡ false)) same (refl, refl)
kind_is Write true false kind e =
    let same : Assert NoAccesses ≡ kind = same_given (Assert NoAccesses) kind e in
    subst (λ (k : Kind). (codes "wa" ≡ kind_letters k) × (is_scoped k ≡ false)) same (refl, refl)
kind_is ReadWrite true false kind e = absurd cc
kind_is Read true true kind e = absurd cc
kind_is Write true true kind e = absurd cc
kind_is ReadWrite true true kind e = absurd cc

kind_spelled : (bytes : List ℕ) (found : Kind × List ℕ) → kind_at bytes ≡ Some found
    → (bytes ≡ kind_letters found.0 ++ found.1) × (is_scoped found.0 ≡ false)
unfolding kind_at
kind_spelled bytes found e =
    let b = bind_some (operation_at bytes) (λ o. kind_asserted o.0 (flag_at (codes "a") o.1)) found e in
    let o = b.0 in
    let a : Bool × List ℕ = flag_at (codes "a") o.1 in
    let d : Bool × List ℕ = flag_at (codes "m") a.1 in
    let k = bind_some (kind_of o.0 a.0 d.0) (λ kind. Some (kind, d.1)) found b.2 in
    let is = kind_is o.0 a.0 d.0 k.0 k.1 in
    let same : (k.0, d.1) ≡ found = same_given (k.0, d.1) found k.2 in
    let chain : bytes ≡ operation_letter o.0 ++ (letter_if a.0 (codes "a") ++ (letter_if d.0 (codes "m") ++ d.1)) =
    operation_spelled bytes o b.1 ∙ ap (λ xs. operation_letter o.0 ++ xs) (flag_spelled (codes "a") o.1
    ∙ ap (λ xs. letter_if a.0 (codes "a") ++ xs) (flag_spelled (codes "m") a.1)) in
    let spelled : bytes ≡ kind_letters k.0 ++ d.1 =
    chain ∙ regroup (operation_letter o.0) (letter_if a.0 (codes "a")) (letter_if d.0 (codes "m")) d.1 ∙ ap (λ xs. xs ++ d.1) is.0 in
    subst (λ (f : Kind × List ℕ). (bytes ≡ kind_letters f.0 ++ f.1) × (is_scoped f.0 ≡ false)) same (spelled, is.1)

pub letters_spelled : (bytes : List ℕ) (found : AccessLetters × List ℕ) → letters_at bytes ≡ Some found
    → (bytes ≡ (kind_letters found.0.kind ++ (letter_if found.0.marked (codes "c") ++ letter_if found.0.silenced (codes "s"))) ++ found.1)
    × (is_scoped found.0.kind ≡ false)
unfolding letters_at
letters_spelled bytes found e =
    let b = bind_some (kind_at bytes) (λ k. letters_marked k.0 (flag_at (codes "c") k.1)) found e in
    let k = b.0 in
    let m : Bool × List ℕ = flag_at (codes "c") k.1 in
    let s : Bool × List ℕ = flag_at (codes "s") m.1 in
    let is = kind_spelled bytes k b.1 in
    let made : AccessLetters = record { kind = k.0; marked = m.0; silenced = s.0 } in
    let same : (made, s.1) ≡ found = same_given (made, s.1) found b.2 in
    let chain : bytes ≡ kind_letters k.0 ++ (letter_if m.0 (codes "c") ++ (letter_if s.0 (codes "s") ++ s.1)) =
    is.0 ∙ ap (λ xs. kind_letters k.0 ++ xs) (flag_spelled (codes "c") k.1
    ∙ ap (λ xs. letter_if m.0 (codes "c") ++ xs) (flag_spelled (codes "s") m.1)) in
    let spelled = chain ∙ regroup (kind_letters k.0) (letter_if m.0 (codes "c")) (letter_if s.0 (codes "s")) s.1 in
    subst (λ (f : AccessLetters × List ℕ). (bytes ≡ (kind_letters f.0.kind ++ (letter_if f.0.marked (codes "c") ++ letter_if f.0.silenced (codes "s"))) ++ f.1)
    × (is_scoped f.0.kind ≡ false)) same (spelled, is.1)

-- ---- what became of an arming

result_there : (result : HitResult) (rest : List ℕ) → result_at (hit_word result ++ rest) ≡ Some (result, rest)
unfolding result_at past
result_there results.Report rest = refl
result_there results.Encoding rest = refl
result_there results.Same rest = refl
result_there results.Masked rest = refl

hit_ends : (result : HitResult) (rest : List ℕ) → ends_name (hit_word result ++ rest) ≡ true
hit_ends results.Report rest = refl
hit_ends results.Encoding rest = refl
hit_ends results.Same rest = refl
hit_ends results.Masked rest = refl

pub outcome_there : (outcome : ArmOutcome) (rest : List ℕ) → FinderIsPlain outcome → outcome_at (outcome_words outcome ++ rest) ≡ Some (outcome, rest)
unfolding outcome_at past hit_at
outcome_there Quiet rest is = refl
outcome_there Origin rest is = refl
outcome_there (Hit finder result) rest is =
    let above = is.above_zero in
    let below = is.limit in
    let small : task_in finder < 2 ^ 64 = omega arith in
    let tail = codes " " ++ (decimal (site_in finder) ++ (repetition (rep_in finder) ++ (hit_word result ++ rest))) in
    let shape : (name_in finder ++ hit_word result) ++ rest ≡ decimal (task_in finder) ++ tail = simp append_assoc in
    let whole : (name_in finder ++ hit_word result) ++ rest ≡ name_in finder ++ (hit_word result ++ rest) =
    append_assoc (name_in finder) (hit_word result) rest in
    let n1 : past (codes "quiet") ((name_in finder ++ hit_word result) ++ rest) ≡ None =
    ap (past (codes "quiet")) shape ∙ no_word 113 (task_in finder) (codes "uiet") tail small refl in
    let n2 : past (codes "origin") ((name_in finder ++ hit_word result) ++ rest) ≡ None =
    ap (past (codes "origin")) shape ∙ no_word 111 (task_in finder) (codes "rigin") tail small refl in
    let e1 : ticket_at ((name_in finder ++ hit_word result) ++ rest) ≡ Some (finder, hit_word result ++ rest) =
    ap ticket_at whole ∙ ticket_there finder (hit_word result ++ rest) is (hit_ends result rest) in
    let e2 = result_there result rest in
    outcome_by (past (codes "quiet") ((name_in finder ++ hit_word result) ++ rest)) (past (codes "origin") ((name_in finder ++ hit_word result) ++ rest))
    (hit_at ((name_in finder ++ hit_word result) ++ rest)) (Hit finder result, rest) n1 n2
    (bind_is (ticket_at ((name_in finder ++ hit_word result) ++ rest)) (finder, hit_word result ++ rest)
    (λ f. result_at f.1 >>= λ r. Some (Hit f.0 r.0, r.1)) e1
    ∙ bind_is (result_at (hit_word result ++ rest)) (result, rest) (λ r. Some (Hit finder r.0, r.1)) e2)

result_spelled : (bytes : List ℕ) (found : HitResult × List ℕ) → result_at bytes ≡ Some found → bytes ≡ hit_word found.0 ++ found.1
unfolding result_at
result_spelled bytes found e =
    means_spelled results.Report (codes " report") bytes (either (means results.Encoding (past (codes " encoding") bytes))
    (either (means results.Same (past (codes " same") bytes)) (means results.Masked (past (codes " masked") bytes)))) found
    (bytes ≡ hit_word found.0 ++ found.1) e
    (λ rest is same. subst (λ (f : HitResult × List ℕ). bytes ≡ hit_word f.0 ++ f.1) same is)
    (λ e. means_spelled results.Encoding (codes " encoding") bytes
    (either (means results.Same (past (codes " same") bytes)) (means results.Masked (past (codes " masked") bytes))) found
    (bytes ≡ hit_word found.0 ++ found.1) e
    (λ rest is same. subst (λ (f : HitResult × List ℕ). bytes ≡ hit_word f.0 ++ f.1) same is)
    (λ e. means_spelled results.Same (codes " same") bytes (means results.Masked (past (codes " masked") bytes)) found
    (bytes ≡ hit_word found.0 ++ found.1) e
    (λ rest is same. subst (λ (f : HitResult × List ℕ). bytes ≡ hit_word f.0 ++ f.1) same is)
    (λ e. last_spelled results.Masked (codes " masked") bytes found (bytes ≡ hit_word found.0 ++ found.1) e
    (λ rest is same. subst (λ (f : HitResult × List ℕ). bytes ≡ hit_word f.0 ++ f.1) same is))))

hit_spelled : (bytes : List ℕ) (found : ArmOutcome × List ℕ) → hit_at bytes ≡ Some found
    → (bytes ≡ outcome_words found.0 ++ found.1) × FinderIsPlain found.0
unfolding hit_at
hit_spelled bytes found e =
    let b = bind_some (ticket_at bytes) (λ f. result_at f.1 >>= λ r. Some (Hit f.0 r.0, r.1)) found e in
    let r = bind_some (result_at b.0.1) (λ r. Some (Hit b.0.0 r.0, r.1)) found b.2 in
    let t = ticket_spelled bytes b.0 b.1 in
    let w = result_spelled b.0.1 r.0 r.1 in
    let same : (Hit b.0.0 r.0.0, r.0.1) ≡ found = same_given (Hit b.0.0 r.0.0, r.0.1) found r.2 in
    let spelled : bytes ≡ (name_in b.0.0 ++ hit_word r.0.0) ++ r.0.1 =
    t.0 ∙ ap (λ xs. name_in b.0.0 ++ xs) w ∙ sym (append_assoc (name_in b.0.0) (hit_word r.0.0) r.0.1) in
    subst (λ (f : ArmOutcome × List ℕ). (bytes ≡ outcome_words f.0 ++ f.1) × FinderIsPlain f.0) same (spelled, t.1)

pub outcome_spelled : (bytes : List ℕ) (found : ArmOutcome × List ℕ) → outcome_at bytes ≡ Some found
    → (bytes ≡ outcome_words found.0 ++ found.1) × FinderIsPlain found.0
unfolding outcome_at
outcome_spelled bytes found e =
    means_spelled Quiet (codes "quiet") bytes (either (means Origin (past (codes "origin") bytes)) (hit_at bytes)) found
    ((bytes ≡ outcome_words found.0 ++ found.1) × FinderIsPlain found.0) e
    (λ rest is same. subst (λ (f : ArmOutcome × List ℕ). (bytes ≡ outcome_words f.0 ++ f.1) × FinderIsPlain f.0) same (is, tt))
    (λ e. means_spelled Origin (codes "origin") bytes (hit_at bytes) found
    ((bytes ≡ outcome_words found.0 ++ found.1) × FinderIsPlain found.0) e
    (λ rest is same. subst (λ (f : ArmOutcome × List ℕ). (bytes ≡ outcome_words f.0 ++ f.1) × FinderIsPlain f.0) same (is, tt))
    (λ e. hit_spelled bytes found e))
