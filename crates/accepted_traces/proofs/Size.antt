-- A written trace has no more bytes than a trace may have.
use Rattle.std.proofs.Common.{◌≡◌, ◌∷◌, ◌++◌, ◌∙◌, ◌+◌, ◌<◌, ◌≤◌, ◌==◌, ◌^◌, ◌*◌, ℕ, List, [], Bool, true, false, ap, append_assoc, arith, inl, inr, length}
use Rattle.std.proofs.Common.{length-append, map, refl, suc, sym, unwrap_or}
use Rattle.std.specs.Prelude.{All, codes}
use Rattle.std.specs.Fmt.{decimal}
use Rattle.std.specs.List.{flat_map}
use Rattle.std.proofs.Math.Nat.{mul-suc}
use Rattle.std.proofs.lemmas.Fmt.{length-decimal-le}
use Rattle.std.proofs.lemmas.Grind.{flat_map-append}
use Rattle.std.proofs.lemmas.List.Elements.{All-cons, All-contains, All-nil, All-tail, All-weaker}
use Rattle.std.proofs.lemmas.List.Sums.{count_by-le-length}
use Rattle.std.proofs.lemmas.Bool.Decides.{eqb_tells}
use Rattle.access_types.specs.Arms.{Arm}
use Rattle.access_types.specs.ReportText.{hex}
use Rattle.access_types.specs.Stamped.{Stamped}
use Rattle.access_types.specs.Takes.{Take}
use Rattle.access_types.specs.Ticket.{rep_in, site_in, task_in}
use Rattle.access_types.specs.declared.arms.ArmOutcome.{ArmOutcome}
use Rattle.access_types.specs.declared.arms.ArmOutcome.TheVariants.{Quiet, Origin, Hit}
use Rattle.access_types.specs.declared.arms.HitResult.{HitResult}
use Rattle.access_types.specs.declared.arms.HitResult.TheVariants as results
use Rattle.access_types.specs.declared.kind.Claim.TheVariants.{NoWrites, NoAccesses}
use Rattle.access_types.specs.declared.kind.Kind.{Kind}
use Rattle.access_types.specs.declared.kind.Kind.TheVariants as kinds
use Rattle.access_types.specs.declared.kind.Operation.TheVariants.{Read, Write, ReadWrite}
use Rattle.access_types.specs.declared.report.Report.{Report}
use Rattle.access_types.specs.declared.report.Report.TheVariants.{Two, Unknown}
use Rattle.report_text.specs.Line.{hex_field, hit_word, kind_letters, letter_if, letters, line_text, name, name_in, outcome_words, repetition, spell_access, spell_arm, spell_origin, spell_race, spell_take}
use Rattle.report_text.specs.declared.line.Line.{Line}
use Rattle.report_text.specs.declared.line.Line.TheVariants as lines
use Rattle.report_text.specs.Faults.{size_limit}
use Rattle.report_text.specs.TraceText.{end_line, second_version, shape_line, width_word, written_lines, written_trace}
use Rattle.watch_word.specs.declared.layout.Layout.{Layout}
use Rattle.watch_word.specs.declared.layout.Layout.TheVariants.{W64, W32}
use Rattle.accepted_traces.specs.Parts.{AccessFits, ArmFits, AreParts, IsNamed, OutcomeFits, ReportFits, TakeFits}
use Rattle.accepted_traces.proofs.Sections.{index_within, value_limit}
use Rattle.trace_replay.proofs.trace_lines.Hex.{length-hex}

long_hex : (n : ℕ) → n < 2 ^ 64 → length (hex_field n) ≡ 18
long_hex n small = omega (arith, length-append (codes "0x") (hex 16 n), length-hex n small)

short_dec : (n : ℕ) → n < 2 ^ 64 → length (decimal n) ≤ 20
short_dec n small = length-decimal-le 20 n (omega arith) (omega arith) small

short_rep : (rep : ℕ) → rep < 256 → length (repetition rep) ≤ 4
short_rep rep small = elim (eqb_tells rep 0) [
  | inl none ↦ rw none.0 (omega arith)
  | inr some ↦ rw some.0 (omega (arith, length-append (codes ".") (decimal rep), length-decimal-le 3 rep (omega arith) (omega arith) (omega arith)))
]

short_name : (task site rep : ℕ) → task < 16 → site < 256 → rep < 256 → length (name task site rep) ≤ 10
short_name task site rep t s r =
    omega (
      arith,
      length-append (decimal task ++ codes " " ++ decimal site) (repetition rep),
      length-append (decimal task ++ codes " ") (decimal site),
      length-append (decimal task) (codes " "),
      length-decimal-le 2 task (omega arith) (omega arith) (omega arith),
      length-decimal-le 3 site (omega arith) (omega arith) (omega arith),
      short_rep rep r,
    )

-- the ticket is one of an access
abbrev pub IsLow : ℕ → Type 0
IsLow ticket = (0 < ticket) × (ticket ≤ 16 * 65536)

short_ticket : (ticket : ℕ) → IsLow ticket → length (name_in ticket) ≤ 10
short_ticket ticket low =
    let some : 0 < ticket = low.0 in
    let most : ticket ≤ 16 * 65536 = low.1 in
    short_name (task_in ticket) (site_in ticket) (rep_in ticket) (omega (arith, some, most)) (omega arith) (omega arith)

short_kind : (kind : Kind) → length (kind_letters kind) ≤ 2
short_kind (kinds.Plain Read) = omega arith
short_kind (kinds.Plain Write) = omega arith
short_kind (kinds.Plain ReadWrite) = omega arith
short_kind (kinds.Marked Read) = omega arith
short_kind (kinds.Marked Write) = omega arith
short_kind (kinds.Marked ReadWrite) = omega arith
short_kind (kinds.Assert NoWrites) = omega arith
short_kind (kinds.Assert NoAccesses) = omega arith
short_kind (kinds.AssertScoped NoWrites) = omega arith
short_kind (kinds.AssertScoped NoAccesses) = omega arith

short_flag : (holds : Bool) (letter : ℕ) → length (letter_if holds (letter ∷ [])) ≤ 1
short_flag true letter = omega arith
short_flag false letter = omega arith

short_letters : (s : Stamped) → length (letters s) ≤ 4
short_letters s =
    let c : List ℕ = letter_if s.marked (codes "c") in
    let e : List ℕ = letter_if s.silenced (codes "s") in
    omega (
      arith,
      length-append (kind_letters s.access.kind ++ c) e,
      length-append (kind_letters s.access.kind) c,
      short_kind s.access.kind,
      short_flag s.marked 99,
      short_flag s.silenced 115,
    )

-- a text of so many bytes at most
record IsShort (text : List ℕ) (most : ℕ) : Type 0 where
  is : length text ≤ most

first_field : (word field : List ℕ) (n m : ℕ) → length word ≤ n → length field ≤ m → IsShort (word ++ field) (n + m)
first_field word field n m p q = record { is = omega (arith, length-append word field) }

-- one field more, behind a blank
next : {text : List ℕ} {n : ℕ} → IsShort text n → (field : List ℕ) (m : ℕ) → length field ≤ m → IsShort (text ++ codes " " ++ field) (n + 1 + m)
next {text} {n} p field m q =
    let before : length text ≤ n = p.is in
    record { is = omega (arith, before, length-append (text ++ codes " ") field, length-append text (codes " ")) }

ended : {text : List ℕ} {n : ℕ} → IsShort text n → IsShort (text ++ codes "\n") (n + 1)
ended {text} {n} p = let before : length text ≤ n = p.is in record { is = omega (arith, before, length-append text (codes "\n")) }

pub short_access : (s : Stamped) → AccessFits s → length (spell_access s) ≤ 124
unfolding spell_access
short_access s fits =
    let limits = fits.limits in
    let range = limits.range in
    let end_limit = fits.end_limit in
    let later = fits.ends_later in
    let hex_addr : length (hex_field s.access.addr) ≤ 18 = omega (arith, long_hex s.access.addr (omega (arith, range))) in
    let hex_mask : length (hex_field (unwrap_or s.access.mask 0)) ≤ 18 = omega (arith, long_hex (unwrap_or s.access.mask 0) fits.mask) in
    let size : length (decimal s.access.size) ≤ 20 = short_dec s.access.size (omega (arith, range)) in
    let begin : length (decimal s.begin) ≤ 20 = short_dec s.begin (omega (arith, later, end_limit)) in
    let end : length (decimal s.end) ≤ 20 = short_dec s.end end_limit in
    let all : IsShort (spell_access s) 124 =
    ended (next (next (next (next (next (next (first_field (codes "access ") (name s.access.task s.access.site s.access.rep) 7 10 (omega arith)
    (short_name s.access.task s.access.site s.access.rep limits.task limits.site limits.rep))
    (letters s) 4 (short_letters s)) (hex_field s.access.addr) 18 hex_addr) (decimal s.access.size) 20 size)
    (hex_field (unwrap_or s.access.mask 0)) 18 hex_mask) (decimal s.begin) 20 begin) (decimal s.end) 20 end) in
    all.is

short_result : (result : HitResult) → length (hit_word result) ≤ 9
short_result results.Report = omega arith
short_result results.Encoding = omega arith
short_result results.Same = omega arith
short_result results.Masked = omega arith

-- the finder of a hit has a ticket
abbrev pub FinderIsLow : ArmOutcome → Type 0
FinderIsLow Quiet = Unit {0}
FinderIsLow Origin = Unit {0}
FinderIsLow (Hit finder result) = IsLow finder

short_outcome : (outcome : ArmOutcome) → FinderIsLow outcome → length (outcome_words outcome) ≤ 19
short_outcome Quiet low = omega arith
short_outcome Origin low = omega arith
short_outcome (Hit finder result) low =
    let all : IsShort (name_in finder ++ hit_word result) 19 = first_field (name_in finder) (hit_word result) 10 9 (short_ticket finder low) (short_result result) in
    all.is

short_arm : (a : Arm) → IsLow a.setter → a.number < 2 ^ 64 → a.index < 2 ^ 64 → a.watch_word < 2 ^ 64 → FinderIsLow a.outcome
    → length (spell_arm a) ≤ 96
unfolding spell_arm
short_arm a setter number index word finder =
    let hex_word : length (hex_field a.watch_word) ≤ 18 = omega (arith, long_hex a.watch_word word) in
    let all : IsShort (spell_arm a) 96 =
    ended (next (next (next (next (first_field (codes "arm ") (name_in a.setter) 4 10 (omega arith) (short_ticket a.setter setter))
    (decimal a.number) 20 (short_dec a.number number)) (decimal a.index) 20 (short_dec a.index index)) (hex_field a.watch_word) 18 hex_word)
    (outcome_words a.outcome) 19 (short_outcome a.outcome finder)) in
    all.is

short_take : (t : Take) → IsLow t.finder → t.index < 2 ^ 64 → IsLow t.setter → length (spell_take t) ≤ 48
unfolding spell_take
short_take t finder index setter =
    let all : IsShort (spell_take t) 48 =
    ended (next (next (first_field (codes "take ") (name_in t.finder) 5 10 (omega arith) (short_ticket t.finder finder))
    (decimal t.index) 20 (short_dec t.index index)) (name_in t.setter) 10 (short_ticket t.setter setter)) in
    all.is

short_race : (setter finder : ℕ) → IsLow setter → IsLow finder → length (spell_race setter finder) ≤ 56
unfolding spell_race
short_race setter finder low low_finder =
    let all : IsShort (spell_race setter finder) 27 =
    ended (next (first_field (codes "race ") (name_in setter) 5 10 (omega arith) (short_ticket setter low))
    (name_in finder) 10 (short_ticket finder low_finder)) in
    omega (arith, all.is)

short_origin : (setter old new : ℕ) → IsLow setter → old < 2 ^ 64 → new < 2 ^ 64 → length (spell_origin setter old new) ≤ 56
unfolding spell_origin
short_origin setter old new low small small_new =
    let hex_old : length (hex_field old) ≤ 18 = omega (arith, long_hex old small) in
    let hex_new : length (hex_field new) ≤ 18 = omega (arith, long_hex new small_new) in
    let all : IsShort (spell_origin setter old new) 56 =
    ended (next (next (first_field (codes "origin ") (name_in setter) 7 10 (omega arith) (short_ticket setter low))
    (hex_field old) 18 hex_old) (hex_field new) 18 hex_new) in
    all.is

-- ---- lines of one kind, and all

flat_short : {X : Type 0} (kind : X → Line) (most : ℕ) (xs : List X) → All (λ x. length (line_text (kind x)) ≤ most) xs
    → length (flat_map line_text (map kind xs)) ≤ most * length xs
flat_short kind most [] h = omega arith
flat_short kind most (x ∷ xs) h =
    let first : length (line_text (kind x)) ≤ most = h 0 x (omega arith) in
    let more = flat_short kind most xs (All-tail (λ y. length (line_text (kind y)) ≤ most) x xs h) in
    let all : most * suc (length xs) ≡ most * length xs + most = mul-suc most (length xs) in
    omega (arith, length-append (line_text (kind x)) (flat_map line_text (map kind xs)), first, more, all)

low_ticket : (accesses : List Stamped) (ticket : ℕ) (s : Stamped) → All AccessFits accesses → IsNamed accesses ticket s → IsLow ticket
low_ticket accesses ticket s fits named =
    let limits = (All-contains AccessFits accesses s fits named.stands).limits in
    let t = limits.task in
    let u = limits.site in
    let r = limits.rep in
    let is = named.ticket_is in
    (omega (arith, is), omega (arith, t, u, r, is))

-- what holds at each split holds of each
all_splits : {X : Type 0} (P : X → Type 0) (all earlier rest : List X) → all ≡ earlier ++ rest
    → ((before later : List X) (x : X) → all ≡ before ++ x ∷ later → P x) → All P rest
all_splits P all earlier [] is each = All-nil P
all_splits P all earlier (x ∷ rest) is each =
    All-cons P x rest (each earlier rest x is) (all_splits P all (earlier ++ x ∷ []) rest (is ∙ sym (append_assoc earlier (x ∷ []) rest)) each)

module _ (slots : ℕ) (layout : Layout) (accesses : List Stamped) (fits : All AccessFits accesses) where
  low_finder : (a : Arm) (s : Stamped) (outcome : ArmOutcome) → OutcomeFits slots layout accesses a s outcome → FinderIsLow outcome
  low_finder a s Quiet h = tt
  low_finder a s Origin h = tt
  low_finder a s (Hit finder result) h = low_ticket accesses finder h.access fits h.named

  arm_short : (arms earlier later : List Arm) (a : Arm) → 3 ≤ slots → slots ≤ 1024 → length arms ≤ 16 * 9216 → arms ≡ earlier ++ a ∷ later
      → ArmFits slots layout accesses earlier a → length (line_text (lines.Arm a)) ≤ 96
  arm_short arms earlier later a some few many is h =
      let long : length arms ≡ length (earlier ++ a ∷ later) = ap length is in
      let count : a.number ≡ _ = h.number in
      let index = index_within slots h.setter.access.access.addr a.index some h.setter.holds.0.index_of_setter in
      short_arm a (low_ticket accesses a.setter h.setter.access fits h.setter.named)
      (omega (arith, count, count_by-le-length (λ (b : Arm). b.setter == a.setter) earlier, long, many, length-append earlier (a ∷ later)))
      (omega (arith, index, few)) h.watch_word (low_finder a h.setter.access a.outcome h.setter.holds.1)

  take_short : (t : Take) → slots ≤ 1024 → TakeFits slots accesses t → length (line_text (lines.Take t)) ≤ 48
  take_short t few h =
      let index = h.index in
      short_take t (low_ticket accesses t.finder h.finder.access fits h.finder.named) (omega (arith, index, few))
      (low_ticket accesses t.setter h.setter.access fits h.setter.named)

  report_short : (r : Report) → ReportFits accesses r → length (line_text (lines.Report r)) ≤ 56
  report_short (Two setter finder seen) h =
      short_race setter finder (low_ticket accesses setter h.access fits h.named) (low_ticket accesses finder h.holds.access fits h.holds.named)
  report_short (Unknown setter old new) h = short_origin setter old new (low_ticket accesses setter h.access fits h.named)
      (value_limit slots layout accesses h.access.access.size old h.holds.size h.holds.old_fits)
      (value_limit slots layout accesses h.access.access.size new h.holds.size h.holds.new_fits)

short_shape : (slots : ℕ) (layout : Layout) → slots ≤ 1024 → length (shape_line slots layout) ≤ 30
unfolding shape_line
short_shape slots layout few =
    let wide : length (width_word layout) ≤ 2 = short_width layout in
    let all : IsShort (shape_line slots layout) 30 =
    ended (next (first_field (codes "shape ") (decimal slots) 6 20 (omega arith) (short_dec slots (omega arith))) (width_word layout) 2 wide) in
    all.is
  where
    short_width : (layout : Layout) → length (width_word layout) ≤ 2
    short_width W64 = omega arith
    short_width W32 = omega arith

short_version : length second_version ≤ 14
unfolding second_version
short_version = omega arith

short_end : length end_line ≤ 4
unfolding end_line
short_end = omega arith

-- all lines together
texts : (accesses : List Stamped) (arms : List Arm) (takes : List Take) (reports : List Report)
    → length (flat_map line_text (written_lines accesses arms takes reports))
    ≡ length (flat_map line_text (map (λ s. lines.Access s) accesses)) + length (flat_map line_text (map (λ a. lines.Arm a) arms))
    + length (flat_map line_text (map (λ t. lines.Take t) takes)) + length (flat_map line_text (map (λ r. lines.Report r) reports))
texts accesses arms takes reports =
    let a : List Line = map (λ s. lines.Access s) accesses in
    let b : List Line = map (λ a. lines.Arm a) arms in
    let c : List Line = map (λ t. lines.Take t) takes in
    let d : List Line = map (λ r. lines.Report r) reports in
    let one : length (flat_map line_text (a ++ b ++ c ++ d)) ≡ length (flat_map line_text (a ++ b ++ c) ++ flat_map line_text d) =
    ap length (flat_map-append line_text (a ++ b ++ c) d) in
    let two : length (flat_map line_text (a ++ b ++ c)) ≡ length (flat_map line_text (a ++ b) ++ flat_map line_text c) =
    ap length (flat_map-append line_text (a ++ b) c) in
    let three : length (flat_map line_text (a ++ b)) ≡ length (flat_map line_text a ++ flat_map line_text b) =
    ap length (flat_map-append line_text a b) in
    omega (
      arith,
      one,
      two,
      three,
      length-append (flat_map line_text (a ++ b ++ c)) (flat_map line_text d),
      length-append (flat_map line_text (a ++ b)) (flat_map line_text c),
      length-append (flat_map line_text a) (flat_map line_text b),
    )

pub within : (slots : ℕ) (layout : Layout) (accesses : List Stamped) (arms : List Arm) (takes : List Take) (reports : List Report)
    → AreParts slots layout accesses arms takes reports → length (written_trace slots layout accesses arms takes reports) ≤ size_limit
within slots layout accesses arms takes reports h =
    let fits = h.each_access in
    let a = flat_short (λ s. lines.Access s) 124 accesses (All-weaker AccessFits (λ s. length (line_text (lines.Access s)) ≤ 124) short_access accesses fits) in
    let b = flat_short (λ a. lines.Arm a) 96 arms (all_splits (λ a. length (line_text (lines.Arm a)) ≤ 96) arms [] arms refl (λ earlier later x is.
    arm_short slots layout accesses fits arms earlier later x h.few_slots h.slots_limit h.few_arms is (h.each_arm earlier later x is))) in
    let c = flat_short (λ t. lines.Take t) 48 takes (All-weaker (TakeFits slots accesses) (λ t. length (line_text (lines.Take t)) ≤ 48)
    (λ t fit. take_short slots layout accesses fits t h.slots_limit fit) takes h.each_take) in
    let d = flat_short (λ r. lines.Report r) 56 reports (All-weaker (ReportFits accesses) (λ r. length (line_text (lines.Report r)) ≤ 56)
    (λ r fit. report_short slots layout accesses fits r fit) reports h.each_report) in
    let many_a = h.few_accesses in
    let many_b = h.few_arms in
    let many_c = h.few_takes in
    let many_d = h.few_reports in
    let most_a : 124 * length accesses ≤ 124 * (16 * 1024) = omega (arith, many_a) in
    let most_b : 96 * length arms ≤ 96 * (16 * 9216) = omega (arith, many_b) in
    let most_c : 48 * length takes ≤ 48 * (16 * 9216) = omega (arith, many_c) in
    let most_d : 56 * length reports ≤ 56 * (16 * 9216) = omega (arith, many_d) in
    let body : List ℕ = flat_map line_text (written_lines accesses arms takes reports) in
    let head : List ℕ = second_version ++ shape_line slots layout in
    omega (
      arith,
      a,
      b,
      c,
      d,
      most_a,
      most_b,
      most_c,
      most_d,
      texts accesses arms takes reports,
      length-append (head ++ body) end_line,
      length-append head body,
      length-append second_version (shape_line slots layout),
      short_version,
      short_shape slots layout h.slots_limit,
      short_end,
    )
