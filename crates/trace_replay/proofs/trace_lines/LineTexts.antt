-- The lines of a trace, both ways: what is spelled is read, and what is read is spelled so.
use Rattle.std.proofs.Common.{◌≡◌, ◌∙◌, ◌+◌, ◌++◌, ◌^◌, ◌<◌, ◌≤◌, ◌||◌, ◌∷◌, ℕ, List, [], Bool, true, false, Option, Some, None, ap, append_assoc, arith, nat_lt, refl, subst, sym, unwrap_or}
use Rattle.std.proofs.lemmas.Bool.Decides.{nat_tests}
use Rattle.std.specs.Fmt.{decimal}
use Rattle.std.specs.Prelude.{if◌then◌else◌, ◌==◌, codes}
use Rattle.access_types.specs.Access.{proper_mask}
use Rattle.access_types.specs.Arms.{Arm}
use Rattle.access_types.specs.Kind.{is_scoped}
use Rattle.access_types.specs.Stamped.{Stamped}
use Rattle.access_types.specs.Takes.{Take}
use Rattle.access_types.specs.declared.arms.ArmOutcome.{ArmOutcome}
use Rattle.access_types.specs.declared.report.Report.TheVariants.{Two, Unknown}
use Rattle.access_types.specs.declared.report.ValueChange.{ValueChange}
use Rattle.report_text.specs.Line.{hex_field, kind_letters, letter_if, letters, line_text, name, name_in, outcome_words, spell_access, spell_arm, spell_origin, spell_race, spell_take}
use Rattle.report_text.specs.declared.line.Line.{Line}
use Rattle.report_text.specs.declared.line.Line.TheVariants as lines
use Rattle.trace_replay.specs.declared.trace_lines.fields.AccessLetters.{AccessLetters}
use Rattle.trace_replay.specs.declared.trace_lines.fields.AccessName.{AccessName}
use Rattle.trace_replay.specs.trace_lines.FieldReaders.{◌>>=◌, AreInLimits, behind, decimal_at, hex_at, letters_at, name_at, next, outcome_at, past, ticket_at}
use Rattle.trace_replay.specs.trace_lines.LineReaders.{access_at, access_of, arm_at, line_at, origin_at, race_at, take_at}
use Rattle.trace_replay.specs.trace_lines.Reading.{AccessIsPlain, ArmIsPlain, FinderIsPlain, IsLineAt, IsPlain, IsTicket, Read, TakeIsPlain}
use Rattle.trace_replay.proofs.trace_lines.FieldTexts.{decimal_spelled, decimal_there, letters_spelled, letters_there, name_spelled, name_there, outcome_spelled, outcome_there, ticket_spelled, ticket_there}
use Rattle.trace_replay.proofs.trace_lines.Hex.{hex_spelled, hex_there}
use Rattle.trace_replay.proofs.trace_lines.Words.{bind_some, bind_then, next_spelled, next_there, past_is, past_there, same_given}

-- ---- what is spelled is read

module _ (bytes t1 t2 t3 t4 t5 t6 t7 t8 t9 t10 t11 t12 t13 rest : List ℕ) where
  access_steps : (n : AccessName) (l : AccessLetters) (addr size mask begin end : ℕ) (line : Line)
      → name_at bytes ≡ Some (n, t1) → past (codes " ") t1 ≡ Some t2 → letters_at t2 ≡ Some (l, t3)
      → past (codes " ") t3 ≡ Some t4 → hex_at t4 ≡ Some (addr, t5) → past (codes " ") t5 ≡ Some t6
      → decimal_at t6 ≡ Some (size, t7) → past (codes " ") t7 ≡ Some t8 → hex_at t8 ≡ Some (mask, t9)
      → past (codes " ") t9 ≡ Some t10 → decimal_at t10 ≡ Some (begin, t11) → past (codes " ") t11 ≡ Some t12
      → decimal_at t12 ≡ Some (end, t13) → past (codes "\n") t13 ≡ Some rest
      → access_of n l addr size mask begin end ≡ Some line → access_at bytes ≡ Some (line, rest)
  unfolding access_at
  access_steps n l addr size mask begin end line e1 e2 e3 e4 e5 e6 e7 e8 e9 e10 e11 e12 e13 e14 e15 =
      rw (
        e1,
        e2,
        e3,
        next_there hex_at t3 t4 t5 addr e4 e5,
        next_there decimal_at t5 t6 t7 size e6 e7,
        next_there hex_at t7 t8 t9 mask e8 e9,
        next_there decimal_at t9 t10 t11 begin e10 e11,
        next_there decimal_at t11 t12 t13 end e12 e13,
        e14,
        e15,
      )

  arm_steps : (setter number index word : ℕ) (outcome : ArmOutcome)
      → ticket_at bytes ≡ Some (setter, t1) → past (codes " ") t1 ≡ Some t2 → decimal_at t2 ≡ Some (number, t3)
      → past (codes " ") t3 ≡ Some t4 → decimal_at t4 ≡ Some (index, t5) → past (codes " ") t5 ≡ Some t6
      → hex_at t6 ≡ Some (word, t7) → past (codes " ") t7 ≡ Some t8 → outcome_at t8 ≡ Some (outcome, t9)
      → past (codes "\n") t9 ≡ Some rest
      → arm_at bytes ≡ Some (lines.Arm (record { setter = setter; number = number; index = index; watch_word = word; outcome = outcome }), rest)
  unfolding arm_at
  arm_steps setter number index word outcome e1 e2 e3 e4 e5 e6 e7 e8 e9 e10 =
      rw (
        e1,
        next_there decimal_at t1 t2 t3 number e2 e3,
        next_there decimal_at t3 t4 t5 index e4 e5,
        next_there hex_at t5 t6 t7 word e6 e7,
        e8,
        e9,
        e10,
      )

  take_steps : (finder index setter : ℕ)
      → ticket_at bytes ≡ Some (finder, t1) → past (codes " ") t1 ≡ Some t2 → decimal_at t2 ≡ Some (index, t3)
      → past (codes " ") t3 ≡ Some t4 → ticket_at t4 ≡ Some (setter, t5) → past (codes "\n") t5 ≡ Some rest
      → take_at bytes ≡ Some (lines.Take (record { finder = finder; index = index; setter = setter }), rest)
  unfolding take_at
  take_steps finder index setter e1 e2 e3 e4 e5 e6 =
      rw (e1, next_there decimal_at t1 t2 t3 index e2 e3, next_there ticket_at t3 t4 t5 setter e4 e5, e6)

  race_steps : (setter finder : ℕ)
      → ticket_at bytes ≡ Some (setter, t1) → past (codes " ") t1 ≡ Some t2 → ticket_at t2 ≡ Some (finder, t3)
      → past (codes "\n") t3 ≡ Some rest → race_at bytes ≡ Some (lines.Report (Two setter finder None), rest)
  unfolding race_at
  race_steps setter finder e1 e2 e3 e4 = rw (e1, next_there ticket_at t1 t2 t3 finder e2 e3, e4)

  origin_steps : (setter old new : ℕ)
      → ticket_at bytes ≡ Some (setter, t1) → past (codes " ") t1 ≡ Some t2 → hex_at t2 ≡ Some (old, t3)
      → past (codes " ") t3 ≡ Some t4 → hex_at t4 ≡ Some (new, t5) → past (codes "\n") t5 ≡ Some rest
      → origin_at bytes ≡ Some (lines.Report (Unknown setter old new), rest)
  unfolding origin_at
  origin_steps setter old new e1 e2 e3 e4 e5 e6 =
      rw (e1, next_there hex_at t1 t2 t3 old e2 e3, next_there hex_at t3 t4 t5 new e4 e5, e6)

mask_back : (mask : Option ℕ) → proper_mask mask ≡ mask → proper_mask (Some (unwrap_or mask 0)) ≡ mask
mask_back None is = refl
mask_back (Some mask) is = is

letters_back : (s : Stamped) (more : List ℕ) → is_scoped s.access.kind ≡ false
    → letters_at (letters s ++ (32 ∷ more)) ≡ Some (record { kind = s.access.kind; marked = s.marked; silenced = s.silenced }, 32 ∷ more)
letters_back s more unscoped =
    ap (λ xs. letters_at (xs ++ (32 ∷ more))) (append_assoc (kind_letters s.access.kind) (letter_if s.marked (codes "c")) (letter_if s.silenced (codes "s")))
    ∙ letters_there s.access.kind s.marked s.silenced more unscoped

access_back : (s : Stamped) → AccessIsPlain s
    → access_of (record { task = s.access.task; site = s.access.site; rep = s.access.rep })
    (record { kind = s.access.kind; marked = s.marked; silenced = s.silenced })
    s.access.addr s.access.size (unwrap_or s.access.mask 0) s.begin s.end ≡ Some (lines.Access s)
unfolding access_of
access_back s is =
    let some = is.has_bytes in
    let range = is.limits.range in
    let e : ((s.access.size == 0) || nat_lt (2 ^ 63) (s.access.addr + s.access.size)) ≡ false = grind (arith, nat_tests) in
    rw e (ap (λ mask. Some (lines.Access (record {
      access = record {
        task = s.access.task;
        site = s.access.site;
        rep = s.access.rep;
        addr = s.access.addr;
        size = s.access.size;
        kind = s.access.kind;
        mask = mask;
      };
      begin = s.begin;
      end = s.end;
      marked = s.marked;
      silenced = s.silenced;
    }))) (mask_back s.access.mask is.mask))

access_there : (s : Stamped) (rest : List ℕ) → AccessIsPlain s → (body : List ℕ) × (spell_access s ++ rest ≡ codes "access " ++ body)
    × (access_at body ≡ Some (lines.Access s, rest))
unfolding spell_access
access_there s rest is =
    let a = s.access in
    let mask = unwrap_or a.mask 0 in
    let t13 : List ℕ = codes "\n" ++ rest in
    let t12 : List ℕ = decimal s.end ++ t13 in
    let t11 : List ℕ = codes " " ++ t12 in
    let t10 : List ℕ = decimal s.begin ++ t11 in
    let t9 : List ℕ = codes " " ++ t10 in
    let t8 : List ℕ = hex_field mask ++ t9 in
    let t7 : List ℕ = codes " " ++ t8 in
    let t6 : List ℕ = decimal a.size ++ t7 in
    let t5 : List ℕ = codes " " ++ t6 in
    let t4 : List ℕ = hex_field a.addr ++ t5 in
    let t3 : List ℕ = codes " " ++ t4 in
    let t2 : List ℕ = letters s ++ t3 in
    let t1 : List ℕ = codes " " ++ t2 in
    let limits = is.limits in
    let addr : a.addr < 2 ^ 64 = omega (arith, limits.range) in
    let size : a.size < 2 ^ 64 = omega (arith, limits.range) in (
      name a.task a.site a.rep ++ t1,
      simp append_assoc,
      access_steps (name a.task a.site a.rep ++ t1) t1 t2 t3 t4 t5 t6 t7 t8 t9 t10 t11 t12 t13 rest
          (record { task = a.task; site = a.site; rep = a.rep }) (record { kind = a.kind; marked = s.marked; silenced = s.silenced })
          a.addr a.size mask s.begin s.end (lines.Access s)
          (name_there a.task a.site a.rep t1 limits.task limits.site limits.rep refl) (past_there (codes " ") t2)
          (letters_back s t4 is.unscoped) (past_there (codes " ") t4)
          (hex_there a.addr t5 addr) (past_there (codes " ") t6) (decimal_there a.size t7 size refl) (past_there (codes " ") t8)
          (hex_there mask t9 is.mask_limit) (past_there (codes " ") t10) (decimal_there s.begin t11 is.begin_limit refl)
          (past_there (codes " ") t12) (decimal_there s.end t13 is.end_limit refl) (past_there (codes "\n") rest) (access_back s is),
    )

arm_there : (a : Arm) (rest : List ℕ) → ArmIsPlain a → (body : List ℕ) × (spell_arm a ++ rest ≡ codes "arm " ++ body)
    × (arm_at body ≡ Some (lines.Arm a, rest))
unfolding spell_arm
arm_there a rest is =
    let t9 : List ℕ = codes "\n" ++ rest in
    let t8 : List ℕ = outcome_words a.outcome ++ t9 in
    let t7 : List ℕ = codes " " ++ t8 in
    let t6 : List ℕ = hex_field a.watch_word ++ t7 in
    let t5 : List ℕ = codes " " ++ t6 in
    let t4 : List ℕ = decimal a.index ++ t5 in
    let t3 : List ℕ = codes " " ++ t4 in
    let t2 : List ℕ = decimal a.number ++ t3 in
    let t1 : List ℕ = codes " " ++ t2 in (
      name_in a.setter ++ t1,
      simp append_assoc,
      arm_steps (name_in a.setter ++ t1) t1 t2 t3 t4 t5 t6 t7 t8 t9 [] [] [] [] rest a.setter a.number a.index a.watch_word a.outcome
          (ticket_there a.setter t1 is.setter refl) (past_there (codes " ") t2) (decimal_there a.number t3 is.number refl)
          (past_there (codes " ") t4) (decimal_there a.index t5 is.index refl) (past_there (codes " ") t6)
          (hex_there a.watch_word t7 is.watch_word) (past_there (codes " ") t8) (outcome_there a.outcome t9 is.finder)
          (past_there (codes "\n") rest),
    )

take_there : (t : Take) (rest : List ℕ) → TakeIsPlain t → (body : List ℕ) × (spell_take t ++ rest ≡ codes "take " ++ body)
    × (take_at body ≡ Some (lines.Take t, rest))
unfolding spell_take
take_there t rest is =
    let t5 : List ℕ = codes "\n" ++ rest in
    let t4 : List ℕ = name_in t.setter ++ t5 in
    let t3 : List ℕ = codes " " ++ t4 in
    let t2 : List ℕ = decimal t.index ++ t3 in
    let t1 : List ℕ = codes " " ++ t2 in (
      name_in t.finder ++ t1,
      simp append_assoc,
      take_steps (name_in t.finder ++ t1) t1 t2 t3 t4 t5 [] [] [] [] [] [] [] [] rest t.finder t.index t.setter
          (ticket_there t.finder t1 is.finder refl) (past_there (codes " ") t2) (decimal_there t.index t3 is.index refl)
          (past_there (codes " ") t4) (ticket_there t.setter t5 is.setter refl) (past_there (codes "\n") rest),
    )

race_there : (setter finder : ℕ) (rest : List ℕ) → IsTicket setter → IsTicket finder
    → (body : List ℕ) × (spell_race setter finder ++ rest ≡ codes "race " ++ body)
    × (race_at body ≡ Some (lines.Report (Two setter finder None), rest))
unfolding spell_race
race_there setter finder rest s f =
    let t3 : List ℕ = codes "\n" ++ rest in
    let t2 : List ℕ = name_in finder ++ t3 in
    let t1 : List ℕ = codes " " ++ t2 in (
      name_in setter ++ t1,
      simp append_assoc,
      race_steps (name_in setter ++ t1) t1 t2 t3 [] [] [] [] [] [] [] [] [] [] rest setter finder
          (ticket_there setter t1 s refl) (past_there (codes " ") t2) (ticket_there finder t3 f refl) (past_there (codes "\n") rest),
    )

origin_there : (setter old new : ℕ) (rest : List ℕ) → IsTicket setter → old < 2 ^ 64 → new < 2 ^ 64
    → (body : List ℕ) × (spell_origin setter old new ++ rest ≡ codes "origin " ++ body)
    × (origin_at body ≡ Some (lines.Report (Unknown setter old new), rest))
unfolding spell_origin
origin_there setter old new rest s o n =
    let t5 : List ℕ = codes "\n" ++ rest in
    let t4 : List ℕ = hex_field new ++ t5 in
    let t3 : List ℕ = codes " " ++ t4 in
    let t2 : List ℕ = hex_field old ++ t3 in
    let t1 : List ℕ = codes " " ++ t2 in (
      name_in setter ++ t1,
      simp append_assoc,
      origin_steps (name_in setter ++ t1) t1 t2 t3 t4 t5 [] [] [] [] [] [] [] [] rest setter old new
          (ticket_there setter t1 s refl) (past_there (codes " ") t2) (hex_there old t3 o) (past_there (codes " ") t4)
          (hex_there new t5 n) (past_there (codes "\n") rest),
    )

-- the first words of lines
module _ (body : List ℕ) where
  at_access : line_at (codes "access " ++ body) ≡ access_at body
  unfolding line_at past
  at_access = refl

  at_arm : line_at (codes "arm " ++ body) ≡ arm_at body
  unfolding line_at past
  at_arm = refl

  at_take : line_at (codes "take " ++ body) ≡ take_at body
  unfolding line_at past
  at_take = refl

  at_race : line_at (codes "race " ++ body) ≡ race_at body
  unfolding line_at past
  at_race = refl

  at_origin : line_at (codes "origin " ++ body) ≡ origin_at body
  unfolding line_at past
  at_origin = refl

same_race : (setter finder : ℕ) (change : Option ValueChange) (rest : List ℕ) → change ≡ None
    → ◌≡◌ {A = Read Line} (Some (lines.Report (Two setter finder None), rest)) (Some (lines.Report (Two setter finder change), rest))
same_race setter finder change rest none = ap (λ c. Some (lines.Report (Two setter finder c), rest)) (sym none)

pub line_there : (line : Line) (rest : List ℕ) → IsPlain line → line_at (line_text line ++ rest) ≡ Some (line, rest)
line_there (lines.Access s) rest is = let t = access_there s rest is in ap line_at t.1 ∙ at_access t.0 ∙ t.2
line_there (lines.Arm a) rest is = let t = arm_there a rest is in ap line_at t.1 ∙ at_arm t.0 ∙ t.2
line_there (lines.Take t) rest is = let t' = take_there t rest is in ap line_at t'.1 ∙ at_take t'.0 ∙ t'.2
line_there (lines.Report (Two setter finder change)) rest is =
    let t = race_there setter finder rest is.0 is.1 in ap line_at t.1 ∙ at_race t.0 ∙ t.2 ∙ same_race setter finder change rest is.2
line_there (lines.Report (Unknown setter old new)) rest is =
    let t = origin_there setter old new rest is.0 is.1 is.2 in ap line_at t.1 ∙ at_origin t.0 ∙ t.2

-- ---- what is read is spelled so

chained : {a c d : List ℕ} (b : List ℕ) → a ≡ b ++ c → c ≡ d → a ≡ b ++ d
chained b e f = e ∙ ap (λ xs. b ++ xs) f

pub mask_kept : (mask : ℕ) → (proper_mask (proper_mask (Some mask)) ≡ proper_mask (Some mask)) × (unwrap_or (proper_mask (Some mask)) 0 ≡ mask)
mask_kept mask = by (mask == 0) refl
  where
    by : (t : Bool) → (mask == 0) ≡ t
        → (proper_mask (if t then None else Some mask) ≡ (if t then None else Some mask)) × (unwrap_or (if t then None else Some mask) 0 ≡ mask)
    by true e = let is : mask ≡ 0 = grind (arith, nat_tests) in (refl, sym is)
    by false e = (ap (λ t. if t then None else Some mask) e, refl)

abbrev made_of : AccessName → AccessLetters → ℕ → ℕ → ℕ → ℕ → ℕ → Stamped
made_of n l addr size mask begin end = record {
  access = record { task = n.task; site = n.site; rep = n.rep; addr = addr; size = size; kind = l.kind; mask = proper_mask (Some mask) };
  begin = begin;
  end = end;
  marked = l.marked;
  silenced = l.silenced;
}

record Made (n : AccessName) (l : AccessLetters) (addr size mask begin end : ℕ) (line : Line) : Type 0 where
  is : line ≡ lines.Access (made_of n l addr size mask begin end)
  some : 0 < size
  range : addr + size ≤ 2 ^ 63

access_made : (n : AccessName) (l : AccessLetters) (addr size mask begin end : ℕ) (line : Line)
    → access_of n l addr size mask begin end ≡ Some line → Made n l addr size mask begin end line
unfolding access_of
access_made n l addr size mask begin end line e = by ((size == 0) || nat_lt (2 ^ 63) (addr + size)) refl e
  where
    by : (t : Bool) → ((size == 0) || nat_lt (2 ^ 63) (addr + size)) ≡ t
        → (if t then None else Some (lines.Access (made_of n l addr size mask begin end))) ≡ Some line
        → Made n l addr size mask begin end line
    by true p e = absurd cc
    by false p e = record {
      is = sym (same_given (lines.Access (made_of n l addr size mask begin end)) line e);
      some = grind (arith, nat_tests);
      range = grind (arith, nat_tests);
    }

access_ends : (bytes t1 t2 t3 t4 t5 t6 t7 t8 t9 t10 t11 t12 t13 rest : List ℕ) (n : AccessName) (l : AccessLetters)
    (addr size mask begin end : ℕ) (line : Line) (found : Line × List ℕ)
    → (bytes ≡ name n.task n.site n.rep ++ t1) × AreInLimits n → t1 ≡ codes " " ++ t2
    → (t2 ≡ (kind_letters l.kind ++ (letter_if l.marked (codes "c") ++ letter_if l.silenced (codes "s"))) ++ t3) × (is_scoped l.kind ≡ false)
    → t3 ≡ codes " " ++ t4 → (t4 ≡ hex_field addr ++ t5) × (addr < 2 ^ 64) → t5 ≡ codes " " ++ t6
    → (t6 ≡ decimal size ++ t7) × (size < 2 ^ 64) → t7 ≡ codes " " ++ t8 → (t8 ≡ hex_field mask ++ t9) × (mask < 2 ^ 64)
    → t9 ≡ codes " " ++ t10 → (t10 ≡ decimal begin ++ t11) × (begin < 2 ^ 64) → t11 ≡ codes " " ++ t12
    → (t12 ≡ decimal end ++ t13) × (end < 2 ^ 64) → t13 ≡ codes "\n" ++ rest
    → Made n l addr size mask begin end line → ◌≡◌ {A = Line × List ℕ} (line, rest) found → IsLineAt (codes "access " ++ bytes) found.0 found.1
unfolding spell_access
access_ends bytes t1 t2 t3 t4 t5 t6 t7 t8 t9 t10 t11 t12 t13 rest n l addr size mask begin end line found e1 e2 e3 e4 e5 e6 e7 e8 e9 e10 e11 e12 e13 e14 m same =
    let s : Stamped = made_of n l addr size mask begin end in
    let kept = mask_kept mask in
    let limits = e1.1 in
    let masked : t8 ≡ hex_field (unwrap_or (proper_mask (Some mask)) 0) ++ t9 = e9.0 ∙ ap (λ m. hex_field m ++ t9) (sym kept.1) in
    let chain =
    chained (name n.task n.site n.rep) e1.0 (
    chained (codes " ") e2 (
    chained (kind_letters l.kind ++ (letter_if l.marked (codes "c") ++ letter_if l.silenced (codes "s"))) e3.0 (
    chained (codes " ") e4 (
    chained (hex_field addr) e5.0 (
    chained (codes " ") e6 (
    chained (decimal size) e7.0 (
    chained (codes " ") e8 (
    chained (hex_field (unwrap_or (proper_mask (Some mask)) 0)) masked (
    chained (codes " ") e10 (
    chained (decimal begin) e11.0 (
    chained (codes " ") e12 (
    chained (decimal end) e13.0 e14)))))))))))) in
    let whole : codes "access " ++ bytes ≡ spell_access s ++ rest = ap (λ xs. codes "access " ++ xs) chain ∙ simp append_assoc in
    let plain : AccessIsPlain s = record {
      limits = record { task = limits.0; site = limits.1; rep = limits.2; range = m.range };
      has_bytes = m.some;
      unscoped = e3.1;
      mask = kept.0;
      mask_limit = subst (λ k. k < 2 ^ 64) (sym kept.1) e9.1;
      begin_limit = e11.1;
      end_limit = e13.1;
    } in
    let here : IsLineAt (codes "access " ++ bytes) (lines.Access s) rest = record { plain = plain; spelled = whole } in
    subst (λ (f : Line × List ℕ). IsLineAt (codes "access " ++ bytes) f.0 f.1) same
    (subst (λ line. IsLineAt (codes "access " ++ bytes) line rest) (sym m.is) here)

access_spelled : (bytes : List ℕ) (found : Line × List ℕ) → access_at bytes ≡ Some found → IsLineAt (codes "access " ++ bytes) found.0 found.1
unfolding access_at
access_spelled bytes found e =
    bind_then (name_at bytes) _ found e (λ x1 p1 e.
    bind_then (past (codes " ") x1.1) _ found e (λ x2 p2 e.
    bind_then (letters_at x2) _ found e (λ x3 p3 e.
    let addr = next hex_at (Some x3.1) in
    let size = next decimal_at addr.1 in
    let mask = next hex_at size.1 in
    let begin = next decimal_at mask.1 in
    let end = next decimal_at begin.1 in
    bind_then (end.1 >>= past (codes "\n")) _ found e (λ x14 p14 e.
    bind_then (access_of x1.0 x3.0 addr.0 size.0 mask.0 begin.0 end.0) _ found e (λ x15 p15 e.
    let b = bind_some end.1 (past (codes "\n")) x14 p14 in
    let s13 = next_spelled decimal_at begin.1 b.0 b.1 in
    let s11 = next_spelled decimal_at mask.1 s13.before s13.were in
    let s9 = next_spelled hex_at size.1 s11.before s11.were in
    let s7 = next_spelled decimal_at addr.1 s9.before s9.were in
    let s5 = next_spelled hex_at (Some x3.1) s7.before s7.were in
    access_ends bytes x1.1 x2 x3.1 s5.behind s7.before s7.behind s9.before s9.behind s11.before s11.behind s13.before s13.behind b.0 x14
    x1.0 x3.0 addr.0 size.0 mask.0 begin.0 end.0 x15 found
    (name_spelled bytes x1 p1) (past_is (codes " ") x1.1 x2 p2) (letters_spelled x2 x3 p3)
    (same_given x3.1 s5.before s5.were ∙ s5.spelled) (hex_spelled s5.behind (addr.0, s7.before) s5.read) s7.spelled
    (decimal_spelled s7.behind (size.0, s9.before) s7.read) s9.spelled (hex_spelled s9.behind (mask.0, s11.before) s9.read)
    s11.spelled (decimal_spelled s11.behind (begin.0, s13.before) s11.read) s13.spelled
    (decimal_spelled s13.behind (end.0, b.0) s13.read) (past_is (codes "\n") b.0 x14 b.2)
    (access_made x1.0 x3.0 addr.0 size.0 mask.0 begin.0 end.0 x15 p15) (same_given (x15, x14) found e))))))

arm_ends : (bytes t1 t2 t3 t4 t5 t6 t7 t8 t9 rest : List ℕ) (setter number index word : ℕ) (outcome : ArmOutcome) (found : Line × List ℕ)
    → (bytes ≡ name_in setter ++ t1) × IsTicket setter → t1 ≡ codes " " ++ t2
    → (t2 ≡ decimal number ++ t3) × (number < 2 ^ 64) → t3 ≡ codes " " ++ t4
    → (t4 ≡ decimal index ++ t5) × (index < 2 ^ 64) → t5 ≡ codes " " ++ t6
    → (t6 ≡ hex_field word ++ t7) × (word < 2 ^ 64) → t7 ≡ codes " " ++ t8
    → (t8 ≡ outcome_words outcome ++ t9) × FinderIsPlain outcome → t9 ≡ codes "\n" ++ rest
    → ◌≡◌ {A = Line × List ℕ} (lines.Arm (record { setter = setter; number = number; index = index; watch_word = word; outcome = outcome }), rest) found → IsLineAt (codes "arm " ++ bytes) found.0 found.1
unfolding spell_arm
arm_ends bytes t1 t2 t3 t4 t5 t6 t7 t8 t9 rest setter number index word outcome found e1 e2 e3 e4 e5 e6 e7 e8 e9 e10 same =
    let chain = chained (name_in setter) e1.0 (chained (codes " ") e2 (chained (decimal number) e3.0 (chained (codes " ") e4 (chained (decimal index) e5.0
    (chained (codes " ") e6 (chained (hex_field word) e7.0 (chained (codes " ") e8 (chained (outcome_words outcome) e9.0 e10)))))))) in
    let whole : codes "arm " ++ bytes ≡ line_text (lines.Arm (record { setter = setter; number = number; index = index; watch_word = word; outcome = outcome })) ++ rest = ap (λ xs. codes "arm " ++ xs) chain ∙ simp append_assoc in
    let here : IsLineAt (codes "arm " ++ bytes) (lines.Arm (record { setter = setter; number = number; index = index; watch_word = word; outcome = outcome })) rest =
    record { plain = record { setter = e1.1; number = e3.1; index = e5.1; watch_word = e7.1; finder = e9.1 }; spelled = whole } in
    subst (λ (f : Line × List ℕ). IsLineAt (codes "arm " ++ bytes) f.0 f.1) same here

arm_spelled : (bytes : List ℕ) (found : Line × List ℕ) → arm_at bytes ≡ Some found → IsLineAt (codes "arm " ++ bytes) found.0 found.1
unfolding arm_at
arm_spelled bytes found e =
    bind_then (ticket_at bytes) _ found e (λ x1 p1 e.
    let number = next decimal_at (Some x1.1) in
    let index = next decimal_at number.1 in
    let word = next hex_at index.1 in
    bind_then (word.1 >>= past (codes " ")) _ found e (λ x8 p8 e.
    bind_then (outcome_at x8) _ found e (λ x9 p9 e.
    bind_then (past (codes "\n") x9.1) _ found e (λ x10 p10 e.
    let b = bind_some word.1 (past (codes " ")) x8 p8 in
    let s7 = next_spelled hex_at index.1 b.0 b.1 in
    let s5 = next_spelled decimal_at number.1 s7.before s7.were in
    let s3 = next_spelled decimal_at (Some x1.1) s5.before s5.were in
    arm_ends bytes x1.1 s3.behind s5.before s5.behind s7.before s7.behind b.0 x8 x9.1 x10 x1.0 number.0 index.0 word.0 x9.0 found
    (ticket_spelled bytes x1 p1) (same_given x1.1 s3.before s3.were ∙ s3.spelled)
    (decimal_spelled s3.behind (number.0, s5.before) s3.read) s5.spelled (decimal_spelled s5.behind (index.0, s7.before) s5.read)
    s7.spelled (hex_spelled s7.behind (word.0, b.0) s7.read) (past_is (codes " ") b.0 x8 b.2) (outcome_spelled x8 x9 p9)
    (past_is (codes "\n") x9.1 x10 p10)
    (same_given (lines.Arm (record { setter = x1.0; number = number.0; index = index.0; watch_word = word.0; outcome = x9.0 }), x10) found e)))))

take_ends : (bytes t1 t2 t3 t4 t5 rest : List ℕ) (finder index setter : ℕ) (found : Line × List ℕ)
    → (bytes ≡ name_in finder ++ t1) × IsTicket finder → t1 ≡ codes " " ++ t2
    → (t2 ≡ decimal index ++ t3) × (index < 2 ^ 64) → t3 ≡ codes " " ++ t4
    → (t4 ≡ name_in setter ++ t5) × IsTicket setter → t5 ≡ codes "\n" ++ rest
    → ◌≡◌ {A = Line × List ℕ} (lines.Take (record { finder = finder; index = index; setter = setter }), rest) found → IsLineAt (codes "take " ++ bytes) found.0 found.1
unfolding spell_take
take_ends bytes t1 t2 t3 t4 t5 rest finder index setter found e1 e2 e3 e4 e5 e6 same =
    let chain = chained (name_in finder) e1.0 (chained (codes " ") e2 (chained (decimal index) e3.0 (chained (codes " ") e4 (chained (name_in setter) e5.0 e6)))) in
    let whole : codes "take " ++ bytes ≡ line_text (lines.Take (record { finder = finder; index = index; setter = setter })) ++ rest = ap (λ xs. codes "take " ++ xs) chain ∙ simp append_assoc in
    let here : IsLineAt (codes "take " ++ bytes) (lines.Take (record { finder = finder; index = index; setter = setter })) rest = record { plain = record { finder = e1.1; index = e3.1; setter = e5.1 }; spelled = whole } in
    subst (λ (f : Line × List ℕ). IsLineAt (codes "take " ++ bytes) f.0 f.1) same here

take_spelled : (bytes : List ℕ) (found : Line × List ℕ) → take_at bytes ≡ Some found → IsLineAt (codes "take " ++ bytes) found.0 found.1
unfolding take_at
take_spelled bytes found e =
    bind_then (ticket_at bytes) _ found e (λ x1 p1 e.
    let index = next decimal_at (Some x1.1) in
    let setter = next ticket_at index.1 in
    bind_then (setter.1 >>= past (codes "\n")) _ found e (λ x6 p6 e.
    let b = bind_some setter.1 (past (codes "\n")) x6 p6 in
    let s5 = next_spelled ticket_at index.1 b.0 b.1 in
    let s3 = next_spelled decimal_at (Some x1.1) s5.before s5.were in
    take_ends bytes x1.1 s3.behind s5.before s5.behind b.0 x6 x1.0 index.0 setter.0 found
    (ticket_spelled bytes x1 p1) (same_given x1.1 s3.before s3.were ∙ s3.spelled) (decimal_spelled s3.behind (index.0, s5.before) s3.read)
    s5.spelled (ticket_spelled s5.behind (setter.0, b.0) s5.read) (past_is (codes "\n") b.0 x6 b.2)
    (same_given (lines.Take (record { finder = x1.0; index = index.0; setter = setter.0 }), x6) found e)))

race_ends : (bytes t1 t2 t3 rest : List ℕ) (setter finder : ℕ) (found : Line × List ℕ)
    → (bytes ≡ name_in setter ++ t1) × IsTicket setter → t1 ≡ codes " " ++ t2
    → (t2 ≡ name_in finder ++ t3) × IsTicket finder → t3 ≡ codes "\n" ++ rest
    → ◌≡◌ {A = Line × List ℕ} (lines.Report (Two setter finder None), rest) found → IsLineAt (codes "race " ++ bytes) found.0 found.1
unfolding spell_race
race_ends bytes t1 t2 t3 rest setter finder found e1 e2 e3 e4 same =
    let chain = chained (name_in setter) e1.0 (chained (codes " ") e2 (chained (name_in finder) e3.0 e4)) in
    let whole : codes "race " ++ bytes ≡ line_text (lines.Report (Two setter finder None)) ++ rest = ap (λ xs. codes "race " ++ xs) chain ∙ simp append_assoc in
    let here : IsLineAt (codes "race " ++ bytes) (lines.Report (Two setter finder None)) rest = record { plain = (e1.1, e3.1, refl); spelled = whole } in
    subst (λ (f : Line × List ℕ). IsLineAt (codes "race " ++ bytes) f.0 f.1) same here

race_spelled : (bytes : List ℕ) (found : Line × List ℕ) → race_at bytes ≡ Some found → IsLineAt (codes "race " ++ bytes) found.0 found.1
unfolding race_at
race_spelled bytes found e =
    bind_then (ticket_at bytes) _ found e (λ x1 p1 e.
    let finder = next ticket_at (Some x1.1) in
    bind_then (finder.1 >>= past (codes "\n")) _ found e (λ x4 p4 e.
    let b = bind_some finder.1 (past (codes "\n")) x4 p4 in
    let s3 = next_spelled ticket_at (Some x1.1) b.0 b.1 in
    race_ends bytes x1.1 s3.behind b.0 x4 x1.0 finder.0 found
    (ticket_spelled bytes x1 p1) (same_given x1.1 s3.before s3.were ∙ s3.spelled) (ticket_spelled s3.behind (finder.0, b.0) s3.read)
    (past_is (codes "\n") b.0 x4 b.2) (same_given (lines.Report (Two x1.0 finder.0 None), x4) found e)))

origin_ends : (bytes t1 t2 t3 t4 t5 rest : List ℕ) (setter old new : ℕ) (found : Line × List ℕ)
    → (bytes ≡ name_in setter ++ t1) × IsTicket setter → t1 ≡ codes " " ++ t2
    → (t2 ≡ hex_field old ++ t3) × (old < 2 ^ 64) → t3 ≡ codes " " ++ t4
    → (t4 ≡ hex_field new ++ t5) × (new < 2 ^ 64) → t5 ≡ codes "\n" ++ rest
    → ◌≡◌ {A = Line × List ℕ} (lines.Report (Unknown setter old new), rest) found → IsLineAt (codes "origin " ++ bytes) found.0 found.1
unfolding spell_origin
origin_ends bytes t1 t2 t3 t4 t5 rest setter old new found e1 e2 e3 e4 e5 e6 same =
    let chain = chained (name_in setter) e1.0 (chained (codes " ") e2 (chained (hex_field old) e3.0 (chained (codes " ") e4 (chained (hex_field new) e5.0 e6)))) in
    let whole : codes "origin " ++ bytes ≡ line_text (lines.Report (Unknown setter old new)) ++ rest = ap (λ xs. codes "origin " ++ xs) chain ∙ simp append_assoc in
    let here : IsLineAt (codes "origin " ++ bytes) (lines.Report (Unknown setter old new)) rest = record { plain = (e1.1, e3.1, e5.1); spelled = whole } in
    subst (λ (f : Line × List ℕ). IsLineAt (codes "origin " ++ bytes) f.0 f.1) same here

origin_spelled : (bytes : List ℕ) (found : Line × List ℕ) → origin_at bytes ≡ Some found → IsLineAt (codes "origin " ++ bytes) found.0 found.1
unfolding origin_at
origin_spelled bytes found e =
    bind_then (ticket_at bytes) _ found e (λ x1 p1 e.
    let old = next hex_at (Some x1.1) in
    let new = next hex_at old.1 in
    bind_then (new.1 >>= past (codes "\n")) _ found e (λ x6 p6 e.
    let b = bind_some new.1 (past (codes "\n")) x6 p6 in
    let s5 = next_spelled hex_at old.1 b.0 b.1 in
    let s3 = next_spelled hex_at (Some x1.1) s5.before s5.were in
    origin_ends bytes x1.1 s3.behind s5.before s5.behind b.0 x6 x1.0 old.0 new.0 found
    (ticket_spelled bytes x1 p1) (same_given x1.1 s3.before s3.were ∙ s3.spelled) (hex_spelled s3.behind (old.0, s5.before) s3.read)
    s5.spelled (hex_spelled s5.behind (new.0, b.0) s5.read) (past_is (codes "\n") b.0 x6 b.2)
    (same_given (lines.Report (Unknown x1.0 old.0 new.0), x6) found e)))

behind_spelled : (text bytes : List ℕ) (reader : List ℕ → Read Line) (other : Read Line) (found : Line × List ℕ)
    → behind (past text bytes) reader other ≡ Some found
    → ((rest : List ℕ) → reader rest ≡ Some found → IsLineAt (text ++ rest) found.0 found.1)
    → (other ≡ Some found → IsLineAt bytes found.0 found.1) → IsLineAt bytes found.0 found.1
behind_spelled text bytes reader other found e here there = by (past text bytes) refl e
  where
    by : (o : Option (List ℕ)) → past text bytes ≡ o → behind o reader other ≡ Some found → IsLineAt bytes found.0 found.1
    by None p e = there e
    by (Some rest) p e = subst (λ xs. IsLineAt xs found.0 found.1) (sym (past_is text bytes rest p)) (here rest e)

last_line : (bytes : List ℕ) (found : Line × List ℕ) → (past (codes "origin ") bytes >>= origin_at) ≡ Some found → IsLineAt bytes found.0 found.1
last_line bytes found e =
    let b = bind_some (past (codes "origin ") bytes) origin_at found e in
    subst (λ xs. IsLineAt xs found.0 found.1) (sym (past_is (codes "origin ") bytes b.0 b.1)) (origin_spelled b.0 found b.2)

pub line_spelled : (bytes : List ℕ) (found : Line × List ℕ) → line_at bytes ≡ Some found → IsLineAt bytes found.0 found.1
unfolding line_at
line_spelled bytes found e =
    behind_spelled (codes "access ") bytes access_at _ found e (λ rest. access_spelled rest found)
    (λ e. behind_spelled (codes "arm ") bytes arm_at _ found e (λ rest. arm_spelled rest found)
    (λ e. behind_spelled (codes "take ") bytes take_at _ found e (λ rest. take_spelled rest found)
    (λ e. behind_spelled (codes "race ") bytes race_at _ found e (λ rest. race_spelled rest found) (λ e. last_line bytes found e))))
