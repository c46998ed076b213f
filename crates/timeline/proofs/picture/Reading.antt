-- a true trace is read again, line by line, in its plain form
use Rattle.std.proofs.Common.{◌≡◌, ◌<◌, ◌∷◌, ◌++◌, ◌∙◌, ℕ, List, [], None, ap, append_assoc, append-nil, arith, length, length-append, map, refl, subst, sym}
use Rattle.std.specs.Prelude.{Contains}
use Rattle.std.specs.List.{AllByRecursion, flat_map}
use Rattle.std.proofs.lemmas.List.{append_cancel_left}
use Rattle.std.proofs.lemmas.List.Elements.{Contains-append_left}
use Rattle.access_types.specs.declared.report.Report.TheVariants.{Two, Unknown}
use Rattle.report_text.specs.Faults.{AreTrue, HeadStands, IsTrueTrace, MayHaveSlots}
use Rattle.report_text.specs.Line.{line_text}
use Rattle.report_text.specs.Standing.{accesses_of, arms_of}
use Rattle.report_text.specs.TraceText.{Head, end_line, first, first_version, head_text, second, second_version, shape_line}
use Rattle.report_text.specs.declared.line.Line.{Line}
use Rattle.report_text.specs.declared.line.Line.TheVariants as lines
use Rattle.watch_word.specs.declared.layout.Layout.{Layout}
use Rattle.trace_replay.specs.trace_lines.FieldReaders.{past}
use Rattle.trace_replay.specs.trace_lines.HeadReading.{IsHeadAt, shape_at}
use Rattle.trace_replay.specs.trace_lines.LineReaders.{line_at}
use Rattle.trace_replay.specs.trace_lines.Plain.{KeepLimits, plain_line}
use Rattle.trace_replay.specs.trace_lines.Reading.{IsLineAt, IsPlain, Reads}
use Rattle.trace_replay.specs.declared.trace_lines.head.Shape.{Shape}
use Rattle.trace_replay.proofs.trace_lines.HeadTexts.{shape_there}
use Rattle.trace_replay.proofs.trace_lines.LineTexts.{line_there}
use Rattle.trace_replay.proofs.trace_lines.PlainForms.{access_text, form}
use Rattle.trace_replay.proofs.trace_lines.PlainTruth.{all_to, end_to}
use Rattle.trace_replay.proofs.trace_lines.TrueBegins.{has_bytes, keep_limits}
use Rattle.trace_replay.proofs.trace_lines.Words.{past_there, same_given}
use Rattle.report_text.proofs.TrueLines.{accesses-append, arms-append}
use Rattle.timeline.specs.picture.Parts.{AreSpelled}

-- ---- the plain form of lines

plain_texts : (all : List Line) → flat_map line_text (map plain_line all) ≡ flat_map line_text all
plain_texts [] = refl
plain_texts (lines.Access s ∷ all) = rw (access_text s, plain_texts all)
plain_texts (lines.Arm a ∷ all) = ap (λ t. line_text (lines.Arm a) ++ t) (plain_texts all)
plain_texts (lines.Take t ∷ all) = ap (λ x. line_text (lines.Take t) ++ x) (plain_texts all)
plain_texts (lines.Report (Two setter finder seen) ∷ all) = ap (λ t. line_text (lines.Report (Two setter finder seen)) ++ t) (plain_texts all)
plain_texts (lines.Report (Unknown setter old new) ∷ all) = ap (λ t. line_text (lines.Report (Unknown setter old new)) ++ t) (plain_texts all)

front_within : (before all : List Line) → KeepLimits (before ++ all) → KeepLimits before
front_within before all keeps = record {
  accesses = λ s inside. keeps.accesses s (subst (λ xs. Contains xs s) (sym (accesses-append before all))
      (Contains-append_left (accesses_of before) (accesses_of all) s inside));
  arms = let few = keeps.arms in omega (arith, ap length (arms-append before all), length-append (arms_of before) (arms_of all));
}

are_plain : (head : Head) (before all : List Line) → HeadStands head → KeepLimits (before ++ all) → AreTrue head before all
    → AllByRecursion IsPlain (map plain_line all)
are_plain head before [] may keeps h = tt
are_plain head before (line ∷ all) may keeps h = (
  (form head before line may (front_within before (line ∷ all) keeps) h.0).is,
  are_plain head (before ++ line ∷ []) all may (subst KeepLimits (sym (append_assoc before (line ∷ []) all)) keeps) h.2,
)

-- the plain form of a true trace is one of the same bytes
pub true_plain : (bytes : List ℕ) (head : Head) (all : List Line) → IsTrueTrace bytes head all → IsTrueTrace bytes head (map plain_line all)
true_plain bytes head all h = record {
  begins = record {
    within = h.begins.within;
    head_stands = h.begins.head_stands;
    spelled = h.begins.spelled ∙ ap (λ xs. head_text head ++ xs ++ end_line) (sym (plain_texts all));
    lines_true = all_to head [] all h.begins.lines_true;
  };
  end_true = end_to head all h.end_true;
}

-- ---- behind the head

heads_apart : (rest more : List ℕ) → first_version ++ rest ≡ second_version ++ more → ⊥
unfolding past first_version second_version
heads_apart rest more e =
    let there = past_there first_version rest in
    let none : past first_version (second_version ++ more) ≡ None = refl in
    let same : past first_version (first_version ++ rest) ≡ past first_version (second_version ++ more) = ap (past first_version) e in
    absurd cc

shapes_same : (slots others : ℕ) (layout other : Layout) (rest more : List ℕ) → MayHaveSlots slots → MayHaveSlots others
    → shape_line slots layout ++ rest ≡ shape_line others other ++ more → (second slots layout ≡ second others other) × (rest ≡ more)
shapes_same slots others layout other rest more may may_other e =
    let one : Shape = record { slots = slots; layout = layout } in
    let two : Shape = record { slots = others; layout = other } in
    let same : ◌≡◌ {A = Shape × List ℕ} (one, rest) (two, more) = same_given (one, rest) (two, more)
    (sym (shape_there one rest may) ∙ ap shape_at e ∙ shape_there two more may_other) in (
      ap (λ (p : Shape × List ℕ). second p.0.slots p.0.layout) same,
      ap (λ (p : Shape × List ℕ). p.1) same,
    )

heads_same : (one other : Head) (rest more : List ℕ) → HeadStands one → HeadStands other → head_text one ++ rest ≡ head_text other ++ more
    → (one ≡ other) × (rest ≡ more)
heads_same first first rest more h k e = (refl, append_cancel_left first_version rest more e)
heads_same first (second slots layout) rest more h k e =
    absurd (heads_apart rest (shape_line slots layout ++ more) (e ∙ append_assoc second_version (shape_line slots layout) more))
heads_same (second slots layout) first rest more h k e =
    absurd (heads_apart more (shape_line slots layout ++ rest) (sym e ∙ append_assoc second_version (shape_line slots layout) rest))
heads_same (second slots layout) (second others other) rest more h k e = shapes_same slots others layout other rest more h k
    (append_cancel_left second_version _ _
    (sym (append_assoc second_version (shape_line slots layout) rest) ∙ e ∙ append_assoc second_version (shape_line others other) more))

-- the head of a true trace is the one that is read, and what stands behind it is its lines in plain form
behind_head : (bytes : List ℕ) (head other : Head) (all : List Line) (rest : List ℕ) → IsTrueTrace bytes head all
    → IsHeadAt bytes other rest → (other ≡ head) × (rest ≡ flat_map line_text (map plain_line all) ++ end_line)
behind_head bytes head other all rest h at =
    heads_same other head rest (flat_map line_text (map plain_line all) ++ end_line) at.stands h.begins.head_stands
    (sym at.spelled ∙ h.begins.spelled ∙ append_assoc (head_text head) (flat_map line_text all) end_line
    ∙ ap (λ xs. head_text head ++ (xs ++ end_line)) (sym (plain_texts all)))

pub head_read : (bytes : List ℕ) (head other : Head) (all : List Line) (rest : List ℕ) → IsTrueTrace bytes head all
    → IsHeadAt bytes other rest → other ≡ head
head_read bytes head other all rest h at = (behind_head bytes head other all rest h at).0

pub spelled_behind : (bytes : List ℕ) (head other : Head) (all : List Line) (rest : List ℕ) → IsTrueTrace bytes head all
    → IsHeadAt bytes other rest → AreSpelled (map plain_line all) rest
spelled_behind bytes head other all rest h at = record {
  plain = are_plain head [] all h.begins.head_stands (keep_limits bytes head all end_line h.begins) h.begins.lines_true;
  spelled = (behind_head bytes head other all rest h at).1;
}

-- ---- line by line

end_is_no_line : (more : List ℕ) → line_at (end_line ++ more) ≡ None
unfolding line_at past end_line
end_is_no_line more = refl

at_end : (rest : List ℕ) (next : Line) (more : List ℕ) → rest ≡ end_line → IsLineAt rest next more → ⊥
at_end rest next more e is =
    let read = line_there next more is.plain in
    let none = end_is_no_line [] in
    let same : line_at (line_text next ++ more) ≡ line_at (end_line ++ []) = ap line_at (sym is.spelled ∙ e ∙ sym (append-nil end_line)) in
    absurd cc

-- what is read is the first of the lines, and the others stand behind it
pub next_is : (todo : List Line) (rest : List ℕ) (next : Line) (more : List ℕ) → AreSpelled todo rest → IsLineAt rest next more
    → (later : List Line) × (todo ≡ next ∷ later) × AreSpelled later more
next_is [] rest next more h is = absurd (at_end rest next more h.spelled is)
next_is (line ∷ later) rest next more h is =
    let same : ◌≡◌ {A = Line × List ℕ} (line, flat_map line_text later ++ end_line) (next, more) =
    same_given (line, flat_map line_text later ++ end_line) (next, more)
    (sym (line_there line (flat_map line_text later ++ end_line) h.plain.0)
    ∙ ap line_at (sym (append_assoc (line_text line) (flat_map line_text later) end_line) ∙ sym h.spelled ∙ is.spelled)
    ∙ line_there next more is.plain) in (
      later,
      ap (λ (p : Line × List ℕ). p.0 ∷ later) same,
      record { plain = h.plain.1; spelled = sym (ap (λ (p : Line × List ℕ). p.1) same) },
    )

-- where no line is read, none is left
pub none_left : (todo : List Line) (rest : List ℕ) → AreSpelled todo rest → Reads (IsLineAt rest) None → todo ≡ []
none_left [] rest h none = refl
none_left (line ∷ later) rest h none =
    let e = (none line (flat_map line_text later ++ end_line)).0 (record {
      plain = h.plain.0;
      spelled = h.spelled ∙ append_assoc (line_text line) (flat_map line_text later) end_line;
    }) in
    absurd cc

pub shorter : (rest : List ℕ) (next : Line) (more : List ℕ) → IsLineAt rest next more → length more < length rest
shorter rest next more is =
    let size : length rest ≡ length (line_text next ++ more) = ap length is.spelled in
    omega (arith, length-append (line_text next) more, has_bytes next)
