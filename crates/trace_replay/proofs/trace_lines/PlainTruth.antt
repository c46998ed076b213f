-- Lines may stand and are true exactly where their plain forms may and are.
use Rattle.std.proofs.Common.{◌≡◌, ◌≢◌, ◌∷◌, ◌++◌, ◌∙◌, ◌≤◌, ◌<◌, ◌^◌, ◌==◌, ◌||◌, ℕ, List, [], Option, Some, None, ap, map, refl, subst, sym, unwrap_or}
use Rattle.std.specs.Prelude.{All, Contains, IsSome, IsTrue, count_by}
use Rattle.std.specs.List.{flat_map}
use Rattle.std.proofs.lemmas.List.{map-append}
use Rattle.std.proofs.lemmas.List.Elements.{All-map, All-weaker}
use Rattle.access_types.specs.Access.{Breaks, proper_mask}
use Rattle.access_types.specs.Arms.{Arm}
use Rattle.access_types.specs.Kind.{is_assertion, is_marked, write_flag}
use Rattle.access_types.specs.Race.{Differ}
use Rattle.access_types.specs.Stamped.{Stamped}
use Rattle.access_types.specs.Ticket.{ticket_number}
use Rattle.access_types.specs.declared.arms.ArmOutcome.{ArmOutcome}
use Rattle.access_types.specs.declared.arms.ArmOutcome.TheVariants.{Quiet, Origin, Hit}
use Rattle.access_types.specs.declared.arms.HitResult.{HitResult}
use Rattle.access_types.specs.declared.kind.Kind.{Kind}
use Rattle.access_types.specs.declared.kind.Kind.TheVariants.{Plain, Marked, Assert, AssertScoped}
use Rattle.access_types.specs.declared.report.Report.TheVariants.{Two, Unknown}
use Rattle.watch_word.specs.Word.{word_of}
use Rattle.watch_word.specs.declared.layout.Layout.{Layout}
use Rattle.watch_word.specs.declared.watch.Watch.{Watch}
use Rattle.report_text.specs.Faults.{AreTrue}
use Rattle.report_text.specs.Standing.{AccessStands, ArmStands, ContentStands, FinderStands, HaveOtherStamps, Names, NamesOne, Stands, accesses_of, arms_of, kind_place, reports_of, takes_of}
use Rattle.report_text.specs.TraceText.{Head, first, second}
use Rattle.report_text.specs.Truth.{IsTrueEnd, IsTrueLine, MayHit, MaySee, MayWatch, OutcomeIsTrue, RaceByStamps, ResultAgrees, race_in, unknown_in}
use Rattle.report_text.specs.declared.line.Line.{Line}
use Rattle.report_text.specs.declared.line.Line.TheVariants as lines
use Rattle.trace_replay.specs.trace_lines.Plain.{plain_access, plain_line, without_scope}
use Rattle.trace_replay.proofs.trace_lines.LineTexts.{mask_kept}
use Rattle.trace_replay.proofs.trace_lines.Mapped.{all_from, contains_from, contains_to}

-- ---- what an access and its plain form have in common

assertion_same : (kind : Kind) → is_assertion (without_scope kind) ≡ is_assertion kind
assertion_same (Plain operation) = refl
assertion_same (Marked operation) = refl
assertion_same (Assert claim) = refl
assertion_same (AssertScoped claim) = refl

marked_same : (kind : Kind) → is_marked (without_scope kind) ≡ is_marked kind
marked_same (Plain operation) = refl
marked_same (Marked operation) = refl
marked_same (Assert claim) = refl
marked_same (AssertScoped claim) = refl

write_same : (kind : Kind) → write_flag (without_scope kind) ≡ write_flag kind
write_same (Plain operation) = refl
write_same (Marked operation) = refl
write_same (Assert claim) = refl
write_same (AssertScoped claim) = refl

mask_same : (mask : Option ℕ) → proper_mask (proper_mask mask) ≡ proper_mask mask
mask_same None = refl
mask_same (Some mask) = (mask_kept mask).0

bits_same : (mask : Option ℕ) → unwrap_or (proper_mask mask) 0 ≡ unwrap_or mask 0
bits_same None = refl
bits_same (Some mask) = (mask_kept mask).1

-- ---- conditions on one or two accesses

breaks_to : (s f : Stamped) → Breaks s.access f.access → Breaks (plain_access s).access (plain_access f).access
breaks_to s f h = rw (write_same s.access.kind, write_same f.access.kind) h

breaks_from : (s f : Stamped) → Breaks (plain_access s).access (plain_access f).access → Breaks s.access f.access
breaks_from s f h = rw (write_same s.access.kind, write_same f.access.kind) at h

race_to : (s f : Stamped) → RaceByStamps s f → RaceByStamps (plain_access s) (plain_access f)
race_to s f h = record {
  tasks = h.tasks;
  overlap = h.overlap;
  breaks = breaks_to s f h.breaks;
  unmarked = h.unmarked;
  setter_heard = h.setter_heard;
  finder_heard = h.finder_heard;
  at_once = record { setter_first = h.at_once.setter_first; finder_first = h.at_once.finder_first };
}

race_from : (s f : Stamped) → RaceByStamps (plain_access s) (plain_access f) → RaceByStamps s f
race_from s f h = record {
  tasks = h.tasks;
  overlap = h.overlap;
  breaks = breaks_from s f h.breaks;
  unmarked = h.unmarked;
  setter_heard = h.setter_heard;
  finder_heard = h.finder_heard;
  at_once = record { setter_first = h.at_once.setter_first; finder_first = h.at_once.finder_first };
}

see_to : (s : Stamped) (old new : ℕ) → MaySee s old new → MaySee (plain_access s) old new
see_to s old new h = record {
  unmarked = h.unmarked;
  heard = h.heard;
  size = h.size;
  old_fits = h.old_fits;
  new_fits = h.new_fits;
  differ = subst (λ m. Differ m old new) (sym (mask_same s.access.mask)) h.differ;
}

see_from : (s : Stamped) (old new : ℕ) → MaySee (plain_access s) old new → MaySee s old new
see_from s old new h = record {
  unmarked = h.unmarked;
  heard = h.heard;
  size = h.size;
  old_fits = h.old_fits;
  new_fits = h.new_fits;
  differ = subst (λ m. Differ m old new) (mask_same s.access.mask) h.differ;
}

result_to : (s f : Stamped) (result : HitResult) → ResultAgrees s f result → ResultAgrees (plain_access s) (plain_access f) result
result_to s f result h = record {
  encoding = h.encoding;
  same_mask = λ e. mask_same s.access.mask ∙ h.same_mask e;
  same_kind = λ e. subst (λ b. ¬ IsTrue b) (sym (assertion_same s.access.kind)) (h.same_kind e);
  same_size = h.same_size;
  masked = λ e. subst IsSome (sym (mask_same s.access.mask)) (h.masked e);
}

result_from : (s f : Stamped) (result : HitResult) → ResultAgrees (plain_access s) (plain_access f) result → ResultAgrees s f result
result_from s f result h = record {
  encoding = h.encoding;
  same_mask = λ e. sym (mask_same s.access.mask) ∙ h.same_mask e;
  same_kind = λ e. subst (λ b. ¬ IsTrue b) (assertion_same s.access.kind) (h.same_kind e);
  same_size = h.same_size;
  masked = λ e. subst IsSome (mask_same s.access.mask) (h.masked e);
}

hit_to : (slots : ℕ) (layout : Layout) (watch : Watch) (index : ℕ) (s f : Stamped) (result : HitResult)
    → MayHit slots layout watch index s f result → MayHit slots layout watch index (plain_access s) (plain_access f) result
hit_to slots layout watch index s f result h = record {
  tasks = h.tasks;
  heard = h.heard;
  unmasked = mask_same f.access.mask ∙ h.unmasked;
  index_of_finder = h.index_of_finder;
  breaks = subst (λ b. IsTrue (watch.write || b)) (sym (write_same f.access.kind)) h.breaks;
  meets = h.meets;
  at_once = record { setter_first = h.at_once.setter_first; finder_first = h.at_once.finder_first };
  result_agrees = result_to s f result h.result_agrees;
}

hit_from : (slots : ℕ) (layout : Layout) (watch : Watch) (index : ℕ) (s f : Stamped) (result : HitResult)
    → MayHit slots layout watch index (plain_access s) (plain_access f) result → MayHit slots layout watch index s f result
hit_from slots layout watch index s f result h = record {
  tasks = h.tasks;
  heard = h.heard;
  unmasked = sym (mask_same f.access.mask) ∙ h.unmasked;
  index_of_finder = h.index_of_finder;
  breaks = subst (λ b. IsTrue (watch.write || b)) (write_same f.access.kind) h.breaks;
  meets = h.meets;
  at_once = record { setter_first = h.at_once.setter_first; finder_first = h.at_once.finder_first };
  result_agrees = result_from s f result h.result_agrees;
}

word_same : (layout : Layout) (s : Stamped) → word_of layout (plain_access s).access ≡ word_of layout s.access
unfolding word_of
word_same layout s = rw (write_same s.access.kind)

watch_to : (slots : ℕ) (layout : Layout) (s : Stamped) (number index word : ℕ)
    → MayWatch slots layout s number index word → MayWatch slots layout (plain_access s) number index word
watch_to slots layout s number index word h = record {
  unmarked = h.unmarked;
  heard = h.heard;
  word_is = record {
    encodable = record {
      address = h.word_is.encodable.address;
      has_bytes = h.word_is.encodable.has_bytes;
      size = h.word_is.encodable.size;
    };
    is = h.word_is.is ∙ sym (word_same layout s);
  };
  index_of_setter = h.index_of_setter;
  once = rw (assertion_same s.access.kind) h.once;
}

watch_from : (slots : ℕ) (layout : Layout) (s : Stamped) (number index word : ℕ)
    → MayWatch slots layout (plain_access s) number index word → MayWatch slots layout s number index word
watch_from slots layout s number index word h = record {
  unmarked = h.unmarked;
  heard = h.heard;
  word_is = record {
    encodable = record {
      address = h.word_is.encodable.address;
      has_bytes = h.word_is.encodable.has_bytes;
      size = h.word_is.encodable.size;
    };
    is = h.word_is.is ∙ word_same layout s;
  };
  index_of_setter = h.index_of_setter;
  once = rw (← assertion_same s.access.kind) h.once;
}

-- ---- what plain lines tell of

pub accesses_plain : (all : List Line) → accesses_of (map plain_line all) ≡ map plain_access (accesses_of all)
accesses_plain [] = refl
accesses_plain (lines.Access s ∷ all) = ap (λ xs. plain_access s ∷ xs) (accesses_plain all)
accesses_plain (lines.Arm a ∷ all) = accesses_plain all
accesses_plain (lines.Take t ∷ all) = accesses_plain all
accesses_plain (lines.Report r ∷ all) = accesses_plain all

arms_plain : (all : List Line) → arms_of (map plain_line all) ≡ arms_of all
arms_plain [] = refl
arms_plain (lines.Access s ∷ all) = arms_plain all
arms_plain (lines.Arm a ∷ all) = ap (λ xs. a ∷ xs) (arms_plain all)
arms_plain (lines.Take t ∷ all) = arms_plain all
arms_plain (lines.Report r ∷ all) = arms_plain all

takes_plain : (all : List Line) → takes_of (map plain_line all) ≡ takes_of all
takes_plain [] = refl
takes_plain (lines.Access s ∷ all) = takes_plain all
takes_plain (lines.Arm a ∷ all) = takes_plain all
takes_plain (lines.Take t ∷ all) = ap (λ xs. t ∷ xs) (takes_plain all)
takes_plain (lines.Report r ∷ all) = takes_plain all

races_plain : (all : List Line) → flat_map race_in (reports_of (map plain_line all)) ≡ flat_map race_in (reports_of all)
races_plain [] = refl
races_plain (lines.Access s ∷ all) = races_plain all
races_plain (lines.Arm a ∷ all) = races_plain all
races_plain (lines.Take t ∷ all) = races_plain all
races_plain (lines.Report (Two setter finder seen) ∷ all) = ap (λ ps. (setter, finder) ∷ ps) (races_plain all)
races_plain (lines.Report (Unknown setter old new) ∷ all) = races_plain all

origins_plain : (all : List Line) → flat_map unknown_in (reports_of (map plain_line all)) ≡ flat_map unknown_in (reports_of all)
origins_plain [] = refl
origins_plain (lines.Access s ∷ all) = origins_plain all
origins_plain (lines.Arm a ∷ all) = origins_plain all
origins_plain (lines.Take t ∷ all) = origins_plain all
origins_plain (lines.Report (Two setter finder seen) ∷ all) = origins_plain all
origins_plain (lines.Report (Unknown setter old new) ∷ all) = ap (λ ns. setter ∷ ns) (origins_plain all)

place_plain : (line : Line) → kind_place (plain_line line) ≡ kind_place line
place_plain (lines.Access s) = refl
place_plain (lines.Arm a) = refl
place_plain (lines.Take t) = refl
place_plain (lines.Report r) = refl

-- ---- names

names_to : (before : List Line) (ticket : ℕ) (s : Stamped) → Names before ticket s → Names (map plain_line before) ticket (plain_access s)
names_to before ticket s h = record {
  stands = subst (λ xs. Contains xs (plain_access s)) (sym (accesses_plain before)) (contains_to plain_access (accesses_of before) s h.stands);
  ticket_is = h.ticket_is;
}

names_from : (before : List Line) (ticket : ℕ) (t : Stamped) → Names (map plain_line before) ticket t
    → (s : Stamped) × Names before ticket s × (t ≡ plain_access s)
names_from before ticket t h =
    let found = contains_from plain_access (accesses_of before) t (subst (λ xs. Contains xs t) (accesses_plain before) h.stands) in
    let of : t ≡ plain_access found.0 = found.2 in
    let is = h.ticket_is in
    (found.0, record { stands = found.1; ticket_is = subst (λ (u : Stamped). ticket_number u.access ≡ ticket) of is }, of)

one_to : (before : List Line) (ticket : ℕ) → NamesOne before ticket → NamesOne (map plain_line before) ticket
one_to before ticket h = (plain_access h.0, names_to before ticket h.0 h.1)

one_from : (before : List Line) (ticket : ℕ) → NamesOne (map plain_line before) ticket → NamesOne before ticket
one_from before ticket h = let found = names_from before ticket h.0 h.1 in (found.0, found.1)

-- ---- what may stand

access_to : (before : List Line) (s : Stamped) → AccessStands before s → AccessStands (map plain_line before) (plain_access s)
access_to before s h = record {
  limits = record { task = h.limits.task; site = h.limits.site; rep = h.limits.rep; range = h.limits.range };
  has_bytes = h.has_bytes;
  mask = subst (λ m. m < 2 ^ 64) (sym (bits_same s.access.mask)) h.mask;
  letters = record {
    marked = λ m. h.letters.marked (sym (marked_same s.access.kind) ∙ m);
    assertion = λ a. h.letters.assertion (sym (assertion_same s.access.kind) ∙ a);
  };
  ends_later = h.ends_later;
  end_limit = h.end_limit;
  new_stamps = subst (All (HaveOtherStamps (plain_access s))) (sym (accesses_plain before))
      (All-map (HaveOtherStamps (plain_access s)) plain_access (accesses_of before)
      (All-weaker (HaveOtherStamps s) (λ t. HaveOtherStamps (plain_access s) (plain_access t))
      (λ t o. record { begins = o.begins; ends = o.ends; begin_end = o.begin_end; end_begin = o.end_begin })
      (accesses_of before) h.new_stamps));
  new_name = subst (All (λ t. ticket_number t.access ≢ ticket_number s.access)) (sym (accesses_plain before))
      (All-map (λ t. ticket_number t.access ≢ ticket_number s.access) plain_access (accesses_of before) h.new_name);
}

access_from : (before : List Line) (s : Stamped) → AccessStands (map plain_line before) (plain_access s) → AccessStands before s
access_from before s h = record {
  limits = record { task = h.limits.task; site = h.limits.site; rep = h.limits.rep; range = h.limits.range };
  has_bytes = h.has_bytes;
  mask = subst (λ m. m < 2 ^ 64) (bits_same s.access.mask) h.mask;
  letters = record {
    marked = λ m. h.letters.marked (marked_same s.access.kind ∙ m);
    assertion = λ a. h.letters.assertion (assertion_same s.access.kind ∙ a);
  };
  ends_later = h.ends_later;
  end_limit = h.end_limit;
  new_stamps = All-weaker (λ t. HaveOtherStamps (plain_access s) (plain_access t)) (HaveOtherStamps s)
      (λ t o. record { begins = o.begins; ends = o.ends; begin_end = o.begin_end; end_begin = o.end_begin })
      (accesses_of before)
      (all_from (HaveOtherStamps (plain_access s)) plain_access (accesses_of before)
      (subst (All (HaveOtherStamps (plain_access s))) (accesses_plain before) h.new_stamps));
  new_name = all_from (λ t. ticket_number t.access ≢ ticket_number s.access) plain_access (accesses_of before)
      (subst (All (λ t. ticket_number t.access ≢ ticket_number s.access)) (accesses_plain before) h.new_name);
}

finder_to : (before : List Line) (outcome : ArmOutcome) → FinderStands before outcome → FinderStands (map plain_line before) outcome
finder_to before Quiet h = h
finder_to before Origin h = h
finder_to before (Hit finder result) h = one_to before finder h

finder_from : (before : List Line) (outcome : ArmOutcome) → FinderStands (map plain_line before) outcome → FinderStands before outcome
finder_from before Quiet h = h
finder_from before Origin h = h
finder_from before (Hit finder result) h = one_from before finder h

arm_to : (slots : ℕ) (before : List Line) (a : Arm) → ArmStands slots before a → ArmStands slots (map plain_line before) a
arm_to slots before a h = record {
  setter = one_to before a.setter h.setter;
  number = h.number ∙ ap (count_by (λ b. b.setter == a.setter)) (sym (arms_plain before));
  index = h.index;
  watch_word = h.watch_word;
  finder = finder_to before a.outcome h.finder;
}

arm_from : (slots : ℕ) (before : List Line) (a : Arm) → ArmStands slots (map plain_line before) a → ArmStands slots before a
arm_from slots before a h = record {
  setter = one_from before a.setter h.setter;
  number = h.number ∙ ap (count_by (λ b. b.setter == a.setter)) (arms_plain before);
  index = h.index;
  watch_word = h.watch_word;
  finder = finder_from before a.outcome h.finder;
}

content_to : (head : Head) (before : List Line) (line : Line) → ContentStands head before line → ContentStands head (map plain_line before) (plain_line line)
content_to head before (lines.Access s) h = access_to before s h
content_to first before (lines.Arm a) h = h
content_to (second slots layout) before (lines.Arm a) h = arm_to slots before a h
content_to first before (lines.Take t) h = h
content_to (second slots layout) before (lines.Take t) h =
    record { finder = one_to before t.finder h.finder; index = h.index; setter = one_to before t.setter h.setter }
content_to head before (lines.Report (Two setter finder seen)) h = (one_to before setter h.0, one_to before finder h.1)
content_to head before (lines.Report (Unknown setter old new)) h = (one_to before setter h.0, h.1, h.2)

content_from : (head : Head) (before : List Line) (line : Line) → ContentStands head (map plain_line before) (plain_line line) → ContentStands head before line
content_from head before (lines.Access s) h = access_from before s h
content_from first before (lines.Arm a) h = h
content_from (second slots layout) before (lines.Arm a) h = arm_from slots before a h
content_from first before (lines.Take t) h = h
content_from (second slots layout) before (lines.Take t) h =
    record { finder = one_from before t.finder h.finder; index = h.index; setter = one_from before t.setter h.setter }
content_from head before (lines.Report (Two setter finder seen)) h = (one_from before setter h.0, one_from before finder h.1)
content_from head before (lines.Report (Unknown setter old new)) h = (one_from before setter h.0, h.1, h.2)

pub stands_to : (head : Head) (before : List Line) (line : Line) → Stands head before line → Stands head (map plain_line before) (plain_line line)
stands_to head before line h = record {
  in_order = All-map (λ earlier. kind_place earlier ≤ kind_place (plain_line line)) plain_line before
      (All-weaker (λ earlier. kind_place earlier ≤ kind_place line) (λ earlier. kind_place (plain_line earlier) ≤ kind_place (plain_line line))
      (λ earlier o. rw (place_plain earlier, place_plain line) o) before h.in_order);
  content = content_to head before line h.content;
}

pub stands_from : (head : Head) (before : List Line) (line : Line) → Stands head (map plain_line before) (plain_line line) → Stands head before line
stands_from head before line h = record {
  in_order = All-weaker (λ earlier. kind_place (plain_line earlier) ≤ kind_place (plain_line line)) (λ earlier. kind_place earlier ≤ kind_place line)
      (λ earlier o. rw (← place_plain earlier, ← place_plain line) o) before
      (all_from (λ earlier. kind_place earlier ≤ kind_place (plain_line line)) plain_line before h.in_order);
  content = content_from head before line h.content;
}

-- ---- what is true

outcome_to : (slots : ℕ) (layout : Layout) (before : List Line) (s : Stamped) (a : Arm) (outcome : ArmOutcome)
    → OutcomeIsTrue slots layout before s a outcome → OutcomeIsTrue slots layout (map plain_line before) (plain_access s) a outcome
outcome_to slots layout before s a Quiet h = h
outcome_to slots layout before s a Origin h = h
outcome_to slots layout before s a (Hit finder result) h =
    (plain_access h.0, names_to before finder h.0 h.1, hit_to slots layout _ a.index s h.0 result h.2)

outcome_from : (slots : ℕ) (layout : Layout) (before : List Line) (s : Stamped) (a : Arm) (outcome : ArmOutcome)
    → OutcomeIsTrue slots layout (map plain_line before) (plain_access s) a outcome → OutcomeIsTrue slots layout before s a outcome
outcome_from slots layout before s a Quiet h = h
outcome_from slots layout before s a Origin h = h
outcome_from slots layout before s a (Hit finder result) h =
    let found = names_from before finder h.0 h.1 in (
      found.0,
      found.1,
      hit_from slots layout _ a.index s found.0 result
          (subst (λ f. MayHit slots layout _ a.index (plain_access s) f result) found.2 h.2),
    )

pub true_to : (head : Head) (before : List Line) (line : Line) → IsTrueLine head before line → IsTrueLine head (map plain_line before) (plain_line line)
true_to head before (lines.Access s) h = h
true_to first before (lines.Arm a) h = h
true_to (second slots layout) before (lines.Arm a) h = (
  plain_access h.0,
  names_to before a.setter h.0 h.1,
  watch_to slots layout h.0 a.number a.index a.watch_word h.2,
  outcome_to slots layout before h.0 a a.outcome h.3,
)
true_to head before (lines.Take t) h = h
true_to head before (lines.Report (Two setter finder seen)) h = (
  plain_access h.0,
  plain_access h.1,
  names_to before setter h.0 h.2,
  names_to before finder h.1 h.3,
  race_to h.0 h.1 h.4,
)
true_to head before (lines.Report (Unknown setter old new)) h = (plain_access h.0, names_to before setter h.0 h.1, see_to h.0 old new h.2)

pub true_from : (head : Head) (before : List Line) (line : Line) → IsTrueLine head (map plain_line before) (plain_line line) → IsTrueLine head before line
true_from head before (lines.Access s) h = h
true_from first before (lines.Arm a) h = h
true_from (second slots layout) before (lines.Arm a) h =
    let found = names_from before a.setter h.0 h.1 in (
      found.0,
      found.1,
      watch_from slots layout found.0 a.number a.index a.watch_word (subst (λ s. MayWatch slots layout s a.number a.index a.watch_word) found.2 h.2),
      outcome_from slots layout before found.0 a a.outcome
          (subst (λ s. OutcomeIsTrue slots layout (map plain_line before) s a a.outcome) found.2 h.3),
    )
true_from head before (lines.Take t) h = h
true_from head before (lines.Report (Two setter finder seen)) h =
    let s = names_from before setter h.0 h.2 in
    let f = names_from before finder h.1 h.3 in (
      s.0,
      f.0,
      s.1,
      f.1,
      race_from s.0 f.0 (subst (λ t. RaceByStamps t (plain_access f.0)) s.2 (subst (RaceByStamps h.0) f.2 h.4)),
    )
true_from head before (lines.Report (Unknown setter old new)) h =
    let s = names_from before setter h.0 h.1 in
    (s.0, s.1, see_from s.0 old new (subst (λ t. MaySee t old new) s.2 h.2))

pub end_to : (head : Head) (all : List Line) → IsTrueEnd head all → IsTrueEnd head (map plain_line all)
end_to first all h = h
end_to (second slots layout) all h = record {
  takings = rw (arms_plain all, takes_plain all) h.takings;
  races = rw (arms_plain all, races_plain all) h.races;
  origins = rw (arms_plain all, origins_plain all) h.origins;
}

pub end_from : (head : Head) (all : List Line) → IsTrueEnd head (map plain_line all) → IsTrueEnd head all
end_from first all h = h
end_from (second slots layout) all h = record {
  takings = rw (arms_plain all, takes_plain all) at h.takings;
  races = rw (arms_plain all, races_plain all) at h.races;
  origins = rw (arms_plain all, origins_plain all) at h.origins;
}

pub all_to : (head : Head) (before all : List Line) → AreTrue head before all → AreTrue head (map plain_line before) (map plain_line all)
all_to head before [] h = h
all_to head before (line ∷ all) h = (
  stands_to head before line h.0,
  true_to head before line h.1,
  subst (λ ls. AreTrue head ls (map plain_line all)) (map-append plain_line before (line ∷ [])) (all_to head (before ++ line ∷ []) all h.2),
)

pub all_from_plain : (head : Head) (before all : List Line) → AreTrue head (map plain_line before) (map plain_line all) → AreTrue head before all
all_from_plain head before [] h = h
all_from_plain head before (line ∷ all) h = (
  stands_from head before line h.0,
  true_from head before line h.1,
  all_from_plain head (before ++ line ∷ []) all
      (subst (λ ls. AreTrue head ls (map plain_line all)) (sym (map-append plain_line before (line ∷ []))) h.2),
)
