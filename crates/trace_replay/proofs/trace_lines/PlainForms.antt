-- The plain form of a line may stand where the line may.
use Rattle.std.proofs.Common.{◌≡◌, ◌<◌, ◌^◌, ◌==◌, ℕ, List, false, Option, Some, None, arith, refl, subst, sym, unwrap_or}
use Rattle.std.proofs.lemmas.List.Sums.{count_by-le-length}
use Rattle.access_types.specs.Access.{IsInLimits, proper_mask}
use Rattle.access_types.specs.Arms.{Arm}
use Rattle.access_types.specs.Kind.{is_assertion, is_marked, is_scoped}
use Rattle.access_types.specs.Stamped.{Stamped}
use Rattle.access_types.specs.Takes.{Take}
use Rattle.access_types.specs.declared.arms.ArmOutcome.{ArmOutcome}
use Rattle.access_types.specs.declared.arms.ArmOutcome.TheVariants.{Quiet, Origin, Hit}
use Rattle.access_types.specs.declared.kind.Kind.{Kind}
use Rattle.access_types.specs.declared.kind.Kind.TheVariants.{Plain, Marked, Assert, AssertScoped}
use Rattle.access_types.specs.declared.report.Report.TheVariants.{Two, Unknown}
use Rattle.report_text.specs.Faults.{HeadStands}
use Rattle.report_text.specs.Line.{kind_letters, spell_access}
use Rattle.report_text.specs.Standing.{FinderStands, LettersAgree, NamesOne, Stands, arms_of}
use Rattle.report_text.specs.TraceText.{Head, first, second}
use Rattle.report_text.specs.declared.line.Line.{Line}
use Rattle.report_text.specs.declared.line.Line.TheVariants as lines
use Rattle.trace_replay.specs.trace_lines.Plain.{IsPlainForm, KeepLimits, plain_access, plain_line, without_scope}
use Rattle.trace_replay.specs.trace_lines.Reading.{FinderIsPlain, IsTicket}
use Rattle.trace_replay.proofs.trace_lines.LineTexts.{mask_kept}

letters_same : (kind : Kind) → (kind_letters (without_scope kind) ≡ kind_letters kind) × (is_scoped (without_scope kind) ≡ false)
letters_same (Plain operation) = (refl, refl)
letters_same (Marked operation) = (refl, refl)
letters_same (Assert claim) = (refl, refl)
letters_same (AssertScoped claim) = (refl, refl)

flags_same : (kind : Kind) → (is_marked kind ≡ is_marked (without_scope kind)) × (is_assertion kind ≡ is_assertion (without_scope kind))
flags_same (Plain operation) = (refl, refl)
flags_same (Marked operation) = (refl, refl)
flags_same (Assert claim) = (refl, refl)
flags_same (AssertScoped claim) = (refl, refl)

mask_same : (mask : Option ℕ) → (proper_mask (proper_mask mask) ≡ proper_mask mask) × (unwrap_or (proper_mask mask) 0 ≡ unwrap_or mask 0)
mask_same None = (refl, refl)
mask_same (Some mask) = mask_kept mask

is_ticket : (before : List Line) (ticket : ℕ) → KeepLimits before → NamesOne before ticket → IsTicket ticket
is_ticket before ticket keeps names =
    let limits = keeps.accesses names.0 names.1.stands in
    let is = names.1.ticket_is in
    let t = limits.task in
    let s = limits.site in
    let r = limits.rep in
    record { above_zero = omega arith; limit = omega arith }

pub access_text : (s : Stamped) → spell_access (plain_access s) ≡ spell_access s
unfolding spell_access
access_text s = rw ((letters_same s.access.kind).0, (mask_same s.access.mask).1)

letters_agree : (s : Stamped) → LettersAgree s → LettersAgree (plain_access s)
letters_agree s is =
    let same = flags_same s.access.kind in
    record { marked = rw (← same.0) is.marked; assertion = rw (← same.1) is.assertion }

access_form : (head : Head) (before : List Line) (s : Stamped) → Stands head before (lines.Access s)
    → IsPlainForm head before (lines.Access s) (lines.Access (plain_access s))
access_form head before s h =
    let is = h.content in
    let later = is.ends_later in
    let limit = is.end_limit in
    let mask = mask_same s.access.mask in
    let limits : IsInLimits (plain_access s).access = record { task = is.limits.task; site = is.limits.site; rep = is.limits.rep; range = is.limits.range } in
    record {
      text = access_text s;
      is = record {
        limits = limits;
        has_bytes = is.has_bytes;
        unscoped = (letters_same s.access.kind).1;
        mask = mask.0;
        mask_limit = subst (λ m. m < 2 ^ 64) (sym mask.1) is.mask;
        begin_limit = omega arith;
        end_limit = is.end_limit;
      };
      stands = record {
        in_order = h.in_order;
        content = record {
          limits = limits;
          has_bytes = is.has_bytes;
          mask = subst (λ m. m < 2 ^ 64) (sym mask.1) is.mask;
          letters = letters_agree s is.letters;
          ends_later = is.ends_later;
          end_limit = is.end_limit;
          new_stamps = λ k d inside.
              let other = is.new_stamps k d inside in
              record { begins = other.begins; ends = other.ends; begin_end = other.begin_end; end_begin = other.end_begin };
          new_name = is.new_name;
        };
      };
    }

finder_is : (before : List Line) (outcome : ArmOutcome) → KeepLimits before → FinderStands before outcome → FinderIsPlain outcome
finder_is before Quiet keeps is = tt
finder_is before Origin keeps is = tt
finder_is before (Hit finder result) keeps is = is_ticket before finder keeps is

arm_form : (head : Head) (before : List Line) (a : Arm) → HeadStands head → KeepLimits before → Stands head before (lines.Arm a)
    → IsPlainForm head before (lines.Arm a) (lines.Arm a)
arm_form first before a may keeps h = absurd h.content
arm_form (second slots layout) before a may keeps h =
    let is = h.content in
    let few = keeps.arms in
    let number = is.number in
    let index = is.index in
    let high = may.1 in
    record {
      text = refl;
      is = record {
        setter = is_ticket before a.setter keeps is.setter;
        number = omega (arith, count_by-le-length (λ (b : Arm). b.setter == a.setter) (arms_of before));
        index = omega arith;
        watch_word = is.watch_word;
        finder = finder_is before a.outcome keeps is.finder;
      };
      stands = h;
    }

take_form : (head : Head) (before : List Line) (t : Take) → HeadStands head → KeepLimits before → Stands head before (lines.Take t)
    → IsPlainForm head before (lines.Take t) (lines.Take t)
take_form first before t may keeps h = absurd h.content
take_form (second slots layout) before t may keeps h =
    let is = h.content in
    let index = is.index in
    let high = may.1 in
    record {
      text = refl;
      is = record { finder = is_ticket before t.finder keeps is.finder; index = omega arith; setter = is_ticket before t.setter keeps is.setter };
      stands = h;
    }

-- what may stand has a plain form with the same text that may stand, too
pub form : (head : Head) (before : List Line) (line : Line) → HeadStands head → KeepLimits before
    → Stands head before line → IsPlainForm head before line (plain_line line)
form head before (lines.Access s) may keeps h = access_form head before s h
form head before (lines.Arm a) may keeps h = arm_form head before a may keeps h
form head before (lines.Take t) may keeps h = take_form head before t may keeps h
form head before (lines.Report (Two setter finder seen)) may keeps h = record {
  text = refl;
  is = (is_ticket before setter keeps h.content.0, is_ticket before finder keeps h.content.1, refl);
  stands = record { in_order = h.in_order; content = h.content };
}
form head before (lines.Report (Unknown setter old new)) may keeps h = record {
  text = refl;
  is = (is_ticket before setter keeps h.content.0, h.content.1, h.content.2);
  stands = h;
}
