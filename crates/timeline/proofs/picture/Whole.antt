-- what is read of a true trace, and what is drawn of it
use Rattle.std.proofs.Common.{◌≡◌, ◌∙◌, ◌<◌, ◌≤◌, ℕ, List, arith, length, map, slice_index_or, subst, sym}
use Rattle.std.specs.List.Sorted.{IsNonDecreasingBy}
use Rattle.report_text.specs.Faults.{IsTrueTrace}
use Rattle.report_text.specs.TraceText.{Head}
use Rattle.report_text.specs.declared.line.Line.{Line}
use Rattle.trace_replay.specs.trace_lines.HeadReading.{IsHeadAt, head_of}
use Rattle.trace_replay.specs.trace_lines.Plain.{plain_line}
use Rattle.trace_replay.specs.Answer.{IsAccepted}
use Rattle.trace_replay.specs.declared.accepted.Accepted.{Accepted}
use Rattle.timeline.specs.picture.Columns.{IsColumnOf, tasks}
use Rattle.timeline.specs.picture.Drawn.{IsPictureOf, IsTooLong, Shows, access_limit}
use Rattle.timeline.specs.picture.Ordered.{IsOrdered}
use Rattle.timeline.specs.picture.Parts.{ArePartsOf, AreSpelled}
use Rattle.timeline.specs.picture.Rows.{place, rank}
use Rattle.timeline.specs.picture.Running.{IsInOrder}
use Rattle.timeline.specs.picture.Sound.{IsSound}
use Rattle.timeline.specs.declared.picture.draw.Picture.{Picture}
use Rattle.timeline.specs.declared.picture.parts.Parts.{Parts}
use Rattle.timeline.specs.declared.picture.rows.Mark.{Mark}
use Rattle.timeline.specs.declared.picture.rows.Mark.TheVariants.{Begin, End, Origin, Race}
use Rattle.timeline.specs.declared.picture.rows.Row.{Row}
use Rattle.timeline.proofs.picture.Reading.{head_read, spelled_behind, true_plain}
use Rattle.timeline.proofs.picture.Soundness.{sound}
use Rattle.timeline.proofs.picture.Zips.{zip_all}

-- the parts are those of a true trace
pub record AreTrueParts (bytes : List ℕ) (read : Head) (parts : Parts) : Type 0 where
  pub head : Head
  pub head_is : read ≡ head
  pub all : List Line
  pub is_true : IsTrueTrace bytes head all
  pub parts_are : ArePartsOf all parts

pub read_truly : (bytes : List ℕ) (counts : Accepted) (other : Head) (rest : List ℕ) (parts : Parts) → IsAccepted bytes counts
    → IsHeadAt bytes other rest → ((all : List Line) → AreSpelled all rest → ArePartsOf all parts) → AreTrueParts bytes other parts
read_truly bytes counts other rest parts accepted at read = record {
  head = accepted.head;
  head_is = head_read bytes accepted.head other accepted.all rest accepted.is_true at;
  all = map plain_line accepted.all;
  is_true = true_plain bytes accepted.head accepted.all accepted.is_true;
  parts_are = read (map plain_line accepted.all) (spelled_behind bytes accepted.head other accepted.all rest accepted.is_true at);
}

pub parts_sound : (bytes : List ℕ) (read : Head) (parts : Parts) → AreTrueParts bytes read parts
    → IsSound parts.accesses.items parts.arms.items parts.takes.items parts.reports.items
parts_sound bytes read parts h =
    let are = h.parts_are in
    rw (are.accesses, are.arms, are.takes, are.reports) (sound h.head h.all h.is_true.begins.lines_true)

pub too_long : (bytes : List ℕ) (read : Head) (parts : Parts) → AreTrueParts bytes read parts → access_limit < length parts.accesses.items → IsTooLong bytes
too_long bytes read parts h beyond = record {
  head = h.head;
  all = h.all;
  is_true = h.is_true;
  beyond = subst (λ xs. access_limit < length xs) h.parts_are.accesses beyond;
}

pub pictured : (bytes : List ℕ) (read : Head) (parts : Parts) (picture : Picture) → AreTrueParts bytes read parts
    → length parts.accesses.items ≤ access_limit → head_of picture.head ≡ read
    → Shows parts.accesses.items parts.arms.items parts.takes.items parts.reports.items picture → IsPictureOf bytes picture
pictured bytes read parts picture h within told shown =
    let are = h.parts_are in
    record {
      head = h.head;
      head_is = told ∙ h.head_is;
      all = h.all;
      is_true = h.is_true;
      within = subst (λ xs. length xs ≤ access_limit) are.accesses within;
      shown = rw (sym are.accesses, sym are.arms, sym are.takes, sym are.reports) shown;
    }

rank_small : (mark : Mark) → rank mark ≤ 1
rank_small (Begin s) = omega arith
rank_small (End s) = omega arith
rank_small (Race s f) = omega arith
rank_small (Origin s old new) = omega arith

-- rows that rise by their places rise by their stamps
stamps_rise : (rows : List Row) → IsNonDecreasingBy place rows → IsNonDecreasingBy (λ (row : Row). row.stamp) rows
stamps_rise rows rising i j d before within =
    let there = rising i j d before within in
    let small = rank_small (slice_index_or rows j d).mark in
    omega (arith, there, small)

pub ordered : (parts : Parts) (picture : Picture)
    → Shows parts.accesses.items parts.arms.items parts.takes.items parts.reports.items picture → IsOrdered picture
ordered parts picture shown = record {
  rows_rise = stamps_rise picture.rows.items shown.rows.rising;
  columns_rise = zip_all (IsColumnOf parts.accesses.items) IsInOrder (λ task column is. is.in_order) tasks picture.columns.items shown.columns;
}
