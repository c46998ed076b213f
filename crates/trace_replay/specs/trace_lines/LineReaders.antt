-- Reading a line of a trace, as functions of bytes.
use Rattle.std.specs.Prelude.{◌+◌, ◌^◌, ◌==◌, ◌||◌, ℕ, List, Option, Some, None, codes, if◌then◌else◌, nat_lt}
use Rattle.access_types.specs.Access.{proper_mask}
use Rattle.access_types.specs.declared.report.Report.TheVariants.{Two, Unknown}
use Rattle.report_text.specs.declared.line.Line.{Line}
use Rattle.report_text.specs.declared.line.Line.TheVariants as lines
use Rattle.trace_replay.specs.declared.trace_lines.fields.AccessLetters.{AccessLetters}
use Rattle.trace_replay.specs.declared.trace_lines.fields.AccessName.{AccessName}
use Rattle.trace_replay.specs.trace_lines.FieldReaders.{◌>>=◌, behind, past, decimal_at, hex_at, letters_at, name_at, next, outcome_at, ticket_at}
use Rattle.trace_replay.specs.trace_lines.Reading.{Read}

-- the access of these fields, where there is one
unfoldable pub access_of : AccessName → AccessLetters → ℕ → ℕ → ℕ → ℕ → ℕ → Option Line
access_of name letters addr size mask begin end =
    if (size == 0) || nat_lt (2 ^ 63) (addr + size) then None
    else Some (lines.Access (record {
      access = record {
        task = name.task;
        site = name.site;
        rep = name.rep;
        addr = addr;
        size = size;
        kind = letters.kind;
        mask = proper_mask (Some mask);
      };
      begin = begin;
      end = end;
      marked = letters.marked;
      silenced = letters.silenced;
    }))

-- the rest of the line of an access
unfoldable pub access_at : List ℕ → Read Line
access_at bytes = name_at bytes >>= λ name. past (codes " ") name.1 >>= λ b1. letters_at b1 >>= λ letters.
    let addr = next hex_at (Some letters.1) in
    let size = next decimal_at addr.1 in
    let mask = next hex_at size.1 in
    let begin = next decimal_at mask.1 in
    let end = next decimal_at begin.1 in
    end.1 >>= past (codes "\n") >>= λ rest.
    access_of name.0 letters.0 addr.0 size.0 mask.0 begin.0 end.0 >>= λ line. Some (line, rest)

-- the rest of the line of an arming
unfoldable pub arm_at : List ℕ → Read Line
arm_at bytes = ticket_at bytes >>= λ setter.
    let number = next decimal_at (Some setter.1) in
    let index = next decimal_at number.1 in
    let word = next hex_at index.1 in
    word.1 >>= past (codes " ") >>= λ b4. outcome_at b4 >>= λ outcome. past (codes "\n") outcome.1 >>= λ rest.
    Some (
      lines.Arm (record {
        setter = setter.0;
        number = number.0;
        index = index.0;
        watch_word = word.0;
        outcome = outcome.0;
      }),
      rest,
    )

-- the rest of the line of a taking
unfoldable pub take_at : List ℕ → Read Line
take_at bytes = ticket_at bytes >>= λ finder.
    let index = next decimal_at (Some finder.1) in
    let setter = next ticket_at index.1 in
    setter.1 >>= past (codes "\n") >>= λ rest.
    Some (lines.Take (record { finder = finder.0; index = index.0; setter = setter.0 }), rest)

-- the rest of the line of a race
unfoldable pub race_at : List ℕ → Read Line
race_at bytes = ticket_at bytes >>= λ setter.
    let finder = next ticket_at (Some setter.1) in
    finder.1 >>= past (codes "\n") >>= λ rest. Some (lines.Report (Two setter.0 finder.0 None), rest)

-- the rest of the line of a change of unknown origin
unfoldable pub origin_at : List ℕ → Read Line
origin_at bytes = ticket_at bytes >>= λ setter.
    let old = next hex_at (Some setter.1) in
    let new = next hex_at old.1 in
    new.1 >>= past (codes "\n") >>= λ rest.
    Some (lines.Report (Unknown setter.0 old.0 new.0), rest)

-- a line
unfoldable pub line_at : List ℕ → Read Line
line_at bytes =
    behind (past (codes "access ") bytes) access_at
    (behind (past (codes "arm ") bytes) arm_at
    (behind (past (codes "take ") bytes) take_at
    (behind (past (codes "race ") bytes) race_at
    (past (codes "origin ") bytes >>= origin_at))))
