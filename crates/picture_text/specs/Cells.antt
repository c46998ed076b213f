-- What stands in a column of a line.
use Rattle.std.specs.Prelude.{◌==◌, ◌&&◌, ℕ, List, codes, encode_utf8_all, if◌then◌else◌, nat_le, nat_lt}
use Rattle.picture_text.specs.declared.cells.Cell.{Cell}
use Rattle.picture_text.specs.declared.cells.Cell.TheVariants.{Empty, One, More, Begin, BeginBeside, End, EndBeside, RaceFrom, RacePast, RaceAcross, RaceTo}
use Rattle.picture_text.specs.declared.cells.Shape.{Shape}
use Rattle.picture_text.specs.declared.cells.Shape.TheVariants.{Bars, Begins, Ends, Race}
use Rattle.picture_text.specs.declared.cells.Style.{Style}
use Rattle.picture_text.specs.declared.cells.Style.TheVariants.{Lines, Ascii}

-- of so many accesses in progress: their bar, the begin of one, the end of one more, and a race that goes past
abbrev pub bar_of : ℕ → Cell
bar_of running = if running == 0 then Empty else if running == 1 then One else More

abbrev pub begin_of : ℕ → Cell
begin_of running = if nat_le running 1 then Begin else BeginBeside

abbrev pub end_of : ℕ → Cell
end_of running = if running == 0 then End else EndBeside

abbrev pub past_of : ℕ → Cell
past_of running = if running == 0 then RacePast else RaceAcross

-- what stands in the column of a task of which so many accesses are in progress
abbrev pub cell_of : Shape → (task running : ℕ) → Cell
cell_of Bars task running = bar_of running
cell_of (Begins own) task running = if own == task then begin_of running else bar_of running
cell_of (Ends own) task running = if own == task then end_of running else bar_of running
cell_of (Race from to) task running =
    if task == from then RaceFrom else if task == to then RaceTo else if nat_lt from task && nat_lt task to then past_of running else bar_of running

-- what a cell looks like
abbrev pub lines_text : Cell → List ℕ
lines_text Empty = codes "       "
lines_text One = encode_utf8_all (codes "│      ")
lines_text More = encode_utf8_all (codes "││     ")
lines_text Begin = encode_utf8_all (codes "┬      ")
lines_text BeginBeside = encode_utf8_all (codes "│┬     ")
lines_text End = encode_utf8_all (codes "┴      ")
lines_text EndBeside = encode_utf8_all (codes "│┴     ")
lines_text RaceFrom = encode_utf8_all (codes "╞═RACE═")
lines_text RacePast = encode_utf8_all (codes "═══════")
lines_text RaceAcross = encode_utf8_all (codes "╪══════")
lines_text RaceTo = encode_utf8_all (codes "╡      ")

abbrev pub ascii_text : Cell → List ℕ
ascii_text Empty = codes "       "
ascii_text One = codes "|      "
ascii_text More = codes "||     "
ascii_text Begin = codes "+      "
ascii_text BeginBeside = codes "|+     "
ascii_text End = codes "-      "
ascii_text EndBeside = codes "|-     "
ascii_text RaceFrom = codes "+=RACE="
ascii_text RacePast = codes "======="
ascii_text RaceAcross = codes "+======"
ascii_text RaceTo = codes "+      "

abbrev pub cell_text : Style → Cell → List ℕ
cell_text Lines cell = lines_text cell
cell_text Ascii cell = ascii_text cell
