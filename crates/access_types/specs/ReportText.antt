-- The text of a report: of two accesses that raced, or of a change whose origin is unknown.
use Rattle.std.specs.Prelude.{◌-◌, ◌*◌, ◌^◌, ◌==◌, ◌||◌, ◌++◌, ℕ, List, [], ◌∷◌, Bool, false}
use Rattle.std.specs.Prelude.{Option, Some, None, codes, max, min, replicate, if◌then◌else◌}
use Rattle.std.specs.Fmt.{decimal, digits, format_spec, padded_integral}
use Rattle.access_types.specs.Access.{Access}
use Rattle.access_types.specs.Kind.{access_words, is_assertion}
use Rattle.access_types.specs.declared.report.ValueChange.{ValueChange}

-- a line of text
abbrev pub line : List ℕ → List ℕ
line text = text ++ 10 ∷ []

-- n in lower-case hexadecimal, in at least so many digits
unfoldable pub hex : ℕ → ℕ → List ℕ
hex width n = padded_integral (format_spec 32 0 4 width (2 ^ 64 - 1)) false [] (digits 16 false n)

-- the line round a report: 66 times =
unfoldable pub rule : List ℕ
rule = line (replicate 66 61)

-- a race with an assertion has a name of its own
abbrev pub race_name : Bool → List ℕ
race_name asserted = if asserted then codes "assert: race" else codes "data-race"

-- what an access does to which bytes, and whose it is
unfoldable pub access_line : List ℕ → ℕ → ℕ → ℕ → List ℕ
access_line does addr size task =
    line (does ++ codes " to 0x" ++ hex 16 addr ++ codes " of " ++ decimal size
    ++ codes " bytes by task " ++ decimal task ++ codes ":")

-- what is said of a repetition above 0
abbrev pub repeat_words : ℕ → List ℕ
repeat_words rep = if rep == 0 then [] else codes " repeat " ++ decimal rep

-- where an access stands
unfoldable pub site_line : ℕ → ℕ → ℕ → List ℕ
site_line task site rep =
    line (codes " P" ++ decimal task ++ codes " site " ++ decimal site ++ repeat_words rep)

-- what a report says of an access
unfoldable pub paragraph : Access → List ℕ
paragraph a =
    access_line (access_words a.kind) a.addr a.size a.task ++ site_line a.task a.site a.rep

-- a change of the bytes of an access: two digits for each byte, of which it has 8 at most where
-- values are loaded
unfoldable pub change_line : ℕ → ValueChange → List ℕ
change_line size change =
    line (codes "value changed: 0x" ++ hex (2 * min size 8) change.old
    ++ codes " -> 0x" ++ hex (2 * min size 8) change.new)

-- the change, after an empty line, where one was seen
unfoldable pub seen_lines : ℕ → Option ValueChange → List ℕ
seen_lines size None = []
seen_lines size (Some change) = line [] ++ change_line size change

-- the title of the report of two accesses, the smaller task first
unfoldable pub two_sided_title : Access → Access → List ℕ
two_sided_title setter finder =
    line (codes "BUG: KCSAN: " ++ race_name (is_assertion setter.kind || is_assertion finder.kind)
    ++ codes " in P" ++ decimal (min setter.task finder.task)
    ++ codes " / P" ++ decimal (max setter.task finder.task))

-- the report of two accesses
unfoldable pub two_sided_text : Access → Access → Option ValueChange → List ℕ
two_sided_text setter finder seen =
    rule ++ two_sided_title setter finder
    ++ line [] ++ paragraph finder
    ++ line [] ++ paragraph setter
    ++ seen_lines setter.size seen ++ rule

-- the title of the report of a change whose origin is unknown
unfoldable pub unknown_title : Access → List ℕ
unknown_title setter =
    line (codes "BUG: KCSAN: " ++ race_name (is_assertion setter.kind)
    ++ codes " in P" ++ decimal setter.task)

-- the report of a change whose origin is unknown
unfoldable pub unknown_text : Access → ValueChange → List ℕ
unknown_text setter change =
    rule ++ unknown_title setter
    ++ line [] ++ codes "race at unknown origin, with " ++ paragraph setter
    ++ seen_lines setter.size (Some change) ++ rule
