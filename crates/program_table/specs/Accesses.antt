-- The lines of a row: where its access stands and what it is, and what a check of it goes by.
use Rattle.std.specs.Prelude.{◌<◌, ◌≤◌, ◌/◌, ◌%◌, ◌++◌, ℕ, List, [], ◌∷◌, Bool, Option, None, Some, codes, if◌then◌else◌, true}
use Rattle.std.specs.Fmt.{decimal}
use Rattle.std.specs.List.{concat}
use Rattle.access_types.specs.Access.{Access}
use Rattle.access_types.specs.Kind.{access_words, is_marked}
use Rattle.access_types.specs.Marked as marked
use Rattle.access_types.specs.ReportText.{hex}
use Rattle.slot_table.specs.index_order.Indices.{look_index}
use Rattle.slot_table.specs.declared.index_order.place.ProbeIndex.TheVariants as places
use Rattle.program_table.specs.declared.accesses.Table.{Table}
use Rattle.program_table.specs.declared.accesses.Table.TheVariants.{Checks, Places}
use Rattle.program_table.specs.declared.rows.Made.{Made}
use Rattle.program_table.specs.declared.rows.Made.TheVariants.{First, Never}
use Rattle.program_table.specs.declared.rows.SiteRow.{SiteRow}
use Rattle.program_table.specs.declared.rows.Spot.{Spot}
use Rattle.program_table.specs.declared.rows.Spot.TheVariants.{At, Unknown}
use Rattle.program_table.specs.text_pieces.Pieces.{padded}

-- a number in hexadecimal, behind `0x`
unfoldable pub hexed : ℕ → List ℕ
hexed value = codes "0x" ++ hex 1 value

-- what a row is called: its task and its site
unfoldable pub name : SiteRow → List ℕ
name row = padded (concat (codes "P" ∷ decimal row.task ∷ codes " site " ∷ decimal row.site ∷ [])) 15

-- its line and column, or `-` where they aren't known
abbrev pub spot_text : Spot → List ℕ
spot_text Unknown = codes "-"
spot_text (At line column) = concat (decimal line ∷ codes ":" ∷ decimal column ∷ [])

unfoldable pub place : SiteRow → List ℕ
place row = padded (spot_text row.spot) 13

-- a plain write that counts as marked, unless `--strict` is set
unfoldable pub is_atomic_write : Access → Bool
is_atomic_write access = marked.is_atomic_write true access

-- what makes an access count as marked, whatever was called before it
unfoldable pub mark_words : Access → List ℕ
mark_words access = if is_marked access.kind then codes "its form"
    else if is_atomic_write access then codes "an aligned plain write, but for --strict" else codes "nothing"

-- what an access does
abbrev pub deed : Made → List ℕ
deed Never = codes "never made"
deed (First access word) = access_words access.kind

-- by what it counts as marked
abbrev pub mark : Made → List ℕ
mark Never = []
mark (First access word) = mark_words access

-- the line that says where an access stands and what it is
unfoldable pub place_line : SiteRow → List ℕ
place_line row = concat (name row ∷ place row ∷ padded (deed row.made) 21 ∷ mark row.made ∷ codes "\n" ∷ [])

-- the watch word of an access, or that it has none
abbrev pub word_text : Option ℕ → List ℕ
word_text None = codes "none"
word_text (Some word) = hexed word

-- the three indices at which an access looks for watchpoints, in their order
unfoldable pub indices : (slots : ℕ) → Access → List ℕ
indices slots access =
    let slot = access.addr / 4096 % slots in
    concat (decimal (look_index places.First slot) ∷ codes " " ∷ decimal (look_index places.Second slot)
    ∷ codes " " ∷ decimal (look_index places.Third slot) ∷ [])

-- what a check of an access goes by: its bytes, its watch word and its indices
unfoldable pub check_text : (slots : ℕ) → Access → (word : Option ℕ) → List ℕ
check_text slots access word = concat
    (padded (hexed access.addr) 20 ∷ padded (decimal access.size) 9 ∷ padded (word_text word) 20 ∷ indices slots access ∷ [])

-- the line that says what a check of a row's access goes by: none where there is no access
abbrev pub check_of : (slots : ℕ) → SiteRow → Made → List ℕ
check_of slots row Never = []
check_of slots row (First access word) = concat (name row ∷ check_text slots access word ∷ codes "\n" ∷ [])

unfoldable pub check_line : (slots : ℕ) → SiteRow → List ℕ
check_line slots row = check_of slots row row.made

-- the line of a row in a table
unfoldable pub line_of : Table → SiteRow → List ℕ
line_of Places row = place_line row
line_of (Checks slots) row = check_line slots row

-- there are from 1 to 1,024 page slots
abbrev pub HasSlots : Table → Type 0
HasSlots Places = Unit {0}
HasSlots (Checks slots) = (0 < slots) × (slots ≤ 1024)
