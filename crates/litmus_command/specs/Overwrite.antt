-- What would be written over the file that it comes from.
use Rattle.std.specs.Borrow.{Bor}
use Rattle.std.specs.Prelude.{◌≡◌, ◌⊎◌, ◌∷◌, [], ℕ, IsTrue, List, None, Option, Some, bytes_eq, codes}
use Rattle.std.specs.List.{concat, list_any}
use Rattle.std.specs.Option.{option_map}
use Rattle.diagnostics.specs.declared.check_output.told.Lines.{Lines}
use Rattle.cli.specs.declared.request.Request.{Request}
use Rattle.cli.specs.declared.request.Request.TheVariants as requests
use Rattle.file_commands.specs.Check.{IsOutOfMemory}
use Rattle.file_commands.specs.Desks.{DeskState, once_told}
use Rattle.file_commands.specs.declared.complaint.Complaint.TheVariants as complaint
use Rattle.program_table.specs.text_pieces.Shown.{shown}

-- both are this path: that of the file that is read, and that of one that is to be written
pub record AreSamePath (input : List ℕ) (output : Option (List ℕ)) (path : List ℕ) : Type 0 where
  pub read : input ≡ path
  pub written : output ≡ Some path

-- so it is with a second file that is read, if one is named
abbrev pub AreNamedPath : (input output : Option (List ℕ)) → (path : List ℕ) → Type 0
AreNamedPath None output path = ⊥
AreNamedPath (Some input) output path = AreSamePath input output path

-- this is the path of one of the files that are read, and that of one that is to be written
pub record IsPathOfOne (inputs : List (Bor (List ℕ))) (output : Option (List ℕ)) (path : List ℕ) : Type 0 where
  pub read : IsTrue (list_any (λ input. bytes_eq input.now path) inputs)
  pub written : output ≡ Some path

-- the file of this path is read for what is asked, and is to be written with what comes of that
abbrev pub Overwrites : Request → (path : List ℕ) → Type 0
Overwrites (requests.Step request) path = AreSamePath request.file.now (option_map (λ trace. trace.now) request.options.trace) path
Overwrites (requests.Run request) path = AreSamePath request.file.now (option_map (λ trace. trace.now) request.options.trace) path
Overwrites (requests.Search request) path = AreSamePath request.file.now (option_map (λ trace. trace.now) request.options.trace) path
Overwrites (requests.Searches request) path = ⊥
Overwrites (requests.Races request) path = IsPathOfOne request.files.items (option_map (λ html. html.now) request.html) path
Overwrites (requests.Replay request) path = ⊥
Overwrites (requests.Show request) path = AreSamePath request.trace.now (option_map (λ svg. svg.now) request.svg) path
    ⊎ AreNamedPath (option_map (λ source. source.now) request.source) (option_map (λ svg. svg.now) request.svg) path
Overwrites (requests.Check request) path = ⊥
Overwrites (requests.Join request) path = ⊥
Overwrites requests.Calls path = ⊥

-- what is told of that
unfoldable pub overwrite_line : (path : List ℕ) → List ℕ
overwrite_line path = concat (shown path ∷ codes " would overwrite its input\n" ∷ [])

-- so it was told of this path, with its status, and nothing else was done
pub record OverwriteIsTold (path : List ℕ) (status : ℕ) (before after : DeskState) : Type 0 where
  pub lines : Lines
  pub text_is : lines.bytes.items ≡ overwrite_line path
  pub status_is : status ≡ 64
  pub told : after ≡ once_told (complaint.Overwrites lines) before

-- the file of this path was kept: so it was told, or memory ran out over that
abbrev pub IsKept : (path : List ℕ) → (status : ℕ) → DeskState → DeskState → Type 0
IsKept path status before after = OverwriteIsTold path status before after ⊎ IsOutOfMemory status before after
