-- What standard error is told.
use Rattle.std.specs.Prelude.{◌++◌, ◌∷◌, List, [], Option, None, Some}
use Rattle.file_commands.specs.declared.complaint.Complaint.{Complaint}

-- the complaint stands behind what was told, where that can be said
abbrev pub heard : Option (List Complaint) → Complaint → Option (List Complaint)
heard None complaint = None
heard (Some before) complaint = Some (before ++ complaint ∷ [])
