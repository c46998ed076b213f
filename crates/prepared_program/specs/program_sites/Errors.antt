-- Why a program can't be made ready.
use Rattle.prepared_program.specs.declared.program_layout.layout.LayoutError.{LayoutError}
use Rattle.prepared_program.specs.declared.program_layout.layout.LayoutError.TheVariants as layouts
use Rattle.prepared_program.specs.declared.program_sites.error.RunError.{RunError}
use Rattle.prepared_program.specs.declared.program_sites.error.RunError.TheVariants.{BadPlace, BadSchedule, BadSlots, NoThread, OutOfMemory, Stuck}

-- by why there is no layout
abbrev pub of_layout : LayoutError → RunError
of_layout layouts.BadPlace = BadPlace
of_layout layouts.OutOfMemory = OutOfMemory

-- the settings don't suit the program, or memory is wanting: nothing of a run is said
abbrev pub IsOfPreparing : RunError → Type 0
IsOfPreparing BadSlots = Unit {0}
IsOfPreparing BadPlace = Unit {0}
IsOfPreparing OutOfMemory = Unit {0}
IsOfPreparing (Stuck task) = ⊥
IsOfPreparing BadSchedule = ⊥
IsOfPreparing NoThread = ⊥
