-- The part of a text that its braces lead to, by which the lexer knows whether it stands in a process's body.
use Rattle.std.specs.Prelude.{ℕ, ◌+◌, ◌-◌, if◌then◌else◌, nat_le}
use Rattle.litmus_lex.specs.declared.token.Part.{Part}
use Rattle.litmus_lex.specs.declared.token.Part.TheVariants.{Head, Init, Between, Body}

-- how many braces of a process's body are open
abbrev pub depth_of : Part → ℕ
depth_of Head = 0
depth_of Init = 0
depth_of Between = 0
depth_of (Body depth) = depth

-- a `{` between two blocks opens a process's body
abbrev pub opened : Part → Part
opened Head = Init
opened Init = Init
opened Between = Body 1
opened (Body depth) = Body (depth + 1)

-- a `}` closes the initialization block, or what was opened last in a body
abbrev pub closed : Part → Part
closed Head = Between
closed Init = Between
closed Between = Between
closed (Body depth) = if nat_le depth 1 then Between else Body (depth - 1)
