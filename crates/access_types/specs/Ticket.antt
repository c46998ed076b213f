-- The number that names an access, and its task, site and repetition, which are read back from it.
use Rattle.std.specs.Prelude.{◌≡◌, ◌+◌, ◌-◌, ◌*◌, ◌/◌, ◌%◌, ◌^◌, ◌<◌, ℕ}
use Rattle.access_types.specs.Access.{Access}

-- the number that names an access
abbrev pub ticket_number : Access → ℕ
ticket_number a = 1 + a.task * 65536 + a.site * 256 + a.rep

-- the task, the site and the repetition in a ticket
abbrev pub task_in : ℕ → ℕ
task_in ticket = (ticket - 1) / 65536

abbrev pub site_in : ℕ → ℕ
site_in ticket = (ticket - 1) / 256 % 256

abbrev pub rep_in : ℕ → ℕ
rep_in ticket = (ticket - 1) % 256

-- the ticket of the access is above 0 and below 2^32, and gives its task, site and repetition
pub record ReadsBack (a : Access) : Type 0 where
  pub above_zero : 0 < ticket_number a
  pub below_2_32 : ticket_number a < 2 ^ 32
  pub task : task_in (ticket_number a) ≡ a.task
  pub site : site_in (ticket_number a) ≡ a.site
  pub rep : rep_in (ticket_number a) ≡ a.rep

-- the two have one task, one site and one repetition
pub record AreOneTurn (a b : Access) : Type 0 where
  pub task : a.task ≡ b.task
  pub site : a.site ≡ b.site
  pub rep : a.rep ≡ b.rep
