-- The meaning of small texts, with the values of their reads given: what each does, and its
-- registers afterwards.
use Rattle.std.proofs.Common.{ℕ, List, [], ◌∷◌, true, false, None, Some, negsuc, refl, pos, ◌≡◌}
use Rattle.access_types.specs.Access.{Access}
use Rattle.access_types.specs.Race.{bytes_of}
use Rattle.access_types.specs.declared.history.Happening.{Happening}
use Rattle.access_types.specs.declared.history.Happening.TheVariants as happenings
use Rattle.access_types.specs.declared.history.Mark.TheVariants as marks
use Rattle.access_types.specs.declared.kind.Claim.TheVariants.{NoWrites}
use Rattle.access_types.specs.declared.kind.Kind.{Kind}
use Rattle.access_types.specs.declared.kind.Kind.TheVariants as kinds
use Rattle.access_types.specs.declared.kind.Operation.TheVariants as operations
use Rattle.litmus_syntax.specs.Tree.{Block, Load, Statement}
use Rattle.litmus_syntax.specs.Tree as tree
use Rattle.litmus_syntax.specs.declared.expression.ReadForm.TheVariants as reads
use Rattle.litmus_syntax.specs.declared.program.Contents.TheVariants.{Char, Int, Lock}
use Rattle.litmus_syntax.specs.declared.program.Variable.{Variable}
use Rattle.litmus_syntax.specs.declared.statement.Call.TheVariants as calls
use Rattle.litmus_syntax.specs.declared.statement.WriteForm.TheVariants as writes
use Rattle.litmus_semantics.specs.Layout.{cells_at_first}
use Rattle.litmus_semantics.specs.Loads.{same}
use Rattle.litmus_semantics.specs.Meaning.{MeansBlock}
use Rattle.litmus_semantics.specs.Task.{Progress, Setting}

-- an int x, which stands at 0x10000, and a lock l
abbrev variables : List Variable
variables = record { name = 120 ∷ []; contents = Int (pos 0) } ∷ record { name = 108 ∷ []; contents = Lock } ∷ []

abbrev setting : Setting
setting = record { task = 0; variables = variables; places = [] }

abbrev progress : List Happening → List ℕ → Progress
progress did registers = record { did = did; registers = registers }

-- the task's access to x, at a site and a repetition
abbrev access : ℕ → ℕ → Kind → Access
access site rep kind = record {
  task = 0;
  site = site;
  rep = rep;
  addr = 0x10000;
  size = 4;
  kind = kind;
  mask = None;
}

abbrev reading_x : Statement
reading_x = tree.assign false (tree.to_register 0 (tree.loading (tree.load (record { data_races = 0; fetch = tree.read reads.Once 0 }))))

abbrev marked_read : ℕ → ℕ → Access
marked_read site rep = access site rep (kinds.Marked operations.Read)

abbrev read_of : Access → ℕ → List Happening → List Happening
read_of a value later = happenings.Begin a ∷ happenings.Read (bytes_of a) value ∷ happenings.End a ∷ later

abbrev write_of : Access → ℕ → List Happening → List Happening
write_of a value later = happenings.Begin a ∷ happenings.Write (bytes_of a) value ∷ happenings.End a ∷ later

-- WRITE_ONCE(*x, 7); r0 = READ_ONCE(*x);
own_write_read :
    MeansBlock setting 0
    (tree.first (tree.assign false (tree.write writes.Once 0 (tree.number 7))) (tree.first reading_x tree.empty))
    (progress [] (0 ∷ []))
    (progress (write_of (access 0 0 (kinds.Marked operations.Write)) 7 (read_of (marked_read 1 0) 7 [])) (7 ∷ []))
own_write_read =
    let wrote : Progress = progress (write_of (access 0 0 (kinds.Marked operations.Write)) 7 []) (0 ∷ []) in
    let read : Progress = progress (write_of (access 0 0 (kinds.Marked operations.Write)) 7 (read_of (marked_read 1 0) 7 [])) (0 ∷ []) in
    let end : Progress = progress (write_of (access 0 0 (kinds.Marked operations.Write)) 7 (read_of (marked_read 1 0) 7 [])) (7 ∷ []) in (
      wrote,
      (wrote, refl, refl),
      (
        end,
        (end, (7, read, (7, record { old = 7; does = read_of (marked_read 1 0) 7 []; fetches = refl; value = refl; comes_to = refl }, refl), refl), refl),
        refl,
      ),
    )

-- for (i = 0; i < 2; i++) { r0 = READ_ONCE(*x); }, with i as register 1: the second access repeats the site
loop :
    MeansBlock setting 0
    (tree.first (tree.for_turns 1 2 (tree.first reading_x tree.empty)) tree.empty)
    (progress [] (0 ∷ 0 ∷ []))
    (progress (read_of (marked_read 0 0) 0 (read_of (marked_read 0 1) 0xffffffff [])) (0xffffffffffffffff ∷ 2 ∷ []))
loop =
    let first : List Happening = read_of (marked_read 0 0) 0 [] in
    let both : List Happening = read_of (marked_read 0 0) 0 (read_of (marked_read 0 1) 0xffffffff []) in
    let one : Progress = progress first (0 ∷ 0 ∷ []) in
    let two : Progress = progress both (0 ∷ 1 ∷ []) in
    let three : Progress = progress both (0xffffffffffffffff ∷ 1 ∷ []) in (
      progress both (0xffffffffffffffff ∷ 2 ∷ []),
      (
        one,
        (one, (one, (0, one, (0, record { old = 0; does = first; fetches = refl; value = refl; comes_to = refl }, refl), refl), refl), refl),
        (
          three,
          (three, (three, (0xffffffffffffffff, two, (0xffffffffffffffff, record { old = 0xffffffff; does = read_of (marked_read 0 1) 0xffffffff []; fetches = refl; value = refl; comes_to = refl }, refl), refl), refl), refl),
          refl,
        ),
      ),
      refl,
    )

abbrev locked : Statement
locked = tree.call (calls.Lock 1)

abbrev unlocked : Statement
unlocked = tree.call (calls.Unlock 1)

abbrev update_of : Access → ℕ → ℕ → List Happening → List Happening
update_of a old new later =
    happenings.Begin a ∷ happenings.Read (bytes_of a) old ∷ happenings.Write (bytes_of a) new ∷ happenings.End a ∷ later

abbrev compound : Access
compound = access 0 0 (kinds.Plain operations.ReadWrite)

-- spin_lock(l); (*x)++; spin_unlock(l); spin_unlock(l); where the second unlock does nothing
locked_increment :
    MeansBlock setting 0
    (tree.first locked (tree.first (tree.assign false (tree.increment 0)) (tree.first unlocked (tree.first unlocked tree.empty))))
    (progress [] [])
    (progress (happenings.Lock 1 ∷ update_of compound 0xffffffff 0 (happenings.Unlock 1 ∷ [])) [])
locked_increment =
    let one : Progress = progress (happenings.Lock 1 ∷ []) [] in
    let two : Progress = progress (happenings.Lock 1 ∷ update_of compound 0xffffffff 0 []) [] in
    let three : Progress = progress (happenings.Lock 1 ∷ update_of compound 0xffffffff 0 (happenings.Unlock 1 ∷ [])) [] in
    (one, refl, (two, (two, (0xffffffff, refl), refl), (three, refl, (three, refl, refl))))

abbrev scoped_one : Access
scoped_one = access 0 0 (kinds.AssertScoped NoWrites)

abbrev scoped_two : Access
scoped_two = access 1 0 (kinds.AssertScoped NoWrites)

abbrev bits : Access
bits = record (access 2 0 (kinds.Assert NoWrites)) { mask = Some 15 }

-- two scoped assertions, and ASSERT_EXCLUSIVE_BITS(*x, 0xf): the newest scope ends first
scopes :
    MeansBlock setting 0
    (tree.first (tree.call (calls.AssertWriter 0 true)) (tree.first (tree.call (calls.AssertWriter 0 true))
    (tree.first (tree.call (calls.AssertBits 0 15)) tree.empty)))
    (progress [] [])
    (progress (happenings.Begin scoped_one ∷ happenings.Begin scoped_two ∷ happenings.Begin bits ∷ happenings.End bits
    ∷ happenings.Mark (marks.Next 1) ∷ happenings.End scoped_two ∷ happenings.End scoped_one ∷ []) [])
scopes =
    let inner : Progress = progress (happenings.Begin scoped_one ∷ happenings.Begin scoped_two ∷ happenings.Begin bits ∷ happenings.End bits
    ∷ happenings.Mark (marks.Next 1) ∷ []) [] in
    let outer : Progress = progress (happenings.Begin scoped_one ∷ happenings.Begin scoped_two ∷ happenings.Begin bits ∷ happenings.End bits
    ∷ happenings.Mark (marks.Next 1) ∷ happenings.End scoped_two ∷ []) [] in
    (outer, (inner, (inner, refl, refl), refl), refl)

abbrev compares : Load
compares = record { data_races = 1; fetch = tree.compare_exchange 0 (tree.number 0x100000001) (tree.number 9) }

abbrev exchange : Access
exchange = access 0 0 (kinds.Marked operations.ReadWrite)

-- data_race(cmpxchg(x, 0x100000001, 9)); where x is 1: the expected value is cut first
compare_exchange :
    MeansBlock setting 0 (tree.first (tree.load_only compares) tree.empty)
    (progress [] [])
    (progress (happenings.Mark marks.Disable ∷ update_of exchange 1 9 (happenings.Mark marks.Enable ∷ [])) [])
compare_exchange =
    let end : Progress = progress (happenings.Mark marks.Disable ∷ update_of exchange 1 9 (happenings.Mark marks.Enable ∷ [])) [] in
    (end, (1, record { old = 1; does = update_of exchange 1 9 []; fetches = same refl refl; value = refl; comes_to = refl }), refl)

-- for (i = 0; i < 3; i++) { r0 = *x; }, with i as register 1: three accesses of one site, one after the other
abbrev plain_x : Statement
plain_x = tree.assign false (tree.to_register 0 (tree.loading (tree.load (record { data_races = 0; fetch = tree.read reads.Plain 0 }))))

abbrev plain_read : ℕ → Access
plain_read rep = access 0 rep (kinds.Plain operations.Read)

three_turns :
    MeansBlock setting 0
    (tree.first (tree.for_turns 1 3 (tree.first plain_x tree.empty)) tree.empty)
    (progress [] (0 ∷ 0 ∷ []))
    (progress (read_of (plain_read 0) 0 (read_of (plain_read 1) 0 (read_of (plain_read 2) 1 []))) (1 ∷ 3 ∷ []))
three_turns =
    let one : Progress = progress (read_of (plain_read 0) 0 []) (0 ∷ 0 ∷ []) in
    let two_at : Progress = progress (read_of (plain_read 0) 0 (read_of (plain_read 1) 0 [])) (0 ∷ 1 ∷ []) in
    let three_at : Progress = progress (read_of (plain_read 0) 0 (read_of (plain_read 1) 0 (read_of (plain_read 2) 1 []))) (0 ∷ 2 ∷ []) in
    let three : Progress = progress (read_of (plain_read 0) 0 (read_of (plain_read 1) 0 (read_of (plain_read 2) 1 []))) (1 ∷ 2 ∷ []) in
    let end : Progress = progress (read_of (plain_read 0) 0 (read_of (plain_read 1) 0 (read_of (plain_read 2) 1 []))) (1 ∷ 3 ∷ []) in (
      end,
      (
        one,
        (one, (one, (0, one, (0, record { old = 0; does = read_of (plain_read 0) 0 []; fetches = refl; value = refl; comes_to = refl }, refl), refl), refl), refl),
        (
          two_at,
          (two_at, (two_at, (0, two_at, (0, record { old = 0; does = read_of (plain_read 1) 0 []; fetches = refl; value = refl; comes_to = refl }, refl), refl), refl), refl),
          (
            three,
            (three, (three, (1, three_at, (1, record { old = 1; does = read_of (plain_read 2) 1 []; fetches = refl; value = refl; comes_to = refl }, refl), refl), refl), refl),
            refl,
          ),
        ),
      ),
      refl,
    )

-- spin_lock(a); spin_lock(b); of two locks
deadlock :
    MeansBlock (record setting { variables = record { name = 97 ∷ []; contents = Lock } ∷ record { name = 98 ∷ []; contents = Lock } ∷ [] }) 0
    (tree.first (tree.call (calls.Lock 0)) (tree.first (tree.call (calls.Lock 1)) tree.empty))
    (progress [] [])
    (progress (happenings.Lock 0 ∷ happenings.Lock 1 ∷ []) [])
deadlock =
    let one : Progress = progress (happenings.Lock 0 ∷ []) [] in
    let two : Progress = progress (happenings.Lock 0 ∷ happenings.Lock 1 ∷ []) [] in
    (one, refl, (two, refl, refl))

-- ASSERT_EXCLUSIVE_WRITER_SCOPED(*x); r0 = READ_ONCE(*y); r1 = READ_ONCE(*y); where y stands at 0x10040: the assertion
-- ends after both reads
abbrev with_y : Setting
with_y = record setting { variables = record { name = 120 ∷ []; contents = Int (pos 0) } ∷ record { name = 121 ∷ []; contents = Int (pos 0) } ∷ [] }

abbrev read_y : ℕ → Statement
read_y r = tree.assign false (tree.to_register r (tree.loading (tree.load (record { data_races = 0; fetch = tree.read reads.Once 1 }))))

abbrev y_access : ℕ → Access
y_access site = record (marked_read site 0) { addr = 0x10040 }

scoped_writer :
    MeansBlock with_y 0
    (tree.first (tree.call (calls.AssertWriter 0 true)) (tree.first (read_y 0) (tree.first (read_y 1) tree.empty)))
    (progress [] (0 ∷ 0 ∷ []))
    (progress (happenings.Begin scoped_one ∷ read_of (y_access 1) 5 (read_of (y_access 2) 6 (happenings.End scoped_one ∷ []))) (5 ∷ 6 ∷ []))
scoped_writer =
    let one_at : Progress = progress (happenings.Begin scoped_one ∷ read_of (y_access 1) 5 []) (0 ∷ 0 ∷ []) in
    let one : Progress = progress (happenings.Begin scoped_one ∷ read_of (y_access 1) 5 []) (5 ∷ 0 ∷ []) in
    let two_at : Progress = progress (happenings.Begin scoped_one ∷ read_of (y_access 1) 5 (read_of (y_access 2) 6 [])) (5 ∷ 0 ∷ []) in
    let two : Progress = progress (happenings.Begin scoped_one ∷ read_of (y_access 1) 5 (read_of (y_access 2) 6 [])) (5 ∷ 6 ∷ []) in (
      two,
      (
        one,
        (one, (5, one_at, (5, record { old = 5; does = read_of (y_access 1) 5 []; fetches = refl; value = refl; comes_to = refl }, refl), refl), refl),
        (two, (two, (6, two_at, (6, record { old = 6; does = read_of (y_access 2) 6 []; fetches = refl; value = refl; comes_to = refl }, refl), refl), refl), refl),
      ),
      refl,
    )

-- *c = 0x101; of a char that is placed at 0x10001, as P1: one byte, cut
placed_bytes :
    MeansBlock (record { task = 1; variables = record { name = 120 ∷ []; contents = Int (pos 0) } ∷ record { name = 99 ∷ []; contents = Char (pos 0) } ∷ []; places = record { name = 99 ∷ []; addr = 0x10001 } ∷ [] }) 0
    (tree.first (tree.assign false (tree.write writes.Plain 1 (tree.number 0x101))) tree.empty)
    (progress [] [])
    (progress (write_of (record (access 0 0 (kinds.Plain operations.Write)) { task = 1; addr = 0x10001; size = 1 }) 1 []) [])
placed_bytes =
    let end : Progress = progress (write_of (record (access 0 0 (kinds.Plain operations.Write)) { task = 1; addr = 0x10001; size = 1 }) 1 []) [] in
    (end, (end, refl, refl), refl)

-- ASSERT_EXCLUSIVE_BITS(*x, 0xf); and with a mask 0, which is none
exclusive_bits :
    MeansBlock setting 0 (tree.first (tree.call (calls.AssertBits 0 15)) (tree.first (tree.call (calls.AssertBits 0 0)) tree.empty))
    (progress [] [])
    (progress (happenings.Begin (record bits { site = 0 }) ∷ happenings.End (record bits { site = 0 }) ∷ happenings.Mark (marks.Next 1)
    ∷ happenings.Begin (record bits { site = 1; mask = None }) ∷ happenings.End (record bits { site = 1; mask = None }) ∷ happenings.Mark (marks.Next 1) ∷ []) [])
exclusive_bits =
    let one : Progress = progress (happenings.Begin (record bits { site = 0 }) ∷ happenings.End (record bits { site = 0 }) ∷ happenings.Mark (marks.Next 1) ∷ []) [] in
    let two : Progress = progress (happenings.Begin (record bits { site = 0 }) ∷ happenings.End (record bits { site = 0 }) ∷ happenings.Mark (marks.Next 1)
    ∷ happenings.Begin (record bits { site = 1; mask = None }) ∷ happenings.End (record bits { site = 1; mask = None }) ∷ happenings.Mark (marks.Next 1) ∷ []) [] in
    (one, refl, (two, refl, refl))

-- int x and char c = -1 in its third byte, and a lock: one cell, 0x00ff0000 at first
cells :
    (cells_at_first (record { name = 99 ∷ []; addr = 0x10002 } ∷ [])
    (record { name = 120 ∷ []; contents = Int (pos 0) } ∷ record { name = 99 ∷ []; contents = Char (negsuc 0) } ∷ record { name = 108 ∷ []; contents = Lock } ∷ []))
    ≡ 0x00ff0000 ∷ []
cells = refl
