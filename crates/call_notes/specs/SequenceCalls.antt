-- Calls of sequence counts.
use Rattle.std.specs.Prelude.{◌∷◌, [], ℕ, List, codes}
use Rattle.call_notes.specs.NoteRows.{Row, begun_note}

-- the writer's part of a sequence count begins
abbrev writing_text : List ℕ
writing_text =
    codes "note: of an `int *seq` write `kcsan_nestable_atomic_begin(); *seq += 1;`\n"

-- it ends
abbrev written_text : List ℕ
written_text =
    codes "note: of an `int *seq` write `*seq += 1; kcsan_nestable_atomic_end();`\n"

-- the reader's part of a sequence count begins
abbrev reading_text : List ℕ
reading_text =
    codes "note: of an `int *seq` write `s0 = READ_ONCE(*seq); kcsan_atomic_next(100);`\n"

-- it ends
abbrev read_text : List ℕ
read_text =
    codes "note: of an `int *seq` write `kcsan_atomic_next(0); s1 = READ_ONCE(*seq); ok = (s0 == s1) & !(s0 & 1);`, and a retry as a `for` with `if (!ok)`; `if (ok) { .. }` stands round what follows, and `exists` asks `1:ok=1 /\\ ..` of P1, and `forall` `1:ok=0 \\/ ..`\n"

-- a latch is written
abbrev latch_text : List ℕ
latch_text =
    codes "note: of an `int *seq` write `*seq += 1;`\n"

-- the lines on a latch: the first row that a name begins with counts
abbrev pub latch_rows : List Row
latch_rows =
    (codes "raw_write_seqcount_latch", latch_text)
    ∷ (codes "write_seqcount_latch_begin", codes "note: of an `int *seq` write `kcsan_nestable_atomic_begin(); *seq += 1;`, before the first copy is written\n")
    ∷ (codes "write_seqcount_latch_end", codes "note: write `kcsan_nestable_atomic_end();`, behind the second copy\n")
    ∷ (codes "write_seqcount_latch", latch_text)
    ∷ (codes "raw_read_seqcount_latch_retry", codes "note: of an `int *seq` write `s1 = READ_ONCE(*seq); ok = s0 == s1;`; `if (ok) { .. }` stands round what follows, and `exists` asks `1:ok=1 /\\ ..` of P1, and `forall` `1:ok=0 \\/ ..`\n")
    ∷ (codes "raw_read_seqcount_latch", codes "note: of an `int *seq` write `s0 = READ_ONCE(*seq);`: the copy is `if ((s0 & 1) == 0) val = *x0; else val = *x1;`\n")
    ∷ (codes "read_seqcount_latch_retry", codes "note: of an `int *seq` write `kcsan_atomic_next(0); s1 = READ_ONCE(*seq); ok = s0 == s1;`; `if (ok) { .. }` stands round what follows, and `exists` asks `1:ok=1 /\\ ..` of P1, and `forall` `1:ok=0 \\/ ..`\n")
    ∷ (codes "read_seqcount_latch", codes "note: of an `int *seq` write `kcsan_atomic_next(100); s0 = READ_ONCE(*seq);`: the copy is `if ((s0 & 1) == 0) val = *x0; else val = *x1;`\n") ∷ []

-- the line on a latch, or else this one
unfoldable pub latch_line : (name otherwise : List ℕ) → List ℕ
latch_line name otherwise = begun_note latch_rows name otherwise

-- the lines on the writer of a sequence count: the first row that a name begins with counts
abbrev pub writing_rows : List Row
writing_rows =
    (codes "write_seqcount_invalidate", codes "note: of an `int *seq` write `kcsan_nestable_atomic_begin(); *seq += 2; kcsan_nestable_atomic_end();`\n")
    ∷ (codes "raw_write_seqcount_barrier", codes "note: of an `int *seq` write `kcsan_nestable_atomic_begin(); *seq += 1; *seq += 1; kcsan_nestable_atomic_end();`\n")
    ∷ (codes "write_seqcount_begin", writing_text)
    ∷ (codes "raw_write_seqcount_begin", writing_text)
    ∷ (codes "write_seqcount_end", written_text)
    ∷ (codes "raw_write_seqcount_end", written_text)
    ∷ (codes "write_seqlock", codes "note: of an `int *seq` and a lock write `spin_lock(l); kcsan_nestable_atomic_begin(); *seq += 1;`\n")
    ∷ (codes "write_sequnlock", codes "note: of an `int *seq` and a lock write `*seq += 1; kcsan_nestable_atomic_end(); spin_unlock(l);`\n") ∷ []

-- the line on the writer of a sequence count, or else this one
unfoldable pub writing_line : (name otherwise : List ℕ) → List ℕ
writing_line name otherwise = begun_note writing_rows name otherwise

-- the lines on the reader of a sequence count: the first row that a name begins with counts
abbrev pub reading_rows : List Row
reading_rows =
    (codes "read_seqbegin_or_lock", codes "note: the first pass begins, of an `int *seq`, by `s0 = READ_ONCE(*seq); kcsan_atomic_next(100);`; the second one, behind what stands for need_seqretry, is `if (!ok) { spin_lock(l); .. spin_unlock(l); }`\n")
    ∷ (codes "need_seqretry", codes "note: the first pass ends, of an `int *seq`, by `kcsan_atomic_next(0); s1 = READ_ONCE(*seq); ok = (s0 == s1) & !(s0 & 1);`; then comes the second one, `if (!ok) { spin_lock(l); .. spin_unlock(l); }`, and done_seqretry is left out\n")
    ∷ (codes "done_seqretry", codes "note: leave it out: the second pass, `if (!ok) { spin_lock(l); .. spin_unlock(l); }`, gives the lock back\n")
    ∷ (codes "read_seqretry", read_text)
    ∷ (codes "read_seqcount_retry", read_text)
    ∷ (codes "__read_seqcount_retry", read_text)
    ∷ (codes "read_seqlock_excl", codes "note: write `spin_lock(l);`, of the sequence lock's lock\n")
    ∷ (codes "read_sequnlock_excl", codes "note: write `spin_unlock(l);`, of the sequence lock's lock\n")
    ∷ (codes "read_seq", reading_text)
    ∷ (codes "raw_read_seq", reading_text)
    ∷ (codes "__read_seq", reading_text)
    ∷ (codes "raw_seqcount_begin", reading_text) ∷ []

-- the line on the reader of a sequence count, or else this one
unfoldable pub reading_line : (name otherwise : List ℕ) → List ℕ
reading_line name otherwise = begun_note reading_rows name otherwise
