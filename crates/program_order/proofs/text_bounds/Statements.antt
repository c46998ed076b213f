-- What each statement without a block does, at most.
use Rattle.std.proofs.Common.{◌≡◌, ◌≤◌, ◌∙◌, ◌+◌, ◌*◌, ◌==◌, ◌++◌, ℕ, Bool, true, false, List, [], ◌∷◌, None, Some, ap, arith, count_by, refl, replicate, sym, if◌then◌else◌}
use Rattle.access_types.specs.Access.{Access, proper_mask}
use Rattle.access_types.specs.Race.{bytes_of}
use Rattle.access_types.specs.declared.history.Happening.{Happening}
use Rattle.access_types.specs.declared.history.Happening.TheVariants.{Begin, End, Lock, Read, Unlock, Write}
use Rattle.access_types.specs.declared.history.Happening.TheVariants as happenings
use Rattle.access_types.specs.declared.history.Mark.{Mark}
use Rattle.access_types.specs.declared.history.Mark.TheVariants.{Disable, Enable, Next}
use Rattle.access_types.specs.declared.kind.Claim.TheVariants.{NoAccesses, NoWrites}
use Rattle.access_types.specs.declared.kind.Kind.TheVariants as kinds
use Rattle.litmus_semantics.specs.Assignments.{Assigns, AssignsIn, compound_kind, write_kind, writing}
use Rattle.litmus_semantics.specs.Calls.{call_does, check_kind, checked_bytes, checking}
use Rattle.litmus_semantics.specs.Loads.{Evaluates, Fetches, Loads, exchange_kind, in_data_races, load_in, read_kind, reading, updating}
use Rattle.litmus_semantics.specs.Loads.ComparesAndWrites.{other, same}
use Rattle.litmus_semantics.specs.Task.{Progress, Setting, access_now, bytes_in, doing, has_lock}
use Rattle.litmus_syntax.specs.Tree.{Assignment, Expression, Fetch, Load}
use Rattle.litmus_syntax.specs.Tree as tree
use Rattle.litmus_syntax.specs.declared.expression.ReadForm.{ReadForm}
use Rattle.litmus_syntax.specs.declared.expression.ReadForm.TheVariants as forms
use Rattle.litmus_syntax.specs.declared.statement.Call.{Call}
use Rattle.litmus_syntax.specs.declared.statement.Call.TheVariants as calls
use Rattle.litmus_syntax.specs.declared.statement.WriteForm.{WriteForm}
use Rattle.litmus_syntax.specs.declared.statement.WriteForm.TheVariants as write_forms
use Rattle.program_order.proofs.text_bounds.Weights.{DoesAtMost, Weighs, does_both, does_marks, does_nothing, marks_weight, one, weight_both, weight_first, weightless}
use Rattle.program_order.specs.text_bounds.Scopes.{is_scoped}

-- an access begins, reads or writes no more than twice, and ends
module _ (weighs : Happening → Bool) (at_site : ℕ → ℕ) (of_mark : Mark → ℕ) (is : Weighs weighs at_site of_mark) (a : Access)
    (plain : is_scoped a.kind ≡ false) where
  checking_weight : count_by weighs (checking a) ≤ at_site a.site
  checking_weight =
      let first = weight_first weighs (Begin a) (End a ∷ []) in
      let last = weight_first weighs (End a) [] in
      let begins = is.begins a plain in
      let ends = weightless weighs (End a) (is.ends a plain) in
      omega (arith, first, last, begins, ends)

  reading_weight : (value : ℕ) → count_by weighs (reading a value) ≤ at_site a.site
  reading_weight value =
      let read : Happening = Read (bytes_of a) value in
      let first = weight_first weighs (Begin a) (read ∷ End a ∷ []) in
      let second = weight_first weighs read (End a ∷ []) in
      let last = weight_first weighs (End a) [] in
      let begins = is.begins a plain in
      let reads = weightless weighs read (is.reads (bytes_of a) value) in
      let ends = weightless weighs (End a) (is.ends a plain) in
      omega (arith, first, second, last, begins, reads, ends)

  writing_weight : (value : ℕ) → count_by weighs (writing a value) ≤ at_site a.site
  writing_weight value =
      let write : Happening = Write (bytes_of a) value in
      let first = weight_first weighs (Begin a) (write ∷ End a ∷ []) in
      let second = weight_first weighs write (End a ∷ []) in
      let last = weight_first weighs (End a) [] in
      let begins = is.begins a plain in
      let writes = weightless weighs write (is.writes (bytes_of a) value) in
      let ends = weightless weighs (End a) (is.ends a plain) in
      omega (arith, first, second, last, begins, writes, ends)

  updating_weight : (old new : ℕ) → count_by weighs (updating a old new) ≤ at_site a.site
  updating_weight old new =
      let read : Happening = Read (bytes_of a) old in
      let write : Happening = Write (bytes_of a) new in
      let first = weight_first weighs (Begin a) (read ∷ write ∷ End a ∷ []) in
      let second = weight_first weighs read (write ∷ End a ∷ []) in
      let third = weight_first weighs write (End a ∷ []) in
      let last = weight_first weighs (End a) [] in
      let begins = is.begins a plain in
      let reads = weightless weighs read (is.reads (bytes_of a) old) in
      let writes = weightless weighs write (is.writes (bytes_of a) new) in
      let ends = weightless weighs (End a) (is.ends a plain) in
      omega (arith, first, second, third, last, begins, reads, writes, ends)

read_plain : (form : ReadForm) → is_scoped (read_kind form) ≡ false
read_plain forms.Plain = refl
read_plain forms.Once = refl
read_plain forms.Acquire = refl
read_plain forms.Atomic = refl

write_plain : (form : WriteForm) → is_scoped (write_kind form) ≡ false
write_plain write_forms.Plain = refl
write_plain write_forms.Once = refl
write_plain write_forms.Release = refl
write_plain write_forms.Atomic = refl

-- what a load, an expression, an assignment and a call do at a site, at most
abbrev pub load_weight : ℕ → Load → (ℕ → ℕ) → (Mark → ℕ) → ℕ
load_weight site l at_site of_mark = l.data_races * of_mark Disable + at_site site

abbrev pub expression_weight : ℕ → Expression → (ℕ → ℕ) → (Mark → ℕ) → ℕ
expression_weight site (tree.pure e) at_site of_mark = 0
expression_weight site (tree.loading e) at_site of_mark = load_weight site (load_in e) at_site of_mark

abbrev pub assignment_weight : ℕ → Assignment → (ℕ → ℕ) → (Mark → ℕ) → ℕ
assignment_weight site (tree.to_register r e) at_site of_mark = expression_weight site e at_site of_mark
assignment_weight site (tree.write form x e) at_site of_mark = at_site site
assignment_weight site (tree.add x e) at_site of_mark = at_site site
assignment_weight site (tree.increment x) at_site of_mark = at_site site
assignment_weight site (tree.atomic_add e x) at_site of_mark = at_site site
assignment_weight site (tree.atomic_increment x) at_site of_mark = at_site site
assignment_weight site (tree.atomic_decrement x) at_site of_mark = at_site site

abbrev pub assign_weight : ℕ → Bool → Assignment → (ℕ → ℕ) → (Mark → ℕ) → ℕ
assign_weight site data_race a at_site of_mark = (if data_race then 1 else 0) * of_mark Disable + assignment_weight site a at_site of_mark

abbrev pub call_weight : ℕ → Call → (ℕ → ℕ) → (Mark → ℕ) → ℕ
call_weight site (calls.Barrier b) at_site of_mark = 0
call_weight site (calls.Lock l) at_site of_mark = 0
call_weight site (calls.Unlock l) at_site of_mark = 0
call_weight site (calls.AssertWriter x scoped) at_site of_mark = at_site site
call_weight site (calls.AssertAccess x scoped) at_site of_mark = at_site site
call_weight site (calls.AssertBits x mask) at_site of_mark = at_site site
call_weight site (calls.Mark m) at_site of_mark = of_mark m
call_weight site (calls.Check is_write x size) at_site of_mark = if size == 0 then 0 else at_site site

module _ (s : Setting) (site : ℕ) where
  -- what a load does counts no more than its access
  module _ (weighs : Happening → Bool) (at_site : ℕ → ℕ) (of_mark : Mark → ℕ) (is : Weighs weighs at_site of_mark) where
    fetch_weight : (fetch : Fetch) (before : Progress) (old : ℕ) (does : List Happening) → Fetches s site fetch before old does
        → count_by weighs does ≤ at_site site
    fetch_weight (tree.read form x) before old does h =
        rw h (reading_weight weighs at_site of_mark is (access_now s site before (bytes_in s x) (read_kind form) None) (read_plain form) old)
    fetch_weight (tree.exchange x e) before old does h =
        rw h (updating_weight weighs at_site of_mark is (access_now s site before (bytes_in s x) exchange_kind None) refl old _)
    fetch_weight (tree.compare_exchange x e f) before old does (same expected does_is) =
        rw does_is (updating_weight weighs at_site of_mark is (access_now s site before (bytes_in s x) exchange_kind None) refl old _)
    fetch_weight (tree.compare_exchange x e f) before old does (other expected does_is) =
        rw does_is (reading_weight weighs at_site of_mark is (access_now s site before (bytes_in s x) exchange_kind None) refl old)

    loaded_weight : (l : Load) (before : Progress) (old : ℕ) (does : List Happening) → Fetches s site l.fetch before old does
        → count_by weighs (in_data_races l.data_races does) ≤ load_weight site l at_site of_mark
    loaded_weight l before old does h =
        let off : List Happening = replicate l.data_races (happenings.Mark Disable) in
        let on : List Happening = replicate l.data_races (happenings.Mark Enable) in
        let first = weight_both weighs (off ++ does) on in
        let second = weight_both weighs off does in
        let disables = marks_weight weighs at_site of_mark is l.data_races Disable in
        let enables = marks_weight weighs at_site of_mark is l.data_races Enable in
        let none : l.data_races * of_mark Enable ≡ 0 = rw is.enables (omega arith) in
        let own = fetch_weight l.fetch before old does h in
        omega (arith, first, second, disables, enables, none, own)

  pub load_does : (l : Load) (before : Progress) (loaded : ℕ) (after : Progress) → Loads s site l before loaded after
      → DoesAtMost before after (load_weight site l)
  load_does l before loaded after h = record {
    does = in_data_races l.data_races h.does;
    comes_to = ap (λ (p : Progress). p.did) h.comes_to;
    weight = λ weighs at_site of_mark is. loaded_weight weighs at_site of_mark is l before h.old h.does h.fetches;
  }

  pub expression_does : (e : Expression) (before : Progress) (value : ℕ) (after : Progress) → Evaluates s site e before value after
      → DoesAtMost before after (expression_weight site e)
  expression_does (tree.pure e) before value after h =
      does_nothing before after (expression_weight site (tree.pure e)) (ap (λ (p : Progress). p.did) h.1)
  expression_does (tree.loading e) before value after h = load_does (load_in e) before h.0 after h.1

  -- an access writes, or reads and writes
  write_does : (a : Access) (value : ℕ) (before after : Progress) → is_scoped a.kind ≡ false → a.site ≡ site → after ≡ doing before (writing a value)
      → DoesAtMost before after (λ at_site of_mark. at_site site)
  write_does a value before after plain here comes_to = record {
    does = writing a value;
    comes_to = ap (λ (p : Progress). p.did) comes_to;
    weight = λ weighs at_site of_mark is. rw (sym here) (writing_weight weighs at_site of_mark is a plain value);
  }

  update_does : (a : Access) (old new : ℕ) (before after : Progress) → is_scoped a.kind ≡ false → a.site ≡ site → after ≡ doing before (updating a old new)
      → DoesAtMost before after (λ at_site of_mark. at_site site)
  update_does a old new before after plain here comes_to = record {
    does = updating a old new;
    comes_to = ap (λ (p : Progress). p.did) comes_to;
    weight = λ weighs at_site of_mark is. rw (sym here) (updating_weight weighs at_site of_mark is a plain old new);
  }

  assignment_does : (a : Assignment) (before after : Progress) → Assigns s site a before after → DoesAtMost before after (assignment_weight site a)
  assignment_does (tree.to_register r e) before after h =
      let own = expression_does e before h.0 h.1 h.2 in
      record { does = own.does; comes_to = ap (λ (p : Progress). p.did) h.3 ∙ own.comes_to; weight = own.weight }
  assignment_does (tree.write form x e) before after h =
      write_does (access_now s site before (bytes_in s x) (write_kind form) None) _ before after (write_plain form) refl h
  assignment_does (tree.add x e) before after h = update_does (access_now s site before (bytes_in s x) compound_kind None) h.0 _ before after refl refl h.1
  assignment_does (tree.increment x) before after h = update_does (access_now s site before (bytes_in s x) compound_kind None) h.0 _ before after refl refl h.1
  assignment_does (tree.atomic_add e x) before after h =
      update_does (access_now s site before (bytes_in s x) exchange_kind None) h.0 _ before after refl refl h.1
  assignment_does (tree.atomic_increment x) before after h =
      update_does (access_now s site before (bytes_in s x) exchange_kind None) h.0 _ before after refl refl h.1
  assignment_does (tree.atomic_decrement x) before after h =
      update_does (access_now s site before (bytes_in s x) exchange_kind None) h.0 _ before after refl refl h.1

  -- inside data_race( ) or not
  marked_does : (data_race : Bool) (m : Mark) (before after : Progress) → after ≡ doing before (if data_race then happenings.Mark m ∷ [] else [])
      → DoesAtMost before after (λ at_site of_mark. (if data_race then 1 else 0) * of_mark m)
  marked_does true m before after comes_to = does_marks before after 1 m (ap (λ (p : Progress). p.did) comes_to)
  marked_does false m before after comes_to = does_marks before after 0 m (ap (λ (p : Progress). p.did) comes_to)

  pub assign_does : (data_race : Bool) (a : Assignment) (before after : Progress) → AssignsIn s site data_race a before after
      → DoesAtMost before after (assign_weight site data_race a)
  assign_does data_race a before after h =
      let start : Progress = doing before (if data_race then happenings.Mark Disable ∷ [] else []) in
      let off = marked_does data_race Disable before start refl in
      let own = assignment_does a start h.0 h.1 in
      let on = marked_does data_race Enable h.0 after h.2 in
      let all = does_both before start after _ _ off (does_both start h.0 after _ _ own on) in
      record {
        does = all.does;
        comes_to = all.comes_to;
        weight = λ weighs at_site of_mark is.
            let most = all.weight weighs at_site of_mark is in
            let none : (if data_race then 1 else 0) * of_mark Enable ≡ 0 = rw is.enables (omega arith) in
            omega (arith, most, none);
      }

  -- nothing is done
  no_more : (before after : Progress) (most : (ℕ → ℕ) → (Mark → ℕ) → ℕ) → after ≡ doing before [] → DoesAtMost before after most
  no_more before after most comes_to = record {
    does = [];
    comes_to = ap (λ (p : Progress). p.did) comes_to;
    weight = λ weighs at_site of_mark is. omega arith;
  }

  -- one thing that counts no more than this
  one_does : (before after : Progress) (happening : Happening) (most : (ℕ → ℕ) → (Mark → ℕ) → ℕ) → after ≡ doing before (happening ∷ [])
      → ((weighs : Happening → Bool) (at_site : ℕ → ℕ) (of_mark : Mark → ℕ) → Weighs weighs at_site of_mark → one weighs happening ≤ most at_site of_mark)
      → DoesAtMost before after most
  one_does before after happening most comes_to own = record {
    does = happening ∷ [];
    comes_to = ap (λ (p : Progress). p.did) comes_to;
    weight = λ weighs at_site of_mark is.
        let first = weight_first weighs happening [] in let less = own weighs at_site of_mark is in omega (arith, first, less);
  }

  check_does : (a : Access) (before after : Progress) → is_scoped a.kind ≡ false → a.site ≡ site → after ≡ doing before (checking a)
      → DoesAtMost before after (λ at_site of_mark. at_site site)
  check_does a before after plain here comes_to = record {
    does = checking a;
    comes_to = ap (λ (p : Progress). p.did) comes_to;
    weight = λ weighs at_site of_mark is. rw (sym here) (checking_weight weighs at_site of_mark is a plain);
  }

  check_or_not : (none : Bool) (a : Access) (before after : Progress) → is_scoped a.kind ≡ false → a.site ≡ site
      → after ≡ doing before (if none then [] else checking a) → DoesAtMost before after (λ at_site of_mark. if none then 0 else at_site site)
  check_or_not true a before after plain here comes_to =
      no_more before after (λ at_site of_mark. 0) comes_to
  check_or_not false a before after plain here comes_to = check_does a before after plain here comes_to

  unlock_does : (held : Bool) (l : ℕ) (before after : Progress) → after ≡ doing before (if held then Unlock l ∷ [] else [])
      → DoesAtMost before after (λ at_site of_mark. 0)
  unlock_does true l before after comes_to =
      one_does before after (Unlock l) (λ at_site of_mark. 0) comes_to
      (λ weighs at_site of_mark is. let none = weightless weighs (Unlock l) (is.unlocks l) in omega (arith, none))
  unlock_does false l before after comes_to = no_more before after (λ at_site of_mark. 0) comes_to

  -- bits are asserted exclusive, and the next access counts as marked
  bits_does : (a : Access) (before after : Progress) → is_scoped a.kind ≡ false → a.site ≡ site
      → after ≡ doing before (checking a ++ happenings.Mark (Next 1) ∷ []) → DoesAtMost before after (λ at_site of_mark. at_site site)
  bits_does a before after plain here comes_to = record {
    does = checking a ++ happenings.Mark (Next 1) ∷ [];
    comes_to = ap (λ (p : Progress). p.did) comes_to;
    weight = λ weighs at_site of_mark is.
        let both = weight_both weighs (checking a) (happenings.Mark (Next 1) ∷ []) in
        let last = weight_first weighs (happenings.Mark (Next 1)) [] in
        let next = is.marks (Next 1) in
        let none = is.nexts in
        let own : count_by weighs (checking a) ≤ at_site site = rw (sym here) (checking_weight weighs at_site of_mark is a plain) in
        omega (arith, both, last, next, none, own);
  }

  pub call_does_most : (c : Call) (before after : Progress) → after ≡ doing before (call_does s site c before) → DoesAtMost before after (call_weight site c)
  call_does_most (calls.Barrier b) before after h = no_more before after (call_weight site (calls.Barrier b)) h
  call_does_most (calls.Lock l) before after h =
      one_does before after (Lock l) (λ at_site of_mark. 0) h (λ weighs at_site of_mark is. let none = weightless weighs (Lock l) (is.locks l) in omega
      (arith, none))
  call_does_most (calls.Unlock l) before after h = unlock_does (has_lock l before.did) l before after h
  call_does_most (calls.AssertWriter x scoped) before after h =
      check_does (access_now s site before (bytes_in s x) (kinds.Assert NoWrites) None) before after refl refl h
  call_does_most (calls.AssertAccess x scoped) before after h =
      check_does (access_now s site before (bytes_in s x) (kinds.Assert NoAccesses) None) before after refl refl h
  call_does_most (calls.AssertBits x mask) before after h =
      bits_does (access_now s site before (bytes_in s x) (kinds.Assert NoWrites) (proper_mask (Some mask))) before after refl refl h
  call_does_most (calls.Mark m) before after h =
      one_does before after (happenings.Mark m) (λ at_site of_mark. of_mark m) h (λ weighs at_site of_mark is. is.marks m)
  call_does_most (calls.Check is_write x size) before after h =
      check_or_not (size == 0) (access_now s site before (checked_bytes s x size) (check_kind is_write) None) before after refl refl h
