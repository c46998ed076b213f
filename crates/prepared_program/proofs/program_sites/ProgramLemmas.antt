-- The accesses of a program are those at the sites of its tasks' texts.
use Rattle.std.proofs.Common.{◌≡◌, ◌≢◌, ◌<◌, ◌≤◌, ◌∙◌, ◌+◌, ℕ, All, IsSomeAnd, List, Option, None, Some, ap, arith, length, refl, slice_get, subst, sym}
use Rattle.std.proofs.lemmas.List.Elements.{All-get_or}
use Rattle.std.proofs.lemmas.Option.{get_or_from_slice_get, none-some, slice_get_within}
use Rattle.access_types.specs.Access.{Access, IsInLimits, proper_mask}
use Rattle.access_types.specs.Ticket.{ticket_number}
use Rattle.access_types.specs.declared.history.Bytes.{Bytes}
use Rattle.litmus_syntax.specs.Limits.{IsVariable, KeepsLimits, TaskKeepsLimits}
use Rattle.litmus_syntax.specs.Tree.{Program, Task}
use Rattle.litmus_syntax.specs.declared.program.Variable.{Variable}
use Rattle.litmus_semantics.proofs.LimitLemmas.{tickets_fit}
use Rattle.litmus_semantics.specs.Layout.{VariablePlace, bytes_of_variable}
use Rattle.litmus_semantics.specs.RunOfProgram.{setting_of}
use Rattle.litmus_semantics.specs.Task.{Setting, bytes_in}
use Rattle.litmus_semantics.specs.TextSites.{FitsTickets, IsOfText, access_at, block_by, block_sites, bytes_among}
use Rattle.prepared_program.proofs.program_layout.PlaceLemmas.{low_bytes}
use Rattle.prepared_program.specs.program_layout.Places.{AreFit, places_of}
use Rattle.prepared_program.specs.declared.program_layout.place.Place as given
use Rattle.prepared_program.proofs.program_sites.AddsLemmas.{within_task}
use Rattle.prepared_program.proofs.program_sites.TextLemmas.{IsLow, proper_sites}
use Rattle.prepared_program.specs.program_sites.Added.{HaveAccesses, IsAt, IsProper, first_ticket}
use Rattle.prepared_program.specs.program_sites.Sites.{IsOfProgram}

-- what holds of each task holds of the one of a number
pub task_at : (P : Task → Type 0) (tasks : List Task) (number : ℕ) (task : Task) → slice_get tasks number ≡ Some task → All P tasks → P task
task_at P tasks number task stands all =
    subst P (get_or_from_slice_get tasks number task task stands) (All-get_or P tasks number task (slice_get_within tasks number task stands) all)

-- what is said of the task that is there
some_and : (P : Task → Type 0) (found : Option Task) (task : Task) → found ≡ Some task → P task → IsSomeAnd found P
some_and P found task is p = subst (λ (o : Option Task). IsSomeAnd o P) (sym is) p

and_some : (P : Task → Type 0) (found : Option Task) (task : Task) → found ≡ Some task → IsSomeAnd found P → P task
and_some P found task is p = subst (λ (o : Option Task). IsSomeAnd o P) is p

-- accesses can be made of the sites of a task that keeps the limits
pub have_accesses : (variables : List Variable) (places : List given.Place) (bytes : List Bytes) (task : Task) → AreFit variables places → length variables ≤ 32
    → ((x : ℕ) → bytes_among bytes x ≡ bytes_of_variable (places_of places) variables x) → TaskKeepsLimits variables task
    → HaveAccesses (block_by (bytes_among bytes) task.body)
have_accesses variables places bytes task fit few are keeps =
    let s : Setting = record { task = 0; variables = variables; places = places_of places } in
    let same : ◌≡◌ {A = ℕ → Bytes} (bytes_in s) (bytes_among bytes) = λ i x. sym (are x) i in
    let low : (x : ℕ) → IsLow (bytes_in s x) = λ x. low_bytes variables places fit few x in
    subst (λ (b : ℕ → Bytes). HaveAccesses (block_by b task.body)) same
    (record { tickets = tickets_fit s task.body keeps.body; proper = proper_sites (IsVariable variables) (length task.registers) (bytes_in s) low task.body keeps.typed })

module _ (program : Program) (places : List VariablePlace) where
  -- an access at a site of a task's text is one of the program
  pub to_program : (bytes : List Bytes) → ((x : ℕ) → bytes_among bytes x ≡ bytes_of_variable places program.variables x)
      → (number : ℕ) (task : Task) → slice_get program.tasks number ≡ Some task → (a : Access) → IsAt number (block_by (bytes_among bytes) task.body) a
      → (a.task ≡ number) × IsOfProgram program places a
  to_program bytes are number task stands a at =
      let s : Setting = setting_of program places a.task in
      let same : ◌≡◌ {A = ℕ → Bytes} (bytes_among bytes) (bytes_in s) = λ i x. are x i in
      let of_task : a.task ≡ number = ap (λ (b : Access). b.task) at.2.1 in (
        of_task,
        some_and (λ (t : Task). IsOfText s t.body a) (slice_get program.tasks a.task) task (ap (λ (n : ℕ). slice_get program.tasks n) of_task ∙ stands)
            (record {
              site = at.0;
              stands = subst (λ (b : ℕ → Bytes). slice_get (block_by b task.body) a.site ≡ Some at.0) same at.1;
              rep = at.2.0;
              is = at.2.1 ∙ ap (λ (n : ℕ). access_at n a.site at.0 a.rep) (sym of_task);
            }),
      )

  -- an access of the program is one at a site of its task's text
  pub from_program : (bytes : List Bytes) → ((x : ℕ) → bytes_among bytes x ≡ bytes_of_variable places program.variables x)
      → (number : ℕ) (task : Task) → slice_get program.tasks number ≡ Some task → (a : Access) → a.task ≡ number → IsOfProgram program places a
      → IsAt number (block_by (bytes_among bytes) task.body) a
  from_program bytes are number task stands a of_task of =
      let s : Setting = setting_of program places a.task in
      let same : ◌≡◌ {A = ℕ → Bytes} (bytes_in s) (bytes_among bytes) = λ i x. sym (are x) i in
      let text : IsOfText s task.body a =
      and_some (λ (t : Task). IsOfText s t.body a) (slice_get program.tasks a.task) task (ap (λ (n : ℕ). slice_get program.tasks n) of_task ∙ stands) of in (
        text.site,
        subst (λ (b : ℕ → Bytes). slice_get (block_by b task.body) a.site ≡ Some text.site) same text.stands,
        (text.rep, text.is ∙ ap (λ (n : ℕ). access_at n a.site text.site a.rep) of_task),
      )

  -- an access of the program is of a task that is there, and its ticket is below the first one of the next task
  pub of_program : KeepsLimits program → (a : Access) → IsOfProgram program places a
      → (a.task < length program.tasks) × (ticket_number a < first_ticket (a.task + 1) 0)
  of_program keeps a of = cases (slice_get program.tasks a.task) refl where
    cases : (found : Option Task) → slice_get program.tasks a.task ≡ found
        → (a.task < length program.tasks) × (ticket_number a < first_ticket (a.task + 1) 0)
    cases None is = absurd (subst (λ (o : Option Task). IsSomeAnd o (λ (t : Task). IsOfText (setting_of program places a.task) t.body a)) is of)
    cases (Some task) is =
        let s : Setting = setting_of program places a.task in
        let text : IsOfText s task.body a = and_some (λ (t : Task). IsOfText s t.body a) (slice_get program.tasks a.task) task is of in
        let task_keeps : TaskKeepsLimits program.variables task = task_at (TaskKeepsLimits program.variables) program.tasks a.task task is keeps.each_task in (
          slice_get_within program.tasks a.task task is,
          within_task a.task (block_sites s task.body) (tickets_fit s task.body task_keeps.body) a (text.site, text.stands, (text.rep, text.is)),
        )

-- a mask that stays as it is isn't one without a bit
no_empty_mask : (mask : Option ℕ) → proper_mask mask ≡ mask → mask ≢ Some 0
no_empty_mask mask proper is = absurd (none-some 0 (sym (ap proper_mask is) ∙ (proper ∙ is)))

-- where the limits are kept and the places fit, an access of the program is within the limits of accesses
pub in_limits : (program : Program) (places : List given.Place) → KeepsLimits program → AreFit program.variables places → (a : Access)
    → IsOfProgram program (places_of places) a → IsInLimits a × (a.mask ≢ Some 0)
in_limits program places keeps fit a of = cases (slice_get program.tasks a.task) refl where
  cases : (found : Option Task) → slice_get program.tasks a.task ≡ found → IsInLimits a × (a.mask ≢ Some 0)
  cases None is = absurd (subst (λ (o : Option Task). IsSomeAnd o (λ (t : Task). IsOfText (setting_of program (places_of places) a.task) t.body a)) is of)
  cases (Some task) is =
      let s : Setting = setting_of program (places_of places) a.task in
      let text : IsOfText s task.body a = and_some (λ (t : Task). IsOfText s t.body a) (slice_get program.tasks a.task) task is of in
      let task_keeps : TaskKeepsLimits program.variables task = task_at (TaskKeepsLimits program.variables) program.tasks a.task task is keeps.each_task in
      let fits : FitsTickets (block_sites s task.body) = tickets_fit s task.body task_keeps.body in
      let low : (x : ℕ) → IsLow (bytes_in s x) = λ x. low_bytes program.variables places fit keeps.variables x in
      let proper : IsProper text.site = proper_sites (IsVariable program.variables) (length task.registers) (bytes_in s) low task.body task_keeps.typed a.site text.site text.stands in
      let few : text.site.times ≤ 256 = fits.times a.site text.site text.stands in
      let there : a.task < length program.tasks = slice_get_within program.tasks a.task task is in
      let site_there : a.site < length (block_sites s task.body) = slice_get_within (block_sites s task.body) a.site text.site text.stands in
      let addr : a.addr ≡ text.site.bytes.addr = ap (λ (b : Access). b.addr) text.is in
      let size : a.size ≡ text.site.bytes.size = ap (λ (b : Access). b.size) text.is in
      let mask : text.site.mask ≡ a.mask = sym (ap (λ (b : Access). b.mask) text.is) in (
        record {
          task = omega (arith, keeps.tasks);
          site = omega (arith, fits.numbers);
          rep = omega (arith, text.rep);
          range = omega (arith, proper.range);
        },
        no_empty_mask a.mask (subst (λ (m : Option ℕ). proper_mask m ≡ m) mask proper.mask),
      )
