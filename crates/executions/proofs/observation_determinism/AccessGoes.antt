-- Two accesses, or scoped assertions, whose records begin alike: what is shared is told the same.
use Rattle.std.proofs.Common.{◌≡◌, ◌↔◌, ◌∙◌, ◌<◌, ◌≤◌, ◌++◌, ◌∷◌, [], ℕ, Bool, true, false, IsTrue, List, Option, None, Some, ◌+◌, suc, ap, arith, drop, inl}
use Rattle.std.proofs.Common.{inr, length, refl, subst, sym}
use Rattle.std.proofs.lemmas.List.{append-nil, length-append}
use Rattle.std.specs.Coded.{le_prop}
use Rattle.access_types.specs.Access as access
use Rattle.access_types.specs.Marked.{CountsAfter}
use Rattle.access_types.specs.declared.history.Happening.{Happening}
use Rattle.access_types.specs.declared.history.Happening.TheVariants.{Begin, End}
use Rattle.litmus_semantics.specs.Task as meaning
use Rattle.access_run.specs.memory_operation.Effects.{moments_of, read_moments, write_moments}
use Rattle.access_run.specs.memory_operation.Operations.{Operates}
use Rattle.access_run.specs.declared.memory_operation.effect.Effect.{Effect}
use Rattle.access_run.specs.declared.memory_operation.operation.Operation.{Operation}
use Rattle.access_run.specs.declared.memory_operation.operation.Operation.TheVariants as operations
use Rattle.setup_access.specs.Check.{Check}
use Rattle.setup_access.specs.Records.{MakesWord}
use Rattle.setup_access.specs.declared.begun.Begun.{Begun}
use Rattle.setup_access.specs.declared.source.Source.{Source}
use Rattle.slot_table.specs.declared.records.Record.{Record}
use Rattle.slot_table.specs.declared.step.Step.TheVariants.{Clock}
use Rattle.program_order.specs.Access.{Makes, operated}
use Rattle.program_order.specs.Standing.{BeginsNow, IsDisabled, Setting, Standing, checks_of, doing, moments}
use Rattle.executions.proofs.observation_determinism.CheckGoes.{check_low, check_on}
use Rattle.executions.proofs.observation_determinism.Cuts.{Alike, FellAlike, Low, Near, alike_coming, alike_low, cut_fell, cut_way, fell_append, fell_with, low_coming, low_on}
use Rattle.executions.proofs.observation_determinism.Cuts.{low_same, near_coming}
use Rattle.executions.proofs.observation_determinism.Sure.{Goes}
use Rattle.executions.proofs.observation_determinism.SureOperations.{add_later, add_reads, clocks, one_source, operates, read_by}

-- two answers to one question are one
pub one_answer : (a b : Bool) (P : Type 0) → (IsTrue a ↔ P) → (IsTrue b ↔ P) → a ≡ b
one_answer true true P one other = refl
one_answer true false P one other = let no : false ≡ true = other.1 (one.0 refl) in cc
one_answer false true P one other = let no : false ≡ true = one.1 (other.0 refl) in cc
one_answer false false P one other = refl

-- what is decided of an access when it begins makes it what it is
begun_is : (one other : Begun) → one.access ≡ other.access → one.marked ≡ other.marked → one.silenced ≡ other.silenced → one ≡ other
begun_is one other same marked silenced =
    let here : one ≡ record { access = other.access; marked = one.marked; silenced = one.silenced; has_bytes = other.has_bytes } =
    subst (λ (a : access.Access). (h : 0 < a.size) → one ≡ record { access = a; marked = one.marked; silenced = one.silenced; has_bytes = h }) same
    (λ h. ap (λ (g : 0 < one.access.size). record { access = one.access; marked = one.marked; silenced = one.silenced; has_bytes = g })
    (le_prop one.has_bytes h))
    other.has_bytes in
    here ∙ (ap (λ (m : Bool). record { access = other.access; marked = m; silenced = one.silenced; has_bytes = other.has_bytes }) marked
    ∙ ap (λ (l : Bool). record { access = other.access; marked = other.marked; silenced = l; has_bytes = other.has_bytes }) silenced)

pub begins_one : (s : Setting) (before start : Standing) (a : access.Access) (one other : Begun) → before.progress ≡ start.progress → BeginsNow s before a one
    → BeginsNow s start a other → one ≡ other
begins_one s before start a one other same first second =
    let progress : start.progress ≡ before.progress = sym same in
    let marked : IsTrue other.marked ↔ CountsAfter s.rules.plain_writes_atomic a (moments s before) =
    subst (λ (p : meaning.Progress). IsTrue other.marked ↔ CountsAfter s.rules.plain_writes_atomic a
    (moments s (record start { progress = p }))) progress second.marked in
    let silenced : IsTrue other.silenced ↔ IsDisabled s before =
    subst (λ (p : meaning.Progress). IsTrue other.silenced ↔ IsDisabled s (record start { progress = p })) progress second.silenced in
    begun_is one other (first.access ∙ sym second.access)
    (one_answer one.marked other.marked (CountsAfter s.rules.plain_writes_atomic a (moments s before)) first.marked marked)
    (one_answer one.silenced other.silenced (IsDisabled s before) first.silenced silenced)

abbrev pub Meets : List Record → List Record → Type 0 → Standing → Standing → List Record → List Record → Type 0
Meets X Y Same one other q r = Goes X Y (Near X Y one other × Same) (Alike X Y one other) q r

pub near_doing : (X Y S : List Record) (one other : Standing) (does next : List Happening) → Near X Y one other → does ≡ next
    → Near X Y (doing one (S ++ X) does) (doing other (S ++ Y) next)
near_doing X Y S one other does next near same =
    near_coming X Y S one other (meaning.doing one.progress does) (meaning.doing other.progress next) near
    (ap (λ (p : meaning.Progress). meaning.doing p does) near.progress ∙ ap (λ (d : List Happening). meaning.doing other.progress d) same)

-- an operation
module _ (s : Setting) (a : access.Access) where
  operated_low : (n : ℕ) (operation : Option Operation) (before : Standing) (records : List Record) (effect : Effect) (rest : List Record)
      → length records < n → length rest < n → Low n before (operated a operation before records effect rest)
  operated_low n None before records effect rest low lower = low_same n before
  operated_low n (Some operations.Load) before records effect rest low lower = low_coming n before rest
      (meaning.doing before.progress (moments_of a effect)) lower
  operated_low n (Some (operations.Add amount)) before records effect rest low lower =
      let read : Standing = doing before (drop 1 records) (read_moments a effect.read) in
      let less : length (drop 1 records) ≤ length records = drop_less records in
      low_on n before read (doing read rest (write_moments a effect.written))
      (low_coming n before (drop 1 records) (meaning.doing before.progress (read_moments a effect.read)) (omega (arith, less, low)))
      (low_coming n read rest (meaning.doing read.progress (write_moments a effect.written)) lower)
    where
      drop_less : (r : List Record) → length (drop 1 r) ≤ length r
      drop_less [] = omega arith
      drop_less (first ∷ later) = omega arith
  operated_low n (Some (operations.Change change)) before records effect rest low lower =
      low_coming n before rest (meaning.doing before.progress (moments_of a effect)) lower

  -- one that happens at its last step
  at_once : (X Y S : List Record) (operation : Operation) (one other : Standing) (v w : Effect) (q r : List Record) → Near X Y one other
      → Operates (checks_of s) a (Some operation) (S ++ X) v q → Operates (checks_of s) a (Some operation) (S ++ Y) w r
      → Meets X Y (v ≡ w) (doing one q (moments_of a v)) (doing other r (moments_of a w)) q r
  at_once X Y S operation one other v w q r near h g = elim ((operates (checks_of s) a (Some operation)).agrees X Y S v w q r h g) [
    | inl on ↦
        let does : Near X Y (doing one (on.0 ++ X) (moments_of a v)) (doing other (on.0 ++ Y) (moments_of a w)) =
        near_doing X Y on.0 one other (moments_of a v) (moments_of a w) near (ap (λ (e : Effect). moments_of a e) on.3) in
        inl (
          on.0,
          on.1,
          on.2,
          (
            subst (λ (l : List Record). Near X Y (doing one q (moments_of a v)) (doing other l (moments_of a w))) (sym on.2)
                (subst (λ (l : List Record). Near X Y (doing one l (moments_of a v)) (doing other (on.0 ++ Y) (moments_of a w))) (sym on.1) does),
            on.3,
          ),
        )
    | inr far ↦ inr (
      far.0,
      far.1,
      alike_coming X Y one other q r (meaning.doing one.progress (moments_of a v)) (meaning.doing other.progress (moments_of a w)) near.alike far.0 far.1,
    )
  ]

  -- a compound assignment reads at its first step
  adds : (X Y S : List Record) (amount : ℕ) (one other : Standing) (v w : Effect) (q r : List Record) → Near X Y one other
      → Operates (checks_of s) a (Some (operations.Add amount)) (S ++ X) v q → Operates (checks_of s) a (Some (operations.Add amount)) (S ++ Y) w r
      → Meets X Y (v ≡ w) (operated a (Some (operations.Add amount)) one (S ++ X) v q) (operated a (Some (operations.Add amount)) other (S ++ Y) w r) q r
  adds [] Y [] amount one other v w q r near h g = absurd h.2
  adds (x ∷ X) [] [] amount one other v w q r near h g = absurd g.2
  adds (x ∷ X) (y ∷ Y) [] amount one other v w q r near h g =
      elim ((operates (checks_of s) a (Some (operations.Add amount))).agrees (x ∷ X) (y ∷ Y) [] v w q r h g) [
        | inl on ↦
            let no : length q < length (x ∷ X) = add_less x X v q h in
            let size : length q ≡ length (on.0 ++ x ∷ X) = ap (λ (l : List Record). length l) on.1 in
            let sum : length (on.0 ++ x ∷ X) ≡ length on.0 + length (x ∷ X) = length-append on.0 (x ∷ X) in
            absurd (omega (arith, no, size, sum))
        | inr far ↦
            let reads : Alike (x ∷ X) (y ∷ Y) (doing one X (read_moments a v.read)) (doing other Y (read_moments a w.read)) =
            alike_coming (x ∷ X) (y ∷ Y) one other X Y (meaning.doing one.progress (read_moments a v.read))
            (meaning.doing other.progress (read_moments a w.read)) near.alike
            (omega arith) (omega arith) in
            inr (
              far.0,
              far.1,
              alike_coming (x ∷ X) (y ∷ Y) (doing one X (read_moments a v.read)) (doing other Y (read_moments a w.read)) q r
                  (meaning.doing (meaning.doing one.progress (read_moments a v.read)) (write_moments a v.written))
                  (meaning.doing (meaning.doing other.progress (read_moments a w.read)) (write_moments a w.written)) reads far.0 far.1,
            )
      ]
    where
      add_less : (first : Record) (later : List Record) (effect : Effect) (rest : List Record)
          → Operates (checks_of s) a (Some (operations.Add amount)) (first ∷ later) effect rest → length rest < length (first ∷ later)
      add_less first later effect rest got =
          let less : length rest ≤ length later = add_later s.text.task a got.0 amount first later effect rest got.2 in omega (arith, less)
  adds X Y (t ∷ S) amount one other v w q r near h g =
      let source : h.0 ≡ g.0 = one_source (checks_of s) a h.0 g.0 h.1 g.1 in
      let first : v.read ≡ read_by a g.0 t.answer = add_reads s.text.task a h.0 amount t (S ++ X) v q h.2 ∙ ap (λ (o : Source). read_by a o t.answer) source in
      let second : w.read ≡ read_by a g.0 t.answer = add_reads s.text.task a g.0 amount t (S ++ Y) w r g.2 in
      let same : v.read ≡ w.read = first ∙ sym second in
      let begun : Standing = doing one (S ++ X) (read_moments a v.read) in
      let start : Standing = doing other (S ++ Y) (read_moments a w.read) in
      let reads : Near X Y begun start = near_doing X Y S one other (read_moments a v.read) (read_moments a w.read) near
      (ap (λ (o : Option ℕ). read_moments a o) same) in
      elim ((operates (checks_of s) a (Some (operations.Add amount))).agrees X Y (t ∷ S) v w q r h g) [
        | inl on ↦
            let does : Near X Y (doing begun (on.0 ++ X) (write_moments a v.written)) (doing start (on.0 ++ Y) (write_moments a w.written)) =
            near_doing X Y on.0 begun start (write_moments a v.written) (write_moments a w.written) reads
            (ap (λ (e : Effect). write_moments a e.written) on.3) in
            inl (
              on.0,
              on.1,
              on.2,
              (
                subst (λ (l : List Record). Near X Y (doing begun q (write_moments a v.written)) (doing start l (write_moments a w.written))) (sym on.2)
                    (subst (λ (l : List Record). Near X Y (doing begun l (write_moments a v.written)) (doing start (on.0 ++ Y) (write_moments a w.written)))
                    (sym on.1) does),
                on.3,
              ),
            )
        | inr far ↦ inr (
          far.0,
          far.1,
          alike_coming X Y begun start q r (meaning.doing begun.progress (write_moments a v.written))
              (meaning.doing start.progress (write_moments a w.written)) reads.alike
              far.0 far.1,
        )
      ]

  operation_goes : (X Y S : List Record) (operation : Option Operation) (one other : Standing) (v w : Effect) (q r : List Record) → Near X Y one other
      → Operates (checks_of s) a operation (S ++ X) v q → Operates (checks_of s) a operation (S ++ Y) w r
      → Meets X Y (v ≡ w) (operated a operation one (S ++ X) v q) (operated a operation other (S ++ Y) w r) q r
  operation_goes X Y S None one other v w q r near h g = inl (S, h.1, g.1, (near, h.0 ∙ sym g.0))
  operation_goes X Y S (Some operations.Load) one other v w q r near h g = at_once X Y S operations.Load one other v w q r near h g
  operation_goes X Y S (Some (operations.Add amount)) one other v w q r near h g = adds X Y S amount one other v w q r near h g
  operation_goes X Y S (Some (operations.Change change)) one other v w q r near h g = at_once X Y S (operations.Change change) one other v w q r near h g

-- an access
module _ (s : Setting) (a : access.Access) (operation : Option Operation) where
  abbrev ended_by : (before : Standing) (records : List Record) (effect : Effect) (after : Standing) (rest : List Record)
      → Makes s before a operation records effect after rest → Standing
  ended_by before records effect after rest h =
      doing (operated a operation (doing before (drop 1 records) (Begin a ∷ [])) h.checked effect h.done) rest (End a ∷ [])

  pub makes_low : (before : Standing) (records : List Record) (effect : Effect) (after : Standing) (rest : List Record)
      → Makes s before a operation records effect after rest → (length rest < length records) × ((n : ℕ) → length records ≤ n → Low n before after)
  makes_low before [] effect after rest h = absurd h.check.2
  makes_low before (first ∷ later) effect after rest h =
      let checked = check_low (checks_of s) before.scopes h.begun before.asked (first ∷ later) h.passes h.checked h.check in
      let one : length h.checked < suc (length later) = checked.0 in
      let two : length h.done ≤ length h.checked = (operates (checks_of s) a operation).shrinks h.checked effect h.done h.operates in
      let three : length rest ≤ length h.done = (clocks s.text.task).shrinks h.done tt rest h.ends in
      let began : Standing = doing before later (Begin a ∷ []) in
      let made : Standing = operated a operation began h.checked effect h.done in (
        omega (arith, one, two, three),
        λ n low.
            let enough : suc (length later) ≤ n = low in
            let whole : Low n before (doing made rest (End a ∷ [])) =
            low_on n before began (doing made rest (End a ∷ []))
            (low_coming n before later (meaning.doing before.progress (Begin a ∷ [])) (omega (arith, enough)))
            (low_on n began made (doing made rest (End a ∷ []))
            (operated_low s a n operation began h.checked effect h.done (omega (arith, enough, one)) (omega (arith, enough, one, two)))
            (low_coming n made rest (meaning.doing made.progress (End a ∷ [])) (omega (arith, enough, one, two, three)))) in
            record {
              way = ap (λ (st : Standing). cut_way n st.way) h.comes_to ∙ whole.way;
              fell = ap (λ (st : Standing). cut_fell n st.outcomes) h.comes_to
                  ∙ (fell_append n before.outcomes h.passes.outcomes
                  ∙ (ap (λ l. cut_fell n before.outcomes ++ l) (checked.1 n low) ∙ append-nil (cut_fell n before.outcomes)));
            },
      )

  module _ (X Y : List Record) (one other : Standing) (v w : Effect) (after end : Standing) (q r : List Record) (near : Near X Y one other) where
    -- what the accesses tell, by what their checks and their ends tell
    alike_after : (records others : List Record) → (h : Makes s one a operation records v after q) → (g : Makes s other a operation others w end r)
        → FellAlike X Y h.passes.outcomes g.passes.outcomes
        → Alike X Y (ended_by one records v after q h) (ended_by other others w end r g) → Alike X Y after end
    alike_after records others h g fell ends = record {
      way = ap (λ (st : Standing). cut_way (length X) st.way) h.comes_to ∙ (ends.way ∙ ap (λ (st : Standing). cut_way (length Y) st.way) (sym g.comes_to));
      fell = ap (λ (st : Standing). cut_fell (length X) st.outcomes) h.comes_to
          ∙ (fell_with X Y one.outcomes other.outcomes h.passes.outcomes g.passes.outcomes near.alike.fell fell
          ∙ ap (λ (st : Standing). cut_fell (length Y) st.outcomes) (sym g.comes_to));
    }

    near_after : (records others : List Record) → (h : Makes s one a operation records v after q) → (g : Makes s other a operation others w end r)
        → h.passes.asked ≡ g.passes.asked → FellAlike X Y h.passes.outcomes g.passes.outcomes
        → Near X Y (ended_by one records v after q h) (ended_by other others w end r g) → Near X Y after end
    near_after records others h g asked fell ends = record {
      progress = ap (λ (st : Standing). st.progress) h.comes_to ∙ (ends.progress ∙ ap (λ (st : Standing). st.progress) (sym g.comes_to));
      unbalanced = ap (λ (st : Standing). st.unbalanced) h.comes_to ∙ (ends.unbalanced ∙ ap (λ (st : Standing). st.unbalanced) (sym g.comes_to));
      asked = ap (λ (st : Standing). st.asked) h.comes_to ∙ (asked ∙ ap (λ (st : Standing). st.asked) (sym g.comes_to));
      scopes = ap (λ (st : Standing). st.scopes) h.comes_to ∙ (ends.scopes ∙ ap (λ (st : Standing). st.scopes) (sym g.comes_to));
      alike = alike_after records others h g fell ends.alike;
    }

    -- nothing of the accesses is shared
    apart : (h : Makes s one a operation X v after q) → (g : Makes s other a operation Y w end r) → Meets X Y (v ≡ w) after end q r
    apart h g =
        let first = makes_low one X v after q h in
        let second = makes_low other Y w end r g in
        inr (
          first.0,
          second.0,
          alike_low X Y one other after end near.alike (first.1 (length X) (omega arith)) (second.1 (length Y) (omega arith)),
        )

    -- their first records are
    shared : (t : Record) (S : List Record) → (h : Makes s one a operation (t ∷ (S ++ X)) v after q) → (g : Makes s other a operation (t ∷ (S ++ Y)) w end r)
        → Meets X Y (v ≡ w) after end q r
    shared t S h g =
        let begun : h.begun ≡ g.begun = begins_one s one other a h.begun g.begun near.progress h.begins g.begins in
        let check : Check (checks_of s) one.scopes h.begun one.asked (t ∷ (S ++ Y)) g.passes g.checked =
        subst (λ (b : Begun). Check (checks_of s) one.scopes b one.asked (t ∷ (S ++ Y)) g.passes g.checked) (sym begun)
        (subst (λ (n : ℕ). Check (checks_of s) one.scopes g.begun n (t ∷ (S ++ Y)) g.passes g.checked) (sym near.asked)
        (subst (λ (l : List Begun). Check (checks_of s) l g.begun other.asked (t ∷ (S ++ Y)) g.passes g.checked) (sym near.scopes) g.check)) in
        let began : Standing = doing one (S ++ X) (Begin a ∷ []) in
        let start : Standing = doing other (S ++ Y) (Begin a ∷ []) in
        let both : Near X Y began start = near_doing X Y S one other (Begin a ∷ []) (Begin a ∷ []) near refl in
        let made : Standing = operated a operation began h.checked v h.done in
        let other_made : Standing = operated a operation start g.checked w g.done in
        elim (check_on (checks_of s) X Y S t one.scopes h.begun one.asked h.passes g.passes h.checked g.checked h.check check) [
          | inl checked ↦
              let meets : Meets X Y (v ≡ w) (operated a operation began (checked.0 ++ X) v h.done)
              (operated a operation start (checked.0 ++ Y) w g.done) h.done g.done =
              operation_goes s a X Y checked.0 operation began start v w h.done g.done both
              (subst (λ (l : List Record). Operates (checks_of s) a operation l v h.done) checked.1 h.operates)
              (subst (λ (l : List Record). Operates (checks_of s) a operation l w g.done) checked.2 g.operates) in
              let operated_so : Meets X Y (v ≡ w) made other_made h.done g.done =
              subst (λ (l : List Record). Meets X Y (v ≡ w) made (operated a operation start l w g.done) h.done g.done) (sym checked.2)
              (subst (λ (l : List Record). Meets X Y (v ≡ w) (operated a operation began l v h.done)
              (operated a operation start (checked.0 ++ Y) w g.done) h.done g.done)
              (sym checked.1) meets) in
              elim operated_so [
                | inl done ↦
                    elim ((clocks s.text.task).agrees X Y done.0 tt tt q r
                    (subst (λ (l : List Record). MakesWord s.text.task Clock (λ stamp later. q ≡ later) l) done.1 h.ends)
                    (subst (λ (l : List Record). MakesWord s.text.task Clock (λ stamp later. r ≡ later) l) done.2 g.ends)) [
                      | inl on ↦
                          let ends : Near X Y (doing made (on.0 ++ X) (End a ∷ [])) (doing other_made (on.0 ++ Y) (End a ∷ [])) =
                          near_doing X Y on.0 made other_made (End a ∷ []) (End a ∷ []) done.3.0 refl in
                          inl (
                            on.0,
                            on.1,
                            on.2,
                            (
                              near_after (t ∷ (S ++ X)) (t ∷ (S ++ Y)) h g checked.3.0 checked.3.1
                                  (subst (λ (l : List Record). Near X Y (doing made q (End a ∷ [])) (doing other_made l (End a ∷ []))) (sym on.2)
                                  (subst (λ (l : List Record). Near X Y (doing made l (End a ∷ [])) (doing other_made (on.0 ++ Y) (End a ∷ [])))
                                  (sym on.1) ends)),
                              done.3.1,
                            ),
                          )
                      | inr far ↦ inr (
                        far.0,
                        far.1,
                        alike_after (t ∷ (S ++ X)) (t ∷ (S ++ Y)) h g checked.3.1
                            (alike_coming X Y made other_made q r (meaning.doing made.progress (End a ∷ []))
                            (meaning.doing other_made.progress (End a ∷ [])) done.3.0.alike far.0 far.1),
                      )
                    ]
                | inr far ↦ ended_far (t ∷ (S ++ X)) (t ∷ (S ++ Y)) h g checked.3.1 far.2 far.0 far.1
              ]
          | inr far ↦
              let two : length h.done ≤ length h.checked = (operates (checks_of s) a operation).shrinks h.checked v h.done h.operates in
              let second : length g.done ≤ length g.checked = (operates (checks_of s) a operation).shrinks g.checked w g.done g.operates in
              let low : length h.done < length X = omega (arith, two, far.0) in
              let lower : length g.done < length Y = omega (arith, second, far.1) in
              let operated_so : Alike X Y made other_made =
              alike_low X Y began start made other_made both.alike (operated_low s a (length X) operation began h.checked v h.done far.0 low)
              (operated_low s a (length Y) operation start g.checked w g.done far.1 lower) in
              ended_far (t ∷ (S ++ X)) (t ∷ (S ++ Y)) h g far.2 operated_so low lower
        ]
      where
        -- what is shared is over before the end
        ended_far : (records others : List Record) → (h : Makes s one a operation records v after q) → (g : Makes s other a operation others w end r)
            → FellAlike X Y h.passes.outcomes g.passes.outcomes
            → Alike X Y (operated a operation (doing one (drop 1 records) (Begin a ∷ [])) h.checked v h.done)
            (operated a operation (doing other (drop 1 others) (Begin a ∷ [])) g.checked w g.done)
            → length h.done < length X → length g.done < length Y → Meets X Y (v ≡ w) after end q r
        ended_far records others h g fell made low lower =
            let three : length q ≤ length h.done = (clocks s.text.task).shrinks h.done tt q h.ends in
            let third : length r ≤ length g.done = (clocks s.text.task).shrinks g.done tt r g.ends in
            let first : length q < length X = omega (arith, three, low) in
            let second : length r < length Y = omega (arith, third, lower) in
            inr (
              first,
              second,
              alike_after records others h g fell (alike_coming X Y _ _ q r _ _ made first second),
            )

    pub makes_go : (S : List Record) → Makes s one a operation (S ++ X) v after q → Makes s other a operation (S ++ Y) w end r
        → Meets X Y (v ≡ w) after end q r
    makes_go [] h g = apart h g
    makes_go (t ∷ S) h g = shared t S h g
