-- Two scoped assertions whose records begin alike: what is shared is told the same.
use Rattle.std.proofs.Common.{◌≡◌, ◌↔◌, ◌∙◌, ◌<◌, ◌≤◌, ◌++◌, ◌∷◌, [], ℕ, suc, Bool, IsTrue, List, ap, arith, drop, inl, inr, length, refl, subst, sym}
use Rattle.std.proofs.lemmas.List.{append-nil}
use Rattle.access_types.specs.Access as access
use Rattle.access_types.specs.declared.history.Happening.TheVariants.{Begin, End}
use Rattle.litmus_semantics.specs.Task as meaning
use Rattle.setup_access.specs.Check.{Check, Close}
use Rattle.setup_access.specs.declared.begun.Begun.{Begun}
use Rattle.slot_table.specs.declared.records.Record.{Record}
use Rattle.program_order.specs.Standing.{IsDisabled, Setting, Standing, checks_of, doing}
use Rattle.program_order.specs.WrittenOrder.{ClosesScope, OpensScope}
use Rattle.executions.proofs.observation_determinism.AccessGoes.{Meets, begins_one, near_doing, one_answer}
use Rattle.executions.proofs.observation_determinism.CheckGoes.{check_low, check_on, close_low, close_on}
use Rattle.executions.proofs.observation_determinism.Cuts.{Alike, FellAlike, Low, Near, alike_coming, alike_low, cut_fell, cut_way, fell_append, fell_with, low_coming}

module _ (s : Setting) where
  module _ (a : access.Access) where
    pub opens_low : (before : Standing) (records : List Record) (begun : Begun) (after : Standing) (rest : List Record)
        → OpensScope s before a records begun after rest → (length rest < length records) × ((n : ℕ) → length records ≤ n → Low n before after)
    opens_low before [] begun after rest h = absurd h.check.2
    opens_low before (first ∷ later) begun after rest h =
        let checked = check_low (checks_of s) before.scopes begun before.asked (first ∷ later) h.passes rest h.check in (
          checked.0,
          λ n low.
              let enough : suc (length later) ≤ n = low in
              let began : Low n before (doing before later (Begin a ∷ [])) =
              low_coming n before later (meaning.doing before.progress (Begin a ∷ [])) (omega (arith, enough)) in
              record {
                way = ap (λ (st : Standing). cut_way n st.way) h.comes_to ∙ began.way;
                fell = ap (λ (st : Standing). cut_fell n st.outcomes) h.comes_to
                    ∙ (fell_append n before.outcomes h.passes.outcomes
                    ∙ (ap (λ l. cut_fell n before.outcomes ++ l) (checked.1 n low) ∙ append-nil (cut_fell n before.outcomes)));
              },
        )

    module _ (X Y : List Record) (one other : Standing) (begun next : Begun) (after end : Standing) (q r : List Record) (near : Near X Y one other) where
      opened_alike : (records others : List Record) → (h : OpensScope s one a records begun after q) → (g : OpensScope s other a others next end r)
          → FellAlike X Y h.passes.outcomes g.passes.outcomes
          → Alike X Y (doing one (drop 1 records) (Begin a ∷ [])) (doing other (drop 1 others) (Begin a ∷ [])) → Alike X Y after end
      opened_alike records others h g fell began = record {
        way = ap (λ (st : Standing). cut_way (length X) st.way) h.comes_to ∙ (began.way ∙ ap (λ (st : Standing). cut_way (length Y) st.way) (sym g.comes_to));
        fell = ap (λ (st : Standing). cut_fell (length X) st.outcomes) h.comes_to
            ∙ (fell_with X Y one.outcomes other.outcomes h.passes.outcomes g.passes.outcomes near.alike.fell fell
            ∙ ap (λ (st : Standing). cut_fell (length Y) st.outcomes) (sym g.comes_to));
      }

      pub opens_go : (S : List Record) → OpensScope s one a (S ++ X) begun after q → OpensScope s other a (S ++ Y) next end r
          → Meets X Y (begun ≡ next) after end q r
      opens_go [] h g =
          let first = opens_low one X begun after q h in
          let second = opens_low other Y next end r g in
          inr (
            first.0,
            second.0,
            alike_low X Y one other after end near.alike (first.1 (length X) (omega arith)) (second.1 (length Y) (omega arith)),
          )
      opens_go (t ∷ S) h g =
          let same : begun ≡ next = begins_one s one other a begun next near.progress h.begins g.begins in
          let check : Check (checks_of s) one.scopes begun one.asked (t ∷ (S ++ Y)) g.passes r =
          subst (λ (b : Begun). Check (checks_of s) one.scopes b one.asked (t ∷ (S ++ Y)) g.passes r) (sym same)
          (subst (λ (n : ℕ). Check (checks_of s) one.scopes next n (t ∷ (S ++ Y)) g.passes r) (sym near.asked)
          (subst (λ (l : List Begun). Check (checks_of s) l next other.asked (t ∷ (S ++ Y)) g.passes r) (sym near.scopes) g.check)) in
          let both : Near X Y (doing one (S ++ X) (Begin a ∷ [])) (doing other (S ++ Y) (Begin a ∷ [])) =
          near_doing X Y S one other (Begin a ∷ []) (Begin a ∷ []) near refl in
          elim (check_on (checks_of s) X Y S t one.scopes begun one.asked h.passes g.passes q r h.check check) [
            | inl on ↦ inl (
              on.0,
              on.1,
              on.2,
              (
                record {
                  progress = ap (λ (st : Standing). st.progress) h.comes_to ∙ (both.progress ∙ ap (λ (st : Standing). st.progress) (sym g.comes_to));
                  unbalanced = ap (λ (st : Standing). st.unbalanced) h.comes_to ∙ (near.unbalanced ∙ ap (λ (st : Standing). st.unbalanced) (sym g.comes_to));
                  asked = ap (λ (st : Standing). st.asked) h.comes_to ∙ (on.3.0 ∙ ap (λ (st : Standing). st.asked) (sym g.comes_to));
                  scopes = ap (λ (st : Standing). st.scopes) h.comes_to
                      ∙ (ap (λ (l : List Begun). l ++ begun ∷ []) near.scopes
                      ∙ (ap (λ (b : Begun). other.scopes ++ b ∷ []) same ∙ ap (λ (st : Standing). st.scopes) (sym g.comes_to)));
                  alike = opened_alike (t ∷ (S ++ X)) (t ∷ (S ++ Y)) h g on.3.1 both.alike;
                },
                same,
              ),
            )
            | inr far ↦ inr (far.0, far.1, opened_alike (t ∷ (S ++ X)) (t ∷ (S ++ Y)) h g far.2 both.alike)
          ]

  -- the close of one
  pub closes_low : (before : Standing) (begun : Begun) (scopes : List Begun) (records : List Record) (after : Standing) (rest : List Record)
      → ClosesScope s before begun scopes records after rest → (length rest ≤ length records) × ((n : ℕ) → length records < n → Low n before after)
  closes_low before begun scopes records after rest h =
      let closed = close_low (checks_of s) begun h.silenced before.asked records h.passes rest h.close in
      let less : length rest ≤ length records = closed.0 in (
        less,
        λ n low.
            let ended : Low n before (doing before rest (End begun.access ∷ [])) =
            low_coming n before rest (meaning.doing before.progress (End begun.access ∷ [])) (omega (arith, less, low)) in
            record {
              way = ap (λ (st : Standing). cut_way n st.way) h.comes_to ∙ ended.way;
              fell = ap (λ (st : Standing). cut_fell n st.outcomes) h.comes_to
                  ∙ (fell_append n before.outcomes h.passes.outcomes
                  ∙ (ap (λ l. cut_fell n before.outcomes ++ l) (closed.1 n low) ∙ append-nil (cut_fell n before.outcomes)));
            },
      )

  module _ (X Y : List Record) (one other : Standing) (begun : Begun) (scopes : List Begun) (after end : Standing) (q r : List Record)
      (near : Near X Y one other) where
    closed_alike : (records others : List Record) → (h : ClosesScope s one begun scopes records after q) → (g : ClosesScope s other begun scopes others end r)
        → FellAlike X Y h.passes.outcomes g.passes.outcomes
        → Alike X Y (doing one q (End begun.access ∷ [])) (doing other r (End begun.access ∷ [])) → Alike X Y after end
    closed_alike records others h g fell ended = record {
      way = ap (λ (st : Standing). cut_way (length X) st.way) h.comes_to ∙ (ended.way ∙ ap (λ (st : Standing). cut_way (length Y) st.way) (sym g.comes_to));
      fell = ap (λ (st : Standing). cut_fell (length X) st.outcomes) h.comes_to
          ∙ (fell_with X Y one.outcomes other.outcomes h.passes.outcomes g.passes.outcomes near.alike.fell fell
          ∙ ap (λ (st : Standing). cut_fell (length Y) st.outcomes) (sym g.comes_to));
    }

    pub closes_go : (S : List Record) → ClosesScope s one begun scopes (S ++ X) after q → ClosesScope s other begun scopes (S ++ Y) end r
        → Meets X Y (Unit {0}) after end q r
    closes_go S h g =
        let silenced : IsTrue g.silenced ↔ IsDisabled s one =
        subst (λ (p : meaning.Progress). IsTrue g.silenced ↔ IsDisabled s (record other { progress = p })) (sym near.progress) g.is_silenced in
        let same : h.silenced ≡ g.silenced = one_answer h.silenced g.silenced (IsDisabled s one) h.is_silenced silenced in
        let close : Close (checks_of s) begun h.silenced one.asked (S ++ Y) g.passes r =
        subst (λ (b : Bool). Close (checks_of s) begun b one.asked (S ++ Y) g.passes r) (sym same)
        (subst (λ (n : ℕ). Close (checks_of s) begun g.silenced n (S ++ Y) g.passes r) (sym near.asked) g.close) in
        elim (close_on (checks_of s) X Y S begun h.silenced one.asked h.passes g.passes q r h.close close) [
          | inl on ↦
              let both : Near X Y (doing one (on.0 ++ X) (End begun.access ∷ [])) (doing other (on.0 ++ Y) (End begun.access ∷ [])) =
              near_doing X Y on.0 one other (End begun.access ∷ []) (End begun.access ∷ []) near refl in
              let ended : Near X Y (doing one q (End begun.access ∷ [])) (doing other r (End begun.access ∷ [])) =
              subst (λ (l : List Record). Near X Y (doing one q (End begun.access ∷ [])) (doing other l (End begun.access ∷ []))) (sym on.2)
              (subst (λ (l : List Record). Near X Y (doing one l (End begun.access ∷ [])) (doing other (on.0 ++ Y) (End begun.access ∷ []))) (sym on.1) both) in
              inl (
                on.0,
                on.1,
                on.2,
                (
                  record {
                    progress = ap (λ (st : Standing). st.progress) h.comes_to ∙ (ended.progress ∙ ap (λ (st : Standing). st.progress) (sym g.comes_to));
                    unbalanced = ap (λ (st : Standing). st.unbalanced) h.comes_to ∙ (near.unbalanced ∙ ap (λ (st : Standing). st.unbalanced) (sym g.comes_to));
                    asked = ap (λ (st : Standing). st.asked) h.comes_to ∙ (on.3.0 ∙ ap (λ (st : Standing). st.asked) (sym g.comes_to));
                    scopes = ap (λ (st : Standing). st.scopes) h.comes_to ∙ ap (λ (st : Standing). st.scopes) (sym g.comes_to);
                    alike = closed_alike (S ++ X) (S ++ Y) h g on.3.1 ended.alike;
                  },
                  tt,
                ),
              )
          | inr far ↦ inr (
            far.0,
            far.1,
            closed_alike (S ++ X) (S ++ Y) h g far.2
                (alike_coming X Y one other q r (meaning.doing one.progress (End begun.access ∷ []))
                (meaning.doing other.progress (End begun.access ∷ [])) near.alike far.0 far.1),
          )
        ]
