-- One more is answered.
use Rattle.std.proofs.Common.{◌≡◌, ◌≤◌, ◌∙◌, inl, inr, ℕ, ap, arith, length, slice_index_or, subst, sym}
use Rattle.std.proofs.lemmas.Bool.Decides.{eqb_tells}
use Rattle.std.proofs.lemmas.List.{get_or_default}
use Rattle.oracle_soundness.specs.oracle_headline.Tried.{IsAnswered, account_of}
use Rattle.slot_table.specs.Meetings.{Meeting}
use Rattle.oracle_soundness.proofs.oracle_headline.answers.all_answered.Goals as goal

pub loop-meeting-preserved : goal.loop-meeting-preserved
loop-meeting-preserved c = λ k d below.
    let index : ℕ = c.loop-meeting.meeting-index in
    elim (eqb_tells k index) [
      | inl same ↦
          let here : slice_index_or c.args.met.now k d ≡ c.meeting-item.result =
          ap (λ (n : ℕ). slice_index_or c.args.met.now n d) same.1
          ∙ (get_or_default c.args.met.now index d c.meeting-item.result c.loop-meeting-test.true ∙ sym c.meeting-item.is) in
          subst (λ (met : Meeting). IsAnswered (account_of c.args.told.now) met) (sym here) (c.is_answered_met.ensures c.if-not-is_answered_met.false)
      | inr apart ↦ c.loop-meeting.invariant k d (let differs : k ≡ index → ⊥ = apart.1 in omega (arith, below, differs))
    ]

pub returns : goal.returns
returns c = λ told_so k d below.
    c.loop-meeting.invariant k d (let over : length c.args.met.now ≤ c.loop-meeting.meeting-index = c.loop-meeting-test.false in omega (arith, below, over))
