-- Tasks whose threads start in another order, and what comes of them in the first.
use Rattle.std.proofs.Common.{◌≡◌, ◌<◌, ◌≤◌, ◌+◌, ◌-◌, ◌∙◌, ◌++◌, ◌∷◌, [], ℕ, List, Result, Some}
use Rattle.std.proofs.Common.{Vec, ap, append_assoc, arith, inl, inr, length, map, option_map, refl, slice_get, slice_index_or, subst, sym}
use Rattle.std.specs.List.{RotatedLeft, RotatedRight}
use Rattle.std.proofs.lemmas.Bool.Decides.{leb_tells}
use Rattle.std.proofs.lemmas.List.{length-map, map-append}
use Rattle.std.specs.Global.{Global}
use Rattle.runner.proofs.ColumnLemmas.{from_map}
use Rattle.std.proofs.lemmas.Option.{get_or_from_slice_get, same_Some, slice_get-map, slice_get_cases, slice_get_read, slice_get_within}
use Rattle.executions.specs.execution.Run.{Run}
use Rattle.runner.specs.Starts.{AreAllOutcomes, AreAllStarts, AreSomeStarts, ComeOf, IsOutcomeOfEach, IsTaskStart}
use Rattle.prepared_program.specs.declared.program_sites.error.RunError.{RunError}
use Rattle.runner.specs.declared.first.TaskStarts.{TaskStarts}
use Rattle.runner.specs.declared.seated.TaskResult.{TaskResult}
use Rattle.shared_table.specs.Seats.{Opened}

-- what comes of one task in several runs
abbrev pub Came : Type 0
Came = Vec (Result TaskResult RunError) Global

-- a list of no length has no item
pub empty_of : {X : Type 0} (xs : List X) → length xs ≡ 0 → xs ≡ []
empty_of [] none = refl
empty_of (x ∷ xs) none = absurd (omega (arith, none))

-- no thread promises yet
pub none_promised : {H S : Type 0} (of : H → ℕ) (number : S → ℕ) (handles : List H) (starts : List S) → handles ≡ []
    → map of handles ++ map number starts ≡ map number starts
none_promised {H} of number handles starts none = ap (λ (hs : List H). map of hs ++ map number starts) none

-- one thread more promises what comes of the next start
pub promised_on : {H S : Type 0} (of : H → ℕ) (number : S → ℕ) (handles : List H) (handle : H) (start : S) (rest : List S) (all : List ℕ)
    → of handle ≡ number start → map of handles ++ map number (start ∷ rest) ≡ all → map of (handles ++ handle ∷ []) ++ map number rest ≡ all
promised_on of number handles handle start rest all same is =
    ap (λ (ns : List ℕ). ns ++ map number rest) (map-append of handles (handle ∷ []))
    ∙ (append_assoc (map of handles) (of handle ∷ []) (map number rest) ∙ (ap (λ (n : ℕ). map of handles ++ n ∷ map number rest) same ∙ is))

-- the thread at a place promises what comes of the start at this place
pub same_number : {H S : Type 0} (of : H → ℕ) (number : S → ℕ) (handles : List H) (starts : List S) (at : ℕ) (handle : H) (start : S)
    → map of handles ≡ map number starts → slice_get handles at ≡ Some handle → slice_get starts at ≡ Some start → of handle ≡ number start
same_number of number handles starts at handle start same is_handle is_start =
    same_Some (of handle) (number start) (sym (slice_get-map of handles at ∙ ap (option_map of) is_handle)
    ∙ (ap (λ (ns : List ℕ). slice_get ns at) same ∙ (slice_get-map number starts at ∙ ap (option_map number) is_start)))

-- an item that stands at a place after a turn stood at the place from which the turn took it
moved : {X : Type 0} (xs ys : List X) (at from : ℕ) (x : X) → from < length xs → ((d : X) → slice_index_or ys at d ≡ slice_index_or xs from d)
    → slice_get ys at ≡ Some x → slice_get xs from ≡ Some x
moved xs ys at from x below same is =
    slice_get_read xs (length xs) from x refl below (sym (get_or_from_slice_get ys at x x is) ∙ same x)

module _ (tables : List Opened) (tasks : ℕ) (starts turned : List TaskStarts) (first : ℕ) (are : AreAllStarts tables tasks starts)
    (few : first ≤ length starts) (long : length turned ≡ length starts) (by_index : RotatedLeft starts turned (length starts) first) where
  start_at : (at : ℕ) (it : TaskStarts) → at < length starts → slice_get starts at ≡ Some it
      → IsTaskStart tables it.number it × (it.number < tasks)
  start_at at it below is =
      let its : IsTaskStart tables at it = are.each at it is in (
        subst (λ (n : ℕ). IsTaskStart tables n it) (sym its.number) its,
        omega (arith, its.number, below, are.many),
      )

  pub are_some_starts : AreSomeStarts tables tasks turned
  are_some_starts at it is =
      let within : at < length turned = slice_get_within turned at it is in
      elim (leb_tells (length starts) (at + first)) [
        | inl over ↦
            let from : ℕ = at + first - length starts in
            let over_it : length starts ≤ at + first = over.1 in
            let below : from < length starts = omega (arith, within, long, few, over_it) in
            start_at from it below (moved starts turned at from it below
            (λ d. by_index.1 at d over_it (omega (arith, within, long))) is)
        | inr under ↦
            let less : at + first < length starts = under.1 in
            start_at (at + first) it less (moved starts turned at (at + first) it less (λ d. by_index.0 at d less) is)
      ]

  module _ (run : Run) (came back : List Came) (come : ComeOf run tables turned came) (many : length back ≡ length came)
      (by_index_back : RotatedRight came back (length came) first) where
    -- what comes of a task stands at its place again
    comes_back : (task at : ℕ) (outcomes : Came) → task < length starts → at < length turned
        → ((d : TaskStarts) → slice_index_or turned at d ≡ slice_index_or starts task d)
        → ((d : Came) → slice_index_or back task d ≡ slice_index_or came at d)
        → slice_get back task ≡ Some outcomes → IsOutcomeOfEach run tables task outcomes.items
    comes_back task at outcomes there within same_start same_outcome is =
        elim (slice_get_cases starts task).1 [
          | inl start ↦
              let here : slice_get turned at ≡ Some start.0 =
              slice_get_read turned (length turned) at start.0 refl within
              (sym (same_start start.0 ∙ get_or_from_slice_get starts task start.0 start.0 start.2)) in
              let number = (are.each task start.0 start.2).number in
              subst (λ (n : ℕ). IsOutcomeOfEach run tables n outcomes.items) number
              (come.each at start.0 outcomes here
              (moved came back task at outcomes (omega (arith, within, come.all)) same_outcome is))
          | inr beyond ↦ let past : length starts ≤ task = beyond.0 in absurd (omega (arith, there, past))
        ]

    back_at : (task : ℕ) (outcomes : Came) → slice_get back task ≡ Some outcomes → IsOutcomeOfEach run tables task outcomes.items
    back_at task outcomes is =
        let within : task < length back = slice_get_within back task outcomes is in
        let there : task < length starts = omega (arith, within, many, come.all, long) in
        let came_long = come.all in
        elim (leb_tells first task) [
          | inl after ↦
              let above : first ≤ task = after.1 in
              comes_back task (task - first) outcomes there (omega (arith, there, long, above))
              (λ d. by_index.0 (task - first) d (omega (arith, there, above))
              ∙ ap (λ (n : ℕ). slice_index_or starts n d) (let same : task - first + first ≡ task = omega (arith, above) in same))
              (λ d. by_index_back.1 task d above (omega (arith, there, long, came_long))) is
          | inr before ↦
              let less : task < first = before.1 in
              let at : ℕ = length came - first + task in
              let end : length came ≡ length starts = came_long ∙ long in
              comes_back task at outcomes there (omega (arith, less, end, long, few))
              (λ d. by_index.1 at d (omega (arith, end, few)) (omega (arith, less, end, few))
              ∙ ap (λ (n : ℕ). slice_index_or starts n d)
              (let same : at + first - length starts ≡ task = omega (arith, end, few) in same))
              (λ d. by_index_back.0 task d less) is
        ]

    pub put_back : AreAllOutcomes run tables tasks (map (λ (came : Came). came.items) back)
    put_back = record {
      many = length-map back (λ (came : Came). came.items) ∙ (many ∙ (come.all ∙ (long ∙ are.many)));
      each = λ task column is.
          let it = from_map (λ (came : Came). came.items) back task column is in
          subst (IsOutcomeOfEach run tables task) it.2 (back_at task it.0 it.1);
    }
