-- What counts by key say of takings.
use Rattle.std.proofs.Common.{Ok, Err, Result, ◌≡◌, ◌∷◌, ◌++◌, ◌∙◌, ◌↔◌, ◌+◌, ℕ, List, [], Bool, append-nil, cond, map, subst, sym}
use Rattle.std.specs.Prelude.{OnOk, count_by, nat_eq}
use Rattle.std.proofs.lemmas.List.{map-append}
use Rattle.std.proofs.lemmas.List.Folds.{fold-map}
use Rattle.access_types.specs.Takes.{Take}
use Rattle.access_types.specs.declared.arms.ArmOutcome.{ArmOutcome}
use Rattle.access_types.specs.declared.arms.ArmOutcome.TheVariants.{Hit}
use Rattle.access_types.specs.declared.arms.HitResult.{HitResult}
use Rattle.report_text.specs.Truth.{AreOneBag, Pair, hit_in, is_take, origin_of, pair_in, reported_pair}
use Rattle.trace_replay.specs.Counts.{AreCounts, CountAlike}
use Rattle.trace_replay.specs.Told.{AreOne, TakeKey, WereTold, is_pair_key, is_take_key, take_key}
use Rattle.trace_replay.specs.declared.told.Told.{Told}
use Rattle.trace_replay.specs.declared.counts.Counts.{Counts}

-- the taking of a key
abbrev pub take_of : TakeKey → Take
take_of key = record { finder = key.0; index = key.1; setter = key.2 }

pub count_takes : (takes : List Take) (key : TakeKey) → count_by (is_take_key key) (map take_key takes) ≡ count_by (is_take (take_of key)) takes
count_takes takes key = fold-map (λ (n : ℕ) (k : TakeKey). n + cond (is_take_key key k) 1 0) take_key 0 takes

-- two that count two lists of takings count alike exactly where the lists are one bag
pub takes_alike : (takes others : List Take) (mine theirs : Counts TakeKey) → AreCounts is_take_key (map take_key takes) mine
    → AreCounts is_take_key (map take_key others) theirs → CountAlike is_take_key mine theirs ↔ AreOneBag is_take takes others
takes_alike takes others mine theirs h k = (
  λ alike t. sym (count_takes takes (take_key t)) ∙ sym (h (take_key t)) ∙ alike (take_key t) ∙ k (take_key t) ∙ count_takes others (take_key t),
  λ bag key. h key ∙ count_takes takes key ∙ bag (take_of key) ∙ sym (count_takes others key) ∙ sym (k key),
)

-- the same of lists that are counted as they are
pub keys_alike : {K : Type 0} (same : K → K → Bool) (keys others : List K) (mine theirs : Counts K) → AreCounts same keys mine
    → AreCounts same others theirs → CountAlike same mine theirs ↔ AreOneBag same keys others
keys_alike same keys others mine theirs h k = (
  λ alike key. sym (h key) ∙ alike key ∙ k key,
  λ bag key. h key ∙ bag key ∙ sym (k key),
)

pub one_take_more : (takes : List Take) (t : Take) (counts : Counts TakeKey) → AreCounts is_take_key (map take_key takes ++ take_key t ∷ []) counts
    → AreCounts is_take_key (map take_key (takes ++ t ∷ [])) counts
one_take_more takes t counts h = subst (λ keys. AreCounts is_take_key keys counts) (sym (map-append take_key takes (t ∷ []))) h

-- where a call went well, what it gives follows
pub on_ok : {A E P Q : Type 0} (r : Result A E) → (P → Q) → OnOk r P → OnOk r Q
on_ok (Ok x) f p = f p
on_ok (Err e) f p = tt

-- two that were told agree in each exactly where the lists are one bag
pub told_alike : (taken : List Take) (raced : List Pair) (changed : List ℕ) (other_taken : List Take) (other_raced : List Pair) (other_changed : List ℕ)
    (mine others : Told) → WereTold taken raced changed mine → WereTold other_taken other_raced other_changed others
    → (CountAlike is_take_key mine.takes others.takes × CountAlike is_pair_key mine.races others.races × CountAlike nat_eq mine.origins others.origins)
    ↔ AreOne taken raced changed other_taken other_raced other_changed
told_alike taken raced changed other_taken other_raced other_changed mine others h k =
    let takes = takes_alike taken other_taken mine.takes others.takes h.takes k.takes in
    let races = keys_alike is_pair_key raced other_raced mine.races others.races h.races k.races in
    let origins = keys_alike nat_eq changed other_changed mine.origins others.origins h.origins k.origins in (
      λ alike. record { takes = takes.0 alike.0; races = races.0 alike.1; origins = origins.0 alike.2 },
      λ one. (takes.1 one.takes, races.1 one.races, origins.1 one.origins),
    )

-- a taking and, where it was reported, a race are what a hit tells of
pub told_hit : (taken : List Take) (raced : List Pair) (changed : List ℕ) (t : Take) (setter index finder setter' setter'' index' : ℕ) (result : HitResult)
    (outcome : ArmOutcome) (told : Told) → t ≡ record { finder = finder; index = index'; setter = setter' } → index' ≡ index → setter' ≡ setter
    → setter'' ≡ setter → Hit finder result ≡ outcome → WereTold (taken ++ t ∷ []) (raced ++ reported_pair setter'' finder result) changed told
    → WereTold (taken ++ hit_in setter index outcome) (raced ++ pair_in setter outcome) (changed ++ origin_of setter outcome) told
told_hit taken raced changed t setter index finder setter' setter'' index' result outcome told e i s s2 o h =
    subst (λ w. WereTold (taken ++ hit_in setter index w) (raced ++ pair_in setter w) (changed ++ origin_of setter w) told) o
    (subst (λ ns. WereTold (taken ++ hit_in setter index (Hit finder result)) (raced ++ reported_pair setter finder result) ns told) (sym (append-nil changed))
    (subst (λ n. WereTold (taken ++ hit_in setter index (Hit finder result)) (raced ++ reported_pair n finder result) changed told) s2
    (subst (λ (u : Take). WereTold (taken ++ u ∷ []) (raced ++ reported_pair setter'' finder result) changed told)
    (e ∙ (λ j. record { finder = finder; index = i j; setter = s j })) h)))
