-- What the code found of a head is its head, and where it found none there is none.
use Rattle.std.proofs.Common.{◌≡◌, ℕ, suc, ◌+◌, ◌-◌, ◌<◌, ◌≤◌, List, [], ◌∷◌, ◌++◌, ◌∙◌, ap, arith, drop, length, length-drop, length-take-le, subst, sym, take, inl, inr}
use Rattle.std.proofs.lemmas.List.{drop-drop, take-append-drop}
use Rattle.litmus_lex.specs.declared.bytes.Class.TheVariants.{Blank, Graphic}
use Rattle.litmus_lex.specs.declared.head.Title.{Title}
use Rattle.litmus_lex.specs.declared.token.Part.TheVariants.{Head}
use Rattle.litmus_lex.specs.Bytes.{IsRun}
use Rattle.litmus_lex.specs.Gap.{IsAtToken, IsGap, IsUnclosed}
use Rattle.litmus_lex.specs.Head.{HasTitle, IsAtBrace, IsHead, IsPassedOver}
use Rattle.litmus_lex.specs.Found.{IsTitle}
use Rattle.litmus_lex.proofs.Unique.{gap_unique, run_unique, unclosed_token}
use Rattle.litmus_lex.proofs.HeadPieces.{title_token, title_unique}

-- ---- the test's name

title_here : (bytes others more : List ℕ) (blanks name : ℕ) → bytes ≡ 67 ∷ others
    → more ≡ drop blanks others
    → 0 < blanks → blanks ≤ length others → IsRun Blank (take blanks others) (drop blanks others)
    → 0 < name → name ≤ length more → IsRun Graphic (take name more) (drop name more)
    → HasTitle bytes (take name more) (drop name more)
title_here bytes others more blanks name is behind some within run named fits longest =
    let blanks_len = length-take-le blanks others within in
    let name_len = length-take-le name more fits in
    let tail : drop blanks others ≡ take name more ++ drop name more =
    sym behind ∙ sym (take-append-drop name more) in
    record {
      blanks = take blanks others;
      whole = is ∙ ap (λ xs. 67 ∷ xs) (sym (take-append-drop blanks others)
          ∙ ap (λ xs. take blanks others ++ xs) tail);
      some_blank = omega arith;
      blank = subst (IsRun Blank (take blanks others)) tail run;
      some_name = omega arith;
      longest = longest;
    }

pub title_found : (bytes others more : List ℕ) (blanks name : ℕ) → bytes ≡ 67 ∷ others
    → more ≡ drop blanks others
    → 0 < blanks → blanks ≤ length others → IsRun Blank (take blanks others) (drop blanks others)
    → 0 < name → name ≤ length more → IsRun Graphic (take name more) (drop name more)
    → IsTitle bytes (record { start = 1 + blanks; end = 1 + blanks + name })
title_found bytes others more blanks name is behind some within run named fits longest =
    let here = title_here bytes others more blanks name is behind some within run named fits
    longest in
    let start : 1 + blanks ≡ suc blanks = omega arith in
    let end : 1 + blanks + name ≡ suc (blanks + name) = omega arith in
    let size : 1 + blanks + name - (1 + blanks) ≡ name = omega arith in
    let from : drop (1 + blanks) bytes ≡ more = ap (drop (1 + blanks)) is
    ∙ (ap (λ n. drop n (67 ∷ others)) start ∙ sym behind) in
    let rest : drop (1 + blanks + name) bytes ≡ drop name more =
    ap (drop (1 + blanks + name)) is
    ∙ (ap (λ n. drop n (67 ∷ others)) end
    ∙ (sym (drop-drop name blanks others) ∙ ap (drop name) (sym behind))) in
    let named_is : take (1 + blanks + name - (1 + blanks))
    (drop (1 + blanks) bytes) ≡ take name more = (λ i. take (size i) (from i)) in
    let more_len = ap length behind ∙ length-drop blanks others in
    let bytes_len = ap length is in (
      omega arith,
      omega arith,
      subst (λ xs. HasTitle bytes xs (drop (1 + blanks + name) bytes)) (sym named_is)
          (subst (HasTitle bytes (take name more)) (sym rest) here),
    )

-- no name stands behind the blanks
pub no_title : (bytes others more : List ℕ) (blanks count : ℕ) → bytes ≡ 67 ∷ others
    → more ≡ drop blanks others
    → IsRun Blank (take blanks others) (drop blanks others) → count ≡ 0
    → IsRun Graphic (take count more) (drop count more)
    → (name rest : List ℕ) → HasTitle bytes name rest → ⊥
no_title bytes others more blanks count is behind run none longest name rest title =
    let both : 67 ∷ others ≡ 67 ∷ (title.blanks ++ (name ++ rest)) = sym is ∙ title.whole in
    let tail : others ≡ title.blanks ++ (name ++ rest) = cc in
    let blank = run_unique Blank (take blanks others) (drop blanks others) title.blanks
    (name ++ rest) run title.blank (take-append-drop blanks others ∙ tail) in
    let nothing : IsRun Graphic [] more =
    subst (λ n. IsRun Graphic (take n more) (drop n more)) none longest in
    let same = run_unique Graphic [] more name rest nothing title.longest (behind ∙ blank.rest) in
    let empty = ap length same.front in
    let some = title.some_name in
    absurd (omega arith)

-- no blank stands behind the `C`
pub no_blanks : (bytes others : List ℕ) (count : ℕ) → bytes ≡ 67 ∷ others → count ≡ 0
    → IsRun Blank (take count others) (drop count others)
    → (name rest : List ℕ) → HasTitle bytes name rest → ⊥
no_blanks bytes others count is none run name rest title =
    let both : 67 ∷ others ≡ 67 ∷ (title.blanks ++ (name ++ rest)) = sym is ∙ title.whole in
    let tail : others ≡ title.blanks ++ (name ++ rest) = cc in
    let nothing : IsRun Blank [] others =
    subst (λ n. IsRun Blank (take n others) (drop n others)) none run in
    let same = run_unique Blank [] others title.blanks (name ++ rest) nothing title.blank tail in
    let empty = ap length same.front in
    let some = title.some_blank in
    absurd (omega arith)

-- ---- the head

pub head_found : (text titled behind : List ℕ) (gap passed : ℕ) (title : Title)
    → titled ≡ drop gap text → behind ≡ drop (gap + title.end) text
    → gap ≤ length text → IsGap Head (take gap text) (drop gap text) → IsTitle titled title
    → passed < length behind → IsPassedOver (take passed behind) (drop passed behind)
    → IsAtBrace (drop passed behind)
    → IsHead text (take (gap + title.end - (gap + title.start)) (drop (gap + title.start) text))
    (gap + title.end + passed)
head_found text titled behind gap passed title titled_is behind_is within is_gap stands fits over
    brace =
    let order = stands.0 in
    let inside = stands.1 in
    let size : gap + title.end - (gap + title.start) ≡ title.end - title.start = omega arith in
    let from : drop (gap + title.start) text ≡ drop title.start titled =
    sym (ap (drop title.start) titled_is ∙ drop-drop title.start gap text) in
    let rest : drop title.end titled ≡ behind = ap (drop title.end) titled_is
    ∙ (drop-drop title.end gap text ∙ sym behind_is) in
    let name_is : take (gap + title.end - (gap + title.start))
    (drop (gap + title.start) text) ≡ take (title.end - title.start) (drop title.start titled)
    = (λ i. take (size i) (from i)) in
    let titled_len = ap length titled_is ∙ length-drop gap text in
    let behind_len = ap length behind_is ∙ length-drop (gap + title.end) text in
    let rest_len = length-drop passed behind in
    record {
      gap = take gap text;
      titled = titled;
      behind = behind;
      passed = take passed behind;
      rest = drop passed behind;
      whole = sym (take-append-drop gap text) ∙ ap (λ xs. take gap text ++ xs) (sym titled_is);
      separated = subst (IsGap Head (take gap text)) (sym titled_is) is_gap;
      title = subst (λ xs. HasTitle titled xs behind) (sym name_is)
          (subst (HasTitle titled (take (title.end - title.start) (drop title.start titled)))
          rest stands.2);
      tail = sym (take-append-drop passed behind);
      passes = over;
      brace = brace;
      place = omega arith;
    }

-- a head's title stands behind the gap
pub head_titled : (text name : List ℕ) (at gap : ℕ) (head : IsHead text name at)
    → IsGap Head (take gap text) (drop gap text) → IsAtToken Head (drop gap text)
    → head.titled ≡ drop gap text
head_titled text name at gap head is_gap token =
    (gap_unique Head head.gap head.titled (take gap text) (drop gap text) head.separated is_gap
    (inl (title_token head.titled name head.behind head.title)) (inl token)
    (sym head.whole ∙ sym (take-append-drop gap text))).rest

-- no head stands before a comment that doesn't end
pub no_head_unclosed : (text gap comment : List ℕ) → text ≡ gap ++ comment
    → IsGap Head gap comment → IsUnclosed Head comment
    → (name : List ℕ) (at : ℕ) → IsHead text name at → ⊥
no_head_unclosed text gap comment splits is_gap unclosed name at head =
    let token = title_token head.titled name head.behind head.title in
    let same = gap_unique Head head.gap head.titled gap comment head.separated is_gap (inl token)
    (inr unclosed) (sym head.whole ∙ splits) in
    unclosed_token Head comment unclosed (subst (IsAtToken Head) same.rest token)

-- no head stands without a title
pub no_head_untitled : (text titled : List ℕ) (gap : ℕ) → titled ≡ drop gap text
    → IsGap Head (take gap text) (drop gap text) → IsAtToken Head (drop gap text)
    → ((name rest : List ℕ) → HasTitle titled name rest → ⊥) → (name : List ℕ) (at : ℕ)
    → IsHead text name at → ⊥
no_head_untitled text titled gap titled_is is_gap token none name at head =
    let same = head_titled text name at gap head is_gap token ∙ sym titled_is in
    none name head.behind (subst (λ xs. HasTitle xs name head.behind) same head.title)

-- no head stands without a `{`
pub no_head_unbraced : (text titled behind : List ℕ) (gap : ℕ) (title : Title)
    → titled ≡ drop gap text → behind ≡ drop (gap + title.end) text
    → IsGap Head (take gap text) (drop gap text) → IsAtToken Head (drop gap text)
    → IsTitle titled title
    → ((passed rest : List ℕ) → behind ≡ passed ++ rest → IsPassedOver passed rest
    → IsAtBrace rest → ⊥)
    → (name : List ℕ) (at : ℕ) → IsHead text name at → ⊥
no_head_unbraced text titled behind gap title titled_is behind_is is_gap token stands none name
    at head =
    let same = head_titled text name at gap head is_gap token ∙ sym titled_is in
    let rest : drop title.end titled ≡ behind = ap (drop title.end) titled_is
    ∙ (drop-drop title.end gap text ∙ sym behind_is) in
    let titles = title_unique titled name head.behind
    (take (title.end - title.start) (drop title.start titled)) (drop title.end titled)
    (subst (λ xs. HasTitle xs name head.behind) same head.title) stands.2 in
    none head.passed head.rest (sym rest ∙ (sym titles.rest ∙ head.tail)) head.passes head.brace
