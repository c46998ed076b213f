-- What is read as parameters is spelled as such.
use Rattle.std.proofs.Common.{◌≡◌, ◌∙◌, ◌++◌, ◌==◌, ℕ, zero, suc, List, [], ◌∷◌, Bool, true, false, cond, Option, Some, None, length, map}
use Rattle.std.proofs.Common.{refl, sym, ap, subst, append_assoc}
use Rattle.std.specs.Prelude.{Contains}
use Rattle.std.proofs.lemmas.Bool.{eqb-false}
use Rattle.litmus_lex.specs.declared.sign.Sign.TheVariants.{OpenParen, CloseParen, Comma, Star}
use Rattle.litmus_lex.specs.declared.words.Word.TheVariants as words
use Rattle.litmus_lex.specs.Front.{◌>>=◌, first, is_sign, others, take_sign}
use Rattle.litmus_lex.specs.Words.{Symbol, word, identifier, sign}
use Rattle.litmus_expression.specs.Followed.{Differ}
use Rattle.litmus_expression.specs.NameReader.{index_of}
use Rattle.litmus_expression.specs.Names.{Names, Numbered, Parameter}
use Rattle.litmus_expression.proofs.Fewer.{at_last, behind_it, either_way}
use Rattle.litmus_expression.proofs.Named.{among, in_front, in_none, in_rest}
use Rattle.litmus_expression.proofs.Taken.{front, is_sign_is, same_given, sign_taken}
use Rattle.litmus_parse.specs.ProcessHeaders as grammar
use Rattle.litmus_parse.specs.ProcessHeaders.{Listed, Parameters, mention_of, name_of, parameter_of}
use Rattle.litmus_parse.specs.ItemReader.{Heading, past}
use Rattle.litmus_parse.specs.ParameterReader.{behind_paren, behind_parameter, has_variable, listed_at, listed_by, parameter_at}
use Rattle.litmus_parse.specs.ParameterReader.{parameters_at}
use Rattle.litmus_parse.specs.Turns.{again, done, going, turned}
use Rattle.litmus_parse.proofs.Parameters.{ReadsParameter, parameter_read}
use Rattle.litmus_parse.proofs.Spelled.{Said, first_false, nothing_said, one_told, rest_false}
use Rattle.litmus_parse.proofs.Tidy.{TellsMention, Tidy, entry_in, keeps_number, noted_tells}
use Rattle.litmus_parse.proofs.Unrolled.{Listing}

-- ---- the last of a list

pub in_before : {A : Type 0} (xs : List A) (x y : A) → Contains xs y → Contains (xs ++ x ∷ []) y
in_before [] x y there = absurd (in_none y there)
in_before (z ∷ xs) x y there =
    among z y xs (Contains (z ∷ (xs ++ x ∷ [])) y) there
    (λ is. subst (λ (w : _). Contains (z ∷ (xs ++ x ∷ [])) w) is (in_front z (xs ++ x ∷ [])))
    (λ rest. in_rest z y (xs ++ x ∷ []) (in_before xs x y rest))

pub at_the_end : {A : Type 0} (xs : List A) (x : A) → Contains (xs ++ x ∷ []) x
at_the_end [] x = in_front x []
at_the_end (z ∷ xs) x = in_rest z x (xs ++ x ∷ []) (at_the_end xs x)

pub before_or_last : {A : Type 0} (xs : List A) (x y : A) (P : Type 0) → Contains (xs ++ x ∷ []) y → (Contains xs y → P) → (x ≡ y → P) → P
before_or_last [] x y P there f g = among x y [] P there g (λ rest. absurd (in_none y rest))
before_or_last (z ∷ xs) x y P there f g =
    among z y (xs ++ x ∷ []) P there
    (λ is. f (subst (λ (w : _). Contains (z ∷ xs) w) is (in_front z xs)))
    (λ rest. before_or_last xs x y P rest (λ inside. f (in_rest z y xs inside)) g)

-- ---- parameters

-- parameters have their numbers among names
abbrev pub Stand : List Parameter → Names → Type 0
Stand before names = (p : Parameter) → Contains before p → index_of names p.name ≡ Some p.variable

-- what parameters are read behind others
pub record ReadsListed (x y : Listing) : Type 0 where
  pub later : List Parameter
  pub whole : y.0 ≡ x.0 ++ later
  pub spelled : Listed x.1.names x.1.symbols later y.1.symbols y.1.names
  pub said : Said (map mention_of later) x.1 y.1
  pub apart : (p : Parameter) → Contains x.0 p → ¬ Contains (map name_of later) p.name
  pub differ : Differ (map name_of later)

variable_there : (before : List Parameter) (variable : ℕ) → has_variable before variable ≡ false → (p : Parameter) → Contains before p
    → ¬ (p.variable ≡ variable)
variable_there [] variable none p there same = in_none p there
variable_there (q ∷ before) variable none p there same =
    among q p before ⊥ there
    (λ is. eqb-false q.variable variable (first_false (q.variable == variable) (has_variable before variable) none)
    (ap (λ (r : Parameter). r.variable) is ∙ same))
    (λ rest. variable_there before variable (rest_false (q.variable == variable) (has_variable before variable) none) p rest same)

module _ (x : Listing) (p : Parameter × Heading) (r : ReadsParameter x.0 x.1 p) (tidy : Tidy x.1.names x.1.table)
    (stand : Stand x.0 x.1.names) where
  abbrev tells_it : TellsMention (mention_of p.0) x.1.names x.1.table r.noted.number p.1.names p.1.table
  tells_it = noted_tells (mention_of p.0) x.1.names p.1.names x.1.table p.1.table r.noted tidy

  numbered : Numbered 32 x.1.names p.0.name p.0.variable p.1.names
  numbered = subst (λ (n : ℕ). Numbered 32 x.1.names p.0.name n p.1.names) r.number tells_it.numbered

  found : index_of p.1.names p.0.name ≡ Some p.0.variable
  found = tells_it.found ∙ ap (λ (n : ℕ). Some n) r.number

  stay : (q : Parameter) → Contains x.0 q → index_of p.1.names q.name ≡ Some q.variable
  stay q there = keeps_number x.1.names p.1.names p.0.name p.0.variable numbered tells_it.tidy.differ q.name q.variable (stand q there)

  -- it has no name of those before
  own_name : (q : Parameter) → Contains x.0 q → ¬ (p.0.name ≡ q.name)
  own_name q there same =
      variable_there x.0 p.0.variable r.apart q there
      (same_given q.variable p.0.variable (sym (stay q there) ∙ ap (λ (n : List ℕ). index_of p.1.names n) (sym same) ∙ found))

  stand_on : Stand (x.0 ++ p.0 ∷ []) p.1.names
  stand_on q there =
      before_or_last x.0 p.0 q (index_of p.1.names q.name ≡ Some q.variable) there (λ inside. stay q inside)
      (λ is. subst (λ (s : Parameter). index_of p.1.names s.name ≡ Some s.variable) is found)

  last_listed : (symbols : List Symbol) → p.1.symbols ≡ sign CloseParen ∷ symbols
      → ReadsListed x (x.0 ++ p.0 ∷ [], record p.1 { symbols = symbols })
  last_listed symbols closes = record {
    later = p.0 ∷ [];
    whole = refl;
    spelled = subst (λ (l : List Symbol). Listed x.1.names l (p.0 ∷ []) symbols p.1.names)
        (sym (r.begins ∙ ap (λ (l : List Symbol). word (words.Type p.0.type) ∷ sign Star ∷ identifier p.0.name ∷ l) closes))
        (grammar.last numbered);
    said = record {
      tidy = tells_it.tidy;
      tells = λ name. one_told (mention_of p.0) [] name (entry_in x.1.names x.1.table name) (entry_in p.1.names p.1.table name)
          (entry_in p.1.names p.1.table name) (tells_it.tells name) refl;
    };
    apart = λ q there inside. among p.0.name q.name [] ⊥ inside (λ is. own_name q there is) (λ rest. in_none q.name rest);
    differ = (λ inside. in_none p.0.name inside, tt);
  }

  more_listed : (y : Listing) → p.1.symbols ≡ sign Comma ∷ others p.1.symbols → ReadsListed (x.0 ++ p.0 ∷ [], past p.1) y → ReadsListed x y
  more_listed y next later =
      let alone = later.apart p.0 (at_the_end x.0 p.0) in
      record {
        later = p.0 ∷ later.later;
        whole = later.whole ∙ append_assoc x.0 (p.0 ∷ []) later.later;
        spelled = subst (λ (l : List Symbol). Listed x.1.names l (p.0 ∷ later.later) y.1.symbols y.1.names)
            (sym (r.begins ∙ ap (λ (l : List Symbol). word (words.Type p.0.type) ∷ sign Star ∷ identifier p.0.name ∷ l) next))
            (grammar.more numbered later.spelled alone);
        said = record {
          tidy = later.said.tidy;
          tells = λ name. one_told (mention_of p.0) (map mention_of later.later) name (entry_in x.1.names x.1.table name)
              (entry_in p.1.names p.1.table name)
              (entry_in y.1.names y.1.table name) (tells_it.tells name) (later.said.tells name);
        };
        apart = λ q there inside. among p.0.name q.name (map name_of later.later) ⊥ inside (λ is. own_name q there is)
            (λ rest. later.apart q (in_before x.0 p.0 q there) rest);
        differ = (alone, later.differ);
      }

  abbrev now : Listing
  now = (x.0 ++ p.0 ∷ [], p.1)

  closed_listed : (f : ℕ) (y : Listing) (o : Option (List Symbol)) → take_sign CloseParen p.1.symbols ≡ o
      → ((o >>= λ l. Some (done (x.0 ++ p.0 ∷ [], record p.1 { symbols = l }))) >>= λ t. turned (going listed_by f) t) ≡ Some y
      → ReadsListed x y
  closed_listed f y None is e = absurd cc
  closed_listed f y (Some l) is e =
      subst (λ (z : Listing). ReadsListed x z) (same_given (x.0 ++ p.0 ∷ [], record p.1 { symbols = l }) y e)
      (last_listed l (sign_taken CloseParen p.1.symbols l is))

  listed_behind : (f : ℕ) (y : Listing)
      → (Tidy p.1.names p.1.table → Stand (x.0 ++ p.0 ∷ []) p.1.names → going listed_by f (x.0 ++ p.0 ∷ [], past p.1) ≡ Some y
      → ReadsListed (x.0 ++ p.0 ∷ [], past p.1) y)
      → (b : Bool) → is_sign Comma (first p.1.symbols) ≡ b
      → (cond b (Some (again (x.0 ++ p.0 ∷ [], past p.1))) (take_sign CloseParen p.1.symbols >>= λ l. Some
      (done (x.0 ++ p.0 ∷ [], record p.1 { symbols = l })))
      >>= λ t. turned (going listed_by f) t) ≡ Some y → ReadsListed x y
  listed_behind f y later true is e =
      more_listed y (front p.1.symbols (sign Comma) (is_sign_is Comma (first p.1.symbols) is) (λ never. cc))
      (later tells_it.tidy stand_on e)
  listed_behind f y later false none e = closed_listed f y (take_sign CloseParen p.1.symbols) refl e

listed_from : (f : ℕ) (x y : Listing) → Tidy x.1.names x.1.table → Stand x.0 x.1.names
    → ((z : Listing) → Tidy z.1.names z.1.table → Stand z.0 z.1.names → going listed_by f z ≡ Some y → ReadsListed z y)
    → (o : Option (Parameter × Heading)) → parameter_at x.0 x.1 ≡ o
    → ((o >>= λ p. behind_parameter (x.0 ++ p.0 ∷ [], p.1)) >>= λ t. turned (going listed_by f) t) ≡ Some y → ReadsListed x y
listed_from f x y tidy stand later None is e = absurd cc
listed_from f x y tidy stand later (Some p) is e =
    listed_behind x p (parameter_read x.0 x.1 p is) tidy stand f y (λ t s e. later (x.0 ++ p.0 ∷ [], past p.1) t s e)
    (is_sign Comma (first p.1.symbols)) refl e

listed_going : (f : ℕ) (x y : Listing) → Tidy x.1.names x.1.table → Stand x.0 x.1.names → going listed_by f x ≡ Some y → ReadsListed x y
unfolding going
listed_going zero x y tidy stand e = absurd cc
listed_going (suc f) x y tidy stand e =
    listed_from f x y tidy stand (λ z t s e. listed_going f z y t s e) (parameter_at x.0 x.1) refl e

-- the parameters of a process, from their `(` on
pub record ReadsParameters (h : Heading) (y : Listing) : Type 0 where
  pub inside : List Symbol
  pub opens : h.symbols ≡ sign OpenParen ∷ inside
  pub spelled : Parameters h.names inside y.0 y.1.symbols y.1.names
  pub said : Said (map mention_of y.0) h y.1
  pub differ : Differ (map name_of y.0)

listed_whole : (h : Heading) (y : Listing) → Tidy h.names h.table → listed_at ([], h) ≡ Some y → ReadsListed ([], h) y
unfolding listed_at
listed_whole h y tidy e = listed_going (suc (length h.symbols)) ([], h) y tidy (λ p there. absurd (in_none p there)) e

pub parameters_read : (h : Heading) (y : Listing) → Tidy h.names h.table → parameters_at h ≡ Some y → ReadsParameters h y
unfolding parameters_at
parameters_read h y tidy e =
    behind_it (take_sign OpenParen h.symbols) (λ l. behind_paren (record h { symbols = l })) (λ (z : Listing). ReadsParameters h z) y e
    (λ l opens e.
    either_way (is_sign CloseParen (first l)) (Some ([], past (record h { symbols = l }))) (listed_at ([], record h { symbols = l }))
    (λ (z : Listing). ReadsParameters h z) y e
    (λ none e. at_last ([], past (record h { symbols = l })) (λ (z : Listing). ReadsParameters h z) y e (record {
      inside = l;
      opens = sign_taken OpenParen h.symbols l opens;
      spelled = subst (λ (j : List Symbol). Parameters h.names j [] (others l) h.names)
          (sym (front l (sign CloseParen) (is_sign_is CloseParen (first l) none) (λ never. cc))) grammar.none;
      said = nothing_said h (others l) tidy;
      differ = tt;
    }))
    (λ some e.
    let r = listed_whole (record h { symbols = l }) y tidy e in
    record {
      inside = l;
      opens = sign_taken OpenParen h.symbols l opens;
      spelled = grammar.some (subst (λ (ps : List Parameter). Listed h.names l ps y.1.symbols y.1.names) (sym r.whole) r.spelled);
      said = subst (λ (ps : List Parameter). Said (map mention_of ps) h y.1) (sym r.whole)
          (record { tidy = r.said.tidy; tells = r.said.tells });
      differ = subst (λ (ps : List Parameter). Differ (map name_of ps)) (sym r.whole) r.differ;
    }))
