-- What is read before the condition is spelled so.
use Rattle.std.proofs.Common.{◌≡◌, ◌∙◌, ℕ, zero, suc, List, [], ◌∷◌, Bool, true, false, cond, Option, Some, None, length, refl, sym, ap}
use Rattle.std.proofs.Common.{subst}
use Rattle.litmus_lex.specs.declared.sign.Sign.TheVariants.{OpenBrace, CloseBrace, Semicolon}
use Rattle.litmus_lex.specs.Front.{◌>>=◌, first, is_sign, others, take_sign}
use Rattle.litmus_lex.specs.Words.{Symbol, sign}
use Rattle.litmus_expression.proofs.Fewer.{behind_it}
use Rattle.litmus_expression.proofs.Taken.{front, is_sign_is, same_given, sign_taken}
use Rattle.litmus_parse.specs.Entries.{Entry}
use Rattle.litmus_parse.specs.ProcessHeaders as grammar
use Rattle.litmus_parse.specs.ProcessHeaders.{Item, Items, Listed, Parameters, mention_of, name_of, parameter_of}
use Rattle.litmus_parse.specs.ItemReader.{Heading, behind_item, initialization_at, item_at, items_at, items_by, past}
use Rattle.litmus_parse.specs.Mentions as mentions
use Rattle.litmus_parse.specs.Mentions.{AreNumbered, Mention}
use Rattle.litmus_parse.specs.Mentioned.{all_told, told_of}
use Rattle.litmus_parse.specs.Turns.{again, done, going, turned}
use Rattle.litmus_parse.proofs.Items.{ReadsItem, item_read}
use Rattle.litmus_parse.proofs.Tidy.{TellsMention, Tidy, entry_in, noted_tells}

pub not_both : (b : Bool) → b ≡ true → b ≡ false → ⊥
not_both b e f = cc

pub first_false : (b c : Bool) → cond b true c ≡ false → b ≡ false
first_false true c e = e
first_false false c e = refl

pub rest_false : (b c : Bool) → cond b true c ≡ false → c ≡ false
rest_false true c e = absurd cc
rest_false false c e = e

-- ---- items

-- what mentions make of a heading
pub record Said (mentions : List Mention) (h u : Heading) : Type 0 where
  pub tidy : Tidy u.names u.table
  pub tells : (name : List ℕ) → all_told mentions name (entry_in h.names h.table name) ≡ Some (entry_in u.names u.table name)

pub record ReadsItems (h u : Heading) : Type 0 where
  pub mentions : List Mention
  pub spelled : Items h.symbols mentions u.symbols
  pub numbered : AreNumbered h.names mentions u.names
  pub said : Said mentions h u

pub one_told : (m : Mention) (later : List Mention) (name : List ℕ) (e f g : Entry) → told_of name m e ≡ Some f → all_told later name f
    ≡ Some g
    → all_told (m ∷ later) name e ≡ Some g
one_told m later name e f g one rest = ap (λ (o : Option Entry). o >>= λ k. all_told later name k) one ∙ rest

-- a heading with other symbols left
abbrev pub at_symbols : Heading → List Symbol → Heading
at_symbols h symbols = record h { symbols = symbols }

pub nothing_said : (h : Heading) (symbols : List Symbol) → Tidy h.names h.table → Said [] h (at_symbols h symbols)
nothing_said h symbols tidy = record { tidy = tidy; tells = λ name. refl }

-- an item, and what is said behind it
module _ (h u : Heading) (r : ReadsItem h u) (tidy : Tidy h.names h.table) where
  abbrev tells_it : TellsMention r.mention h.names h.table r.noted.number u.names u.table
  tells_it = noted_tells r.mention h.names u.names h.table u.table r.noted tidy

  last_item : (symbols : List Symbol) → u.symbols ≡ sign CloseBrace ∷ symbols → ReadsItems h (at_symbols u symbols)
  last_item symbols closes = record {
    mentions = r.mention ∷ [];
    spelled = grammar.last (subst (λ (l : List Symbol). Item h.symbols r.mention l) closes r.spelled);
    numbered = mentions.more tells_it.numbered mentions.none;
    said = record {
      tidy = tells_it.tidy;
      tells = λ name. one_told r.mention [] name (entry_in h.names h.table name) (entry_in u.names u.table name)
          (entry_in u.names u.table name) (tells_it.tells name) refl;
    };
  }

  more_items : (w : Heading) → u.symbols ≡ sign Semicolon ∷ others u.symbols → ReadsItems (past u) w → ReadsItems h w
  more_items w next later = record {
    mentions = r.mention ∷ later.mentions;
    spelled = grammar.more (subst (λ (l : List Symbol). Item h.symbols r.mention l) next r.spelled) later.spelled;
    numbered = mentions.more tells_it.numbered later.numbered;
    said = record {
      tidy = later.said.tidy;
      tells = λ name. one_told r.mention later.mentions name (entry_in h.names h.table name) (entry_in u.names u.table name)
          (entry_in w.names w.table name)
          (tells_it.tells name) (later.said.tells name);
    };
  }

  closed_items : (f : ℕ) (w : Heading) (o : Option (List Symbol)) → take_sign CloseBrace u.symbols ≡ o
      → ((o >>= λ l. Some (done (at_symbols u l))) >>= λ t. turned (going items_by f) t) ≡ Some w → ReadsItems h w
  closed_items f w None is e = absurd cc
  closed_items f w (Some l) is e = subst (λ (x : Heading). ReadsItems h x) (same_given (at_symbols u l) w e)
      (last_item l (sign_taken CloseBrace u.symbols l is))

  items_behind : (f : ℕ) (w : Heading) → (Tidy u.names u.table → going items_by f (past u) ≡ Some w → ReadsItems (past u) w)
      → (b : Bool) → is_sign Semicolon (first u.symbols) ≡ b
      → (cond b (Some (again (past u))) (take_sign CloseBrace u.symbols >>= λ l. Some (done (at_symbols u l))) >>= λ t. turned
      (going items_by f) t) ≡ Some w
      → ReadsItems h w
  items_behind f w later true is e =
      more_items w (front u.symbols (sign Semicolon) (is_sign_is Semicolon (first u.symbols) is) (λ never. cc)) (later tells_it.tidy e)
  items_behind f w later false none e = closed_items f w (take_sign CloseBrace u.symbols) refl e

-- a `}` at once, or an item
items_from : (f : ℕ) (h w : Heading) → Tidy h.names h.table
    → ((u : Heading) → Tidy u.names u.table → going items_by f u ≡ Some w → ReadsItems u w)
    → (b : Bool) → is_sign CloseBrace (first h.symbols) ≡ b → (o : Option Heading) → item_at h ≡ o
    → (cond b (Some (done (past h))) (o >>= λ u. behind_item u) >>= λ t. turned (going items_by f) t) ≡ Some w → ReadsItems h w
items_from f h w tidy later true is o read e =
    subst (λ (x : Heading). ReadsItems h x) (same_given (past h) w e) (record {
      mentions = [];
      spelled = subst (λ (l : List Symbol). Items l [] (others h.symbols))
          (sym (front h.symbols (sign CloseBrace) (is_sign_is CloseBrace (first h.symbols) is) (λ never. cc)))
          grammar.none;
      numbered = mentions.none;
      said = nothing_said h (others h.symbols) tidy;
    })
items_from f h w tidy later false none None read e = absurd cc
items_from f h w tidy later false none (Some u) read e =
    items_behind h u (item_read h u read) tidy f w (λ t e. later (past u) t e) (is_sign Semicolon (first u.symbols)) refl e

items_going : (f : ℕ) (h w : Heading) → Tidy h.names h.table → going items_by f h ≡ Some w → ReadsItems h w
unfolding going
items_going zero h w tidy e = absurd cc
items_going (suc f) h w tidy e =
    items_from f h w tidy (λ u t e. items_going f u w t e) (is_sign CloseBrace (first h.symbols)) refl (item_at h) refl e

-- the initialization block
pub record ReadsBlock (h u : Heading) : Type 0 where
  pub inside : List Symbol
  pub opens : h.symbols ≡ sign OpenBrace ∷ inside
  pub items : ReadsItems (record h { symbols = inside }) u

pub initialization_read : (h u : Heading) → Tidy h.names h.table → initialization_at h ≡ Some u → ReadsBlock h u
unfolding initialization_at items_at
initialization_read h u tidy e =
    behind_it (take_sign OpenBrace h.symbols) (λ l. items_at (record h { symbols = l })) (λ (w : Heading). ReadsBlock h w) u e (λ l opens e.
    record {
      inside = l;
      opens = sign_taken OpenBrace h.symbols l opens;
      items = items_going (suc (length l)) (record h { symbols = l }) u tidy e;
    })

-- ---- parameters
