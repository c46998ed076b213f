-- What is read as a declaration, or as the header of a loop, is spelled so.
use Rattle.std.proofs.Common.{◌≡◌, ◌∙◌, ℕ, ◌+◌, ◌<◌, ◌≤◌, ◌==◌, List, [], ◌∷◌, Bool, true, false, Option, Some, None, length, refl, sym, ap, subst}
use Rattle.std.proofs.lemmas.Bool.{eqb-true}
use Rattle.std.specs.Prelude.{slice_get}
use Rattle.litmus_lex.specs.declared.sign.Sign.TheVariants.{OpenParen, CloseParen, Semicolon, Comma, Assign, Increment}
use Rattle.litmus_lex.specs.declared.sign.Sign.TheVariants as signs
use Rattle.litmus_syntax.specs.Tree as tree
use Rattle.litmus_lex.specs.declared.words.Word.TheVariants as words
use Rattle.litmus_lex.specs.Front.{◌>>=◌, first, is_sign, number_of, others, take_number, take_sign}
use Rattle.litmus_lex.specs.Words.{Symbol, word, identifier, number, sign, fault}
use Rattle.litmus_expression.specs.Counters.{AreCounters}
use Rattle.litmus_expression.specs.Expressions.{Expression}
use Rattle.litmus_expression.specs.ExpressionReader.{expression_at}
use Rattle.litmus_expression.specs.NameReader.{index_of, numbered, register_at, register_name, register_named}
use Rattle.litmus_expression.specs.Names.{IsChanged, Names, Parameter}
use Rattle.litmus_expression.specs.PlaceReader.{count_statement, take_changed}
use Rattle.litmus_expression.specs.Places.{NestingPlace, repeats_of}
use Rattle.litmus_expression.specs.States.{State, after, with_left}
use Rattle.litmus_expression.proofs.Fewer.{at_last, behind_it, either_way, unless_it}
use Rattle.litmus_expression.proofs.Sound.{register_reads}
use Rattle.litmus_expression.proofs.Taken.{front, is_sign_is, same_given, sign_taken}
use Rattle.litmus_expression.proofs.Whole.{changed_reads, expression_reads}
use Rattle.litmus_body.specs.declared.statement.LoopHeader.{LoopHeader}
use Rattle.litmus_body.specs.StatementReader.{behind_register, bound_at, counter_at, declaration_at, header_at, is_number, is_the_register, more_declared}
use Rattle.litmus_body.specs.StatementReader.{step_at, take_again, take_zero, zero_of}
use Rattle.litmus_body.specs.Statements as grammar
use Rattle.litmus_body.specs.Statements.{Declared, Statement}
use Rattle.litmus_body.specs.statement_laws.Reads.{ReadsStatement, Stands}
use Rattle.litmus_body.proofs.statement_laws.Openings.{Declares}
use Rattle.litmus_body.proofs.statement_laws.Places.{numbered_below, numbered_stands}

-- a relation over parameters and names that are known otherwise
pub renamed : {P Q : List Parameter} {m n : Names} (Rel : List Parameter → Names → Type 0) → Q ≡ P → m ≡ n → Rel Q m → Rel P n
renamed {P = P} {Q = Q} {m = m} {n = n} Rel parameters names r = subst (λ (k : Names). Rel P k) names (subst (λ (p : List Parameter). Rel p m) parameters r)

pub few : {m n : Names} → m ≡ n → length n ≤ 32 → length m ≤ 32
few same le = subst (λ (k : Names). length k ≤ 32) (sym same) le

-- ---- counting a statement changes nothing else

pub record SameSpot (s c : State) : Type 0 where
  pub symbols : c.symbols ≡ s.symbols
  pub parameters : c.parameters ≡ s.parameters
  pub names : c.names ≡ s.names

pub counted_spot : (s c : State) → count_statement s ≡ Some c → SameSpot s c
counted_spot s c e =
    unless_it (s.statements == 256) (Some (record s { statements = s.statements + 1 })) (SameSpot s) c e (λ no e.
    at_last (record s { statements = s.statements + 1 }) (SameSpot s) c e (record { symbols = refl; parameters = refl; names = refl }))

-- ---- more registers of a declaration

record ReadsRegisters (counters : List ℕ) (s : State) (symbols : List Symbol) (u : State) (rest : List Symbol) : Type 0 where
  spelled : (before : Names) (name : List ℕ) (register : ℕ) → IsChanged s.parameters counters before name register s.names
      → Declared s.parameters counters before (identifier name ∷ symbols) rest u.names
  within : length u.names ≤ 32
  parameters : u.parameters ≡ s.parameters

ends_here : (counters : List ℕ) (s : State) (symbols rest : List Symbol) → length s.names ≤ 32 → take_sign Semicolon symbols ≡ Some rest
    → ReadsRegisters counters s symbols (with_left s symbols) rest
ends_here counters s symbols rest within ends = record {
  spelled = λ before name register is.
      subst (λ (l : List Symbol). Declared s.parameters counters before (identifier name ∷ l) rest s.names) (sym (sign_taken Semicolon symbols rest ends))
      (grammar.last is);
  within = within;
  parameters = refl;
}

more_reads : (flags : List Bool) (counters : List ℕ) (s : State) (symbols : List Symbol) (u : State) (rest : List Symbol) → AreCounters flags counters
    → length s.names ≤ 32
    → more_declared flags s symbols ≡ Some u → take_sign Semicolon u.symbols ≡ Some rest → ReadsRegisters counters s symbols u rest
unfolding more_declared
more_reads flags counters s [] u rest are within e ends =
    let same : with_left s [] ≡ u = same_given (with_left s []) u e in
    let ends_there = subst (λ (w : State). take_sign Semicolon w.symbols ≡ Some rest) (sym same) ends in
    subst (λ (w : State). ReadsRegisters counters s [] w rest) same (ends_here counters s [] rest within ends_there)
more_reads flags counters s (a ∷ []) u rest are within e ends =
    unless_it (is_sign Comma a) (Some (with_left s (a ∷ []))) (λ (w : State). ReadsRegisters counters s (a ∷ []) w rest) u e (λ no e.
    let same : with_left s (a ∷ []) ≡ u = same_given (with_left s (a ∷ [])) u e in
    let ends_there = subst (λ (w : State). take_sign Semicolon w.symbols ≡ Some rest) (sym same) ends in
    subst (λ (w : State). ReadsRegisters counters s (a ∷ []) w rest) same (ends_here counters s (a ∷ []) rest within ends_there))
more_reads flags counters s (a ∷ b ∷ symbols) u rest are within e ends =
    either_way (is_sign Comma a) (take_changed flags (with_left s (b ∷ symbols)) >>= λ r. more_declared flags r.1 symbols)
    (Some (with_left s (a ∷ b ∷ symbols))) (λ (w : State). ReadsRegisters counters s (a ∷ b ∷ symbols) w rest) u e
    (λ comma e.
    behind_it (take_changed flags (with_left s (b ∷ symbols))) (λ r. more_declared flags r.1 symbols)
    (λ (w : State). ReadsRegisters counters s (a ∷ b ∷ symbols) w rest) u e (λ r changed e.
    let k = changed_reads flags counters (with_left s (b ∷ symbols)) r are within changed in
    let m = more_reads flags counters r.1 symbols u rest are k.within e ends in
    let next : b ≡ identifier k.name = ap first k.next in
    record {
      spelled = λ before name register is.
          let first_is : a ∷ b ∷ symbols ≡ sign Comma ∷ identifier k.name ∷ symbols =
          ap (λ (y : Symbol). y ∷ b ∷ symbols) (is_sign_is Comma a comma) ∙ ap (λ (y : Symbol). sign Comma ∷ y ∷ symbols) next in
          let later = subst (λ (P : List Parameter). Declared P counters s.names (identifier k.name ∷ symbols) rest u.names) k.parameters
          (m.spelled s.names k.name r.0 (subst (λ (P : List Parameter). IsChanged P counters s.names k.name r.0 r.1.names) (sym k.parameters) k.is)) in
          subst (λ (l : List Symbol). Declared s.parameters counters before (identifier name ∷ l) rest u.names) (sym first_is) (grammar.more is later);
      within = m.within;
      parameters = m.parameters ∙ k.parameters;
    }))
    (λ none e.
    let same : with_left s (a ∷ b ∷ symbols) ≡ u = same_given (with_left s (a ∷ b ∷ symbols)) u e in
    let ends_there = subst (λ (w : State). take_sign Semicolon w.symbols ≡ Some rest) (sym same) ends in
    subst (λ (w : State). ReadsRegisters counters s (a ∷ b ∷ symbols) w rest) same (ends_here counters s (a ∷ b ∷ symbols) rest within ends_there))

-- ---- a declaration

pub declaration_reads : (p : NestingPlace) (counters : List ℕ) (s : State) (x : Option tree.Statement × State) → Stands p counters s → Declares (first s.symbols)
    → declaration_at p s ≡ Some x → ReadsStatement p counters s x
unfolding declaration_at
declaration_reads p counters s x stands d e =
    behind_it (take_changed p.counters (after s)) (λ r. behind_register p r.0 r.1) (ReadsStatement p counters s) x e (λ r changed e.
    let k = changed_reads p.counters counters (after s) r stands.are stands.registers changed in
    let begins : s.symbols ≡ word (words.Type d.type) ∷ identifier k.name ∷ r.1.symbols =
    front s.symbols (word (words.Type d.type)) d.is (λ never. cc) ∙ ap (λ (l : List Symbol). word (words.Type d.type) ∷ l) k.next in
    either_way (is_sign Assign (first r.1.symbols))
    (count_statement r.1 >>= λ c. expression_at p.turns p.depth (after c) >>= λ z. take_sign Semicolon z.1.symbols >>= λ l. Some
    (Some (tree.assign false (tree.to_register r.0 z.0)), with_left z.1 l))
    (more_declared p.counters r.1 r.1.symbols >>= λ u. take_sign Semicolon u.symbols >>= λ l. Some (None, with_left u l))
    (ReadsStatement p counters s) x e
    (λ assigns e.
    behind_it (count_statement r.1) (λ c. expression_at p.turns p.depth (after c) >>= λ z. take_sign Semicolon z.1.symbols >>= λ l. Some
    (Some (tree.assign false (tree.to_register r.0 z.0)), with_left z.1 l)) (ReadsStatement p counters s) x e (λ c counted e.
    behind_it (expression_at p.turns p.depth (after c)) (λ z. take_sign Semicolon z.1.symbols >>= λ l. Some
    (Some (tree.assign false (tree.to_register r.0 z.0)), with_left z.1 l)) (ReadsStatement p counters s) x e (λ z value e.
    behind_it (take_sign Semicolon z.1.symbols) (λ l. Some
    (Some (tree.assign false (tree.to_register r.0 z.0)), with_left z.1 l)) (ReadsStatement p counters s) x e (λ l ends e.
    at_last _ (ReadsStatement p counters s) x e
    (let spot = counted_spot r.1 c counted in
    let q = (expression_reads p.turns p.depth (after c) z stands.depth (few spot.names k.within) value).reads in
    let assigned : r.1.symbols ≡ sign Assign ∷ others r.1.symbols = front r.1.symbols (sign Assign) (is_sign_is Assign (first r.1.symbols) assigns)
    (λ never. cc) in
    let whole = begins ∙ ap (λ (j : List Symbol). word (words.Type d.type) ∷ identifier k.name ∷ j) assigned in
    let one = renamed (λ P n. Expression P p.depth n (others c.symbols) z.0 z.1.symbols z.1.names) (spot.parameters ∙ k.parameters) spot.names q.spelled in
    let two = subst (λ (j : List Symbol). Expression s.parameters p.depth r.1.names (others j) z.0 z.1.symbols z.1.names) spot.symbols one in
    let three = subst (λ (j : List Symbol). Expression s.parameters p.depth r.1.names (others r.1.symbols) z.0 j z.1.names)
    (sign_taken Semicolon z.1.symbols l ends) two in
    record {
      spelled = subst (λ (j : List Symbol). Statement s.parameters p.depth counters s.names j (Some (tree.assign false (tree.to_register r.0 z.0))) l z.1.names)
          (sym whole) (grammar.given d.integer k.is three);
      within = q.within;
      parameters = q.parameters ∙ spot.parameters ∙ k.parameters;
    })))))
    (λ none e.
    behind_it (more_declared p.counters r.1 r.1.symbols) (λ u. take_sign Semicolon u.symbols >>= λ l. Some (None, with_left u l))
    (ReadsStatement p counters s) x e (λ u declared e.
    behind_it (take_sign Semicolon u.symbols) (λ l. Some (None, with_left u l)) (ReadsStatement p counters s) x e (λ l ends e.
    at_last _ (ReadsStatement p counters s) x e
    (let m = more_reads p.counters counters r.1 r.1.symbols u l stands.are k.within declared ends in
    let all = subst (λ (P : List Parameter). Declared P counters s.names (identifier k.name ∷ r.1.symbols) l u.names) k.parameters
    (m.spelled s.names k.name r.0 (subst (λ (P : List Parameter). IsChanged P counters s.names k.name r.0 r.1.names) (sym k.parameters) k.is)) in
    record {
      spelled = subst (λ (j : List Symbol). Statement s.parameters p.depth counters s.names j None l u.names) (sym begins)
          (grammar.declaration d.integer all);
      within = m.within;
      parameters = m.parameters ∙ k.parameters;
    })))))

-- ---- the header of a loop

number_is : (y : Symbol) (rest : List Symbol) (x : ℕ × List Symbol) → number_of y rest ≡ Some x → (y ≡ number x.0) × (rest ≡ x.1)
number_is (word w) rest x e = absurd cc
number_is (identifier name) rest x e = absurd cc
number_is (number n) rest x e =
    let same = same_given (n, rest) x e in
    (ap (λ (z : ℕ × List Symbol). number z.0) same, ap (λ (z : ℕ × List Symbol). z.1) same)
number_is (sign t) rest x e = absurd cc
number_is fault rest x e = absurd cc

number_taken : (symbols : List Symbol) (x : ℕ × List Symbol) → take_number symbols ≡ Some x → symbols ≡ number x.0 ∷ x.1
unfolding take_number
number_taken symbols x e =
    let is = number_is (first symbols) (others symbols) x e in
    front symbols (number x.0) is.0 (λ never. cc) ∙ ap (λ (l : List Symbol). number x.0 ∷ l) is.1

zero_is : (y : Symbol) (rest given : List Symbol) → zero_of y rest ≡ Some given → (y ≡ number 0) × (rest ≡ given)
zero_is (word w) rest given e = absurd cc
zero_is (identifier name) rest given e = absurd cc
zero_is (number n) rest given e =
    either_way (n == 0) (Some rest) None (λ (l : List Symbol). (number n ≡ number 0) × (rest ≡ l)) given e
    (λ yes e. (ap number (eqb-true n 0 yes), same_given rest given e)) (λ no e. absurd cc)
zero_is (sign t) rest given e = absurd cc
zero_is fault rest given e = absurd cc

zero_taken : (symbols rest : List Symbol) → take_zero symbols ≡ Some rest → symbols ≡ number 0 ∷ rest
zero_taken symbols rest e =
    let is = zero_is (first symbols) (others symbols) rest e in
    front symbols (number 0) is.0 (λ never. cc) ∙ ap (λ (l : List Symbol). number 0 ∷ l) is.1

-- the register of a loop once more
record ReadsAgain (register : ℕ) (s u : State) : Type 0 where
  name : List ℕ
  next : s.symbols ≡ identifier name ∷ u.symbols
  stands : slice_get s.names register ≡ Some name
  parameters : u.parameters ≡ s.parameters
  names : u.names ≡ s.names

found_is : (register : ℕ) (o : Option ℕ) → is_number register o ≡ true → o ≡ Some register
found_is register None e = absurd cc
found_is register (Some found) e = ap (λ (n : ℕ). Some n) (eqb-true found register e)

again_named : (register : ℕ) (s : State) (o : Option (List ℕ)) → length s.names ≤ 32 → register_name s ≡ o → is_the_register s.names register o ≡ true
    → ReadsAgain register s (after s)
unfolding register_at
again_named register s None within next e = absurd cc
again_named register s (Some name) within next e =
    let there = ap (register_named s) next ∙ ap (numbered s name) (found_is register (index_of s.names name) e) in
    let r = register_reads s (register, s) within there in
    record {
      name = r.name;
      next = r.next;
      stands = numbered_stands r.name register s.names s.names r.is.numbered;
      parameters = refl;
      names = refl;
    }

again_reads : (register : ℕ) (s u : State) → length s.names ≤ 32 → take_again register s ≡ Some u → ReadsAgain register s u
unfolding take_again
again_reads register s u within e =
    either_way (is_the_register s.names register (register_name s)) (Some (after s)) None (ReadsAgain register s) u e
    (λ yes e. at_last (after s) (ReadsAgain register s) u e (again_named register s (register_name s) within refl yes)) (λ no e. absurd cc)

-- `( REG = 0 ;`
record ReadsCounter (counters : List ℕ) (s : State) (x : ℕ × State) : Type 0 where
  name : List ℕ
  next : s.symbols ≡ sign OpenParen ∷ identifier name ∷ sign Assign ∷ number 0 ∷ sign Semicolon ∷ x.1.symbols
  is : IsChanged s.parameters counters s.names name x.0 x.1.names
  within : length x.1.names ≤ 32
  parameters : x.1.parameters ≡ s.parameters

counter_reads : (flags : List Bool) (counters : List ℕ) (s : State) (x : ℕ × State) → AreCounters flags counters → length s.names ≤ 32
    → counter_at flags s ≡ Some x
    → ReadsCounter counters s x
unfolding counter_at
counter_reads flags counters s x are within e =
    behind_it (take_sign OpenParen s.symbols) (λ l. take_changed flags (with_left s l) >>= λ r. take_sign Assign r.1.symbols >>= λ m. take_zero m
    >>= λ z. take_sign Semicolon z >>= λ n. Some (r.0, with_left r.1 n)) (ReadsCounter counters s) x e (λ l opens e.
    behind_it (take_changed flags (with_left s l)) (λ r. take_sign Assign r.1.symbols >>= λ m. take_zero m >>= λ z. take_sign Semicolon z
    >>= λ n. Some (r.0, with_left r.1 n)) (ReadsCounter counters s) x e (λ r changed e.
    behind_it (take_sign Assign r.1.symbols) (λ m. take_zero m >>= λ z. take_sign Semicolon z >>= λ n. Some (r.0, with_left r.1 n))
    (ReadsCounter counters s) x e (λ m assigns e.
    behind_it (take_zero m) (λ z. take_sign Semicolon z >>= λ n. Some (r.0, with_left r.1 n)) (ReadsCounter counters s) x e (λ z zeroes e.
    behind_it (take_sign Semicolon z) (λ n. Some (r.0, with_left r.1 n)) (ReadsCounter counters s) x e (λ n ends e.
    at_last _ (ReadsCounter counters s) x e
    (let k = changed_reads flags counters (with_left s l) r are within changed in
    let given : r.1.symbols ≡ sign Assign ∷ number 0 ∷ sign Semicolon ∷ n = sign_taken Assign r.1.symbols m assigns ∙ ap (λ (j : List Symbol). sign Assign ∷ j)
    (zero_taken m z zeroes ∙ ap (λ (j : List Symbol). number 0 ∷ j) (sign_taken Semicolon z n ends)) in
    record {
      name = k.name;
      next = sign_taken OpenParen s.symbols l opens ∙ ap (λ (j : List Symbol). sign OpenParen ∷ j) (k.next
          ∙ ap (λ (j : List Symbol). identifier k.name ∷ j) given);
      is = k.is;
      within = k.within;
      parameters = k.parameters;
    }))))))

-- `REG < NUMBER ;`
record ReadsBound (register : ℕ) (s : State) (x : LoopHeader × State) : Type 0 where
  name : List ℕ
  next : s.symbols ≡ identifier name ∷ sign signs.Less ∷ number x.0.turns ∷ sign Semicolon ∷ x.1.symbols
  stands : slice_get s.names register ≡ Some name
  register_is : x.0.register ≡ register
  parameters : x.1.parameters ≡ s.parameters
  names : x.1.names ≡ s.names

bound_reads : (p : NestingPlace) (register : ℕ) (s : State) (x : LoopHeader × State) → length s.names ≤ 32 → bound_at p register s ≡ Some x → ReadsBound register s x
unfolding bound_at
bound_reads p register s x within e =
    behind_it (take_again register s) (λ u. take_sign signs.Less u.symbols >>= λ l. take_number l >>= λ n. repeats_of p n.0 >>= λ r.
    take_sign Semicolon n.1 >>= λ m. Some (record { register = register; turns = n.0; repeats = r }, with_left u m)) (ReadsBound register s) x e (λ u again e.
    behind_it (take_sign signs.Less u.symbols) (λ l. take_number l >>= λ n. repeats_of p n.0 >>= λ r. take_sign Semicolon n.1
    >>= λ m. Some (record { register = register; turns = n.0; repeats = r }, with_left u m)) (ReadsBound register s) x e (λ l less e.
    behind_it (take_number l) (λ n. repeats_of p n.0 >>= λ r. take_sign Semicolon n.1
    >>= λ m. Some (record { register = register; turns = n.0; repeats = r }, with_left u m)) (ReadsBound register s) x e (λ n bound e.
    behind_it (repeats_of p n.0) (λ r. take_sign Semicolon n.1
    >>= λ m. Some (record { register = register; turns = n.0; repeats = r }, with_left u m)) (ReadsBound register s) x e (λ r repeated e.
    behind_it (take_sign Semicolon n.1) (λ m. Some (record { register = register; turns = n.0; repeats = r }, with_left u m)) (ReadsBound register s) x e
    (λ m ends e.
    at_last _ (ReadsBound register s) x e
    (let a = again_reads register s u within again in
    let below : u.symbols ≡ sign signs.Less ∷ number n.0 ∷ sign Semicolon ∷ m = sign_taken signs.Less u.symbols l less
    ∙ ap (λ (j : List Symbol). sign signs.Less ∷ j)
    (number_taken l n bound ∙ ap (λ (j : List Symbol). number n.0 ∷ j) (sign_taken Semicolon n.1 m ends)) in
    record {
      name = a.name;
      next = a.next ∙ ap (λ (j : List Symbol). identifier a.name ∷ j) below;
      stands = a.stands;
      register_is = refl;
      parameters = a.parameters;
      names = a.names;
    }))))))

-- `REG ++ )`
record ReadsStep (register : ℕ) (s u : State) : Type 0 where
  name : List ℕ
  next : s.symbols ≡ identifier name ∷ sign Increment ∷ sign CloseParen ∷ u.symbols
  stands : slice_get s.names register ≡ Some name
  parameters : u.parameters ≡ s.parameters
  names : u.names ≡ s.names

step_reads : (register : ℕ) (s u : State) → length s.names ≤ 32 → step_at register s ≡ Some u → ReadsStep register s u
unfolding step_at
step_reads register s u within e =
    behind_it (take_again register s) (λ v. take_sign Increment v.symbols >>= λ l. take_sign CloseParen l >>= λ m. Some (with_left v m))
    (ReadsStep register s) u e (λ v again e.
    behind_it (take_sign Increment v.symbols) (λ l. take_sign CloseParen l >>= λ m. Some (with_left v m)) (ReadsStep register s) u e (λ l steps e.
    behind_it (take_sign CloseParen l) (λ m. Some (with_left v m)) (ReadsStep register s) u e (λ m closes e.
    at_last _ (ReadsStep register s) u e
    (let a = again_reads register s v within again in
    let behind : v.symbols ≡ sign Increment ∷ sign CloseParen ∷ m = sign_taken Increment v.symbols l steps ∙ ap (λ (j : List Symbol). sign Increment ∷ j)
    (sign_taken CloseParen l m closes) in
    record {
      name = a.name;
      next = a.next ∙ ap (λ (j : List Symbol). identifier a.name ∷ j) behind;
      stands = a.stands;
      parameters = a.parameters;
      names = a.names;
    }))))

-- `( REG = 0 ; REG < NUMBER ; REG ++ )`
abbrev pub header_symbols : (name : List ℕ) (turns : ℕ) → List Symbol → List Symbol
header_symbols name turns symbols =
    sign OpenParen ∷ identifier name ∷ sign Assign ∷ number 0 ∷ sign Semicolon ∷ identifier name ∷ sign signs.Less ∷ number turns
    ∷ sign Semicolon ∷ identifier name ∷ sign Increment ∷ sign CloseParen ∷ symbols

pub record ReadsHeader (counters : List ℕ) (s : State) (x : LoopHeader × State) : Type 0 where
  pub name : List ℕ
  pub next : s.symbols ≡ header_symbols name x.0.turns x.1.symbols
  pub is : IsChanged s.parameters counters s.names name x.0.register x.1.names
  pub below : x.0.register < 32
  pub within : length x.1.names ≤ 32
  pub parameters : x.1.parameters ≡ s.parameters

same_names : (names later : Names) (register : ℕ) (a b : List ℕ) → names ≡ later → slice_get names register ≡ Some a → slice_get later register ≡ Some b → b ≡ a
same_names names later register a b same one two = same_given b a (sym two ∙ ap (λ (n : Names). slice_get n register) (sym same) ∙ one)

pub header_reads : (p : NestingPlace) (counters : List ℕ) (s : State) (x : LoopHeader × State) → AreCounters p.counters counters → length s.names ≤ 32
    → header_at p s ≡ Some x
    → ReadsHeader counters s x
unfolding header_at
header_reads p counters s x are within e =
    behind_it (counter_at p.counters s) (λ r. bound_at p r.0 r.1 >>= λ h. step_at r.0 h.1 >>= λ u. Some (h.0, u)) (ReadsHeader counters s) x e (λ r counter e.
    behind_it (bound_at p r.0 r.1) (λ h. step_at r.0 h.1 >>= λ u. Some (h.0, u)) (ReadsHeader counters s) x e (λ h bound e.
    behind_it (step_at r.0 h.1) (λ u. Some (h.0, u)) (ReadsHeader counters s) x e (λ u step e.
    at_last _ (ReadsHeader counters s) x e
    (let c = counter_reads p.counters counters s r are within counter in
    let b = bound_reads p r.0 r.1 h c.within bound in
    let t = step_reads r.0 h.1 u (few b.names c.within) step in
    let stands = numbered_stands c.name r.0 s.names r.1.names c.is.is.numbered in
    let one : b.name ≡ c.name = same_names r.1.names r.1.names r.0 c.name b.name refl stands b.stands in
    let two : t.name ≡ c.name = same_names r.1.names h.1.names r.0 c.name t.name (sym b.names) stands t.stands in
    let last : h.1.symbols ≡ identifier c.name ∷ sign Increment ∷ sign CloseParen ∷ u.symbols = t.next ∙ ap (λ (n : List ℕ).
    identifier n ∷ sign Increment ∷ sign CloseParen ∷ u.symbols) two in
    let middle : r.1.symbols ≡ identifier c.name ∷ sign signs.Less ∷ number h.0.turns ∷ sign Semicolon
    ∷ identifier c.name ∷ sign Increment ∷ sign CloseParen ∷ u.symbols =
    b.next ∙ ap (λ (n : List ℕ). identifier n ∷ sign signs.Less ∷ number h.0.turns ∷ sign Semicolon ∷ h.1.symbols) one
    ∙ ap (λ (j : List Symbol). identifier c.name ∷ sign signs.Less ∷ number h.0.turns ∷ sign Semicolon ∷ j) last in
    let after_all : u.names ≡ r.1.names = t.names ∙ b.names in
    let register_is : h.0.register ≡ r.0 = b.register_is in
    let named = subst (λ (n : Names). IsChanged s.parameters counters s.names c.name r.0 n) (sym after_all) c.is in
    record {
      name = c.name;
      next = c.next ∙ ap (λ (j : List Symbol). sign OpenParen ∷ identifier c.name ∷ sign Assign ∷ number 0 ∷ sign Semicolon ∷ j) middle;
      is = subst (λ (k : ℕ). IsChanged s.parameters counters s.names c.name k u.names) (sym register_is) named;
      below = subst (λ (k : ℕ). k < 32) (sym register_is) (numbered_below c.name r.0 s.names r.1.names within c.is.is.numbered);
      within = few after_all c.within;
      parameters = t.parameters ∙ b.parameters ∙ c.parameters;
    }))))
