-- Variables at multiples of their sizes are placed: each lies in a cell.
use Rattle.std.proofs.Common.{◌≡◌, ◌<◌, ◌≤◌, ◌∙◌, ◌+◌, ◌-◌, ◌%◌, ◌^◌, ◌==◌, ◌||◌, ◌++◌, ℕ}
use Rattle.std.proofs.Common.{zero, suc, Bool, true, false, List, [], ◌∷◌, Option, None, Some, IsSome, add-zero, ap, arith, cond, eq-eqb}
use Rattle.std.proofs.Common.{fold, option_map, refl, slice_get, subst, sym, unwrap_or, zero-add, if◌then◌else◌}
use Rattle.std.proofs.lemmas.Bool.{eqb-true, le-leb, ne_eqb}
use Rattle.std.proofs.lemmas.Iterator.Adapters.{position_from-zero}
use Rattle.std.specs.List.{list_any, position, position_from}
use Rattle.access_types.specs.Access.{Access}
use Rattle.access_types.specs.declared.history.Bytes.{Bytes}
use Rattle.litmus_semantics.specs.Layout.{VariablePlace, block_of, bytes_at, cells_of, initial_value, initial_values, no_bytes, with_cell}
use Rattle.litmus_semantics.specs.Task.{bytes_in}
use Rattle.litmus_semantics.specs.Values.{size_of}
use Rattle.litmus_syntax.specs.Limits.{IsLock}
use Rattle.litmus_syntax.specs.declared.program.Contents.{Contents}
use Rattle.litmus_syntax.specs.declared.program.Contents.TheVariants.{Atomic, Char, Int, Lock, Long, Short}
use Rattle.litmus_syntax.specs.declared.program.Variable.{Variable}
use Rattle.setup_access.specs.Values.{has_value, lies_in, source_in, source_of}
use Rattle.prepared_program.specs.program_layout.Aligned.{AreAligned}
use Rattle.task_plan.specs.task_laws.Fits.{ArePlaced, HasBytes}
use Rattle.program_order.specs.Standing.{Setting, checks_of}

abbrev Has : ℕ → List ℕ → Type 0
Has cell cells = list_any (λ (other : ℕ). other == cell) cells ≡ true

or_goes : (b c d : Bool) → (b || c) ≡ true → (c ≡ true → d ≡ true) → (b || d) ≡ true
or_goes true c d h goes = refl
or_goes false c d h goes = goes h

or_last : (b c : Bool) → c ≡ true → (b || c) ≡ true
or_last true c h = refl
or_last false c h = h

any_left : (p : ℕ → Bool) (xs ys : List ℕ) → list_any p xs ≡ true → list_any p (xs ++ ys) ≡ true
any_left p [] ys has = cc
any_left p (x ∷ xs) ys has = or_goes (p x) (list_any p xs) (list_any p (xs ++ ys)) has (λ h. any_left p xs ys h)

any_last : (cell : ℕ) (cells : List ℕ) → Has cell (cells ++ cell ∷ [])
any_last cell [] = rw (eq-eqb cell cell refl) refl
any_last cell (other ∷ cells) = or_last (other == cell) (list_any (λ (o : ℕ). o == cell) (cells ++ cell ∷ [])) (any_last cell cells)

either_has : (cell next : ℕ) (cells : List ℕ) (there : Bool) → Has cell cells → Has cell (if there then cells else cells ++ next ∷ [])
either_has cell next cells true has = has
either_has cell next cells false has = any_left (λ (other : ℕ). other == cell) cells (next ∷ []) has

kept_one : (cell : ℕ) (cells : List ℕ) (value : Bytes × ℕ) → Has cell cells → Has cell (with_cell cells value)
kept_one cell cells value has =
    either_has cell (block_of value.0.addr) cells ((value.0.size == 0) || list_any (λ (other : ℕ). other == block_of value.0.addr) cells) has

kept : (cell : ℕ) (values : List (Bytes × ℕ)) (cells : List ℕ) → Has cell cells → Has cell (fold with_cell cells values)
kept cell [] cells has = has
kept cell (value ∷ values) cells has = kept cell values (with_cell cells value) (kept_one cell cells value has)

added : (cell : ℕ) (cells : List ℕ) (none there : Bool) → none ≡ false → (there ≡ true → Has cell cells)
    → Has cell (if none || there then cells else cells ++ cell ∷ [])
added cell cells true there some has = cc
added cell cells false true some has = has refl
added cell cells false false some has = any_last cell cells

added_one : (cells : List ℕ) (value : Bytes × ℕ) → (value.0.size == 0) ≡ false → Has (block_of value.0.addr) (with_cell cells value)
added_one cells value some =
    added (block_of value.0.addr) cells (value.0.size == 0) (list_any (λ (other : ℕ). other == block_of value.0.addr) cells) some (λ has. has)

found : (places : List VariablePlace) (number : ℕ) (variables : List Variable) (n : ℕ) (variable : Variable) → slice_get variables n ≡ Some variable
    → (size_of variable.contents == 0) ≡ false → (cells : List ℕ)
    → Has (block_of (bytes_at places (n + number) variable).addr) (fold with_cell cells (initial_values places number variables))
found places number [] n variable is some cells = cc
found places number (first ∷ more) zero variable is some cells =
    let same : first ≡ variable = cc in
    let value : Bytes × ℕ = (bytes_at places number first, initial_value first.contents) in
    let first_some : (value.0.size == 0) ≡ false = subst (λ (v : Variable). (size_of v.contents == 0) ≡ false) (sym same) some in
    let here : Has (block_of value.0.addr) (fold with_cell (with_cell cells value) (initial_values places (suc number) more)) =
    kept (block_of value.0.addr) (initial_values places (suc number) more) (with_cell cells value) (added_one cells value first_some) in
    subst (λ (k : ℕ). Has (block_of (bytes_at places k variable).addr) (fold with_cell cells (initial_values places number (first ∷ more))))
    (sym (zero-add number))
    (subst (λ (v : Variable). Has (block_of (bytes_at places number v).addr) (fold with_cell cells (initial_values places number (first ∷ more)))) same here)
found places number (first ∷ more) (suc n) variable is some cells =
    subst (λ (k : ℕ). Has (block_of (bytes_at places k variable).addr) (fold with_cell cells (initial_values places number (first ∷ more))))
    (let same : n + suc number ≡ suc n + number = omega arith in same)
    (found places (suc number) more n variable is some (with_cell cells (bytes_at places number first, initial_value first.contents)))

first_or : (b rest : Bool) (i : ℕ) (later : Option ℕ) → (b || rest) ≡ true → (rest ≡ true → IsSome later) → IsSome (cond b (Some i) later)
first_or true rest i later has goes = refl
first_or false rest i later has goes = goes has

some_from : (p : ℕ → Bool) (i : ℕ) (xs : List ℕ) → list_any p xs ≡ true → IsSome (position_from p i xs)
some_from p i [] has = cc
some_from p i (x ∷ xs) has = first_or (p x) (list_any p xs) i (position_from p (i + 1) xs) has (λ rest. some_from p (i + 1) xs rest)

or_as : (b c d e : Bool) → (b || c) ≡ true → (b ≡ true → d ≡ true) → (c ≡ true → e ≡ true) → (d || e) ≡ true
or_as true c true e has first later = refl
or_as true c false e has first later = absurd (let no : false ≡ true = first refl in cc)
or_as false c d e has first later = or_last d e (later has)

any_as : (p q : ℕ → Bool) (xs : List ℕ) → ((x : ℕ) → p x ≡ true → q x ≡ true) → list_any p xs ≡ true → list_any q xs ≡ true
any_as p q [] goes has = cc
any_as p q (x ∷ xs) goes has =
    or_as (p x) (list_any p xs) (q x) (list_any q xs) has (goes x) (λ rest. any_as p q xs goes rest)

some_position : (p : ℕ → Bool) (xs : List ℕ) → list_any p xs ≡ true → IsSome (position p xs)
some_position p xs has = subst (λ (o : Option ℕ). IsSome o) (sym (position_from-zero p xs)) (some_from p 0 xs has)

mapped : {A B : Type 0} (f : A → B) (o : Option A) → IsSome o → IsSome (option_map f o)
mapped f None is = absurd (let no : false ≡ true = is in cc)
mapped f (Some x) is = refl

-- the sizes of variables with bytes
data Sized (size : ℕ) : Type 0 where
  one : size ≡ 1 → Sized size
  two : size ≡ 2 → Sized size
  four : size ≡ 4 → Sized size
  eight : size ≡ 8 → Sized size

sized : (contents : Contents) → ¬ IsLock contents → Sized (size_of contents)
sized (Char n) not_lock = one refl
sized (Short n) not_lock = two refl
sized (Int n) not_lock = four refl
sized (Long n) not_lock = eight refl
sized (Atomic n) not_lock = four refl
sized Lock not_lock = absurd (not_lock tt)

size_value : (size : ℕ) → Sized size → has_value size ≡ true
size_value size (one is) = rw is refl
size_value size (two is) = rw is refl
size_value size (four is) = rw is refl
size_value size (eight is) = rw is refl

size_some : (size : ℕ) → Sized size → (0 < size) × (size ≤ 8)
size_some size (one is) = (omega arith, omega arith)
size_some size (two is) = (omega arith, omega arith)
size_some size (four is) = (omega arith, omega arith)
size_some size (eight is) = (omega arith, omega arith)

not_zero : (size : ℕ) → 0 < size → (size == 0) ≡ false
not_zero zero some = absurd (omega arith)
not_zero (suc size) some = ne_eqb (suc size) 0 (λ e. cc)

in_block : (addr size : ℕ) → Sized size → addr % size ≡ 0 → addr + size ≤ (addr - addr % 8) + 8
in_block addr size (one is) multiple = omega arith
in_block addr size (two is) multiple =
    let even : addr % 2 ≡ 0 = subst (λ (n : ℕ). addr % n ≡ 0) is multiple in omega (arith, even, is)
in_block addr size (four is) multiple =
    let even : addr % 4 ≡ 0 = subst (λ (n : ℕ). addr % n ≡ 0) is multiple in omega (arith, even, is)
in_block addr size (eight is) multiple =
    let even : addr % 8 ≡ 0 = subst (λ (n : ℕ). addr % n ≡ 0) is multiple in omega (arith, even, is)

lies_there : (a : Access) (cell : ℕ) → cell ≤ a.addr → a.addr + a.size ≤ cell + 8 → lies_in a cell ≡ true
lies_there a cell low high = rw (le-leb cell a.addr low, le-leb (a.addr + a.size) (cell + 8) high) refl

pub aligned_placed : (s : Setting) → s.text.task < 16 → AreAligned s.text.places s.text.variables → ArePlaced s
aligned_placed s below aligned = record {
  task = below;
  bytes = λ number variable stands not_lock. placed number variable stands not_lock;
}
  where
    placed : (number : ℕ) (variable : Variable) → slice_get s.text.variables number ≡ Some variable → ¬ IsLock variable.contents → HasBytes s number
    placed number variable stands not_lock =
        let bytes : Bytes = bytes_at s.text.places number variable in
        let same : bytes_in s.text number ≡ bytes =
        ap (λ (o : Option Variable). unwrap_or (option_map (bytes_at s.text.places number) o) no_bytes) stands in
        let size : Sized bytes.size = sized variable.contents not_lock in
        let some = size_some bytes.size size in
        let is = aligned number variable stands not_lock in
        let fits = in_block bytes.addr bytes.size size is.multiple in
        let there : Has (block_of bytes.addr) (cells_of s.text.places s.text.variables) =
        subst (λ (k : ℕ). Has (block_of (bytes_at s.text.places k variable).addr) (cells_of s.text.places s.text.variables)) (add-zero number)
        (found s.text.places 0 s.text.variables number variable stands (not_zero bytes.size some.0) []) in
        record {
          some = subst (λ (b : Bytes). 0 < b.size) (sym same) some.0;
          few = subst (λ (b : Bytes). b.size ≤ 8) (sym same) some.1;
          low = subst (λ (b : Bytes). b.addr ≤ 2 ^ 62) (sym same) is.low;
          in_cell = λ a addr size_is.
              let addr_at : a.addr ≡ bytes.addr = addr ∙ ap (λ (b : Bytes). b.addr) same in
              let size_at : a.size ≡ bytes.size = size_is ∙ ap (λ (b : Bytes). b.size) same in
              in_some_cell a bytes addr_at size_at size fits there;
        }
      where
        in_some_cell : (a : Access) (bytes : Bytes) → a.addr ≡ bytes.addr → a.size ≡ bytes.size → Sized bytes.size
            → bytes.addr + bytes.size ≤ (bytes.addr - bytes.addr % 8) + 8 → Has (block_of bytes.addr) (cells_of s.text.places s.text.variables)
            → IsSome (source_of (checks_of s) a)
        in_some_cell a bytes addr_at size_at size fits there =
            let lies : lies_in a (block_of bytes.addr) ≡ true = lies_there a (block_of bytes.addr) (omega arith) (omega arith) in
            let any : list_any (lies_in a) (cells_of s.text.places s.text.variables) ≡ true =
            any_as (λ (other : ℕ). other == block_of bytes.addr) (lies_in a) (cells_of s.text.places s.text.variables)
            (λ other tells. subst (λ (c : ℕ). lies_in a c ≡ true) (sym (eqb-true other (block_of bytes.addr) tells)) lies) there in
            let value : has_value a.size ≡ true = rw size_at (size_value bytes.size size) in
            rw value (mapped (source_in (checks_of s) a) (position (lies_in a) (cells_of s.text.places s.text.variables))
            (some_position (lies_in a) (cells_of s.text.places s.text.variables) any))
