-- What a list of cells, and a table, hold after a number was put under a name.
use Rattle.std.proofs.Common.{◌≡◌, ℕ, zero, suc, ◌+◌, Bool, true, false, ◌&&◌, nat_eq, List, [], ◌∷◌, ◌++◌, refl, sym, ap, subst, ◌∙◌}
use Rattle.std.proofs.Common.{◌≤◌, ◌<◌, ◌-◌, get_or, set, take, drop, arith, add-one, eqb-true, length, Vec, Global}
use Rattle.std.proofs.Math.Path.{fun_ext}
use Rattle.std.proofs.lemmas.Bool.{eqb-false}
use Prim.Native.String.{String}
use lib.Text.{eqt, eqt→eq}
use Rattle.verilog_tree.specs.Meaning.{chosen, Store, set_vec}
use Rattle.verilog_run.specs.Entries.{Entry, entry, entries, found, lists_of, new_entry, numbers_at, put_at, Holds, Puts, slot, under}
use Rattle.verilog_run.specs.Entries.{TableHolds}
use Rattle.verilog_run.specs.Held.{store_of, with_word}
use Rattle.verilog_tree.specs.Names.{text_of}
use Rattle.verilog_run.specs.declared.cells.Cell.{Cell}
use Rattle.verilog_run.proofs.Texts.{holds_of}

pub and_parts : (a b : Bool) → (a && b) ≡ true → (a ≡ true) × (b ≡ true)
and_parts true true h = (refl, refl)
and_parts true false h = (refl, h)
and_parts false b h = (h, absurd (let n : ⊥ = cc in n))

pub and_true : (a : Bool) → (a && true) ≡ a
and_true true = refl
and_true false = refl

-- a number where a place is asked for, of two lists of numbers under one name or another
chosen_put : (b c : Bool) (m n k f : ℕ) → m ≡ chosen c n k → chosen b m f ≡ chosen (b && c) n (chosen b k f)
chosen_put true c m n k f h = h
chosen_put false c m n k f h = refl

-- the first cell gets other numbers
pub head_put : (e x : String) (i n : ℕ) (ms ns : List ℕ) (es : List Entry) → eqt e x ≡ true → Puts ns ms i n →
    Holds (new_entry e ns ∷ es) (new_entry e ms ∷ es) x i n
head_put e x i n ms ns es h puts y j =
    let same : e ≡ x = eqt→eq e x (holds_of (eqt e x) h) in
    chosen_put (eqt e y) (nat_eq i j) (get_or ns j 0) n (get_or ms j 0) (found es y j) (puts j)
    ∙ ap (λ z. chosen (eqt z y && nat_eq i j) n (chosen (eqt e y) (get_or ms j 0) (found es y j))) same

-- a cell of another name stays in front
pub tail_put : (e : Entry) (x : String) (i n : ℕ) (new old : List Entry) → eqt e.name x ≡ false → Holds new old x i n →
    Holds (e ∷ new) (e ∷ old) x i n
tail_put e x i n new old h rest y j =
    ap (λ f. chosen (eqt e.name y) (get_or e.numbers j 0) f) (rest y j)
    ∙ go (eqt e.name y) (eqt x y && nat_eq i j) apart
  where
    apart : eqt e.name y ≡ true → (eqt x y && nat_eq i j) ≡ true → ⊥
    apart b c =
        let p = and_parts (eqt x y) (nat_eq i j) c in
        let q : eqt e.name x ≡ true = subst (λ z. eqt e.name z ≡ true) (sym (eqt→eq x y (holds_of (eqt x y) p.0))) b in
        cc

    go : (b c : Bool) → (b ≡ true → c ≡ true → ⊥) → chosen b (get_or e.numbers j 0) (chosen c n (found old y j))
        ≡ chosen c n (chosen b (get_or e.numbers j 0) (found old y j))
    go true true f = absurd (f refl refl)
    go true false f = refl
    go false true f = refl
    go false false f = refl

-- a cell of its own
pub last_put : (x : String) (i n : ℕ) (ns : List ℕ) → Puts ns [] i n → Holds (new_entry x ns ∷ []) [] x i n
last_put x i n ns puts y j = go (eqt x y) (puts j)
  where
    go : (b : Bool) → get_or ns j 0 ≡ chosen (nat_eq i j) n 0 → chosen b (get_or ns j 0) 0 ≡ chosen (b && nat_eq i j) n 0
    go true h = h
    go false h = refl

-- what stands behind the first cell
abbrev pub rest_of : List Cell → List Cell
rest_of cells = take (length cells - 1) (drop 1 cells)

-- a list by its first cell and the rest
pub parts : (cells : List Cell) (first : Cell) → 1 ≤ length cells → first ≡ get_or cells 0 first → cells ≡ first ∷ rest_of cells
parts [] first l e = absurd (omega arith)
parts (c ∷ cs) first l e =
    let m : suc (length cs) - 1 ≡ length cs = omega arith in
    ap (λ z. z ∷ cs) (sym e) ∙ ap (λ r. first ∷ r) (sym (ap (λ n. take n cs) m ∙ take_whole cs))
  where
    take_whole : (cs : List Cell) → take (length cs) cs ≡ cs
    take_whole [] = refl
    take_whole (c ∷ cs) = ap (λ r. c ∷ r) (take_whole cs)

-- other numbers in the k-th cell are what a number under a name is
abbrev pub Places : List Entry → String → ℕ → Type 0
Places es x k = (i n : ℕ) (ns : List ℕ) → Puts ns (numbers_at es k) i n → Holds (put_at es k ns) es x i n

-- so is a cell at the end
abbrev pub Ends : List Entry → String → Type 0
Ends es x = (i n : ℕ) (ns : List ℕ) → Puts ns [] i n → Holds (es ++ new_entry x ns ∷ []) es x i n

pub place_here : (cells : List Cell) (first : Cell) (x : String) → 1 ≤ length cells → first ≡ get_or cells 0 first →
    eqt (text_of first.name.items) x ≡ true → Places (entries cells) x 0
place_here cells first x l e h =
    subst (λ cs. Places (entries cs) x 0) (sym (parts cells first l e))
    (λ i n ns puts. head_put (text_of first.name.items) x i n first.numbers.items ns (entries (rest_of cells)) h puts)

pub place_later : (cells : List Cell) (first : Cell) (x : String) (k : ℕ) → 1 ≤ length cells → first ≡ get_or cells 0 first →
    eqt (text_of first.name.items) x ≡ false → Places (entries (rest_of cells)) x k → Places (entries cells) x (k + 1)
place_later cells first x k l e h rest =
    subst (λ cs. Places (entries cs) x (k + 1)) (sym (parts cells first l e))
    (subst (λ m. Places (entry first ∷ entries (rest_of cells)) x m) (sym (add-one k))
    (λ i n ns puts. tail_put (entry first) x i n (put_at (entries (rest_of cells)) k ns) (entries (rest_of cells)) h (rest i n ns puts)))

pub place_none : (cells : List Cell) (first : Cell) (x : String) → 1 ≤ length cells → first ≡ get_or cells 0 first →
    eqt (text_of first.name.items) x ≡ false → Ends (entries (rest_of cells)) x → Ends (entries cells) x
place_none cells first x l e h rest =
    subst (λ cs. Ends (entries cs) x) (sym (parts cells first l e))
    (λ i n ns puts. tail_put (entry first) x i n (entries (rest_of cells) ++ new_entry x ns ∷ []) (entries (rest_of cells)) h
    (rest i n ns puts))

-- other numbers in the k-th cell
pub set_entries : (cells : List Cell) (k : ℕ) (ns : List ℕ) (c d : Cell) → k < length cells → c ≡ get_or cells k c →
    entry d ≡ new_entry (text_of c.name.items) ns → entries (set cells k d) ≡ put_at (entries cells) k ns
set_entries [] k ns c d l e h = absurd (omega arith)
set_entries (b ∷ bs) zero ns c d l e h = ap (λ z. z ∷ entries bs) (h ∙ ap (λ (z : Cell). new_entry (text_of z.name.items) ns) e)
set_entries (b ∷ bs) (suc k) ns c d l e h = ap (λ z. entry b ∷ z) (set_entries bs k ns c d (omega arith) e h)

-- and the numbers that it had
pub numbers_of : (cells : List Cell) (k : ℕ) (c : Cell) → k < length cells → c ≡ get_or cells k c →
    c.numbers.items ≡ numbers_at (entries cells) k
numbers_of [] k c l e = absurd (omega arith)
numbers_of (b ∷ bs) zero c l e = ap (λ (z : Cell). z.numbers.items) e
numbers_of (b ∷ bs) (suc k) c l e = numbers_of bs k c (omega arith) e

-- so a number was put under a name
pub put_cell : (cells ds : List Cell) (k : ℕ) (c d : Cell) (x : String) (i n : ℕ) → ds ≡ cells → k < length ds → c ≡ get_or cells k c →
    entry d ≡ new_entry (text_of c.name.items) d.numbers.items → Places (entries ds) x k → Puts d.numbers.items c.numbers.items i n →
    Holds (entries (set cells k d)) (entries cells) x i n
put_cell cells ds k c d x i n same within is named places puts =
    let l : k < length cells = subst (λ cs. k < length cs) same within in
    let p : Puts d.numbers.items (numbers_at (entries cells) k) i n =
    subst (λ ms. Puts d.numbers.items ms i n) (numbers_of cells k c l is) puts in
    subst (λ es. Holds es (entries cells) x i n) (sym (set_entries cells k d.numbers.items c d l is named))
    (subst (λ cs. Places (entries cs) x k) same places i n d.numbers.items p)

-- what is put at a place is there, and all else stays
pub get_set : {A : Type 0} (xs : List A) (k : ℕ) (x d : A) → k < length xs → get_or (set xs k x) k d ≡ x
get_set [] k x d l = absurd (omega arith)
get_set (y ∷ ys) zero x d l = refl
get_set (y ∷ ys) (suc k) x d l = get_set ys k x d (omega arith)

pub get_other : {A : Type 0} (xs : List A) (k j : ℕ) (x d : A) → (k ≡ j → ⊥) → get_or (set xs k x) j d ≡ get_or xs j d
get_other [] k j x d f = refl
get_other (y ∷ ys) zero zero x d f = absurd (f refl)
get_other (y ∷ ys) zero (suc j) x d f = refl
get_other (y ∷ ys) (suc k) zero x d f = refl
get_other (y ∷ ys) (suc k) (suc j) x d f = get_other ys k j x d (λ e. f (ap suc e))

-- another number in a list of numbers
pub set_puts : (ns : List ℕ) (k n : ℕ) → k < length ns → Puts (set ns k n) ns k n
set_puts ns k n l j = go (nat_eq k j) refl
  where
    go : (b : Bool) → nat_eq k j ≡ b → get_or (set ns k n) j 0 ≡ chosen b n (get_or ns j 0)
    go true e = subst (λ i. get_or (set ns k n) i 0 ≡ n) (eqb-true k j e) (get_set ns k n 0 l)
    go false e = get_other ns k j n 0 (eqb-false k j e)

-- one more at the end, where nothing was
pub push_same : {A : Type 0} (xs : List A) (d : A) (j : ℕ) → get_or (xs ++ d ∷ []) j d ≡ get_or xs j d
push_same [] d zero = refl
push_same [] d (suc j) = refl
push_same (x ∷ xs) d zero = refl
push_same (x ∷ xs) d (suc j) = push_same xs d j

-- a list of a table
pub row_put : (ls : List (List Entry)) (k : ℕ) (r : List Entry) (x : String) (i n : ℕ) → k < length ls → k ≡ slot x →
    Holds r (get_or ls k []) x i n → TableHolds (set ls k r) ls x i n
row_put ls k r x i n l e h y j = go (nat_eq k (slot y)) refl
  where
    away : (b : Bool) → eqt x y ≡ b → (k ≡ slot y → ⊥) → found (get_or ls (slot y) []) y j
        ≡ chosen (b && nat_eq i j) n (found (get_or ls (slot y) []) y j)
    away true q f = absurd (f (e ∙ ap slot (eqt→eq x y (holds_of (eqt x y) q))))
    away false q f = refl

    go : (b : Bool) → nat_eq k (slot y) ≡ b → found (get_or (set ls k r) (slot y) []) y j
        ≡ chosen (eqt x y && nat_eq i j) n (found (get_or ls (slot y) []) y j)
    go true q =
        subst (λ m. found (get_or (set ls k r) m []) y j ≡ chosen (eqt x y && nat_eq i j) n (found (get_or ls m []) y j))
        (eqb-true k (slot y) q) (ap (λ es. found es y j) (get_set ls k r [] l) ∙ h y j)
    go false q =
        ap (λ es. found es y j) (get_other ls k (slot y) r [] (eqb-false k (slot y) q))
        ∙ away (eqt x y) refl (eqb-false k (slot y) q)

-- a list of a table
row_is : (ls : List (Vec Cell Global)) (k : ℕ) (v : Vec Cell Global) → k < length ls → v ≡ get_or ls k v →
    entries v.items ≡ get_or (lists_of ls) k []
row_is [] k v l e = absurd (omega arith)
row_is (u ∷ us) zero v l e = ap (λ (w : Vec Cell Global). entries w.items) e
row_is (u ∷ us) (suc k) v l e = row_is us k v (omega arith) e

-- other cells in a list of a table
row_set : (ls : List (Vec Cell Global)) (k : ℕ) (v : Vec Cell Global) → lists_of (set ls k v) ≡ set (lists_of ls) k (entries v.items)
row_set [] k v = refl
row_set (u ∷ us) zero v = refl
row_set (u ∷ us) (suc k) v = ap (λ ws. entries u.items ∷ ws) (row_set us k v)

-- so a number was put into a table
pub put_row : (ls : List (Vec Cell Global)) (k : ℕ) (old new : Vec Cell Global) (x : String) (i n : ℕ) → k < length (lists_of ls) →
    k ≡ slot x → old ≡ get_or ls k old → Holds (entries new.items) (entries old.items) x i n →
    TableHolds (lists_of (set ls k new)) (lists_of ls) x i n
put_row ls k old new x i n within own is held =
    let row : entries old.items ≡ get_or (lists_of ls) k [] = row_is ls k old (subst (λ m. k < m) (as_many ls) within) is in
    subst (λ r. TableHolds r (lists_of ls) x i n) (sym (row_set ls k new))
    (row_put (lists_of ls) k (entries new.items) x i n within own (subst (λ es. Holds (entries new.items) es x i n) row held))
  where
    as_many : (ls : List (Vec Cell Global)) → length (lists_of ls) ≡ length ls
    as_many [] = refl
    as_many (u ∷ us) = ap suc (as_many us)

-- a table that was made longer before
pub table_after : (old mid new : List (List Entry)) (x : String) (i n : ℕ) → ((j : ℕ) → get_or mid j [] ≡ get_or old j []) →
    TableHolds new mid x i n → TableHolds new old x i n
table_after old mid new x i n same h y j =
    h y j ∙ ap (λ es. chosen (eqt x y && nat_eq i j) n (found es y j)) (same (slot y))

-- a vector of a store
pub vector_put : (us vs ws : List (List Entry)) (x : String) (n : ℕ) → TableHolds us vs x 0 n →
    store_of us ws ≡ set_vec x n (store_of vs ws)
vector_put us vs ws x n h = ap with_vec (fun_ext (λ y. h y 0 ∙ ap (λ b. chosen b n (under vs y 0)) (and_true (eqt x y))))
  where
    with_vec : (String → ℕ) → Store
    with_vec f = record { vec = f; mem = λ m i. under ws m i; stray = λ y i. 0 }

-- a word of a store
pub word_put : (vs us ws : List (List Entry)) (x : String) (i n : ℕ) → TableHolds us ws x i n →
    store_of vs us ≡ with_word x i n (store_of vs ws)
word_put vs us ws x i n h = ap with_words (fun_ext (λ y. fun_ext (λ j. h y j)))
  where
    with_words : (String → ℕ → ℕ) → Store
    with_words f = record { vec = λ y. under vs y 0; mem = f; stray = λ y j. 0 }
