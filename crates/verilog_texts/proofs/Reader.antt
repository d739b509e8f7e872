-- A reader of expressions: what a text that was printed comes from. It is no part of what is believed, and takes more than is printed.
use Rattle.std.proofs.Common.{ℕ, zero, suc, Bool, true, false, cond, List, [], ◌∷◌, Option, Some, None, codes}
use Rattle.std.specs.Prelude.{◌||◌, nat_eq}
use Rattle.std.specs.Str.Parse.{digits_value}
use Prim.Native.String.{String}
use lib.Chars.{text_of}
use Rattle.verilog_tree.specs.Tree.{Size, count, named, more, less, Two, plus, minus, times, Way, left, right, Test, same, below, Logic}
use Rattle.verilog_tree.specs.Tree.{both, one_of, Expr, num, sized, const, name, bit, part, word, cat, inverse, two, shift, test, logic}
use Rattle.verilog_tree.specs.Tree.{none, any, every, pick}
use Rattle.verilog_tree.specs.WellFormed.{Entry, of_kind, parameter, is_memory, letter}
use Rattle.verilog_texts.proofs.Pieces.{front, rest, starts, behind, digit, in_name}

-- what was read, and what is left
abbrev pub Got : Type 0 → Type 0
Got A = Option (A × List ℕ)

abbrev pub go_on : {A B : Type 0} → Got A → (A → List ℕ → Option B) → Option B
go_on None f = None
go_on (Some p) f = f p.0 p.1

abbrev pub when : {B : Type 0} → Option (List ℕ) → (List ℕ → Option B) → Option B
when None f = None
when (Some r) f = f r

-- without the first
abbrev pub past : List ℕ → List ℕ
past [] = []
past (c ∷ cs) = cs

-- the same with a character behind it
abbrev pub closed : {A : Type 0} → ℕ → Got A → Got A
closed c o = go_on o (λ a r. when (behind (c ∷ []) r) (λ t. Some (a, t)))

-- the second part of a size
abbrev pub more_size : (List ℕ → Got Size) → Size → List ℕ → Got Size
more_size go a r =
    cond (starts (nat_eq 43) r) (closed 41 (go_on (go (past r)) (λ b t. Some (more a b, t))))
    (cond (starts (nat_eq 45) r) (closed 41 (go_on (go (past r)) (λ b t. Some (less a b, t)))) None)

abbrev pub read_size : ℕ → List ℕ → Got Size
read_size zero cs = None
read_size (suc k) cs =
    cond (starts letter cs) (Some (named (text_of (front in_name cs)), rest in_name cs))
    (cond (starts digit cs) (Some (count (digits_value 10 (front digit cs)), rest digit cs))
    (cond (starts (nat_eq 40) cs) (go_on (read_size k (past cs)) (λ a r. more_size (read_size k) a r)) None))

-- signs of operators
pub data Sign : Type 0 where
  s_two : Two → Sign
  s_shift : Way → Sign
  s_test : Test → Sign
  s_logic : Logic → Sign
  s_pick : Sign

abbrev pub or_next : Option (List ℕ) → Sign → Got Sign → Got Sign
or_next None s o = o
or_next (Some r) s o = Some (s, r)

abbrev pub read_sign : List ℕ → Got Sign
read_sign r =
    or_next (behind (codes " + ") r) (s_two plus) (or_next (behind (codes " - ") r) (s_two minus)
    (or_next (behind (codes " * ") r) (s_two times) (or_next (behind (codes " << ") r) (s_shift left)
    (or_next (behind (codes " >> ") r) (s_shift right) (or_next (behind (codes " == ") r) (s_test same)
    (or_next (behind (codes " < ") r) (s_test below) (or_next (behind (codes " && ") r) (s_logic both)
    (or_next (behind (codes " || ") r) (s_logic one_of) (or_next (behind (codes " ? ") r) s_pick None)))))))))

-- what stands behind a first operand
abbrev pub read_more : (List ℕ → Got Expr) → Expr → List ℕ → Got Sign → Got Expr
read_more go a r None = Some (a, r)
read_more go a r (Some ((s_two o), t)) = go_on (go t) (λ b u. Some (two o a b, u))
read_more go a r (Some ((s_shift o), t)) = go_on (go t) (λ b u. Some (shift o a b, u))
read_more go a r (Some ((s_test o), t)) = go_on (go t) (λ b u. Some (test o a b, u))
read_more go a r (Some ((s_logic o), t)) = go_on (go t) (λ b u. Some (logic o a b, u))
read_more go a r (Some (s_pick, t)) =
    go_on (go t) (λ b u. when (behind (codes " : ") u) (λ v. go_on (go v) (λ c w. Some (pick a b c, w))))

-- what an operand without parentheses, or with them, begins with
abbrev pub primary : ℕ → Bool
primary c = letter c || (digit c || (nat_eq 123 c || nat_eq 40 c))

-- an expression that is no operand, by a reader of operands
abbrev pub read_top : (List ℕ → Got Expr) → List ℕ → Got Expr
read_top go cs =
    cond (starts primary cs) (go_on (go cs) (λ a r. read_more go a r (read_sign r)))
    (cond (starts (nat_eq 126) cs) (go_on (go (past cs)) (λ a r. Some (inverse a, r)))
    (cond (starts (nat_eq 33) cs) (go_on (go (past cs)) (λ a r. Some (none a, r)))
    (cond (starts (nat_eq 124) cs) (go_on (go (past cs)) (λ a r. Some (any a, r)))
    (cond (starts (nat_eq 38) cs) (go_on (go (past cs)) (λ a r. Some (every a, r))) None))))

-- a number
abbrev pub read_number : ℕ → List ℕ → Option (List ℕ) → Got Expr
read_number n r None = Some (num n, r)
read_number n r (Some t) = Some (sized n (digits_value 10 (front digit t)), rest digit t)

-- a part of a vector
abbrev pub read_part : ℕ → String → List ℕ → Got Expr
read_part k x cs =
    go_on (read_size k cs) (λ h r. when (behind (codes ":") r) (λ t. closed 93 (go_on (read_size k t) (λ l u. Some (part x h l, u)))))

-- a bit, a word or a part, by what was read as an index
abbrev pub index_end : List Entry → ℕ → String → List ℕ → Expr → Option (List ℕ) → Got Expr
index_end env k x cs e None = read_part k x cs
index_end env k x cs e (Some t) = Some (cond (of_kind is_memory env x) (word x e) (bit x e), t)

abbrev pub read_index : List Entry → ℕ → String → List ℕ → Got Expr → Got Expr
read_index env k x cs None = read_part k x cs
read_index env k x cs (Some p) = index_end env k x cs p.0 (behind (codes "]") p.1)

-- a name, or what is selected of it
abbrev pub read_name : List Entry → ℕ → (List ℕ → Got Expr) → String → List ℕ → Option (List ℕ) → Got Expr
read_name env k go x r None = Some (cond (of_kind parameter env x) (const x) (name x), r)
read_name env k go x r (Some t) = read_index env k x t (go t)

-- an operand, by a reader of expressions
abbrev pub read_prim : List Entry → ℕ → (List ℕ → Got Expr) → List ℕ → Got Expr
read_prim env k go cs =
    cond (starts letter cs)
    (read_name env k go (text_of (front in_name cs)) (rest in_name cs) (behind (codes "[") (rest in_name cs)))
    (cond (starts digit cs)
    (read_number (digits_value 10 (front digit cs)) (rest digit cs) (behind (codes "'d") (rest digit cs)))
    (cond (starts (nat_eq 123) cs)
    (go_on (go (past cs)) (λ a r. when (behind (codes ", ") r) (λ t. closed 125 (go_on (go t) (λ b u. Some (cat a b, u))))))
    (cond (starts (nat_eq 40) cs) (closed 41 (go (past cs))) None)))

abbrev pub read : Bool → List Entry → ℕ → List ℕ → Got Expr
read c env zero cs = None
read true env (suc k) cs = read_prim env k (read false env k) cs
read false env (suc k) cs = read_top (read true env k) cs
