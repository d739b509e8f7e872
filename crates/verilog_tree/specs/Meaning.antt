-- What a tree means, after IEEE 1364-2005, whose clauses are named: the widths of expressions, their values, assignment with truncation,
-- blocks that settle in their order, and one edge of the clock.
-- A vector is the number that its bits are, below 2 to the power of its width.
-- Past the end of a memory nothing is written, and past the end of a vector or a memory any number is read.
-- It is narrower than the standard in this: bits are 0 or 1 (what isn't written yet has any value); numbers without a width are below
-- 2 ^ 31, so that all is unsigned; each name has one meaning in the whole module; a `case` is told by its labels' numbers; there is one
-- clock; and wires and blocks that settle stand in an order in which each reads only what stands above.
use Rattle.std.specs.Prelude.{ℕ, suc, ◌+◌, ◌-◌, ◌*◌, ◌/◌, ◌%◌, ◌^◌, max, nat_eq, nat_lt}
use Rattle.std.specs.Prelude.{Bool, true, false, not, ◌&&◌, ◌||◌, List, [], ◌∷◌}
use Prim.Native.String.{String}
use lib.Text.{eqt}
use Rattle.verilog_tree.specs.Tree.{Size, count, named, more, less, Two, plus, minus, times, Way, left, right}
use Rattle.verilog_tree.specs.Tree.{Test, same, below, Logic, both, one_of, Expr, num, sized, const, name, bit, part, word}
use Rattle.verilog_tree.specs.Tree.{cat, inverse, two, shift, test, logic, none, any, every, pick, Target, whole, word_at}
use Rattle.verilog_tree.specs.Tree.{Stmt, skip, put, seq, branch, cases, Arms, otherwise, arm, Width, one, upto, wide}
use Rattle.verilog_tree.specs.Tree.{Item, size, constant, input, output, reg, memory, wire, settles, clocked}

-- what vectors hold, and the words of memories; and what is read past the end of a name, at each place: any number, and nothing writes it
-- (there the standard has x: 5.2.1, 5.2.2)
pub record Store : Type 0 where
  pub vec : String → ℕ
  pub mem : String → ℕ → ℕ
  pub stray : String → ℕ → ℕ

-- what is declared: how wide a name is (a memory's word), how many words a memory has, and what number a parameter is
pub record Scope : Type 0 where
  pub width : String → ℕ
  pub words : String → ℕ
  pub param : String → ℕ

-- what a constant expression of sizes comes to; its parameters have no declared width, and so 32 bits (4.10.2)
abbrev pub amount : (String → ℕ) → Size → ℕ
amount p (count n) = n
amount p (named x) = p x
amount p (more a b) = amount p a + amount p b
amount p (less a b) = amount p a - amount p b

-- 1 or 0
abbrev pub flag : Bool → ℕ
flag true = 1
flag false = 0

-- one of two
abbrev pub chosen : {A : Type 0} → Bool → A → A → A
chosen true a b = a
chosen false a b = b

-- the lowest w bits (5.6)
abbrev pub fit : ℕ → ℕ → ℕ
fit w n = n % 2 ^ w

-- how many bits an expression has by itself (5.4.1, table 5-22)
abbrev pub bits : Scope → Expr → ℕ
bits P (num n) = 32
bits P (sized w n) = w
bits P (const x) = P.width x
bits P (name x) = P.width x
bits P (bit x e) = 1
bits P (part x h l) = suc (amount P.param h - amount P.param l)
bits P (word m e) = P.width m
bits P (cat a b) = bits P a + bits P b
bits P (inverse a) = bits P a
bits P (two o a b) = max (bits P a) (bits P b)
bits P (shift o a b) = bits P a
bits P (test o a b) = 1
bits P (logic o a b) = 1
bits P (none a) = 1
bits P (any a) = 1
bits P (every a) = 1
bits P (pick c a b) = max (bits P a) (bits P b)

-- + - * modulo 2 to the power of the width around them, a difference below 0 from its other end (5.1.5, 5.1.6)
abbrev pub two_value : Two → ℕ → ℕ → ℕ → ℕ
two_value plus w m n = fit w (m + n)
two_value minus w m n = fit w (2 ^ w + m - n)
two_value times w m n = fit w (m * n)

-- to the left, bits that leave the width are lost; to the right, zeros come in (5.1.12)
abbrev pub shift_value : Way → ℕ → ℕ → ℕ → ℕ
shift_value left w m n = fit w (m * 2 ^ n)
shift_value right w m n = m / 2 ^ n

-- == (5.1.8), < of unsigned operands (5.1.7)
abbrev pub test_value : Test → ℕ → ℕ → Bool
test_value same m n = nat_eq m n
test_value below m n = nat_lt m n

-- && and || of truth values (5.1.9)
abbrev pub logic_value : Logic → Bool → Bool → Bool
logic_value both a b = a && b
logic_value one_of a b = a || b

-- a number is true where it isn't 0 (5.1.9, 9.4)
abbrev pub nonzero : ℕ → Bool
nonzero n = not (nat_eq n 0)

-- bit i of a vector of w bits, where it has one (5.2.1)
abbrev pub bit_in : Store → ℕ → String → ℕ → ℕ
bit_in S w x i = chosen (nat_lt i w) (S.vec x / 2 ^ i % 2) (S.stray x i)

-- bits h to l, where the vector has all of them (5.2.1)
abbrev pub part_in : Store → ℕ → String → ℕ → ℕ → ℕ
part_in S w x h l = chosen (nat_lt h w) (fit (suc (h - l)) (S.vec x / 2 ^ l)) (S.stray x h)

-- word i of a memory of w words, where it has one (5.2.2)
abbrev pub word_in : Store → ℕ → String → ℕ → ℕ
word_in S w m i = chosen (nat_lt i w) (S.mem m i) (S.stray m i)

-- what an expression comes to where w bits are wanted, which are at least as many as it has by itself. Operands of + - * ~ and of ?:
-- and the left operand of a shift have the width around them. Both sides of a comparison have the wider of their own. An index, the right
-- operand of a shift, the parts of a concatenation, what is joined by && and ||, what is reduced, and the condition of ?: have their own
-- (5.4.1, 5.5.2; numbers are cut to their size: 3.5.1; parameters to their declared width: 4.10.1, 4.10.2)
abbrev pub value : Scope → Store → ℕ → Expr → ℕ
value P S w (num n) = n
value P S w (sized k n) = fit k n
value P S w (const x) = fit (P.width x) (P.param x)
value P S w (name x) = S.vec x
value P S w (bit x e) = bit_in S (P.width x) x (value P S (bits P e) e)
value P S w (part x h l) = part_in S (P.width x) x (amount P.param h) (amount P.param l)
value P S w (word m e) = word_in S (P.words m) m (value P S (bits P e) e)
value P S w (cat a b) = value P S (bits P a) a * 2 ^ bits P b + value P S (bits P b) b
value P S w (inverse a) = 2 ^ w - 1 - value P S w a
value P S w (two o a b) = two_value o w (value P S w a) (value P S w b)
value P S w (shift o a b) = shift_value o w (value P S w a) (value P S (bits P b) b)
value P S w (test o a b) =
    flag (test_value o (value P S (max (bits P a) (bits P b)) a) (value P S (max (bits P a) (bits P b)) b))
value P S w (logic o a b) = flag (logic_value o (nonzero (value P S (bits P a) a)) (nonzero (value P S (bits P b) b)))
value P S w (none a) = flag (nat_eq (value P S (bits P a) a) 0)
value P S w (any a) = flag (nonzero (value P S (bits P a) a))
value P S w (every a) = flag (nat_eq (value P S (bits P a) a) (2 ^ bits P a - 1))
value P S w (pick c a b) = chosen (nonzero (value P S (bits P c) c)) (value P S w a) (value P S w b)

-- the same at its own width
abbrev pub own : Scope → Store → Expr → ℕ
own P S e = value P S (bits P e) e

-- whether it isn't 0 (9.4)
abbrev pub holds : Scope → Store → Expr → Bool
holds P S e = nonzero (own P S e)

-- what an assignment to w bits assigns: the wider of both sides is the width around, and what doesn't fit is cut (5.4.1, 5.6)
abbrev pub assigned : Scope → Store → ℕ → Expr → ℕ
assigned P S w e = fit w (value P S (max w (bits P e)) e)

-- a vector is n
abbrev pub set_vec : String → ℕ → Store → Store
set_vec x n S = record S { vec = λ y. chosen (eqt x y) n (S.vec y) }

-- word i of a memory of w words, where it has one
abbrev pub set_word : String → ℕ → ℕ → ℕ → Store → Store
set_word m w i n S = record S { mem = λ y j. chosen (eqt m y && (nat_eq i j && nat_lt i w)) n (S.mem y j) }

-- an assignment that reads R and writes S, to a whole vector or to a word (9.2)
abbrev pub write : Scope → Store → Target → Expr → Store → Store
write P R (whole x) e S = set_vec x (assigned P R (P.width x) e) S
write P R (word_at m i) e S = set_word m (P.words m) (own P R i) (assigned P R (P.width m) e) S

-- the widest of so many bits and some labels: a case compares at the widest of its expression and all its labels (9.5)
abbrev pub widest : Scope → ℕ → List Expr → ℕ
widest P w [] = w
widest P w (e ∷ es) = widest P (max w (bits P e)) es

-- and of all labels
abbrev pub widest_arm : Scope → ℕ → Arms → ℕ
widest_arm P w (otherwise s) = w
widest_arm P w (arm es s c arms) = widest_arm P (widest P w es) arms

-- one of the labels is n (9.5)
abbrev pub labelled : Scope → Store → ℕ → ℕ → List Expr → Bool
labelled P S w n [] = false
labelled P S w n (e ∷ es) = nat_eq n (value P S w e) || labelled P S w n es

-- a statement of a block that settles: each assignment is seen by the next (9.2.1, 9.8.1). The first arm that has the number is taken
-- (9.5)
abbrev mutual
  pub run : Scope → Stmt → Store → Store
  run P skip S = S
  run P (put t e) S = write P S t e S
  run P (seq s t) S = run P t (run P s S)
  run P (branch e s t) S = chosen (holds P S e) (run P s S) (run P t S)
  run P (cases e arms) S = run_arms P (widest_arm P (bits P e) arms) (value P S (widest_arm P (bits P e) arms) e) arms S

  pub run_arms : Scope → ℕ → ℕ → Arms → Store → Store
  run_arms P w n (otherwise s) S = run P s S
  run_arms P w n (arm es s c arms) S = chosen (labelled P S w n es) (run P s S) (run_arms P w n arms S)

-- a statement of the clock's block: all is read as it was before the edge, and of several assignments to a name the last stands (9.2.2)
abbrev mutual
  pub fire : Scope → Store → Stmt → Store → Store
  fire P R skip S = S
  fire P R (put t e) S = write P R t e S
  fire P R (seq s t) S = fire P R t (fire P R s S)
  fire P R (branch e s t) S = chosen (holds P R e) (fire P R s S) (fire P R t S)
  fire P R (cases e arms) S = fire_arms P R (widest_arm P (bits P e) arms) (value P R (widest_arm P (bits P e) arms) e) arms S

  pub fire_arms : Scope → Store → ℕ → ℕ → Arms → Store → Store
  fire_arms P R w n (otherwise s) S = fire P R s S
  fire_arms P R w n (arm es s c arms) S = chosen (labelled P R w n es) (fire P R s S) (fire_arms P R w n arms S)

-- how many bits are declared (4.3.1)
abbrev pub width_of : (String → ℕ) → Width → ℕ
width_of p one = 1
width_of p (upto h) = suc (amount p h)
width_of p (wide k) = amount p k

-- the number of a parameter (4.10.2)
abbrev pub param_in : List Item → String → ℕ
param_in [] x = 0
param_in (size y n ∷ is) x = elim (eqt y x) [ true ↦ n | false ↦ param_in is x ]
param_in (constant w y n ∷ is) x = elim (eqt y x) [ true ↦ n | false ↦ param_in is x ]
param_in (i ∷ is) x = param_in is x

-- a number for the name that is declared here, and else the number that what stands further on gives
abbrev pub named_here : String → String → ℕ → ℕ → ℕ
named_here y x n m = elim (eqt y x) [ true ↦ n | false ↦ m ]

-- the width of a name
abbrev pub width_in : (String → ℕ) → List Item → String → ℕ
width_in p [] x = 0
width_in p (size y n ∷ is) x = named_here y x 32 (width_in p is x)
width_in p (constant w y n ∷ is) x = named_here y x (width_of p w) (width_in p is x)
width_in p (input w y ∷ is) x = named_here y x (width_of p w) (width_in p is x)
width_in p (output w y ∷ is) x = named_here y x (width_of p w) (width_in p is x)
width_in p (reg w y ∷ is) x = named_here y x (width_of p w) (width_in p is x)
width_in p (memory w y k ∷ is) x = named_here y x (width_of p w) (width_in p is x)
width_in p (wire w y e ∷ is) x = named_here y x (width_of p w) (width_in p is x)
width_in p (i ∷ is) x = width_in p is x

-- how many words a memory has (4.9.3)
abbrev pub words_in : (String → ℕ) → List Item → String → ℕ
words_in p [] x = 0
words_in p (memory w y k ∷ is) x = named_here y x (amount p k) (words_in p is x)
words_in p (i ∷ is) x = words_in p is x

-- all that is declared
abbrev pub scope : List Item → Scope
scope is = record { width = width_in (param_in is) is; words = words_in (param_in is) is; param = param_in is }

-- wires and blocks that settle, from the first to the last (6.1.1, 9.7.5)
abbrev pub settled : Scope → List Item → Store → Store
settled P [] S = S
settled P (wire w x e ∷ is) S = settled P is (write P S (whole x) e S)
settled P (settles s ∷ is) S = settled P is (run P s S)
settled P (i ∷ is) S = settled P is S

-- what the clock's blocks write (9.2.2, 9.9.2)
abbrev pub clocked_in : Scope → List Item → Store → Store → Store
clocked_in P [] R S = S
clocked_in P (clocked s ∷ is) R S = clocked_in P is R (fire P R s S)
clocked_in P (i ∷ is) R S = clocked_in P is R S

-- a rising edge where all has settled: each register takes its next number (9.7.2)
abbrev pub edge_in : Scope → List Item → Store → Store
edge_in P is S = clocked_in P is S S

-- the same from anything: first all settles
abbrev pub edge : List Item → Store → Store
edge is S = edge_in (scope is) is (settled (scope is) is S)
