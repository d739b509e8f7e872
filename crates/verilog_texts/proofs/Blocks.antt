-- A reader of statements. Blanks, line ends, comments, and the signs between parts are passed over: what is told of an arm, and how lines
-- are set, is lost; statements one after the other are read as a list.
use Rattle.std.proofs.Common.{ℕ, zero, suc, Bool, true, false, not, ◌||◌, cond, List, [], ◌∷◌, Option, Some, None, codes}
use Rattle.std.specs.Prelude.{nat_eq}
use Prim.Native.String.{String}
use lib.Chars.{text_of}
use lib.Text.{eqt}
use Rattle.verilog_tree.specs.Tree.{Expr, const, name, Target, whole, word_at, Stmt, skip, put, seq, branch, cases, Arms, otherwise, arm}
use Rattle.verilog_tree.specs.WellFormed.{Entry}
use Rattle.verilog_texts.proofs.Pieces.{front, rest, behind, in_name}
use Rattle.verilog_texts.proofs.Reader.{Got, go_on, when, closed, read}

-- a list of statements, each one behind the other, with k behind them
abbrev mutual
  pub onto : Stmt → Stmt → Stmt
  onto skip k = k
  onto (put t e) k = seq (put t e) k
  onto (seq s t) k = onto s (onto t k)
  onto (branch e s t) k = seq (branch e (onto s skip) (onto t skip)) k
  onto (cases e arms) k = seq (cases e (tidy arms)) k

  pub tidy : Arms → Arms
  tidy (otherwise s) = otherwise (onto s skip)
  tidy (arm es s c arms) = arm es (onto s skip) [] (tidy arms)

-- what stands between words
abbrev pub blank : ℕ → Bool
blank c = nat_eq 32 c || (nat_eq 10 c || (nat_eq 44 c || nat_eq 59 c))

-- what is left from the next word on; true says that a comment goes on
abbrev pub next : Bool → List ℕ → List ℕ
next c [] = []
next true (c ∷ cs) = next (not (nat_eq 10 c)) cs
next false (c ∷ cs) = cond (blank c) (next false cs) (cond (nat_eq 47 c) (next true cs) (c ∷ cs))

-- the sign of an assignment: = of blocks that settle, <= of those of the clock
abbrev pub sign : Bool → List ℕ
sign true = codes " = "
sign false = codes " <= "

-- `default` is read as a name
abbrev pub is_default : Expr → Bool
is_default (const x) = eqt x "default"
is_default (name x) = eqt x "default"
is_default e = false

-- what is assigned to
abbrev pub read_target : (List ℕ → Got Expr) → String → List ℕ → Option (List ℕ) → Got Target
read_target ex x t None = Some (whole x, t)
read_target ex x t (Some u) = closed 93 (go_on (ex u) (λ e v. Some (word_at x e, v)))

abbrev pub read_put : Bool → (List ℕ → Got Expr) → (List ℕ → Got Stmt) → Got Target → Got Stmt
read_put b ex go o =
    go_on o (λ p u. when (behind (sign b) u) (λ v. go_on (ex v) (λ e w. go_on (go w) (λ s z. Some (seq (put p e) s, z)))))

-- the second part of a branch
abbrev pub read_else : (List ℕ → Got Stmt) → List ℕ → Option (List ℕ) → Got Stmt
read_else go x None = Some (skip, x)
read_else go x (Some y) = go y

abbrev pub read_branch : (List ℕ → Got Expr) → (List ℕ → Got Stmt) → List ℕ → Got Stmt
read_branch ex go t =
    when (behind (codes " (") t) (λ u. go_on (ex u) (λ e v. when (behind (codes ") begin") v) (λ w. go_on (go w) (λ s x.
    go_on (read_else go x (behind (codes " else begin") x)) (λ f y. go_on (go y) (λ m z. Some (seq (branch e s f) m, z)))))))

abbrev pub read_cases : (List ℕ → Got Expr) → (List ℕ → Got Arms) → (List ℕ → Got Stmt) → List ℕ → Got Stmt
read_cases ex arms go t =
    when (behind (codes " (") t) (λ u. go_on (ex u) (λ e v. when (behind (codes ")") v) (λ w. go_on (arms w) (λ a x.
    go_on (go (rest in_name (next false x))) (λ m z. Some (seq (cases e a) m, z))))))

-- statements up to the next `end`, by their first word and what stands behind it
abbrev pub statement : Bool → (List ℕ → Got Expr) → (List ℕ → Got Arms) → (List ℕ → Got Stmt) → String → List ℕ → Got Stmt
statement b ex arms go x t =
    cond (eqt x "end") (Some (skip, t))
    (cond (eqt x "if") (read_branch ex go t)
    (cond (eqt x "case") (read_cases ex arms go t)
    (read_put b ex go (read_target ex x t (behind (codes "[") t)))))

-- labels behind the first
abbrev pub labels_from : (List ℕ → Got (List Expr)) → (List ℕ → Got Expr) → List ℕ → Option (List ℕ) → Got (List Expr)
labels_from go ex u None = Some ([], u)
labels_from go ex u (Some v) = go_on (ex v) (λ e w. go_on (go w) (λ es x. Some (e ∷ es, x)))

abbrev pub read_labels : ℕ → (List ℕ → Got Expr) → List ℕ → Got (List Expr)
read_labels zero ex u = None
read_labels (suc k) ex u = labels_from (read_labels k ex) ex u (behind (codes ", ") u)

abbrev pub read_default : (List ℕ → Got Stmt) → List ℕ → Got Arms
read_default go u = when (behind (codes ": begin") u) (λ v. go_on (go v) (λ s w. Some (otherwise s, w)))

abbrev pub read_labelled : (List ℕ → Got (List Expr)) → (List ℕ → Got Arms) → (List ℕ → Got Stmt) → Expr → List ℕ → Got Arms
read_labelled labels arms go e u =
    go_on (labels u) (λ es v. when (behind (codes ": begin") v) (λ w. go_on (go w) (λ s x. go_on (arms x) (λ a z.
    Some (arm (e ∷ es) s [] a, z)))))

-- arms, by what was read as their first label
abbrev pub read_arm : (List ℕ → Got (List Expr)) → (List ℕ → Got Arms) → (List ℕ → Got Stmt) → Got Expr → Got Arms
read_arm labels arms go o =
    go_on o (λ e u. cond (is_default e) (read_default go u) (read_labelled labels arms go e u))

abbrev mutual
  pub read_block : List Entry → Bool → ℕ → List ℕ → Got Stmt
  read_block env b zero cs = None
  read_block env b (suc k) cs =
      statement b (read false env k) (read_arms env b k) (read_block env b k) (text_of (front in_name (next false cs)))
      (rest in_name (next false cs))

  pub read_arms : List Entry → Bool → ℕ → List ℕ → Got Arms
  read_arms env b zero cs = None
  read_arms env b (suc k) cs =
      read_arm (read_labels k (read false env k)) (read_arms env b k) (read_block env b k) (read false env k (next false cs))
