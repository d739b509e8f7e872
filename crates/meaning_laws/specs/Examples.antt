-- Cases that the prover computes. Each is one in which another rule would differ.
use Rattle.std.specs.Prelude.{◌≡◌, ℕ}
use Rattle.pcf_values.specs.declared.val.Val.TheVariants.{Number}
use Rattle.pcf_values.specs.declared.operator.Operator.TheVariants.{Plus, Minus}
use Rattle.pcf_values.specs.declared.side.Side.TheVariants.{Left, Right}
use Rattle.pcf_values.specs.Terms.{nat, arrow, TermTree, num, var, pred_of, binary, ifz, lam, fix, app, pair, proj}
use Rattle.cbn_meaning.specs.Meaning.{Means}
use Rattle.meaning_laws.specs.Put.{put}
use Rattle.meaning_laws.specs.Contexts.{Context, hole, in_succ, in_left, in_else, in_lam, in_function, fill}
use Rattle.meaning_laws.specs.Equations.{Equals, Rewrites}
use Rattle.meaning_laws.specs.NoFix.{NoFix}

-- `x - y` below `fun y`, where x stands outside
abbrev pub minus_inner : TermTree
minus_inner = lam nat (binary Minus (var 1) (var 0))

pub record ExamplePut : Type 0 where
  -- a variable of outside is raised by the binder, the one inside stays, and one further out goes down
  pub raised : put minus_inner 0 (var 3) ≡ lam nat (binary Minus (var 4) (var 0))
  pub stays : put minus_inner 1 (num 7) ≡ minus_inner
  pub lower : put (lam nat (binary Plus (var 2) (var 1))) 0 (num 7) ≡ lam nat (binary Plus (var 1) (num 7))
  -- a variable that is bound in what is put isn't raised
  pub bound : put (lam nat (var 1)) 0 (lam nat (binary Plus (var 1) (var 0))) ≡ lam nat (lam nat (binary Plus (var 2) (var 0)))

-- `(fun y. [] 1) 5`
abbrev pub around : Context
around = in_function (in_lam nat (in_function hole (num 1))) (num 5)

-- `(fun x. fun z. x - z) y`, which is `fun z. y - z`
abbrev pub applied : TermTree
applied = app (lam nat minus_inner) (var 0)

-- `fix f. fun m. ifz m then y else f (pred m)`, where y has this index beside f and m
abbrev pub counts_down : ℕ → TermTree
counts_down y = fix (arrow nat nat) (lam nat (ifz (var 0) (var y) (app (var 1) (pred_of (var 0)))))

-- and once unfolded, where y is one nearer outside the `fix`, and further inside
abbrev pub unfolded : TermTree
unfolded = lam nat (ifz (var 0) (var 1) (app (counts_down 3) (pred_of (var 0))))

-- `fix y. y`
abbrev pub loops : TermTree
loops = fix nat (var 0)

-- two sides of an equation, and a value that the term with each of them in the hole has
pub record BothMean (c : Context) (l r : TermTree) (n : ℕ) : Type 0 where
  pub equal : Equals l r
  pub left : Means (fill c l) (Number n)
  pub right : Means (fill c r) (Number n)

pub record ExampleContexts : Type 0 where
  -- below a binder, whose variable isn't captured
  pub applies : BothMean around applied minus_inner 4
  pub unfolds : BothMean around (counts_down 2) unfolded 5
  -- each part of a pair, where the other loops
  pub first : BothMean (in_left Plus hole (num 3)) (proj Left (pair (num 1) loops)) (num 1) 4
  pub second : BothMean (in_left Plus hole (num 3)) (proj Right (pair loops (num 2))) (num 2) 5
  -- each branch, where the other loops
  pub zero_branch : BothMean (in_succ hole) (ifz (num 0) (num 1) loops) (num 1) 2
  pub other_branch : BothMean (in_succ hole) (ifz (num 9) loops (num 2)) (num 2) 3
  -- numbers
  pub numbers : BothMean (in_else (num 1) loops hole) (binary Minus (num 2) (num 5)) (num 0) 0

-- `(fun x. x + x) 3` is `3 + 3`, which is 6
abbrev pub ExampleRewrites : Type 0
ExampleRewrites = Rewrites (app (lam nat (binary Plus (var 0) (var 0))) (num 3)) (num 6)

pub record ExampleNoFix : Type 0 where
  -- `(fun x. x + x) 3`
  pub double : NoFix (app (lam nat (binary Plus (var 0) (var 0))) (num 3))
  -- a `fix` that is never asked is one
  pub argument : NoFix (app (lam nat (num 7)) loops) → ⊥
  pub part : NoFix (proj Left (pair (num 1) loops)) → ⊥
  pub branch : NoFix (ifz (num 0) (num 1) loops) → ⊥
