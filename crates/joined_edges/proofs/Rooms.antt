-- Whether there is room for what a row makes.
use Rattle.std.proofs.Common.{◌≡◌, ◌<◌, ◌≤◌, ℕ, suc, ◌+◌, ◌^◌, Bool, true, false, ◌&&◌, ◌||◌, List, [], ◌∷◌, length}
use Rattle.std.proofs.Common.{refl, ap, sym, ◌∙◌, arith, nat_eq, nat_lt}
use Rattle.std.proofs.lemmas.Bool.{and_parts, lt-ltb, ltb-true, ltb-false, eqb-true, eqb-false}
use Rattle.verilog_tree.specs.Meaning.{Scope, Store, flag, nonzero, holds}
use Rattle.verilog_tree.proofs.Numbers.{fits}
use Rattle.joined_core.specs.Circuit.{Room}
use Rattle.joined_module.specs.Rows.{ForkDeed, no_fork, opens, keeps, closes, ModuleRow}
use Rattle.joined_module.specs.Fields.{opens_fork}
use Rattle.joined_module.specs.Module.{Widths, no_room_expr}
use Rattle.joined_module.specs.Machine.{RowCircuit, RowFork, base_of, forks_after, row_makes, too_many, around, is_open, deed_there}
use Rattle.joined_edges.proofs.Flags.{by_flag}

lt_false : (m n : ℕ) → n ≤ m → nat_lt m n ≡ false
lt_false m n l = go (nat_lt m n) refl
  where
    go : (c : Bool) → nat_lt m n ≡ c → c ≡ false
    go true e = let h = ltb-true m n e in absurd (omega arith)
    go false e = refl

-- one more is too many just where there are as many as there may be
one_more : (k m : ℕ) → m ≤ k → nat_lt k (m + 1) ≡ nat_eq m k
one_more k m l = go (nat_eq m k) refl
  where
    go : (c : Bool) → nat_eq m k ≡ c → nat_lt k (m + 1) ≡ c
    go true e = let h = eqb-true m k e in lt-ltb k (m + 1) (omega arith)
    go false e = let h = eqb-false m k e in lt_false k (m + 1) (less h)
      where
        less : (m ≡ k → ⊥) → m + 1 ≤ k
        less h = omega arith

-- cells
cells_by : (c : Bool) (k m : ℕ) → m ≤ k → nat_lt k (m + flag c) ≡ (c && nat_eq m k)
cells_by true k m l = one_more k m l
cells_by false k m l = lt_false k (m + 0) (omega arith)

-- forks
forks_by : (ps : ℕ → ℕ) (r : ModuleRow) (D : RowCircuit) (k : ℕ) → length D.forks ≤ k → (d : ForkDeed) → deed_there D d ≡ true →
    nat_lt k (length (forks_after ps r D d)) ≡ (opens_fork d && nat_eq (length D.forks) k)
forks_by ps r D k l no_fork h = lt_false k (length D.forks) l
forks_by ps r D k l (opens s b x) h =
    ap (nat_lt k) (let e : suc (length D.forks) ≡ length D.forks + 1 = omega arith in e) ∙ one_more k (length D.forks) l
forks_by ps r D k l (keeps x) h = lt_false k (suc (length (around D.forks))) (go D.forks l (and_parts (is_open D.forks) _ h).0)
  where
    go : (fs : List RowFork) → length fs ≤ k → is_open fs ≡ true → suc (length (around fs)) ≤ k
    go [] l o = absurd cc
    go (f ∷ fs) l o = l
forks_by ps r D k l closes h = lt_false k (length (around D.forks)) (go D.forks l)
  where
    go : (fs : List RowFork) → length fs ≤ k → length (around fs) ≤ k
    go [] l = l
    go (f ∷ fs) l = omega arith

module _ (W : Widths) (z : Room) (cells : W.cells ≡ z.cells) (forks : W.forks ≡ z.forks) (place : W.cells < 2 ^ W.place)
    (depth : W.forks < 2 ^ W.depth) (P : Scope) (R : Store) (ps : ℕ → ℕ) (r : ModuleRow) (D : RowCircuit)
    (none : R.vec "none" ≡ 0) (makes : R.vec "makes" ≡ flag r.makes) (opened : R.vec "opens" ≡ flag (opens_fork r.fork))
    (base : R.vec "base" ≡ base_of r D) (base_low : base_of r D ≤ W.cells) (deep : R.vec "depth" ≡ length D.forks)
    (few : length D.forks ≤ W.forks) (there : deed_there D r.fork ≡ true) where
  abbrev parts : (m o : ℕ) (b d c k : ℕ) → Bool
  parts m o b d c k =
      nonzero (flag (nonzero (flag (nonzero m && nonzero (flag (nat_eq b c)))) || nonzero
      (flag (nonzero o && nonzero (flag (nat_eq d k))))))

  parts_are : (m o e f : Bool) → nonzero (flag (nonzero (flag (nonzero (flag m) && nonzero (flag e))) ||
      nonzero (flag (nonzero (flag o) && nonzero (flag f))))) ≡ ((m && e) || (o && f))
  parts_are true o true f = refl
  parts_are true true false true = refl
  parts_are true true false false = refl
  parts_are true false false f = refl
  parts_are false true e true = refl
  parts_are false true e false = refl
  parts_are false false e f = refl

  -- the module's test is whether there is too little room
  pub no_room_is : holds P R (no_room_expr W) ≡ too_many z (row_makes ps r D)
  no_room_is =
      let c = fits W.place W.cells place in
      let k = fits W.depth W.forks depth in
      let p : Bool = parts (flag r.makes) (flag (opens_fork r.fork)) (base_of r D) (length D.forks) W.cells W.forks in
      (λ i. nonzero (flag (nonzero (none i) || parts (makes i) (opened i) (base i) (deep i) (c i) (k i))))
      ∙ by_flag (flag p) p refl
      ∙ parts_are r.makes (opens_fork r.fork) (nat_eq (base_of r D) W.cells) (nat_eq (length D.forks) W.forks)
      ∙ sym (λ i. cells_by r.makes W.cells (base_of r D) base_low i || forks_by ps r D W.forks few r.fork there i)
      ∙ (λ i. nat_lt (cells i) (base_of r D + flag r.makes) || nat_lt (forks i) (length (forks_after ps r D r.fork)))

  -- where there is enough, it fits
  pub room_is : too_many z (row_makes ps r D) ≡ false →
      (base_of r D + flag r.makes ≤ W.cells) × (length (forks_after ps r D r.fork) ≤ W.forks)
  room_is h =
      go (nat_lt z.cells (base_of r D + flag r.makes)) (nat_lt z.forks (length (forks_after ps r D r.fork))) refl refl h
    where
      go : (c d : Bool) → nat_lt z.cells (base_of r D + flag r.makes) ≡ c → nat_lt z.forks (length (forks_after ps r D r.fork)) ≡ d →
          (c || d) ≡ false → (base_of r D + flag r.makes ≤ W.cells) × (length (forks_after ps r D r.fork) ≤ W.forks)
      go true d e f h = absurd cc
      go false true e f h = absurd cc
      go false false e f h =
          let x = ltb-false z.cells (base_of r D + flag r.makes) e in
          let y = ltb-false z.forks (length (forks_after ps r D r.fork)) f in
          (omega (arith, x, cells), omega (arith, y, forks))
