-- The stack of forks: tickets that wait are below the next one, the later the inner, and no fork stands twice.
use Rattle.std.proofs.Common.{◌≡◌, ℕ, ◌<◌, ◌≤◌, Bool, true, false, cond, List, [], ◌∷◌, Option, Some, None, refl, sym, ap}
use Rattle.std.proofs.Common.{◌∙◌, arith}
use Rattle.std.proofs.lemmas.Bool.{ne_eqb}
use Rattle.token_stacks.specs.Signatures.{Boxes}
use Rattle.fork_join.specs.Entries.{Entry, same_key}
use Rattle.fork_join.proofs.Keys.{key_true}
use Rattle.move_rules.specs.Places.{ask}
use Rattle.newest_core.specs.Processor.{Half, waits, came, OpenFork, half_at, waiting_at, fork_at}

-- a ticket that waits is below n
abbrev pub LowHalf : Half → ℕ → Type 0
LowHalf (waits j p) n = j < n
LowHalf (came v) n = Unit {0}

-- what the tickets further out are below
abbrev pub then_below : Half → ℕ → ℕ
then_below (waits j p) n = j
then_below (came v) n = n

-- the tickets that wait are below n, and fall
abbrev pub Descends : ℕ → List OpenFork → Type 0
Descends n [] = Unit {0}
Descends n (f ∷ fs) = LowHalf f.half n × Descends (then_below f.half n) fs

-- no ticket from n on waits
pub none_waits : (n k : ℕ) (fs : List OpenFork) → Descends n fs → n ≤ k → waiting_at fs k ≡ None
none_waits n k [] h l = refl
none_waits n k (f ∷ fs) h l = go f.half h.0 h.1 (λ m. none_waits m k fs)
  where
    go : (x : Half) → LowHalf x n → Descends (then_below x n) fs →
        ((m : ℕ) → Descends m fs → m ≤ k → waiting_at fs k ≡ None) → half_at x (waiting_at fs k) k ≡ None
    go (waits j p) a b ih = ap (λ b. cond b (Some (ask p)) (waiting_at fs k)) (ne_eqb k j (λ e. omega arith)) ∙ ih j b (omega arith)
    go (came v) a b ih = ih n b l

pub descends_more : (n m : ℕ) (fs : List OpenFork) → n ≤ m → Descends n fs → Descends m fs
descends_more n m [] l h = tt
descends_more n m (f ∷ fs) l h = go f.half h.0 h.1 (descends_more n m fs l)
  where
    go : (x : Half) → LowHalf x n → Descends (then_below x n) fs → (Descends n fs → Descends m fs) →
        LowHalf x m × Descends (then_below x m) fs
    go (waits j p) a b ih = (omega arith, b)
    go (came v) a b ih = (tt, ih b)

-- no fork stands twice
abbrev pub Once : List OpenFork → Type 0
Once [] = Unit {0}
Once (f ∷ fs) = (fork_at fs f.node f.boxes ≡ None) × Once fs

-- the fork that is first changes
pub change_at : {A : Type 0} (b : Bool) (x y : A) (o : A) → cond b x (cond b y o) ≡ cond b x o
change_at true x y o = refl
change_at false x y o = refl

-- and where it goes, what is further out has no such fork
pub close_at : (m : ℕ) (u : Boxes) (n : ℕ) (t : Boxes) (e : Option Entry) (fs : List OpenFork) → fork_at fs n t ≡ None →
    cond (same_key m u n t) None (cond (same_key m u n t) e (fork_at fs m u)) ≡ fork_at fs m u
close_at m u n t e fs h = go (same_key m u n t) refl
  where
    go : (b : Bool) → same_key m u n t ≡ b → cond b None (cond b e (fork_at fs m u)) ≡ fork_at fs m u
    go true z = let (a, b) = key_true m u n t z in
        sym (ap (λ m. fork_at fs m u) a ∙ ap (fork_at fs n) b ∙ h)
    go false z = refl
