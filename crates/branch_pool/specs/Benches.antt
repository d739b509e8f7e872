-- What a pool's calls are where its pieces are branches: a turn is what a worker takes, with a branch's allowance, and the branch that it
-- hands in is booked. A worker whose number isn't below the pool's number of workers has no place: it is sent home, and what it hands in
-- changes nothing.
use Rattle.std.specs.Prelude.{◌≡◌, ◌<◌, ◌≤◌, ◌⊎◌, ℕ, Bool, Some, refl}
use Rattle.std.specs.FinMap.{get}
use Rattle.std.specs.Coded.{Coded, code_by, coded×, coded_ℕ, coded_bool}
use Rattle.gate_workers.specs.declared.turn.Turn.{Turn}
use Rattle.gate_workers.specs.declared.turn.Turn.TheVariants as turn
use Rattle.net_build.specs.Nets.{NetTree}
use Rattle.move_rules.specs.Places.{TokenTree}
use Rattle.move_rules.specs.Codes.{token_code}
use Rattle.interleave_laws.specs.Maps.{MapState}
use Rattle.branch_runs.specs.Branching.{Grown, Played}
use Rattle.token_pool.specs.declared.entries.Booked.{Booked}
use Rattle.token_pool.specs.declared.entries.Held.{Held}
use Rattle.token_pool.specs.declared.entries.Reply.{Reply}
use Rattle.token_pool.specs.declared.entries.Reply.TheVariants as told
use Rattle.token_pool.specs.Pools.{Pool}
use Rattle.token_pool.specs.Branches.{branch_turn, branch_taken, plays_plain, BookedBranch}

-- what a worker is given to play: a token, how many moves a branch of it may have, and whether it is to be plain
pub record BranchPieceTree : Type 0 where
  pub token : TokenTree
  pub allowance : ℕ
  pub plain : Bool

-- a piece from its parts
abbrev pub branch_piece : TokenTree → ℕ → Bool → BranchPieceTree
branch_piece x n plain = record { token = x; allowance = n; plain = plain }

-- how the logic stores a piece
abbrev pub branch_piece_code : Coded BranchPieceTree
branch_piece_code = code_by (TokenTree × (ℕ × Bool)) (coded× token_code (coded× coded_ℕ coded_bool))
    (λ k. (k.token, (k.allowance, k.plain))) (λ p. record { token = p.0; allowance = p.1.0; plain = p.1.1 }) (λ _. refl)

-- what is made of a piece is the branch of its token, played as far as it may be, and plainly where it is to be
abbrev pub MakesBranch : NetTree → BranchPieceTree → Grown → Type 0
MakesBranch net k b = (b.before ≡ k.token) × (b.plain ≡ k.plain) × Played net k.allowance b

-- the piece is the held ticket's token with its allowance
pub record IsBranchPieceOf (S : MapState) (plain : Bool) (h : Held) (k : BranchPieceTree) : Type 0 where
  pub token : get S.tokens h.ticket ≡ Some k.token
  pub allowance : k.allowance ≡ h.allowance
  pub plainly : k.plain ≡ plain

-- the turn that a bench gives a worker for what it is told: a piece to play, a pause, or nothing any more
abbrev pub TurnFor : MapState → Bool → Reply → Turn BranchPieceTree → Type 0
TurnFor S plain (told.Token h) (turn.Piece k) = IsBranchPieceOf S plain h k
TurnFor S plain told.Idle turn.Pause = Unit {0}
TurnFor S plain told.Reserved turn.Pause = Unit {0}
TurnFor S plain told.Ended turn.Over = Unit {0}
TurnFor S plain told.Stopped turn.Over = Unit {0}
TurnFor S plain _ _ = ⊥

-- a worker that has a place takes, and is given the turn for what it is told
abbrev pub GivesTaken : Pool → ℕ → Turn BranchPieceTree → Pool → Type 0
GivesTaken p w t q = (w < p.workers) × TurnFor p.state (plays_plain p) (branch_turn p w) t × (q ≡ branch_taken p w)

-- any other is sent home
abbrev pub SendsHome : Pool → ℕ → Turn BranchPieceTree → Pool → Type 0
SendsHome p w t q = (p.workers ≤ w) × (t ≡ turn.Over) × (q ≡ p)

abbrev pub GivesBranch : Pool → ℕ → Turn BranchPieceTree → Pool → Type 0
GivesBranch p w t q = GivesTaken p w t q ⊎ SendsHome p w t q

-- the branch that a worker that has a place hands in is booked, and what any other does changes nothing
abbrev pub TakesBranch : Pool → ℕ → Grown → Pool → Type 0
TakesBranch p w b q = ((w < p.workers) × (k : Booked) × BookedBranch p q w b k) ⊎ ((p.workers ≤ w) × (q ≡ p))
