-- What holds of a token that stays, and of each of two moves, holds of the move that is made of them.
use Rattle.std.proofs.Common.{ℕ, Bool, true, false, cond}
use Rattle.std.specs.Prelude.{nat_eq}
use Rattle.move_rules.specs.Moves.{Move, solo, fork, join, answer, stay, or_stay, if_wire}

-- Below, it holds of a token that stays.
module _ (Holds : Move → Type 0) (still : Holds stay) where
  -- a move of one wire
  pub wire_so : (x w : ℕ) (m : Move) → Holds m → Holds (if_wire x w m)
  wire_so x w m h = go (nat_eq x w)
    where
      go : (b : Bool) → Holds (cond b m stay)
      go true = h
      go false = still

  -- the first of two moves at which the token doesn't stay
  pub either_so : (m m' : Move) → Holds m → Holds m' → Holds (or_stay m m')
  either_so stay m' h g = g
  either_so (solo i x) m' h g = h
  either_so (fork i l r t) m' h g = h
  either_so (join i o s v w t) m' h g = h
  either_so (answer v) m' h g = h

  -- the moves of two wires
  pub operand_so : (a b w : ℕ) (m m' : Move) → Holds m → Holds m' → Holds (or_stay (if_wire a w m) (if_wire b w m'))
  operand_so a b w m m' h g = either_so (if_wire a w m) (if_wire b w m') (wire_so a w m h) (wire_so b w m' g)
