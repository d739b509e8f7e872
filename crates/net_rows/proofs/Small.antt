-- What a test rules out: small facts that the proofs about rows and runs cite.
use Rattle.std.proofs.Common.{◌≡◌, Bool, true, false, cond, refl}

-- a test has one outcome
pub not_full : {A : Type 0} → true ≡ false → A
not_full h = absurd cc

-- another value in place of the one that is chosen
pub replaced : {A : Type 0} (b : Bool) (s x y r : A) → s ≡ cond b x r → cond b y s ≡ cond b y r
replaced true s x y r h = refl
replaced false s x y r h = h
