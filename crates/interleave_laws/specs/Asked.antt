-- The places that the moves of a log ask, and the entries that its forks open, in turn.
-- They are told as lists, so that 'no place is asked twice' and 'no entry is opened twice' are one word about a list.
use Rattle.std.specs.Prelude.{◌≡◌, ◌⊎◌, ℕ, List, [], ◌∷◌, ◌++◌, Option, Some, None}
use Rattle.fork_join.specs.Entries.{Key}
use Rattle.net_build.specs.Nets.{NetTree}
use Rattle.move_rules.specs.Places.{Place, TokenTree, ask, ans}
use Rattle.move_rules.specs.Moves.{Move, solo, fork, join, answer, stay, move}
use Rattle.interleave_laws.specs.States.{State, step}

-- the places that a move asks
abbrev pub asked_by : Move → List Place
asked_by (solo k (ask q)) = q ∷ []
asked_by (solo k (ans v q)) = []
asked_by (fork n l r t) = l ∷ r ∷ []
asked_by (join n o s v w t) = []
asked_by (answer v) = []
asked_by stay = []

-- the places that the move of this token asks, if there is one
abbrev pub asked_of : NetTree → Option TokenTree → List Place
asked_of net None = []
asked_of net (Some x) = asked_by (move net x)

-- what is asked from a state on, where there is one
abbrev pub asked_on : Option State → (State → List Place) → List Place
asked_on None f = []
asked_on (Some S) f = f S

-- the places that a log asks, from a state
abbrev pub asked_in : NetTree → State → List ℕ → List Place
asked_in net S [] = []
asked_in net S (i ∷ log) = asked_of net (S.tokens i) ++ asked_on (step net S i) (λ T. asked_in net T log)

-- the entry that a move opens
abbrev pub opened_by : Move → List Key
opened_by (solo k x) = []
opened_by (fork n l r t) = (n, t) ∷ []
opened_by (join n o s v w t) = []
opened_by (answer v) = []
opened_by stay = []

-- the entry that the move of this token opens, if there is one
abbrev pub opened_of : NetTree → Option TokenTree → List Key
opened_of net None = []
opened_of net (Some x) = opened_by (move net x)

-- what is opened from a state on, where there is one
abbrev pub opened_on : Option State → (State → List Key) → List Key
opened_on None f = []
opened_on (Some S) f = f S

-- the entries that a log opens, from a state
abbrev pub opened_in : NetTree → State → List ℕ → List Key
opened_in net S [] = []
opened_in net S (i ∷ log) = opened_of net (S.tokens i) ++ opened_on (step net S i) (λ T. opened_in net T log)

-- it stands in the list
abbrev pub Member : {A : Type 0} → A → List A → Type 0
Member q [] = ⊥
Member q (r ∷ rs) = (q ≡ r) ⊎ Member q rs

-- nothing stands twice in the list
abbrev pub Once : {A : Type 0} → List A → Type 0
Once [] = Unit {0}
Once (q ∷ qs) = (Member q qs → ⊥) × Once qs
