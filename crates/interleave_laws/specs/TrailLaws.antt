-- Walks of one token as steps of its ticket: the statements of `law_trail_steps`.
-- The last one is what lets a state take over a walk that was made elsewhere: the nodes of its trail must be the net's, and no move is made
-- anew.
use Rattle.std.specs.Prelude.{◌≡◌, ℕ, List, map, Some}
use Rattle.std.specs.List.{All}
use Rattle.std.specs.FinMap.{get, insert}
use Rattle.net_build.specs.Nets.{NetTree}
use Rattle.net_build.specs.Sound.{Sound}
use Rattle.move_rules.specs.Places.{TokenTree}
use Rattle.move_rules.specs.Views.{token_of}
use Rattle.move_rules.specs.Walks.{Walks, Stands, Passage, Reached}
use Rattle.interleave_laws.specs.States.{set_token, State, run}
use Rattle.interleave_laws.specs.Maps.{MapState, run_map}

-- a walk of solo moves is as many steps of its ticket, and leaves all else
abbrev pub WalkSteps : Type 0
WalkSteps = (net : NetTree) (trail : List ℕ) (S : State) (i : ℕ) (x y : TokenTree) → S.tokens i ≡ Some x → Walks net x trail y →
    run net S (map (λ n. i) trail) ≡ Some (record S { tokens = set_token S.tokens i (Some y) })

-- the same over finite maps
abbrev pub WalkStepsMap : Type 0
WalkStepsMap = (net : NetTree) (trail : List ℕ) (S : MapState) (i : ℕ) (x y : TokenTree) → get S.tokens i ≡ Some x →
    Walks net x trail y → run_map net S (map (λ n. i) trail) ≡ Some (record S { tokens = insert S.tokens i y })

-- and of the trail that a passage keeps, whatever net it was made on, where its nodes are the net's
abbrev pub TrailStepsMap : Type 0
TrailStepsMap = (net : NetTree) → Sound net → (m : Passage) → Reached m → All (Stands net) m.trail → (S : MapState) (i : ℕ) →
    get S.tokens i ≡ Some (token_of m.before) →
    run_map net S (map (λ s. i) m.trail) ≡ Some (record S { tokens = insert S.tokens i (token_of m.after) })
