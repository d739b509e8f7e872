-- A branch is a run: the statements of `law_branch` and of `law_branch_maps`.
use Rattle.std.specs.Prelude.{◌≡◌, ◌≢◌, ◌<◌, ◌≤◌, ℕ, suc, ◌+◌, List, [], ◌∷◌, ◌++◌, length, map}
use Rattle.std.specs.Prelude.{replicate, Option, Some, None}
use Rattle.std.specs.Option.{IsSome}
use Rattle.std.specs.FinMap.{get, insert, len}
use Rattle.pcf_values.specs.declared.val.Val.{Val}
use Rattle.pcf_values.specs.declared.operator.Operator.{Operator}
use Rattle.pcf_values.specs.declared.side.Side.{Side}
use Rattle.token_stacks.specs.Signatures.{Boxes}
use Rattle.fork_join.specs.Entries.{Entry}
use Rattle.net_build.specs.Nets.{NetTree}
use Rattle.net_build.specs.Sound.{Sound}
use Rattle.move_rules.specs.Places.{Place, TokenTree, ask}
use Rattle.move_rules.specs.Moves.{join, move}
use Rattle.move_rules.specs.Walks.{Walks}
use Rattle.interleave_laws.specs.States.{State, start, step, run}
use Rattle.interleave_laws.specs.Runs.{Runs, LeadsTo, InEveryState, InEveryRun}
use Rattle.interleave_laws.specs.Maps.{MapState, step_map, run_map, LeadsToMap}
use Rattle.interleave_laws.specs.MapRuns.{IsReachedWithin, InEveryMapState, InEveryMapRun}
use Rattle.branch_laws.specs.Branches.{start_at, name, grafted_tokens, grafted, start_map_at, GraftOf}

-- the state is what a branch on the token came to, by this log of its own tickets, with no answer
abbrev pub Branched : NetTree → TokenTree → List ℕ → State → Type 0
Branched net x l B = (run net (start_at x) l ≡ Some B) × (B.answered ≡ None)

-- it holds of each branch on a live token of each state that a log leads to, on every sound net
abbrev pub OfEveryBranch : ((net : NetTree) (log : List ℕ) (S : State) (i : ℕ) (l : List ℕ) (B : State) → Type 0) → Type 0
OfEveryBranch P = InEveryState (λ net log S. (i : ℕ) (x : TokenTree) → S.tokens i ≡ Some x → (l : List ℕ) (B : State) →
    Branched net x l B → P net log S i l B)

-- the whole run is the branch on the question of its start
abbrev pub StartIsBranch : Type 0
StartIsBranch = (p : Place) → start p ≡ start_at (ask p)

-- a branch is a run, to the state with what it came to in the ticket's place
abbrev pub BranchIsRun : Type 0
BranchIsRun = OfEveryBranch (λ net log S i l B. run net S (map (name i S.next) l) ≡ Some (grafted S i B))

-- so the state's log goes on to it
abbrev pub BranchLeads : Type 0
BranchLeads = OfEveryBranch (λ net log S i l B. LeadsTo net (log ++ map (name i S.next) l) (grafted S i B))

-- no entry of a branch is one of the state's
abbrev pub BranchApart : Type 0
BranchApart = OfEveryBranch (λ net log S i l B. (n : ℕ) (t : Boxes) (e : Entry) → B.entries n t ≡ Some e → S.entries n t ≡ None)

-- its live tickets are below its next
abbrev pub BranchLow : Type 0
BranchLow = OfEveryBranch (λ net log S i l B. (k : ℕ) (y : TokenTree) → B.tokens k ≡ Some y → k < B.next)

-- on a net that runs each has its step, but where an answer comes to a join whose entry isn't the branch's
abbrev pub BranchStops : Type 0
BranchStops = InEveryRun (λ net log S. (i : ℕ) (x : TokenTree) → S.tokens i ≡ Some x → (l : List ℕ) (B : State) →
    Branched net x l B → (k : ℕ) (y : TokenTree) → B.tokens k ≡ Some y → step net B k ≡ None →
    (n : ℕ) × (o : Operator) × (s : Side) × (v : Val) × (w : ℕ) × (t : Boxes) × (move net y ≡ join n o s v w t) ×
    (B.entries n t ≡ None))

-- every other ticket of the state has what it had
abbrev pub GraftLeaves : Type 0
GraftLeaves = (S B : State) (i j : ℕ) → j < S.next → j ≢ i → (grafted S i B).tokens j ≡ S.tokens j

-- and what the branch has at a ticket stands under its name
abbrev pub GraftGives : Type 0
GraftGives = (S B : State) (i k : ℕ) → i < S.next → (grafted S i B).tokens (name i S.next k) ≡ B.tokens k

-- the same over finite maps
abbrev pub BranchedMap : NetTree → TokenTree → List ℕ → MapState → Type 0
BranchedMap net x l B = (run_map net (start_map_at x) l ≡ Some B) × (B.answered ≡ None)

abbrev pub OfEveryMapBranch : ((net : NetTree) (log : List ℕ) (S : MapState) (i : ℕ) (l : List ℕ) (B : MapState) → Type 0) →
    Type 0
OfEveryMapBranch P = InEveryMapState (λ net log S. (i : ℕ) (x : TokenTree) → get S.tokens i ≡ Some x →
    (l : List ℕ) (B : MapState) → BranchedMap net x l B → P net log S i l B)

-- a branch is a run to any state that is grafted so
abbrev pub MapBranchIsRun : Type 0
MapBranchIsRun = OfEveryMapBranch (λ net log S i l B. (T : MapState) → GraftOf S i B T →
    run_map net S (map (name i S.next) l) ≡ Some T)

-- there is one
abbrev pub MapBranchGrafts : Type 0
MapBranchGrafts = OfEveryMapBranch (λ net log S i l B. (T : MapState) × GraftOf S i B T)

-- the state's log goes on to it
abbrev pub MapBranchLeads : Type 0
MapBranchLeads = OfEveryMapBranch (λ net log S i l B. (T : MapState) → GraftOf S i B T →
    LeadsToMap net (log ++ map (name i S.next) l) T)

-- no entry of a branch is one of the state's
abbrev pub MapBranchApart : Type 0
MapBranchApart = OfEveryMapBranch (λ net log S i l B. (n : ℕ) (t : Boxes) (e : Entry) → get B.entries (n, t) ≡ Some e →
    get S.entries (n, t) ≡ None)

-- its live tickets are below its next
abbrev pub MapBranchLow : Type 0
MapBranchLow = OfEveryMapBranch (λ net log S i l B. (k : ℕ) (y : TokenTree) → get B.tokens k ≡ Some y → k < B.next)

-- on a net that runs each has its step, but where an answer comes to a join whose entry isn't the branch's
abbrev pub MapBranchStops : Type 0
MapBranchStops = InEveryMapRun (λ net log S. (i : ℕ) (x : TokenTree) → get S.tokens i ≡ Some x → (l : List ℕ) (B : MapState) →
    BranchedMap net x l B → (k : ℕ) (y : TokenTree) → get B.tokens k ≡ Some y → step_map net B k ≡ None →
    (n : ℕ) × (o : Operator) × (s : Side) × (v : Val) × (w : ℕ) × (t : Boxes) × (move net y ≡ join n o s v w t) ×
    (get B.entries (n, t) ≡ None))

-- a state that was reached in few moves goes on to one that is reached in as many more as the branch has
abbrev pub MapBranchReached : Type 0
MapBranchReached = (net : NetTree) → Sound net → (n : ℕ) (S : MapState) → IsReachedWithin net n S → (i : ℕ) (x : TokenTree) →
    get S.tokens i ≡ Some x → (l : List ℕ) (B : MapState) → BranchedMap net x l B →
    (T : MapState) → GraftOf S i B T → IsReachedWithin net (n + length l) T

-- every other ticket has what it had
abbrev pub MapGraftLeaves : Type 0
MapGraftLeaves = (S B T : MapState) (i j : ℕ) → GraftOf S i B T → j < S.next → j ≢ i → get T.tokens j ≡ get S.tokens j

-- a branch begins with no moves, and a step without an answer is one more
abbrev pub MapBranchBegins : Type 0
MapBranchBegins = (net : NetTree) (x : TokenTree) → BranchedMap net x [] (start_map_at x)

abbrev pub MapBranchSteps : Type 0
MapBranchSteps = (net : NetTree) (x : TokenTree) (l : List ℕ) (B C : MapState) (k : ℕ) → BranchedMap net x l B →
    step_map net B k ≡ Some C → C.answered ≡ None → BranchedMap net x (l ++ k ∷ []) C

-- and so many solo moves of a ticket are so many more
abbrev pub MapBranchWalks : Type 0
MapBranchWalks = (net : NetTree) (x : TokenTree) (l : List ℕ) (B : MapState) (k : ℕ) (trail : List ℕ) (y z : TokenTree) →
    BranchedMap net x l B → get B.tokens k ≡ Some y → Walks net y trail z →
    BranchedMap net x (l ++ map (λ n. k) trail) (record B { tokens = insert B.tokens k z })

-- a branch of solo moves of its first ticket is a walk of the state's
abbrev pub MapPlainGrafts : Type 0
MapPlainGrafts = (S : MapState) (i : ℕ) (x y : TokenTree) → ((j : ℕ) (z : TokenTree) → get S.tokens j ≡ Some z → j < S.next) →
    get S.tokens i ≡ Some x →
    GraftOf S i (record (start_map_at x) { tokens = insert (start_map_at x).tokens 0 y }) (record S { tokens = insert S.tokens i y })

-- where no more tokens are live than tickets were given out, it stays so
abbrev pub MapBranchFew : Type 0
MapBranchFew = OfEveryMapBranch (λ net log S i l B. (T : MapState) → GraftOf S i B T → len S.tokens ≤ S.next →
    len T.tokens ≤ T.next)

-- a branch has at most one ticket more than it has moves
abbrev pub MapBranchTickets : Type 0
MapBranchTickets = (net : NetTree) (x : TokenTree) (l : List ℕ) (B : MapState) → run_map net (start_map_at x) l ≡ Some B →
    B.next ≤ suc (length l)

-- the token is live in some state that a log leads to: all that a branch has to know of where its token was taken
abbrev pub Occurs : NetTree → TokenTree → Type 0
Occurs net x = (log : List ℕ) × (S : MapState) × (i : ℕ) × LeadsToMap net log S × (get S.tokens i ≡ Some x)

-- then the branch's next ticket isn't live
abbrev pub MapBranchFresh : Type 0
MapBranchFresh = (net : NetTree) → Sound net → (x : TokenTree) → Occurs net x → (l : List ℕ) (B : MapState) →
    BranchedMap net x l B → get B.tokens B.next ≡ None

-- and on a net that runs a live ticket has its step where it doesn't join, and where its entry is the branch's
abbrev pub MapBranchAble : Type 0
MapBranchAble = (net : NetTree) → Runs net → (x : TokenTree) → Occurs net x → (l : List ℕ) (B : MapState) →
    BranchedMap net x l B → (k : ℕ) (y : TokenTree) → get B.tokens k ≡ Some y →
    ((n : ℕ) (o : Operator) (s : Side) (v : Val) (w : ℕ) (t : Boxes) → move net y ≡ join n o s v w t →
    IsSome (get B.entries (n, t))) → IsSome (step_map net B k)

-- the log of a plain branch is the ticket's
abbrev pub PlainNames : Type 0
PlainNames = (i n m : ℕ) → map (name i n) (replicate m 0) ≡ replicate m i

-- tokens that answer so by the branch's names and beside them are grafted, as a loop over the branch's tickets leaves them
abbrev pub NamesTell : Type 0
NamesTell = (f g h : ℕ → Option TokenTree) (i n : ℕ) → i < n → ((k : ℕ) → h (name i n k) ≡ g k) →
    ((j : ℕ) → j < n → j ≢ i → h j ≡ f j) → (j : ℕ) → h j ≡ grafted_tokens f i n g j
