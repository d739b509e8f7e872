-- Live tokens, told from one live ticket to the next, and entries, told one after the other.
use Rattle.std.proofs.Common.{◌≡◌, ℕ, zero, suc, ◌+◌, ◌-◌, ◌<◌, ◌≤◌, List, [], ◌++◌, append_assoc, length, drop, get_or, map}
use Rattle.std.proofs.Common.{Option, Some, None, refl, sym, ap, ◌∙◌, arith, drop-cons, drop_of_length-le}
use Rattle.std.specs.Option.{MatchOption}
use Rattle.std.specs.FinMap.{get}
use Rattle.std.proofs.lemmas.List.{append-nil}
use Rattle.fork_join.specs.declared.listing.Open.{Open}
use Rattle.fork_join.specs.Listed.{open_of}
use Rattle.interleave_laws.specs.States.{Tokens}
use Rattle.interleave_laws.specs.Tickets.{IsLive, NoneLive, IsLeastLive, NoneLiveAbove, IsNextLive}
use Rattle.interleave_laws.specs.Maps.{MapState, seen}
use Rattle.walk_text.specs.Traces.{live_line, live_lines, open_line, open_lines}

-- ---- live tokens

-- tickets without tokens have no lines
skip_dead : (f : Tokens) (d n i : ℕ) → ((q : ℕ) → i ≤ q → q < i + d → f q ≡ None) → live_lines f i (d + n) ≡ live_lines f (i + d) n
skip_dead f zero n i dead = let a : 0 + n ≡ n = omega arith in let b : i ≡ i + 0 = omega arith in λ j. live_lines f (b j) (a j)
skip_dead f (suc d) n i dead =
    let b : suc i + d ≡ i + suc d = omega arith in
    let more : suc d + n ≡ suc (d + n) = omega arith in
    ap (λ k. live_lines f i k) more
    ∙ ap (λ o. live_line i o ++ live_lines f (suc i) (d + n)) (dead i (omega arith) (omega arith))
    ∙ skip_dead f d n (suc i) (λ q u w. dead q (omega (arith, u)) (omega (arith, w)))
    ∙ ap (λ k. live_lines f k n) b

-- all tickets from one on have no tokens
all_dead : (f : Tokens) (n i : ℕ) → ((q : ℕ) → i ≤ q → f q ≡ None) → live_lines f i n ≡ []
all_dead f zero i dead = refl
all_dead f (suc n) i dead =
    ap (λ o. live_line i o ++ live_lines f (suc i) n) (dead i (omega arith)) ∙ all_dead f n (suc i) (λ q u. dead q (omega (arith, u)))

-- and those up to a live one
up_to_live : (f : Tokens) (next i j : ℕ) → i ≤ j → j < next → ((q : ℕ) → i ≤ q → q < j → f q ≡ None) →
    live_lines f i (next - i) ≡ live_lines f j (next - j)
up_to_live f next i j u w dead =
    let long : next - i ≡ (j - i) + (next - j) = omega (arith, u, w) in
    let at : i + (j - i) ≡ j = omega (arith, u) in
    ap (λ n. live_lines f i n) long ∙ skip_dead f (j - i) (next - j) i (λ q a b. dead q a (omega (arith, u, b)))
    ∙ ap (λ k. live_lines f k (next - j)) at

-- The text, with the lines from the next live ticket on, is the whole.
abbrev pub LiveFrom : MapState → Option ℕ → List ℕ → List ℕ → Type 0
LiveFrom S None text goal = text ≡ goal
LiveFrom S (Some t) text goal = IsLive S t × (text ++ live_lines (seen S).tokens t (S.next - t) ≡ goal)

-- how many tickets are left
abbrev pub left_of : MapState → Option ℕ → ℕ
left_of S None = 0
left_of S (Some t) = suc (S.next - t)

-- no live ticket has a number that isn't given out yet
abbrev pub Low : MapState → Type 0
Low S = (i : ℕ) → IsLive S i → i < S.next

pub live_begins : (S : MapState) → Low S → (o : Option ℕ) → MatchOption o (NoneLive S) (IsLeastLive S) → (text : List ℕ) →
    LiveFrom S o text (text ++ live_lines (seen S).tokens 0 S.next)
live_begins S low None m text =
    sym (append-nil text) ∙ ap (λ z. text ++ z) (sym (all_dead (seen S).tokens S.next 0 (λ q u. m q)))
live_begins S low (Some t) m text = (
  m.0,
  ap (λ z. text ++ z)
      (sym (ap (λ k. live_lines (seen S).tokens 0 k) (omega arith)
      ∙ up_to_live (seen S).tokens S.next 0 t (omega arith) (low t m.0) (λ q u w. m.1 q w))),
)

-- what follows a live ticket
after_live : (S : MapState) → Low S → (t : ℕ) → IsLive S t → (text new goal : List ℕ) → new ≡ text ++ live_line t (get S.tokens t) →
    text ++ live_lines (seen S).tokens t (S.next - t) ≡ goal → new ++ live_lines (seen S).tokens (suc t) (S.next - suc t) ≡ goal
after_live S low t live text new goal e g =
    let below = low t live in
    let one : S.next - t ≡ suc (S.next - suc t) = omega (arith, below) in
    ap (λ z. z ++ live_lines (seen S).tokens (suc t) (S.next - suc t)) e
    ∙ append_assoc text (live_line t (get S.tokens t)) (live_lines (seen S).tokens (suc t) (S.next - suc t))
    ∙ ap (λ n. text ++ live_lines (seen S).tokens t n) (sym one)
    ∙ g

-- behind a live ticket's line the lines go on with the next live ticket, or are all there
pub live_on : (S : MapState) → Low S → (t : ℕ) → (text new goal : List ℕ) → LiveFrom S (Some t) text goal →
    new ≡ text ++ live_line t (get S.tokens t) → (o : Option ℕ) → MatchOption o (NoneLiveAbove S t) (IsNextLive S t) → LiveFrom S o new goal
live_on S low t text new goal from e None m =
    sym (append-nil new)
    ∙ ap (λ z. new ++ z) (sym (all_dead (seen S).tokens (S.next - suc t) (suc t) (λ q u. m q (omega (arith, u)))))
    ∙ after_live S low t from.0 text new goal e from.1
live_on S low t text new goal from e (Some u) m = (
  m.1,
  ap (λ z. new ++ z)
      (sym (up_to_live (seen S).tokens S.next (suc t) u (omega (arith, m.0)) (low u m.1) (λ q a b. m.2 q (omega (arith, a)) b)))
      ∙ after_live S low t from.0 text new goal e from.1,
)

pub fewer_left : (S : MapState) → Low S → (t : ℕ) (o : Option ℕ) → IsLive S t → MatchOption o (NoneLiveAbove S t) (IsNextLive S t) →
    left_of S o < left_of S (Some t)
fewer_left S low t None live m = omega arith
fewer_left S low t (Some u) live m = let a = low t live in let b = low u m.1 in omega (arith, m.0, a, b)

-- ---- entries

-- One entry more is told.
pub entry_on : (list : List Open) (i : ℕ) (d : Open) (text new goal : List ℕ) → i < length list →
    new ≡ text ++ open_line (open_of (get_or list i d)).0 (open_of (get_or list i d)).1 →
    text ++ open_lines (map open_of (drop i list)) ≡ goal → new ++ open_lines (map open_of (drop (i + 1) list)) ≡ goal
entry_on list i d text new goal u e g =
    let item : Open = get_or list i d in
    let line : List ℕ = open_line (open_of item).0 (open_of item).1 in
    let next : i + 1 ≡ suc i = omega arith in
    (λ j. e j ++ open_lines (map open_of (drop (next j) list)))
    ∙ append_assoc text line (open_lines (map open_of (drop (suc i) list)))
    ∙ ap (λ z. text ++ open_lines (map open_of z)) (sym (drop-cons list i d u))
    ∙ g

pub entries_done : (list : List Open) (i : ℕ) (text goal : List ℕ) → length list ≤ i →
    text ++ open_lines (map open_of (drop i list)) ≡ goal → text ≡ goal
entries_done list i text goal u g =
    sym (append-nil text) ∙ ap (λ z. text ++ open_lines (map open_of z)) (sym (drop_of_length-le list u)) ∙ g
