-- What has become of a question, as a finite tree whose open ends are the live tokens.
-- A question stands at its place and asks, or its answer is on the way back, or it is kept at a join, or the question went on to those
-- that its look names. Each form carries what it read of the net and what was found out so far, so that the tree alone gives the tokens,
-- the entries, the tickets, the moves that were spent, and the places that were visited. `Gives` is a question's value with its number
-- of moves, by rules; no count by depth is needed here. An effect is what one move does to tokens and entries.
use Rattle.std.proofs.Common.{◌≡◌, ◌⊎◌, ℕ, zero, suc, ◌+◌, Bool, false, Option, Some, None}
use Rattle.std.specs.Prelude.{nat_eq, if◌then◌else◌}
use Rattle.pcf_values.specs.declared.val.Val.{Val}
use Rattle.pcf_values.specs.declared.val.Val.TheVariants.{Number}
use Rattle.pcf_values.specs.Values.{val_op, at_zero}
use Rattle.pcf_values.specs.declared.operator.Operator.{Operator}
use Rattle.token_stacks.specs.Signatures.{Boxes}
use Rattle.fork_join.specs.Entries.{Entry, pending, has_left, has_right, same_key}
use Rattle.net_build.specs.Nets.{NetTree}
use Rattle.move_rules.specs.Places.{Place, turned, TokenTree, ask, ans}
use Rattle.move_rules.specs.Moves.{constant, pass, one, test, two, look}
use Rattle.move_rules.specs.Table.{or_else}
use Rattle.interleave_laws.specs.States.{Tokens, Entries}
use Rattle.interleave_laws.proofs.Parents.{parent}

-- a question's condition; kept stands only under forked, where an operand's answer is kept
pub data Tree : Type 0 where
  asking : (i : ℕ) → Tree
  coming : (i : ℕ) → Val → (n : ℕ) → Tree
  kept : Val → (n : ℕ) → Tree
  passed : (k : ℕ) → (q : Place) → Tree → Tree
  applied : (k : ℕ) → (Val → Val) → (q : Place) → Tree → Tree
  tested : (k : ℕ) → (c a b : Place) → Tree → Tree
  chosen : (k : ℕ) → (c a b : Place) → Val → (n : ℕ) → Tree → Tree
  forked : (k : ℕ) → Operator → Boxes → (a b : Place) → Tree → Tree → Tree

-- the question isn't kept at a join
abbrev pub Open : Tree → Type 0
Open (kept v n) = ⊥
Open (asking i) = Unit {0}
Open (coming i v n) = Unit {0}
Open (passed k q t) = Unit {0}
Open (applied k f q t) = Unit {0}
Open (tested k c a b t) = Unit {0}
Open (chosen k c a b v n t) = Unit {0}
Open (forked k op s a b l r) = Unit {0}

-- a question's value and number of moves, by rules
pub data Gives (net : NetTree) : Place → Val → ℕ → Type 0 where
  by_number : {p : Place} {k n : ℕ} → look net p ≡ constant k n → Gives net p (Number n) 1
  by_pass : {p q : Place} {k n : ℕ} {v : Val} → look net p ≡ pass k q → Gives net q v n → Gives net p v (n + 2)
  by_one : {p q : Place} {k n : ℕ} {f : Val → Val} {v : Val} → look net p ≡ one k f q → Gives net q v n →
      Gives net p (f v) (n + 2)
  by_test : {p c a b : Place} {k n m : ℕ} {v w : Val} → look net p ≡ test k c a b → Gives net c w m →
      Gives net (at_zero w a b) v n → Gives net p v (n + (m + 3))
  by_two : {p a b : Place} {k n m : ℕ} {op : Operator} {s : Boxes} {v w : Val} → look net p ≡ two k op s a b → Gives net a v n →
      Gives net b w m → Gives net p (val_op op v w) (n + m + 3)

-- the tree fits the net at a place
abbrev pub Valid : NetTree → Tree → Place → Type 0
Valid net (asking i) p = Unit {0}
Valid net (coming i v n) p = Gives net p v n
Valid net (kept v n) p = Gives net p v n
Valid net (passed k q t) p = (look net p ≡ pass k q) × Open t × Valid net t q
Valid net (applied k f q t) p = (look net p ≡ one k f q) × Open t × Valid net t q
Valid net (tested k c a b t) p = (look net p ≡ test k c a b) × Open t × Valid net t c
Valid net (chosen k c a b v n t) p = (look net p ≡ test k c a b) × Gives net c v n × Open t × Valid net t (at_zero v a b)
Valid net (forked k op s a b l r) p = (look net p ≡ two k op s a b) × (Open l ⊎ Open r) × Valid net l a × Valid net r b

-- its tokens
abbrev pub token_in : Tree → Place → Tokens
token_in (asking i) p j = if nat_eq j i then Some (ask p) else None
token_in (coming i v n) p j = if nat_eq j i then Some (ans v (turned p)) else None
token_in (kept v n) p j = None
token_in (passed k q t) p j = token_in t q j
token_in (applied k f q t) p j = token_in t q j
token_in (tested k c a b t) p j = token_in t c j
token_in (chosen k c a b v n t) p j = token_in t (at_zero v a b) j
token_in (forked k op s a b l r) p j = or_else (token_in l a j) (token_in r b j)

-- what is kept at a fork
abbrev pub status : Tree → Tree → Entry
status (kept v n) r = has_left v
status l (kept v n) = has_right v
status l r = pending

-- its entries
abbrev pub entry_in : Tree → Entries
entry_in (asking i) n s = None
entry_in (coming i v m) n s = None
entry_in (kept v m) n s = None
entry_in (passed k q t) n s = entry_in t n s
entry_in (applied k f q t) n s = entry_in t n s
entry_in (tested k c a b t) n s = entry_in t n s
entry_in (chosen k c a b v m t) n s = entry_in t n s
entry_in (forked k op u a b l r) n s = if same_key n s k u then Some (status l r) else or_else (entry_in l n s) (entry_in r n s)

-- its tickets
abbrev pub tickets : Tree → ℕ → ℕ
tickets (asking i) j = if nat_eq j i then 1 else 0
tickets (coming i v n) j = if nat_eq j i then 1 else 0
tickets (kept v n) j = 0
tickets (passed k q t) j = tickets t j
tickets (applied k f q t) j = tickets t j
tickets (tested k c a b t) j = tickets t j
tickets (chosen k c a b v n t) j = tickets t j
tickets (forked k op s a b l r) j = tickets l j + tickets r j

-- the moves that were made for it
abbrev pub spent : Tree → ℕ
spent (asking i) = 0
spent (coming i v n) = n
spent (kept v n) = suc n
spent (passed k q t) = suc (spent t)
spent (applied k f q t) = suc (spent t)
spent (tested k c a b t) = suc (spent t)
spent (chosen k c a b v n t) = suc (suc (n + spent t))
spent (forked k op s a b l r) = suc (spent l + spent r)

-- what a move does to tokens and entries
pub data Effect : Type 0 where
  turn : TokenTree → Effect
  opens : (n : ℕ) → Boxes → (l r : Place) → Effect
  keeps : (n : ℕ) → Boxes → Entry → Effect
  closes : (n : ℕ) → Boxes → TokenTree → Effect

-- what it does to tokens
abbrev pub on_tokens : Effect → ℕ → ℕ → Tokens → Tokens
on_tokens (turn x) i nx f j = if nat_eq j i then Some x else f j
on_tokens (opens n s l r) i nx f j = if nat_eq j nx then Some (ask r) else (if nat_eq j i then Some (ask l) else f j)
on_tokens (keeps n s e) i nx f j = if nat_eq j i then None else f j
on_tokens (closes n s x) i nx f j = if nat_eq j i then Some x else f j

-- the entry that it changes, and to what
abbrev pub at_key : Effect → ℕ → Boxes → Bool
at_key (turn x) m t = false
at_key (opens n s l r) m t = same_key m t n s
at_key (keeps n s e) m t = same_key m t n s
at_key (closes n s x) m t = same_key m t n s

-- the entry afterwards
abbrev pub new_entry : Effect → Option Entry
new_entry (turn x) = None
new_entry (opens n s l r) = Some pending
new_entry (keeps n s e) = Some e
new_entry (closes n s x) = None

-- what it does to entries
abbrev pub on_entries : Effect → Entries → Entries
on_entries f g m t = if at_key f m t then new_entry f else g m t

-- the tickets that it makes
abbrev pub more : Effect → ℕ → ℕ → ℕ
more (opens n s l r) nx j = if nat_eq j nx then 1 else 0
more _ nx j = 0

-- the tickets that it ends
abbrev pub fewer : Effect → ℕ → ℕ → ℕ
fewer (keeps n s e) i j = if nat_eq j i then 1 else 0
fewer _ i j = 0

-- go on where there is something
abbrev pub and_then : {A B : Type 0} → Option A → (A → Option B) → Option B
and_then None f = None
and_then (Some x) f = f x

-- the place so many questions before
abbrev pub ancestor : NetTree → ℕ → Place → Option Place
ancestor net zero q = Some q
ancestor net (suc n) q = and_then (parent net q) (ancestor net n)

-- q was asked from p, so many questions on
abbrev pub Below : NetTree → Place → Place → Type 0
Below net p q = (m : ℕ) × (ancestor net m q ≡ Some p)

-- the places that may have been asked for the tree at p
abbrev pub Visited : NetTree → Tree → Place → Place → Type 0
Visited net (asking i) p q = q ≡ p
Visited net (coming i v n) p q = Below net p q
Visited net (kept v n) p q = Below net p q
Visited net (passed k r t) p q = (q ≡ p) ⊎ Visited net t r q
Visited net (applied k f r t) p q = (q ≡ p) ⊎ Visited net t r q
Visited net (tested k c a b t) p q = (q ≡ p) ⊎ Visited net t c q
Visited net (chosen k c a b w n t) p q = (q ≡ p) ⊎ (Below net c q ⊎ Visited net t (at_zero w a b) q)
Visited net (forked k op s a b l r) p q = (q ≡ p) ⊎ (Visited net l a q ⊎ Visited net r b q)

-- what a move asks
abbrev pub AsksPlace : Effect → Place → Type 0
AsksPlace (turn (ask r)) q = q ≡ r
AsksPlace (turn (ans v r)) q = ⊥
AsksPlace (opens n s l r) q = (q ≡ l) ⊎ (q ≡ r)
AsksPlace (keeps n s e) q = ⊥
AsksPlace (closes n s x) q = ⊥

-- a fork asks two places
abbrev pub Differ : Effect → Type 0
Differ (turn x) = Unit {0}
Differ (opens n s l r) = l ≡ r → ⊥
Differ (keeps n s e) = Unit {0}
Differ (closes n s x) = Unit {0}
