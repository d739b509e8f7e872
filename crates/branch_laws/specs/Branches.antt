-- A branch of a run: one token that is played alone, with all that it forks, and what comes of it put into the state it stood in.
-- A branch has tickets of its own. Its first is 0, and stands for the ticket whose token it is; the others stand for the tickets from
-- the state's next one on, in turn. Its entries are those of its own forks, so that an answer whose fork isn't its own has no step.
use Rattle.std.specs.Prelude.{◌≡◌, ℕ, zero, suc, ◌+◌, ◌-◌, Some, None, nat_eq, nat_lt, if◌then◌else◌}
use Rattle.std.specs.FinMap as map
use Rattle.token_stacks.specs.Signatures.{Boxes}
use Rattle.move_rules.specs.Places.{TokenTree}
use Rattle.move_rules.specs.Table.{or_else}
use Rattle.interleave_laws.specs.States.{Tokens, Entries, State}
use Rattle.interleave_laws.specs.Maps.{MapState}

-- the state in which a branch begins: ticket 0 has the token
abbrev pub start_at : TokenTree → State
start_at x = record { tokens = λ j. if nat_eq j 0 then Some x else None; entries = λ n s. None; next = 1; answered = None }

-- what a branch of ticket i calls k, in a state whose next ticket is n
abbrev pub name : ℕ → ℕ → ℕ → ℕ
name i n zero = i
name i n (suc k) = n + k

-- the tokens f of a state whose next ticket is n, with those of a branch of ticket i
abbrev pub grafted_tokens : Tokens → ℕ → ℕ → Tokens → Tokens
grafted_tokens f i n g j = if nat_eq j i then g 0 else (if nat_lt j n then f j else g (suc (j - n)))

-- the entries of a branch, and those of the state beside them
abbrev pub grafted_entries : Entries → Entries → Entries
grafted_entries g h n t = or_else (h n t) (g n t)

-- the state S with what its branch of ticket i came to
abbrev pub grafted : State → ℕ → State → State
grafted S i B = record S {
  tokens = grafted_tokens S.tokens i S.next B.tokens;
  entries = grafted_entries S.entries B.entries;
  next =
      name i S.next B.next;
}

-- the state of finite maps in which a branch begins
abbrev pub start_map_at : TokenTree → MapState
start_map_at x = record { tokens = map.insert map.empty 0 x; entries = map.empty; next = 1; answered = None }

-- the state T of finite maps is S with what its branch of ticket i came to
pub record GraftOf (S : MapState) (i : ℕ) (B T : MapState) : Type 0 where
  pub tokens : (j : ℕ) → map.get T.tokens j ≡ grafted_tokens (λ j. map.get S.tokens j) i S.next (λ k. map.get B.tokens k) j
  pub entries : (n : ℕ) (t : Boxes) → map.get T.entries (n, t) ≡ or_else (map.get B.entries (n, t)) (map.get S.entries (n, t))
  pub next : T.next ≡ name i S.next B.next
  pub answered : T.answered ≡ S.answered
