-- What holds of the span: the statements of `law_span`.
use Rattle.std.specs.Prelude.{◌≡◌, ◌≤◌, ◌*◌, ◌↔◌, ℕ, length, Some}
use Rattle.pcf_values.specs.declared.val.Val.{Val}
use Rattle.net_build.specs.Nets.{NetTree}
use Rattle.interleave_laws.specs.States.{State}
use Rattle.interleave_laws.specs.Runs.{Runs}
use Rattle.adequacy_laws.specs.Questions.{Length, Span}
use Rattle.round_laws.specs.Rounds.{live_of}
use Rattle.round_laws.specs.AfterRounds.{rounds}

-- a net has one value and one span at most
abbrev pub OneSpan : Type 0
OneSpan = (net : NetTree) (v w : Val) (n m : ℕ) → Span net v n → Span net w m → (v ≡ w) × (n ≡ m)

-- so many rounds have answered a value exactly when it is the net's and its span is at most so many
abbrev pub RoundsTell : Type 0
RoundsTell = (net : NetTree) → Runs net → (k : ℕ) (S : State) → rounds net k ≡ Some S → (v : Val) →
    (S.answered ≡ Some v) ↔ ((n : ℕ) × Span net v n × (n ≤ k))

-- a net has a span exactly when it has a length, and the span is at most the length
abbrev pub SpanIsThere : Type 0
SpanIsThere = (net : NetTree) (v : Val) → ((n : ℕ) × Span net v n) ↔ ((m : ℕ) × Length net v m)

abbrev pub SpanAtMost : Type 0
SpanAtMost = (net : NetTree) (v w : Val) (n m : ℕ) → Span net v n → Length net w m → n ≤ m

-- where no more than p tokens are live before any round, the length is at most p times the span
abbrev pub SpanAtLeast : Type 0
SpanAtLeast = (net : NetTree) → Runs net → (v w : Val) (n m p : ℕ) → Span net v n → Length net w m →
    ((k : ℕ) (S : State) → rounds net k ≡ Some S → length (live_of S) ≤ p) → m ≤ n * p
