-- The moves of p processors against their units.
-- A unit of theirs has p moves at most. So units that have answered are at least a p-th of the net's length and at least its span, and what
-- leaves none idle is at most the former and 1 - 1 / p of the latter: 2 - 1 / p times as many.
use Rattle.std.proofs.Common.{◌≡◌, ◌≤◌, ◌<◌, ◌+◌, ◌-◌, ◌*◌, ℕ, suc, List, [], ◌∷◌, length, Option, Some, None}
use Rattle.std.proofs.Common.{refl, sym, ap, ◌∙◌, subst, ⊎_elim, arith}
use Rattle.std.proofs.lemmas.Bool.{cases_lt}
use Rattle.std.proofs.lemmas.List.{length-append}
use Rattle.std.proofs.lemmas.Nat.{mul-le}
use Rattle.pcf_values.specs.declared.val.Val.{Val}
use Rattle.net_build.specs.Nets.{NetTree}
use Rattle.interleave_laws.specs.Start.{start_of}
use Rattle.interleave_laws.specs.States.{State, start, run}
use Rattle.interleave_laws.specs.Runs.{Runs, LeadsTo}
use Rattle.adequacy_laws.specs.Questions.{Length, Span}
use Rattle.adequacy_laws.proofs.Agreeing.{agrees}
use Rattle.round_laws.specs.Units.{InState, AreUnits, joined, AnyUnit, AtMost, IsProcessorsSchedule, LeavesNoneIdle}
use Rattle.round_laws.proofs.Spanning.{mul_suc, no_faster, nearly_as_fast}

-- the state of which something holds
behind : (o : Option State) (P : State → Type 0) → InState o P → (T : State) × (o ≡ Some T) × P T
behind None P h = absurd h
behind (Some T) P h = (T, refl, h)

-- units of which more is asked are units
any_units : (net : NetTree) (P : State → List ℕ → Type 0) (ls : List (List ℕ)) (S : State) → AreUnits P net S ls →
    AreUnits AnyUnit net S ls
any_units net P [] S u = tt
any_units net P (l ∷ ls) S (u, _, rest) = (u, tt, go (any_units net P ls) (run net S l) rest)
  where
    go : ((T : State) → AreUnits P net T ls → AreUnits AnyUnit net T ls) → (o : Option State) →
        InState o (λ T. AreUnits P net T ls) → InState o (λ T. AreUnits AnyUnit net T ls)
    go ih None h = h
    go ih (Some T) h = ih T h

-- units of p tickets at most have at most p times as many tickets as they are
work_from : (net : NetTree) (p : ℕ) (ls : List (List ℕ)) (S : State) → AreUnits (AtMost p) net S ls →
    length (joined ls) ≤ p * length ls
work_from net p [] S u = omega arith
work_from net p (l ∷ ls) S (u, few, rest) =
    let (T, _, rest') = behind (run net S l) (λ T. AreUnits (AtMost p) net T ls) rest in
    let ih = work_from net p ls T rest' in
    let a = mul_suc p (length ls) in
    let long = length-append l (joined ls) in
    omega (arith, a, long, ih, few)

pub work_takes_units : (net : NetTree) (p : ℕ) (ls : List (List ℕ)) → IsProcessorsSchedule p net ls → length (joined ls) ≤ p * length ls
work_takes_units net p ls u = work_from net p ls (start (start_of net)) u

-- the moves before the answer are fewer than all
fewer : (net : NetTree) → Runs net → (log : List ℕ) (S : State) → LeadsTo net log S → S.answered ≡ None → (w : Val) (m : ℕ) →
    Length net w m → length log < m
fewer net runs log S h none w m long =
    let same = agrees net runs.sound log S h in
    ⊎_elim (λ l. l)
    (λ all.
    let most = same.no_longer w m long in
    let e : m ≡ length log = omega (arith, all, most) in
    let done = (same.answers w).1 (subst (Length net w) e long) in
    let bad : None ≡ Some w = sym none ∙ done in
    absurd cc) (cases_lt (length log) m)

-- a p-th of the moves, and the span less its p-th
pub bound_of_brent : (net : NetTree) → Runs net → (v w : Val) (n m : ℕ) → Span net v n → Length net w m → (p : ℕ) → 1 ≤ p →
    (ls : List (List ℕ)) → LeavesNoneIdle p net ls → (S : State) → LeadsTo net (joined ls) S → S.answered ≡ None →
    p * suc (length ls) ≤ m + (p - 1) * n
bound_of_brent net runs v w n m span long p some ls idle S h none =
    let near = nearly_as_fast net runs v n span p some ls idle S h none in
    let less = fewer net runs (joined ls) S h none w m long in
    omega (arith, near, less)

-- p times and p - 1 times
both_times : (p c : ℕ) → 1 ≤ p → p * c + (p - 1) * c ≡ (2 * p - 1) * c
both_times p c some =
    let e : p + (p - 1) ≡ 2 * p - 1 = omega (arith, some) in
    spread p (p - 1) c ∙ ap (λ n. n * c) e
  where
    spread : (a b c : ℕ) → a * c + b * c ≡ (a + b) * c
    spread a b c = grind arith

-- of p processors that have answered, the moves are p times the units at most, and the span is as many at most
pub bound_of_graham : (net : NetTree) → Runs net → (p : ℕ) → 1 ≤ p → (ls ms : List (List ℕ)) → LeavesNoneIdle p net ls →
    IsProcessorsSchedule p net ms → (S T : State) → LeadsTo net (joined ls) S → LeadsTo net (joined ms) T → S.answered ≡ None →
    (v : Val) → T.answered ≡ Some v → p * suc (length ls) ≤ (2 * p - 1) * length ms
bound_of_graham net runs p some ls ms idle few S T h g none v e =
    let (n, span, short) = no_faster net runs ms (any_units net (AtMost p) ms (start (start_of net)) few) T g v e in
    let long = ((agrees net runs.sound (joined ms) T g).answers v).0 e in
    let most = bound_of_brent net runs v v n (length (joined ms)) span long p some ls idle S h none in
    let work = work_takes_units net p ms few in
    let spans = mul-le (p - 1) n (p - 1) (length ms) (omega arith) short in
    let sum = both_times p (length ms) some in
    omega (arith, most, work, spans, sum)
