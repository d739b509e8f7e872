-- A window from the lesser of a place and the log's end is the window of the trace.
use Rattle.std.proofs.Common.{◌≡◌, ℕ, zero, suc, ◌+◌, ◌-◌, min, List, [], ◌∷◌, ◌++◌, append_assoc, length, take, drop, refl, sym, ap}
use Rattle.std.proofs.Common.{◌∙◌, arith, length-drop}
use Rattle.std.specs.Prelude.{codes}
use Rattle.std.specs.List.{concat}
use Rattle.net_build.specs.Nets.{NetTree}
use Rattle.interleave_laws.specs.States.{State}
use Rattle.interleave_laws.specs.Maps.{MapState, LeadsToMap, seen}
use Rattle.schedule_log.specs.declared.entry.Entry.{Entry}
use Rattle.schedule_log.specs.Logs.{tickets_in_log}
use Rattle.walk_text.specs.Traces.{lines_from, head_text, window_text, window_at, state_at, trace_text}

none_taken : (m : ℕ) → take {A = Entry} m [] ≡ []
none_taken zero = refl
none_taken (suc m) = refl

none_dropped : (m : ℕ) → drop {A = Entry} m [] ≡ []
none_dropped zero = refl
none_dropped (suc m) = refl

-- so many entries, or as many as there are
take_least : (es : List Entry) (n : ℕ) → take (min n (length es)) es ≡ take n es
take_least [] n = none_taken (min n 0) ∙ sym (none_taken n)
take_least (e ∷ es) zero = let none : min 0 (length (e ∷ es)) ≡ 0 = omega arith in ap (λ k. take k (e ∷ es)) none
take_least (e ∷ es) (suc n) =
    let one : min (suc n) (length (e ∷ es)) ≡ suc (min n (length es)) = omega arith in
    ap (λ k. take k (e ∷ es)) one ∙ ap (λ r. e ∷ r) (take_least es n)

drop_least : (es : List Entry) (n : ℕ) → drop (min n (length es)) es ≡ drop n es
drop_least [] n = none_dropped (min n 0) ∙ sym (none_dropped n)
drop_least (e ∷ es) zero = let none : min 0 (length (e ∷ es)) ≡ 0 = omega arith in ap (λ k. drop k (e ∷ es)) none
drop_least (e ∷ es) (suc n) =
    let one : min (suc n) (length (e ∷ es)) ≡ suc (min n (length es)) = omega arith in
    ap (λ k. drop k (e ∷ es)) one ∙ drop_least es n

-- behind the end of a log the place doesn't count
place_free : (net : NetTree) (S : State) (es : List Entry) (n m k : ℕ) →
    lines_from net S (min n (length es) + k) (take m (drop n es)) ≡ lines_from net S (n + k) (take m (drop n es))
place_free net S es zero m k =
    let none : min 0 (length es) + k ≡ 0 + k = omega arith in ap (λ j. lines_from net S j (take m es)) none
place_free net S [] (suc n) m k =
    (λ j. lines_from net S (min (suc n) 0 + k) (none_taken m j)) ∙ sym (λ j. lines_from net S (suc n + k) (none_taken m j))
place_free net S (e ∷ es) (suc n) m k =
    let one : min (suc n) (length (e ∷ es)) + k ≡ min n (length es) + suc k = omega arith in
    let next : n + suc k ≡ suc n + k = omega arith in
    ap (λ j. lines_from net S j (take m (drop n es))) one ∙ place_free net S es n m (suc k)
    ∙ ap (λ j. lines_from net S j (take m (drop n es))) next

-- the header, the window's lines and the end are the trace of the log from that move on
trace_is : (net : NetTree) (log : List Entry) (from most begin to : ℕ) (S : MapState) → begin ≡ min from (length log) →
    to ≡ begin + min most (length log - begin) → LeadsToMap net (tickets_in_log (take begin log)) S →
    codes "trace 1\n" ++ (window_text net S begin (take (to - begin) (drop begin log)) ++ codes "end\n") ≡ trace_text net log from most
trace_is net log from most begin to S b t led =
    let there : take begin log ≡ take from log = ap (λ n. take n log) b ∙ take_least log from in
    let behind : drop begin log ≡ drop from log = ap (λ n. drop n log) b ∙ drop_least log from in
    let long = length-drop begin log in
    let size : to - begin ≡ min most (length (drop begin log)) = omega (arith, t, long) in
    let part : take (to - begin) (drop begin log) ≡ take most (drop from log) =
    ap (λ n. take n (drop begin log)) size ∙ take_least (drop begin log) most ∙ ap (take most) behind in
    let place : begin ≡ min from (length log) + 0 = omega (arith, b) in
    let plain : from + 0 ≡ from = omega arith in
    let lines : lines_from net (seen S) begin (take (to - begin) (drop begin log))
    ≡ lines_from net (seen S) from (take most (drop from log)) =
    (λ i. lines_from net (seen S) (place i) (part i)) ∙ place_free net (seen S) log from most 0
    ∙ ap (λ n. lines_from net (seen S) n (take most (drop from log))) plain in
    ap (λ ls. codes "trace 1\n" ++ ((head_text S ++ concat ls) ++ codes "end\n")) lines
    ∙ ap (λ o. codes "trace 1\n" ++ (window_at net o from (take most (drop from log)) ++ codes "end\n"))
    (sym (ap (λ es. state_at net es) (sym there) ∙ led))

-- The text of the whole trace, piece by piece.
pub traced : (net : NetTree) (log entries : List Entry) (from most begin size : ℕ) (S : MapState) (old first mid new : List ℕ) →
    entries ≡ log → begin ≡ min from (length entries) → size ≡ min most (length entries - begin) →
    LeadsToMap net (tickets_in_log (take begin entries)) S → first ≡ old ++ codes "trace 1\n" →
    mid ≡ first ++ window_text net S begin (take ((begin + size) - begin) (drop begin entries)) → new ≡ mid ++ codes "end\n" →
    new ≡ old ++ trace_text net log from most
traced net log entries from most begin size S old first mid new same b s led e f g =
    let window : List ℕ = window_text net S begin (take ((begin + size) - begin) (drop begin entries)) in
    let to : begin + size ≡ begin + min most (length entries - begin) = ap (λ n. begin + n) s in
    g ∙ ap (λ z. z ++ codes "end\n") (f ∙ ap (λ z. z ++ window) e)
    ∙ append_assoc (old ++ codes "trace 1\n") window (codes "end\n")
    ∙ append_assoc old (codes "trace 1\n") (window ++ codes "end\n")
    ∙ ap (λ z. old ++ z) (trace_is net entries from most begin (begin + size) S b to led)
    ∙ ap (λ es. old ++ trace_text net es from most) same
