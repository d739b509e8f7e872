-- The moves of a log's entries, one after the other: each has its step, and its line stands behind those before it.
use Rattle.std.proofs.Common.{◌≡◌, ℕ, suc, ◌+◌, ◌-◌, ◌<◌, ◌≤◌, List, [], ◌∷◌, ◌++◌, append_assoc, length, take, drop, get_or}
use Rattle.std.proofs.Common.{Option, Some, None, refl, sym, ap, ◌∙◌, subst, arith, drop-cons}
use Rattle.std.specs.Option.{IsSome}
use Rattle.std.specs.List.{concat}
use Rattle.std.specs.FinMap.{get}
use Rattle.std.proofs.lemmas.List.{append-nil}
use Rattle.std.proofs.lemmas.Option.{same_Some, none-some}
use Rattle.net_build.specs.Nets.{NetTree}
use Rattle.move_rules.specs.Places.{TokenTree}
use Rattle.interleave_laws.specs.Start.{start_of}
use Rattle.interleave_laws.specs.Runs.{Runs}
use Rattle.interleave_laws.proofs.MapLaws.{map_low}
use Rattle.interleave_laws.specs.Tickets.{IsLive}
use Rattle.interleave_laws.specs.Maps.{MapState, start_map, step_map, step_map_on, run_map, then_run_map, LeadsToMap}
use Rattle.interleave_laws.specs.MapRuns.{IsReachedWithin, option_seen}
use Rattle.interleave_laws.specs.Maps.{seen}
use Rattle.interleave_laws.proofs.Seen.{step_seen}
use Rattle.schedule_log.specs.declared.entry.Entry.{Entry}
use Rattle.schedule_log.specs.Logs.{tickets_in_log}
use Rattle.schedule_log.proofs.Taken.{tickets_split, tickets_more}
use Rattle.walk_text.specs.Lines.{move_line}
use Rattle.walk_text.specs.Traces.{on_state, lines_from}
use Rattle.walk_text.specs.Whole.{LeadsSomewhere}

-- ---- steps

-- a run with one more step
run_more : (net : NetTree) (log : List ℕ) (S T U : MapState) (t : ℕ) → run_map net S log ≡ Some T → step_map net T t ≡ Some U →
    run_map net S (log ++ t ∷ []) ≡ Some U
run_more net [] S T U t led made =
    ap (λ o. then_run_map o (λ V. Some V)) (ap (λ V. step_map net V t) (same_Some S T led) ∙ made)
run_more net (i ∷ log) S T U t led made = go (step_map net S i) (λ V h. run_more net log V T U t h made) led
  where
    go : (o : Option MapState) → ((V : MapState) → run_map net V log ≡ Some T → run_map net V (log ++ t ∷ []) ≡ Some U) →
        then_run_map o (λ V. run_map net V log) ≡ Some T → then_run_map o (λ V. run_map net V (log ++ t ∷ [])) ≡ Some U
    go None f h = absurd (none-some T h)
    go (Some V) f h = f V h

-- a ticket in the middle of a run has its step
middle_step : (net : NetTree) (log more : List ℕ) (S T E : MapState) (t : ℕ) → run_map net S (log ++ t ∷ more) ≡ Some E →
    run_map net S log ≡ Some T → IsSome (step_map net T t)
middle_step net [] more S T E t all led =
    subst (λ V. IsSome (step_map net V t)) (same_Some S T led) (go (step_map net S t) all)
  where
    go : (o : Option MapState) → then_run_map o (λ V. run_map net V more) ≡ Some E → IsSome o
    go None h = absurd (none-some E h)
    go (Some V) h = refl
middle_step net (i ∷ log) more S T E t all led = go (step_map net S i) (λ V. middle_step net log more V T E t) all led
  where
    go : (o : Option MapState) →
        ((V : MapState) → run_map net V (log ++ t ∷ more) ≡ Some E → run_map net V log ≡ Some T → IsSome (step_map net T t)) →
        then_run_map o (λ V. run_map net V (log ++ t ∷ more)) ≡ Some E → then_run_map o (λ V. run_map net V log) ≡ Some T →
        IsSome (step_map net T t)
    go None f h g = absurd (none-some E h)
    go (Some V) f h g = f V h g

-- a ticket that has its step is live
pub able_live : (net : NetTree) (S : MapState) (t : ℕ) → IsSome (step_map net S t) → IsLive S t
able_live net S t able = go (get S.tokens t) able
  where
    go : (o : Option TokenTree) → IsSome (step_map_on net o S t) → IsSome o
    go None h = h
    go (Some x) h = refl

-- ---- at a place of a log

-- The ticket of an entry has its step, where the entries before it have led.
pub able_here : (net : NetTree) (es : List Entry) (i : ℕ) (d : Entry) (S : MapState) → LeadsSomewhere net es → i < length es →
    LeadsToMap net (tickets_in_log (take i es)) S → IsSome (step_map net S (get_or es i d).ticket)
able_here net es i d S whole u led =
    middle_step net (tickets_in_log (take i es)) (tickets_in_log (drop (suc i) es)) (start_map (start_of net)) S whole.0
    (get_or es i d).ticket
    (subst (λ ts. run_map net (start_map (start_of net)) ts ≡ Some whole.0) (tickets_split es i d u) whole.1) led

-- The entry's step leads one place on.
pub led_on : (net : NetTree) (es : List Entry) (i : ℕ) (d : Entry) (S T : MapState) → i < length es →
    LeadsToMap net (tickets_in_log (take i es)) S → step_map net S (get_or es i d).ticket ≡ Some T →
    LeadsToMap net (tickets_in_log (take (i + 1) es)) T
led_on net es i d S T u led made =
    let next : i + 1 ≡ suc i = omega arith in
    subst (λ n. LeadsToMap net (tickets_in_log (take n es)) T) (sym next)
    (subst (λ ts. run_map net (start_map (start_of net)) ts ≡ Some T) (sym (tickets_more es i d u))
    (run_more net (tickets_in_log (take i es)) (start_map (start_of net)) S T (get_or es i d).ticket led made))

-- ---- lines

-- the lines of a state that steps
next_lines : (net : NetTree) (S T : MapState) (k : ℕ) (e : Entry) (es : List Entry) → step_map net S e.ticket ≡ Some T →
    lines_from net (seen S) k (e ∷ es) ≡ move_line net (seen S) k e.worker e.ticket ∷ lines_from net (seen T) (suc k) es
next_lines net S T k e es made =
    ap (λ o. move_line net (seen S) k e.worker e.ticket ∷ on_state o (λ U. lines_from net U (suc k) es))
    (sym (step_seen net S e.ticket) ∙ ap option_seen made)

-- the entries from one place to another, of which the first is at hand
window_starts : (es : List Entry) (i to : ℕ) (d : Entry) → i < to → to ≤ length es →
    take (to - i) (drop i es) ≡ get_or es i d ∷ take (to - (i + 1)) (drop (i + 1) es)
window_starts es i to d u w =
    let one : to - i ≡ suc (to - (i + 1)) = omega (arith, u) in
    let next : suc i ≡ i + 1 = omega arith in
    (λ j. take (one j) (drop-cons es i d (omega (arith, u, w)) j)) ∙ ap (λ n. get_or es i d ∷ take (to - (i + 1)) (drop n es)) next

-- One line more stands in the text.
pub line_on : (net : NetTree) (es : List Entry) (i to : ℕ) (d : Entry) (S T : MapState) (text new goal : List ℕ) → i < to → to ≤ length es →
    step_map net S (get_or es i d).ticket ≡ Some T →
    new ≡ text ++ move_line net (seen S) i (get_or es i d).worker (get_or es i d).ticket →
    text ++ concat (lines_from net (seen S) i (take (to - i) (drop i es))) ≡ goal →
    new ++ concat (lines_from net (seen T) (i + 1) (take (to - (i + 1)) (drop (i + 1) es))) ≡ goal
line_on net es i to d S T text new goal inside within made written whole =
    let entry : Entry = get_or es i d in
    let line : List ℕ = move_line net (seen S) i entry.worker entry.ticket in
    let more : List Entry = take (to - (i + 1)) (drop (i + 1) es) in
    let next : i + 1 ≡ suc i = omega arith in
    (λ j. written j ++ concat (lines_from net (seen T) (next j) more))
    ∙ append_assoc text line (concat (lines_from net (seen T) (suc i) more))
    ∙ ap (λ z. text ++ concat z)
    (sym (ap (lines_from net (seen S) i) (window_starts es i to d inside within) ∙ next_lines net S T i entry more made))
    ∙ whole

-- All lines stand in it.
pub lines_done : (net : NetTree) (es : List Entry) (i to : ℕ) (S : MapState) (text goal : List ℕ) → to ≤ i →
    text ++ concat (lines_from net (seen S) i (take (to - i) (drop i es))) ≡ goal → text ≡ goal
lines_done net es i to S text goal u g =
    let none : to - i ≡ 0 = omega (arith, u) in
    sym (append-nil text) ∙ ap (λ n. text ++ concat (lines_from net (seen S) i (take n (drop i es)))) (sym none) ∙ g

-- Live tickets of a reached state are below its next one.
pub low_here : (net : NetTree) (log : List ℕ) (S : MapState) → Runs net → LeadsToMap net log S → (i : ℕ) → IsLive S i → i < S.next
low_here net log S runs led i live = go (get S.tokens i) refl live
  where
    go : (o : Option TokenTree) → get S.tokens i ≡ o → IsSome o → i < S.next
    go None e h = absurd cc
    go (Some x) e h = map_low net runs.sound log S led i x e

pub low_reached : (net : NetTree) (n : ℕ) (S : MapState) (t : ℕ) → Runs net → IsReachedWithin net n S →
    IsSome (step_map net S t) → t < S.next
low_reached net n S t runs reached able = low_here net reached.0 S runs reached.1 t (able_live net S t able)
