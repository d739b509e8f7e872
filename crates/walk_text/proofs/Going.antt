-- The lines of a log part where the log does, and a window is a part of them.
use Rattle.std.proofs.Common.{◌≡◌, ℕ, zero, suc, ◌+◌, List, [], ◌∷◌, ◌++◌, length, take, drop, Option, Some, None}
use Rattle.std.proofs.Common.{refl, sym, ap, ◌∙◌, arith}
use Rattle.std.specs.Prelude.{codes}
use Rattle.std.specs.List.{concat}
use Rattle.std.proofs.lemmas.Option.{same_Some}
use Rattle.net_build.specs.Nets.{NetTree}
use Rattle.interleave_laws.specs.Start.{start_of}
use Rattle.interleave_laws.specs.States.{State, start, step, run, then_run}
use Rattle.interleave_laws.specs.Maps.{seen}
use Rattle.interleave_laws.proofs.MapLaws.{seen_leads}
use Rattle.schedule_log.specs.declared.entry.Entry.{Entry}
use Rattle.schedule_log.specs.Logs.{tickets_in_log}
use Rattle.walk_text.specs.Lines.{move_line}
use Rattle.walk_text.specs.Traces.{on_state, lines_from, head_text, window_at}
use Rattle.walk_text.specs.Whole.{move_lines}
use Rattle.walk_text.specs.Laws.{LineIsState, LineForEach, WindowIsPart}

lines_at : (net : NetTree) (S : State) (k j : ℕ) (es : List Entry) → k ≡ j → lines_from net S k es ≡ lines_from net S j es
lines_at net S k j es e = ap (λ k. lines_from net S k es) e

-- The lines of a log are those of its first moves, and then those of the rest from the state to which the first moves lead.
pub goes_on : (net : NetTree) (S T : State) (k : ℕ) (es fs : List Entry) → run net S (tickets_in_log es) ≡ Some T →
    lines_from net S k (es ++ fs) ≡ lines_from net S k es ++ lines_from net T (length es + k) fs
goes_on net S T k [] fs led =
    let same : S ≡ T = same_Some S T led in
    ap (λ U. lines_from net U k fs) same ∙ lines_at net T k (0 + k) fs (omega arith)
goes_on net S T k (e ∷ es) fs led = go (step net S e.ticket) (λ U. goes_on net U T (suc k) es fs) led
  where
    go : (o : Option State) → ((U : State) → run net U (tickets_in_log es) ≡ Some T →
        lines_from net U (suc k) (es ++ fs) ≡ lines_from net U (suc k) es ++ lines_from net T (length es + suc k) fs) →
        then_run o (λ U. run net U (tickets_in_log es)) ≡ Some T →
        move_line net S k e.worker e.ticket ∷ on_state o (λ U. lines_from net U (suc k) (es ++ fs))
        ≡ (move_line net S k e.worker e.ticket ∷ on_state o (λ U. lines_from net U (suc k) es)) ++ lines_from net T (suc (length es) + k) fs
    go None f h = absurd (none h)
      where
        none : (None ≡ Some T) → ⊥
        none h = cc
    go (Some U) f h = ap (λ r. move_line net S k e.worker e.ticket ∷ r)
        (f U h ∙ ap (λ r. lines_from net U (suc k) es ++ r) (lines_at net T (length es + suc k) (suc (length es) + k) fs (omega arith)))

-- A log that leads to a state has a line for each entry.
pub line_for_each : (net : NetTree) (S T : State) (k : ℕ) (es : List Entry) → run net S (tickets_in_log es) ≡ Some T →
    length (lines_from net S k es) ≡ length es
line_for_each net S T k [] led = refl
line_for_each net S T k (e ∷ es) led = go (step net S e.ticket) (λ U. line_for_each net U T (suc k) es) led
  where
    go : (o : Option State) → ((U : State) → run net U (tickets_in_log es) ≡ Some T → length (lines_from net U (suc k) es) ≡ length es) →
        then_run o (λ U. run net U (tickets_in_log es)) ≡ Some T →
        suc (length (on_state o (λ U. lines_from net U (suc k) es))) ≡ suc (length es)
    go None f h = absurd (none h)
      where
        none : (None ≡ Some T) → ⊥
        none h = cc
    go (Some U) f h = ap suc (f U h)

pub each_line : LineForEach
each_line net S log led = line_for_each net (start (start_of net)) S 0 log led

pub line_is_state : LineIsState
line_is_state net T es fs e led = record {
  before = move_lines net es;
  behind = on_state (step net T e.ticket) (λ U. lines_from net U (suc (length es + 0)) fs);
  are = goes_on net (start (start_of net)) T 0 es (e ∷ fs) led
      ∙ ap (λ k. move_lines net es ++ move_line net T k e.worker e.ticket
      ∷ on_state (step net T e.ticket) (λ U. lines_from net U (suc (length es + 0)) fs)) (omega arith);
  at = line_for_each net (start (start_of net)) T 0 es led;
}

-- ---- windows

take_none : (n : ℕ) → take {A = List ℕ} n [] ≡ []
take_none zero = refl
take_none (suc n) = refl

-- the first so many lines are the lines of the first so many entries
first_lines : (net : NetTree) (S : State) (k n : ℕ) (es : List Entry) → lines_from net S k (take n es) ≡ take n (lines_from net S k es)
first_lines net S k zero es = refl
first_lines net S k (suc n) [] = refl
first_lines net S k (suc n) (e ∷ es) =
    ap (λ r. move_line net S k e.worker e.ticket ∷ r) (go (step net S e.ticket) (λ U. first_lines net U (suc k) n es))
  where
    go : (o : Option State) → ((U : State) → lines_from net U (suc k) (take n es) ≡ take n (lines_from net U (suc k) es)) →
        on_state o (λ U. lines_from net U (suc k) (take n es)) ≡ take n (on_state o (λ U. lines_from net U (suc k) es))
    go None f = sym (take_none n)
    go (Some U) f = f U

-- and the lines behind them are those of the other entries, from the state to which the first ones lead
later_lines : (net : NetTree) (S T : State) (k n : ℕ) (es : List Entry) → run net S (tickets_in_log (take n es)) ≡ Some T →
    lines_from net T (n + k) (drop n es) ≡ drop n (lines_from net S k es)
later_lines net S T k zero es led = lines_at net T (0 + k) k es (omega arith) ∙ ap (λ U. lines_from net U k es) (sym (same_Some S T led))
later_lines net S T k (suc n) [] led = refl
later_lines net S T k (suc n) (e ∷ es) led = go (step net S e.ticket) (λ U. later_lines net U T (suc k) n es) led
  where
    go : (o : Option State) → ((U : State) → run net U (tickets_in_log (take n es)) ≡ Some T →
        lines_from net T (n + suc k) (drop n es) ≡ drop n (lines_from net U (suc k) es)) →
        then_run o (λ U. run net U (tickets_in_log (take n es))) ≡ Some T →
        lines_from net T (suc n + k) (drop n es) ≡ drop n (on_state o (λ U. lines_from net U (suc k) es))
    go None f h = absurd (none h)
      where
        none : (None ≡ Some T) → ⊥
        none h = cc
    go (Some U) f h = lines_at net T (suc n + k) (n + suc k) (drop n es) (omega arith) ∙ f U h

pub window_is_part : WindowIsPart
window_is_part net log from most S led =
    ap (λ o. codes "trace 1\n" ++ (window_at net o from (take most (drop from log)) ++ codes "end\n")) led
    ∙ ap (λ ls. codes "trace 1\n" ++ ((head_text S ++ concat ls) ++ codes "end\n"))
    (first_lines net (seen S) from most (drop from log)
    ∙ ap (take most)
    (lines_at net (seen S) from (from + 0) (drop from log) (omega arith)
    ∙ later_lines net (start (start_of net)) (seen S) 0 from log (seen_leads net (tickets_in_log (take from log)) S led)))
