-- What holds of traces.
use Rattle.std.specs.Prelude.{◌≡◌, ◌≢◌, ℕ, List, [], ◌∷◌, ◌++◌, length, take, drop, Some, codes}
use Rattle.std.specs.List.{concat}
use Rattle.pcf_values.specs.declared.val.Val.{Val}
use Rattle.net_build.specs.declared.node.Node.{Node}
use Rattle.net_build.specs.declared.node.Node.TheVariants.{Root}
use Rattle.net_build.specs.Nets.{NetTree}
use Rattle.net_build.specs.Sound.{Sound}
use Rattle.move_rules.specs.Places.{TokenTree}
use Rattle.token_stacks.specs.Texts.{boxes_text}
use Rattle.interleave_laws.specs.States.{State, step}
use Rattle.interleave_laws.specs.Runs.{LeadsTo}
use Rattle.interleave_laws.specs.Maps.{MapState, LeadsToMap}
use Rattle.schedule_log.specs.declared.entry.Entry.{Entry}
use Rattle.schedule_log.specs.Logs.{tickets_in_log}
use Rattle.walk_text.specs.Lines.{val_text, token_text, came, line_text, move_line}
use Rattle.walk_text.specs.Traces.{head_text, trace_text}
use Rattle.walk_text.specs.Whole.{move_lines}

-- The lines have this one behind so many others.
pub record HasLine (lines : List (List ℕ)) (k : ℕ) (line : List ℕ) : Type 0 where
  pub before : List (List ℕ)
  pub behind : List (List ℕ)
  pub are : lines ≡ before ++ line ∷ behind
  pub at : length before ≡ k

-- Line K of a log is the line of entry K in the state to which the first K entries lead.
abbrev pub LineIsState : Type 0
LineIsState = (net : NetTree) (T : State) (es fs : List Entry) (e : Entry) → LeadsTo net (tickets_in_log es) T →
    HasLine (move_lines net (es ++ e ∷ fs)) (length es) (move_line net T (length es) e.worker e.ticket)

-- A ticket that has a step has a line.
abbrev pub StepHasLine : Type 0
StepHasLine = (net : NetTree) (S T : State) (k worker ticket : ℕ) → step net S ticket ≡ Some T → move_line net S k worker ticket ≢ []

-- A log that leads to a state has a line for each entry.
abbrev pub LineForEach : Type 0
LineForEach = (net : NetTree) (S : State) (log : List Entry) → LeadsTo net (tickets_in_log log) S → length (move_lines net log) ≡ length log

-- A trace with a window is that part of the lines of the whole log, with the live tokens and the open entries of its state at its head.
abbrev pub WindowIsPart : Type 0
WindowIsPart = (net : NetTree) (log : List Entry) (from most : ℕ) (S : MapState) → LeadsToMap net (tickets_in_log (take from log)) S →
    trace_text net log from most
    ≡ codes "trace 1\n" ++ ((head_text S ++ concat (take most (drop from (move_lines net log)))) ++ codes "end\n")

-- the line of a move at the root, with this answer, of a token that came down the root's wire
abbrev pub answer_line : (k worker ticket number : ℕ) → Node → TokenTree → Val → List ℕ
answer_line k worker ticket number n x v =
    line_text k worker ticket number n (codes "value") (came (codes "-") (token_text boxes_text x) (codes "answer " ++ val_text v))

-- The last of these lines is a move at the root with this answer.
pub record EndsAtRoot (lines : List (List ℕ)) (v : Val) : Type 0 where
  pub before : List (List ℕ)
  pub worker : ℕ
  pub ticket : ℕ
  pub number : ℕ
  pub wire : ℕ
  pub token : TokenTree
  pub are : lines ≡ before ++ answer_line (length before) worker ticket number (Root wire) token v ∷ []

-- The last line of the whole log of a run that has an answer is the move at the root, with that answer.
abbrev pub AnswerEnds : Type 0
AnswerEnds = (net : NetTree) → Sound net → (log : List Entry) (S : State) (v : Val) →
    LeadsTo net (tickets_in_log log) S → S.answered ≡ Some v → EndsAtRoot (move_lines net log) v
