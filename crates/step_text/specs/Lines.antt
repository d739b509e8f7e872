-- The line of one step: its place in the reduction, the rule, the part that is rewritten, as bytes of the term, and the term.
use Rattle.std.specs.Prelude.{ℕ, suc, ◌-◌, Bool, false, nat_le, List, [], ◌++◌, length, Option, None, Some, codes, decimal, if◌then◌else◌}
use Rattle.pcf_values.specs.declared.operator.Operator.{Operator}
use Rattle.pcf_values.specs.declared.operator.Operator.TheVariants.{Plus, Minus, Times}
use Rattle.pcf_values.specs.declared.side.Side.TheVariants.{Left, Right}
use Rattle.pcf_values.specs.Named.{the_succ, the_pred, the_part, the_fix, NamedTree, word_at}
use Rattle.pcf_values.specs.Named.{binary_at, ifz_at, bind_at, apply_at}
use Rattle.pcf_reader.specs.Printed.{term_text}
use Rattle.term_steps.specs.Redex.{redex}

-- the name of an operator's rule
abbrev pub operator_rule : Operator → List ℕ
operator_rule Plus = codes "plus"
operator_rule Minus = codes "minus"
operator_rule Times = codes "times"

-- the name of the rule that rewrites the part; numbers, names, pairs and functions alone are never rewritten
abbrev pub rule_text : NamedTree → List ℕ
rule_text (bind_at _ the_fix _ _ _) = codes "fix"
rule_text (apply_at _ _ _) = codes "fun"
rule_text (word_at _ (the_part Left) _) = codes "fst"
rule_text (word_at _ (the_part Right) _) = codes "snd"
rule_text (word_at _ the_succ _) = codes "succ"
rule_text (word_at _ the_pred _) = codes "pred"
rule_text (binary_at _ o _ _) = operator_rule o
rule_text (ifz_at _ _ _ _) = codes "ifz"
rule_text _ = []

-- a number and the space behind it
abbrev pub spaced : ℕ → List ℕ
spaced n = decimal n ++ codes " "

-- the line of step k of the term t, whose part r.1 is rewritten and stands behind the text r.0
abbrev pub marked_line : ℕ → NamedTree → List ℕ × NamedTree → List ℕ
marked_line k t r = codes "step " ++ (spaced k ++ (rule_text r.1 ++ (codes " " ++ (spaced (length r.0) ++
    (spaced (length (r.0 ++ term_text r.1)) ++ (term_text t ++ codes "\n"))))))

abbrev pub on_mark : Option (List ℕ × NamedTree) → (List ℕ × NamedTree → List ℕ) → List ℕ
on_mark None f = []
on_mark (Some r) f = f r

-- the line of step k of the term
abbrev pub step_line : ℕ → NamedTree → List ℕ
step_line k t = on_mark (redex t) (marked_line k t)

-- step k is asked for: it is one of so many from a place on
abbrev pub asked : (from most k : ℕ) → Bool
asked from most k = if nat_le from k then nat_le (suc (k - from)) most else false

-- its line, where it is asked for
abbrev pub line_in : (from most k : ℕ) → NamedTree → List ℕ
line_in from most k t = if asked from most k then step_line k t else []
