-- What a run came to, as numbers.
use Rattle.std.specs.Prelude.{◌≡◌, ◌<◌, ℕ, List, [], ◌∷◌, length, get_or, Option, None, Some, nat_eq, if◌then◌else◌}
use Rattle.pcf_values.specs.declared.val.Val.{Val}
use Rattle.pcf_values.specs.declared.val.Val.TheVariants.{Number, Overflow}
use Rattle.goi_tasks.specs.declared.answer.Answer.{Answer}

-- the answer in numbers: the kind is 0 for none, 1 for a number and 2 for overflow
abbrev pub AnswerIs : Option Val → ℕ → Answer → Type 0
AnswerIs None moves a = (a.kind ≡ 0) × (a.value ≡ 0) × (a.moves ≡ moves)
AnswerIs (Some (Number n)) moves a = (a.kind ≡ 1) × (a.value ≡ n) × (a.moves ≡ moves)
AnswerIs (Some Overflow) moves a = (a.kind ≡ 2) × (a.value ≡ 0) × (a.moves ≡ moves)

-- there is no answer
abbrev pub TellsNone : List Answer → Type 0
TellsNone answers = (i : ℕ) (d : Answer) → i < length answers → AnswerIs None 0 (get_or answers i d)

-- the status of answers: 0 where each has a value, and else 5
abbrev pub rows_status : List Answer → ℕ
rows_status [] = 0
rows_status (a ∷ rest) = if nat_eq a.kind 0 then 5 else rows_status rest
