-- What a step does with the values that terms spell.
-- No number can say that a sum lies past 2 ^ 64 - 1, and no new word is made for it: the term that asks for the next of a number
-- where there is none is left as it stands, and spells overflow. So what a step comes to is again a program of the language.
use Rattle.std.specs.Prelude.{Option, Some, None}
use Rattle.pcf_values.specs.declared.val.Val.{Val}
use Rattle.pcf_values.specs.declared.val.Val.TheVariants.{Number, Overflow}

-- overflow alone
abbrev pub past : Val → Option Val
past (Number n) = None
past Overflow = Some Overflow

-- go on with the value that is spelled, and otherwise with what stands last
abbrev pub on_spelled : {A : Type 0} → Option Val → (Val → Option A) → Option A → Option A
on_spelled None f o = o
on_spelled (Some v) f o = f v
