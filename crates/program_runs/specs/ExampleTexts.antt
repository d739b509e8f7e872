-- What some texts mean: from the bytes of a program to its value.
-- Between them stand the reader, names and types, and the meaning of terms. If two words or two signs were exchanged in any of them, in
-- definition, printer and code together, a text here would mean another value.
use Rattle.std.specs.Prelude.{ℕ, List, codes}
use Rattle.pcf_values.specs.declared.val.Val.{Val}
use Rattle.pcf_values.specs.declared.val.Val.TheVariants.{Number, Overflow}
use Rattle.cbn_meaning.specs.Meaning.{Means}
use Rattle.program_runs.specs.Programs.{OfGround}

-- the text is a program of type `nat`, and means this value
abbrev pub Says : List ℕ → Val → Type 0
Says bytes v = OfGround bytes (λ t. Means t v)

pub record ExampleTexts : Type 0 where
  pub successor : Says (codes "succ 4") (Number 5)
  pub predecessor : Says (codes "pred 4") (Number 3)
  pub predecessor_of_zero : Says (codes "pred 0") (Number 0)
  pub left_part : Says (codes "fst (1, 2)") (Number 1)
  pub right_part : Says (codes "snd (1, 2)") (Number 2)
  pub of_zero : Says (codes "ifz 0 then 1 else 2") (Number 1)
  pub of_more : Says (codes "ifz 3 then 1 else 2") (Number 2)
  pub minus : Says (codes "7 - 2 - 1") (Number 4)
  pub below_zero : Says (codes "3 - 5") (Number 0)
  pub plus_times : Says (codes "2 + 3 * 4") (Number 14)
  pub too_large : Says (codes "18446744073709551615 + 1") Overflow
  -- the first argument is the outer binder's, and a name is its nearest binder's
  pub arguments : Says (codes "(fun a:nat. fun b:nat. a - b) 7 2") (Number 5)
  pub nearest : Says (codes "(fun x:nat. fun x:nat. x) 7 2") (Number 2)
  pub function : Says (codes "(fun f:(nat -> nat) * nat. fst f (snd f)) (fun x:nat. succ x, 2)") (Number 3)
  pub summed : Says (codes "(fix f:nat -> nat. fun n:nat. ifz n then 0 else n + f (pred n)) 3 # to 0\n") (Number 6)
