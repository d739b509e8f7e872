-- Values and lengths of some programs by name and by value: what the same program costs in moves.
use Rattle.std.specs.Prelude.{ℕ}
use Rattle.pcf_values.specs.declared.val.Val.{Val}
use Rattle.pcf_values.specs.declared.val.Val.TheVariants.{Number}
use Rattle.pcf_values.specs.Terms.{TermTree, num}
use Rattle.net_build.specs.NetOf.{net_of}
use Rattle.adequacy_laws.specs.Questions.{Length}
use Rattle.cbv_terms.specs.Translation.{translated}
use Rattle.cbv_terms.specs.Examples.{unused_loop, sum_to_three}

-- the program's net has this value and length
abbrev pub Comes : TermTree → Val → ℕ → Type 0
Comes m v n = Length (net_of m) v n

pub record ExampleCallings : Type 0 where
  -- `4`
  pub number : Comes (translated (num 4)) (Number 4) 34
  -- `(fun x:nat. 7) ((fix f:nat->nat. fun n:nat. f n) 0)`, which has no value by value
  pub unused_by_name : Comes unused_loop (Number 7) 6
  -- `(fix f:nat->nat. fun n:nat. ifz n then 0 else n + f (pred n)) 3`
  pub summed_by_name : Comes sum_to_three (Number 6) 330
  pub summed_by_value : Comes (translated sum_to_three) (Number 6) 2376
