-- The parts of a job line are found where they are, and nowhere else.
use Rattle.std.proofs.Common.{◌≡◌, ℕ, ◌<◌, ◌≤◌, true, List, ◌++◌, refl, sym, ap, ◌∙◌, subst, arith}
use Rattle.std.specs.Prelude.{codes}
use Rattle.std.specs.Str.Parse.{digits_value}
use Rattle.text_lines.specs.Numbers.{Spells}
use Rattle.text_lines.specs.Digits.{behind, capped, digits_in, is_number}
use Rattle.text_lines.proofs.Numbers.{number_is, is_number_is, digits_first, behind_first, digits_behind}
use Rattle.batch_lists.specs.declared.line.BatchLine.{BatchLine}
use Rattle.batch_lists.specs.Limits.{most_job_budget}
use Rattle.batch_lists.specs.Lists.{IsJobLine}
use Rattle.batch_lists.specs.Scanning.{IsBudgetIn, IsNameIn}

module _ (bytes : List ℕ) (n : ℕ) (rest : List ℕ) (x : IsBudgetIn bytes n rest) where
  digits_are : digits_in bytes ≡ x.digits
  digits_are = ap digits_in x.bytes_are ∙ digits_first x.digits 32 rest x.spells.digits refl

  -- behind the digits stand the space and the rest
  pub space_behind : behind bytes ≡ codes " " ++ rest
  space_behind = ap behind x.bytes_are ∙ behind_first x.digits 32 rest x.spells.digits refl

  -- the bytes begin with a number
  pub number_there : is_number (digits_in bytes) ≡ true
  number_there = ap is_number digits_are ∙ is_number_is x.digits n x.spells

  -- and it is the budget
  pub value_there : (value : ℕ) → value ≡ capped (digits_value 10 (digits_in bytes)) → value ≡ n
  value_there value v =
      let e : digits_value 10 (digits_in bytes) ≡ n = ap (digits_value 10) digits_are ∙ x.spells.value in
      let k = v ∙ ap capped e in
      let few = x.few in
      omega (arith, k, few)

-- a number that is 0 or too great is no budget
pub no_budget_low : (bytes : List ℕ) (value : ℕ) → value ≡ capped (digits_value 10 (digits_in bytes)) → value ≡ 0 →
    (n : ℕ) (rest : List ℕ) → IsBudgetIn bytes n rest → ⊥
no_budget_low bytes value v e n rest x = let k = value_there bytes n rest x value v in let s = x.some in omega (arith, k, s, e)

pub no_budget_high : (bytes : List ℕ) (value : ℕ) → value ≡ capped (digits_value 10 (digits_in bytes)) → most_job_budget < value →
    (n : ℕ) (rest : List ℕ) → IsBudgetIn bytes n rest → ⊥
no_budget_high bytes value v l n rest x = let k = value_there bytes n rest x value v in let s = x.few in omega (arith, k, s, l)

-- any other with a space behind it is one
pub budget_is : (bytes more rest : List ℕ) (value : ℕ) → is_number (digits_in bytes) ≡ true →
    value ≡ capped (digits_value 10 (digits_in bytes)) → 1 ≤ value → value ≤ most_job_budget →
    more ≡ behind bytes → more ≡ codes " " ++ rest → IsBudgetIn bytes value rest
budget_is bytes more rest value told v some few m s =
    let e : digits_value 10 (digits_in bytes) ≡ value = omega (arith, v, few) in
    record {
      digits = digits_in bytes;
      spells = subst (λ n. Spells (digits_in bytes) n) e (number_is bytes told);
      some = some;
      few = few;
      bytes_are = sym (digits_behind bytes) ∙ ap (λ t. digits_in bytes ++ t) (sym m ∙ s);
    }

same_behind : (a b : List ℕ) → codes "job " ++ a ≡ codes "job " ++ b → a ≡ b
same_behind a b h = cc

same_space : (a b : List ℕ) → codes " " ++ a ≡ codes " " ++ b → a ≡ b
same_space a b h = cc

module _ (line rest : List ℕ) (begins : line ≡ codes "job " ++ rest) (job : BatchLine) (x : IsJobLine line job) where
  -- behind `job` stands the job's budget
  pub job_budget : IsBudgetIn rest job.budget (job.file ++ codes "\n")
  job_budget = record {
    digits = x.digits;
    spells = x.budget;
    some = x.some;
    few = x.few;
    bytes_are = same_behind rest (x.digits ++ (codes " " ++ (job.file ++ codes "\n"))) (sym begins ∙ x.line);
  }

  -- and behind that its name
  pub job_name : (n : ℕ) (more : List ℕ) → IsBudgetIn rest n more → IsNameIn more job.file
  job_name n more y = record {
    named = x.named;
    text = x.text;
    bytes_are =
        same_space more (job.file ++ codes "\n") (sym (space_behind rest n more y)
        ∙ space_behind rest job.budget (job.file ++ codes "\n") job_budget);
  }
