-- Why what is given back of a function's rows is what the call promises.
use Rattle.std.proofs.Common.{◌≡◌, ◌⊎◌, ◌≢◌, ℕ, Bool, true, false, List, [], ◌∷◌, cond, refl, sym, ◌∙◌, subst, arith}
use Rattle.std.proofs.Common.{Result, Ok, Err, OnOk, OnErr, ap, inl, inr}
use Rattle.std.specs.Prelude.{nat_eq}
use Rattle.std.specs.declared.alloc.AllocError.{AllocError}
use Rattle.pcf_values.specs.Terms.{TermTree}
use Rattle.program_runs.specs.declared.fault.ProgramFault.{ProgramFault}
use Rattle.function_runs.specs.Functions.{CompilesText, FaultyFunction}
use Rattle.function_runs.specs.Laws.{OneFunction}
use Rattle.goi_tasks.specs.declared.fault.Fault.TheVariants.{Program}
use Rattle.goi_tasks.specs.declared.stop.Stop.TheVariants as stop
use Rattle.goi_tasks.specs.declared.answer.Answer.{Answer}
use Rattle.goi_tasks.specs.Backs.{Back, Gives, Nothing}
use Rattle.goi_tasks.specs.Giving.{OfStop}
use Rattle.goi_tasks.specs.Numbers.{TellsNone, rows_status}
use Rattle.goi_c.specs.Calls.{HasRoom}
use Rattle.goi_c.specs.Giving.{IsToldBy}
use Rattle.goi_c.specs.Rows.{TellsEach, ran, refused, no_memory, TellsRows, OwnsEach}

-- the status of answers is that of a run
pub run_status : (answers : List Answer) → (rows_status answers ≡ 0) ⊎ (rows_status answers ≡ 5)
run_status [] = inl refl
run_status (a ∷ rest) = either (nat_eq a.kind 0) (rows_status rest) (run_status rest)
  where
    either : (b : Bool) (n : ℕ) → (n ≡ 0) ⊎ (n ≡ 5) → (cond b 5 n ≡ 0) ⊎ (cond b 5 n ≡ 5)
    either true n h = inr refl
    either false n h = h

-- what came of all rows, with the status of all: the answers as they were told, or none
pub settled : {A : Type 0} → (f : TermTree × ℕ) (budget : ℕ) (values : List ℕ) (told : Result A AllocError) (status : ℕ)
    (before after : List Answer) → OnOk told (TellsRows f.0 f.1 budget values before) →
    OnOk told ((after ≡ before) × (status ≡ rows_status before)) → OnErr told (TellsNone after × (status ≡ 6)) →
    IsToldBy f budget values status after
settled f budget values (Ok x) status before after rows (same, e) none =
    inl (subst (λ a. TellsRows f.0 f.1 budget values a) (sym same) rows, e ∙ ap rows_status (sym same))
settled f budget values (Err x) status before after rows kept none = inr none

-- a compiled function takes as many numbers as it was compiled for
takes_so_many : (n : ℕ) (bytes : List ℕ) (f : TermTree × ℕ) → CompilesText bytes n f → f.1 ≡ n
takes_so_many n bytes f (tree, text, h) = h.takes

module _ (n budget : ℕ) (values bytes : List ℕ) (answers : List Answer) (b : Back) where
  -- what a function came to at its rows
  pub told_each : (f : TermTree × ℕ) → CompilesText bytes n f → (status : ℕ) → IsToldBy f budget values status answers → Nothing status b →
      TellsEach n budget values bytes answers b
  told_each f h status (inl (rows, e)) back =
      ran f h (subst (λ k. TellsRows f.0 k budget values answers) (takes_so_many n bytes f h) rows) (subst (λ s. Nothing s b) e back)
  told_each f h status (inr (none, e)) back = no_memory none (subst (λ s. Nothing s b) e back)

  -- a fault of a text that is no such function
  pub fault_told : (f : ProgramFault) → FaultyFunction n bytes f → TellsNone answers → OfStop (stop.Fault (Program f)) b →
      TellsEach n budget values bytes answers b
  fault_told f h none (inl (line, is, gives)) = refused f line h is none gives
  fault_told f h none (inr nothing) = no_memory none nothing

  -- so it ends with its own status, but for room and memory
  pub owned_each : OneFunction → TellsEach n budget values bytes answers b → OwnsEach n bytes b
  owned_each law (ran f h rows back) = record {
    done = λ g k. by_status (run_status answers);
    refused = λ g k. absurd (law.not_both n bytes f g h k);
  }
    where
      by_status : (rows_status answers ≡ 0) ⊎ (rows_status answers ≡ 5) → (b.status ≡ 0) ⊎ (b.status ≡ 5) ⊎ (b.status ≡ 6)
      by_status (inl e) = inl (back.status_is ∙ e)
      by_status (inr e) = inr (inl (back.status_is ∙ e))
  owned_each law (refused f line h is none g) = record {
    done = λ k c. absurd (law.not_both n bytes k f c h);
    refused = λ x k. given g;
  }
    where
      given : Gives 1 line b → (b.status ≡ 1) ⊎ (b.status ≡ 4) ⊎ (b.status ≡ 6)
      given (inl p) = inl p.status_is
      given (inr p) = inr (inl p.status_is)
  owned_each law (no_memory none back) =
      record { done = λ f h. inr (inr back.status_is); refused = λ f h. inr (inr back.status_is) }

  -- and finds room for a line
  pub each_fits : TellsEach n budget values bytes answers b → HasRoom b
  each_fits (ran f h rows back) room = not_four (run_status answers)
    where
      not_four : (rows_status answers ≡ 0) ⊎ (rows_status answers ≡ 5) → b.status ≢ 4
      not_four (inl e) = λ f. (let s = back.status_is in omega (arith, s, e, f))
      not_four (inr e) = λ f. (let s = back.status_is in omega (arith, s, e, f))
  each_fits (refused f line h is none (inl p)) room = λ f. (let s = p.status_is in omega (arith, s, f))
  each_fits (refused f line h is none (inr p)) room = λ f. (let l = p.lacks in let m = is.short in omega (arith, l, m, room))
  each_fits (no_memory none back) room = λ f. (let s = back.status_is in omega (arith, s, f))
