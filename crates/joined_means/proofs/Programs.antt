-- A program is a function without arguments.
use Rattle.std.proofs.Common.{◌≡◌, ◌⊎◌, ℕ, zero, suc, [], length, refl, ap, subst}
use Rattle.net_build.specs.NetOf.{net_of}
use Rattle.joined_numbers.specs.At.{number_at}
use Rattle.joined_means.specs.Laws.{AtPorts, RunTells, RunTimes, no_arguments, program_call, ProgramModule, ProgramTimes, ProgramFits}
use Rattle.joined_means.proofs.Tells.{function_tells, function_times, function_fits}

none_long : (n : ℕ) → length (no_arguments n) ≡ n
none_long zero = refl
none_long (suc n) = ap suc (none_long n)

none_at : (n : ℕ) → AtPorts 0 (no_arguments n)
none_at zero = tt
none_at (suc n) = (refl, none_at n)

pub program_tells : ProgramModule
program_tells m h sites entries z runs S strays n =
    subst (λ k. ((program_call m sites entries z S strays n).vec "full" ≡ 1)
    ⊎ (((program_call m sites entries z S strays n).vec "full" ≡ 0) × RunTells m k (program_call m sites entries z S strays n)))
    (none_long n) (function_tells m [] [] h refl tt tt sites entries z runs S strays (no_arguments n) (none_at n))

pub program_times : ProgramTimes
program_times m h sites entries z runs S strays n =
    subst (λ k. RunTimes (number_at []) z (net_of m) sites entries k (program_call m sites entries z S strays n)) (none_long n)
    (function_times m [] [] h refl tt tt sites entries z runs S strays (no_arguments n) (none_at n))

pub program_fits : ProgramFits
program_fits m h sites entries z runs mem v l long ready cells forks S strays n =
    function_fits m [] [] h refl tt tt sites entries z runs mem v l long ready cells forks S strays (no_arguments n) (none_at n)
