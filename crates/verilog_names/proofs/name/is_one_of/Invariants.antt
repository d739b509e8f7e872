use Rattle.std.proofs.Common.{◌≡◌, drop, map}
use Rattle.verilog_names.specs.Name.{is_one_of}
use Rattle.verilog_names.proofs.name.is_one_of.Given as goal

abbrev pub invariant-loop-word : goal.invariant-loop-word
invariant-loop-word l =
    is_one_of l.name (map (λ w. w.now) (drop l.word-index l.words)) ≡ is_one_of l.name (map (λ w. w.now) l.fn.words)
