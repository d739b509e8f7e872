use Rattle.std.proofs.Common.{◌≡◌, Some, map, take}
use Rattle.goi_words.specs.Asked.{wide_numbers_in}
use Rattle.goi_words.proofs.reading.wide_numbers_in.Given as goal

abbrev pub invariant-loop-text : goal.invariant-loop-text
invariant-loop-text l = wide_numbers_in (map (λ s. s.now) (take l.text-index l.texts)) ≡ Some l.numbers.items
