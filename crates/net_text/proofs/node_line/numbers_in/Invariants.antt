use Rattle.std.proofs.Common.{◌≡◌, ◌-◌}
use Rattle.net_text.specs.NodeText.{numbers_in}
use Rattle.net_text.specs.Scanning.{words_among, words_behind}
use Rattle.net_text.proofs.node_line.numbers_in.Given as goal

abbrev pub invariant-loop-i : goal.invariant-loop-i
invariant-loop-i l = words_behind l.numbers.items (words_among (numbers_in (l.count - l._i) l.rest)) ≡ words_among
    (numbers_in l.count l.text)
