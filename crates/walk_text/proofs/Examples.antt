-- Whole traces from the start of a run, over states that compute.
use Rattle.std.proofs.Common.{◌≡◌, ℕ, List, [], ◌++◌, take, refl, sym, ap, ◌∙◌, arith}
use Rattle.std.proofs.Common.{◌+◌, ◌<◌, ◌^◌, map}
use Rattle.std.specs.Prelude.{decimal}
use Rattle.std.specs.Int.Digits.{digits_of}
use Rattle.std.proofs.lemmas.Fmt.{decimal_digit, decimal-digits_of}
use Rattle.std.specs.Prelude.{codes}
use Rattle.std.specs.List.{concat}
use Rattle.std.specs.FinMap as maps
use Rattle.std.proofs.lemmas.List.{nil_from_length}
use Rattle.net_build.specs.Nets.{NetTree}
use Rattle.net_build.specs.Example.{doubled_net}
use Rattle.interleave_laws.specs.Start.{start_of}
use Rattle.interleave_laws.specs.States.{State, start}
use Rattle.interleave_laws.specs.Maps.{start_map, seen}
use Rattle.interleave_laws.proofs.Seen.{start_seen}
use Rattle.schedule_log.specs.declared.entry.Entry.{Entry}
use Rattle.fork_join.specs.Entries.{Entry as Kept, key_cmp}
use Rattle.walk_text.specs.Traces.{lines_from, live_lines, open_lines, trace_text}
use Rattle.walk_text.specs.Rows.{ExampleTraces, moves, succ_net, sum_net, succ_text, doubled_text, sum_text}

-- a trace from the start of a run, over a state of functions
abbrev pub from_start : NetTree → State → List Entry → ℕ → List ℕ
from_start net S log most =
    codes "trace 1\n" ++ (((live_lines S.tokens 0 1 ++ []) ++ concat (lines_from net S 0 (take most log))) ++ codes "end\n")

-- no entry is open at the start
nothing_open : maps.entries (maps.empty {X = Kept} {R = key_cmp}) ≡ []
nothing_open = nil_from_length (maps.entries maps.empty) (sym (maps.len-entries maps.empty) ∙ maps.len-empty key_cmp Kept)

pub starts : (net : NetTree) (log : List Entry) (most : ℕ) → trace_text net log 0 most ≡ from_start net (start (start_of net)) log most
starts net log most =
    ap (λ es. codes "trace 1\n" ++ (((live_lines (seen (start_map (start_of net))).tokens 0 1 ++ open_lines es)
    ++ concat (lines_from net (seen (start_map (start_of net))) 0 (take most log))) ++ codes "end\n")) nothing_open
    ∙ ap (λ S. codes "trace 1\n" ++ (((live_lines S.tokens 0 1 ++ []) ++ concat (lines_from net S 0 (take most log))) ++ codes "end\n"))
    (start_seen (start_of net))

-- a trace of states that compute
succ_case : from_start succ_net (start (start_of succ_net)) (moves 4 0 []) 100000 ≡ succ_text
succ_case =
    let zero = decimal_digit 0 (omega arith) in
    let one = decimal_digit 1 (omega arith) in
    let two = decimal_digit 2 (omega arith) in
    let three = decimal_digit 3 (omega arith) in
    let four = decimal_digit 4 (omega arith) in
    let five = decimal_digit 5 (omega arith) in
    rw (zero, one, two, three, four, five) refl

sum_case : from_start sum_net (start (start_of sum_net)) (moves 1 0 (moves 2 1 (moves 3 0 []))) 100000 ≡ sum_text
sum_case =
    let zero = decimal_digit 0 (omega arith) in
    let one = decimal_digit 1 (omega arith) in
    let two = decimal_digit 2 (omega arith) in
    let three = decimal_digit 3 (omega arith) in
    let four = decimal_digit 4 (omega arith) in
    let five = decimal_digit 5 (omega arith) in
    rw (zero, one, two, three, four, five) refl

-- a number of several digits
tens : (n : ℕ) → 0 < n → n < 2 ^ 64 → decimal n ≡ map (λ d. 48 + d) (digits_of 10 n)
tens n = decimal-digits_of n

-- and one of states with numbers of several digits
doubled_case : from_start doubled_net (start (start_of doubled_net)) (moves 15 0 (moves 15 1 [])) 100000 ≡ doubled_text
doubled_case =
    let zero = decimal_digit 0 (omega arith) in
    let one = decimal_digit 1 (omega arith) in
    let two = decimal_digit 2 (omega arith) in
    let three = decimal_digit 3 (omega arith) in
    let four = decimal_digit 4 (omega arith) in
    let five = decimal_digit 5 (omega arith) in
    let six = decimal_digit 6 (omega arith) in
    let seven = decimal_digit 7 (omega arith) in
    let eight = decimal_digit 8 (omega arith) in
    let nine = decimal_digit 9 (omega arith) in
    rw (
      zero,
      one,
      two,
      three,
      four,
      five,
      six,
      seven,
      eight,
      nine,
      tens 10 (omega arith) (omega arith),
      tens 11 (omega arith) (omega arith),
      tens 12 (omega arith) (omega arith),
      tens 13 (omega arith) (omega arith),
      tens 14 (omega arith) (omega arith),
      tens 15 (omega arith) (omega arith),
      tens 16 (omega arith) (omega arith),
      tens 17 (omega arith) (omega arith),
      tens 18 (omega arith) (omega arith),
      tens 19 (omega arith) (omega arith),
      tens 20 (omega arith) (omega arith),
      tens 21 (omega arith) (omega arith),
      tens 22 (omega arith) (omega arith),
      tens 23 (omega arith) (omega arith),
      tens 24 (omega arith) (omega arith),
      tens 25 (omega arith) (omega arith),
      tens 26 (omega arith) (omega arith),
      tens 27 (omega arith) (omega arith),
      tens 28 (omega arith) (omega arith),
      tens 29 (omega arith) (omega arith),
    ) refl

pub example_traces : ExampleTraces
example_traces = record {
  succ = starts succ_net (moves 4 0 []) 100000 ∙ succ_case;
  doubled = starts doubled_net (moves 15 0 (moves 15 1 [])) 100000 ∙ doubled_case;
  sum = starts sum_net (moves 1 0 (moves 2 1 (moves 3 0 []))) 100000 ∙ sum_case;
}
