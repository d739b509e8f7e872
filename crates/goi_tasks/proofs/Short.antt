-- How long the lines of refusals are, and the reports of runs that tell neither schedule nor tally.
use Rattle.std.proofs.Common.{ℕ, ◌^◌, ◌<◌, ◌≤◌, List, ◌++◌, length, codes, decimal, arith, length-append}
use Rattle.std.proofs.lemmas.Fmt.{length-decimal-le}
use Rattle.goi_tasks.specs.Refusals.{most_line, plain_line, placed_line, inner_line, ticket_line}

-- a short name makes a short line
pub plain_short : (name : List ℕ) → length name ≤ 20 → length (plain_line name) ≤ most_line
plain_short name h = omega (arith, h, length-append (codes "refused: ") (name ++ codes "\n"), length-append name (codes "\n"))

-- a short name and a place make a short line
pub placed_short : (name : List ℕ) (at : ℕ) → length name ≤ 20 → at < 2 ^ 32 → length (placed_line name at) ≤ most_line
placed_short name at h fits =
    let place = decimal at in
    let d : length place ≤ 10 = length-decimal-le 10 at (omega arith) (omega arith) (omega arith) in
    omega (
      arith,
      h,
      d,
      length-append (codes "refused: ") (name ++ (codes "(" ++ (place ++ codes ")\n"))),
      length-append name (codes "(" ++ (place ++ codes ")\n")),
      length-append (codes "(") (place ++ codes ")\n"),
      length-append place (codes ")\n"),
    )

-- and so do they within `NotSound`
pub inner_short : (name : List ℕ) (at : ℕ) → length name ≤ 20 → at < 2 ^ 32 → length (inner_line name at) ≤ most_line
inner_short name at h fits =
    let place = decimal at in
    let d : length place ≤ 10 = length-decimal-le 10 at (omega arith) (omega arith) (omega arith) in
    omega (
      arith,
      h,
      d,
      length-append (codes "refused: NotSound(") (name ++ (codes "(" ++ (place ++ codes "))\n"))),
      length-append name (codes "(" ++ (place ++ codes "))\n")),
      length-append (codes "(") (place ++ codes "))\n"),
      length-append place (codes "))\n"),
    )

-- a short name, a place and a ticket make a short line
pub ticket_short : (name : List ℕ) (at ticket : ℕ) → length name ≤ 20 → at < 2 ^ 32 → ticket < 2 ^ 32 →
    length (ticket_line name at ticket) ≤ most_line
ticket_short name at ticket h fits few =
    let place = decimal at in
    let t = decimal ticket in
    let d : length place ≤ 10 = length-decimal-le 10 at (omega arith) (omega arith) (omega arith) in
    let e : length t ≤ 10 = length-decimal-le 10 ticket (omega arith) (omega arith) (omega arith) in
    let end = t ++ codes ")\n" in
    let inner = place ++ (codes "," ++ end) in
    omega (
      arith,
      h,
      d,
      e,
      length-append (codes "refused: ") (name ++ (codes "(" ++ inner)),
      length-append name (codes "(" ++ inner),
      length-append (codes "(") inner,
      length-append place (codes "," ++ end),
      length-append (codes ",") end,
      length-append t (codes ")\n"),
    )
