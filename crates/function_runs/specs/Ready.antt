-- When a net is ready for the calls of a function: it is that of the function's term at some numbers, and it is known where they are.
use Rattle.std.specs.Prelude.{◌≡◌, ◌+◌, ◌*◌, ◌<◌, ◌^◌, ℕ, List, [], length}
use Rattle.pcf_values.specs.Terms.{TyTree, TermTree}
use Rattle.pcf_values.specs.Typing.{HasType}
use Rattle.net_build.specs.Nets.{NetTree}
use Rattle.net_build.specs.NetOf.{net_of}
use Rattle.open_net_laws.specs.Applied.{applied, numeric}
use Rattle.open_net_laws.specs.Arguments.{closed_part}

pub record IsReady (program : TermTree × TyTree) (net : NetTree) (first n : ℕ) : Type 0 where
  -- the program takes so many numbers
  pub typed : HasType [] program.0 program.1
  pub takes : program.1 ≡ numeric n
  -- the net is that of its term at these
  pub at : List ℕ
  pub many : length at ≡ n
  pub net_is : net ≡ net_of (applied program.0 at)
  -- the node of the first of them, which is behind all of the term's
  pub first_is : first ≡ length (closed_part program.0).nodes
  pub few : first + 3 * n < 2 ^ 32
