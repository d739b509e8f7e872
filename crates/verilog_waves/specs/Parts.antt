-- Parts of the course that private functions speak of.
use Rattle.std.specs.Prelude.{Bool, ◌&&◌, nat_eq, List}
use Rattle.verilog_tree.specs.Tree.{Item}
use Rattle.verilog_tree.specs.Meaning.{Store, scope, settled, edge_in, set_vec}

-- what an edge writes where all has settled
abbrev pub written : List Item → Store → Store
written is S = edge_in (scope is) is S

-- and what the next one finds, with `rst` at 0
abbrev pub next : List Item → Store → Store
next is S = settled (scope is) is (set_vec "rst" 0 (written is S))

-- whether neither `done` nor `full` is up
abbrev pub goes : Store → Bool
goes S = nat_eq (S.vec "done") 0 && nat_eq (S.vec "full") 0
