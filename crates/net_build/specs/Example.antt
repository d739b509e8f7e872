-- The net of `(fun x:nat. x + x) 3`, node by node: what the definition comes to on a term with a binder, a box, and a variable that is
-- used twice. The prover computes it.
use Rattle.std.specs.Prelude.{◌≡◌, [], ◌∷◌}
use Rattle.pcf_values.specs.declared.operator.Operator.TheVariants.{Plus}
use Rattle.pcf_values.specs.Terms.{TermTree, nat, arrow, num, var, binary, lam, app}
use Rattle.net_build.specs.declared.node.Node.TheVariants.{Const, Der, Con, Lam, App, BoxNode, Root, Binary}
use Rattle.net_build.specs.Nets.{NetTree, value_wire, bang_wire, var_wire}
use Rattle.net_build.specs.NetOf.{net_of}

abbrev pub doubled : TermTree
doubled = app (lam nat (binary Plus (var 0) (var 0))) (num 3)

abbrev pub doubled_net : NetTree
doubled_net = record {
  wires =
      value_wire 0 nat ∷ var_wire 0 nat ∷ value_wire 0 nat ∷ var_wire 0 nat ∷ var_wire 0 nat ∷ value_wire 0 nat ∷
      value_wire 0 (arrow nat nat) ∷ value_wire 1 nat ∷ bang_wire 0 nat ∷ value_wire 0 nat ∷ [];
  nodes = Der 0 1 ∷ Der 2 3 ∷ Con 1 3 4 ∷ Binary Plus 0 2 5 ∷ Lam 5 4 6 ∷ Const 3 7 ∷ BoxNode 7 8 ∷ App 6 8 9 ∷ Root 9 ∷ [];
}

abbrev pub ExampleNet : Type 0
ExampleNet = net_of doubled ≡ doubled_net
