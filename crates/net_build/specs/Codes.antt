-- Codes of wires and of nets, by which `Net` can have a net as its value.
use Rattle.std.specs.Prelude.{ℕ, List, refl}
use Rattle.std.specs.Coded.{Coded, code_by, coded×, coded_list, coded_ℕ}
use Rattle.pcf_values.specs.Terms.{TyTree}
use Rattle.pcf_values.specs.Codes.{ty_code}
use Rattle.net_build.specs.declared.wire.WireKind.{WireKind}
use Rattle.net_build.specs.declared.node.Node.{Node}
use Rattle.net_build.specs.contracts.wire.WireKind as kind
use Rattle.net_build.specs.contracts.node.Node as node
use Rattle.net_build.specs.Nets.{WireTree, NetTree}

abbrev pub wire_code : Coded WireTree
wire_code =
    code_by (WireKind × (ℕ × TyTree)) (coded× kind.the_row.coded (coded× coded_ℕ ty_code)) (λ w. (w.kind, (w.depth, w.type)))
    (λ p. record { kind = p.0; depth = p.1.0; type = p.1.1 }) (λ _. refl)

abbrev pub net_code : Coded NetTree
net_code =
    code_by (List WireTree × List Node) (coded× (coded_list wire_code) (coded_list node.the_row.coded)) (λ n. (n.wires, n.nodes))
    (λ p. record { wires = p.0; nodes = p.1 }) (λ _. refl)
