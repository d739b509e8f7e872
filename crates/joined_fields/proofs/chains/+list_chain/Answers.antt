use Rattle.std.proofs.Common.{◌≡◌, ◌<◌, arith}
use Rattle.std.proofs.lemmas.Result.{IfOk-weaker}
use Rattle.joined_fields.specs.Views.{group_name}
use Rattle.joined_fields.specs.Parts.{with_next, chain_of, chain_view}
use Rattle.std.specs.Prelude.{Some}
use Rattle.joined_module.specs.Module.{list_sets}
use Rattle.verilog_tree.specs.Views.{stmt_of}
use Rattle.joined_fields.proofs.Blocks.{list_made}
use Rattle.joined_fields.proofs.chains.+list_chain.Goals as goal

pub returns-in_ok-s : goal.returns-in_ok-s
returns-in_ok-s t c =
    let some : 0 < c.args.n = omega arith in
    IfOk-weaker c.with_next.result (λ r. chain_view r ≡ Some (with_next (stmt_of c.in_ok-s.s.now) (chain_view c.in_ok-rest.rest)))
    (λ r. chain_view r ≡ chain_of (list_sets (group_name c.args.here) (group_name c.args.next) c.args.i c.args.n))
    (λ r e. list_made (group_name c.args.here) (group_name c.args.next) c.args.i c.args.n _ _ _ some c.in_ok-s.ensures
    c.in_ok-rest.ensures e) c.with_next.ensures
