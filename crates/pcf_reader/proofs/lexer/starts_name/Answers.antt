use Rattle.std.proofs.Common.{ap, ◌∙◌, arith}
use Rattle.std.specs.Prelude.{◌==◌}
use Rattle.std.proofs.lemmas.Bool.{eqb-true}
use Rattle.unicode_ident.specs.Ident.{is_xid_continue}
use Rattle.unicode_ident.proofs.IdentLemmas.{is_xid_continue-ascii}
use Rattle.pcf_reader.proofs.Taking.{either_way}
use Rattle.pcf_reader.proofs.lexer.starts_name.Goals as goal

pub returns-clause-continues : goal.returns-clause-continues
returns-clause-continues c =
    either_way c.is_xid_start.result (c.args.c == 95) (is_xid_continue c.args.c) c.is_xid_start.ensures.continues
    (λ h. ap is_xid_continue (eqb-true c.args.c 95 h) ∙ is_xid_continue-ascii 95 (omega arith))
