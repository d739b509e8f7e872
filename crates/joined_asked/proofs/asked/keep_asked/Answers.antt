use Rattle.std.proofs.Common.{◌≡◌, true, length, sym, ◌∙◌, subst}
use Rattle.joined_numbers.specs.Ports.{with_ports}
use Rattle.joined_table.specs.Views.{sites_view, entries_view}
use Rattle.joined_asked.specs.Parts.{all_asked}
use Rattle.joined_asked.proofs.Keeps.{more_asked, all_right, all_fit, all_within}
use Rattle.joined_asked.proofs.asked.keep_asked.Goals as goal

pub returns-clause-right : goal.returns-clause-right
returns-clause-right c =
    all_right (with_ports c.args.net.now c.args.ports.now) (length c.args.ports.now) (sites_view c.args.sites.now)
    (entries_view c.loop-entry.kept.items) c.loop-entry.invariant

pub returns-clause-fit : goal.returns-clause-fit
returns-clause-fit c =
    all_fit (with_ports c.args.net.now c.args.ports.now) (length c.args.ports.now) (sites_view c.args.sites.now)
    (entries_view c.loop-entry.kept.items) c.loop-entry.invariant

pub returns-clause-within : goal.returns-clause-within
returns-clause-within c =
    all_within (with_ports c.args.net.now c.args.ports.now) (length c.args.ports.now) (sites_view c.args.sites.now)
    (entries_view c.loop-entry.kept.items) c.loop-entry.invariant

pub loop-entry-preserved-in-Continue-branch-2 : goal.loop-entry-preserved-in-Continue-branch-2
loop-entry-preserved-in-Continue-branch-2 c =
    let net = with_ports c.args.net.now c.args.ports.now in
    let n = length c.args.ports.now in
    let sites = sites_view c.args.sites.now in
    let h = more_asked net n sites c.loop-entry.kept.items c.in-Some.entry c.loop-entry.invariant
    (sym c.in_ok-entry_asked.ensures ∙ c.if-branch.true) in
    subst (λ l. all_asked net n sites (entries_view l) ≡ true) (sym c.in_ok-push.ensures.items) h
