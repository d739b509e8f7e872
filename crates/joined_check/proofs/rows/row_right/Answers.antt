use Rattle.std.proofs.Common.{◌≡◌, sym, ap, ◌∙◌, map}
use Rattle.std.specs.Option.{option_map}
use Rattle.joined_numbers.specs.Ports.{with_ports}
use Rattle.joined_check.specs.Parts.{begins_right}
use Rattle.joined_table.specs.Views.{source_view, key_view, site_view, seen_view, joined_row_view, walker_view}
use Rattle.joined_check.proofs.Steps.{not_first, not_way, by_moves}
use Rattle.joined_check.proofs.rows.row_right.Goals as goal

pub returns-then-not-branch : goal.returns-then-not-branch
returns-then-not-branch c =
    let b = ap (λ xs. begins_right (with_ports c.args.net.now c.args.ports.now) (site_view c.args.site) (key_view c.args.key.now)
    (seen_view c.args.seen.now) (walker_view c.args.row.now.from) (map source_view xs)) (sym c.deref.ensures.value) ∙
    (sym c.begins_right.ensures ∙ c.if-not-begins_right.false) in
    sym (not_first (with_ports c.args.net.now c.args.ports.now) (site_view c.args.site) (key_view c.args.key.now)
    (seen_view c.args.seen.now) (joined_row_view c.args.row.now) (option_map walker_view c.in_ok-from.from) b
    c.in_ok-from.ensures (sym c.in_ok-first_right.ensures ∙ c.if-not-branch.true))

pub returns-then-not-branch-2 : goal.returns-then-not-branch-2
returns-then-not-branch-2 c =
    let b = ap (λ xs. begins_right (with_ports c.args.net.now c.args.ports.now) (site_view c.args.site) (key_view c.args.key.now)
    (seen_view c.args.seen.now) (walker_view c.args.row.now.from) (map source_view xs)) (sym c.deref.ensures.value) ∙
    (sym c.begins_right.ensures ∙ c.if-not-begins_right.false) in
    sym (not_way (with_ports c.args.net.now c.args.ports.now) (site_view c.args.site) (key_view c.args.key.now) (seen_view c.args.seen.now)
    (joined_row_view c.args.row.now) (option_map walker_view c.in_ok-from.from) b
    c.in_ok-from.ensures (sym c.in_ok-first_right.ensures ∙ c.if-not-branch.false) (sym c.in_ok-way_right.ensures ∙ c.if-not-branch-2.true))

pub returns : goal.returns
returns c =
    let b = ap (λ xs. begins_right (with_ports c.args.net.now c.args.ports.now) (site_view c.args.site) (key_view c.args.key.now)
    (seen_view c.args.seen.now) (walker_view c.args.row.now.from) (map source_view xs)) (sym c.deref.ensures.value) ∙
    (sym c.begins_right.ensures ∙ c.if-not-begins_right.false) in
    c.moves.ensures ∙
    sym (by_moves (with_ports c.args.net.now c.args.ports.now) (site_view c.args.site) (key_view c.args.key.now) (seen_view c.args.seen.now)
    (joined_row_view c.args.row.now) (option_map walker_view c.in_ok-from.from) b
    c.in_ok-from.ensures (sym c.in_ok-first_right.ensures ∙ c.if-not-branch.false)
    (sym c.in_ok-way_right.ensures ∙ c.if-not-branch-2.false))
