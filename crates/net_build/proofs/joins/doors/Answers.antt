use Rattle.std.proofs.Common.{rules, [], ◌≡◌, reverse, ap}
use Rattle.std.proofs.lemmas.List.{nil_from_length}
use Rattle.net_build.proofs.Joining.{leaving_starts, leaving_steps, leaving_room, leaving_ends, whole_leave, rooms}
use Rattle.net_build.proofs.joins.doors.Goals as goal

pub loop-alloc-init : goal.loop-alloc-init
loop-alloc-init c = rw c.new-outside.ensures.items
    (leaving_starts c.args.parts.now c.args.depth (reverse c.args.inside.items) c.requires.falling)

pub next-requires : goal.next-requires
next-requires c =
    leaving_room c.args.parts.now c.loop-alloc.parts c.args.depth (reverse c.args.inside.items) (reverse c.loop-alloc.inside.items)
    c.loop-alloc.outside.items c.loop-alloc.invariant
    (rooms _ _ _ _ (whole_leave c.args.parts.now c.args.depth (reverse c.args.inside.items) c.requires.falling) c.requires.room)

pub loop-alloc-preserved : goal.loop-alloc-preserved
loop-alloc-preserved c =
    rw c.in_ok-push.ensures.items
    (leaving_steps c.args.parts.now c.loop-alloc.parts c.variable.new.parts c.args.depth c.next.result (reverse c.args.inside.items)
    (reverse c.loop-alloc.inside.items) (reverse c.pop_last-loose.new.list.items) c.loop-alloc.outside.items
    c.pop_last-loose.result c.in_ok-variable.field-0 c.pop_last-loose.ensures c.next.ensures c.in_ok-variable.ensures
    c.loop-alloc.invariant)

pub returns : goal.returns
returns c =
    let e : c.loop-alloc.inside.items ≡ [] = nil_from_length c.loop-alloc.inside.items (search rules) in
    leaving_ends c.args.parts.now c.loop-alloc.parts c.args.depth (reverse c.args.inside.items) (reverse c.loop-alloc.inside.items)
    c.loop-alloc.outside.items c.reverse.new.self.items c.requires.falling c.loop-alloc.invariant (ap reverse e) c.reverse.ensures.items
