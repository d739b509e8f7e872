use Rattle.std.proofs.Common.{rules, [], ◌⊎◌, ⊎_elim, ◌≡◌, reverse, ap, inl, inr}
use Rattle.std.proofs.lemmas.Result.{IfOk-weaker}
use Rattle.std.proofs.lemmas.List.{nil_from_length}
use Rattle.net_build.proofs.Joining.{merging_starts, merging_steps, merging_room, merging_ends, whole_contract, rooms}
use Rattle.net_build.proofs.joins.contract.Goals as goal
use Rattle.net_build.proofs.joins.contract.Goals.{then-loop-right-test+else-not-is_empty, else-loop-right-test}

pub loop-right-init : goal.loop-right-init
loop-right-init c = rw c.new-joined.ensures.items
    (merging_starts c.args.parts.now c.args.depth (reverse c.args.left.items) (reverse c.args.right.items) c.requires.lefts
    c.requires.rights)

pub take-requires-clause-room : goal.take-requires-clause-room
take-requires-clause-room c =
    merging_room c.args.parts.now c.loop-right.parts c.args.depth (reverse c.args.left.items) (reverse c.args.right.items)
    (reverse c.loop-right.left.items) (reverse c.loop-right.right.items) c.loop-right.joined.items c.loop-right.invariant
    (rooms _ _ _ _ (whole_contract c.args.parts.now c.args.depth (reverse c.args.left.items) (reverse c.args.right.items) c.requires.lefts
    c.requires.rights) c.requires.room)

pub loop-right-preserved : goal.loop-right-preserved
loop-right-preserved c =
    rw c.in_ok-push.ensures.items
    (merging_steps c.args.parts.now c.loop-right.parts c.take.new.parts c.args.depth (reverse c.args.left.items)
    (reverse c.args.right.items) (reverse c.loop-right.left.items) (reverse c.loop-right.right.items)
    (reverse c.take.new.left.items) (reverse c.take.new.right.items) c.loop-right.joined.items c.in_ok-next.next c.in_ok-next.ensures
    c.loop-right.invariant)

pub returns : goal.returns
returns c =
    let z : (c.loop-right.left.items ≡ []) ⊎ (c.loop-right.right.items ≡ []) =
    elim c.loop-right-test.branch [
      | then-loop-right-test+else-not-is_empty w ↦ inr (nil_from_length _ (search rules))
      | else-loop-right-test
          w ↦ inl (nil_from_length _ (search rules))
    ] in
    IfOk-weaker c.upon.result _ _
    (λ v e. merging_ends c.args.parts.now c.loop-right.parts c.args.depth (reverse c.args.left.items) (reverse c.args.right.items)
    (reverse c.loop-right.left.items) (reverse c.loop-right.right.items) c.loop-right.joined.items v.items
    c.requires.lefts c.requires.rights c.loop-right.invariant (⊎_elim (λ e. inl (ap reverse e)) (λ e. inr (ap reverse e)) z) e)
    c.upon.ensures
