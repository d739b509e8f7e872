-- Both stacks of a place.
use Rattle.token_stacks.specs.Signatures.{Work, Boxes}
use Rattle.move_rules.specs.Places.{Place, up, down}

-- the work stack of a place
abbrev pub work_at : Place → Work
work_at (up w m t) = m
work_at (down w m t) = m

-- the box stack of a place
abbrev pub boxes_at : Place → Boxes
boxes_at (up w m t) = t
boxes_at (down w m t) = t
