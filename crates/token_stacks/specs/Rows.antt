-- The table of the calls on both stacks, a row for each call that wants a shape.
--
-- `m` is the rest of the work stack and `t` the rest of the box stack, and both stay in every row. A row gives the stacks afterwards,
-- or None where they don't have the shape that it needs. The calls that fit every stack have no row: they put a symbol or a
-- signature on top.
use Rattle.std.specs.Prelude.{◌≡◌, Bool, [], ◌∷◌, Option, Some, None}
use Rattle.std.specs.Bool.{MatchBool}
use Rattle.token_stacks.specs.Signatures.{star, left_of, right_of, pair_of, again, R, L, S, Work, Boxes}
use Rattle.token_stacks.specs.Loads.{Load, load}

-- either the row was followed, or its shape is missing and all stays
abbrev pub Follows : (Work → Boxes → Option Load) → Load → Bool → Load → Type 0
Follows row old made new = MatchBool made (row old.work old.boxes ≡ Some new) ((row old.work old.boxes ≡ None) × (new ≡ old))

-- `R.m` becomes `m`
abbrev pub r_popped : Work → Boxes → Option Load
r_popped (R ∷ m) t = Some (load m t)
r_popped _ t = None

-- `L.m` becomes `m`
abbrev pub l_popped : Work → Boxes → Option Load
l_popped (L ∷ m) t = Some (load m t)
l_popped _ t = None

-- `*.m` becomes `m`
abbrev pub star_popped : Work → Boxes → Option Load
star_popped (S star ∷ m) t = Some (load m t)
star_popped _ t = None

-- `s.m` becomes `l s.m`
abbrev pub left_wrapped : Work → Boxes → Option Load
left_wrapped (S s ∷ m) t = Some (load (S (left_of s) ∷ m) t)
left_wrapped _ t = None

-- `s.m` becomes `r s.m`
abbrev pub right_wrapped : Work → Boxes → Option Load
right_wrapped (S s ∷ m) t = Some (load (S (right_of s) ∷ m) t)
right_wrapped _ t = None

-- `l s.m` becomes `s.m`
abbrev pub left_unwrapped : Work → Boxes → Option Load
left_unwrapped (S (left_of s) ∷ m) t = Some (load (S s ∷ m) t)
left_unwrapped _ t = None

-- `r s.m` becomes `s.m`
abbrev pub right_unwrapped : Work → Boxes → Option Load
right_unwrapped (S (right_of s) ∷ m) t = Some (load (S s ∷ m) t)
right_unwrapped _ t = None

-- `s.m` at `t` becomes `m` at `s.t`
abbrev pub into_box : Work → Boxes → Option Load
into_box (S s ∷ m) t = Some (load m (s ∷ t))
into_box _ t = None

-- `m` at `s.t` becomes `s.m` at `t`
abbrev pub out_of_box : Work → Boxes → Option Load
out_of_box m (s ∷ t) = Some (load (S s ∷ m) t)
out_of_box m [] = None

-- `u.m` at `s.t` becomes `<s,u>.m` at `t`
abbrev pub out_of_door : Work → Boxes → Option Load
out_of_door (S u ∷ m) (s ∷ t) = Some (load (S (pair_of s u) ∷ m) t)
out_of_door _ _ = None

-- `<s,u>.m` at `t` becomes `u.m` at `s.t`
abbrev pub into_door : Work → Boxes → Option Load
into_door (S (pair_of s u) ∷ m) t = Some (load (S u ∷ m) (s ∷ t))
into_door _ t = None

-- `m` at `*.t` becomes `m` at `t`
abbrev pub out_of_fix : Work → Boxes → Option Load
out_of_fix m (star ∷ t) = Some (load m t)
out_of_fix m _ = None

-- `s.m` at `u.t` becomes `m` at `y(u,s).t`
abbrev pub into_again : Work → Boxes → Option Load
into_again (S s ∷ m) (u ∷ t) = Some (load m (again u s ∷ t))
into_again _ _ = None

-- `m` at `y(u,s).t` becomes `s.m` at `u.t`
abbrev pub out_of_again : Work → Boxes → Option Load
out_of_again m (again u s ∷ t) = Some (load (S s ∷ m) (u ∷ t))
out_of_again m _ = None

-- `L.s.m` becomes `s.m`
abbrev pub into_argument : Work → Boxes → Option Load
into_argument (L ∷ S s ∷ m) t = Some (load (S s ∷ m) t)
into_argument _ t = None

-- `s.m` becomes `L.s.m`
abbrev pub out_of_argument : Work → Boxes → Option Load
out_of_argument (S s ∷ m) t = Some (load (L ∷ S s ∷ m) t)
out_of_argument _ t = None
