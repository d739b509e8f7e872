-- The table of plain rules: at each node, where a token goes that comes to it by a wire.
-- That the paths of a token over a proof net, with a stack for what is asked and one for the open boxes, tell what the program means
-- is Girard's geometry of interaction; as a machine it was made by Danos and Regnier and by Mackie.
--
-- Plain rules carry questions and answers alike, look at the stacks alone, and hold in both directions: each row of the table is
-- followed by its other way, which goes from the row's second place, turned, to its first place, turned. Each function below is
-- one row or its other way, known by the shape of the stacks, or the two or three of them that begin at one wire of the node. In all
-- of them `m` is the rest of the work stack and `t` that of the box stack, which stay.
--
-- The table speaks of every net, sound or not: the node is the least one on that side of the wire, and where a node names one
-- wire twice, the first row that fits is taken, the other way of a row standing right after it. What fits no row is None, among it a
-- wire that the net doesn't have.
use Rattle.std.specs.Prelude.{ℕ, [], ◌∷◌, Option, Some, None, nat_eq, if◌then◌else◌}
use Rattle.token_stacks.specs.Signatures.{Sig, star, left_of, right_of, pair_of, again, R, L, S, Work, Boxes}
use Rattle.net_build.specs.declared.node.Node.{Node}
use Rattle.net_build.specs.declared.node.Node.TheVariants.{Der, Con, Lam, App, BoxNode, Door, FixBox, Pair, Proj}
use Rattle.net_build.specs.Nets.{NetTree}
use Rattle.net_build.specs.Faces.{node_above, node_below}
use Rattle.move_rules.specs.Places.{Place, up, down}
use Rattle.pcf_values.specs.declared.side.Side.TheVariants.{Left, Right}

-- the first of two that is there
abbrev pub or_else : {A : Type 0} → Option A → Option A → Option A
or_else None o = o
or_else (Some x) o = Some x

-- a rule of the wire x, for a token that comes by w
abbrev pub at_wire : {A : Type 0} → ℕ → ℕ → Option A → Option A
at_wire x w o = if nat_eq x w then o else None

-- a function's conclusion, upwards: `R` asks for the body, and `L` with a signature is a use of the argument
abbrev pub lam_up : ℕ → ℕ → Work → Boxes → Option Place
lam_up b x (R ∷ m) t = Some (up b m t)
lam_up b x (L ∷ S s ∷ m) t = Some (up x (S s ∷ m) t)
lam_up b x (L ∷ R ∷ m) t = None
lam_up b x (L ∷ L ∷ m) t = None
lam_up b x (L ∷ []) t = None
lam_up b x (S s ∷ m) t = None
lam_up b x [] t = None

-- a function's variable, downwards
abbrev pub lam_var : ℕ → Work → Boxes → Option Place
lam_var w (S s ∷ m) t = Some (down w (L ∷ S s ∷ m) t)
lam_var w _ t = None

-- an application's function, downwards: `R` comes back with the result, and `L` goes on to the argument
abbrev pub app_fun : ℕ → ℕ → Work → Boxes → Option Place
app_fun a w (R ∷ m) t = Some (down w m t)
app_fun a w (L ∷ S s ∷ m) t = Some (up a (S s ∷ m) t)
app_fun a w (L ∷ R ∷ m) t = None
app_fun a w (L ∷ L ∷ m) t = None
app_fun a w (L ∷ []) t = None
app_fun a w (S s ∷ m) t = None
app_fun a w [] t = None

-- an application's argument, downwards
abbrev pub app_arg : ℕ → Work → Boxes → Option Place
app_arg f (S s ∷ m) t = Some (up f (L ∷ S s ∷ m) t)
app_arg f _ t = None

-- into a box: the signature says which copy of it is meant
abbrev pub box_up : ℕ → Work → Boxes → Option Place
box_up i (S s ∷ m) t = Some (up i m (s ∷ t))
box_up i _ t = None

-- out of a box
abbrev pub box_down : ℕ → Work → Boxes → Option Place
box_down o m (s ∷ t) = Some (down o (S s ∷ m) t)
box_down o m [] = None

-- out of a box by the door of a free variable
abbrev pub door_down : ℕ → Work → Boxes → Option Place
door_down o (S u ∷ m) (s ∷ t) = Some (down o (S (pair_of s u) ∷ m) t)
door_down o _ _ = None

-- back through the door
abbrev pub door_up : ℕ → Work → Boxes → Option Place
door_up i (S (pair_of s u) ∷ m) t = Some (up i (S u ∷ m) (s ∷ t))
door_up i _ t = None

-- back from a variable to its one use
abbrev pub der_back : ℕ → Work → Boxes → Option Place
der_back w (S star ∷ m) t = Some (down w m t)
der_back w _ t = None

-- a contraction, upwards: the mark says which of the two uses
abbrev pub con_up : ℕ → ℕ → Work → Boxes → Option Place
con_up l r (S (left_of s) ∷ m) t = Some (up l (S s ∷ m) t)
con_up l r (S (right_of s) ∷ m) t = Some (up r (S s ∷ m) t)
con_up l r _ t = None

-- a contraction, downwards, with the mark of the side
abbrev pub con_down : (Sig → Sig) → ℕ → Work → Boxes → Option Place
con_down f w (S s ∷ m) t = Some (down w (S (f s) ∷ m) t)
con_down f w _ t = None

-- the recursive variable of a `fix`, downwards: the call `s` from inside the call `u`
abbrev pub fix_var : ℕ → Work → Boxes → Option Place
fix_var b (S s ∷ m) (u ∷ t) = Some (up b m (again u s ∷ t))
fix_var b _ _ = None

-- out of the body of a `fix`, from the call from outside
abbrev pub fix_out : ℕ → Work → Boxes → Option Place
fix_out w m (star ∷ t) = Some (down w m t)
fix_out w m _ = None

-- out of the body of a `fix`, from a call from inside
abbrev pub fix_back : ℕ → Work → Boxes → Option Place
fix_back x m (again u s ∷ t) = Some (up x (S s ∷ m) (u ∷ t))
fix_back x m _ = None

-- a pair, upwards: `L` selects the first part and `R` the second
abbrev pub pair_up : ℕ → ℕ → Work → Boxes → Option Place
pair_up a b (L ∷ m) t = Some (up a m t)
pair_up a b (R ∷ m) t = Some (up b m t)
pair_up a b _ t = None

-- back from the first part
abbrev pub fst_down : ℕ → Work → Boxes → Option Place
fst_down w (L ∷ m) t = Some (down w m t)
fst_down w _ t = None

-- back from the second part
abbrev pub snd_down : ℕ → Work → Boxes → Option Place
snd_down w (R ∷ m) t = Some (down w m t)
snd_down w _ t = None

-- the rules at a node, for a token that comes up its conclusion w
abbrev pub plain_up : Node → ℕ → Work → Boxes → Option Place
plain_up (Der v x) w m t = or_else (at_wire v w (Some (down x (S star ∷ m) t))) (at_wire x w (der_back v m t))
plain_up (Con l r c) w m t = con_up l r m t
plain_up (Lam b x c) w m t = lam_up b x m t
plain_up (App f a c) w m t = Some (up f (R ∷ m) t)
plain_up (BoxNode i o) w m t = box_up i m t
plain_up (Door i o) w m t = door_up i m t
plain_up (FixBox b x c) w m t = Some (up b m (star ∷ t))
plain_up (Pair a b c) w m t = pair_up a b m t
plain_up (Proj Left a c) w m t = Some (up a (L ∷ m) t)
plain_up (Proj Right a c) w m t = Some (up a (R ∷ m) t)
plain_up _ w m t = None

-- the rules at a node, for a token that comes down its premise w
abbrev pub plain_down : Node → ℕ → Work → Boxes → Option Place
plain_down (Con l r c) w m t = or_else (at_wire l w (con_down left_of c m t)) (at_wire r w (con_down right_of c m t))
plain_down (Lam b x c) w m t = or_else (at_wire b w (Some (down c (R ∷ m) t))) (at_wire x w (lam_var c m t))
plain_down (App f a c) w m t = or_else (at_wire f w (app_fun a c m t)) (at_wire a w (app_arg f m t))
plain_down (BoxNode i o) w m t = box_down o m t
plain_down (Door i o) w m t = door_down o m t
plain_down (FixBox b x c) w m t =
    or_else (at_wire b w (fix_out c m t)) (or_else (at_wire x w (fix_var b m t)) (at_wire b w (fix_back x m t)))
plain_down (Pair a b c) w m t = or_else (at_wire a w (Some (down c (L ∷ m) t))) (at_wire b w (Some (down c (R ∷ m) t)))
plain_down (Proj Left a c) w m t = fst_down c m t
plain_down (Proj Right a c) w m t = snd_down c m t
plain_down _ w m t = None

-- what the node that was found, with its number, makes of it
abbrev pub on_found : {A : Type 0} → Option (ℕ × Node) → A → (ℕ → Node → A) → A
on_found None a f = a
on_found (Some p) a f = f p.0 p.1

-- the node that a token at this place faces, with its number
abbrev pub facing : NetTree → Place → Option (ℕ × Node)
facing net (up w m t) = node_above net w
facing net (down w m t) = node_below net w
