-- Each token has the stacks of its wire: the statements of `law_placed`.
-- There are as many boxes as the wire is deep, and a work stack is a path into the type of its wire: `R` and `L` at an arrow and at a
-- product, and a signature at an arrow's argument, at an argument's box and at a variable.
use Rattle.std.specs.Prelude.{◌≡◌, ℕ, List, [], ◌∷◌, length, Some}
use Rattle.pcf_values.specs.Terms.{TyTree, nat, arrow, product}
use Rattle.token_stacks.specs.Signatures.{R, L, S, Work, Boxes}
use Rattle.net_build.specs.declared.wire.WireKind.{WireKind}
use Rattle.net_build.specs.declared.wire.WireKind.TheVariants.{Value, Bang, Variable}
use Rattle.net_build.specs.Nets.{WireTree, NetTree}
use Rattle.net_build.specs.Sound.{Is, Sound}
use Rattle.move_rules.specs.Places.{Place, up, down, TokenTree, place_of}
use Rattle.move_rules.specs.Moves.{Move, solo, fork, join, answer, stay, move}
use Rattle.interleave_laws.specs.States.{State}
use Rattle.interleave_laws.specs.Runs.{LeadsTo}

-- a path into a type
abbrev pub OfType : TyTree → Work → Type 0
OfType nat [] = Unit {0}
OfType nat (x ∷ m) = ⊥
OfType (arrow s t) [] = ⊥
OfType (arrow s t) (R ∷ m) = OfType t m
OfType (arrow s t) (L ∷ []) = ⊥
OfType (arrow s t) (L ∷ R ∷ m) = ⊥
OfType (arrow s t) (L ∷ L ∷ m) = ⊥
OfType (arrow s t) (L ∷ S x ∷ m) = OfType s m
OfType (arrow s t) (S x ∷ m) = ⊥
OfType (product s t) [] = ⊥
OfType (product s t) (R ∷ m) = OfType t m
OfType (product s t) (L ∷ m) = OfType s m
OfType (product s t) (S x ∷ m) = ⊥

-- a signature first, at an argument and at a variable
abbrev pub Signed : TyTree → Work → Type 0
Signed ty [] = ⊥
Signed ty (R ∷ m) = ⊥
Signed ty (L ∷ m) = ⊥
Signed ty (S x ∷ m) = OfType ty m

-- a path as the wire's kind has it
abbrev pub OfKind : WireKind → TyTree → Work → Type 0
OfKind Value ty m = OfType ty m
OfKind Bang ty m = Signed ty m
OfKind Variable ty m = Signed ty m

-- both stacks are those of a token on this wire
abbrev pub OfWire : WireTree → Work → Boxes → Type 0
OfWire w m t = (length t ≡ w.depth) × OfKind w.kind w.type m

-- a place's stacks are those of its wire
abbrev pub Placed : NetTree → Place → Type 0
Placed net (up n m t) = (w : WireTree) × Is net n w × OfWire w m t
Placed net (down n m t) = (w : WireTree) × Is net n w × OfWire w m t

-- a move leads to places whose stacks are those of their wires
abbrev pub MoveKeeps : NetTree → Move → Type 0
MoveKeeps net (solo i x) = Placed net (place_of x)
MoveKeeps net (fork i a b t) = Placed net a × Placed net b
MoveKeeps net (join i o s v w t) = Placed net (down w [] t)
MoveKeeps net (answer v) = Unit {0}
MoveKeeps net stay = Unit {0}

-- each move of a sound net keeps to it
abbrev pub MovesKeep : Type 0
MovesKeep = (net : NetTree) → Sound net → (x : TokenTree) → Placed net (place_of x) → MoveKeeps net (move net x)

-- so each token of a run has the stacks of its wire
abbrev pub RunPlaced : Type 0
RunPlaced = (net : NetTree) → Sound net → (log : List ℕ) (S : State) → LeadsTo net log S → (i : ℕ) (x : TokenTree) →
    S.tokens i ≡ Some x → Placed net (place_of x)
