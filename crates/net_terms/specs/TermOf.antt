-- The term that a net may be the net of, found in one walk over the nodes, from the last one to the first.
-- A net lists the nodes of a part behind those of its operands, so the walk meets a term's own node first, then the contractions and
-- doors that its operands need, and then the operands, the last one first: the reading goes by recursion on the term that it makes.
-- What the nodes in between do to the marks of variable wires is said by `Passing` of `net_marks`. No operand is looked for by its
-- wire: it is only asked that the wire is the right one, so that the term of a sound net is as large as the net says. The walk ends on
-- any list of nodes, and a caller compares the net of the term that it gives. Heights are bounded by the number that it is given.
use Rattle.std.specs.Prelude.{ℕ, zero, suc, List, [], ◌∷◌, length, reverse, replicate, Option, Some, None, nat_eq}
use Rattle.std.specs.Prelude.{if◌then◌else◌, slice_get, slice_set}
use Rattle.pcf_values.specs.Terms.{TyTree, nat, TermTree, num, succ_of, pred_of, binary, ifz, lam, fix, app}
use Rattle.pcf_values.specs.Terms.{pair, proj}
use Rattle.net_build.specs.declared.node.Node.{Node}
use Rattle.net_build.specs.declared.node.Node.TheVariants.{Const, Succ, Pred, Ifz, Der, Lam, App, Binary, Proj}
use Rattle.net_build.specs.declared.node.Node.TheVariants.{FixBox, Root, Pair}
use Rattle.net_build.specs.Nets.{WireTree, NetTree}
use Rattle.net_build.specs.NetOf.{domain}
use Rattle.net_marks.specs.declared.walk.Mark.{Mark}
use Rattle.net_marks.specs.Passing.{mark, mark_at, Rest, pass, value_of}
use Rattle.net_marks.specs.Reads.{Read, read, variable}

-- the type of a wire, and `nat` past the list
abbrev pub type_in : Option WireTree → TyTree
type_in None = nat
type_in (Some w) = w.type

-- the type of a wire by its number
abbrev pub type_at : List WireTree → ℕ → TyTree
type_at ws w = type_in (slice_get ws w)

-- a term of one, two or three operands, of which the last one has been read; the readers read those before it
abbrev pub one : (TermTree → TermTree) → Option Read → Option Read
one f None = None
one f (Some a) = Some (read (f a.term) a.nodes a.marks)

-- the same of two operands
abbrev pub two : (TermTree → TermTree → TermTree) → (List Node → List Mark → Option Read) → Option Read → Option Read
two f rd None = None
two f rd (Some b) = one (λ a. f a b.term) (rd b.nodes b.marks)

-- the same of three operands
abbrev pub three : (TermTree → TermTree → TermTree → TermTree) → (List Node → List Mark → Option Read)
    → (List Node → List Mark → Option Read) → Option Read → Option Read
three f first second None = None
three f first second (Some c) = two (λ a b. f a b c.term) first (second c.nodes c.marks)

-- the marks with a binder's wire among them
abbrev pub set_marked : List Mark → ℕ → ℕ → ℕ → List Mark
set_marked ms x k place = slice_set ms x (mark k place)

-- how a part is read: under so many binders, with the box around, the box that it stands in, its value wire, the nodes and the marks
abbrev pub Reader : Type 0
Reader = ℕ → ℕ → ℕ → ℕ → List Node → List Mark → Option Read

-- the term whose own node comes next
abbrev pub start : List WireTree → Reader → ℕ → ℕ → List Node → List Mark → Option Read
start ws rd k place [] ms = None
start ws rd k place (Const v w ∷ ns) ms = Some (read (num v) ns ms)
start ws rd k place (Der w x ∷ ns) ms = variable k place (mark_at ms x) ns ms
start ws rd k place (Succ a w ∷ ns) ms = one succ_of (rd k place place a ns ms)
start ws rd k place (Pred a w ∷ ns) ms = one pred_of (rd k place place a ns ms)
start ws rd k place (Binary o a b w ∷ ns) ms = two (binary o) (rd k place place a) (rd k place place b ns ms)
start ws rd k place (Ifz c p q w ∷ ns) ms = three ifz (rd k place place c) (rd k place place p) (rd k place place q ns ms)
start ws rd k place (Lam b x w ∷ ns) ms = one (lam (domain (type_at ws w))) (rd (suc k) place place b ns (set_marked ms x k place))
start ws rd k place (App f a w ∷ ns) ms = two app (rd k place place f) (rd k place place a ns ms)
start ws rd k place (FixBox b x w ∷ ns) ms = one (fix (type_at ws w)) (rd (suc k) place (suc w) b ns (set_marked ms x k (suc w)))
start ws rd k place (Pair a b w ∷ ns) ms = two pair (rd k place place a) (rd k place place b ns ms)
start ws rd k place (Proj side a w ∷ ns) ms = one (proj side) (rd k place place a ns ms)
start ws rd k place (n ∷ ns) ms = None

-- what is read, where the next node's value wire is the one that is to come
abbrev pub met : ℕ → List Node → Option Read → Option Read
met want [] r = None
met want (n ∷ ns) r = if nat_eq (value_of n) want then r else None

-- what is read behind the nodes that were passed
abbrev pub go_on : List WireTree → Reader → ℕ → Rest → Option Read
go_on ws rd k r = met r.want r.nodes (start ws rd k r.place r.nodes r.marks)

-- the term of at most this height that comes next
abbrev pub reading : List WireTree → ℕ → Reader
reading ws zero k around place want ns ms = None
reading ws (suc h) k around place want ns ms = go_on ws (reading ws h) k (pass around place want ns ms)

-- the term that was read
abbrev pub term_in : Option Read → Option TermTree
term_in None = None
term_in (Some r) = Some r.term

-- below the root
abbrev pub from_root : ℕ → List WireTree → List Node → Option TermTree
from_root h ws (Root w ∷ ns) = term_in (reading ws h 0 0 0 w ns (replicate (length ws) (mark 0 0)))
from_root h ws ns = None

-- the one term of at most this height that the net can be the net of
abbrev pub candidate : ℕ → NetTree → Option TermTree
candidate h net = from_root h net.wires (reverse net.nodes)
