-- A node is read from its line.
use Rattle.std.proofs.Common.{◌≡◌, ℕ, ◌^◌, ◌<◌, List, [], ◌∷◌, ◌++◌, length, Some, refl, ap, ◌∙◌, arith}
use Rattle.std.specs.Prelude.{decimal}
use Rattle.net_build.specs.declared.node.Node.{Node}
use Rattle.net_build.specs.declared.node.Node.TheVariants.{Const, Succ, Pred, Ifz, Der, Con, Weak, Lam, App, BoxNode, Binary, Proj}
use Rattle.net_build.specs.declared.node.Node.TheVariants.{Door, FixBox, Root, Pair}
use Rattle.net_text.specs.Listing.{node_line, numbers_of, numbers_text, name_text}
use Rattle.net_text.specs.NetText.{NodeFits, Small}
use Rattle.net_text.specs.WireText.{after, number_from}
use Rattle.net_text.specs.declared.form.Form.TheVariants as form
use Rattle.net_text.specs.NodeText.{with_first, node_with, numbers_in, from_form, from_name, node_in}
use Rattle.net_text.proofs.Names.{operator_found, part_found}
use Rattle.net_text.proofs.WiresRead.{behind_itself, number_counts}

-- each of them is a number of the code's
abbrev pub Wide : List ℕ → Type 0
Wide [] = Unit {0}
Wide (n ∷ ns) = (n < 2 ^ 64) × Wide ns

-- numbers of 32 bits are numbers of 64
small_wide : (ns : List ℕ) → Small ns → Wide ns
small_wide [] h = tt
small_wide (n ∷ ns) h = (omega (arith, h.0), small_wide ns h.1)

-- behind a number stands a space or the end of the line
number_ends : (n : ℕ) (ns : List ℕ) → number_from n (numbers_text ns) ≡ (n, numbers_text ns)
number_ends n [] = refl
number_ends n (m ∷ ns) = refl

-- numbers are read from their text
numbers_read : (ns : List ℕ) → Wide ns → numbers_in (length ns) (numbers_text ns) ≡ Some ns
numbers_read [] h = refl
numbers_read (n ∷ ns) h =
    ap (λ (d : ℕ × List ℕ). with_first d.0 (numbers_in (length ns) d.1)) (number_counts n h.0 (numbers_text ns) ∙ number_ends n ns)
    ∙ ap (with_first n) (numbers_read ns h.1)

-- so are those of a node
pub fits_wide : (x : Node) → NodeFits x → Wide (numbers_of x)
fits_wide (Const v w) h = (h.0, (omega (arith, h.1), tt))
fits_wide x h = small_wide (numbers_of x) h

-- a node is read from its name on
name_read : (x : Node) → Wide (numbers_of x) → from_name (name_text x ++ numbers_text (numbers_of x)) ≡ Some x
name_read (Const v w) h = ap (λ o. after o (node_with form.Const)) (numbers_read (v ∷ w ∷ []) h)
name_read (Succ a w) h = ap (λ o. after o (node_with form.Succ)) (numbers_read (a ∷ w ∷ []) h)
name_read (Pred a w) h = ap (λ o. after o (node_with form.Pred)) (numbers_read (a ∷ w ∷ []) h)
name_read (Binary operator a b w) h =
    ap (λ o. after o from_form) (operator_found operator (numbers_text (a ∷ b ∷ w ∷ [])))
    ∙ ap (λ o. after o (node_with (form.Binary operator))) (numbers_read (a ∷ b ∷ w ∷ []) h)
name_read (Ifz c p q w) h = ap (λ o. after o (node_with form.Ifz)) (numbers_read (c ∷ p ∷ q ∷ w ∷ []) h)
name_read (Der w x) h = ap (λ o. after o (node_with form.Der)) (numbers_read (w ∷ x ∷ []) h)
name_read (Con l r w) h = ap (λ o. after o (node_with form.Con)) (numbers_read (l ∷ r ∷ w ∷ []) h)
name_read (Weak x) h = ap (λ o. after o (node_with form.Weak)) (numbers_read (x ∷ []) h)
name_read (Lam b x w) h = ap (λ o. after o (node_with form.Lam)) (numbers_read (b ∷ x ∷ w ∷ []) h)
name_read (App f a w) h = ap (λ o. after o (node_with form.App)) (numbers_read (f ∷ a ∷ w ∷ []) h)
name_read (BoxNode i o) h = ap (λ o. after o (node_with form.BoxNode)) (numbers_read (i ∷ o ∷ []) h)
name_read (Door i o) h = ap (λ o. after o (node_with form.Door)) (numbers_read (i ∷ o ∷ []) h)
name_read (FixBox b x w) h = ap (λ o. after o (node_with form.FixBox)) (numbers_read (b ∷ x ∷ w ∷ []) h)
name_read (Root w) h = ap (λ o. after o (node_with form.Root)) (numbers_read (w ∷ []) h)
name_read (Pair a b w) h = ap (λ o. after o (node_with form.Pair)) (numbers_read (a ∷ b ∷ w ∷ []) h)
name_read (Proj side a w) h =
    ap (λ o. after o from_form) (part_found side (numbers_text (a ∷ w ∷ [])))
    ∙ ap (λ o. after o (node_with (form.Proj side))) (numbers_read (a ∷ w ∷ []) h)

-- A node is read from its line.
pub node_read : (k : ℕ) (x : Node) → NodeFits x → node_in k (node_line k x) ≡ Some x
node_read k x h = ap (λ o. after o from_name) (behind_itself (decimal k) (name_text x ++ numbers_text (numbers_of x)))
    ∙ name_read x (fits_wide x h)
