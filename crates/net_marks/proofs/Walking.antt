-- The nodes that are left, one by one.
use Rattle.std.proofs.Common.{◌≡◌, ℕ, suc, ◌-◌, ◌<◌, ◌≤◌, List, [], ◌∷◌, length, reverse, take, get_or, Option, Some, None, sym, ap, ◌∙◌}
use Rattle.std.proofs.Common.{subst, arith}
use Rattle.std.specs.Prelude.{slice_get}
use Rattle.std.proofs.Math.Seq.{take-suc}
use Rattle.std.proofs.lemmas.List.{reverse-append}
use Rattle.std.proofs.lemmas.Option.{slice_get-get_or}
use Rattle.net_build.specs.declared.node.Node.{Node}
use Rattle.net_build.specs.declared.node.Node.TheVariants.{Weak}
use Rattle.net_marks.specs.declared.walk.Mark.{Mark}
use Rattle.net_marks.specs.Passing.{rest, pass}
use Rattle.net_marks.specs.Walks.{Comes, Passed}

-- the last of the first k nodes
pub comes : (ns : List Node) (k : ℕ) (o : Option Node) → 0 < k → k ≤ length ns → o ≡ slice_get ns (k - 1)
    → Comes o (reverse (take k ns)) (reverse (take (k - 1) ns))
comes ns k o p u h =
    let j = k - 1 in
    let d = Weak 0 in
    let e : k ≡ suc j = omega (arith, p) in
    let l : j < length ns = omega (arith, p, u) in
    let x = get_or ns j d in
    let r : reverse (take k ns) ≡ x ∷ reverse (take j ns) =
    ap (λ k. reverse (take k ns)) e ∙ ap reverse (take-suc ns j d l) ∙ reverse-append (take j ns) (x ∷ []) in
    subst (λ o. Comes o (reverse (take k ns)) (reverse (take j ns))) (sym (h ∙ slice_get-get_or ns j d l)) r

-- a node that was passed
pub passed_on : (around e u : ℕ) (p : ℕ × ℕ × ℕ) (n : Node) (before after : List Node) (ms new : List Mark) → Comes (Some n) before after
    → Passed (Some p) around e u n ms new → pass p.0 p.1 p.2 after new ≡ pass around e u before ms
passed_on around e u p n before after ms new c h = sym (ap (λ ns. pass around e u ns ms) c ∙ h after)

-- a node that stays
pub stays : (around e u : ℕ) (n : Node) (before after : List Node) (ms new : List Mark) → Comes (Some n) before after
    → Passed None around e u n ms new → pass around e u before ms ≡ rest e u before new
stays around e u n before after ms new c h =
    ap (λ ns. pass around e u ns ms) c ∙ h.0 after ∙ ap (λ ns. rest e u ns ms) (sym c) ∙ ap (rest e u before) (sym h.1)
