-- How a reading begins: past the nodes in front, at the term's own.
use Rattle.std.proofs.Common.{◌≡◌, ℕ, suc, ◌-◌, ◌<◌, List, ◌∷◌, sym, ap, ◌∙◌, arith}
use Rattle.net_build.specs.declared.node.Node.{Node}
use Rattle.net_build.specs.Nets.{WireTree}
use Rattle.net_marks.specs.declared.walk.Mark.{Mark}
use Rattle.net_marks.specs.Passing.{Rest, pass}
use Rattle.net_terms.specs.TermOf.{met, go_on, start, reading}

-- A reading passes the nodes in front, and takes the next one as the term's own, where it is the one that is to come.
pub begins : (ws : List WireTree) (h k a e u : ℕ) (before : List Node) (ms : List Mark) (r : Rest) (n : Node) (after : List Node)
    (new : List Mark) → 0 < h → pass a e u before ms ≡ r → r.nodes ≡ n ∷ after → new ≡ r.marks →
    reading ws h k a e u before ms ≡ met r.want (n ∷ after) (start ws (reading ws (h - 1)) k r.place (n ∷ after) new)
begins ws h k a e u before ms r n after new p q s t =
    let g : h ≡ suc (h - 1) = omega (arith, p) in
    let f = λ (ns : List Node). λ (m : List Mark). met r.want ns (start ws (reading ws (h - 1)) k r.place ns m) in
    ap (λ h. reading ws h k a e u before ms) g ∙ ap (go_on ws (reading ws (h - 1)) k) q ∙ ap (λ ns. f ns r.marks) s
    ∙ ap (f (n ∷ after)) (sym t)
