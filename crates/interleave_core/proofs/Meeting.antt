-- What a token meets, by the node that it faces.
use Rattle.std.proofs.Common.{◌≡◌, ℕ, Bool, [], ◌∷◌, Option, Some, None, refl, sym, ap, ◌∙◌, subst}
use Rattle.std.specs.Option.{option_map}
use Rattle.token_stacks.specs.Signatures.{Work}
use Rattle.net_build.specs.declared.node.Node.{Node}
use Rattle.net_build.specs.Nets.{NetTree}
use Rattle.move_rules.specs.declared.token.Kind.{Kind}
use Rattle.move_rules.specs.declared.token.Token.{Token}
use Rattle.move_rules.specs.declared.token.Seen.{Seen}
use Rattle.move_rules.specs.Places.{TokenTree}
use Rattle.move_rules.specs.Table.{on_found, facing}
use Rattle.move_rules.specs.Moves.{move, stay}
use Rattle.move_rules.specs.AtNode.{move_at, NotSolo}
use Rattle.move_rules.specs.Views.{place_at, token_of, numbered}
use Rattle.move_rules.proofs.Facing.{move_faced}
use Rattle.move_rules.proofs.Single.{placed, at_met}
use Rattle.interleave_core.specs.declared.roles.Role.{Role}
use Rattle.interleave_core.specs.declared.roles.Role.TheVariants.{Fork, Join, Last, Still}
use Rattle.interleave_core.specs.Roles.{role_at, role_of, role_move, IsIdle, MetAt}
use Rattle.std.specs.Ordering.{nat_cmp}
use Rattle.std.specs.FinMap.{FinMap, get}
use Rattle.interleave_core.proofs.LiveSeen.{work_seen, boxes_seen}
use Rattle.interleave_core.proofs.Playing.{played}

-- a token that makes no solo move at the node that it faces has its role's move
pub met_node : (net : NetTree) (k : Token) (o : Option Seen) (s : Seen) →
    option_map numbered o ≡ facing net (place_at k.wire k.up k.stacks) → o ≡ Some s → NotSolo (move net (token_of k))
    → move net (token_of k) ≡ role_move (role_of s.node k.kind k.up k.wire k.stacks.work) s.at k.stacks.boxes
met_node net k o s h e n =
    let f : facing net (place_at k.wire k.up k.stacks) ≡ Some (s.at, s.node) = sym h ∙ ap (option_map numbered) e in
    let m = at_met net k s.at s.node f in
    m ∙ played s.at s.node k (subst NotSolo m n)

-- a token that faces no node stays
pub met_none : (net : NetTree) (k : Token) (o : Option Seen) → option_map numbered o ≡ facing net (place_at k.wire k.up k.stacks) →
    o ≡ None → move net (token_of k) ≡ stay
met_none net k o h e =
    let f : facing net (place_at k.wire k.up k.stacks) ≡ None = sym h ∙ ap (option_map numbered) e in
    move_faced net (token_of k) ∙ ap (λ p. on_found (facing net p) stay (λ i n. move_at i n (token_of k)))
    (placed k.kind (place_at k.wire k.up k.stacks))
    ∙ ap (λ o. on_found o stay (λ i n. move_at i n (token_of k))) f

-- each role wants an empty work stack
no_work : (r : Role) → IsIdle r []
no_work (Fork a b) = refl
no_work (Join o p v c) = refl
no_work (Last v) = refl
no_work Still = tt

-- and has one
pub idle : (n : Node) (k : Kind) (u : Bool) (w : ℕ) (m : Work) → IsIdle (role_of n k u w m) m
idle n k u w [] = no_work (role_at n k u w)
idle n k u w (x ∷ m) = tt

-- the same of a live token
pub met_live : (net : NetTree) (f : FinMap nat_cmp TokenTree) (i k : ℕ) (r : Role) (x : Token) → get f i ≡ Some (token_of x) →
    move net (token_of x) ≡ role_move r k x.stacks.boxes → IsIdle r x.stacks.work → MetAt net f i k r
met_live net f i k r x e h w = (token_of x, e, h ∙ ap (role_move r k) (sym (boxes_seen x)), subst (IsIdle r) (sym (work_seen x)) w)

-- a live ticket's token
pub live_some : (f : FinMap nat_cmp TokenTree) (i : ℕ) (o : Option Token) (x : Token) → option_map token_of o ≡ get f i →
    o ≡ Some x → get f i ≡ Some (token_of x)
live_some f i o x h e = sym h ∙ ap (option_map token_of) e
