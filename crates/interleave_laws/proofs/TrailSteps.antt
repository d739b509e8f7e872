-- A walk of solo moves is as many steps of its ticket, over functions and over finite maps.
use Rattle.std.proofs.Common.{◌≡◌, ℕ, Bool, true, false, cond, List, [], ◌∷◌, Option, Some, refl, sym, ap, ◌∙◌}
use Rattle.std.proofs.Math.Path.{fun_ext}
use Rattle.std.proofs.lemmas.Bool.{eq-eqb, eqb-true}
use Rattle.std.specs.Prelude.{nat_eq, map}
use Rattle.std.specs.List.{All}
use Rattle.std.specs.FinMap as finmap
use Rattle.net_build.specs.Nets.{NetTree}
use Rattle.net_build.specs.Sound.{Sound}
use Rattle.move_rules.specs.Places.{TokenTree}
use Rattle.move_rules.specs.declared.token.Seen.{Seen}
use Rattle.move_rules.specs.Views.{token_of}
use Rattle.move_rules.specs.Walks.{Walks, numbers, Stands, Passage, Reached}
use Rattle.move_rules.proofs.Trails.{trail_walks}
use Rattle.interleave_laws.specs.States.{Tokens, State, set_token, step, step_on, act, then_run, run}
use Rattle.interleave_laws.specs.Maps.{MapState, run_map, seen}
use Rattle.interleave_laws.proofs.Seen.{tokens_put, run_seen, seen_same}
use Rattle.interleave_laws.proofs.MapLaws.{from_seen}

-- what is written over itself stays
put_same : (f : Tokens) (i : ℕ) (x : TokenTree) → f i ≡ Some x → f ≡ set_token f i (Some x)
put_same f i x h = fun_ext (λ j. go j (nat_eq j i) refl)
  where
    go : (j : ℕ) (b : Bool) → nat_eq j i ≡ b → f j ≡ cond b (Some x) (f j)
    go j true e = ap f (eqb-true j i e) ∙ h
    go j false e = refl

-- what is written twice
put_twice : (f : Tokens) (i : ℕ) (x y : TokenTree) → set_token (set_token f i (Some x)) i (Some y) ≡ set_token f i (Some y)
put_twice f i x y = fun_ext (λ j. go (nat_eq j i) (f j))
  where
    go : (b : Bool) (o : Option TokenTree) → cond b (Some y) (cond b (Some x) o) ≡ cond b (Some y) o
    go true o = refl
    go false o = refl

-- over functions
pub walk_run : (net : NetTree) (trail : List ℕ) (S : State) (i : ℕ) (x y : TokenTree) → S.tokens i ≡ Some x →
    Walks net x trail y → run net S (map (λ n. i) trail) ≡ Some (record S { tokens = set_token S.tokens i (Some y) })
walk_run net [] S i x y e w = let p = put_same S.tokens i y (e ∙ ap Some w) in λ k. Some (record S { tokens = p k })
walk_run net (n ∷ trail) S i x y e (z, m, w) =
    let T : State = record S { tokens = set_token S.tokens i (Some z) } in
    let one : step net S i ≡ Some T = ap (λ o. step_on net o S i) e ∙ ap (λ m. act m S i) m in
    let here : T.tokens i ≡ Some z = ap (λ b. cond b (Some z) (S.tokens i)) (eq-eqb i i refl) in
    let p = put_twice S.tokens i z y in
    ap (λ o. then_run o (λ S. run net S (map (λ n. i) trail))) one ∙ walk_run net trail T i z y here w ∙
    (λ k. Some (record S { tokens = p k }))

-- over finite maps
pub walk_map : (net : NetTree) (trail : List ℕ) (S : MapState) (i : ℕ) (x y : TokenTree) → finmap.get S.tokens i ≡ Some x →
    Walks net x trail y → run_map net S (map (λ n. i) trail) ≡ Some (record S { tokens = finmap.insert S.tokens i y })
walk_map net trail S i x y e w =
    let p = tokens_put S.tokens i y in
    let T : State = record (seen S) { tokens = set_token (seen S).tokens i (Some y) } in
    let U : MapState = record S { tokens = finmap.insert S.tokens i y } in
    let (V, q, z) = from_seen (run_map net S (map (λ n. i) trail)) T (run_seen net S (map (λ n. i) trail) ∙
    walk_run net trail (seen S) i x y e w) in
    let same : seen U ≡ T = λ k. record (seen S) { tokens = p k } in
    q ∙ ap Some (seen_same V U (z ∙ sym same))

-- as many as the one are as many as the other
as_many : (i : ℕ) (trail : List Seen) → map (λ (n : ℕ). i) (numbers trail) ≡ map (λ (s : Seen). i) trail
as_many i [] = refl
as_many i (s ∷ trail) = ap (λ l. i ∷ l) (as_many i trail)

-- a trail, whatever net it was walked on
pub trail_map : (net : NetTree) → Sound net → (m : Passage) → Reached m → All (Stands net) m.trail → (S : MapState) (i : ℕ) →
    finmap.get S.tokens i ≡ Some (token_of m.before) →
    run_map net S (map (λ s. i) m.trail) ≡ Some (record S { tokens = finmap.insert S.tokens i (token_of m.after) })
trail_map net sound m r a S i e =
    let w = trail_walks net sound m.trail a (token_of m.before) (token_of m.after) r in
    ap (run_map net S) (sym (as_many i m.trail)) ∙ walk_map net (numbers m.trail) S i (token_of m.before) (token_of m.after) e w
