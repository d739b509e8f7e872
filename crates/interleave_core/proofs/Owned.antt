-- No more tickets of a token that runs by itself are live than were given out.
use Rattle.std.proofs.Common.{◌≡◌, ◌≤◌, ℕ, Bool, true, false, None, Result, Ok, Err, sym, subst, arith}
use Rattle.std.specs.Bool.{MatchBool}
use Rattle.std.specs.Result.{OnErr, IfOk}
use Rattle.std.specs.Ordering.{nat_cmp}
use Rattle.std.specs.FinMap as finite
use Rattle.std.specs.FinMap.{FinMap, len-empty}
use Rattle.net_build.specs.Nets.{NetTree}
use Rattle.move_rules.specs.declared.token.Token.{Token}
use Rattle.move_rules.specs.Places.{TokenTree}
use Rattle.move_rules.specs.Views.{token_of}
use Rattle.interleave_laws.specs.Maps.{MapState}
use Rattle.interleave_laws.proofs.Few.{Few, step_few, adopted_few, one_more}
use Rattle.interleave_core.specs.Moving.{Changes, GoesOn, MakesSome}
use Rattle.interleave_core.specs.Owning.{StepsOwn, StandsForeign}
use Rattle.interleave_core.specs.Parts.{state}

-- at the beginning
pub alone_few : (x : TokenTree) → finite.len (finite.insert (finite.empty {R = nat_cmp}) 0 x) ≤ 1
alone_few x = let k = one_more finite.empty 0 x in let z = len-empty nat_cmp TokenTree in omega (arith, k, z)

-- a token that changes in its place
changed_few : (P : Token → Token → Type 0) (f g : FinMap nat_cmp TokenTree) (i n : ℕ) → Changes P f i g → finite.len f ≤ n →
    finite.len g ≤ n
changed_few P f g i n (x, y, e, p, h) few =
    subst (λ g. finite.len g ≤ n) (sym h) (adopted_few (state f finite.empty n None) i (token_of x) (token_of y) e few)

-- a walk, whether there was memory for it or not
pub walked_few : {E : Type 0} (net : NetTree) (most : ℕ) (r : Result ℕ E) (f g : FinMap nat_cmp TokenTree) (i n : ℕ) →
    IfOk r (λ made. Changes (GoesOn net most made) f i g) → OnErr r (Changes (MakesSome net) f i g) → finite.len f ≤ n →
    finite.len g ≤ n
walked_few net most (Ok made) f g i n h e few = changed_few (GoesOn net most made) f g i n h few
walked_few net most (Err x) f g i n h e few = changed_few (MakesSome net) f g i n e few

-- a step of its own, or none
pub own_few : {E : Type 0} (net : NetTree) (S T : MapState) (i : ℕ) (r : Result Bool E) → Few S →
    IfOk r (λ moved. MatchBool moved (StepsOwn net S i T) (StandsForeign net S i × (T ≡ S))) → OnErr r (T ≡ S) → Few T
own_few net S T i (Ok true) h s e = step_few net S T i h s.0
own_few net S T i (Ok false) h s e = subst Few (sym s.1) h
own_few net S T i (Err x) h s e = subst Few (sym e) h
