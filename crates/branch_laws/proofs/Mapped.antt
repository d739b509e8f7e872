-- Branches over finite maps, by what those answer.
use Rattle.std.proofs.Common.{◌≡◌, ℕ, suc, ◌+◌, ◌<◌, ◌≤◌, cond, List, [], ◌∷◌, ◌++◌, length, Option, Some}
use Rattle.std.proofs.Common.{None, refl, sym, ap, ◌∙◌, subst, arith}
use Rattle.std.proofs.Math.Path.{fun_ext}
use Rattle.std.specs.Prelude.{nat_eq, map}
use Rattle.std.specs.Option.{IsSome}
use Rattle.std.specs.FinMap as finmap
use Rattle.std.specs.FinMap.{get-empty}
use Rattle.std.specs.Ordering.{nat_cmp}
use Rattle.pcf_values.specs.declared.val.Val.{Val}
use Rattle.pcf_values.specs.declared.operator.Operator.{Operator}
use Rattle.pcf_values.specs.declared.side.Side.{Side}
use Rattle.token_stacks.specs.Signatures.{Boxes}
use Rattle.fork_join.specs.Entries.{Entry, key_cmp}
use Rattle.net_build.specs.Nets.{NetTree}
use Rattle.net_build.specs.Sound.{Sound}
use Rattle.move_rules.specs.Walks.{Walks}
use Rattle.move_rules.specs.Places.{TokenTree}
use Rattle.move_rules.specs.Moves.{join, move}
use Rattle.interleave_laws.specs.States.{set_token, State, run}
use Rattle.interleave_laws.specs.Start.{start_of}
use Rattle.interleave_laws.specs.Runs.{Runs}
use Rattle.interleave_laws.specs.Maps.{MapState, start_map, step_map, run_map, LeadsToMap, then_run_map, seen}
use Rattle.interleave_laws.specs.MapRuns.{IsReachedWithin, option_seen}
use Rattle.interleave_laws.proofs.Seen.{tokens_put, step_seen, run_seen, seen_same}
use Rattle.interleave_laws.proofs.MapLaws.{run_next, from_seen, seen_leads, run_both}
use Rattle.interleave_laws.proofs.TrailSteps.{walk_map}
use Rattle.interleave_laws.proofs.Few.{Few, step_few}
use Rattle.std.proofs.lemmas.List.{length-append, length-map}
use Rattle.branch_laws.specs.Branches.{start_at, name, grafted_tokens, grafted_entries, grafted, start_map_at, GraftOf}
use Rattle.branch_laws.proofs.Grafting.{graft_put}
use Rattle.branch_laws.specs.Laws.{Branched, BranchedMap, Occurs}
use Rattle.branch_laws.proofs.Playing.{Foreign, branch_runs, branch_apart, branch_low, branch_stops, same_tokens, leaves}

-- a branch over maps begins as what it answers
pub start_at_seen : (x : TokenTree) → seen (start_map_at x) ≡ start_at x
start_at_seen x =
    let tokens : (λ (j : ℕ). finmap.get (finmap.insert finmap.empty 0 x) j) ≡ (λ j. cond (nat_eq j 0) (Some x) None) =
    tokens_put finmap.empty 0 x ∙ ap (λ f. set_token f 0 (Some x)) (fun_ext (λ j. get-empty nat_cmp j)) in
    let entries : (λ (n : ℕ) (t : Boxes). finmap.get {X = Entry} {R = key_cmp} finmap.empty (n, t)) ≡ (λ n t. None) =
    fun_ext (λ n. fun_ext (λ t. get-empty key_cmp (n, t))) in
    λ k. record { tokens = tokens k; entries = entries k; next = 1; answered = None }

-- and goes on as that
pub run_at_seen : (net : NetTree) (x : TokenTree) (l : List ℕ) (B : MapState) → run_map net (start_map_at x) l ≡ Some B →
    run net (start_at x) l ≡ Some (seen B)
run_at_seen net x l B h = ap (λ S. run net S l) (sym (start_at_seen x)) ∙ sym (run_seen net (start_map_at x) l) ∙ ap option_seen h

pub branched_seen : (net : NetTree) (x : TokenTree) (l : List ℕ) (B : MapState) → BranchedMap net x l B → Branched net x l (seen B)
branched_seen net x l B (h, none) = (run_at_seen net x l B h, none)

-- what is grafted answers so
pub graft_seen : (S : MapState) (i : ℕ) (B T : MapState) → GraftOf S i B T → seen T ≡ grafted (seen S) i (seen B)
graft_seen S i B T g =
    let tokens = fun_ext g.tokens in
    let entries = fun_ext (λ n. fun_ext (g.entries n)) in
    let next = g.next in
    let answered = g.answered in
    λ k. record { tokens = tokens k; entries = entries k; next = next k; answered = answered k }

-- and what answers so is grafted
pub seen_graft : (S : MapState) (i : ℕ) (B T : MapState) → seen T ≡ grafted (seen S) i (seen B) → GraftOf S i B T
seen_graft S i B T h = record {
  tokens = λ j. ap (λ (U : State). U.tokens j) h;
  entries = λ n t. ap (λ (U : State). U.entries n t) h;
  next = ap (λ (U : State). U.next) h;
  answered = ap (λ (U : State). U.answered) h;
}

module _ (net : NetTree) (sound : Sound net) (log : List ℕ) (S : MapState) (led : LeadsToMap net log S) (i : ℕ) (x : TokenTree)
    (here : finmap.get S.tokens i ≡ Some x)
    (l : List ℕ) (B : MapState) (b : BranchedMap net x l B) where
  -- the run over maps
  goes : (T : MapState) × (run_map net S (map (name i S.next) l) ≡ Some T) × (seen T ≡ grafted (seen S) i (seen B))
  goes = from_seen (run_map net S (map (name i S.next) l)) (grafted (seen S) i (seen B))
      (run_seen net S (map (name i S.next) l) ∙
      branch_runs net sound log (seen S) (seen_leads net log S led) i x here l (seen B) (branched_seen net x l B b))

  pub map_runs : (T : MapState) → GraftOf S i B T → run_map net S (map (name i S.next) l) ≡ Some T
  map_runs T g = let (U, r, z) = goes in r ∙ ap Some (seen_same U T (z ∙ sym (graft_seen S i B T g)))

  pub map_grafts : (T : MapState) × GraftOf S i B T
  map_grafts = let (U, r, z) = goes in (U, seen_graft S i B U z)

  pub map_leads : (T : MapState) → GraftOf S i B T → LeadsToMap net (log ++ map (name i S.next) l) T
  map_leads T g = run_both net log (map (name i S.next) l) (start_map (start_of net)) S T led (map_runs T g)

  pub map_apart : (n : ℕ) (t : Boxes) (e : Entry) → finmap.get B.entries (n, t) ≡ Some e → finmap.get S.entries (n, t) ≡ None
  map_apart n t e h = branch_apart net sound log (seen S) (seen_leads net log S led) i x here l (seen B) (branched_seen net x l B b) n t e h

  pub map_low : (k : ℕ) (y : TokenTree) → finmap.get B.tokens k ≡ Some y → k < B.next
  map_low k y h = branch_low net sound log (seen S) (seen_leads net log S led) i x here l (seen B) (branched_seen net x l B b) k y h

-- a live ticket has its step, but at a join whose entry isn't the branch's
pub map_stops : (net : NetTree) (runs : Runs net) (log : List ℕ) (S : MapState) → LeadsToMap net log S → (i : ℕ) (x : TokenTree) →
    finmap.get S.tokens i ≡ Some x → (l : List ℕ) (B : MapState) → BranchedMap net x l B →
    (k : ℕ) (y : TokenTree) → finmap.get B.tokens k ≡ Some y → step_map net B k ≡ None → Foreign (seen B) (move net y)
map_stops net runs log S led i x here l B b k y h none =
    branch_stops net runs log (seen S) (seen_leads net log S led) i x here l (seen B) (branched_seen net x l B b) k y h
    (sym (step_seen net B k) ∙ ap option_seen none)

-- reached in as many more moves
pub map_reached : (net : NetTree) → Sound net → (n : ℕ) (S : MapState) → IsReachedWithin net n S → (i : ℕ) (x : TokenTree) →
    finmap.get S.tokens i ≡ Some x → (l : List ℕ) (B : MapState) → BranchedMap net x l B →
    (T : MapState) → GraftOf S i B T → IsReachedWithin net (n + length l) T
map_reached net sound n S (log, led, few) i x here l B b T g =
    let a = length-append log (map (name i S.next) l) in
    let c = length-map l (name i S.next) in
    (log ++ map (name i S.next) l, map_leads net sound log S led i x here l B b T g, omega (arith, a, c, few))

-- every other ticket has what it had
pub map_leaves : (S B T : MapState) (i j : ℕ) → GraftOf S i B T → j < S.next → (j ≡ i → ⊥) →
    finmap.get T.tokens j ≡ finmap.get S.tokens j
map_leaves S B T i j g l d = g.tokens j ∙ leaves (seen S) (seen B) i j l d

-- the beginning
pub map_begins : (net : NetTree) (x : TokenTree) → BranchedMap net x [] (start_map_at x)
map_begins net x = (refl, refl)

-- a step more
pub map_steps : (net : NetTree) (x : TokenTree) (l : List ℕ) (B C : MapState) (k : ℕ) → BranchedMap net x l B →
    step_map net B k ≡ Some C → C.answered ≡ None → BranchedMap net x (l ++ k ∷ []) C
map_steps net x l B C k b h none = (run_both net l (k ∷ []) (start_map_at x) B C b.0 (ap (λ o. then_run_map o (λ S. Some S)) h), none)

-- a walk more
pub map_walks : (net : NetTree) (x : TokenTree) (l : List ℕ) (B : MapState) (k : ℕ) (trail : List ℕ) (y z : TokenTree) →
    BranchedMap net x l B → finmap.get B.tokens k ≡ Some y → Walks net y trail z →
    BranchedMap net x (l ++ map (λ n. k) trail) (record B { tokens = finmap.insert B.tokens k z })
map_walks net x l B k trail y z b e w = (
  run_both net l (map (λ n. k) trail) (start_map_at x) B (record B { tokens = finmap.insert B.tokens k z }) b.0
      (walk_map net trail B k y z e w),
  b.1,
)

-- a branch of solo moves of its first ticket is a walk
pub map_plain : (S : MapState) (i : ℕ) (x y : TokenTree) →
    ((j : ℕ) (z : TokenTree) → finmap.get S.tokens j ≡ Some z → j < S.next) → finmap.get S.tokens i ≡ Some x →
    GraftOf S i (record (start_map_at x) { tokens = finmap.insert (start_map_at x).tokens 0 y })
    (record S { tokens = finmap.insert S.tokens i y })
map_plain S i x y low here =
    let B : MapState = record (start_map_at x) { tokens = finmap.insert (start_map_at x).tokens 0 y } in
    let T : MapState = record S { tokens = finmap.insert S.tokens i y } in
    let f = (seen S).tokens in
    let own : (seen B).tokens ≡ set_token (start_at x).tokens 0 (Some y) = tokens_put (start_map_at x).tokens 0 y ∙
    ap (λ (U : State). set_token U.tokens 0 (Some y)) (start_at_seen x) in
    let tokens : (seen T).tokens ≡ grafted_tokens f i S.next (seen B).tokens =
    tokens_put S.tokens i y ∙ ap (λ f. set_token f i (Some y)) (sym (fun_ext (same_tokens f i S.next x here low)))
    ∙ graft_put f i S.next (low i x here) (start_at x).tokens 0 (Some y) ∙ ap (grafted_tokens f i S.next) (sym own) in
    let entries : (seen T).entries ≡ grafted_entries (seen S).entries (seen B).entries =
    ap (λ (U : State). grafted_entries (seen S).entries U.entries) (sym (start_at_seen x)) in
    let next : S.next ≡ S.next + 0 = omega arith in
    seen_graft S i B T (λ k. record { tokens = tokens k; entries = entries k; next = next k; answered = S.answered })

-- no more tokens are live than tickets were given out
pub run_few : (net : NetTree) (log : List ℕ) (S T : MapState) → Few S → run_map net S log ≡ Some T → Few T
run_few net [] S T f h = let q : S ≡ T = cc in subst Few q f
run_few net (i ∷ log) S T f h = go (step_map net S i) refl (λ U. run_few net log U T) h
  where
    go : (o : Option MapState) → step_map net S i ≡ o → ((U : MapState) → Few U → run_map net U log ≡ Some T → Few T) →
        then_run_map o (λ U. run_map net U log) ≡ Some T → Few T
    go None e ih h = cc
    go (Some U) e ih h = ih U (step_few net S U i f e) h

-- a branch makes as many tickets as it has moves at most
pub map_tickets : (net : NetTree) (x : TokenTree) (l : List ℕ) (B : MapState) → run_map net (start_map_at x) l ≡ Some B →
    B.next ≤ suc (length l)
map_tickets net x l B h = let a = run_next net l (start_at x) (seen B) (run_at_seen net x l B h) in omega arith

-- and so of what is grafted
pub map_few : (net : NetTree) → Sound net → (log : List ℕ) (S : MapState) → LeadsToMap net log S → (i : ℕ) (x : TokenTree) →
    finmap.get S.tokens i ≡ Some x → (l : List ℕ) (B : MapState) → BranchedMap net x l B →
    (T : MapState) → GraftOf S i B T → finmap.len S.tokens ≤ S.next → finmap.len T.tokens ≤ T.next
map_few net sound log S led i x here l B b T g f =
    run_few net (map (name i S.next) l) S T f (map_runs net sound log S led i x here l B b T g)

-- the next ticket isn't live
pub map_fresh : (net : NetTree) → Sound net → (x : TokenTree) → Occurs net x → (l : List ℕ) (B : MapState) →
    BranchedMap net x l B → finmap.get B.tokens B.next ≡ None
map_fresh net sound x (log, S, i, led, here) l B b = go (finmap.get B.tokens B.next) refl
  where
    go : (o : Option TokenTree) → finmap.get B.tokens B.next ≡ o → o ≡ None
    go None e = refl
    go (Some y) e = let k = map_low net sound log S led i x here l B b B.next y e in absurd (omega arith)

not_both : (o : Option Entry) → o ≡ None → IsSome o → ⊥
not_both None e h = cc
not_both (Some y) e h = cc

-- a live ticket has its step where its entry is the branch's
pub map_able : (net : NetTree) → Runs net → (x : TokenTree) → Occurs net x → (l : List ℕ) (B : MapState) →
    BranchedMap net x l B → (k : ℕ) (y : TokenTree) → finmap.get B.tokens k ≡ Some y →
    ((n : ℕ) (o : Operator) (s : Side) (v : Val) (w : ℕ) (t : Boxes) → move net y ≡ join n o s v w t →
    IsSome (finmap.get B.entries (n, t))) → IsSome (step_map net B k)
map_able net runs x (log, S, i, led, here) l B b k y e own = go (step_map net B k) refl
  where
    go : (o : Option MapState) → step_map net B k ≡ o → IsSome o
    go (Some C) h = refl
    go None h =
        let (n, o, s, v, w, t, m, none) = map_stops net runs log S led i x here l B b k y e h in
        absurd (not_both (finmap.get B.entries (n, t)) none (own n o s v w t m))
