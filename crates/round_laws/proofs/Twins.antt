-- Where there are enough processors, a schedule that leaves none idle makes rounds.
-- Its states are alike to those of the rounds, but for their tickets. So as many tokens are live, and a unit of as many tickets as there
-- are processors leaves no live ticket out.
use Rattle.std.proofs.Common.{◌≡◌, ℕ, suc, ◌+◌, ◌≤◌, List, [], ◌∷◌, ◌++◌, length, Some, refl, sym, ap}
use Rattle.std.proofs.Common.{◌∙◌, subst, ⊎_elim, inl, inr, arith}
use Rattle.std.proofs.lemmas.List.{length-append}
use Rattle.std.proofs.lemmas.Option.{same_Some}
use Rattle.net_build.specs.Nets.{NetTree}
use Rattle.move_rules.specs.Places.{TokenTree, place_of}
use Rattle.interleave_laws.specs.Start.{start_of}
use Rattle.interleave_laws.specs.States.{State, start, step, then_run, run}
use Rattle.interleave_laws.specs.Runs.{Runs, LeadsTo}
use Rattle.interleave_laws.specs.Asked.{Member, Once}
use Rattle.interleave_laws.specs.Bare.{SameBare}
use Rattle.interleave_laws.proofs.Running.{one_place, run_append, run_on}
use Rattle.interleave_laws.proofs.Others.{others_live}
use Rattle.interleave_laws.proofs.AnyOrder.{alike_steps}
use Rattle.round_laws.specs.Rounds.{live_of, round_log}
use Rattle.round_laws.specs.AfterRounds.{rounds}
use Rattle.round_laws.specs.Units.{IsUnit, IsWhole, AreUnits, joined, NoneIdle, LeavesNoneIdle}
use Rattle.round_laws.proofs.Rounding.{live_whole, rounds_lead, rounds_led, rounds_go_on, run_both}
use Rattle.round_laws.proofs.Order.{alike_self, alike_on, member_split, once_rest, split_at, round_order}
use Rattle.round_laws.proofs.Spanning.{in_state}
use Rattle.interleave_laws.proofs.Reached.{from_run}

-- what has each entry once, and no fewer than a list that has them all, has all of that list
pub all_there : (a b : List ℕ) → Once a → Once b → ((i : ℕ) → Member i a → Member i b) → length b ≤ length a → (i : ℕ) →
    Member i b → Member i a
all_there [] [] o o' h l i m = m
all_there [] (j ∷ b) o o' h l i m = absurd (omega arith)
all_there (j ∷ a) b o o' h l i m =
    let (c, d, e) = split_at b j (h j (inl refl)) in
    let (once, gone) = once_rest c d j (subst Once e o') in
    let inside : (k : ℕ) → Member k a → Member k (c ++ d) = λ k n.
    ⊎_elim (λ q. absurd (o.0 (subst (λ k. Member k a) q n))) (λ n. n) (member_split c d j k (subst (Member k) e (h k (inr n)))) in
    let long = ap length e ∙ length-append c (j ∷ d) in
    let long' = length-append c d in
    ⊎_elim (λ q. inl q)
    (λ n. inr (all_there a (c ++ d) o.1 once inside (omega (arith, long, long', l)) i n)) (member_split c d j i (subst (Member i) e m))

-- two lists of tickets that have the same tokens, each in its state
abbrev pub Twin : State → State → List ℕ → List ℕ → Type 0
Twin S T [] [] = Unit {0}
Twin S T [] (j ∷ m) = ⊥
Twin S T (i ∷ l) [] = ⊥
Twin S T (i ∷ l) (j ∷ m) = ((x : TokenTree) × (S.tokens i ≡ Some x) × (T.tokens j ≡ Some x)) × Twin S T l m

-- as many
as_many : (S T : State) (l m : List ℕ) → Twin S T l m → length l ≡ length m
as_many S T [] [] t = refl
as_many S T [] (j ∷ m) t = absurd t
as_many S T (i ∷ l) [] t = absurd t
as_many S T (i ∷ l) (j ∷ m) (a, t) = ap suc (as_many S T l m t)

-- whose twin is this
whose : (S T : State) (l m : List ℕ) → Twin S T l m → (j : ℕ) → Member j m → (i : ℕ) × (x : TokenTree) × Member i l ×
    (S.tokens i ≡ Some x) × (T.tokens j ≡ Some x)
whose S T l [] t j h = absurd h
whose S T [] (k ∷ m) t j h = absurd t
whose S T (i ∷ l) (k ∷ m) ((x, e, g), t) j (inl q) = (i, x, inl refl, e, ap T.tokens q ∙ g)
whose S T (i ∷ l) (k ∷ m) (a, t) j (inr h) = let (i', y, n, e', g') = whose S T l m t j h in (i', y, inr n, e', g')

module _ (net : NetTree) (runs : Runs net) where
  same_token : (x y : TokenTree) → Some x ≡ Some y → x ≡ y
  same_token x y h = cc

  -- a unit has its twin in a state alike
  twin_of : (log log' : List ℕ) (S T : State) → LeadsTo net log S → LeadsTo net log' T → SameBare S T → (l : List ℕ) → IsUnit S l →
      (m : List ℕ) × Twin S T l m × Once m
  twin_of log log' S T h h' alike [] u = ([], tt, tt)
  twin_of log log' S T h h' alike (i ∷ l) u =
      let rest : IsUnit S l = record { live = λ j n. u.live j (inr n); once = u.once.1 } in
      let (m, t, o) = twin_of log log' S T h h' alike l rest in
      let (x, e) = u.live i (inl refl) in
      let (j, g) = alike.stays x (i, e) in
      let new : Member j m → ⊥ = λ n.
      let (k, y, n', e', g') = whose S T l m t j n in
      let same : x ≡ y = same_token x y (sym g ∙ g') in
      let q : k ≡ i = one_place net runs.sound log S h k i y x e' e (ap place_of (sym same)) in
      u.once.0 (subst (λ k. Member k l) q n') in
      (j ∷ m, ((x, e, g), t), (new, o))

  twin_unit : (S T : State) (l m : List ℕ) → Twin S T l m → Once m → IsUnit T m
  twin_unit S T l m t o = record { live = λ j n. let (i, x, _, _, g) = whose S T l m t j n in (x, g); once = o }

  -- twins that stay
  stay : (log log' : List ℕ) (S T S1 T1 : State) (i j : ℕ) → LeadsTo net log S → LeadsTo net log' T → step net S i ≡ Some S1 →
      step net T j ≡ Some T1 → (l m : List ℕ) → (Member i l → ⊥) → (Member j m → ⊥) → Twin S T l m → Twin S1 T1 l m
  stay log log' S T S1 T1 i j h h' s s' [] [] d d' t = tt
  stay log log' S T S1 T1 i j h h' s s' [] (b ∷ m) d d' t = absurd t
  stay log log' S T S1 T1 i j h h' s s' (a ∷ l) [] d d' t = absurd t
  stay log log' S T S1 T1 i j h h' s s' (a ∷ l) (b ∷ m) d d' ((x, e, g), t) = (
    (
      x,
      others_live net runs.sound log S h S1 i a x s (λ q. d (inl (sym q))) e,
      others_live net runs.sound log' T h' T1 j b x s' (λ q. d' (inl (sym q))) g,
    ),
    stay log log' S T S1 T1 i j h h' s s' l m (λ n. d (inr n)) (λ n. d' (inr n)) t,
  )

  -- twins lead to states alike
  twin_run : (log log' : List ℕ) (S T : State) → LeadsTo net log S → LeadsTo net log' T → SameBare S T → (l m : List ℕ) →
      Twin S T l m → Once l → Once m → (S' : State) → run net S l ≡ Some S' → (T' : State) × (run net T m ≡ Some T') ×
      SameBare S' T'
  twin_run log log' S T h h' alike [] [] t o o' S' r = (T, refl, subst (λ S. SameBare S T) (same_Some S S' r) alike)
  twin_run log log' S T h h' alike [] (j ∷ m) t o o' S' r = absurd t
  twin_run log log' S T h h' alike (i ∷ l) [] t o o' S' r = absurd t
  twin_run log log' S T h h' alike (i ∷ l) (j ∷ m) ((x, e, g), t) o o' S' r =
      let (S1, s, r1) = from_run (step net S i) (λ S. run net S l) S' r in
      let (T1, s', alike1) = alike_steps net runs.sound log log' S T h h' alike i j x e g S1 s in
      let t1 = stay log log' S T S1 T1 i j h h' s s' l m o.0 o'.0 t in
      let (T', q, a) = twin_run (log ++ i ∷ []) (log' ++ j ∷ []) S1 T1 (run_append net log _ S S1 i h s)
      (run_append net log' _ T T1 j h' s') alike1 l m t1 o.1 o'.1 S' r1 in
      (T', ap (λ o. then_run o (λ T. run net T m)) s' ∙ q, a)

  -- a unit that leaves no processor idle leaves no live ticket out, where the state alike has no more live tokens than processors
  twin_whole : (log log' : List ℕ) (S T : State) → LeadsTo net log S → LeadsTo net log' T → SameBare S T → (p : ℕ) →
      length (live_of T) ≤ p → (l m : List ℕ) → Twin S T l m → Once m → NoneIdle p S l → IsWhole T m
  twin_whole log log' S T h h' alike p few l m t o (inl w) j (x, g) =
      let (i, e) = alike.back x (j, g) in
      find l m t (w i (x, e)) e
    where
      find : {i : ℕ} (l m : List ℕ) → Twin S T l m → Member i l → S.tokens i ≡ Some x → Member j m
      find [] m t n e = absurd n
      find (a ∷ l) [] t n e = absurd t
      find (a ∷ l) (b ∷ m) ((y, e', g'), t) (inl q) e =
          let same : x ≡ y = same_token x y (sym e ∙ ap S.tokens q ∙ e') in
          inl (one_place net runs.sound log' T h' j b x y g g' (ap place_of same))
      find (a ∷ l) (b ∷ m) (c, t) (inr n) e = inr (find l m t n e)
  twin_whole log log' S T h h' alike p few l m t o (inr many) j live =
      let (u, w) = live_whole net runs.sound log' T h' in
      let unit = twin_unit S T l m t o in
      let long = as_many S T l m t in
      all_there m (live_of T) o u.once (λ i n. w i (unit.live i n)) (omega (arith, long, many, few)) j (w j live)

  -- so the units are rounds, but for tickets
  rounds_alike : (p : ℕ) → ((k : ℕ) (S : State) → rounds net k ≡ Some S → length (live_of S) ≤ p) → (ls : List (List ℕ))
      (log : List ℕ) (k : ℕ) (S T S' T' : State) → LeadsTo net log S → rounds net k ≡ Some T → SameBare S T →
      AreUnits (NoneIdle p) net S ls → run net S (joined ls) ≡ Some S' → rounds net (k + length ls) ≡ Some T' → SameBare S' T'
  rounds_alike p few [] log k S T S' T' h r alike u g r' =
      let z : k + 0 ≡ k = omega arith in
      let q : T ≡ T' = same_Some T T' (sym r ∙ sym (sym r' ∙ ap (rounds net) z)) in
      subst (λ T. SameBare S' T) q (subst (λ S. SameBare S T) (same_Some S S' g) alike)
  rounds_alike p few (l ∷ ls) log k S T S' T' h r alike (u, busy, rest) g r' =
      let (S1, s, g1) = from_run (run net S l) (λ S. run net S (joined ls)) S' (sym (run_both net l (joined ls) S) ∙ g) in
      let led = rounds_led net k T r in
      let (m, t, once) = twin_of log (round_log net k) S T h led alike l u in
      let (V, q, alike1) = twin_run log (round_log net k) S T h led alike l m t u.once once S1 s in
      let whole = twin_whole log (round_log net k) S T h led alike p (few k T r) l m t once busy in
      let (T1, r1, _) = rounds_lead net runs (suc k) in
      let one = sym (rounds_go_on net k T r).0 ∙ r1 in
      let alike2 = round_order net runs (round_log net k) T led m (twin_unit S T l m t once) whole V T1 q one in
      let z : suc k + length ls ≡ k + suc (length ls) = omega arith in
      rounds_alike p few ls (log ++ l) (suc k) S1 T1 S' T' (run_on net log l _ S S1 h s) r1 (alike_on S1 V T1 alike1 alike2)
      (in_state net runs (run net S l) _ S1 s rest) g1 (ap (rounds net) z ∙ r')

  pub as_rounds : (p : ℕ) → ((k : ℕ) (S : State) → rounds net k ≡ Some S → length (live_of S) ≤ p) → (ls : List (List ℕ)) →
      LeavesNoneIdle p net ls → (S T : State) → LeadsTo net (joined ls) S → rounds net (length ls) ≡ Some T → SameBare S T
  as_rounds p few ls u S T h r =
      let z : 0 + length ls ≡ length ls = omega arith in
      rounds_alike p few ls [] 0 (start (start_of net)) (start (start_of net)) S T refl refl (alike_self _) u h (ap (rounds net) z ∙ r)
