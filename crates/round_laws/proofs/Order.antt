-- The order within a unit.
-- A ticket of a unit can be moved before those in front of it, one after the other, by the exchange of two moves. What is behind it is
-- there again under the same tickets, since their tokens have stayed. So two lists of the same tickets come to states alike.
use Rattle.std.proofs.Common.{◌≡◌, ◌≢◌, ◌⊎◌, ℕ, List, [], ◌∷◌, ◌++◌, Some, refl, sym, ap, ◌∙◌, subst, ⊎_elim, inl, inr}
use Rattle.std.proofs.lemmas.Option.{same_Some}
use Rattle.net_build.specs.Nets.{NetTree}
use Rattle.move_rules.specs.Places.{TokenTree}
use Rattle.interleave_laws.specs.States.{State, step, then_run, run}
use Rattle.interleave_laws.specs.Runs.{Runs, LeadsTo}
use Rattle.interleave_laws.specs.Asked.{Member, Once}
use Rattle.interleave_laws.specs.Bare.{SameBare}
use Rattle.interleave_laws.proofs.Running.{run_append}
use Rattle.interleave_laws.proofs.Others.{others_live}
use Rattle.interleave_laws.proofs.AnyOrder.{alike_steps}
use Rattle.interleave_laws.proofs.Diamond.{diamond}
use Rattle.round_laws.specs.Rounds.{live_of, round}
use Rattle.round_laws.specs.Units.{IsUnit, IsWhole}
use Rattle.round_laws.specs.OrderLaws.{SameMembers}
use Rattle.round_laws.proofs.Rounding.{unit_rest, live_whole}
use Rattle.interleave_laws.proofs.Reached.{from_run}

-- states alike
pub alike_self : (S : State) → SameBare S S
alike_self S = record { stays = λ x h. h; back = λ x h. h; entries = λ n t. refl; answered = refl }

pub alike_turned : (S T : State) → SameBare S T → SameBare T S
alike_turned S T a = record {
  stays = a.back;
  back = a.stays;
  entries = λ n t. sym (a.entries n t);
  answered = sym a.answered;
}

pub alike_on : (S T U : State) → SameBare S T → SameBare T U → SameBare S U
alike_on S T U a b = record {
  stays = λ x h. b.stays x (a.stays x h);
  back = λ x h. a.back x (b.back x h);
  entries = λ n t. a.entries n t ∙ b.entries n t;
  answered = a.answered ∙ b.answered;
}

-- members of a list with one more in its midst
pub member_split : (a b : List ℕ) (i j : ℕ) → Member j (a ++ i ∷ b) → (j ≡ i) ⊎ Member j (a ++ b)
member_split [] b i j h = h
member_split (k ∷ a) b i j (inl q) = inr (inl q)
member_split (k ∷ a) b i j (inr h) = ⊎_elim (λ q. inl q) (λ m. inr (inr m)) (member_split a b i j h)

pub member_rest : (a b : List ℕ) (i j : ℕ) → Member j (a ++ b) → Member j (a ++ i ∷ b)
member_rest [] b i j h = inr h
member_rest (k ∷ a) b i j (inl q) = inl q
member_rest (k ∷ a) b i j (inr h) = inr (member_rest a b i j h)

pub member_there : (a b : List ℕ) (i : ℕ) → Member i (a ++ i ∷ b)
member_there [] b i = inl refl
member_there (k ∷ a) b i = inr (member_there a b i)

-- where each stands once, so does it without one of them, and that one isn't left
pub once_rest : (a b : List ℕ) (i : ℕ) → Once (a ++ i ∷ b) → Once (a ++ b) × (Member i (a ++ b) → ⊥)
once_rest [] b i o = (o.1, o.0)
once_rest (k ∷ a) b i o =
    let (r, n) = once_rest a b i o.1 in (
      (λ m. o.0 (member_rest a b i k m), r),
      λ h. ⊎_elim (λ q. o.0 (subst (λ k. Member k (a ++ i ∷ b)) q (member_there a b i))) n h,
    )

-- the place of a member
pub split_at : (l : List ℕ) (i : ℕ) → Member i l → (a : List ℕ) × (b : List ℕ) × (l ≡ a ++ i ∷ b)
split_at [] i h = absurd h
split_at (k ∷ l) i (inl q) = ([], l, ap (λ k. k ∷ l) (sym q))
split_at (k ∷ l) i (inr h) = let (a, b, e) = split_at l i h in (k ∷ a, b, ap (λ l. k ∷ l) e)

-- both states have the same tokens at the tickets of a list
abbrev SameAt : State → State → List ℕ → Type 0
SameAt S T l = (j : ℕ) → Member j l → (x : TokenTree) × (S.tokens j ≡ Some x) × (T.tokens j ≡ Some x)

module _ (net : NetTree) (runs : Runs net) where
  -- a list of tickets that have the same tokens in two states alike leads to states alike
  same_list : (l : List ℕ) (log log' : List ℕ) (S T : State) → LeadsTo net log S → LeadsTo net log' T → SameBare S T →
      SameAt S T l → Once l → (S' : State) → run net S l ≡ Some S' → (T' : State) × (run net T l ≡ Some T') × SameBare S' T'
  same_list [] log log' S T h h' alike at o S' r =
      (T, refl, subst (λ S. SameBare S T) (same_Some S S' r) alike)
  same_list (i ∷ l) log log' S T h h' alike at o S' r =
      let (S1, s, r1) = from_run (step net S i) (λ S. run net S l) S' r in
      let (x, e, e') = at i (inl refl) in
      let (T1, t, alike1) = alike_steps net runs.sound log log' S T h h' alike i i x e e' S1 s in
      let at1 : SameAt S1 T1 l = λ j m.
      let (y, g, g') = at j (inr m) in
      let d : j ≢ i = λ q. o.0 (subst (λ j. Member j l) q m) in
      (y, others_live net runs.sound log S h S1 i j y s d g, others_live net runs.sound log' T h' T1 i j y t d g') in
      let (T', q, alike') = same_list l (log ++ i ∷ []) (log' ++ i ∷ []) S1 T1 (run_append net log _ S S1 i h s)
      (run_append net log' _ T T1 i h' t) alike1 at1 o.1 S' r1 in
      (T', ap (λ o. then_run o (λ T. run net T l)) t ∙ q, alike')

  -- a ticket of a unit may move first
  to_front : (a b : List ℕ) (i : ℕ) (log : List ℕ) (S : State) → LeadsTo net log S → IsUnit S (a ++ i ∷ b) → (S' : State) →
      run net S (a ++ i ∷ b) ≡ Some S' → (T' : State) × (run net S (i ∷ a ++ b) ≡ Some T') × SameBare S' T'
  to_front [] b i log S h u S' r = (S', r, alike_self S')
  to_front (k ∷ a) b i log S h u S' r =
      let (S1, s, r1) = from_run (step net S k) (λ S. run net S (a ++ i ∷ b)) S' r in
      let led1 = run_append net log _ S S1 k h s in
      let u1 = unit_rest net runs.sound log S h k (a ++ i ∷ b) u S1 s in
      let (U, q, alike) = to_front a b i (log ++ k ∷ []) S1 led1 u1 S' r1 in
      let (S12, s2, r2) = from_run (step net S1 i) (λ S. run net S (a ++ b)) U q in
      let (x, at_k) = u.live k (inl refl) in
      let (y, at_i) = u.live i (inr (member_there a b i)) in
      let differ : k ≢ i = λ q. u.once.0 (subst (λ i. Member k (a ++ i ∷ b)) q (member_there a b k)) in
      let (V1, V12, V2, V21, v1, v12, v2, v21, same) = diamond net runs log S h k i x y at_k at_i differ in
      let q1 : V1 ≡ S1 = same_Some V1 S1 (sym v1 ∙ s) in
      let q12 : V12 ≡ S12 = same_Some V12 S12 (sym v12 ∙ ap (λ S. step net S i) q1 ∙ s2) in
      let same' : SameBare S12 V21 = subst (λ S. SameBare S V21) q12 same in
      let led12 = run_append net (log ++ k ∷ []) _ S1 S12 i led1 s2 in
      let led2 = run_append net log _ S V2 i h v2 in
      let led21 = run_append net (log ++ i ∷ []) _ V2 V21 k led2 v21 in
      let once = once_rest a b i u1.once in
      let at : SameAt S12 V21 (a ++ b) = λ j m.
      let (z, e) = u.live j (inr (member_rest a b i j m)) in
      let not_k : j ≢ k = λ q. u.once.0 (subst (λ j. Member j (a ++ i ∷ b)) q (member_rest a b i j m)) in
      let not_i : j ≢ i = λ q. once.1 (subst (λ j. Member j (a ++ b)) q m) in
      let e1 = others_live net runs.sound log S h S1 k j z s not_k e in
      let e2 = others_live net runs.sound log S h V2 i j z v2 not_i e in (
        z,
        others_live net runs.sound (log ++ k ∷ []) S1 led1 S12 i j z s2 not_i e1,
        others_live net runs.sound (log ++ i ∷ []) V2 led2 V21 k j z v21 not_k e2,
      ) in
      let (T', g, alike') = same_list (a ++ b) ((log ++ k ∷ []) ++ i ∷ []) ((log ++ i ∷ []) ++ k ∷ []) S12 V21 led12 led21 same' at
      once.0 U r2 in (
        T',
        ap (λ o. then_run o (λ S. run net S (k ∷ a ++ b))) v2 ∙ ap (λ o. then_run o (λ S. run net S (a ++ b))) v21 ∙ g,
        alike_on S' U T' alike alike',
      )

  -- two lists of the same tickets lead to states alike
  pub unit_order : (l m log : List ℕ) (S : State) → LeadsTo net log S → IsUnit S l → IsUnit S m → SameMembers l m → (T U : State) →
      run net S l ≡ Some T → run net S m ≡ Some U → SameBare T U
  unit_order [] [] log S h u u' same T U r q = subst (λ U. SameBare T U) (same_Some T U (sym r ∙ q)) (alike_self T)
  unit_order [] (i ∷ m) log S h u u' same T U r q = absurd (same.1 i (inl refl))
  unit_order (i ∷ l) m log S h u u' same T U r q =
      let (a, b, e) = split_at m i (same.0 i (inl refl)) in
      let v : IsUnit S (a ++ i ∷ b) = subst (IsUnit S) e u' in
      let (V, g, alike) = to_front a b i log S h v U (ap (run net S) (sym e) ∙ q) in
      let (S1, s, r1) = from_run (step net S i) (λ S. run net S l) T r in
      let (S2, s', g1) = from_run (step net S i) (λ S. run net S (a ++ b)) V g in
      let z : S2 ≡ S1 = same_Some S2 S1 (sym s' ∙ s) in
      let led1 = run_append net log _ S S1 i h s in
      let u1 = unit_rest net runs.sound log S h i l u S1 s in
      let once = once_rest a b i v.once in
      let front : IsUnit S (i ∷ a ++ b) = record {
        live = λ j n. v.live j (⊎_elim (λ q. subst (λ j. Member j (a ++ i ∷ b)) (sym q) (member_there a b i)) (λ n.
            member_rest a b i j n) n);
        once = (once.1, once.0);
      } in
      let v1 = unit_rest net runs.sound log S h i (a ++ b) front S1 s in
      let to : (j : ℕ) → Member j l → Member j (a ++ b) = λ j n.
      ⊎_elim (λ q. absurd (u.once.0 (subst (λ j. Member j l) q n))) (λ n. n)
      (member_split a b i j (subst (Member j) e (same.0 j (inr n)))) in
      let from : (j : ℕ) → Member j (a ++ b) → Member j l = λ j n.
      ⊎_elim (λ q. absurd (once.1 (subst (λ j. Member j (a ++ b)) q n))) (λ n. n)
      (same.1 j (subst (Member j) (sym e) (member_rest a b i j n))) in
      let alike1 = unit_order l (a ++ b) (log ++ i ∷ []) S1 led1 u1 v1 (to, from) T V r1 (ap (λ S. run net S (a ++ b)) (sym z) ∙ g1) in
      alike_on T V U alike1 (alike_turned U V alike)

  -- a whole unit leads to what the round leads to
  pub round_order : (log : List ℕ) (S : State) → LeadsTo net log S → (l : List ℕ) → IsUnit S l → IsWhole S l → (T U : State) →
      run net S l ≡ Some T → round net S ≡ Some U → SameBare T U
  round_order log S h l u w T U r q =
      let (u', w') = live_whole net runs.sound log S h in
      unit_order l (live_of S) log S h u u' (λ i m. w' i (u.live i m), λ i m. w i (u'.live i m)) T U r q
