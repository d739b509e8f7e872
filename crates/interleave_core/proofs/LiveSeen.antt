-- What the live tokens answer, and that a change of the code's map is the change of the finite map.
use Rattle.std.proofs.Common.{◌≡◌, ℕ, Bool, true, false, cond, List, [], ◌∷◌, Option, Some, None, Result, Ok, Err, ◌<◌}
use Rattle.std.proofs.Common.{refl, sym, ap, ◌∙◌, subst}
use Rattle.std.proofs.lemmas.Bool.{eq-eqb, eqb-true}
use Rattle.std.specs.Prelude.{nat_eq}
use Rattle.std.specs.Ordering.{nat_cmp, eq_by_cmp, is_eq}
use Rattle.std.specs.Option.{option_map, IsSome, MatchOption}
use Rattle.std.specs.Result.{IfOk}
use Rattle.std.specs.FinMap as finite
use Rattle.std.specs.FinMap.{FinMap, find, get-insert, get-remove, get-from_entries, same_map, nat_cmp-IsAntisymmetric}
use Rattle.std.specs.Map.{lookup}
use Rattle.std.specs.BTreeMap as tree
use Rattle.std.specs.BTreeMap.{BTreeMap, is_at}
use Rattle.std.proofs.lemmas.Cmp.{nat_cmp_total}
use Rattle.std.proofs.lemmas.Option.{same_Some}
use Rattle.token_stacks.specs.Signatures.{Boxes}
use Rattle.token_stacks.specs.Loads.{Load, load}
use Rattle.net_build.specs.Nets.{NetTree}
use Rattle.move_rules.specs.declared.token.Kind.{Kind}
use Rattle.move_rules.specs.declared.token.Token.{Token}
use Rattle.move_rules.specs.Places.{TokenTree, place_of}
use Rattle.move_rules.specs.Stacks.{work_at, boxes_at}
use Rattle.move_rules.specs.Views.{token_of, of_kind, place_at}
use Rattle.move_rules.specs.Walks.{SoloStep}
use Rattle.move_rules.proofs.Single.{placed}
use Rattle.interleave_core.specs.Forking.{HasBoxes}
use Rattle.interleave_core.specs.LiveMap.{live_entries, live_of}
use Rattle.interleave_core.specs.Moving.{ChangesIn, Changes, SoloAt, UnaidedIn, UnaidedAt, Sent}
use Rattle.interleave_laws.proofs.Tickets.{test_nat}

-- a change of one key, as it is seen
push : (b : Bool) (x : Token) (o : Option Token) →
    option_map token_of (cond b (Some x) o) ≡ cond b (Some (token_of x)) (option_map token_of o)
push true x o = refl
push false x o = refl

-- and a key that goes
push_none : (b : Bool) (o : Option Token) → option_map token_of (cond b None o) ≡ cond b None (option_map token_of o)
push_none true o = refl
push_none false o = refl

-- the first entry of a ticket
live_find : (es : List (ℕ × Token)) (j : ℕ) → find nat_cmp j (live_entries es) ≡ option_map token_of
    (lookup (is_at (nat_cmp j)) es)
live_find [] j = refl
live_find (e ∷ es) j = ap (λ o. cond (is_eq (nat_cmp j e.0)) (Some (token_of e.1)) o) (live_find es j) ∙
    sym (push (is_eq (nat_cmp j e.0)) e.1 (lookup (is_at (nat_cmp j)) es))

-- the stacks of a place
place_work : (u : Bool) (w : ℕ) (s : Load) → work_at (place_at w u s) ≡ s.work
place_work true w s = refl
place_work false w s = refl

-- and its box stack
place_boxes : (u : Bool) (w : ℕ) (s : Load) → boxes_at (place_at w u s) ≡ s.boxes
place_boxes true w s = refl
place_boxes false w s = refl

-- the stacks of a token
pub work_seen : (x : Token) → work_at (place_of (token_of x)) ≡ x.stacks.work
work_seen x = ap work_at (placed x.kind (place_at x.wire x.up x.stacks)) ∙ place_work x.up x.wire x.stacks

-- and its box stack
pub boxes_seen : (x : Token) → boxes_at (place_of (token_of x)) ≡ x.stacks.boxes
boxes_seen x = ap boxes_at (placed x.kind (place_at x.wire x.up x.stacks)) ∙ place_boxes x.up x.wire x.stacks

-- a ticket has the token that is kept under it
pub live_get : (m : BTreeMap ℕ Token) (j : ℕ) → finite.get (live_of m) j ≡ option_map token_of (tree.get nat_cmp m j)
live_get m j = get-from_entries nat_cmp_total (live_entries m.entries) j ∙ live_find m.entries j

-- the tests of tickets hold in either order
turn : (i j : ℕ) → nat_eq i j ≡ nat_eq j i
turn i j = go (nat_eq i j) (nat_eq j i) refl refl
  where
    go : (a b : Bool) → nat_eq i j ≡ a → nat_eq j i ≡ b → a ≡ b
    go true true p q = refl
    go false false p q = refl
    go true false p q = let z = eq-eqb j i (sym (eqb-true i j p)) in cc
    go false true p q = let z = eq-eqb i j (sym (eqb-true j i q)) in cc

-- in the order of tickets too
either_way : (i j : ℕ) → eq_by_cmp nat_cmp i j ≡ eq_by_cmp nat_cmp j i
either_way i j = test_nat i j ∙ turn i j ∙ sym (test_nat j i)

-- a ticket that is given a token
pub live_put : (m n : BTreeMap ℕ Token) (i : ℕ) (x : Token) →
    ((q : ℕ) → tree.get nat_cmp n q ≡ cond (is_at (nat_cmp i) q) (Some x) (tree.get nat_cmp m q)) →
    live_of n ≡ finite.insert (live_of m) i (token_of x)
live_put m n i x h = same_map nat_cmp_total nat_cmp-IsAntisymmetric _ _ (λ q.
    live_get n q ∙ ap (option_map token_of) (h q) ∙ push (is_at (nat_cmp i) q) x (tree.get nat_cmp m q)
    ∙ ap (λ b. cond b (Some (token_of x)) (option_map token_of (tree.get nat_cmp m q))) (either_way i q)
    ∙ ap (cond (eq_by_cmp nat_cmp q i) (Some (token_of x))) (sym (live_get m q)) ∙
    sym (get-insert nat_cmp_total (live_of m) i (token_of x) q))

-- a ticket that ends
pub live_gone : (m n : BTreeMap ℕ Token) (i : ℕ) →
    ((q : ℕ) → tree.get nat_cmp n q ≡ cond (is_at (nat_cmp i) q) None (tree.get nat_cmp m q)) →
    live_of n ≡ finite.remove (live_of m) i
live_gone m n i h = same_map nat_cmp_total nat_cmp-IsAntisymmetric _ _ (λ q.
    live_get n q ∙ ap (option_map token_of) (h q) ∙ push_none (is_at (nat_cmp i) q) (tree.get nat_cmp m q)
    ∙ ap (λ b. cond b None (option_map token_of (tree.get nat_cmp m q))) (either_way i q)
    ∙ ap (cond (eq_by_cmp nat_cmp q i) None) (sym (live_get m q)) ∙ sym (get-remove nat_cmp_total (live_of m) i q))

-- a clause on what an Ok holds, by what it says
pub if_ok : {T E : Type 0} {P Q : T → Type 0} (r : Result T E) → IfOk r P → ((x : T) → P x → Q x) → IfOk r Q
if_ok (Ok x) p f = f x p
if_ok (Err x) p f = tt

module _ (m : BTreeMap ℕ Token) (f : FinMap nat_cmp TokenTree) (view : live_of m ≡ f) where
  -- what the finite map answers is what the code's map has
  pub seen_live : (j : ℕ) → finite.get f j ≡ option_map token_of (tree.get nat_cmp m j)
  seen_live j = ap (λ f. finite.get f j) (sym view) ∙ live_get m j

  -- there in the one, where in the other
  some_there : (o : Option Token) → IsSome (option_map token_of o) → IsSome o
  some_there None h = cc
  some_there (Some x) h = refl

  -- and the other way
  there_some : (o : Option Token) → IsSome o → IsSome (option_map token_of o)
  there_some None h = cc
  there_some (Some x) h = refl

  -- a live ticket is in the code's map
  pub has_live : (j : ℕ) → IsSome (finite.get f j) → IsSome (tree.get nat_cmp m j)
  has_live j h = some_there (tree.get nat_cmp m j) (subst IsSome (seen_live j) h)

  -- the least of the one is the least of the other
  pub least_live : (r : Option ℕ) → MatchOption r ((q : ℕ) → tree.get nat_cmp m q ≡ None) (λ i. IsSome (tree.get nat_cmp m i) ×
      ((q : ℕ) → q < i → tree.get nat_cmp m q ≡ None))
      → MatchOption r ((q : ℕ) → finite.get f q ≡ None) (λ i. IsSome (finite.get f i) ×
      ((q : ℕ) → q < i → finite.get f q ≡ None))
  least_live None h = λ q. seen_live q ∙ ap (option_map token_of) (h q)
  least_live (Some i) h = (
    subst IsSome (sym (seen_live i)) (there_some (tree.get nat_cmp m i) h.0),
    λ q l. seen_live q ∙
        ap (option_map token_of) (h.1 q l),
  )

  -- the greatest of the one is the greatest of the other
  pub newest_live : (r : Option ℕ) → MatchOption r ((q : ℕ) → tree.get nat_cmp m q ≡ None) (λ i. IsSome (tree.get nat_cmp m i) ×
      ((q : ℕ) → i < q → tree.get nat_cmp m q ≡ None))
      → MatchOption r ((q : ℕ) → finite.get f q ≡ None) (λ i. IsSome (finite.get f i) ×
      ((q : ℕ) → i < q → finite.get f q ≡ None))
  newest_live None h = λ q. seen_live q ∙ ap (option_map token_of) (h q)
  newest_live (Some i) h = (
    subst IsSome (sym (seen_live i)) (there_some (tree.get nat_cmp m i) h.0),
    λ q l. seen_live q ∙
        ap (option_map token_of) (h.1 q l),
  )

  -- and the next is the next
  pub next_live : (a : ℕ) (r : Option ℕ) → MatchOption r ((q : ℕ) → a < q → tree.get nat_cmp m q ≡ None) (λ i. (a < i) ×
      IsSome (tree.get nat_cmp m i) × ((q : ℕ) → a < q → q < i → tree.get nat_cmp m q ≡ None))
      → MatchOption r ((q : ℕ) → a < q → finite.get f q ≡ None) (λ i. (a < i) × IsSome (finite.get f i) ×
      ((q : ℕ) → a < q → q < i → finite.get f q ≡ None))
  next_live a None h = λ q l. seen_live q ∙ ap (option_map token_of) (h q l)
  next_live a (Some i) h = (
    h.0,
    subst IsSome (sym (seen_live i)) (there_some (tree.get nat_cmp m i) h.1),
    λ q k l. seen_live q ∙
        ap (option_map token_of) (h.2 q k l),
  )

  -- maps that answer alike are seen alike
  pub all_stay : (n : BTreeMap ℕ Token) → ((q : ℕ) → tree.get nat_cmp n q ≡ tree.get nat_cmp m q) → live_of n ≡ f
  all_stay n h = same_map nat_cmp_total nat_cmp-IsAntisymmetric _ _ (λ q. live_get n q ∙ ap (option_map token_of) (h q) ∙
      sym (seen_live q))

  -- what is written over itself stays
  put_back : (i q : ℕ) (x : Token) → tree.get nat_cmp m i ≡ Some x →
      cond (is_at (nat_cmp i) q) (Some x) (tree.get nat_cmp m q) ≡ tree.get nat_cmp m q
  put_back i q x e = ap (λ b. cond b (Some x) (tree.get nat_cmp m q)) (test_nat i q) ∙ go (nat_eq i q) refl
    where
      go : (b : Bool) → nat_eq i q ≡ b → cond b (Some x) (tree.get nat_cmp m q) ≡ tree.get nat_cmp m q
      go true h = sym e ∙ ap (tree.get nat_cmp m) (eqb-true i q h)
      go false h = refl

  -- one changed token
  pub changes : {P : Token → Token → Type 0} (n : BTreeMap ℕ Token) (i : ℕ) → ChangesIn P m i n → Changes P f i (live_of n)
  changes n i (x, y, e, p, h) = (
    x,
    y,
    seen_live i ∙ ap (option_map token_of) e,
    p,
    live_put m n i y h ∙
        ap (λ f. finite.insert f i (token_of y)) view,
  )

  -- a solo move in place
  solo_live : (net : NetTree) (n : BTreeMap ℕ Token) (i : ℕ) (made : Bool) → ChangesIn (SoloStep net made) m i n →
      SoloAt net f i made (live_of n)
  solo_live net n i true (x, y, e, (k, mv), h) = (
    token_of x,
    seen_live i ∙ ap (option_map token_of) e,
    (k, token_of y, mv, live_put m n i y h ∙ ap (λ f. finite.insert f i (token_of y)) view),
  )
  solo_live net n i false (x, y, e, (none, same), h) = (
    token_of x,
    seen_live i ∙ ap (option_map token_of) e,
    (none, all_stay n (λ q. h q ∙ ap (λ y. cond (is_at (nat_cmp i) q) (Some y) (tree.get nat_cmp m q)) same ∙ put_back i q x e)),
  )

  -- where there was memory for it
  pub solo_ok : {E : Type 0} (net : NetTree) (n : BTreeMap ℕ Token) (i : ℕ) (r : Result Bool E) →
      IfOk r (λ made. ChangesIn (SoloStep net made) m i n) → IfOk r (λ made. SoloAt net f i made (live_of n))
  solo_ok net n i (Ok made) h = solo_live net n i made h
  solo_ok net n i (Err e) h = tt

  -- a token whose move needs nothing else
  pub unaided_live : (net : NetTree) (i : ℕ) → UnaidedIn net m i → UnaidedAt net f i
  unaided_live net i (x, e, u) = (token_of x, seen_live i ∙ ap (option_map token_of) e, u)

  -- a token that is sent with the stacks that it has
  pub sent_live : (n : BTreeMap ℕ Token) (i w : ℕ) (u : Bool) (k : Kind) → ChangesIn (Sent w u k) m i n → (t : Boxes) →
      HasBoxes f i t → live_of n ≡ finite.insert f i (of_kind k (place_at w u (load [] t)))
  sent_live n i w u k (x, z, e, s, h) t (y, e', work, boxes) =
      let same : y ≡ token_of x = same_Some y (token_of x) (sym e' ∙ seen_live i ∙ ap (option_map token_of) e) in
      let no_work : x.stacks.work ≡ [] = sym (work_seen x) ∙ ap (λ y. work_at (place_of y)) (sym same) ∙ work in
      let its : x.stacks.boxes ≡ t = sym (boxes_seen x) ∙ ap (λ y. boxes_at (place_of y)) (sym same) ∙ boxes in
      live_put m n i z h ∙ ap (λ z. finite.insert (live_of m) i (token_of z)) s ∙
      (λ j. finite.insert (view j) i (of_kind k (place_at w u (load (no_work j) (its j)))))
