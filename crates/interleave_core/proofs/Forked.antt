-- A fork, change by change.
use Rattle.std.proofs.Common.{◌≡◌, ℕ, Bool, true, false, cond, [], Some, None, refl, sym, ap, ◌∙◌, subst}
use Rattle.std.specs.Prelude.{nat_eq}
use Rattle.std.specs.Option.{IsSome}
use Rattle.std.specs.Ordering.{nat_cmp}
use Rattle.std.specs.FinMap.{FinMap, get, insert, remove, get-insert, get-remove, same_map, nat_cmp-IsAntisymmetric}
use Rattle.std.proofs.lemmas.Cmp.{nat_cmp_total}
use Rattle.std.proofs.lemmas.Bool.{eqb-true, ne_eqb}
use Rattle.std.proofs.lemmas.Option.{same_Some}
use Rattle.token_stacks.specs.Signatures.{Boxes}
use Rattle.fork_join.specs.Entries.{Entry, pending, key_cmp}
use Rattle.move_rules.specs.Places.{TokenTree, up, ask, place_of}
use Rattle.move_rules.specs.Stacks.{boxes_at}
use Rattle.interleave_laws.proofs.Tickets.{test_nat}
use Rattle.interleave_core.specs.Forking.{HasBoxes, Copies, ForksTo}

-- what a ticket answers that was given a token
at_put : (f : FinMap nat_cmp TokenTree) (i q : ℕ) (x : TokenTree) → get (insert f i x) q ≡ cond (nat_eq q i) (Some x) (get f q)
at_put f i q x = get-insert nat_cmp_total f i x q ∙ ap (λ b. cond b (Some x) (get f q)) (test_nat q i)

-- and what one answers that ended
at_gone : (f : FinMap nat_cmp TokenTree) (i q : ℕ) → get (remove f i) q ≡ cond (nat_eq q i) None (get f q)
at_gone f i q = get-remove nat_cmp_total f i q ∙ ap (λ b. cond b None (get f q)) (test_nat q i)

module _ (f : FinMap nat_cmp TokenTree) (i n : ℕ) (x : TokenTree) (here : get f i ≡ Some x) (fresh : get f n ≡ None) where
  -- a live ticket isn't the new one
  differ : i ≡ n → ⊥
  differ e = let bad : None ≡ Some x = sym fresh ∙ ap (get f) (sym e) ∙ here in cc

  -- the two tickets may be given their tokens in either order
  pub either_first : (l r : TokenTree) → insert (insert f n r) i l ≡ insert (insert f i l) n r
  either_first l r = same_map nat_cmp_total nat_cmp-IsAntisymmetric _ _ (λ q.
      at_put (insert f n r) i q l ∙ ap (cond (nat_eq q i) (Some l)) (at_put f n q r) ∙ go q (nat_eq q i) (nat_eq q n) refl refl
      ∙ sym (at_put (insert f i l) n q r ∙ ap (cond (nat_eq q n) (Some r)) (at_put f i q l)))
    where
      go : (q : ℕ) (a b : Bool) → nat_eq q i ≡ a → nat_eq q n ≡ b →
          cond a (Some l) (cond b (Some r) (get f q)) ≡ cond b (Some r) (cond a (Some l) (get f q))
      go q true true h g = absurd (differ (sym (eqb-true q i h) ∙ eqb-true q n g))
      go q true false h g = refl
      go q false true h g = refl
      go q false false h g = refl

  -- and stays live
  pub still_there : (r : TokenTree) → IsSome (get (insert f n r) i)
  still_there r = subst IsSome (sym (at_put f n i r ∙ ap (λ b. cond b (Some r) (get f i)) (ne_eqb i n differ) ∙ here)) refl

-- a new ticket that is taken out again leaves all as it was
pub taken_back : (f : FinMap nat_cmp TokenTree) (n : ℕ) (r : TokenTree) → get f n ≡ None → remove (insert f n r) n ≡ f
taken_back f n r fresh = same_map nat_cmp_total nat_cmp-IsAntisymmetric _ _ (λ q.
    at_gone (insert f n r) n q ∙ ap (cond (nat_eq q n) None) (at_put f n q r) ∙ go q (nat_eq q n) refl)
  where
    go : (q : ℕ) (b : Bool) → nat_eq q n ≡ b → cond b None (cond b (Some r) (get f q)) ≡ get f q
    go q true h = sym (ap (get f) (eqb-true q n h) ∙ fresh)
    go q false h = refl

-- a ticket has one box stack
pub one_stack : (f : FinMap nat_cmp TokenTree) (i : ℕ) (t u : Boxes) → HasBoxes f i t → HasBoxes f i u → t ≡ u
one_stack f i t u (x, e, _, b) (y, e', _, b') = sym b ∙ ap (λ x. boxes_at (place_of x)) (same_Some x y (sym e ∙ e')) ∙ b'

-- the copied box stack has no entry where the ticket's has none
pub no_entry : (f : FinMap nat_cmp TokenTree) (g : FinMap key_cmp Entry) (i k b : ℕ) (r : TokenTree) (u : Boxes) →
    ((t : Boxes) × HasBoxes f i t × (get g (k, t) ≡ None)) → Copies f i b r u → get g (k, u) ≡ None
no_entry f g i k b r u (t, s, none) (s', _) = ap (λ t. get g (k, t)) (one_stack f i u t s' s) ∙ none

-- a ticket keeps its box stack while a new ticket is given a token
pub still_has : (f f1 : FinMap nat_cmp TokenTree) (i n b : ℕ) (r : TokenTree) (t : Boxes) → Copies f i b r t → get f n ≡ None →
    f1 ≡ insert f n r → HasBoxes f1 i t
still_has f f1 i n b r t ((x, here, w, bs), er) fresh h = (
  x,
  ap (λ f. get f i) h ∙ at_put f n i r ∙ ap (λ c. cond c (Some r) (get f i)) (ne_eqb i n (differ f i n x here fresh)) ∙ here,
  w,
  bs,
)

-- the whole fork
pub forked : (tokens added asked : FinMap nat_cmp TokenTree) (entries entries' : FinMap key_cmp Entry) (i n k a b : ℕ) (r : TokenTree)
    (boxes : Boxes) →
    Copies tokens i b r boxes → get tokens n ≡ None
    → added ≡ insert tokens n r → ((u : Boxes) → HasBoxes added i u → asked ≡ insert added i (ask (up a [] u))) →
    entries' ≡ insert entries (k, boxes) pending → ForksTo tokens asked entries entries' i n k a b
forked tokens added asked entries entries' i n k a b r boxes (s, er) fresh h1 h2 hg =
    let (x, here, _, _) = s in (
      boxes,
      s,
      h2 boxes (still_has tokens added i n b r boxes (s, er) fresh h1) ∙ ap (λ f. insert f i (ask (up a [] boxes))) h1 ∙
          either_first tokens i n x here fresh (ask (up a [] boxes)) r ∙ (λ k. insert (insert tokens i (ask (up a [] boxes))) n (er k)),
      hg,
    )

-- the ticket is there while a new ticket is given a token
pub there : (f f1 : FinMap nat_cmp TokenTree) (i n b : ℕ) (r : TokenTree) (t : Boxes) → Copies f i b r t → get f n ≡ None →
    f1 ≡ insert f n r → IsSome (get f1 i)
there f f1 i n b r t (s, er) fresh h = let (x, here, _, _) = s in subst (λ f. IsSome (get f i)) (sym h) (still_there f i n x here fresh r)
