-- Tokens that are given tickets from one on, one after the other, and the state into which another one is grafted.
use Rattle.std.proofs.Common.{◌≡◌, ◌<◌, ◌≤◌, ◌⊎◌, ℕ, zero, suc, ◌+◌, ◌-◌, cond, Option, Some, None, refl, sym, ap, ◌∙◌}
use Rattle.std.proofs.Common.{subst, ⊎_elim, inl, inr, arith}
use Rattle.std.proofs.lemmas.Bool.{eq-eqb, ne_eqb, cases_eq, cases_lt}
use Rattle.std.specs.Prelude.{IsSome, is_some, ◌^◌}
use Rattle.std.specs.Option.{option_or, option_map}
use Rattle.std.specs.Ordering.{nat_cmp}
use Rattle.std.specs.FinMap as finite
use Rattle.std.specs.FinMap.{FinMap, get, get-insert, get-remove, get-empty, len-insert, len-remove, empty_of_len, same_map}
use Rattle.std.specs.FinMap.{nat_cmp-IsAntisymmetric}
use Rattle.std.proofs.lemmas.Cmp.{nat_cmp_total}
use Rattle.pcf_values.specs.declared.val.Val.{Val}
use Rattle.token_stacks.specs.Signatures.{Boxes}
use Rattle.fork_join.specs.Entries.{Entry, key_cmp}
use Rattle.move_rules.specs.declared.token.Token.{Token}
use Rattle.move_rules.specs.Places.{TokenTree}
use Rattle.move_rules.specs.Views.{token_of}
use Rattle.interleave_laws.proofs.Tickets.{test_nat}
use Rattle.interleave_laws.proofs.Few.{one_more}
use Rattle.interleave_core.specs.Grafting.{IsLow, AllFit, Placed, given}
use Rattle.interleave_core.specs.Grafts.{Grafts}
use Rattle.interleave_core.specs.Parts.{state}

-- live tokens by their tickets
abbrev Live : Type 0
Live = FinMap nat_cmp TokenTree

-- a ticket that is given a token has it
pub put_here : (f : Live) (k : ℕ) (x : TokenTree) → get (finite.insert f k x) k ≡ Some x
put_here f k x = get-insert nat_cmp_total f k x k ∙ ap (λ b. cond b (Some x) (get f k)) (test_nat k k ∙ eq-eqb k k refl)

-- and no other changes
pub put_other : (f : Live) (k : ℕ) (x : TokenTree) (q : ℕ) → (q ≡ k → ⊥) → get (finite.insert f k x) q ≡ get f q
put_other f k x q d = get-insert nat_cmp_total f k x q ∙ ap (λ b. cond b (Some x) (get f q)) (test_nat q k ∙ ne_eqb q k d)

-- a ticket that ends has none
pub gone_here : (f : Live) (k : ℕ) → get (finite.remove f k) k ≡ None
gone_here f k = get-remove nat_cmp_total f k k ∙ ap (λ b. cond b None (get f k)) (test_nat k k ∙ eq-eqb k k refl)

-- and no other changes
pub gone_other : (f : Live) (k q : ℕ) → (q ≡ k → ⊥) → get (finite.remove f k) q ≡ get f q
gone_other f k q d = get-remove nat_cmp_total f k q ∙ ap (λ b. cond b None (get f q)) (test_nat q k ∙ ne_eqb q k d)

-- something and nothing
some_none : {A : Type 0} (o : Option A) → IsSome o → o ≡ None → ⊥
some_none None h e = cc
some_none (Some x) h e = cc

pub some_is : {A : Type 0} (o : Option A) (x : A) → o ≡ Some x → IsSome o
some_is None x e = cc
some_is (Some y) x e = refl

-- where a ticket is live, there is one at least
pub at_least_one : (f : Live) (k : ℕ) → IsSome (get f k) → 1 ≤ finite.len f
at_least_one f k h = go (finite.len f) refl
  where
    go : (n : ℕ) → finite.len f ≡ n → 1 ≤ n
    go zero e = absurd (some_none (get f k) h (ap (λ f. get f k) (empty_of_len f e) ∙ get-empty nat_cmp k))
    go (suc n) e = omega arith

-- a ticket that ends is one fewer
pub one_fewer : (f : Live) (k : ℕ) → IsSome (get f k) → finite.len (finite.remove f k) + 1 ≡ finite.len f
one_fewer f k h = go (get f k) refl
  where
    go : (o : Option TokenTree) → get f k ≡ o → finite.len (finite.remove f k) + 1 ≡ finite.len f
    go None e = absurd (some_none (get f k) h e)
    go (Some x) e =
        let less : finite.len (finite.remove f k) ≡ finite.len f - 1 =
        len-remove nat_cmp_total f k ∙ ap (λ o. cond (is_some o) (finite.len f - 1) (finite.len f)) e in
        let some = at_least_one f k h in omega (arith, less, some)

-- what was given out of g0 and put into f, where f0 and g0 were at first
pub record Moved (f0 g0 : Live) (n : ℕ) (f g : Live) : Type 0 where
  pub old : (j : ℕ) → j < n → get f j ≡ get f0 j
  pub new : (m : ℕ) → ((get g (suc m) ≡ get g0 (suc m)) × (get f (n + m) ≡ None)) ⊎
      ((get g (suc m) ≡ None) × (get f (n + m) ≡ get g0 (suc m)))
  pub rest : get g 0 ≡ None
  pub count : finite.len f + finite.len g ≤ finite.len f0 + finite.len g0

pub begins : (f g : Live) (n : ℕ) → IsLow f n → get g 0 ≡ None → Moved f g n f g
begins f g n low rest = record {
  old = λ j l. refl;
  new = λ m. inl (refl, low (n + m) (omega arith));
  rest = rest;
  count = omega arith;
}

pub ends : (f0 g0 f g : Live) (n : ℕ) → Moved f0 g0 n f g → ((q : ℕ) → get g q ≡ None) → Placed f0 g0 n f
ends f0 g0 f g n m none = record {
  old = m.old;
  new = λ k. ⊎_elim (λ a. a.1 ∙ sym (none (suc k)) ∙ a.0) (λ a. a.1) (m.new k);
}

-- what is as before below a ticket, and nothing from it on, is as before
pub dropped : (f0 f f' : Live) (n : ℕ) → IsLow f0 n → ((j : ℕ) → j < n → get f j ≡ get f0 j) →
    ((q : ℕ) → q < n → get f' q ≡ get f q) → ((q : ℕ) → n ≤ q → get f' q ≡ None) → f' ≡ f0
dropped f0 f f' n low old below from = same_map nat_cmp_total nat_cmp-IsAntisymmetric f' f0 (λ q. ⊎_elim
    (λ l. below q l ∙ old q l) (λ l. from q l ∙ sym (low q l)) (cases_lt q n))

module _ (f0 g0 f g : Live) (n k : ℕ) (x : TokenTree) (m : Moved f0 g0 n f g) (e : get g k ≡ Some x) where
  -- the first stays behind
  not_first : k ≡ 0 → ⊥
  not_first z = let bad : None ≡ Some x = sym m.rest ∙ ap (get g) (sym z) ∙ e in cc

  -- what is to be given is what was
  given_first : (p : ℕ) → suc p ≡ k → Some x ≡ get g0 (suc p)
  given_first p z = ⊎_elim (λ a. sym e ∙ ap (get g) (sym z) ∙ a.0)
      (λ a. let bad : None ≡ Some x = sym a.0 ∙ ap (get g) z ∙ e in absurd cc) (m.new p)

  -- it is not the first
  above : suc (k - 1) ≡ k
  above = go k not_first
    where
      go : (k : ℕ) → (k ≡ 0 → ⊥) → suc (k - 1) ≡ k
      go zero d = absurd (d refl)
      go (suc k) d = omega arith

  -- its place is there
  pub fits : AllFit g0 n → n + (k - 1) < 2 ^ 32
  fits all = all (k - 1) (some_is (get g0 (suc (k - 1))) x (sym (given_first (k - 1) above)))

  pub one_above : 1 ≤ k
  one_above = let z = above in omega (arith, z)

  pub moves : Moved f0 g0 n (finite.insert f (n + (k - 1)) x) (finite.remove g k)
  moves = record {
    old = λ j l. put_other f (n + (k - 1)) x j (λ z. omega (arith, l, z)) ∙ m.old j l;
    new = λ p. ⊎_elim (own p) (other p) (cases_eq (suc p) k);
    rest = gone_other g k 0 (λ z. not_first (sym z)) ∙ m.rest;
    count =
        let a = one_more f (n + (k - 1)) x in
        let b = one_fewer g k (some_is (get g k) x e) in
        let c = m.count in
        omega (arith, a, b, c);
  }
    where
      own : (p : ℕ) → suc p ≡ k → ((get (finite.remove g k) (suc p) ≡ get g0 (suc p)) ×
          (get (finite.insert f (n + (k - 1)) x) (n + p) ≡ None)) ⊎
          ((get (finite.remove g k) (suc p) ≡ None) × (get (finite.insert f (n + (k - 1)) x) (n + p) ≡ get g0 (suc p)))
      own p z =
          let place : n + p ≡ n + (k - 1) = omega (arith, z) in
          inr (
            ap (get (finite.remove g k)) z ∙ gone_here g k,
            ap (get (finite.insert f (n + (k - 1)) x)) place ∙ put_here f (n + (k - 1)) x ∙ given_first p z,
          )

      other : (p : ℕ) → (suc p ≡ k → ⊥) → ((get (finite.remove g k) (suc p) ≡ get g0 (suc p)) ×
          (get (finite.insert f (n + (k - 1)) x) (n + p) ≡ None)) ⊎
          ((get (finite.remove g k) (suc p) ≡ None) × (get (finite.insert f (n + (k - 1)) x) (n + p) ≡ get g0 (suc p)))
      other p d =
          let kept = gone_other g k (suc p) d in
          let up = above in
          let away : n + p ≡ n + (k - 1) → ⊥ = λ z. d (omega (arith, z, up)) in
          let here = put_other f (n + (k - 1)) x (n + p) away in
          ⊎_elim (λ a. inl (kept ∙ a.0, here ∙ a.1)) (λ a. inr (kept ∙ a.0, here ∙ a.1)) (m.new p)

-- the tokens but the first have their places
pub fit_rest : (g : Live) (n m : ℕ) → IsLow g m → n + m ≤ 2 ^ 32 → AllFit (finite.remove g 0) n
fit_rest g n m low room k h = ⊎_elim (λ l. omega (arith, l, room))
    (λ l. absurd (some_none _ h (gone_other g 0 (suc k) (λ z. cc) ∙ low (suc k) l)))
    (cases_lt (suc k) m)

-- the ticket has what it is given
given_here : (f : Live) (i : ℕ) (o : Option TokenTree) → get (given f i o) i ≡ o
given_here f i None = gone_here f i
given_here f i (Some x) = put_here f i x

-- and no other changes
given_other : (f : Live) (i : ℕ) (o : Option TokenTree) (q : ℕ) → (q ≡ i → ⊥) → get (given f i o) q ≡ get f q
given_other f i None q d = gone_other f i q d
given_other f i (Some x) q d = put_other f i x q d

-- a live ticket is below the next
below_next : (f : Live) (n i : ℕ) → IsLow f n → IsSome (get f i) → i < n
below_next f n i low h = ⊎_elim (λ l. l) (λ l. absurd (some_none (get f i) h (low i l))) (cases_lt i n)

-- it is still there after tokens were given tickets from the next one on
pub still_live : (f g h : Live) (n i : ℕ) → IsLow f n → IsSome (get f i) → Placed f g n h → IsSome (get h i)
still_live f g h n i low live p = subst IsSome (sym (p.old i (below_next f n i low live))) live

-- no more tokens are live than tickets were given out
pub graft_few : (f g h : Live) (n m i : ℕ) → IsSome (get h i) → 1 ≤ m → finite.len f ≤ n → finite.len g ≤ m →
    finite.len h ≤ finite.len f + finite.len (finite.remove g 0) → finite.len (given h i (get g 0)) ≤ n + (m - 1)
graft_few f g h n m i live begun few gfew count = go (get g 0) refl
  where
    go : (o : Option TokenTree) → get g 0 ≡ o → finite.len (given h i o) ≤ n + (m - 1)
    go None e =
        let same : finite.len (finite.remove g 0) ≡ finite.len g =
        len-remove nat_cmp_total g 0 ∙ ap (λ o. cond (is_some o) (finite.len g - 1) (finite.len g)) e in
        let less = one_fewer h i live in
        omega (arith, begun, few, gfew, count, same, less)
    go (Some x) e =
        let fewer = one_fewer g 0 (some_is (get g 0) x e) in
        let same = same_count h i x live in
        omega (arith, begun, few, gfew, count, fewer, same)
      where
        same_count : (f : Live) (i : ℕ) (x : TokenTree) → IsSome (get f i) → finite.len (finite.insert f i x) ≡ finite.len f
        same_count f i x h = len-insert nat_cmp_total f i x ∙ some_cond (get f i) h
          where
            some_cond : (o : Option TokenTree) → IsSome o → cond (is_some o) (finite.len f) (finite.len f + 1) ≡ finite.len f
            some_cond None h = cc
            some_cond (Some y) h = refl

-- the state is grafted
pub grafts : (host graft joint : Live) (host_entries graft_entries joint_entries : FinMap key_cmp Entry) (n m i : ℕ) (v w : Option Val) →
    IsLow host n → IsSome (get host i) → 1 ≤ m →
    Placed host (finite.remove graft 0) n joint → ((k : ℕ) (t : Boxes) →
    finite.get joint_entries (k, t) ≡ option_or (finite.get graft_entries (k, t)) (finite.get host_entries (k, t))) →
    Grafts (state host host_entries n v) i (state graft graft_entries m w)
    (state (given joint i (get graft 0)) joint_entries (n + (m - 1)) v)
grafts host graft joint host_entries graft_entries joint_entries n m i v w low live begun placed joined =
    let l = below_next host n i low live in
    record {
      first = given_here joint i (get graft 0);
      others = λ k. given_other joint i (get graft 0) (n + k) (λ z. omega (arith, l, z)) ∙ placed.new k
          ∙ gone_other graft 0 (suc k) (λ z. cc);
      stays = λ j b d. given_other joint i (get graft 0) j d ∙ placed.old j b;
      entries = joined;
      next = omega (arith, begun);
      answered = refl;
    }

-- a live token, by what a look-up answers
pub its_token : (f : Live) (k : ℕ) (o : Option Token) (x : Token) → option_map token_of o ≡ get f k → o ≡ Some x →
    get f k ≡ Some (token_of x)
its_token f k o x h e = sym h ∙ ap (option_map token_of) e
