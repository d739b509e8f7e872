-- Which tokens are free, and the search for the least one that goes from one live ticket to the next.
use Rattle.std.proofs.Common.{◌≡◌, ℕ, suc, ◌+◌, ◌<◌, Bool, true, false, cond, not, ◌||◌, if◌then◌else◌, List, []}
use Rattle.std.proofs.Common.{◌∷◌, Option, Some, None, refl, sym, ap, ◌∙◌, subst, ⊎_elim, arith}
use Rattle.std.specs.Prelude.{is_some}
use Rattle.std.specs.Option.{IsSome}
use Rattle.std.specs.Ordering.{nat_cmp}
use Rattle.std.specs.FinMap.{FinMap, get, insert, get-empty, empty_of_len, len, len-insert, get-retain_keys}
use Rattle.std.specs.FinMap.{nat_cmp-IsAntisymmetric}
use Rattle.std.proofs.lemmas.Bool.{cases_lt, cases_eq, ne_eqb, eq-eqb}
use Rattle.std.proofs.lemmas.Cmp.{nat_cmp_total}
use Rattle.move_rules.specs.Places.{TokenTree}
use Rattle.interleave_laws.specs.OneWorker.{least_from}
use Rattle.interleave_laws.proofs.OneWorker.{least_found, least_none}
use Rattle.interleave_laws.proofs.Seen.{same_tokens}
use Rattle.interleave_core.proofs.AloneRuns.{given, not_given}
use Rattle.token_pool.specs.declared.entries.Held.{Held}
use Rattle.token_pool.specs.Pools.{Holds, count_held}
use Rattle.token_pool.specs.Turns.{is_held, free_in}
use Rattle.token_pool.proofs.Holding.{some_holder}

-- the search has come to this ticket
pub record Reaches (tokens : FinMap nat_cmp TokenTree) (held : List (Option Held)) (i : ℕ) : Type 0 where
  pub live : IsSome (get tokens i)
  pub below : (q : ℕ) → q < i → get (free_in tokens held) q ≡ None

abbrev no_token : Option TokenTree
no_token = None

not_there : (b : Bool) → (if b then None else no_token) ≡ no_token
not_there true = refl
not_there false = refl

turned : (b : Bool) (o : Option TokenTree) → cond (not b) o None ≡ (if b then None else o)
turned true o = refl
turned false o = refl

-- a token is free where it is live and its ticket isn't held
pub free_at : (tokens : FinMap nat_cmp TokenTree) (held : List (Option Held)) (i : ℕ) →
    get (free_in tokens held) i ≡ (if is_held held i then None else get tokens i)
free_at tokens held i =
    get-retain_keys tokens (λ j. not (is_held held j)) i (λ x e. ap (λ j. not (is_held held j)) (sym (nat_cmp-IsAntisymmetric i x e)))
    ∙ turned (is_held held i) (get tokens i)

-- as many tokens are live as are free and held
pub counted : (tokens : FinMap nat_cmp TokenTree) (held : List (Option Held)) →
    ((w : ℕ) (h : Held) → Holds held w h → IsSome (get tokens h.ticket))
    → ((v w : ℕ) (g h : Held) → Holds held v g → Holds held w h → g.ticket ≡ h.ticket → v ≡ w) →
    len tokens ≡ len (free_in tokens held) + count_held held
counted tokens [] live apart = let e = ap len (same_tokens (free_in tokens []) tokens (λ q. free_at tokens [] q)) in omega (arith, e)
counted tokens (None ∷ held) live apart = counted tokens held (λ w h at. live (suc w) h at)
    (λ v w g h at bt e. let q = apart (suc v) (suc w) g h at bt e in omega arith)
counted tokens (Some k ∷ held) live apart =
    let ih = counted tokens held (λ w h at. live (suc w) h at)
    (λ v w g h at bt e. let q = apart (suc v) (suc w) g h at bt e in omega arith) in
    go (get tokens k.ticket) refl (live 0 k refl) (is_held held k.ticket) refl ih
  where
    past : (q : ℕ) → (q ≡ k.ticket → ⊥) → is_held (Some k ∷ held) q ≡ is_held held q
    past q d = ap (λ b. b || is_held held q) (ne_eqb k.ticket q (λ e. d (sym e)))

    here : is_held (Some k ∷ held) k.ticket ≡ true
    here = ap (λ b. b || is_held held k.ticket) (eq-eqb k.ticket k.ticket refl)

    one_more : (x : TokenTree) → get tokens k.ticket ≡ Some x → is_held held k.ticket ≡ false →
        free_in tokens held ≡ insert (free_in tokens (Some k ∷ held)) k.ticket x
    one_more x e f = same_tokens (free_in tokens held) (insert (free_in tokens (Some k ∷ held)) k.ticket x) (λ q. ⊎_elim
        (λ s. subst (λ q. get (free_in tokens held) q ≡ get (insert (free_in tokens (Some k ∷ held)) k.ticket x) q) (sym s)
        (free_at tokens held k.ticket ∙ ap (λ b. if b then None else get tokens k.ticket) f ∙ e ∙
        sym (given (free_in tokens (Some k ∷ held)) k.ticket x)))
        (λ d. free_at tokens held q ∙ ap (λ b. if b then None else get tokens q) (sym (past q d)) ∙
        sym (free_at tokens (Some k ∷ held) q) ∙ sym (not_given (free_in tokens (Some k ∷ held)) k.ticket x q d))
        (cases_eq q k.ticket))

    gone : get (free_in tokens (Some k ∷ held)) k.ticket ≡ None
    gone = free_at tokens (Some k ∷ held) k.ticket ∙ ap (λ b. if b then None else get tokens k.ticket) here

    go : (o : Option TokenTree) → get tokens k.ticket ≡ o → IsSome o → (b : Bool) → is_held held k.ticket ≡ b →
        len tokens ≡ len (free_in tokens held) + count_held held →
        len tokens ≡ len (free_in tokens (Some k ∷ held)) + suc (count_held held)
    go None e s b f ih = absurd cc
    go (Some x) e s true f ih = let (w, h, at, t) = some_holder held k.ticket f in let q = apart 0 (suc w) k h refl at (sym t) in
        absurd (omega arith)
    go (Some x) e s false f ih =
        let more = len-insert nat_cmp_total (free_in tokens (Some k ∷ held)) k.ticket x ∙
        ap (λ o. cond (is_some o) (len (free_in tokens (Some k ∷ held))) (len (free_in tokens (Some k ∷ held)) + 1)) gone in
        let same = ap len (one_more x e f) in
        omega (arith, more, same, ih)

module _ (tokens : FinMap nat_cmp TokenTree) (held : List (Option Held)) where
  none_free : (q : ℕ) → get tokens q ≡ None → get (free_in tokens held) q ≡ None
  none_free q e = free_at tokens held q ∙ ap (λ o. if is_held held q then None else o) e ∙ not_there (is_held held q)

  held_free : (q : ℕ) → is_held held q ≡ true → get (free_in tokens held) q ≡ None
  held_free q e = free_at tokens held q ∙ ap (λ b. if b then None else get tokens q) e

  pub begins : (i : ℕ) → IsSome (get tokens i) × ((q : ℕ) → q < i → get tokens q ≡ None) → Reaches tokens held i
  begins i (live, below) = record { live = live; below = λ q l. none_free q (below q l) }

  pub goes : (i j : ℕ) → Reaches tokens held i → is_held held i ≡ true → (i < j) × IsSome (get tokens j) ×
      ((q : ℕ) → i < q → q < j → get tokens q ≡ None) → Reaches tokens held j
  goes i j r e (l, live, between) = record {
    live = live;
    below = λ q m. ⊎_elim (λ k. r.below q k) (λ k. ⊎_elim
        (λ s. subst (λ q. get (free_in tokens held) q ≡ None) s (held_free i e)) (λ d. none_free q (between q (omega arith) m))
        (cases_eq i q)) (cases_lt q i);
  }

  module _ (next : ℕ) (low : (i : ℕ) → IsSome (get tokens i) → i < next) where
    nothing : ((q : ℕ) → get (free_in tokens held) q ≡ None) → None ≡ least_from (λ i. get (free_in tokens held) i) 0 next
    nothing none = go (least_from (λ i. get (free_in tokens held) i) 0 next) refl
      where
        go : (o : Option ℕ) → least_from (λ i. get (free_in tokens held) i) 0 next ≡ o →
            None ≡ least_from (λ i. get (free_in tokens held) i) 0 next
        go None e = sym e
        go (Some i) e = let (_, (x, f), _) = least_found (λ i. get (free_in tokens held) i) next 0 i e in let g = none i in absurd cc

    -- where as many tickets are held as are live, none is free
    pub all_held : count_held held ≡ len tokens → len tokens ≡ len (free_in tokens held) + count_held held
        → None ≡ least_from (λ i. get (free_in tokens held) i) 0 next
    all_held e all =
        let none = empty_of_len (free_in tokens held) (omega (arith, e, all)) in
        nothing (λ q. ap (λ f. get f q) none ∙ get-empty nat_cmp q)

    pub empty : ((q : ℕ) → get tokens q ≡ None) → None ≡ least_from (λ i. get (free_in tokens held) i) 0 next
    empty none = nothing (λ q. none_free q (none q))

    pub passes : (i : ℕ) → Reaches tokens held i → is_held held i ≡ true → ((q : ℕ) → i < q → get tokens q ≡ None) →
        None ≡ least_from (λ i. get (free_in tokens held) i) 0 next
    passes i r e none = nothing (λ q. ⊎_elim (λ k. r.below q k)
        (λ k. ⊎_elim (λ s. subst (λ q. get (free_in tokens held) q ≡ None) s (held_free i e))
        (λ d. none_free q (none q (omega arith))) (cases_eq i q)) (cases_lt q i))

    pub finds : (i : ℕ) → Reaches tokens held i → is_held held i ≡ false →
        Some i ≡ least_from (λ i. get (free_in tokens held) i) 0 next
    finds i r e = go (least_from (λ i. get (free_in tokens held) i) 0 next) refl (get tokens i) refl
      where
        go : (o : Option ℕ) → least_from (λ i. get (free_in tokens held) i) 0 next ≡ o → (t : Option TokenTree) →
            get tokens i ≡ t → Some i ≡ least_from (λ i. get (free_in tokens held) i) 0 next
        go o f None t = let l = r.live in absurd cc
        go None f (Some x) t =
            let here = free_at tokens held i ∙ ap (λ b. if b then None else get tokens i) e in
            let gone = least_none (λ i. get (free_in tokens held) i) next 0 f i (omega arith) (let l = low i r.live in omega arith) in
            absurd cc
        go (Some j) f (Some x) t =
            let here = free_at tokens held i ∙ ap (λ b. if b then None else get tokens i) e in
            let (_, (y, g), below) = least_found (λ i. get (free_in tokens held) i) next 0 j f in
            ⊎_elim (λ k. let n = r.below j k in absurd cc)
            (λ k. ⊎_elim (λ s. ap Some s ∙ sym f) (λ d. let n = below i (omega arith) (omega arith) in absurd cc) (cases_eq i j))
            (cases_lt j i)
