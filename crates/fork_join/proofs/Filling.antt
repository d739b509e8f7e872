-- A table into which listed entries are put: at each key it answers what the list has there, or else what it had. And entries that are put
-- and taken again leave a table as it was that had none of them.
use Rattle.std.proofs.Common.{◌≡◌, ℕ, zero, suc, Bool, true, false, cond, List, [], ◌∷◌, ◌++◌, Option, Some, None, refl, sym, ap}
use Rattle.std.proofs.Common.{◌∙◌, subst}
use Rattle.std.proofs.Common.{◌+◌, ◌<◌, length, arith}
use Rattle.std.specs.Prelude.{is_some, IsSome, ◌&&◌, T, map, take, slice_index_or}
use Rattle.std.specs.Option.{option_or}
use Rattle.std.specs.declared.cmp.Ordering.{Ordering}
use Rattle.std.specs.declared.cmp.Ordering.TheVariants.{Less, Equal, Greater}
use Rattle.std.specs.Cmp.{tied_itself}
use Rattle.std.specs.Ordering.{eq_by_cmp, is_eq, is_lt}
use Rattle.std.specs.FinMap as finite
use Rattle.std.specs.FinMap.{FinMap, find, get-insert, get-remove, same_map, get-entries, entries_sorted}
use Rattle.std.specs.FinMap.Entries.{is_sorted, below_all}
use Rattle.fork_join.specs.Entries.{Entry, Key, key_cmp}
use Rattle.fork_join.specs.declared.listing.Open.{Open}
use Rattle.fork_join.specs.Listed.{open_of}
use Rattle.fork_join.specs.Filling.{filled, emptied, AllNew}
use Rattle.fork_join.proofs.Keys.{key_total, key_cmp-same, is_equal}

-- whether a key is listed
abbrev pub listed_at : List (Key × Entry) → Key → Bool
listed_at es q = is_some (find key_cmp q es)

-- each key of the one list is one of the other
abbrev pub Within : List (Key × Entry) → List (Key × Entry) → Type 0
Within es fs = (q : Key) → listed_at es q ≡ true → listed_at fs q ≡ true

-- nothing is listed behind what is listed
gone_test : (b : Bool) (x : Entry) (o g : Option Entry) →
    cond (is_some o) None (cond b None g) ≡ cond (is_some (cond b (Some x) o)) None g
gone_test true x None g = refl
gone_test true x (Some y) g = refl
gone_test false x o g = refl

-- what is left of a table, key by key
pub emptied_get : (es : List (Key × Entry)) (f : FinMap key_cmp Entry) (q : Key) →
    finite.get (emptied es f) q ≡ cond (listed_at es q) None (finite.get f q)
emptied_get [] f q = refl
emptied_get (e ∷ es) f q =
    emptied_get es (finite.remove f e.0) q
    ∙ ap (cond (listed_at es q) None) (get-remove key_total f e.0 q)
    ∙ gone_test (eq_by_cmp key_cmp q e.0) e.1 (find key_cmp q es) (finite.get f q)

-- what is put under a listed key is taken out again
put_gone : (b : Bool) (t : Bool) (x : Entry) (g : Option Entry) → (t ≡ true → b ≡ true) →
    cond b None (cond t (Some x) g) ≡ cond b None g
put_gone true t x g h = refl
put_gone false true x g h = let z = h refl in cc
put_gone false false x g h = refl

-- a test of a tie
tied : (q k : Key) → eq_by_cmp key_cmp q k ≡ true → q ≡ k
tied q k h = key_cmp-same q k (is_equal (key_cmp q k) h)

pub put_taken : (es : List (Key × Entry)) (f : FinMap key_cmp Entry) (k : Key) (x : Entry) → listed_at es k ≡ true →
    emptied es (finite.insert f k x) ≡ emptied es f
put_taken es f k x h = same_map key_total key_cmp-same _ _ (λ q.
    emptied_get es (finite.insert f k x) q
    ∙ ap (cond (listed_at es q) None) (get-insert key_total f k x q)
    ∙ put_gone (listed_at es q) (eq_by_cmp key_cmp q k) x (finite.get f q) (λ t. ap (listed_at es) (tied q k t) ∙ h)
    ∙ sym (emptied_get es f q))

-- a table that has no listed entry loses none
pub none_taken : (es : List (Key × Entry)) (f : FinMap key_cmp Entry) → AllNew es f → emptied es f ≡ f
none_taken es f new = same_map key_total key_cmp-same _ _ (λ q. emptied_get es f q ∙ go q (find key_cmp q es) refl)
  where
    go : (q : Key) (o : Option Entry) → find key_cmp q es ≡ o → cond (is_some o) None (finite.get f q) ≡ finite.get f q
    go q None e = refl
    go q (Some x) e = sym (new q (subst IsSome (sym e) refl))

-- the later entry is none where the earlier is
later : (b : Bool) (x : Entry) (o g : Option Entry) → (b ≡ true → o ≡ None) →
    option_or o (cond b (Some x) g) ≡ option_or (cond b (Some x) o) g
later true x o g h = ap (λ o. option_or o (Some x)) (h refl)
later false x o g h = refl

-- two tests that hold
first_of : (a b : Bool) → T (a && b) → T a
first_of true b p = tt
first_of false b p = p

second_of : (a b : Bool) → T (a && b) → T b
second_of true b p = p
second_of false b p = absurd p

-- below all keys of a list there is none of it
find_lower : (q : Key) (es : List (Key × Entry)) → T (below_all key_cmp q es) → find key_cmp q es ≡ None
find_lower q [] h = refl
find_lower q (e ∷ es) h = go (key_cmp q e.0) (first_of _ _ h) (find_lower q es (second_of _ _ h))
  where
    go : (r : Ordering) → T (is_lt r) → find key_cmp q es ≡ None → cond (is_eq r) (Some e.1) (find key_cmp q es) ≡ None
    go Less h none = none
    go Equal h none = absurd h
    go Greater h none = absurd h

-- what is put into a table, key by key
filled_get : (es : List (Key × Entry)) → T (is_sorted key_cmp es) → (f : FinMap key_cmp Entry) (q : Key) →
    finite.get (filled es f) q ≡ option_or (find key_cmp q es) (finite.get f q)
filled_get [] s f q = refl
filled_get (e ∷ es) s f q =
    filled_get es (second_of _ _ s) (finite.insert f e.0 e.1) q
    ∙ ap (option_or (find key_cmp q es)) (get-insert key_total f e.0 e.1 q)
    ∙ later (eq_by_cmp key_cmp q e.0) e.1 (find key_cmp q es) (finite.get f q)
    (λ t. ap (λ q. find key_cmp q es) (tied q e.0 t) ∙ find_lower e.0 es (first_of _ _ s))

-- the same of all entries of another table
pub all_filled : (g f : FinMap key_cmp Entry) (q : Key) →
    finite.get (filled (finite.entries g) f) q ≡ option_or (finite.get g q) (finite.get f q)
all_filled g f q = filled_get (finite.entries g) (entries_sorted g) f q ∙
    ap (λ o. option_or o (finite.get f q)) (sym (get-entries g q))

-- a table with none of another's entries
pub all_new : (g f : FinMap key_cmp Entry) → ((q : Key) → IsSome (finite.get g q) → finite.get f q ≡ None) → AllNew (finite.entries g) f
all_new g f new q h = new q (subst IsSome (sym (get-entries g q)) h)

-- a listed entry is listed
pub first_listed : (e : Key × Entry) (es : List (Key × Entry)) → listed_at (e ∷ es) e.0 ≡ true
first_listed e es = ap (λ r. is_some (cond (is_eq r) (Some e.1) (find key_cmp e.0 es))) (tied_itself key_total e.0)

-- so are those behind it
pub rest_within : (e : Key × Entry) (es : List (Key × Entry)) → Within es (e ∷ es)
rest_within e es q h = go (eq_by_cmp key_cmp q e.0) (find key_cmp q es) h
  where
    go : (b : Bool) (o : Option Entry) → is_some o ≡ true → is_some (cond b (Some e.1) o) ≡ true
    go true o h = refl
    go false o h = h

-- one entry more
pub filled_more : (es : List (Key × Entry)) (e : Key × Entry) (f : FinMap key_cmp Entry) →
    filled (es ++ e ∷ []) f ≡ finite.insert (filled es f) e.0 e.1
filled_more [] e f = refl
filled_more (d ∷ es) e f = filled_more es e (finite.insert f d.0 d.1)

-- one key more
pub emptied_more : (es : List (Key × Entry)) (e : Key × Entry) (f : FinMap key_cmp Entry) →
    emptied (es ++ e ∷ []) f ≡ finite.remove (emptied es f) e.0
emptied_more [] e f = refl
emptied_more (d ∷ es) e f = emptied_more es e (finite.remove f d.0)

-- what is put in is taken out again, where all its keys are
pub fill_taken : (es ds : List (Key × Entry)) (f : FinMap key_cmp Entry) → Within ds es → emptied es (filled ds f) ≡ emptied es f
fill_taken es [] f w = refl
fill_taken es (d ∷ ds) f w =
    fill_taken es ds (finite.insert f d.0 d.1) (λ q h. w q (rest_within d ds q h))
    ∙ put_taken es f d.0 d.1 (w d.0 (first_listed d ds))

-- the first of a list are in the list
pub taken_within : (i : ℕ) (xs : List Open) → Within (map open_of (take i xs)) (map open_of xs)
taken_within zero xs = λ q h. cc
taken_within (suc i) [] = λ q h. h
taken_within (suc i) (x ∷ xs) = λ q h.
    go q (eq_by_cmp key_cmp q (open_of x).0) (taken_within i xs q) h
  where
    go : (q : Key) (b : Bool) → (listed_at (map open_of (take i xs)) q ≡ true → listed_at (map open_of xs) q ≡ true) →
        is_some (cond b (Some (open_of x).1) (find key_cmp q (map open_of (take i xs)))) ≡ true →
        is_some (cond b (Some (open_of x).1) (find key_cmp q (map open_of xs))) ≡ true
    go q true ih h = refl
    go q false ih h = ih h

-- entries of which some were put in and all are taken out: all is as it was, where none was there
pub back : (i : ℕ) (xs : List Open) (f : FinMap key_cmp Entry) → AllNew (map open_of xs) f →
    emptied (map open_of xs) (filled (map open_of (take i xs)) f) ≡ f
back i xs f new = fill_taken (map open_of xs) (map open_of (take i xs)) f (taken_within i xs) ∙ none_taken (map open_of xs) f new

-- the first of a list and the one behind them
next_listed : (i : ℕ) (xs : List Open) (x : Open) → i < length xs → x ≡ slice_index_or xs i x →
    map open_of (take (i + 1) xs) ≡ map open_of (take i xs) ++ open_of x ∷ []
next_listed i xs x l e = let n : i + 1 ≡ suc i = omega arith in ap (λ (i : ℕ). map open_of (take i xs)) n ∙ go i xs l e
  where
    go : (i : ℕ) (xs : List Open) → i < length xs → x ≡ slice_index_or xs i x →
        map open_of (take (suc i) xs) ≡ map open_of (take i xs) ++ open_of x ∷ []
    go i [] l e = absurd (omega (arith, l))
    go zero (y ∷ xs) l e = ap (λ (y : Open). open_of y ∷ []) (sym e)
    go (suc i) (y ∷ xs) l e = ap (λ (l : List (Key × Entry)). open_of y ∷ l) (go i xs (omega (arith, l)) e)

pub filled_next : (i : ℕ) (xs : List Open) (x : Open) → i < length xs → x ≡ slice_index_or xs i x → (f : FinMap key_cmp Entry) →
    filled (map open_of (take (i + 1) xs)) f ≡ finite.insert (filled (map open_of (take i xs)) f) (open_of x).0 (open_of x).1
filled_next i xs x l e f = ap (λ es. filled es f) (next_listed i xs x l e) ∙ filled_more (map open_of (take i xs)) (open_of x) f

pub emptied_next : (i : ℕ) (xs : List Open) (x : Open) → i < length xs → x ≡ slice_index_or xs i x → (f : FinMap key_cmp Entry) →
    emptied (map open_of (take (i + 1) xs)) f ≡ finite.remove (emptied (map open_of (take i xs)) f) (open_of x).0
emptied_next i xs x l e f = ap (λ es. emptied es f) (next_listed i xs x l e) ∙ emptied_more (map open_of (take i xs)) (open_of x) f
