-- One entry after a change of the table of forks.
use Rattle.std.proofs.Common.{◌≡◌, ℕ, true, cond, Option, Some, None, Result, Ok, Err, refl, ap, ◌∙◌}
use Rattle.std.specs.Result.{OnOk}
use Rattle.std.specs.FinMap.{FinMap, empty, get, insert, remove, get-empty, get-insert, get-remove}
use Rattle.std.specs.Ordering.{eq_by_cmp}
use Rattle.std.specs.Cmp.{eq_by_cmp_equiv}
use Rattle.pcf_values.specs.declared.val.Val.{Val}
use Rattle.pcf_values.specs.declared.side.Side.{Side}
use Rattle.token_stacks.specs.Signatures.{Boxes}
use Rattle.fork_join.specs.Entries.{Entry, pending, has_left, has_right, kept_as, Key, key_cmp}
use Rattle.fork_join.specs.Arrivals.{with_arrival, after_arrival}
use Rattle.fork_join.proofs.Keys.{key_total}
use Rattle.test_core.specs.KeyByKey.{Stays, kept_then}

abbrev Table : Type 0
Table = FinMap key_cmp Entry

-- a key ties with itself
itself : (k : Key) → eq_by_cmp key_cmp k k ≡ true
itself k = (eq_by_cmp_equiv key_total).refl k

inserted : (f : Table) (k : Key) (e : Entry) → get (insert f k e) k ≡ Some e
inserted f k e = get-insert key_total f k e k ∙ ap (λ b. cond b (Some e) (get f k)) (itself k)

removed : (f : Table) (k : Key) → get (remove f k) k ≡ None
removed f k = get-remove key_total f k k ∙ ap (λ b. cond b None (get f k)) (itself k)

-- the rest stays
inserted_beside : (f : Table) (k : Key) (e : Entry) → Stays f (insert f k e) k
inserted_beside f k e q h = get-insert key_total f k e q ∙ ap (λ b. cond b (Some e) (get f q)) h

removed_beside : (f : Table) (k : Key) → Stays f (remove f k) k
removed_beside f k q h = get-remove key_total f k q ∙ ap (λ b. cond b None (get f q)) h

-- the same of a call that may fail, and of an equal box stack
module _ (f g : Table) (n : ℕ) (u t : Boxes) (same : u ≡ t) (e : Entry) where
  put : g ≡ insert f (n, u) e → g ≡ insert f (n, t) e
  put h = h ∙ ap (λ u. insert f (n, u) e) same

  pub put_here : {T E : Type 0} (r : Result T E) → OnOk r (g ≡ insert f (n, u) e) → OnOk r (get g (n, t) ≡ Some e)
  put_here (Ok x) h = ap (λ g. get g (n, t)) (put h) ∙ inserted f (n, t) e
  put_here (Err x) h = tt

  pub put_others : {T E : Type 0} (r : Result T E) → OnOk r (g ≡ insert f (n, u) e) → OnOk r (Stays f g (n, t))
  put_others (Ok x) h = λ q d. ap (λ g. get g q) (put h) ∙ inserted_beside f (n, t) e q d
  put_others (Err x) h = tt

-- nothing is in the empty table
pub nothing : (f : Table) (k : Key) → f ≡ empty → get f k ≡ None
nothing f k h = ap (λ f. get f k) h ∙ get-empty key_cmp k

-- what an answer leaves at its key, and beside it
with_here : (o : Option Entry) (f : Table) (k : Key) (s : Side) (v : Val) → get f k ≡ o →
    get (with_arrival o f k s v) k ≡ kept_then o s v
with_here None f k s v h = h
with_here (Some pending) f k s v h = inserted f k (kept_as s v)
with_here (Some (has_left w)) f k s v h = removed f k
with_here (Some (has_right w)) f k s v h = removed f k

with_others : (o : Option Entry) (f : Table) (k : Key) (s : Side) (v : Val) → Stays f (with_arrival o f k s v) k
with_others None f k s v q d = refl
with_others (Some pending) f k s v q d = inserted_beside f k (kept_as s v) q d
with_others (Some (has_left w)) f k s v q d = removed_beside f k q d
with_others (Some (has_right w)) f k s v q d = removed_beside f k q d

pub arrived_here : (f g : Table) (k : Key) (s : Side) (v : Val) → g ≡ after_arrival f k s v → get g k ≡ kept_then (get f k) s v
arrived_here f g k s v h = ap (λ g. get g k) h ∙ with_here (get f k) f k s v refl

pub arrived_others : (f g : Table) (k : Key) (s : Side) (v : Val) → g ≡ after_arrival f k s v → Stays f g k
arrived_others f g k s v h q d = ap (λ g. get g q) h ∙ with_others (get f k) f k s v q d
