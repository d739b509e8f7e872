-- The scan gives the tree of a derivation, or the first fault.
use Rattle.std.proofs.Common.{◌≡◌, ℕ, ◌+◌, ◌^◌, ◌<◌, ◌≤◌, List, [], ◌∷◌, ◌++◌, map, Ok, Err, nat_lt}
use Rattle.std.proofs.Common.{nat_le, if◌then◌else◌, refl, sym, ap, ◌∙◌, subst, append_assoc, append-nil, arith}
use Rattle.pcf_values.specs.Most.{most_nodes, most_open}
use Rattle.pcf_reader.specs.Tokens.{Token, Number, End, Junk, Placed}
use Rattle.pcf_reader.specs.Grammar.{Program, program_text, Part, expr_part, expr_text, Written, placed, plain, marked}
use Rattle.pcf_reader.specs.Machine.{State, want_expr, whole, Step, refuse, go, finish, step}
use Rattle.pcf_reader.specs.Text.{count_of, IsNarrow, Derives, IsPrefix, Reads, FaultAt, rank, IsFirstFault, IsShallow, Each}
use Rattle.pcf_reader.specs.Scan.{TreeOrFault, proper, within, checked, scan}
use Rattle.pcf_reader.specs.declared.fault.ReadFault.{ReadFault}
use Rattle.pcf_reader.specs.declared.fault.ReadFault.TheVariants.{NoMemory, NotText, BadToken, NumberTooWide, Unexpected, TooDeep, TooLarge}
use Rattle.pcf_reader.specs.declared.fault.ReadFault.TheVariants.{TooLong}
use Rattle.std.proofs.lemmas.Bool.{cond_both, ltb-true, ltb-false, leb-true, leb-false}
use Rattle.pcf_reader.proofs.Lists.{head_is, tail_is, none_left, WritesNarrow, each_append, each_at, count-append, map-append}
use Rattle.pcf_reader.proofs.Follows.{Follows, chain}
use Rattle.pcf_reader.proofs.Exact.{program_exact}
use Rattle.pcf_reader.proofs.Reached.{Reached, Texts, Goes, step_goes}
use Rattle.pcf_reader.proofs.Complete.{complete}

-- The machine takes these tokens with their depths and counts, and may end at the last.
abbrev pub PassesBy : Step → Written → (State → Type 0) → Type 0 → Type 0
PassesBy refuse w go_on last = ⊥
PassesBy (go d c t) w go_on last = (d ≡ w.depth) × (c ≡ w.count) × go_on t
PassesBy (finish p) w go_on last = (0 ≡ w.depth) × (0 ≡ w.count) × last

-- the machine takes all of these
abbrev pub Passes : Texts → State → Type 0
Passes [] s = Unit {0}
Passes (w ∷ ws) s = PassesBy (step s w.at w.token) w (λ t. Passes ws t) (ws ≡ [])

-- by a step that is this one
by_step : (st st' : Step) (w : Written) (P : State → Type 0) (L : Type 0) → st ≡ st' → PassesBy st' w P L → PassesBy st w P L
by_step st st' w P L e h = subst (λ x. PassesBy x w P L) (sym e) h

-- a run and then what passes
follows_pass : (u v : Texts) (s t : State) → Follows s u t → Passes v t → Passes (u ++ v) s
follows_pass [] v s t h k = subst (λ x. Passes v x) (sym h) k
follows_pass (w ∷ u) v s t h k = by_step (step s w.at w.token) (go w.depth w.count h.0) w (λ t. Passes (u ++ v) t) (u ++
    v ≡ []) h.1 (refl, refl, follows_pass u v h.0 t h.2 k)

-- each program passes
pub program_passes : (p : Program) → Passes (program_text p) (want_expr whole)
program_passes p =
    let (t, follows, ends) = program_exact p in
    follows_pass (expr_text 0 p.expr) (plain p.end End ∷ []) (want_expr whole) t follows
    (by_step (step t p.end End) (finish (expr_part p.expr)) (plain p.end End) (λ t. Passes [] t) ([] ≡ []) ends (refl, refl, refl))

-- a written token is told by its four parts
pub written_is : (x w : Written) → x.at ≡ w.at → x.token ≡ w.token → x.depth ≡ w.depth → x.count ≡ w.count → x ≡ w
written_is x w a t d c =
    let p : x ≡ record { at = w.at; token = x.token; depth = x.depth; count = x.count } =
    ap (λ i. record { at = i; token = x.token; depth = x.depth; count = x.count }) a in
    let q : record { at = w.at; token = x.token; depth = x.depth; count = x.count } ≡ record {
      at = w.at;
      token = w.token;
      depth =
          x.depth;
      count = x.count;
    } = ap (λ i. record { at = w.at; token = i; depth = x.depth; count = x.count }) t in
    let r : record { at = w.at; token = w.token; depth = x.depth; count = x.count } ≡ record {
      at = w.at;
      token = w.token;
      depth =
          w.depth;
      count = x.count;
    } = ap (λ i. record { at = w.at; token = w.token; depth = i; count = x.count }) d in
    let s : record { at = w.at; token = w.token; depth = w.depth; count = x.count } ≡ w =
    ap (λ i. record { at = w.at; token = w.token; depth = w.depth; count = i }) c in
    p ∙ q ∙ r ∙ s

-- what a run takes, a program that passes takes in the same way
same_step : (s t : State) (w x : Written) (P : State → Type 0) (L : Type 0) → step s w.at w.token ≡ go w.depth w.count t →
    PassesBy (step s x.at x.token) x P L → placed x ≡ placed w → (x ≡ w) × P t
same_step s t w x P L h k e =
    let at : x.at ≡ w.at = ap (λ p. p.at) e in
    let token : x.token ≡ w.token = ap (λ p. p.token) e in
    let same : step s x.at x.token ≡ go w.depth w.count t = ap (λ i. step s i x.token) at ∙ ap (λ y. step s w.at y) token ∙ h in
    let k' : PassesBy (go w.depth w.count t) x P L = subst (λ st. PassesBy st x P L) same k in
    (written_is x w at token (sym k'.0) (sym k'.1), k'.2)

-- what passes from where a run begins goes on behind it, as long as its tokens are those of the run
pub passes_on : (u v : Texts) (s t : State) (y : List Placed) → Follows s u t → Passes v s → map placed v ≡ map placed u ++ y →
    (r : Texts) × (v ≡ u ++ r) × Passes r t × (map placed r ≡ y)
passes_on [] v s t y h k e = (v, refl, subst (λ x. Passes v x) h k, e)
passes_on (w ∷ u) [] s t y h k e = absurd (none_left (placed w) (map placed u ++ y) e)
passes_on (w ∷ u) (x ∷ v) s t y h k e =
    let (is, pass) = same_step s h.0 w x (λ t. Passes v t) (v ≡ []) h.1 k
    (head_is (placed x) (placed w) (map placed v) (map placed u ++ y) e) in
    let (r, more, rest, left) = passes_on u v h.0 t y h.2 pass (tail_is (placed x) (placed w) (map placed v) (map placed u ++ y) e) in
    (r, ap (λ z. z ∷ v) is ∙ ap (λ z. w ∷ z) more, rest, left)

-- a program that passes over the tokens of a run and no more takes them as the run did
pub agrees : (front : Texts) (x : Written) (v ws : Texts) (s t : State) (a : List Placed)
    → Passes (front ++ x ∷ v) s → Follows s ws t → map placed ws ≡ map placed front ++ placed x ∷ a → (r : Texts) ×
    (ws ≡ front ++ x ∷ r)
agrees [] x v [] s t a passes follows same = absurd (none_left (placed x) a same)
agrees [] x v (w ∷ ws) s t a passes follows same =
    let (is, pass) = same_step s follows.0 w x (λ t. Passes v t) (v ≡ []) follows.1 passes
    (sym (head_is (placed w) (placed x) (map placed ws) a same)) in
    (ws, ap (λ z. z ∷ ws) (sym is))
agrees (y ∷ front) x v [] s t a passes follows same = absurd (none_left (placed y) (map placed front ++ placed x ∷ a) same)
agrees (y ∷ front) x v (w ∷ ws) s t a passes follows same =
    let (is, pass) = same_step s follows.0 w y (λ t. Passes (front ++ x ∷ v) t) (front ++ x ∷
    v ≡ []) follows.1 passes (sym (head_is (placed w) (placed y) (map placed ws) (map placed front ++ placed x ∷ a) same)) in
    let (r, more) = agrees front x v ws follows.0 t a pass follows.2
    (tail_is (placed w) (placed y) (map placed ws) (map placed front ++ placed x ∷ a) same) in
    (r, ap (λ z. z ∷ ws) (sym is) ∙ ap (λ z. y ∷ z) more)

-- the tokens of the list that stand at a place
pub split_at : (ws : Texts) (b : List Placed) (x : Placed) (a : List Placed) → map placed ws ≡ b ++ x ∷ a → (u : Texts) ×
    (w : Written) × (v : Texts) × (ws ≡ u ++ w ∷ v) × (map placed u ≡ b) × (placed w ≡ x)
split_at [] [] x a e = absurd (none_left x a e)
split_at [] (y ∷ b) x a e = absurd (none_left y (b ++ x ∷ a) e)
split_at (w ∷ ws) [] x a e = ([], w, ws, refl, refl, head_is (placed w) x (map placed ws) a e)
split_at (w ∷ ws) (y ∷ b) x a e =
    let (u, z, v, is, before, here) = split_at ws b x a (tail_is (placed w) y (map placed ws) (b ++ x ∷ a) e) in (
      w ∷ u,
      z,
      v,
      ap (λ q. w ∷ q) is,
      ap (λ q. placed w ∷ q) before ∙
          ap (λ q. q ∷ b) (head_is (placed w) y (map placed ws) (b ++ x ∷ a) e),
      here,
    )

-- a step refuses no token of these
abbrev pub IsTrueToken : Token → Type 0
IsTrueToken Junk = ⊥
IsTrueToken _ = Unit {0}

-- the same of a written token
abbrev pub WritesTrue : Written → Type 0
WritesTrue w = IsTrueToken w.token

-- what has been read so far, without a fault, leads to the state with n nodes
pub record SoFar (ws : Texts) (s : State) (n : ℕ) : Type 0 where
  pub run : Follows (want_expr whole) ws s
  pub reached : Reached s ws
  pub shallow : Each IsShallow ws
  pub counted : count_of ws ≡ n
  pub small : n ≤ most_nodes
  pub narrow : Each WritesNarrow ws
  pub true_tokens : Each WritesTrue ws

-- a program's reading of a token of these is theirs
reads_here : (ws : Texts) (s : State) (b : List Placed) (x : Placed) (a : List Placed) (w : Written)
    → Follows (want_expr whole) ws s → map placed ws ≡ b ++ x ∷ a → (r : Reads b x w) → (v : Texts) ×
    (ws ≡ r.front ++ w ∷ v)
reads_here ws s b x a w run e r =
    agrees r.front w r.rest ws (want_expr whole) s a
    (subst (λ z. Passes z (want_expr whole)) r.text (program_passes r.program)) run
    (e ∙ ap (λ z. z ++ x ∷ a) (sym r.before_is) ∙ ap (λ z. map placed r.front ++ z ∷ a) (sym r.token_is))

-- some program goes on behind what has been read
pub front_of : (ws : Texts) (s : State) → Reached s ws → (b : List Placed) (a : List Placed) → map placed ws ≡ b ++ a → IsPrefix b
front_of ws s reached b a e =
    let (p, rest, text) = complete s ws reached in (
      p,
      a ++ map placed rest,
      ap (λ z. map placed z) text ∙ map-append ws rest ∙ ap (λ z. z ++ map placed rest) e ∙
          append_assoc b a (map placed rest),
    )

-- no token of them has a fault
pub no_fault : (ws : Texts) (s : State) (n : ℕ) → SoFar ws s n → (b : List Placed) (x : Placed) (a : List Placed) (g : ReadFault) →
    map placed ws ≡ b ++ x ∷ a → FaultAt b x g → ⊥
no_fault ws s n so b x a NoMemory e f = f
no_fault ws s n so b x a (NotText at) e f = f
no_fault ws s n so b x a TooLong e f = f
no_fault ws s n so b x a (BadToken at) e f =
    let (u, w, v, is, before, here) = split_at ws b x a e in
    subst (λ t. IsTrueToken t) (ap (λ p. p.token) here ∙ f.0)
    (each_at WritesTrue u w v (subst (λ z. Each WritesTrue z) is so.true_tokens))
no_fault ws s n so b x a (NumberTooWide at) e f =
    let (u, w, v, is, before, here) = split_at ws b x a e in
    let small : f.0 < 2 ^ 64 = subst (λ t. IsNarrow t) (ap (λ p. p.token) here ∙
    f.1) (each_at WritesNarrow u w v (subst (λ z. Each WritesNarrow z) is so.narrow)) in
    let large : 2 ^ 64 ≤ f.0 = f.2 in
    omega arith
no_fault ws s n so b x a (Unexpected at) e f = f.0 (front_of ws s so.reached (b ++ x ∷ []) a (e ∙ sym (append_assoc b (x ∷ []) a)))
no_fault ws s n so b x a (TooDeep at) e f =
    let (w, r, deep, place) = f in
    let (v, is) = reads_here ws s b x a w so.run e r in
    let shallow : w.depth < most_open = each_at IsShallow r.front w v (subst (λ z. Each IsShallow z) is so.shallow) in
    omega (arith, deep)
no_fault ws s n so b x a (TooLarge at) e f =
    let (w, r, large, place) = f in
    let (v, is) = reads_here ws s b x a w so.run e r in
    let total : count_of ws ≡ count_of r.front + (w.count + count_of v) = ap count_of is ∙ count-append r.front (w ∷ v) in
    omega (arith, large, total, so.counted, so.small)

-- what a fault list says of an answer
abbrev pub IsFault : List Placed → ReadFault → Type 0
IsFault all NoMemory = Unit {0}
IsFault all f = IsFirstFault all f

-- a tree that a prefix of the list derives, or its fault
abbrev pub Judged : List Placed → TreeOrFault → Type 0
Judged all (Ok t) = (front : List Placed) × (xs : List Placed) × (all ≡ front ++ xs) × Derives front t
Judged all (Err f) = IsFault all f

-- a token is no token, or a number too wide, or proper
pub proper_cases : (P : TreeOrFault → Type 0) (at : ℕ) (x : Token) (r : TreeOrFault)
    → (x ≡ Junk → P (Err (BadToken at))) → ((n : ℕ) → x ≡ Number n → 2 ^ 64 ≤ n → P (Err (NumberTooWide at))) →
    (IsNarrow x → IsTrueToken x → P r) → P (proper at x r)
proper_cases P at Junk r bad wide good = bad refl
proper_cases P at (Number n) r bad wide good =
    cond_both (nat_lt n (2 ^ 64)) r (Err (NumberTooWide at)) P (λ e. good (ltb-true n (2 ^ 64) e) tt)
    (λ e. wide n refl (ltb-false n (2 ^ 64) e))
proper_cases P at x r bad wide good = good tt tt

-- it stands too deep, or is one too many, or is within the limits
pub within_cases : (P : TreeOrFault → Type 0) (at d n : ℕ) (r : TreeOrFault)
    → (most_open ≤ d → P (Err (TooDeep at))) → (d < most_open → most_nodes < n → P (Err (TooLarge at))) →
    (d < most_open → n ≤ most_nodes → P r) → P (within at d n r)
within_cases P at d n r deep large good =
    cond_both (nat_le most_open d) (Err (TooDeep at)) (if nat_lt most_nodes n then Err (TooLarge at) else r) P
    (λ e. deep (leb-true most_open d e))
    (λ e. cond_both (nat_lt most_nodes n) (Err (TooLarge at)) r P (λ f. large (leb-false most_open d e) (ltb-true most_nodes n f))
    (λ f. good (leb-false most_open d e) (ltb-false most_nodes n f)))

-- faults that a token does not have
not_bad : (b : List Placed) (x : Placed) (at : ℕ) → IsTrueToken x.token → FaultAt b x (BadToken at) → ⊥
not_bad b x at h f = subst (λ t. IsTrueToken t) f.0 h

-- a narrow number is not too wide
not_wide : (b : List Placed) (x : Placed) (at : ℕ) → IsNarrow x.token → FaultAt b x (NumberTooWide at) → ⊥
not_wide b x at h f =
    let small : f.0 < 2 ^ 64 = subst (λ t. IsNarrow t) f.1 h in
    let large : 2 ^ 64 ≤ f.0 = f.2 in
    omega arith

-- above a token that is none no other fault is told
bad_above : (b : List Placed) (x : Placed) (g : ReadFault) → rank g < 2 → FaultAt b x g → ⊥
bad_above b x NoMemory h f = f
bad_above b x (NotText at) h f = f
bad_above b x (BadToken at) h f = omega arith
bad_above b x (NumberTooWide at) h f = omega arith
bad_above b x (Unexpected at) h f = omega arith
bad_above b x (TooDeep at) h f = omega arith
bad_above b x (TooLarge at) h f = omega arith
bad_above b x TooLong h f = omega arith

-- and above a number too wide only that it is no token
wide_above : (b : List Placed) (x : Placed) (v : ℕ) → x.token ≡ Number v → (g : ReadFault) → rank g < 3 → FaultAt b x g → ⊥
wide_above b x v is NoMemory h f = f
wide_above b x v is (NotText at) h f = f
wide_above b x v is (BadToken at) h f = not_bad b x at (subst (λ t. IsTrueToken t) (sym is) tt) f
wide_above b x v is (NumberTooWide at) h f = omega arith
wide_above b x v is (Unexpected at) h f = omega arith
wide_above b x v is (TooDeep at) h f = omega arith
wide_above b x v is (TooLarge at) h f = omega arith
wide_above b x v is TooLong h f = omega arith

-- A step that is taken, from what has been read so far.
module _ (ws : Texts) (s : State) (n : ℕ) (so : SoFar ws s n) (x : Placed) (good : IsNarrow x.token) (real : IsTrueToken x.token) where
  -- what is refused is a prefix of no program
  refused : step s x.at x.token ≡ refuse → IsPrefix (map placed ws ++ x ∷ []) → ⊥
  refused is h =
      let (p, rest, e) = h in
      let (r, more, pass, left) = passes_on ws (program_text p) (want_expr whole) s (x ∷ rest) so.run (program_passes p) (e ∙
      append_assoc (map placed ws) (x ∷ []) rest) in
      elim r as (λ r. Passes r s → map placed r ≡ x ∷ rest → ⊥) [
        | [] ↦ λ pass left. none_left x rest left
        | w ∷ r ↦ λ pass left.
            let here : placed w ≡ x = head_is (placed w) x (map placed r) rest left in
            let same : step s w.at w.token ≡ refuse = ap (λ (p : Placed). step s p.at p.token) here ∙ is in
            subst (λ st. PassesBy st w (λ t. Passes r t) (r ≡ [])) same pass
      ] pass left

  -- a proper token has no fault above being unexpected
  none_above_unexpected : (g : ReadFault) → rank g < 4 → FaultAt (map placed ws) x g → ⊥
  none_above_unexpected NoMemory h f = f
  none_above_unexpected (NotText at) h f = f
  none_above_unexpected (BadToken at) h f = not_bad (map placed ws) x at real f
  none_above_unexpected (NumberTooWide at) h f = not_wide (map placed ws) x at good f
  none_above_unexpected (Unexpected at) h f = omega arith
  none_above_unexpected (TooDeep at) h f = omega arith
  none_above_unexpected (TooLarge at) h f = omega arith
  none_above_unexpected TooLong h f = omega arith

  module _ (d c : ℕ) (t : State) (taken : step s x.at x.token ≡ go d c t) where
    with_token : Texts
    with_token = ws ++ marked x.at x.token d c ∷ []

    run_on : Follows (want_expr whole) (ws ++ marked x.at x.token d c ∷ []) t
    run_on = chain ws (marked x.at x.token d c ∷ []) (want_expr whole) s t so.run (t, taken, refl)

    reached_on : Reached t (ws ++ marked x.at x.token d c ∷ [])
    reached_on = subst (λ st. Goes ws st x.at x.token) taken (step_goes s ws so.reached x.at x.token)

    tokens_on : map placed (ws ++ marked x.at x.token d c ∷ []) ≡ map placed ws ++ x ∷ []
    tokens_on = map-append ws (marked x.at x.token d c ∷ [])

    abbrev reads_on : Reads (map placed ws) x (marked x.at x.token d c)
    reads_on =
        let (p, rest, e) = complete t (ws ++ marked x.at x.token d c ∷ []) reached_on in
        record {
          program = p;
          front = ws;
          rest = rest;
          text = e ∙ append_assoc ws (marked x.at x.token d c ∷ []) rest;
          before_is = refl;
          token_is = refl;
        }

    none_above_deep : (g : ReadFault) → rank g < 5 → FaultAt (map placed ws) x g → ⊥
    none_above_deep NoMemory h f = f
    none_above_deep (NotText at) h f = f
    none_above_deep (BadToken at) h f = not_bad (map placed ws) x at real f
    none_above_deep (NumberTooWide at) h f = not_wide (map placed ws) x at good f
    none_above_deep (Unexpected at) h f =
        f.0 (front_of (ws ++ marked x.at x.token d c ∷ []) t reached_on (map placed ws ++ x ∷ []) [] (tokens_on ∙
        sym (append-nil (map placed ws ++ x ∷ []))))
    none_above_deep (TooDeep at) h f = omega arith
    none_above_deep (TooLarge at) h f = omega arith
    none_above_deep TooLong h f = omega arith

    none_above_large : d < most_open → (g : ReadFault) → rank g < 6 → FaultAt (map placed ws) x g → ⊥
    none_above_large shallow NoMemory h f = f
    none_above_large shallow (NotText at) h f = f
    none_above_large shallow (BadToken at) h f = not_bad (map placed ws) x at real f
    none_above_large shallow (NumberTooWide at) h f = not_wide (map placed ws) x at good f
    none_above_large shallow (Unexpected at) h f = none_above_deep (Unexpected at) (omega arith) f
    none_above_large shallow (TooDeep at) h f =
        let (w, r, deep, place) = f in
        let (v, is) = reads_here (ws ++ marked x.at x.token d c ∷ []) t (map placed ws) x [] w run_on tokens_on r in
        let all : Each IsShallow (ws ++ marked x.at x.token d c ∷ []) =
        each_append IsShallow ws (marked x.at x.token d c ∷ []) so.shallow (shallow, tt) in
        let low : w.depth < most_open = each_at IsShallow r.front w v (subst (λ z. Each IsShallow z) is all) in
        omega (arith, deep)
    none_above_large shallow (TooLarge at) h f = omega arith
    none_above_large shallow TooLong h f = omega arith

    so_on : d < most_open → n + c ≤ most_nodes → SoFar (ws ++ marked x.at x.token d c ∷ []) t (n + c)
    so_on shallow small = record {
      run = run_on;
      reached = reached_on;
      shallow = each_append IsShallow ws (marked x.at x.token d c ∷ []) so.shallow (shallow, tt);
      counted = omega (arith, count-append ws (marked x.at x.token d c ∷ []), so.counted);
      small = small;
      narrow = each_append WritesNarrow ws (marked x.at x.token d c ∷ []) so.narrow (good, tt);
      true_tokens = each_append WritesTrue ws (marked x.at x.token d c ∷ []) so.true_tokens (real, tt);
    }

  -- what ends the program derives its tree
  derived : (p : Part) → step s x.at x.token ≡ finish p → Derives (map placed ws ++ x ∷ []) p.tree
  derived p is =
      let (e, part, ends, text) =
      let g : Goes ws (finish p) x.at x.token = subst (λ st. Goes ws st x.at x.token) is (step_goes s ws so.reached x.at x.token) in
      g in
      let same : expr_text 0 e ≡ ws = sym text in
      let last : Written = plain x.at End in
      record {
        program = record { expr = e; end = x.at };
        written = ap (λ z. map placed (z ++ last ∷ [])) same ∙ map-append ws (last ∷ []) ∙
            ap (λ t. map placed ws ++ record { at = x.at; token = t } ∷ []) (sym ends);
        stands_for = ap (λ (p : Part). p.tree) part;
        shallow = subst (λ z. Each IsShallow (z ++ last ∷ [])) text
            (each_append IsShallow ws (last ∷ []) so.shallow (omega arith, tt));
        small = subst (λ z. count_of (z ++ last ∷ []) ≤ most_nodes) text
            (omega (arith, count-append ws (last ∷ []), so.counted, so.small));
        narrow = subst (λ z. Each WritesNarrow (z ++ last ∷ [])) text (each_append WritesNarrow ws (last ∷ []) so.narrow (tt, tt));
      }

  -- the fault at this token, where those of a lower rank are not
  fault_here : (xs : List Placed) (f : ReadFault) → FaultAt (map placed ws) x f →
      ((g : ReadFault) → rank g < rank f → FaultAt (map placed ws) x g → ⊥) → IsFirstFault (map placed ws ++ x ∷ xs) f
  fault_here xs f here above = record {
    before = map placed ws;
    token = x;
    after = xs;
    split = refl;
    here = here;
    none_before =
        no_fault ws s n so;
    none_above = above;
  }

  -- what a step at this token comes to, where the rest is judged
  judged_step : (xs : List Placed) (st : Step) → step s x.at x.token ≡ st
      → ((t : State) (m d c : ℕ) → SoFar (ws ++ marked x.at x.token d c ∷ []) t m →
      Judged (map placed (ws ++ marked x.at x.token d c ∷ []) ++ xs) (scan xs t m))
      → Judged (map placed ws ++ x ∷ xs) (checked (scan xs) n x.at st)
  judged_step xs refuse is next = fault_here xs (Unexpected x.at) (refused is, refl) none_above_unexpected
  judged_step xs (finish p) is next = (map placed ws ++ x ∷ [], xs, sym (append_assoc (map placed ws) (x ∷ []) xs), derived p is)
  judged_step xs (go d c t) is next =
      within_cases (λ r. Judged (map placed ws ++ x ∷ xs) r) x.at d (n + c) (scan xs t (n + c))
      (λ deep. fault_here xs (TooDeep x.at) (marked x.at x.token d c, reads_on d c t is, deep, refl) (none_above_deep d c t is))
      (λ shallow large. fault_here xs (TooLarge x.at) (
        marked x.at x.token d c,
        reads_on d c t is,
        omega (arith, so.counted),
        refl,
      ) (none_above_large d c t is shallow))
      (λ shallow small.
      subst (λ z. Judged z (scan xs t (n + c))) (ap (λ z. z ++ xs) (tokens_on d c t is) ∙ append_assoc (map placed ws) (x ∷ []) xs)
      (next t (n + c) d c (so_on d c t is shallow small)))

-- the scan from what has been read so far
pub judged : (items : List Placed) (ws : Texts) (s : State) (n : ℕ) → SoFar ws s n → Judged (map placed ws ++ items) (scan items s n)
judged [] ws s n so = tt
judged (x ∷ xs) ws s n so =
    proper_cases (λ r. Judged (map placed ws ++ x ∷ xs) r) x.at x.token (checked (scan xs) n x.at (step s x.at x.token))
    (λ junk. record {
      before = map placed ws;
      token = x;
      after = xs;
      split = refl;
      here = (junk, refl);
      none_before = no_fault ws s n so;
      none_above = bad_above (map placed ws) x;
    })
    (λ v is wide. record {
      before = map placed ws;
      token = x;
      after = xs;
      split = refl;
      here = (v, is, wide, refl);
      none_before = no_fault ws s n so;
      none_above = wide_above (map placed ws) x v is;
    })
    (λ good real. judged_step ws s n so x good real xs (step s x.at x.token) refl
    (λ t m d c so'. judged xs (ws ++ marked x.at x.token d c ∷ []) t m so'))

-- The scan of a list of tokens, from its beginning: a tree that a prefix of it derives, or its first fault.
pub scan_judged : (items : List Placed) → Judged items (scan items (want_expr whole) 0)
scan_judged items = judged items [] (want_expr whole) 0
    (record { run = refl; reached = refl; shallow = tt; counted = refl; small = omega arith; narrow = tt; true_tokens = tt })
