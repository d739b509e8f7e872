-- The step of a state and its name, by the move of the ticket's token.
use Rattle.std.proofs.Common.{◌≡◌, ℕ, suc, ◌+◌, true, false, [], Option, Some, None, Result, Ok, Err, OnOk, refl, sym, ap, ◌∙◌, subst}
use Rattle.std.proofs.Common.{arith}
use Rattle.std.specs.Option.{IsSome}
use Rattle.std.specs.Ordering.{nat_cmp}
use Rattle.std.specs.FinMap.{FinMap, get, remove}
use Rattle.std.proofs.lemmas.Option.{same_Some}
use Rattle.pcf_values.specs.declared.val.Val.{Val}
use Rattle.token_stacks.specs.Signatures.{Boxes}
use Rattle.fork_join.specs.Entries.{Entry, pending, has_left, has_right, key_cmp}
use Rattle.fork_join.specs.Arrivals.{IsOpenFor, arrival, with_arrival}
use Rattle.pcf_values.specs.declared.side.Side.{Side}
use Rattle.pcf_values.specs.declared.side.Side.TheVariants.{Left, Right}
use Rattle.net_build.specs.Nets.{NetTree}
use Rattle.move_rules.specs.Places.{Place, TokenTree, up, place_of}
use Rattle.move_rules.specs.Stacks.{boxes_at}
use Rattle.move_rules.specs.Moves.{Move, solo, fork, join, answer, stay, move}
use Rattle.move_rules.specs.AtNode.{Unaided}
use Rattle.pcf_values.specs.declared.operator.Operator.{Operator}
use Rattle.interleave_core.specs.declared.roles.Role.TheVariants.{Fork, Join, Last, Still}
use Rattle.interleave_core.specs.declared.stepped.Stepped.TheVariants.{Went, Forked, Answered}
use Rattle.interleave_laws.specs.Maps.{MapState, step_map, step_map_on, act_map, fork_map, join_map}
use Rattle.interleave_laws.specs.MapRuns.{IsReachedWithin}
use Rattle.interleave_laws.proofs.MapLaws.{step_reached, more_reached}
use Rattle.interleave_core.specs.Names.{step_name, name_on, name_of, name_at, MayTake}
use Rattle.interleave_core.specs.Forking.{HasBoxes, ForksTo}
use Rattle.interleave_core.specs.Joining.{JoinsAt, joined_tokens, joined_name}
use Rattle.interleave_core.specs.Roles.{role_move, MetAt, StandsStill}
use Rattle.interleave_core.specs.Moving.{SoloAt, UnaidedAt}
use Rattle.interleave_core.specs.Parts.{state}

module _ (net : NetTree) (f : FinMap nat_cmp TokenTree) (g : FinMap key_cmp Entry) (n : ℕ) (v : Option Val) (i : ℕ) where
  -- the step is that of the token's move
  acts : (x : TokenTree) (m : Move) → get f i ≡ Some x → move net x ≡ m →
      step_map net (state f g n v) i ≡ act_map m (state f g n v) i
  acts x m e h = ap (λ o. step_map_on net o (state f g n v) i) e ∙ ap (λ m. act_map m (state f g n v) i) h

  -- and so is its name
  named : (x : TokenTree) (m : Move) → get f i ≡ Some x → move net x ≡ m →
      step_name net (state f g n v) i ≡ name_of m (state f g n v)
  named x m e h = ap (λ o. name_on net o (state f g n v)) e ∙ ap (λ m. name_of m (state f g n v)) h

  -- a solo move
  pub solo_steps : (f' : FinMap nat_cmp TokenTree) → SoloAt net f i true f' → step_map net (state f g n v) i ≡ Some (state f' g n v)
  solo_steps f' (x, e, (k, y, m, h)) = acts x (solo k y) e m ∙ ap (λ f. Some (state f g n v)) (sym h)

  -- and its name
  pub solo_name : (f' : FinMap nat_cmp TokenTree) → SoloAt net f i true f' → step_name net (state f g n v) i ≡ Some Went
  solo_name f' (x, e, (k, y, m, h)) = named x (solo k y) e m

  -- a step that needs nothing but its token is a solo move
  pub alone_takes : (able : IsSome (step_map net (state f g n v) i)) → UnaidedAt net f i → MayTake (step_name net (state f g n v) i)
  alone_takes able (x, e, u) = go (move net x) refl u
    where
      go : (m : Move) → move net x ≡ m → Unaided m → MayTake (step_name net (state f g n v) i)
      go (solo k y) h u = subst MayTake (sym (named x (solo k y) e h)) tt
      go (fork k l r t) h u = elim u [ ]
      go (join k o s w c t) h u = elim u [ ]
      go (answer w) h u = elim u [ ]
      go stay h u =
          let z : step_map net (state f g n v) i ≡ None = acts x stay e h in
          let bad : IsSome {T = MapState} None = subst IsSome z able in cc

  -- where none is made, the token stands there, and all is as before
  pub no_solo : (f' : FinMap nat_cmp TokenTree) → SoloAt net f i false f' → StandsStill net f' i
  no_solo f' (x, e, (none, same)) = (x, ap (λ f. get f i) same ∙ e, none)

  -- and all is as before
  pub no_change : (f' : FinMap nat_cmp TokenTree) → SoloAt net f i false f' → f' ≡ f
  no_change f' (x, e, (none, same)) = same

  module _ (able : IsSome (step_map net (state f g n v) i)) (k : ℕ) where
    -- some role is there
    pub still_cannot : MetAt net f i k Still → ⊥
    still_cannot (x, e, h, _) =
        let z : step_map net (state f g n v) i ≡ None = acts x stay e h in
        let bad : IsSome {T = MapState} None = subst IsSome z able in cc

    -- a fork that is made found no entry
    fork_able : (t : Boxes) (o : Option Entry) (l r : Place) → IsSome (fork_map o (state f g n v) i k l r t) → o ≡ None
    fork_able t None l r h = refl
    fork_able t (Some e) l r h = cc

    -- a token that forks finds no entry
    pub fork_stands : (a b : ℕ) → MetAt net f i k (Fork a b) → (t : Boxes) × HasBoxes f i t × (get g (k, t) ≡ None)
    fork_stands a b (x, e, h, w) =
        let t = boxes_at (place_of x) in
        (t, (x, e, w, refl), fork_able t (get g (k, t)) (up a [] t) (up b [] t) (subst IsSome (acts x _ e h) able))

    -- the same box stack, however it was come by
    its_boxes : (x : TokenTree) (t : Boxes) → get f i ≡ Some x → HasBoxes f i t → boxes_at (place_of x) ≡ t
    its_boxes x t e (y, e', _, bt) = ap (λ x. boxes_at (place_of x)) (same_Some x y (sym e ∙ e')) ∙ bt

    -- the fork
    pub fork_steps : (a b : ℕ) (f' : FinMap nat_cmp TokenTree) (g' : FinMap key_cmp Entry) → MetAt net f i k (Fork a b) →
        ForksTo f f' g g' i n k a b → step_map net (state f g n v) i ≡ Some (state f' g' (suc n) v)
    fork_steps a b f' g' (x, e, h, _) (t, has, hf, hg) =
        let move_is : move net x ≡ fork k (up a [] t) (up b [] t) t = h ∙ ap (role_move (Fork a b) k) (its_boxes x t e has) in
        let steps = acts x _ e move_is in
        let none = fork_able t (get g (k, t)) (up a [] t) (up b [] t) (subst IsSome steps able) in
        steps ∙ ap (λ o. fork_map o (state f g n v) i k (up a [] t) (up b [] t) t) none ∙
        (λ j. Some (state (sym hf j) (sym hg j) (suc n) v))

    -- and its name
    pub fork_name : (a b : ℕ) → MetAt net f i k (Fork a b) → step_name net (state f g n v) i ≡ Some (Forked n)
    fork_name a b (x, e, h, _) = named x _ e h

    -- which may take memory
    pub fork_takes : (a b : ℕ) → MetAt net f i k (Fork a b) → MayTake (step_name net (state f g n v) i)
    fork_takes a b met = subst MayTake (sym (fork_name a b met)) tt

    -- a join that is made found an entry that waits
    join_able : (t : Boxes) (o : Option Entry) (p : Side) (op : Operator) (u : Val) (c : ℕ) →
        IsSome (join_map o (state f g n v) i k op p u c t) → IsOpenFor o p
    join_able t None p op u c h = cc
    join_able t (Some pending) Left op u c h = tt
    join_able t (Some pending) Right op u c h = tt
    join_able t (Some (has_left w)) Left op u c h = cc
    join_able t (Some (has_left w)) Right op u c h = tt
    join_able t (Some (has_right w)) Left op u c h = tt
    join_able t (Some (has_right w)) Right op u c h = cc

    -- a token that joins finds an entry that waits for its side
    pub join_stands : (op : Operator) (p : Side) (u : Val) (c : ℕ) → MetAt net f i k (Join op p u c) → (t : Boxes) ×
        HasBoxes f i t × IsOpenFor (get g (k, t)) p
    join_stands op p u c (x, e, h, w) =
        let t = boxes_at (place_of x) in
        (t, (x, e, w, refl), join_able t (get g (k, t)) p op u c (subst IsSome (acts x _ e h) able))

    -- the join, by its entry
    join_is : (t : Boxes) (o : Option Entry) (p : Side) (op : Operator) (u : Val) (c : ℕ) → IsOpenFor o p
        → join_map o (state f g n v) i k op p u c t ≡ Some
        (state (joined_tokens (arrival o) f i op p u c t) (with_arrival o g (k, t) p u) n v)
    join_is t None p op u c h = elim h [ ]
    join_is t (Some pending) p op u c h = refl
    join_is t (Some (has_left w)) Left op u c h = elim h [ ]
    join_is t (Some (has_left w)) Right op u c h = refl
    join_is t (Some (has_right w)) Left op u c h = refl
    join_is t (Some (has_right w)) Right op u c h = elim h [ ]

    -- and its name
    join_name_is : (o : Option Entry) (p : Side) (u : Val) → IsOpenFor o p →
        name_at o u ≡ Some (joined_name (arrival o) p u)
    join_name_is None p u h = elim h [ ]
    join_name_is (Some pending) p u h = refl
    join_name_is (Some (has_left w)) Left u h = elim h [ ]
    join_name_is (Some (has_left w)) Right u h = refl
    join_name_is (Some (has_right w)) Left u h = refl
    join_name_is (Some (has_right w)) Right u h = elim h [ ]

    module _ (op : Operator) (p : Side) (u : Val) (c : ℕ) (met : MetAt net f i k (Join op p u c)) (t : Boxes) (has : HasBoxes f i t) where
      join_move : (x : TokenTree) → get f i ≡ Some x → move net x ≡ role_move (Join op p u c) k (boxes_at (place_of x)) →
          move net x ≡ join k op p u c t
      join_move x e h = h ∙ ap (role_move (Join op p u c) k) (its_boxes x t e has)

      pub join_steps : (f' : FinMap nat_cmp TokenTree) (g' : FinMap key_cmp Entry) → JoinsAt f f' g g' i k op p u c t →
          step_map net (state f g n v) i ≡ Some (state f' g' n v)
      join_steps f' g' (hf, hg) =
          let (x, e, h, w) = met in
          let steps = acts x _ e (join_move x e h) in
          let waits = join_able t (get g (k, t)) p op u c (subst IsSome steps able) in
          steps ∙ join_is t (get g (k, t)) p op u c waits ∙ (λ j. Some (state (sym hf j) (sym hg j) n v))

      pub join_name : step_name net (state f g n v) i ≡ Some (joined_name (arrival (get g (k, t))) p u)
      join_name =
          let (x, e, h, w) = met in
          let steps = acts x _ e (join_move x e h) in
          let waits = join_able t (get g (k, t)) p op u c (subst IsSome steps able) in
          named x _ e (join_move x e h) ∙ join_name_is (get g (k, t)) p u waits

  -- the answer
  pub last_steps : (k : ℕ) (u : Val) (f' : FinMap nat_cmp TokenTree) → MetAt net f i k (Last u) → f' ≡ remove f i →
      step_map net (state f g n v) i ≡ Some (state f' g n (Some u))
  last_steps k u f' (x, e, h, w) hf = acts x (answer u) e h ∙ ap (λ f. Some (state f g n (Some u))) (sym hf)

  -- and its name
  pub last_name : (k : ℕ) (u : Val) → MetAt net f i k (Last u) → step_name net (state f g n v) i ≡ Some (Answered u)
  last_name k u (x, e, h, w) = named x (answer u) e h

-- where the step was made, and not for want of memory refused, the state behind it is reached in one move more
pub reached_ok : {A E : Type 0} (r : Result A E) (net : NetTree) (n m i : ℕ) (S T : MapState) → m ≡ n + 1 →
    IsReachedWithin net n S →
    OnOk r (step_map net S i ≡ Some T) → OnOk r (IsReachedWithin net m T)
reached_ok (Ok x) net n m i S T e h s = more_reached net (suc n) m T (omega arith) (step_reached net n i S T h s)
reached_ok (Err x) net n m i S T e h s = tt
