-- No entry is opened twice: a fork asks its left operand, and an entry has one fork, so that the operand would be asked twice.
use Rattle.std.proofs.Common.{◌≡◌, ℕ, List, [], ◌∷◌, ◌++◌, Option, Some, None, refl, sym, ap}
use Rattle.std.proofs.Common.{◌∙◌, subst, ⊎_elim, inl, inr}
use Rattle.pcf_values.specs.declared.val.Val.{Val}
use Rattle.pcf_values.specs.declared.operator.Operator.{Operator}
use Rattle.token_stacks.specs.Signatures.{Work, Boxes}
use Rattle.fork_join.specs.Entries.{Key}
use Rattle.net_build.specs.Nets.{NetTree}
use Rattle.net_build.specs.Sound.{Sound}
use Rattle.net_build.specs.declared.node.Node.{Node}
use Rattle.net_build.specs.declared.node.Node.TheVariants.{Succ, Pred, Ifz, Root, Binary}
use Rattle.net_build.specs.Faces.{node_above, node_below}
use Rattle.move_rules.specs.Places.{Place, up, down, TokenTree, ask, ans}
use Rattle.move_rules.specs.Table.{on_found, plain_up, plain_down}
use Rattle.move_rules.specs.Moves.{Look, dead, constant, pass, one, test, two, look, Move, solo, fork, join, answer, stay, solo_at}
use Rattle.move_rules.specs.Moves.{if_wire, ans_down, ask_move, move}
use Rattle.move_rules.proofs.Either.{wire_so, either_so, operand_so}
use Rattle.interleave_laws.specs.Start.{start_of}
use Rattle.interleave_laws.specs.States.{State, start, step}
use Rattle.interleave_laws.specs.Asked.{asked_by, asked_of, asked_on, asked_in, opened_by, opened_of, opened_on, opened_in, Member, Once}
use Rattle.interleave_laws.proofs.Parents.{key_place}
use Rattle.interleave_laws.proofs.Once.{member_parts, asked_once}

-- the move is no fork
abbrev NoFork : Move → Type 0
NoFork (solo i x) = Unit {0}
NoFork (fork i l r t) = ⊥
NoFork (join i o s v w t) = Unit {0}
NoFork (answer v) = Unit {0}
NoFork stay = Unit {0}

-- an answer by a plain rule is no fork
no_solo : (i : ℕ) (o : Option Place) (v : Val) → NoFork (solo_at i o (ans v))
no_solo i None v = tt
no_solo i (Some p) v = tt

-- an answer makes no fork
no_answer : (i : ℕ) (n : Node) (v : Val) (w : ℕ) (m : Work) (t : Boxes) → NoFork (ans_down i n v w m t)
no_answer i (Succ a c) v w [] t = tt
no_answer i (Pred a c) v w [] t = tt
no_answer i (Ifz b p q c) v w [] t =
    either_so NoFork tt (if_wire b w (solo i _)) _ (wire_so NoFork tt b w (solo i _) tt)
    (operand_so NoFork tt p q w (solo i (ans v (down c [] t))) (solo i (ans v (down c [] t))) tt tt)
no_answer i (Binary o a b c) v w [] t = operand_so NoFork tt a b w _ _ tt tt
no_answer i (Root c) v w [] t = tt
no_answer i n v w m t = no_solo i (plain_down n w m t) v

no_found : (o : Option (ℕ × Node)) (f : ℕ → Node → Move) → ((i : ℕ) (n : Node) → NoFork (f i n)) →
    NoFork (on_found o stay f)
no_found None f h = tt
no_found (Some p) f h = h p.0 p.1

-- what is no fork opens nothing
none_opened : (m : Move) (k : Key) → NoFork m → Member k (opened_by m) → ⊥
none_opened (solo i x) k n h = h
none_opened (fork i l r t) k n h = n
none_opened (join i o s v w t) k n h = h
none_opened (answer v) k n h = h
none_opened stay k n h = h

-- a fork is what a question of two operands makes
fork_look : (l : Look) (p : Place) (n : ℕ) (a b : Place) (t : Boxes) → ask_move l p ≡ fork n a b t → (op : Operator) ×
    (l ≡ two n op t a b)
fork_look dead p n a b t h = cc
fork_look (constant i v) p n a b t h = cc
fork_look (pass i q) p n a b t h = cc
fork_look (one i f q) p n a b t h = cc
fork_look (test i c x y) p n a b t h = cc
fork_look (two i op u x y) p n a b t h = (op, cc)

-- the fork of an entry, and that its left operand is asked in a list
abbrev AsksFor : NetTree → Key → List Place → Type 0
AsksFor net k qs = (p : Place) × (op : Operator) × (l r : Place) × (look net p ≡ two k.0 op k.1 l r) × Member l qs

-- what stands in the first list stands in both
member_left : {A : Type 0} (q : A) (a b : List A) → Member q a → Member q (a ++ b)
member_left q [] b h = elim h [ ]
member_left q (r ∷ a) b (inl e) = inl e
member_left q (r ∷ a) b (inr h) = inr (member_left q a b h)

-- and so it is of the second
member_right : {A : Type 0} (q : A) (a b : List A) → Member q b → Member q (a ++ b)
member_right q [] b h = h
member_right q (r ∷ a) b h = inr (member_right q a b h)

-- the second part of a list without repetition has none
once_right : {A : Type 0} (a b : List A) → Once (a ++ b) → Once b
once_right [] b h = h
once_right (q ∷ a) b h = once_right a b h.1

module _ (net : NetTree) where
  -- what a token's move opens, it asks for
  token_opens : (x : TokenTree) (k : Key) → Member k (opened_by (move net x)) → AsksFor net k (asked_by (move net x))
  token_opens (ask p) k h = go (look net p) refl h
    where
      go : (l : Look) → look net p ≡ l → Member k (opened_by (ask_move l p)) → AsksFor net k (asked_by (ask_move l p))
      go dead e h = elim h [ ]
      go (constant i v) e h = elim h [ ]
      go (pass i q) e h = elim h [ ]
      go (one i f q) e h = elim h [ ]
      go (test i c x y) e h = elim h [ ]
      go (two i op u x y) e (inl z) = (p, op, x, y, e ∙ ap (λ (k : Key). two k.0 op k.1 x y) (sym z), inl refl)
      go (two i op u x y) e (inr z) = elim z [ ]
  token_opens (ans v (up w m t)) k h =
      absurd (none_opened (move net (ans v (up w m t))) k (no_found (node_above net w) _ (λ i n. no_solo i (plain_up n w m t) v)) h)
  token_opens (ans v (down w m t)) k h = absurd
      (none_opened (move net (ans v (down w m t))) k (no_found (node_below net w) _ (λ i n. no_answer i n v w m t)) h)

  opens : (o : Option TokenTree) (k : Key) → Member k (opened_of net o) → AsksFor net k (asked_of net o)
  opens None k h = elim h [ ]
  opens (Some x) k h = token_opens x k h

  -- what a log opens, it asks for
  log_opens : (log : List ℕ) (S : State) (k : Key) → Member k (opened_in net S log) → AsksFor net k (asked_in net S log)
  log_opens [] S k h = elim h [ ]
  log_opens (i ∷ log) S k h =
      ⊎_elim (λ m. let (p, op, l, r, e, z) = opens (S.tokens i) k m in (p, op, l, r, e, member_left l _ _ z))
      (λ m. let (p, op, l, r, e, z) = rest (λ T. log_opens log T k) (step net S i) m in
      (p, op, l, r, e, member_right l (asked_of net (S.tokens i)) _ z))
      (member_parts k (opened_of net (S.tokens i)) _ h)
    where
      rest : ((T : State) → Member k (opened_in net T log) → AsksFor net k (asked_in net T log)) → (o : Option State) →
          Member k (opened_on o (λ T. opened_in net T log)) → AsksFor net k (asked_on o (λ T. asked_in net T log))
      rest ih None m = elim m [ ]
      rest ih (Some T) m = ih T m

module _ (net : NetTree) (sound : Sound net) where
  -- where no place of two lists is asked twice, an entry that the first asks for isn't one that the second asks for
  not_again : (k : Key) (a b : List Place) → Once (a ++ b) → AsksFor net k a → AsksFor net k b → ⊥
  not_again k a b once (p, op, l, r, e, m) (p', op', l', r', e', m') =
      let same = key_place net sound p p' k.0 op op' k.1 l r l' r' e e' in
      let looks : two k.0 op k.1 l r ≡ two k.0 op' k.1 l' r' = sym e ∙ ap (look net) same ∙ e' in
      let z : l ≡ l' = cc in
      meet l a once m (subst (λ q. Member q b) (sym z) m')
    where
      meet : (q : Place) (a : List Place) → Once (a ++ b) → Member q a → Member q b → ⊥
      meet q [] once h g = h
      meet q (r ∷ a) once (inl e) g = once.0 (member_right r a b (subst (λ q. Member q b) e g))
      meet q (r ∷ a) once (inr h) g = meet q a once.1 h g

  -- what a move opens, and then what opens none of it
  single : (m : Move) (ks : List Key) → Once ks → ((k : Key) → Member k (opened_by m) → Member k ks → ⊥) →
      Once (opened_by m ++ ks)
  single (solo i x) ks h d = h
  single (fork n l r t) ks h d = (d (n, t) (inl refl), h)
  single (join i o s v w t) ks h d = h
  single (answer v) ks h d = h
  single stay ks h d = h

  single_of : (o : Option TokenTree) (ks : List Key) → Once ks → ((k : Key) → Member k (opened_of net o) → Member k ks → ⊥) →
      Once (opened_of net o ++ ks)
  single_of None ks h d = h
  single_of (Some x) ks h d = single (move net x) ks h d

  -- nothing is opened twice from a state on
  opened_from : (log : List ℕ) (S : State) → Once (asked_in net S log) → Once (opened_in net S log)
  opened_from [] S h = tt
  opened_from (i ∷ log) S h =
      let asked = asked_of net (S.tokens i) in
      single_of (S.tokens i) _ (rest (opened_from log) (step net S i) (once_right asked _ h))
      (λ k m m'. not_again k asked _ h (opens net (S.tokens i) k m) (later k (step net S i) m'))
    where
      rest : ((T : State) → Once (asked_in net T log) → Once (opened_in net T log)) → (o : Option State) →
          Once (asked_on o (λ T. asked_in net T log)) → Once (opened_on o (λ T. opened_in net T log))
      rest ih None h = tt
      rest ih (Some T) h = ih T h

      later : (k : Key) (o : Option State) → Member k (opened_on o (λ T. opened_in net T log)) →
          AsksFor net k (asked_on o (λ T. asked_in net T log))
      later k None m = elim m [ ]
      later k (Some T) m = log_opens net log T k m

  -- nor from the start on
  pub opened_once : (log : List ℕ) → Once (opened_in net (start (start_of net)) log)
  opened_once log = opened_from log (start (start_of net)) (asked_once net sound log).1
