-- What one move does to tokens and entries, in one part of a tree and in the whole.
-- The outcome for a live ticket: its answer is the tree's own, or its question meets nothing, or the tree goes on by one effect.
use Rattle.std.proofs.Common.{◌≡◌, ◌⊎◌, ℕ, suc, ◌+◌, Bool, true, false, cond, Option, Some, None, refl, sym, ap}
use Rattle.std.proofs.Common.{◌∙◌, subst, ⊎_elim, inl, inr}
use Rattle.std.proofs.lemmas.Bool.{eqb-true}
use Rattle.std.specs.Prelude.{nat_eq}
use Rattle.pcf_values.specs.declared.val.Val.{Val}
use Rattle.token_stacks.specs.Signatures.{Boxes}
use Rattle.fork_join.specs.Entries.{pending, has_right}
use Rattle.net_build.specs.Nets.{NetTree}
use Rattle.move_rules.specs.Places.{Place, turned, TokenTree, ask, ans}
use Rattle.move_rules.specs.Moves.{dead, look}
use Rattle.move_rules.specs.Table.{or_else}
use Rattle.interleave_laws.specs.States.{Tokens, Entries}
use Rattle.fork_join.proofs.Keys.{key_true}
use Rattle.interleave_laws.proofs.Tree.{Tree, asking, coming, kept, passed, applied, tested, chosen, forked, Open, Valid, token_in, status}
use Rattle.interleave_laws.proofs.Tree.{entry_in, tickets, spent, Visited, AsksPlace, Differ, Effect, turn, opens, keeps, closes, on_tokens}
use Rattle.interleave_laws.proofs.Tree.{on_entries, at_key, more, fewer}
use Rattle.interleave_laws.proofs.Below.{BelowKey, EffectBelow, Does}

pub open_or_kept : (t : Tree) → Open t ⊎ ((v : Val) × (n : ℕ) × (t ≡ kept v n))
open_or_kept (asking i) = inl tt
open_or_kept (coming i v n) = inl tt
open_or_kept (kept v n) = inr (v, n, refl)
open_or_kept (passed k q t) = inl tt
open_or_kept (applied k f q t) = inl tt
open_or_kept (tested k c a b t) = inl tt
open_or_kept (chosen k c a b v n t) = inl tt
open_or_kept (forked k op s a b l r) = inl tt

-- where neither side's question is kept at the join, its entry is pending
pub right_pending : (l r : Tree) → Open l → Open r → status l r ≡ pending
right_pending (kept v n) r h g = elim h [ ]
right_pending (asking i) r h g = go r g
  where
    go : (r : Tree) → Open r → status (asking i) r ≡ pending
    go (kept v n) g = elim g [ ]
    go (asking i) g = refl
    go _ g = refl
right_pending (coming i v n) r h g = go r g
  where
    go : (r : Tree) → Open r → status (coming i v n) r ≡ pending
    go (kept v n) g = elim g [ ]
    go (asking i) g = refl
    go _ g = refl
right_pending (passed k q t) r h g = go r g
  where
    go : (r : Tree) → Open r → status (passed k q t) r ≡ pending
    go (kept v n) g = elim g [ ]
    go (asking i) g = refl
    go _ g = refl
right_pending (applied k f q t) r h g = go r g
  where
    go : (r : Tree) → Open r → status (applied k f q t) r ≡ pending
    go (kept v n) g = elim g [ ]
    go (asking i) g = refl
    go _ g = refl
right_pending (tested k c a b t) r h g = go r g
  where
    go : (r : Tree) → Open r → status (tested k c a b t) r ≡ pending
    go (kept v n) g = elim g [ ]
    go (asking i) g = refl
    go _ g = refl
right_pending (chosen k c a b v n t) r h g = go r g
  where
    go : (r : Tree) → Open r → status (chosen k c a b v n t) r ≡ pending
    go (kept v n) g = elim g [ ]
    go (asking i) g = refl
    go _ g = refl
right_pending (forked k op s a b x y) r h g = go r g
  where
    go : (r : Tree) → Open r → status (forked k op s a b x y) r ≡ pending
    go (kept v n) g = elim g [ ]
    go (asking i) g = refl
    go _ g = refl

pub right_kept : (l : Tree) (w : Val) (m : ℕ) → Open l → status l (kept w m) ≡ has_right w
right_kept (kept v n) w m h = elim h [ ]
right_kept (asking i) w m h = refl
right_kept _ w m h = refl

-- one open tree for another leaves the status
pub status_left : (l l' r : Tree) → Open l → Open l' → status l' r ≡ status l r
status_left l l' r h g =
    ⊎_elim (λ o. right_pending l' r g o ∙ sym (right_pending l r h o))
    (λ (w, m, e). subst (λ r. status l' r ≡ status l r) (sym e) (right_kept l' w m g ∙ sym (right_kept l w m h))) (open_or_kept r)

pub status_right : (l r r' : Tree) → Open r → Open r' → status l r' ≡ status l r
status_right l r r' h g =
    ⊎_elim (λ o. right_pending l r' o g ∙ sym (right_pending l r o h))
    (λ (w, m, e). subst (λ l. status l r' ≡ status l r) (sym e) refl) (open_or_kept l)

pub twice : {A : Type 0} (b : Bool) (x y z : A) → cond b x z ≡ cond b x (cond b y z)
twice true x y z = refl
twice false x y z = refl

pub none_right : {A : Type 0} (o r : Option A) → r ≡ None → or_else o r ≡ o
none_right None r h = h
none_right (Some x) r h = refl

pub or_some : {A : Type 0} (x : A) (o r : Option A) → o ≡ Some x → or_else o r ≡ Some x
or_some x o r h = ap (λ o. or_else o r) h

pub push_some : {A : Type 0} (b : Bool) (x : A) (o r : Option A) → or_else (cond b (Some x) o) r ≡ cond b (Some x) (or_else o r)
push_some true x o r = refl
push_some false x o r = refl

pub push_none : {A : Type 0} (b : Bool) (o r : Option A) → (b ≡ true → r ≡ None) →
    or_else (cond b None o) r ≡ cond b None (or_else o r)
push_none true o r h = h refl
push_none false o r h = refl

pub pull : {A : Type 0} (b : Bool) (x o r : Option A) → (b ≡ true → o ≡ None) → or_else o (cond b x r) ≡ cond b x (or_else o r)
pull true x o r h = ap (λ o. or_else o x) (h refl)
pull false x o r h = refl

-- a change of one side's tokens is one of both
pub tokens_left : (e : Effect) (i nx : ℕ) (f f' g : Tokens) → ((j : ℕ) → f' j ≡ on_tokens e i nx f j) → g i ≡ None →
    (j : ℕ) → or_else (f' j) (g j) ≡ on_tokens e i nx (λ j. or_else (f j) (g j)) j
tokens_left (turn x) i nx f f' g h z j = ap (λ o. or_else o (g j)) (h j) ∙ push_some (nat_eq j i) x (f j) (g j)
tokens_left (opens n s l r) i nx f f' g h z j =
    ap (λ o. or_else o (g j)) (h j) ∙ push_some (nat_eq j nx) (ask r) _ (g j) ∙
    ap (cond (nat_eq j nx) (Some (ask r))) (push_some (nat_eq j i) (ask l) (f j) (g j))
tokens_left (keeps n s e) i nx f f' g h z j = ap (λ o. or_else o (g j)) (h j) ∙
    push_none (nat_eq j i) (f j) (g j) (λ q. ap g (eqb-true j i q) ∙ z)
tokens_left (closes n s x) i nx f f' g h z j = ap (λ o. or_else o (g j)) (h j) ∙ push_some (nat_eq j i) x (f j) (g j)

-- and a change of the other side's tokens is one of both
pub tokens_right : (e : Effect) (i nx : ℕ) (f g g' : Tokens) → ((j : ℕ) → g' j ≡ on_tokens e i nx g j) → f i ≡ None →
    f nx ≡ None → (j : ℕ) → or_else (f j) (g' j) ≡ on_tokens e i nx (λ j. or_else (f j) (g j)) j
tokens_right (turn x) i nx f g g' changed none none_next j = ap (or_else (f j)) (changed j) ∙
    pull (nat_eq j i) (Some x) (f j) (g j) (λ q. ap f (eqb-true j i q) ∙ none)
tokens_right (opens n s l r) i nx f g g' changed none none_next j =
    ap (or_else (f j)) (changed j) ∙ pull (nat_eq j nx) (Some (ask r)) (f j) _ (λ q. ap f (eqb-true j nx q) ∙ none_next)
    ∙ ap (cond (nat_eq j nx) (Some (ask r))) (pull (nat_eq j i) (Some (ask l)) (f j) (g j) (λ q. ap f (eqb-true j i q) ∙ none))
tokens_right (keeps n s e) i nx f g g' changed none none_next j = ap (or_else (f j)) (changed j) ∙
    pull (nat_eq j i) None (f j) (g j) (λ q. ap f (eqb-true j i q) ∙ none)
tokens_right (closes n s x) i nx f g g' changed none none_next j = ap (or_else (f j)) (changed j) ∙
    pull (nat_eq j i) (Some x) (f j) (g j) (λ q. ap f (eqb-true j i q) ∙ none)

module _ (net : NetTree) where
  pub hit_below : (p : Place) (f : Effect) (m : ℕ) (t : Boxes) → at_key f m t ≡ true → EffectBelow net p f → BelowKey net p m t
  hit_below p (turn x) m t h g = cc
  hit_below p (opens n s l r) m t h g = let (a, b) = key_true m t n s h in
      subst (λ m. BelowKey net p m t) (sym a) (subst (λ t. BelowKey net p n t) (sym b) g)
  hit_below p (keeps n s e) m t h g = let (a, b) = key_true m t n s h in
      subst (λ m. BelowKey net p m t) (sym a) (subst (λ t. BelowKey net p n t) (sym b) g)
  hit_below p (closes n s x) m t h g = let (a, b) = key_true m t n s h in
      subst (λ m. BelowKey net p m t) (sym a) (subst (λ t. BelowKey net p n t) (sym b) g)

  -- one step of the tree at p by the token x of ticket i
  pub record Progress (E : Entries) (i nx : ℕ) (x : TokenTree) (t : Tree) (p : Place) : Type 0 where
    pub tree : Tree
    pub effect : Effect
    pub does : Does net E x effect
    pub valid : Valid net tree p
    pub opened : Open tree
    pub spends : spent tree ≡ suc (spent t)
    pub counts : (j : ℕ) → tickets tree j + fewer effect i j ≡ tickets t j + more effect nx j
    pub has_tokens : (j : ℕ) → token_in tree p j ≡ on_tokens effect i nx (token_in t p) j
    pub has_entries : (n : ℕ) (s : Boxes) → entry_in tree n s ≡ on_entries effect (entry_in t) n s
    pub below : EffectBelow net p effect
    pub visited : (q : Place) → Visited net t p q → Visited net tree p q
    pub new : (q : Place) → AsksPlace effect q → Visited net tree p q × (Visited net t p q → ⊥)
    pub differ : Differ effect

  -- the answer is back, or the question fits nothing, or the tree goes on
  abbrev pub Outcome : Entries → ℕ → ℕ → TokenTree → Tree → Place → Type 0
  Outcome E i nx x t p =
      ((v : Val) × (n : ℕ) × (t ≡ coming i v n) × (x ≡ ans v (turned p))) ⊎
      (((q : Place) × (x ≡ ask q) × (look net q ≡ dead)) ⊎ Progress E i nx x t p)
