-- Counts over one node more.
use Rattle.std.proofs.Common.{◌≡◌, ◌⊎◌, ℕ, zero, suc, ◌+◌, ◌<◌, List, [], ◌∷◌, ◌++◌, length, take, get_or, Option, Some, None, refl, sym}
use Rattle.std.proofs.Common.{ap, ◌∙◌, subst, inl, inr, arith}
use Rattle.std.specs.Prelude.{slice_get, slice_set, slice_index, nat_eq, if◌then◌else◌}
use Rattle.std.proofs.lemmas.Bool.{cases_eq, eq-eqb, ne_eqb}
use Rattle.std.proofs.lemmas.List.{length-set}
use Rattle.std.proofs.lemmas.Option.{get_or_from_slice_get}
use Rattle.std.proofs.Math.Seq.{take-suc}
use Rattle.net_build.specs.declared.node.Node.{Node}
use Rattle.net_build.specs.Nets.{premises, conclusions}
use Rattle.net_build.specs.Found.{present}
use Rattle.net_build.specs.Sound.{how_often, named}
use Rattle.net_build.proofs.Entries.{get_set_same, get_set_other}
use Rattle.net_check.specs.Counts.{capped, once_more, bumped, Counted, lesser_of, past_from}

-- one more than a capped count
once_capped : (n : ℕ) → once_more (capped n) ≡ capped (suc n)
once_capped zero = refl
once_capped (suc zero) = refl
once_capped (suc (suc n)) = refl

-- one wire counts once more
bump_one : (cs : List ℕ) (x w m : ℕ) → w < length cs → slice_get cs w ≡ Some (capped m)
    → slice_get (slice_set cs x (once_more (slice_index cs x))) w ≡ Some (capped ((if nat_eq x w then 1 else 0) + m))
bump_one cs x w m l h = go (cases_eq x w)
  where
    go : (x ≡ w) ⊎ (x ≡ w → ⊥)
        → slice_get (slice_set cs x (once_more (slice_index cs x))) w ≡ Some (capped ((if nat_eq x w then 1 else 0) + m))
    go (inl e) =
        let q : slice_index cs w ≡ capped m = get_or_from_slice_get cs w (capped m) 0 h in
        let o : 1 + m ≡ suc m = omega arith in
        subst (λ x. slice_get (slice_set cs x (once_more (slice_index cs x))) w ≡ Some (capped ((if nat_eq x w then 1 else 0) + m))) (sym e)
        (rw (eq-eqb w w refl, o, q) (get_set_same cs w (once_more (capped m)) l ∙ ap Some (once_capped m)))
    go (inr e) = let o : 0 + m ≡ m = omega arith in rw (ne_eqb x w e, o) (get_set_other cs x w (once_more (slice_index cs x)) e ∙ h)

-- as many counts as before
bumped_length : (ws cs : List ℕ) → length (bumped ws cs) ≡ length cs
bumped_length [] cs = refl
bumped_length (w ∷ ws) cs =
    bumped_length ws (slice_set cs w (once_more (slice_index cs w))) ∙ length-set cs w (once_more (slice_index cs w))

-- the counts over a node's wires
bumped_entry : (ws cs : List ℕ) (w m : ℕ) → w < length cs → slice_get cs w ≡ Some (capped m)
    → slice_get (bumped ws cs) w ≡ Some (capped (how_often w ws + m))
bumped_entry [] cs w m l h = let o : 0 + m ≡ m = omega arith in rw o h
bumped_entry (x ∷ ws) cs w m l h =
    let k = (if nat_eq x w then 1 else 0) in
    let o : how_often w ws + (k + m) ≡ k + how_often w ws + m = omega arith in
    subst (λ n. slice_get (bumped ws (slice_set cs x (once_more (slice_index cs x)))) w ≡ Some (capped n)) o
    (bumped_entry ws (slice_set cs x (once_more (slice_index cs x))) w (k + m) (rw (length-set cs x (once_more (slice_index cs x))) l)
    (bump_one cs x w m l h))

-- one node more is named
named_snoc : (side : Node → List ℕ) (ns : List Node) (n : Node) (w : ℕ)
    → named side (ns ++ n ∷ []) w ≡ how_often w (side n) + named side ns w
named_snoc side [] n w = omega arith
named_snoc side (m ∷ ns) n w = let h = named_snoc side ns n w in omega arith

-- one node more is counted: the one at i, of a list that is the nodes
pub counted_more : (side : Node → List ℕ) (count i j : ℕ) (xs nodes : List Node) (d : Node) (cs new : List ℕ) → xs ≡ nodes → i < length xs
    → j ≡ suc i →
    Counted side count (take i nodes) cs → new ≡ bumped (side (get_or xs i d)) cs → Counted side count (take j nodes) new
counted_more side count i j xs nodes d cs new e l ej h q =
    subst (λ ns. Counted side count (take i ns) cs → Counted side count (take j ns) new) e more h
  where
    more : Counted side count (take i xs) cs → Counted side count (take j xs) new
    more h = rw (q, ej, take-suc xs i d l) (record {
      size = bumped_length (side (get_or xs i d)) cs ∙ h.size;
      entry = λ w lw. bumped_entry (side (get_or xs i d)) cs w (named side (take i xs) w) (omega (arith, h.size)) (h.entry w lw)
          ∙ ap (λ m. Some (capped m)) (sym (named_snoc side (take i xs) (get_or xs i d) w));
    })

-- the least wire past the list, over a node's wires and over one node more
pub lesser_two : (count : ℕ) (a b : Option ℕ) (o : Option ℕ)
    → lesser_of count (present (b ∷ [])) (lesser_of count (present (a ∷ [])) o) ≡ lesser_of count (present (a ∷ b ∷ [])) o
lesser_two count None None o = refl
lesser_two count None (Some b) o = refl
lesser_two count (Some a) None o = refl
lesser_two count (Some a) (Some b) o = refl

-- the same of three
pub lesser_three : (count : ℕ) (a b c : Option ℕ) (o : Option ℕ) →
    lesser_of count (present (c ∷ [])) (lesser_of count (present (b ∷ [])) (lesser_of count (present (a ∷ [])) o)) ≡ lesser_of count
    (present (a ∷ b ∷ c ∷ [])) o
lesser_three count None b c o = lesser_two count b c o
lesser_three count (Some a) b c o = lesser_two count b c (lesser_of count (a ∷ []) o)

-- one node more
past_snoc : (count : ℕ) (ns : List Node) (n : Node) (o : Option ℕ)
    → past_from count (ns ++ n ∷ []) o ≡ lesser_of count (premises n) (lesser_of count (conclusions n) (past_from count ns o))
past_snoc count [] n o = refl
past_snoc count (m ∷ ns) n o = past_snoc count ns n (lesser_of count (premises m) (lesser_of count (conclusions m) o))

-- the least number past the list, over one node more
pub past_step : (count k i j : ℕ) (xs nodes : List Node) (d : Node) (least new : Option ℕ) → xs ≡ nodes → i < length xs → j ≡ suc i
    → count ≡ k →
    least ≡ past_from k (take i nodes) None → new ≡ lesser_of count (premises (get_or xs i d))
    (lesser_of count (conclusions (get_or xs i d)) least) →
    new ≡ past_from k (take j nodes) None
past_step count k i j xs nodes d least new same inside next counts before after =
    let n = get_or xs i d in
    let more : past_from k (take j xs) None ≡ lesser_of k (premises n) (lesser_of k (conclusions n) (past_from k (take i xs) None)) =
    rw (next, take-suc xs i d inside) (past_snoc k (take i xs) n None) in
    after ∙ (λ t. lesser_of (counts t) (premises n) (lesser_of (counts t) (conclusions n) (before t)))
    ∙ sym (subst (λ ns. past_from k (take j ns) None ≡ lesser_of k (premises n)
    (lesser_of k (conclusions n) (past_from k (take i ns) None))) same more)
