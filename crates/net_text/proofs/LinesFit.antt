-- A line is read as the definition reads it, where what was read fits and has that very line.
use Rattle.std.proofs.Common.{◌≡◌, ℕ, suc, ◌+◌, ◌-◌, ◌*◌, ◌^◌, ◌≤◌, Bool, true, false, ◌&&◌, List, [], ◌∷◌, ◌++◌, append-nil, append_assoc}
use Rattle.std.proofs.Common.{Option, Some, None, refl, sym, ap, ◌∙◌, inl, inr, arith}
use Rattle.std.specs.Prelude.{codes, nat_lt, nat_le, if◌then◌else◌}
use Rattle.std.specs.Str.{bytes_eq}
use Rattle.std.proofs.lemmas.Bool.{cases_lt, le-ltb, lt-ltb}
use Rattle.pcf_values.specs.Terms.{TyTree}
use Rattle.net_build.specs.declared.node.Node.{Node}
use Rattle.net_build.specs.declared.wire.WireKind.{WireKind}
use Rattle.net_build.specs.Nets.{WireTree}
use Rattle.net_text.specs.declared.form.Form.{Form}
use Rattle.net_text.specs.declared.form.Form.TheVariants as form
use Rattle.net_text.specs.FirstFault.{checked_node, checked_wire, if_right, node_at, wire_at, wire_fits}
use Rattle.net_text.specs.Listing.{node_line, wire_line}
use Rattle.net_text.specs.NetText.{ty_height}
use Rattle.net_text.specs.NodeText.{all_small, count_of, four_node, from_form, node_fits, node_in, no_more, node_with, numbers_in, one_node}
use Rattle.net_text.specs.NodeText.{three_node, two_node, with_first}
use Rattle.net_text.specs.Scanning.{and_word, fitting_node, fitting_wire, in_word, in_words, words_among, words_behind}
use Rattle.net_text.specs.TypeText.{behind, readers}
use Rattle.net_text.specs.WireText.{after, at_end, from_end, from_type, number_from, wire_in}

module _ {A : Type 0} where
  -- what doesn't fit isn't there, whatever its line is
  unfit : (b c : Bool) (v : A) → if_right c v ≡ None → if_right (b && c) v ≡ None
  unfit true true v h = h
  unfit true false v h = refl
  unfit false c v h = refl

  -- what fits is there where the line is its own
  fit : (b c : Bool) (v w : A) → if_right c v ≡ Some w → if_right (b && c) v ≡ if_right b w
  fit true true v w h = h
  fit true false v w h = cc
  fit false c v w h = refl

  -- what fits is what was read
  is_fit : (c : Bool) (v w : A) → if_right c v ≡ Some w → v ≡ w
  is_fit true v w h = cc
  is_fit false v w h = cc

-- no wire, where none was read that fits
no_wire_among : (h k : ℕ) (line : List ℕ) (o : Option WireTree) → fitting_wire h o ≡ None → checked_wire h k line o ≡ None
no_wire_among h k line None e = refl
no_wire_among h k line (Some v) e = unfit (bytes_eq line (wire_line k v)) (wire_fits h v) v e

-- the wire that was read, where this is its line
wire_among : (h k : ℕ) (line : List ℕ) (o : Option WireTree) (w : WireTree) (b : Bool) → fitting_wire h o ≡ Some w
    → b ≡ bytes_eq line (wire_line k w) → checked_wire h k line o ≡ if_right b w
wire_among h k line None w b e s = cc
wire_among h k line (Some v) w b e s =
    fit (bytes_eq line (wire_line k v)) (wire_fits h v) v w e
    ∙ ap (λ x. if_right (bytes_eq line (wire_line k x)) w) (is_fit (wire_fits h v) v w e) ∙ ap (λ b. if_right b w) (sym s)

-- the same of the line itself
pub no_wire_here : (h k : ℕ) (line : List ℕ) → fitting_wire h (wire_in h k line) ≡ None → wire_at h k line ≡ None
no_wire_here h k line e = no_wire_among h k line (wire_in h k line) e

-- the same of the line itself
pub wire_here : (h k : ℕ) (line : List ℕ) (w : WireTree) (b : Bool) → fitting_wire h (wire_in h k line) ≡ Some w
    → b ≡ bytes_eq line (wire_line k w) → wire_at h k line ≡ if_right b w
wire_here h k line w b e s = wire_among h k line (wire_in h k line) w b e s

-- no node, where none was read that fits
no_node_among : (k : ℕ) (line : List ℕ) (o : Option Node) → fitting_node o ≡ None → checked_node k line o ≡ None
no_node_among k line None e = refl
no_node_among k line (Some v) e = unfit (bytes_eq line (node_line k v)) (node_fits v) v e

-- the node that was read, where this is its line
node_among : (k : ℕ) (line : List ℕ) (o : Option Node) (x : Node) (b : Bool) → fitting_node o ≡ Some x → b ≡ bytes_eq line (node_line k x)
    → checked_node k line o ≡ if_right b x
node_among k line None x b e s = cc
node_among k line (Some v) x b e s =
    fit (bytes_eq line (node_line k v)) (node_fits v) v x e
    ∙ ap (λ z. if_right (bytes_eq line (node_line k z)) x) (is_fit (node_fits v) v x e) ∙ ap (λ b. if_right b x) (sym s)

-- the same of the line itself
pub no_node_here : (k : ℕ) (line : List ℕ) → fitting_node (node_in k line) ≡ None → node_at k line ≡ None
no_node_here k line e = no_node_among k line (node_in k line) e

-- the same of the line itself
pub node_here : (k : ℕ) (line : List ℕ) (x : Node) (b : Bool) → fitting_node (node_in k line) ≡ Some x → b ≡ bytes_eq line (node_line k x)
    → node_at k line ≡ if_right b x
node_here k line x b e s = node_among k line (node_in k line) x b e s

-- a number of more than 64 bits
pub too_wide : (n : ℕ) → in_word n ≡ None → 2 ^ 64 ≤ n
too_wide n e = elim (cases_lt n (2 ^ 64)) [
  | inl l ↦ absurd (some n (sym (ap (λ b. if b then Some n else None) (lt-ltb n (2 ^ 64) l)) ∙ e))
  | inr l ↦ l
]
  where
    some : (n : ℕ) → Some n ≡ None → ⊥
    some n h = cc

-- a wire that deep doesn't fit, whatever its type is
ended_deep : (h : ℕ) (w : WireTree) (o : Option (List ℕ)) → nat_lt w.depth (2 ^ 32) ≡ false → fitting_wire h (after o (at_end w)) ≡ None
ended_deep h w None e = refl
ended_deep h w (Some []) e = ap (λ b. if_right (b && nat_le (ty_height w.type) h) w) e
ended_deep h w (Some (b ∷ bs)) e = refl

-- the same from its type on
typed_deep : (h : ℕ) (kind : WireKind) (depth : ℕ) (o : Option (TyTree × List ℕ)) → nat_lt depth (2 ^ 32) ≡ false
    → fitting_wire h (after o (from_end kind depth)) ≡ None
typed_deep h kind depth None e = refl
typed_deep h kind depth (Some t) e = ended_deep h (record { kind = kind; depth = depth; type = t.0 }) (behind (codes "\n") t.1) e

-- No wire of a depth that is no number of the code fits.
pub deep_wire : (h : ℕ) (kind : WireKind) (depth : ℕ) (bs : List ℕ) → 2 ^ 64 ≤ depth → fitting_wire h (from_type h kind depth bs) ≡ None
deep_wire h kind depth bs l = typed_deep h kind depth ((readers h).full bs) (le-ltb depth (2 ^ 32) (omega (arith, l)))

-- digits of a wide number stay those of a wide number
pub digit_more : (n v c : ℕ) → Some v ≡ in_word n → in_word (10 * v + (c - 48)) ≡ in_word (10 * n + (c - 48))
digit_more n v c e = ap (λ m. in_word (10 * m + (c - 48))) (same (nat_lt n (2 ^ 64)) n v e)
  where
    same : (b : Bool) (n v : ℕ) → Some v ≡ (if b then Some n else None) → v ≡ n
    same true n v h = cc
    same false n v h = cc

-- a wide number stays wide
pub digit_wide : (n c : ℕ) → None ≡ in_word n → None ≡ in_word (10 * n + (c - 48))
digit_wide n c e =
    let w = too_wide n (sym e) in
    sym (ap (λ b. if b then Some (10 * n + (c - 48)) else None) (le-ltb (10 * n + (c - 48)) (2 ^ 64) (omega (arith, w))))

-- a number that was read, in front of those behind it
and_first : (v : ℕ) (o : Option (List ℕ)) → and_word (Some v) o ≡ words_behind (v ∷ []) o
and_first v None = refl
and_first v (Some ms) = refl

-- a number of the code in front of others
words_first : (n v : ℕ) (o : Option (List ℕ)) → Some v ≡ in_word n → words_among (with_first n o) ≡ words_behind (v ∷ []) (words_among o)
words_first n v None e = refl
words_first n v (Some ns) e = ap (λ w. and_word w (in_words ns)) (sym e) ∙ and_first v (in_words ns)

-- a wider one
words_wide : (n : ℕ) (o : Option (List ℕ)) → None ≡ in_word n → words_among (with_first n o) ≡ None
words_wide n None e = refl
words_wide n (Some ns) e = ap (λ w. and_word w (in_words ns)) (sym e)

-- one number more in front
behind_more : (ns : List ℕ) (v : ℕ) (o : Option (List ℕ)) → words_behind (ns ++ v ∷ []) o ≡ words_behind ns (words_behind (v ∷ []) o)
behind_more ns v None = refl
behind_more ns v (Some ms) = ap (λ t. Some t) (append_assoc ns (v ∷ []) ms)

-- so many numbers, of which there is one at least
numbers_here : (k j : ℕ) (rest more : List ℕ) → k ≡ suc j → Some more ≡ behind (codes " ") rest
    → numbers_in k rest ≡ with_first (number_from 0 more).0 (numbers_in j (number_from 0 more).1)
numbers_here k j rest more e b =
    ap (λ k. numbers_in k rest) e ∙ ap (λ o. after o (λ rest. let d = number_from 0 rest in with_first d.0 (numbers_in j d.1))) (sym b)

-- The loop over the numbers reads one more.
pub number_read : (k j v : ℕ) (ns ms rest more last : List ℕ) (whole : Option (List ℕ)) → k ≡ suc j → Some more ≡ behind (codes " ") rest
    → Some v ≡ in_word (number_from 0 more).0 → last ≡ (number_from 0 more).1 → ms ≡ ns ++ v ∷ [] →
    words_behind ns (words_among (numbers_in k rest)) ≡ whole → words_behind ms (words_among (numbers_in j last)) ≡ whole
number_read k j v ns ms rest more last whole e b w l p before =
    ap (λ ms. words_behind ms (words_among (numbers_in j last))) p
    ∙ behind_more ns v (words_among (numbers_in j last))
    ∙ ap (λ t. words_behind ns (words_behind (v ∷ []) (words_among (numbers_in j t)))) l
    ∙ ap (words_behind ns) (sym (words_first (number_from 0 more).0 v (numbers_in j (number_from 0 more).1) w))
    ∙ ap (λ o. words_behind ns (words_among o)) (sym (numbers_here k j rest more e b))
    ∙ before

-- It ends at one that is too wide.
pub number_wide : (k j : ℕ) (ns rest more : List ℕ) (whole : Option (List ℕ)) → k ≡ suc j → Some more ≡ behind (codes " ") rest
    → None ≡ in_word (number_from 0 more).0 → words_behind ns (words_among (numbers_in k rest)) ≡ whole → None ≡ whole
number_wide k j ns rest more whole e b w before =
    ap (words_behind ns) (sym (words_wide (number_from 0 more).0 (numbers_in j (number_from 0 more).1) w))
    ∙ ap (λ o. words_behind ns (words_among o)) (sym (numbers_here k j rest more e b)) ∙ before

-- It ends where there is none.
pub number_lacks : (k j : ℕ) (ns rest : List ℕ) (whole : Option (List ℕ)) → k ≡ suc j → None ≡ behind (codes " ") rest
    → words_behind ns (words_among (numbers_in k rest)) ≡ whole → None ≡ whole
number_lacks k j ns rest whole e b before =
    ap (λ o. words_behind ns (words_among (after o (λ rest. let d = number_from 0 rest in with_first d.0 (numbers_in j d.1))))) b
    ∙ ap (λ k. words_behind ns (words_among (numbers_in k rest))) (sym e) ∙ before

-- the end of the line
pub numbers_end : (k : ℕ) (ns rest : List ℕ) (whole : Option (List ℕ)) → k ≡ 0 → Some [] ≡ behind (codes "\n") rest
    → words_behind ns (words_among (numbers_in k rest)) ≡ whole → Some ns ≡ whole
numbers_end k ns rest whole e b before =
    ap (λ t. Some t) (sym (append-nil ns)) ∙ ap (λ o. words_behind ns (words_among (after o no_more))) b
    ∙ ap (λ k. words_behind ns (words_among (numbers_in k rest))) (sym e) ∙ before

-- bytes are left behind the line feed, or there is none
no_end : (o : Option (List ℕ)) → (Some [] ≡ o → ⊥) → None ≡ after o no_more
no_end None h = refl
no_end (Some []) h = absurd (h refl)
no_end (Some (b ∷ bs)) h = refl

-- the line does not end there
pub numbers_open : (k : ℕ) (ns rest : List ℕ) (whole : Option (List ℕ)) → k ≡ 0 → (Some [] ≡ behind (codes "\n") rest → ⊥)
    → words_behind ns (words_among (numbers_in k rest)) ≡ whole → None ≡ whole
numbers_open k ns rest whole e b before =
    ap (λ o. words_behind ns (words_among o)) (no_end (behind (codes "\n") rest) b)
    ∙ ap (λ k. words_behind ns (words_among (numbers_in k rest))) (sym e) ∙ before

-- a node whose numbers are of 32 bits fits, and else it doesn't
if_none : {A : Type 0} → (b : Bool) → (if b then (let n : Option A = None in n) else None) ≡ None
if_none true = refl
if_none false = refl

-- a node of one number
pub one_fits : (f : Form) (a : ℕ) → fitting_node (one_node f a) ≡ (if all_small (a ∷ []) then one_node f a else None)
one_fits form.Weak a = refl
one_fits form.Root a = refl
one_fits f a = sym (if_none (all_small (a ∷ [])))

-- a node of two numbers
pub two_fits : (f : Form) (a b : ℕ) → fitting_node (two_node f a b) ≡ (if all_small (a ∷ b ∷ []) then two_node f a b else None)
two_fits form.Succ a b = refl
two_fits form.Pred a b = refl
two_fits form.Der a b = refl
two_fits form.BoxNode a b = refl
two_fits form.Door a b = refl
two_fits (form.Proj d) a b = refl
two_fits f a b = sym (if_none (all_small (a ∷ b ∷ [])))

-- a node of three numbers
pub three_fits : (f : Form) (a b c : ℕ)
    → fitting_node (three_node f a b c) ≡ (if all_small (a ∷ b ∷ c ∷ []) then three_node f a b c else None)
three_fits (form.Binary o) a b c = refl
three_fits form.Con a b c = refl
three_fits form.Lam a b c = refl
three_fits form.App a b c = refl
three_fits form.FixBox a b c = refl
three_fits form.Pair a b c = refl
three_fits f a b c = sym (if_none (all_small (a ∷ b ∷ c ∷ [])))

-- a node of four numbers
pub four_fits : (f : Form) (a b c d : ℕ)
    → fitting_node (four_node f a b c d) ≡ (if all_small (a ∷ b ∷ c ∷ d ∷ []) then four_node f a b c d else None)
four_fits form.Ifz a b c d = refl
four_fits f a b c d = sym (if_none (all_small (a ∷ b ∷ c ∷ d ∷ [])))

-- the numbers that were read are the line's
word_is : (b : Bool) (n v : ℕ) → Some v ≡ (if b then Some n else None) → n ≡ v
word_is true n v e = cc
word_is false n v e = cc

-- the first number and the others
parts : (o : Option ℕ) (p : Option (List ℕ)) (v : ℕ) (vs : List ℕ) → Some (v ∷ vs) ≡ and_word o p → (Some v ≡ o) × (Some vs ≡ p)
parts None p v vs e = cc
parts (Some n) None v vs e = cc
parts (Some n) (Some ns) v vs e = (cc, cc)

-- numbers of the code are the line's own
words_are : (ns vs : List ℕ) → Some vs ≡ in_words ns → ns ≡ vs
words_are [] vs e = cc
words_are (n ∷ ns) [] e = no (in_word n) (in_words ns) e
  where
    no : (o : Option ℕ) (p : Option (List ℕ)) → Some [] ≡ and_word o p → n ∷ ns ≡ []
    no None p e = cc
    no (Some n) None e = cc
    no (Some n) (Some ns) e = cc
words_are (n ∷ ns) (v ∷ vs) e =
    let (p, q) = parts (in_word n) (in_words ns) v vs e in
    λ i. word_is (nat_lt n (2 ^ 64)) n v p i ∷ words_are ns vs q i

-- the same of numbers that were read
pub numbers_are : (o : Option (List ℕ)) (vs : List ℕ) → Some vs ≡ words_among o → o ≡ Some vs
numbers_are None vs e = cc
numbers_are (Some ns) vs e = ap (λ t. Some t) (words_are ns vs e)

-- The node of a form is made of the numbers that were read.
pub form_read : (f : Form) (k : ℕ) (text vs ds : List ℕ) → k ≡ count_of f → Some vs ≡ words_among (numbers_in k text) → ds ≡ vs
    → fitting_node (node_with f ds) ≡ fitting_node (from_form (f, text))
form_read f k text vs ds h w e =
    ap (λ ds. fitting_node (node_with f ds)) e ∙ ap (λ o. fitting_node (after o (node_with f))) (sym (numbers_are (numbers_in k text) vs w))
    ∙ ap (λ k. fitting_node (after (numbers_in k text) (node_with f))) h
