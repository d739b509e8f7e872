-- What `clap` finds in plain words is what they give.
use Rattle.std.proofs.Common.{◌≡◌, ◌∙◌, ◌∷◌, ◌++◌, ◌<◌, ◌^◌, ◌||◌, ◌&&◌, ap, cond, not, refl, sym, subst, map}
use Rattle.std.proofs.Common.{ℕ, Bool, true, false, List, []}
use Rattle.std.proofs.Common.{Option, Some, None, min, ◌+◌, nat_lt, arith}
use Rattle.std.specs.List.{AllByRecursion, find, fold, list_all}
use Rattle.std.specs.Option.{option_map_or, option_or, unwrap_or}
use Rattle.std.specs.Prelude.{option_and_then, option_map, slice_get}
use Rattle.std.specs.Fmt.{decimal}
use Rattle.std.specs.Str.{bytes_eq}
use Rattle.std.proofs.lemmas.Bool.{ltb-true}
use Rattle.std.proofs.lemmas.List.Folds.{find-append}
use Rattle.std.proofs.lemmas.Slice.Eq.{bytes_eq-Decides}
use Rattle.clap.specs.Lexer.{usize_max}
use Rattle.clap.specs.Facts.{explicit_source}
use Rattle.clap.specs.Walk.{Row, Rule, Text, has_row, with_default}
use Rattle.clap.specs.Simple.{Shape, filled}
use Rattle.goi_words.specs.Commands.{Choice, CommandRow, Operand, a_number, a_text, choice_name, named, numbered, operand}
use Rattle.goi_words.specs.Commands.{operand_name, ranged_operand, some_numbers, switch, wide_operand}
use Rattle.goi_words.specs.Asked.{findings, number_in, numbers_of, wide_numbers_in}
use Rattle.goi_words.specs.Findings.{Findings}
use Rattle.goi_words.specs.Plain.{AllFit, IsOption, IsPlain, Setting, Takes, Value, given as given_to, is_given}
use Rattle.goi_words.specs.Plain.{name_given, number, number_given, number_in_value, numbers}
use Rattle.goi_words.specs.Plain.{numbers_given, option_given, text, text_given, text_in_value, value_given}
use Rattle.goi_words.proofs.Decimals.{decimal_kept, decimal_number}
use Rattle.goi_words.proofs.Operands.{ArePlaced, IsLast, is_small, operand_rows}
use Rattle.goi_words.proofs.Ready.{HasJobOf, IsFoundAt, IsFoundFor, IsGivenAlike, IsOwn, IsReady, IsSameAt, IsSameFor, IsThere, knows, leaf}
use Rattle.goi_words.proofs.Rows.{default_row, given, own_default, row_after, row_at}
use Rattle.goi_words.proofs.Settings.{IsKnown, choice_named, given_at, known_in, number_at, row_named, set_at, set_row}
use Rattle.goi_words.proofs.Settings.{text_at, value_row}
use Rattle.goi_words.proofs.Walks.{same_text}
use Rattle.goi_words.proofs.Wide.{wide_numbers}

-- a number of 32 bits that stands in the row of an argument with a range
number_there : (n : ℕ) (name : Text) → n < 2 ^ 32 → number_at (Some (value_row name (Some (number n)))) ≡ Some n
number_there n name small = rw (decimal_kept n small, decimal_number n small) refl

-- ---- operands

-- the row for several numbers
abbrev numbers_row : Text → List ℕ → Option Row
numbers_row name [] = None
numbers_row name (n ∷ ns) = Some (given (filled (wide_operand name)) (map decimal (n ∷ ns)))

-- the row of an operand, and what is given for it
abbrev IsShown : List Operand → List Value → Text → Operand → Type 0
IsShown os vs n (a_text name) =
    (t : Text) × (row_at n (operand_rows os vs) ≡ Some (given (filled (operand name)) (t ∷ []))) × (text_given os vs n ≡ Some t)
IsShown os vs n (a_number name least most) =
    (k : ℕ) × (row_at n (operand_rows os vs) ≡ Some (given (filled (ranged_operand name least most)) (decimal k ∷ [])))
    × (number_given os vs n ≡ Some k) × (k < 2 ^ 32)
IsShown os vs n (some_numbers name) =
    (ks : List ℕ) × (row_at n (operand_rows os vs) ≡ numbers_row name ks) × (numbers_given os vs n ≡ Some ks)
    × AllByRecursion (λ k. k < 2 ^ 64) ks

-- behind an operand of another name
shown_later : (o p : Operand) (v : Value) (os : List Operand) (vs : List Value) (n : Text) → bytes_eq (operand_name p) n ≡ false
    → AllFit (p ∷ os) (v ∷ vs) → IsShown os vs n o → IsShown (p ∷ os) (v ∷ vs) n o
shown_later o p v os vs n differs fit shown = go p v differs fit o shown
  where
    go : (p : Operand) (v : Value) → bytes_eq (operand_name p) n ≡ false → AllFit (p ∷ os) (v ∷ vs) → (o : Operand) → IsShown os vs n o
        → IsShown (p ∷ os) (v ∷ vs) n o
    go (a_text m) (text t) differs fit (a_text name) s = (s.0, rw differs s.1, rw differs s.2)
    go (a_text m) (text t) differs fit (a_number name least most) s = (s.0, rw differs s.1, s.2, s.3)
    go (a_text m) (text t) differs fit (some_numbers name) s = (s.0, rw differs s.1, s.2, s.3)
    go (a_number m low high) (number k) differs fit (a_text name) s = (s.0, rw differs s.1, s.2)
    go (a_number m low high) (number k) differs fit (a_number name least most) s = (s.0, rw differs s.1, rw differs s.2, s.3)
    go (a_number m low high) (number k) differs fit (some_numbers name) s = (s.0, rw differs s.1, s.2, s.3)
    go (some_numbers m) (numbers []) differs fit (a_text name) s = s
    go (some_numbers m) (numbers []) differs fit (a_number name least most) s = s
    go (some_numbers m) (numbers []) differs fit (some_numbers name) s = (s.0, s.1, rw differs s.2, s.3)
    go (some_numbers m) (numbers (k ∷ ks)) differs fit (a_text name) s = (s.0, rw differs s.1, s.2)
    go (some_numbers m) (numbers (k ∷ ks)) differs fit (a_number name least most) s = (s.0, rw differs s.1, s.2, s.3)
    go (some_numbers m) (numbers (k ∷ ks)) differs fit (some_numbers name) s = (s.0, rw differs s.1, rw differs s.2, s.3)
    go (a_text m) (number k) differs fit o s = absurd fit.0
    go (a_text m) (numbers ks) differs fit o s = absurd fit.0
    go (a_number m low high) (text t) differs fit o s = absurd fit.0
    go (a_number m low high) (numbers ks) differs fit o s = absurd fit.0
    go (some_numbers m) (text t) differs fit o s = absurd fit.0
    go (some_numbers m) (number k) differs fit o s = absurd fit.0

-- the operand itself
shown_first : (o : Operand) (v : Value) (os : List Operand) (vs : List Value) (n : Text) → bytes_eq (operand_name o) n ≡ true
    → AllFit (o ∷ os) (v ∷ vs) → IsLast o os → is_small o ≡ true → IsShown (o ∷ os) (v ∷ vs) n o
shown_first (a_text m) (text t) os vs n same fit last small = (t, rw same refl, rw same refl)
shown_first (a_number m low high) (number k) os vs n same fit last small =
    let most = ltb-true high (2 ^ 32) small in
    (k, rw same refl, rw same refl, omega (arith, most, fit.0.1))
shown_first (some_numbers m) (numbers []) [] [] n same fit last small = ([], refl, rw same refl, tt)
shown_first (some_numbers m) (numbers (k ∷ ks)) os vs n same fit last small = (k ∷ ks, rw same refl, rw same refl, fit.0.0)
shown_first (some_numbers m) (numbers []) (o ∷ os) vs n same fit last small = let none : o ∷ os ≡ [] = last in cc
shown_first (some_numbers m) (numbers []) [] (v ∷ vs) n same fit last small = absurd fit.1
shown_first (a_text m) (number k) os vs n same fit last small = absurd fit.0
shown_first (a_text m) (numbers ks) os vs n same fit last small = absurd fit.0
shown_first (a_number m low high) (text t) os vs n same fit last small = absurd fit.0
shown_first (a_number m low high) (numbers ks) os vs n same fit last small = absurd fit.0
shown_first (some_numbers m) (text t) os vs n same fit last small = absurd fit.0
shown_first (some_numbers m) (number k) os vs n same fit last small = absurd fit.0

-- each operand that is the first of its name
shown : (sh : Shape) (i : ℕ) (os : List Operand) (vs : List Value) (n : Text) (o : Operand) → ArePlaced sh i os → AllFit os vs
    → find (λ p. bytes_eq (operand_name p) n) os ≡ Some o → IsShown os vs n o
shown sh i [] vs n o placed fit is = cc
shown sh i (p ∷ os) [] n o placed fit is = absurd fit
shown sh i (p ∷ os) (v ∷ vs) n o placed fit is =
    go (bytes_eq (operand_name p) n) refl is (shown sh (min (i + 1) usize_max) os vs n o placed.5 fit.1)
  where
    go : (b : Bool) → bytes_eq (operand_name p) n ≡ b → cond b (Some p) (find (λ q. bytes_eq (operand_name q) n) os) ≡ Some o
        → (find (λ q. bytes_eq (operand_name q) n) os ≡ Some o → IsShown os vs n o) → IsShown (p ∷ os) (v ∷ vs) n o
    go true same is rest =
        let here : p ≡ o = cc in
        subst (IsShown (p ∷ os) (v ∷ vs) n) here (shown_first p v os vs n same fit placed.3 placed.4)
    go false differs is rest = shown_later o p v os vs n differs fit (rest is)

-- a name that no operand has
pub record IsAbsent (os : List Operand) (vs : List Value) (n : Text) : Type 0 where
  pub row : row_at n (operand_rows os vs) ≡ None
  pub given : number_given os vs n ≡ None
  pub text : text_given os vs n ≡ None

-- both sides of a conjunction
both : (a b : Bool) → (not a && b) ≡ true → (a ≡ false) × (b ≡ true)
both true b e = cc
both false b e = (refl, e)

-- a name from which the operands' names differ is absent
pub absent : (os : List Operand) (vs : List Value) (n : Text) → AllFit os vs → list_all (λ o. not (bytes_eq (operand_name o) n)) os ≡ true
    → IsAbsent os vs n
absent [] [] n fit apart = record { row = refl; given = refl; text = refl }
absent [] (v ∷ vs) n fit apart = absurd fit
absent (o ∷ os) [] n fit apart = absurd fit
absent (o ∷ os) (v ∷ vs) n fit apart =
    let parts = both (bytes_eq (operand_name o) n) _ apart in
    go o v parts.0 fit (absent os vs n fit.1 parts.1)
  where
    go : (o : Operand) (v : Value) → bytes_eq (operand_name o) n ≡ false → AllFit (o ∷ os) (v ∷ vs) → IsAbsent os vs n
        → IsAbsent (o ∷ os) (v ∷ vs) n
    go (a_text m) (text t) differs fit rest = record { row = rw differs rest.row; given = rest.given; text = rw differs rest.text }
    go (a_number m low high) (number k) differs fit rest =
        record { row = rw differs rest.row; given = rw differs rest.given; text = rest.text }
    go (some_numbers m) (numbers []) differs fit rest = record { row = rest.row; given = rest.given; text = rest.text }
    go (some_numbers m) (numbers (k ∷ ks)) differs fit rest =
        record { row = rw differs rest.row; given = rest.given; text = rest.text }
    go (a_text m) (number k) differs fit rest = absurd fit.0
    go (a_text m) (numbers ks) differs fit rest = absurd fit.0
    go (a_number m low high) (text t) differs fit rest = absurd fit.0
    go (a_number m low high) (numbers ks) differs fit rest = absurd fit.0
    go (some_numbers m) (text t) differs fit rest = absurd fit.0
    go (some_numbers m) (number k) differs fit rest = absurd fit.0

-- rows without one of this name
pub no_row : (n : Text) (rows : List Row) → row_at n rows ≡ None → has_row n rows ≡ false
no_row n [] none = refl
no_row n (r ∷ rows) none = go (bytes_eq r.id n) none (no_row n rows)
  where
    go : (b : Bool) → cond b (Some r) (row_at n rows) ≡ None → (row_at n rows ≡ None → has_row n rows ≡ false)
        → (b || has_row n rows) ≡ false
    go true none rest = cc
    go false none rest = rest none

-- ---- options

-- the option of this name that a setting is of
setting_of : (cs : List Choice) (ch : Choice) (s : Setting) (o : IsOption cs s)
    → find (λ c. bytes_eq (choice_name c) (choice_name ch)) cs ≡ Some ch → s.name ≡ choice_name ch → Takes ch s.value
setting_of cs ch s o listed called =
    let found : Some o.choice ≡ Some ch = sym o.listed ∙ ap (λ n. find (λ c. bytes_eq (choice_name c) n) cs) called ∙ listed in
    subst (λ c. Takes c s.value) (same o.choice ch found) o.fits
  where
    same : (x y : Choice) → Some x ≡ Some y → x ≡ y
    same x y e = cc

-- the row of a setting stands first, or not
row_of_first : (s : Setting) (ss : List Setting) (n : Text) (b : Bool) → bytes_eq s.name n ≡ b
    → row_at n (map set_row (s ∷ ss)) ≡ cond b (Some (set_row s)) (row_at n (map set_row ss))
row_of_first s ss n b is =
    ap (λ (c : Bool). cond c (Some (set_row s)) (row_at n (map set_row ss))) (ap (λ m. bytes_eq m n) (row_named s.name s.value) ∙ is)

-- what is found of an option with a value: what it is given with, or else what it is by default
found_by : {X : Type 0} (at : Option Row → Option X) (in_value : Option Value → Option X) (cs : List Choice) (ch : Choice) (d : Option Row)
    (default : Option X) → find (λ c. bytes_eq (choice_name c) (choice_name ch)) cs ≡ Some ch
    → ((name : Text) (value : Option Value) → Takes ch value → at (Some (value_row name value)) ≡ in_value value) → at d ≡ default
    → (ss : List Setting) → AllByRecursion (IsOption cs) ss
    → at (option_or (row_at (choice_name ch) (map set_row ss)) d) ≡ option_map_or in_value (value_given (choice_name ch) ss) default
found_by at in_value cs ch d default listed valued is [] options = is
found_by at in_value cs ch d default listed valued is (s ∷ ss) options =
    go (bytes_eq s.name (choice_name ch)) refl (found_by at in_value cs ch d default listed valued is ss options.1)
  where
    go : (b : Bool) → bytes_eq s.name (choice_name ch) ≡ b
        → at (option_or (row_at (choice_name ch) (map set_row ss)) d) ≡ option_map_or in_value (value_given (choice_name ch) ss) default
        → at (option_or (row_at (choice_name ch) (map set_row (s ∷ ss))) d)
        ≡ option_map_or in_value (value_given (choice_name ch) (s ∷ ss)) default
    go true same rest =
        ap (λ o. at (option_or o d)) (row_of_first s ss (choice_name ch) true same)
        ∙ valued s.name s.value (setting_of cs ch s options.0 listed ((bytes_eq-Decides s.name (choice_name ch)).0 same))
        ∙ sym (ap (λ (b : Bool). option_map_or in_value (cond b (Some s.value) (value_given (choice_name ch) ss)) default) same)
    go false differs rest =
        ap (λ o. at (option_or o d)) (row_of_first s ss (choice_name ch) false differs) ∙ rest
        ∙ sym (ap (λ (b : Bool). option_map_or in_value (cond b (Some s.value) (value_given (choice_name ch) ss)) default) differs)

-- the number in the row of an option with a number
number_valued : (n : Text) (least most : ℕ) (default : Text) → nat_lt most (2 ^ 32) ≡ true → (name : Text) (value : Option Value)
    → Takes (numbered n least most default) value → number_at (Some (value_row name value)) ≡ number_in_value value
number_valued n least most default small name None takes = absurd takes
number_valued n least most default small name (Some (number k)) takes =
    let high = ltb-true most (2 ^ 32) small in
    number_there k name (omega (arith, high, takes.1))
number_valued n least most default small name (Some (text t)) takes = absurd takes
number_valued n least most default small name (Some (numbers ks)) takes = absurd takes

-- the text in the row of an option with a name
text_valued : (n default name : Text) (value : Option Value) → Takes (named n default) value
    → text_at (Some (value_row name value)) ≡ text_in_value value
text_valued n default name None takes = absurd takes
text_valued n default name (Some (number k)) takes = absurd takes
text_valued n default name (Some (text t)) takes = refl
text_valued n default name (Some (numbers ks)) takes = absurd takes

-- whether an option is given, as this shows in its row
given_found : (at : Option Row → Bool) (cs : List Choice) (ch : Choice) (d : Option Row)
    → find (λ c. bytes_eq (choice_name c) (choice_name ch)) cs ≡ Some ch
    → ((name : Text) (value : Option Value) → Takes ch value → at (Some (value_row name value)) ≡ true) → at d ≡ false
    → (ss : List Setting) → AllByRecursion (IsOption cs) ss
    → at (option_or (row_at (choice_name ch) (map set_row ss)) d) ≡ is_given (choice_name ch) ss
given_found at cs ch d listed set is [] options = is
given_found at cs ch d listed set is (s ∷ ss) options =
    go (bytes_eq s.name (choice_name ch)) refl (given_found at cs ch d listed set is ss options.1)
  where
    go : (b : Bool) → bytes_eq s.name (choice_name ch) ≡ b
        → at (option_or (row_at (choice_name ch) (map set_row ss)) d) ≡ is_given (choice_name ch) ss
        → at (option_or (row_at (choice_name ch) (map set_row (s ∷ ss))) d) ≡ is_given (choice_name ch) (s ∷ ss)
    go true same rest =
        ap (λ o. at (option_or o d)) (row_of_first s ss (choice_name ch) true same)
        ∙ set s.name s.value (setting_of cs ch s options.0 listed ((bytes_eq-Decides s.name (choice_name ch)).0 same))
        ∙ sym (ap (λ (b : Bool). b || is_given (choice_name ch) ss) same)
    go false differs rest =
        ap (λ o. at (option_or o d)) (row_of_first s ss (choice_name ch) false differs) ∙ rest
        ∙ sym (ap (λ (b : Bool). b || is_given (choice_name ch) ss) differs)

-- a flag that is given is set
flag_set : (name n : Text) (value : Option Value) → Takes (switch name) value → set_at (Some (value_row n value)) ≡ true
flag_set name n None takes = refl
flag_set name n (Some v) takes = absurd takes

-- the row of an option that is given comes from the words
words_row : (name : Text) (value : Option Value) → given_at (Some (value_row name value)) ≡ true
words_row name None = refl
words_row name (Some (number n)) = refl
words_row name (Some (text t)) = refl
words_row name (Some (numbers ns)) = refl

-- and that of a default doesn't
default_not_given : (name : Text) (rules : List Rule) → given_at (default_row name rules) ≡ false
default_not_given name [] = refl
default_not_given name (a ∷ rules) = go a.defaults (bytes_eq a.id name) refl (default_not_given name rules)
  where
    go : (values : List Text) (b : Bool) → bytes_eq a.id name ≡ b → given_at (default_row name rules) ≡ false
        → given_at (option_or (own_default name a values) (default_row name rules)) ≡ false
    go [] b is rest = rest
    go (v ∷ vs) true is rest = rw is refl
    go (v ∷ vs) false is rest = rw is rest

-- the number of the option of a name
option_found : (cs : List Choice) (name : Text) (least most : ℕ) (default : Text) (ss : List Setting)
    → find (λ c. bytes_eq (choice_name c) name) cs ≡ Some (numbered name least most default)
    → option_given cs ss name ≡ option_map_or number_in_value (value_given name ss) (number_in default)
option_found [] name least most default ss listed = cc
option_found (ch ∷ cs) name least most default ss listed =
    go ch (bytes_eq (choice_name ch) name) refl listed (option_found cs name least most default ss)
  where
    go : (ch : Choice) (b : Bool) → bytes_eq (choice_name ch) name ≡ b
        → cond b (Some ch) (find (λ c. bytes_eq (choice_name c) name) cs) ≡ Some (numbered name least most default)
        → (find (λ c. bytes_eq (choice_name c) name) cs ≡ Some (numbered name least most default)
        → option_given cs ss name ≡ option_map_or number_in_value (value_given name ss) (number_in default))
        → option_given (ch ∷ cs) ss name ≡ option_map_or number_in_value (value_given name ss) (number_in default)
    go (switch m) true same is rest = cc
    go (switch m) false differs is rest = rest is
    go (named m e) true same is rest = cc
    go (named m e) false differs is rest = rest is
    go (numbered m l g e) true same is rest =
        let text_is : e ≡ default = cc in
        ap (λ (b : Bool). cond b (option_map_or number_in_value (value_given name ss) (number_in e)) (option_given cs ss name)) same
        ∙ ap (λ t. option_map_or number_in_value (value_given name ss) (number_in t)) text_is
    go (numbered m l g e) false differs is rest =
        ap (λ (b : Bool). cond b (option_map_or number_in_value (value_given name ss) (number_in e)) (option_given cs ss name)) differs
        ∙ rest is

-- the text of the option of a name
name_found : (cs : List Choice) (name default : Text) (ss : List Setting)
    → find (λ c. bytes_eq (choice_name c) name) cs ≡ Some (named name default)
    → name_given cs ss name ≡ option_map_or text_in_value (value_given name ss) (Some default)
name_found [] name default ss listed = cc
name_found (ch ∷ cs) name default ss listed =
    go ch (bytes_eq (choice_name ch) name) refl listed (name_found cs name default ss)
  where
    go : (ch : Choice) (b : Bool) → bytes_eq (choice_name ch) name ≡ b
        → cond b (Some ch) (find (λ c. bytes_eq (choice_name c) name) cs) ≡ Some (named name default)
        → (find (λ c. bytes_eq (choice_name c) name) cs ≡ Some (named name default)
        → name_given cs ss name ≡ option_map_or text_in_value (value_given name ss) (Some default))
        → name_given (ch ∷ cs) ss name ≡ option_map_or text_in_value (value_given name ss) (Some default)
    go (switch m) true same is rest = cc
    go (switch m) false differs is rest = rest is
    go (numbered m l g e) true same is rest = cc
    go (numbered m l g e) false differs is rest = rest is
    go (named m e) true same is rest =
        let text_is : e ≡ default = cc in
        ap (λ (b : Bool). cond b (option_map_or text_in_value (value_given name ss) (Some e)) (name_given cs ss name)) same
        ∙ ap (λ t. option_map_or text_in_value (value_given name ss) (Some t)) text_is
    go (named m e) false differs is rest =
        ap (λ (b : Bool). cond b (option_map_or text_in_value (value_given name ss) (Some e)) (name_given cs ss name)) differs ∙ rest is

-- ---- all that is found

-- what holds of each
pub each : {X : Type 0} {P Q : X → Type 0} → ((x : X) → P x → Q x) → (xs : List X) → AllByRecursion P xs → AllByRecursion Q xs
each f [] all = tt
each f (x ∷ xs) all = (f x all.0, each f xs all.1)

-- and what follows from two things that hold of each
each_two : {X : Type 0} {P Q R : X → Type 0} → ((x : X) → P x → Q x → R x) → (xs : List X) → AllByRecursion P xs → AllByRecursion Q xs
    → AllByRecursion R xs
each_two f [] ps qs = tt
each_two f (x ∷ xs) ps qs = (f x ps.0 qs.0, each_two f xs ps.1 qs.1)

-- what an argument asks for is found where the same is
found_at : (f g : Findings) (o : Operand) → IsSameAt f g o → IsFoundAt f o → IsFoundAt g o
found_at f g (a_text name) same found = (found.0, sym same ∙ found.1)
found_at f g (a_number name least most) same found = (found.0, sym same ∙ found.1, found.2, found.3)
found_at f g (some_numbers name) same found = (found.0, sym same ∙ found.1)

found_for : (f g : Findings) (ch : Choice) → IsSameFor f g ch → IsFoundFor f ch → IsFoundFor g ch
found_for f g (switch name) same found = tt
found_for f g (numbered name least most default) same found = (found.0, sym same ∙ found.1, found.2, found.3)
found_for f g (named name default) same found = (found.0, sym same ∙ found.1)

-- the rows of plain words, and those in the end
abbrev pub plain_rows : CommandRow → List Value → List Setting → List Row
plain_rows c vs ss = operand_rows c.operands vs ++ map set_row ss

abbrev pub final_rows : CommandRow → List Value → List Setting → List Row
final_rows c vs ss = fold with_default (plain_rows c vs ss) (leaf c).rules

-- what is tested of each holds of the one that is found
all_found : {X : Type 0} (good test : X → Bool) (xs : List X) (x : X) → list_all good xs ≡ true → find test xs ≡ Some x → good x ≡ true
all_found good test [] x all is = cc
all_found good test (y ∷ ys) x all is = go (good y) (test y) refl all is (all_found good test ys x)
  where
    go : (g b : Bool) → good y ≡ g → (g && list_all good ys) ≡ true → cond b (Some y) (find test ys) ≡ Some x
        → (list_all good ys ≡ true → find test ys ≡ Some x → good x ≡ true) → good x ≡ true
    go false b e all is rest = cc
    go true true e all is rest = let here : y ≡ x = cc in subst (λ z. good z ≡ true) here e
    go true false e all is rest = rest all is

module _ (sh : Shape) (os : List Operand) (cs : List Choice) (known : AllByRecursion (IsKnown sh os cs) cs) where
  -- no option is called as an operand
  pub apart_from : (s : Setting) → IsOption cs s → list_all (λ o. not (bytes_eq (operand_name o) s.name)) os ≡ true
  apart_from s o =
      ap (λ n. list_all (λ p. not (bytes_eq (operand_name p) n)) os) (sym (choice_named cs s o)) ∙ (known_in sh os cs known s o).5

  -- so none leaves a row under the name of one
  no_setting : (o : Operand) (ss : List Setting) → find (λ p. bytes_eq (operand_name p) (operand_name o)) os ≡ Some o
      → AllByRecursion (IsOption cs) ss → row_at (operand_name o) (map set_row ss) ≡ None
  no_setting o [] listed options = refl
  no_setting o (s ∷ ss) listed options =
      row_of_first s ss (operand_name o) false (go (bytes_eq s.name (operand_name o)) refl) ∙ no_setting o ss listed options.1
    where
      differs : not (bytes_eq (operand_name o) s.name) ≡ true
      differs = all_found (λ p. not (bytes_eq (operand_name p) s.name)) (λ p. bytes_eq (operand_name p) (operand_name o)) os o
          (apart_from s options.0) listed

      go : (b : Bool) → bytes_eq s.name (operand_name o) ≡ b → b ≡ false
      go false is = refl
      go true is =
          let named = (bytes_eq-Decides s.name (operand_name o)).0 is in
          let other : not (bytes_eq s.name s.name) ≡ true = ap (λ n. not (bytes_eq n s.name)) named ∙ differs in
          let self = same_text s.name in
          cc

module _ (c : CommandRow) (ready : IsReady c) (vs : List Value) (ss : List Setting) (plain : IsPlain c vs ss) where
  -- the row of a name in the end
  row_in_the_end : (n : Text) → row_at n (final_rows c vs ss)
      ≡ option_or (option_or (row_at n (operand_rows c.operands vs)) (row_at n (map set_row ss))) (default_row n (leaf c).rules)
  row_in_the_end n =
      row_after n (leaf c).rules (plain_rows c vs ss)
      ∙ ap (λ o. option_or o (default_row n (leaf c).rules))
      (find-append (λ (r : Row). bytes_eq r.id n) (operand_rows c.operands vs) (map set_row ss))

  -- and that of an operand that has one
  row_of_operand : (n : Text) (r : Row) → row_at n (operand_rows c.operands vs) ≡ Some r → row_at n (final_rows c vs ss) ≡ Some r
  row_of_operand n r is =
      row_in_the_end n ∙ ap (λ o. option_or (option_or o (row_at n (map set_row ss))) (default_row n (leaf c).rules)) is

  -- and that of an option
  row_of_option : (ch : Choice) → IsKnown (leaf c) c.operands c.choices ch → row_at (choice_name ch) (final_rows c vs ss)
      ≡ option_or (row_at (choice_name ch) (map set_row ss)) (default_row (choice_name ch) (leaf c).rules)
  row_of_option ch k =
      row_in_the_end (choice_name ch)
      ∙ ap (λ o. option_or (option_or o (row_at (choice_name ch) (map set_row ss))) (default_row (choice_name ch) (leaf c).rules))
      (absent c.operands vs (choice_name ch) plain.operands k.5).row

  -- the numbers of an operand
  numbers_there : (name : Text) → IsOwn (leaf c) c.operands (some_numbers name) → (ks : List ℕ)
      → row_at name (operand_rows c.operands vs) ≡ numbers_row name ks → AllByRecursion (λ k. k < 2 ^ 64) ks
      → numbers_of name (final_rows c vs ss) ≡ Some ks
  numbers_there name own [] is small =
      ap (λ (o : Option Row). wide_numbers_in (unwrap_or (option_map (λ r. r.values) o) []))
      (row_in_the_end name ∙ (λ i. option_or (option_or (is i)
      (no_setting (leaf c) c.operands c.choices (knows c ready) (some_numbers name) ss own.0 plain.options i)) (own.1 i)))
  numbers_there name own (k ∷ ks) is small =
      ap (λ (o : Option Row). wide_numbers_in (unwrap_or (option_map (λ r. r.values) o) []))
      (row_of_operand name (given (filled (wide_operand name)) (map decimal (k ∷ ks))) is) ∙ wide_numbers (k ∷ ks) small

  -- an operand is found as it is given
  same_at : (o : Operand) → IsOwn (leaf c) c.operands o → IsSameAt (findings (final_rows c vs ss)) (given_to c vs ss) o
  same_at (a_text name) own =
      let s = shown (leaf c) 1 c.operands vs name (a_text name) ready.placed plain.operands own.0 in
      ap (λ (o : Option Row). option_and_then (λ r. slice_get r.values 0) o)
      (row_of_operand name (given (filled (operand name)) (s.0 ∷ [])) s.1)
      ∙ sym (ap (λ o. option_or o (name_given c.choices ss name)) s.2)
  same_at (a_number name least most) own =
      let s = shown (leaf c) 1 c.operands vs name (a_number name least most) ready.placed plain.operands own.0 in
      ap number_at (row_of_operand name (given (filled (ranged_operand name least most)) (decimal s.0 ∷ [])) s.1)
      ∙ number_there s.0 name s.3 ∙ sym (ap (λ o. option_or o (option_given c.choices ss name)) s.2)
  same_at (some_numbers name) own =
      let s = shown (leaf c) 1 c.operands vs name (some_numbers name) ready.placed plain.operands own.0 in
      numbers_there name own s.0 s.1 s.3 ∙ sym s.2

  -- and so is an option
  same_for : (ch : Choice) → IsKnown (leaf c) c.operands c.choices ch
      → IsSameFor (findings (final_rows c vs ss)) (given_to c vs ss) ch
  same_for (switch name) k =
      ap set_at (row_of_option (switch name) k)
      ∙ given_found set_at c.choices (switch name) (default_row name (leaf c).rules) k.4 (flag_set name) k.7 ss plain.options
  same_for (numbered name least most default) k =
      ap number_at (row_of_option (numbered name least most default) k)
      ∙ found_by number_at number_in_value c.choices (numbered name least most default) (default_row name (leaf c).rules)
      (number_in default) k.4 (number_valued name least most default k.6) (ap number_at k.7.1 ∙ k.7.2) ss plain.options
      ∙ sym (option_found c.choices name least most default ss k.4)
      ∙ sym (ap (λ o. option_or o (option_given c.choices ss name)) (absent c.operands vs name plain.operands k.5).given)
  same_for (named name default) k =
      ap text_at (row_of_option (named name default) k)
      ∙ found_by text_at text_in_value c.choices (named name default) (default_row name (leaf c).rules) (Some default) k.4
      (text_valued name default) (ap text_at k.7.1 ∙ k.7.2) ss plain.options
      ∙ sym (name_found c.choices name default ss k.4)
      ∙ sym (ap (λ o. option_or o (name_given c.choices ss name)) (absent c.operands vs name plain.operands k.5).text)

  -- and it is given where it is found so
  given_for : (ch : Choice) → IsKnown (leaf c) c.operands c.choices ch
      → IsGivenAlike (findings (final_rows c vs ss)) (given_to c vs ss) ch
  given_for ch k =
      ap given_at (row_of_option ch k)
      ∙ given_found given_at c.choices ch (default_row (choice_name ch) (leaf c).rules) k.4 (λ name value takes. words_row name value)
      (default_not_given (choice_name ch) (leaf c).rules) ss plain.options

  -- an operand that has to be there is
  there_at : (o : Operand) → IsOwn (leaf c) c.operands o → IsThere (final_rows c vs ss) o
  there_at (a_text name) own =
      let s = shown (leaf c) 1 c.operands vs name (a_text name) ready.placed plain.operands own.0 in
      ap (λ (o : Option Row). option_map_or (λ r. explicit_source r.source) o false)
      (row_of_operand name (given (filled (operand name)) (s.0 ∷ [])) s.1)
  there_at (a_number name least most) own =
      let s = shown (leaf c) 1 c.operands vs name (a_number name least most) ready.placed plain.operands own.0 in
      ap (λ (o : Option Row). option_map_or (λ r. explicit_source r.source) o false)
      (row_of_operand name (given (filled (ranged_operand name least most)) (decimal s.0 ∷ [])) s.1)
  there_at (some_numbers name) own = tt

  -- all of them
  pub job_is_given : c.job (findings (final_rows c vs ss)) ≡ c.job (given_to c vs ss)
  job_is_given =
      ready.same (findings (final_rows c vs ss)) (given_to c vs ss) (each same_at c.operands ready.own)
      (each same_for c.choices (knows c ready)) (each given_for c.choices (knows c ready))

  pub given_has_job : AllByRecursion (IsFoundAt (findings (final_rows c vs ss))) c.operands
      → AllByRecursion (IsFoundFor (findings (final_rows c vs ss))) c.choices
      → HasJobOf c.name (given_to c vs ss) (c.job (given_to c vs ss))
  given_has_job at for =
      let found = findings (final_rows c vs ss) in
      ready.has_job (given_to c vs ss)
      (each_two (found_at found (given_to c vs ss)) c.operands (each same_at c.operands ready.own) at)
      (each_two (found_for found (given_to c vs ss)) c.choices (each same_for c.choices (knows c ready)) for)

  pub all_there : AllByRecursion (IsThere (final_rows c vs ss)) c.operands
  all_there = each there_at c.operands ready.own
