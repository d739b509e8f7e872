-- How options are read, in any order.
use Rattle.std.proofs.Common.{◌≡◌, ◌∙◌, ◌∷◌, ◌++◌, ◌<◌, ◌≤◌, ◌^◌, ap, refl, sym, subst, cond, map, append-nil, append_assoc, not, ℕ, Bool}
use Rattle.std.proofs.Common.{true, false, List, [], Option, Some, None, is_some, codes, nat_lt, arith}
use Rattle.std.specs.Prelude.{option_and_then, slice_get}
use Rattle.std.specs.List.{AllByRecursion, find, flat_map, list_all}
use Rattle.std.specs.Option.{option_map_or}
use Rattle.std.specs.Fmt.{decimal}
use Rattle.std.specs.Str.{bytes_eq}
use Rattle.std.proofs.lemmas.Bool.{ltb-true, ne_eqb}
use Rattle.std.proofs.lemmas.Slice.Eq.{bytes_eq-Decides}
use Rattle.clap.specs.Lexer.{long_of}
use Rattle.clap.specs.Walk.{Held, Row, Rule, Text, arg_by_id, arg_by_long, has_row, row_text}
use Rattle.clap.specs.Simple.{Shape, filled}
use Rattle.goi_words.specs.Commands.{Choice, Operand, choice_name, choice_rule, flag, named, number_option, numbered, operand_name, switch}
use Rattle.goi_words.specs.Commands.{text_option}
use Rattle.goi_words.specs.Findings.{◌>>=◌}
use Rattle.goi_words.specs.Asked.{is_from_words, number_in}
use Rattle.goi_words.specs.Plain.{AreDistinct, IsOption, Setting, Takes, Value, number, numbers, option_words, setting_words, text}
use Rattle.goi_words.proofs.Decimals.{decimal_passes, decimal_value}
use Rattle.goi_words.proofs.Found.{found_in}
use Rattle.goi_words.proofs.Rows.{absent_more, default_row, given, used_first}
use Rattle.goi_words.proofs.Walks.{Holds, IsValue, Names, Reads, a_value, flag_read, option_read, then}
use Rattle.verilog_names.specs.Name.{module_name}

-- ---- what a command shows of its options

-- the number, the text and the flag that a row holds
abbrev pub number_at : Option Row → Option ℕ
number_at row = option_and_then row_text row >>= number_in

abbrev pub text_at : Option Row → Option Text
text_at row = option_and_then (λ r. slice_get r.values 0) row

abbrev pub set_at : Option Row → Bool
set_at row = option_map_or (λ text. bytes_eq text (codes "true")) (option_and_then row_text row) false

-- the row comes from the words
abbrev pub given_at : Option Row → Bool
given_at row = is_from_words (option_and_then (λ r. r.source) row)

-- the numbers of an option have 32 bits
abbrev pub is_small : Choice → Bool
is_small (switch name) = true
is_small (numbered name least most default) = nat_lt most (2 ^ 32)
is_small (named name default) = true

-- what is found of it where it isn't given
abbrev pub IsDefault : Choice → Option Row → Type 0
IsDefault (switch name) row = set_at row ≡ false
IsDefault (numbered name least most default) row = (d : Row) × (row ≡ Some d) × (number_at (Some d) ≡ number_in default)
IsDefault (named name default) row = (d : Row) × (row ≡ Some d) × (text_at (Some d) ≡ Some default)

-- the command knows the option: its words, both ways to find it, what comes first under its name, and its default
abbrev pub IsKnown : Shape → List Operand → List Choice → Choice → Type 0
IsKnown sh operands choices ch =
    (bytes_eq (codes "--" ++ choice_name ch) (45 ∷ 45 ∷ []) ≡ false)
    × (long_of (codes "--" ++ choice_name ch) ≡ Some (choice_name ch, None))
    × (arg_by_long sh.rules (choice_name ch) ≡ Some (filled (choice_rule ch)))
    × (arg_by_id sh.rules (choice_name ch) ≡ Some (filled (choice_rule ch)))
    × (find (λ c. bytes_eq (choice_name c) (choice_name ch)) choices ≡ Some ch)
    × (list_all (λ o. not (bytes_eq (operand_name o) (choice_name ch))) operands ≡ true) × (is_small ch ≡ true)
    × IsDefault ch (default_row (choice_name ch) sh.rules)

-- all of this as one value, so that a command shows it of all its options by one equation
pub record Facts : Type 0 where
  pub dashes : Bool
  pub long : Option (Text × Option Text)
  pub by_long : Option Rule
  pub by_id : Option Rule
  pub listed : Option Choice
  pub apart : Bool
  pub small : Bool
  pub has_default : Bool
  pub number : Option ℕ
  pub text : Option Text
  pub flag : Bool

-- the number, the text and the flag that an option is by default
abbrev default_number : Choice → Option Row → Option ℕ
default_number (switch name) row = None
default_number (numbered name least most default) row = number_at row
default_number (named name default) row = None

abbrev default_text : Choice → Option Row → Option Text
default_text (switch name) row = None
default_text (numbered name least most default) row = None
default_text (named name default) row = text_at row

abbrev default_flag : Choice → Option Row → Bool
default_flag (switch name) row = set_at row
default_flag (numbered name least most default) row = false
default_flag (named name default) row = false

abbrev wanted_number : Choice → Option ℕ
wanted_number (switch name) = None
wanted_number (numbered name least most default) = number_in default
wanted_number (named name default) = None

abbrev wanted_text : Choice → Option Text
wanted_text (switch name) = None
wanted_text (numbered name least most default) = None
wanted_text (named name default) = Some default

-- what is so of an option, and what has to be
abbrev pub facts : Shape → List Operand → List Choice → Choice → Facts
facts sh operands choices ch = record {
  dashes = bytes_eq (codes "--" ++ choice_name ch) (45 ∷ 45 ∷ []);
  long = long_of (codes "--" ++ choice_name ch);
  by_long = arg_by_long sh.rules (choice_name ch);
  by_id = arg_by_id sh.rules (choice_name ch);
  listed = find (λ c. bytes_eq (choice_name c) (choice_name ch)) choices;
  apart = list_all (λ o. not (bytes_eq (operand_name o) (choice_name ch))) operands;
  small = is_small ch;
  has_default = is_some (default_row (choice_name ch) sh.rules);
  number = default_number ch (default_row (choice_name ch) sh.rules);
  text = default_text ch (default_row (choice_name ch) sh.rules);
  flag = default_flag ch (default_row (choice_name ch) sh.rules);
}

abbrev pub wanted : Choice → Facts
wanted ch = record {
  dashes = false;
  long = Some (choice_name ch, None);
  by_long = Some (filled (choice_rule ch));
  by_id = Some (filled (choice_rule ch));
  listed = Some ch;
  apart = true;
  small = true;
  has_default = true;
  number = wanted_number ch;
  text = wanted_text ch;
  flag = false;
}

-- a number that is there by default
default_there : (o : Option Row) (default : Text) → is_some o ≡ true → number_at o ≡ number_in default
    → (d : Row) × (o ≡ Some d) × (number_at (Some d) ≡ number_in default)
default_there None default there is = cc
default_there (Some d) default there is = (d, refl, is)

-- and a text
text_there : (o : Option Row) (default : Text) → is_some o ≡ true → text_at o ≡ Some default
    → (d : Row) × (o ≡ Some d) × (text_at (Some d) ≡ Some default)
text_there None default there is = cc
text_there (Some d) default there is = (d, refl, is)

-- one option
known_by_facts : (sh : Shape) (os : List Operand) (cs : List Choice) (ch : Choice) → facts sh os cs ch ≡ wanted ch → IsKnown sh os cs ch
known_by_facts sh os cs ch e = (
  ap (λ (f : Facts). f.dashes) e,
  ap (λ (f : Facts). f.long) e,
  ap (λ (f : Facts). f.by_long) e,
  ap (λ (f : Facts). f.by_id) e,
  ap (λ (f : Facts). f.listed) e,
  ap (λ (f : Facts). f.apart) e,
  ap (λ (f : Facts). f.small) e,
  go ch e,
)
  where
    go : (ch : Choice) → facts sh os cs ch ≡ wanted ch → IsDefault ch (default_row (choice_name ch) sh.rules)
    go (switch name) e = ap (λ (f : Facts). f.flag) e
    go (numbered name least most default) e =
        default_there (default_row name sh.rules) default (ap (λ (f : Facts). f.has_default) e) (ap (λ (f : Facts). f.number) e)
    go (named name default) e =
        text_there (default_row name sh.rules) default (ap (λ (f : Facts). f.has_default) e) (ap (λ (f : Facts). f.text) e)

-- the first of two lists that are the same, and the others
both_parts : {X : Type 0} (x y : X) (xs ys : List X) → x ∷ xs ≡ y ∷ ys → (x ≡ y) × (xs ≡ ys)
both_parts x y xs ys e = (cc, cc)

-- two functions that are the same along a list
pub each_equal : {X Y : Type 0} (f g : X → Y) (xs : List X) → map f xs ≡ map g xs → AllByRecursion (λ x. f x ≡ g x) xs
each_equal f g [] e = tt
each_equal f g (x ∷ xs) e = let (h, t) = both_parts _ _ _ _ e in (h, each_equal f g xs t)

-- all options
pub all_known : (sh : Shape) (os : List Operand) (known cs : List Choice) → map (facts sh os known) cs ≡ map wanted cs
    → AllByRecursion (IsKnown sh os known) cs
all_known sh os known [] e = tt
all_known sh os known (ch ∷ cs) e =
    let (h, t) = both_parts _ _ _ _ e in (known_by_facts sh os known ch h, all_known sh os known cs t)

-- the word of the option names its argument
pub is_named : (sh : Shape) (os : List Operand) (cs : List Choice) (ch : Choice) → IsKnown sh os cs ch
    → Names sh (codes "--" ++ choice_name ch) (filled (choice_rule ch))
is_named sh os cs (switch name) k = record { not_dashes = k.0; name = name; long = k.1; rule = k.2; own = k.3 }
is_named sh os cs (numbered name least most default) k = record { not_dashes = k.0; name = name; long = k.1; rule = k.2; own = k.3 }
is_named sh os cs (named name default) k = record { not_dashes = k.0; name = name; long = k.1; rule = k.2; own = k.3 }

-- ---- the option of a setting

-- what is found passes the test
pub found_passes : {X : Type 0} (test : X → Bool) (xs : List X) (x : X) → find test xs ≡ Some x → test x ≡ true
found_passes test [] x e = cc
found_passes test (y ∷ ys) x e = go (test y) refl e (found_passes test ys x)
  where
    go : (b : Bool) → test y ≡ b → cond b (Some y) (find test ys) ≡ Some x → (find test ys ≡ Some x → test x ≡ true) → test x ≡ true
    go true is e rest = let same : y ≡ x = cc in subst (λ z. test z ≡ true) same is
    go false is e rest = rest e

-- the option of a setting has its name
pub choice_named : (cs : List Choice) (s : Setting) (o : IsOption cs s) → choice_name o.choice ≡ s.name
choice_named cs s o =
    (bytes_eq-Decides (choice_name o.choice) s.name).0 (found_passes (λ c. bytes_eq (choice_name c) s.name) cs o.choice o.listed)

-- the row that an option leaves
abbrev pub value_row : Text → Option Value → Row
value_row name None = given (filled (flag name)) []
value_row name (Some (number n)) = given (filled (number_option name 0 0 [])) (decimal n ∷ [])
value_row name (Some (text t)) = given (filled (text_option name [])) (t ∷ [])
value_row name (Some (numbers ns)) = given (filled (flag name)) []

abbrev pub set_row : Setting → Row
set_row s = value_row s.name s.value

-- it is called as the option
pub row_named : (name : Text) (value : Option Value) → (value_row name value).id ≡ name
row_named name None = refl
row_named name (Some (number n)) = refl
row_named name (Some (text t)) = refl
row_named name (Some (numbers ns)) = refl

-- the words of an option by its name
abbrev words_of : Text → Option Value → List Text
words_of name value = (codes "--" ++ name) ∷ option_words value

-- ---- one option

-- the name of a module is a value
name_value : (name : Text) → module_name name ≡ true → IsValue name
name_value [] is = cc
name_value (c ∷ cs) is =
    a_value c cs (ne_eqb c 45 (λ e. let bad : false ≡ true = subst (λ d. module_name (d ∷ cs) ≡ true) e is in cc))

module _ (sh : Shape) (once : sh.args_override_self ≡ false) (h : Held) (rows : List Row) (p : ℕ)
    (rest : List Text) (holds : Holds sh h rows) where
  number_read : (name : Text) (least greatest n : ℕ) (default : Text)
      → Names sh (codes "--" ++ name) (filled (number_option name least greatest default))
      → least ≤ n → n ≤ greatest → n < 2 ^ 32 → has_row name rows ≡ false
      → Reads sh h p p ((codes "--" ++ name) ∷ decimal n ∷ rest) rest
      (rows ++ given (filled (number_option name least greatest default)) (decimal n ∷ []) ∷ [])
  number_read name least greatest n default names low high small absent =
      let rule = filled (number_option name least greatest default) in
      subst (Reads sh h p p ((codes "--" ++ name) ∷ decimal n ∷ rest) rest) (used_first rule (decimal n ∷ []) rows (λ _. refl) absent)
      (option_read sh rule (codes "--" ++ name) (decimal n) h rows p rest holds names (decimal_value n small) refl
      (rw (once, absent, decimal_passes n small least greatest low high) refl))

  switch_read : (name : Text) → Names sh (codes "--" ++ name) (filled (flag name)) → has_row name rows ≡ false
      → Reads sh h p p ((codes "--" ++ name) ∷ rest) rest (rows ++ given (filled (flag name)) [] ∷ [])
  switch_read name names absent =
      subst (Reads sh h p p ((codes "--" ++ name) ∷ rest) rest) (used_first (filled (flag name)) [] rows (λ _. refl) absent)
      (flag_read sh (filled (flag name)) (codes "--" ++ name) h rows p rest holds names refl (rw (once, absent) refl))

  text_read : (name default t : Text) → Names sh (codes "--" ++ name) (filled (text_option name default)) → module_name t ≡ true
      → has_row name rows ≡ false
      → Reads sh h p p ((codes "--" ++ name) ∷ t ∷ rest) rest (rows ++ given (filled (text_option name default)) (t ∷ []) ∷ [])
  text_read name default t names is absent =
      let rule = filled (text_option name default) in
      subst (Reads sh h p p ((codes "--" ++ name) ∷ t ∷ rest) rest) (used_first rule (t ∷ []) rows (λ _. refl) absent)
      (option_read sh rule (codes "--" ++ name) t h rows p rest holds names (name_value t is) refl (rw (once, absent) refl))

  one_choice : (ch : Choice) (value : Option Value) → Names sh (codes "--" ++ choice_name ch) (filled (choice_rule ch)) → is_small ch ≡ true
      → Takes ch value → has_row (choice_name ch) rows ≡ false
      → Reads sh h p p (words_of (choice_name ch) value ++ rest) rest (rows ++ value_row (choice_name ch) value ∷ [])
  one_choice (switch name) None names small fits absent = switch_read name names absent
  one_choice (switch name) (Some v) names small fits absent = absurd fits
  one_choice (numbered name least most default) None names small fits absent = absurd fits
  one_choice (numbered name least most default) (Some (number n)) names small fits absent =
      let high = ltb-true most (2 ^ 32) small in
      number_read name least most n default names fits.0 fits.1 (omega (arith, fits.1, high)) absent
  one_choice (numbered name least most default) (Some (text t)) names small fits absent = absurd fits
  one_choice (numbered name least most default) (Some (numbers ns)) names small fits absent = absurd fits
  one_choice (named name default) None names small fits absent = absurd fits
  one_choice (named name default) (Some (text t)) names small fits absent = text_read name default t names fits absent
  one_choice (named name default) (Some (number n)) names small fits absent = absurd fits
  one_choice (named name default) (Some (numbers ns)) names small fits absent = absurd fits

  one_setting : (os : List Operand) (cs : List Choice) (s : Setting) (o : IsOption cs s) → IsKnown sh os cs o.choice
      → has_row s.name rows ≡ false → Reads sh h p p (setting_words s ++ rest) rest (rows ++ set_row s ∷ [])
  one_setting os cs s o k absent =
      let same = choice_named cs s o in
      subst (λ name. Reads sh h p p (words_of name s.value ++ rest) rest (rows ++ value_row name s.value ∷ [])) same
      (one_choice o.choice s.value (is_named sh os cs o.choice k) k.6 o.fits (ap (λ name. has_row name rows) same ∙ absent))

-- ---- any number of options, in any order

-- an option that isn't given yet, after one of another name
absent_others : (s : Setting) (rows : List Row) (ss : List Setting) → AllByRecursion (λ t. bytes_eq s.name t.name ≡ false) ss
    → AllByRecursion (λ t. has_row t.name rows ≡ false) ss
    → AllByRecursion (λ t. has_row t.name (rows ++ set_row s ∷ []) ≡ false) ss
absent_others s rows [] differ absent = tt
absent_others s rows (t ∷ ss) differ absent =
    let called : bytes_eq (set_row s).id t.name ≡ false = ap (λ name. bytes_eq name t.name) (row_named s.name s.value) ∙ differ.0 in
    (absent_more t.name rows (set_row s) absent.0 called, absent_others s rows ss differ.1 absent.1)

-- a command that knows all its options knows that of a setting
pub known_in : (sh : Shape) (os : List Operand) (cs : List Choice) → AllByRecursion (IsKnown sh os cs) cs → (s : Setting)
    (o : IsOption cs s) → IsKnown sh os cs o.choice
known_in sh os cs known s o = found_in (IsKnown sh os cs) (λ c. bytes_eq (choice_name c) s.name) cs o.choice known o.listed

-- any number of options is read
pub settings_read : (sh : Shape) → sh.args_override_self ≡ false → (os : List Operand) (cs : List Choice)
    → AllByRecursion (IsKnown sh os cs) cs → (ss : List Setting) (h : Held) (rows : List Row) (p : ℕ)
    → AllByRecursion (IsOption cs) ss → AreDistinct ss → AllByRecursion (λ s. has_row s.name rows ≡ false) ss → Holds sh h rows
    → Reads sh h p p (flat_map setting_words ss) [] (rows ++ map set_row ss)
settings_read sh once os cs known [] h rows p options distinct absent holds = record {
  held = h;
  leads = record { walk = refl; fault = refl };
  holds = record { there = holds.there ∙ sym (append-nil rows); clean = holds.clean };
}
settings_read sh once os cs known (s ∷ ss) h rows p options distinct absent holds =
    let first = one_setting sh once h rows p (flat_map setting_words ss) holds os cs s options.0 (known_in sh os cs known s options.0)
    absent.0 in
    let second = settings_read sh once os cs known ss first.held (rows ++ set_row s ∷ []) p options.1 distinct.1
    (absent_others s rows ss distinct.0 absent.1) first.holds in
    record {
      held = second.held;
      leads = then sh _ _ _ _ _ _ first.leads second.leads;
      holds = record { there = second.holds.there ∙ append_assoc rows (set_row s ∷ []) (map set_row ss); clean = second.holds.clean };
    }
