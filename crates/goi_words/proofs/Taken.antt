-- Words that `clap` takes ask for a job.
use Rattle.std.proofs.Common.{◌≡◌, ◌∙◌, ◌∷◌, ◌<◌, ◌≤◌, ◌^◌, ap, cond, length, refl, subst, sym, ℕ, Bool, true, false, List, [], Option}
use Rattle.std.proofs.Common.{Some, None, codes, inl, inr, not, ◌||◌, ◌++◌, ◌+◌, map, min, option_map, unwrap_or}
use Rattle.std.proofs.lemmas.Bool.{ltb-true}
use Rattle.std.specs.List.{AllByRecursion, fold}
use Rattle.std.specs.Option.{option_map_or, option_or}
use Rattle.std.specs.Prelude.{pos, slice_get}
use Rattle.std.specs.Str.{bytes_eq}
use Rattle.std.specs.Str.Parse.{ParsesUnsigned}
use Rattle.std.proofs.lemmas.Slice.Eq.{bytes_eq-Decides}
use Rattle.clap.specs.Lexer.{usize_max, without_minus}
use Rattle.clap.specs.Facts.{explicit_source, parser_of_value}
use Rattle.clap.specs.Takes.{is_given as is_row_given, value_passes}
use Rattle.clap.specs.ValueTests.{accepts}
use Rattle.clap.specs.Walk.{Row, Rule, Text, action_of, arg_by_id, default_rows, has_row, nothing_held, reading_by, rows_after, settled}
use Rattle.clap.specs.Walk.{values_or_missing, walk, walk_from, with_default}
use Rattle.clap.specs.Simple.{Shape, filled, filled_from, with_index}
use Rattle.clap.specs.Faults.{check_fault, defaults_fault, given_default_fault, level_fault, repeat_fault, settle_fault, use_fault}
use Rattle.clap.specs.Faults.{values_fault, walk_fault}
use Rattle.clap.specs.Kinds.{or_else, range_kinds, request_kinds, value_kinds}
use Rattle.clap.specs.Values.{reading_of, refused_kind}
use Rattle.clap.specs.declared.builder.value_parser.ValueParser.TheVariants as parser
use Rattle.clap.specs.declared.parser.matches.ValueSource.TheVariants.{DefaultValue}
use Rattle.clap.proofs.CallerReads.{signed_reads}
use Rattle.clap.proofs.ValueTestLemmas.{accepts-Accepts}
use Rattle.goi_words.specs.Commands.{Choice, CommandRow, Operand, a_number, a_text, choice_rule, flag, named, number_option}
use Rattle.goi_words.specs.Commands.{numbered}
use Rattle.goi_words.specs.Commands.{operand, operand_rule, some_numbers, switch, text_option}
use Rattle.goi_words.specs.Findings.{Findings}
use Rattle.clap.specs.declared.error.kind.ErrorKind.TheVariants as kind
use Rattle.goi_words.specs.Asked.{findings, job_on, number_in, number_of, numbers_of, text_of, wide_numbers_in}
use Rattle.goi_words.proofs.Found.{AreSound, AreTame, IsSound, IsTame, none_else, one_rule, settled_sound, values_sound, walk_sound}
use Rattle.goi_words.proofs.Numbers.{reads_itself}
use Rattle.goi_words.proofs.Operands.{ArePlaced, rule_at}
use Rattle.goi_words.proofs.Ready.{HasJobOf, IsFoundAt, IsFoundFor, IsReady, IsThere, cleanly, knows, leaf}
use Rattle.goi_words.proofs.Settings.{IsKnown}
use Rattle.goi_words.proofs.Wide.{passed_numbers}
use Rattle.goi_words.proofs.Rows.{HasCleanDefaults, Replaces, default_row, row_after, row_at}

-- ---- values that passed

-- a value without a kind of error passed its parser
value_passed : (a : Rule) (v : Text) → value_kinds a.ignore_case (parser_of_value a.parser) v ≡ [] → value_passes a v ≡ true
value_passed a v clean = go (value_passes a v) clean
  where
    go : (b : Bool) → cond b [] (refused_kind (parser_of_value a.parser) ∷ []) ≡ [] → b ≡ true
    go true clean = refl
    go false clean = cc

-- so did each of several
pub all_passed : (a : Rule) (vs : List Text) → values_fault a vs ≡ [] → AllByRecursion (λ v. value_passes a v ≡ true) vs
all_passed a [] clean = tt
all_passed a (v ∷ vs) clean =
    let parts = none_else (value_kinds a.ignore_case (parser_of_value a.parser) v) _ clean in
    (value_passed a v parts.0, all_passed a vs parts.1)

-- an operand of any text, at its place
abbrev operand_at : ℕ → Text → Rule
operand_at i name = with_index i (filled (operand name))

-- texts pass where any text does
texts_pass : (i : ℕ) (name : Text) (vs : List Text) → AllByRecursion (λ v. value_passes (operand_at i name) v ≡ true) vs
texts_pass i name [] = tt
texts_pass i name (v ∷ vs) = (refl, texts_pass i name vs)

-- ---- the arguments of our commands

-- an operand keeps its value
pub operand_tame : (c : List Rule) (i : ℕ) (name : Text) → arg_by_id c name ≡ Some (operand_at i name) → IsTame c (operand_at i name)
operand_tame c i name own = record { own = own; replaces = λ values rows. refl; valued = valued }
  where
    valued : (again : Bool) (values : List Text) (rows : List Row) → use_fault again (operand_at i name) values rows ≡ []
        → (v : Text) × (vs : List Text) × (values_or_missing (operand_at i name) values ≡ v ∷ vs)
        × AllByRecursion (λ v. value_passes (operand_at i name) v ≡ true) (v ∷ vs)
    valued again [] rows clean = cc
    valued again (v ∷ vs) rows clean = (v, vs, refl, texts_pass i name (v ∷ vs))

-- a rule that keeps the value of its one use, and has one
abbrev IsSet : Rule → Type 0
IsSet a = (again : Bool) (values : List Text) (rows : List Row) → use_fault again a values rows
    ≡ or_else (range_kinds 1 1 (length values)) (or_else (repeat_fault again a.id rows) (values_fault a (values_or_missing a values)))

-- so does an argument with one value
pub set_tame : (c : List Rule) (a : Rule) → arg_by_id c a.id ≡ Some a → ((values : List Text) → Replaces a values) → IsSet a → IsTame c a
set_tame c a own replaces set = record { own = own; replaces = replaces; valued = valued }
  where
    valued : (again : Bool) (values : List Text) (rows : List Row) → use_fault again a values rows ≡ []
        → (v : Text) × (vs : List Text) × (values_or_missing a values ≡ v ∷ vs) × AllByRecursion (λ v. value_passes a v ≡ true) (v ∷ vs)
    valued again [] rows clean =
        let whole = sym (set again [] rows) ∙ clean in
        cc
    valued again (v ∷ vs) rows clean =
        let whole = sym (set again (v ∷ vs) rows) ∙ clean in
        let parts = none_else (range_kinds 1 1 (length (v ∷ vs))) _ whole in
        (v, vs, refl, all_passed a (v ∷ vs) (none_else (repeat_fault again a.id rows) _ parts.1).1)

-- and a flag
pub flag_tame : (c : List Rule) (name : Text) → arg_by_id c name ≡ Some (filled (flag name)) → IsTame c (filled (flag name))
flag_tame c name own = record { own = own; replaces = λ values rows. refl; valued = valued }
  where
    valued : (again : Bool) (values : List Text) (rows : List Row) → use_fault again (filled (flag name)) values rows ≡ []
        → (v : Text) × (vs : List Text) × (values_or_missing (filled (flag name)) values ≡ v ∷ vs)
        × AllByRecursion (λ v. value_passes (filled (flag name)) v ≡ true) (v ∷ vs)
    valued again [] rows clean = (codes "true", [], refl, (refl, tt))
    valued again (v ∷ vs) rows clean =
        let parts = none_else (range_kinds 0 0 (length (v ∷ vs))) _ clean in
        (v, vs, refl, all_passed (filled (flag name)) (v ∷ vs) (none_else (repeat_fault again name rows) _ parts.1).1)

-- ---- one level

-- a default leaves sound rows
default_sound : (c : List Rule) (a : Rule) (rows : List Row) → IsTame c a → given_default_fault a a.defaults ≡ [] → AreSound c rows
    → AreSound c (with_default rows a)
default_sound c a rows tame clean sound = go (has_row a.id rows)
  where
    added : (values : List Text) → given_default_fault a values ≡ [] → AreSound c (default_rows a.id (reading_by a) values rows)
    added [] clean = sound
    added (v ∷ vs) clean =
        values_sound c a DefaultValue v vs rows tame.own (all_passed a (v ∷ vs) (none_else (request_kinds (action_of a)) _ clean).1) sound

    go : (b : Bool) → AreSound c (cond b rows (default_rows a.id (reading_by a) a.defaults rows))
    go true = sound
    go false = added a.defaults clean

-- and so do all of them
defaults_sound : (c rules : List Rule) (rows : List Row) → AllByRecursion (IsTame c) rules → HasCleanDefaults rules → AreSound c rows
    → AreSound c (fold with_default rows rules)
defaults_sound c [] rows tame clean sound = sound
defaults_sound c (a ∷ rules) rows tame clean sound =
    defaults_sound c rules (with_default rows a) tame.1 clean.1 (default_sound c a rows tame.0 clean.0 sound)

-- what a level without a fault has in the end
pub record IsFound (s : Shape) (words : List Text) : Type 0 where
  pub sound : AreSound s.rules (rows_after s.rules [] words)
  pub checked : check_fault s (rows_after s.rules [] words) false ≡ []

-- such a level has sound rows
pub level_found : (s : Shape) → AreTame s.rules → HasCleanDefaults s.rules → (words : List Text)
    → level_fault s [] nothing_held words false [] ≡ [] → IsFound s words
level_found s tame defaults words clean =
    let end = (walk s.rules [] nothing_held words).held in
    let walked = none_else (walk_fault s [] (walk_from nothing_held) words) _ clean in
    let settles = none_else (settle_fault s.rules s.args_override_self end) _ walked.1 in
    let filled_in = none_else (defaults_fault (settled s.rules end).rows s.rules) _ settles.1 in
    record {
      sound = defaults_sound s.rules s.rules (settled s.rules end).rows tame defaults
          (settled_sound s.rules s.args_override_self tame end settles.0 (walk_sound s tame words (walk_from nothing_held) walked.0 tt));
      checked = filled_in.1;
    }

-- ---- what is found for one argument

-- the row of an id is sound, and of that id
pub found_row : (c : List Rule) (id : Text) (rows : List Row) (r : Row) → AreSound c rows → row_at id rows ≡ Some r
    → IsSound c r × (r.id ≡ id)
found_row c id [] r sound at = cc
found_row c id (x ∷ rows) r sound at = go (bytes_eq x.id id) refl at (found_row c id rows r sound.1)
  where
    go : (b : Bool) → bytes_eq x.id id ≡ b → cond b (Some x) (row_at id rows) ≡ Some r
        → (row_at id rows ≡ Some r → IsSound c r × (r.id ≡ id)) → IsSound c r × (r.id ≡ id)
    go true same is rest =
        let here : x ≡ r = cc in
        subst (λ y. IsSound c y × (y.id ≡ id)) here (sound.0, (bytes_eq-Decides x.id id).0 same)
    go false differs is rest = rest is

-- the argument of a name that the last check asks for has a row
pub required_row : (id : Text) (rows : List Row) → is_row_given id rows ≡ true → (r : Row) × (row_at id rows ≡ Some r)
required_row id rows there = go (row_at id rows) there
  where
    go : (o : Option Row) → option_map_or (λ r. explicit_source r.source) o false ≡ true → (r : Row) × (o ≡ Some r)
    go None there = cc
    go (Some r) there = (r, refl)

-- and so has an argument with a default
default_there : (id : Text) (rules : List Rule) (rows : List Row) (d : Row) → default_row id rules ≡ Some d
    → (r : Row) × (row_at id (fold with_default rows rules) ≡ Some r)
default_there id rules rows d is = go (row_at id rows) (row_after id rules rows ∙ ap (option_or (row_at id rows)) is)
  where
    go : (o : Option Row) → row_at id (fold with_default rows rules) ≡ option_or o (Some d)
        → (r : Row) × (row_at id (fold with_default rows rules) ≡ Some r)
    go None at = (d, at)
    go (Some r) at = (r, at)

-- an argument with a default has a row in the end
pub default_after : (s : Shape) (words : List Text) (id : Text) (d : Row) → default_row id s.rules ≡ Some d
    → (r : Row) × (row_at id (rows_after s.rules [] words) ≡ Some r)
default_after s words id d is = default_there id s.rules (settled s.rules (walk s.rules [] nothing_held words).held).rows d is

-- an argument with a row has a text
pub text_found : (c : List Rule) (id : Text) (rows : List Row) → AreSound c rows → (r : Row) × (row_at id rows ≡ Some r)
    → (t : Text) × (text_of id rows ≡ Some t)
text_found c id rows sound there =
    let found = found_row c id rows there.0 sound there.1 in
    let values = found.0.values in
    (found.0.first, rw there.1 (ap (λ vs. slice_get vs 0) values))

-- a number in the range of its argument
signed_number : (low high : ℕ) (t : Text) → high < 2 ^ 32 → accepts false (parser.Signed (pos low) (pos high)) t ≡ true
    → (n : ℕ) × (number_in (without_minus t) ≡ Some n) × (low ≤ n) × (n ≤ high)
signed_number low high t small passes =
    signed_reads (Unit {0}) (ParsesUnsigned 32 10) 32 low high t (number_in (without_minus t)) (reads_itself (without_minus t))
    (λ u x gives. gives) small
    (accepts-Accepts false (parser.Signed (pos low) (pos high)) t passes)

-- the number of a row
number_from : (id : Text) (low high n : ℕ) (rows : List Row) (r : Row) (first : Text) (others : List Text) → row_at id rows ≡ Some r
    → r.values ≡ first ∷ others
    → r.reading ≡ reading_of (parser.Signed (pos low) (pos high)) → number_in (without_minus first) ≡ Some n → number_of id rows ≡ Some n
number_from id low high n rows r first others at values reading is = rw (at, values, reading) is

-- an argument with a row and a number in a range
pub number_found : (c : List Rule) (id : Text) (low high : ℕ) (a : Rule) (rows : List Row) → high < 2 ^ 32 → arg_by_id c id ≡ Some a
    → a.parser ≡ Some (parser.Signed (pos low) (pos high)) → a.ignore_case ≡ false → AreSound c rows → (r : Row) × (row_at id rows ≡ Some r)
    → (n : ℕ) × (number_of id rows ≡ Some n) × (low ≤ n) × (n ≤ high)
number_found c id low high a rows small is parser_is case_is sound there =
    let found = found_row c id rows there.0 sound there.1 in
    let same_rule : found.0.rule ≡ a = own found.0.rule (sym (ap (arg_by_id c) found.1) ∙ found.0.own) in
    let passed : accepts a.ignore_case (parser_of_value a.parser) found.0.first ≡ true =
    subst (λ (x : Rule). value_passes x found.0.first ≡ true) same_rule found.0.passes.0 in
    let read : accepts false (parser.Signed (pos low) (pos high)) found.0.first ≡ true = rw (case_is, parser_is) at passed in
    let number = signed_number low high found.0.first small read in
    let reading : there.0.reading ≡ reading_of (parser.Signed (pos low) (pos high)) =
    found.0.reading ∙ ap reading_by same_rule ∙ ap (λ p. reading_of (parser_of_value p)) parser_is in (
      number.0,
      number_from id low high number.0 rows there.0 found.0.first found.0.others there.1 found.0.values reading number.1,
      number.2,
      number.3,
    )
  where
    own : (x : Rule) → arg_by_id c id ≡ Some x → x ≡ a
    own x e = let both : Some x ≡ Some a = sym e ∙ is in cc

-- an option with a number keeps its value
pub option_tame : (c : List Rule) (name : Text) (least most : ℕ) (default : Text)
    → arg_by_id c name ≡ Some (filled (number_option name least most default))
    → IsTame c (filled (number_option name least most default))
option_tame c name least most default own =
    set_tame c (filled (number_option name least most default)) own (λ values rows. refl) (λ again values rows. refl)

-- and so does one with a text
text_option_tame : (c : List Rule) (name default : Text) → arg_by_id c name ≡ Some (filled (text_option name default))
    → IsTame c (filled (text_option name default))
text_option_tame c name default own = set_tame c (filled (text_option name default)) own (λ values rows. refl) (λ again values rows. refl)

-- the last check asks for an operand, and for nothing more
pub asked : (g more : Bool) → cond (not g || more) (kind.MissingRequiredArgument ∷ []) [] ≡ [] → (g ≡ true) × (more ≡ false)
asked true true e = cc
asked true false e = (refl, refl)
asked false more e = cc

-- ---- operands of any number of numbers

-- the numbers keep their values
numbers_tame : (c : List Rule) (i : ℕ) (name : Text) → arg_by_id c name ≡ Some (rule_at i (some_numbers name))
    → IsTame c (rule_at i (some_numbers name))
numbers_tame c i name own = record { own = own; replaces = λ values rows. refl; valued = valued }
  where
    valued : (again : Bool) (values : List Text) (rows : List Row) → use_fault again (rule_at i (some_numbers name)) values rows ≡ []
        → (v : Text) × (vs : List Text) × (values_or_missing (rule_at i (some_numbers name)) values ≡ v ∷ vs)
        × AllByRecursion (λ v. value_passes (rule_at i (some_numbers name)) v ≡ true) (v ∷ vs)
    valued again [] rows clean = cc
    valued again (v ∷ vs) rows clean =
        let parts = none_else (range_kinds 1 usize_max (length (v ∷ vs))) _ clean in
        (v, vs, refl, all_passed (rule_at i (some_numbers name)) (v ∷ vs) (none_else (repeat_fault again name rows) _ parts.1).1)

-- all texts that are found for the numbers spell some
numbers_found : (c : List Rule) (i : ℕ) (name : Text) (rows : List Row) → arg_by_id c name ≡ Some (rule_at i (some_numbers name))
    → AreSound c rows → (ns : List ℕ) × (numbers_of name rows ≡ Some ns)
numbers_found c i name rows own sound = go (row_at name rows) refl
  where
    go : (o : Option Row) → row_at name rows ≡ o
        → (ns : List ℕ) × (wide_numbers_in (unwrap_or (option_map (λ r. r.values) o) []) ≡ Some ns)
    go None is = ([], refl)
    go (Some r) is =
        let found = found_row c name rows r sound is in
        let same : found.0.rule ≡ rule_at i (some_numbers name) =
        one_rule found.0.rule (rule_at i (some_numbers name)) (sym found.0.own ∙ ap (arg_by_id c) found.1 ∙ own) in
        let pass = subst (λ (x : Rule). AllByRecursion (λ v. value_passes x v ≡ true) (found.0.first ∷ found.0.others)) same
        found.0.passes in
        let numbers = passed_numbers (found.0.first ∷ found.0.others) pass in
        (numbers.0, ap wide_numbers_in found.0.values ∙ numbers.1)

-- ---- all arguments of a command

module _ (sh : Shape) (os0 : List Operand) (cs0 : List Choice) where
  -- its options keep their values
  choices_tame : (i : ℕ) (cs : List Choice) → AllByRecursion (IsKnown sh os0 cs0) cs
      → AllByRecursion (IsTame sh.rules) (filled_from i (map choice_rule cs))
  choices_tame i [] known = tt
  choices_tame i (switch name ∷ cs) known = (flag_tame sh.rules name known.0.3, choices_tame i cs known.1)
  choices_tame i (numbered name least most default ∷ cs) known =
      (option_tame sh.rules name least most default known.0.3, choices_tame i cs known.1)
  choices_tame i (named name default ∷ cs) known = (text_option_tame sh.rules name default known.0.3, choices_tame i cs known.1)

  -- and so do all its arguments
  all_tame : (i : ℕ) (os : List Operand) (cs : List Choice) → ArePlaced sh i os → AllByRecursion (IsKnown sh os0 cs0) cs
      → AllByRecursion (IsTame sh.rules) (filled_from i (map operand_rule os ++ map choice_rule cs))
  all_tame i [] cs placed known = choices_tame i cs known
  all_tame i (a_text name ∷ os) cs placed known =
      (operand_tame sh.rules i name placed.1, all_tame (min (i + 1) usize_max) os cs placed.5 known)
  all_tame i (a_number name least most ∷ os) cs placed known = (
    set_tame sh.rules (rule_at i (a_number name least most)) placed.1 (λ values rows. refl) (λ again values rows. refl),
    all_tame (min (i + 1) usize_max) os cs placed.5 known,
  )
  all_tame i (some_numbers name ∷ os) cs placed known =
      (numbers_tame sh.rules i name placed.1, all_tame (min (i + 1) usize_max) os cs placed.5 known)

  -- what its operands ask for is found
  operands_found : (rows : List Row) → AreSound sh.rules rows → (i : ℕ) (os : List Operand) → ArePlaced sh i os
      → AllByRecursion (IsThere rows) os → AllByRecursion (IsFoundAt (findings rows)) os
  operands_found rows sound i [] placed there = tt
  operands_found rows sound i (a_text name ∷ os) placed there = (
    text_found sh.rules name rows sound (required_row name rows there.0),
    operands_found rows sound (min (i + 1) usize_max) os placed.5 there.1,
  )
  operands_found rows sound i (a_number name least most ∷ os) placed there = (
    number_found sh.rules name least most (rule_at i (a_number name least most)) rows (ltb-true most (2 ^ 32) placed.4) placed.1 refl refl
        sound (required_row name rows there.0),
    operands_found rows sound (min (i + 1) usize_max) os placed.5 there.1,
  )
  operands_found rows sound i (some_numbers name ∷ os) placed there = (
    numbers_found sh.rules i name rows placed.1 sound,
    operands_found rows sound (min (i + 1) usize_max) os placed.5 there.1,
  )

  -- and so is that of its options
  choices_found : (words : List Text) → AreSound sh.rules (rows_after sh.rules [] words) → (cs : List Choice)
      → AllByRecursion (IsKnown sh os0 cs0) cs → AllByRecursion (IsFoundFor (findings (rows_after sh.rules [] words))) cs
  choices_found words sound [] known = tt
  choices_found words sound (switch name ∷ cs) known = (tt, choices_found words sound cs known.1)
  choices_found words sound (numbered name least most default ∷ cs) known = (
    number_found sh.rules name least most (filled (number_option name least most default)) (rows_after sh.rules [] words)
        (ltb-true most (2 ^ 32) known.0.6) known.0.3 refl refl sound (default_after sh words name known.0.7.0 known.0.7.1),
    choices_found words sound cs known.1,
  )
  choices_found words sound (named name default ∷ cs) known = (
    text_found sh.rules name (rows_after sh.rules [] words) sound (default_after sh words name known.0.7.0 known.0.7.1),
    choices_found words sound cs known.1,
  )

-- what the arguments of a command ask for is found, where it takes its words
pub record AreFound (c : CommandRow) (f : Findings) : Type 0 where
  pub operands : AllByRecursion (IsFoundAt f) c.operands
  pub choices : AllByRecursion (IsFoundFor f) c.choices

pub all_found : (c : CommandRow) → IsReady c → (words : List Text) → level_fault (leaf c) [] nothing_held words false [] ≡ []
    → AreFound c (findings (rows_after (leaf c).rules [] words))
all_found c ready words clean =
    let rows = rows_after (leaf c).rules [] words in
    let tame = all_tame (leaf c) c.operands c.choices 1 c.operands c.choices ready.placed (knows c ready) in
    let found = level_found (leaf c) tame (cleanly c ready) words clean in
    record {
      operands = operands_found (leaf c) c.operands c.choices rows found.sound 1 c.operands ready.placed (ready.asks rows found.checked);
      choices = choices_found (leaf c) c.operands c.choices words found.sound c.choices (knows c ready);
    }

-- what is found at the name of a command is a job, or it is unfit
abbrev pub IsDecided : Text → List Row → Type 0
IsDecided name rows = HasJobOf name (findings rows) (job_on name rows)

-- so it is where the command takes its words
abbrev pub TakenHasJob : CommandRow → Type 0
TakenHasJob c = (words : List Text) → level_fault (leaf c) [] nothing_held words false [] ≡ []
    → IsDecided c.name (rows_after (leaf c).rules [] words)

-- and is ready
pub taken_has_job : (c : CommandRow) → IsReady c → TakenHasJob c
taken_has_job c ready words clean =
    let rows = rows_after (leaf c).rules [] words in
    let found = all_found c ready words clean in
    elim (ready.has_job (findings rows) found.operands found.choices) [
      | inl has ↦ inl (has.0, ready.job rows ∙ has.1, has.2)
      | inr bad ↦ inr bad
    ]
