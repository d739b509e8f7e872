-- Plain words, and what they ask for, for each command of the table.
-- Plain words are the program's name, the command, its operands in order, and then options in any order, each at most once, with
-- its value as the next word. Numbers are decimal digits without leading zeros and in range; names of files are neither empty nor
-- begin with `-`, and a module's name is one. `clap` takes other words too; what they mean is its own to say, and
-- isn't told here.
use Rattle.std.specs.Prelude.{◌≡◌, ◌==◌, ◌<◌, ◌≤◌, ◌^◌, ⊤, ℕ, Bool, false, true, List, [], ◌∷◌, ◌++◌, Option, None, Some, codes, length}
use Rattle.std.specs.Prelude.{find, if◌then◌else◌, map}
use Rattle.std.specs.List.{AllByRecursion, flat_map, list_any}
use Rattle.std.specs.Option.{option_map_or, option_or}
use Rattle.std.specs.Fmt.{decimal}
use Rattle.std.specs.Str.{bytes_eq}
use Rattle.clap.specs.Lexer.{usize_max}
use Rattle.clap.specs.Words.{Text}
use Rattle.goi_words.specs.Findings.{Findings}
use Rattle.goi_words.specs.Commands.{Choice, CommandRow, Operand, a_number, a_text, choice_name, named, numbered, some_numbers, switch}
use Rattle.goi_words.specs.Asked.{number_in}
use Rattle.verilog_names.specs.Name.{module_name}

-- what stands for an operand, or behind the name of an option
pub data Value : Type 0 where
  text : Text → Value
  number : ℕ → Value
  numbers : List ℕ → Value

-- an option as it is given: its name, and its value where it has one
pub record Setting : Type 0 where
  pub name : Text
  pub value : Option Value

-- ---- the words

-- the words for a value
abbrev pub value_words : Value → List Text
value_words (text t) = t ∷ []
value_words (number n) = decimal n ∷ []
value_words (numbers ns) = map decimal ns

-- the word behind the name of an option, where it has a value
abbrev pub option_words : Option Value → List Text
option_words None = []
option_words (Some value) = value_words value

-- the words of an option
abbrev pub setting_words : Setting → List Text
setting_words s = (codes "--" ++ s.name) ∷ option_words s.value

-- the words of a command with its operands and these options
abbrev pub plain_words : Text → CommandRow → List Value → List Setting → List Text
plain_words program c values settings = program ∷ c.name ∷ flat_map value_words values ++ flat_map setting_words settings

-- ---- which are plain

-- the name of a file is not empty and does not begin with `-`
abbrev pub IsFileName : Text → Type 0
IsFileName [] = ⊥
IsFileName (c ∷ cs) = (c == 45) ≡ false

-- what may stand for an operand
abbrev pub Fits : Operand → Value → Type 0
Fits (a_text name) (text t) = IsFileName t
Fits (a_number name least most) (number n) = (least ≤ n) × (n ≤ most)
Fits (some_numbers name) (numbers ns) = AllByRecursion (λ n. n < 2 ^ 64) ns × (length ns ≤ usize_max)
Fits operand value = ⊥

-- each operand has what may stand for it
abbrev pub AllFit : List Operand → List Value → Type 0
AllFit [] [] = ⊤
AllFit (o ∷ os) (v ∷ vs) = Fits o v × AllFit os vs
AllFit os vs = ⊥

-- what an option may be given with
abbrev pub Takes : Choice → Option Value → Type 0
Takes (switch name) None = ⊤
Takes (numbered name least most default) (Some (number n)) = (least ≤ n) × (n ≤ most)
Takes (named name default) (Some (text t)) = module_name t ≡ true
Takes choice value = ⊥

-- it is one of these options, and its value is in range
pub record IsOption (choices : List Choice) (s : Setting) : Type 0 where
  pub choice : Choice
  pub listed : find (λ c. bytes_eq (choice_name c) s.name) choices ≡ Some choice
  pub fits : Takes choice s.value

-- each option is given at most once
abbrev pub AreDistinct : List Setting → Type 0
AreDistinct [] = ⊤
AreDistinct (s ∷ settings) = AllByRecursion (λ t. bytes_eq s.name t.name ≡ false) settings × AreDistinct settings

-- ---- what is given by them

-- the text of the operand of this name
abbrev pub text_given : List Operand → List Value → Text → Option Text
text_given (a_text n ∷ os) (text t ∷ vs) name = if bytes_eq n name then Some t else text_given os vs name
text_given (o ∷ os) (v ∷ vs) name = text_given os vs name
text_given os vs name = None

-- its number
abbrev pub number_given : List Operand → List Value → Text → Option ℕ
number_given (a_number n least most ∷ os) (number k ∷ vs) name = if bytes_eq n name then Some k else number_given os vs name
number_given (o ∷ os) (v ∷ vs) name = number_given os vs name
number_given os vs name = None

-- its numbers
abbrev pub numbers_given : List Operand → List Value → Text → Option (List ℕ)
numbers_given (some_numbers n ∷ os) (numbers ks ∷ vs) name = if bytes_eq n name then Some ks else numbers_given os vs name
numbers_given (o ∷ os) (v ∷ vs) name = numbers_given os vs name
numbers_given os vs name = None

-- the number of a value, and its text
abbrev pub number_in_value : Option Value → Option ℕ
number_in_value (Some (number n)) = Some n
number_in_value value = None

abbrev pub text_in_value : Option Value → Option Text
text_in_value (Some (text t)) = Some t
text_in_value value = None

-- the value that an option is given with, if it is given
abbrev pub value_given : Text → List Setting → Option (Option Value)
value_given name [] = None
value_given name (s ∷ settings) = if bytes_eq s.name name then Some s.value else value_given name settings

-- the number of the option of this name: the one that is given, or else the one of its default
abbrev pub option_given : List Choice → List Setting → Text → Option ℕ
option_given [] settings name = None
option_given (numbered n least most default ∷ choices) settings name =
    if bytes_eq n name then option_map_or number_in_value (value_given name settings) (number_in default)
    else option_given choices settings name
option_given (choice ∷ choices) settings name = option_given choices settings name

-- the text of the option of this name, in the same way
abbrev pub name_given : List Choice → List Setting → Text → Option Text
name_given [] settings name = None
name_given (named n default ∷ choices) settings name =
    if bytes_eq n name then option_map_or text_in_value (value_given name settings) (Some default)
    else name_given choices settings name
name_given (choice ∷ choices) settings name = name_given choices settings name

-- an option is given
abbrev pub is_given : Text → List Setting → Bool
is_given name settings = list_any (λ s. bytes_eq s.name name) settings

-- what is given for the arguments of a command
abbrev pub given : CommandRow → List Value → List Setting → Findings
given c values settings = record {
  text = λ name. option_or (text_given c.operands values name) (name_given c.choices settings name);
  number = λ name. option_or (number_given c.operands values name) (option_given c.choices settings name);
  numbers = λ name. numbers_given c.operands values name;
  is_set = λ name. is_given name settings;
  is_given = λ name. is_given name settings;
}

-- ---- all of it

-- the words of this command with these operands and options are plain
pub record IsPlain (c : CommandRow) (values : List Value) (settings : List Setting) : Type 0 where
  pub operands : AllFit c.operands values
  pub options : AllByRecursion (IsOption c.choices) settings
  pub distinct : AreDistinct settings
