-- What a list of words asks for.
-- The words begin with the program's own name, whatever it is. `clap`'s definition at our command says whether the words are taken,
-- which subcommand they enter and what stands there for each argument, a default where the words say nothing. The job is read off
-- from that, so that words mean here what they mean to every other program of the same command line.
use Rattle.std.specs.Prelude.{◌≡◌, ℕ, Bool, true, false, ◌&&◌, ◌^◌, List, [], ◌∷◌, Option, None, Some, if◌then◌else◌, codes, nat_lt}
use Rattle.std.specs.Prelude.{find, option_and_then}
use Rattle.std.specs.Option.{option_map_or, unwrap_or}
use Rattle.std.specs.Str.{bytes_eq}
use Rattle.std.specs.Str.Parse.{digits_value, without_leading_plus}
use Rattle.clap.specs.ValueTests.{is_numeral}
use Rattle.clap.specs.declared.parser.matches.ValueSource.{ValueSource}
use Rattle.clap.specs.declared.parser.matches.ValueSource.TheVariants.{CommandLine, DefaultValue}
use Rattle.clap.specs.Words.{Kinds, Row, Text, all_of, fault_of, first_of, one_of, subcommand_of}
use Rattle.goi_words.specs.Findings.{Findings, ◌>>=◌}
use Rattle.goi_words.specs.Commands.{CommandRow, IsUnfit, commands, goi_command}
use Rattle.goi_jobs.specs.Jobs.{JobTree}

-- the number that a text spells, where it is below 2 ^ 32; one plus may stand before the digits
abbrev pub number_in : Text → Option ℕ
number_in text =
    let digits = without_leading_plus text in
    if is_numeral digits && nat_lt (digits_value 10 digits) (2 ^ 32) then Some (digits_value 10 digits) else None

-- the number that a text spells, where it is below 2 ^ 64; one plus may stand before the digits
abbrev pub wide_number_in : Text → Option ℕ
wide_number_in text =
    let digits = without_leading_plus text in
    if is_numeral digits && nat_lt (digits_value 10 digits) (2 ^ 64) then Some (digits_value 10 digits) else None

-- the numbers that texts spell, where each spells one
abbrev pub wide_numbers_in : List Text → Option (List ℕ)
wide_numbers_in [] = Some []
wide_numbers_in (text ∷ texts) = do
  n ← wide_number_in text
  ns ← wide_numbers_in texts
  Some (n ∷ ns)

-- the text that was found for an argument
abbrev pub text_of : Text → List Row → Option Text
text_of name rows = first_of name rows

-- the number that was found for an argument
abbrev pub number_of : Text → List Row → Option ℕ
number_of name rows = one_of name rows >>= number_in

-- the numbers that were found for an argument, and none where it isn't given
abbrev pub numbers_of : Text → List Row → Option (List ℕ)
numbers_of name rows = wide_numbers_in (unwrap_or (all_of name rows) [])

-- a flag was found
abbrev pub is_set : Text → List Row → Bool
is_set name rows = option_map_or (λ text. bytes_eq text (codes "true")) (one_of name rows) false

-- what was found comes from the words, and is no default
abbrev pub is_from_words : Option ValueSource → Bool
is_from_words None = false
is_from_words (Some DefaultValue) = false
is_from_words (Some CommandLine) = true

-- an argument is given
abbrev pub is_given : Text → List Row → Bool
is_given name rows = is_from_words (option_and_then (λ r. r.source) (find (λ r. bytes_eq r.id name) rows))

-- all that was found
abbrev pub findings : List Row → Findings
findings rows = record {
  text = λ name. text_of name rows;
  number = λ name. number_of name rows;
  numbers = λ name. numbers_of name rows;
  is_set = λ name. is_set name rows;
  is_given = λ name. is_given name rows;
}

-- the job of the command of this name
abbrev pub job_among : List CommandRow → Text → List Row → Option JobTree
job_among [] name rows = None
job_among (c ∷ cs) name rows = if bytes_eq name c.name then c.job (findings rows) else job_among cs name rows

abbrev pub job_on : Text → List Row → Option JobTree
job_on = job_among commands

-- no kind of error is listed
abbrev pub is_faultless : Kinds → Bool
is_faultless [] = true
is_faultless (kind ∷ kinds) = false

-- `clap`'s definition takes the words: it lists no kind of error for them
abbrev pub is_taken : List Text → Bool
is_taken words = is_faultless (fault_of goi_command words)

-- the words enter `circuit`, and what was found there asks for nothing
pub record AreUnfit (words : List Text) : Type 0 where
  pub rows : List Row
  pub entered : subcommand_of goi_command words ≡ Some (codes "circuit", rows)
  pub unfit : IsUnfit (findings rows)

-- the job of a list of words, or none where the words are refused
unfoldable pub job : List Text → Option JobTree
job words = if is_taken words then (subcommand_of goi_command words >>= λ p. job_on p.0 p.1) else None
