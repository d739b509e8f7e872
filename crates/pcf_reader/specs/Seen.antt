-- The views of the crate's own tokens and parts: what contracts see of them.
use Rattle.std.specs.Prelude.{ℕ, List}
use Rattle.pcf_values.specs.Named as syntax
use Rattle.pcf_reader.specs.Tokens as tokens
use Rattle.pcf_reader.specs.Tokens.{Token as SpecToken}
use Rattle.pcf_reader.specs.Grammar.{Part as SpecPart}
use Rattle.pcf_values.specs.Views.{named_of}
use Rattle.pcf_reader.specs.declared.terms.Part.{Part}
use Rattle.pcf_reader.specs.declared.token.Word.{Word}
use Rattle.pcf_reader.specs.declared.token.Word.TheVariants as word
use Rattle.pcf_reader.specs.declared.token.Binder.{Binder}
use Rattle.pcf_reader.specs.declared.token.Binder.TheVariants.{Fun, Fix}
use Rattle.pcf_reader.specs.declared.token.Token.{Token}
use Rattle.pcf_reader.specs.declared.token.Token.TheVariants.{Open, Close, Colon, Dot, Comma, Sign, Arrow, Ifz, Then, Else}
use Rattle.pcf_reader.specs.declared.token.Token.TheVariants.{Nat, Bind, Before, Number, Name, End}

abbrev pub word_of : Word → syntax.Word
word_of word.Succ = syntax.the_succ
word_of word.Pred = syntax.the_pred
word_of (word.Part s) = syntax.the_part s

abbrev pub binder_of : Binder → syntax.Binder
binder_of Fun = syntax.the_fun
binder_of Fix = syntax.the_fix

-- the token, where a name has these bytes
abbrev pub token_of : Token → List ℕ → SpecToken
token_of Open x = tokens.Open
token_of Close x = tokens.Close
token_of Colon x = tokens.Colon
token_of Dot x = tokens.Dot
token_of Comma x = tokens.Comma
token_of (Sign o) x = tokens.Sign o
token_of Arrow x = tokens.Arrow
token_of Ifz x = tokens.Ifz
token_of Then x = tokens.Then
token_of Else x = tokens.Else
token_of Nat x = tokens.Nat
token_of (Bind b) x = tokens.Bind (binder_of b)
token_of (Before w) x = tokens.Before (word_of w)
token_of (Number n) x = tokens.Number n
token_of Name x = tokens.Name x
token_of End x = tokens.End

abbrev pub part_of : Part → SpecPart
part_of p = record { tree = named_of p.tree.value; height = p.height }
