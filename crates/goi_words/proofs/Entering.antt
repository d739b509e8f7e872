-- The job, by what a parse says.
use Rattle.std.proofs.Common.{inl, inr, subst, true}
use Rattle.clap.specs.Values.{kind_of}
use Rattle.clap.specs.Words.{App, HasKind, HasMatchesOf, is_simple, is_simple_and_free, subcommand_rows_of}
use Rattle.clap.specs.declared.error.Error.{Error}
use Rattle.clap.specs.declared.parser.matches.ArgMatches.{ArgMatches}
use Rattle.goi_words.specs.Faults.{fault_by}
use Rattle.goi_words.specs.declared.faults.WordFault.TheVariants.{NoMemory, Refused}
use Rattle.std.proofs.Common.{◌≡◌, ◌≢◌, ◌∙◌, ap, cond, refl, sym, false, List, [], ◌∷◌, Option, Some, None, Result, Ok, Err, IsErrAnd}
use Rattle.std.proofs.Common.{IsErrOf, option_map, is_some}
use Rattle.std.specs.Prelude.{Box}
use Rattle.std.specs.Box.{box_value}
use Rattle.std.proofs.lemmas.Option.{same_Some}
use Rattle.clap.specs.Words.{Kinds, Row, Text, fault_of, subcommand_of, subcommand_rows}
use Rattle.clap.specs.declared.parser.matches.SubCommand.{SubCommand}
use Rattle.clap.specs.declared.parser.matches.ArgMatches.TheViews.{out-SubCommand}
use Rattle.clap.specs.Simple.{Shape, built}
use Rattle.clap.specs.Kinds.{or_else}
use Rattle.goi_words.proofs.Levels.{Gives}
use Rattle.goi_words.proofs.Tops.{Enters, fault_below, rows_below}
use Rattle.goi_words.specs.Commands.{goi_command}
use Rattle.goi_words.specs.Findings.{◌>>=◌}
use Rattle.goi_words.specs.Asked.{is_faultless, job, job_on}
use Rattle.goi_jobs.specs.Jobs.{JobTree}
use Rattle.goi_words.specs.declared.faults.WordFault.{WordFault}

-- where a kind of error is listed, there is no job
refused_kinds : (k : Kinds) (o : Option JobTree) → k ≢ [] → cond (is_faultless k) o None ≡ None
refused_kinds [] o hit = absurd (hit refl)
refused_kinds (x ∷ xs) o hit = refl

-- words that `clap` refuses
pub not_taken : (words : List Text) → fault_of goi_command words ≢ [] → job words ≡ None
unfolding job
not_taken words hit = refused_kinds (fault_of goi_command words) _ hit

-- words that it takes
pub entered_job : (words : List Text) (o : Option (Text × List Row)) → fault_of goi_command words ≡ [] → o ≡ subcommand_of goi_command words
    → job words ≡ (o >>= λ p. job_on p.0 p.1)
unfolding job
entered_job words o taken is =
    ap (λ k. cond (is_faultless k) (subcommand_of goi_command words >>= λ p. job_on p.0 p.1) None) taken
    ∙ ap (λ (s : Option (Text × List Row)). s >>= λ p. job_on p.0 p.1) (sym is)

-- an error that is passed up
pub passed_up : {T : Type 0} (r : Result T WordFault) (f g : WordFault) → IsErrAnd r (λ e. e ≡ f) → IsErrOf r g → f ≡ g
passed_up (Ok x) f g up is = absurd up
passed_up (Err e) f g up is = let same : e ≡ g = cc in sym up ∙ same

module _ {Z : Type 0} where
  pub name_and_rows : (sub : Option (Box SubCommand Z)) (n : Text) (rows : List Row)
      → Some n ≡ option_map (λ b. (out-SubCommand (box_value b)).name.now) sub → Some rows ≡ option_map (λ p. p.1) (subcommand_rows sub)
      → Some (n, rows) ≡ subcommand_rows sub
  name_and_rows None n rows is at = cc
  name_and_rows (Some b) n rows is at =
      let same_name : n ≡ (out-SubCommand (box_value b)).name.now = cc in
      let same_rows = same_Some _ _ at in
      ap Some (λ i. (same_name i, same_rows i))

  pub no_rows : (sub : Option (Box SubCommand Z)) → false ≡ is_some sub → None ≡ subcommand_rows sub
  no_rows None is = refl
  no_rows (Some b) is = cc

-- words that enter a subcommand
pub below_job : (program name : Text) (s : Shape) (words : List Text) (rows : List Row) → Enters (built goi_command) name s
    → Gives s words rows
    → job (program ∷ name ∷ words) ≡ job_on s.name rows
below_job program name s words rows enters gives =
    entered_job (program ∷ name ∷ words) (Some (s.name, rows))
    (fault_below (built goi_command) name s words enters ∙ ap (λ k. or_else k []) gives.clean)
    (sym (rows_below (built goi_command) name s words enters ∙ ap (λ r. Some (s.name, r)) gives.rows_are))

-- ---- the contract of a parse, at our command

-- our command is simple in the sense of `clap`'s definition
simple_command : is_simple goi_command ≡ true
simple_command = refl

-- and free of all that a parse could fail of beside its definition
free_command : is_simple_and_free goi_command ≡ true
free_command = refl

-- a parse that succeeds
pub clean_parse : (app : App) (words : List Text) → app ≡ goi_command → (is_simple_and_free app ≡ true → fault_of app words ≡ [])
    → fault_of goi_command words ≡ []
clean_parse app words is kinds = subst (λ (a : App). fault_of a words ≡ []) is (kinds (ap is_simple_and_free is ∙ free_command))

-- what such a parse finds is what the definition finds
pub found_parse : (app : App) (words : List Text) (m : ArgMatches) → app ≡ goi_command → HasMatchesOf app words m
    → subcommand_rows_of m ≡ subcommand_of goi_command words
found_parse app words m is matches = (matches (ap is_simple is ∙ simple_command)).1 ∙ ap (λ (a : App). subcommand_of a words) is

-- a parse that fails, where memory isn't wanting
pub failed_parse : (app : App) (words : List Text) (e : Error) → app ≡ goi_command
    → (is_simple_and_free app ≡ true → HasKind (fault_of app words) e)
    → fault_by (kind_of e) ≡ Refused → fault_of goi_command words ≢ []
failed_parse app words e is kinds refused clean =
    let among = subst (λ (a : App). HasKind (fault_of a words) e) is (kinds (ap is_simple_and_free is ∙ free_command)) in
    elim (subst (λ k. HasKind k e) clean among) [
      | inl memory ↦ let bad : NoMemory ≡ Refused = sym (ap fault_by memory) ∙ refused in cc
      | inr impossible ↦ absurd impossible
    ]
