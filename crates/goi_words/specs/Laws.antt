-- What this crate says of words beside the contract of `job_of`.
use Rattle.std.specs.Prelude.{◌≡◌, ◌⊎◌, true, List, [], ◌∷◌, None, Some, codes}
use Rattle.std.specs.List.{AllByRecursion}
use Rattle.clap.specs.Words.{Text}
use Rattle.goi_words.specs.Asked.{AreUnfit, is_taken, job}
use Rattle.goi_words.specs.Commands.{CommandRow, IsUnfit, commands}
use Rattle.goi_jobs.specs.Jobs.{IsWithinLimits, JobTree}
use Rattle.goi_words.specs.Plain.{IsPlain, Setting, Value, given, plain_words}

-- plain words of a command ask for the job that the command makes of what is given, whatever the program's name and whatever the order of
-- the options; it makes one, but for `circuit` where that is unfit
abbrev pub TakesPlainWords : CommandRow → Type 0
TakesPlainWords c = (program : Text) (values : List Value) (settings : List Setting) → IsPlain c values settings
    → (job (plain_words program c values settings) ≡ c.job (given c values settings))
    × (((done : JobTree) × (c.job (given c values settings) ≡ Some done))
    ⊎ ((c.name ≡ codes "circuit") × IsUnfit (given c values settings)))

-- and so it is with each command
abbrev pub PlainWordsAreTaken : Type 0
PlainWordsAreTaken = AllByRecursion TakesPlainWords commands

-- words that `clap` takes ask for a job within the limits, or enter `circuit` with what is unfit, and are refused for it
abbrev pub TakenWordsHaveAJob : Type 0
TakenWordsHaveAJob = (words : List Text) → is_taken words ≡ true
    → ((done : JobTree) × (job words ≡ Some done) × IsWithinLimits done) ⊎ (AreUnfit words × (job words ≡ None))

-- no words at all are refused, as the program's name alone is
abbrev pub NoWordsAreRefused : Type 0
NoWordsAreRefused = (job [] ≡ None) × (job (codes "goi" ∷ []) ≡ None)

-- a request for help in the command's place is refused like other words, whatever follows it
abbrev pub HelpIsRefused : Type 0
HelpIsRefused = (program : Text) (rest : List Text)
    → (job (program ∷ codes "help" ∷ rest) ≡ None) × (job (program ∷ codes "--help" ∷ rest) ≡ None)
    × (job (program ∷ codes "-h" ∷ rest) ≡ None)
