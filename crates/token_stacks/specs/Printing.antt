-- What the code of texts speaks of: either stack as a list of symbols, the symbol on top, and what is still to be written of a
-- signature. Only private contracts cite it.
use Rattle.std.specs.Prelude.{◌≡◌, ◌<◌, ℕ, ◌+◌, ◌*◌, List, [], ◌∷◌, ◌++◌, length, map, codes}
use Rattle.std.specs.Prelude.{Option, Some, None}
use Rattle.token_stacks.specs.Signatures.{Sig, star, Sym, R, L, S, Work, Boxes}
use Rattle.token_stacks.specs.Words.{body, box_words}
use Rattle.token_stacks.specs.WorkWords.{work_words}
use Rattle.token_stacks.specs.Reading.{boxes_of}
use Rattle.token_stacks.specs.Texts.{sig_text}
use Rattle.token_stacks.specs.Tops.{IsBody}
use Rattle.token_stacks.specs.declared.print.Piece.{Piece}
use Rattle.token_stacks.specs.declared.print.Piece.TheVariants.{Mark, Part, Second}
use Rattle.token_stacks.specs.declared.print.Form.{Form}
use Rattle.token_stacks.specs.declared.print.Form.TheVariants.{Symbols, Signatures}
use Rattle.token_stacks.specs.declared.print.Symbol.{Symbol}
use Rattle.token_stacks.specs.declared.print.Symbol.TheVariants.{Right, Left, Signature}

-- ---- stacks

-- the words are those of a stack of this form, with these symbols
abbrev pub IsStack : Form → List ℕ → Work → Type 0
IsStack Symbols ws m = ws ≡ work_words m
IsStack Signatures ws m = (t : Boxes) × (ws ≡ box_words t) × (m ≡ map S t)

-- what the code finds on top is this symbol
abbrev pub IsTop : Symbol → Sym → Type 0
IsTop Right x = x ≡ R
IsTop Left x = x ≡ L
IsTop (Signature ws) x = (s : Sig) × (x ≡ S s) × (ws.now ≡ body s)

-- it was taken off these words
pub record TakesTop (f : Form) (ws rest : List ℕ) (m : Work) : Type 0 where
  pub stack : IsStack f rest m
  pub less : length rest < length ws

-- ---- signatures

-- the top of a box stack, if it has one
abbrev pub top_sig : Boxes → Sig
top_sig [] = star
top_sig (s ∷ t) = s

-- the signature of these words
abbrev pub sig_of : List ℕ → Sig
sig_of ws = top_sig (boxes_of (ws ++ length ws ∷ []))

-- what is to be written for a piece
abbrev pub piece_text : Piece → List ℕ
piece_text (Mark b) = b ∷ []
piece_text (Part ws d) = sig_text d (sig_of ws.now)
piece_text (Second ws d b) = codes "," ++ (sig_text d (sig_of ws.now) ++ b ∷ [])

-- what is in hand, as a list
abbrev pub held : Option Piece → List Piece
held None = []
held (Some p) = p ∷ []

-- what is to be written for pieces, the last one first
abbrev pub pieces_text : List Piece → List ℕ
pieces_text [] = []
pieces_text (p ∷ ps) = pieces_text ps ++ piece_text p

-- a part has the words of a signature
abbrev pub IsPart : Piece → Type 0
IsPart (Mark b) = Unit {0}
IsPart (Part ws d) = IsBody ws.now
IsPart (Second ws d b) = IsBody ws.now

abbrev pub AreParts : List Piece → Type 0
AreParts [] = Unit {0}
AreParts (p ∷ ps) = IsPart p × AreParts ps

-- how much there is left to do
abbrev pub piece_work : Piece → ℕ
piece_work (Mark b) = 1
piece_work (Part ws d) = 3 * length ws.now
piece_work (Second ws d b) = 3 * length ws.now + 2

abbrev pub pieces_work : List Piece → ℕ
pieces_work [] = 0
pieces_work (p ∷ ps) = piece_work p + pieces_work ps

-- What was written and what was put down is this text, in front of what was put down before, with less than so much to do.
pub record Writes (old new : List ℕ) (before after : List Piece) (x : List ℕ) (n : ℕ) : Type 0 where
  pub text : new ++ pieces_text after ≡ old ++ (x ++ pieces_text before)
  pub parts : AreParts before → AreParts after
  pub less : pieces_work after < n + pieces_work before
