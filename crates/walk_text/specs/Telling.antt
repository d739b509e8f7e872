-- What the code's pieces write. Only private contracts cite it.
use Rattle.std.specs.Prelude.{◌≡◌, ℕ, Bool, true, false, List, [], ◌++◌, Option, Some, None, codes, if◌then◌else◌}
use Rattle.std.specs.FinMap.{get}
use Rattle.pcf_values.specs.declared.val.Val.{Val}
use Rattle.token_stacks.specs.Signatures.{Boxes}
use Rattle.token_stacks.specs.Loads.{Load}
use Rattle.token_stacks.specs.Texts.{work_text, boxes_text, key_text}
use Rattle.net_build.specs.declared.node.Node.{Node}
use Rattle.net_build.specs.declared.node.Node.TheVariants.{Binary}
use Rattle.net_build.specs.Nets.{NetTree}
use Rattle.move_rules.specs.declared.token.Kind.{Kind}
use Rattle.move_rules.specs.declared.token.Kind.TheVariants.{Ask, Ans}
use Rattle.move_rules.specs.declared.token.Seen.{Seen}
use Rattle.move_rules.specs.Places.{TokenTree, place_of}
use Rattle.move_rules.specs.Table.{facing}
use Rattle.move_rules.specs.Views.{numbered}
use Rattle.interleave_core.specs.declared.stepped.Stepped.{Stepped}
use Rattle.interleave_core.specs.declared.stepped.Stepped.TheVariants.{Went, Forked, Kept, Joined, Answered}
use Rattle.interleave_laws.specs.Maps.{MapState}
use Rattle.walk_text.specs.Lines.{then_word, val_text, token_text, came, fork_text, mover_text}
use Rattle.walk_text.specs.Ports.{above_port, below_port, comes_by, leaves_by}

-- ---- tokens

-- a question's or an answer's first word
abbrev pub kind_text : Kind → List ℕ
kind_text Ask = codes "?"
kind_text (Ans v) = val_text v

-- a box stack, whole or cut
abbrev pub boxes_by : Bool → Boxes → List ℕ
boxes_by whole t = if whole then key_text t else boxes_text t

-- both stacks, each behind a space
abbrev pub stacks_behind : Bool → Load → List ℕ
stacks_behind whole s = codes " " ++ then_word (work_text s.work) (boxes_by whole s.boxes)

-- the word for a direction, before a wire
abbrev pub way_text : Bool → List ℕ
way_text up = if up then codes " up " else codes " down "

-- ---- moves

-- a node at which an entry is opened or closed
abbrev pub is_operator : Node → Bool
is_operator (Binary o a b w) = true
is_operator _ = false

-- the port by which a token comes, and the one by which it leaves, by the wire and the direction
abbrev pub in_port : Node → Bool → ℕ → List ℕ
in_port n up w = if up then below_port n w else above_port n w

abbrev pub out_port : Node → Bool → ℕ → List ℕ
out_port n up w = if up then above_port n w else below_port n w

-- the begin of a line, up to the port by which the token came, and a space
abbrev pub line_begin : (k worker ticket : ℕ) → Seen → TokenTree → List ℕ
line_begin k worker ticket s x = mover_text k worker ticket s.at s.node ++ (codes " " ++ (comes_by s.node (place_of x) ++ codes " "))

-- a line is begun: the token is met at its node, the begin is written, and the token's text stands beside it
pub record Begins (net : NetTree) (S : MapState) (k worker ticket : ℕ) (s : Seen) (old new before : List ℕ) : Type 0 where
  pub token : TokenTree
  pub live : get S.tokens ticket ≡ Some token
  pub faces : facing net (place_of token) ≡ Some (numbered s)
  pub text : new ≡ old ++ line_begin k worker ticket s token
  pub before_is : before ≡ token_text (boxes_by (is_operator s.node)) token

-- a text that is kept beside a ticket is that of the ticket's token in the state, its box stack cut
abbrev pub Shows : MapState → Option ℕ → List ℕ → Type 0
Shows S None text = Unit {0}
Shows S (Some i) text = (x : TokenTree) → get S.tokens i ≡ Some x → text ≡ token_text boxes_text x

-- the same of this ticket and its token
abbrev pub IsShown : ℕ → TokenTree → Option ℕ → List ℕ → Type 0
IsShown i x None text = Unit {0}
IsShown i x (Some j) text = (j ≡ i) × (text ≡ token_text boxes_text x)

-- what a token that goes on shows behind the one before, if it is there
abbrev pub onward_text : Node → List ℕ → Option TokenTree → List ℕ
onward_text n before None = []
onward_text n before (Some y) = came (leaves_by n (place_of y)) before (token_text (boxes_by (is_operator n)) y)

-- the new ticket of a fork with its token, if it is there
abbrev pub forked_text : ℕ → Option TokenTree → List ℕ
forked_text ticket None = []
forked_text ticket (Some y) = fork_text ticket y

-- both values at a join
abbrev pub values_text : Val → Val → List ℕ
values_text v w = codes " joined " ++ then_word (val_text v) (val_text w)

-- what a step of a ticket came to, by its name and by the state behind it
abbrev pub told_text : Node → List ℕ → Stepped → MapState → ℕ → List ℕ
told_text n before Went T t = onward_text n before (get T.tokens t)
told_text n before (Forked j) T t = onward_text n before (get T.tokens t) ++ forked_text j (get T.tokens j)
told_text n before Kept T t = came (codes "-") before (codes "kept")
told_text n before (Joined v w) T t = onward_text n before (get T.tokens t) ++ values_text v w
told_text n before (Answered v) T t = came (codes "-") before (codes "answer " ++ val_text v)
