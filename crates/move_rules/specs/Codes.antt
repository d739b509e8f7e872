-- How the logic stores places, tokens and what a `Moved` holds, so that a struct's `impl Model` can have a value with them in it.
-- Each part is stored as a tuple or an option of what it holds, and is read back, so that no code needs a search.
use Rattle.std.specs.Prelude.{◌≡◌, ◌⊎◌, ℕ, List, Option, Some, None, refl}
use Rattle.std.proofs.Common.{inl, inr}
use Rattle.std.specs.Coded.{Coded, code_by, coded_ℕ, coded_list, coded_option, coded×, coded⊎}
use Rattle.pcf_values.specs.declared.val.Val.{Val}
use Rattle.pcf_values.specs.Codes.{val_code}
use Rattle.token_stacks.specs.Signatures.{Work, Boxes}
use Rattle.token_stacks.specs.Codes.{work_code, boxes_code}
use Rattle.move_rules.specs.declared.token.Token.{Token}
use Rattle.move_rules.specs.declared.token.Seen.{Seen}
use Rattle.move_rules.specs.contracts.token.Token as token
use Rattle.move_rules.specs.contracts.token.Seen as seen
use Rattle.move_rules.specs.Places.{Place, up, down, TokenTree, ask, ans}
use Rattle.move_rules.specs.Walks.{Passage}

-- a wire with both stacks
abbrev pub Stand : Type 0
Stand = ℕ × (Work × Boxes)

-- a place as its direction with what stands there, and back
abbrev pub place_parts : Place → Stand ⊎ Stand
place_parts (up w m t) = inl (w, (m, t))
place_parts (down w m t) = inr (w, (m, t))

abbrev pub parts_place : Stand ⊎ Stand → Place
parts_place (inl p) = up p.0 p.1.0 p.1.1
parts_place (inr p) = down p.0 p.1.0 p.1.1

pub place_back : (p : Place) → parts_place (place_parts p) ≡ p
place_back (up w m t) = refl
place_back (down w m t) = refl

abbrev pub stand_code : Coded Stand
stand_code = coded× coded_ℕ (coded× work_code boxes_code)

abbrev pub place_code : Coded Place
place_code = code_by (Stand ⊎ Stand) (coded⊎ stand_code stand_code) place_parts parts_place place_back

-- a token as its place with the value that it brings, where it brings one, and back
abbrev pub token_parts : TokenTree → Option Val × Place
token_parts (ask p) = (None, p)
token_parts (ans v p) = (Some v, p)

abbrev pub parts_token : Option Val × Place → TokenTree
parts_token (None, p) = ask p
parts_token (Some v, p) = ans v p

pub token_back : (x : TokenTree) → parts_token (token_parts x) ≡ x
token_back (ask p) = refl
token_back (ans v p) = refl

abbrev pub token_code : Coded TokenTree
token_code = code_by (Option Val × Place) (coded× (coded_option val_code) place_code) token_parts parts_token token_back

-- the tokens before and after a walk, and its trail
abbrev pub passage_code : Coded Passage
passage_code =
    code_by (Token × (Token × List Seen)) (coded× token.the_row.coded (coded× token.the_row.coded (coded_list seen.the_row.coded)))
    (λ m. (m.before, (m.after, m.trail))) (λ q. record { before = q.0; after = q.1.0; trail = q.1.1 }) (λ _. refl)
