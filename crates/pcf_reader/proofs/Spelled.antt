-- Signs and words, one by one: what holds of each of them holds of the token that a character or a word is.
use Rattle.std.proofs.Common.{◌≡◌, ℕ, List, [], ◌∷◌, Some, sym, subst}
use Rattle.std.specs.Prelude.{◌==◌}
use Rattle.std.specs.Str.{bytes_eq}
use Rattle.std.proofs.lemmas.Bool.{cond_both, eqb-true}
use Rattle.pcf_values.specs.declared.operator.Operator.{Operator}
use Rattle.pcf_values.specs.Named.{the_fun, the_fix, the_succ, the_pred, the_part}
use Rattle.pcf_values.specs.declared.side.Side.{Side}
use Rattle.pcf_reader.specs.Tokens.{Token, Open, Close, Colon, Dot, Comma, Sign, Ifz, Then, Else, Nat, Bind, Before, Name}
use Rattle.pcf_reader.specs.Spelling.{signs, sign_in, sign_of, keywords, word_in, word_of}

-- what holds of each row of a table of signs
abbrev pub Signs : (ℕ → Token → Type 0) → List (ℕ × Token) → Type 0
Signs Q [] = Unit {0}
Signs Q (s ∷ ss) = Q s.0 s.1 × Signs Q ss

token_is : (P : Token → Type 0) (x y : Token) → Some x ≡ Some y → P x → P y
token_is P x y e h = let is : x ≡ y = cc in subst P is h

-- it holds of what is found there
in_signs : (Q : ℕ → Token → Type 0) (ss : List (ℕ × Token)) (c : ℕ) (x : Token) → Signs Q ss → sign_in ss c ≡ Some x → Q c x
in_signs Q [] c x h e = cc
in_signs Q (s ∷ ss) c x h e =
    cond_both (c == s.0) (Some s.1) (sign_in ss c) (λ r. r ≡ Some x → Q c x)
    (λ q k. token_is (λ y. Q c y) s.1 x k (subst (λ n. Q n s.1) (sym (eqb-true c s.0 q)) h.0)) (λ _. in_signs Q ss c x h.1) e

-- what holds of each sign's character
pub sign_char : (P : ℕ → Type 0) (c : ℕ) (x : Token) → P 40 → P 41 → P 58 → P 46 → P 44 → P 43 → P 45 → P 42 →
    sign_of c ≡ Some x → P c
sign_char P c x p1 p2 p3 p4 p5 p6 p7 p8 = in_signs (λ n _. P n) signs c x (p1, (p2, (p3, (p4, (p5, (p6, (p7, (p8, tt))))))))

-- what holds of each sign's token
pub sign_token : (P : Token → Type 0) (c : ℕ) (x : Token) → P Open → P Close → P Colon → P Dot → P Comma → ((o : Operator) → P (Sign o)) →
    sign_of c ≡ Some x → P x
sign_token P c x p1 p2 p3 p4 p5 p = in_signs (λ _ y. P y) signs c x (p1, (p2, (p3, (p4, (p5, (p _, (p _, (p _, tt))))))))

-- what holds of each row of a table of words
abbrev Words : (Token → Type 0) → List (List ℕ × Token) → Type 0
Words P [] = Unit {0}
Words P (k ∷ ks) = P k.1 × Words P ks

in_words : (P : Token → Type 0) (ks : List (List ℕ × Token)) (w : List ℕ) → Words P ks → P (Name w) → P (word_in ks w)
in_words P [] w h n = n
in_words P (k ∷ ks) w h n = cond_both (bytes_eq w k.0) k.1 (word_in ks w) P (λ _. h.0) (λ _. in_words P ks w h.1 n)

-- what holds of each keyword and of the name
pub word_token : (P : Token → Type 0) (w : List ℕ)
    → P (Bind the_fun) → P (Bind the_fix) → P Ifz → P Then → P Else → P (Before the_succ) → P (Before the_pred) →
    ((s : Side) → P (Before (the_part s))) → P Nat → P (Name w) → P (word_of w)
unfolding word_of
word_token P w a b c d e f g h j k = in_words P keywords w (a, (b, (c, (d, (e, (f, (g, (h _, (h _, (j, tt)))))))))) k
