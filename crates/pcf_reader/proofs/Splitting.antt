-- The machine over characters finds the split of a text.
use Rattle.std.proofs.Common.{◌≡◌, ◌⊎◌, inl, inr, ◌<◌, ℕ, ◌≤◌, List, [], ◌++◌, Result, Ok, Err, length, refl}
use Rattle.std.proofs.Common.{sym, ap, ◌∙◌, subst, append-nil, arith}
use Rattle.std.specs.Prelude.{IfOk, IfErr, MatchResult}
use Rattle.std.specs.Str.{IsValidUpTo, chars, IsUtf8}
use Rattle.std.proofs.lemmas.Str.{chars-encodes}
use Rattle.pcf_values.specs.Most.{most_program_bytes}
use Rattle.pcf_values.specs.Named.{NamedTree}
use Rattle.pcf_reader.specs.Tokens.{Placed}
use Rattle.pcf_reader.specs.Machine.{want_expr, whole}
use Rattle.pcf_reader.specs.Spelling.{Splits}
use Rattle.pcf_reader.specs.Lexing.{lex, idle}
use Rattle.pcf_reader.specs.Text.{Derives, IsFirstFault}
use Rattle.pcf_reader.specs.Scan.{scan}
use Rattle.pcf_reader.specs.Correct.{FirstFault, HasTokens, Text, TokenFault}
use Rattle.pcf_reader.specs.Answered.{Faults, IsOnlyFault}
use Rattle.pcf_reader.specs.declared.fault.ReadFault.{ReadFault}
use Rattle.pcf_reader.specs.declared.fault.ReadFault.TheVariants.{NoMemory, NotText, BadToken, NumberTooWide, Unexpected, TooDeep, TooLarge}
use Rattle.pcf_reader.specs.declared.fault.ReadFault.TheVariants.{TooLong}
use Rattle.pcf_reader.specs.Rest.{Fails, Gives}
use Rattle.pcf_values.specs.Views.{named_of}
use Rattle.pcf_values.specs.declared.named.Named.{Named}
use Rattle.pcf_reader.proofs.Judge.{Judged, IsFault, scan_judged}
use Rattle.pcf_reader.proofs.Whole.{derives_scan}
use Rattle.pcf_reader.proofs.First.{one_fault, tree_or_fault, ranks_are}
use Rattle.pcf_reader.proofs.Lexed.{lexed}
use Rattle.pcf_reader.proofs.Unique.{splits_lex}
use Rattle.pcf_reader.proofs.Ended.{Ended, splits_ended, program_is_all}

-- the bytes of a text have the tokens that the machine finds
tokens : (bytes : List ℕ) → length bytes ≤ most_program_bytes → (u : IsUtf8 bytes) → HasTokens bytes (lex (chars bytes) 0 idle)
tokens bytes n u = record {
  short = n;
  characters = u.0;
  scalars = u.1.0;
  encoded = u.1.1;
  splits = subst (λ z. Splits 0 u.0 (lex z 0 idle)) (sym (ap chars (sym u.1.1) ∙ chars-encodes u.0 u.1.0)) ((lexed u.0).idles 0);
}

-- and no others
same_tokens : (bytes : List ℕ) (items : List Placed) → HasTokens bytes items → items ≡ lex (chars bytes) 0 idle
same_tokens bytes items h =
    sym (splits_lex 0 h.characters items h.splits) ∙
    ap (λ z. lex z 0 idle) (sym (ap chars (sym h.encoded) ∙ chars-encodes h.characters h.scalars))

-- which end
pub tokens_end : (bytes : List ℕ) → length bytes ≤ most_program_bytes → (u : IsUtf8 bytes) → Ended (lex (chars bytes) 0 idle)
tokens_end bytes n u = let h : HasTokens bytes (lex (chars bytes) 0 idle) = tokens bytes n u in
    splits_ended 0 h.characters (lex (chars bytes) 0 idle) h.splits

-- What the scan answers of a text.
pub text_read : (bytes : List ℕ) → length bytes ≤ most_program_bytes → IsUtf8 bytes → (t : NamedTree) →
    scan (lex (chars bytes) 0 idle) (want_expr whole) 0 ≡ Ok t → Text bytes t
text_read bytes n u t e =
    let items : List Placed = lex (chars bytes) 0 idle in
    let (front, xs, split, derives) = let j : Judged items (Ok t) = subst (λ r. Judged items r) e (scan_judged items) in j in
    let none : xs ≡ [] = program_is_all front xs t (subst (λ z. Ended z) split (tokens_end bytes n u)) derives in
    (items, tokens bytes n u, subst (λ z. Derives z t) (sym (split ∙ ap (λ z. front ++ z) none ∙ append-nil front)) derives)

-- a text of a tree is read as it
pub text_only : (bytes : List ℕ) (t : NamedTree) → Text bytes t → scan (lex (chars bytes) 0 idle) (want_expr whole) 0 ≡ Ok t
text_only bytes t h = ap (λ z. scan z (want_expr whole) 0) (sym (same_tokens bytes h.0 h.1)) ∙ derives_scan h.0 t h.2

-- the fault of its tokens is that of the bytes
faults_of : (bytes : List ℕ) (items : List Placed) → HasTokens bytes items → (f : ReadFault) → IsFault items f → Faults bytes f
faults_of bytes items h NoMemory k = tt
faults_of bytes items h (NotText at) k = absurd k.here
faults_of bytes items h (BadToken at) k = (items, h, k)
faults_of bytes items h (NumberTooWide at) k = (items, h, k)
faults_of bytes items h (Unexpected at) k = (items, h, k)
faults_of bytes items h (TooDeep at) k = (items, h, k)
faults_of bytes items h (TooLarge at) k = (items, h, k)
faults_of bytes items h TooLong k = absurd k.here

-- what the scan refuses has that fault
pub text_fault : (bytes : List ℕ) → length bytes ≤ most_program_bytes → IsUtf8 bytes → (f : ReadFault) →
    scan (lex (chars bytes) 0 idle) (want_expr whole) 0 ≡ Err f → Faults bytes f
text_fault bytes n u f e =
    let items : List Placed = lex (chars bytes) 0 idle in
    let j : Judged items (Err f) = subst (λ r. Judged items r) e (scan_judged items) in
    faults_of bytes items (tokens bytes n u) f j

-- the answer of a function that gives what the scan answers
pub given_read : (bytes : List ℕ) → length bytes ≤ most_program_bytes → IsUtf8 bytes → (r : Result Named ReadFault)
    → Gives (λ t. Ok (named_of t)) (scan (lex (chars bytes) 0 idle) (want_expr whole) 0) r → IfOk r (λ t. Text bytes (named_of t))
given_read bytes n u (Ok t) h = text_read bytes n u (named_of t) h
given_read bytes n u (Err f) h = tt

-- and so has what a function refuses that fails as the scan does
fails_fault : (bytes : List ℕ) → length bytes ≤ most_program_bytes → IsUtf8 bytes → (f : ReadFault) →
    Fails f (scan (lex (chars bytes) 0 idle) (want_expr whole) 0) → Faults bytes f
fails_fault bytes n u NoMemory h = tt
fails_fault bytes n u (NotText at) h = text_fault bytes n u (NotText at) h
fails_fault bytes n u (BadToken at) h = text_fault bytes n u (BadToken at) h
fails_fault bytes n u (NumberTooWide at) h = text_fault bytes n u (NumberTooWide at) h
fails_fault bytes n u (Unexpected at) h = text_fault bytes n u (Unexpected at) h
fails_fault bytes n u (TooDeep at) h = text_fault bytes n u (TooDeep at) h
fails_fault bytes n u (TooLarge at) h = text_fault bytes n u (TooLarge at) h
fails_fault bytes n u TooLong h = text_fault bytes n u TooLong h

-- a fault that such a function answers
pub given_fault : (bytes : List ℕ) → length bytes ≤ most_program_bytes → IsUtf8 bytes → (r : Result Named ReadFault)
    → Gives (λ t. Ok (named_of t)) (scan (lex (chars bytes) 0 idle) (want_expr whole) 0) r → IfErr r (λ f. Faults bytes f)
given_fault bytes n u (Ok t) h = tt
given_fault bytes n u (Err f) h = fails_fault bytes n u f h

-- What stands for a tree is read as that tree, and a fault is answered, unless memory runs out.
pub given_only : (bytes : List ℕ) (r : Result Named ReadFault) (t : NamedTree) → Text bytes t
    → Gives (λ t. Ok (named_of t)) (scan (lex (chars bytes) 0 idle) (want_expr whole) 0) r →
    MatchResult r (λ u. named_of u ≡ t) (λ f. f ≡ NoMemory)
given_only bytes (Ok u) t h g = let e : Ok (named_of u) ≡ Ok t = sym g ∙ text_only bytes t h in cc
given_only bytes (Err NoMemory) t h g = refl
given_only bytes (Err (NotText at)) t h g = let e : Err (NotText at) ≡ Ok t = sym g ∙ text_only bytes t h in cc
given_only bytes (Err (BadToken at)) t h g = let e : Err (BadToken at) ≡ Ok t = sym g ∙ text_only bytes t h in cc
given_only bytes (Err (NumberTooWide at)) t h g = let e : Err (NumberTooWide at) ≡ Ok t = sym g ∙ text_only bytes t h in cc
given_only bytes (Err (Unexpected at)) t h g = let e : Err (Unexpected at) ≡ Ok t = sym g ∙ text_only bytes t h in cc
given_only bytes (Err (TooDeep at)) t h g = let e : Err (TooDeep at) ≡ Ok t = sym g ∙ text_only bytes t h in cc
given_only bytes (Err (TooLarge at)) t h g = let e : Err (TooLarge at) ≡ Ok t = sym g ∙ text_only bytes t h in cc
given_only bytes (Err TooLong) t h g = let e : Err TooLong ≡ Ok t = sym g ∙ text_only bytes t h in cc

-- a text has one tree
pub one_text : (bytes : List ℕ) (t u : NamedTree) → Text bytes t → Text bytes u → t ≡ u
one_text bytes t u h k = let e : Ok t ≡ Ok u = sym (text_only bytes t h) ∙ text_only bytes u k in cc

-- bytes have one first fault, and none where they stand for a tree
pub token_fault_once : (bytes : List ℕ) (f g : ReadFault) → TokenFault bytes f → TokenFault bytes g → f ≡ g
token_fault_once bytes f g h k =
    let same : k.0 ≡ h.0 = same_tokens bytes k.0 k.1 ∙ sym (same_tokens bytes h.0 h.1) in
    one_fault h.0 f g h.2 (subst (λ z. IsFirstFault z g) same k.2)

-- bytes that stand for a tree have no token with a fault
pub token_fault_only : (bytes : List ℕ) (t : NamedTree) (f : ReadFault) → Text bytes t → TokenFault bytes f → ⊥
token_fault_only bytes t f h k =
    let same : k.0 ≡ h.0 = same_tokens bytes k.0 k.1 ∙ sym (same_tokens bytes h.0 h.1) in
    tree_or_fault h.0 t f h.2 (subst (λ z. IsFirstFault z f) same k.2)

-- what the first fault of bytes can be: they are too long, or no text, or a token has it
abbrev pub Kinds : List ℕ → ReadFault → Type 0
Kinds bytes f =
    ((f ≡ TooLong) × (most_program_bytes < length bytes))
    ⊎ (((at : ℕ) × (f ≡ NotText at) × (length bytes ≤ most_program_bytes) × (IsUtf8 bytes → ⊥) × IsValidUpTo bytes at) ⊎
    TokenFault bytes f)

-- one of these it is
kinds : (bytes : List ℕ) (f : ReadFault) → FirstFault bytes f → Kinds bytes f
kinds bytes TooLong h = inl (refl, h)
kinds bytes (NotText at) h = inr (inl (at, refl, h.0, h.1, h.2))
kinds bytes NoMemory h = absurd h
kinds bytes (BadToken at) h = inr (inr h)
kinds bytes (NumberTooWide at) h = inr (inr h)
kinds bytes (Unexpected at) h = inr (inr h)
kinds bytes (TooDeep at) h = inr (inr h)
kinds bytes (TooLarge at) h = inr (inr h)

-- where a token has the fault the bytes are short, and text
short_text : (bytes : List ℕ) (f : ReadFault) → TokenFault bytes f → length bytes ≤ most_program_bytes
short_text bytes f h = h.1.short

true_text : (bytes : List ℕ) (f : ReadFault) → TokenFault bytes f → IsUtf8 bytes
true_text bytes f h = (h.1.characters, (h.1.scalars, h.1.encoded))

-- bytes stop being text at one place
valid_once : (bytes : List ℕ) (m n : ℕ) → IsValidUpTo bytes m → IsValidUpTo bytes n → m ≡ n
valid_once bytes m n h k = ranks_are m n (λ lt. h.longest n lt k.front) (λ lt. k.longest m lt h.front)

-- bytes have one first fault
pub first_once : (bytes : List ℕ) (f g : ReadFault) → FirstFault bytes f → FirstFault bytes g → f ≡ g
first_once bytes f g h k =
    elim (kinds bytes g k) [
      | inl a ↦
          elim (kinds bytes f h) [
            | inl b ↦ b.0 ∙ sym a.0
            | inr (inl b) ↦ let z : ⊥ = omega (arith, a.1, b.2) in absurd z
            | inr (inr b) ↦ let z : ⊥ = omega (arith, a.1, short_text bytes f b) in absurd z
          ]
      | inr (inl a) ↦
          elim (kinds bytes f h) [
            | inl b ↦ let z : ⊥ = omega (arith, a.2, b.1) in absurd z
            | inr (inl b) ↦ b.1 ∙ ap (λ i. NotText i) (valid_once bytes b.0 a.0 b.4 a.4) ∙ sym a.1
            | inr (inr b) ↦ absurd (a.3 (true_text bytes f b))
          ]
      | inr (inr a) ↦
          elim (kinds bytes f h) [
            | inl b ↦ let z : ⊥ = omega (arith, short_text bytes g a, b.1) in absurd z
            | inr (inl b) ↦ absurd (b.3 (true_text bytes g a))
            | inr (inr b) ↦ sym (token_fault_once bytes g f a b)
          ]
    ]

-- bytes that stand for a tree have no fault
pub text_no_fault : (bytes : List ℕ) (t : NamedTree) (f : ReadFault) → Text bytes t → FirstFault bytes f → ⊥
text_no_fault bytes t f h k =
    elim (kinds bytes f k) [
      | inl b ↦ omega (arith, h.1.short, b.1)
      | inr (inl b) ↦ b.3 (h.1.characters, (h.1.scalars, h.1.encoded))
      | inr (inr b) ↦ token_fault_only bytes t f h b
    ]

-- a fault that may be answered is the first one
only_first : (bytes : List ℕ) (f g : ReadFault) → FirstFault bytes f → Faults bytes g → IsOnlyFault f g
only_first bytes f NoMemory h k = tt
only_first bytes f (NotText at) h k = first_once bytes (NotText at) f k h
only_first bytes f TooLong h k = first_once bytes TooLong f k h
only_first bytes f (BadToken at) h k = first_once bytes (BadToken at) f k h
only_first bytes f (NumberTooWide at) h k = first_once bytes (NumberTooWide at) f k h
only_first bytes f (Unexpected at) h k = first_once bytes (Unexpected at) f k h
only_first bytes f (TooDeep at) h k = first_once bytes (TooDeep at) f k h
only_first bytes f (TooLarge at) h k = first_once bytes (TooLarge at) f k h

-- Bytes with a first fault are refused with that one, unless memory runs out.
pub given_fault_only : (bytes : List ℕ) → length bytes ≤ most_program_bytes → IsUtf8 bytes →
    (r : Result Named ReadFault) (f : ReadFault) → FirstFault bytes f
    → Gives (λ t. Ok (named_of t)) (scan (lex (chars bytes) 0 idle) (want_expr whole) 0) r →
    MatchResult r (λ t. ⊥) (λ g. IsOnlyFault f g)
given_fault_only bytes n u (Ok t) f h g = text_no_fault bytes (named_of t) f (text_read bytes n u (named_of t) g) h
given_fault_only bytes n u (Err e) f h g = only_first bytes f e h (fails_fault bytes n u e g)

-- bytes that are too long have that fault alone
pub too_long_only : (bytes : List ℕ) → most_program_bytes < length bytes → (f : ReadFault) → FirstFault bytes f →
    IsOnlyFault f TooLong
too_long_only bytes h f k = first_once bytes TooLong f h k

-- and short bytes that are no text have theirs
pub no_text_only : (bytes : List ℕ) (at : ℕ) → length bytes ≤ most_program_bytes → (IsUtf8 bytes → ⊥) →
    IsValidUpTo bytes at → (f : ReadFault) → FirstFault bytes f → IsOnlyFault f (NotText at)
no_text_only bytes at n u v f k = first_once bytes (NotText at) f (n, u, v) k
