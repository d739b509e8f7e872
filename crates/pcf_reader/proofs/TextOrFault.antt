-- Each list of bytes stands for a tree or has a first fault.
-- Bytes are too long or not; those that aren't are text, or stop being text behind their longest prefix that is; and of a text the scan
-- of its tokens answers, since the tokens end.
use Rattle.std.proofs.Common.{◌≡◌, ◌⊎◌, inl, inr, ℕ, zero, suc, ◌<◌, ◌≤◌, true, false, List, [], length, take, Ok}
use Rattle.std.proofs.Common.{Err, refl, sym, ◌∙◌, subst, arith, take_all, true≢false}
use Rattle.std.specs.Str.{IsUtf8, IsValidUpTo, chars, is_utf8}
use Rattle.std.proofs.lemmas.Bool.{cases_Bool, cases_lt}
use Rattle.std.proofs.lemmas.Str.{IsUtf8-from_is_utf8, is_utf8-from_IsUtf8}
use Rattle.pcf_values.specs.Most.{most_program_bytes}
use Rattle.pcf_values.specs.Named.{NamedTree}
use Rattle.pcf_reader.specs.Machine.{want_expr, whole}
use Rattle.pcf_reader.specs.Lexing.{lex, idle}
use Rattle.pcf_reader.specs.Scan.{TreeOrFault, scan}
use Rattle.pcf_reader.specs.Correct.{Text, FirstFault}
use Rattle.pcf_reader.specs.declared.fault.ReadFault.{ReadFault}
use Rattle.pcf_reader.specs.declared.fault.ReadFault.TheVariants.{NoMemory, NotText, BadToken, NumberTooWide, Unexpected, TooDeep, TooLarge}
use Rattle.pcf_reader.specs.declared.fault.ReadFault.TheVariants.{TooLong}
use Rattle.pcf_reader.proofs.Ended.{IsAnswer, ended_answers}
use Rattle.pcf_reader.proofs.Splitting.{tokens_end, text_read, text_fault}

-- the longest prefix that is text, among those of at most m bytes
abbrev Longest : List ℕ → ℕ → Type 0
Longest bytes m = (n : ℕ) × (n ≤ m) × IsUtf8 (take n bytes) × ((k : ℕ) → n < k → k ≤ m → IsUtf8 (take k bytes) → ⊥)

-- a prefix that fails the test is no text
not_front : (bytes : List ℕ) (k m : ℕ) → k ≡ m → is_utf8 (take m bytes) ≡ false → IsUtf8 (take k bytes) → ⊥
not_front bytes k m same failed u = true≢false (sym (is_utf8-from_IsUtf8 (take m bytes) (subst (λ n. IsUtf8 (take n bytes)) same u)) ∙
    failed)

-- with one byte more
one_more : (bytes : List ℕ) (m : ℕ) → Longest bytes m
    → (is_utf8 (take (suc m) bytes) ≡ true) ⊎ (is_utf8 (take (suc m) bytes) ≡ false) → Longest bytes (suc m)
one_more bytes m (n, low, front, longest) (inl passed) =
    (suc m, omega arith, IsUtf8-from_is_utf8 (take (suc m) bytes) passed, λ k above within u. absurd (omega arith))
one_more bytes m (n, low, front, longest) (inr failed) = (n, omega arith, front, λ k above within u. go k above within u (cases_lt m k))
  where
    go : (k : ℕ) → n < k → k ≤ suc m → IsUtf8 (take k bytes) → (m < k) ⊎ (k ≤ m) → ⊥
    go k above within u (inl top) = not_front bytes k (suc m) (omega arith) failed u
    go k above within u (inr below) = longest k above below u

-- of any number of bytes
longest_front : (bytes : List ℕ) (m : ℕ) → Longest bytes m
longest_front bytes zero = (0, omega arith, ([], (refl, refl)), λ k above within u. absurd (omega arith))
longest_front bytes (suc m) = one_more bytes m (longest_front bytes m) (cases_Bool (is_utf8 (take (suc m) bytes)))

-- what is no text stops being one somewhere
stops : (bytes : List ℕ) → (IsUtf8 bytes → ⊥) → (n : ℕ) × IsValidUpTo bytes n
stops bytes never = go (longest_front bytes (length bytes))
  where
    not_all : (n : ℕ) → IsUtf8 (take n bytes) → length bytes ≤ n → ⊥
    not_all n u all = never (subst (λ z. IsUtf8 z) (take_all n bytes all) u)

    short : (n : ℕ) → IsUtf8 (take n bytes) → (n < length bytes) ⊎ (length bytes ≤ n) → n < length bytes
    short n u (inl h) = h
    short n u (inr h) = absurd (not_all n u h)

    longer : (n : ℕ) → ((k : ℕ) → n < k → k ≤ length bytes → IsUtf8 (take k bytes) → ⊥) → (k : ℕ) → n < k →
        IsUtf8 (take k bytes) → (length bytes < k) ⊎ (k ≤ length bytes) → ⊥
    longer n longest k above u (inl past) = not_all k u (omega arith)
    longer n longest k above u (inr within) = longest k above within u

    go : Longest bytes (length bytes) → (n : ℕ) × IsValidUpTo bytes n
    go (n, low, front, longest) = (
      n,
      record {
        short = short n front (cases_lt n (length bytes));
        front = front;
        longest = λ k above u. longer n longest k above u (cases_lt (length bytes) k);
      },
    )

-- the law, of some bytes
abbrev pub Either : List ℕ → Type 0
Either bytes = ((t : NamedTree) × Text bytes t) ⊎ ((f : ReadFault) × FirstFault bytes f)

-- what the scan of a text's tokens answers
answered : (bytes : List ℕ) → length bytes ≤ most_program_bytes → IsUtf8 bytes → (a : TreeOrFault) →
    scan (lex (chars bytes) 0 idle) (want_expr whole) 0 ≡ a → IsAnswer a → Either bytes
answered bytes n u (Ok t) e h = inl (t, text_read bytes n u t e)
answered bytes n u (Err NoMemory) e h = absurd h
answered bytes n u (Err (NotText at)) e h = inr (NotText at, text_fault bytes n u (NotText at) e)
answered bytes n u (Err (BadToken at)) e h = inr (BadToken at, text_fault bytes n u (BadToken at) e)
answered bytes n u (Err (NumberTooWide at)) e h = inr (NumberTooWide at, text_fault bytes n u (NumberTooWide at) e)
answered bytes n u (Err (Unexpected at)) e h = inr (Unexpected at, text_fault bytes n u (Unexpected at) e)
answered bytes n u (Err (TooDeep at)) e h = inr (TooDeep at, text_fault bytes n u (TooDeep at) e)
answered bytes n u (Err (TooLarge at)) e h = inr (TooLarge at, text_fault bytes n u (TooLarge at) e)
answered bytes n u (Err TooLong) e h = inr (TooLong, text_fault bytes n u TooLong e)

-- bytes that aren't too long
of_short : (bytes : List ℕ) → length bytes ≤ most_program_bytes → (is_utf8 bytes ≡ true) ⊎ (is_utf8 bytes ≡ false) →
    Either bytes
of_short bytes n (inl passed) =
    let u : IsUtf8 bytes = IsUtf8-from_is_utf8 bytes passed in
    answered bytes n u (scan (lex (chars bytes) 0 idle) (want_expr whole) 0) refl
    (ended_answers (lex (chars bytes) 0 idle) (want_expr whole) 0 (tokens_end bytes n u))
of_short bytes n (inr failed) =
    let none : IsUtf8 bytes → ⊥ = λ u. true≢false (sym (is_utf8-from_IsUtf8 bytes u) ∙ failed) in
    let (at, valid) = stops bytes none in
    inr (NotText at, (n, none, valid))

-- bytes that are too long, and others
of_length : (bytes : List ℕ) → (most_program_bytes < length bytes) ⊎ (length bytes ≤ most_program_bytes) → Either bytes
of_length bytes (inl long) = inr (TooLong, long)
of_length bytes (inr short) = of_short bytes short (cases_Bool (is_utf8 bytes))

-- and so all bytes
pub text_or_fault : (bytes : List ℕ) → Either bytes
text_or_fault bytes = of_length bytes (cases_lt most_program_bytes (length bytes))
