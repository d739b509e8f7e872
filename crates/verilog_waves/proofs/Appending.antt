-- Texts that are appended one by one.
use Rattle.std.proofs.Common.{◌≡◌, ℕ, zero, suc, ◌+◌, ◌-◌, ◌/◌, ◌%◌, ◌^◌, ◌<◌, ◌≤◌, Bool, true, false, nat_eq, List, [], ◌∷◌, ◌++◌}
use Rattle.std.proofs.Common.{replicate, codes, eq-eqb, ne_eqb, sym, ap, ◌∙◌, arith, append_assoc}
use Rattle.std.proofs.lemmas.List.{append-nil}
use Prim.Native.String.{String}
use Rattle.verilog_tree.specs.Tree.{Item}
use Rattle.verilog_tree.specs.Meaning.{Store, chosen, flag}
use Rattle.verilog_tree.proofs.Texts.{appended}
use Rattle.verilog_waves.specs.Course.{before}
use Rattle.verilog_waves.specs.Dump.{bits_text, digits_text, head_text, start_text, edges_text, dump}
use Rattle.verilog_waves.specs.Shown.{Shown, shown}

-- one `~` more, and one less to come
pub tilde_more : (t u : List ℕ) (k n : ℕ) → n < k → u ≡ t ++ 126 ∷ [] → u ++ replicate (k - (n + 1)) 126 ≡ t ++ replicate (k - n) 126
tilde_more t u k n l e =
    let d : k - n ≡ suc (k - (n + 1)) = omega arith in
    ap (λ v. v ++ replicate (k - (n + 1)) 126) e ∙ append_assoc t (126 ∷ []) (replicate (k - (n + 1)) 126)
    ∙ sym (ap (λ m. t ++ replicate m 126) d)

-- none to come
tildes_done : (t : List ℕ) (k n : ℕ) → k ≤ n → t ++ replicate (k - n) 126 ≡ t
tildes_done t k n l = let d : k - n ≡ zero = omega arith in ap (λ m. t ++ replicate m 126) d ∙ append-nil t

-- one digit more
pub digit_more : (t u : List ℕ) (w d n : ℕ) → 0 < w → d ≡ 48 + n / 2 ^ (w - 1) % 2 → u ≡ t ++ d ∷ [] →
    u ++ bits_text (w - 1) n ≡ t ++ bits_text w n
digit_more t u zero d n l h e = absurd (omega arith)
digit_more t u (suc w) d n l h e =
    let p : suc w - 1 ≡ w = omega arith in
    ap (λ v. v ++ bits_text (suc w - 1) n) (e ∙ ap (λ c. t ++ c ∷ []) h)
    ∙ append_assoc t ((48 + n / 2 ^ (suc w - 1) % 2) ∷ []) (bits_text (suc w - 1) n)
    ∙ ap (λ v. t ++ ((48 + n / 2 ^ v % 2) ∷ bits_text v n)) p

-- a zero in front is left out
pub zero_front : (w n : ℕ) (b : Bool) → 0 < w → flag b ≡ n / 2 ^ (w - 1) % 2 → b ≡ false → digits_text (w - 1) n ≡ digits_text w n
zero_front zero n b l h e = absurd (omega arith)
zero_front (suc w) n b l h e =
    let p : suc w - 1 ≡ w = omega arith in
    let z : n / 2 ^ w % 2 ≡ 0 = sym (ap (λ v. n / 2 ^ v % 2) p) ∙ sym h ∙ ap flag e in
    ap (λ v. digits_text v n) p ∙ sym (ap (λ c. chosen c (digits_text w n) (bits_text (suc w) n)) (eq-eqb (n / 2 ^ w % 2) 0 z))

-- behind the first one all stay
pub one_front : (w n : ℕ) (b : Bool) → 0 < w → flag b ≡ n / 2 ^ (w - 1) % 2 → b ≡ true →
    chosen (nat_eq w 0) (codes "0") (bits_text w n) ≡ digits_text w n
one_front zero n b l h e = absurd (omega arith)
one_front (suc w) n b l h e =
    let p : suc w - 1 ≡ w = omega arith in
    let o : n / 2 ^ w % 2 ≡ 1 = sym (ap (λ v. n / 2 ^ v % 2) p) ∙ sym h ∙ ap flag e in
    ap (λ c. chosen c (codes "0") (bits_text (suc w) n)) (some w)
    ∙ sym (ap (λ c. chosen (nat_eq c 0) (digits_text w n) (bits_text (suc w) n)) o)
  where
    some : (w : ℕ) → nat_eq (suc w) 0 ≡ false
    some w = ne_eqb (suc w) 0 (λ e. absurd (omega arith))

-- five texts, one behind the other
pub appended_five : (t u v w x y a b c d e : List ℕ) → u ≡ t ++ a → v ≡ u ++ b → w ≡ v ++ c → x ≡ w ++ d → y ≡ x ++ e →
    y ≡ t ++ (a ++ (b ++ (c ++ (d ++ e))))
appended_five t u v w x y a b c d e p q r s z = appended t u v y a b (c ++ (d ++ e)) p q (appended v w x y c d e r s z)

-- the dump behind its head
pub run_pushed : (is : List Item) (vs : List Shown) (S : Store) (n : ℕ) (t u v : List ℕ) → S ≡ before is 0 → u ≡ t ++ start_text vs S →
    v ≡ u ++ edges_text vs is n → v ≡ t ++ (start_text vs (before is 0) ++ edges_text vs is n)
run_pushed is vs S n t u v e p q =
    q ∙ ap (λ x. x ++ edges_text vs is n) p ∙ append_assoc t (start_text vs S) (edges_text vs is n)
    ∙ ap (λ T. t ++ (start_text vs T ++ edges_text vs is n)) e

-- the whole dump
pub dump_pushed : (x : String) (is : List Item) (vs : List Shown) (n : ℕ) (t u v : List ℕ) → vs ≡ shown is → u ≡ t ++ head_text x vs →
    v ≡ u ++ (start_text vs (before is 0) ++ edges_text vs is n) → v ≡ t ++ dump x is n
dump_pushed x is vs n t u v e p q =
    q ∙ ap (λ y. y ++ (start_text vs (before is 0) ++ edges_text vs is n)) p
    ∙ append_assoc t (head_text x vs) (start_text vs (before is 0) ++ edges_text vs is n)
    ∙ ap (λ names. t ++ (head_text x names ++ (start_text names (before is 0) ++ edges_text names is n))) e
