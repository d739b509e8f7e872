-- Bytes list one net, and so they have one answer; what is listed is accepted.
use Rattle.std.proofs.Common.{◌≡◌, ℕ, zero, suc, ◌-◌, ◌<◌, ◌≤◌, List, [], ◌∷◌, ◌++◌, length, take, Ok, Err, refl, sym, ap, ◌∙◌, subst, inl}
use Rattle.std.proofs.Common.{inr, arith}
use Rattle.std.specs.Prelude.{Result, MatchResult}
use Rattle.std.proofs.lemmas.Bool.{cases_eq, cases_lt}
use Rattle.pcf_values.specs.Terms.{TyTree, TermTree}
use Rattle.net_build.specs.Nets.{NetTree}
use Rattle.net_build.specs.NetOf.{net_of}
use Rattle.net_build.specs.Sound.{Sound}
use Rattle.net_build.proofs.Built.{built_sound}
use Rattle.net_check.specs.declared.fault.NetFault.{NetFault}
use Rattle.net_check.specs.Faults.{FirstFault}
use Rattle.net_check.specs.Laws.{NoFault, OneFault}
use Rattle.net_terms.specs.Limits.{most_term_height}
use Rattle.net_terms.specs.OfTerm.{IsNetOf}
use Rattle.net_terms.proofs.Complete.{one_term}
use Rattle.net_text.specs.declared.fault.NetTextFault.{NetTextFault}
use Rattle.net_text.specs.declared.fault.NetTextFault.TheVariants.{NoMemory, BadLine, NotSound, NotOfTerm, TooLong}
use Rattle.net_text.specs.Accepted.{Accepts, ListsProgram}
use Rattle.net_text.specs.Laws.{OneAnswer}
use Rattle.net_text.specs.FirstFault.{net_of_lines}
use Rattle.net_text.specs.Limits.{most_text_bytes, most_type_height}
use Rattle.net_text.specs.Listing.{listing}
use Rattle.text_lines.specs.Lines.{lines}
use Rattle.net_text.specs.NetText.{Begins, FirstBad, NetFits, TextOf, listing_lines}
use Rattle.net_text.specs.Steps.{AcceptsNet, NetOfText, Sorted}
use Rattle.net_text.proofs.Listed.{listing_read, same_net}
use Rattle.net_text.proofs.SmallNets.{fit_types, listing_long, term_net_fits}
use Rattle.net_text.proofs.Splitting.{listing_split}

-- the lines of a text
abbrev Lines : Type 0
Lines = List (List ℕ)

-- the lines of a text that lists a net
text_lines : (h : ℕ) (bytes : List ℕ) (net : NetTree) → length bytes ≤ most_text_bytes → NetFits h net → bytes ≡ listing net
    → lines bytes ≡ listing_lines net
text_lines h bytes net u f e =
    let (p, q) = listing_long net in
    let l : length bytes ≡ length (listing net) = ap length e in
    ap lines e ∙ listing_split h net f (omega (arith, p, l, u)) (omega (arith, q, l, u))

-- bytes are the listing of one net, whatever the bound on types
one_net : (h : ℕ) (bytes : List ℕ) (a b : NetTree) → length bytes ≤ most_text_bytes → NetFits h a → NetFits h b → bytes ≡ listing a
    → bytes ≡ listing b → a ≡ b
one_net h bytes a b u f g p q =
    same_net a b (sym (listing_read h a f) ∙ ap (net_of_lines h) (sym (text_lines h bytes a u f p) ∙ text_lines h bytes b u g q)
    ∙ listing_read h b g)

-- Bytes list one net.
pub one_text : (bytes : List ℕ) (a b : NetTree) → TextOf bytes a → TextOf bytes b → a ≡ b
one_text bytes a b s t = one_net most_type_height bytes a b s.short s.fits t.fits s.is t.is

-- the first lines are the beginning of them
record Front (i : ℕ) (ls whole : Lines) : Type 0 where
  rest : Lines
  are : whole ≡ take i ls ++ rest

-- fewer lines are the front of more
front_of_front : (i j : ℕ) (ls : Lines) → i ≤ j → Front i ls (take j ls)
front_of_front zero j ls h = record { rest = take j ls; are = refl }
front_of_front (suc i) zero ls h = absurd (omega (arith, h))
front_of_front (suc i) (suc j) [] h = record { rest = []; are = refl }
front_of_front (suc i) (suc j) (l ∷ ls) h = let f = front_of_front i j ls (omega (arith, h)) in record {
  rest = f.rest;
  are = ap (λ t. l ∷ t) f.are;
}

-- lines are in front of those behind them
front_of_all : (i : ℕ) (ls : Lines) → Front i ls ls
front_of_all zero ls = record { rest = ls; are = refl }
front_of_all (suc i) [] = record { rest = []; are = refl }
front_of_all (suc i) (l ∷ ls) = let f = front_of_all i ls in record { rest = f.rest; are = ap (λ t. l ∷ t) f.are }

-- with some lines, fewer of them begin a listing
fewer_begin : (h i j : ℕ) (ls : Lines) → i ≤ j → Begins h (take j ls) → Begins h (take i ls)
fewer_begin h i j ls l b =
    let f = front_of_front i j ls l in
    record {
      net = b.net;
      more = f.rest ++ b.more;
      fits = b.fits;
      lines_are = b.lines_are ∙ ap (λ t. t ++ b.more) f.are ∙ apart (take i ls) f.rest b.more;
    }
  where
    apart : (a b c : Lines) → (a ++ b) ++ c ≡ a ++ (b ++ c)
    apart [] b c = refl
    apart (x ∷ a) b c = ap (λ t. x ∷ t) (apart a b c)

-- no line before the first bad one is bad
earlier_bad : (h n m : ℕ) (ls : Lines) → n < m → FirstBad h n ls → FirstBad h m ls → ⊥
earlier_bad h n m ls l a b = a.there (omega (arith, l, b.last)) (fewer_begin h n (m - 1) ls (omega (arith, l)) b.before)

-- There is one first bad line.
pub one_bad : (h n m : ℕ) (ls : Lines) → FirstBad h n ls → FirstBad h m ls → n ≡ m
one_bad h n m ls a b =
    elim (cases_lt n m) [
      | inl l ↦ absurd (earlier_bad h n m ls l a b)
      | inr l ↦ elim (cases_eq n m) [ inl e ↦ e | inr e ↦ absurd (earlier_bad h m n ls (omega (arith, l, e)) b a) ]
    ]

-- the lines of a listing have no bad one
lines_not_bad : (h n : ℕ) (net : NetTree) (ls : Lines) → NetFits h net → listing_lines net ≡ ls → FirstBad h n ls → ⊥
lines_not_bad h n net ls f e b =
    elim (cases_lt (length ls) n) [
      | inl l ↦ b.behind (omega (arith, l, b.last)) net f e
      | inr l ↦ let p = front_of_all n ls in b.there l (record { net = net; more = p.rest; fits = f; lines_are = e ∙ p.are })
    ]

-- a listing has no bad line
pub not_bad : (n : ℕ) (bytes : List ℕ) (net : NetTree) → TextOf bytes net → FirstBad most_type_height n (lines bytes) → ⊥
not_bad n bytes net t b =
    lines_not_bad most_type_height n net (lines bytes) t.fits (sym (text_lines most_type_height bytes net t.short t.fits t.is)) b

-- a listing is read
pub read_listed : (bytes : List ℕ) (net : NetTree) (r : Result NetTree NetTextFault) → NetOfText bytes r → TextOf bytes net
    → MatchResult r (λ n. n ≡ net) (λ e. e ≡ NoMemory)
read_listed bytes net (Ok a) s t = one_text bytes a net s t
read_listed bytes net (Err NoMemory) s t = refl
read_listed bytes net (Err TooLong) s t = absurd (omega (arith, s, t.short))
read_listed bytes net (Err (BadLine n)) s t = absurd (not_bad n bytes net t s.1)
read_listed bytes net (Err (NotSound f)) s t = absurd s
read_listed bytes net (Err NotOfTerm) s t = absurd s

-- what a program's listing lists
pub program_text : (bytes : List ℕ) (m : TermTree) → ListsProgram bytes m → TextOf bytes (net_of m)
program_text bytes m l =
    let (p, q) = listing_long (net_of m) in
    let k : length bytes ≡ length (listing (net_of m)) = ap length l.is in
    record {
      short = l.short;
      fits = term_net_fits most_type_height m l.typed (omega (arith, l.within)) l.types (omega (arith, p, k, l.short));
      is = l.is;
    }

-- what lists a term's net lists that program
program_is : (bytes : List ℕ) (net : NetTree) (m : TermTree) → TextOf bytes net → IsNetOf most_term_height net m → ListsProgram bytes m
program_is bytes net m t i =
    let u : TextOf bytes (net_of m) = subst (TextOf bytes) (sym i.net_is) t in
    record { typed = i.typed; within = i.within; types = fit_types most_type_height (net_of m) u.fits; short = u.short; is = u.is }

-- a fault of the text is one of the whole
pub fault_first : (bytes : List ℕ) (e : NetTextFault) → NetOfText bytes (Err e) → Accepts bytes (Err e)
fault_first bytes NoMemory h = tt
fault_first bytes TooLong h = h
fault_first bytes (BadLine n) h = h
fault_first bytes (NotSound f) h = absurd h
fault_first bytes NotOfTerm h = absurd h

-- what is found of the net that the bytes list, is found of the bytes
pub sorted_accepts : (bytes : List ℕ) (net : NetTree) (r : Result (TermTree × TyTree) NetTextFault) → TextOf bytes net → Sorted net r
    → Accepts bytes r
sorted_accepts bytes net (Ok p) t s = (program_is bytes net p.0 t s.0, s.1)
sorted_accepts bytes net (Err NoMemory) t s = tt
sorted_accepts bytes net (Err (NotSound f)) t s = (net, t, s)
sorted_accepts bytes net (Err NotOfTerm) t s = (net, t, s.0, s.1)
sorted_accepts bytes net (Err (BadLine n)) t s = absurd s
sorted_accepts bytes net (Err TooLong) t s = absurd s

-- The same of a program with the net.
pub sorted_with_net : (bytes : List ℕ) (net : NetTree) (p : TermTree × TyTree) → TextOf bytes net → Sorted net (Ok p)
    → AcceptsNet bytes (Ok (p, net))
sorted_with_net bytes net p t s = (sorted_accepts bytes net (Ok p) t s, sym s.0.net_is)

-- the net that is read is the program's
is_net_of : (bytes : List ℕ) (net : NetTree) (m : TermTree) → TextOf bytes net → ListsProgram bytes m → IsNetOf most_term_height net m
is_net_of bytes net m t l = record { typed = l.typed; within = l.within; net_is = one_text bytes (net_of m) net (program_text bytes m l) t }

-- a net is that of one term
one_program : (h : ℕ) (net : NetTree) (m l : TermTree) → IsNetOf h net m → IsNetOf h net l → m ≡ l
one_program h net m l i k = one_term m l i.typed k.typed (i.net_is ∙ sym k.net_is)

-- a program's net has no fault
not_sound : NoFault → (net : NetTree) (m : TermTree) (f : NetFault) → IsNetOf most_term_height net m → FirstFault net f → ⊥
not_sound law net m f i k = law net f k (subst Sound i.net_is (built_sound m i.typed))

-- a program that is listed is accepted
pub sorted_takes : NoFault → (bytes : List ℕ) (net : NetTree) (r : Result (TermTree × TyTree) NetTextFault) (m : TermTree)
    → TextOf bytes net → Sorted net r → ListsProgram bytes m → MatchResult r (λ p. p.0 ≡ m) (λ e. e ≡ NoMemory)
sorted_takes law bytes net (Ok p) m t s l = one_program most_term_height net p.0 m s.0 (is_net_of bytes net m t l)
sorted_takes law bytes net (Err NoMemory) m t s l = refl
sorted_takes law bytes net (Err (NotSound f)) m t s l = absurd (not_sound law net m f (is_net_of bytes net m t l) s)
sorted_takes law bytes net (Err NotOfTerm) m t s l = absurd (s.1 m (is_net_of bytes net m t l))
sorted_takes law bytes net (Err (BadLine n)) m t s l = absurd s
sorted_takes law bytes net (Err TooLong) m t s l = absurd s

-- what an acceptance answers
abbrev ProgramOrFault : Type 0
ProgramOrFault = Result (TermTree × TyTree) NetTextFault

-- the same of bytes that are seen as accepted in two ways
pub same_program : (bytes : List ℕ) (m l : TermTree) → ListsProgram bytes m → ListsProgram bytes l → m ≡ l
same_program bytes m l a b =
    one_term m l a.typed b.typed (one_text bytes (net_of m) (net_of l) (program_text bytes m a) (program_text bytes l b))

-- Bytes have one answer.
pub one_answer : OneFault → NoFault → OneAnswer
one_answer one none bytes (Err NoMemory) s p q n k = absurd (n refl)
one_answer one none bytes (Ok a) (Err NoMemory) p q n k = absurd (k refl)
one_answer one none bytes (Ok a) (Ok b) p q n k = λ i. Ok (same_program bytes a.0 b.0 p.0 q.0 i, (p.1 ∙ sym q.1) i)
one_answer one none bytes (Ok a) (Err TooLong) p q n k = absurd (omega (arith, p.0.short, q))
one_answer one none bytes (Ok a) (Err (BadLine j)) p q n k = absurd (not_bad j bytes (net_of a.0) (program_text bytes a.0 p.0) q.1)
one_answer one none bytes (Ok a) (Err (NotSound f)) p q n k = absurd (not_sound none q.0 a.0 f (is_net_of bytes q.0 a.0 q.1 p.0) q.2)
one_answer one none bytes (Ok a) (Err NotOfTerm) p q n k = absurd (q.3 a.0 (is_net_of bytes q.0 a.0 q.1 p.0))
one_answer one none bytes (Err TooLong) (Ok b) p q n k = absurd (omega (arith, q.0.short, p))
one_answer one none bytes (Err TooLong) (Err NoMemory) p q n k = absurd (k refl)
one_answer one none bytes (Err TooLong) (Err TooLong) p q n k = refl
one_answer one none bytes (Err TooLong) (Err (BadLine j)) p q n k = absurd (omega (arith, p, q.0))
one_answer one none bytes (Err TooLong) (Err (NotSound f)) p q n k = absurd (omega (arith, p, q.1.short))
one_answer one none bytes (Err TooLong) (Err NotOfTerm) p q n k = absurd (omega (arith, p, q.1.short))
one_answer one none bytes (Err (BadLine i)) (Ok b) p q n k = absurd (not_bad i bytes (net_of b.0) (program_text bytes b.0 q.0) p.1)
one_answer one none bytes (Err (BadLine i)) (Err NoMemory) p q n k = absurd (k refl)
one_answer one none bytes (Err (BadLine i)) (Err TooLong) p q n k = absurd (omega (arith, p.0, q))
one_answer one none bytes (Err (BadLine i)) (Err (BadLine j)) p q n k =
    ap (λ x. Err (BadLine x)) (one_bad most_type_height i j (lines bytes) p.1 q.1)
one_answer one none bytes (Err (BadLine i)) (Err (NotSound f)) p q n k = absurd (not_bad i bytes q.0 q.1 p.1)
one_answer one none bytes (Err (BadLine i)) (Err NotOfTerm) p q n k = absurd (not_bad i bytes q.0 q.1 p.1)
one_answer one none bytes (Err (NotSound f)) (Ok b) p q n k = absurd (not_sound none p.0 b.0 f (is_net_of bytes p.0 b.0 p.1 q.0) p.2)
one_answer one none bytes (Err (NotSound f)) (Err NoMemory) p q n k = absurd (k refl)
one_answer one none bytes (Err (NotSound f)) (Err TooLong) p q n k = absurd (omega (arith, q, p.1.short))
one_answer one none bytes (Err (NotSound f)) (Err (BadLine j)) p q n k = absurd (not_bad j bytes p.0 p.1 q.1)
one_answer one none bytes (Err (NotSound f)) (Err (NotSound g)) p q n k =
    ap (λ x. Err (NotSound x)) (one p.0 f g p.2 (subst (λ net. FirstFault net g) (one_text bytes q.0 p.0 q.1 p.1) q.2))
one_answer one none bytes (Err (NotSound f)) (Err NotOfTerm) p q n k =
    absurd (none p.0 f p.2 (subst Sound (one_text bytes q.0 p.0 q.1 p.1) q.2))
one_answer one none bytes (Err NotOfTerm) (Ok b) p q n k = absurd (p.3 b.0 (is_net_of bytes p.0 b.0 p.1 q.0))
one_answer one none bytes (Err NotOfTerm) (Err NoMemory) p q n k = absurd (k refl)
one_answer one none bytes (Err NotOfTerm) (Err TooLong) p q n k = absurd (omega (arith, q, p.1.short))
one_answer one none bytes (Err NotOfTerm) (Err (BadLine j)) p q n k = absurd (not_bad j bytes p.0 p.1 q.1)
one_answer one none bytes (Err NotOfTerm) (Err (NotSound g)) p q n k =
    absurd (none q.0 g q.2 (subst Sound (one_text bytes p.0 q.0 p.1 q.1) p.2))
one_answer one none bytes (Err NotOfTerm) (Err NotOfTerm) p q n k = refl
