-- Bytes are read in one way at most.
use Rattle.std.proofs.Common.{◌≡◌, ◌⊎◌, ℕ, suc, ◌+◌, ◌<◌, ◌≤◌, List, [], ◌∷◌, ◌++◌, length, Result, Ok, Err, refl, sym, ap, ◌∙◌, subst, inl}
use Rattle.std.proofs.Common.{inr, arith}
use Rattle.std.specs.Prelude.{codes}
use Rattle.std.specs.Str.Parse.{digits_value}
use Rattle.text_lines.specs.Lines.{lines, end_line}
use Rattle.text_lines.specs.Digits.{digits_in}
use Rattle.text_lines.specs.Lines.{joined}
use Rattle.text_lines.proofs.Lines.{lines_joined}
use Rattle.text_lines.proofs.Firsts.{first_is, others_are}
use Rattle.text_lines.proofs.Numbers.{digits_first}
use Rattle.batch_lists.specs.declared.fault.BatchFault.{BatchFault}
use Rattle.batch_lists.specs.declared.fault.BatchFault.TheVariants.{NoMemory, TooLong, BadHeader, BadLine, TooMany, NoEnd}
use Rattle.batch_lists.specs.declared.line.BatchLine.{BatchLine}
use Rattle.batch_lists.specs.Limits.{most_jobs, most_list_bytes}
use Rattle.batch_lists.specs.Lists.{list_header, IsJobLine, StandFor, IsNoLine, FaultHere, FirstFault, WholeList, LacksListHeader}
use Rattle.batch_lists.specs.Lists.{ReadAsList}
use Rattle.batch_lists.proofs.ListLine.{job_budget, job_name}

-- the last line is no job's
pub end_no_job : (l : List ℕ) (job : BatchLine) → l ≡ end_line → IsJobLine l job → ⊥
end_no_job l job e x = first_letter (x.digits ++ (codes " " ++ (job.file ++ codes "\n"))) (sym e ∙ x.line)
  where
    first_letter : (t : List ℕ) → codes "end\n" ≡ codes "job " ++ t → ⊥
    first_letter t h = cc

without_feed : (a b : List ℕ) → a ++ codes "\n" ≡ b ++ codes "\n" → a ≡ b
without_feed [] [] h = refl
without_feed [] (y ∷ []) h = absurd cc
without_feed [] (y ∷ z ∷ b) h = absurd cc
without_feed (x ∷ []) [] h = absurd cc
without_feed (x ∷ z ∷ a) [] h = absurd cc
without_feed (x ∷ a) (y ∷ b) h =
    let p : x ≡ y = cc in
    let q : a ++ codes "\n" ≡ b ++ codes "\n" = cc in
    (λ i. p i ∷ without_feed a b q i)

same_job : (j k : BatchLine) → j.budget ≡ k.budget → j.file ≡ k.file → j ≡ k
same_job j k e f = λ i. record { budget = e i; file = f i }

-- a line is one job's at most
pub one_job : (l : List ℕ) (j k : BatchLine) → IsJobLine l j → IsJobLine l k → j ≡ k
one_job l j k x y =
    let rest = x.digits ++ (codes " " ++ (j.file ++ codes "\n")) in
    let bx = job_budget l rest x.line j x in
    let by = job_budget l rest x.line k y in
    let dx : digits_in rest ≡ bx.digits = ap digits_in bx.bytes_are
    ∙ digits_first bx.digits 32 (j.file ++ codes "\n") bx.spells.digits refl in
    let dy : digits_in rest ≡ by.digits = ap digits_in by.bytes_are
    ∙ digits_first by.digits 32 (k.file ++ codes "\n") by.spells.digits refl in
    let n : j.budget ≡ k.budget = sym bx.spells.value ∙ ap (digits_value 10) (sym dx ∙ dy) ∙ by.spells.value in
    let name = job_name l rest x.line k y j.budget (j.file ++ codes "\n") bx in
    same_job j k n (without_feed j.file k.file name.bytes_are)

-- what lines from line n on are, behind m jobs
abbrev pub RestOf : ℕ → ℕ → List (List ℕ) → Result (List BatchLine) BatchFault → Type 0
RestOf m n ls (Ok jobs) = WholeList m ls jobs
RestOf m n ls (Err f) = FirstFault m n ls f

abbrev pub with_job : BatchLine → Result (List BatchLine) BatchFault → Result (List BatchLine) BatchFault
with_job job (Ok jobs) = Ok (job ∷ jobs)
with_job job (Err f) = Err f

abbrev pub ended_at : ℕ → List (List ℕ) → Result (List BatchLine) BatchFault
ended_at n [] = Ok []
ended_at n (l ∷ ls) = Err (BadLine (suc n))

-- what the first line is, and what is then read
abbrev pub Opened : ℕ → ℕ → List ℕ → List (List ℕ) → Result (List BatchLine) BatchFault → Type 0
Opened m n l ls r = ((l ≡ end_line) × (r ≡ ended_at n ls)) ⊎ ((IsNoLine l × (r ≡ Err (BadLine n)))
    ⊎ ((job : BatchLine) × IsJobLine l job × (((most_jobs ≤ m) × (r ≡ Err (TooMany n)))
    ⊎ ((m < most_jobs) × (s : Result (List BatchLine) BatchFault) × RestOf (m + 1) (n + 1) ls s × (r ≡ with_job job s)))))

-- The first line of a whole list is `end`, or that of its first job.
whole_opened : (m n : ℕ) (l : List ℕ) (ls : List (List ℕ)) (jobs : List BatchLine) (before : List (List ℕ)) →
    l ∷ ls ≡ before ++ end_line ∷ [] → StandFor before jobs →
    m + length jobs ≤ most_jobs → Opened m n l ls (Ok jobs)
whole_opened m n l ls [] [] e s u = inl (first_is l end_line ls [] e, sym (ap (ended_at n) (others_are l end_line ls [] e)))
whole_opened m n l ls (job ∷ jobs) [] e s u = absurd s
whole_opened m n l ls [] (k ∷ before) e s u = absurd s
whole_opened m n l ls (job ∷ jobs) (k ∷ before) e s u =
    inr (inr (
      job,
      subst (λ l. IsJobLine l job) (sym (first_is l k ls (before ++ end_line ∷ []) e)) s.0,
      inr (
        omega (arith, u),
        Ok jobs,
        record {
          before = before;
          are = others_are l k ls (before ++ end_line ∷ []) e;
          stand = s.1;
          few = omega (arith, u);
        },
        refl,
      ),
    ))

-- A first line that has the fault is `end` with lines behind it, no line of a list, or a job too many.
here_opened : (m n m' n' : ℕ) (l : List ℕ) (ls : List (List ℕ)) (f : BatchFault) → m' ≡ m → n' ≡ n → FaultHere m' n' (l ∷ ls) f →
    Opened m n l ls (Err f)
here_opened m n m' n' l ls (BadLine k) p q (inl h) = inr (inl (h.1, ap (λ k. Err (BadLine k)) (h.0 ∙ q)))
here_opened m n m' n' l [] (BadLine k) p q (inr h) = absurd (let b = h.1.behind in omega (arith, b))
here_opened m n m' n' l (x ∷ ls) (BadLine k) p q (inr h) = inl (h.1.end, ap (λ k. Err (BadLine k)) (h.0 ∙ ap suc q))
here_opened m n m' n' l ls (TooMany k) p q h =
    inr (inr (h.2, h.3, inl (let b = h.1 in omega (arith, b, p), ap (λ k. Err (TooMany k)) (h.0 ∙ q))))
here_opened m n m' n' l ls NoMemory p q h = absurd h
here_opened m n m' n' l ls TooLong p q h = absurd h
here_opened m n m' n' l ls BadHeader p q h = absurd h
here_opened m n m' n' l ls NoEnd p q h = absurd h

-- The first line of lines with a first fault has it, or is that of a job before it.
fault_opened : (m n : ℕ) (l : List ℕ) (ls : List (List ℕ)) (f : BatchFault) (before rest : List (List ℕ)) (jobs : List BatchLine) →
    l ∷ ls ≡ before ++ rest → StandFor before jobs →
    m + length jobs ≤ most_jobs → FaultHere (m + length jobs) (n + length before) rest f → Opened m n l ls (Err f)
fault_opened m n l ls f [] rest [] are stand few fault =
    here_opened m n (m + 0) (n + 0) l ls f (omega arith) (omega arith) (subst (λ ls. FaultHere (m + 0) (n + 0) ls f) (sym are) fault)
fault_opened m n l ls f [] rest (job ∷ jobs) are stand few fault = absurd stand
fault_opened m n l ls f (k ∷ before) rest [] are stand few fault = absurd stand
fault_opened m n l ls f (k ∷ before) rest (job ∷ jobs) are stand few fault =
    let p : m + suc (length jobs) ≡ m + 1 + length jobs = omega arith in
    let q : n + suc (length before) ≡ n + 1 + length before = omega arith in
    inr (inr (
      job,
      subst (λ l. IsJobLine l job) (sym (first_is l k ls (before ++ rest) are)) stand.0,
      inr (
        omega (arith, few),
        Err f,
        record {
          before = before;
          rest = rest;
          jobs = jobs;
          are = others_are l k ls (before ++ rest) are;
          stand = stand.1;
          few = omega (arith, few);
          fault = subst (λ k. FaultHere k (n + 1 + length before) rest f) p
              (subst (λ k. FaultHere (m + suc (length jobs)) k rest f) q fault);
        },
        refl,
      ),
    ))

opened : (m n : ℕ) (l : List ℕ) (ls : List (List ℕ)) (r : Result (List BatchLine) BatchFault) → RestOf m n (l ∷ ls) r → Opened m n l ls r
opened m n l ls (Ok jobs) x = whole_opened m n l ls jobs x.before x.are x.stand x.few
opened m n l ls (Err f) x = fault_opened m n l ls f x.before x.rest x.jobs x.are x.stand x.few x.fault

no_whole : (m : ℕ) (jobs : List BatchLine) → WholeList m [] jobs → ⊥
no_whole m jobs x = go x.before x.are
  where
    go : (before : List (List ℕ)) → (let none : List (List ℕ) = [] in none ≡ before ++ end_line ∷ []) → ⊥
    go [] h = cc
    go (k ∷ before) h = cc

none_left : (m n : ℕ) (r : Result (List BatchLine) BatchFault) → RestOf m n [] r → r ≡ Err NoEnd
none_left m n (Ok jobs) x = absurd (no_whole m jobs x)
none_left m n (Err f) x = go x.before x.rest x.are (m + length x.jobs) (n + length x.before) x.fault
  where
    go : (before rest : List (List ℕ)) → (let none : List (List ℕ) = [] in none ≡ before ++ rest) → (a b : ℕ) → FaultHere a b rest f →
        (let g : Result (List BatchLine) BatchFault = Err f in g ≡ Err NoEnd)
    go [] [] e a b h = λ i. Err (h i)
    go [] (k ∷ rest) e a b h = absurd cc
    go (k ∷ before) rest e a b h = absurd cc

-- lines are read in one way
pub one_rest : (m n : ℕ) (ls : List (List ℕ)) (r s : Result (List BatchLine) BatchFault) → RestOf m n ls r → RestOf m n ls s → r ≡ s
one_rest m n [] r s x y = none_left m n r x ∙ sym (none_left m n s y)
one_rest m n (l ∷ ls) r s x y = both (opened m n l ls r x) (opened m n l ls s y) (λ r' s' x' y'. one_rest (m + 1) (n + 1) ls r' s' x' y')
  where
    both : Opened m n l ls r → Opened m n l ls s →
        ((r' s' : Result (List BatchLine) BatchFault) → RestOf (m + 1) (n + 1) ls r' → RestOf (m + 1) (n + 1) ls s' → r' ≡ s') → r ≡ s
    both (inl a) (inl b) ih = a.1 ∙ sym b.1
    both (inl a) (inr (inl b)) ih = absurd (b.0.other a.0)
    both (inl a) (inr (inr b)) ih = absurd (end_no_job l b.0 a.0 b.1)
    both (inr (inl a)) (inl b) ih = absurd (a.0.other b.0)
    both (inr (inl a)) (inr (inl b)) ih = a.1 ∙ sym b.1
    both (inr (inl a)) (inr (inr b)) ih = absurd (a.0.none b.0 b.1)
    both (inr (inr a)) (inl b) ih = absurd (end_no_job l a.0 b.0 a.1)
    both (inr (inr a)) (inr (inl b)) ih = absurd (b.0.none a.0 a.1)
    both (inr (inr (j, xj, inl a))) (inr (inr (k, xk, inl b))) ih = a.1 ∙ sym b.1
    both (inr (inr (j, xj, inl a))) (inr (inr (k, xk, inr b))) ih = absurd (let p = a.0 in let q = b.0 in omega (arith, p, q))
    both (inr (inr (j, xj, inr a))) (inr (inr (k, xk, inl b))) ih = absurd (let p = a.0 in let q = b.0 in omega (arith, p, q))
    both (inr (inr (j, xj, inr a))) (inr (inr (k, xk, inr b))) ih =
        a.3 ∙ ap (λ j. with_job j a.1) (one_job l j k xj xk) ∙ ap (with_job k) (ih a.1 b.1 a.2 b.2) ∙ sym b.3

-- what is read of a text, by its lines: too many bytes, no header, or the lines behind it
abbrev pub Text : List ℕ → Result (List BatchLine) BatchFault → Type 0
Text bytes r = ((most_list_bytes < length bytes) × (r ≡ Err TooLong)) ⊎ ((LacksListHeader bytes × (r ≡ Err BadHeader))
    ⊎ ((length bytes ≤ most_list_bytes) × (more : List (List ℕ)) × (lines bytes ≡ list_header ∷ more) × RestOf 0 2 more r))

text_of : (bytes : List ℕ) (r : Result (List BatchLine) BatchFault) → (r ≡ Err NoMemory → ⊥) → ReadAsList bytes r → Text bytes r
text_of bytes (Ok jobs) d x = inr (inr (x.short, x.more, x.lines_are, x.whole))
text_of bytes (Err NoMemory) d x = absurd (d refl)
text_of bytes (Err TooLong) d x = inl (x, refl)
text_of bytes (Err BadHeader) d x = inr (inl (x, refl))
text_of bytes (Err (BadLine n)) d x = inr (inr (x.short, x.more, x.lines_are, x.first))
text_of bytes (Err (TooMany n)) d x = inr (inr (x.short, x.more, x.lines_are, x.first))
text_of bytes (Err NoEnd) d x = inr (inr (x.short, x.more, x.lines_are, x.first))

begins : (bytes : List ℕ) (more : List (List ℕ)) → lines bytes ≡ list_header ∷ more → bytes ≡ list_header ++ joined more
begins bytes more e = sym (lines_joined bytes) ∙ ap joined e

more_is : (a b : List (List ℕ)) → list_header ∷ a ≡ list_header ∷ b → a ≡ b
more_is a b h = cc

-- bytes are read in one way
pub one_list : (bytes : List ℕ) (r s : Result (List BatchLine) BatchFault) → (r ≡ Err NoMemory → ⊥) → (s ≡ Err NoMemory → ⊥) →
    ReadAsList bytes r → ReadAsList bytes s → r ≡ s
one_list bytes r s d e x y = both (text_of bytes r d x) (text_of bytes s e y)
  where
    both : Text bytes r → Text bytes s → r ≡ s
    both (inl a) (inl b) = a.1 ∙ sym b.1
    both (inl a) (inr (inl b)) = absurd (let p = a.0 in let q = b.0.short in omega (arith, p, q))
    both (inl a) (inr (inr b)) = absurd (let p = a.0 in let q = b.0 in omega (arith, p, q))
    both (inr (inl a)) (inl b) = absurd (let p = a.0.short in let q = b.0 in omega (arith, p, q))
    both (inr (inl a)) (inr (inl b)) = a.1 ∙ sym b.1
    both (inr (inl a)) (inr (inr b)) = absurd (a.0.none (joined b.1) (begins bytes b.1 b.2))
    both (inr (inr a)) (inl b) = absurd (let p = a.0 in let q = b.0 in omega (arith, p, q))
    both (inr (inr a)) (inr (inl b)) = absurd (b.0.none (joined a.1) (begins bytes a.1 a.2))
    both (inr (inr a)) (inr (inr b)) = one_rest 0 2 b.1 r s (subst (λ ls. RestOf 0 2 ls r) (more_is a.1 b.1 (sym a.2 ∙ b.2)) a.3) b.3
