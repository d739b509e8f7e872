-- The first fault of lines, and what they stand for, line by line.
use Rattle.std.proofs.Common.{◌≡◌, ◌⊎◌, ℕ, suc, ◌+◌, ◌<◌, ◌≤◌, List, [], ◌∷◌, ◌++◌, append_assoc, length, length-append, Result, Ok, Err}
use Rattle.std.proofs.Common.{refl, sym, ap, ◌∙◌, subst, inl, inr, arith}
use Rattle.std.specs.Prelude.{codes, MatchResult}
use Rattle.text_lines.specs.Lines.{lines, end_line}
use Rattle.text_lines.proofs.Lines.{IsLine, line_split}
use Rattle.text_lines.proofs.Firsts.{first_is, no_first}
use Rattle.text_lines.proofs.Scans.{first_line}
use Rattle.batch_lists.specs.declared.fault.BatchFault.{BatchFault}
use Rattle.batch_lists.specs.declared.fault.BatchFault.TheVariants.{NoMemory, TooLong, BadHeader, BadLine, TooMany, NoEnd}
use Rattle.batch_lists.specs.declared.line.BatchLine.{BatchLine}
use Rattle.batch_lists.specs.Limits.{most_jobs, most_list_bytes}
use Rattle.batch_lists.specs.Lists.{list_header, IsJobLine, FaultHere, FirstFault, WholeList, IsList, LacksListHeader, HasListFault}
use Rattle.batch_lists.specs.Lists.{ReadAsList}
use Rattle.batch_lists.specs.Scanning.{LineFault}

moved : (m k n j : ℕ) (ls : List (List ℕ)) (f : BatchFault) → m ≡ k → n ≡ j → FaultHere m n ls f → FaultHere k j ls f
moved m k n j ls f e g h = subst (λ k. FaultHere k j ls f) e (subst (λ j. FaultHere m j ls f) g h)

-- the first line has the fault
here : (m n : ℕ) (ls : List (List ℕ)) (f : BatchFault) → m ≤ most_jobs → FaultHere m n ls f → FirstFault m n ls f
here m n ls f u h = record {
  before = [];
  rest = ls;
  jobs = [];
  are = refl;
  stand = tt;
  few = omega (arith, u);
  fault = moved m (m + 0) n (n + 0) ls f (omega arith) (omega arith) h;
}

-- a later line has it
later : (m n : ℕ) (l : List ℕ) (ls : List (List ℕ)) (job : BatchLine) (f : BatchFault) → IsJobLine l job →
    FirstFault (m + 1) (n + 1) ls f → FirstFault m n (l ∷ ls) f
later m n l ls job f a x = record {
  before = l ∷ x.before;
  rest = x.rest;
  jobs = job ∷ x.jobs;
  are = ap (λ ks. l ∷ ks) x.are;
  stand = (a, x.stand);
  few = let k = x.few in omega (arith, k);
  fault = moved (m + 1 + length x.jobs) (m + suc (length x.jobs)) (n + 1 + length x.before) (n + suc (length x.before)) x.rest f
      (omega arith) (omega arith) x.fault;
}

later_whole : (m : ℕ) (l : List ℕ) (ls : List (List ℕ)) (job : BatchLine) (jobs : List BatchLine) → IsJobLine l job →
    WholeList (m + 1) ls jobs → WholeList m (l ∷ ls) (job ∷ jobs)
later_whole m l ls job jobs a x = record {
  before = l ∷ x.before;
  are = ap (λ ks. l ∷ ks) x.are;
  stand = (a, x.stand);
  few = let k = x.few in omega (arith, k);
}

-- no line is left
pub ends_early : (m n : ℕ) (bytes : List ℕ) → m ≤ most_jobs → length bytes ≡ 0 → FirstFault m n (lines bytes) NoEnd
ends_early m n [] u e = here m n [] NoEnd u refl
ends_early m n (b ∷ bytes) u e = absurd (omega (arith, e))

-- bytes stand behind the last line
pub ends_late : (m n : ℕ) (bytes line more : List ℕ) → m ≤ most_jobs → lines bytes ≡ line ∷ lines more → line ≡ end_line →
    0 < length more → FirstFault m n (lines bytes) (BadLine (n + 1))
ends_late m n bytes line more u e q l =
    let k : n + 1 ≡ suc n = omega arith in
    subst (λ ls. FirstFault m n ls (BadLine (n + 1))) (sym e) (here m n (line ∷ lines more) (BadLine (n + 1)) u (inr (
      k,
      record {
        end = q;
        behind = let some = ap length (first_line more l) in omega (arith, some);
      },
    )))

-- nothing stands behind it
pub ends_well : (m : ℕ) (bytes line more : List ℕ) (old : List BatchLine) → m ≤ most_jobs → lines bytes ≡ line ∷ lines more →
    line ≡ end_line → length more ≡ 0 →
    (xs : List BatchLine) × (old ≡ old ++ xs) × WholeList m (lines bytes) xs
ends_well m bytes line [] old u e q l = (
  [],
  sym (append_none old),
  record {
    before = [];
    are = e ∙ ap (λ l. l ∷ []) q;
    stand = tt;
    few = omega (arith, u);
  },
)
  where
    append_none : (xs : List BatchLine) → xs ++ [] ≡ xs
    append_none [] = refl
    append_none (x ∷ xs) = ap (λ ys. x ∷ ys) (append_none xs)
ends_well m bytes line (b ∷ more) old u e q l = absurd (omega (arith, l))

-- the first line has a fault of its own
pub line_fault : (m n : ℕ) (bytes line more : List ℕ) (f : BatchFault) → m ≤ most_jobs → lines bytes ≡ line ∷ lines more →
    (line ≡ end_line → ⊥) → LineFault m n line f →
    (f ≡ NoMemory) ⊎ FirstFault m n (lines bytes) f
line_fault m n bytes line more NoMemory u e q h = inl refl
line_fault m n bytes line more (BadLine k) u e q h =
    inr (subst (λ ls. FirstFault m n ls (BadLine k)) (sym e)
    (here m n (line ∷ lines more) (BadLine k) u (inl (h.0, record { other = q; none = h.1 }))))
line_fault m n bytes line more (TooMany k) u e q h =
    inr (subst (λ ls. FirstFault m n ls (TooMany k)) (sym e) (here m n (line ∷ lines more) (TooMany k) u h))
line_fault m n bytes line more TooLong u e q h = absurd h
line_fault m n bytes line more BadHeader u e q h = absurd h
line_fault m n bytes line more NoEnd u e q h = absurd h

-- what is read of lines behind so many jobs
abbrev pub RestRead : {A : Type 0} → ℕ → ℕ → List (List ℕ) → List BatchLine → List BatchLine → Result A BatchFault → Type 0
RestRead m n ls old new r =
    MatchResult r (λ _. (more : List BatchLine) × (new ≡ old ++ more) × WholeList m ls more) (λ f. (f ≡ NoMemory) ⊎ FirstFault m n ls f)

-- the first line is a job's, and the others follow
pub reads_more : {A : Type 0} (bytes line more : List ℕ) (n : ℕ) (old mid new : List BatchLine) (r : Result A BatchFault) →
    lines bytes ≡ line ∷ lines more →
    ((job : BatchLine) × IsJobLine line job × (length old < most_jobs) × (mid ≡ old ++ job ∷ [])) →
    RestRead (length mid) (n + 1) (lines more) mid new r →
    RestRead (length old) n (lines bytes) old new r
reads_more bytes line more n old mid new (Ok a) e (job, is, room, pushed) (xs, is_new, whole) =
    let longer : length mid ≡ length old + 1 = let k = ap length pushed in let q = length-append old (job ∷ []) in omega (arith, k, q) in (
      job ∷ xs,
      is_new ∙ ap (λ ys. ys ++ xs) pushed ∙ append_assoc old (job ∷ []) xs,
      subst (λ ls. WholeList (length old) ls (job ∷ xs)) (sym e)
          (later_whole (length old) line (lines more) job xs is (subst (λ k. WholeList k (lines more) xs) longer whole)),
    )
reads_more bytes line more n old mid new (Err f) e (job, is, room, pushed) (inl h) = inl h
reads_more bytes line more n old mid new (Err f) e (job, is, room, pushed) (inr h) =
    let longer : length mid ≡ length old + 1 = let k = ap length pushed in let q = length-append old (job ∷ []) in omega (arith, k, q) in
    inr (subst (λ ls. FirstFault (length old) n ls f) (sym e)
    (later (length old) n line (lines more) job f is (subst (λ k. FirstFault k (n + 1) (lines more) f) longer h)))

-- the header is a line
header_line : IsLine list_header
header_line = record { bytes = codes "batch 1"; fine = refl; is = refl }

pub lacks_any : (bytes : List ℕ) → length bytes ≤ most_list_bytes → length bytes ≡ 0 → LacksListHeader bytes
lacks_any [] u e =
    record { short = u; none = λ rest h. no_first list_header (lines rest) (ap lines h ∙ line_split list_header rest header_line) }
lacks_any (b ∷ bytes) u e = absurd (omega (arith, e))

pub lacks_header : (bytes line rest : List ℕ) → length bytes ≤ most_list_bytes → lines bytes ≡ line ∷ lines rest →
    (line ≡ list_header → ⊥) → LacksListHeader bytes
lacks_header bytes line rest u e d = record {
  short = u;
  none = λ more h. d (first_is line list_header (lines rest) (lines more) (sym e ∙ ap lines h ∙ line_split list_header more header_line));
}

no_header_there : (m n : ℕ) (ls : List (List ℕ)) → FaultHere m n ls BadHeader → ⊥
no_header_there m n [] h = bad_is_no h
  where
    bad_is_no : (let f : BatchFault = BadHeader in f ≡ NoEnd) → ⊥
    bad_is_no h = cc
no_header_there m n (l ∷ ls) h = h

no_long_there : (m n : ℕ) (ls : List (List ℕ)) → FaultHere m n ls TooLong → ⊥
no_long_there m n [] h = long_is_no h
  where
    long_is_no : (let f : BatchFault = TooLong in f ≡ NoEnd) → ⊥
    long_is_no h = cc
no_long_there m n (l ∷ ls) h = h

fault_read : (bytes : List ℕ) (f : BatchFault) → HasListFault bytes f → ReadAsList bytes (Err f)
fault_read bytes NoMemory h = tt
fault_read bytes TooLong h = absurd (no_long_there (0 + length h.first.jobs) (2 + length h.first.before) h.first.rest h.first.fault)
fault_read bytes BadHeader h = absurd (no_header_there (0 + length h.first.jobs) (2 + length h.first.before) h.first.rest h.first.fault)
fault_read bytes (BadLine n) h = h
fault_read bytes (TooMany n) h = h
fault_read bytes NoEnd h = h

-- what is read of a text that begins with the header
pub body_read : {V : Type 0} (items : V → List BatchLine) (bytes line rest : List ℕ) (r : Result V BatchFault) →
    length bytes ≤ most_list_bytes → lines bytes ≡ line ∷ lines rest → line ≡ list_header →
    MatchResult r (λ v. WholeList 0 (lines rest) (items v)) (λ f. (f ≡ NoMemory) ⊎ FirstFault 0 2 (lines rest) f) →
    MatchResult r (λ v. IsList bytes (items v)) (λ f. ReadAsList bytes (Err f))
body_read items bytes line rest (Ok v) u e q h =
    record { more = lines rest; short = u; lines_are = e ∙ ap (λ l. l ∷ lines rest) q; whole = h }
body_read items bytes line rest (Err f) u e q (inl h) = subst (λ f. ReadAsList bytes (Err f)) (sym h) tt
body_read items bytes line rest (Err f) u e q (inr h) =
    fault_read bytes f (record { more = lines rest; short = u; lines_are = e ∙ ap (λ l. l ∷ lines rest) q; first = h })
