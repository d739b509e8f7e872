-- Numbers and move lines are what the reading tells them to be.
use Rattle.std.proofs.Common.{◌≡◌, ℕ, true, not, ◌&&◌, List, [], ◌∷◌, ◌++◌, drop, Option, Some, None, refl}
use Rattle.std.proofs.Common.{sym, ap, ◌∙◌}
use Rattle.std.specs.Prelude.{codes, nat_le, nat_eq}
use Rattle.std.specs.Str.{bytes_eq}
use Rattle.std.specs.Str.Parse.{digits_value}
use Rattle.std.proofs.lemmas.Bool.{le-leb, leb-true, and_parts, and_from, eqb-true, eq-eqb, ne_eqb, not-true}
use Rattle.std.proofs.lemmas.Bool.{both_ways}
use Rattle.text_lines.specs.Digits.{behind, digits_in, is_number}
use Rattle.text_lines.proofs.Numbers.{behind_first, digits_behind, digits_first, is_number_is, is_same, number_is, same_is}
use Rattle.schedule_log.specs.declared.version.Version.{Version}
use Rattle.schedule_log.specs.declared.version.Version.TheVariants.{One, Two}
use Rattle.schedule_log.specs.Schedules.{Run, IsRunLine, IsMoveLine, MayFollow}
use Rattle.schedule_log.specs.Reading.{count_in, is_count, run_in, is_move_line, may_follow}

-- what stands behind a ticket in version 2, when it is told to be a count
run_line_is : (l t : List ℕ) → behind l ≡ t → is_number (digits_in l) ≡ true → is_count t ≡ true →
    IsRunLine l (record { ticket = digits_value 10 (digits_in l); count = digits_value 10 (digits_in (drop 1 t)) })
run_line_is l [] e a h = cc
run_line_is l (b ∷ bs) e a h =
    let ends = bytes_eq (behind bs) (codes "\n") in
    let some = nat_le 1 (digits_value 10 (digits_in bs)) in
    let (p, r) = and_parts (nat_eq b 32) (is_number (digits_in bs) && (ends && some)) h in
    let (q, s) = and_parts (is_number (digits_in bs)) (ends && some) r in
    let (u, w) = and_parts ends some s in
    record {
      digits = digits_in l;
      more = digits_in bs;
      ticket = number_is l a;
      count = number_is bs q;
      some = leb-true 1 (digits_value 10 (digits_in bs)) w;
      line = sym (digits_behind l)
          ∙ ap (λ t. digits_in l ++ t) (e
          ∙ (λ i. eqb-true b 32 p i ∷ (sym (digits_behind bs) ∙ ap (λ t. digits_in bs ++ t) (same_is (behind bs) (codes "\n") u))
          i));
    }

-- A move line that is told is one, and stands for the run that is read.
pub line_is : (v : Version) (l : List ℕ) → is_move_line v l ≡ true → IsMoveLine v l (run_in v l)
line_is One l h =
    let (a, b) = and_parts (is_number (digits_in l)) (bytes_eq (behind l) (codes "\n")) h in
    record {
      digits = digits_in l;
      ticket = number_is l a;
      once = refl;
      line = sym (digits_behind l)
          ∙ ap (λ t. digits_in l ++ t) (same_is (behind l) (codes "\n") b);
    }
line_is Two l h = let (a, b) = and_parts (is_number (digits_in l)) (is_count (behind l)) h in run_line_is l (behind l) refl a b

run_eq : (r : Run) (t n : ℕ) → t ≡ r.ticket → n ≡ r.count → (let s : Run = record { ticket = t; count = n } in s ≡ r)
run_eq r t n e f = λ i. record { ticket = e i; count = f i }

-- the line is told to be a move line, and its run is this
pub record ReadAsMove (v : Version) (l : List ℕ) (r : Run) : Type 0 where
  pub is : is_move_line v l ≡ true
  pub run : run_in v l ≡ r

-- A move line is told, and its run is read.
pub is_line : (v : Version) (l : List ℕ) (r : Run) → IsMoveLine v l r → ReadAsMove v l r
is_line One l r m =
    let d : digits_in l ≡ m.digits = ap digits_in m.line ∙ digits_first m.digits 10 [] m.ticket.digits refl in
    let e : behind l ≡ codes "\n" = ap behind m.line ∙ behind_first m.digits 10 [] m.ticket.digits refl in
    record {
      is = and_from (is_number (digits_in l)) (bytes_eq (behind l) (codes "\n")) (ap is_number d
          ∙ is_number_is m.digits r.ticket m.ticket) (is_same (behind l) (codes "\n") e);
      run = run_eq r (digits_value 10 (digits_in l)) 1 (ap (digits_value 10) d ∙ m.ticket.value) (sym m.once);
    }
is_line Two l r m =
    let rest = m.more ++ codes "\n" in
    let d : digits_in l ≡ m.digits = ap digits_in m.line ∙ digits_first m.digits 32 rest m.ticket.digits refl in
    let b : behind l ≡ codes " " ++ rest = ap behind m.line ∙ behind_first m.digits 32 rest m.ticket.digits refl in
    let g : digits_in rest ≡ m.more = digits_first m.more 10 [] m.count.digits refl in
    let e : behind rest ≡ codes "\n" = behind_first m.more 10 [] m.count.digits refl in
    let n : digits_value 10 (digits_in rest) ≡ r.count = ap (digits_value 10) g ∙ m.count.value in
    let ends = bytes_eq (behind rest) (codes "\n") in
    let some = nat_le 1 (digits_value 10 (digits_in rest)) in
    let told : is_count (codes " " ++ rest) ≡ true =
    and_from (nat_eq 32 32) (is_number (digits_in rest) && (ends && some)) refl
    (and_from (is_number (digits_in rest)) (ends && some) (ap is_number g ∙ is_number_is m.more r.count m.count)
    (and_from ends some (is_same (behind rest) (codes "\n") e) (ap (nat_le 1) n ∙ le-leb 1 r.count m.some))) in
    record {
      is = and_from (is_number (digits_in l)) (is_count (behind l)) (ap is_number d
          ∙ is_number_is m.digits r.ticket m.ticket) (ap is_count b ∙ told);
      run = run_eq r (digits_value 10 (digits_in l)) (digits_value 10 (count_in l)) (ap (digits_value 10) d
          ∙ m.ticket.value) (ap (λ t. digits_value 10 (digits_in (drop 1 t))) b ∙ n);
    }

-- A ticket that is told to follow may.
pub follows_is : (v : Version) (p : Option ℕ) (t : ℕ) → may_follow v p t ≡ true → MayFollow v p t
follows_is One p t h = tt
follows_is Two None t h = tt
follows_is Two (Some p) t h = λ e. both_ways (nat_eq t p) (not-true (nat_eq t p) h) (eq-eqb t p e)

-- A ticket that may follow is told to.
pub is_follows : (v : Version) (p : Option ℕ) (t : ℕ) → MayFollow v p t → may_follow v p t ≡ true
is_follows One p t h = refl
is_follows Two None t h = refl
is_follows Two (Some p) t h = ap not (ne_eqb t p h)
