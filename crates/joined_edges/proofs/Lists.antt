-- What is asked of a row's lists, of what it reads being there and of what its module declares.
use Rattle.std.proofs.Common.{◌≡◌, ◌<◌, ◌≤◌, ℕ, zero, suc, Bool, true, false, not, ◌&&◌, ◌||◌, List, [], ◌∷◌, length}
use Rattle.std.proofs.Common.{Some, refl, ap, arith, nat_lt, nat_le, ◌⊎◌, inl, inr}
use Rattle.std.proofs.lemmas.Bool.{and_parts, or_left, or_right, or_cases, not_from_true, lt-ltb, leb-true}
use Rattle.joined_core.specs.Circuit.{Room}
use Rattle.joined_module.specs.Rows.{From, from_word, ForkDeed}
use Rattle.joined_module.specs.Rows.{no_fork, opens, keeps, closes, ModuleRow, from_at, row_looks, opened_boxes, word_of_from, words_read}
use Rattle.joined_module.specs.Rows.{row_words_read}
use Rattle.joined_module.specs.Fields.{most_by, answers_in, first_operand, second_operand, is_kept, kept_operand}
use Rattle.joined_module.specs.Fields.{makes_number}
use Rattle.joined_module.specs.Module.{Widths, widths}
use Rattle.joined_module.specs.Machine.{RowCircuit, all_there, takes_words, deed_there, worth_there, option_there}
use Rattle.joined_module.specs.Fits.{sources_within, option_within, operand_within}
use Rattle.joined_found.proofs.Bits.{most_is}
use Rattle.joined_module.specs.Fits.{takes_fork, is_kept_operand, row_takes_fork, looks_somewhere}
use Rattle.joined_edges.specs.Timed.{Among}
use Rattle.joined_edges.proofs.Rows.{of_among}
use Rattle.joined_edges.proofs.Pointers.{ListRight}
pub use Rattle.joined_edges.specs.Row.{RowSound}

-- no more than the most
most_among : (f : ModuleRow → ℕ) (rows : List ModuleRow) (r : ModuleRow) → Among r rows → f r ≤ most_by f rows
most_among f rows r a = of_among (λ q. f q ≤ most_by f rows) r rows a (most_is f rows)

-- a word that is taken
word_taken : (ss : List From) (j i : ℕ) → from_at ss j ≡ Some (from_word i) → suc i ≤ words_read ss
word_taken [] j i e = absurd cc
word_taken (s ∷ ss) zero i e =
    let q : s ≡ from_word i = cc in
    let n : word_of_from (Some s) ≡ suc i = ap (λ x. word_of_from (Some x)) q in
    omega arith
word_taken (s ∷ ss) (suc j) i e = let h = word_taken ss j i e in omega arith

module _ (rows : List ModuleRow) (z : Room) (n : ℕ) (r : ModuleRow) (among : Among r rows) (D : RowCircuit) where
  abbrev W : Widths
  W = widths rows z

  takes_by : (m : ℕ) → m ≤ row_words_read r → 1 ≤ m → takes_words (Some r) ≡ true
  takes_by m l k = lt-ltb 0 (row_words_read r) (omega arith)

  abbrev a : Bool
  a = sources_within W r.sigs && sources_within W r.boxes

  abbrev c : Bool
  c = sources_within W r.words && sources_within W (opened_boxes r.fork)

  abbrev d : Bool
  d = (operand_within n (first_operand r) && operand_within n (second_operand r)) && nat_lt r.moves 256

  module _ (h : RowSound W n D r) where
    -- of all that the row names
    pub record Parts : Type 0 where
      pub sigs : sources_within W r.sigs ≡ true
      pub boxes : sources_within W r.boxes ≡ true
      pub words : sources_within W r.words ≡ true
      pub opened : sources_within W (opened_boxes r.fork) ≡ true
      pub looked : option_within W (row_looks r) ≡ true
      pub first : operand_within n (first_operand r) ≡ true
      pub second : operand_within n (second_operand r) ≡ true
      pub moves : nat_lt r.moves 256 ≡ true
      pub long : (not r.makes || nat_le W.words (length r.words)) ≡ true
      pub one_second : not (makes_number r.worth && is_kept (kept_operand r.fork)) ≡ true
      pub answers : (not (row_takes_fork r) || answers_in r.fork) ≡ true
      pub looks : looks_somewhere r ≡ true
      pub there_sigs : all_there D r.sigs ≡ true
      pub there_boxes : all_there D r.boxes ≡ true
      pub there_words : all_there D r.words ≡ true
      pub there_fork : deed_there D r.fork ≡ true
      pub there_worth : worth_there D r.worth ≡ true

    pub parts : Parts
    parts =
        let (ab, rest) = and_parts a (c && (option_within W (row_looks r) && d)) h.within in
        let (sw, bw) = and_parts (sources_within W r.sigs) (sources_within W r.boxes) ab in
        let (cc', lk) = and_parts c (option_within W (row_looks r) && d) rest in
        let (ww, ow) = and_parts (sources_within W r.words) (sources_within W (opened_boxes r.fork)) cc' in
        let (lw, dd) = and_parts (option_within W (row_looks r)) d lk in
        let (ops, mv) = and_parts (operand_within n (first_operand r) && operand_within n (second_operand r)) (nat_lt r.moves 256) dd in
        let (fw, kw) = and_parts (operand_within n (first_operand r)) (operand_within n (second_operand r)) ops in
        let (lo, s1) = and_parts (not r.makes || nat_le W.words (length r.words))
        (not (makes_number r.worth && is_kept (kept_operand r.fork)) &&
        ((not (row_takes_fork r) || answers_in r.fork) && looks_somewhere r))
        h.sound in
        let (os, s2) = and_parts (not (makes_number r.worth && is_kept (kept_operand r.fork)))
        ((not (row_takes_fork r) || answers_in r.fork) && looks_somewhere r) s1 in
        let (an, ls) = and_parts (not (row_takes_fork r) || answers_in r.fork) (looks_somewhere r) s2 in
        let (t1, u1) = and_parts (all_there D r.sigs)
        (all_there D r.boxes && (all_there D r.words && (deed_there D r.fork && worth_there D r.worth))) h.there in
        let (t2, u2) = and_parts (all_there D r.boxes) (all_there D r.words && (deed_there D r.fork && worth_there D r.worth)) u1 in
        let (t3, u3) = and_parts (all_there D r.words) (deed_there D r.fork && worth_there D r.worth) u2 in
        let (t4, t5) = and_parts (deed_there D r.fork) (worth_there D r.worth) u3 in
        record {
          sigs = sw;
          boxes = bw;
          words = ww;
          opened = ow;
          looked = lw;
          first = fw;
          second = kw;
          moves = mv;
          long = lo;
          one_second = os;
          answers = an;
          looks = ls;
          there_sigs = t1;
          there_boxes = t2;
          there_words = t3;
          there_fork = t4;
          there_worth = t5;
        }

    pub fork_answers : row_takes_fork r ≡ true → answers_in r.fork ≡ true
    fork_answers e = go (or_cases (not (row_takes_fork r)) (answers_in r.fork) parts.answers)
      where
        go : (not (row_takes_fork r) ≡ true) ⊎ (answers_in r.fork ≡ true) → answers_in r.fork ≡ true
        go (inl q) = let g : not (row_takes_fork r) ≡ false = not_from_true (row_takes_fork r) e in absurd cc
        go (inr q) = q

    abbrev TF : List From → Bool
    TF ss = takes_fork ss

    abbrev ops : Bool
    ops = is_kept_operand (first_operand r) || is_kept_operand (second_operand r)

    pub sigs_right : ListRight W r D r.sigs W.sigs
    sigs_right = record {
      there = parts.there_sigs;
      within = parts.sigs;
      few = most_among (λ q. length q.sigs) rows r among;
      answers = λ e. fork_answers (or_left (TF r.sigs) (TF r.boxes || (TF r.words || (TF (opened_boxes r.fork) || ops))) e);
      takes = λ j i e. let k = word_taken r.sigs j i e in takes_by (words_read r.sigs) (omega arith) (omega arith);
    }

    pub boxes_right : ListRight W r D r.boxes W.boxes
    boxes_right = record {
      there = parts.there_boxes;
      within = parts.boxes;
      few = most_among (λ q. length q.boxes) rows r among;
      answers = λ e. fork_answers (or_right (TF r.sigs) (TF r.boxes || (TF r.words || (TF (opened_boxes r.fork) || ops)))
          (or_left (TF r.boxes) (TF r.words || (TF (opened_boxes r.fork) || ops)) e));
      takes = λ j i e. let k = word_taken r.boxes j i e in takes_by (words_read r.boxes) (omega arith) (omega arith);
    }

    opened_there : (d : ForkDeed) → deed_there D d ≡ true → all_there D (opened_boxes d) ≡ true
    opened_there no_fork e = refl
    opened_there (opens l b k) e = (and_parts (all_there D l) (option_there D k) e).0
    opened_there (keeps x) e = refl
    opened_there closes e = refl

    pub opened_right : ListRight W r D (opened_boxes r.fork) W.saved
    opened_right = record {
      there = opened_there r.fork parts.there_fork;
      within = parts.opened;
      few = most_among (λ q. length (opened_boxes q.fork)) rows r among;
      answers = λ e. fork_answers (or_right (TF r.sigs) (TF r.boxes || (TF r.words || (TF (opened_boxes r.fork) || ops)))
          (or_right (TF r.boxes) (TF r.words || (TF (opened_boxes r.fork) || ops))
          (or_right (TF r.words) (TF (opened_boxes r.fork) || ops) (or_left (TF (opened_boxes r.fork)) ops e))));
      takes = λ j i e. let k = word_taken (opened_boxes r.fork) j i e in
          takes_by (words_read (opened_boxes r.fork)) (omega arith) (omega arith);
    }

    pub words_answer : takes_fork r.words ≡ true → answers_in r.fork ≡ true
    words_answer e =
        fork_answers (or_right (TF r.sigs) (TF r.boxes || (TF r.words || (TF (opened_boxes r.fork) || ops)))
        (or_right (TF r.boxes) (TF r.words || (TF (opened_boxes r.fork) || ops))
        (or_left (TF r.words) (TF (opened_boxes r.fork) || ops) e)))

    pub words_take : (j i : ℕ) → from_at r.words j ≡ Some (from_word i) → takes_words (Some r) ≡ true
    words_take j i e = let k = word_taken r.words j i e in takes_by (words_read r.words) (omega arith) (omega arith)

    pub operands_answer : ops ≡ true → answers_in r.fork ≡ true
    operands_answer e =
        fork_answers (or_right (TF r.sigs) (TF r.boxes || (TF r.words || (TF (opened_boxes r.fork) || ops)))
        (or_right (TF r.boxes) (TF r.words || (TF (opened_boxes r.fork) || ops))
        (or_right (TF r.words) (TF (opened_boxes r.fork) || ops) (or_right (TF (opened_boxes r.fork)) ops e))))

    pub words_long : r.makes ≡ true → (i : ℕ) → i < W.words → i < length r.words
    words_long m i l = go (or_cases (not r.makes) (nat_le W.words (length r.words)) parts.long)
      where
        go : (not r.makes ≡ true) ⊎ (nat_le W.words (length r.words) ≡ true) → i < length r.words
        go (inl q) = let g : not r.makes ≡ false = not_from_true r.makes m in absurd cc
        go (inr q) = let g = leb-true W.words (length r.words) q in omega arith
