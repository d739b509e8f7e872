-- How operands are read, one after another.
use Rattle.std.proofs.Common.{◌≡◌, ◌∙◌, ◌∷◌, ◌++◌, ◌+◌, ◌&&◌, ◌<◌, ◌≤◌, ◌^◌, ap, refl, sym, subst, cond, map, append-nil, append_assoc, ℕ}
use Rattle.std.proofs.Common.{Bool, true, false, List, [], Some, nat_lt, arith, min, length, zero, suc}
use Rattle.std.specs.Prelude.{⊤}
use Rattle.std.specs.List.{AllByRecursion, flat_map}
use Rattle.std.specs.Fmt.{decimal}
use Rattle.std.specs.Str.{bytes_eq}
use Rattle.std.proofs.lemmas.Bool.{le-ltb, ltb-true, ne_eqb}
use Rattle.clap.specs.Lexer.{usize_max}
use Rattle.clap.specs.Walk.{Held, Row, Rule, Text, Walk, action_of, arg_by_id, arg_by_index, has_row, is_append, is_pending, settled}
use Rattle.clap.specs.Walk.{takes_several, used}
use Rattle.clap.specs.Simple.{Shape, filled, with_index}
use Rattle.clap.specs.Faults.{repeat_fault, settle_fault, use_fault, values_fault}
use Rattle.clap.specs.Kinds.{or_else, range_kinds}
use Rattle.clap.specs.declared.error.kind.ErrorKind.TheVariants as kind
use Rattle.goi_words.specs.Commands.{Operand, a_number, a_text, operand_name, operand_rule, some_numbers, wide_operand}
use Rattle.goi_words.specs.Plain.{AllFit, IsFileName, Value, number, numbers, text, value_words}
use Rattle.goi_words.proofs.Decimals.{decimal_passes, decimal_value}
use Rattle.goi_words.proofs.Rows.{Replaces, absent_more, given, used_first}
use Rattle.goi_words.proofs.Walks.{Holds, IsValue, Leads, Names, TakesMore, a_value, all_gathered, between, first_gathered, gathered}
use Rattle.goi_words.proofs.Walks.{gathered_end, gathering, operand_word, then}
use Rattle.goi_words.proofs.Wide.{wide_passes, wide_values}

-- an operand, at its place
abbrev pub rule_at : ℕ → Operand → Rule
rule_at i o = with_index i (filled (operand_rule o))

-- an argument is called as its operand
pub rule_named : (o : Operand) → (filled (operand_rule o)).id ≡ operand_name o
rule_named (a_text name) = refl
rule_named (a_number name least most) = refl
rule_named (some_numbers name) = refl

-- what words leave for an operand: a row, where there are some
abbrev pub words_row : Operand → List Text → List Row
words_row o [] = []
words_row o (w ∷ ws) = given (filled (operand_rule o)) (w ∷ ws) ∷ []

-- the rows of operands
abbrev pub operand_rows : List Operand → List Value → List Row
operand_rows (o ∷ os) (v ∷ vs) = words_row o (value_words v) ++ operand_rows os vs
operand_rows os vs = []

-- only the last operand takes several values
abbrev pub IsLast : Operand → List Operand → Type 0
IsLast (some_numbers name) others = others ≡ []
IsLast operand others = ⊤

-- the numbers of an operand with one number have 32 bits
abbrev pub is_small : Operand → Bool
is_small (a_number name least most) = nat_lt most (2 ^ 32)
is_small operand = true

-- the operands stand at these places, from i on, each under a name of its own
abbrev pub ArePlaced : Shape → ℕ → List Operand → Type 0
ArePlaced sh i [] = ⊤
ArePlaced sh i (o ∷ os) =
    (arg_by_index sh.rules i ≡ Some (rule_at i o)) × (arg_by_id sh.rules (operand_name o) ≡ Some (rule_at i o))
    × AllByRecursion (λ p. bytes_eq (operand_name o) (operand_name p) ≡ false) os × IsLast o os × (is_small o ≡ true)
    × ArePlaced sh (min (i + 1) usize_max) os

-- ---- an operand with one value

-- the word leads on, is held as the value of this argument, and then these are the rows
record Stands (sh : Shape) (h : Held) (p : ℕ) (word : Text) (rest : List Text) (rows : List Row) (id : Text) : Type 0 where
  pub held : Held
  pub leads : Leads sh (between h p) (between held (min (p + 1) usize_max)) (word ∷ rest) rest
  pub holds : Holds sh held rows
  pub pends : (b : Rule) → is_pending b held.pending ≡ bytes_eq id b.id

-- so does a word for an operand with one value that has no row yet
one_value : (sh : Shape) (a : Rule) (word : Text) (h : Held) (rows : List Row) (p : ℕ) (rest : List Text) → Holds sh h rows → IsValue word
    → arg_by_index sh.rules p ≡ Some a → arg_by_id sh.rules a.id ≡ Some a → takes_several a ≡ false → is_append (action_of a) ≡ false
    → a.trailing_var_arg ≡ false → use_fault sh.args_override_self a (word ∷ []) rows ≡ [] → Replaces a (word ∷ [])
    → has_row a.id rows ≡ false → Stands sh h p word rest (rows ++ given a (word ∷ []) ∷ []) a.id
one_value sh a word h rows p rest holds is at own single once plain passes replaces absent = record {
  held = record { rows = (settled sh.rules h).rows; pending = Some (a.id, word ∷ []); skip = h.skip };
  leads = operand_word sh a word h p rest is at single once plain holds.clean;
  holds = record {
    there = after ∙ used_first a (word ∷ []) rows replaces absent;
    clean = rw (own, holds.there) passes;
  };
  pends = λ b. refl;
}
  where
    after : (settled sh.rules (record { rows = (settled sh.rules h).rows; pending = Some (a.id, word ∷ []); skip = h.skip })).rows
        ≡ used a (word ∷ []) rows
    after = rw (own, holds.there) refl

-- ---- an operand with several

-- a list that is mapped is as long
mapped : (ns : List ℕ) → length (map decimal ns) ≡ length ns
mapped [] = refl
mapped (n ∷ ns) = ap suc (mapped ns)

-- there are as many as there may be
as_many : (k : ℕ) → 1 ≤ k → k ≤ usize_max → range_kinds 1 usize_max k ≡ []
as_many zero low high = absurd (omega arith)
as_many (suc k) low high =
    rw (ne_eqb (suc k) 0 (λ e. omega (arith, e)), le-ltb (suc k) 1 (omega arith), le-ltb usize_max (suc k) high) refl

-- numbers of 64 bits pass
all_pass : (i : ℕ) (name : Text) (ns : List ℕ) → AllByRecursion (λ n. n < 2 ^ 64) ns
    → values_fault (rule_at i (some_numbers name)) (map decimal ns) ≡ []
all_pass i name [] small = refl
all_pass i name (n ∷ ns) small = rw (wide_passes n small.0, all_pass i name ns small.1) refl

-- the use of them has no fault
numbers_pass : (i : ℕ) (name : Text) (n : ℕ) (ns : List ℕ) (rows : List Row) → AllByRecursion (λ n. n < 2 ^ 64) (n ∷ ns)
    → length (n ∷ ns) ≤ usize_max → has_row name rows ≡ false
    → use_fault false (rule_at i (some_numbers name)) (map decimal (n ∷ ns)) rows ≡ []
numbers_pass i name n ns rows small few absent =
    let a = rule_at i (some_numbers name) in
    let many : range_kinds 1 usize_max (length (map decimal (n ∷ ns))) ≡ [] =
    ap (range_kinds 1 usize_max) (mapped (n ∷ ns)) ∙ as_many (length (n ∷ ns)) (omega arith) few in
    ap (λ k. or_else k (or_else (repeat_fault false name rows) (values_fault a (map decimal (n ∷ ns))))) many
    ∙ ap (λ (b : Bool). or_else (cond (b && true) (kind.ArgumentConflict ∷ []) []) (values_fault a (map decimal (n ∷ ns)))) absent
    ∙ all_pass i name (n ∷ ns) small

-- ---- operands in a row

-- the words lead to where these rows are held, and where an option may follow
pub record Reaches (sh : Shape) (h : Held) (p : ℕ) (words rest : List Text) (rows : List Row) : Type 0 where
  pub stop : Walk
  pub leads : Leads sh (between h p) stop words rest
  pub holds : Holds sh stop.held rows
  pub place : ℕ
  pub ready : (a : Rule) (word : Text) (more : List Text) → Names sh word a
      → Leads sh stop (between stop.held place) (word ∷ more) (word ∷ more)

-- no word more
at_end : (sh : Shape) (h : Held) (p : ℕ) (rest : List Text) (rows : List Row) → Holds sh h rows → Reaches sh h p rest rest (rows ++ [])
at_end sh h p rest rows holds = record {
  stop = between h p;
  leads = record { walk = refl; fault = refl };
  holds = record { there = holds.there ∙ sym (append-nil rows); clean = holds.clean };
  place = p;
  ready = λ a word more names. record { walk = refl; fault = refl };
}

-- the name of a file is a value, and no option
file_value : (file : Text) → IsFileName file → IsValue file
file_value [] is = absurd is
file_value (c ∷ cs) is = a_value c cs is

-- operands that have no row yet have none behind a row of another name
absent_later : (name : Text) (r : Row) (rows : List Row) (os : List Operand) → r.id ≡ name
    → AllByRecursion (λ p. bytes_eq name (operand_name p) ≡ false) os → AllByRecursion (λ o. has_row (operand_name o) rows ≡ false) os
    → AllByRecursion (λ o. has_row (operand_name o) (rows ++ r ∷ []) ≡ false) os
absent_later name r rows [] called differ absent = tt
absent_later name r rows (o ∷ os) called differ absent = (
  absent_more (operand_name o) rows r absent.0 (ap (λ n. bytes_eq n (operand_name o)) called ∙ differ.0),
  absent_later name r rows os called differ.1 absent.1,
)

-- and none of them waits where that one does
aside_later : (name : Text) (h : Held) (os : List Operand) → ((b : Rule) → is_pending b h.pending ≡ bytes_eq name b.id)
    → AllByRecursion (λ p. bytes_eq name (operand_name p) ≡ false) os
    → AllByRecursion (λ o. is_pending (filled (operand_rule o)) h.pending ≡ false) os
aside_later name h [] pends differ = tt
aside_later name h (o ∷ os) pends differ =
    (pends (filled (operand_rule o)) ∙ ap (bytes_eq name) (rule_named o) ∙ differ.0, aside_later name h os pends differ.1)

module _ (sh : Shape) (once : sh.args_override_self ≡ false) where
  -- several values, behind which nothing stands
  several : (name : Text) (n : ℕ) (ns : List ℕ) (i : ℕ) (h : Held) (rows : List Row) (rest : List Text)
      → arg_by_index sh.rules i ≡ Some (rule_at i (some_numbers name)) → arg_by_id sh.rules name ≡ Some (rule_at i (some_numbers name))
      → AllByRecursion (λ n. n < 2 ^ 64) (n ∷ ns) → length (n ∷ ns) ≤ usize_max → has_row name rows ≡ false
      → is_pending (filled (wide_operand name)) h.pending ≡ false → Holds sh h rows
      → Reaches sh h i (map decimal (n ∷ ns) ++ rest) rest (rows ++ given (filled (wide_operand name)) (map decimal (n ∷ ns)) ∷ [])
  several name n ns i h rows rest at own small few absent aside holds = record {
    stop = gathering (gathered a (settled sh.rules h).rows h.skip (map decimal (n ∷ ns))) i;
    leads = then sh _ _ _ _ _ _
        (first_gathered sh a (decimal n) h i (map decimal ns ++ rest) values.0 takes aside holds.clean)
        (all_gathered sh a (map decimal ns) (settled sh.rules h).rows h.skip i (decimal n ∷ []) rest values.1 takes);
    holds = record {
      there = after ∙ used_first a (map decimal (n ∷ ns)) rows (λ _. refl) absent;
      clean = cleared;
    };
    place = i;
    ready = λ b word more names.
        gathered_end sh b word (gathered a (settled sh.rules h).rows h.skip (map decimal (n ∷ ns))) i more names;
  }
    where
      a : Rule
      a = rule_at i (some_numbers name)

      values : AllByRecursion IsValue (map decimal (n ∷ ns))
      values = wide_values (n ∷ ns) small

      takes : TakesMore sh (rule_at i (some_numbers name)) i
      takes = record { at = at; several = refl; ends = refl }

      after : (settled sh.rules (gathered (rule_at i (some_numbers name)) (settled sh.rules h).rows h.skip (map decimal (n ∷ ns)))).rows
          ≡ used (rule_at i (some_numbers name)) (map decimal (n ∷ ns)) rows
      after = rw (own, holds.there) refl

      cleared : settle_fault sh.rules sh.args_override_self
          (gathered (rule_at i (some_numbers name)) (settled sh.rules h).rows h.skip (map decimal (n ∷ ns))) ≡ []
      cleared = rw (own, holds.there, once) (numbers_pass i name n ns rows small few absent)

  -- one value, and then others
  behind : (o : Operand) (os : List Operand) (vs : List Value) (word : Text) (h : Held) (rows : List Row) (p : ℕ) (rest : List Text)
      (one : Stands sh h p word (flat_map value_words vs ++ rest) (rows ++ given (filled (operand_rule o)) (word ∷ []) ∷ [])
      (operand_name o))
      → Reaches sh one.held (min (p + 1) usize_max) (flat_map value_words vs ++ rest) rest
      ((rows ++ given (filled (operand_rule o)) (word ∷ []) ∷ []) ++ operand_rows os vs)
      → Reaches sh h p (word ∷ (flat_map value_words vs ++ rest)) rest
      (rows ++ given (filled (operand_rule o)) (word ∷ []) ∷ operand_rows os vs)
  behind o os vs word h rows p rest one more = record {
    stop = more.stop;
    leads = then sh _ _ _ _ _ _ one.leads more.leads;
    holds = record {
      there = more.holds.there ∙ append_assoc rows (given (filled (operand_rule o)) (word ∷ []) ∷ []) (operand_rows os vs);
      clean = more.holds.clean;
    };
    place = more.place;
    ready = more.ready;
  }

  pub operands_read : (os : List Operand) (vs : List Value) (i : ℕ) (h : Held) (rows : List Row) (rest : List Text) → ArePlaced sh i os
      → AllFit os vs → AllByRecursion (λ o. has_row (operand_name o) rows ≡ false) os
      → AllByRecursion (λ o. is_pending (filled (operand_rule o)) h.pending ≡ false) os → Holds sh h rows
      → Reaches sh h i (flat_map value_words vs ++ rest) rest (rows ++ operand_rows os vs)
  operands_read [] [] i h rows rest placed fit absent aside holds = at_end sh h i rest rows holds
  operands_read [] (v ∷ vs) i h rows rest placed fit absent aside holds = absurd fit
  operands_read (o ∷ os) [] i h rows rest placed fit absent aside holds = absurd fit
  operands_read (a_text name ∷ os) (text t ∷ vs) i h rows rest placed fit absent aside holds =
      let a = rule_at i (a_text name) in
      let one = one_value sh a t h rows i (flat_map value_words vs ++ rest) holds (file_value t fit.0) placed.0 placed.1 refl refl refl
      (rw (once, absent.0) refl) (λ _. refl) absent.0 in
      behind (a_text name) os vs t h rows i rest one
      (operands_read os vs (min (i + 1) usize_max) one.held (rows ++ given a (t ∷ []) ∷ []) rest placed.5 fit.1
      (absent_later name (given a (t ∷ [])) rows os refl placed.2 absent.1) (aside_later name one.held os one.pends placed.2) one.holds)
  operands_read (a_number name least most ∷ os) (number k ∷ vs) i h rows rest placed fit absent aside holds =
      let a = rule_at i (a_number name least most) in
      let high = ltb-true most (2 ^ 32) placed.4 in
      let small : k < 2 ^ 32 = omega (arith, high, fit.0.1) in
      let one = one_value sh a (decimal k) h rows i (flat_map value_words vs ++ rest) holds (decimal_value k small) placed.0 placed.1
      refl refl refl (rw (once, absent.0, decimal_passes k small least most fit.0.0 fit.0.1) refl) (λ _. refl) absent.0 in
      behind (a_number name least most) os vs (decimal k) h rows i rest one
      (operands_read os vs (min (i + 1) usize_max) one.held (rows ++ given a (decimal k ∷ []) ∷ []) rest placed.5 fit.1
      (absent_later name (given a (decimal k ∷ [])) rows os refl placed.2 absent.1) (aside_later name one.held os one.pends placed.2)
      one.holds)
  operands_read (some_numbers name ∷ []) (numbers [] ∷ []) i h rows rest placed fit absent aside holds = at_end sh h i rest rows holds
  operands_read (some_numbers name ∷ []) (numbers (n ∷ ns) ∷ []) i h rows rest placed fit absent aside holds =
      subst (λ ws. Reaches sh h i (ws ++ rest) rest (rows ++ given (filled (wide_operand name)) (map decimal (n ∷ ns)) ∷ []))
      (sym (append-nil (map decimal (n ∷ ns))))
      (several name n ns i h rows rest placed.0 placed.1 fit.0.0 fit.0.1 absent.0 aside.0 holds)
  operands_read (some_numbers name ∷ []) (numbers ns ∷ (v ∷ vs)) i h rows rest placed fit absent aside holds = absurd fit.1
  operands_read (some_numbers name ∷ (o ∷ os)) (numbers ns ∷ vs) i h rows rest placed fit absent aside holds =
      let none : o ∷ os ≡ [] = placed.3 in cc
  operands_read (a_text name ∷ os) (number k ∷ vs) i h rows rest placed fit absent aside holds = absurd fit.0
  operands_read (a_text name ∷ os) (numbers ks ∷ vs) i h rows rest placed fit absent aside holds = absurd fit.0
  operands_read (a_number name least most ∷ os) (text t ∷ vs) i h rows rest placed fit absent aside holds = absurd fit.0
  operands_read (a_number name least most ∷ os) (numbers ks ∷ vs) i h rows rest placed fit absent aside holds = absurd fit.0
  operands_read (some_numbers name ∷ os) (text t ∷ vs) i h rows rest placed fit absent aside holds = absurd fit.0
  operands_read (some_numbers name ∷ os) (number k ∷ vs) i h rows rest placed fit absent aside holds = absurd fit.0
