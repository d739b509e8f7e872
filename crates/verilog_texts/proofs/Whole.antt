-- The reader of modules reads what is printed.
use Rattle.std.proofs.Common.{◌≡◌, ℕ, zero, suc, ◌+◌, ◌^◌, ◌<◌, ◌≤◌, Bool, true, false, cond, List, [], ◌∷◌, ◌++◌, Option, Some}
use Rattle.std.proofs.Common.{refl, ap, ◌∙◌, codes, append_assoc, arith}
use Rattle.std.specs.Prelude.{nat_eq, decimal}
use Rattle.std.proofs.lemmas.Bool.{and_from}
use Prim.Native.String.{String}
use lib.Chars.{text_of}
use lib.Text.{eqt}
use Rattle.verilog_tree.specs.Tree.{Size, Stmt, skip, Width, one, upto, wide, Item, note, gap, size, constant, input, output, reg}
use Rattle.verilog_tree.specs.Tree.{memory, wire, settles, clocked}
use Rattle.verilog_tree.specs.Print.{size_text, expr_text, stmt_text, width_text, bits_text, items_text}
use Rattle.verilog_tree.specs.Print.{more_ports, ports_text}
use Rattle.verilog_tree.specs.WellFormed.{Entry, letter, spelt, identifier, one_line, size_ok, declared, all_declared, no_port, ports_first}
use Rattle.verilog_texts.specs.Small.{names_ok, SmallSize}
use Rattle.verilog_texts.proofs.Pieces.{front, rest, starts, behind, behind_not, digit, in_name, all, rest_of}
use Rattle.verilog_texts.proofs.Reader.{go_on, when, read}
use Rattle.verilog_texts.proofs.Exact.{stops_at, number_front, number_rest, name_front, name_rest, name_starts, name_primary, size_depth}
use Rattle.verilog_texts.proofs.Exact.{depth, sizes}
use Rattle.verilog_texts.proofs.Blocks.{onto, next, sign, read_block}
use Rattle.verilog_texts.proofs.Printed.{other_character, seen_front, next_visible, comment_line, spelling, cost, Told}
use Rattle.verilog_texts.proofs.Printed.{ToldStmt, expr_reads, read_same}
use Rattle.verilog_texts.proofs.Printed.{ending, lines}
use Rattle.verilog_texts.proofs.Grouped.{body_of, ports_of, no_ports}
use Rattle.verilog_texts.proofs.Modules.{width_from, read_width, named_item, wide_item, read_param, reg_end, read_wire}
use Rattle.verilog_texts.proofs.Modules.{read_item, body_by, read_body, port_by, read_ports, read_module}

-- items whose names are new, and whose numbers their text tells
module _ (env : List Entry) where
  abbrev pub ToldSize : Size → Type 0
  ToldSize s = (size_ok env s ≡ true) × SmallSize s

  abbrev pub ToldWidth : Width → Type 0
  ToldWidth one = Unit {0}
  ToldWidth (upto h) = ToldSize h
  ToldWidth (wide k) = ToldSize k

  abbrev pub ToldItem : Item → Type 0
  ToldItem (note s) = one_line (codes s) ≡ true
  ToldItem gap = Unit {0}
  ToldItem (size x n) = (identifier x ≡ true) × (n < 10 ^ 64)
  ToldItem (constant w x n) = (identifier x ≡ true) × ToldWidth w × (all digit (bits_text w) ≡ true) × (n < 10 ^ 64)
  ToldItem (input w x) = (identifier x ≡ true) × ToldWidth w
  ToldItem (output w x) = (identifier x ≡ true) × ToldWidth w
  ToldItem (reg w x) = (identifier x ≡ true) × ToldWidth w
  ToldItem (memory w x k) = (identifier x ≡ true) × ToldWidth w × ToldSize k
  ToldItem (wire w x e) = (identifier x ≡ true) × ToldWidth w × Told env e
  ToldItem (settles s) = ToldStmt env s
  ToldItem (clocked s) = ToldStmt env s

abbrev pub ToldItems : List Entry → List Item → Type 0
ToldItems env [] = Unit {0}
ToldItems env (i ∷ is) = ToldItem env i × ToldItems (declared env i) is

-- names stay names
pub names_more : (env : List Entry) (i : Item) → names_ok env ≡ true → ToldItem env i → names_ok (declared env i) ≡ true
names_more env (note s) n h = n
names_more env gap n h = n
names_more env (size x m) n h = and_from (identifier x) (names_ok env) h.0 n
names_more env (constant w x m) n h = and_from (identifier x) (names_ok env) h.0 n
names_more env (input w x) n h = and_from (identifier x) (names_ok env) h.0 n
names_more env (output w x) n h = and_from (identifier x) (names_ok env) h.0 n
names_more env (reg w x) n h = and_from (identifier x) (names_ok env) h.0 n
names_more env (memory w x k) n h = and_from (identifier x) (names_ok env) h.0 n
names_more env (wire w x e) n h = and_from (identifier x) (names_ok env) h.0 n
names_more env (settles s) n h = n
names_more env (clocked s) n h = n

-- how far the reader has to go
abbrev width_cost : Width → ℕ
width_cost one = 0
width_cost (upto h) = size_depth h
width_cost (wide k) = size_depth k

abbrev pub body_cost : List Item → ℕ
body_cost [] = 1
body_cost (note s ∷ is) = body_cost is
body_cost (gap ∷ is) = body_cost is
body_cost (input w x ∷ is) = body_cost is
body_cost (output w x ∷ is) = body_cost is
body_cost (size x n ∷ is) = suc (body_cost is)
body_cost (constant w x n ∷ is) = suc (width_cost w + body_cost is)
body_cost (reg w x ∷ is) = suc (width_cost w + body_cost is)
body_cost (memory w x k ∷ is) = suc (width_cost w + size_depth k + body_cost is)
body_cost (wire w x e ∷ is) = suc (width_cost w + depth e + body_cost is)
body_cost (settles s ∷ is) = suc (cost s + 1 + body_cost is)
body_cost (clocked s ∷ is) = suc (cost s + 1 + body_cost is)

abbrev pub ports_cost : List Item → ℕ
ports_cost [] = 1
ports_cost (input w x ∷ is) = suc (width_cost w + ports_cost is)
ports_cost (output w x ∷ is) = suc (width_cost w + ports_cost is)
ports_cost (i ∷ is) = ports_cost is

front_not : (d : ℕ) (cs : List ℕ) → letter d ≡ false → starts letter cs ≡ true → starts (nat_eq d) cs ≡ false
front_not d [] f e = absurd cc
front_not d (c ∷ cs) f e = other_character letter d c f e

body_same : (env : List Entry) (k : ℕ) (r s : List ℕ) → next false r ≡ next false s → read_body env k r ≡ read_body env k s
body_same env zero r s e = refl
body_same env (suc k) r s e =
    ap (λ cs. body_by env k (λ env. read_body env k) (text_of (front in_name cs)) (rest in_name cs)) e

module _ (env : List Entry) (names : names_ok env ≡ true) where
  width_reads : (w : Width) → ToldWidth env w → (k : ℕ) (x : String) (r : List ℕ) → spelt (codes x) ≡ true → width_cost w ≤ k →
      read_width k (width_text w ++ (codes x ++ r)) ≡ Some (w, codes x ++ r)
  width_reads one h k x r s l =
      ap (width_from k (codes x ++ r)) (behind_not 91 [] (codes x ++ r) (front_not 91 (codes x ++ r) refl (name_starts x r s)))
  width_reads (upto h) t k x r s l =
      ap (read_width k) grouped ∙ rw (sizes env names h k (codes ":0] " ++ (codes x ++ r)) l refl t.0 t.1) refl
    where
      grouped : (codes "[" ++ (size_text h ++ codes ":0] ")) ++ (codes x ++ r) ≡ codes "[" ++
          (size_text h ++ (codes ":0] " ++ (codes x ++ r)))
      grouped = simp append_assoc
  width_reads (wide h) t k x r s l =
      ap (read_width k) grouped ∙ rw (sizes env names h k (codes "-1:0] " ++ (codes x ++ r)) l refl t.0 t.1) refl
    where
      grouped : (codes "[" ++ (size_text h ++ codes "-1:0] ")) ++ (codes x ++ r) ≡ codes "[" ++
          (size_text h ++ (codes "-1:0] " ++ (codes x ++ r)))
      grouped = simp append_assoc

  wide_reads : {B : Type 0} → (w : Width) → ToldWidth env w → (k : ℕ) (x : String) (r : List ℕ) → spelt (codes x) ≡ true →
      starts in_name r ≡ false → width_cost w ≤ k → (f : Width → String → List ℕ → Option B) →
      wide_item k (Some (width_text w ++ (codes x ++ r))) f ≡ f w x r
  wide_reads w h k x r s e l f =
      ap (λ o. go_on o (λ w u. named_item u (f w))) (width_reads w h k x r s l)
      ∙ ap (λ y. f w y (rest in_name (codes x ++ r))) (name_front x r s e) ∙ ap (f w x) (name_rest x r s e)

  -- the body
  by_word : (k : ℕ) (x : String) (cs t : List ℕ) → spelt (codes x) ≡ true → starts in_name t ≡ false → next false cs ≡ codes x ++ t →
      read_body env (suc k) cs ≡ body_by env k (λ env. read_body env k) x t
  by_word k x cs t s e h =
      ap (λ cs. body_by env k (λ env. read_body env k) (text_of (front in_name cs)) (rest in_name cs)) h
      ∙ rw (name_front x t s e, name_rest x t s e) refl

  one_item : (k : ℕ) (x : String) (t u r : List ℕ) (i : Item) (is : List Item) (z cs : List ℕ) → spelt (codes x) ≡ true →
      starts in_name t ≡ false → eqt x "endmodule" ≡ false → cs ≡ codes "  " ++ (codes x ++ t) → read_item env k x t ≡ Some (i, u) →
      next false u ≡ next false r → read_body (declared env i) k r ≡ Some (is, z) → read_body env (suc k) cs ≡ Some (i ∷ is, z)
  one_item k x t u r i is z cs s e o h j f g =
      ap (read_body env (suc k)) h
      ∙ by_word k x (codes "  " ++ (codes x ++ t)) t s e (next_visible (codes x ++ t) (seen_front (codes x ++ t) (name_primary x t s)))
      ∙ rw (o, j, body_same (declared env i) k u r f, g) refl

  size_reads : (k : ℕ) (x : String) (n : ℕ) (r : List ℕ) → identifier x ≡ true → n < 10 ^ 64 →
      read_item env k "localparam" (codes " " ++ (codes x ++ (codes " = " ++ (decimal n ++ (59 ∷ r))))) ≡ Some (size x n, 59 ∷ r)
  size_reads k x n r i l =
      wide_reads one _ k x (codes " = " ++ (decimal n ++ (59 ∷ r))) (spelling x i) refl (omega arith) read_param
      ∙ rw (number_front n (59 ∷ r) l refl, number_rest n (59 ∷ r) l refl) refl

  constant_reads : (k : ℕ) (w : Width) (x : String) (n : ℕ) (r : List ℕ) → ToldItem env (constant w x n) → width_cost w ≤ k →
      read_item env k "localparam" (codes " " ++ (width_text w ++ (codes x ++ (codes " = " ++ (bits_text w ++ (codes "'d" ++
      (decimal n ++ (59 ∷ r)))))))) ≡ Some (constant w x n, 59 ∷ r)
  constant_reads k w x n r h l =
      wide_reads w h.1 k x (codes " = " ++ (bits_text w ++ number)) (spelling x h.0) refl l read_param
      ∙ rw (rest_of digit (bits_text w) number h.2 refl, number_front n (59 ∷ r) h.3 refl, number_rest n (59 ∷ r) h.3 refl) refl
    where
      number : List ℕ
      number = codes "'d" ++ (decimal n ++ (59 ∷ r))

  reg_reads : (k : ℕ) (w : Width) (x : String) (r : List ℕ) → ToldItem env (reg w x) → width_cost w ≤ k →
      read_item env k "reg" (codes " " ++ (width_text w ++ (codes x ++ (59 ∷ r)))) ≡ Some (reg w x, 59 ∷ r)
  reg_reads k w x r h l =
      wide_reads w h.1 k x (59 ∷ r) (spelling x h.0) refl l (λ w y u. reg_end k w y u (behind (codes " [0:") u))

  memory_reads : (k : ℕ) (w : Width) (x : String) (m : Size) (r : List ℕ) → ToldItem env (memory w x m) → width_cost w ≤ k →
      size_depth m ≤ k → read_item env k "reg" (codes " " ++ (width_text w ++ (codes x ++ (codes " [0:" ++ (size_text m ++
      (codes "-1]" ++ r)))))) ≡ Some (memory w x m, r)
  memory_reads k w x m r h l d =
      wide_reads w h.1 k x (codes " [0:" ++ (size_text m ++ (codes "-1]" ++ r))) (spelling x h.0) refl l
      (λ w y u. reg_end k w y u (behind (codes " [0:") u))
      ∙ rw (sizes env names m k (codes "-1]" ++ r) d refl h.2.0 h.2.1) refl

  wire_reads : (k : ℕ) (w : Width) (x : String) (e : _) (r : List ℕ) → ToldItem env (wire w x e) → width_cost w ≤ k → depth e ≤ k →
      read_item env k "wire" (codes " " ++ (width_text w ++ (codes x ++ (codes " = " ++ (expr_text false e ++ (59 ∷ r)))))) ≡
      Some (wire w x e, 59 ∷ r)
  wire_reads k w x e r h l d =
      wide_reads w h.1 k x (codes " = " ++ (expr_text false e ++ (59 ∷ r))) (spelling x h.0) refl l (read_wire (read false env k))
      ∙ rw (expr_reads env names e h.2 k (59 ∷ r) d (stops_at 59 r refl refl refl refl)) refl

  block_reads : (b : Bool) (k : ℕ) (s : Stmt) (r : List ℕ) → ToldStmt env s → cost s + 1 ≤ k →
      read_block env b k (10 ∷ (stmt_text (sign b) 2 s ++ (codes "  end" ++ (10 ∷ r)))) ≡ Some (onto s skip, 10 ∷ r)
  block_reads b k s r h l =
      read_same env names b k (10 ∷ (stmt_text (sign b) 2 s ++ (codes "  end" ++ (10 ∷ r)))) (stmt_text (sign b) 2 s ++
      (codes "  end" ++ (10 ∷ r))) refl
      ∙ lines env names b s h 2 1 (codes "  end" ++ (10 ∷ r)) skip (10 ∷ r) (ending env names b 1 1 (10 ∷ r) (omega arith) refl) k l

  settles_reads : (k : ℕ) (s : Stmt) (r : List ℕ) → ToldStmt env s → cost s + 1 ≤ k →
      read_item env k "always" (codes " @* begin" ++ (10 ∷ (stmt_text (sign true) 2 s ++ (codes "  end" ++ (10 ∷ r))))) ≡
      Some (settles (onto s skip), 10 ∷ r)
  settles_reads k s r h l = rw (block_reads true k s r h l) refl

  clocked_reads : (k : ℕ) (s : Stmt) (r : List ℕ) → ToldStmt env s → cost s + 1 ≤ k →
      read_item env k "always" (codes " @(posedge clk) begin" ++ (10 ∷ (stmt_text (sign false) 2 s ++ (codes "  end" ++ (10 ∷ r))))) ≡
      Some (clocked (onto s skip), 10 ∷ r)
  clocked_reads k s r h l = rw (block_reads false k s r h l) refl

-- what stands behind all items
abbrev pub finish : List ℕ
finish = codes "endmodule\n"

-- the reader goes on at least once
positive : (is : List Item) → body_cost is ≤ 0 → ⊥
positive [] l = omega (arith, l)
positive (note s ∷ is) l = positive is l
positive (gap ∷ is) l = positive is l
positive (input w x ∷ is) l = positive is l
positive (output w x ∷ is) l = positive is l
positive (size x n ∷ is) l = omega (arith, l)
positive (constant w x n ∷ is) l = omega (arith, l)
positive (reg w x ∷ is) l = omega (arith, l)
positive (memory w x k ∷ is) l = omega (arith, l)
positive (wire w x e ∷ is) l = omega (arith, l)
positive (settles s ∷ is) l = omega (arith, l)
positive (clocked s ∷ is) l = omega (arith, l)

-- all items of the body
pub body_reads : (is : List Item) (env : List Entry) → names_ok env ≡ true → no_port is ≡ true → ToldItems env is → (k : ℕ) →
    body_cost is ≤ k → read_body env k (items_text is ++ finish) ≡ Some (body_of is, 10 ∷ [])
body_reads is env n p h zero l = absurd (positive is l)
body_reads [] env n p h (suc k) l = by_word env n k "endmodule" (codes "endmodule\n") (10 ∷ []) refl refl refl
body_reads (note s ∷ is) env n p h (suc k) l =
    body_same env (suc k) (items_text (note s ∷ is) ++ finish) (items_text is ++ finish)
    (ap (next false) grouped ∙ comment_line (codes s) (items_text is ++ finish) h.0)
    ∙ body_reads is env n p h.1 (suc k) l
  where
    grouped : ((codes "  // " ++ (codes s ++ codes "\n")) ++ items_text is) ++ finish ≡
        codes "  // " ++ (codes s ++ (10 ∷ (items_text is ++ finish)))
    grouped = simp append_assoc
body_reads (gap ∷ is) env n p h (suc k) l =
    body_same env (suc k) (10 ∷ (items_text is ++ finish)) (items_text is ++ finish) refl
    ∙ body_reads is env n p h.1 (suc k) l
body_reads (input w x ∷ is) env n p h (suc k) l = absurd cc
body_reads (output w x ∷ is) env n p h (suc k) l = absurd cc
body_reads (size x m ∷ is) env n p h (suc k) l =
    one_item env n k "localparam"
    (codes " " ++ (codes x ++ (codes " = " ++ (decimal m ++ (59 ∷ 10 ∷ (items_text is ++ finish))))))
    (59 ∷ 10 ∷ (items_text is ++ finish)) (items_text is ++ finish) (size x m) (body_of is) (10 ∷ []) (items_text (size x m ∷ is) ++
    finish) refl refl refl (simp append_assoc)
    (size_reads env n k x m (10 ∷ (items_text is ++ finish)) h.0.0 h.0.1) refl
    (body_reads is (declared env (size x m)) (names_more env (size x m) n h.0) p h.1 k (omega (arith, l)))
body_reads (constant w x m ∷ is) env n p h (suc k) l =
    one_item env n k "localparam"
    (codes " " ++ (width_text w ++ (codes x ++ (codes " = " ++
    (bits_text w ++ (codes "'d" ++ (decimal m ++ (59 ∷ 10 ∷ (items_text is ++ finish)))))))))
    (59 ∷ 10 ∷ (items_text is ++ finish)) (items_text is ++ finish) (constant w x m) (body_of is) (10 ∷ [])
    (items_text (constant w x m ∷ is) ++ finish) refl refl refl (simp append_assoc)
    (constant_reads env n k w x m (10 ∷ (items_text is ++ finish)) h.0 (omega (arith, l))) refl
    (body_reads is (declared env (constant w x m)) (names_more env (constant w x m) n h.0) p h.1 k (omega (arith, l)))
body_reads (reg w x ∷ is) env n p h (suc k) l =
    one_item env n k "reg"
    (codes " " ++ (width_text w ++ (codes x ++ (59 ∷ 10 ∷ (items_text is ++ finish)))))
    (59 ∷ 10 ∷ (items_text is ++ finish)) (items_text is ++ finish) (reg w x) (body_of is) (10 ∷ []) (items_text (reg w x ∷ is) ++ finish)
    refl refl refl (simp append_assoc)
    (reg_reads env n k w x (10 ∷ (items_text is ++ finish)) h.0 (omega (arith, l))) refl
    (body_reads is (declared env (reg w x)) (names_more env (reg w x) n h.0) p h.1 k (omega (arith, l)))
body_reads (memory w x m ∷ is) env n p h (suc k) l =
    one_item env n k "reg"
    (codes " " ++ (width_text w ++ (codes x ++ (codes " [0:" ++ (size_text m ++ (codes "-1]" ++ (59 ∷ 10 ∷ (items_text is ++ finish))))))))
    (59 ∷ 10 ∷ (items_text is ++ finish)) (items_text is ++ finish) (memory w x m) (body_of is) (10 ∷ [])
    (items_text (memory w x m ∷ is) ++ finish) refl refl refl (simp append_assoc)
    (memory_reads env n k w x m (59 ∷ 10 ∷ (items_text is ++ finish)) h.0 (omega (arith, l)) (omega (arith, l))) refl
    (body_reads is (declared env (memory w x m)) (names_more env (memory w x m) n h.0) p h.1 k (omega (arith, l)))
body_reads (wire w x e ∷ is) env n p h (suc k) l =
    one_item env n k "wire"
    (codes " " ++ (width_text w ++ (codes x ++ (codes " = " ++ (expr_text false e ++ (59 ∷ 10 ∷ (items_text is ++ finish)))))))
    (59 ∷ 10 ∷ (items_text is ++ finish)) (items_text is ++ finish) (wire w x e) (body_of is) (10 ∷ []) (items_text (wire w x e ∷ is) ++
    finish) refl refl refl (simp append_assoc)
    (wire_reads env n k w x e (10 ∷ (items_text is ++ finish)) h.0 (omega (arith, l)) (omega (arith, l))) refl
    (body_reads is (declared env (wire w x e)) (names_more env (wire w x e) n h.0) p h.1 k (omega (arith, l)))
body_reads (settles s ∷ is) env n p h (suc k) l =
    one_item env n k "always"
    (codes " @* begin" ++ (10 ∷ (stmt_text (sign true) 2 s ++ (codes "  end" ++ (10 ∷ (items_text is ++ finish))))))
    (10 ∷ (items_text is ++ finish)) (items_text is ++ finish) (settles (onto s skip)) (body_of is) (10 ∷ [])
    (items_text (settles s ∷ is) ++ finish) refl refl refl (simp append_assoc)
    (settles_reads env n k s (items_text is ++ finish) h.0 (omega (arith, l))) refl
    (body_reads is (declared env (settles s)) (names_more env (settles s) n h.0) p h.1 k (omega (arith, l)))
body_reads (clocked s ∷ is) env n p h (suc k) l =
    one_item env n k "always"
    (codes " @(posedge clk) begin" ++ (10 ∷ (stmt_text (sign false) 2 s ++ (codes "  end" ++ (10 ∷ (items_text is ++ finish))))))
    (10 ∷ (items_text is ++ finish)) (items_text is ++ finish) (clocked (onto s skip)) (body_of is) (10 ∷ [])
    (items_text (clocked s ∷ is) ++ finish) refl refl refl (simp append_assoc)
    (clocked_reads env n k s (items_text is ++ finish) h.0 (omega (arith, l))) refl
    (body_reads is (declared env (clocked s)) (names_more env (clocked s) n h.0) p h.1 k (omega (arith, l)))

-- the ports
ports_end : (is : List Item) (r : List ℕ) → starts in_name (more_ports is ++ (10 ∷ r)) ≡ false
ports_end [] r = refl
ports_end (input w x ∷ is) r = refl
ports_end (output w x ∷ is) r = refl
ports_end (i ∷ is) r = ports_end is r

-- they are read
pub ports_read : (is : List Item) (env : List Entry) → names_ok env ≡ true → ToldItems env is → (k : ℕ) (r : List ℕ) → ports_cost is ≤ k →
    read_ports k (more_ports is ++ (10 ∷ 41 ∷ r)) ≡ Some (ports_of is, 41 ∷ r)
ports_read [] env n h zero r l = absurd (omega (arith, l))
ports_read [] env n h (suc k) r l = refl
ports_read (input w x ∷ is) env n h zero r l = absurd (omega (arith, l))
ports_read (input w x ∷ is) env n h (suc k) r l =
    ap (read_ports (suc k)) grouped
    ∙ rw (name_front "input" after refl refl)
    (wide_reads env n w h.0.1 k x (more_ports is ++ (10 ∷ 41 ∷ r)) (spelling x h.0.0) (ports_end is (41 ∷ r)) (omega (arith, l))
    (λ w y u. go_on (read_ports k u) (λ is z. Some (input w y ∷ is, z)))
    ∙ ap (λ o. go_on o (λ is z. Some (input w x ∷ is, z)))
    (ports_read is (declared env (input w x)) (names_more env (input w x) n h.0) h.1 k r (omega (arith, l))))
  where
    after : List ℕ
    after = codes " wire " ++ (width_text w ++ (codes x ++ (more_ports is ++ (10 ∷ 41 ∷ r))))

    grouped : more_ports (input w x ∷ is) ++ (10 ∷ 41 ∷ r) ≡ codes ",\n  " ++ (codes "input" ++ after)
    grouped = simp append_assoc
ports_read (output w x ∷ is) env n h zero r l = absurd (omega (arith, l))
ports_read (output w x ∷ is) env n h (suc k) r l =
    ap (read_ports (suc k)) grouped
    ∙ rw (name_front "output" after refl refl)
    (wide_reads env n w h.0.1 k x (more_ports is ++ (10 ∷ 41 ∷ r)) (spelling x h.0.0) (ports_end is (41 ∷ r)) (omega (arith, l))
    (λ w y u. go_on (read_ports k u) (λ is z. Some (output w y ∷ is, z)))
    ∙ ap (λ o. go_on o (λ is z. Some (output w x ∷ is, z)))
    (ports_read is (declared env (output w x)) (names_more env (output w x) n h.0) h.1 k r (omega (arith, l))))
  where
    after : List ℕ
    after = codes " reg " ++ (width_text w ++ (codes x ++ (more_ports is ++ (10 ∷ 41 ∷ r))))

    grouped : more_ports (output w x ∷ is) ++ (10 ∷ 41 ∷ r) ≡ codes ",\n  " ++ (codes "output" ++ after)
    grouped = simp append_assoc
ports_read (i ∷ is) env n h k r l = ports_read is (declared env i) (names_more env i n h.0) h.1 k r l

-- all of a module
after_ports : (is : List Item) (env : List Entry) → names_ok env ≡ true → ports_first is ≡ true → ToldItems env is → (k : ℕ) →
    body_cost is ≤ k → read_body (all_declared env (ports_of is)) k (items_text is ++ finish) ≡ Some (body_of is, 10 ∷ [])
after_ports (input w x ∷ is) env n p h k l = after_ports is (declared env (input w x)) (names_more env (input w x) n h.0) p h.1 k l
after_ports (output w x ∷ is) env n p h k l = after_ports is (declared env (output w x)) (names_more env (output w x) n h.0) p h.1 k l
after_ports is env n p h k l =
    ap (λ ps. read_body (all_declared env ps) k (items_text is ++ finish)) (no_ports is p) ∙ body_reads is env n p h k l

ports_same : (k : ℕ) (r s : List ℕ) → next false r ≡ next false s → read_ports k r ≡ read_ports k s
ports_same zero r s e = refl
ports_same (suc k) r s e =
    ap (λ cs. cond (starts (nat_eq 41) cs) (Some ([], cs)) (port_by k (read_ports k) (text_of (front in_name cs)) (rest in_name cs))) e

first_port : (is : List Item) (r : List ℕ) → next false (ports_text is ++ r) ≡ next false (more_ports is ++ r)
first_port [] r = refl
first_port (input w x ∷ is) r = refl
first_port (output w x ∷ is) r = refl
first_port (i ∷ is) r = refl

-- what stands behind the name of a module
abbrev pub behind_name : List Item → List ℕ
behind_name is = codes " (\n" ++ (ports_text is ++ (codes "\n);\n" ++ (items_text is ++ finish)))

-- ports and body are read
pub module_reads : (is : List Item) → ports_first is ≡ true → ToldItems [] is → (k : ℕ) → ports_cost is ≤ k → body_cost is ≤ k →
    when (behind (codes " (") (behind_name is)) (read_module k) ≡ Some ((ports_of is, body_of is), 10 ∷ [])
module_reads is p h k l m =
    rw (
      ports_same k (10 ∷ (ports_text is ++ (codes "\n);\n" ++ (items_text is ++ finish)))) (more_ports is ++
          (codes "\n);\n" ++ (items_text is ++ finish)))
          (first_port is (codes "\n);\n" ++ (items_text is ++ finish)))
          ∙ ports_read is [] refl h k (codes ";\n" ++ (items_text is ++ finish)) l,
      body_same (all_declared [] (ports_of is)) k (codes ";\n" ++ (items_text is ++ finish)) (items_text is ++ finish) refl
          ∙ after_ports is [] refl p h k m,
    ) refl
