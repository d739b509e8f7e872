-- The reader of statements reads what is printed.
use Rattle.std.proofs.Common.{◌≡◌, ℕ, zero, suc, ◌+◌, ◌/◌, ◌%◌, ◌≤◌, Bool, true, false, cond, List, [], ◌∷◌, ◌++◌, Some, None}
use Rattle.std.proofs.Common.{refl, sym, ap, ◌∙◌, subst, codes, append_assoc, arith}
use Rattle.std.specs.Prelude.{not, ◌&&◌, ◌||◌, nat_eq, decimal}
use Rattle.std.proofs.lemmas.Bool.{and_parts, and_from, or_parts, not-true, both_ways, ne_eqb, lt-ltb, false_from_ne_true}
use Rattle.std.specs.Fmt.{digits, digits_onto, digit_glyph}
use Prim.Native.String.{String}
use lib.Chars.{text_of}
use lib.Dec.{T}
use lib.Text.{eqt, eqt→eq}
use Rattle.verilog_tree.specs.Tree.{Expr, num, sized, const, name, bit, part, word, cat, inverse, two, shift, test, logic, none, any}
use Rattle.verilog_tree.specs.Tree.{every, pick, Target, whole, word_at, Stmt, skip, put, seq, branch, cases, Said, word_said}
use Rattle.verilog_tree.specs.Tree.{number_said, Arms, otherwise, arm}
use Rattle.verilog_tree.specs.Print.{two_sign, shift_sign, test_sign, logic_sign}
use Rattle.verilog_tree.specs.Print.{straight, expr_text, put_text, indent, more_labels, parts_text, said_text}
use Rattle.verilog_tree.specs.Print.{flat_text, arm_block, is_skip, else_text, stmt_text, arms_text}
use Rattle.verilog_tree.specs.WellFormed.{Entry, of_kind, parameter, vector, spelt, keywords, member, identifier, one_line, said_ok}
use Rattle.verilog_tree.specs.WellFormed.{expr_ok}
use Rattle.verilog_texts.specs.Small.{names_ok, Small}
use Rattle.verilog_texts.proofs.Pieces.{front, rest, starts, behind, in_name, starts_more, declared_word}
use Rattle.verilog_texts.proofs.Reader.{primary, read}
use Rattle.verilog_texts.proofs.Exact.{Stops, ends_at, stops_at, name_front, name_rest, name_primary, depth, atom}
use Rattle.verilog_texts.proofs.Exact.{name_reads, operand_starts, reads}
use Rattle.verilog_texts.proofs.Blocks.{onto, tidy, blank, next, sign, is_default}
use Rattle.verilog_texts.proofs.Blocks.{statement, read_labels, read_arm, read_block, read_arms}

-- what a word begins with
abbrev pub visible : ℕ → Bool
visible c = not (blank c || nat_eq 47 c)

pub other_character : (p : ℕ → Bool) (d c : ℕ) → p d ≡ false → p c ≡ true → nat_eq d c ≡ false
other_character p d c f t = ne_eqb d c (λ e. both_ways (p c) (subst (λ z. p z ≡ false) e f) t)

seen : (c : ℕ) → primary c ≡ true → visible c ≡ true
seen c t =
    let a = other_character primary in
    rw (a 32 c refl t, a 10 c refl t, a 44 c refl t, a 59 c refl t, a 47 c refl t) refl

pub seen_front : (cs : List ℕ) → starts primary cs ≡ true → starts visible cs ≡ true
seen_front [] e = cc
seen_front (c ∷ cs) e = seen c e

pub next_visible : (cs : List ℕ) → starts visible cs ≡ true → next false cs ≡ cs
next_visible [] e = refl
next_visible (c ∷ cs) e =
    let p = or_parts (blank c) (nat_eq 47 c) (not-true (blank c || nat_eq 47 c) e) in
    rw (p.0, p.1) refl

-- how far in a line begins is lost
pub next_indent : (n : ℕ) (r : List ℕ) → next false (indent n ++ r) ≡ next false r
next_indent zero r = refl
next_indent (suc n) r = next_indent n r

-- and so is a comment
one_more : (cs ds : List ℕ) → one_line cs ≡ true → one_line ds ≡ true → one_line (cs ++ ds) ≡ true
one_more [] ds h i = i
one_more (c ∷ cs) ds h i =
    let p = and_parts (not (nat_eq c 10 || nat_eq c 13)) (one_line cs) h in
    and_from (not (nat_eq c 10 || nat_eq c 13)) (one_line (cs ++ ds)) p.0 (one_more cs ds p.1 i)

digit_line : (c : ℕ) → 48 ≤ c → not (nat_eq c 10 || nat_eq c 13) ≡ true
digit_line c h = rw (ne_eqb c 10 (λ e. omega (arith, h, e)), ne_eqb c 13 (λ e. omega (arith, h, e))) refl

glyph_line : (c : ℕ) → not (nat_eq (digit_glyph false (c % 10)) 10 || nat_eq (digit_glyph false (c % 10)) 13) ≡ true
glyph_line c =
    rw (lt-ltb (c % 10) 10 (omega arith)) (digit_line (48 + c % 10) (omega arith))

-- no line ends in digits
digits_line : (k n : ℕ) (ds : List ℕ) → one_line ds ≡ true → one_line (digits_onto k 10 false n ds) ≡ true
digits_line zero n ds h = h
digits_line (suc k) n ds h =
    go (nat_eq (n / 10) 0) (and_from _ (one_line ds) (glyph_line n) h)
    (digits_line k (n / 10) (digit_glyph false (n % 10) ∷ ds) (and_from _ (one_line ds) (glyph_line n) h))
  where
    go : (t : Bool) → one_line (digit_glyph false (n % 10) ∷ ds) ≡ true →
        one_line (digits_onto k 10 false (n / 10) (digit_glyph false (n % 10) ∷ ds)) ≡ true →
        one_line (cond t (digit_glyph false (n % 10) ∷ ds) (digits_onto k 10 false (n / 10) (digit_glyph false (n % 10) ∷ ds))) ≡ true
    go true more down = more
    go false more down = down

number_line : (n : ℕ) → one_line (decimal n) ≡ true
unfolding digits
number_line n = digits_line 64 n [] refl

parts_line : (ps : List Said) → said_ok ps ≡ true → one_line (parts_text ps) ≡ true
parts_line [] h = refl
parts_line (word_said s ∷ ps) h =
    let p = and_parts (one_line (codes s)) (said_ok ps) h in one_more (codes s) (parts_text ps) p.0 (parts_line ps p.1)
parts_line (number_said n ∷ ps) h = one_more (decimal n) (parts_text ps) (number_line n) (parts_line ps h)

pub comment_line : (cs r : List ℕ) → one_line cs ≡ true → next true (cs ++ (10 ∷ r)) ≡ next false r
comment_line [] r h = refl
comment_line (c ∷ cs) r h =
    let p = and_parts (not (nat_eq c 10 || nat_eq c 13)) (one_line cs) h in
    let q = or_parts (nat_eq c 10) (nat_eq c 13) (not-true (nat_eq c 10 || nat_eq c 13) p.0) in
    ap (λ b. next (not b) (cs ++ (10 ∷ r))) (turned c q.0) ∙ comment_line cs r p.1
  where
    turned : (c : ℕ) → nat_eq c 10 ≡ false → nat_eq 10 c ≡ false
    turned c h = ne_eqb 10 c (λ e. both_ways (nat_eq c 10) h (subst (λ z. nat_eq z 10 ≡ true) e refl))

said_next : (c : List Said) (r : List ℕ) → said_ok c ≡ true → next false (said_text c ++ r) ≡ next false r
said_next [] r h = refl
said_next (p ∷ ps) r h =
    ap (next true) (append_assoc (parts_text (p ∷ ps)) (10 ∷ []) r) ∙ comment_line (parts_text (p ∷ ps)) r (parts_line (p ∷ ps) h)

said_ends : (c : List Said) (r : List ℕ) → starts in_name (said_text c ++ r) ≡ false
said_ends [] r = refl
said_ends (p ∷ ps) r = refl

-- a name is no keyword
pub other_word : (x w : String) → identifier x ≡ true → member w keywords ≡ true → eqt x w ≡ false
other_word x w i m =
    let n = not-true (member x keywords) (and_parts (spelt (codes x)) (not (member x keywords)) i).1 in
    false_from_ne_true (eqt x w) (λ e. both_ways (member x keywords) n
    (subst (λ z. member z keywords ≡ true) (sym (eqt→eq x w (subst T (sym e) tt))) m))

pub spelling : (x : String) → identifier x ≡ true → spelt (codes x) ≡ true
spelling x i = (and_parts (spelt (codes x)) (not (member x keywords)) i).0

sign_read : (b : Bool) (t : List ℕ) → behind (sign b) (sign b ++ t) ≡ Some t
sign_read true t = refl
sign_read false t = refl

sign_ends : (b : Bool) (t : List ℕ) → starts in_name (sign b ++ t) ≡ false
sign_ends true t = refl
sign_ends false t = refl

sign_no_index : (b : Bool) (t : List ℕ) → behind (codes "[") (sign b ++ t) ≡ None
sign_no_index true t = refl
sign_no_index false t = refl

-- how far the reader has to go
abbrev target_cost : Target → ℕ
target_cost (whole x) = 0
target_cost (word_at m e) = depth e

abbrev labels_cost : List Expr → ℕ
labels_cost [] = 1
labels_cost (e ∷ es) = suc (depth e + labels_cost es)

abbrev mutual
  pub cost : Stmt → ℕ
  cost skip = 0
  cost (put t e) = suc (target_cost t + depth e)
  cost (seq s t) = cost s + cost t
  cost (branch e s t) = suc (depth e + suc (cost s) + suc (cost t))
  cost (cases e arms) = suc (depth e + arms_cost arms)

  pub arms_cost : Arms → ℕ
  arms_cost (otherwise s) = suc (cost s + 2)
  arms_cost (arm [] s c arms) = 0
  arms_cost (arm (e ∷ es) s c arms) = suc (depth e + labels_cost es + suc (cost s) + arms_cost arms)

labels_stop : (es : List Expr) (r : List ℕ) → Stops (more_labels es ++ (58 ∷ r))
labels_stop [] r = stops_at 58 r refl refl refl refl
labels_stop (e ∷ es) r = stops_at 44 _ refl refl refl refl

module _ (env : List Entry) where
  -- an expression whose names are declared, and whose numbers their text tells
  abbrev pub Told : Expr → Type 0
  Told e = (expr_ok env e ≡ true) × Small e

  abbrev pub ToldTarget : Target → Type 0
  ToldTarget (whole x) = identifier x ≡ true
  ToldTarget (word_at m e) = (identifier m ≡ true) × Told e

  abbrev pub ToldLabels : List Expr → Type 0
  ToldLabels [] = Unit {0}
  ToldLabels (e ∷ es) = Told e × ToldLabels es

  -- statements of such
  abbrev mutual
    pub ToldStmt : Stmt → Type 0
    ToldStmt skip = Unit {0}
    ToldStmt (put t e) = ToldTarget t × Told e
    ToldStmt (seq s t) = ToldStmt s × ToldStmt t
    ToldStmt (branch e s t) = Told e × ToldStmt s × ToldStmt t
    ToldStmt (cases e arms) = Told e × ToldArms arms

    pub ToldArms : Arms → Type 0
    ToldArms (otherwise s) = ToldStmt s
    ToldArms (arm [] s c arms) = ⊥
    ToldArms (arm (e ∷ es) s c arms) = Told e × ToldLabels es × ToldStmt s × (said_ok c ≡ true) × ToldArms arms

module _ (env : List Entry) (names : names_ok env ≡ true) where
  -- an expression is read, where what stands behind it doesn't go on with it
  pub expr_reads : (e : Expr) → Told env e → (k : ℕ) (r : List ℕ) → depth e ≤ k → Stops r → read false env k (expr_text false e ++ r) ≡
      Some (e, r)
  expr_reads e h k r l s = reads env names e false h.0 h.1 k r l s

  operand_seen : (e : Expr) (r : List ℕ) → Told env e → starts visible (expr_text true e ++ r) ≡ true
  operand_seen e r h = seen_front (expr_text true e ++ r) (operand_starts env names e r h.0 h.1)

  first_seen : (e : Expr) (r t : List ℕ) → expr_ok env e ≡ true → Small e → starts visible ((expr_text true e ++ t) ++ r) ≡ true
  first_seen e r t p q = starts_more visible (expr_text true e ++ t) r (operand_seen e t (p, q))

  module _ (b : Bool) where
    abbrev pub Goes : ℕ → List ℕ → Stmt → List ℕ → Type 0
    Goes m r t z = (k : ℕ) → m ≤ k → read_block env b k r ≡ Some (t, z)

    pub read_same : (k : ℕ) (r s : List ℕ) → next false r ≡ next false s → read_block env b k r ≡ read_block env b k s
    read_same zero r s e = refl
    read_same (suc k) r s e =
        ap (λ cs. statement b (read false env k) (read_arms env b k) (read_block env b k) (text_of (front in_name cs)) (rest in_name cs)) e

    goes_next : (m : ℕ) (r s : List ℕ) (t : Stmt) (z : List ℕ) → next false r ≡ next false s → Goes m s t z → Goes m r t z
    goes_next m r s t z e g k l = read_same k r s e ∙ g k l

    -- a statement by its first word
    by_word : (k : ℕ) (x : String) (cs r : List ℕ) → spelt (codes x) ≡ true → starts in_name r ≡ false → next false cs ≡ codes x ++ r →
        read_block env b (suc k) cs ≡ statement b (read false env k) (read_arms env b k) (read_block env b k) x r
    by_word k x cs r s e h =
        ap (λ cs. statement b (read false env k) (read_arms env b k) (read_block env b k) (text_of (front in_name cs)) (rest in_name cs)) h
        ∙ rw (name_front x r s e, name_rest x r s e) refl

    word_next : (x : String) (r : List ℕ) → spelt (codes x) ≡ true → next false (codes x ++ r) ≡ codes x ++ r
    word_next x r s = next_visible (codes x ++ r) (seen_front (codes x ++ r) (name_primary x r s))

    -- the end of a block
    pub ending : (n m : ℕ) (r : List ℕ) → 1 ≤ m → starts in_name r ≡ false → Goes m (indent n ++ (codes "end" ++ r)) skip r
    ending n m r p e zero l = absurd (omega (arith, l, p))
    ending n m r p e (suc k) l = by_word k "end" (indent n ++ (codes "end" ++ r)) r refl e (next_indent n (codes "end" ++ r))

    -- an assignment
    put_whole : (x : String) (e : Expr) (m : ℕ) (r : List ℕ) (s : Stmt) (z : List ℕ) → identifier x ≡ true → Told env e → Goes m r s z →
        Goes (suc (depth e + m)) (codes x ++ (sign b ++ (expr_text false e ++ (59 ∷ r)))) (seq (put (whole x) e) s) z
    put_whole x e m r s z i h g zero l = absurd (omega (arith, l))
    put_whole x e m r s z i h g (suc k) l =
        by_word k x (codes x ++ (sign b ++ after)) (sign b ++ after) (spelling x i) (sign_ends b after)
        (word_next x (sign b ++ after) (spelling x i))
        ∙ rw (
          other_word x "end" i refl,
          other_word x "if" i refl,
          other_word x "case" i refl,
          sign_no_index b after,
          sign_read b after,
          expr_reads e h k (59 ∷ r) (omega (arith, l)) (stops_at 59 r refl refl refl refl),
          goes_next m (59 ∷ r) r s z refl g k (omega (arith, l)),
        ) refl
      where
        after : List ℕ
        after = expr_text false e ++ (59 ∷ r)

    put_word : (x : String) (i e : Expr) (m : ℕ) (r : List ℕ) (s : Stmt) (z : List ℕ) → identifier x ≡ true → Told env i → Told env e →
        Goes m r s z → Goes (suc (depth i + depth e + m))
        (codes x ++ (91 ∷ (expr_text false i ++ (93 ∷ (sign b ++ (expr_text false e ++ (59 ∷ r))))))) (seq (put (word_at x i) e) s) z
    put_word x i e m r s z p q h g zero l = absurd (omega (arith, l))
    put_word x i e m r s z p q h g (suc k) l =
        by_word k x (codes x ++ (91 ∷ index)) (91 ∷ index) (spelling x p) refl (word_next x (91 ∷ index) (spelling x p))
        ∙ rw (
          other_word x "end" p refl,
          other_word x "if" p refl,
          other_word x "case" p refl,
          expr_reads i q k (93 ∷ (sign b ++ after)) (omega (arith, l)) (stops_at 93 (sign b ++ after) refl refl refl refl),
          sign_read b after,
          expr_reads e h k (59 ∷ r) (omega (arith, l)) (stops_at 59 r refl refl refl refl),
          goes_next m (59 ∷ r) r s z refl g k (omega (arith, l)),
        ) refl
      where
        after : List ℕ
        after = expr_text false e ++ (59 ∷ r)

        index : List ℕ
        index = expr_text false i ++ (93 ∷ (sign b ++ after))

    -- lines of statements: they are read, and then what stands behind them
    abbrev pub Lines : ℕ → List ℕ → Stmt → Type 0
    Lines c ls s = (m : ℕ) (r : List ℕ) (t : Stmt) (z : List ℕ) → Goes m r t z → Goes (c + m) (ls ++ r) (onto s t) z

    goes_text : (m n : ℕ) (r s : List ℕ) (t : Stmt) (z : List ℕ) → m ≤ n → r ≡ s → Goes m s t z → Goes n r t z
    goes_text m n r s t z l e g k j = ap (read_block env b k) e ∙ g k (omega (arith, l, j))

    -- a branch without a second part
    branch_one : (n c : ℕ) (e : Expr) (ls : List ℕ) (s : Stmt) (m : ℕ) (r : List ℕ) (u : Stmt) (z : List ℕ) → Told env e → Lines c ls s →
        Goes m r u z → Goes (suc (depth e + suc c + m))
        (codes "if (" ++ (expr_text false e ++ (codes ") begin\n" ++ (ls ++ (indent n ++ (codes "end\n" ++ r))))))
        (seq (branch e (onto s skip) skip) u) z
    branch_one n c e ls s m r u z h i g zero l = absurd (omega (arith, l))
    branch_one n c e ls s m r u z h i g (suc k) l =
        by_word k "if" (codes "if (" ++ (expr_text false e ++ (codes ") begin" ++ (10 ∷ inside))))
        (codes " (" ++ (expr_text false e ++ (codes ") begin" ++ (10 ∷ inside)))) refl refl refl
        ∙ rw (
          expr_reads e h k (codes ") begin" ++ (10 ∷ inside)) (omega (arith, l)) (stops_at 41 _ refl refl refl refl),
          goes_next (c + 1) (10 ∷ inside) inside (onto s skip) (10 ∷ r) refl (i 1 (indent n ++ (codes "end" ++ (10 ∷ r))) skip (10 ∷ r)
              (ending n 1 (10 ∷ r) (omega arith) refl)) k (omega (arith, l)),
          goes_next m (10 ∷ r) r u z refl g k (omega (arith, l)),
        ) refl
      where
        inside : List ℕ
        inside = ls ++ (indent n ++ (codes "end" ++ (10 ∷ r)))

    -- and with one
    branch_two : (n c d : ℕ) (e : Expr) (ls : List ℕ) (s : Stmt) (lt : List ℕ) (t : Stmt) (m : ℕ) (r : List ℕ) (u : Stmt) (z : List ℕ) →
        Told env e → Lines c ls s → Lines d lt t → Goes m r u z → Goes (suc (depth e + suc c + suc d + m))
        (codes "if (" ++ (expr_text false e ++ (codes ") begin\n" ++ (ls ++ (indent n ++ (codes "end else begin\n" ++
        (lt ++ (indent n ++ (codes "end\n" ++ r))))))))) (seq (branch e (onto s skip) (onto t skip)) u) z
    branch_two n c d e ls s lt t m r u z h i j g zero l = absurd (omega (arith, l))
    branch_two n c d e ls s lt t m r u z h i j g (suc k) l =
        by_word k "if" (codes "if (" ++ (expr_text false e ++ (codes ") begin" ++ (10 ∷ inside))))
        (codes " (" ++ (expr_text false e ++ (codes ") begin" ++ (10 ∷ inside)))) refl refl refl
        ∙ rw (
          expr_reads e h k (codes ") begin" ++ (10 ∷ inside)) (omega (arith, l)) (stops_at 41 _ refl refl refl refl),
          goes_next (c + 1) (10 ∷ inside) inside (onto s skip) (codes " else begin" ++ (10 ∷ second)) refl
              (i 1 (indent n ++ (codes "end" ++ (codes " else begin" ++ (10 ∷ second)))) skip (codes " else begin" ++ (10 ∷ second))
              (ending n 1 (codes " else begin" ++ (10 ∷ second)) (omega arith) refl)) k (omega (arith, l)),
          goes_next (d + 1) (10 ∷ second) second (onto t skip) (10 ∷ r) refl (j 1 (indent n ++ (codes "end" ++ (10 ∷ r))) skip (10 ∷ r)
              (ending n 1 (10 ∷ r) (omega arith) refl)) k (omega (arith, l)),
          goes_next m (10 ∷ r) r u z refl g k (omega (arith, l)),
        ) refl
      where
        second : List ℕ
        second = lt ++ (indent n ++ (codes "end" ++ (10 ∷ r)))

        inside : List ℕ
        inside = ls ++ (indent n ++ (codes "end" ++ (codes " else begin" ++ (10 ∷ second))))

    -- arms are read, and what is left goes on as what stands behind them
    abbrev pub ArmsGo : ℕ → List ℕ → Arms → List ℕ → Type 0
    ArmsGo c ls a r = (w : List ℕ) × ((k : ℕ) → c ≤ k → read_arms env b k ls ≡ Some (a, w)) × (next false w ≡ next false r)

    abbrev pub BlockGoes : ℕ → List ℕ → Stmt → List ℕ → Type 0
    BlockGoes c cs s r = (w : List ℕ) × ((k : ℕ) → c ≤ k → read_block env b k cs ≡ Some (s, w)) × (next false w ≡ next false r)

    arms_same : (k : ℕ) (r s : List ℕ) → next false r ≡ next false s → read_arms env b k r ≡ read_arms env b k s
    arms_same zero r s e = refl
    arms_same (suc k) r s e =
        ap (λ cs. read_arm (read_labels k (read false env k)) (read_arms env b k) (read_block env b k) (read false env k cs)) e

    -- a case
    case_goes : (n c : ℕ) (e : Expr) (ls : List ℕ) (a : Arms) (m : ℕ) (r : List ℕ) (u : Stmt) (z : List ℕ) → Told env e →
        ((t : List ℕ) → ArmsGo c (ls ++ t) a t) → Goes m r u z → Goes (suc (depth e + c + m))
        (codes "case (" ++ (expr_text false e ++ (codes ")\n" ++ (ls ++ (indent n ++ (codes "endcase\n" ++ r)))))) (seq (cases e a) u) z
    case_goes n c e ls a m r u z h i g zero l = absurd (omega (arith, l))
    case_goes n c e ls a m r u z h i g (suc k) l =
        by_word k "case" (codes "case (" ++ (expr_text false e ++ (41 ∷ 10 ∷ inside)))
        (codes " (" ++ (expr_text false e ++ (41 ∷ 10 ∷ inside))) refl refl refl
        ∙ rw (
          expr_reads e h k (41 ∷ 10 ∷ inside) (omega (arith, l)) (stops_at 41 (10 ∷ inside) refl refl refl refl),
          arms_same k (10 ∷ inside) inside refl ∙ got.1 k (omega (arith, l)),
          ap (λ cs. rest in_name cs) got.2,
          next_indent n (codes "endcase" ++ (10 ∷ r)),
          goes_next m (10 ∷ r) r u z refl g k (omega (arith, l)),
        ) refl
      where
        behind_arms : List ℕ
        behind_arms = indent n ++ (codes "endcase" ++ (10 ∷ r))

        inside : List ℕ
        inside = ls ++ behind_arms

        got : ArmsGo c inside a behind_arms
        got = i behind_arms

    -- an expression is no blank at its front
    expr_seen : (e : Expr) (r : List ℕ) → Told env e → starts visible (expr_text false e ++ r) ≡ true
    expr_seen (num n) r h = operand_seen (num n) r h
    expr_seen (sized w n) r h = operand_seen (sized w n) r h
    expr_seen (const x) r h = operand_seen (const x) r h
    expr_seen (name x) r h = operand_seen (name x) r h
    expr_seen (bit x e) r h = operand_seen (bit x e) r h
    expr_seen (part x i j) r h = operand_seen (part x i j) r h
    expr_seen (word x e) r h = operand_seen (word x e) r h
    expr_seen (cat a c) r h = operand_seen (cat a c) r h
    expr_seen (inverse a) r h = refl
    expr_seen (none a) r h = refl
    expr_seen (any a) r h = refl
    expr_seen (every a) r h = refl
    expr_seen (two o a c) r h = first_seen a r (two_sign o ++ (expr_text true c ++ [])) (and_parts (expr_ok env a) (expr_ok env c) h.0).0
        h.1.0
    expr_seen (shift o a c) r h = first_seen a r (shift_sign o ++ (expr_text true c ++ [])) (and_parts (expr_ok env a) (expr_ok env c)
        h.0).0 h.1.0
    expr_seen (test o a c) r h = first_seen a r (test_sign o ++ (expr_text true c ++ [])) (and_parts (expr_ok env a) (expr_ok env c)
        h.0).0 h.1.0
    expr_seen (logic o a c) r h = first_seen a r (logic_sign o ++ (expr_text true c ++ [])) (and_parts (expr_ok env a) (expr_ok env c)
        h.0).0 h.1.0
    expr_seen (pick d a c) r h = first_seen d r (codes " ? " ++ (expr_text true a ++ (codes " : " ++ (expr_text true c ++ []))))
        (and_parts (expr_ok env d) (expr_ok env a && expr_ok env c) h.0).0 h.1.0

    -- no label is `default`
    no_default : (e : Expr) → Told env e → is_default e ≡ false
    no_default (const x) h = other_word x "default" (declared_word parameter env x names h.0) refl
    no_default (name x) h = other_word x "default" (declared_word vector env x names h.0) refl
    no_default (num n) h = refl
    no_default (sized w n) h = refl
    no_default (bit x e) h = refl
    no_default (part x i j) h = refl
    no_default (word x e) h = refl
    no_default (cat a c) h = refl
    no_default (inverse a) h = refl
    no_default (two o a c) h = refl
    no_default (shift o a c) h = refl
    no_default (test o a c) h = refl
    no_default (logic o a c) h = refl
    no_default (none a) h = refl
    no_default (any a) h = refl
    no_default (every a) h = refl
    no_default (pick d a c) h = refl

    default_reads : (k : ℕ) (r : List ℕ) → 2 ≤ k →
        read false env k (codes "default" ++ (58 ∷ r)) ≡ Some (
          cond (of_kind parameter env "default") (const "default") (name "default"),
          58 ∷ r,
        )
    default_reads k r l =
        atom env names false k _ (codes "default" ++ (58 ∷ r)) (58 ∷ r) l (name_primary "default" (58 ∷ r) refl) inner
        (stops_at 58 r refl refl refl refl)
      where
        inner : (j : ℕ) → k ≤ suc j → read true env j (codes "default" ++ (58 ∷ r)) ≡
            Some (cond (of_kind parameter env "default") (const "default") (name "default"), 58 ∷ r)
        inner zero m = absurd (omega (arith, l, m))
        inner (suc j) m = name_reads env names j "default" (58 ∷ r) refl (ends_at 58 r refl refl refl)

    -- labels
    labels_read : (es : List Expr) → ToldLabels env es → (j k : ℕ) (r : List ℕ) → labels_cost es ≤ j → labels_cost es ≤ k →
        read_labels j (read false env k) (more_labels es ++ (58 ∷ r)) ≡ Some (es, 58 ∷ r)
    labels_read es h zero k r l m = absurd (at_least es l)
      where
        at_least : (es : List Expr) → labels_cost es ≤ 0 → ⊥
        at_least [] l = omega (arith, l)
        at_least (e ∷ es) l = omega (arith, l)
    labels_read [] h (suc j) k r l m = refl
    labels_read (e ∷ es) h (suc j) k r l m =
        ap (read_labels (suc j) (read false env k)) grouped
        ∙ rw (
          expr_reads e h.0 k (more_labels es ++ (58 ∷ r)) (omega (arith, m)) (labels_stop es r),
          labels_read es h.1 j k r (omega (arith, l)) (omega (arith, m)),
        ) refl
      where
        grouped : (codes ", " ++ (expr_text false e ++ more_labels es)) ++ (58 ∷ r) ≡ codes ", " ++
            (expr_text false e ++ (more_labels es ++ (58 ∷ r)))
        grouped = simp append_assoc

    -- what an arm has behind its labels
    abbrev tail_text : Bool → List ℕ → ℕ → List Said → List ℕ → List ℕ → List ℕ
    tail_text true f n c l r = 32 ∷ (f ++ (codes "end" ++ (said_text c ++ r)))
    tail_text false f n c l r = said_text c ++ (l ++ (indent n ++ (codes "end" ++ (10 ∷ r))))

    tail_is : (g : Bool) (f : List ℕ) (n : ℕ) (c : List Said) (l r : List ℕ) → arm_block g f n c l ++ r ≡ codes ": begin" ++
        tail_text g f n c l r
    tail_is true f n c l r = simp append_assoc
    tail_is false f n c l r = simp append_assoc

    tail_goes : (g : Bool) (f : List ℕ) (n : ℕ) (c : List Said) (l r : List ℕ) (d : ℕ) (s : Stmt) → said_ok c ≡ true →
        (g ≡ true → Lines d f s) → Lines d l s → BlockGoes (d + 1) (tail_text g f n c l r) (onto s skip) r
    tail_goes true f n c l r d s h i j = (
      said_text c ++ r,
      (λ k m. goes_next (d + 1) (32 ∷ (f ++ (codes "end" ++ (said_text c ++ r)))) (f ++ (codes "end" ++ (said_text c ++ r))) (onto s skip)
          (said_text c ++ r) refl
          (i refl 1 (codes "end" ++ (said_text c ++ r)) skip (said_text c ++ r) (ending 0 1 (said_text c ++ r) (omega arith)
          (said_ends c r))) k m),
      said_next c r h,
    )
    tail_goes false f n c l r d s h i j = (
      10 ∷ r,
      (λ k m. goes_next (d + 1) (said_text c ++ (l ++ (indent n ++ (codes "end" ++ (10 ∷ r)))))
          (l ++ (indent n ++ (codes "end" ++ (10 ∷ r)))) (onto s skip) (10 ∷ r)
          (said_next c (l ++ (indent n ++ (codes "end" ++ (10 ∷ r)))) h)
          (j 1 (indent n ++ (codes "end" ++ (10 ∷ r))) skip (10 ∷ r) (ending n 1 (10 ∷ r) (omega arith) refl)) k m),
      refl,
    )

    -- the last arm
    last_goes : (g : Bool) (f : List ℕ) (n : ℕ) (l r : List ℕ) (d : ℕ) (s : Stmt) → (g ≡ true → Lines d f s) → Lines d l s →
        ArmsGo (suc (d + 2)) ((indent n ++ (codes "default" ++ arm_block g f n [] l)) ++ r) (otherwise (onto s skip)) r
    last_goes g f n l r d s i j = (body.0, goes, body.2)
      where
        tail : List ℕ
        tail = tail_text g f n [] l r

        body : BlockGoes (d + 1) tail (onto s skip) r
        body = tail_goes g f n [] l r d s refl i j

        grouped : (indent n ++ (codes "default" ++ arm_block g f n [] l)) ++ r ≡ indent n ++
            (codes "default" ++ (arm_block g f n [] l ++ r))
        grouped = simp append_assoc

        whole_text : (indent n ++ (codes "default" ++ arm_block g f n [] l)) ++ r ≡ indent n ++
            (codes "default" ++ (codes ": begin" ++ tail))
        whole_text = grouped ∙ ap (λ t. indent n ++ (codes "default" ++ t)) (tail_is g f n [] l r)

        is_one : (c : Bool) → is_default (cond c (const "default") (name "default")) ≡ true
        is_one true = refl
        is_one false = refl

        goes : (k : ℕ) → suc (d + 2) ≤ k → read_arms env b k ((indent n ++ (codes "default" ++ arm_block g f n [] l)) ++ r) ≡
            Some (otherwise (onto s skip), body.0)
        goes zero m = absurd (omega (arith, m))
        goes (suc k) m =
            ap (read_arms env b (suc k)) whole_text
            ∙ arms_same (suc k) (indent n ++ (codes "default" ++ (codes ": begin" ++ tail))) (codes "default" ++
            (codes ": begin" ++ tail)) (next_indent n _)
            ∙ rw (
              default_reads k (codes " begin" ++ tail) (omega (arith, m)),
              is_one (of_kind parameter env "default"),
              body.1 k (omega (arith, m)),
            ) refl

    -- another arm
    arm_goes : (g : Bool) (f : List ℕ) (n : ℕ) (e : Expr) (es : List Expr) (c : List Said) (l more r : List ℕ) (d i : ℕ) (s : Stmt)
        (a : Arms) → Told env e → ToldLabels env es →
        said_ok c ≡ true → (g ≡ true → Lines d f s) → Lines d l s → ArmsGo i (more ++ r) a r →
        ArmsGo (suc (depth e + labels_cost es + suc d + i))
        (((indent n ++ ((expr_text false e ++ more_labels es) ++ arm_block g f n c l)) ++ more) ++ r) (arm (e ∷ es) (onto s skip) [] a) r
    arm_goes g f n e es c l more r d i s a h q v x y others = (others.0, goes, others.2)
      where
        tail : List ℕ
        tail = tail_text g f n c l (more ++ r)

        body : BlockGoes (d + 1) tail (onto s skip) (more ++ r)
        body = tail_goes g f n c l (more ++ r) d s v x y

        begin : List ℕ
        begin = more_labels es ++ (codes ": begin" ++ tail)

        grouped : ((indent n ++ ((expr_text false e ++ more_labels es) ++ arm_block g f n c l)) ++ more) ++ r ≡
            indent n ++ (expr_text false e ++ (more_labels es ++ (arm_block g f n c l ++ (more ++ r))))
        grouped = simp append_assoc

        whole_text : ((indent n ++ ((expr_text false e ++ more_labels es) ++ arm_block g f n c l)) ++ more) ++ r ≡ indent n ++
            (expr_text false e ++ begin)
        whole_text = grouped ∙ ap (λ t. indent n ++ (expr_text false e ++ (more_labels es ++ t))) (tail_is g f n c l (more ++ r))

        goes : (k : ℕ) → suc (depth e + labels_cost es + suc d + i) ≤ k →
            read_arms env b k (((indent n ++ ((expr_text false e ++ more_labels es) ++ arm_block g f n c l)) ++ more) ++ r) ≡
            Some (arm (e ∷ es) (onto s skip) [] a, others.0)
        goes zero m = absurd (omega (arith, m))
        goes (suc k) m =
            ap (read_arms env b (suc k)) whole_text
            ∙ ap (λ cs. read_arm (read_labels k (read false env k)) (read_arms env b k) (read_block env b k) (read false env k cs))
            (next_indent n (expr_text false e ++ begin) ∙ next_visible (expr_text false e ++ begin) (expr_seen e begin h))
            ∙ rw (
              expr_reads e h k begin (omega (arith, m)) (labels_stop es (codes " begin" ++ tail)),
              no_default e h,
              labels_read es q k k (codes " begin" ++ tail) (omega (arith, m)) (omega (arith, m)),
              body.1 k (omega (arith, m)),
              arms_same k body.0 (more ++ r) body.2,
              others.1 k (omega (arith, m)),
            ) refl

    -- all statements are read
    either_branch : (n c d : ℕ) (e : Expr) (ls : List ℕ) (s : Stmt) (lt : List ℕ) (t : Stmt) → Told env e → Lines c ls s → Lines d lt t →
        Lines (suc (depth e + suc c + suc d))
        (indent n ++ (codes "if (" ++ (expr_text false e ++ (codes ") begin\n" ++ (ls ++ (indent n ++ else_text (is_skip t) n lt))))))
        (branch e s t)
    either_branch n c d e ls s lt skip h i j m r u z g =
        goes_text (suc (depth e + suc c + m)) (suc (depth e + suc c + suc d) + m) _
        (indent n ++ (codes "if (" ++ (expr_text false e ++ (codes ") begin\n" ++ (ls ++ (indent n ++ (codes "end\n" ++ r)))))))
        _ z (omega arith) (simp append_assoc)
        (goes_next (suc (depth e + suc c + m)) _ _ _ z (next_indent n _) (branch_one n c e ls s m r u z h i g))
    either_branch n c d e ls s lt t h i j m r u z g =
        goes_text (suc (depth e + suc c + suc d + m)) (suc (depth e + suc c + suc d) + m) _
        (indent n ++ (codes "if (" ++ (expr_text false e ++
        (codes ") begin\n" ++ (ls ++ (indent n ++ (codes "end else begin\n" ++ (lt ++ (indent n ++ (codes "end\n" ++ r))))))))))
        _ z (omega arith) (simp append_assoc)
        (goes_next (suc (depth e + suc c + suc d + m)) _ _ _ z (next_indent n _) (branch_two n c d e ls s lt t m r u z h i j g))

    put_goes : (t : Target) (e : Expr) (m : ℕ) (r : List ℕ) (s : Stmt) (z : List ℕ) → ToldTarget env t → Told env e → Goes m r s z →
        Goes (suc (target_cost t + depth e) + m) (put_text (sign b) t e ++ r) (seq (put t e) s) z
    put_goes (whole x) e m r s z i h g =
        goes_text (suc (depth e + m)) (suc (0 + depth e) + m) _ (codes x ++ (sign b ++ (expr_text false e ++ (59 ∷ r)))) _ z (omega arith)
        (simp append_assoc)
        (put_whole x e m r s z i h g)
    put_goes (word_at x i) e m r s z p h g =
        goes_text (suc (depth i + depth e + m)) (suc (depth i + depth e) + m) _
        (codes x ++ (91 ∷ (expr_text false i ++ (93 ∷ (sign b ++ (expr_text false e ++ (59 ∷ r))))))) _ z (omega arith) (simp append_assoc)
        (put_word x i e m r s z p.0 p.1 h g)

    pub flat_lines : (s : Stmt) → straight s ≡ true → ToldStmt env s → Lines (cost s) (flat_text (sign b) s) s
    flat_lines skip p h m r t z g = goes_text m (0 + m) r r t z (omega arith) refl g
    flat_lines (put (whole x) e) p h m r t z g =
        goes_text (suc (0 + depth e) + m) (suc (0 + depth e) + m) _ (put_text (sign b) (whole x) e ++ (32 ∷ r)) _ z (omega arith)
        (append_assoc (put_text (sign b) (whole x) e) (32 ∷ []) r)
        (put_goes (whole x) e m (32 ∷ r) t z h.0 h.1 (goes_next m (32 ∷ r) r t z refl g))
    flat_lines (put (word_at x i) e) p h m r t z g = absurd cc
    flat_lines (seq s u) p h m r t z g =
        let q = and_parts (straight s) (straight u) p in
        goes_text (cost s + (cost u + m)) (cost s + cost u + m) _ (flat_text (sign b) s ++ (flat_text (sign b) u ++ r)) _ z (omega arith)
        (append_assoc (flat_text (sign b) s) (flat_text (sign b) u) r)
        (flat_lines s q.0 h.0 (cost u + m) (flat_text (sign b) u ++ r) (onto u t) z (flat_lines u q.1 h.1 m r t z g))
    flat_lines (branch e s u) p h m r t z g = absurd cc
    flat_lines (cases e arms) p h m r t z g = absurd cc

    mutual
      pub lines : (s : Stmt) → ToldStmt env s → (n : ℕ) → Lines (cost s) (stmt_text (sign b) n s) s
      lines skip h n m r t z g = goes_text m (0 + m) r r t z (omega arith) refl g
      lines (put p e) h n m r t z g =
          goes_text (suc (target_cost p + depth e) + m) (suc (target_cost p + depth e) + m) _
          (indent n ++ (put_text (sign b) p e ++ (10 ∷ r))) _ z (omega arith)
          (append_assoc (indent n) (put_text (sign b) p e ++ (10 ∷ [])) r
          ∙ ap (λ cs. indent n ++ cs) (append_assoc (put_text (sign b) p e) (10 ∷ []) r))
          (goes_next (suc (target_cost p + depth e) + m) _ _ _ z (next_indent n _)
          (put_goes p e m (10 ∷ r) t z h.0 h.1 (goes_next m (10 ∷ r) r t z refl g)))
      lines (seq s u) h n m r t z g =
          goes_text (cost s + (cost u + m)) (cost s + cost u + m) _ (stmt_text (sign b) n s ++ (stmt_text (sign b) n u ++ r)) _ z
          (omega arith)
          (append_assoc (stmt_text (sign b) n s) (stmt_text (sign b) n u) r)
          (lines s h.0 n (cost u + m) (stmt_text (sign b) n u ++ r) (onto u t) z (lines u h.1 n m r t z g))
      lines (branch e s u) h n m r t z g =
          either_branch n (cost s) (cost u) e (stmt_text (sign b) (suc n) s) s (stmt_text (sign b) (suc n) u) u h.0
          (lines s h.1 (suc n)) (lines u h.2 (suc n)) m r t z g
      lines (cases e arms) h n m r t z g =
          goes_text (suc (depth e + arms_cost arms + m)) (suc (depth e + arms_cost arms) + m) _
          (indent n ++ (codes "case (" ++ (expr_text false e ++
          (codes ")\n" ++ (arms_text (sign b) (suc n) arms ++ (indent n ++ (codes "endcase\n" ++ r)))))))
          _ z (omega arith) (simp append_assoc)
          (goes_next (suc (depth e + arms_cost arms + m)) _ _ _ z (next_indent n _)
          (case_goes n (arms_cost arms) e (arms_text (sign b) (suc n) arms) (tidy arms) m r t z h.0 (arms_go arms h.1 (suc n)) g))

      pub arms_go : (arms : Arms) → ToldArms env arms → (n : ℕ) (r : List ℕ) →
          ArmsGo (arms_cost arms) (arms_text (sign b) n arms ++ r) (tidy arms) r
      arms_go (otherwise s) h n r =
          last_goes (straight s) (flat_text (sign b) s) n (stmt_text (sign b) (suc n) s) r (cost s) s (λ p. flat_lines s p h)
          (lines s h (suc n))
      arms_go (arm [] s c arms) h n r = absurd h
      arms_go (arm (e ∷ es) s c arms) h n r =
          arm_goes (straight s) (flat_text (sign b) s) n e es c (stmt_text (sign b) (suc n) s) (arms_text (sign b) n arms) r (cost s)
          (arms_cost arms) s
          (tidy arms) h.0 h.1 h.3 (λ p. flat_lines s p h.2) (lines s h.2 (suc n)) (arms_go arms h.4 n r)
