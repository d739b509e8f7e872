-- Whether a tree is a module that the standard takes and that means what `Meaning` says; clauses are those of IEEE 1364-2005. Ports stand
-- first. Each name is an identifier and no keyword, is declared once in the whole module, above its use, and is used as what it is declared
-- as. A register is assigned to by one block, and a wire by its declaration alone. A block that settles sets all that it drives before
-- anything else, and reads none of that there, so that no tool makes a latch of it. Sizes name parameters without a width. No expression
-- names the clock.
-- Nothing that settles is read at or above what settles it, so that there is no circle, and a block that settles reads something that it
-- doesn't set. All widths and sizes are positive, and they and numbers without a width are below 2 ^ 31; no comparison is one of signed
-- numbers, which those without a width are; a part has its higher bound first; each arm but the last has a label. An index that reads
-- nothing lies within what it indexes, and so do both bounds of a part; of an index that reads something this isn't asked (the meaning has
-- bounds). No number has more digits than its text. No comment begins with a word by which tools are told what to do.
use Rattle.std.specs.Prelude.{ℕ, ◌+◌, ◌^◌, Bool, true, false, not, ◌&&◌, ◌||◌, List, [], ◌∷◌, ◌++◌, nat_eq, nat_le, nat_lt, codes}
use Prim.Native.String.{String}
use lib.Text.{eqt}
use Rattle.verilog_tree.specs.Tree.{Size, count, named, more, less, Expr, num, sized, const, name, bit, part, word, cat, inverse, two}
use Rattle.verilog_tree.specs.Tree.{shift, test, logic, none, any, every, pick, Target, whole, word_at, Stmt, skip, put, seq}
use Rattle.verilog_tree.specs.Tree.{branch, cases, Said, word_said, number_said, Arms, otherwise, arm, Width, one, upto, wide}
use Rattle.verilog_tree.specs.Tree.{Item, note, gap, size, constant}
use Rattle.verilog_tree.specs.Tree.{input, output, reg, memory, wire, settles, clocked}
use Rattle.verilog_tree.specs.Meaning.{Scope, chosen, amount, bits, value, scope}
use Rattle.verilog_tree.specs.Print.{straight, parts_text}

-- what a name is declared as
pub data Kind : Type 0 where
  -- a parameter without a declared width
  a_size : Kind
  -- one with a width
  a_constant : Kind
  -- a vector, with a width in its declaration
  an_input : Kind
  a_register : Kind
  a_wire : Kind
  -- a scalar, without one
  a_bit_input : Kind
  a_bit_register : Kind
  a_bit_wire : Kind
  -- the input `clk` of one bit
  a_clock : Kind
  a_memory : Kind

-- a name with what it is
pub record Entry : Type 0 where
  pub name : String
  pub kind : Kind

-- what may bound a width or a memory
abbrev pub is_size : Kind → Bool
is_size a_size = true
is_size k = false

-- what an expression may name as a constant
abbrev pub parameter : Kind → Bool
parameter a_size = true
parameter a_constant = true
parameter k = false

-- what a block may assign to
abbrev pub register : Kind → Bool
register a_register = true
register a_bit_register = true
register k = false

-- what bits and parts may be selected of; a scalar has none (5.2.1)
abbrev pub selects : Kind → Bool
selects an_input = true
selects a_register = true
selects a_wire = true
selects k = false

-- what an expression may name, a scalar or a vector
abbrev pub vector : Kind → Bool
vector a_bit_input = true
vector a_bit_register = true
vector a_bit_wire = true
vector k = selects k

-- the clock, which no expression names
abbrev pub is_clock : Kind → Bool
is_clock a_clock = true
is_clock k = false

-- what has words
abbrev pub is_memory : Kind → Bool
is_memory a_memory = true
is_memory k = false

-- a name is declared, and as one of these
abbrev pub of_kind : (Kind → Bool) → List Entry → String → Bool
of_kind p [] x = false
of_kind p (e ∷ env) x = chosen (eqt e.name x) (p e.kind) (of_kind p env x)

-- it is one of these
abbrev pub member : String → List String → Bool
member x [] = false
member x (y ∷ ys) = eqt y x || member x ys

-- none of these is one of those
abbrev pub apart : List String → List String → Bool
apart [] ys = true
apart (x ∷ xs) ys = not (member x ys) && apart xs ys

-- a letter or _
abbrev pub letter : ℕ → Bool
letter c = (nat_le 65 c && nat_le c 90) || ((nat_le 97 c && nat_le c 122) || nat_eq c 95)

-- letters, _ and digits
abbrev pub letters : List ℕ → Bool
letters [] = true
letters (c ∷ cs) = (letter c || (nat_le 48 c && nat_le c 57)) && letters cs

-- the first isn't a digit (3.7)
abbrev pub spelt : List ℕ → Bool
spelt [] = false
spelt (c ∷ cs) = letter c && letters cs

-- the reserved words (annex B)
abbrev pub keywords : List String
keywords =
    "always" ∷ "and" ∷ "assign" ∷ "automatic" ∷ "begin" ∷ "buf" ∷ "bufif0" ∷ "bufif1" ∷ "case" ∷ "casex" ∷ "casez" ∷ "cell" ∷ "cmos" ∷
    "config" ∷ "deassign" ∷ "default" ∷ "defparam" ∷ "design" ∷ "disable" ∷ "edge" ∷ "else" ∷ "end" ∷ "endcase" ∷ "endconfig" ∷
    "endfunction" ∷ "endgenerate" ∷ "endmodule" ∷ "endprimitive" ∷ "endspecify" ∷ "endtable" ∷ "endtask" ∷ "event" ∷ "for" ∷ "force" ∷
    "forever" ∷ "fork" ∷ "function" ∷ "generate" ∷ "genvar" ∷ "highz0" ∷ "highz1" ∷ "if" ∷ "ifnone" ∷ "incdir" ∷ "include" ∷ "initial" ∷
    "inout" ∷ "input" ∷ "instance" ∷ "integer" ∷ "join" ∷ "large" ∷ "liblist" ∷ "library" ∷ "localparam" ∷ "macromodule" ∷ "medium" ∷
    "module" ∷ "nand" ∷ "negedge" ∷ "nmos" ∷ "nor" ∷ "noshowcancelled" ∷ "not" ∷ "notif0" ∷ "notif1" ∷ "or" ∷ "output" ∷ "parameter" ∷
    "pmos" ∷ "posedge" ∷ "primitive" ∷ "pull0" ∷ "pull1" ∷ "pulldown" ∷ "pullup" ∷ "pulsestyle_onevent" ∷ "pulsestyle_ondetect" ∷
    "rcmos" ∷ "real" ∷ "realtime" ∷ "reg" ∷ "release" ∷ "repeat" ∷ "rnmos" ∷ "rpmos" ∷ "rtran" ∷ "rtranif0" ∷ "rtranif1" ∷ "scalared" ∷
    "showcancelled" ∷ "signed" ∷ "small" ∷ "specify" ∷ "specparam" ∷ "strong0" ∷ "strong1" ∷ "supply0" ∷ "supply1" ∷ "table" ∷ "task" ∷
    "time" ∷ "tran" ∷ "tranif0" ∷ "tranif1" ∷ "tri" ∷ "tri0" ∷ "tri1" ∷ "triand" ∷ "trior" ∷ "trireg" ∷ "unsigned" ∷ "use" ∷ "uwire" ∷
    "vectored" ∷ "wait" ∷ "wand" ∷ "weak0" ∷ "weak1" ∷ "while" ∷ "wire" ∷ "wor" ∷ "xnor" ∷ "xor" ∷ []

-- an identifier that is no reserved word (3.7, 3.7.2)
abbrev pub identifier : String → Bool
identifier x = spelt (codes x) && not (member x keywords)

-- no line ends in it (3.3)
abbrev pub one_line : List ℕ → Bool
one_line [] = true
one_line (c ∷ cs) = not (nat_eq c 10 || nat_eq c 13) && one_line cs

-- of what is said of an arm, no line ends in the words
abbrev pub said_ok : List Said → Bool
said_ok [] = true
said_ok (word_said s ∷ ps) = one_line (codes s) && said_ok ps
said_ok (number_said n ∷ ps) = said_ok ps

-- a name that is declared
abbrev pub taken : List Entry → String → Bool
taken [] x = false
taken (e ∷ env) x = eqt e.name x || taken env x

-- a name that may be declared
abbrev pub new : List Entry → String → Bool
new env x = identifier x && not (taken env x)

-- a size names parameters without a width alone
abbrev pub size_ok : List Entry → Size → Bool
size_ok env (count n) = true
size_ok env (named x) = of_kind is_size env x
size_ok env (more a b) = size_ok env a && size_ok env b
size_ok env (less a b) = size_ok env a && size_ok env b

-- and so does a width
abbrev pub width_ok : List Entry → Width → Bool
width_ok env one = true
width_ok env (upto h) = size_ok env h
width_ok env (wide k) = size_ok env k

-- the width of an expression is told by what has a width: a number without one can't stand in a concatenation, nor give a part of it its
-- width (5.1.14)
abbrev pub has_width : Expr → Bool
has_width (num n) = false
has_width (inverse a) = has_width a
has_width (two o a b) = has_width a && has_width b
has_width (shift o a b) = has_width a
has_width (pick c a b) = has_width a && has_width b
has_width e = true

-- an expression names what is declared, as what it is
abbrev pub expr_ok : List Entry → Expr → Bool
expr_ok env (num n) = true
expr_ok env (sized w n) = nat_lt 0 w
expr_ok env (const x) = of_kind parameter env x
expr_ok env (name x) = of_kind vector env x
expr_ok env (bit x e) = of_kind selects env x && expr_ok env e
expr_ok env (part x h l) = of_kind selects env x && (size_ok env h && size_ok env l)
expr_ok env (word m e) = of_kind is_memory env m && expr_ok env e
expr_ok env (cat a b) = (has_width a && has_width b) && (expr_ok env a && expr_ok env b)
expr_ok env (inverse a) = expr_ok env a
expr_ok env (two o a b) = expr_ok env a && expr_ok env b
expr_ok env (shift o a b) = expr_ok env a && expr_ok env b
expr_ok env (test o a b) = expr_ok env a && expr_ok env b
expr_ok env (logic o a b) = expr_ok env a && expr_ok env b
expr_ok env (none a) = expr_ok env a
expr_ok env (any a) = expr_ok env a
expr_ok env (every a) = expr_ok env a
expr_ok env (pick c a b) = expr_ok env c && (expr_ok env a && expr_ok env b)

-- all of them do
abbrev pub exprs_ok : List Entry → List Expr → Bool
exprs_ok env [] = true
exprs_ok env (e ∷ es) = expr_ok env e && exprs_ok env es

-- an expression reads these names alone
abbrev pub reads : (String → Bool) → Expr → Bool
reads p (num n) = true
reads p (sized w n) = true
reads p (const x) = true
reads p (name x) = p x
reads p (bit x e) = p x && reads p e
reads p (part x h l) = p x
reads p (word m e) = p m && reads p e
reads p (cat a b) = reads p a && reads p b
reads p (inverse a) = reads p a
reads p (two o a b) = reads p a && reads p b
reads p (shift o a b) = reads p a && reads p b
reads p (test o a b) = reads p a && reads p b
reads p (logic o a b) = reads p a && reads p b
reads p (none a) = reads p a
reads p (any a) = reads p a
reads p (every a) = reads p a
reads p (pick c a b) = reads p c && (reads p a && reads p b)

-- all of them do
abbrev pub all_read : (String → Bool) → List Expr → Bool
all_read p [] = true
all_read p (e ∷ es) = reads p e && all_read p es

-- it is none of these
abbrev pub outside : List String → String → Bool
outside xs x = not (member x xs)

-- the names of both lists
abbrev pub common : List String → List String → List String
common [] ys = []
common (x ∷ xs) ys = chosen (member x ys) (x ∷ common xs ys) (common xs ys)

-- what a block sets before anything else; a branch sets what both of its arms set first
abbrev pub sets_first : Stmt → List String
sets_first skip = []
sets_first (put (whole x) e) = x ∷ []
sets_first (put t e) = []
sets_first (seq s t) = chosen (straight s) (sets_first s ++ sets_first t) (sets_first s)
sets_first (branch e s t) = common (sets_first s) (sets_first t)
sets_first (cases e arms) = []

-- and reads there none of these
abbrev pub first_reads : List String → Stmt → Bool
first_reads xs skip = true
first_reads xs (put t e) = reads (outside xs) e
first_reads xs (seq s t) = first_reads xs s && chosen (straight s) (first_reads xs t) true
first_reads xs (branch e s t) = reads (outside xs) e && (first_reads xs s && first_reads xs t)
first_reads xs (cases e arms) = true

-- a statement reads these names alone, in all of it
abbrev pub index_reads : (String → Bool) → Target → Bool
index_reads p (whole x) = true
index_reads p (word_at m e) = reads p e

abbrev mutual
  pub block_reads : (String → Bool) → Stmt → Bool
  block_reads p skip = true
  block_reads p (put t e) = index_reads p t && reads p e
  block_reads p (seq s t) = block_reads p s && block_reads p t
  block_reads p (branch e s t) = reads p e && (block_reads p s && block_reads p t)
  block_reads p (cases e arms) = reads p e && arms_read p arms

  pub arms_read : (String → Bool) → Arms → Bool
  arms_read p (otherwise s) = block_reads p s
  arms_read p (arm es s c arms) = all_read p es && (block_reads p s && arms_read p arms)

-- what an assignment assigns to
abbrev pub target_name : Target → String
target_name (whole x) = x
target_name (word_at m e) = m

-- no assignment to x
abbrev mutual
  pub spares : String → Stmt → Bool
  spares x skip = true
  spares x (put t e) = not (eqt (target_name t) x)
  spares x (seq s t) = spares x s && spares x t
  spares x (branch e s t) = spares x s && spares x t
  spares x (cases e arms) = spares_arms x arms

  pub spares_arms : String → Arms → Bool
  spares_arms x (otherwise s) = spares x s
  spares_arms x (arm es s c arms) = spares x s && spares_arms x arms

-- an assignment to one of these, as what it is
abbrev pub target_ok : List Entry → List String → Target → Bool
target_ok env mine (whole x) = of_kind register env x && member x mine
target_ok env mine (word_at m e) = of_kind is_memory env m && (member m mine && expr_ok env e)

-- a statement of a block that drives `mine`
abbrev mutual
  pub stmt_ok : List Entry → List String → Stmt → Bool
  stmt_ok env mine skip = true
  stmt_ok env mine (put t e) = target_ok env mine t && expr_ok env e
  stmt_ok env mine (seq s t) = stmt_ok env mine s && stmt_ok env mine t
  stmt_ok env mine (branch e s t) = expr_ok env e && (stmt_ok env mine s && stmt_ok env mine t)
  stmt_ok env mine (cases e arms) = expr_ok env e && arms_ok env mine arms

  pub arms_ok : List Entry → List String → Arms → Bool
  arms_ok env mine (otherwise s) = stmt_ok env mine s
  arms_ok env mine (arm es s c arms) = (exprs_ok env es && (stmt_ok env mine s && said_ok c)) && arms_ok env mine arms

-- what a block of the clock assigns to
abbrev mutual
  pub targets : Stmt → List String
  targets skip = []
  targets (put t e) = target_name t ∷ []
  targets (seq s t) = targets s ++ targets t
  targets (branch e s t) = targets s ++ targets t
  targets (cases e arms) = targets_in arms

  pub targets_in : Arms → List String
  targets_in (otherwise s) = targets s
  targets_in (arm es s c arms) = targets s ++ targets_in arms

-- a variable of this width
abbrev pub kind_of : Width → Kind
kind_of one = a_bit_register
kind_of w = a_register

-- a wire of this width
abbrev pub wire_kind : Width → Kind
wire_kind one = a_bit_wire
wire_kind w = a_wire

-- an input of this width
abbrev pub input_kind : Width → String → Kind
input_kind one x = chosen (eqt x "clk") a_clock a_bit_input
input_kind w x = an_input

-- one name more
abbrev pub declare : Kind → String → List Entry → List Entry
declare k x env = record { name = x; kind = k } ∷ env

-- what is declared after an item
abbrev pub declared : List Entry → Item → List Entry
declared env (note s) = env
declared env gap = env
declared env (size x n) = declare a_size x env
declared env (constant w x n) = declare a_constant x env
declared env (input w x) = declare (input_kind w x) x env
declared env (output w x) = declare (kind_of w) x env
declared env (reg w x) = declare (kind_of w) x env
declared env (memory w x k) = declare a_memory x env
declared env (wire w x e) = declare (wire_kind w) x env
declared env (settles s) = env
declared env (clocked s) = env

-- what is driven after it
abbrev pub driven : List String → Item → List String
driven ds (settles s) = sets_first s ++ ds
driven ds (clocked s) = targets s ++ ds
driven ds i = ds

-- a width that is a number
abbrev pub number_width : Width → Bool
number_width one = true
number_width (upto (count n)) = true
number_width (wide (count n)) = true
number_width w = false

-- an item, where so many names are declared and driven above it
abbrev pub item_ok : List Entry → List String → Item → Bool
item_ok env ds (note s) = one_line (codes s)
item_ok env ds gap = true
item_ok env ds (size x n) = new env x
item_ok env ds (constant w x n) = new env x && number_width w
item_ok env ds (input w x) = new env x && width_ok env w
item_ok env ds (output w x) = new env x && width_ok env w
item_ok env ds (reg w x) = new env x && width_ok env w
item_ok env ds (memory w x k) = new env x && (width_ok env w && size_ok env k)
item_ok env ds (wire w x e) = new env x && (width_ok env w && expr_ok env e)
item_ok env ds (settles s) = (apart (sets_first s) ds && first_reads (sets_first s) s) && stmt_ok env (sets_first s) s
item_ok env ds (clocked s) = (of_kind is_clock env "clk" && apart (targets s) ds) && stmt_ok env (targets s) s

-- one after the other
abbrev pub items_ok : List Entry → List String → List Item → Bool
items_ok env ds [] = true
items_ok env ds (i ∷ is) = item_ok env ds i && items_ok (declared env i) (driven ds i) is

-- what is declared after so many
abbrev pub all_declared : List Entry → List Item → List Entry
all_declared env [] = env
all_declared env (i ∷ is) = all_declared (declared env i) is

-- no item is a port
abbrev pub no_port : List Item → Bool
no_port [] = true
no_port (input w x ∷ is) = false
no_port (output w x ∷ is) = false
no_port (i ∷ is) = no_port is

-- ports stand first, since they are printed there (12.3.4)
abbrev pub ports_first : List Item → Bool
ports_first (input w x ∷ is) = ports_first is
ports_first (output w x ∷ is) = ports_first is
ports_first is = no_port is

-- what settles: wires, and what blocks that settle set
abbrev pub settling : List Item → List String
settling [] = []
settling (wire w x e ∷ is) = x ∷ settling is
settling (settles s ∷ is) = sets_first s ++ settling is
settling (i ∷ is) = settling is

-- a wire reads nothing that settles at it or below, and a block nothing that settles below it, but itself something that it doesn't set;
-- and what is settled by the one isn't by the other
abbrev pub in_order : List Item → Bool
in_order [] = true
in_order (wire w x e ∷ is) = (reads (outside (x ∷ settling is)) e && outside (settling is) x) && in_order is
in_order (settles s ∷ is) =
    (block_reads (outside (settling is)) s && not (block_reads (λ x. member x (sets_first s)) s)) &&
    (apart (sets_first s) (settling is) && in_order is)
in_order (i ∷ is) = in_order is

-- a number that tools take without a width
abbrev pub small : ℕ → Bool
small n = nat_lt n (2 ^ 31)

-- a number that its text tells: of a greater one the text has the last 64 digits alone
abbrev pub told : ℕ → Bool
told n = nat_lt n (10 ^ 64)

-- a size is small, and nothing in it goes below 0
abbrev pub size_fits : (String → ℕ) → Size → Bool
size_fits p (count n) = small n
size_fits p (named x) = small (p x)
size_fits p (more a b) = small (amount p a + amount p b) && (size_fits p a && size_fits p b)
size_fits p (less a b) = nat_le (amount p b) (amount p a) && (size_fits p a && size_fits p b)

-- an index that reads nothing is below this number
abbrev pub index_fits : Scope → ℕ → Expr → Bool
index_fits P n e =
    not (reads (λ x. false) e) ||
    nat_lt (value P record { vec = λ x. 0; mem = λ m i. 0; stray = λ x i. 0 } (bits P e) e) n

-- what is asked of a size, of one that has to be positive, of the bounds of a part of this vector, and of an index of this vector and of
-- this memory; and which names are sizes
pub record Limits : Type 0 where
  pub fits : Size → Bool
  pub positive : Size → Bool
  pub bounds : String → Size → Size → Bool
  pub at_bit : String → Expr → Bool
  pub at_word : String → Expr → Bool
  pub is_size : String → Bool

-- a size has this name
abbrev pub size_in : List Item → String → Bool
size_in [] x = false
size_in (size y n ∷ is) x = eqt y x || size_in is x
size_in (i ∷ is) x = size_in is x

-- the limits where this is declared
abbrev pub limits_of : Scope → (String → Bool) → Limits
limits_of P q = record {
  fits = size_fits P.param;
  positive = λ k. nat_lt 0 (amount P.param k) && size_fits P.param k;
  bounds = λ x h l.
      (nat_lt (amount P.param h) (P.width x) && nat_le (amount P.param l) (amount P.param h)) &&
      (size_fits P.param h && size_fits P.param l);
  at_bit = λ x e. index_fits P (P.width x) e;
  at_word = λ m e. index_fits P (P.words m) e;
  is_size = q;
}

-- those of a module
abbrev pub limits : List Item → Limits
limits is = limits_of (scope is) (size_in is)

-- a width of one bit at least
abbrev pub width_fits : Limits → Width → Bool
width_fits L one = true
width_fits L (upto h) = L.fits h
width_fits L (wide k) = L.positive k

-- a number without a width is signed, and so is what comes of such numbers alone (5.5.1); these names are sizes
abbrev pub signed : (String → Bool) → Expr → Bool
signed q (num n) = true
signed q (const x) = q x
signed q (inverse a) = signed q a
signed q (two o a b) = signed q a && signed q b
signed q (shift o a b) = signed q a
signed q (pick c a b) = signed q a && signed q b
signed q e = false

-- the width of an expression is told by a size, too (5.1.14)
abbrev pub bare : (String → Bool) → Expr → Bool
bare q (const x) = q x
bare q (inverse a) = bare q a
bare q (two o a b) = bare q a || bare q b
bare q (shift o a b) = bare q a
bare q (pick c a b) = bare q a || bare q b
bare q e = false

-- an expression in which all of this is so
abbrev pub expr_fits : Limits → Expr → Bool
expr_fits L (num n) = small n
expr_fits L (sized w n) = small w && told n
expr_fits L (const x) = true
expr_fits L (name x) = true
expr_fits L (bit x e) = L.at_bit x e && expr_fits L e
expr_fits L (part x h l) = L.bounds x h l
expr_fits L (word m e) = L.at_word m e && expr_fits L e
expr_fits L (cat a b) = not (bare L.is_size a || bare L.is_size b) && (expr_fits L a && expr_fits L b)
expr_fits L (inverse a) = expr_fits L a
expr_fits L (two o a b) = expr_fits L a && expr_fits L b
expr_fits L (shift o a b) = expr_fits L a && expr_fits L b
expr_fits L (test o a b) = not (signed L.is_size a && signed L.is_size b) && (expr_fits L a && expr_fits L b)
expr_fits L (logic o a b) = expr_fits L a && expr_fits L b
expr_fits L (none a) = expr_fits L a
expr_fits L (any a) = expr_fits L a
expr_fits L (every a) = expr_fits L a
expr_fits L (pick c a b) = expr_fits L c && (expr_fits L a && expr_fits L b)

-- words with which a comment begins that tools obey: of synthesis, of lint, of coverage
abbrev pub orders : List String
orders =
    "synopsys" ∷ "synthesis" ∷ "pragma" ∷ "rtl_synthesis" ∷ "cadence" ∷ "ambit" ∷ "exemplar" ∷ "xilinx" ∷ "altera" ∷ "verilator" ∷
    "verilint" ∷ "vcs" ∷ "coverage" ∷ []

-- these characters are at the front
abbrev pub begins : List ℕ → List ℕ → Bool
begins [] cs = true
begins (b ∷ bs) [] = false
begins (b ∷ bs) (c ∷ cs) = nat_eq b c && begins bs cs

-- the same behind blanks
abbrev pub begins_behind : List ℕ → List ℕ → Bool
begins_behind bs [] = false
begins_behind bs (c ∷ cs) = chosen (nat_eq c 32 || nat_eq c 9) (begins_behind bs cs) (begins bs (c ∷ cs))

-- a comment begins with none of these
abbrev pub begins_with_none : List String → List ℕ → Bool
begins_with_none [] cs = true
begins_with_none (x ∷ xs) cs = not (begins_behind (codes x) cs) && begins_with_none xs cs

-- a comment that no tool obeys
abbrev pub plain : List ℕ → Bool
plain = begins_with_none orders

-- labels, of which there is one at least
abbrev pub labels_fit : Limits → List Expr → Bool
labels_fit L [] = false
labels_fit L (e ∷ []) = expr_fits L e
labels_fit L (e ∷ f ∷ es) = expr_fits L e && labels_fit L (f ∷ es)

-- a statement
abbrev pub target_fits : Limits → Target → Bool
target_fits L (whole x) = true
target_fits L (word_at m e) = expr_fits L e

abbrev mutual
  pub stmt_fits : Limits → Stmt → Bool
  stmt_fits L skip = true
  stmt_fits L (put t e) = target_fits L t && expr_fits L e
  stmt_fits L (seq s t) = stmt_fits L s && stmt_fits L t
  stmt_fits L (branch e s t) = expr_fits L e && (stmt_fits L s && stmt_fits L t)
  stmt_fits L (cases e arms) = expr_fits L e && arms_fit L arms

  pub arms_fit : Limits → Arms → Bool
  arms_fit L (otherwise s) = stmt_fits L s
  arms_fit L (arm es s c arms) = (labels_fit L es && plain (parts_text c)) && (stmt_fits L s && arms_fit L arms)

-- an item
abbrev pub item_fits : Limits → Item → Bool
item_fits L (note s) = plain (codes s)
item_fits L gap = true
item_fits L (size x n) = small n
item_fits L (constant w x n) = width_fits L w && told n
item_fits L (input w x) = width_fits L w
item_fits L (output w x) = width_fits L w
item_fits L (reg w x) = width_fits L w
item_fits L (memory w x k) = width_fits L w && L.positive k
item_fits L (wire w x e) = width_fits L w && expr_fits L e
item_fits L (settles s) = stmt_fits L s
item_fits L (clocked s) = stmt_fits L s

-- and all of them
abbrev pub items_fit : Limits → List Item → Bool
items_fit L [] = true
items_fit L (i ∷ is) = item_fits L i && items_fit L is

-- a module that the standard takes
abbrev pub WellFormed : List Item → Bool
WellFormed is =
    (ports_first is && items_ok [] [] is) && (in_order is && items_fit (limits is) is)
