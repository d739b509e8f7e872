-- A tree for the constructs of Verilog that a circuit's text uses, and for no others. The clauses named are those of IEEE 1364-2005.
-- Each name is declared once in a module, and stands for a vector, a memory or a parameter. All is unsigned. Which assignment
-- an assignment is, `=` or `<=`, is told by the block around it: blocks that settle have `=`, and the block of the clock has `<=`, so that
-- no tree mixes both.
use Rattle.std.specs.Prelude.{ℕ, List}
use Prim.Native.String.{String}

-- a constant expression, for widths and places of bits (clause 5)
pub data Size : Type 0 where
  -- 8
  count : ℕ → Size
  -- N
  named : String → Size
  -- A + B
  more : Size → Size → Size
  -- A - B, where B isn't greater
  less : Size → Size → Size

-- + - *, whose operands are as wide as what is around them (5.1.5)
pub data Two : Type 0 where
  plus : Two
  minus : Two
  times : Two

-- << and >> (5.1.12)
pub data Way : Type 0 where
  left : Way
  right : Way

-- == and < (5.1.7, 5.1.8)
pub data Test : Type 0 where
  same : Test
  below : Test

-- && and || (5.1.9)
pub data Logic : Type 0 where
  both : Logic
  one_of : Logic

-- expressions (clause 5)
pub data Expr : Type 0 where
  -- 7: a number without a width has 32 bits (3.5.1)
  num : ℕ → Expr
  -- 3'd5 (3.5.1)
  sized : (width number : ℕ) → Expr
  -- a parameter (4.10)
  const : String → Expr
  -- a vector, whole (4.3)
  name : String → Expr
  -- x[e] (5.2.1)
  bit : String → Expr → Expr
  -- x[H:L] (5.2.1)
  part : String → Size → Size → Expr
  -- m[e], a word of a memory (5.2.2)
  word : String → Expr → Expr
  -- {a, b} (5.1.14)
  cat : Expr → Expr → Expr
  -- ~a (5.1.10)
  inverse : Expr → Expr
  two : Two → Expr → Expr → Expr
  shift : Way → Expr → Expr → Expr
  test : Test → Expr → Expr → Expr
  logic : Logic → Expr → Expr → Expr
  -- !a (5.1.9)
  none : Expr → Expr
  -- |a and &a (5.1.11)
  any : Expr → Expr
  every : Expr → Expr
  -- a ? b : c (5.1.13)
  pick : Expr → Expr → Expr → Expr

-- what is assigned to: x, or a word m[e] (6.2, 9.2)
pub data Target : Type 0 where
  whole : String → Target
  word_at : String → Expr → Target

-- a part of what is said of an arm: words, or a number
pub data Said : Type 0 where
  word_said : String → Said
  number_said : ℕ → Said

mutual
  -- statements
  pub data Stmt : Type 0 where
    -- nothing at all
    skip : Stmt
    -- x = e; (9.2.1) or x <= e; (9.2.2)
    put : Target → Expr → Stmt
    -- one after the other (9.8.1)
    seq : Stmt → Stmt → Stmt
    -- if (e) s else t (9.4)
    branch : Expr → Stmt → Stmt → Stmt
    -- case (e) .. endcase (9.5)
    cases : Expr → Arms → Stmt

  -- the arms of a case, in their order (9.5)
  pub data Arms : Type 0 where
    -- default: s
    otherwise : Stmt → Arms
    -- a, b: s, with what is said of it
    arm : List Expr → Stmt → (said : List Said) → Arms → Arms

-- a declared width (4.3.1)
pub data Width : Type 0 where
  -- one bit
  one : Width
  -- [H:0]
  upto : Size → Width
  -- [K-1:0]
  wide : Size → Width

-- what a module consists of (clause 12)
pub data Item : Type 0 where
  -- a comment of one line, which means nothing (3.3)
  note : String → Item
  -- an empty line (3.2)
  gap : Item
  -- localparam x = n; (4.10.2)
  size : String → ℕ → Item
  -- localparam [H:0] x = n; (4.10.2)
  constant : Width → String → ℕ → Item
  -- input wire x, output reg x (12.3.4)
  input : Width → String → Item
  output : Width → String → Item
  -- reg x; (4.7)
  reg : Width → String → Item
  -- reg w m [0:K-1]; (4.9.3)
  memory : Width → String → Size → Item
  -- wire x = e; (6.1.1)
  wire : Width → String → Expr → Item
  -- always @* s (9.7.5)
  settles : Stmt → Item
  -- always @(posedge clk) s (9.7.2)
  clocked : Stmt → Item
