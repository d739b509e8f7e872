-- A reader of modules: comments and empty lines are passed over, and statements are read as lists.
use Rattle.std.proofs.Common.{ℕ, zero, suc, Bool, true, false, cond, List, [], ◌∷◌, Option, Some, None, codes}
use Rattle.std.specs.Prelude.{nat_eq}
use Rattle.std.specs.Str.Parse.{digits_value}
use Prim.Native.String.{String}
use lib.Chars.{text_of}
use lib.Text.{eqt}
use Rattle.verilog_tree.specs.Tree.{Size, Expr, Stmt, Width, one, upto, wide, Item, size, constant, input, output, reg, memory, wire}
use Rattle.verilog_tree.specs.Tree.{settles, clocked}
use Rattle.verilog_tree.specs.WellFormed.{Entry, declared, all_declared}
use Rattle.verilog_texts.proofs.Pieces.{front, rest, starts, behind, digit, in_name}
use Rattle.verilog_texts.proofs.Reader.{Got, go_on, when, read_size, read}
use Rattle.verilog_texts.proofs.Blocks.{next, read_block}

-- a width
abbrev pub width_end : Size → List ℕ → Option (List ℕ) → Got Width
width_end s u None = when (behind (codes ":0] ") u) (λ v. Some (upto s, v))
width_end s u (Some v) = Some (wide s, v)

abbrev pub width_from : ℕ → List ℕ → Option (List ℕ) → Got Width
width_from k cs None = Some (one, cs)
width_from k cs (Some t) = go_on (read_size k t) (λ s u. width_end s u (behind (codes "-1:0] ") u))

abbrev pub read_width : ℕ → List ℕ → Got Width
read_width k cs = width_from k cs (behind (codes "[") cs)

-- a name, and what is made of it and of what stands behind it
abbrev pub named_item : {B : Type 0} → List ℕ → (String → List ℕ → Option B) → Option B
named_item cs f = f (text_of (front in_name cs)) (rest in_name cs)

-- a width and a name
abbrev pub wide_item : {B : Type 0} → ℕ → Option (List ℕ) → (Width → String → List ℕ → Option B) → Option B
wide_item k o f = when o (λ t. go_on (read_width k t) (λ w u. named_item u (f w)))

-- parameters
abbrev pub param_end : Width → String → ℕ → List ℕ → Option (List ℕ) → Got Item
param_end w x n r None = Some (size x n, r)
param_end w x n r (Some t) = Some (constant w x (digits_value 10 (front digit t)), rest digit t)

abbrev pub read_param : Width → String → List ℕ → Got Item
read_param w x u =
    when (behind (codes " = ") u) (λ v. param_end w x (digits_value 10 (front digit v)) (rest digit v) (behind (codes "'d") (rest digit v)))

-- registers and memories
abbrev pub reg_end : ℕ → Width → String → List ℕ → Option (List ℕ) → Got Item
reg_end k w x u None = Some (reg w x, u)
reg_end k w x u (Some v) = go_on (read_size k v) (λ s t. when (behind (codes "-1]") t) (λ z. Some (memory w x s, z)))

-- wires
abbrev pub read_wire : (List ℕ → Got Expr) → Width → String → List ℕ → Got Item
read_wire ex w x u = when (behind (codes " = ") u) (λ v. go_on (ex v) (λ e t. Some (wire w x e, t)))

-- blocks
abbrev pub read_always : (Bool → List ℕ → Got Stmt) → List ℕ → Option (List ℕ) → Got Item
read_always go t None = when (behind (codes " @(posedge clk) begin") t) (λ u. go_on (go false u) (λ s v. Some (clocked s, v)))
read_always go t (Some u) = go_on (go true u) (λ s v. Some (settles s, v))

-- an item by its first word
abbrev pub read_item : List Entry → ℕ → String → List ℕ → Got Item
read_item env k x t =
    cond (eqt x "localparam") (wide_item k (behind (codes " ") t) read_param)
    (cond (eqt x "reg") (wide_item k (behind (codes " ") t) (λ w y u. reg_end k w y u (behind (codes " [0:") u)))
    (cond (eqt x "wire") (wide_item k (behind (codes " ") t) (read_wire (read false env k)))
    (read_always (λ b. read_block env b k) t (behind (codes " @* begin") t))))

-- the items of the body, by the first word
abbrev pub body_by : List Entry → ℕ → (List Entry → List ℕ → Got (List Item)) → String → List ℕ → Got (List Item)
body_by env k go x t =
    cond (eqt x "endmodule") (Some ([], t))
    (go_on (read_item env k x t) (λ i u. go_on (go (declared env i) u) (λ is z. Some (i ∷ is, z))))

abbrev pub read_body : List Entry → ℕ → List ℕ → Got (List Item)
read_body env zero cs = None
read_body env (suc k) cs =
    body_by env k (λ env. read_body env k) (text_of (front in_name (next false cs))) (rest in_name (next false cs))

-- ports
abbrev pub port_by : ℕ → (List ℕ → Got (List Item)) → String → List ℕ → Got (List Item)
port_by k go x t =
    cond (eqt x "input") (wide_item k (behind (codes " wire ") t) (λ w y u. go_on (go u) (λ is z. Some (input w y ∷ is, z))))
    (wide_item k (behind (codes " reg ") t) (λ w y u. go_on (go u) (λ is z. Some (output w y ∷ is, z))))

abbrev pub read_ports : ℕ → List ℕ → Got (List Item)
read_ports zero cs = None
read_ports (suc k) cs =
    cond (starts (nat_eq 41) (next false cs)) (Some ([], next false cs))
    (port_by k (read_ports k) (text_of (front in_name (next false cs))) (rest in_name (next false cs)))

-- ports, and then the body
abbrev pub read_module : ℕ → List ℕ → Got (List Item × List Item)
read_module k cs =
    go_on (read_ports k cs) (λ ps t. when (behind (codes ")") t) (λ u. go_on (read_body (all_declared [] ps) k u)
    (λ is z. Some ((ps, is), z))))
