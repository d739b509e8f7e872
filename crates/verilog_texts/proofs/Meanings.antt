-- So what prints alike means one thing.
use Rattle.std.proofs.Common.{◌≡◌, ℕ, ◌+◌, Bool, true, false, List, [], ◌++◌, Option, Some, None, refl, sym, ap, ◌∙◌, codes, arith}
use Rattle.std.specs.Prelude.{◌&&◌}
use Rattle.std.proofs.lemmas.Bool.{and_parts}
use Prim.Native.String.{String}
use lib.Chars.{text_of}
use Rattle.verilog_tree.specs.Tree.{Stmt, skip, Item}
use Rattle.verilog_tree.specs.Meaning.{scope, edge}
use Rattle.verilog_tree.specs.Print.{stmt_text, module_text}
use Rattle.verilog_tree.specs.WellFormed.{Entry, stmt_ok, items_ok, ports_first, in_order, size_in, limits, limits_of, stmt_fits, items_fit}
use Rattle.verilog_tree.specs.WellFormed.{WellFormed}
use Rattle.verilog_texts.specs.Small.{names_ok}
use Rattle.verilog_texts.specs.Laws.{OneBlock, OneMeaning}
use Rattle.verilog_texts.proofs.Pieces.{front, rest, behind, in_name}
use Rattle.verilog_texts.proofs.Reader.{Got, when}
use Rattle.verilog_texts.proofs.Exact.{name_front, name_rest}
use Rattle.verilog_texts.proofs.Blocks.{onto, sign, read_block}
use Rattle.verilog_texts.proofs.Printed.{spelling, cost, ToldStmt, ending, lines}
use Rattle.verilog_texts.proofs.Grouped.{one_run, one_fire, body_of, ports_of, one_edge}
use Rattle.verilog_texts.proofs.Modules.{read_module}
use Rattle.verilog_texts.proofs.Whole.{ToldItems, body_cost, ports_cost, behind_name, module_reads}
use Rattle.verilog_texts.proofs.Facts.{told_stmt, told_items}

abbrev got_of : {A : Type 0} → A → Got A → A
got_of a None = a
got_of a (Some p) = p.0

same_got : {A : Type 0} → {a b : A} → {r : List ℕ} → ◌≡◌ {A = Got A} (Some (a, r)) (Some (b, r)) → a ≡ b
same_got {A} {a} e = ap (got_of a) e

-- statements with one text are one list
one_list : (env : List Entry) → names_ok env ≡ true → (b : Bool) (s t : Stmt) (n : ℕ) → ToldStmt env s → ToldStmt env t →
    stmt_text (sign b) n s ≡ stmt_text (sign b) n t → onto s skip ≡ onto t skip
one_list env names b s t n g h e =
    let k = cost s + cost t + 1 in
    let p = lines env names b s g n 1 (codes "end") skip [] (ending env names b 0 1 [] (omega arith) refl) k (omega arith) in
    let q = lines env names b t h n 1 (codes "end") skip [] (ending env names b 0 1 [] (omega arith) refl) k (omega arith) in
    same_got (sym p ∙ ap (λ c. read_block env b k (c ++ codes "end")) e ∙ q)

-- so they do the same
pub one_block : OneBlock
one_block env names P q xs ys s t f g n =
    let a = and_parts (stmt_ok env xs s) (stmt_fits (limits_of P q) s) f in
    let b = and_parts (stmt_ok env ys t) (stmt_fits (limits_of P q) t) g in
    let u = told_stmt P q env names xs s a.0 a.1 in
    let v = told_stmt P q env names ys t b.0 b.1 in (
      (λ e Q S. one_run Q s t (one_list env names true s t n u v e) S),
      (λ e Q R S. one_fire Q R s t (one_list env names false s t n u v e) S),
    )

-- a module's text by its parts
module_is : (x : String) (is : List Item) → module_text x is ≡ codes "module " ++ (codes x ++ behind_name is)
unfolding module_text
module_is x is = refl

abbrev left_of : Option (List ℕ) → List ℕ
left_of None = []
left_of (Some cs) = cs

told_module : (is : List Item) → WellFormed is ≡ true → (ports_first is ≡ true) × ToldItems [] is
told_module is f =
    let p = and_parts (ports_first is && items_ok [] [] is) (in_order is && items_fit (limits is) is) f in
    let q = and_parts (ports_first is) (items_ok [] [] is) p.0 in
    let r = and_parts (in_order is) (items_fit (limits is) is) p.1 in
    (q.0, told_items (scope is) (size_in is) is [] [] refl q.1 r.1)

one_text : (is js : List Item) → (ports_first is ≡ true) × ToldItems [] is → (ports_first js ≡ true) × ToldItems [] js →
    behind_name is ≡ behind_name js → (S : _) → edge is S ≡ edge js S
one_text is js f g e S =
    let k = ports_cost is + body_cost is + (ports_cost js + body_cost js) in
    let p = module_reads is f.0 f.1 k (omega arith) (omega arith) in
    let q = module_reads js g.0 g.1 k (omega arith) (omega arith) in
    let m : (ports_of is, body_of is) ≡ (ports_of js, body_of js) =
    same_got (sym p ∙ ap (λ t. when (behind (codes " (") t) (read_module k)) e ∙ q) in
    one_edge is js f.0 g.0 (ap (λ (p : List Item × List Item). p.0) m) (ap (λ (p : List Item × List Item). p.1) m) S

pub one_meaning : OneMeaning
one_meaning is js f g x y i j e =
    let d : codes x ++ behind_name is ≡ codes y ++ behind_name js =
    ap (λ t. left_of (behind (codes "module ") t)) (sym (module_is x is) ∙ e ∙ module_is y js) in (
      sym (name_front x (behind_name is) (spelling x i) refl) ∙ ap (λ t. text_of (front in_name t)) d
          ∙ name_front y (behind_name js) (spelling y j) refl,
      one_text is js (told_module is f) (told_module js g)
          (sym (name_rest x (behind_name is) (spelling x i) refl) ∙ ap (rest in_name) d ∙ name_rest y (behind_name js) (spelling y j) refl),
    )
