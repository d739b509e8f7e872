-- What is printed of a tree that was read is read back.
use Rattle.std.proofs.Common.{◌≡◌, ℕ, suc, ◌+◌, ◌≤◌, List, [], ◌∷◌, ◌++◌, map, length, refl, sym, ap, ◌∙◌}
use Rattle.std.proofs.Common.{subst, arith, append-nil}
use Rattle.pcf_values.specs.Most.{most_nodes, most_program_bytes}
use Rattle.pcf_values.specs.Named.{NamedTree, number_at, name_at, word_at, binary_at, pair_at, ifz_at, bind_at, apply_at}
use Rattle.pcf_reader.specs.Tokens.{End, Placed}
use Rattle.pcf_reader.specs.Grammar.{Expr, expr_part, expr_text, Written, placed, plain, Program, program_text}
use Rattle.pcf_reader.specs.Spelling.{Splits, ends}
use Rattle.pcf_reader.specs.Text.{Derives, IsShallow}
use Rattle.pcf_reader.specs.Correct.{HasTokens, Text}
use Rattle.pcf_reader.specs.Printed.{term_text}
use Rattle.pcf_reader.specs.Placeless.{placeless}
use Rattle.pcf_reader.specs.Sizes.{node_count}
use Rattle.pcf_reader.specs.Laws.{ReadBack}
use Rattle.pcf_reader.proofs.Lists.{WritesNarrow, each_append, each_left, map-append}
use Rattle.pcf_reader.proofs.Lexed.{at_place}
use Rattle.pcf_reader.proofs.Bounds.{program_count}
use Rattle.pcf_reader.proofs.Shown.{own_onto, own_height, own_shallow, Fine}
use Rattle.pcf_reader.proofs.Forms.{forms, WritesExpr}
use Rattle.pcf_reader.proofs.Fits.{expr_fits}
use Rattle.pcf_reader.proofs.Fine.{AreFine, splits_fine, IsGood, Good, good_from, fine_expr}
use Rattle.pcf_reader.proofs.Shows.{own_shows}

-- places don't count
count_placeless : (t : NamedTree) → node_count (placeless t) ≡ node_count t
count_placeless (number_at i n) = refl
count_placeless (name_at i x) = refl
count_placeless (word_at i w a) = ap suc (count_placeless a)
count_placeless (binary_at i o a b) = λ k. suc (count_placeless a k + count_placeless b k)
count_placeless (pair_at i a b) = λ k. suc (count_placeless a k + count_placeless b k)
count_placeless (ifz_at i c p q) = λ k. suc ((count_placeless c k + count_placeless p k) + count_placeless q k)
count_placeless (bind_at i b x t m) = omega (arith, count_placeless m)
count_placeless (apply_at i f a) = λ k. suc (count_placeless f k + count_placeless a k)

-- the spelling of what is fine, shallow and small stands for it
spelled_text : (t : NamedTree) → Fine t → own_shallow t 0 → node_count t ≤ most_nodes →
    length (term_text t) ≤ most_program_bytes → (u : NamedTree) × Text (term_text t) u × (placeless u ≡ placeless t)
spelled_text t fine shallow few short =
    let w : WritesExpr (term_text t) (λ r. own_onto t r) t (own_height t) (λ o. own_shallow t o) 0 = (forms t fine).expr 0 in
    let e : Expr = w.phrase in
    let end : ℕ = 0 + length (term_text t) in
    let program : Program = record { expr = e; end = end } in
    let items : List Placed = map placed (expr_text 0 e) ++ at_place end End ∷ [] in
    let splits : Splits 0 (own_onto t []) items = w.splits 0 0 0 [] (at_place end End ∷ []) tt (ends end) in
    let tokens : HasTokens (term_text t) items = record {
      short = short;
      characters = own_onto t [];
      scalars = (own_shows t fine []).1 refl;
      encoded = (own_shows t fine []).0 ∙ append-nil (term_text t);
      splits = splits;
    } in
    let counts : node_count (expr_part e).tree ≡ node_count t = sym (count_placeless (expr_part e).tree) ∙ ap node_count w.same ∙
    count_placeless t in
    let derives : Derives items (expr_part e).tree = record {
      program = program;
      written = map-append (expr_text 0 e) (plain end End ∷ []);
      stands_for = refl;
      shallow = each_append IsShallow (expr_text 0 e) (plain end End ∷ []) (w.shallow 0 0 0 (omega arith) shallow) (omega arith, tt);
      small = omega (arith, program_count program, counts, few);
      narrow = each_append WritesNarrow (expr_text 0 e) (plain end End ∷ []) (w.narrow 0 0 0) (tt, tt);
    } in
    ((expr_part e).tree, (items, tokens, derives), w.same)

-- a tree that is another one has what the other has
of_tree : (t u : NamedTree) → u ≡ t → (Fine u × own_shallow u 0 × (node_count u ≤ most_nodes)) →
    (Fine t × own_shallow t 0 × (node_count t ≤ most_nodes))
of_tree t u e h = subst (λ z. Fine z × own_shallow z 0 × (node_count z ≤ most_nodes)) e h

-- the law, for bytes that stand for a tree
pub read_back : ReadBack
read_back bytes t h short =
    let d : Derives h.0 t = h.2 in
    let tokens : HasTokens bytes h.0 = h.1 in
    let e : Expr = d.program.expr in
    let last : List Written = plain d.program.end End ∷ [] in
    let fine_items : AreFine h.0 = splits_fine 0 tokens.characters h.0 tokens.scalars tokens.splits in
    let good : Good (program_text d.program) = good_from (program_text d.program) (subst AreFine (sym d.written) fine_items) d.narrow in
    let few : node_count (expr_part e).tree ≤ most_nodes = omega (arith, d.small, program_count d.program) in
    let facts = of_tree t (expr_part e).tree d.stands_for (
      fine_expr 0 e (each_left IsGood (expr_text 0 e) last good),
      (expr_fits 0 e (each_left IsShallow (expr_text 0 e) last d.shallow)).0,
      few,
    ) in
    spelled_text t facts.0 facts.1 facts.2 short
