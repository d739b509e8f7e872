-- The code's loops over lines give what the definition reads from them.
use Rattle.std.proofs.Common.{◌≡◌, ℕ, zero, suc, ◌<◌, ◌≤◌, Bool, true, false, List, [], ◌∷◌, ◌++◌, append-nil, append_assoc, length, Some}
use Rattle.std.proofs.Common.{None, Ok, Err, IfOk, IfErr, refl, sym, ap, ◌∙◌, inl, inr, arith}
use Rattle.std.specs.Prelude.{Result, codes, nat_eq, if◌then◌else◌}
use Rattle.std.specs.Str.{bytes_eq}
use Rattle.std.proofs.lemmas.Bool.{cases_lt}
use Rattle.net_build.specs.declared.node.Node.{Node}
use Rattle.net_build.specs.Nets.{WireTree, NetTree}
use Rattle.net_text.specs.declared.fault.NetTextFault.{NetTextFault}
use Rattle.net_text.specs.declared.fault.NetTextFault.TheVariants.{NoMemory, BadLine, NotSound, NotOfTerm, TooLong}
use Rattle.net_text.specs.FirstFault.{and_nodes, and_wires, ended, net_of_lines, no_wires, node_at, nodes_from, wire_at, wires_from}
use Rattle.net_text.specs.FirstFault.{with_node, with_wire}
use Rattle.net_text.specs.Limits.{most_text_bytes, most_type_height}
use Rattle.text_lines.specs.Lines.{end_line, in_front, lines}
use Rattle.net_text.specs.Steps.{NetOfText}
use Rattle.net_text.specs.Scanning.{Blames, with_nodes, with_wires}
use Rattle.text_lines.proofs.Numbers.{is_same, same_is}
use Rattle.net_text.proofs.Listed.{first_fault, net_listed}
use Rattle.net_text.proofs.Splitting.{text_is}

-- what is not more is at most as much
pub not_more : (a b : ℕ) → (a < b → ⊥) → b ≤ a
not_more a b h = elim (cases_lt a b) [ inl l ↦ absurd (h l) | inr l ↦ l ]

-- no wire more
pub wires_none : (r : Result NetTree ℕ) → with_wires [] r ≡ r
wires_none (Ok net) = refl
wires_none (Err m) = refl

-- no node more
pub nodes_none : (r : Result (List Node) ℕ) → with_nodes [] r ≡ r
nodes_none (Ok ns) = refl
nodes_none (Err m) = refl

-- one wire more in front
one_wire_more : (ws : List WireTree) (w : WireTree) (r : Result NetTree ℕ) → with_wires (ws ++ w ∷ []) r ≡ with_wires ws (with_wire w r)
one_wire_more ws w (Ok net) = ap (λ vs. Ok (record { wires = vs; nodes = net.nodes })) (append_assoc ws (w ∷ []) net.wires)
one_wire_more ws w (Err m) = refl

-- one node more in front
one_node_more : (ns : List Node) (x : Node) (r : Result (List Node) ℕ) → with_nodes (ns ++ x ∷ []) r ≡ with_nodes ns (with_node x r)
one_node_more ns x (Ok xs) = ap (λ vs. Ok vs) (append_assoc ns (x ∷ []) xs)
one_node_more ns x (Err m) = refl

-- a wire's line was read
pub wires_go : (h k n k' n' : ℕ) (ws vs : List WireTree) (w : WireTree) (bytes line more : List ℕ) (whole : Result NetTree ℕ)
    → lines bytes ≡ line ∷ lines more → wire_at h k line ≡ Some w → k' ≡ suc k → n' ≡ suc n → vs ≡ ws ++ w ∷ [] →
    with_wires ws (wires_from h k n (lines bytes)) ≡ whole → with_wires vs (wires_from h k' n' (lines more)) ≡ whole
wires_go h k n k' n' ws vs w bytes line more whole cut found kk nn put before =
    let here : wires_from h k n (lines bytes) ≡ with_wire w (wires_from h (suc k) (suc n) (lines more)) =
    ap (wires_from h k n) cut
    ∙ ap (λ o. and_wires o (wires_from h (suc k) (suc n) (lines more)) (nodes_from zero n (line ∷ lines more))) found in
    ap (λ vs. with_wires vs (wires_from h k' n' (lines more))) put
    ∙ one_wire_more ws w (wires_from h k' n' (lines more))
    ∙ ap (λ i. with_wires ws (with_wire w (wires_from h i n' (lines more)))) kk
    ∙ ap (λ i. with_wires ws (with_wire w (wires_from h (suc k) i (lines more)))) nn
    ∙ ap (with_wires ws) (sym here)
    ∙ before

-- a line that is no wire's ends the wires
pub wires_stop : (h k n : ℕ) (ws : List WireTree) (bytes line more : List ℕ) (whole : Result NetTree ℕ) → lines bytes ≡ line ∷ lines more
    → wire_at h k line ≡ None →
    with_wires ws (wires_from h k n (lines bytes)) ≡ whole → whole ≡ with_wires ws (no_wires (nodes_from 0 n (lines bytes)))
wires_stop h k n ws bytes line more whole cut found before =
    let here : wires_from h k n (lines bytes) ≡ no_wires (nodes_from 0 n (lines bytes)) =
    ap (wires_from h k n) cut
    ∙ ap (λ o. and_wires o (wires_from h (suc k) (suc n) (lines more)) (nodes_from zero n (line ∷ lines more))) found
    ∙ ap (λ ls. no_wires (nodes_from 0 n ls)) (sym cut) in
    sym before ∙ ap (with_wires ws) here

-- so does the end of the text
pub wires_end : (h k n : ℕ) (ws : List WireTree) (bytes : List ℕ) (whole : Result NetTree ℕ) → length bytes ≤ 0
    → with_wires ws (wires_from h k n (lines bytes)) ≡ whole → whole ≡ with_wires ws (no_wires (nodes_from 0 n (lines bytes)))
wires_end h k n ws [] whole u before = sym before
wires_end h k n ws (b ∷ bytes) whole u before = absurd (omega (arith, u))

-- a node's line was read
nodes_here : (k n : ℕ) (bytes line more : List ℕ) → lines bytes ≡ line ∷ lines more → (line ≡ end_line → ⊥)
    → nodes_from k n (lines bytes) ≡ and_nodes n (node_at k line) (nodes_from (suc k) (suc n) (lines more))
nodes_here k n bytes line more cut other =
    ap (nodes_from k n) cut ∙ chosen (bytes_eq line end_line) (ended n (lines more)) _ (λ e. other (same_is line end_line e))
  where
    chosen : (b : Bool) (r s : Result (List Node) ℕ) → (b ≡ true → ⊥) → (if b then r else s) ≡ s
    chosen true r s h = absurd (h refl)
    chosen false r s h = refl

-- the loop over the nodes goes on
pub nodes_go : (k n k' n' : ℕ) (ns xs : List Node) (x : Node) (bytes line more : List ℕ) (whole : Result (List Node) ℕ)
    → lines bytes ≡ line ∷ lines more → (line ≡ end_line → ⊥) → node_at k line ≡ Some x → k' ≡ suc k → n' ≡ suc n → xs ≡ ns ++ x ∷ [] →
    with_nodes ns (nodes_from k n (lines bytes)) ≡ whole → with_nodes xs (nodes_from k' n' (lines more)) ≡ whole
nodes_go k n k' n' ns xs x bytes line more whole cut other found kk nn put before =
    let here : nodes_from k n (lines bytes) ≡ with_node x (nodes_from (suc k) (suc n) (lines more)) =
    nodes_here k n bytes line more cut other ∙ ap (λ o. and_nodes n o (nodes_from (suc k) (suc n) (lines more))) found in
    ap (λ vs. with_nodes vs (nodes_from k' n' (lines more))) put
    ∙ one_node_more ns x (nodes_from k' n' (lines more))
    ∙ ap (λ i. with_nodes ns (with_node x (nodes_from i n' (lines more)))) kk
    ∙ ap (λ i. with_nodes ns (with_node x (nodes_from (suc k) i (lines more)))) nn
    ∙ ap (with_nodes ns) (sym here)
    ∙ before

-- a line that is no node's
pub nodes_stop : (k n : ℕ) (ns : List Node) (bytes line more : List ℕ) (whole : Result (List Node) ℕ) → lines bytes ≡ line ∷ lines more
    → (line ≡ end_line → ⊥) → node_at k line ≡ None → with_nodes ns (nodes_from k n (lines bytes)) ≡ whole → whole ≡ Err n
nodes_stop k n ns bytes line more whole cut other found before =
    sym before ∙ ap (with_nodes ns)
    (nodes_here k n bytes line more cut other ∙ ap (λ o. and_nodes n o (nodes_from (suc k) (suc n) (lines more))) found)

-- the last line, alone or with bytes behind it
last_here : (k n : ℕ) (bytes line more : List ℕ) → lines bytes ≡ line ∷ lines more → line ≡ end_line
    → nodes_from k n (lines bytes) ≡ ended n (lines more)
last_here k n bytes line more cut e =
    ap (nodes_from k n) cut
    ∙ ap (λ b. if b then ended n (lines more) else and_nodes n (node_at k line) (nodes_from (suc k) (suc n) (lines more)))
    (is_same line end_line e)

-- the last line ends them
pub nodes_done : (k n : ℕ) (ns : List Node) (bytes line more : List ℕ) (whole : Result (List Node) ℕ) → lines bytes ≡ line ∷ lines more
    → line ≡ end_line → length more ≤ 0 → with_nodes ns (nodes_from k n (lines bytes)) ≡ whole → whole ≡ Ok ns
nodes_done k n ns bytes line [] whole cut e u before =
    sym before ∙ ap (with_nodes ns) (last_here k n bytes line [] cut e) ∙ ap (λ xs. Ok xs) (append-nil ns)
nodes_done k n ns bytes line (b ∷ more) whole cut e u before = absurd (omega (arith, u))

-- a line behind the last is the fault
ended_late : (n : ℕ) (b : ℕ) (more : List ℕ) → ended n (lines (b ∷ more)) ≡ Err (suc n)
ended_late n b more = fed (nat_eq b 10) n b (lines more)
  where
    fed : (c : Bool) (n b : ℕ) (ls : List (List ℕ)) → ended n (if c then (b ∷ []) ∷ ls else in_front b ls) ≡ Err (suc n)
    fed true n b ls = refl
    fed false n b [] = refl
    fed false n b (l ∷ ls) = refl

-- bytes stand behind the last line
pub nodes_late : (k n m : ℕ) (ns : List Node) (bytes line more : List ℕ) (whole : Result (List Node) ℕ) → lines bytes ≡ line ∷ lines more
    → line ≡ end_line → 0 < length more → m ≡ suc n → with_nodes ns (nodes_from k n (lines bytes)) ≡ whole → whole ≡ Err m
nodes_late k n m ns bytes line [] whole cut e u i before = absurd (omega (arith, u))
nodes_late k n m ns bytes line (b ∷ more) whole cut e u i before =
    sym before ∙ ap (with_nodes ns) (last_here k n bytes line (b ∷ more) cut e ∙ ended_late n b more) ∙ ap (λ j. Err j) (sym i)

-- the text ends without a last line
pub nodes_end : (k n : ℕ) (ns : List Node) (bytes : List ℕ) (whole : Result (List Node) ℕ) → length bytes ≤ 0
    → with_nodes ns (nodes_from k n (lines bytes)) ≡ whole → whole ≡ Err n
nodes_end k n ns [] whole u before = sym before
nodes_end k n ns (b ∷ bytes) whole u before = absurd (omega (arith, u))

-- wires and nodes together
pub parts_read : (ws : List WireTree) (ns : List Node) (net : NetTree) (r : Result (List Node) ℕ) (whole : Result NetTree ℕ)
    → whole ≡ with_wires ws (no_wires r) → r ≡ Ok ns → net ≡ record { wires = ws; nodes = ns } → whole ≡ Ok net
parts_read ws ns net r whole h e i =
    h ∙ ap (λ r. with_wires ws (no_wires r)) e ∙ ap (λ vs. Ok (record { wires = vs; nodes = ns })) (append-nil ws) ∙ ap (λ n. Ok n) (sym i)

-- a fault of the nodes is one of the whole
pub parts_blamed : (ws : List WireTree) (r : Result (List Node) ℕ) (whole : Result NetTree ℕ) (e : NetTextFault)
    → whole ≡ with_wires ws (no_wires r) → Blames r e → Blames whole e
parts_blamed ws r whole NoMemory h b = tt
parts_blamed ws r whole (BadLine n) h b = h ∙ ap (λ r. with_wires ws (no_wires r)) b
parts_blamed ws r whole (NotSound f) h b = b
parts_blamed ws r whole NotOfTerm h b = b
parts_blamed ws r whole TooLong h b = b

-- the header
pub header_read : (h : ℕ) (bytes line more : List ℕ) → lines bytes ≡ line ∷ lines more → line ≡ codes "net 1\n"
    → net_of_lines h (lines bytes) ≡ wires_from h 0 2 (lines more)
header_read h bytes line more cut e =
    ap (net_of_lines h) cut ∙ ap (λ b. if b then wires_from h 0 2 (lines more) else Err 1) (is_same line (codes "net 1\n") e)

-- another first line
pub no_header : (h : ℕ) (bytes line more : List ℕ) → lines bytes ≡ line ∷ lines more → (line ≡ codes "net 1\n" → ⊥)
    → net_of_lines h (lines bytes) ≡ Err 1
no_header h bytes line more cut n =
    ap (net_of_lines h) cut
    ∙ chosen (bytes_eq line (codes "net 1\n")) (wires_from h 0 2 (lines more)) (λ e. n (same_is line (codes "net 1\n") e))
  where
    chosen : (b : Bool) (r : Result NetTree ℕ) → (b ≡ true → ⊥) → (if b then r else Err 1) ≡ Err 1
    chosen true r h = absurd (h refl)
    chosen false r h = refl

-- there is no line
pub no_lines : (h : ℕ) (bytes : List ℕ) → length bytes ≡ 0 → net_of_lines h (lines bytes) ≡ Err 1
no_lines h [] e = refl
no_lines h (b ∷ bytes) e = absurd (omega (arith, e))

-- What the lines give is what the bytes give.
pub bytes_read : (bytes : List ℕ) (r : Result NetTree NetTextFault) → length bytes ≤ most_text_bytes
    → IfOk r (λ n. net_of_lines most_type_height (lines bytes) ≡ Ok n)
    → IfErr r (λ e. Blames (net_of_lines most_type_height (lines bytes)) e) → NetOfText bytes r
bytes_read bytes (Ok net) u h i = let (f, l) = net_listed most_type_height (lines bytes) net h in record {
  short = u;
  fits = f;
  is = text_is bytes net l;
}
bytes_read bytes (Err NoMemory) u h i = tt
bytes_read bytes (Err (BadLine n)) u h i = (u, first_fault most_type_height n (lines bytes) i)
bytes_read bytes (Err (NotSound f)) u h i = i
bytes_read bytes (Err NotOfTerm) u h i = i
bytes_read bytes (Err TooLong) u h i = absurd i
