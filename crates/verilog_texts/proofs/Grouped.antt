-- How statements are grouped, what is told of arms, and comments and empty lines change no meaning.
use Rattle.std.proofs.Common.{◌≡◌, ℕ, Bool, true, false, List, [], ◌∷◌, ◌++◌, refl, sym, ap, ◌∙◌}
use Rattle.std.proofs.Math.Path.{fun_ext}
use Prim.Native.String.{String}
use Rattle.verilog_tree.specs.Tree.{Stmt, skip, put, seq, branch, cases, Arms, otherwise, arm, Item, note, gap, size, constant, input}
use Rattle.verilog_tree.specs.Tree.{output, reg, memory, wire, settles, clocked, whole}
use Rattle.verilog_tree.specs.Meaning.{Scope, Store, chosen, holds, bits, value, write, widest, widest_arm, labelled, run, run_arms, fire}
use Rattle.verilog_tree.specs.Meaning.{fire_arms, named_here, param_in, width_in, words_in, scope, settled, clocked_in, edge}
use Rattle.verilog_tree.specs.WellFormed.{no_port, ports_first}
use Rattle.verilog_texts.proofs.Blocks.{onto, tidy}

-- one of two stores, before what goes on
chosen_then : (f : Store → Store) (b : Bool) (S T : Store) → f (chosen b S T) ≡ chosen b (f S) (f T)
chosen_then f true S T = refl
chosen_then f false S T = refl

widest_tidy : (P : Scope) (w : ℕ) (arms : Arms) → widest_arm P w (tidy arms) ≡ widest_arm P w arms
widest_tidy P w (otherwise s) = refl
widest_tidy P w (arm es s c arms) = widest_tidy P (widest P w es) arms

module _ (P : Scope) where
  mutual
    run_onto : (s k : Stmt) (S : Store) → run P (onto s k) S ≡ run P k (run P s S)
    run_onto skip k S = refl
    run_onto (put t e) k S = refl
    run_onto (seq s t) k S = run_onto s (onto t k) S ∙ run_onto t k (run P s S)
    run_onto (branch e s t) k S =
        ap (run P k) (ap (λ T. chosen (holds P S e) T (run P (onto t skip) S)) (run_onto s skip S)
        ∙ ap (chosen (holds P S e) (run P s S)) (run_onto t skip S))
    run_onto (cases e arms) k S =
        ap (run P k) (ap (λ w. run_arms P w (value P S w e) (tidy arms) S) (widest_tidy P (bits P e) arms)
        ∙ run_tidy (widest_arm P (bits P e) arms) (value P S (widest_arm P (bits P e) arms) e) arms S)

    run_tidy : (w n : ℕ) (arms : Arms) (S : Store) → run_arms P w n (tidy arms) S ≡ run_arms P w n arms S
    run_tidy w n (otherwise s) S = run_onto s skip S
    run_tidy w n (arm es s c arms) S =
        ap (λ T. chosen (labelled P S w n es) T (run_arms P w n (tidy arms) S)) (run_onto s skip S)
        ∙ ap (chosen (labelled P S w n es) (run P s S)) (run_tidy w n arms S)

  module _ (R : Store) where
    mutual
      fire_onto : (s k : Stmt) (S : Store) → fire P R (onto s k) S ≡ fire P R k (fire P R s S)
      fire_onto skip k S = refl
      fire_onto (put t e) k S = refl
      fire_onto (seq s t) k S = fire_onto s (onto t k) S ∙ fire_onto t k (fire P R s S)
      fire_onto (branch e s t) k S =
          ap (fire P R k) (ap (λ T. chosen (holds P R e) T (fire P R (onto t skip) S)) (fire_onto s skip S)
          ∙ ap (chosen (holds P R e) (fire P R s S)) (fire_onto t skip S))
      fire_onto (cases e arms) k S =
          ap (fire P R k) (ap (λ w. fire_arms P R w (value P R w e) (tidy arms) S) (widest_tidy P (bits P e) arms)
          ∙ fire_tidy (widest_arm P (bits P e) arms) (value P R (widest_arm P (bits P e) arms) e) arms S)

      fire_tidy : (w n : ℕ) (arms : Arms) (S : Store) → fire_arms P R w n (tidy arms) S ≡ fire_arms P R w n arms S
      fire_tidy w n (otherwise s) S = fire_onto s skip S
      fire_tidy w n (arm es s c arms) S =
          ap (λ T. chosen (labelled P R w n es) T (fire_arms P R w n (tidy arms) S)) (fire_onto s skip S)
          ∙ ap (chosen (labelled P R w n es) (fire P R s S)) (fire_tidy w n arms S)

  -- two statements that are one list run alike
  pub one_run : (s t : Stmt) → onto s skip ≡ onto t skip → (S : Store) → run P s S ≡ run P t S
  one_run s t e S = sym (run_onto s skip S) ∙ ap (λ u. run P u S) e ∙ run_onto t skip S

  pub one_fire : (R : Store) (s t : Stmt) → onto s skip ≡ onto t skip → (S : Store) → fire P R s S ≡ fire P R t S
  one_fire R s t e S = sym (fire_onto R s skip S) ∙ ap (λ u. fire P R u S) e ∙ fire_onto R t skip S

-- what a module has between its ports and its end, without comments and empty lines
abbrev pub body_of : List Item → List Item
body_of [] = []
body_of (note s ∷ is) = body_of is
body_of (gap ∷ is) = body_of is
body_of (input w x ∷ is) = body_of is
body_of (output w x ∷ is) = body_of is
body_of (settles s ∷ is) = settles (onto s skip) ∷ body_of is
body_of (clocked s ∷ is) = clocked (onto s skip) ∷ body_of is
body_of (i ∷ is) = i ∷ body_of is

-- its ports
abbrev pub ports_of : List Item → List Item
ports_of [] = []
ports_of (input w x ∷ is) = input w x ∷ ports_of is
ports_of (output w x ∷ is) = output w x ∷ ports_of is
ports_of (i ∷ is) = ports_of is

pub no_ports : (is : List Item) → no_port is ≡ true → ports_of is ≡ []
no_ports [] h = refl
no_ports (input w x ∷ is) h = absurd cc
no_ports (output w x ∷ is) h = absurd cc
no_ports (i ∷ is) h = no_ports is h

-- both declare the same
params : (is : List Item) (x : String) → param_in is x ≡ param_in (body_of is) x
params [] x = refl
params (size y n ∷ is) x = ap (named_here y x n) (params is x)
params (constant w y n ∷ is) x = ap (named_here y x n) (params is x)
params (i ∷ is) x = params is x

memories : (p : String → ℕ) (is : List Item) (x : String) → words_in p is x ≡ words_in p (body_of is) x
memories p [] x = refl
memories p (memory w y k ∷ is) x = ap (named_here y x _) (memories p is x)
memories p (i ∷ is) x = memories p is x

-- and the same widths, where no item is a port
body_widths : (p : String → ℕ) (is : List Item) → no_port is ≡ true → (x : String) → width_in p is x ≡ width_in p (body_of is) x
body_widths p [] h x = refl
body_widths p (note s ∷ is) h x = body_widths p is h x
body_widths p (gap ∷ is) h x = body_widths p is h x
body_widths p (settles s ∷ is) h x = body_widths p is h x
body_widths p (clocked s ∷ is) h x = body_widths p is h x
body_widths p (input w y ∷ is) h x = absurd cc
body_widths p (output w y ∷ is) h x = absurd cc
body_widths p (size y n ∷ is) h x = ap (named_here y x _) (body_widths p is h x)
body_widths p (constant w y n ∷ is) h x = ap (named_here y x _) (body_widths p is h x)
body_widths p (reg w y ∷ is) h x = ap (named_here y x _) (body_widths p is h x)
body_widths p (memory w y k ∷ is) h x = ap (named_here y x _) (body_widths p is h x)
body_widths p (wire w y e ∷ is) h x = ap (named_here y x _) (body_widths p is h x)

later : (p : String → ℕ) (is : List Item) → no_port is ≡ true → (x : String) → width_in p is x ≡ width_in p (ports_of is ++ body_of is) x
later p is h x = body_widths p is h x ∙ sym (ap (λ ps. width_in p (ps ++ body_of is) x) (no_ports is h))

widths : (p : String → ℕ) (is : List Item) → ports_first is ≡ true → (x : String) → width_in p is x ≡
    width_in p (ports_of is ++ body_of is) x
widths p (input w y ∷ is) h x = ap (named_here y x _) (widths p is h x)
widths p (output w y ∷ is) h x = ap (named_here y x _) (widths p is h x)
widths p is h x = later p is h x

-- and both do the same
settles_alike : (P : Scope) (is : List Item) (S : Store) → settled P is S ≡ settled P (body_of is) S
settles_alike P [] S = refl
settles_alike P (wire w x e ∷ is) S = settles_alike P is (write P S (whole x) e S)
settles_alike P (settles s ∷ is) S =
    settles_alike P is (run P s S) ∙ ap (settled P (body_of is)) (sym (run_onto P s skip S))
settles_alike P (i ∷ is) S = settles_alike P is S

clocks_alike : (P : Scope) (R : Store) (is : List Item) (S : Store) → clocked_in P is R S ≡ clocked_in P (body_of is) R S
clocks_alike P R [] S = refl
clocks_alike P R (clocked s ∷ is) S =
    clocks_alike P R is (fire P R s S) ∙ ap (clocked_in P (body_of is) R) (sym (fire_onto P R s skip S))
clocks_alike P R (i ∷ is) S = clocks_alike P R is S

-- what the ports and the body alone declare
abbrev told_scope : List Item → List Item → Scope
told_scope ps is = record { width = width_in (param_in is) (ps ++ is); words = words_in (param_in is) is; param = param_in is }

scope_of : (p q : String → ℕ) (f g : String → ℕ) (u v : String → ℕ) → p ≡ q → f ≡ g → u ≡ v →
    ◌≡◌ {A = Scope} (record { width = f; words = u; param = p }) (record { width = g; words = v; param = q })
scope_of p q f g u v a b c =
    ap (λ p. record { width = f; words = u; param = p }) a ∙ ap (λ f. record { width = f; words = u; param = q }) b
    ∙ ap (λ u. record { width = g; words = u; param = q }) c

scopes : (is : List Item) → ports_first is ≡ true → scope is ≡ told_scope (ports_of is) (body_of is)
scopes is h =
    let p : param_in is ≡ param_in (body_of is) = fun_ext (params is) in
    scope_of _ _ _ _ _ _ p
    (fun_ext (widths (param_in is) is h) ∙ ap (λ q. width_in q (ports_of is ++ body_of is)) p)
    (fun_ext (memories (param_in is) is) ∙ ap (λ q. words_in q (body_of is)) p)

edge_from : (is : List Item) → ports_first is ≡ true → (S : Store) → edge is S ≡
    clocked_in (told_scope (ports_of is) (body_of is)) (body_of is) (settled (told_scope (ports_of is) (body_of is)) (body_of is) S)
    (settled (told_scope (ports_of is) (body_of is)) (body_of is) S)
edge_from is h S =
    ap (λ P. clocked_in P is (settled P is S) (settled P is S)) (scopes is h)
    ∙ ap (λ T. clocked_in (told_scope (ports_of is) (body_of is)) is T T) (settles_alike (told_scope (ports_of is) (body_of is)) is S)
    ∙ clocks_alike (told_scope (ports_of is) (body_of is)) _ is _

-- two modules with one list of ports and one body have the same edges
pub one_edge : (is js : List Item) → ports_first is ≡ true → ports_first js ≡ true → ports_of is ≡ ports_of js → body_of is ≡ body_of js →
    (S : Store) → edge is S ≡ edge js S
one_edge is js g h p b S =
    edge_from is g S
    ∙ ap (λ ps. clocked_in (told_scope ps (body_of is)) (body_of is) (settled (told_scope ps (body_of is)) (body_of is) S)
    (settled (told_scope ps (body_of is)) (body_of is) S)) p
    ∙ ap (λ is. clocked_in (told_scope (ports_of js) is) is (settled (told_scope (ports_of js) is) is S)
    (settled (told_scope (ports_of js) is) is S)) b
    ∙ sym (edge_from js h S)
