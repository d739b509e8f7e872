-- How the logic stores signatures, symbols and stacks, so that a type whose value holds them can have a model.
--
-- A signature is stored as a tree of numbers that gives it back, and all else as options, lists and pairs of what it holds. This
-- says nothing of the words that the code keeps.
use Rattle.std.specs.Prelude.{◌≡◌, zero, suc, Option, Some, None, refl}
use Rattle.std.proofs.Common.{sym, ap, ◌∙◌}
use Rattle.std.specs.Coded.{Coded, code_by, coded_list, coded_option, coded×}
use base.Stored.{Gv, gnil, gnum, gcons}
use Rattle.token_stacks.specs.Signatures.{Sig, star, left_of, right_of, pair_of, again, Sym, R, L, S, Work, Boxes}
use Rattle.token_stacks.specs.Loads.{Load, load}

-- a signature as a tree of numbers, and back
abbrev pub sig_tree : Sig → Gv
sig_tree star = gnil
sig_tree (left_of s) = gcons (gnum zero) (sig_tree s)
sig_tree (right_of s) = gcons (gnum (suc zero)) (sig_tree s)
sig_tree (pair_of s u) = gcons (gcons (sig_tree s) (sig_tree u)) gnil
sig_tree (again s u) = gcons (gcons (sig_tree s) (sig_tree u)) (gnum zero)

abbrev pub tree_sig : Gv → Sig
tree_sig gnil = star
tree_sig (gnum n) = star
tree_sig (gcons gnil b) = star
tree_sig (gcons (gnum zero) b) = left_of (tree_sig b)
tree_sig (gcons (gnum (suc n)) b) = right_of (tree_sig b)
tree_sig (gcons (gcons a b) gnil) = pair_of (tree_sig a) (tree_sig b)
tree_sig (gcons (gcons a b) (gnum n)) = again (tree_sig a) (tree_sig b)
tree_sig (gcons (gcons a b) (gcons c d)) = star

pub sig_back : (s : Sig) → tree_sig (sig_tree s) ≡ s
sig_back star = refl
sig_back (left_of s) = ap left_of (sig_back s)
sig_back (right_of s) = ap right_of (sig_back s)
sig_back (pair_of s u) = λ k. pair_of (sig_back s k) (sig_back u k)
sig_back (again s u) = λ k. again (sig_back s k) (sig_back u k)

abbrev pub sig_code : Coded Sig
sig_code = record { code = sig_tree; inj = λ s u h. sym (sig_back s) ∙ ap tree_sig h ∙ sig_back u }

abbrev pub sym_parts : Sym → Option (Option Sig)
sym_parts R = None
sym_parts L = Some None
sym_parts (S s) = Some (Some s)

abbrev pub parts_sym : Option (Option Sig) → Sym
parts_sym None = R
parts_sym (Some None) = L
parts_sym (Some (Some s)) = S s

pub sym_back : (a : Sym) → parts_sym (sym_parts a) ≡ a
sym_back R = refl
sym_back L = refl
sym_back (S s) = refl

abbrev pub sym_code : Coded Sym
sym_code = code_by (Option (Option Sig)) (coded_option (coded_option sig_code)) sym_parts parts_sym sym_back

abbrev pub work_code : Coded Work
work_code = coded_list sym_code

abbrev pub boxes_code : Coded Boxes
boxes_code = coded_list sig_code

abbrev pub load_code : Coded Load
load_code = code_by (Work × Boxes) (coded× work_code boxes_code) (λ a. (a.work, a.boxes)) (λ p. load p.0 p.1) (λ _. refl)
