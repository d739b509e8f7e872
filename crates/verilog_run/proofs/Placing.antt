-- What an assignment to a word of a memory writes.
use Rattle.std.proofs.Common.{◌≡◌, ℕ, Bool, true, false, ◌&&◌, refl, sym, ap, nat_eq, nat_lt}
use Rattle.std.proofs.Math.Path.{fun_ext}
use Prim.Native.String.{String}
use lib.Text.{eqt}
use Rattle.verilog_tree.specs.Meaning.{Store, chosen, set_word}
use Rattle.verilog_run.specs.Held.{with_word}

-- other words of memories
abbrev with_words : Store → (String → ℕ → ℕ) → Store
with_words S f = record S { mem = f }

-- a word that the memory has
pub word_there : (S : Store) (x : String) (w i n : ℕ) → nat_lt i w ≡ true → with_word x i n S ≡ set_word x w i n S
word_there S x w i n h =
    ap (with_words S) (fun_ext (λ y. fun_ext (λ j. ap (λ b. chosen (eqt x y && b) n (S.mem y j)) (more (nat_eq i j)))))
  where
    more : (b : Bool) → b ≡ (b && nat_lt i w)
    more true = sym h
    more false = refl

-- and what is past its end isn't written
pub word_past : (S : Store) (x : String) (w i n : ℕ) → nat_lt i w ≡ false → S ≡ set_word x w i n S
word_past S x w i n h =
    ap (with_words S) (fun_ext (λ y. fun_ext (λ j. sym (ap (λ b. chosen b n (S.mem y j)) (none (eqt x y) (nat_eq i j))))))
  where
    none : (a b : Bool) → (a && (b && nat_lt i w)) ≡ false
    none true true = h
    none true false = refl
    none false b = refl
