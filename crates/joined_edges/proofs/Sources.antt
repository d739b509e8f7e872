-- The pointer of a source, from the registers and wires that it is read from.
use Rattle.std.proofs.Common.{◌≡◌, ◌<◌, ◌≤◌, ℕ, suc, ◌+◌, ◌-◌, ◌*◌, ◌/◌, ◌^◌, true, length, Some}
use Rattle.std.proofs.Common.{refl, ap, ◌∙◌, arith, nat_lt}
use Rattle.std.proofs.lemmas.Bool.{lt-ltb, ltb-true}
use Rattle.std.proofs.lemmas.Nat.{pow-add, shr_high, mul-le}
use Prim.Native.String.{String}
use Rattle.verilog_tree.specs.Tree.{Expr, count, name, part, cat}
use Rattle.verilog_tree.specs.Meaning.{Scope, Store, fit, chosen, bits, value}
use Rattle.verilog_tree.proofs.Numbers.{fits}
use Rattle.joined_module.specs.Rows.{From, from_sig, from_box, from_fork, from_word, part_of_sig, part_of_box, from_new, from_none}
use Rattle.joined_module.specs.Rows.{ModuleRow}
use Rattle.joined_module.specs.Names.{sig_name, box_name, word_name, fork_box_name}
use Rattle.joined_module.specs.Fields.{kind_of_from, tag_of_from, source_expr, answers_in}
use Rattle.joined_module.specs.Module.{Widths}
use Rattle.joined_module.specs.Fits.{source_within}
use Rattle.joined_module.specs.Fits.{is_fork_source}
use Rattle.joined_module.specs.Machine.{Tagged, RowCircuit, tagged_at, innermost, base_of, pointer_from, from_there, takes_words}
use Rattle.joined_edges.specs.Stands.{pointer_width, pointer_number, PointerFits}
pub use Rattle.joined_edges.specs.Row.{Reads}

-- widths that are enough
pub record Wide (W : Widths) : Type 0 where
  pub place : W.cells < 2 ^ W.place
  pub some_place : 1 ≤ W.place

-- all that a row's sources are read from
pub record Origins (W : Widths) (r : ModuleRow) (D : RowCircuit) (P : Scope) (R : Store) : Type 0 where
  pub sig : (i : ℕ) → i < length D.sigs → Reads W R (sig_name i) (tagged_at D.sigs i)
  pub box : (i : ℕ) → i < length D.boxes → Reads W R (box_name i) (tagged_at D.boxes i)
  pub fork : answers_in r.fork ≡ true → (i : ℕ) → i < length (innermost D.forks).boxes →
      Reads W R (fork_box_name i) (tagged_at (innermost D.forks).boxes i)
  pub word : takes_words (Some r) ≡ true → (i : ℕ) → i < W.words → from_there D (from_word i) ≡ true → Reads W R (word_name i) (D.read i)
  pub base : R.vec "base" ≡ base_of r D
  pub base_low : base_of r D ≤ W.cells
  pub sig_wide : 0 < length D.sigs → P.width (sig_name 0) ≡ pointer_width W
  pub box_wide : 0 < length D.boxes → P.width (box_name 0) ≡ pointer_width W

-- ---- numbers

-- a place and a tag are a number of so many bits
below_product : (a b m n : ℕ) → a < m → b < n → a * n + b < m * n
below_product a b m n la lb =
    let h : suc a * n ≤ m * n = mul-le (suc a) n m n la (omega arith) in
    let e : suc a * n ≡ a * n + n = omega arith in
    omega arith

pub pair_low : (p t m n : ℕ) → m < 2 ^ p → n < 2 ^ t → m * 2 ^ t + n < 2 ^ (p + t)
pair_low p t m n l k = rw (pow-add 2 p t) (below_product m n (2 ^ p) (2 ^ t) l k)

module _ (W : Widths) (wide : Wide W) where
  abbrev p : ℕ
  p = W.place

  abbrev t : ℕ
  t = W.tag

  pub pointer_low : (q : Tagged) → PointerFits W q → pointer_number W q < 2 ^ pointer_width W
  pointer_low q f = pair_low p t q.place q.tag (let a = f.place in let b = wide.place in omega arith) f.tag

  pub pointer_fits : (q : Tagged) → PointerFits W q → fit (pointer_width W) (pointer_number W q) ≡ pointer_number W q
  pointer_fits q f = fits (pointer_width W) (pointer_number W q) (pointer_low q f)

  module _ (P : Scope) (R : Store) where
    -- the place of a pointer that a name holds
    pub place_is : (x : String) (q : Tagged) (w : ℕ) → Reads W R x q → P.width x ≡ pointer_width W →
        value P R w (part x (count (p + t - 1)) (count t)) ≡ q.place
    place_is x q w h e =
        ap (λ n. chosen (nat_lt (p + t - 1) n) (fit (suc (p + t - 1 - t)) (R.vec x / 2 ^ t)) (R.stray x (p + t - 1))) e
        ∙ (let a = wide.some_place in ap (λ c. chosen c (fit (suc (p + t - 1 - t)) (R.vec x / 2 ^ t)) (R.stray x (p + t - 1)))
        (lt-ltb (p + t - 1) (p + t) (omega arith)))
        ∙ (let a = wide.some_place in let b : suc (p + t - 1 - t) ≡ p = omega arith in ap (λ v. fit v (R.vec x / 2 ^ t)) b)
        ∙ ap (λ v. fit p (v / 2 ^ t)) h.is ∙ ap (fit p) (shr_high q.place t q.tag h.fit.tag)
        ∙ fits p q.place (let a = h.fit.place in let b = wide.place in omega arith)

    -- a place with another tag
    pub paired : (e : Expr) (x : String) (m n w : ℕ) → ((v : ℕ) → value P R v e ≡ m) → R.vec x ≡ n → P.width x ≡ t →
        value P R w (cat e (name x)) ≡ m * 2 ^ t + n
    paired e x m n w h k l =
        let a = h (bits P e) in
        λ i. a i * 2 ^ l i + k i

    module _ (r : ModuleRow) (D : RowCircuit) (O : Origins W r D P R) where
      -- what is asked of a source
      pub record SourceRight (x : String) (f : From) : Type 0 where
        pub there : from_there D f ≡ true
        pub within : source_within W f ≡ true
        pub answers : is_fork_source f ≡ true → answers_in r.fork ≡ true
        pub tag_wide : P.width x ≡ t
        pub takes : (i : ℕ) → f ≡ from_word i → takes_words (Some r) ≡ true
        pub tag : (n : ℕ) → tag_of_from f ≡ Some n → (R.vec x ≡ n) × (n < 2 ^ t)

      pub source_is : (x : String) (f : From) → SourceRight x f → (w : ℕ) →
          (value P R w (source_expr p t (name x) (kind_of_from f)) ≡ pointer_number W (pointer_from r D f)) × PointerFits W
          (pointer_from r D f)
      source_is x (from_sig i) h w = let q = O.sig i (ltb-true i (length D.sigs) h.there) in (q.is, q.fit)
      source_is x (from_box i) h w = let q = O.box i (ltb-true i (length D.boxes) h.there) in (q.is, q.fit)
      source_is x (from_fork i) h w =
          let q = O.fork (h.answers refl) i (ltb-true i (length (innermost D.forks).boxes) h.there) in
          (q.is, q.fit)
      source_is x (from_word i) h w = let q = O.word (h.takes i refl) i (ltb-true i W.words h.within) h.there in (q.is, q.fit)
      source_is x (part_of_sig n) h w =
          let l = ltb-true 0 (length D.sigs) h.there in
          let q = O.sig 0 l in
          let g = h.tag n refl in (
            paired (part (sig_name 0) (count (p + t - 1)) (count t)) x (tagged_at D.sigs 0).place n w
                (λ v. place_is (sig_name 0) (tagged_at D.sigs 0) v q (O.sig_wide l)) g.0 h.tag_wide,
            record { tag = g.1; place = q.fit.place },
          )
      source_is x (part_of_box n) h w =
          let l = ltb-true 0 (length D.boxes) h.there in
          let q = O.box 0 l in
          let g = h.tag n refl in (
            paired (part (box_name 0) (count (p + t - 1)) (count t)) x (tagged_at D.boxes 0).place n w
                (λ v. place_is (box_name 0) (tagged_at D.boxes 0) v q (O.box_wide l)) g.0 h.tag_wide,
            record { tag = g.1; place = q.fit.place },
          )
      source_is x (from_new n) h w =
          let g = h.tag n refl in
          (paired (name "base") x (base_of r D) n w (λ v. O.base) g.0 h.tag_wide, record { tag = g.1; place = O.base_low })
      source_is x (from_none n) h w =
          let g = h.tag n refl in
          (paired (name "base") x (base_of r D) n w (λ v. O.base) g.0 h.tag_wide, record { tag = g.1; place = O.base_low })
