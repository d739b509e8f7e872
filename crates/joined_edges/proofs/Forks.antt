-- The open forks after the row in the registers is made: those of the rows' circuit.
use Rattle.std.proofs.Common.{◌≡◌, ◌≤◌, ℕ, suc, ◌+◌, Bool, true, false, cond, ◌||◌, List, [], ◌∷◌, if◌then◌else◌}
use Rattle.std.proofs.Common.{length, Some, refl, ap, subst, ◌∙◌, arith}
use Rattle.std.proofs.lemmas.Bool.{and_parts}
use Rattle.pcf_values.specs.declared.val.Val.{Val}
use Rattle.verilog_tree.specs.Meaning.{Scope, Store, flag, fire}
use Rattle.circuit_module.specs.Stands.{value_number, Small}
use Rattle.joined_module.specs.Rows.{From, Operand, ForkDeed, no_fork, opens, keeps, closes, ModuleRow, opened_boxes}
use Rattle.joined_module.specs.Names.{open_box_name}
use Rattle.joined_module.specs.Fields.{opens_fork, is_kept, kept_operand, closes_fork, answers_in}
use Rattle.joined_module.specs.Module.{Widths, fork_stmt}
use Rattle.joined_module.specs.Machine.{RowCircuit, RowFork, innermost, around, base_of, answers_deed, forks_after, pointers_from}
use Rattle.joined_module.specs.Machine.{operand_value}
use Rattle.joined_module.specs.Machine.{is_open, deed_there}
use Rattle.joined_edges.specs.Timed.{Timed}
use Rattle.joined_edges.specs.Stands.{InRegisters, Falling, Going}
use Rattle.joined_edges.proofs.Flags.{Flags}
use Rattle.joined_edges.proofs.Sources.{Wide}
use Rattle.joined_edges.proofs.Deeds.{ForkWires, WideForks, ForksNow, acts_none, acts_closes, acts_keeps, acts_opens}

-- ---- falling tops

falling_more : (m n : ℕ) (fs : List RowFork) → m ≤ n → Falling m fs → Falling n fs
falling_more m n [] l h = tt
falling_more m n (f ∷ fs) l h = let a = h.0 in (omega arith, h.1)

pub base_falls : (r : ModuleRow) (D : RowCircuit) → Falling D.top D.forks → (answers_deed r.fork ≡ true → is_open D.forks ≡ true) →
    base_of r D ≤ D.top
base_falls r D h o = go (answers_deed r.fork) refl
  where
    inner : (fs : List RowFork) → is_open fs ≡ true → Falling D.top fs → (innermost fs).top ≤ D.top
    inner [] o h = absurd cc
    inner (f ∷ fs) o h = h.0

    go : (b : Bool) → answers_deed r.fork ≡ b → cond b (innermost D.forks).top D.top ≤ D.top
    go true e = inner D.forks (o e) h
    go false e = omega arith

pub falling_acted : (ps : ℕ → ℕ) (r : ModuleRow) (D : RowCircuit) → Falling D.top D.forks → deed_there D r.fork ≡ true →
    Falling (base_of r D + flag r.makes) (forks_after ps r D r.fork)
falling_acted ps r D h t = go r.fork refl t
  where
    base_by : (d : ForkDeed) → r.fork ≡ d → base_of r D ≡ cond (answers_deed d) (innermost D.forks).top D.top
    base_by d e = ap (λ d. cond (answers_deed d) (innermost D.forks).top D.top) e

    answered : (fs : List RowFork) (v : Val) (n : ℕ) → is_open fs ≡ true → Falling D.top fs → (innermost fs).top ≤ n →
        Falling n (record (innermost fs) { answered = Some v } ∷ around fs)
    answered [] v n o h l = absurd cc
    answered (f ∷ fs) v n o h l = (l, h.1)

    closed : (fs : List RowFork) (n : ℕ) → is_open fs ≡ true → Falling D.top fs → (innermost fs).top ≤ n → Falling n (around fs)
    closed [] n o h l = absurd cc
    closed (f ∷ fs) n o h l = falling_more f.top n fs l h.1

    above : (b : Bool) → base_of r D + (if b then flag r.makes else 0) ≤ base_of r D + flag r.makes
    above true = omega arith
    above false = omega arith

    go : (d : ForkDeed) → r.fork ≡ d → deed_there D d ≡ true → Falling (base_of r D + flag r.makes) (forks_after ps r D d)
    go no_fork e t = let b = base_by no_fork e in falling_more D.top (base_of r D + flag r.makes) D.forks (omega arith) h
    go (opens l b k) e t =
        let c = base_by (opens l b k) e in
        (above b, falling_more D.top (base_of r D + (if b then flag r.makes else 0)) D.forks (omega arith) h)
    go (keeps x) e t =
        let c = base_by (keeps x) e in
        answered D.forks (operand_value ps D x) (base_of r D + flag r.makes) (and_parts (is_open D.forks) _ t).0 h (omega arith)
    go closes e t = let c = base_by closes e in closed D.forks (base_of r D + flag r.makes) t h (omega arith)

-- ---- what is in the registers and the memories

module _ (W : Widths) (enough : Wide W) (deep : WideForks W) (P : Scope) (R : Store) (wires : ForkWires W P R) (rows : List ModuleRow)
    (t : Timed) (going : Going rows W t R) where
  abbrev D : RowCircuit
  D = t.circuit

  -- what the row keeps or opens
  pub record Deed (ps : ℕ → ℕ) (r : ModuleRow) : Type 0 where
    pub there : deed_there D r.fork ≡ true
    pub fresh : answers_in r.fork ≡ true → t.fresh ≡ false
    pub room : base_of r D + flag r.makes ≤ W.cells
    pub room_forks : length (forks_after ps r D r.fork) ≤ W.forks
    pub base : R.vec "base" ≡ base_of r D
    pub next_top : R.vec "next_top" ≡ base_of r D + flag r.makes
    pub boxes : InRegisters W R open_box_name 0 (pointers_from r D (opened_boxes r.fork))
    pub few_boxes : length (opened_boxes r.fork) ≤ W.saved
    pub second : (x : Operand) → kept_operand r.fork ≡ Some x →
        (R.vec "second" ≡ value_number (operand_value ps D x)) × Small (operand_value ps D x)

  pointers_long : (r : ModuleRow) (ss : List From) → length (pointers_from r D ss) ≡ length ss
  pointers_long r [] = refl
  pointers_long r (s ∷ ss) = ap suc (pointers_long r ss)

  pub forks_acted : (ps : ℕ → ℕ) (r : ModuleRow) → R.vec "acts" ≡ 1 → Flags R r → Deed ps r →
      ForksNow W enough deep P R wires (fire P R (fork_stmt W) R) (forks_after ps r D r.fork)
      (opens_fork r.fork || is_kept (kept_operand r.fork))
  forks_acted ps r a flags deed = go r.fork refl
    where
      opens_by : (d : ForkDeed) → r.fork ≡ d → R.vec "opens" ≡ flag (opens_fork d)
      opens_by d e = flags.opens_is ∙ ap (λ d. flag (opens_fork d)) e

      keeps_by : (d : ForkDeed) → r.fork ≡ d → R.vec "keeps" ≡ flag (is_kept (kept_operand d))
      keeps_by d e = flags.keeps_is ∙ ap (λ d. flag (is_kept (kept_operand d))) e

      closes_by : (d : ForkDeed) → r.fork ≡ d → R.vec "closes" ≡ flag (closes_fork d)
      closes_by d e = flags.closes_is ∙ ap (λ d. flag (closes_fork d)) e

      there_by : (d : ForkDeed) → r.fork ≡ d → deed_there D d ≡ true
      there_by d e = subst (λ d. deed_there D d ≡ true) e deed.there

      fresh_by : (d : ForkDeed) → r.fork ≡ d → answers_in d ≡ true → t.fresh ≡ false
      fresh_by d e = subst (λ d. answers_in d ≡ true → t.fresh ≡ false) e deed.fresh

      second_by : (d : ForkDeed) → r.fork ≡ d → (x : Operand) → kept_operand d ≡ Some x →
          (R.vec "second" ≡ value_number (operand_value ps D x)) × Small (operand_value ps D x)
      second_by d e =
          subst (λ d. (x : Operand) → kept_operand d ≡ Some x → (R.vec "second" ≡ value_number (operand_value ps D x))
          × Small (operand_value ps D x)) e deed.second

      boxes_by : (d : ForkDeed) → r.fork ≡ d →
          InRegisters W R open_box_name 0 (pointers_from r D (opened_boxes d)) × (length (opened_boxes d) ≤ W.saved)
      boxes_by d e =
          subst (λ d. InRegisters W R open_box_name 0 (pointers_from r D (opened_boxes d)) × (length (opened_boxes d) ≤ W.saved)) e
          (deed.boxes, deed.few_boxes)

      room_by : (d : ForkDeed) → r.fork ≡ d → length (forks_after ps r D d) ≤ W.forks
      room_by d e = subst (λ d. length (forks_after ps r D d) ≤ W.forks) e deed.room_forks

      go : (d : ForkDeed) → r.fork ≡ d →
          ForksNow W enough deep P R wires (fire P R (fork_stmt W) R) (forks_after ps r D d) (opens_fork d || is_kept (kept_operand d))
      go no_fork e =
          acts_none W enough deep P R wires D going.forks going.depth going.few_forks t.fresh going.fresh going.innermost a r ps flags
          (opens_by no_fork e) (keeps_by no_fork e) (closes_by no_fork e)
      go (keeps x) e =
          let o = (and_parts (is_open D.forks) _ (there_by (keeps x) e)).0 in
          let s = second_by (keeps x) e x refl in
          acts_keeps W enough deep P R wires D going.forks going.depth going.few_forks t.fresh going.fresh going.innermost a r ps flags
          (operand_value ps D x) (opens_by (keeps x) e) (keeps_by (keeps x) e) (closes_by (keeps x) e) o s.0 s.1
      go closes e =
          acts_closes W enough deep P R wires D going.forks going.depth going.few_forks t.fresh going.fresh going.innermost a r ps flags
          (opens_by closes e) (keeps_by closes e) (closes_by closes e) (fresh_by closes e refl) (there_by closes e)
      go (opens l b k) e =
          let bx = boxes_by (opens l b k) e in
          let n = pointers_long r l in
          acts_opens W enough deep P R wires D going.forks going.depth going.few_forks t.fresh going.fresh going.innermost a r ps flags
          l b k e deed.room (room_by (opens l b k) e) deed.base deed.next_top bx.0 (omega arith) (second_by (opens l b k) e)
