-- The arms of keys, from the last one on.
use Rattle.std.proofs.Common.{◌≡◌, ◌∙◌, ◌≤◌, ◌<◌, ◌-◌, ℕ, zero, suc, List, sym, ap, arith}
use Rattle.verilog_tree.specs.Tree.{Arms, otherwise, skip}
use Rattle.joined_module.specs.Rows.{ModuleRow}
use Rattle.joined_module.specs.Fields.{Field}
use Rattle.joined_module.specs.Module.{key_arms}
use Rattle.joined_fields.specs.Parts.{one_key}

-- that of one key more, in front
pub next_arms : (b t : ℕ) (fs : List Field) (rows : List ModuleRow) (k n : ℕ) (old new : Arms) → 0 < k → k ≤ n →
    old ≡ key_arms b t fs rows k (n - k) → new ≡ one_key b t fs rows (k - 1) old →
    (new ≡ key_arms b t fs rows (k - 1) (n - (k - 1))) × (k - 1 ≤ n)
next_arms b t fs rows k n old new p h e f =
    let up : k ≡ suc (k - 1) = omega arith in
    let less : n - (k - 1) ≡ suc (n - k) = omega arith in (
      f ∙ ap (λ a. one_key b t fs rows (k - 1) a) (e ∙ ap (λ v. key_arms b t fs rows v (n - k)) up)
          ∙ sym (ap (λ m. key_arms b t fs rows (k - 1) m) less),
      omega arith,
    )

-- behind the last key there are none
pub first_arms : (b t : ℕ) (fs : List Field) (rows : List ModuleRow) (k n : ℕ) (old : Arms) → old ≡ otherwise skip → k ≡ n →
    (old ≡ key_arms b t fs rows k (n - k)) × (k ≤ n)
first_arms b t fs rows k n old e h =
    let none : n - k ≡ zero = omega arith in
    (e ∙ sym (ap (λ m. key_arms b t fs rows k m) none), omega arith)

-- from the first key on there are all
pub last_arms : (b t : ℕ) (fs : List Field) (rows : List ModuleRow) (k n : ℕ) (old : Arms) → k ≤ 0 →
    old ≡ key_arms b t fs rows k (n - k) → old ≡ key_arms b t fs rows 0 n
last_arms b t fs rows k n old h e =
    let first : k ≡ 0 = omega arith in
    let all : n - 0 ≡ n = omega arith in
    e ∙ ap (λ v. key_arms b t fs rows v (n - v)) first ∙ ap (λ m. key_arms b t fs rows 0 m) all
