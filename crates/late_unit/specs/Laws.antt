-- What the unit of numbers does at an edge, whatever else goes on: the statements of `law_late_unit` and `law_late_told`.
use Rattle.std.specs.Prelude.{◌≡◌, ℕ, suc, Bool, true}
use Rattle.pcf_values.specs.declared.val.Val.{Val}
use Rattle.pcf_values.specs.declared.operator.Operator.{Operator}
use Rattle.pcf_values.specs.Values.{val_op}
use Rattle.verilog_tree.specs.Meaning.{Store, Scope, flag}
use Rattle.circuit_module.specs.Stands.{value_number, Small}
use Rattle.late_unit.specs.Works.{UnitRests, UnitSame, After, Works, edges_of, is_minus, is_times, NotYet, Tells}

-- what it works at is told by its registers
abbrev pub LateSame : Type 0
LateSame = (b : Bool) (n : ℕ) (v : Val) (S T : Store) → UnitSame b S T → Works b n v S → Works b n v T

-- at the start it is free, whatever it did
abbrev pub LateReset : Type 0
LateReset = (P : Scope) (b : Bool) (v : Val) (R T : Store) → UnitRests P b R → After P b R T → R.vec "rst" ≡ 1 → Works b 0 v T

-- where it is free nothing is told
abbrev pub LateFree : Type 0
LateFree = (P : Scope) (b : Bool) (v : Val) (R : Store) → UnitRests P b R → Works b 0 v R → (R.vec "busy" ≡ 0) × NotYet b R

-- and it stays so until a number begins
abbrev pub LateRests : Type 0
LateRests = (P : Scope) (b : Bool) (v w : Val) (R T : Store) → UnitRests P b R → After P b R T → R.vec "rst" ≡ 0 → R.vec "starts" ≡ 0 →
    Works b 0 v R → Works b 0 w T

-- a number of both operands begins
abbrev pub LateStarts : Type 0
LateStarts = (P : Scope) (b : Bool) (o : Operator) (x y w : Val) (R T : Store) → UnitRests P b R → After P b R T → R.vec "rst" ≡ 0 →
    R.vec "starts" ≡ 1 → Works b 0 w R → Small x → Small y → R.vec "first" ≡ value_number x → R.vec "second" ≡ value_number y →
    R.vec "less" ≡ flag (is_minus o) → (b ≡ true → R.vec "multiplies" ≡ flag (is_times o)) → (is_times o ≡ true → b ≡ true) →
    Works b (edges_of o y) (val_op o x y) T

-- it goes on for an edge, and tells nothing yet
abbrev pub LateGoes : Type 0
LateGoes = (P : Scope) (b : Bool) (n : ℕ) (v : Val) (R T : Store) → UnitRests P b R → After P b R T → R.vec "rst" ≡ 0 →
    R.vec "starts" ≡ 0 → Works b (suc (suc n)) v R → Works b (suc n) v T

abbrev pub LateBusy : Type 0
LateBusy = (P : Scope) (b : Bool) (n : ℕ) (v : Val) (R : Store) → UnitRests P b R → Works b (suc (suc n)) v R →
    (R.vec "busy" ≡ 1) × NotYet b R

-- at the last edge it tells the value, and is free behind it
abbrev pub LateTakes : Type 0
LateTakes = (P : Scope) (b : Bool) (v w : Val) (R T : Store) → UnitRests P b R → After P b R T → R.vec "rst" ≡ 0 → R.vec "starts" ≡ 0 →
    Works b 1 v R → Works b 0 w T

abbrev pub LateTells : Type 0
LateTells = (P : Scope) (b : Bool) (v : Val) (R : Store) → UnitRests P b R → Works b 1 v R → (R.vec "busy" ≡ 1) × Tells b v R
