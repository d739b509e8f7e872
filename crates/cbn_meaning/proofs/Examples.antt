-- The meaning of some programs, computed. Each is a case in which another meaning than call by name, or a meaning with other
-- arithmetic, would differ.
use Rattle.std.proofs.Common.{◌≡◌, None, refl}
use Rattle.pcf_values.specs.declared.val.Val.TheVariants.{Number, Overflow}
use Rattle.pcf_values.specs.declared.operator.Operator.TheVariants.{Plus, Minus, Times}
use Rattle.pcf_values.specs.Terms.{nat, arrow, TermTree, num, var, succ_of, pred_of, binary, ifz, lam, fix, app, pair, proj}
use Rattle.pcf_values.specs.declared.side.Side.TheVariants.{Left}
use Rattle.cbn_meaning.specs.Meaning.{eval, Means}

-- fix y:nat. y
abbrev loops : TermTree
loops = fix nat (var 0)

-- (fun x:nat. 7) (fix y:nat. y): the argument isn't asked
argument_unasked : Means (app (lam nat (num 7)) loops) (Number 7)
argument_unasked = (2, refl)

-- fst (1, fix y:nat. y): the other part isn't asked
part_unasked : Means (proj Left (pair (num 1) loops)) (Number 1)
part_unasked = (2, refl)

-- ifz 0 then 1 else fix y:nat. y: the other branch isn't asked
branch_unasked : Means (ifz (num 0) (num 1) loops) (Number 1)
branch_unasked = (2, refl)

-- 0 * (fix y:nat. y): both operands are asked
operand_asked : eval 20 (binary Times (num 0) loops) ≡ None
operand_asked = refl

-- 0 * (succ 18446744073709551615)
overflow_stays : Means (binary Times (num 0) (succ_of (num 18446744073709551615))) Overflow
overflow_stays = (3, refl)

-- ifz succ 18446744073709551615 then 1 else 2
overflow_is_no_zero : Means (ifz (succ_of (num 18446744073709551615)) (num 1) (num 2)) (Number 2)
overflow_is_no_zero = (3, refl)

-- 2 - 5 and pred 0
no_negatives : Means (binary Plus (binary Minus (num 2) (num 5)) (pred_of (num 0))) (Number 0)
no_negatives = (3, refl)

-- (fix f:nat->nat. fun n:nat. ifz n then 0 else n + f (pred n)) 3
sums : Means (app (fix (arrow nat nat) (lam nat (ifz (var 0) (num 0) (binary Plus (var 0) (app (var 1) (pred_of (var 0))))))) (num 3))
    (Number 6)
sums = (24, refl)

-- (fun x:nat. fun y:nat. x - y) 5 3: the nearest binder has index 0
indexes : Means (app (app (lam nat (lam nat (binary Minus (var 1) (var 0)))) (num 5)) (num 3)) (Number 2)
indexes = (5, refl)
