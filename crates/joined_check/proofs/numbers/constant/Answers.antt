use Rattle.std.proofs.Common.{◌≡◌, sym, ap, ◌∙◌, ◌+◌}
use Rattle.std.specs.Prelude.{◌^◌}
use Rattle.std.specs.Option.{option_map}
use Rattle.pcf_values.specs.declared.val.Val.TheVariants.{Number}
use Rattle.joined_rows.specs.Open.{known}
use Rattle.joined_check.specs.Parts.{number_or}
use Rattle.joined_check.proofs.Ported.{constant_here}
use Rattle.joined_check.proofs.numbers.constant.Goals as goal

pub returns-in-Some : goal.returns-in-Some
returns-in-Some c =
    sym (ap (λ n. known (Number n)) (constant_here c.args.ports.now c.args.node c.args.value _ c.place.ensures ∙
    ap (λ o. number_or (option_map (λ j. 2 ^ 64 + j) o) c.args.value) c.in-Some.is))

pub returns-in-None : goal.returns-in-None
returns-in-None c =
    sym (ap (λ n. known (Number n)) (constant_here c.args.ports.now c.args.node c.args.value _ c.place.ensures ∙
    ap (λ o. number_or (option_map (λ j. 2 ^ 64 + j) o) c.args.value) c.in-None.is))
