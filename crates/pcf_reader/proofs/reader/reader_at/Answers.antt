use Rattle.std.proofs.Common.{rules, ◌≡◌, [], ap, ◌∙◌, refl}
use Rattle.std.specs.Str.{chars}
use Rattle.pcf_reader.specs.Machine.{State}
use Rattle.pcf_reader.specs.Scan.{scan}
use Rattle.pcf_reader.proofs.LexSteps.{idle_end}
use Rattle.pcf_reader.proofs.Taking.{reads_on, fewer}
use Rattle.pcf_reader.proofs.Gives.{gives_from}
use Rattle.pcf_reader.proofs.reader.reader_at.Goals as goal

pub returns-else-is_blank-clause-goes : goal.returns-else-is_blank-clause-goes
returns-else-is_blank-clause-goes c = λ (s : State). gives_from _ _ _ c.at_token.result
    (ap (λ z. scan z s c.args.nodes) c.loop-first.invariant.1) (c.at_token.ensures.goes s)

pub returns-clause-goes : goal.returns-clause-goes
returns-clause-goes c =
    let e : chars c.loop-first.rest.now ≡ [] = search rules in
    reads_on _ _ _ c.reader_of.ensures (c.loop-first.invariant.1 ∙ idle_end (chars c.loop-first.rest.now) c.loop-first.place e)
    (λ _ _. refl)

pub returns-clause-shorter : goal.returns-clause-shorter
returns-clause-shorter c =
    let e : chars c.loop-first.rest.now ≡ [] = search rules in
    fewer _ _ _ _ c.reader_of.ensures (c.loop-first.invariant.1 ∙ idle_end (chars c.loop-first.rest.now) c.loop-first.place e)
