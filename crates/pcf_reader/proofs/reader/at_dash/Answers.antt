use Rattle.std.proofs.Common.{rules, ◌≡◌, ◌+◌, ◌∷◌, [], refl}
use Rattle.std.specs.Str.{chars}
use Rattle.pcf_reader.proofs.LexSteps.{dash_arrow, dash_stop, dash_end}
use Rattle.pcf_reader.proofs.Taking.{reads_on, fewer}
use Rattle.pcf_reader.proofs.reader.at_dash.Goals as goal

pub returns-then-first-eq62-clause-goes : goal.returns-then-first-eq62-clause-goes
returns-then-first-eq62-clause-goes c =
    let e : chars c.args.text.now ≡ 62 ∷ chars c.in-Some.more.now = search rules in
    reads_on _ _ _ c.reader_of.ensures (dash_arrow (chars c.args.text.now) (chars c.in-Some.more.now) c.args.at c.args.at e) (λ _ _. refl)

pub returns-then-first-eq62-clause-shorter : goal.returns-then-first-eq62-clause-shorter
returns-then-first-eq62-clause-shorter c =
    let e : chars c.args.text.now ≡ 62 ∷ chars c.in-Some.more.now = search rules in
    fewer _ _ _ _ c.reader_of.ensures (dash_arrow (chars c.args.text.now) (chars c.in-Some.more.now) c.args.at c.args.at e)

pub returns-else-first-eq62-clause-goes : goal.returns-else-first-eq62-clause-goes
returns-else-first-eq62-clause-goes c =
    let e : chars c.args.text.now ≡ c.in-Some.first ∷ chars c.in-Some.more.now = search rules in
    reads_on _ _ _ c.reader_of-else-first-eq62.ensures
    (dash_stop (chars c.args.text.now) (chars c.in-Some.more.now) (c.args.at + 1) c.in-Some.first c.args.at e (search rules))
    (λ _ _. refl)

pub returns-else-first-eq62-clause-shorter : goal.returns-else-first-eq62-clause-shorter
returns-else-first-eq62-clause-shorter c =
    let e : chars c.args.text.now ≡ c.in-Some.first ∷ chars c.in-Some.more.now = search rules in
    fewer _ _ _ _ c.reader_of-else-first-eq62.ensures
    (dash_stop (chars c.args.text.now) (chars c.in-Some.more.now) (c.args.at + 1) c.in-Some.first c.args.at e (search rules))

pub returns-in-None-clause-goes : goal.returns-in-None-clause-goes
returns-in-None-clause-goes c =
    let e : chars c.args.text.now ≡ [] = search rules in
    reads_on _ _ _ c.reader_of-in-None.ensures (dash_end (chars c.args.text.now) (c.args.at + 1) c.args.at e) (λ _ _. refl)

pub returns-in-None-clause-shorter : goal.returns-in-None-clause-shorter
returns-in-None-clause-shorter c =
    let e : chars c.args.text.now ≡ [] = search rules in
    fewer _ _ _ _ c.reader_of-in-None.ensures (dash_end (chars c.args.text.now) (c.args.at + 1) c.args.at e)
