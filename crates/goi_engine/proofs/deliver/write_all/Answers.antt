use Rattle.std.proofs.Common.{◌<◌, length, rules}
use Rattle.goi_engine.proofs.Writing.{further, broken, nothing_spare}
use Rattle.goi_engine.proofs.deliver.write_all.Goals as goal

pub loop-rest-preserved : goal.loop-rest-preserved
loop-rest-preserved g c =
    let wrote = c.in-Ok.ensures in
    let some : 0 < length c.loop-rest.rest.now = search rules in
    further g.S.Sink.seen g.S.Sink.writes c.args.text.now c.args.out.now c.loop-rest.rest.now c.loop-rest.out c.write.new.self
    c.loop-rest.invariant c.in-Ok.count c.split_at.result.1.now c.split_at.ensures.back some wrote.bound
    wrote.writes wrote.appended wrote.ok wrote.spare

pub returns-in-Err : goal.returns-in-Err
returns-in-Err g c =
    let failed = c.in-Err.ensures in
    let some : 0 < length c.loop-rest.rest.now = search rules in
    broken g.S.Sink.seen g.S.Sink.writes c.args.text.now c.args.out.now c.loop-rest.rest.now c.loop-rest.out c.write.new.self
    c.loop-rest.invariant some failed.writes failed.kept failed.failed
    (nothing_spare (g.S.Sink.seen c.loop-rest.out).spare (λ h. let k = failed.sure h in cc))
