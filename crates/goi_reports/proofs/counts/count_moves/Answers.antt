use Rattle.std.proofs.Common.{◌≡◌, ◌+◌, suc, get_or, replicate, ap, sym, ◌∙◌, arith}
use Rattle.std.specs.Prelude.{set}
use Rattle.schedule_log.specs.KeptRuns.{MovesSeen}
use Rattle.goi_reports.proofs.Counting.{next_run, tally_none}
use Rattle.goi_reports.proofs.counts.count_moves.Goals as goal

pub loop-run-init : goal.loop-run-init
loop-run-init c = let e : c.args.workers + 1 ≡ suc c.args.workers = omega arith in
    c.in_ok-counts.ensures.items_if_clones_equal (λ y same. same) ∙ ap (λ n. replicate n 0) e ∙ sym (tally_none c.args.workers)

pub index_mut-requires : goal.index_mut-requires
index_mut-requires c =
    let rs = c.args.runs.now in
    let i = c.loop-run.run-index in
    let d = c.run-item.result in
    let next = next_run c.loop-run.counts.items rs c.args.workers i d c.loop-run-test.true c.requires.each c.requires.booked
    c.loop-run.invariant in
    let w : c.worker.result ≡ (get_or rs i d).worker = c.worker.ensures.value ∙ ap (λ (m : MovesSeen). m.worker) c.run-item.is in
    omega (arith, next.place, w, c.loop-run.counts.ok.0)

pub overflow_add-index_mut : goal.overflow_add-index_mut
overflow_add-index_mut c =
    let rs = c.args.runs.now in
    let i = c.loop-run.run-index in
    let d = c.run-item.result in
    let next = next_run c.loop-run.counts.items rs c.args.workers i d c.loop-run-test.true c.requires.each c.requires.booked
    c.loop-run.invariant in
    let w : c.worker.result ≡ (get_or rs i d).worker = c.worker.ensures.value ∙ ap (λ (m : MovesSeen). m.worker) c.run-item.is in
    let n : c.count.result ≡ (get_or rs i d).count = c.count.ensures.value ∙ ap (λ (m : MovesSeen). m.count) c.run-item.is in
    let z = c.index_mut.result.now in
    let v = c.index_mut.ensures.value ∙ ap (λ w. get_or c.loop-run.counts.items w z) w in
    omega (arith, next.fits z, v, n, c.requires.short)

pub loop-run-preserved : goal.loop-run-preserved
loop-run-preserved c =
    let rs = c.args.runs.now in
    let i = c.loop-run.run-index in
    let d = c.run-item.result in
    let next = next_run c.loop-run.counts.items rs c.args.workers i d c.loop-run-test.true c.requires.each c.requires.booked
    c.loop-run.invariant in
    let w : c.worker.result ≡ (get_or rs i d).worker = c.worker.ensures.value ∙ ap (λ (m : MovesSeen). m.worker) c.run-item.is in
    let n : c.count.result ≡ (get_or rs i d).count = c.count.ensures.value ∙ ap (λ (m : MovesSeen). m.count) c.run-item.is in
    let z = c.index_mut.result.now in
    let v = c.index_mut.ensures.value ∙ ap (λ w. get_or c.loop-run.counts.items w z) w in
    (λ j. set c.loop-run.counts.items (w j) (z + n j)) ∙ next.raised z v
