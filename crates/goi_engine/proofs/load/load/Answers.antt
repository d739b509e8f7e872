use Rattle.std.proofs.Common.{◌∙◌, ◌+◌, refl, inl, inr, arith}
use Rattle.goi_world.specs.Outside.{with_given}
use Rattle.goi_engine.proofs.Loading.{all_loaded, prefix_goes_on, next_turn, turns_load, kept_twice}
use Rattle.goi_engine.proofs.load.load.Goals as goal
use Rattle.goi_engine.proofs.load.load.Goals.{then-count-eq0-via-then-count-eq0, then-count-eq0-via-else-count-eq0+then-len-enough}

pub returns-then-count-eq0-clause-bytes : goal.returns-then-count-eq0-clause-bytes
returns-then-count-eq0-clause-bytes g c = λ told fits.
    let before = c.loop-turn.invariant in
    let is = c.in_ok-count.ensures in
    let (room, gave, within, read, more) = is.reads in
    let earlier = (g.met.F.Files.fits_each c.loop-turn.files _ c.load_piece.new.files told read fits).0 in
    let rest = all_loaded c.args.limit (told c.args.name.now) c.loop-turn.bytes.items _ c.in_ok-count.count is.loads (is.goes_on told fits)
    (before.prefix told earlier) in
    elim c.then-count-eq0.branch [
      | then-count-eq0-via-then-count-eq0 w ↦ rest (inl w.if-count-eq0.true)
      | then-count-eq0-via-else-count-eq0+then-len-enough w ↦ rest
          (inr (omega (arith, w.if-len-enough.true, w.len-else-count-eq0.ensures, c.load_piece.new.bytes.ok.0)))
    ]

pub loop-turn-preserved : goal.loop-turn-preserved
loop-turn-preserved g c =
    let before = c.loop-turn.invariant in
    let after = c.in_ok-count.ensures in
    let (room, gave, within, read, more) = after.reads in
    let turn = next_turn g.F.Files.reads c.args.name.now c.args.limit c.loop-turn.turn c.args.files.now c.loop-turn.files
    c.load_piece.new.files in
    record {
      count = omega (arith, after.loads.more, c.if-count-eq0.false);
      within = omega (arith, after.loads.within, c.if-len-enough.false, c.len-else-count-eq0.ensures, c.load_piece.new.bytes.ok.0);
      kept = kept_twice (g.F.Files.seen c.args.files.now) (g.F.Files.seen c.loop-turn.files) (g.F.Files.seen c.load_piece.new.files)
          before.kept after.kept;
      reads = turn room _ gave c.loop-turn.bytes.items _ before.reads within read
          (omega (arith, after.loads.more, c.if-count-eq0.false)) more;
      faults = after.ok ∙ before.faults;
      prefix = λ told fits. prefix_goes_on (told c.args.name.now) c.loop-turn.bytes.items _ c.in_ok-count.count (after.goes_on told fits)
          (before.prefix told (g.met.F.Files.fits_each c.loop-turn.files _ c.load_piece.new.files told read fits).0);
    }

pub returns-then-count-eq0-clause-reads : goal.returns-then-count-eq0-clause-reads
returns-then-count-eq0-clause-reads g c =
    let one = g.F.Files.reads in
    let bytes = c.loop-turn.bytes.items in
    let (room, gave, within, read, more) = c.in_ok-count.ensures.reads in
    let turn = next_turn one c.args.name.now c.args.limit c.loop-turn.turn c.args.files.now c.loop-turn.files c.load_piece.new.files in
    turns_load one c.args.name.now c.args.limit (c.loop-turn.turn + 1) (with_given bytes gave) c.args.files.now c.load_piece.new.files
    (turn room _ gave bytes (with_given bytes gave) c.loop-turn.invariant.reads within read (omega (arith, c.loop-turn.invariant.within))
    refl)
    (omega (arith, c.loop-turn-test.true))

pub returns-in_err-count-clause-reads : goal.returns-in_err-count-clause-reads
returns-in_err-count-clause-reads g c =
    let one = g.F.Files.reads in
    let bytes = c.loop-turn.bytes.items in
    let (room, gave, within, read, more) = c.in_err-count.ensures.reads in
    let turn = next_turn one c.args.name.now c.args.limit c.loop-turn.turn c.args.files.now c.loop-turn.files c.load_piece.new.files in
    turns_load one c.args.name.now c.args.limit (c.loop-turn.turn + 1) (with_given bytes gave) c.args.files.now c.load_piece.new.files
    (turn room _ gave bytes (with_given bytes gave) c.loop-turn.invariant.reads within read (omega (arith, c.loop-turn.invariant.within))
    refl)
    (omega (arith, c.loop-turn-test.true))
