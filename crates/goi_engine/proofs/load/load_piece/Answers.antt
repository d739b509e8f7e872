use Rattle.std.proofs.Common.{◌≡◌, ℕ, length, take, Some, None, IfSome, OnOk, sym, subst, arith, rules}
use Rattle.goi_world.specs.Outside.{with_given}
use Rattle.goi_world.specs.Told.{read_of, IsPiece}
use Rattle.goi_engine.proofs.Loading.{loads, read_on}
use Rattle.goi_engine.proofs.load.load_piece.Goals as goal

pub returns-in_ok-extend_from_slice-in-Ok-clause-loads :
    goal.returns-in_ok-extend_from_slice-in-Ok-clause-loads
returns-in_ok-extend_from_slice-in-Ok-clause-loads g c =
    loads c.args.limit c.args.bytes.now.items _ c.read.new.buf c.in-Ok.count c.in_ok-extend_from_slice-in-Ok.ensures.items
    c.in-Ok.ensures.bound (omega arith)

pub returns-in_ok-extend_from_slice-in-Ok-clause-goes_on :
    goal.returns-in_ok-extend_from_slice-in-Ok-clause-goes_on
returns-in_ok-extend_from_slice-in-Ok-clause-goes_on g c = λ told fits.
    let at : c.len.result ≡ length c.args.bytes.now.items = omega (arith, c.len.ensures, c.args.bytes.now.ok.0) in
    let read = (g.met.F.Files.fits_each c.args.files.now _ c.read.new.self told c.in-Ok.ensures.reads fits).1 in
    let P : ℕ → Type 0 = λ i. IfSome (told c.args.name.now)
    (λ bytes. IsPiece bytes i (length c.args.piece.now) (take c.in-Ok.count c.read.new.buf)) in
    read_on (told c.args.name.now) c.args.bytes.now.items _ c.read.new.buf c.in-Ok.count (length c.args.piece.now)
    c.in_ok-extend_from_slice-in-Ok.ensures.items c.in-Ok.ensures.bound (omega arith) (subst P at read)

pub returns-in_ok-extend_from_slice-in-Ok-clause-reads :
    goal.returns-in_ok-extend_from_slice-in-Ok-clause-reads
returns-in_ok-extend_from_slice-in-Ok-clause-reads g c =
    let at : c.len.result ≡ length c.args.bytes.now.items = omega (arith, c.len.ensures, c.args.bytes.now.ok.0) in
    let room = length c.args.piece.now in
    let gave = Some (take c.in-Ok.count c.read.new.buf) in
    let R : ℕ → Type 0 = λ i. g.F.Files.reads c.args.files.now (read_of c.args.name.now i room gave) c.read.new.self in
    (room, gave, omega arith, subst R at c.in-Ok.ensures.reads, sym c.in_ok-extend_from_slice-in-Ok.ensures.items)

pub returns-in_err-extend_from_slice-in-Ok-clause-reads :
    goal.returns-in_err-extend_from_slice-in-Ok-clause-reads
returns-in_err-extend_from_slice-in-Ok-clause-reads g c =
    let at : c.len.result ≡ length c.args.bytes.now.items = omega (arith, c.len.ensures, c.args.bytes.now.ok.0) in
    let room = length c.args.piece.now in
    let gave = Some (take c.in-Ok.count c.read.new.buf) in
    let R : ℕ → Type 0 = λ i. g.F.Files.reads c.args.files.now (read_of c.args.name.now i room gave) c.read.new.self in
    let none : OnOk c.from_residual.result (with_given c.args.bytes.now.items gave ≡ c.extend_from_slice.new.self.items) = search rules in
    (room, gave, omega arith, subst R at c.in-Ok.ensures.reads, none)

pub returns-in-Err-clause-reads : goal.returns-in-Err-clause-reads
returns-in-Err-clause-reads g c =
    let at : c.len.result ≡ length c.args.bytes.now.items = omega (arith, c.len.ensures, c.args.bytes.now.ok.0) in
    let room = length c.args.piece.now in
    let R : ℕ → Type 0 = λ i. g.F.Files.reads c.args.files.now (read_of c.args.name.now i room None) c.read.new.self in
    (room, None, omega arith, subst R at c.in-Err.ensures.reads, tt)
