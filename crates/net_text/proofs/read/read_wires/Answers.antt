use Rattle.std.proofs.Common.{◌≡◌, ◌+◌, [], ◌∷◌, length, map, sym, ap, ◌∙◌, arith}
use Rattle.std.specs.Option.{option_map}
use Rattle.std.proofs.lemmas.List.{map-append}
use Rattle.net_build.specs.Views.{wire_of}
use Rattle.net_text.specs.FirstFault.{wire_at}
use Rattle.net_text.proofs.TextsRead.{wires_go}
use Rattle.net_text.proofs.read.read_wires.Goals as goal

pub loop-rest-preserved : goal.loop-rest-preserved
loop-rest-preserved c =
    let p = c.in_ok-push-in-Some.ensures in
    let line = c.cut_line.result.0.now in
    let n : c.len.result ≡ length c.loop-rest.wires.items = omega (arith, c.len.ensures) in
    record {
      few = omega (arith, p.len, c.cut_line.ensures.shorter, c.loop-rest.invariant.few);
      wires = wires_go c.args.height (length c.loop-rest.wires.items) (length c.loop-rest.wires.items + 2) (length c.push.new.self.items)
          (length c.push.new.self.items + 2) (map wire_of c.loop-rest.wires.items) (map wire_of c.push.new.self.items)
          (wire_of c.in-Some.wire)
          c.loop-rest.rest.now line c.cut_line.result.1.now _ c.cut_line.ensures.first
          (ap (λ k. wire_at c.args.height k line) (sym n) ∙ sym c.in_ok-wire.ensures ∙ ap (option_map wire_of) c.in-Some.is)
          (omega (arith, p.len)) (omega (arith, p.len))
          (ap (map wire_of) p.items ∙ map-append wire_of c.loop-rest.wires.items (c.in-Some.wire ∷ [])) c.loop-rest.invariant.wires;
    }
