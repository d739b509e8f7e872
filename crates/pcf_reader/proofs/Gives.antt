-- A function goes on where another has left off.
use Rattle.std.proofs.Common.{◌≡◌, Result, sym, subst}
use Rattle.pcf_reader.specs.Scan.{TreeOrFault}
use Rattle.pcf_reader.specs.Rest.{Fails, Gives}
use Rattle.pcf_reader.specs.declared.fault.ReadFault.{ReadFault}

pub fails_from : (f : ReadFault) (a b : TreeOrFault) → a ≡ b → Fails f b → Fails f a
fails_from f a b e h = subst (λ x. Fails f x) (sym e) h

pub gives_from : {X : Type 0} (after : X → TreeOrFault) (a b : TreeOrFault) (r : Result X ReadFault) → a ≡ b → Gives after b r →
    Gives after a r
gives_from after a b r e h = subst (λ x. Gives after x r) (sym e) h
