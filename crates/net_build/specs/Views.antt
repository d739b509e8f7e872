-- The view of a wire: the code's wire without where its type lies in memory.
use Rattle.pcf_values.specs.Views.{ty_of}
use Rattle.net_build.specs.declared.wire.Wire.{Wire}
use Rattle.net_build.specs.Nets.{WireTree}

abbrev pub wire_of : Wire → WireTree
wire_of w = record { kind = w.kind; depth = w.depth; type = ty_of w.ty }
