use Rattle.walk_text.proofs.Playing.{low_here}
use Rattle.walk_text.proofs.trace.push_window.Goals as goal

pub push_head-requires : goal.push_head-requires
push_head-requires c = record { low = low_here c.args.net.now _ c.args.core.now c.requires.runs c.requires.led }
