-- Which bytes are the listing of a program's net, and what is the first fault of those that aren't.
use Rattle.std.specs.Prelude.{◌≢◌, ℕ, List, Err}
use Rattle.net_text.specs.declared.fault.NetTextFault.{NetTextFault}
use Rattle.net_text.specs.declared.fault.NetTextFault.TheVariants as listing
use Rattle.net_text.specs.Accepted.{Accepts}
use Rattle.goi_tasks.specs.declared.fault.Fault.{Fault}
use Rattle.goi_tasks.specs.declared.fault.Fault.TheVariants.{NetText}

-- the bytes are refused as the listing of a program's net for this fault, which is their first; want of memory is none
pub data FaultyListing (bytes : List ℕ) : Fault → Type 0 where
  unlisted : (f : NetTextFault) → f ≢ listing.NoMemory → Accepts bytes (Err f) → FaultyListing bytes (NetText f)
