-- Open entries as a list: each with its key, in the order of keys.
use Rattle.fork_join.specs.Entries.{Entry, Key}
use Rattle.fork_join.specs.Nested.{entry_of}
use Rattle.fork_join.specs.declared.listing.Open.{Open}

-- the key and the entry of a listed one
abbrev pub open_of : Open → Key × Entry
open_of o = ((o.node, o.boxes.now), entry_of o.kept)
