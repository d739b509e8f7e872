-- What a call on the table of forks changes, key by key.
use Rattle.std.specs.Prelude.{◌≡◌, false, Option, Some, None}
use Rattle.std.specs.FinMap.{FinMap, get}
use Rattle.std.specs.Ordering.{eq_by_cmp}
use Rattle.pcf_values.specs.declared.val.Val.{Val}
use Rattle.pcf_values.specs.declared.side.Side.{Side}
use Rattle.fork_join.specs.Entries.{Entry, pending, has_left, has_right, kept_as, Key, key_cmp}

-- two keys aren't one, asked in either order
abbrev pub AreApart : Key → Key → Type 0
AreApart k q = (eq_by_cmp key_cmp k q ≡ false) × (eq_by_cmp key_cmp q k ≡ false)

-- all entries but this one stay
abbrev pub Stays : FinMap key_cmp Entry → FinMap key_cmp Entry → Key → Type 0
Stays old new k = (q : Key) → eq_by_cmp key_cmp q k ≡ false → get new q ≡ get old q

-- what is kept once an answer came
abbrev pub kept_then : Option Entry → Side → Val → Option Entry
kept_then None s v = None
kept_then (Some pending) s v = Some (kept_as s v)
kept_then (Some (has_left w)) s v = None
kept_then (Some (has_right w)) s v = None
