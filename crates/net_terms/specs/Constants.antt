-- The constant of `limits` as definitions and contracts call it, which is what `law_limit` says.
use Rattle.std.specs.Prelude.{◌≡◌}
use Rattle.net_terms.specs.declared.limits.TheConstants.{TERM_HEIGHT}
use Rattle.net_terms.specs.Limits.{most_term_height}

-- the constant is the number of its name
abbrev pub LimitIs : Type 0
LimitIs = TERM_HEIGHT ≡ most_term_height
