-- The constants of `limits` as definitions and contracts call them, which is what `law_listing_limits` says.
use Rattle.std.specs.Prelude.{◌≡◌}
use Rattle.net_text.specs.declared.limits.TheConstants.{NET_TEXT_BYTES, TYPE_HEIGHT}
use Rattle.net_text.specs.Limits.{most_text_bytes, most_type_height}

-- each constant is the number of its name
pub record LimitsAre : Type 0 where
  pub text_bytes : NET_TEXT_BYTES ≡ most_text_bytes
  pub type_height : TYPE_HEIGHT ≡ most_type_height
