-- What is looked at where a row leads: the channel alone says it.
use Rattle.std.proofs.Common.{◌≡◌, ℕ, cond, List, [], ◌∷◌, refl, ap, ◌∙◌}
use Rattle.std.specs.Prelude.{nat_eq}
use Rattle.net_rows.specs.Rows.{number}
use Rattle.joined_rows.specs.Open.{Spot, Walker, asks, says, spot_of}
use Rattle.joined_rows.specs.Compound.{terms_of}
use Rattle.joined_core.specs.Rows.{Key, key_of, Site}
use Rattle.joined_core.specs.Listed.{site_of}
use Rattle.joined_numbers.specs.Within.{looks_within, lands_within}

by_channel : (sites : List (ℕ × Site)) (j k : Key) → j.channel ≡ k.channel → site_of sites j ≡ site_of sites k
by_channel [] j k h = refl
by_channel (x ∷ xs) j k h =
    ap (λ c. cond (nat_eq x.0 (number c)) x.1 (site_of xs j)) h ∙
    ap (λ s. cond (nat_eq x.0 (number k.channel)) x.1 s) (by_channel xs j k h)

site_at : (sites : List (ℕ × Site)) (x : Walker) (j : Key) → j.channel ≡ (spot_of x).channel → site_of sites j ≡ site_of sites (key_of x)
site_at sites (asks s) j h = by_channel sites j (key_of (asks s)) h
site_at sites (says a s) j h = by_channel sites j (key_of (says a s)) h

pub lands : (sites : List (ℕ × Site)) (x : Walker) (s : Spot) (j : Key) (w : Site) → s ≡ spot_of x → j.channel ≡ s.channel →
    w ≡ site_of sites j → looks_within w (terms_of s.work) s.boxes ≡ lands_within sites x
lands sites x s j w e h g =
    ap (λ v. looks_within v (terms_of s.work) s.boxes) (g ∙ site_at sites x j (h ∙ ap (λ (t : Spot). t.channel) e)) ∙
    ap (λ (t : Spot). looks_within (site_of sites (key_of x)) (terms_of t.work) t.boxes) e
