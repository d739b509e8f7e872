-- The laws of equations, and what the net of a program without `fix` comes to.
use Rattle.std.proofs.Common.{◌≡◌, ◌↔◌, ℕ, [], subst, arith}
use Rattle.pcf_values.specs.declared.val.Val.{Val}
use Rattle.pcf_values.specs.Terms.{TyTree, nat, TermTree}
use Rattle.pcf_values.specs.Typing.{HasType}
use Rattle.cbn_meaning.specs.Environments.{Closed}
use Rattle.cbn_meaning.specs.Meaning.{value, Means}
use Rattle.cbn_meaning.specs.Derivations.{HasEv}
use Rattle.cbn_meaning.proofs.Derived.{ev_eval, eval_ev}
use Rattle.net_build.specs.NetOf.{net_of}
use Rattle.net_build.specs.Sound.{Sound}
use Rattle.adequacy_laws.specs.Questions.{Length}
use Rattle.adequacy_laws.proofs.Finishing.{means_length}
use Rattle.cbn_meaning.specs.Substitution.{subst_at}
use Rattle.meaning_laws.specs.Put.{put}
use Rattle.meaning_laws.specs.Contexts.{Context, fill}
use Rattle.meaning_laws.specs.Equations.{Equals, Rewrites, ends, goes_on}
use Rattle.meaning_laws.specs.NoFix.{NoFix}
use Rattle.meaning_laws.specs.Laws.{SamePrograms}
use Rattle.meaning_laws.proofs.Below.{Below, closed_below, below_closed, put_closed, typed_below}
use Rattle.meaning_laws.proofs.Alike.{Alike, alike_in}
use Rattle.meaning_laws.proofs.Running.{value_like, like_value_left, forth, back}
use Rattle.meaning_laws.proofs.Types.{types_kept}
use Rattle.meaning_laws.proofs.Tait.{no_fix_value}

pub typed_closed : (m : TermTree) (t : TyTree) → HasType [] m t → Closed m
typed_closed m t h = below_closed m (typed_below m [] t h)

pub closed_put : (m n : TermTree) (k : ℕ) → Closed n → put m k n ≡ subst_at m k n
closed_put m n k h = put_closed m n k (closed_below n h)

-- terms that are alike mean the same
alike_means : (m n : TermTree) → Alike m n → Below 0 m → (v : Val) → Means m v ↔ Means n v
alike_means m n h b v = (
  (λ (d, e).
      let (s, f) = eval_ev d m (value v) e in
      let (q, g, i) = forth s s m n (value v) (omega arith) h b f in
      let (z, j) = subst (HasEv n) (value_like i) g in
      (z, ev_eval j)),
  (λ (d, e).
      let (s, f) = eval_ev d n (value v) e in
      let (q, g, i) = back s s m n (value v) (omega arith) h b f in
      let (z, j) = subst (HasEv m) (like_value_left i) g in
      (z, ev_eval j)),
)

pub in_every_context : (l r : TermTree) → Equals l r → (c : Context) → Closed (fill c l) →
    (v : Val) → Means (fill c l) v ↔ Means (fill c r) v
in_every_context l r q c h = alike_means (fill c l) (fill c r) (alike_in c l r q) (closed_below (fill c l) h)

-- of two programs that mean the same, the nets have the same values
same_programs : (m n : TermTree) → HasType [] m nat → HasType [] n nat → Sound (net_of m) → Sound (net_of n) →
    ((v : Val) → Means m v ↔ Means n v) → SamePrograms m n
same_programs m n h k s z e = record {
  typed = k;
  means = e;
  nets = λ v. (
    (λ x. (means_length n k z v).0 ((e v).0 ((means_length m h s v).1 x))),
    (λ x. (means_length m h s v).0 ((e v).1 ((means_length n k z v).1 x))),
  );
}

-- one equation
pub kept : ((m : TermTree) → HasType [] m nat → Sound (net_of m)) → (l r : TermTree) → Equals l r → (c : Context) →
    HasType [] (fill c l) nat → SamePrograms (fill c l) (fill c r)
kept sound l r q c h =
    let k = types_kept l r q c [] nat h in
    same_programs (fill c l) (fill c r) h k (sound (fill c l) h) (sound (fill c r) k)
    (in_every_context l r q c (typed_closed (fill c l) nat h))

same_then : (m n p : TermTree) → SamePrograms m n → SamePrograms n p → SamePrograms m p
same_then m n p h k = record {
  typed = k.typed;
  means = λ v. ((λ e. (k.means v).0 ((h.means v).0 e)), (λ e. (h.means v).1 ((k.means v).1 e)));
  nets = λ v. ((λ e. (k.nets v).0 ((h.nets v).0 e)), (λ e. (h.nets v).1 ((k.nets v).1 e)));
}

-- and any number
pub all_kept : ((m : TermTree) → HasType [] m nat → Sound (net_of m)) → (m n : TermTree) → Rewrites m n → HasType [] m nat →
    SamePrograms m n
all_kept sound m _ ends h = record { typed = h; means = λ v. ((λ e. e), (λ e. e)); nets = λ v. ((λ e. e), (λ e. e)) }
all_kept sound _ n (goes_on {l = l} {r = r} c q s) h =
    let first = kept sound l r q c h in
    same_then (fill c l) (fill c r) n first (all_kept sound (fill c r) n s first.typed)

pub no_fix_length : (m : TermTree) → HasType [] m nat → Sound (net_of m) → NoFix m → (v : Val) × (n : ℕ) × Means m v × Length (net_of m) v n
no_fix_length m h s f =
    let (v, e) = no_fix_value m h f in
    let (n, l) = (means_length m h s v).0 e in
    (v, n, e, l)
