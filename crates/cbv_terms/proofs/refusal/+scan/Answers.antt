use Rattle.std.proofs.Common.{◌≡◌, ◌⊎◌, sym, subst}
use Rattle.pcf_values.specs.Views.{ty_of, raw_of, named_of}
use Rattle.cbv_terms.specs.Faults.{BinderFault, FixFault, HasFault}
use Rattle.cbv_terms.specs.Scan.{Finds}
use Rattle.cbv_terms.specs.declared.fault.ByValueFault.TheVariants.{ByValuePair}
use Rattle.cbv_terms.proofs.Scanning.{in_either, finds_none, finds_pair, finds_both, finds_binder, finds_fix}
use Rattle.cbv_terms.proofs.refusal.+scan.Goals as goal

pub returns-in-Ifz : goal.returns-in-Ifz
returns-in-Ifz t c =
    let of = c.in-Ifz in
    let h = subst (λ n. Finds (HasFault (named_of n)) c.scan.result) c.deref.ensures c.scan.ensures in
    let i = subst (λ n. Finds (HasFault (named_of n)) c.scan-in-Ifz.result) c.deref-in-Ifz.ensures c.scan-in-Ifz.ensures in
    let j = subst (λ n. Finds (HasFault (named_of n)) c.scan-in-Ifz-2.result) c.deref-in-Ifz-2.ensures c.scan-in-Ifz-2.ensures in
    let rest = finds_both (HasFault (named_of of.p.value)) (HasFault (named_of of.q.value)) c.scan-in-Ifz.result c.scan-in-Ifz-2.result
    c.both.result i j c.both.ensures.fixes c.both.ensures.pairs in
    subst (λ r. Finds (HasFault (raw_of r c.args.tree.now.at)) c.both-in-Ifz.result) (sym of.is)
    (finds_both (HasFault (named_of of.c.value)) (λ f. HasFault (named_of of.p.value) f ⊎
    HasFault (named_of of.q.value) f) c.scan.result c.both.result c.both-in-Ifz.result h rest c.both-in-Ifz.ensures.fixes
    c.both-in-Ifz.ensures.pairs)

pub returns-in-Fix : goal.returns-in-Fix
returns-in-Fix t c =
    let of = c.in-Fix in
    let at = c.args.tree.now.at in
    let body = named_of of.body.value in
    let h = subst (λ n. Finds (FixFault at (ty_of of.ty) (named_of n)) c.fixed_at.result) c.deref-in-Fix.ensures
    (finds_fix at (ty_of of.ty) (named_of c.deref-in-Fix.result.now) c.fixed_at.result c.fixed_at.ensures.fixes
    c.fixed_at.ensures.pairs) in
    let i = finds_binder at (ty_of of.ty) c.typed_at-in-Fix.result c.typed_at-in-Fix.ensures.fixes c.typed_at-in-Fix.ensures.pairs in
    let j = subst (λ n. Finds (HasFault (named_of n)) c.scan-in-Fix.result) c.deref-in-Fix-2.ensures c.scan-in-Fix.ensures in
    let rest = finds_both (BinderFault at (ty_of of.ty)) (HasFault body) c.typed_at-in-Fix.result c.scan-in-Fix.result c.both-in-Fix.result
    i j c.both-in-Fix.ensures.fixes c.both-in-Fix.ensures.pairs in
    subst (λ r. Finds (HasFault (raw_of r at)) c.both-in-Fix-2.result) (sym of.is)
    (finds_both (FixFault at (ty_of of.ty) body) (λ f. BinderFault at (ty_of of.ty) f ⊎
    HasFault body f) c.fixed_at.result c.both-in-Fix.result c.both-in-Fix-2.result h rest c.both-in-Fix-2.ensures.fixes
    c.both-in-Fix-2.ensures.pairs)

pub returns-in-Number : goal.returns-in-Number
returns-in-Number t c =
    let at = c.args.tree.now.at in
    let none = finds_none c.found-in-Number.result c.found-in-Number.ensures.fixes c.found-in-Number.ensures.pairs in
    in_either c.in-Number.is (λ (x, e). subst (λ r. Finds (HasFault (raw_of r at)) c.found-in-Number.result) (sym e) none)
    (λ (x, e). subst (λ r. Finds (HasFault (raw_of r at)) c.found-in-Number.result) (sym e) none)

pub returns-in-Succ : goal.returns-in-Succ
returns-in-Succ t c =
    let at = c.args.tree.now.at in
    let h = subst (λ n. Finds (HasFault (named_of n)) c.scan-in-Succ.result) c.deref-in-Succ.ensures c.scan-in-Succ.ensures in
    in_either c.in-Succ.is (λ e. subst (λ r. Finds (HasFault (raw_of r at)) c.scan-in-Succ.result) (sym e) h)
    (λ e. subst (λ r. Finds (HasFault (raw_of r at)) c.scan-in-Succ.result) (sym e) h)

pub returns-in-Binary : goal.returns-in-Binary
returns-in-Binary t c =
    let at = c.args.tree.now.at in
    let h = subst (λ n. Finds (HasFault (named_of n)) c.scan-in-Binary.result) c.deref-in-Binary.ensures c.scan-in-Binary.ensures in
    let i = subst (λ n. Finds (HasFault (named_of n)) c.scan-in-Binary-2.result) c.deref-in-Binary-2.ensures c.scan-in-Binary-2.ensures in
    let both = finds_both (HasFault (named_of c.in-Binary.a.value)) (HasFault (named_of c.in-Binary.b.value)) c.scan-in-Binary.result
    c.scan-in-Binary-2.result c.both-in-Binary.result h i c.both-in-Binary.ensures.fixes c.both-in-Binary.ensures.pairs in
    in_either c.in-Binary.is (λ (x, e). subst (λ r. Finds (HasFault (raw_of r at)) c.both-in-Binary.result) (sym e) both)
    (λ e. subst (λ r. Finds (HasFault (raw_of r at)) c.both-in-Binary.result) (sym e) both)

pub returns-in-Fun : goal.returns-in-Fun
returns-in-Fun t c =
    let at = c.args.tree.now.at in
    let of = c.in-Fun in
    let h = finds_binder at (ty_of of.ty) c.typed_at.result c.typed_at.ensures.fixes c.typed_at.ensures.pairs in
    let i = subst (λ n. Finds (HasFault (named_of n)) c.scan-in-Fun.result) c.deref-in-Fun.ensures c.scan-in-Fun.ensures in
    subst (λ r. Finds (HasFault (raw_of r at)) c.both-in-Fun.result) (sym of.is)
    (finds_both (BinderFault at (ty_of of.ty)) (HasFault (named_of of.body.value)) c.typed_at.result c.scan-in-Fun.result
    c.both-in-Fun.result h i c.both-in-Fun.ensures.fixes c.both-in-Fun.ensures.pairs)

pub returns-in-Pair : goal.returns-in-Pair
returns-in-Pair t c =
    let at = c.args.tree.now.at in
    let of = c.in-Pair in
    let h = finds_pair at c.found.result c.found.ensures.fixes c.found.ensures.pairs in
    let i = subst (λ n. Finds (HasFault (named_of n)) c.scan-in-Pair.result) c.deref-in-Pair.ensures c.scan-in-Pair.ensures in
    let j = subst (λ n. Finds (HasFault (named_of n)) c.scan-in-Pair-2.result) c.deref-in-Pair-2.ensures c.scan-in-Pair-2.ensures in
    let rest = finds_both (HasFault (named_of of.a.value)) (HasFault (named_of of.b.value)) c.scan-in-Pair.result c.scan-in-Pair-2.result
    c.both-in-Pair.result i j c.both-in-Pair.ensures.fixes c.both-in-Pair.ensures.pairs in
    subst (λ r. Finds (HasFault (raw_of r at)) c.both-in-Pair-2.result) (sym of.is)
    (finds_both (λ f. f ≡ ByValuePair at) (λ f. HasFault (named_of of.a.value) f ⊎ HasFault (named_of of.b.value) f) c.found.result
    c.both-in-Pair.result c.both-in-Pair-2.result h rest c.both-in-Pair-2.ensures.fixes c.both-in-Pair-2.ensures.pairs)

pub returns-in-Proj : goal.returns-in-Proj
returns-in-Proj t c =
    let at = c.args.tree.now.at in
    let h = finds_pair at c.found-in-Proj.result c.found-in-Proj.ensures.fixes c.found-in-Proj.ensures.pairs in
    let i = subst (λ n. Finds (HasFault (named_of n)) c.scan-in-Proj.result) c.deref-in-Proj.ensures c.scan-in-Proj.ensures in
    let both = finds_both (λ f. f ≡ ByValuePair at) (HasFault (named_of c.in-Proj.a.value)) c.found-in-Proj.result c.scan-in-Proj.result
    c.both-in-Proj.result h i c.both-in-Proj.ensures.fixes c.both-in-Proj.ensures.pairs in
    subst (λ r. Finds (HasFault (raw_of r at)) c.both-in-Proj.result) (sym c.in-Proj.is) both
