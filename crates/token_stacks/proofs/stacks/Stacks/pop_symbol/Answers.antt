use Rattle.std.proofs.Common.{◌∙◌}
use Rattle.token_stacks.proofs.Laid.{lies, turns_stands, turns_seen}
use Rattle.token_stacks.proofs.WorkSteps.{pops_symbol}
use Rattle.token_stacks.proofs.stacks.Stacks.pop_symbol.Goals as goal

pub invariant_of-self : goal.invariant_of-self
invariant_of-self c =
    let e = lies c.args.self.now _ _ c.self.view_is c.self.invariant in
    let h = c.len-n.ensures ∙ c.self.inside.held.words.ok.0 in
    turns_stands (pops_symbol _ _ _ _ _ _ _ _ e c.requires h c.if-n-self.false c.index.ensures c.if-index-word.false
    c.truncate.ensures.items)

pub returns : goal.returns
returns c =
    let e = lies c.args.self.now _ _ c.self.view_is c.self.invariant in
    let h = c.len-n.ensures ∙ c.self.inside.held.words.ok.0 in
    turns_seen (pops_symbol _ _ _ _ _ _ _ _ e c.requires h c.if-n-self.false c.index.ensures c.if-index-word.false c.truncate.ensures.items)
