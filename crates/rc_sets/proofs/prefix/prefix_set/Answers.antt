use Rattle.std.proofs.Common.{◌∙◌, ap, sym, subst}
use Rattle.rc_base.specs.Addr.{leading_bits}
use Rattle.rc_nodes.specs.Seats.{SeatKnows}
use Rattle.rc_trees.specs.Trees.{HasNodesOf}
use Rattle.rc_sets.proofs.NumberLaws.{chain_is, chain_of_none}
use Rattle.rc_sets.proofs.prefix.prefix_set.Goals as goal

pub returns-then-len-eq0-clause-set : goal.returns-then-len-eq0-clause-set
returns-then-len-eq0-clause-set g c = chain_of_none c.args.work.now c.args.prefix (sym c.len-len.ensures.value ∙ c.if-len-eq0.true) c.network-network.ensures.canonical.below

pub masked_set-requires-clause-may : goal.masked_set-requires-clause-may
masked_set-requires-clause-may g c =
    let is = c.network-network.ensures.canonical in
    subst (HasNodesOf c.args.nodes.now.may) (sym (chain_is c.args.prefix c.len-len.result _ is.below is.short c.len-len.ensures.value (ap (λ n. leading_bits c.len-len.result n) (c.bits.ensures ∙ c.network-network.ensures.value) ∙ ap (λ n. leading_bits n c.args.prefix.network) c.len-len.ensures.value))) c.requires.may

pub returns-in-Ok-clause-set : goal.returns-in-Ok-clause-set
returns-in-Ok-clause-set g c =
    let is = c.network-network.ensures.canonical in
    subst (SeatKnows c.masked_set.new.work c.in-Ok.set.index) (chain_is c.args.prefix c.len-len.result _ is.below is.short c.len-len.ensures.value (ap (λ n. leading_bits c.len-len.result n) (c.bits.ensures ∙ c.network-network.ensures.value) ∙ ap (λ n. leading_bits n c.args.prefix.network) c.len-len.ensures.value)) c.in-Ok.ensures.set
