use Rattle.std.proofs.Common.{◌<◌, ap, sym, ◌∙◌, subst, arith}
use Rattle.rc_base.specs.Prefix.{Cidr, contains}
use Rattle.rc_trie.specs.Search.{IsShared}
use Rattle.rc_trie.proofs.SearchLaws.{first_left, found_at, next_left, none_found}
use Rattle.rc_trie.proofs.search.longest_at.Goals as goal

pub loop-end-init : goal.loop-end-init
loop-end-init g c = first_left g.T.HasPrefix.prefix_of c.args.rows.now c.requires c.args.addr c.reach-end.result c.reach-end.ensures

pub returns : goal.returns
returns g c = sym (none_found g.T.HasPrefix.prefix_of c.args.rows.now c.requires c.args.addr c.loop-end.end (omega arith) c.loop-end.invariant)

pub returns-then-contains : goal.returns-then-contains
returns-then-contains g c =
    let f = g.T.HasPrefix.prefix_of in
    let a = c.args.addr in
    let some : 0 < c.loop-end.end = omega (arith, c.loop-end-test.true) in
    let holds = ap (λ p. contains p a) (sym c.prefix-prefix.ensures) ∙ sym c.contains.ensures ∙ c.if-contains.true in
    found_at f c.args.rows.now c.requires a c.loop-end.end c.loop-end.invariant some c.index-rows-end.result c.index-rows-end.is holds

pub loop-end-preserved : goal.loop-end-preserved
loop-end-preserved g c =
    let f = g.T.HasPrefix.prefix_of in
    let a = c.args.addr in
    let some : 0 < c.loop-end.end = omega (arith, c.loop-end-test.true) in
    let apart = ap (λ p. contains p a) (sym c.prefix-prefix.ensures) ∙ sym c.contains.ensures ∙ c.if-contains.false in
    let both = subst (λ x. IsShared x a c.shared-both.result) (c.network.ensures.value ∙ ap (λ (p : Cidr). p.network) c.prefix-prefix.ensures) c.shared-both.ensures in
    next_left f c.args.rows.now c.requires a c.loop-end.end c.loop-end.invariant some c.index-rows-end.result c.index-rows-end.is c.shared-both.result c.reach.result c.min-end.result apart both c.reach.ensures c.min-end.ensures
