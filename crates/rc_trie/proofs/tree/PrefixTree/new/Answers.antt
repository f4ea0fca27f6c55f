use Rattle.std.proofs.Common.{[], sym, subst, rules}
use Rattle.std.specs.List.Sorted.{IsStrictlySortedBy}
use Rattle.rc_trie.specs.Search.{AreRows}
use Rattle.rc_trie.proofs.tree.PrefixTree.new.Goals as goal

none : AreRows []
unfolding IsStrictlySortedBy
none = record { sorted = tt; canonical = search rules }

pub invariant_of-result : goal.invariant_of-result
invariant_of-result c = subst AreRows (sym c.new.ensures.items) none
