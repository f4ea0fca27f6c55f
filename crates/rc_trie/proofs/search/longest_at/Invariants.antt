use Rattle.rc_trie.proofs.SearchLaws.{IsLeft}
use Rattle.rc_trie.proofs.search.longest_at.Given as goal

-- no row from the place on holds the address
abbrev pub invariant-loop-end : goal.invariant-loop-end
invariant-loop-end g l = IsLeft g.T.HasPrefix.prefix_of l.rows l.addr l.end

abbrev pub decreases-loop-end : goal.decreases-loop-end
decreases-loop-end g l = l.end
