use Rattle.rc_trie.proofs.SearchLaws.{AreRead}
use Rattle.rc_trie.proofs.search.read_prefixes.Given as goal

-- each prefix before this one is one
abbrev pub invariant-loop-row : goal.invariant-loop-row
invariant-loop-row g l = AreRead g.T.HasPrefix.prefix_of l.rows l.row-index
