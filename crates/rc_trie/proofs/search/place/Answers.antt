use Rattle.std.proofs.Common.{sym, ◌∙◌}
use Rattle.rc_trie.proofs.PlaceLaws.{placed_last}
use Rattle.rc_trie.proofs.search.place.Goals as goal

pub returns-then-ends_before : goal.returns-then-ends_before
returns-then-ends_before c = placed_last c.args.rows.now c.requires c.args.prefix.now (sym c.ends_before.ensures ∙ c.if-ends_before.true)
