use Rattle.std.proofs.Common.{ap, ◌∙◌, true, Option}
use Rattle.std.specs.Option.{option_map_or}
use Rattle.std.specs.Ordering.{is_lt}
use Rattle.rc_base.specs.Prefix.{prefix_cmp}
use Rattle.rc_trie.specs.declared.row.Row.{Row}
use Rattle.rc_trie.proofs.OrderLaws.{lt_code}
use Rattle.rc_trie.proofs.search.ends_before.Goals as goal

-- the last is compared
pub returns-in-Some : goal.returns-in-Some
returns-in-Some c =
    c.lt.ensures ∙ lt_code c.in-Some.row.now.prefix c.args.prefix.now
    ∙ ap (λ (o : Option Row). option_map_or (λ (e : Row). is_lt (prefix_cmp e.prefix c.args.prefix.now)) o true) c.in-Some.ensures.value
