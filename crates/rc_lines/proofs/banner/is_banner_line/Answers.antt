use Rattle.std.proofs.Common.{sym, ◌∙◌}
use Rattle.rc_lines.proofs.BannerLaws.{where_b, where_none}
use Rattle.rc_lines.proofs.banner.is_banner_line.Goals as goal

pub returns-then-begins_with_b : goal.returns-then-begins_with_b
returns-then-begins_with_b c = c.begins_with_banner.ensures ∙ where_b c.args.text.now (sym c.begins_with_b.ensures ∙ c.if-begins_with_b.true)

pub returns-else-begins_with_b : goal.returns-else-begins_with_b
returns-else-begins_with_b c = c.if-begins_with_b.false ∙ where_none c.args.text.now (sym c.begins_with_b.ensures ∙ c.if-begins_with_b.false)
