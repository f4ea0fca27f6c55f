use Rattle.std.proofs.Common.{◌∙◌, ap}
use Rattle.std.specs.List.{list_all}
use Rattle.rc_failures.specs.AtAddress.{is_plain}
use Rattle.rc_failures.proofs.PlainLaws.{parts_are_plain}
use Rattle.rc_failures.proofs.plain.knows_plain.Goals as goal

pub returns : goal.returns
returns c = c.are_plain_parts.ensures ∙ parts_are_plain c.parts.result.now ∙ ap (list_all is_plain) c.parts.ensures
