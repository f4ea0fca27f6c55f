use Rattle.std.proofs.Common.{ap, ◌∙◌}
use Rattle.rc_openings.specs.Groups.{keyed}
use Rattle.rc_openings.specs.Words.{byte_behind}
use Rattle.rc_openings.proofs.table.Longer.at.Goals as goal

pub returns : goal.returns
returns c = λ rows h. c.at.ensures (byte_behind c.args.count) rows h.index ∙ ap (λ b. keyed (byte_behind c.args.count) b rows) c.byte_behind.ensures
