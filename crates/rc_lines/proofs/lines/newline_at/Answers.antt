use Rattle.rc_lines.proofs.Cut.{newline_is}
use Rattle.rc_lines.proofs.lines.newline_at.Goals as goal

pub returns : goal.returns
returns c = newline_is c.args.bytes.now c.memchr.result c.memchr.ensures
