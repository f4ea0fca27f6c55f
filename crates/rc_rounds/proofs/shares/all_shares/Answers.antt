use denote.Param.Send.{sendable}
use Rattle.std.proofs.Crossing.{crosses}
use Rattle.rc_rounds.proofs.SharedLaws.{known_send}
use Rattle.rc_rounds.proofs.shares.all_shares.Goals as goal

pub each_at_once-requires-send-W-Made : goal.each_at_once-requires-send-W-Made
each_at_once-requires-send-W-Made g c κs = search (known_send, crosses, sendable) depth 60 fits 20000
