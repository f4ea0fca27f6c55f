use denote.Param.Send.{sendable}
use Rattle.std.proofs.Crossing.{crosses}
use Rattle.rc_rounds.proofs.SharedLaws.{known_sync}
use Rattle.rc_rounds.proofs.shares.next_shares.Goals as goal

pub all_shares-requires-sync-B : goal.all_shares-requires-sync-B
all_shares-requires-sync-B g c κs = search (known_sync, crosses, sendable) depth 60 fits 20000
