use denote.Param.Send.{sendable}
use Rattle.std.proofs.Crossing.{crosses}
use Rattle.rc_rounds.proofs.SharedLaws.{known_send}
use Rattle.rc_rounds.proofs.leaving.drop_state.Goals as goal

pub for_each_mut-requires-send-T : goal.for_each_mut-requires-send-T
for_each_mut-requires-send-T g c κs = search (known_send, crosses, sendable) depth 60 fits 20000
