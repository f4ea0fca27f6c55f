use denote.Param.Send.{sendable}
use Rattle.std.proofs.Common.{◌≡◌, ap, ◌∙◌, All, map}
use Rattle.std.proofs.Crossing.{crosses}
use Rattle.std.proofs.lemmas.Result.{IfOk-weaker}
use Rattle.rc_fib.specs.Entries.{IsFib}
use Rattle.rc_fib.specs.Forwarding.{resolved}
use Rattle.rc_route.specs.declared.state.RouterState.{RouterState}
use Rattle.rc_shares.proofs.MakingLaws.{all_given, all_of_kind}
use Rattle.rc_moves.proofs.SharedLaws.{state_sync}
use Rattle.rc_moves.proofs.tables.fibs_at_once.Goals as goal

pub made_at_once-requires-sync-W-Thing : goal.made_at_once-requires-sync-W-Thing
made_at_once-requires-sync-W-Thing g c κs within = search (state_sync, crosses, sendable) depth 60 fits 20000

pub returns-clause-value : goal.returns-clause-value
returns-clause-value g c =
    IfOk-weaker c.made_at_once.result _ (λ fibs. fibs ≡ map (λ (s : RouterState). resolved s.table) c.args.state.now)
    (λ fibs made. all_given (λ (s : RouterState). resolved s.table) IsFib c.as_slice.result.now fibs made ∙ ap (map (λ (s : RouterState). resolved s.table)) c.as_slice.ensures) c.made_at_once.ensures

pub returns-clause-in_order : goal.returns-clause-in_order
returns-clause-in_order g c =
    IfOk-weaker c.made_at_once.result _ (All IsFib) (λ fibs made. all_of_kind (λ (s : RouterState). resolved s.table) IsFib c.as_slice.result.now fibs made) c.made_at_once.ensures
