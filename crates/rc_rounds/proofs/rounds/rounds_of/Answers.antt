use Rattle.std.proofs.lemmas.Result.{IfOk-weaker}
use Rattle.rc_reads.proofs.OwnLaws.{own_in_order}
use Rattle.rc_rounds.specs.Rounds.{IsOutcome}
use Rattle.rc_rounds.proofs.SilentLaws.{outcome_over}
use Rattle.rc_rounds.proofs.rounds.rounds_of.Goals as goal

pub returns-clause-outcome : goal.returns-clause-outcome
returns-clause-outcome g c =
    let made = c.in_ok-internal.ensures in
    IfOk-weaker _ _ (IsOutcome c.args.net.now c.args.limit) (outcome_over c.args.net.now c.in_ok-internal.internal c.args.limit made.links made.internal) c.rounds_within.ensures.outcome

pub rounds_within-requires-clause-setting : goal.rounds_within-requires-clause-setting
rounds_within-requires-clause-setting g c κs within = record {
  lawful = c.requires.lawful;
  routes = c.in_ok-internal.ensures.in_order;
  own = own_in_order c.args.net.now c.in_ok-internal.internal c.in_ok-internal.ensures.internal;
  sessions = c.in_ok-sessions.ensures;
}
