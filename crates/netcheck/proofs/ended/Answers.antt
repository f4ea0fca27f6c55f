use Rattle.std.proofs.Common.{refl, ◌≡◌}
use Rattle.rc_analyse.specs.Answer.{IsSilent}
use Rattle.rc_writing.specs.declared.status.Status.TheVariants.{Done, Refused, Usage, Repeats, Limit, Nodes, Source, Sink, Memory, NoPlace}
use Rattle.rc_writing.specs.declared.status.Status.{Status}
use Rattle.netcheck.proofs.EndLaws.{ends_so}
use Rattle.netcheck.proofs.ended.Goals as goal

-- of all statuses three are those of runs that put nothing
speaks : (status : Status) → ¬ (status ≡ Nodes) → ¬ (status ≡ Source) → ¬ (status ≡ Memory) → ¬ IsSilent status
speaks Nodes nodes source memory silent = nodes refl
speaks Source nodes source memory silent = source refl
speaks Memory nodes source memory silent = memory refl
speaks Done nodes source memory silent = silent
speaks Refused nodes source memory silent = silent
speaks Usage nodes source memory silent = silent
speaks Repeats nodes source memory silent = silent
speaks Limit nodes source memory silent = silent
speaks Sink nodes source memory silent = silent
speaks NoPlace nodes source memory silent = silent

pub returns-in-Nodes : goal.returns-in-Nodes
returns-in-Nodes g c = λ words ends. ends

pub returns-in_default : goal.returns-in_default
returns-in_default g c = λ words ends. ends_so words c.args.status c.ended_so.result c.write_rest-written.result (speaks c.args.status c.in_default.not-Nodes c.in_default.not-Source c.in_default.not-Memory) c.ended_so.ensures.whole c.ended_so.ensures.failed ends
