use Rattle.std.proofs.Common.{fold, map}
use Rattle.clap.specs.Words.{new_app, with_rule}
use Rattle.rc_words.specs.Arguments.{rule_told}
use Rattle.rc_words.proofs.app.packet_command.Goals as goal

pub returns : goal.returns
returns c = c.with_arguments.ensures (fold with_rule (new_app c.args.name.now) (map rule_told c.args.own.now)) c.in_ok-command.ensures
