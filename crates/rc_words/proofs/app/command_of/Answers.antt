use Rattle.clap.specs.Words.{new_app}
use Rattle.rc_words.proofs.app.command_of.Goals as goal

pub returns : goal.returns
returns c = c.with_arguments.ensures (new_app c.args.name.now) (record { app = c.new.ensures.app; local = c.new.ensures.local })
