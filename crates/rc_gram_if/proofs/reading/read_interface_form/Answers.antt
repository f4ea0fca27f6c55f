use Rattle.std.proofs.lemmas.Result.{IfOk-at_ok}
use Rattle.rc_gram_if.specs.Own.{IsOwn}
use Rattle.rc_gram_if.proofs.OwnLaws.{range-of, fits-of}
use Rattle.rc_gram_if.proofs.reading.read_interface_form.Goals as goal

pub returns-in-Ok-clause-in_range : goal.returns-in-Ok-clause-in_range
returns-in-Ok-clause-in_range c = range-of _ (IfOk-at_ok IsOwn c.in-Ok.is c.row_in-said.ensures.own)

pub returns-in-Ok-clause-fits : goal.returns-in-Ok-clause-fits
returns-in-Ok-clause-fits c = fits-of c.args.file.now _ (IfOk-at_ok IsOwn c.in-Ok.is c.row_in-said.ensures.own)
