use Rattle.rc_report.proofs.put.close_line.Goals as goal

pub returns : goal.returns
returns g c = c.end_with.ensures
