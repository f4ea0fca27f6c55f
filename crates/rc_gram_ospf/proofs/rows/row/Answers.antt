use Rattle.rc_gram_ospf.proofs.rows.row.Goals as goal

pub returns-in-RouterId-clause-fits : goal.returns-in-RouterId-clause-fits
returns-in-RouterId-clause-fits c = c.in_block.ensures.fits c.args.file.now

pub returns-in-Network-clause-fits : goal.returns-in-Network-clause-fits
returns-in-Network-clause-fits c = c.in_block-in-Network.ensures.fits c.args.file.now

pub returns-in-StubArea-clause-fits : goal.returns-in-StubArea-clause-fits
returns-in-StubArea-clause-fits c = c.in_block-in-StubArea.ensures.fits c.args.file.now

pub returns-in-PassiveInterface-clause-fits : goal.returns-in-PassiveInterface-clause-fits
returns-in-PassiveInterface-clause-fits c = c.in_block-in-PassiveInterface.ensures.fits c.args.file.now

pub returns-in-NoPassiveInterface-clause-fits : goal.returns-in-NoPassiveInterface-clause-fits
returns-in-NoPassiveInterface-clause-fits c = c.in_block-in-NoPassiveInterface.ensures.fits c.args.file.now

pub returns-in-PassiveInterfaceDefault-clause-fits : goal.returns-in-PassiveInterfaceDefault-clause-fits
returns-in-PassiveInterfaceDefault-clause-fits c = c.in_block-in-PassiveInterfaceDefault.ensures.fits c.args.file.now

pub returns-in-ReferenceBandwidth-clause-fits : goal.returns-in-ReferenceBandwidth-clause-fits
returns-in-ReferenceBandwidth-clause-fits c = c.in_block-in-ReferenceBandwidth.ensures.fits c.args.file.now

pub returns-in-RedistributeConnected-clause-fits : goal.returns-in-RedistributeConnected-clause-fits
returns-in-RedistributeConnected-clause-fits c = c.in_block-in-RedistributeConnected.ensures.fits c.args.file.now

pub returns-in-RedistributeStatic-clause-fits : goal.returns-in-RedistributeStatic-clause-fits
returns-in-RedistributeStatic-clause-fits c = c.in_block-in-RedistributeStatic.ensures.fits c.args.file.now

pub returns-in-RedistributeBgp-clause-fits : goal.returns-in-RedistributeBgp-clause-fits
returns-in-RedistributeBgp-clause-fits c = c.in_block-in-RedistributeBgp.ensures.fits c.args.file.now

pub returns-in-DefaultInformationOriginate-clause-fits : goal.returns-in-DefaultInformationOriginate-clause-fits
returns-in-DefaultInformationOriginate-clause-fits c = c.in_block-in-DefaultInformationOriginate.ensures.fits c.args.file.now
