use Rattle.rc_gram_bgp.proofs.rows.row.Goals as goal

pub returns-in-RouterBgp-clause-fits : goal.returns-in-RouterBgp-clause-fits
returns-in-RouterBgp-clause-fits c = c.router_bgp.ensures.fits c.args.file.now

pub returns-in-RouterId-clause-fits : goal.returns-in-RouterId-clause-fits
returns-in-RouterId-clause-fits c = c.in_block.ensures.fits c.args.file.now

pub returns-in-MaximumPaths-clause-fits : goal.returns-in-MaximumPaths-clause-fits
returns-in-MaximumPaths-clause-fits c = c.in_block-in-MaximumPaths.ensures.fits c.args.file.now

pub returns-in-MaximumPathsIbgp-clause-fits : goal.returns-in-MaximumPathsIbgp-clause-fits
returns-in-MaximumPathsIbgp-clause-fits c = c.in_block-in-MaximumPathsIbgp.ensures.fits c.args.file.now

pub returns-in-Network-clause-fits : goal.returns-in-Network-clause-fits
returns-in-Network-clause-fits c = c.in_block-in-Network.ensures.fits c.args.file.now

pub returns-in-NeighborActivate-clause-fits : goal.returns-in-NeighborActivate-clause-fits
returns-in-NeighborActivate-clause-fits c = c.in_block-in-NeighborActivate.ensures.fits c.args.file.now

pub returns-in-NoNeighborActivate-clause-fits : goal.returns-in-NoNeighborActivate-clause-fits
returns-in-NoNeighborActivate-clause-fits c = c.in_block-in-NoNeighborActivate.ensures.fits c.args.file.now

pub returns-in-NeighborPeerGroup-clause-fits : goal.returns-in-NeighborPeerGroup-clause-fits
returns-in-NeighborPeerGroup-clause-fits c = c.in_block-in-NeighborPeerGroup.ensures.fits c.args.file.now

pub returns-in-NoDefaultIpv4Unicast-clause-fits : goal.returns-in-NoDefaultIpv4Unicast-clause-fits
returns-in-NoDefaultIpv4Unicast-clause-fits c = c.in_block-in-NoDefaultIpv4Unicast.ensures.fits c.args.file.now

pub returns-in-RedistributeConnected-clause-fits : goal.returns-in-RedistributeConnected-clause-fits
returns-in-RedistributeConnected-clause-fits c = c.in_block-in-RedistributeConnected.ensures.fits c.args.file.now

pub returns-in-RedistributeStatic-clause-fits : goal.returns-in-RedistributeStatic-clause-fits
returns-in-RedistributeStatic-clause-fits c = c.in_block-in-RedistributeStatic.ensures.fits c.args.file.now

pub returns-in-RedistributeOspf-clause-fits : goal.returns-in-RedistributeOspf-clause-fits
returns-in-RedistributeOspf-clause-fits c = c.in_block-in-RedistributeOspf.ensures.fits c.args.file.now

pub returns-in-AddressFamilyIpv4-clause-fits : goal.returns-in-AddressFamilyIpv4-clause-fits
returns-in-AddressFamilyIpv4-clause-fits c = c.ipv4_family.ensures.fits c.args.file.now

pub returns-in-ExitAddressFamily-clause-fits : goal.returns-in-ExitAddressFamily-clause-fits
returns-in-ExitAddressFamily-clause-fits c = c.family_end.ensures.fits c.args.file.now

pub returns-in_default-clause-fits : goal.returns-in_default-clause-fits
returns-in_default-clause-fits c = c.about_peer.ensures.fits c.args.file.now
