-- The block that is open at a line.
use Rattle.rc_openings.specs.declared.block.Block.{Block}
use Rattle.rc_openings.specs.declared.block.Block.TheVariants as block
use Rattle.rc_config.specs.declared.context.OpenBlock.{OpenBlock}
use Rattle.rc_config.specs.declared.context.OpenBlock.TheVariants as at

-- the kind of the block that is open at a line
abbrev pub block_at : OpenBlock → Block
block_at at.Closed = block.Closed
block_at at.Global = block.Global
block_at (at.Interface name) = block.Interface
block_at (at.AccessList list kind) = block.AccessList
block_at (at.Map map number) = block.RouteMap
block_at at.Ospf = block.Ospf
block_at at.Bgp = block.Bgp
block_at at.InFamily = block.Ipv4Family
block_at at.InOtherFamily = block.OtherFamily
block_at at.Ignored = block.Ignored
