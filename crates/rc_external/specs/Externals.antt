-- What all AS boundary routers send, by prefix.
use Rattle.std.specs.Prelude.{List, [], ◌∷◌, map, filter, Option, Some, None}
use Rattle.std.specs.List.{filter_map}
use Rattle.std.specs.List.Sorted.{IsStrictlySortedBy}
use Rattle.rc_base.specs.Lists.{in_order}
use Rattle.rc_base.specs.Prefix.{Cidr, prefix_cmp, same_prefix}
use Rattle.rc_config.specs.declared.network.Network.{Network}
use Rattle.rc_route.specs.declared.state.RouterState.{RouterState}
use Rattle.rc_external.specs.AsExternal.{AsExternal}
use Rattle.rc_external.specs.Origination.{all_sent}
use Rattle.rc_external.specs.declared.as_external.ExternalRow.{ExternalRow}

abbrev pub prefix_of : AsExternal → Cidr
prefix_of e = e.prefix

abbrev pub sent_for : Cidr → List AsExternal → List AsExternal
sent_for p sent = filter (λ (e : AsExternal). same_prefix p e.prefix) sent

-- a prefix with what is sent for it, if anything is
abbrev pub row_for : Cidr → List AsExternal → Option ExternalRow
row_for p [] = None
row_for p (e ∷ es) = Some (record { prefix = p; externals = e ∷ es })

-- each prefix that is sent, by address, then length, with what is sent for it
unfoldable pub by_prefix : List AsExternal → List ExternalRow
by_prefix sent = filter_map (λ p. row_for p (sent_for p sent)) (in_order prefix_cmp (map prefix_of sent))

-- one row for each prefix, by address, then length
abbrev pub IsByPrefix : List ExternalRow → Type 0
IsByPrefix rows = IsStrictlySortedBy prefix_cmp (map (λ (row : ExternalRow). row.prefix) rows)

-- what the AS boundary routers of a network send from a state, by prefix
abbrev pub externals : Network → List RouterState → List ExternalRow
externals net old = by_prefix (all_sent net old)
