use Rattle.rc_loading.proofs.Listed.{are_configs, all_there}
use Rattle.rc_loading.proofs.listing.config_names.Goals as goal

pub returns-in-Ok-in_order-clause-configs : goal.returns-in-Ok-in_order-clause-configs
returns-in-Ok-in_order-clause-configs g c = are_configs _ _ c.in-Ok-in_order.ensures

pub returns-in-Ok-in_order-clause-there : goal.returns-in-Ok-in_order-clause-there
returns-in-Ok-in_order-clause-there g c = all_there _ _ _ _ c.in-Ok.ensures.names c.in-Ok-in_order.ensures
