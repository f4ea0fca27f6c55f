use Rattle.std.proofs.Common.{◌≡◌, ◌++◌, drop}
use Rattle.rc_route.specs.Tables.{best_for}
use Rattle.rc_route.specs.declared.best.Best.{Best}
use Rattle.rc_bgp.specs.Updating.{AreTaken}
use Rattle.rc_bgp.proofs.round_paths.differing.Given as goal

-- those that are taken, and then those that are left
abbrev pub invariant-loop-prefix : goal.invariant-loop-prefix
invariant-loop-prefix l = record {
  taken : AreTaken (λ (b : Best). b.path.prefix) (best_for l.new) l.old l.prefixes (l.changed ++ drop l.prefix-index l.prefixes);
  before : l.before ≡ l.old;
  after : l.after ≡ l.new;
}
