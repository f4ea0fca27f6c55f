use Rattle.std.proofs.Common.{◌≡◌, length, true}
use Rattle.rc_openings.specs.Words.{words_left}
use Rattle.rc_config.specs.PortLists.{are_ports}
use Rattle.rc_gram_acl.specs.Port.{ports_with}
use Rattle.rc_gram_acl.proofs.ports.ports_from.Given as goal

-- what is left gives the same ports
abbrev pub invariant-loop-word : goal.invariant-loop-word
invariant-loop-word l = record {
  same : ports_with l.side l.ports (words_left l.behind) ≡ ports_with l.side l.fn.first (words_left l.fn.words);
  kept : words_left l.rest ≡ words_left l.behind;
  some : are_ports l.ports ≡ true;
}

abbrev pub decreases-loop-word : goal.decreases-loop-word
decreases-loop-word l = length (words_left l.behind)
