use Rattle.std.proofs.Common.{◌≡◌, drop}
use Rattle.rc_policy.specs.Policy.{community_lines_permit}
use Rattle.rc_policy.proofs.community_lists.lines_permit.Given as goal

-- the lines that are left decide
abbrev pub invariant-loop-line : goal.invariant-loop-line
invariant-loop-line l = community_lines_permit (drop l.line-index l.lines) l.communities ≡ community_lines_permit l.lines l.communities
