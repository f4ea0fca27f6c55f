-- The sets of access lists are made of reduced trees.
use Rattle.std.proofs.Common.{refl, ◌≡◌, ◌≢◌, ap, sym, ◌∙◌, ℕ, ◌+◌, ◌<◌, ◌≤◌, false, List, [], ◌∷◌, Option, Some, None, arith}
use Rattle.std.specs.Option.{option_map_or}
use Rattle.std.proofs.lemmas.Bool.{false≢true}
use Rattle.rc_base.specs.Header.{bit_count, last_bit}
use Rattle.rc_base.specs.declared.field.Field.TheVariants.{Dst, Src, Proto, Sport, Dport, IcmpType, IcmpCode, Rst}
use Rattle.rc_config.specs.Named.{named}
use Rattle.rc_config.specs.declared.access_list.AccessList.{AccessList}
use Rattle.rc_config.specs.declared.access_list.AccessListLine.{AccessListLine}
use Rattle.rc_config.specs.declared.access_list.Action.{Action}
use Rattle.rc_config.specs.declared.access_list.Action.TheVariants.{Permit, Deny}
use Rattle.rc_config.specs.declared.access_list.FurtherTest.{FurtherTest}
use Rattle.rc_config.specs.declared.access_list.FurtherTest.TheVariants as further
use Rattle.rc_config.specs.declared.access_list.PortTest.{PortTest}
use Rattle.rc_config.specs.declared.access_list.PortTest.TheVariants.{Any, Equal, NotEqual, Below, Above, Within}
use Rattle.rc_config.specs.declared.access_list.ProtocolTest.{ProtocolTest}
use Rattle.rc_config.specs.declared.access_list.ProtocolTest.TheVariants as protocol
use Rattle.rc_trees.specs.Trees.{Tree, never, always, node, value, IsReduced}
use Rattle.rc_trees.specs.Recipes.{Recipe, given, IsOfReduced}
use Rattle.rc_trees.specs.Fields.{exact, below, at_most}
use Rattle.rc_trees.proofs.FieldsReduced.{reduced-masked, reduced-exact, reduced-below, reduced-at_most}
use Rattle.rc_trees.proofs.RecipeLaws.{every, of_reduced-union_of}
use Rattle.rc_trees.proofs.ReducedLaws.{reduced-minus}
use Rattle.rc_sets.specs.AccessLists.{protocol_set, port_set, type_set, code_of, code_set, flag_set, way_set, line_set, with_line, lines_set, group_set, passing_set}

module _ (last : ℕ) (bit : last < bit_count) (wide : 16 ≤ last + 1) where
  of_reduced-port : (n : ℕ) → IsReduced (exact last 16 n)
  of_reduced-port n = reduced-exact last bit 16 n wide

  of_reduced-port_set : (t : PortTest) → IsOfReduced (port_set last t)
  of_reduced-port_set Any = tt
  of_reduced-port_set (Equal ports) = of_reduced-union_of (λ n. given (exact last 16 n)) ports (every (λ n. given (exact last 16 n)) of_reduced-port ports)
  of_reduced-port_set (NotEqual ports) = (tt, of_reduced-union_of (λ n. given (exact last 16 n)) ports (every (λ n. given (exact last 16 n)) of_reduced-port ports))
  of_reduced-port_set (Below n) = reduced-below last bit 16 n wide
  of_reduced-port_set (Above n) = reduced-minus always (at_most last 16 n) tt (reduced-at_most last bit 16 n wide)
  of_reduced-port_set (Within low high) = reduced-minus (at_most last 16 high) (below last 16 low) (reduced-at_most last bit 16 high wide) (reduced-below last bit 16 low wide)

of_reduced-protocol_set : (t : ProtocolTest) → IsOfReduced (protocol_set t)
of_reduced-protocol_set protocol.Any = tt
of_reduced-protocol_set (protocol.Is n) = reduced-exact (last_bit Proto) (omega arith) 8 n (omega arith)

of_reduced-type_set : (t : FurtherTest) → IsOfReduced (type_set t)
of_reduced-type_set further.Any = tt
of_reduced-type_set further.Established = tt
of_reduced-type_set (further.Icmp icmp_type code) = reduced-exact (last_bit IcmpType) (omega arith) 8 icmp_type (omega arith)

of_reduced-code_of : (code : Option ℕ) → IsOfReduced (code_of code)
of_reduced-code_of None = tt
of_reduced-code_of (Some code) = reduced-exact (last_bit IcmpCode) (omega arith) 8 code (omega arith)

of_reduced-code_set : (t : FurtherTest) → IsOfReduced (code_set t)
of_reduced-code_set further.Any = tt
of_reduced-code_set further.Established = tt
of_reduced-code_set (further.Icmp icmp_type code) = of_reduced-code_of code

not_always : (t : Tree) → value t (λ v. false) ≡ false → t ≢ always
not_always t none same = false≢true (sym none ∙ ap (λ s. value s (λ v. false)) same)

of_reduced-flag_set : (t : FurtherTest) → IsOfReduced (flag_set t)
of_reduced-flag_set further.Any = tt
of_reduced-flag_set further.Established = (omega arith, omega arith, not_always (node (last_bit Rst) never always) refl, (omega arith, omega arith, not_always never refl, tt, tt), tt)
of_reduced-flag_set (further.Icmp icmp_type code) = tt

of_reduced-way_set : (l : AccessListLine) → IsOfReduced (way_set l)
of_reduced-way_set l = (
  (
    ((of_reduced-protocol_set l.protocol, reduced-masked (last_bit Src) (omega arith) 32 l.source.wildcard l.source.addr (omega arith)), of_reduced-port_set (last_bit Sport) (omega arith) (omega arith) l.source_port),
    reduced-masked (last_bit Dst) (omega arith) 32 l.destination.wildcard l.destination.addr (omega arith),
  ),
  of_reduced-port_set (last_bit Dport) (omega arith) (omega arith) l.destination_port,
)

pub of_reduced-line_set : (l : AccessListLine) → IsOfReduced (line_set l)
unfolding line_set
of_reduced-line_set l = (((of_reduced-way_set l, of_reduced-type_set l.further), of_reduced-code_set l.further), of_reduced-flag_set l.further)

with_action : (a : Action) (m r : Recipe) → IsOfReduced m → IsOfReduced r → IsOfReduced (with_line a m r)
with_action Permit m r ok rest = (rest, ok)
with_action Deny m r ok rest = (rest, ok)

pub of_reduced-lines_set : (lines : List AccessListLine) → IsOfReduced (lines_set lines)
of_reduced-lines_set [] = tt
of_reduced-lines_set (l ∷ lines) = with_action l.action (line_set l) (lines_set lines) (of_reduced-line_set l) (of_reduced-lines_set lines)

of_reduced-group_set : (lines : List AccessListLine) → IsOfReduced (group_set lines)
of_reduced-group_set [] = tt
of_reduced-group_set (l ∷ lines) = of_reduced-lines_set (l ∷ lines)

of_reduced-found : (o : Option AccessList) → IsOfReduced (option_map_or (λ (f : AccessList). group_set f.lines) o (given always))
of_reduced-found None = tt
of_reduced-found (Some f) = of_reduced-group_set f.lines

pub of_reduced-passing_set : (access_lists : List (List ℕ × AccessList)) (group : Option (List ℕ)) → IsOfReduced (passing_set access_lists group)
of_reduced-passing_set access_lists None = tt
of_reduced-passing_set access_lists (Some name) = of_reduced-found (named access_lists name)
