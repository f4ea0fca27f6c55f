-- What the lines of the OSPF process say of it: of each value the last line counts that says it, and no other line matters.
use Rattle.std.proofs.Common.{◌≡◌, ◌∙◌, ap, refl, sym, subst, ℕ, not, Bool, true, false, cond, filter, List, [], ◌∷◌, ◌++◌, Option, Some, None}
use Rattle.std.specs.Prelude.{unwrap_or}
use Rattle.std.specs.List.{cons_option, filter_map, fold}
use Rattle.std.specs.Option.{option_map, option_map_or, option_or}
use Rattle.rc_commands.specs.LastLine as said
use Rattle.rc_commands.specs.OspfLines as said_of_ospf
use Rattle.rc_commands.specs.OspfLines.{redistributions_from, IsProcessByLines}
use Rattle.rc_config.specs.ByNumber.{with_number}
use Rattle.rc_config.specs.Named.{named}
use Rattle.rc_config.specs.Ospf as ospf
use Rattle.rc_config.specs.Update.{after}
use Rattle.rc_config.specs.declared.command.Command.{Command}
use Rattle.rc_config.specs.declared.command.Command.TheVariants as command
use Rattle.rc_config.specs.declared.ospf.OspfLine.{OspfLine}
use Rattle.rc_config.specs.declared.ospf.OspfLine.TheVariants as ospf_line
use Rattle.rc_config.specs.declared.ospf.OspfProcess.{OspfProcess}
use Rattle.rc_config.specs.declared.ospf.RedistributedSource.{RedistributedSource}
use Rattle.rc_config.specs.declared.ospf.RedistributedSource.TheVariants.{Connected, Static, Bgp}
use Rattle.rc_config.specs.declared.ospf.Redistribution.{Redistribution}
use Rattle.rc_config.specs.declared.router_text.RouterText.{RouterText}
use Rattle.rc_commands.proofs.SaidLaws.{all-in-order, all-in-turn, kept, last-alone, last-counts, last-or-default, named-said, nothing-more, number-said, opened}

-- ---- the OSPF process
abbrev pub process_after : OspfProcess → Command → OspfProcess
process_after p (command.OspfLine line) = ospf.with_line p line
process_after p _ = p

pub process-step : (r : RouterText) (c : Command) → (after r c).ospf ≡ option_map (λ p. process_after p c) (opened ospf.no_lines r.ospf (said.process_said c))
process-step r (command.OspfOpened n) = by r.ospf
  where
    by : (g : Option OspfProcess) → Some (unwrap_or g (ospf.no_lines n)) ≡ option_map (λ p. p) (opened ospf.no_lines g (Some n))
    by None = refl
    by (Some p) = refl
process-step r (command.OspfLine line) = by r.ospf
  where
    by : (g : Option OspfProcess) → option_map (λ p. ospf.with_line p line) g ≡ option_map (λ p. ospf.with_line p line) (opened ospf.no_lines g None)
    by None = refl
    by (Some p) = refl
process-step r c = kept ospf.no_lines r.ospf

abbrev pub process_at : Option OspfProcess → Option ℕ
process_at o = option_map (λ p. p.process) o

line-process : (p : OspfProcess) (c : Command) → (process_after p c).process ≡ p.process
line-process p (command.OspfLine (ospf_line.RouterId id)) = refl
line-process p c = refl

pub process-number-step : (r : RouterText) (c : Command) → process_at (after r c).ospf ≡ option_or (process_at r.ospf) (said.process_said c)
process-number-step r c = ap process_at (process-step r c) ∙ by r.ospf (said.process_said c)
  where
    by : (g : Option OspfProcess) (o : Option ℕ) → process_at (option_map (λ p. process_after p c) (opened ospf.no_lines g o)) ≡ option_or (process_at g) o
    by None None = refl
    by None (Some n) = ap Some (line-process (ospf.no_lines n) c)
    by (Some p) o = ap Some (line-process p c)

router_id-step : (p : OspfProcess) (l : OspfLine) → (ospf.with_line p l).router_id ≡ option_or (said_of_ospf.router_id_said l) p.router_id
router_id-step p (ospf_line.RouterId id) = refl
router_id-step p l = refl

networks-step : (p : OspfProcess) (l : OspfLine) → (ospf.with_line p l).networks ≡ p.networks ++ cons_option (said_of_ospf.network_said l) []
networks-step p (ospf_line.Network network) = refl
networks-step p l = nothing-more p.networks

passive_default-step : (p : OspfProcess) (l : OspfLine) → (ospf.with_line p l).passive_default ≡ unwrap_or (said_of_ospf.passive_default_said l) p.passive_default
passive_default-step p ospf_line.PassiveDefault = refl
passive_default-step p l = refl

passive-step : (name : List ℕ) (p : OspfProcess) (l : OspfLine) → named (ospf.with_line p l).passive name ≡ option_or (said_of_ospf.passive_said name l) (named p.passive name)
passive-step name p (ospf_line.Passive interface passive) = named-said p.passive interface name passive
passive-step name p l = refl

reference_bandwidth-step : (p : OspfProcess) (l : OspfLine) → (ospf.with_line p l).reference_bandwidth ≡ unwrap_or (said_of_ospf.reference_bandwidth_said l) p.reference_bandwidth
reference_bandwidth-step p (ospf_line.ReferenceBandwidth mbits) = refl
reference_bandwidth-step p l = refl

stub-step : (area : ℕ) (p : OspfProcess) (l : OspfLine) → with_number ospf.area_of area (ospf.with_line p l).stub_areas ≡ option_or (said_of_ospf.stub_said area l) (with_number ospf.area_of area p.stub_areas)
stub-step area p (ospf_line.Stub stub) = number-said ospf.area_of area stub p.stub_areas
stub-step area p l = refl

-- two sources that are one are the same as any third
same-as : (a b c : RedistributedSource) → ospf.is_same_source a b ≡ true → ospf.is_same_source a c ≡ ospf.is_same_source b c
same-as Connected Connected c is = refl
same-as Static Static c is = refl
same-as (Bgp m) (Bgp n) Connected is = refl
same-as (Bgp m) (Bgp n) Static is = refl
same-as (Bgp m) (Bgp n) (Bgp k) is = refl
same-as _ _ _ is = absurd (cc)

same-back : (a b : RedistributedSource) → ospf.is_same_source a b ≡ ospf.is_same_source b a
same-back Connected Connected = refl
same-back Static Static = refl
same-back (Bgp m) (Bgp n) = refl
same-back _ _ = refl

abbrev others_of : Redistribution → List Redistribution → List Redistribution
others_of line known = filter (λ (other : Redistribution). not (ospf.is_same_source other.source line.source)) known

abbrev alone : Option Redistribution → List Redistribution → List Redistribution
alone o known = option_map_or (λ r. r ∷ []) o known

from-source : (source : RedistributedSource) (line : Redistribution) (known : List Redistribution)
    → redistributions_from source (ospf.with_redistribution known line) ≡ alone (cond (ospf.is_same_source line.source source) (Some line) None) (redistributions_from source known)
from-source source line [] = by (ospf.is_same_source line.source source)
  where
    by : (b : Bool) → cond b (line ∷ []) [] ≡ alone (cond b (Some line) None) []
    by true = refl
    by false = refl
from-source source line (r ∷ known) = by (ospf.is_same_source r.source line.source) refl (from-source source line known)
  where
    replaced : (b : Bool) (rest : List Redistribution) → alone (cond b (Some line) None) rest ≡ alone (cond b (Some line) None) (cond b (r ∷ rest) rest)
    replaced true rest = refl
    replaced false rest = refl

    beside : (a b : Bool) (rest : List Redistribution) → (a ≡ true → b ≡ true → false ≡ true)
        → cond a (r ∷ alone (cond b (Some line) None) rest) (alone (cond b (Some line) None) rest) ≡ alone (cond b (Some line) None) (cond a (r ∷ rest) rest)
    beside true true rest never = absurd (let e = never refl refl in cc)
    beside true false rest never = refl
    beside false true rest never = refl
    beside false false rest never = refl

    by : (same : Bool) → ospf.is_same_source r.source line.source ≡ same
        → redistributions_from source (ospf.with_redistribution known line) ≡ alone (cond (ospf.is_same_source line.source source) (Some line) None) (redistributions_from source known)
        → redistributions_from source (cond (not same) (r ∷ others_of line known) (others_of line known) ++ line ∷ [])
        ≡ alone (cond (ospf.is_same_source line.source source) (Some line) None) (cond (ospf.is_same_source r.source source) (r ∷ redistributions_from source known) (redistributions_from source known))
    by true is rest =
        rest ∙ replaced (ospf.is_same_source line.source source) (redistributions_from source known)
        ∙ ap (λ b. alone (cond (ospf.is_same_source line.source source) (Some line) None) (cond b (r ∷ redistributions_from source known) (redistributions_from source known))) (sym (same-as r.source line.source source is))
    by false other rest =
        ap (λ rs. cond (ospf.is_same_source r.source source) (r ∷ rs) rs) rest
        ∙ beside (ospf.is_same_source r.source source) (ospf.is_same_source line.source source) (redistributions_from source known)
        (λ here there. sym other ∙ same-as r.source source line.source here ∙ same-back source line.source ∙ there)

redistribution-step : (source : RedistributedSource) (p : OspfProcess) (l : OspfLine) → redistributions_from source (ospf.with_line p l).redistributions ≡ alone (said_of_ospf.redistribution_said source l) (redistributions_from source p.redistributions)
redistribution-step source p (ospf_line.Redistribute line) = from-source source line p.redistributions
redistribution-step source p l = refl

default_information-step : (p : OspfProcess) (l : OspfLine) → (ospf.with_line p l).default_information ≡ option_or (said_of_ospf.default_information_said l) p.default_information
default_information-step p (ospf_line.DefaultInformation line) = refl
default_information-step p l = refl

process-lines : (n : ℕ) (lines : List OspfLine) → IsProcessByLines (fold ospf.with_line (ospf.no_lines n) lines) lines
process-lines n lines =
    let p = ospf.no_lines n in
    record {
      router_id = last-counts ospf.with_line (λ x. x.router_id) said_of_ospf.router_id_said router_id-step lines p;
      networks = all-in-order ospf.with_line (λ x. x.networks) said_of_ospf.network_said networks-step lines p;
      passive_default = last-or-default ospf.with_line (λ x. x.passive_default) said_of_ospf.passive_default_said passive_default-step lines p;
      passive = λ name. ap (λ o. unwrap_or o (fold ospf.with_line p lines).passive_default) (last-counts ospf.with_line (λ x. named x.passive name) (said_of_ospf.passive_said name) (passive-step name) lines p);
      reference_bandwidth = last-or-default ospf.with_line (λ x. x.reference_bandwidth) said_of_ospf.reference_bandwidth_said reference_bandwidth-step lines p;
      stub = λ area. last-counts ospf.with_line (λ x. with_number ospf.area_of area x.stub_areas) (said_of_ospf.stub_said area) (stub-step area) lines p;
      redistribution = λ source. last-alone ospf.with_line (λ x. redistributions_from source x.redistributions) (said_of_ospf.redistribution_said source) (redistribution-step source) lines p refl;
      default_information = last-counts ospf.with_line (λ x. x.default_information) said_of_ospf.default_information_said default_information-step lines p;
    }

process_after-step : (p : OspfProcess) (c : Command) → process_after p c ≡ option_map_or (ospf.with_line p) (said.ospf_line_said c) p
process_after-step p (command.OspfLine line) = refl
process_after-step p c = refl

pub process-by-lines : (n : ℕ) (lines : List Command) → IsProcessByLines (fold process_after (ospf.no_lines n) lines) (filter_map said.ospf_line_said lines)
process-by-lines n lines =
    subst (λ p. IsProcessByLines p (filter_map said.ospf_line_said lines)) (sym (all-in-turn process_after (λ p. p) said.ospf_line_said ospf.with_line process_after-step lines (ospf.no_lines n)))
    (process-lines n (filter_map said.ospf_line_said lines))
