-- The sets of access lists hold the headers that they permit.
use Rattle.std.proofs.Common.{refl, ◌≡◌, ap, sym, ◌∙◌, ℕ, ◌^◌, ◌<◌, Bool, true, false, not, ◌&&◌, ◌||◌, cond, ◌==◌, nat_lt, nat_le, List, [], ◌∷◌, Option, Some, None, arith}
use Rattle.std.specs.List.{list_any}
use Rattle.std.specs.Option.{option_map_or}
use Rattle.std.proofs.lemmas.Bool.Decides.{nat_tests}
use Rattle.rc_base.specs.declared.header.Header.{Header}
use Rattle.rc_config.specs.Named.{named}
use Rattle.rc_config.specs.declared.access_list.Action.{Action}
use Rattle.rc_config.specs.declared.access_list.Action.TheVariants.{Permit, Deny}
use Rattle.rc_config.specs.declared.access_list.AccessList.{AccessList}
use Rattle.rc_config.specs.declared.access_list.AccessListLine.{AccessListLine}
use Rattle.rc_config.specs.declared.access_list.FurtherTest.{FurtherTest}
use Rattle.rc_config.specs.declared.access_list.FurtherTest.TheVariants as further
use Rattle.rc_config.specs.declared.access_list.PortTest.{PortTest}
use Rattle.rc_config.specs.declared.access_list.PortTest.TheVariants.{Any, Equal, NotEqual, Below, Above, Within}
use Rattle.rc_config.specs.declared.access_list.ProtocolTest.{ProtocolTest}
use Rattle.rc_config.specs.declared.access_list.ProtocolTest.TheVariants as protocol
use Rattle.rc_filter.specs.Verdict.{matches, matches_address, matches_code, matches_further, matches_port, matches_protocol, permits, first_action, group_verdict, passes}
use Rattle.rc_filter.proofs.VerdictLaws.{first_action-cases}
use Rattle.rc_base.specs.Fields.{flag, is_set}
use Rattle.rc_base.specs.Header.{IsHeader, bit, last_bit}
use Rattle.rc_base.specs.declared.field.Field.TheVariants.{Dst, Src, Proto, Sport, Dport, IcmpType, IcmpCode, Ack, Rst}
use Rattle.rc_trees.specs.Trees.{always, value}
use Rattle.rc_trees.specs.Recipes.{Recipe, given, and, has, union_of}
use Rattle.rc_trees.proofs.TreeLaws.{value-minus}
use Rattle.rc_trees.proofs.RecipeLaws.{has-and, has-or, has-minus, has-union_of}
use Rattle.rc_trees.specs.Fields.{exact, below, at_most}
use Rattle.rc_sets.specs.AccessLists.{protocol_set, port_set, address_set, established, type_set, code_of, code_set, flag_set, way_set, line_set, with_line, lines_set, group_set, passing_set}
use Rattle.rc_trees.proofs.FieldLaws.{Reads, value-exact, value-below, value-at_most, reads}
use Rattle.rc_sets.proofs.WildcardLaws.{value-masked}

flag-bit : (b : Bool) → is_set (flag b) 0 ≡ b
flag-bit true = refl
flag-bit false = refl

module _ (h : Header) where
  -- ---- ports: a port of the header, whose last bit stands at a variable
  module _ (last p : ℕ) (reads : Reads h last p 16) (small : p < 2 ^ 16) where
    has-ports : (ports : List ℕ) → has (union_of (λ n. given (exact last 16 n)) ports) h ≡ list_any (λ q. p == q) ports
    has-ports ports = has-union_of (λ n. given (exact last 16 n)) h ports ∙ (λ i. list_any (λ q. value-exact h last p 16 reads small q i) ports)

    above : (q : ℕ) → not (nat_le p q) ≡ nat_lt q p
    above q = grind (arith, nat_tests)

    within : (low high : ℕ) → (nat_le p high && not (nat_lt p low)) ≡ (nat_le low p && nat_le p high)
    within low high = grind (arith, nat_tests)

    has-port_set : (t : PortTest) → has (port_set last t) h ≡ matches_port t p
    has-port_set Any = refl
    has-port_set (Equal ports) = has-ports ports
    has-port_set (NotEqual ports) = has-minus h (given always) (union_of (λ n. given (exact last 16 n)) ports) ∙ ap not (has-ports ports)
    has-port_set (Below n) = value-below h last p 16 reads small n
    has-port_set (Above n) = value-minus (bit h) always (at_most last 16 n) ∙ ap not (value-at_most h last p 16 reads small n) ∙ above n
    has-port_set (Within low high) =
        value-minus (bit h) (at_most last 16 high) (below last 16 low) ∙ (λ i. value-at_most h last p 16 reads small high i && not (value-below h last p 16 reads small low i)) ∙ within low high

  module _ (is : IsHeader h) where
    has-protocol_set : (t : ProtocolTest) → has (protocol_set t) h ≡ matches_protocol t h.proto
    has-protocol_set protocol.Any = refl
    has-protocol_set (protocol.Is n) = value-exact h (last_bit Proto) h.proto 8 (reads h Proto) (is Proto) n

    -- the tests of the way, as `matches` has them
    abbrev passes_way : AccessListLine → Bool
    passes_way l =
        matches_protocol l.protocol h.proto && matches_address l.source h.src && matches_port l.source_port h.sport && matches_address l.destination h.dst && matches_port l.destination_port h.dport

    has-way_set : (l : AccessListLine) → has (way_set l) h ≡ passes_way l
    has-way_set l =
        let p = protocol_set l.protocol in let s = address_set (last_bit Src) l.source in let a = port_set (last_bit Sport) l.source_port in let d = address_set (last_bit Dst) l.destination in let b = port_set (last_bit Dport) l.destination_port in
        has-and h (and (and (and p s) a) d) b
        ∙ ap (λ x. x && has b h) (has-and h (and (and p s) a) d ∙ ap (λ x. x && has d h) (has-and h (and p s) a ∙ ap (λ x. x && has a h) (has-and h p s)))
        ∙ (λ i. (((has-protocol_set l.protocol i && value-masked h (last_bit Src) h.src 32 l.source.wildcard l.source.addr (reads h Src) i)
        && has-port_set (last_bit Sport) h.sport (reads h Sport) (is Sport) l.source_port i)
        && value-masked h (last_bit Dst) h.dst 32 l.destination.wildcard l.destination.addr (reads h Dst) i)
        && has-port_set (last_bit Dport) h.dport (reads h Dport) (is Dport) l.destination_port i)

    -- ACK or RST
    has-established : value established (bit h) ≡ (h.ack || h.rst)
    has-established = by (bit h (last_bit Ack)) (bit h (last_bit Rst)) (reads h Ack 0 (omega arith) ∙ flag-bit h.ack) (reads h Rst 0 (omega arith) ∙ flag-bit h.rst)
      where
        by : (a r : Bool) → a ≡ h.ack → r ≡ h.rst → cond a true (cond r true false) ≡ (h.ack || h.rst)
        by true true e f = ap (λ b. b || h.rst) e
        by true false e f = ap (λ b. b || h.rst) e
        by false true e f = (λ i. e i || f i)
        by false false e f = (λ i. e i || f i)

    has-code_of : (code : Option ℕ) → has (code_of code) h ≡ matches_code code h.icmp_code
    has-code_of None = refl
    has-code_of (Some code) = value-exact h (last_bit IcmpCode) h.icmp_code 8 (reads h IcmpCode) (is IcmpCode) code

    -- the three tests behind one that is passed or not
    has-further : (t : FurtherTest) (x : Bool) → (((x && has (type_set t) h) && has (code_set t) h) && has (flag_set t) h) ≡ (x && matches_further t h)
    has-further further.Any true = refl
    has-further further.Any false = refl
    has-further further.Established true = has-established
    has-further further.Established false = refl
    has-further (further.Icmp icmp_type code) false = refl
    has-further (further.Icmp icmp_type code) true =
        by (has (type_set (further.Icmp icmp_type code)) h) (has (code_of code) h)
        ∙ (λ i. value-exact h (last_bit IcmpType) h.icmp_type 8 (reads h IcmpType) (is IcmpType) icmp_type i && has-code_of code i)
      where
        by : (a b : Bool) → (((true && a) && b) && true) ≡ (a && b)
        by true true = refl
        by true false = refl
        by false b = refl

    -- a line's set holds the headers that it matches
    pub has-line_set : (l : AccessListLine) → has (line_set l) h ≡ matches l h
    unfolding line_set matches
    has-line_set l =
        let w = way_set l in let t = type_set l.further in let c = code_set l.further in let f = flag_set l.further in
        has-and h (and (and w t) c) f
        ∙ ap (λ x. x && has f h) (has-and h (and w t) c ∙ ap (λ x. x && has c h) (has-and h w t ∙ ap (λ x. x && has t h) (has-way_set l)))
        ∙ has-further l.further (passes_way l)

    has-with_line : (a : Action) (m t : Recipe) → has (with_line a m t) h ≡ cond (has m h) (permits a) (has t h)
    has-with_line Permit m t = has-or h t m ∙ at (has t h) (has m h)
      where
        at : (x y : Bool) → (x || y) ≡ cond y true x
        at true true = refl
        at true false = refl
        at false true = refl
        at false false = refl
    has-with_line Deny m t = has-minus h t m ∙ at (has t h) (has m h)
      where
        at : (x y : Bool) → (x && not y) ≡ cond y false x
        at true true = refl
        at true false = refl
        at false true = refl
        at false false = refl

    -- the set of lines holds the headers that they permit
    pub has-lines_set : (lines : List AccessListLine) → has (lines_set lines) h ≡ first_action lines h
    has-lines_set [] = refl
    has-lines_set (l ∷ lines) =
        has-with_line l.action (line_set l) (lines_set lines)
        ∙ (λ i. cond (has-line_set l i) (permits l.action) (has-lines_set lines i))
        ∙ sym (first_action-cases l lines h)

    has-group_set : (lines : List AccessListLine) → has (group_set lines) h ≡ group_verdict lines h
    has-group_set [] = refl
    has-group_set (l ∷ lines) = has-lines_set (l ∷ lines)

    has-found : (o : Option AccessList) → has (option_map_or (λ (f : AccessList). group_set f.lines) o (given always)) h ≡ option_map_or (λ (f : AccessList). group_verdict f.lines h) o true
    has-found None = refl
    has-found (Some f) = has-group_set f.lines

    -- the set of an access group holds the headers that it passes
    pub has-passing_set : (access_lists : List (List ℕ × AccessList)) (group : Option (List ℕ)) → has (passing_set access_lists group) h ≡ passes access_lists group h
    has-passing_set access_lists None = refl
    has-passing_set access_lists (Some name) = has-found (named access_lists name)
