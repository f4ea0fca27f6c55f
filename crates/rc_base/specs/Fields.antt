-- The table of a packet header's fields (RFC 791 s.3.1, RFC 9293 s.3.1, RFC 768, RFC 792): each has its line here, and what else is said of
-- a header's bits follows (`Header`).
use Rattle.std.specs.Prelude.{ℕ, ◌==◌, Bool, true, false, List, [], ◌∷◌, codes}
use Rattle.std.specs.Int.{bit_at}
use Rattle.rc_base.specs.declared.header.Header.{Header}
use Rattle.rc_base.specs.declared.field.Field.{Field}
use Rattle.rc_base.specs.declared.field.Field.TheVariants.{Dst, Src, Proto, Sport, Dport, IcmpType, IcmpCode, Ack, Rst}

-- the bit of weight 2 ^ k of a number is 1
abbrev pub is_set : ℕ → ℕ → Bool
is_set n k = bit_at n k == 1

-- a flag as the number of its bit
abbrev pub flag : Bool → ℕ
flag false = 0
flag true = 1

-- the fields in the order of their bits
abbrev pub fields : List Field
fields = Dst ∷ Src ∷ Proto ∷ Sport ∷ Dport ∷ IcmpType ∷ IcmpCode ∷ Ack ∷ Rst ∷ []

-- a field's place in the table
abbrev pub place : Field → ℕ
place Dst = 0
place Src = 1
place Proto = 2
place Sport = 3
place Dport = 4
place IcmpType = 5
place IcmpCode = 6
place Ack = 7
place Rst = 8

-- what it is called in texts
abbrev pub name : Field → List ℕ
name Dst = codes "dst"
name Src = codes "src"
name Proto = codes "proto"
name Sport = codes "sport"
name Dport = codes "dport"
name IcmpType = codes "type"
name IcmpCode = codes "code"
name Ack = codes "ack"
name Rst = codes "rst"

-- how many bits it has
abbrev pub width : Field → ℕ
width Dst = 32
width Src = 32
width Proto = 8
width Sport = 16
width Dport = 16
width IcmpType = 8
width IcmpCode = 8
width Ack = 1
width Rst = 1

-- its number in a header
abbrev pub of : Field → Header → ℕ
of Dst h = h.dst
of Src h = h.src
of Proto h = h.proto
of Sport h = h.sport
of Dport h = h.dport
of IcmpType h = h.icmp_type
of IcmpCode h = h.icmp_code
of Ack h = flag h.ack
of Rst h = flag h.rst

-- the header with another number there, of which a flag keeps the last bit
abbrev pub with : Field → ℕ → Header → Header
with Dst n h = record h { dst = n }
with Src n h = record h { src = n }
with Proto n h = record h { proto = n }
with Sport n h = record h { sport = n }
with Dport n h = record h { dport = n }
with IcmpType n h = record h { icmp_type = n }
with IcmpCode n h = record h { icmp_code = n }
with Ack n h = record h { ack = is_set n 0 }
with Rst n h = record h { rst = is_set n 0 }

-- the header whose fields are all 0
abbrev pub zeros : Header
zeros = record { dst = 0; src = 0; proto = 0; sport = 0; dport = 0; icmp_type = 0; icmp_code = 0; ack = false; rst = false }
