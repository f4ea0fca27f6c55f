-- The rows of the table of fields: what a field of a header is after a field was put.
use Rattle.std.proofs.Common.{◌≡◌, ℕ, zero, suc, ◌<◌, ◌^◌, Bool, true, false, not, List, refl, sym, arith}
use Rattle.std.specs.List.{list_all}
use Rattle.std.proofs.lemmas.Bool.{false≢true}
use Rattle.rc_base.specs.declared.header.Header.{Header}
use Rattle.rc_base.specs.declared.field.Field.{Field}
use Rattle.rc_base.specs.declared.field.Field.TheVariants.{Dst, Src, Proto, Sport, Dport, IcmpType, IcmpCode, Ack, Rst}
use Rattle.rc_base.specs.Fields.{fields, flag, is_set, of, width, with, zeros}
use Rattle.rc_base.specs.Header.{FieldsAreApart, same_field}

-- the field is none of these
abbrev pub is_new : Field → List Field → Bool
is_new f gs = list_all (λ g. not (same_field f g)) gs

flag-at : (b : Bool) (n k : ℕ) → k < 1 → is_set n 0 ≡ b → is_set (flag b) k ≡ is_set n k
flag-at true n zero less e = sym e
flag-at false n zero less e = sym e
flag-at b n (suc k) less e = absurd (omega arith)

flag-small : (b : Bool) → flag b < 2 ^ 1
flag-small true = omega arith
flag-small false = omega arith

-- the field that was put has the bits of the number
pub put-bit : (f : Field) (n : ℕ) (h : Header) (k : ℕ) → k < width f → is_set (of f (with f n h)) k ≡ is_set n k
put-bit Dst n h k less = refl
put-bit Src n h k less = refl
put-bit Proto n h k less = refl
put-bit Sport n h k less = refl
put-bit Dport n h k less = refl
put-bit IcmpType n h k less = refl
put-bit IcmpCode n h k less = refl
put-bit Ack n h k less = flag-at (is_set n 0) n k less refl
put-bit Rst n h k less = flag-at (is_set n 0) n k less refl

-- and each other one stays
pub put-other : (f g : Field) (n : ℕ) (h : Header) → same_field f g ≡ false → of g (with f n h) ≡ of g h
put-other Dst Dst n h e = absurd (false≢true (sym e))
put-other Src Src n h e = absurd (false≢true (sym e))
put-other Proto Proto n h e = absurd (false≢true (sym e))
put-other Sport Sport n h e = absurd (false≢true (sym e))
put-other Dport Dport n h e = absurd (false≢true (sym e))
put-other IcmpType IcmpType n h e = absurd (false≢true (sym e))
put-other IcmpCode IcmpCode n h e = absurd (false≢true (sym e))
put-other Ack Ack n h e = absurd (false≢true (sym e))
put-other Rst Rst n h e = absurd (false≢true (sym e))
put-other f g n h e = refl

pub fields_are_apart : FieldsAreApart
fields_are_apart = record { put = put-bit; others = put-other }

pub zero-of : (f : Field) → of f zeros ≡ 0
zero-of Dst = refl
zero-of Src = refl
zero-of Proto = refl
zero-of Sport = refl
zero-of Dport = refl
zero-of IcmpType = refl
zero-of IcmpCode = refl
zero-of Ack = refl
zero-of Rst = refl

-- fields of one place are one
pub same-is : (f g : Field) → same_field f g ≡ true → f ≡ g
same-is Dst Dst e = refl
same-is Src Src e = refl
same-is Proto Proto e = refl
same-is Sport Sport e = refl
same-is Dport Dport e = refl
same-is IcmpType IcmpType e = refl
same-is IcmpCode IcmpCode e = refl
same-is Ack Ack e = refl
same-is Rst Rst e = refl
same-is f g e = absurd (false≢true e)

-- each field stands in the table
pub is_there : (f : Field) → is_new f fields ≡ false
is_there Dst = refl
is_there Src = refl
is_there Proto = refl
is_there Sport = refl
is_there Dport = refl
is_there IcmpType = refl
is_there IcmpCode = refl
is_there Ack = refl
is_there Rst = refl

-- a number that fits the field is small there
pub put-small : (f g : Field) (n : ℕ) (h : Header) → same_field f g ≡ true → n < 2 ^ width f → of g (with f n h) < 2 ^ width g
put-small Dst Dst n h e less = less
put-small Src Src n h e less = less
put-small Proto Proto n h e less = less
put-small Sport Sport n h e less = less
put-small Dport Dport n h e less = less
put-small IcmpType IcmpType n h e less = less
put-small IcmpCode IcmpCode n h e less = less
put-small Ack Ack n h e less = flag-small (is_set n 0)
put-small Rst Rst n h e less = flag-small (is_set n 0)
put-small f g n h e less = absurd (false≢true e)
