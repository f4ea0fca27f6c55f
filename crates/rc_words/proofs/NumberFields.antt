-- The fields of a header whose options are numbers: all but the two addresses, which stand first.
use Rattle.std.proofs.Common.{ap, arith, ◌≡◌, ℕ, ◌<◌, ◌^◌, true, false, List, [], ◌∷◌, refl, Option, Some, codes, drop, nat_lt}
use Rattle.std.proofs.lemmas.Bool.{ltb-true}
use Rattle.std.proofs.lemmas.Nat.{pow_pos}
use Rattle.clap.specs.ValueTests.{accepts}
use Rattle.clap.specs.Walk.{Row}
use Rattle.clap.specs.declared.builder.ValueParser.TheVariants as vp
use Rattle.rc_base.specs.Fields.{fields, name, width}
use Rattle.rc_base.specs.declared.field.Field.{Field}
use Rattle.rc_openings.specs.Values.{at_most}
use Rattle.rc_words.specs.HeaderOptions.{greatest}
use Rattle.rc_words.specs.Plain.{field, number, kind_of, default, Use, number_for, plain_field}
use Rattle.rc_words.specs.Request.{field_at, number_at}
use Rattle.rc_words.proofs.Rules.{AllOf, all_same}

-- the field's option is a number from 0, 0 where it isn't given, and read as one
pub record IsNumberField (f : Field) : Type 0 where
  pub kind : kind_of (field f) ≡ number 0 (greatest f)
  pub absent : default (field f) ≡ Some (codes "0")
  pub accepted : accepts false (vp.Unsigned 0 (greatest f)) (codes "0") ≡ true
  pub small : greatest f < 2 ^ 32
  pub found : (rows : List Row) → field_at rows f ≡ at_most (greatest f) (number_at 32 (name f) rows)
  pub plain : (uses : List Use) → plain_field uses f ≡ Some (number_for (field f) uses)

abbrev pub number_fields : List Field
number_fields = drop 2 fields

pub greatest_fits : (f : Field) → greatest f < 2 ^ width f
greatest_fits f = let some = pow_pos (width f) in omega arith

-- what is read of a field, and what plain words say of it
abbrev field_read : Field → List Row → Option ℕ
field_read f rows = field_at rows f

abbrev number_read : Field → List Row → Option ℕ
number_read f rows = at_most (greatest f) (number_at 32 (name f) rows)

abbrev field_said : Field → List Use → Option ℕ
field_said f uses = plain_field uses f

abbrev number_said : Field → List Use → Option ℕ
number_said f uses = Some (number_for (field f) uses)

all_are : (fs : List Field) → AllOf (λ f. kind_of (field f) ≡ number 0 (greatest f)) fs → AllOf (λ f. default (field f) ≡ Some (codes "0")) fs → AllOf (λ f. accepts false (vp.Unsigned 0 (greatest f)) (codes "0") ≡ true) fs
    → AllOf (λ f. nat_lt (greatest f) (2 ^ 32) ≡ true) fs → AllOf (λ f. field_read f ≡ number_read f) fs
    → AllOf (λ f. field_said f ≡ number_said f) fs → AllOf IsNumberField fs
all_are [] kind absent accepted small found plain = tt
all_are (f ∷ fs) kind absent accepted small found plain = (
  record {
    kind = kind.0;
    absent = absent.0;
    accepted = accepted.0;
    small = ltb-true (greatest f) (2 ^ 32) small.0;
    found = λ rows. ap (λ (h : List Row → Option ℕ). h rows) found.0;
    plain = λ uses. ap (λ (h : List Use → Option ℕ). h uses) plain.0;
  },
  all_are fs kind.1 absent.1 accepted.1 small.1 found.1 plain.1,
)

pub are_numbers : AllOf IsNumberField number_fields
are_numbers =
    all_are number_fields (all_same (λ f. kind_of (field f)) (λ f. number 0 (greatest f)) number_fields refl) (all_same (λ f. default (field f)) (λ f. Some (codes "0")) number_fields refl)
    (all_same (λ f. accepts false (vp.Unsigned 0 (greatest f)) (codes "0")) (λ f. true) number_fields refl) (all_same (λ f. nat_lt (greatest f) (2 ^ 32)) (λ f. true) number_fields refl)
    (all_same field_read number_read number_fields refl)
    (all_same field_said number_said number_fields refl)
