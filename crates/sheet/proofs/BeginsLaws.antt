-- Whatever the reader holds, some sheet goes on from there: the open field is filled and ended, and so are those after it in the line.
use mathlib.Core.Path.{◌≡◌, refl, ◌∙◌}
use mathlib.Core.Bool.{Bool, true, false}
use mathlib.Core.Logic.{inl}
use mathlib.Core.List.{List, [], ◌∷◌, ◌++◌, append_assoc}
use Prim.Native.Nat.{ℕ, zero, suc, ◌<◌}
use native.Mathlib.Decide.{dec_lt}
use native.Mathlib.Omega.{arith}
use borrow.Author.Tests.{eq-eqb}
use Rattle.sheet.specs.declared.reader.Field.{Field}
use Rattle.sheet.specs.declared.reader.Field.TheVariants.{Order, Model, Slots, Spare, C, T, M, K}
use Rattle.sheet.specs.declared.reader.Reader.{Reader}
use Rattle.sheet.specs.Form.{Begins}
use Rattle.sheet.specs.Reader.{letter_field, letter_fits, own_byte, end_byte, next_field, field_after, stored_of, advanced_of}
use Rattle.job.proofs.TestLaws.{clash}
use Rattle.sheet.proofs.ByteLaws.{letter_own, number_own, usual_ends, own_fits, own_leaves, end_fits, end_leaves}
use Rattle.sheet.proofs.HoldsLaws.{Holds, holds_more, holds_sheet}

-- a field of which nothing is read has a byte of its own: V, R, S or 0
first_byte : Field → ℕ
first_byte Order = 86
first_byte Model = 82
first_byte Spare = 83
first_byte _ = 48

first_letter : (field : Field) → letter_field field ≡ true → letter_fits field (first_byte field) ≡ true
unfolding first_byte
first_letter Order letter = refl
first_letter Model letter = refl
first_letter Spare letter = refl
first_letter _ letter = absurd (clash refl letter)

filled : (r : Reader) → r.digits ≡ 0 → (b : ℕ) × (own_byte r b ≡ true)
filled r first = go (letter_field r.field) refl
  where
    go : (letter : Bool) → letter_field r.field ≡ letter → (b : ℕ) × (own_byte r b ≡ true)
    go true letter = (first_byte r.field, letter_own r (first_byte r.field) letter first (first_letter r.field letter))
    go false number = (48, number_own r 48 number (record { low = omega arith; high = omega arith; room = inl first }))

-- the field after this one, where its usual byte ends it
record Next (field : Field) (r : Reader) : Type 0 where
  pub field_is : r.field ≡ next_field field
  pub digits_none : r.digits ≡ 0

usual_next : (field : Field) → field_after field (end_byte field) ≡ next_field field
usual_next Slots = refl
usual_next _ = refl

stored_next : (r : Reader) → Next r.field (stored_of r (end_byte r.field))
unfolding stored_of
stored_next r = record { field_is = usual_next r.field; digits_none = refl }

-- the bytes go on to where the field has ended
record Ended (bytes : List ℕ) (field : Field) : Type 0 where
  pub rest : List ℕ
  pub reader : Reader
  pub holds : Holds (bytes ++ rest) reader
  pub next : Next field reader

ended : {bytes : List ℕ} {r : Reader} → Holds bytes r → 0 < r.digits → Ended bytes r.field
ended {bytes} {r} holds more =
    let b = end_byte r.field in
    let ends = usual_ends r.field in
    record {
      rest = b ∷ [];
      reader = advanced_of r b;
      holds = holds_more holds b (end_fits r b more ends);
      next = rw (end_leaves r b more ends) (stored_next r);
    }

field_ends : {bytes : List ℕ} {r : Reader} → Holds bytes r → Ended bytes r.field
field_ends {bytes} {r} holds = go (dec_lt 0 r.digits)
  where
    go : Dec (0 < r.digits) → Ended bytes r.field
    go (yes more) = ended holds more
    go (no none) =
        let (b, is-own) = filled r (omega arith) in
        let leaves = own_leaves r b is-own in
        let after = ended (rw leaves at (holds_more holds b (own_fits r b is-own))) (omega arith) in
        record {
          rest = b ∷ after.rest;
          reader = after.reader;
          holds = rw (append_assoc bytes (b ∷ []) after.rest) at after.holds;
          next = after.next;
        }

-- how many fields of the line come after this one
fields_left : Field → ℕ
fields_left Order = 2
fields_left Model = 1
fields_left C = 3
fields_left T = 2
fields_left M = 1
fields_left _ = 0

last_now : (field : Field) → fields_left field ≡ 0 → next_field field ≡ C
unfolding fields_left
last_now Slots e = refl
last_now Spare e = refl
last_now K e = refl
last_now _ e = absurd (omega arith)

last_later : (n : ℕ) (field : Field) → fields_left field ≡ suc n → fields_left (next_field field) ≡ n
unfolding fields_left
last_later n Order e = omega arith
last_later n Model e = omega arith
last_later n C e = omega arith
last_later n T e = omega arith
last_later n M e = omega arith
last_later n _ e = absurd (omega arith)

-- on to where the line has ended
line_ends : (n : ℕ) {bytes : List ℕ} {r : Reader} → Holds bytes r → fields_left r.field ≡ n → Begins bytes
line_ends zero {bytes} {r} holds left =
    let after = field_ends holds in
    let line = after.next.field_is ∙ last_now r.field left in
    record {
      rest = after.rest;
      sheet = holds_sheet after.holds (rw (line, eq-eqb after.reader.digits 0 after.next.digits_none) refl);
    }
line_ends (suc n) {bytes} {r} holds left =
    let after = field_ends holds in
    let begins = line_ends n after.holds (rw after.next.field_is (last_later n r.field left)) in
    record {
      rest = after.rest ++ begins.rest;
      sheet = rw (append_assoc bytes after.rest begins.rest) at begins.sheet;
    }

pub holds_begins : {bytes : List ℕ} {r : Reader} → Holds bytes r → Begins bytes
holds_begins {bytes} {r} holds = line_ends (fields_left r.field) holds refl
