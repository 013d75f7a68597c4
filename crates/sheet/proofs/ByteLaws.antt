-- Which byte may come next: one more of the field, or the one that ends it.
use mathlib.Core.Path.{◌≡◌, refl, sym, ◌∙◌}
use mathlib.Core.Bool.{Bool, true, false, ◌&&◌, ◌||◌, cond, or-true}
use mathlib.Core.Logic.{◌⊎◌, inl, inr}
use Prim.Native.Nat.{ℕ, ◌+◌, ◌-◌, ◌*◌, ◌^◌, ◌≤◌, ◌<◌}
use native.Mathlib.Nat.{pow-le-pow_right}
use native.Mathlib.Omega.{arith}
use lib.Dec.{leb, ltb, eqb}
use borrow.Author.Tests.{ltb-true, leb-true, eqb-true, lt-ltb, le-leb, eq-eqb}
use Rattle.job.specs.declared.record.Job.{Job}
use Rattle.sheet.specs.declared.reading.Sheet.{Sheet}
use Rattle.sheet.specs.declared.reader.Field.{Field}
use Rattle.sheet.specs.declared.reader.Field.TheVariants.{Slots, Spare, K}
use Rattle.sheet.specs.declared.reader.Reader.{Reader}
use Rattle.sheet.specs.Reader.{SoundReader, letter_field, letter_fits, digit_fits, own_byte, end_byte, spare_next, ends_field, fits_of, value_after, stored_of, advanced_of}
use Rattle.job.proofs.TestLaws.{clash, refuted, both, either}

abbrev pub reader_at : Field → ℕ → ℕ → Job → Sheet → Reader
reader_at field digits value job sheet =
    record { field = field; digits = digits; value = value; job = job; sheet = sheet }

-- '0 or up to 5 digits with no leading zero': one more digit may come
pub record DigitNext (digits value b : ℕ) : Type 0 where
  pub low : 48 ≤ b
  pub high : b ≤ 57
  pub room : (digits ≡ 0) ⊎ ((0 < value) × (digits < 5))

digit_fits_lem : (digits value b : ℕ) → DigitNext digits value b → digit_fits digits value b ≡ true
digit_fits_lem digits value b n = go n.room
  where
    go : (digits ≡ 0) ⊎ ((0 < value) × (digits < 5)) → digit_fits digits value b ≡ true
    go (inl first) = simp (le-leb 48 b n.low, le-leb b 57 n.high, eq-eqb digits 0 first)
    go (inr more) =
        simp
        (le-leb 48 b n.low, le-leb b 57 n.high, lt-ltb 0 value more.0, lt-ltb digits 5 more.1, or-true (eqb digits 0))

fits_digit : (digits value b : ℕ) → digit_fits digits value b ≡ true → DigitNext digits value b
fits_digit digits value b e =
    let tests = both (leb 48 b && leb b 57) (eqb digits 0 || (ltb 0 value && ltb digits 5)) e in
    let range = both (leb 48 b) (leb b 57) tests.0 in
    record {
      low = leb-true 48 b range.0;
      high = leb-true b 57 range.1;
      room = go (either (eqb digits 0) (ltb 0 value && ltb digits 5) tests.1);
    }
  where
    go : (eqb digits 0 ≡ true) ⊎ ((ltb 0 value && ltb digits 5) ≡ true) → (digits ≡ 0) ⊎ ((0 < value) × (digits < 5))
    go (inl first) = inl (eqb-true digits 0 first)
    go (inr more) =
        let tests = both (ltb 0 value) (ltb digits 5) more in
        inr (ltb-true 0 value tests.0, ltb-true digits 5 tests.1)

-- a field's own bytes, for a letter and for a number
module _ (r : Reader) (b : ℕ) where
  module _ (letter : letter_field r.field ≡ true) where
    pub own_is_letter : own_byte r b ≡ (eqb r.digits 0 && letter_fits r.field b)
    unfolding own_byte
    own_is_letter = rw letter

    pub letter_own : r.digits ≡ 0 → letter_fits r.field b ≡ true → own_byte r b ≡ true
    letter_own first fits = own_is_letter ∙ rw (eq-eqb r.digits 0 first) fits

    pub own_letter : own_byte r b ≡ true → (r.digits ≡ 0) × (letter_fits r.field b ≡ true)
    own_letter e =
        let tests = both (eqb r.digits 0) (letter_fits r.field b) (sym own_is_letter ∙ e) in
        (eqb-true r.digits 0 tests.0, tests.1)

    pub letter_value_lem : value_after r b ≡ cond (eqb b 87 || eqb b 79) 1 0
    unfolding value_after
    letter_value_lem = rw letter

  module _ (number : letter_field r.field ≡ false) where
    pub own_is_digit : own_byte r b ≡ digit_fits r.digits r.value b
    unfolding own_byte
    own_is_digit = rw number

    pub number_own : DigitNext r.digits r.value b → own_byte r b ≡ true
    number_own n = own_is_digit ∙ digit_fits_lem r.digits r.value b n

    pub own_number : own_byte r b ≡ true → DigitNext r.digits r.value b
    own_number e = fits_digit r.digits r.value b (sym own_is_digit ∙ e)

    pub number_value : value_after r b ≡ r.value * 10 + (b - 48)
    unfolding value_after
    number_value = rw number

-- the byte that ends a field is none of its own
pub usual_ends : (field : Field) → ends_field field (end_byte field) ≡ true
usual_ends field = rw (eq-eqb (end_byte field) (end_byte field) refl, or-true)

spare_low : (field : Field) (b : ℕ) → spare_next field b ≡ true → b < 48
spare_low Slots b e = omega (arith, eqb-true b 32 e)
spare_low _ b e = absurd (clash refl e)

usual_low : (field : Field) → end_byte field < 48
usual_low Slots = omega arith
usual_low Spare = omega arith
usual_low K = omega arith
usual_low _ = omega arith

end_low : (field : Field) (b : ℕ) → ends_field field b ≡ true → b < 48
end_low field b ends = go (either (spare_next field b) (eqb b (end_byte field)) ends)
  where
    go : (spare_next field b ≡ true) ⊎ (eqb b (end_byte field) ≡ true) → b < 48
    go (inl spare) = spare_low field b spare
    go (inr usual) = omega (arith, eqb-true b (end_byte field) usual, usual_low field)

end_not_own : (r : Reader) (b : ℕ) → 0 < r.digits → ends_field r.field b ≡ true → own_byte r b ≡ false
end_not_own r b some ends = refuted (never (letter_field r.field) refl)
  where
    never : (letter : Bool) → letter_field r.field ≡ letter → own_byte r b ≡ true → ⊥
    never true letter e = let first = (own_letter r b letter e).0 in omega arith
    never false number e = let digit = own_number r b number e in omega (arith, end_low r.field b ends)

-- a byte that fits is one of the field's own, or ends it
pub data Fitting (r : Reader) (b : ℕ) : Type 0 where
  own : own_byte r b ≡ true → Fitting r b
  end : 0 < r.digits → ends_field r.field b ≡ true → Fitting r b

pub fitting : (r : Reader) (b : ℕ) → fits_of r b ≡ true → Fitting r b
unfolding fits_of
fitting r b e = go (either (own_byte r b) (ltb 0 r.digits && ends_field r.field b) e)
  where
    go : (own_byte r b ≡ true) ⊎ ((ltb 0 r.digits && ends_field r.field b) ≡ true) → Fitting r b
    go (inl is) = own is
    go (inr is) =
        let tests = both (ltb 0 r.digits) (ends_field r.field b) is in
        end (ltb-true 0 r.digits tests.0) tests.1

pub own_fits : (r : Reader) (b : ℕ) → own_byte r b ≡ true → fits_of r b ≡ true
unfolding fits_of
own_fits r b e = rw e

pub end_fits : (r : Reader) (b : ℕ) → 0 < r.digits → ends_field r.field b ≡ true → fits_of r b ≡ true
unfolding fits_of
end_fits r b some ends = rw (end_not_own r b some ends, lt-ltb 0 r.digits some, ends)

-- what a byte of the field leaves, and what the byte that ends it leaves
pub own_leaves :
    (r : Reader) (b : ℕ) → own_byte r b ≡ true → advanced_of r b ≡ reader_at r.field (r.digits + 1) (value_after r b) r.job r.sheet
unfolding advanced_of
own_leaves r b e = rw e

pub stored_leaves : (r : Reader) (b : ℕ) → own_byte r b ≡ false → advanced_of r b ≡ stored_of r b
unfolding advanced_of
stored_leaves r b e = rw e

pub end_leaves : (r : Reader) (b : ℕ) → 0 < r.digits → ends_field r.field b ≡ true → advanced_of r b ≡ stored_of r b
end_leaves r b some ends = stored_leaves r b (end_not_own r b some ends)

-- a sound reader's value has at most five digits
pub sound_value : (r : Reader) → SoundReader r → r.value < 100000
sound_value r sound =
    let most : 10 ^ r.digits ≤ 10 ^ 5 = pow-le-pow_right (omega arith) sound.digits_high in omega (arith, sound.value_high)
