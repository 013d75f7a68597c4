-- Bytes that fitted are the text of what the reader holds: the lines that ended, the fields before the open one, and what is read of it.
use mathlib.Core.Path.{◌≡◌, refl, sym, ◌∙◌, ap, subst}
use mathlib.Core.Bool.{Bool, true, false, ◌&&◌, ◌||◌, cond}
use mathlib.Core.Logic.{◌⊎◌, inl, inr}
use mathlib.Core.List.{List, [], ◌∷◌, ◌++◌, append_assoc, append-nil}
use Prim.Native.Nat.{ℕ, zero, suc, ◌+◌, ◌-◌, ◌*◌, ◌^◌, ◌≤◌, ◌<◌}
use native.Mathlib.Nat.{pow-le-pow_right}
use native.Mathlib.Omega.{arith}
use lib.Dec.{eqb}
use lib.ListN.{length, length-append}
use borrow.Author.Tests.{eqb-true}
use Rattle.job.specs.declared.record.Job.{Job}
use Rattle.job.specs.Limit.{original}
use Rattle.job.specs.Check.{job_at}
use Rattle.text.specs.Ascii.{ascii}
use Rattle.text.specs.Decimal.{decimal_of}
use Rattle.place.specs.Setting.{order_w}
use Rattle.sheet.specs.declared.reading.Sheet.{Sheet}
use Rattle.sheet.specs.declared.reader.Field.{Field}
use Rattle.sheet.specs.declared.reader.Field.TheVariants.{Order, Model, Slots, Spare, C, T, M, K}
use Rattle.sheet.specs.declared.reader.Reader.{Reader}
use Rattle.sheet.specs.Form.{number_most, order_letter, model_letter, first_line, job_line, job_lines, SmallJob, IsSheet}
use Rattle.sheet.specs.Reader.{start_reader, job_of, SoundReader, between_lines, letter_field, letter_fits, own_byte, ends_field, fits_of, value_after, starts_job, stored_of, advanced_of}
use Rattle.job.proofs.TestLaws.{clash, both, either}
use Rattle.text.proofs.DecimalLaws.{decimal_one, decimal_more, decimal_some, decimal_length, decimal_long}
use Rattle.place.proofs.CondLaws.{by_test}
use Rattle.sheet.proofs.ByteLaws.{reader_at, DigitNext, own_letter, letter_value_lem, own_number, number_value, Fitting, own, end, fitting, own_leaves, end_leaves}

-- a field's text, and the most that its value may be
abbrev letter_text : Field → ℕ → List ℕ
letter_text Order value = order_letter value
letter_text Model value = model_letter value
letter_text _ value = ascii "S"

abbrev field_text : Field → ℕ → List ℕ
field_text field value = cond (letter_field field) (letter_text field value) (decimal_of value)

abbrev field_most : Field → ℕ
field_most field = cond (letter_field field) 1 number_most

-- what is read of the open field: nothing, or the text of its value
pub record Whole (field : Field) (digits value : ℕ) (text : List ℕ) : Type 0 where
  pub small : value ≤ field_most field
  pub text_is : text ≡ field_text field value
  pub length_is : digits ≡ length text

pub data Part (field : Field) (digits value : ℕ) (text : List ℕ) : Type 0 where
  nothing : digits ≡ 0 → value ≡ 0 → text ≡ [] → Part field digits value text
  some : Whole field digits value text → Part field digits value text

-- how long a field's text is
record Long (value : ℕ) (text : List ℕ) : Type 0 where
  pub low : 0 < length text
  pub high : length text ≤ 5
  pub value_high : value < 10 ^ length text

letter_long : (value a b : ℕ) → value ≤ 1 → Long value (cond (eqb value 0) (a ∷ []) (b ∷ []))
letter_long value a b small =
    by_test (Long value) (eqb value 0) (λ e. omega arith) (λ e. omega arith)

number_long : (value : ℕ) → value ≤ number_most → Long value (decimal_of value)
number_long value small =
    record {
      low = decimal_some value;
      high = decimal_length 4 value (omega arith);
      value_high = decimal_long value (omega arith);
    }

field_long : (field : Field) (value : ℕ) → value ≤ field_most field → Long value (field_text field value)
field_long Order value small = letter_long value 86 87 small
field_long Model value small = letter_long value 82 79 small
field_long Spare value small = omega arith
field_long _ value small = number_long value small

module _ {field : Field} {digits value : ℕ} {text : List ℕ} (part : Part field digits value text) where
  part_empty : digits ≡ 0 → (value ≡ 0) × (text ≡ [])
  part_empty first = go part
    where
      go : Part field digits value text → (value ≡ 0) × (text ≡ [])
      go (nothing _ none empty) = (none, empty)
      go (some w) = absurd (omega (arith, (field_long field value w.small).low, ap length w.text_is, w.length_is))

  part_whole : (digits ≡ 0 → value ≡ 0 → ⊥) → Whole field digits value text
  part_whole more = go part
    where
      go : Part field digits value text → Whole field digits value text
      go (nothing none zeros _) = absurd (more none zeros)
      go (some w) = w

-- one more byte of a letter's field
abbrev letter_value : ℕ → ℕ
letter_value b = cond (eqb b 87 || eqb b 79) 1 0

abbrev LetterReads : Field → ℕ → Type 0
LetterReads field b = (letter_value b ≤ 1) × (b ∷ [] ≡ letter_text field (letter_value b))

letter_reads : (field : Field) (b : ℕ) → letter_fits field b ≡ true → LetterReads field b
letter_reads Order b e = go (either (eqb b 86) (eqb b 87) e)
  where
    go : (eqb b 86 ≡ true) ⊎ (eqb b 87 ≡ true) → LetterReads Order b
    go (inl is) = subst (LetterReads Order) (sym (eqb-true b 86 is)) (omega arith, refl)
    go (inr is) = subst (LetterReads Order) (sym (eqb-true b 87 is)) (omega arith, refl)
letter_reads Model b e = go (either (eqb b 82) (eqb b 79) e)
  where
    go : (eqb b 82 ≡ true) ⊎ (eqb b 79 ≡ true) → LetterReads Model b
    go (inl is) = subst (LetterReads Model) (sym (eqb-true b 82 is)) (omega arith, refl)
    go (inr is) = subst (LetterReads Model) (sym (eqb-true b 79 is)) (omega arith, refl)
letter_reads Spare b e = subst (LetterReads Spare) (sym (eqb-true b 83 e)) (omega arith, refl)
letter_reads _ b e = absurd (clash refl e)

-- one more digit of a number's field
number_more :
    (field : Field) (digits value b : ℕ) (text : List ℕ) → letter_field field ≡ false → Part field digits value text → DigitNext digits value b
    → Whole field (digits + 1) (value * 10 + (b - 48)) (text ++ (b ∷ []))
number_more field digits value b text number part next = go next.room
  where
    byte : 48 + (b - 48) ≡ b
    byte = omega (arith, next.low)

    go : (digits ≡ 0) ⊎ ((0 < value) × (digits < 5)) → Whole field (digits + 1) (value * 10 + (b - 48)) (text ++ (b ∷ []))
    go (inl first) =
        let empty = part_empty part first in
        let same : value * 10 + (b - 48) ≡ b - 48 = omega (arith, empty.0) in
        let digit : b - 48 < 10 = omega (arith, next.high) in
        record {
          small = rw number (omega arith);
          text_is = rw (number, empty.1, same, decimal_one (b - 48) digit, byte) refl;
          length_is = omega (arith, length-append text (b ∷ []), ap length empty.1);
        }
    go (inr more) =
        let whole = part_whole part (λ none zeros. omega arith) in
        let small : value ≤ number_most = rw number at whole.small in
        let digit : b - 48 < 10 = omega (arith, next.high) in
        let same : digits ≡ length (decimal_of value) = rw number at (whole.length_is ∙ ap length whole.text_is) in
        let room : length (decimal_of value) ≤ 4 = omega arith in
        let most : 10 ^ length (decimal_of value) ≤ 10 ^ 4 = pow-le-pow_right (omega arith) room in
        let fits : value * 10 + (b - 48) ≤ number_most = omega (arith, decimal_long value (omega arith)) in
        record {
          small = rw number fits;
          text_is = rw (whole.text_is, number, decimal_more value (b - 48) more.0 digit (omega arith), byte) refl;
          length_is = omega (arith, length-append text (b ∷ []), whole.length_is);
        }

-- one more byte of the field
part_more :
    (r : Reader) (b : ℕ) (text : List ℕ) → own_byte r b ≡ true → Part r.field r.digits r.value text
    → Whole r.field (r.digits + 1) (value_after r b) (text ++ (b ∷ []))
part_more r b text is-own part = go (letter_field r.field) refl
  where
    go : (letter : Bool) → letter_field r.field ≡ letter → Whole r.field (r.digits + 1) (value_after r b) (text ++ (b ∷ []))
    go true letter =
        let fits = own_letter r b letter is-own in
        let reads = letter_reads r.field b fits.1 in
        let empty = part_empty part fits.0 in
        rw (letter_value_lem r b letter, empty.1, fits.0)
        record { small = rw letter reads.0; text_is = rw letter reads.1; length_is = refl }
    go false number =
        rw (number_value r b number)
        (number_more r.field r.digits r.value b text number part (own_number r b number is-own))

-- the fields of the open line that have ended
open_line : Field → Job → List ℕ
open_line T j = decimal_of j.c ++ ascii " "
open_line M j = decimal_of j.c ++ (ascii " " ++ (decimal_of j.t ++ ascii " "))
open_line K j =
    decimal_of j.c ++ (ascii " " ++ (decimal_of j.t ++ (ascii " " ++ (decimal_of j.m ++ ascii " "))))
open_line _ j = []

-- all that has ended, where the field is open
pub held_text : Field → Job → Sheet → List Job → List ℕ
held_text Order j sheet jobs = []
held_text Model j sheet jobs = order_letter sheet.setting.order ++ ascii " "
held_text Slots j sheet jobs =
    order_letter sheet.setting.order ++ (ascii " " ++ (model_letter sheet.setting.model ++ ascii " "))
held_text Spare j sheet jobs =
    order_letter sheet.setting.order
    ++ (ascii " " ++ (model_letter sheet.setting.model ++ (ascii " " ++ (decimal_of sheet.slots ++ ascii " "))))
held_text field j sheet jobs = first_line sheet.setting sheet.slots ++ (job_lines jobs ++ open_line field j)

-- the values that the reader keeps are small
pub record Kept (job : Job) (sheet : Sheet) : Type 0 where
  pub order : sheet.setting.order ≤ order_w
  pub model : sheet.setting.model ≤ original
  pub slots_small : sheet.slots ≤ number_most
  pub job_small : SmallJob job

abbrev pub SmallJobs : List Job → Type 0
SmallJobs jobs = (i : ℕ) → i < length jobs → SmallJob (job_at jobs i)

-- spare is off as long as the first line is open
abbrev in_first_line : Field → Bool
in_first_line Order = true
in_first_line Model = true
in_first_line Slots = true
in_first_line Spare = true
in_first_line _ = false

abbrev SpareOff : Field → Sheet → Type 0
SpareOff field sheet = (in_first_line field && sheet.setting.spare) ≡ false

pub record Holds (bytes : List ℕ) (r : Reader) : Type 0 where
  pub jobs : List Job
  pub part : List ℕ
  pub off : SpareOff r.field r.sheet
  pub kept : Kept r.job r.sheet
  pub jobs_small : SmallJobs jobs
  pub part_is : Part r.field r.digits r.value part
  pub text : bytes ≡ held_text r.field r.job r.sheet jobs ++ part

no_small_jobs : SmallJobs []
no_small_jobs i h = absurd (omega arith)

-- a field of which nothing is read
opened :
    {bytes : List ℕ} {job : Job} {sheet : Sheet} (jobs : List Job) (field : Field) → SpareOff field sheet → Kept job sheet → SmallJobs jobs
    → bytes ≡ held_text field job sheet jobs → Holds bytes (reader_at field 0 0 job sheet)
opened jobs field off kept small text =
    record {
      jobs = jobs;
      part = [];
      off = off;
      kept = kept;
      jobs_small = small;
      part_is = nothing refl refl refl;
      text = text ∙ sym (append-nil _);
    }

pub holds_start : Holds [] start_reader
unfolding held_text
holds_start = opened [] Order refl (omega arith) no_small_jobs refl

-- the field ends, and its value is kept
small_more : (jobs : List Job) (j : Job) → SmallJobs jobs → SmallJob j → SmallJobs (jobs ++ (j ∷ []))
small_more [] j all one zero h = one
small_more [] j all one (suc i) h = absurd (omega arith)
small_more (a ∷ jobs) j all one zero h = all 0 (omega arith)
small_more (a ∷ jobs) j all one (suc i) h = small_more jobs j (λ n l. all (suc n) (omega arith)) one i (omega arith)

lines_more : (jobs : List Job) (j : Job) → job_lines (jobs ++ (j ∷ [])) ≡ job_lines jobs ++ job_line j
unfolding job_lines
lines_more [] j = append-nil (job_line j)
lines_more (a ∷ jobs) j = ap (job_line a ++◌) (lines_more jobs j) ∙ sym (append_assoc (job_line a) (job_lines jobs) (job_line j))

stored_holds :
    (field : Field) (digits value b : ℕ) (job : Job) (sheet : Sheet) (jobs : List Job) → SpareOff field sheet → Kept job sheet → SmallJobs jobs
    → value ≤ field_most field → ends_field field b ≡ true
    → Holds (held_text field job sheet jobs ++ (field_text field value ++ (b ∷ []))) (stored_of (reader_at field digits value job sheet) b)
unfolding held_text open_line stored_of first_line job_line job_lines
stored_holds Order digits value b job sheet jobs off kept all small ends =
    opened jobs Model off (omega arith) all (rw (eqb-true b 32 ends) refl)
stored_holds Model digits value b job sheet jobs off kept all small ends =
    opened jobs Slots off (omega arith) all (simp (append_assoc, eqb-true b 32 ends))
stored_holds Slots digits value b job sheet jobs off kept all small ends = go (either (eqb b 32) (eqb b 10) ends)
  where
    go : (eqb b 32 ≡ true) ⊎ (eqb b 10 ≡ true) → Holds (held_text Slots job sheet jobs ++ (decimal_of value ++ (b ∷ []))) (stored_of (reader_at Slots digits value job sheet) b)
    go (inl is) = rw (eqb-true b 32 is) (opened [] Spare off (omega arith) no_small_jobs (simp append_assoc))
    go (inr is) = rw (eqb-true b 10 is) (opened [] C refl (omega arith) no_small_jobs (simp (append_assoc, append-nil, off)))
stored_holds Spare digits value b job sheet jobs off kept all small ends =
    opened [] C refl (omega arith) no_small_jobs (simp (append_assoc, append-nil, eqb-true b 10 ends))
stored_holds C digits value b job sheet jobs off kept all small ends =
    opened jobs T refl (omega arith) all (simp (append_assoc, append-nil, eqb-true b 32 ends))
stored_holds T digits value b job sheet jobs off kept all small ends =
    opened jobs M refl (omega arith) all (simp (append_assoc, eqb-true b 32 ends))
stored_holds M digits value b job sheet jobs off kept all small ends =
    opened jobs K refl (omega arith) all (simp (append_assoc, eqb-true b 32 ends))
stored_holds K digits value b job sheet jobs off kept all small ends =
    let whole = job_of job.c job.t job.m value in
    opened (jobs ++ (whole ∷ [])) C refl (omega arith) (small_more jobs whole all (omega arith))
    (simp (lines_more jobs whole, append_assoc, append-nil, eqb-true b 10 ends))

starts_c : (field : Field) → starts_job field ≡ true → field ≡ C
starts_c C e = refl
starts_c _ e = absurd (clash refl e)

-- each byte that fits keeps what is held
module _ {bytes : List ℕ} {r : Reader} (holds : Holds bytes r) where
  held_own : (b : ℕ) → own_byte r b ≡ true → Holds (bytes ++ (b ∷ [])) (advanced_of r b)
  held_own b is-own =
      rw (own_leaves r b is-own)
      record {
        jobs = holds.jobs;
        part = holds.part ++ (b ∷ []);
        off = holds.off;
        kept = holds.kept;
        jobs_small = holds.jobs_small;
        part_is = some (part_more r b holds.part is-own holds.part_is);
        text = ap (◌++ (b ∷ [])) holds.text ∙ append_assoc (held_text r.field r.job r.sheet holds.jobs) holds.part (b ∷ []);
      }

  held_end : (b : ℕ) → 0 < r.digits → ends_field r.field b ≡ true → Holds (bytes ++ (b ∷ [])) (advanced_of r b)
  held_end b more ends =
      let whole = part_whole holds.part_is (λ none zeros. omega arith) in
      rw (end_leaves r b more ends, holds.text, append_assoc, whole.text_is)
      (stored_holds r.field r.digits r.value b r.job r.sheet holds.jobs holds.off holds.kept holds.jobs_small whole.small ends)

  pub holds_more : (b : ℕ) → fits_of r b ≡ true → Holds (bytes ++ (b ∷ [])) (advanced_of r b)
  holds_more b fits = go (fitting r b fits)
    where
      go : Fitting r b → Holds (bytes ++ (b ∷ [])) (advanced_of r b)
      go (own is-own) = held_own b is-own
      go (end more ends) = held_end b more ends

  -- where a line has ended, the bytes are a sheet
  pub holds_sheet : between_lines r ≡ true → IsSheet bytes
  unfolding held_text open_line
  holds_sheet between =
      let tests = both (starts_job r.field) (eqb r.digits 0) between in
      let line = starts_c r.field tests.0 in
      let empty = (part_empty holds.part_is (eqb-true r.digits 0 tests.1)).1 in
      record {
        setting = r.sheet.setting;
        slots = r.sheet.slots;
        jobs = holds.jobs;
        is =
            record {
              order = holds.kept.order;
              model = holds.kept.model;
              slots_small = holds.kept.slots_small;
              jobs_small = holds.jobs_small;
              text = rw (line, empty) at holds.text ∙ simp append-nil;
            };
      }

  pub holds_sound : SoundReader r
  holds_sound = go holds.part_is
    where
      go : Part r.field r.digits r.value holds.part → SoundReader r
      go (nothing none zeros _) =
          record { digits_high = omega arith; value_high = rw (none, zeros) (omega arith) }
      go (some whole) =
          let long = field_long r.field r.value whole.small in
          let same = whole.length_is ∙ ap length whole.text_is in
          record { digits_high = rw same long.high; value_high = rw same long.value_high }
