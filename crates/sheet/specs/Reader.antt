-- Reading byte by byte: which byte may come next, and what it leaves.
use Rattle.std.specs.Prelude.{ℕ, zero, suc, ◌+◌, ◌-◌, ◌*◌, ◌^◌, ◌≤◌, ◌<◌, min, Bool, true, false, ◌&&◌, ◌||◌, cond, List, leb, ltb, eqb, get_or, set}
use Rattle.job.specs.declared.record.Job.{Job}
use Rattle.job.specs.declared.list.JobList.{JobList}
use Rattle.job.specs.Limit.{count_most}
use Rattle.job.specs.Check.{no_job}
use Rattle.place.specs.declared.setting.Setting.{Setting}
use Rattle.place.specs.Setting.{with_order, with_model, with_spare}
use Rattle.sheet.specs.declared.reading.Sheet.{Sheet}
use Rattle.sheet.specs.declared.reader.Field.{Field}
use Rattle.sheet.specs.declared.reader.Field.TheVariants.{Order, Model, Slots, Spare, C, T, M, K}
use Rattle.sheet.specs.declared.reader.Reader.{Reader}
use Rattle.sheet.specs.Sheet.{blank_sheet}

abbrev pub byte_at : List ℕ → ℕ → ℕ
byte_at bytes i = get_or bytes i 0

-- before the first byte
abbrev pub start_reader : Reader
start_reader = record { field = Order; digits = 0; value = 0; job = no_job; sheet = blank_sheet }

-- what holds of every reader along a sheet
pub record SoundReader (r : Reader) : Type 0 where
  pub digits_high : r.digits ≤ 5
  pub value_high : r.value < 10 ^ r.digits

-- the fields of one letter: the order, the model, and S
abbrev pub letter_field : Field → Bool
letter_field Order = true
letter_field Model = true
letter_field Spare = true
letter_field _ = false

-- 86 V, 87 W; 82 R, 79 O; 83 S
abbrev pub letter_fits : Field → ℕ → Bool
letter_fits Order b = eqb b 86 || eqb b 87
letter_fits Model b = eqb b 82 || eqb b 79
letter_fits Spare b = eqb b 83
letter_fits _ b = false

-- '0 or up to 5 digits with no leading zero'
abbrev pub digit_fits : ℕ → ℕ → ℕ → Bool
digit_fits digits value b = leb 48 b && leb b 57 && (eqb digits 0 || (ltb 0 value && ltb digits 5))

-- a byte of the field itself
unfoldable pub own_byte : Reader → ℕ → Bool
own_byte r b =
    cond (letter_field r.field) (eqb r.digits 0 && letter_fits r.field b) (digit_fits r.digits r.value b)

-- a space, or the line feed after the slot count, k and S
abbrev pub end_byte : Field → ℕ
end_byte Slots = 10
end_byte K = 10
end_byte Spare = 10
end_byte _ = 32

-- the space that ends a slot count: 'an optional S after the slot count' comes next
abbrev pub spare_next : Field → ℕ → Bool
spare_next Slots b = eqb b 32
spare_next _ b = false

abbrev pub ends_field : Field → ℕ → Bool
ends_field field b = spare_next field b || eqb b (end_byte field)

unfoldable pub fits_of : Reader → ℕ → Bool
fits_of r b = own_byte r b || (ltb 0 r.digits && ends_field r.field b)

-- a letter is 0 or 1, as the setting has it, and S is 0; a digit is one more of the number
unfoldable pub value_after : Reader → ℕ → ℕ
value_after r b = cond (letter_field r.field) (cond (eqb b 87 || eqb b 79) 1 0) (r.value * 10 + (b - 48))

-- the most that a count can say
abbrev pub counted_most : ℕ
counted_most = 2 ^ 64 - 1

-- one job more; those past the sixteenth are counted and not kept
unfoldable pub pushed_of : JobList → Job → JobList
pushed_of l j =
    record { jobs = cond (ltb l.count count_most) (set l.jobs l.count j) l.jobs; count = min (l.count + 1) counted_most }

-- a field of which nothing is read
abbrev pub with_sheet : Field → Job → Sheet → Reader
with_sheet field job sheet = record { field = field; digits = 0; value = 0; job = job; sheet = sheet }

abbrev pub sheet_of : Setting → ℕ → JobList → Sheet
sheet_of s slots l = record { setting = s; slots = slots; list = l }

abbrev pub job_of : ℕ → ℕ → ℕ → ℕ → Job
job_of c t m k = record { c = c; t = t; m = m; k = k }

-- the next field: a job's C after a line, and S where it is announced
abbrev pub next_field : Field → Field
next_field Order = Model
next_field Model = Slots
next_field C = T
next_field T = M
next_field M = K
next_field _ = C

abbrev pub field_after : Field → ℕ → Field
field_after field b = cond (spare_next field b) Spare (next_field field)

-- the open job and the sheet with the value of a field that has ended; with its k a job is whole, and one more of the list
abbrev pub job_with : Field → ℕ → Job → Job
job_with C x j = job_of x j.t j.m j.k
job_with T x j = job_of j.c x j.m j.k
job_with M x j = job_of j.c j.t x j.k
job_with K x j = job_of j.c j.t j.m x
job_with _ x j = j

abbrev pub sheet_with : Field → ℕ → Job → Sheet → Sheet
sheet_with Order x j s = sheet_of (with_order s.setting x) s.slots s.list
sheet_with Model x j s = sheet_of (with_model s.setting x) s.slots s.list
sheet_with Slots x j s = sheet_of s.setting x s.list
sheet_with Spare x j s = sheet_of (with_spare s.setting true) s.slots s.list
sheet_with K x j s = sheet_of s.setting s.slots (pushed_of s.list j)
sheet_with _ x j s = s

-- a field that the byte ends: its value in its place, and the next field
unfoldable pub stored_of : Reader → ℕ → Reader
stored_of r b =
    let j = job_with r.field r.value r.job in
    with_sheet (field_after r.field b) j (sheet_with r.field r.value j r.sheet)

unfoldable pub advanced_of : Reader → ℕ → Reader
advanced_of r b =
    cond (own_byte r b)
    (record { field = r.field; digits = r.digits + 1; value = value_after r b; job = r.job; sheet = r.sheet })
    (stored_of r b)

-- a sheet may end where a line has ended
abbrev pub starts_job : Field → Bool
starts_job C = true
starts_job _ = false

abbrev pub between_lines : Reader → Bool
between_lines r = starts_job r.field && eqb r.digits 0

-- the reader after n bytes, and whether each of them fitted
unfoldable pub reader_upto : List ℕ → ℕ → Reader
reader_upto bytes zero = start_reader
reader_upto bytes (suc n) = advanced_of (reader_upto bytes n) (byte_at bytes n)

unfoldable pub fits_upto : List ℕ → ℕ → Bool
fits_upto bytes zero = true
fits_upto bytes (suc n) = fits_upto bytes n && fits_of (reader_upto bytes n) (byte_at bytes n)

-- how many of the first n bytes fitted before one did not
unfoldable pub place_upto : List ℕ → ℕ → ℕ
place_upto bytes zero = 0
place_upto bytes (suc n) = cond (fits_upto bytes (suc n)) (suc n) (place_upto bytes n)
