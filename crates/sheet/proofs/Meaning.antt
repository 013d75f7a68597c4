-- The statements of specs/Meaning about a read and a blank sheet: first as laws of the definitions that the promises are made of.
use mathlib.Core.Path.{◌≡◌, refl, sym, ◌∙◌, ap, subst}
use mathlib.Core.Bool.{Bool, true, false, or-true}
use mathlib.Core.Logic.{◌↔◌, ◌⊎◌, inl, inr}
use mathlib.Core.List.{List, [], ◌∷◌}
use Prim.Native.Nat.{ℕ, suc, ◌+◌, ◌≤◌, ◌<◌}
use native.Mathlib.Numerals.{add-one}
use native.Mathlib.Decide.{dec_lt}
use native.Mathlib.Omega.{arith}
use lib.ListN.{length, take, get_or}
use borrow.Author.Tests.{eq-eqb, ne_eqb, lt-ltb, le-ltb}
use Rattle.job.specs.declared.record.Job.{Job}
use Rattle.job.specs.declared.list.JobList.{JobList}
use Rattle.std.specs.Prelude.{Result}
use Rattle.job.specs.declared.refusal.Refusal.{Refusal}
use Rattle.job.specs.Limit.{count_most}
use Rattle.job.specs.Told.{Told, row, passed}
use Rattle.job.specs.Check.{list_told}
use Rattle.job.specs.Filled.{empty_list}
use Rattle.job.specs.Sound.{Within, SoundList, FaultOf, t_fault, c_fault, k_fault, m_fault, LowestFault}
use Rattle.job.proofs.TestLaws.{refuted, clash}
use Rattle.job.proofs.Meaning.{ListView, no_jobs, many_jobs, sound_list, faulty_list, list_view, passes_exactly, row_one_exactly as list-one, row_two_exactly as list-two, job_rows_exactly as list-jobs}
use Rattle.place.specs.declared.setting.Setting.{Setting}
use Rattle.sheet.specs.declared.reading.Sheet.{Sheet}
use Rattle.sheet.specs.Form.{bytes_most, slots_most, SheetOf, IsSheet, Begins, form_list}
use Rattle.sheet.specs.Sheet.{blank_sheet, sheet_told}
use Rattle.sheet.specs.Reader.{place_upto, sheet_of}
use Rattle.sheet.specs.Answer.{read_told, read_sheet}
use Rattle.sheet.specs.Promise.{ReadPromise}
use Rattle.sheet.specs.Meaning.{StopsAt, Formed, Listed, ReadAnswer, passes, row_one, row_two, job_row, row_thirteen, row_sixteen, row_seventeen, Returned, AllZeros, BlankZeros, ReadTold, ReadsExactly}
use Rattle.sheet.proofs.PushedLaws.{pushed_all, all_kept, pushed_told}
use Rattle.sheet.proofs.UptoLaws.{fits_begins, begins_fits, last_sheet, form_fits, fits_sheet, sheet_fits, formed_fits, Stop, place_stop, place_is}
use Rattle.sheet.proofs.ReadLaws.{read_long, read_formed, read_formless, reads_ok, reads_err}
use Rattle.sheet.proofs.FormLaws.{values_determined}

-- the place
abbrev Stopping : List ℕ → ℕ → Type 0
Stopping bytes place =
    ((place < length bytes) × (Begins (take (place + 1) bytes) → ⊥)) ⊎ ((place ≡ length bytes) × (IsSheet bytes → ⊥))

module _ (bytes : List ℕ) where
  stop_stops :
      {place : ℕ} → Stop bytes (length bytes) place → form_fits bytes ≡ false → StopsAt bytes place
  stop_stops {place} stop refused =
      record { begins = fits_begins bytes place stop.high stop.fits; stops = go (dec_lt place (length bytes)) }
    where
      go : Dec (place < length bytes) → Stopping bytes place
      go (yes h) = inl (h, λ begins. clash (stop.stops h) (begins_fits bytes (suc place) h (rw add-one at begins)))
      go (no h) = inr (omega (arith, stop.high), λ is. clash refused (sheet_fits bytes is))

  module _ {place : ℕ} (at : StopsAt bytes place) where
    stops_stop : Stop bytes (length bytes) place
    stops_stop = go at.stops
      where
        go : Stopping bytes place → Stop bytes (length bytes) place
        go (inl short) =
            record {
              high = omega arith;
              fits = begins_fits bytes place (omega arith) at.begins;
              stops = λ h. refuted (λ fits. short.1 (rw add-one (fits_begins bytes (suc place) h fits)));
            }
        go (inr whole) =
            record {
              high = omega arith;
              fits = begins_fits bytes place (omega arith) at.begins;
              stops = λ h. absurd (omega arith);
            }

    stops_refused : form_fits bytes ≡ false
    stops_refused = refuted (go at.stops)
      where
        go : Stopping bytes place → form_fits bytes ≡ true → ⊥
        go (inl short) fits =
            clash (stops_stop.stops short.0) (formed_fits bytes fits (suc place) short.0)
        go (inr whole) fits = whole.1 (fits_sheet bytes fits)

-- the slot count and the list of a sheet of the form
abbrev WrongCount : ℕ → Type 0
WrongCount slots = (slots ≡ 0) ⊎ (slots_most < slots)

module _ (s : Sheet) where
  slots_refused : WrongCount s.slots → sheet_told s ≡ row 16 []
  unfolding sheet_told
  slots_refused (inl none) = rw (eq-eqb s.slots 0 none)
  slots_refused (inr many) = rw (lt-ltb slots_most s.slots many, or-true)

  slots_pass : Within s.slots slots_most → sheet_told s ≡ list_told s.list
  unfolding sheet_told
  slots_pass within =
      rw (ne_eqb s.slots 0 (omega (arith, within.low)), le-ltb slots_most s.slots within.high)

module _ (bytes : List ℕ) (short : length bytes ≤ bytes_most) (is : IsSheet bytes) where
  read_form : read_told bytes ≡ sheet_told (sheet_of is.setting is.slots (pushed_all (empty_list 0) is.jobs))
  read_form = read_formed bytes short (sheet_fits bytes is) ∙ ap sheet_told (last_sheet bytes is.is)

  read_slots : WrongCount is.slots → read_told bytes ≡ row 16 []
  read_slots wrong = read_form ∙ slots_refused _ wrong

  read_list : Within is.slots slots_most → read_told bytes ≡ list_told (form_list is.jobs)
  read_list within = read_form ∙ slots_pass _ within ∙ pushed_told is.jobs

-- the whole read, by its tests
module _ (bytes : List ℕ) where
  abbrev SlotsWrong : Type 0
  SlotsWrong = Formed bytes (λ (slots : ℕ) (jobs : List Job). WrongCount slots)

  abbrev ListedAs : Type 0
  ListedAs = Listed bytes (λ (l : JobList). read_told bytes ≡ list_told l)

  data ReadView : Type 0 where
    too_long : bytes_most < length bytes → read_told bytes ≡ row 17 [] → ReadView
    formless : (place : ℕ) → length bytes ≤ bytes_most → StopsAt bytes place → read_told bytes ≡ row 13 (place ∷ []) → ReadView
    slots_wrong : SlotsWrong → read_told bytes ≡ row 16 [] → ReadView
    listed : ListedAs → ReadView

  read_view : ReadView
  read_view = go (dec_lt bytes_most (length bytes)) (form_fits bytes) refl
    where
      by_slots : length bytes ≤ bytes_most → (is : IsSheet bytes) → Dec (0 < is.slots) → Dec (slots_most < is.slots) → ReadView
      by_slots short is (no none) _ =
          let wrong : WrongCount is.slots = inl (omega arith) in
          slots_wrong (record { short = short; sheet = is; fact = wrong }) (read_slots bytes short is wrong)
      by_slots short is (yes some) (yes many) =
          slots_wrong (record { short = short; sheet = is; fact = inr many }) (read_slots bytes short is (inr many))
      by_slots short is (yes some) (no few) =
          let within : Within is.slots slots_most = record { low = some; high = omega arith } in
          listed (record { short = short; sheet = is; fact = (within, read_list bytes short is within) })

      go : Dec (bytes_most < length bytes) → (fits : Bool) → form_fits bytes ≡ fits → ReadView
      go (yes long) fits e = too_long long (read_long bytes long)
      go (no h) false e =
          let short : length bytes ≤ bytes_most = omega arith in
          formless (place_upto bytes (length bytes)) short (stop_stops bytes (place_stop bytes (length bytes)) e) (read_formless bytes short e)
      go (no h) true e =
          let is = fits_sheet bytes e in by_slots (omega arith) is (dec_lt 0 is.slots) (dec_lt slots_most is.slots)

-- rows 3 to 6, and all answers to a list
fault_row : {j : Job} {r : ℕ} → FaultOf j r → (3 ≤ r) × (r ≤ 6)
fault_row (t_fault _) = (omega arith, omega arith)
fault_row (c_fault _ _) = (omega arith, omega arith)
fault_row (k_fault _ _ _) = (omega arith, omega arith)
fault_row (m_fault _ _ _ _) = (omega arith, omega arith)

abbrev ListAnswer : Told → Type 0
ListAnswer t = (t.number ≤ 6) × ReadAnswer t

list_answer : (l : JobList) → ListAnswer (list_told l)
list_answer l = go (list_view l)
  where
    go : ListView l → ListAnswer (list_told l)
    go (no_jobs none) = rw ((list-one l).1 none) (omega arith, row_one)
    go (many_jobs many) = rw ((list-two l).1 many) (omega arith, row_two)
    go (sound_list sound) = rw ((passes_exactly l).1 sound) (omega arith, passes)
    go (faulty_list r i lowest) =
        let rows = fault_row lowest.fault in rw ((list-jobs l r i).1 lowest) (rows.1, job_row r i rows.0 rows.1)

module _ (bytes : List ℕ) where
  listed_answer : ListedAs bytes → ListAnswer (read_told bytes)
  listed_answer f = rw f.fact.1 (list_answer (form_list f.sheet.jobs))

  number_same : {t u : Told} → read_told bytes ≡ t → read_told bytes ≡ u → t.number ≡ u.number
  number_same e f = ap (λ (x : Told). x.number) (sym e ∙ f)

-- 17, 13, 16
row_seventeen_exactly : (bytes : List ℕ) → (read_told bytes ≡ row 17 []) ↔ (bytes_most < length bytes)
row_seventeen_exactly bytes = (go (read_view bytes), read_long bytes)
  where
    go : ReadView bytes → read_told bytes ≡ row 17 [] → bytes_most < length bytes
    go (too_long long _) e = long
    go (formless _ _ _ told) e = absurd (omega (arith, number_same bytes told e))
    go (slots_wrong _ told) e = absurd (omega (arith, number_same bytes told e))
    go (listed f) e = absurd (omega (arith, rw e at (listed_answer bytes f).0))

row_thirteen_exactly :
    (bytes : List ℕ) (place : ℕ) → (read_told bytes ≡ row 13 (place ∷ [])) ↔ ((length bytes ≤ bytes_most) × StopsAt bytes place)
row_thirteen_exactly bytes place = (go (read_view bytes), back)
  where
    go : ReadView bytes → read_told bytes ≡ row 13 (place ∷ []) → (length bytes ≤ bytes_most) × StopsAt bytes place
    go (too_long _ told) e = absurd (omega (arith, number_same bytes told e))
    go (formless at short stops told) e =
        (short, subst (StopsAt bytes) (ap (λ (t : Told). get_or t.values 0 0) (sym told ∙ e)) stops)
    go (slots_wrong _ told) e = absurd (omega (arith, number_same bytes told e))
    go (listed f) e = absurd (omega (arith, rw e at (listed_answer bytes f).0))

    back : (length bytes ≤ bytes_most) × StopsAt bytes place → read_told bytes ≡ row 13 (place ∷ [])
    back h =
        read_formless bytes h.0 (stops_refused bytes h.1)
        ∙ ap (λ (p : ℕ). row 13 (p ∷ [])) (place_is bytes (stops_stop bytes h.1))

row_sixteen_exactly : (bytes : List ℕ) → (read_told bytes ≡ row 16 []) ↔ SlotsWrong bytes
row_sixteen_exactly bytes = (go (read_view bytes), λ f. read_slots bytes f.short f.sheet f.fact)
  where
    go : ReadView bytes → read_told bytes ≡ row 16 [] → SlotsWrong bytes
    go (too_long _ told) e = absurd (omega (arith, number_same bytes told e))
    go (formless _ _ _ told) e = absurd (omega (arith, number_same bytes told e))
    go (slots_wrong f _) e = f
    go (listed f) e = absurd (omega (arith, rw e at (listed_answer bytes f).0))

-- 1 to 6, and none: what the check of the form's list answers
list_exactly :
    (bytes : List ℕ) (t : Told) (Fact : JobList → Type 0) → t.number ≤ 6 → ((l : JobList) → (list_told l ≡ t) ↔ Fact l)
    → (read_told bytes ≡ t) ↔ Listed bytes Fact
list_exactly bytes t Fact low exactly = (go (read_view bytes), back)
  where
    go : ReadView bytes → read_told bytes ≡ t → Listed bytes Fact
    go (too_long _ told) e = absurd (omega (arith, number_same bytes told e))
    go (formless _ _ _ told) e = absurd (omega (arith, number_same bytes told e))
    go (slots_wrong _ told) e = absurd (omega (arith, number_same bytes told e))
    go (listed f) e =
        record {
          short = f.short;
          sheet = f.sheet;
          fact = (f.fact.0, (exactly (form_list f.sheet.jobs)).0 (sym f.fact.1 ∙ e));
        }

    back : Listed bytes Fact → read_told bytes ≡ t
    back f =
        read_list bytes f.short f.sheet f.fact.0 ∙ (exactly (form_list f.sheet.jobs)).1 f.fact.1

row_one_exactly : (bytes : List ℕ) → (read_told bytes ≡ row 1 []) ↔ Listed bytes (λ (l : JobList). l.count ≡ 0)
row_one_exactly bytes = list_exactly bytes (row 1 []) (λ (l : JobList). l.count ≡ 0) (omega arith) list-one

row_two_exactly : (bytes : List ℕ) → (read_told bytes ≡ row 2 []) ↔ Listed bytes (λ (l : JobList). count_most < l.count)
row_two_exactly bytes = list_exactly bytes (row 2 []) (λ (l : JobList). count_most < l.count) (omega arith) list-two

job_rows_exactly :
    (bytes : List ℕ) (n i : ℕ) → n ≤ 6 → (read_told bytes ≡ row n (i ∷ [])) ↔ Listed bytes (λ (l : JobList). LowestFault l n i)
job_rows_exactly bytes n i low =
    list_exactly bytes (row n (i ∷ [])) (λ (l : JobList). LowestFault l n i) low (λ l. list-jobs l n i)

read_passes_exactly : (bytes : List ℕ) → (read_told bytes ≡ passed) ↔ Listed bytes SoundList
read_passes_exactly bytes = list_exactly bytes passed SoundList (omega arith) passes_exactly

no_other_row : (bytes : List ℕ) → ReadAnswer (read_told bytes)
no_other_row bytes = go (read_view bytes)
  where
    go : ReadView bytes → ReadAnswer (read_told bytes)
    go (too_long _ told) = rw told row_seventeen
    go (formless place _ _ told) = rw told (row_thirteen place)
    go (slots_wrong _ told) = rw told row_sixteen
    go (listed f) = (listed_answer bytes f).1

-- the sheet beside the answer
values_read :
    (bytes : List ℕ) (s : Setting) (slots : ℕ) (jobs : List Job) → SheetOf bytes s slots jobs → read_told bytes ≡ passed
    → Returned (read_sheet bytes) s slots jobs
values_read bytes s slots jobs is e =
    let f = (read_passes_exactly bytes).0 e in
    let same = (values_determined bytes s f.sheet.setting slots f.sheet.slots jobs f.sheet.jobs is f.sheet.is).2 in
    let few : length jobs ≤ count_most = rw same f.fact.1.count.high in
    let kept = all_kept jobs few in
    subst (λ (sheet : Sheet). Returned sheet s slots jobs) (sym (last_sheet bytes is))
    (record {
      setting_is = refl;
      slots_is = refl;
      count_is = ap (λ (l : JobList). l.count) kept;
      jobs_are = ap (λ (l : JobList). l.jobs) kept;
    })

blank_is_zeros : AllZeros blank_sheet
blank_is_zeros = record { order = refl; model = refl; spare = refl; slots = refl; count = refl; jobs = refl }

-- the statements, of whatever result the promises allow
pub blank_zeros : BlankZeros
blank_zeros r promise = subst AllZeros (sym promise) blank_is_zeros

read_told_lem : (bytes : List ℕ) (r : Result Sheet Refusal) → ReadPromise bytes r → ReadTold bytes (read_told bytes) r
read_told_lem bytes r promise =
    record {
      seventeen = row_seventeen_exactly bytes;
      thirteen = row_thirteen_exactly bytes;
      sixteen = row_sixteen_exactly bytes;
      one = row_one_exactly bytes;
      two = row_two_exactly bytes;
      of_job = job_rows_exactly bytes;
      passing = read_passes_exactly bytes;
      no_other = no_other_row bytes;
      values = λ s slots jobs is e. (read_sheet bytes, (reads_ok bytes r promise e, values_read bytes s slots jobs is e));
      refused = reads_err bytes r promise;
    }

pub reads_exactly : ReadsExactly
reads_exactly bytes r promise = rw promise.0 (read_told_lem bytes r promise)
