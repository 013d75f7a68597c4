-- The check of a job and of a list by what it means; from these laws, the statements of specs/Meaning.
use mathlib.Core.Path.{◌≡◌, refl, sym, ◌∙◌, ap, subst}
use mathlib.Core.Bool.{Bool, true, false}
use mathlib.Core.Logic.{◌↔◌, ◌⊎◌, inl, inr}
use mathlib.Core.List.{List, [], ◌∷◌}
use Rattle.std.specs.Prelude.{Ok, Err}
use Prim.Native.Nat.{ℕ, zero, suc, ◌+◌, ◌≤◌, ◌<◌}
use native.Mathlib.Numerals.{add-one}
use native.Mathlib.Omega.{arith}
use lib.Dec.{eqb, ltb}
use lib.ListN.{get_or, get_or-replicate}
use borrow.Author.Count.{below_more}
use borrow.Author.Tests.{eqb-true, ltb-true, eqb-false, ltb-false, eq-eqb, ne_eqb, lt-ltb}
use Rattle.job.specs.declared.record.Job.{Job}
use Rattle.job.specs.declared.list.JobList.{JobList}
use Rattle.job.specs.Limit.{count_most, t_most, k_most}
use Rattle.job.specs.Told.{Told, row, passed}
use Rattle.job.specs.Check.{no_job, allowed, job_at, job_told, jobs_told, list_told}
use Rattle.job.specs.Sound.{SoundJob, SoundBelow, SoundList, FaultOf, t_fault, c_fault, k_fault, m_fault, LowestFault}
use Rattle.job.specs.Meaning.{RefusalNumbered, AnswerNumbered, CheckedNumbered, Zeros, NoneZeros, NonePut, EmptyNonePut, JobRows, JobChecks, ListRows, ListChecks}
use Rattle.job.proofs.ToldLaws.{apart, valued}
use Rattle.job.proofs.TestLaws.{clash, allowed_within, within_allowed, not_allowed, not_within}
use Rattle.job.proofs.CheckLaws.{no_job_told, one_more, stays, by_count, by_jobs}

-- the numbers
pub refusal_numbered : RefusalNumbered
refusal_numbered refusal r e = e

pub answer_numbered : AnswerNumbered
answer_numbered A values (Ok x) r e = e
answer_numbered A values (Err refusal) r e = e

pub checked_numbered : CheckedNumbered
checked_numbered checked r e = e

-- no job
no_job_zeros : Zeros no_job
no_job_zeros = record { c = refl; t = refl; m = refl; k = refl }

pub none_zeros : NoneZeros
none_zeros r e = subst Zeros (sym e) no_job_zeros

pub empty_none_put : EmptyNonePut
empty_none_put n r e =
    subst (NonePut n) (sym e)
    (record {
      count = refl;
      long = refl;
      zeros = λ i past less. subst Zeros (sym (get_or-replicate count_most i no_job past less)) no_job_zeros;
    })

-- one job
sound_passes : (i : ℕ) (j : Job) → SoundJob j → job_told i j ≡ passed
unfolding job_told
sound_passes i j s =
    simp
    (within_allowed j.t t_most s.t, within_allowed j.c j.t s.c, within_allowed j.k k_most s.k, within_allowed j.m j.k s.m)

fault_names : (i : ℕ) (j : Job) (n : ℕ) → FaultOf j n → job_told i j ≡ row n (i ∷ [])
unfolding job_told
fault_names i j n (t_fault t) = simp (not_within j.t t_most t)
fault_names i j n (c_fault t c) = simp (within_allowed j.t t_most t, not_within j.c j.t c)
fault_names i j n (k_fault t c k) =
    simp (within_allowed j.t t_most t, within_allowed j.c j.t c, not_within j.k k_most k)
fault_names i j n (m_fault t c k m) =
    simp
    (within_allowed j.t t_most t, within_allowed j.c j.t c, within_allowed j.k k_most k, not_within j.m j.k m)

pub fault_refuses : (j : Job) (n : ℕ) → FaultOf j n → eqb n 0 ≡ false
fault_refuses j n (t_fault t) = refl
fault_refuses j n (c_fault t c) = refl
fault_refuses j n (k_fault t c k) = refl
fault_refuses j n (m_fault t c k m) = refl

data JobView (j : Job) : Type 0 where
  sound_job : SoundJob j → JobView j
  faulty_job : (n : ℕ) → FaultOf j n → JobView j

job_view : (j : Job) → JobView j
job_view j = go (allowed j.t t_most) (allowed j.c j.t) (allowed j.k k_most) (allowed j.m j.k) refl refl refl refl
  where
    go :
        (t c k m : Bool) → allowed j.t t_most ≡ t → allowed j.c j.t ≡ c → allowed j.k k_most ≡ k
        → allowed j.m j.k ≡ m → JobView j
    go false c k m et ec ek em = faulty_job 3 (t_fault (not_allowed j.t t_most et))
    go true false k m et ec ek em =
        faulty_job 4 (c_fault (allowed_within j.t t_most et) (not_allowed j.c j.t ec))
    go true true false m et ec ek em =
        faulty_job 5
        (k_fault (allowed_within j.t t_most et) (allowed_within j.c j.t ec) (not_allowed j.k k_most ek))
    go true true true false et ec ek em =
        faulty_job 6
        (m_fault (allowed_within j.t t_most et) (allowed_within j.c j.t ec) (allowed_within j.k k_most ek) (not_allowed j.m j.k em))
    go true true true true et ec ek em =
        sound_job
        (record {
          t = allowed_within j.t t_most et;
          c = allowed_within j.c j.t ec;
          k = allowed_within j.k k_most ek;
          m = allowed_within j.m j.k em;
        })

pub job_passes_exactly : (i : ℕ) (j : Job) → (eqb (job_told i j).number 0 ≡ true) ↔ SoundJob j
job_passes_exactly i j = (go (job_view j), λ s. ap passes (sound_passes i j s))
  where
    passes : Told → Bool
    passes t = eqb t.number 0

    go : JobView j → passes (job_told i j) ≡ true → SoundJob j
    go (sound_job s) e = s
    go (faulty_job n fault) e = absurd (clash (ap passes (fault_names i j n fault) ∙ fault_refuses j n fault) e)

pub one_job_passes_exactly : (i : ℕ) (j : Job) → (job_told i j ≡ passed) ↔ SoundJob j
one_job_passes_exactly i j =
    (λ e. (job_passes_exactly i j).0 (ap (λ (t : Told). eqb t.number 0) e), sound_passes i j)

pub one_job_row_exactly : (i n : ℕ) (j : Job) → (job_told i j ≡ row n (i ∷ [])) ↔ FaultOf j n
one_job_row_exactly i n j = (go (job_view j), fault_names i j n)
  where
    go : JobView j → job_told i j ≡ row n (i ∷ []) → FaultOf j n
    go (sound_job s) e = absurd (valued (sym e ∙ sound_passes i j s))
    go (faulty_job n' fault) e = subst (FaultOf j) (ap (λ (t : Told). t.number) (sym (fault_names i j n' fault) ∙ e)) fault

pub job_checks : JobChecks
job_checks at j r e = (
  subst (JobRows at j) (sym e.0)
      (record { passes = one_job_passes_exactly at j; job_row = λ n. one_job_row_exactly at n j }),
  e.1,
)

-- the first n jobs
jobs_sound : (jobs : List Job) (n : ℕ) → SoundBelow jobs n → jobs_told jobs n ≡ passed
jobs_sound jobs zero s = no_job_told jobs
jobs_sound jobs (suc n) s =
    let before : jobs_told jobs n ≡ passed = jobs_sound jobs n (λ i h. s i (omega arith)) in
    rw (← add-one n) (one_more jobs n before ∙ sound_passes n (job_at jobs n) (s n (omega arith)))

jobs_fault :
    (jobs : List Job) (i n r : ℕ) → i < n → SoundBelow jobs i → FaultOf (job_at jobs i) r → jobs_told jobs n ≡ row r (i ∷ [])
jobs_fault jobs i n r h below fault =
    let here : jobs_told jobs (i + 1) ≡ row r (i ∷ []) =
    one_more jobs i (jobs_sound jobs i below) ∙ fault_names i (job_at jobs i) r fault in
    stays jobs (i + 1) n (omega arith)
    (ap (λ (t : Told). eqb t.number 0) here ∙ fault_refuses (job_at jobs i) r fault)
    ∙ here

data JobsView (jobs : List Job) (n : ℕ) : Type 0 where
  sound_jobs : SoundBelow jobs n → JobsView jobs n
  faulty_jobs : (i r : ℕ) → i < n → SoundBelow jobs i → FaultOf (job_at jobs i) r → JobsView jobs n

jobs_view : (jobs : List Job) (n : ℕ) → JobsView jobs n
jobs_view jobs zero = sound_jobs (λ i h. absurd (omega arith))
jobs_view jobs (suc n) = go (jobs_view jobs n) (job_view (job_at jobs n))
  where
    go : JobsView jobs n → JobView (job_at jobs n) → JobsView jobs (suc n)
    go (faulty_jobs i r h below fault) here = faulty_jobs i r (omega arith) below fault
    go (sound_jobs s) (faulty_job r fault) = faulty_jobs n r (omega arith) s fault
    go (sound_jobs s) (sound_job j) =
        sound_jobs (rw (← add-one n) (below_more (λ (i : ℕ). SoundJob (job_at jobs i)) n s j))

-- the list
positive : {x : ℕ} → eqb x 0 ≡ false → 1 ≤ x
positive {x} e = let h = eqb-false x 0 e in omega arith

list_none : (l : JobList) → l.count ≡ 0 → list_told l ≡ row 1 []
list_none l e = by_count l true _ (eq-eqb l.count 0 e) refl

list_many : (l : JobList) → count_most < l.count → list_told l ≡ row 2 []
list_many l h = by_count l false true (ne_eqb l.count 0 (omega arith)) (lt-ltb count_most l.count h)

list_sound : (l : JobList) → SoundList l → list_told l ≡ passed
list_sound l s = by_jobs l s.count.low s.count.high ∙ jobs_sound l.jobs l.count s.jobs

list_fault : (l : JobList) (n i : ℕ) → LowestFault l n i → list_told l ≡ row n (i ∷ [])
list_fault l n i f =
    by_jobs l f.count.low f.count.high ∙ jobs_fault l.jobs i l.count n f.listed f.below f.fault

pub data ListView (l : JobList) : Type 0 where
  no_jobs : l.count ≡ 0 → ListView l
  many_jobs : count_most < l.count → ListView l
  sound_list : SoundList l → ListView l
  faulty_list : (n i : ℕ) → LowestFault l n i → ListView l

pub list_view : (l : JobList) → ListView l
list_view l = go (eqb l.count 0) (ltb count_most l.count) refl refl (jobs_view l.jobs l.count)
  where
    go :
        (none many : Bool) → eqb l.count 0 ≡ none → ltb count_most l.count ≡ many → JobsView l.jobs l.count → ListView l
    go true many e f v = no_jobs (eqb-true l.count 0 e)
    go false true e f v = many_jobs (ltb-true count_most l.count f)
    go false false e f (sound_jobs s) =
        sound_list (record { count = record { low = positive e; high = ltb-false count_most l.count f }; jobs = s })
    go false false e f (faulty_jobs i r h below fault) =
        faulty_list r i
        (record { count = record { low = positive e; high = ltb-false count_most l.count f }; listed = h; below = below; fault = fault })

pub passes_exactly : (l : JobList) → (list_told l ≡ passed) ↔ SoundList l
passes_exactly l = (go (list_view l), list_sound l)
  where
    go : ListView l → list_told l ≡ passed → SoundList l
    go (no_jobs h) e = absurd (apart (sym (list_none l h) ∙ e) refl)
    go (many_jobs h) e = absurd (apart (sym (list_many l h) ∙ e) refl)
    go (sound_list s) e = s
    go (faulty_list n i f) e =
        absurd (apart (sym (list_fault l n i f) ∙ e) (fault_refuses (job_at l.jobs i) n f.fault))

pub row_one_exactly : (l : JobList) → (list_told l ≡ row 1 []) ↔ (l.count ≡ 0)
row_one_exactly l = (go (list_view l), list_none l)
  where
    go : ListView l → list_told l ≡ row 1 [] → l.count ≡ 0
    go (no_jobs h) e = h
    go (many_jobs h) e = absurd (apart (sym (list_many l h) ∙ e) refl)
    go (sound_list s) e = absurd (apart (sym (list_sound l s) ∙ e) refl)
    go (faulty_list n i f) e = absurd (valued (sym (list_fault l n i f) ∙ e))

pub row_two_exactly : (l : JobList) → (list_told l ≡ row 2 []) ↔ (count_most < l.count)
row_two_exactly l = (go (list_view l), list_many l)
  where
    go : ListView l → list_told l ≡ row 2 [] → count_most < l.count
    go (no_jobs h) e = absurd (apart (sym (list_none l h) ∙ e) refl)
    go (many_jobs h) e = h
    go (sound_list s) e = absurd (apart (sym (list_sound l s) ∙ e) refl)
    go (faulty_list n i f) e = absurd (valued (sym (list_fault l n i f) ∙ e))

pub job_rows_exactly : (l : JobList) (n i : ℕ) → (list_told l ≡ row n (i ∷ [])) ↔ LowestFault l n i
job_rows_exactly l n i = (go (list_view l), list_fault l n i)
  where
    go : ListView l → list_told l ≡ row n (i ∷ []) → LowestFault l n i
    go (no_jobs h) e = absurd (valued (sym e ∙ list_none l h))
    go (many_jobs h) e = absurd (valued (sym e ∙ list_many l h))
    go (sound_list s) e = absurd (valued (sym e ∙ list_sound l s))
    go (faulty_list n' i' f) e =
        let same : row n' (i' ∷ []) ≡ row n (i ∷ []) = sym (list_fault l n' i' f) ∙ e in
        let i-same : i' ≡ i = ap (λ (t : Told). get_or t.values 0 0) same in
        subst (λ (x : ℕ). LowestFault l n x) i-same
        (subst (λ (x : ℕ). LowestFault l x i') (ap (λ (t : Told). t.number) same) f)

-- a list passes, or it has the number of its row
pub sound_or : (l : JobList) → SoundList l ⊎ (eqb (list_told l).number 0 ≡ false)
sound_or l = go (list_view l)
  where
    refuses : {t : Told} → list_told l ≡ t → eqb t.number 0 ≡ false → SoundList l ⊎ (eqb (list_told l).number 0 ≡ false)
    refuses e number = inr (ap (λ (t : Told). eqb t.number 0) e ∙ number)

    go : ListView l → SoundList l ⊎ (eqb (list_told l).number 0 ≡ false)
    go (no_jobs h) = refuses (list_none l h) refl
    go (many_jobs h) = refuses (list_many l h) refl
    go (sound_list s) = inl s
    go (faulty_list n i f) = refuses (list_fault l n i f) (fault_refuses (job_at l.jobs i) n f.fault)

-- no row without a value is given but 1 and 2
pub no_other_row : (l : JobList) {n : ℕ} → eqb 0 n ≡ false → eqb 1 n ≡ false → eqb 2 n ≡ false → list_told l ≡ row n [] → ⊥
no_other_row l zero-not one-not two-not e = go (list_view l)
  where
    go : ListView l → ⊥
    go (no_jobs h) = apart (sym (list_none l h) ∙ e) one-not
    go (many_jobs h) = apart (sym (list_many l h) ∙ e) two-not
    go (sound_list h) = apart (sym (list_sound l h) ∙ e) zero-not
    go (faulty_list n i h) = valued (sym (list_fault l n i h) ∙ e)

pub list_rows : (l : JobList) → ListRows l (list_told l)
list_rows l = record {
  passes = passes_exactly l;
  row_one = row_one_exactly l;
  row_two = row_two_exactly l;
  job_rows = job_rows_exactly l;
}

pub list_checks : ListChecks
list_checks l r e = (subst (ListRows l) (sym e.0) (list_rows l), e.1)
