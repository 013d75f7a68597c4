-- The check of a list: rows 1, 2, then 3 to 6.
use Rattle.std.specs.Prelude.{ℕ, zero, suc, Bool, ◌&&◌, cond, List, [], ◌∷◌, leb, ltb, eqb, get_or}
use Rattle.job.specs.declared.record.Job.{Job}
use Rattle.job.specs.declared.list.JobList.{JobList}
use Rattle.job.specs.Limit.{count_most, t_most, k_most}
use Rattle.job.specs.Told.{Told, row, passed}

-- what stands past the end of an array of jobs
abbrev pub no_job : Job
no_job = record { c = 0; t = 0; m = 0; k = 0 }

abbrev pub job_at : List Job → ℕ → Job
job_at jobs i = get_or jobs i no_job

-- 'x: 1 to most', as every number of a job is limited
abbrev pub allowed : ℕ → ℕ → Bool
allowed x most = leb 1 x && leb x most

-- 'T, C, k, m of a job not allowed', 'T before C before k before m'
unfoldable pub job_told : ℕ → Job → Told
job_told i j =
    cond (allowed j.t t_most)
    (cond (allowed j.c j.t)
    (cond (allowed j.k k_most)
    (cond (allowed j.m j.k) passed (row 6 (i ∷ [])))
    (row 5 (i ∷ [])))
    (row 4 (i ∷ [])))
    (row 3 (i ∷ []))

-- the first answer, unless it passes: then the second
unfoldable pub otherwise : Told → Told → Told
otherwise a b = cond (eqb a.number 0) b a

-- 'Rows 3 to 6 name the lowest job at fault', among the first n
unfoldable pub jobs_told : List Job → ℕ → Told
jobs_told jobs zero = passed
jobs_told jobs (suc n) = otherwise (jobs_told jobs n) (job_told n (job_at jobs n))

-- '1: no jobs', '2: more than 16 jobs', then the jobs themselves
unfoldable pub list_told : JobList → Told
list_told l =
    cond (eqb l.count 0) (row 1 [])
    (cond (ltb count_most l.count) (row 2 [])
    (jobs_told l.jobs l.count))
