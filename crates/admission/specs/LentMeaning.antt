-- What a reader may conclude from the promises of admission of a lent list, of whatever result they allow. Each statement is proved in
-- proofs/, under its name.
use Rattle.std.specs.Prelude.{◌≡◌, List, ℕ, ◌<◌, min, length, get_or, take}
use Rattle.job.specs.declared.record.Job.{Job}
use Rattle.job.specs.Limit.{count_most}
use Rattle.job.specs.Check.{no_job}
use Rattle.admission.specs.Answer.{Admission, told_admission}
use Rattle.admission.specs.Promise.{VerdictPromise, AdmitPromise, AdmitFirstPromise}
use Rattle.admission.specs.Meaning.{VerdictRows}

-- what a verdict says of a list by value, said of a list of any length: its count is the length
abbrev pub LentRows : List Job → ℕ → Admission → Type 0
LentRows xs model r = VerdictRows (record { jobs = xs; count = length xs }) model (told_admission r)

-- `admit`, of every row
abbrev pub LentVerdicts : Type 0
LentVerdicts = (xs : List Job) (model : ℕ) (r : Admission) → AdmitPromise xs model r → LentRows xs model r

-- `admit_first`: the same, of the first n
abbrev pub FirstVerdicts : Type 0
FirstVerdicts =
    (xs : List Job) (n model : ℕ) (r : Admission) → AdmitFirstPromise xs n model r → LentRows (take n xs) model r

-- by value the answer is the same, whatever lies in the array past the lent list's jobs
abbrev pub LentAsByValue : Type 0
LentAsByValue =
    (xs jobs : List Job) (model : ℕ) (r q : Admission)
    → ((i : ℕ) → i < min (length xs) count_most → get_or jobs i no_job ≡ get_or xs i no_job)
    → AdmitPromise xs model r → VerdictPromise (record { jobs = jobs; count = length xs }) model q → r ≡ q
