-- 'Runs worked by hand', the nine marked to be proved, as document 02 leaves them (Item 2 in case G), and that of its Item 1, in one list with one
-- claim over it.
use Rattle.std.specs.Prelude.{ℕ, zero, suc, ◌-◌, ◌≡◌, true, List, [], ◌∷◌, ◌++◌, map, length, replicate}
use Rattle.job.specs.declared.record.Job.{Job}
use Rattle.job.specs.declared.list.JobList.{JobList}
use Rattle.job.specs.Limit.{count_most, relaxed, original}
use Rattle.job.specs.Told.{Told, row}
use Rattle.job.specs.Check.{no_job}
use Rattle.admission.specs.Verdict.{verdict_told}
use Rattle.place.specs.declared.setting.Setting.{Setting}
use Rattle.place.specs.Setting.{order_v, order_w, setting_of, with_spare}
use Rattle.run.specs.declared.state.State.{State}
use Rattle.run.specs.Step.{start_state, step_told, step_state}

-- what a case shows: the answers of its slots (first tags, short windows, the job or nothing), and the verdict
pub record Shown : Type 0 where
  pub slots : List (List ℕ)
  pub verdict : Told

pub record Case : Type 0 where
  pub jobs : List Job
  pub setting : Setting
  pub shown : Shown

-- what n calls of `step` tell
unfoldable pub answers_of : State → ℕ → List (List ℕ)
answers_of s zero = []
answers_of s (suc n) = (step_told s).values ∷ answers_of (step_state s) n

-- a list of jobs by value
abbrev pub listed : List Job → JobList
listed jobs = record { jobs = jobs ++ replicate (count_most - length jobs) no_job; count = length jobs }

-- by the definitions that the promises of `start`, `step` and `verdict` cite
abbrev pub worked : Case → Shown
worked c =
    record {
      slots = answers_of (start_state (listed c.jobs) c.setting) (length c.shown.slots);
      verdict = verdict_told (listed c.jobs) c.setting.model;
    }

-- 'Jobs are written C T m k.'
abbrev pub job : ℕ → ℕ → ℕ → ℕ → Job
job c t m k = record { c = c; t = t; m = m; k = k }

abbrev pub given : ℕ → List ℕ
given j = 0 ∷ 0 ∷ j ∷ []

abbrev pub idle : List ℕ
idle = 0 ∷ 0 ∷ []

-- sets are masks: job 1 alone is 2
abbrev pub marked : ℕ → ℕ → ℕ → List ℕ
marked tags shorts j = tags ∷ shorts ∷ j ∷ []

abbrev pub case : List Job → Setting → List (List ℕ) → Told → Case
case jobs setting slots verdict = record { jobs = jobs; setting = setting; shown = record { slots = slots; verdict = verdict } }

abbrev pub cases : List Case
cases =
    -- 'A: 1 2 1 2 and 1 3 2 2, W R, 6 slots: 0 1 - 1 0 -.'
    case (job 1 2 1 2 ∷ job 1 3 2 2 ∷ []) (setting_of order_w relaxed) (given 0 ∷ given 1 ∷ idle ∷ given 1 ∷ given 0 ∷ idle ∷ []) (row 0 (12 ∷ 7 ∷ []))
    -- 'in case A with spare on, slot 2 goes to job 0': 0 1 0 1 0 -
    ∷ case (job 1 2 1 2 ∷ job 1 3 2 2 ∷ []) (with_spare (setting_of order_w relaxed) true)
    (given 0 ∷ given 1 ∷ given 0 ∷ given 1 ∷ given 0 ∷ idle ∷ []) (row 0 (12 ∷ 7 ∷ []))
    -- 'B: same, V R: 1 0 - 1 0 -.'
    ∷ case (job 1 2 1 2 ∷ job 1 3 2 2 ∷ []) (setting_of order_v relaxed) (given 1 ∷ given 0 ∷ idle ∷ given 1 ∷ given 0 ∷ idle ∷ []) (row 0 (12 ∷ 7 ∷ []))
    -- 'C: 2 4 1 1 and 1 2 2 4, W R, 8 slots: 0 0 1 1 0 0 - -.'
    ∷ case (job 2 4 1 1 ∷ job 1 2 2 4 ∷ []) (setting_of order_w relaxed)
    (given 0 ∷ given 0 ∷ given 1 ∷ given 1 ∷ given 0 ∷ given 0 ∷ idle ∷ idle ∷ []) (row 0 (8 ∷ 6 ∷ []))
    -- 'D: same, W O: 0 0 1 - 0 0 1 -.'
    ∷ case (job 2 4 1 1 ∷ job 1 2 2 4 ∷ []) (setting_of order_w original)
    (given 0 ∷ given 0 ∷ given 1 ∷ idle ∷ given 0 ∷ given 0 ∷ given 1 ∷ idle ∷ []) (row 7 [])
    -- 'E: 2 3 1 2 and 1 2 1 1, W R, 6 slots: 1 0 1 0 1 -.'
    ∷ case (job 2 3 1 2 ∷ job 1 2 1 1 ∷ []) (setting_of order_w relaxed) (given 1 ∷ given 0 ∷ given 1 ∷ given 0 ∷ given 1 ∷ idle ∷ []) (row 0 (6 ∷ 5 ∷ []))
    -- 'F: 1 1 1 1 and 1 2 1 1, W R, 2 slots: 0 0; slot 1 tags job 1, whose window is short.'
    ∷ case (job 1 1 1 1 ∷ job 1 2 1 1 ∷ []) (setting_of order_w relaxed) (given 0 ∷ marked 2 2 0 ∷ []) (row 9 (2 ∷ 3 ∷ []))
    -- 'G: 1 2 1 1 and 2 2 1 1, W R, 2 slots: 0 1; job 1 short', and document 02 over 01's 'no tag': 'Case G then tags job 1 in slot 1' (Item 2)
    ∷ case (job 1 2 1 1 ∷ job 2 2 1 1 ∷ []) (setting_of order_w relaxed) (given 0 ∷ marked 2 2 1 ∷ []) (row 9 (2 ∷ 3 ∷ []))
    -- 'H: 1 2 1 1, 1 3 1 1, 1 6 1 1: cycle 6, load 6, admitted.'
    ∷ case (job 1 2 1 1 ∷ job 1 3 1 1 ∷ job 1 6 1 1 ∷ []) (setting_of order_w relaxed) [] (row 0 (6 ∷ 6 ∷ []))
    -- 'I: 1 2 1 1 twice and 1 100 1 255: cycle 25,500, load 25,501, refusal 9.'
    ∷ case (job 1 2 1 1 ∷ job 1 2 1 1 ∷ job 1 100 1 255 ∷ []) (setting_of order_w relaxed) [] (row 9 (25500 ∷ 25501 ∷ []))
    ∷ []

-- what is worked by the definitions is what was worked by hand
abbrev pub CasesHold : Type 0
CasesHold = map worked cases ≡ map (λ (c : Case). c.shown) cases
