-- The state of a run: the fresh state of a list, and the state of all zeros.
use Rattle.std.specs.Prelude.{ℕ, min, List, get_or, replicate}
use Rattle.job.specs.declared.record.Job.{Job}
use Rattle.job.specs.declared.list.JobList.{JobList}
use Rattle.job.specs.Limit.{count_most}
use Rattle.job.specs.Check.{job_at}
use Rattle.job.specs.Filled.{filled_upto}
use Rattle.place.specs.declared.setting.Setting.{Setting}
use Rattle.place.specs.declared.record.Place.{Place}
use Rattle.place.specs.Setting.{setting_of}
use Rattle.place.specs.Opening.{blank, opened}
use Rattle.run.specs.declared.state.State.{State}

-- 'slot clock: 0 to 4,294,967,295'
abbrev pub clock_most : ℕ
clock_most = 4294967295

-- 'each of the other two totals is at most 16 times the clock'
abbrev pub sets_most : ℕ
sets_most = count_most

abbrev pub place_at : List Place → ℕ → Place
place_at places i = get_or places i blank

-- 'the state of all zeros'
abbrev pub zeros : State
zeros =
    record {
      setting = setting_of 0 0;
      clock = 0;
      count = 0;
      places = replicate count_most blank;
      totals = record { given = 0; idle = 0; tags = 0; shorts = 0 };
    }

-- the first n jobs in their places, and zeros behind them
abbrev pub fresh_upto : List Job → ℕ → List Place
fresh_upto jobs n = filled_upto blank (λ i. opened (job_at jobs i)) n

-- 'the fresh state of a list'
abbrev pub fresh_of : JobList → Setting → State
fresh_of l s =
    record {
      setting = s;
      clock = 0;
      count = l.count;
      places = fresh_upto l.jobs (min l.count count_most);
      totals = record { given = 0; idle = 0; tags = 0; shorts = 0 };
    }
