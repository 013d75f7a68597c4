-- The rules of a slot ('One slot, in order'), told by a list of jobs, a setting and the choices alone: no state, no counter, no search.
use Rattle.std.specs.Prelude.{ℕ, ◌+◌, ◌-◌, ◌*◌, ◌/◌, ◌%◌, ◌<◌, Bool, ◌&&◌, not, cond, List, [], ◌∷◌, leb, ltb, eqb, length, get_or, take, drop}
use Rattle.job.specs.declared.record.Job.{Job}
use Rattle.job.specs.declared.list.JobList.{JobList}
use Rattle.place.specs.declared.setting.Setting.{Setting}
use Rattle.run.specs.SlotMeaning.{how_many}
use Rattle.run.specs.Best.{None, Picked}

-- how many of the bytes have a property
unfoldable pub count_in : (ℕ → Bool) → List ℕ → ℕ
count_in f [] = 0
count_in f (b ∷ bytes) = cond (f b) (count_in f bytes + 1) (count_in f bytes)

-- 'one byte each, 0 to 15 or 255 for idle'; 'a byte that names no job serves none'
abbrev pub idle_byte : ℕ
idle_byte = 255

abbrev pub slots_of : ℕ → List ℕ → ℕ
slots_of j bytes = count_in (λ b. eqb b j) bytes

-- 'Its window is k times T slots; windows do not overlap': where the window and the period open in slot n began
abbrev pub window_start : Job → ℕ → ℕ
window_start job n = n - n % (job.k * job.t)

abbrev pub period_start : Job → ℕ → ℕ
period_start job n = n - n % job.t

-- 'p (period in its window, 1 to k)'
abbrev pub periods_begun : Job → ℕ → ℕ
periods_begun job n = n % (job.k * job.t) / job.t + 1

abbrev pub window_end : Job → ℕ → ℕ
window_end job n = window_start job n + job.k * job.t

-- the bytes of that window among those seen
abbrev pub since_window : Job → ℕ → List ℕ → List ℕ
since_window job n seen = drop (window_start job n) seen

-- 'an instance is finished in each period with at least C slots of its job': of the first n periods of a window
abbrev pub finished_in : Job → ℕ → List ℕ → ℕ → ℕ
finished_in job j window n = how_many (λ i. leb job.c (slots_of j (take job.t (drop (i * job.t) window)))) n

-- a moment as a fraction of slots; 'two are compared exactly as fractions'
pub record Moment : Type 0 where
  pub num : ℕ
  pub den : ℕ

abbrev pub sooner : Moment → Moment → Bool
sooner a b = ltb (a.num * b.den) (b.num * a.den)

-- job number j in slot n, by the bytes seen: those before the slot, or its own too
module _ (setting : Setting) (job : Job) (j n : ℕ) (seen : List ℕ) where
  -- its slots of the window and of the period
  abbrev pub of_window : ℕ
  of_window = slots_of j (since_window job n seen)

  abbrev pub of_period : ℕ
  of_period = slots_of j (drop (period_start job n) seen)

  -- 'u divided by C, rounded down' (model 0, relaxed); the periods of the window with an instance finished (1, original)
  unfoldable pub finished : ℕ
  finished = cond (eqb setting.model 0) (of_window / job.c) (finished_in job j (since_window job n seen) job.k)

  -- 'm' = m minus the instances finished in this window'
  abbrev pub owed : ℕ
  owed = job.m - finished

  -- 'eligible exactly if u < m times C and u < p times C' (relaxed); 'exactly if s < m and v < C' (original)
  unfoldable pub due : Bool
  due =
      cond (eqb setting.model 0) (ltb of_window (job.m * job.c) && ltb of_window (periods_begun job n * job.c))
      (ltb finished job.m && ltb of_period job.c)

  -- 'a job that has its m and still has an unserved instance come due', with spare on. 'Relaxed: u < pC; original: s < p and v < C.' (02, Item 1)
  unfoldable pub takes : Bool
  takes =
      setting.spare && eqb owed 0
      && cond (eqb setting.model 0) (ltb of_window (periods_begun job n * job.c)) (ltb finished (periods_begun job n) && ltb of_period job.c)

  -- 'period start + k'T/m' (equation 1 of 000)', where 'k' = k−p+1'
  abbrev pub virtual_deadline : Moment
  virtual_deadline = record { num = period_start job n * owed + (job.k - periods_begun job n + 1) * job.t; den = owed }

  -- 'Order V: lowest virtual deadline' (order 0); 'Order W: soonest window end' (1)
  unfoldable pub deadline : Moment
  deadline = cond (eqb setting.order 0) virtual_deadline (record { num = window_end job n; den = 1 })

-- 'A list of 1 to 16 jobs, numbered from 0'
abbrev pub job_of : JobList → ℕ → Job
job_of l j = get_or l.jobs j (record { c = 0; t = 0; m = 0; k = 0 })

-- the choice of slot n, by the bytes before it
module _ (l : JobList) (setting : Setting) (n : ℕ) (seen : List ℕ) where
  abbrev pub due_at : ℕ → Bool
  due_at j = due setting (job_of l j) j n seen

  abbrev pub deadline_of : ℕ → Moment
  deadline_of j = deadline setting (job_of l j) j n seen

  abbrev pub sooner_at : ℕ → ℕ → Bool
  sooner_at i j = sooner (deadline_of i) (deadline_of j)

  abbrev pub takes_at : ℕ → Bool
  takes_at j = takes setting (job_of l j) j n seen

  abbrev pub ends_at : ℕ → ℕ → Bool
  ends_at i j = ltb (window_end (job_of l i) n) (window_end (job_of l j) n)

  -- 'Choose among the eligible jobs' .. 'Equal: the lower job number' (01); where none is due, who takes a spare slot (02, Item 1)
  abbrev pub Picks : ℕ → Type 0
  Picks = Picked l.count due_at sooner_at takes_at ends_at

  -- 'None eligible: the slot is idle', if none takes it
  abbrev pub Idles : Type 0
  Idles = None l.count due_at × None l.count takes_at

  pub data Chooses : ℕ → Type 0 where
    picked : (j : ℕ) → Picks j → Chooses j
    idled : Idles → Chooses idle_byte

module _ (l : JobList) (setting : Setting) (bytes : List ℕ) where
  -- a list of choices keeps the rules: each byte is the choice that those before it call for
  abbrev pub Follows : Type 0
  Follows = (n : ℕ) → n < length bytes → Chooses l setting n (take n bytes) (get_or bytes n idle_byte)

  -- slot n finishes an instance of job j: with it there are more than without it. It is then the slot's choice
  abbrev pub finishes : ℕ → ℕ → Bool
  finishes n j = ltb (finished setting (job_of l j) j n (take n bytes)) (finished setting (job_of l j) j n (take (n + 1) bytes))

  -- 'm' > 0 before the slot and whose virtual deadline .. is at most the slot number + 1' (01); 'the job chosen too, unless it finishes an
  -- instance in that slot' (02, Item 2)
  unfoldable pub tags : ℕ → ℕ → Bool
  tags n j =
      let d = virtual_deadline setting (job_of l j) j n (take n bytes) in
      (ltb 0 d.den && leb d.num ((n + 1) * d.den)) && not (finishes n j)

  -- job j's tag before slot n: a slot of the open window has set it. 'first tagged in their window'
  unfoldable pub tagged : ℕ → ℕ → Bool
  tagged n j = ltb 0 (how_many (λ i. tags (window_start (job_of l j) n + i) j) (n % ((job_of l j).k * (job_of l j).t)))

  abbrev pub first_tags : ℕ → ℕ → Bool
  first_tags n j = tags n j && not (tagged n j)

  -- 'A window is short exactly if it ends with m' > 0': job j's ends with slot n
  unfoldable pub ends_short : ℕ → ℕ → Bool
  ends_short n j = eqb ((n + 1) % ((job_of l j).k * (job_of l j).t)) 0 && ltb 0 (owed setting (job_of l j) j n (take (n + 1) bytes))
