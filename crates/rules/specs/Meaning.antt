-- What the slots of a run are: what `start` and then calls of `step` answer, by their promises, keeps the rules, and nothing else does. Each
-- statement is proved in proofs/, under its name.
use Rattle.std.specs.Prelude.{ℕ, zero, suc, ◌+◌, ◌/◌, ◌%◌, ◌^◌, ◌≤◌, ◌<◌, ◌≡◌, ◌↔◌, true, false, cond, List, eqb, ltb, length, get_or, take, drop, Result, Ok, Err}
use Rattle.job.specs.declared.list.JobList.{JobList}
use Rattle.job.specs.declared.refusal.Refusal.{Refusal}
use Rattle.job.specs.declared.refusal.Refusal.TheVariants.{ClockAtLimit}
use Rattle.job.specs.Limit.{count_most}
use Rattle.job.specs.Sound.{SoundList}
use Rattle.place.specs.declared.setting.Setting.{Setting}
use Rattle.place.specs.declared.record.Place.{Place}
use Rattle.place.specs.Sound.{Allowed}
use Rattle.run.specs.declared.state.State.{State}
use Rattle.run.specs.declared.answer.Choice.TheVariants.{Given, Idle}
use Rattle.run.specs.declared.answer.Slot.{Slot}
use Rattle.run.specs.declared.answer.Started.{Started}
use Rattle.run.specs.State.{clock_most}
use Rattle.run.specs.Promise.{StartPromise, StepPromise}
use Rattle.run.specs.Calls.{Run, bytes_of}
use Rattle.place.specs.Meaning.{place_of_zeros}
use Rattle.run.specs.SlotMeaning.{how_many}
use Rattle.run.specs.Best.{Best, None}
use Rattle.rules.specs.Rules.{slots_of, since_window, period_start, periods_begun, finished_in, job_of, due_at, sooner_at, Picks, Idles, Follows, tagged, first_tags, ends_short, count_in, idle_byte}

-- slot n of a list of choices is answered as the rules say: the choice, and the two sets, where bit j of a mask is job j
pub record SlotTold (l : JobList) (setting : Setting) (bytes : List ℕ) (n : ℕ) (slot : Slot) : Type 0 where
  pub given : (j : ℕ) → (slot.choice ≡ Given j) ↔ Picks l setting n (take n bytes) j
  pub idle : (slot.choice ≡ Idle) ↔ Idles l setting n (take n bytes)
  pub tags : (j : ℕ) → (slot.tags / 2 ^ j % 2 ≡ 1) ↔ ((j < l.count) × (first_tags l setting bytes n j ≡ true))
  pub shorts : (j : ℕ) → (slot.shorts / 2 ^ j % 2 ≡ 1) ↔ ((j < l.count) × (ends_short l setting bytes n j ≡ true))

-- the place of job j after n slots with the choices `bytes`; 'Counters of the model not in use are 0.'
pub record PlaceTold (l : JobList) (setting : Setting) (bytes : List ℕ) (n j : ℕ) (q : Place) : Type 0 where
  pub job_is : q.job ≡ job_of l j
  pub e_is : q.at.e ≡ n % (job_of l j).t
  pub p_is : q.at.p ≡ periods_begun (job_of l j) n
  pub u_is : q.at.u ≡ cond (eqb setting.model 0) (slots_of j (since_window (job_of l j) n bytes)) 0
  pub s_is : q.at.s ≡ cond (eqb setting.model 0) 0 (finished_in (job_of l j) j (since_window (job_of l j) n bytes) (job_of l j).k)
  pub v_is : q.at.v ≡ cond (eqb setting.model 0) 0 (slots_of j (drop (period_start (job_of l j) n) bytes))
  pub tag_is : q.at.tag ≡ tagged l setting bytes n j

-- the sum of f over the numbers below n
unfoldable pub sum_upto : (ℕ → ℕ) → ℕ → ℕ
sum_upto f zero = 0
sum_upto f (suc n) = sum_upto f n + f n

-- the whole state after the choices; 'Totals in the state: slots given, idle, first tags, short windows.'
pub record StateTold (l : JobList) (setting : Setting) (bytes : List ℕ) (state : State) : Type 0 where
  pub setting_is : state.setting ≡ setting
  pub clock_is : state.clock ≡ length bytes
  pub count_is : state.count ≡ l.count
  pub places_long : length state.places ≡ count_most
  pub places_are : (j : ℕ) → j < l.count → PlaceTold l setting bytes (length bytes) j (get_or state.places j place_of_zeros)
  pub others_are : (j : ℕ) → l.count ≤ j → j < count_most → get_or state.places j place_of_zeros ≡ place_of_zeros
  pub given_is : state.totals.given ≡ count_in (λ b. ltb b l.count) bytes
  pub idle_is : state.totals.idle ≡ count_in (λ b. eqb b idle_byte) bytes
  pub tags_is : state.totals.tags ≡ sum_upto (λ n. how_many (first_tags l setting bytes n) l.count) (length bytes)
  pub shorts_is : state.totals.shorts ≡ sum_upto (λ n. how_many (ends_short l setting bytes n) l.count) (length bytes)

-- what stands past the end of a list of slots
abbrev pub no_slot : Slot
no_slot = record { choice = Idle; tags = 0; shorts = 0 }

-- a run keeps the rules: its choices, each of its slots, and its state
pub record RunTold (l : JobList) (setting : Setting) (slots : List Slot) (state : State) : Type 0 where
  pub follows : Follows l setting (bytes_of slots)
  pub long : length (bytes_of slots) ≡ length slots
  pub slots_are : (n : ℕ) → n < length slots → SlotTold l setting (bytes_of slots) n (get_or slots n no_slot)
  pub state_is : StateTold l setting (bytes_of slots) state

abbrev pub RunFollows : Type 0
RunFollows =
    (l : JobList) (setting : Setting) → SoundList l → Allowed setting → (slots : List Slot) (state : State)
    → Run l setting slots state → RunTold l setting slots state

-- nothing else does: as many bytes that keep the rules are the run's
abbrev pub OnlyRun : Type 0
OnlyRun =
    (l : JobList) (setting : Setting) → SoundList l → Allowed setting → (slots : List Slot) (state : State)
    → Run l setting slots state → (bytes : List ℕ) → length bytes ≡ length slots → Follows l setting bytes
    → bytes ≡ bytes_of slots

-- the choice by document 01 alone: 'Choose among the eligible jobs'; 'None eligible: the slot is idle.'
pub data ChoosesDue (l : JobList) (setting : Setting) (n : ℕ) (seen : List ℕ) : ℕ → Type 0 where
  due_picked : (j : ℕ) → Best l.count (due_at l setting n seen) (sooner_at l setting n seen) j → ChoosesDue l setting n seen j
  none_due : None l.count (due_at l setting n seen) → ChoosesDue l setting n seen idle_byte

abbrev pub FollowsDue : JobList → Setting → List ℕ → Type 0
FollowsDue l setting bytes = (n : ℕ) → n < length bytes → ChoosesDue l setting n (take n bytes) (get_or bytes n idle_byte)

-- 'Off keeps all of 01's runs' (02, Item 1): with spare off the choices are those, and so is all that `RunTold` says of them
abbrev pub OffKeeps : Type 0
OffKeeps =
    (l : JobList) (setting : Setting) → SoundList l → Allowed setting → setting.spare ≡ false → (slots : List Slot) (state : State)
    → Run l setting slots state → (bytes : List ℕ) → length bytes ≡ length slots → FollowsDue l setting bytes ↔ (bytes ≡ bytes_of slots)

-- a start of a sound list in an allowed setting passes; each step is done up to the clock's limit, and there refused by row 11
abbrev pub RunStarts : Type 0
RunStarts =
    (l : JobList) (setting : Setting) → SoundList l → Allowed setting → (r : Started) → StartPromise l setting r
    → r.answer ≡ Ok tt

abbrev pub RunGoesOn : Type 0
RunGoesOn =
    (l : JobList) (setting : Setting) → SoundList l → Allowed setting → (slots : List Slot) (state : State)
    → Run l setting slots state → (r : Result Slot Refusal) (after : State) → StepPromise state r after
    → (length slots < clock_most → (slot : Slot) × (r ≡ Ok slot))
    × (length slots ≡ clock_most → r ≡ Err ClockAtLimit)

-- so there is a run of every length up to the clock's limit
pub record RunOf (l : JobList) (setting : Setting) (n : ℕ) : Type 0 where
  pub slots : List Slot
  pub state : State
  pub long : length slots ≡ n
  pub run : Run l setting slots state

abbrev pub RunExists : Type 0
RunExists = (l : JobList) (setting : Setting) → SoundList l → Allowed setting → (n : ℕ) → n ≤ clock_most → RunOf l setting n
