-- One slot of any state that row 10 lets in, also of one that no run reaches ('One slot, in order'), told by the state's own counters: no
-- search, no sign. What the slots of a run from a start are stands in the crate `rules`. The statement is proved in proofs/, under its name.
use Rattle.std.specs.Prelude.{ℕ, zero, suc, ◌+◌, ◌-◌, ◌*◌, ◌/◌, ◌%◌, ◌^◌, ◌≤◌, ◌<◌, ◌≡◌, ◌↔◌, Bool, true, false, ◌&&◌, ◌||◌, not, cond, leb, ltb, eqb, length, get_or, Result, Ok}
use Rattle.job.specs.declared.refusal.Refusal.{Refusal}
use Rattle.job.specs.Limit.{count_most}
use Rattle.place.specs.declared.setting.Setting.{Setting}
use Rattle.place.specs.declared.record.Place.{Place}
use Rattle.place.specs.Meaning.{unserved, place_of_zeros}
use Rattle.run.specs.declared.state.State.{State}
use Rattle.run.specs.declared.answer.Choice.{Choice}
use Rattle.run.specs.declared.answer.Choice.TheVariants.{Given, Idle}
use Rattle.run.specs.declared.answer.Slot.{Slot}
use Rattle.run.specs.State.{clock_most}
use Rattle.run.specs.Sound.{SoundState}
use Rattle.run.specs.Best.{None, Picked}
use Rattle.run.specs.Promise.{StepPromise}

-- how many of the numbers below n have a property
unfoldable pub how_many : (ℕ → Bool) → ℕ → ℕ
how_many f zero = 0
how_many f (suc n) = cond (f n) (how_many f n + 1) (how_many f n)

-- k'T, where 'k' = k−p+1': the slots from the start of the period to the end of the window
abbrev pub left : Place → ℕ
left q = (q.job.k - q.at.p + 1) * q.job.t

-- the window of q ends before that of r, k'T − e slots away; again from the moment that lies both e's before now
abbrev pub ends_sooner : Place → Place → Bool
ends_sooner q r = ltb (left q + r.at.e) (left r + q.at.e)

-- 'Where e reaches T the period ends; where the k-th period ends, the window ends.'
abbrev pub period_closes : Place → Bool
period_closes q = eqb (q.at.e + 1) q.job.t

abbrev pub window_closes : Place → Bool
window_closes q = period_closes q && eqb q.at.p q.job.k

-- model 0 is relaxed, 1 original; order 0 is V, 1 W
module _ (setting : Setting) where
  abbrev pub is_relaxed : Bool
  is_relaxed = eqb setting.model 0

  -- 'u divided by C, rounded down' (relaxed); 's (finished in this window)' (original). 'm' = m minus the instances finished in this window'
  unfoldable pub owed : Place → ℕ
  owed q = q.job.m - cond is_relaxed (q.at.u / q.job.c) q.at.s

  -- 'eligible exactly if u < m times C and u < p times C' (relaxed); 'exactly if s < m and v < C' (original)
  unfoldable pub due : Place → Bool
  due q =
      cond is_relaxed (ltb q.at.u (q.job.m * q.job.c) && ltb q.at.u (q.at.p * q.job.c))
      (ltb q.at.s q.job.m && ltb q.at.v q.job.c)

  -- 'Order V: lowest virtual deadline, period start + k'T/m'', 'Order W: soonest window end': q's before r's, 'compared exactly as fractions'.
  -- A period began e slots ago; so that nothing is below 0, both sides are told from the moment that lies both e's before now
  unfoldable pub sooner : Place → Place → Bool
  sooner q r =
      cond (eqb setting.order 0)
      (ltb ((left q + r.at.e * owed q) * owed r) ((left r + q.at.e * owed r) * owed q))
      (ends_sooner q r)

  -- 'a job that has its m and still has an unserved instance come due', with spare on. 'Relaxed: u < pC; original: s < p and v < C.' (02, Item 1)
  unfoldable pub takes : Place → Bool
  takes q =
      setting.spare && eqb (owed q) 0
      && cond is_relaxed (ltb q.at.u (q.at.p * q.job.c)) (ltb q.at.s q.at.p && ltb q.at.v q.job.c)

  -- 'm' > 0 before the slot and whose virtual deadline, from the values before the slot, is at most the slot number + 1'
  unfoldable pub late : Place → Bool
  late q = ltb 0 (owed q) && leb (left q) ((q.at.e + 1) * owed q)

  -- a slot given finishes an instance: u + 1 is a multiple of C (relaxed); v + 1 is C (original)
  unfoldable pub finishes : Place → Bool
  finishes q = cond is_relaxed (eqb ((q.at.u + 1) % q.job.c) 0) (eqb (q.at.v + 1) q.job.c)

  -- 'Tag the job chosen too, unless it finishes an instance in that slot; the other conditions stay.' (02, Item 2)
  unfoldable pub tags : Place → Bool → Bool
  tags q given = late q && not (given && finishes q)

  -- 'Give the slot: one more unit to the job chosen', 'When v reaches C, s grows by one'; then the tag
  unfoldable pub served : Place → Bool → Place
  served q given =
      let r = q.at in
      let u = cond (given && is_relaxed) (r.u + 1) r.u in
      let s = cond (given && not is_relaxed && eqb (r.v + 1) q.job.c) (r.s + 1) r.s in
      let v = cond (given && not is_relaxed) (r.v + 1) r.v in
      record { job = q.job; at = record { e = r.e; p = r.p; u = u; s = s; v = v; tag = tags q given || r.tag } }

-- 'At a period's end v becomes 0'; at a window's 'tag and service counters are cleared and p is 1.'
unfoldable pub onward : Place → Place
onward q =
    let r = q.at in
    let e = cond (period_closes q) 0 (r.e + 1) in
    let p = cond (period_closes q) (r.p + 1) r.p in
    let v = cond (period_closes q) 0 r.v in
    cond (window_closes q) (unserved q.job 1)
    (record { job = q.job; at = record { e = e; p = p; u = r.u; s = r.s; v = v; tag = r.tag } })

abbrev pub is_given : Choice → ℕ → Bool
is_given (Given i) j = eqb j i
is_given Idle j = false

module _ (s : State) where
  abbrev pub place_of : ℕ → Place
  place_of j = get_or s.places j place_of_zeros

  abbrev pub due_at : ℕ → Bool
  due_at j = due s.setting (place_of j)

  abbrev pub takes_at : ℕ → Bool
  takes_at j = takes s.setting (place_of j)

  -- 'Choose among the eligible jobs' .. 'Equal: the lower job number.' Else, with spare on, who takes a spare slot, by the ends of the windows
  abbrev pub Picks : ℕ → Type 0
  Picks =
      Picked s.count due_at (λ i j. sooner s.setting (place_of i) (place_of j)) takes_at (λ i j. ends_sooner (place_of i) (place_of j))

  -- 'None eligible: the slot is idle', if none takes it
  abbrev pub Idles : Type 0
  Idles = None s.count due_at × None s.count takes_at

  -- 'the set of jobs first tagged in their window and the set whose window ended short', 'exactly if it ends with m' > 0'
  module _ (choice : Choice) (j : ℕ) where
    abbrev pub given : Place
    given = served s.setting (place_of j) (is_given choice j)

    unfoldable pub first_tags : Bool
    first_tags = tags s.setting (place_of j) (is_given choice j) && not (place_of j).at.tag

    unfoldable pub ends_short : Bool
    ends_short = window_closes (place_of j) && ltb 0 (owed s.setting given)

  -- the slot's answer, where bit j of a mask is job j, and the state after it
  pub record SlotDone (slot : Slot) (after : State) : Type 0 where
    pub given_is : (j : ℕ) → (slot.choice ≡ Given j) ↔ Picks j
    pub idle_is : (slot.choice ≡ Idle) ↔ Idles
    pub tags_are : (j : ℕ) → (slot.tags / 2 ^ j % 2 ≡ 1) ↔ ((j < s.count) × (first_tags slot.choice j ≡ true))
    pub shorts_are : (j : ℕ) → (slot.shorts / 2 ^ j % 2 ≡ 1) ↔ ((j < s.count) × (ends_short slot.choice j ≡ true))
    pub setting_stays : after.setting ≡ s.setting
    pub count_stays : after.count ≡ s.count
    pub clock_grows : after.clock ≡ s.clock + 1
    pub places_long : length after.places ≡ count_most
    pub places_are : (j : ℕ) → j < s.count → get_or after.places j place_of_zeros ≡ onward (given slot.choice j)
    pub others_stay : (j : ℕ) → s.count ≤ j → get_or after.places j place_of_zeros ≡ place_of j
    -- 'Totals in the state: slots given, idle, first tags, short windows.'
    pub given_total :
        (j : ℕ) → slot.choice ≡ Given j → (after.totals.given ≡ s.totals.given + 1) × (after.totals.idle ≡ s.totals.idle)
    pub idle_total : slot.choice ≡ Idle → (after.totals.given ≡ s.totals.given) × (after.totals.idle ≡ s.totals.idle + 1)
    pub tags_total : after.totals.tags ≡ s.totals.tags + how_many (first_tags slot.choice) s.count
    pub shorts_total : after.totals.shorts ≡ s.totals.shorts + how_many (ends_short slot.choice) s.count

-- a step of a state in its ranges and below the clock's limit is done, as above
abbrev pub StepsSlot : Type 0
StepsSlot =
    (s : State) → SoundState s → s.clock < clock_most → (r : Result Slot Refusal) (after : State) → StepPromise s r after
    → (slot : Slot) × (r ≡ Ok slot) × SlotDone s slot after
