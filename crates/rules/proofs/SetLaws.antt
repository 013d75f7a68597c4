-- The sets of a slot's answer, and the tag that a place keeps, are those that the rules say.
use mathlib.Core.Path.{◌≡◌, refl, sym, ap, ap₂, subst, ◌∙◌}
use mathlib.Core.Bool.{Bool, true, false, ◌&&◌, ◌||◌, not, cond}
use mathlib.Core.List.{List, [], ◌∷◌, ◌++◌}
use Prim.Native.Nat.{ℕ, suc, ◌+◌, ◌*◌, ◌%◌, ◌<◌}
use native.Mathlib.Nat.{le_refl, mod-le}
use native.Mathlib.Numerals.{add-one}
use native.Mathlib.Omega.{arith}
use lib.Dec.{eqb, ltb}
use lib.ListN.{take}
use borrow.Author.Tests.{lt-ltb, le-ltb}
use Rattle.job.specs.declared.record.Job.{Job}
use Rattle.job.specs.declared.list.JobList.{JobList}
use Rattle.job.specs.Sound.{SoundList}
use Rattle.place.specs.declared.setting.Setting.{Setting}
use Rattle.place.specs.declared.record.Place.{Place}
use Rattle.place.specs.Place.{finished_of, finishes_of, tags_of, first_tagged, worked_of, short_of, turned_of, moved_of}
use Rattle.place.specs.Sound.{SoundPlace}
use Rattle.place.proofs.CycleLaws.{cycle_goes_on, cycle_ends}
use Rattle.place.proofs.TagLaws.{Untagged, finished_worked, short_tagged}
use Rattle.place.proofs.CounterLaws.{Served, worked, worked_tag, worked_ends, turned_on, turned_period, turned_window}
use Rattle.run.specs.declared.state.State.{State}
use Rattle.run.specs.State.{place_at}
use Rattle.run.specs.Choice.{chosen_of}
use Rattle.run.specs.Slot.{tags_at, shorts_at, turn_of}
use Rattle.run.proofs.HereLaws.{at}
use Rattle.run.proofs.TurnLaws.{next_byte, byte_at, byte_fair, turn_place}
use Rattle.run.specs.SlotMeaning.{how_many}
use Rattle.rules.specs.Rules.{window_start, job_of, finishes, tags, tagged, first_tags, ends_short}
use Rattle.rules.proofs.CycleLaws.{Tick, nothing_ends, period_ends, window_ends_lem, tick}
use Rattle.rules.proofs.HistoryLaws.{PlaceHistory, Worked, history_worked}
use Rattle.rules.proofs.PlaceLaws.{finished_is, owed_is, finished_told, overdue_told, ends_told}
use Rattle.rules.proofs.ChoiceLaws.{Told, here}

-- a count of one number more is above 0 if it was, or if that number counts
pub some_more : (b : Bool) (h : ℕ) → ltb 0 (cond b (h + 1) h) ≡ (b || ltb 0 h)
some_more true h = lt-ltb 0 (h + 1) (omega arith)
some_more false h = refl

-- one more is more
more_is : (b : Bool) (h : ℕ) → b ≡ ltb h (cond b (h + 1) h)
more_is true h = sym (lt-ltb h (h + 1) (omega arith))
more_is false h = sym (le-ltb h h (le_refl h))

-- a state before slot n of the bytes, whose own byte is the slot's choice
pub record Before (l : JobList) (bytes : List ℕ) (n : ℕ) (s : State) : Type 0 where
  pub told : Told l n (take n bytes) s
  pub more : take (n + 1) bytes ≡ take n bytes ++ next_byte s ∷ []
  pub tag : (i : ℕ) → i < l.count → (at s i).at.tag ≡ tagged l s.setting bytes n i

module _ (l : JobList) (jobs : SoundList l) (bytes : List ℕ) (n : ℕ) (s : State) (before : Before l bytes n s) (i : ℕ) (listed : i < l.count) where
  abbrev setting : Setting
  setting = s.setting

  abbrev job : Job
  job = job_of l i

  abbrev q : Place
  q = at s i

  abbrev chosen : Bool
  chosen = eqb i (chosen_of s)

  inside : i < s.count
  inside = here l jobs n (take n bytes) s before.told listed

  history : PlaceHistory setting job i n (take n bytes) q
  history = before.told.places i listed

  place : SoundPlace setting q
  place = before.told.jobs_sound i listed

  byte_is : eqb (next_byte s) i ≡ chosen
  byte_is = byte_at s before.told.sound i inside

  -- the place when its slot was given, or not
  abbrev given : Place
  given = worked_of setting q chosen

  given_told : Worked setting job i n (take (n + 1) bytes) given
  given_told =
      subst (λ (c : Bool). Worked setting job i n (take (n + 1) bytes) (worked_of setting q c)) byte_is
      (rw before.more
      (history_worked setting job i n (take n bytes) q history place before.told.long (next_byte s) (byte_fair s before.told.sound i inside)))

  finishes_here : (chosen && finishes_of setting q) ≡ finishes l setting bytes n i
  finishes_here =
      more_is (chosen && finishes_of setting q) (finished_of setting q)
      ∙ ap₂ ltb (finished_told setting job i n (take n bytes) q history place (jobs.jobs i listed) before.told.long)
      (sym (finished_worked place chosen) ∙ finished_is setting job (jobs.jobs i listed) i n (take (n + 1) bytes) given given_told)

  tags_here : tags_of setting q chosen ≡ tags l setting bytes n i
  unfolding tags tags_of
  tags_here =
      ap₂ (λ (late done : Bool). late && not done)
      (overdue_told setting job i n (take n bytes) q history place (jobs.jobs i listed) before.told.long) finishes_here

  pub first_here : tags_at setting s.places (chosen_of s) i ≡ first_tags l setting bytes n i
  unfolding moved_of first_tagged
  first_here = ap₂ (λ (a b : Bool). a && not b) tags_here (before.tag i listed)

  pub short_here : shorts_at setting s.places (chosen_of s) i ≡ ends_short l setting bytes n i
  unfolding moved_of short_of ends_short
  short_here =
      ap₂ (λ (a : Bool) (b : ℕ). a && ltb 0 b)
      (worked_ends setting q chosen ∙ ends_told setting job i n (take n bytes) q history place (jobs.jobs i listed) before.told.long)
      (owed_is setting job (jobs.jobs i listed) i n (take (n + 1) bytes) given given_told)

  -- the tag one slot on
  abbrev window : ℕ
  window = job.k * job.t

  goes_on_lem : n % window + 1 < window → tagged l setting bytes (suc n) i ≡ (tags l setting bytes n i || q.at.tag)
  unfolding tagged how_many
  goes_on_lem stays =
      let gone : suc n % window ≡ n % window + 1 = cycle_goes_on window n stays in
      let same : window_start job (suc n) ≡ window_start job n = omega arith in
      let now : window_start job n + n % window ≡ n = omega (arith, mod-le n window) in
      rw (same, gone, add-one (n % window), now) (some_more (tags l setting bytes n i) _ ∙ ap (tags l setting bytes n i ||◌) (sym (before.tag i listed)))

  ends : n % window + 1 ≡ window → tagged l setting bytes (suc n) i ≡ false
  unfolding tagged how_many
  ends closes = rw (cycle_ends window n closes)

  given_tag : given.at.tag ≡ (tags l setting bytes n i || q.at.tag)
  given_tag = worked_tag setting q chosen ∙ ap (◌|| q.at.tag) tags_here

  -- 'A window that ends untagged is not short', by the rules
  pub short_tags :
      Untagged setting q → ends_short l setting bytes n i ≡ true → (tags l setting bytes n i || tagged l setting bytes n i) ≡ true
  unfolding moved_of
  short_tags fits short =
      ap (tags l setting bytes n i ||◌) (sym (before.tag i listed)) ∙ sym given_tag ∙ short_tagged place chosen fits (short_here ∙ short)

  pub tag_next : (place_at (turn_of s).state.places i).at.tag ≡ tagged l setting bytes (suc n) i
  unfolding moved_of
  tag_next =
      ap (λ (r : Place). r.at.tag) (turn_place s before.told.sound i inside ∙ ap (λ (c : Bool). (moved_of setting q c).place) byte_is)
      ∙ go (tick job.t job.k n (jobs.jobs i listed).t.low (jobs.jobs i listed).k.low)
    where
      served : Served setting q chosen given
      served = worked setting q chosen

      t_given : given.job.t ≡ job.t
      t_given = ap (λ (x : Job). x.t) (served.same_job ∙ history.same_job)

      k_given : given.job.k ≡ job.k
      k_given = ap (λ (x : Job). x.k) (served.same_job ∙ history.same_job)

      e_given : given.at.e ≡ n % job.t
      e_given = served.same_e ∙ history.e_is

      go : Tick job.t job.k n → (turned_of given).at.tag ≡ tagged l setting bytes (suc n) i
      go (nothing_ends within stays same) =
          ap (λ (r : Place). r.at.tag) (turned_on given (omega (arith, e_given, t_given))) ∙ given_tag ∙ sym (goes_on_lem stays)
      go (period_ends last stays below one_more) =
          ap (λ (r : Place). r.at.tag)
          (turned_period given (omega (arith, e_given, t_given)) (omega (arith, served.same_p, history.p_is, k_given)))
          ∙ given_tag
          ∙ sym (goes_on_lem stays)
      go (window_ends_lem last closes all first) =
          ap (λ (r : Place). r.at.tag)
          (turned_window given (omega (arith, e_given, t_given)) (omega (arith, served.same_p, history.p_is, k_given)))
          ∙ sym (ends closes)
