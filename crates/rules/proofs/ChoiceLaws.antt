-- The choice of a state whose places the choices tell is the one that the rules pick; and the rules pick one.
use mathlib.Core.Path.{◌≡◌, refl, sym}
use mathlib.Core.Logic.Iff
use mathlib.Core.Logic.{◌↔◌}
use mathlib.Core.Bool.{false}
use mathlib.Core.List.{List}
use Prim.Native.Nat.{ℕ, ◌+◌, ◌<◌}
use native.Mathlib.Omega.{arith}
use lib.ListN.{length}
use Rattle.job.specs.declared.list.JobList.{JobList}
use Rattle.job.specs.Sound.{SoundList}
use Rattle.place.specs.declared.setting.Setting.{Setting}
use Rattle.place.specs.Place.{left_of}
use Rattle.place.specs.Choice.{due_away}
use Rattle.place.specs.Sound.{SoundPlace}
use Rattle.run.specs.declared.state.State.{State}
use Rattle.run.specs.Sound.{SoundState}
use Rattle.run.proofs.HereLaws.{at}
use Rattle.place.proofs.DistanceLaws.{ltb_shift}
use Rattle.run.specs.Best.{None, by_need, as_spare}
use Rattle.run.proofs.BestLaws.{SameTest, SameOrder, picked_same, idle_same, picked_one, picked_some, best_some}
use Rattle.run.proofs.ChoiceLaws.{NoCandidate, Chosen, eligible_at, nearer_at, takes_here, ends_here, chosen_picked, none_picked}
use Rattle.rules.specs.Rules.{window_end, job_of, takes, due_at, deadline_of, sooner_at, takes_at, ends_at, Picks, Idles, Chooses, picked, idled}
use Rattle.rules.specs.Meaning.{ChoosesDue, due_picked, none_due}
use Rattle.rules.proofs.HistoryLaws.{PlaceHistory}
use Rattle.rules.proofs.MomentLaws.{Away, sooner_is}
use Rattle.rules.proofs.PlaceLaws.{due_told, takes_told, away, ends_away}

-- a state before slot n, told by the n bytes seen
pub record Told (l : JobList) (n : ℕ) (seen : List ℕ) (s : State) : Type 0 where
  pub sound : SoundState s
  pub long : length seen ≡ n
  pub listed : s.count ≡ l.count
  pub jobs_sound : (i : ℕ) → i < l.count → SoundPlace s.setting (at s i)
  pub places : (i : ℕ) → i < l.count → PlaceHistory s.setting (job_of l i) i n seen (at s i)

module _ (l : JobList) (jobs : SoundList l) (n : ℕ) (seen : List ℕ) (s : State) (told : Told l n seen s) where
  pub here : {i : ℕ} → i < l.count → i < s.count
  here h = omega (arith, told.listed)

  there : {i : ℕ} → i < s.count → i < l.count
  there h = omega (arith, told.listed)

  due_at_lem : SameTest s.count (eligible_at s) (due_at l s.setting n seen)
  due_at_lem i h =
      due_told s.setting (job_of l i) i n seen (at s i) (told.places i (there h)) (told.jobs_sound i (there h)) (jobs.jobs i (there h)) told.long

  takes_at_lem : SameTest s.count (takes_here s) (takes_at l s.setting n seen)
  takes_at_lem i h =
      takes_told s.setting (job_of l i) i n seen (at s i) (told.places i (there h)) (told.jobs_sound i (there h)) (jobs.jobs i (there h)) told.long

  away_at : (i : ℕ) → i < l.count → Away n (deadline_of l s.setting n seen i) (due_away s.setting (at s i))
  away_at i h =
      away s.setting (job_of l i) i n seen (at s i) (told.places i h) (told.jobs_sound i h) (jobs.jobs i h) told.long

  sooner_at_lem : SameOrder s.count (nearer_at s) (sooner_at l s.setting n seen)
  sooner_at_lem i j h g =
      sym
      (sooner_is n (deadline_of l s.setting n seen i) (deadline_of l s.setting n seen j) (due_away s.setting (at s i))
      (due_away s.setting (at s j)) (away_at i (there h)) (away_at j (there g)))

  end_at : (i : ℕ) → i < l.count → n + left_of (at s i) ≡ window_end (job_of l i) n
  end_at i h =
      ends_away s.setting (job_of l i) i n seen (at s i) (told.places i h) (told.jobs_sound i h) (jobs.jobs i h) told.long

  ends_at_lem : SameOrder s.count (ends_here s) (ends_at l s.setting n seen)
  ends_at_lem i j h g =
      ltb_shift (left_of (at s i)) (left_of (at s j)) (window_end (job_of l i) n) (window_end (job_of l j) n) n 0
      (omega (arith, end_at i (there h))) (omega (arith, end_at j (there g)))

  pub chosen_picks : (j : ℕ) → Chosen s j ↔ Picks l s.setting n seen j
  chosen_picks j =
      Iff.trans (chosen_picked s told.sound j) (rw (← told.listed) (picked_same due_at_lem sooner_at_lem takes_at_lem ends_at_lem j))

  pub none_idles : NoCandidate s ↔ Idles l s.setting n seen
  none_idles = Iff.trans (none_picked s told.sound) (rw (← told.listed) (idle_same due_at_lem sooner_at_lem takes_at_lem ends_at_lem))

-- there is one choice
pub one_choice :
    (l : JobList) (setting : Setting) (n : ℕ) (seen : List ℕ) {a b : ℕ} → Chooses l setting n seen a → Chooses l setting n seen b → a ≡ b
one_choice l setting n seen (picked i p) (picked j q) = picked_one p q
one_choice l setting n seen (picked i p) (idled none) = absurd (picked_some p none)
one_choice l setting n seen (idled none) (picked j q) = absurd (picked_some q none)
one_choice l setting n seen (idled none) (idled none') = refl

-- with spare off it is document 01's
module _ (l : JobList) (setting : Setting) (off : setting.spare ≡ false) (n : ℕ) (seen : List ℕ) where
  none_takes : None l.count (takes_at l setting n seen)
  unfolding takes
  none_takes i h = rw off

  pub off_chooses : {b : ℕ} → ChoosesDue l setting n seen b → Chooses l setting n seen b
  off_chooses (due_picked j best) = picked j (by_need best)
  off_chooses (none_due none) = idled (none, none_takes)

  pub chooses_off : {b : ℕ} → Chooses l setting n seen b → ChoosesDue l setting n seen b
  chooses_off (picked j (by_need best)) = due_picked j best
  chooses_off (picked j (as_spare _ best)) = absurd (best_some best none_takes)
  chooses_off (idled none) = none_due none.0
