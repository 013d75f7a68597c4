-- One slot of a state in its ranges is as specs/SlotMeaning says it.
use mathlib.Core.Path.{◌≡◌, refl, sym, ap, ap₂, ◌∙◌}
use mathlib.Core.Bool.{Bool, true, false, ◌&&◌, not, cond}
use mathlib.Core.Logic.Iff
use mathlib.Core.Logic.{◌↔◌}
use Prim.Native.Nat.{ℕ, ◌+◌, ◌-◌, ◌*◌, ◌≤◌, ◌<◌}
use native.Mathlib.Nat.{mul-le-mul_right}
use native.Mathlib.Omega.{arith}
use lib.Dec.{eqb, leb, ltb}
use lib.IntN.{pos, ◌-ℤ◌}
use borrow.Author.Tests.{eqb-true, eqb-false, ne_eqb}
use Rattle.std.specs.Prelude.{Ok}
use Rattle.place.specs.declared.setting.Setting.{Setting}
use Rattle.place.specs.declared.record.Place.{Place}
use Rattle.place.specs.declared.inner.choice.Fraction.{Fraction}
use Rattle.place.specs.Setting.{in_order_v}
use Rattle.place.specs.Place.{window_left, left_of, finished_of, owed_of, eligible_of, numerator_of, overdue_of, finishes_of, tags_of, first_tagged, with_service, served_of, given_of, tagged_of, worked_of, window_ends, short_of, turned_of, moved_of}
use Rattle.place.specs.Choice.{room_of, takes_spare, virtual_away, window_away, due_away, nearer_of, no_place}
use Rattle.place.specs.Sound.{SoundPlace}
use Rattle.place.proofs.CounterLaws.{worked_ends, turned_on, turned_period, turned_window}
use Rattle.place.proofs.SignedLaws.{difference_most}
use Rattle.place.proofs.DistanceLaws.{minus, side, nearer_is, difference_parts, ltb_shift}
use Rattle.run.specs.declared.state.State.{State}
use Rattle.run.specs.declared.answer.Choice.{Choice}
use Rattle.run.specs.declared.answer.Choice.TheVariants.{Given, Idle}
use Rattle.run.specs.Choice.{chosen_of}
use Rattle.run.specs.Slot.{choice_of, tags_at, shorts_at, all_moved, turn_of}
use Rattle.run.specs.Sound.{SoundState}
use Rattle.run.specs.SlotMeaning.{left, ends_sooner, period_closes, is_relaxed, owed, due, sooner, takes, late, finishes, tags, served, onward, is_given, place_of, due_at, takes_at, Picks, Idles, given, first_tags, ends_short, SlotDone, StepsSlot}
use Rattle.run.proofs.HereLaws.{at, job_sound}
use Rattle.run.proofs.BestLaws.{SameTest, SameOrder, picked_same, idle_same}
use Rattle.run.proofs.ChoiceLaws.{NoCandidate, Chosen, given_idle, given_exactly, idle_exactly, eligible_at, nearer_at, takes_here, ends_here, chosen_picked, none_picked}
use Rattle.run.proofs.SlotLaws.{placed_length, placed_later, mask_exactly, count_is}
use Rattle.run.proofs.KeepLaws.{turn_place}
use Rattle.run.proofs.AnswerLaws.{step_one_to_one, state_done}
use Rattle.run.proofs.CallLaws.{step_done}

-- a place

module _ (setting : Setting) (q : Place) where
  left_is : window_left q ≡ left q
  unfolding window_left
  left_is = refl

  owed_is : owed_of setting q ≡ owed setting q
  unfolding owed_of finished_of owed
  owed_is = refl

  due_is : eligible_of setting q ≡ due setting q
  unfolding eligible_of due
  due_is = refl

  takes_is : takes_spare setting q ≡ takes setting q
  unfolding takes_spare room_of owed_of finished_of takes owed
  takes_is = refl

  late_is : overdue_of setting q ≡ late setting q
  unfolding overdue_of numerator_of late
  late_is =
      let m' : ℕ = owed_of setting q in
      ap (ltb 0 m' &&◌)
      (difference_most (window_left q) (q.at.e * m') m'
      ∙ ap (leb (window_left q)) (let e : q.at.e * m' + m' ≡ (q.at.e + 1) * m' = omega arith in e))
      ∙ rw (owed_is, left_is)

  tags_is : (chosen : Bool) → tags_of setting q chosen ≡ tags setting q chosen
  unfolding tags_of finishes_of tags finishes
  tags_is chosen = rw late_is

  -- the period is not over, and so neither is the window
  gone_high : SoundPlace setting q → q.at.e ≤ left q
  gone_high sound =
      omega (arith, sound.e_high, mul-le-mul_right q.job.t (let h : 1 ≤ q.job.k - q.at.p + 1 = omega arith in h))

-- two distances, as fractions and as whole slots

fractions :
    (l l' e e' m m' : ℕ)
    → nearer_of (record { num = pos l -ℤ pos (e * m); den = m }) (record { num = pos l' -ℤ pos (e' * m'); den = m' })
    ≡ ltb ((l + e' * m) * m') ((l' + e * m') * m)
fractions l l' e e' m m' =
    let x = pos l -ℤ pos (e * m) in
    let y = pos l' -ℤ pos (e' * m') in
    let a : Fraction = record { num = x; den = m } in
    let b : Fraction = record { num = y; den = m' } in
    nearer_is a b
    ∙ ltb_shift (side a b) (side b a) ((l + e' * m) * m') ((l' + e * m') * m) (e * m * m' + e' * m * m')
    (minus x * m' + minus y * m)
    (omega (arith, ap (◌* m') (difference_parts l (e * m))))
    (omega (arith, ap (◌* m) (difference_parts l' (e' * m'))))

wholes :
    (l l' : ℕ) → nearer_of (record { num = pos l; den = 1 }) (record { num = pos l'; den = 1 }) ≡ ltb l l'
wholes l l' =
    let a : Fraction = record { num = pos l; den = 1 } in
    let b : Fraction = record { num = pos l'; den = 1 } in
    nearer_is a b ∙ ltb_shift (side a b) (side b a) l l' 0 0 (omega arith) (omega arith)

ends_is :
    (setting : Setting) (q r : Place) → SoundPlace setting q → SoundPlace setting r → ltb (left_of q) (left_of r) ≡ ends_sooner q r
unfolding left_of window_left
ends_is setting q r sound-q sound-r =
    let h = gone_high setting q sound-q in
    let g = gone_high setting r sound-r in
    ltb_shift (left_of q) (left_of r) (left q + r.at.e) (left r + q.at.e) (q.at.e + r.at.e) 0 (omega arith) (omega arith)

sooner_is :
    (setting : Setting) (q r : Place) → SoundPlace setting q → SoundPlace setting r
    → nearer_of (due_away setting q) (due_away setting r) ≡ sooner setting q r
unfolding due_away numerator_of sooner owed_of finished_of owed window_left
sooner_is setting q r sound-q sound-r = go (in_order_v setting)
  where
    go :
        (t : Bool)
        → nearer_of
        (cond t (virtual_away setting q) (window_away q)) (cond t (virtual_away setting r) (window_away r))
        ≡ cond t (ltb ((left q + r.at.e * owed setting q) * owed setting r) ((left r + q.at.e * owed setting r) * owed setting q))
        (ends_sooner q r)
    go true = fractions (left q) (left r) q.at.e r.at.e (owed setting q) (owed setting r)
    go false = wholes (left_of q) (left_of r) ∙ ends_is setting q r sound-q sound-r

-- the choice

module _ (s : State) (sound : SoundState s) where
  sooner_at_lem : SameOrder s.count (nearer_at s) (λ i j. sooner s.setting (place_of s i) (place_of s j))
  sooner_at_lem i j h g = sooner_is s.setting (at s i) (at s j) (job_sound sound i h) (job_sound sound j g)

  ends_at_lem : SameOrder s.count (ends_here s) (λ i j. ends_sooner (place_of s i) (place_of s j))
  ends_at_lem i j h g = ends_is s.setting (at s i) (at s j) (job_sound sound i h) (job_sound sound j g)

  due_at_lem : SameTest s.count (eligible_at s) (due_at s)
  due_at_lem i h = due_is s.setting (at s i)

  takes_at_lem : SameTest s.count (takes_here s) (takes_at s)
  takes_at_lem i h = takes_is s.setting (at s i)

  chosen_picks : (j : ℕ) → Chosen s j ↔ Picks s j
  chosen_picks j = Iff.trans (chosen_picked s sound j) (picked_same due_at_lem sooner_at_lem takes_at_lem ends_at_lem j)

  none_idles : NoCandidate s ↔ Idles s
  none_idles = Iff.trans (none_picked s sound) (idle_same due_at_lem sooner_at_lem takes_at_lem ends_at_lem)

-- the place after the slot, and the two sets

module _ (setting : Setting) (q : Place) where
  served_is : (chosen : Bool) → worked_of setting q chosen ≡ served setting q chosen
  unfolding worked_of given_of served_of served
  served_is chosen = rw (tags_is setting q chosen) (go chosen (is_relaxed setting))
    where
      go :
          (given relaxed : Bool)
          → tagged_of
          (cond given
          (cond relaxed (with_service q (q.at.u + 1) q.at.s q.at.v)
          (with_service q q.at.u (cond (eqb (q.at.v + 1) q.job.c) (q.at.s + 1) q.at.s) (q.at.v + 1)))
          q)
          (tags setting q chosen)
          ≡ tagged_of
          (with_service q (cond (given && relaxed) (q.at.u + 1) q.at.u)
          (cond (given && not relaxed && eqb (q.at.v + 1) q.job.c) (q.at.s + 1) q.at.s)
          (cond (given && not relaxed) (q.at.v + 1) q.at.v))
          (tags setting q chosen)
      go true true = refl
      go true false = refl
      go false relaxed = refl

onward_is : (q : Place) → q.at.e < q.job.t → q.at.p ≤ q.job.k → turned_of q ≡ onward q
unfolding turned_of onward
onward_is q gone within = go (eqb (q.at.e + 1) q.job.t) (eqb q.at.p q.job.k) refl refl
  where
    go : (period window : Bool) → period_closes q ≡ period → eqb q.at.p q.job.k ≡ window → turned_of q ≡ onward q
    go false window e f =
        let inside = eqb-false (q.at.e + 1) q.job.t e in
        turned_on q (omega arith) ∙ rw e
    go true false e f =
        let closes = eqb-true (q.at.e + 1) q.job.t e in
        let more = eqb-false q.at.p q.job.k f in
        turned_period q (omega arith) (omega arith) ∙ rw (e, f)
    go true true e f =
        let closes = eqb-true (q.at.e + 1) q.job.t e in
        let last = eqb-true q.at.p q.job.k f in
        turned_window q (omega arith) (omega arith) ∙ rw (e, f)

-- the answer's choice says which place is chosen
given_at : (a i : ℕ) → i < no_place → eqb i a ≡ is_given (choice_of a) i
unfolding choice_of
given_at a i h = go (eqb a no_place) refl
  where
    go : (t : Bool) → eqb a no_place ≡ t → eqb i a ≡ is_given (cond t Idle (Given a)) i
    go true e = ne_eqb i a (let is = eqb-true a no_place e in omega arith)
    go false e = refl

-- and whether none is
some_at : (a j : ℕ) → choice_of a ≡ Given j → eqb a no_place ≡ false
unfolding choice_of
some_at a j = go (eqb a no_place)
  where
    go : (t : Bool) → cond t Idle (Given a) ≡ Given j → t ≡ false
    go true e = absurd (given_idle (sym e))
    go false e = refl

none_at : (a : ℕ) → choice_of a ≡ Idle → eqb a no_place ≡ true
unfolding choice_of
none_at a = go (eqb a no_place)
  where
    go : (t : Bool) → cond t Idle (Given a) ≡ Idle → t ≡ true
    go true e = refl
    go false e = absurd (given_idle e)

module _ (s : State) (sound : SoundState s) where
  abbrev choice : Choice
  choice = (turn_of s).slot.choice

  choice_is : choice ≡ choice_of (chosen_of s)
  unfolding turn_of
  choice_is = refl

  module _ (i : ℕ) (listed : i < s.count) where
    chosen_is : eqb i (chosen_of s) ≡ is_given choice i
    chosen_is =
        given_at (chosen_of s) i (omega (arith, sound.count.high)) ∙ ap (λ (c : Choice). is_given c i) (sym choice_is)

    pub worked_here : worked_of s.setting (at s i) (eqb i (chosen_of s)) ≡ given s choice i
    worked_here = served_is s.setting (at s i) (eqb i (chosen_of s)) ∙ ap (served s.setting (at s i)) chosen_is

    first_here : tags_at s.setting s.places (chosen_of s) i ≡ first_tags s choice i
    unfolding moved_of first_tagged first_tags
    first_here = rw (tags_is s.setting (at s i) (eqb i (chosen_of s)), chosen_is)

    short_here : shorts_at s.setting s.places (chosen_of s) i ≡ ends_short s choice i
    unfolding moved_of short_of ends_short window_ends
    short_here =
        ap₂ (λ (a : Bool) (n : ℕ). a && ltb 0 n) (worked_ends s.setting (at s i) (eqb i (chosen_of s)))
        (ap (owed_of s.setting) worked_here ∙ owed_is s.setting (given s choice i))

    place_here : place_of (turn_of s).state i ≡ onward (given s choice i)
    unfolding moved_of served
    place_here =
        let place = job_sound sound i listed in
        turn_place s sound i listed
        ∙ ap turned_of worked_here
        ∙ onward_is (given s choice i) place.e_high place.period.high

-- the slot

module _ (s : State) (sound : SoundState s) where
  slot_done : SlotDone s (turn_of s).slot (turn_of s).state
  unfolding turn_of all_moved
  slot_done =
      record {
        given_is =
            λ j.
            let a = given_exactly s sound j in
            let b = chosen_picks s sound j in
            (λ e. b.0 (a.0 e), λ p. a.1 (b.1 p));
        idle_is =
            let a = idle_exactly s sound in
            let b = none_idles s sound in
            (λ e. b.0 (a.0 e), λ none. a.1 (b.1 none));
        tags_are =
            mask_exactly (tags_at s.setting s.places (chosen_of s)) (first_tags s (turn_of s).slot.choice) refl (first_here s sound);
        shorts_are =
            mask_exactly (shorts_at s.setting s.places (chosen_of s)) (ends_short s (turn_of s).slot.choice) refl (short_here s sound);
        setting_stays = refl;
        count_stays = refl;
        clock_grows = refl;
        places_long = placed_length s.setting s.places (chosen_of s) s.count ∙ sound.long;
        places_are = place_here s sound;
        others_stay = placed_later s.setting s.places (chosen_of s) s.count;
        given_total = λ j is. let e = some_at (chosen_of s) j is in (rw e, rw e);
        idle_total = λ is. let e = none_at (chosen_of s) is in (rw e, rw e);
        tags_total =
            ap (s.totals.tags +◌)
            (count_is (tags_at s.setting s.places (chosen_of s)) (first_tags s (turn_of s).slot.choice) s.count (first_here s sound));
        shorts_total =
            ap (s.totals.shorts +◌)
            (count_is (shorts_at s.setting s.places (chosen_of s)) (ends_short s (turn_of s).slot.choice) s.count (short_here s sound));
      }

pub steps_slot : StepsSlot
steps_slot s sound below r after promise =
    let told = step_done s sound below in
    ((turn_of s).slot, step_one_to_one r (Ok (turn_of s).slot) (promise.0 ∙ told), rw (promise.1 ∙ state_done s told) (slot_done s sound))
