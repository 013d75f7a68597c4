-- What the choice means: it is a candidate, no candidate comes before it, and of those as near it has the lowest number.
use mathlib.Core.Path.{◌≡◌, refl, sym, ap, subst, ◌∙◌}
use mathlib.Core.Bool.{Bool, true, false, ◌&&◌}
use mathlib.Core.Logic.{◌↔◌, ⊎_elim}
use mathlib.Core.List.{List}
use Prim.Native.Nat.{ℕ, zero, suc, ◌+◌, ◌≤◌, ◌<◌}
use native.Mathlib.Numerals.{add-one}
use native.Mathlib.Omega.{arith}
use borrow.Author.Count.{below_none, below_more}
use lib.Dec.{ltb}
use borrow.Author.Tests.{ne_eqb}
use Rattle.place.specs.declared.setting.Setting.{Setting}
use Rattle.place.specs.declared.record.Place.{Place}
use Rattle.place.specs.declared.inner.choice.Held.{Held}
use Rattle.place.specs.Setting.{order_w}
use Rattle.place.specs.Place.{left_of, eligible_of}
use Rattle.place.specs.Choice.{takes_spare, candidate_of, due_away, nearer_of, sooner_of, held_of, no_place, nobody, better_of}
use Rattle.run.specs.declared.state.State.{State}
use Rattle.run.specs.declared.answer.Choice.TheVariants.{Given, Idle}
use Rattle.run.specs.State.{place_at}
use Rattle.run.specs.Choice.{held_upto, chosen_of}
use Rattle.run.specs.Slot.{choice_of, turn_of}
use Rattle.run.specs.Sound.{SoundState}
use Rattle.run.specs.Best.{Best, None, Picked, by_need, as_spare}
use Rattle.job.proofs.TestLaws.{clash, refuted, both}
use Rattle.place.proofs.CondLaws.{by_test}
use Rattle.place.proofs.PlaceLaws.{eligible_candidate, spare_candidate, candidate_either}
use Rattle.place.proofs.OrderLaws.{sooner_self, sooner_back, sooner_through, better_held, better_nobody, due_sooner, spare_sooner, due_first, window_first}
use Rattle.run.proofs.HereLaws.{at, job_sound}
use Rattle.run.proofs.BestLaws.{best_part, best_one, best_some}

abbrev pub IsCandidate : State → ℕ → Type 0
IsCandidate s i = candidate_of s.setting (at s i) ≡ true

abbrev pub NoCandidate : State → Type 0
NoCandidate s = None s.count (λ i. candidate_of s.setting (at s i))

-- what is held of the first n places

pub one_more_held :
    (setting : Setting) (places : List Place) (i : ℕ) {best next : Held} → best ≡ held_upto setting places i
    → next ≡ better_of setting best i (place_at places i) → next ≡ held_upto setting places (i + 1)
unfolding held_upto
one_more_held setting places i e f =
    rw (add-one i) (f ∙ ap (λ (h : Held). better_of setting h i (place_at places i)) e)

module _ (setting : Setting) (places : List Place) where
  abbrev candidate : ℕ → Bool
  candidate i = candidate_of setting (place_at places i)

  abbrev pub sooner : ℕ → ℕ → Bool
  sooner i j = sooner_of setting (place_at places i) (place_at places j)

  abbrev held : ℕ → Held
  held i = held_of setting i (place_at places i)

  -- place j is the one to choose among the first n
  abbrev pub First : ℕ → ℕ → Type 0
  First n j = Best n candidate sooner j

  data HeldView (n : ℕ) : Held → Type 0 where
    none_held : None n candidate → HeldView n nobody
    one_held : (j : ℕ) → First n j → HeldView n (held j)

  -- a candidate before all those of lower number
  newest : (n : ℕ) → candidate n ≡ true → ((i : ℕ) → i < n → candidate i ≡ true → sooner n i ≡ true) → First (suc n) n
  newest n is first =
      record {
        listed = omega arith;
        may_be = is;
        none_sooner =
            rw (← add-one n)
            (below_more (λ (i : ℕ). candidate i ≡ true → sooner i n ≡ false) n
            (λ i h e. sooner_back setting (place_at places n) (place_at places i) (first i h e))
            (λ e. sooner_self setting (place_at places n)));
        lower_later = first;
      }

  held_more : (n : ℕ) (h : Held) → HeldView n h → HeldView (suc n) (better_of setting h n (place_at places n))
  held_more n h (none_held none) =
      rw (better_nobody setting n (place_at places n))
      (by_test (HeldView (suc n)) (candidate n)
      (λ e. one_held n (newest n e (λ i l is. absurd (clash (none i l) is))))
      (λ e. none_held (rw (← add-one n) (below_more (λ (i : ℕ). candidate i ≡ false) n none e))))
  held_more n h (one_held j best) =
      rw (better_held setting n j (place_at places n) (place_at places j))
      (by_test (HeldView (suc n)) (candidate n && sooner n j)
      (λ e.
      let tests = both (candidate n) (sooner n j) e in
      one_held n
      (newest n tests.0
      (λ i l is.
      sooner_through setting (place_at places n) (place_at places j) (place_at places i) is tests.1 (best.none_sooner i l is))))
      (λ e.
      one_held j
      (record {
        listed = omega (arith, best.listed);
        may_be = best.may_be;
        none_sooner =
            rw (← add-one n)
            (below_more (λ (i : ℕ). candidate i ≡ true → sooner i j ≡ false) n best.none_sooner (λ is. rw is at e));
        lower_later = best.lower_later;
      })))

  held_view : (n : ℕ) → HeldView n (held_upto setting places n)
  unfolding held_upto
  held_view zero = none_held (below_none _)
  held_view (suc n) = held_more n (held_upto setting places n) (held_view n)

-- the choice of a state

abbrev pub Chosen : State → ℕ → Type 0
Chosen s j = First s.setting s.places s.count j

-- a place that is the one to choose, or no place
pub data ChoiceView (s : State) : ℕ → Type 0 where
  none_chosen : NoCandidate s → ChoiceView s no_place
  one_chosen : (j : ℕ) → Chosen s j → ChoiceView s j

pub choice_view : (s : State) → ChoiceView s (chosen_of s)
unfolding chosen_of
choice_view s = go (held_upto s.setting s.places s.count) (held_view s.setting s.places s.count)
  where
    go : (h : Held) → HeldView s.setting s.places s.count h → ChoiceView s h.at
    go h (none_held none) = none_chosen none
    go h (one_held j first) = one_chosen j first

pub chosen_candidate : (s : State) (i : ℕ) → i < no_place → i ≡ chosen_of s → IsCandidate s i
chosen_candidate s i h = go (chosen_of s) (choice_view s)
  where
    go : (a : ℕ) → ChoiceView s a → i ≡ a → IsCandidate s i
    go a (none_chosen none) e = absurd (omega arith)
    go a (one_chosen j c) e = subst (IsCandidate s) (sym e) c.may_be

-- the answer

choice_given : {a : ℕ} → a < no_place → choice_of a ≡ Given a
unfolding choice_of
choice_given {a} h = rw (ne_eqb a no_place (omega arith))

pub given_idle : {j : ℕ} → Given j ≡ Idle → ⊥
given_idle e = let z : ◌≡◌ {A = ℕ} 0 1 = cc in omega arith

given_same : {i j : ℕ} → Given i ≡ Given j → i ≡ j
given_same e = cc

pub given_exactly : (s : State) → SoundState s → (j : ℕ) → ((turn_of s).slot.choice ≡ Given j) ↔ Chosen s j
unfolding turn_of choice_of
given_exactly s sound j = go (chosen_of s) (choice_view s)
  where
    go : (a : ℕ) → ChoiceView s a → (choice_of a ≡ Given j) ↔ Chosen s j
    go a (none_chosen none) =
        (λ e. absurd (given_idle (sym e)), λ c. absurd (best_some c none))
    go a (one_chosen i c) =
        let given : choice_of i ≡ Given i = choice_given (omega (arith, c.listed, sound.count.high)) in
        (λ e. subst (Chosen s) (given_same (sym given ∙ e)) c, λ d. given ∙ ap Given (best_one c d))

pub idle_exactly :
    (s : State) → SoundState s
    → ((turn_of s).slot.choice ≡ Idle) ↔ NoCandidate s
unfolding turn_of choice_of
idle_exactly s sound = go (chosen_of s) (choice_view s)
  where
    go : (a : ℕ) → ChoiceView s a → (choice_of a ≡ Idle) ↔ NoCandidate s
    go a (none_chosen none) = (λ e. none, λ f. refl)
    go a (one_chosen i c) =
        let given : choice_of i ≡ Given i = choice_given (omega (arith, c.listed, sound.count.high)) in
        (λ e. absurd (given_idle (sym given ∙ e)), λ none. absurd (best_some c none))

-- who is picked: the eligible by their deadlines, and else who takes a spare slot by the ends of the windows

module _ (s : State) where
  abbrev pub eligible_at : ℕ → Bool
  eligible_at i = eligible_of s.setting (at s i)

  abbrev pub nearer_at : ℕ → ℕ → Bool
  nearer_at i j = nearer_of (due_away s.setting (at s i)) (due_away s.setting (at s j))

  abbrev pub takes_here : ℕ → Bool
  takes_here i = takes_spare s.setting (at s i)

  abbrev pub ends_here : ℕ → ℕ → Bool
  ends_here i j = ltb (left_of (at s i)) (left_of (at s j))

  abbrev pub PickedAt : ℕ → Type 0
  PickedAt = Picked s.count eligible_at nearer_at takes_here ends_here

module _ (s : State) (sound : SoundState s) where
  due_before : (i j : ℕ) → i < s.count → j < s.count → eligible_at s i ≡ true → takes_here s j ≡ true → sooner s.setting s.places i j ≡ true
  due_before i j h g = due_first s.setting (at s i) (at s j) (job_sound sound i h) (job_sound sound j g)

  module _ (j : ℕ) where
    chosen_due : Chosen s j → eligible_at s j ≡ true → PickedAt s j
    chosen_due c due =
        by_need
        (best_part (λ i h. eligible_candidate s.setting (at s i)) (λ i k _ _. due_sooner s.setting (at s i) (at s k)) due c)

    chosen_spare : Chosen s j → takes_here s j ≡ true → PickedAt s j
    chosen_spare c spare =
        as_spare
        (λ i h. refuted (λ e. clash (c.none_sooner i h (eligible_candidate s.setting (at s i) e)) (due_before i j h c.listed e spare)))
        (best_part (λ i h. spare_candidate s.setting (at s i)) (λ i k _ _. spare_sooner s.setting (at s i) (at s k)) spare c)

    from_due : Best s.count (eligible_at s) (nearer_at s) j → Chosen s j
    from_due b =
        record {
          listed = b.listed;
          may_be = eligible_candidate s.setting (at s j) b.may_be;
          none_sooner =
              λ i h is.
              ⊎_elim (λ e. due_sooner s.setting (at s i) (at s j) e b.may_be ∙ b.none_sooner i h e)
              (λ e. sooner_back s.setting (at s j) (at s i) (due_before j i b.listed h b.may_be e))
              (candidate_either s.setting (at s i) is);
          lower_later =
              λ i h is.
              ⊎_elim (λ e. due_sooner s.setting (at s j) (at s i) b.may_be e ∙ b.lower_later i h e)
              (due_before j i b.listed (omega (arith, b.listed)) b.may_be) (candidate_either s.setting (at s i) is);
        }

    from_spare : None s.count (eligible_at s) → Best s.count (takes_here s) (ends_here s) j → Chosen s j
    from_spare none b =
        best_part alone (λ i k h l a b. sym (spare_sooner s.setting (at s i) (at s k) (alone i h a) (alone k l b)))
        (spare_candidate s.setting (at s j) b.may_be) b
      where
        alone : (i : ℕ) → i < s.count → IsCandidate s i → takes_here s i ≡ true
        alone i h is = ⊎_elim (λ e. absurd (clash (none i h) e)) (λ e. e) (candidate_either s.setting (at s i) is)

    pub chosen_picked : Chosen s j ↔ PickedAt s j
    chosen_picked = (λ c. ⊎_elim (chosen_due c) (chosen_spare c) (candidate_either s.setting (at s j) c.may_be), from)
      where
        from : PickedAt s j → Chosen s j
        from (by_need b) = from_due b
        from (as_spare none b) = from_spare none b

  pub none_picked : NoCandidate s ↔ (None s.count (eligible_at s) × None s.count (takes_here s))
  unfolding candidate_of
  none_picked = (
    λ none.
        (λ i h. refuted (λ e. clash (none i h) (eligible_candidate s.setting (at s i) e)), λ i h. refuted (λ e. clash (none i h) (spare_candidate s.setting (at s i) e))),
    λ none i h. rw (none.0 i h, none.1 i h),
  )

-- in order W, where some are eligible one of them is chosen, and no window of theirs ends sooner
pub window_order_lem :
    (s : State) → SoundState s → s.setting.order ≡ order_w → {j : ℕ} → Chosen s j → (i : ℕ) → i < s.count
    → eligible_of s.setting (at s i) ≡ true → (eligible_of s.setting (at s j) ≡ true) × (left_of (at s j) ≤ left_of (at s i))
window_order_lem s sound order {j} chosen i listed eligible =
    let candidate = eligible_candidate s.setting (at s i) eligible in
    window_first (job_sound sound j chosen.listed) (job_sound sound i listed) order eligible (chosen.none_sooner i listed candidate)
    chosen.may_be
