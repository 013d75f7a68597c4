-- The run of a list from its fresh state, slot by slot: its places, its answers and its totals are those that the rules say of its choices.
use mathlib.Core.Path.{◌≡◌, refl, sym, ap, subst, ◌∙◌}
use mathlib.Core.Bool.{Bool, true, false, ◌||◌, cond}
use mathlib.Core.Logic.Iff
use mathlib.Core.List.{List, [], ◌∷◌, ◌++◌}
use Prim.Native.Nat.{ℕ, zero, suc, ◌+◌, ◌*◌, ◌≤◌, ◌<◌}
use native.Mathlib.Nat.{zero-mod}
use native.Mathlib.Omega.{arith}
use lib.Dec.{eqb, ltb}
use lib.ListN.{take}
use Rattle.job.specs.declared.list.JobList.{JobList}
use Rattle.job.specs.Sound.{SoundList}
use Rattle.place.specs.declared.setting.Setting.{Setting}
use Rattle.place.specs.Sound.{Allowed, SoundPlace}
use Rattle.place.proofs.TagLaws.{Untagged, untagged_opened, untagged_next}
use Rattle.run.specs.declared.state.State.{State}
use Rattle.run.specs.State.{clock_most, place_at, fresh_of}
use Rattle.run.specs.Choice.{chosen_of}
use Rattle.run.specs.Slot.{shorts_at, count_upto, all_moved, turn_of}
use Rattle.run.specs.Sound.{SoundState}
use Rattle.run.specs.Run.{after_slots, choices_of}
use Rattle.run.proofs.FreshLaws.{fresh_listed, fresh_sound}
use Rattle.run.proofs.SlotLaws.{mask_exactly, count_is}
use Rattle.run.proofs.HereLaws.{at, job_sound}
use Rattle.run.proofs.ChoiceLaws.{given_exactly, idle_exactly}
use Rattle.run.proofs.TurnLaws.{next_byte, byte_fair, turn_given, turn_idle, turn_tags, turn_shorts, turn_place}
use Rattle.run.proofs.RunLaws.{after_setting, after_count, after_sound, choices_more, choices_long, choices_take}
use Rattle.run.specs.SlotMeaning.{how_many}
use Rattle.rules.specs.Rules.{count_in, idle_byte, job_of, tags, tagged, first_tags, ends_short}
use Rattle.rules.specs.Meaning.{sum_upto, SlotTold}
use Rattle.rules.proofs.BytesLaws.{count_in_none, count_in_more}
use Rattle.rules.proofs.HistoryLaws.{PlaceHistory, history_starts, history_goes_on}
use Rattle.rules.proofs.ChoiceLaws.{chosen_picks, none_idles}
use Rattle.rules.proofs.SetLaws.{Before, first_here, short_here, short_tags, tag_next}

-- a total that grows by one in each slot whose byte has a property counts the bytes
module _ (s : State) (sound : SoundState s) where
  counted :
      (total : State → ℕ) (f : ℕ → Bool)
      → ((m : ℕ) → SoundState (after_slots s m)
      → total (turn_of (after_slots s m)).state
      ≡ cond (f (next_byte (after_slots s m))) (total (after_slots s m) + 1) (total (after_slots s m)))
      → (n : ℕ) → s.clock + n ≤ clock_most → total (after_slots s n) ≡ total s + count_in f (choices_of s n)
  unfolding after_slots choices_of
  counted total f grows zero high = omega (arith, count_in_none f)
  counted total f grows (suc n) high =
      grows n (after_sound s sound n (omega arith))
      ∙ one_more (f (next_byte (after_slots s n))) (total s) (count_in f (choices_of s n)) (counted total f grows n (omega arith))
      (count_in_more f (choices_of s n) (next_byte (after_slots s n)))
    where
      one_more :
          (t : Bool) (start told : ℕ) {was now : ℕ} → was ≡ start + told → now ≡ cond t (told + 1) told
          → cond t (was + 1) was ≡ start + now
      one_more true start told e g = omega arith
      one_more false start told e g = omega arith

module _ (l : JobList) (setting : Setting) (jobs : SoundList l) (allowed : Allowed setting) where
  abbrev fresh : State
  fresh = fresh_of l setting

  abbrev after : ℕ → State
  after n = after_slots fresh n

  starts_sound : SoundState fresh
  starts_sound = fresh_sound l setting jobs allowed

  pub sound_after : (n : ℕ) → n ≤ clock_most → SoundState (after n)
  sound_after n high = after_sound fresh starts_sound n (omega arith)

  -- the place of a job of the list
  pub place_sound : (n : ℕ) → n ≤ clock_most → (i : ℕ) → i < l.count → SoundPlace setting (at (after n) i)
  place_sound n high i h = rw (after_setting fresh n) at (job_sound (sound_after n high) i (omega (arith, after_count fresh n)))

  fresh_place : (i : ℕ) → i < l.count → PlaceHistory setting (job_of l i) i 0 [] (at fresh i)
  fresh_place i h = rw (fresh_listed l setting jobs.count.high i h) (history_starts setting (job_of l i) (jobs.jobs i h) i)

  -- each place's counters, from slot to slot
  pub places_told :
      (n : ℕ) → n ≤ clock_most → (i : ℕ) → i < l.count → PlaceHistory setting (job_of l i) i n (choices_of fresh n) (at (after n) i)
  unfolding after_slots choices_of
  places_told zero high i h = fresh_place i h
  places_told (suc n) high i h =
      let now : State = after n in
      let sound : SoundState now = sound_after n (omega arith) in
      let inside : i < now.count = omega (arith, after_count fresh n) in
      subst
      (λ (x : Setting). PlaceHistory x (job_of l i) i (suc n) (choices_of fresh n ++ next_byte now ∷ []) (place_at (turn_of now).state.places i))
      (after_setting fresh n)
      (rw (turn_place now sound i inside)
      (history_goes_on now.setting (job_of l i) i n (choices_of fresh n) (at now i)
      (rw (after_setting fresh n) (places_told n (omega arith) i h))
      (rw (after_setting fresh n) (place_sound n (omega arith) i h)) (choices_long fresh n) (next_byte now) (byte_fair now sound i inside)))

  -- while a job has no tag in its window, it lacks no more instances than the window has slots
  pub untagged_after : (n : ℕ) → n ≤ clock_most → (i : ℕ) → i < l.count → Untagged setting (at (after n) i)
  unfolding after_slots
  untagged_after zero high i h = rw (fresh_listed l setting jobs.count.high i h) (untagged_opened setting (job_of l i) (jobs.jobs i h))
  untagged_after (suc n) high i h =
      let now : State = after n in
      subst (λ (x : Setting). Untagged x (place_at (turn_of now).state.places i)) (after_setting fresh n)
      (rw (turn_place now (sound_after n (omega arith)) i (omega (arith, after_count fresh n)))
      (untagged_next (rw (after_setting fresh n) (place_sound n (omega arith) i h)) (eqb (next_byte now) i)
      (rw (after_setting fresh n) (untagged_after n (omega arith) i h))))

  pub given_after : (n : ℕ) → n ≤ clock_most → (after n).totals.given ≡ count_in (λ b. ltb b l.count) (choices_of fresh n)
  given_after n high =
      counted fresh starts_sound (λ x. x.totals.given) (λ b. ltb b l.count)
      (λ m sound-now.
      let now : State = after m in
      turn_given now sound-now
      ∙ ap (λ (count : ℕ). cond (ltb (next_byte now) count) (now.totals.given + 1) now.totals.given) (after_count fresh m))
      n (omega arith)
      ∙ omega arith

  pub idle_after : (n : ℕ) → n ≤ clock_most → (after n).totals.idle ≡ count_in (λ b. eqb b idle_byte) (choices_of fresh n)
  idle_after n high =
      counted fresh starts_sound (λ x. x.totals.idle) (λ b. eqb b idle_byte) (λ m sound-now. turn_idle (after m) sound-now) n (omega arith)
      ∙ omega arith

  -- the bytes of a run of N slots, and its slots and tags by them
  module _ (N : ℕ) (high : N ≤ clock_most) where
    abbrev bytes : List ℕ
    bytes = choices_of fresh N

    before_by :
        (n : ℕ) → n < N → ((i : ℕ) → i < l.count → (at (after n) i).at.tag ≡ tagged l setting bytes n i) → Before l bytes n (after n)
    before_by n h tag =
        let first : take n bytes ≡ choices_of fresh n = choices_take fresh n N (omega arith) in
        record {
          told =
              rw first
              (record {
                sound = sound_after n (omega arith);
                long = choices_long fresh n;
                listed = after_count fresh n;
                jobs_sound = λ i below. rw (after_setting fresh n) (place_sound n (omega arith) i below);
                places = λ i below. rw (after_setting fresh n) (places_told n (omega arith) i below);
              });
          more = choices_take fresh (n + 1) N (omega arith) ∙ choices_more fresh n ∙ ap (◌++ next_byte (after n) ∷ []) (sym first);
          tag = λ i below. rw (after_setting fresh n) (tag i below);
        }

    pub tag_after : (n : ℕ) → n ≤ N → (i : ℕ) → i < l.count → (at (after n) i).at.tag ≡ tagged l setting bytes n i
    unfolding after_slots tagged how_many
    tag_after zero h i listed =
        rw (fresh_listed l setting jobs.count.high i listed, zero-mod ((job_of l i).k * (job_of l i).t))
    tag_after (suc n) h i listed =
        tag_next l jobs bytes n (after n) (before_by n h (tag_after n (omega arith))) i listed
        ∙ ap (λ (x : Setting). tagged l x bytes (suc n) i) (after_setting fresh n)

    before : (n : ℕ) → n < N → Before l bytes n (after n)
    before n h = before_by n h (tag_after n (omega arith))

    module _ (n : ℕ) (h : n < N) where
      abbrev now : State
      now = after n

      same_count : now.count ≡ l.count
      same_count = after_count fresh n

      slot_at : SlotTold l now.setting bytes n (turn_of now).slot
      unfolding turn_of all_moved
      slot_at =
          let b = before n h in
          let told = b.told in
          record {
            given = λ j. Iff.trans (given_exactly now told.sound j) (chosen_picks l jobs n (take n bytes) now told j);
            idle = Iff.trans (idle_exactly now told.sound) (none_idles l jobs n (take n bytes) now told);
            tags = mask_exactly _ (first_tags l now.setting bytes n) same_count (first_here l jobs bytes n now b);
            shorts = mask_exactly _ (ends_short l now.setting bytes n) same_count (short_here l jobs bytes n now b);
          }

      pub slot_told : SlotTold l setting bytes n (turn_of now).slot
      slot_told = subst (λ (x : Setting). SlotTold l x bytes n (turn_of now).slot) (after_setting fresh n) slot_at

      -- a job's window ends short in the slot exactly if the rules say so
      pub short_after : (i : ℕ) → i < l.count → shorts_at now.setting now.places (chosen_of now) i ≡ ends_short l setting bytes n i
      short_after i listed =
          short_here l jobs bytes n now (before n h) i listed ∙ ap (λ (x : Setting). ends_short l x bytes n i) (after_setting fresh n)

      -- a window that ends short has its tag
      pub short_has_tag :
          (i : ℕ) → i < l.count → ends_short l setting bytes n i ≡ true → (tags l setting bytes n i || tagged l setting bytes n i) ≡ true
      short_has_tag i listed =
          subst (λ (x : Setting). ends_short l x bytes n i ≡ true → (tags l x bytes n i || tagged l x bytes n i) ≡ true) (after_setting fresh n)
          (short_tags l jobs bytes n now (before n h) i listed (rw (after_setting fresh n) (untagged_after n (omega arith) i listed)))

      -- a set of the slot has as many jobs as its rule
      sized :
          (f : ℕ → Bool) (rule : Setting → ℕ → Bool) → ((i : ℕ) → i < l.count → f i ≡ rule now.setting i)
          → count_upto f now.count ≡ how_many (rule setting) l.count
      sized f rule same =
          ap (count_upto f) same_count
          ∙ count_is f (rule now.setting) l.count same
          ∙ ap (λ (x : Setting). how_many (rule x) l.count) (after_setting fresh n)

      tags_more : (turn_of now).state.totals.tags ≡ now.totals.tags + how_many (first_tags l setting bytes n) l.count
      tags_more =
          turn_tags now (sound_after n (omega arith))
          ∙ ap (now.totals.tags +◌) (sized _ (λ x. first_tags l x bytes n) (first_here l jobs bytes n now (before n h)))

      shorts_more : (turn_of now).state.totals.shorts ≡ now.totals.shorts + how_many (ends_short l setting bytes n) l.count
      shorts_more =
          turn_shorts now (sound_after n (omega arith))
          ∙ ap (now.totals.shorts +◌) (sized _ (λ x. ends_short l x bytes n) (short_here l jobs bytes n now (before n h)))

    pub tags_after : (n : ℕ) → n ≤ N → (after n).totals.tags ≡ sum_upto (λ i. how_many (first_tags l setting bytes i) l.count) n
    unfolding after_slots sum_upto
    tags_after zero h = refl
    tags_after (suc n) h = omega (arith, tags_more n h, tags_after n (omega arith))

    pub shorts_after : (n : ℕ) → n ≤ N → (after n).totals.shorts ≡ sum_upto (λ i. how_many (ends_short l setting bytes i) l.count) n
    unfolding after_slots sum_upto
    shorts_after zero h = refl
    shorts_after (suc n) h = omega (arith, shorts_more n h, shorts_after n (omega arith))
