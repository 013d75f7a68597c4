-- The statements of specs/Meaning: a run keeps the rules, nothing else does, and there is a run of every length.
use mathlib.Core.Path.{◌≡◌, refl, sym, ap, ap₂, subst, ◌∙◌}
use mathlib.Core.List.{List, [], ◌∷◌, ◌++◌}
use Prim.Native.Nat.{ℕ, zero, suc, ◌≤◌, ◌<◌}
use native.Mathlib.Nat.{le_refl}
use native.Mathlib.Omega.{arith}
use lib.ListN.{length, get_or, take}
use lib.Seq.{take-suc, take_all}
use Rattle.job.specs.declared.list.JobList.{JobList}
use Rattle.std.specs.Prelude.{Ok, Err}
use Rattle.job.specs.declared.refusal.Refusal.TheVariants.{ClockAtLimit}
use Rattle.job.specs.Sound.{SoundList}
use Rattle.job.proofs.ToldLaws.{checked_one_to_one}
use Rattle.job.proofs.Meaning.{passes_exactly}
use Rattle.place.specs.declared.setting.Setting.{Setting}
use Rattle.place.specs.Sound.{Allowed}
use Rattle.run.specs.declared.state.State.{State}
use Rattle.run.specs.declared.answer.Choice.{Choice}
use Rattle.run.specs.declared.answer.Choice.TheVariants.{Given, Idle}
use Rattle.run.specs.declared.answer.Slot.{Slot}
use Rattle.run.specs.State.{clock_most, fresh_of}
use Rattle.run.specs.Slot.{turn_of}
use Rattle.run.specs.Sound.{SoundState}
use Rattle.run.specs.Answer.{byte_of}
use Rattle.run.specs.Step.{start_state}
use Rattle.run.specs.Run.{after_slots, choices_of}
use Rattle.run.specs.Calls.{Steps, Run, bytes_of}
use Rattle.place.specs.Meaning.{place_of_zeros}
use Rattle.run.proofs.StartLaws.{start_checks, state_passed}
use Rattle.run.proofs.HereLaws.{past_blank}
use Rattle.run.proofs.FreshLaws.{fresh_sound}
use Rattle.run.proofs.AnswerLaws.{StepView, out_of_range, at_limit, goes_on_lem, step_view, step_one_to_one}
use Rattle.run.proofs.RunLaws.{after_setting, after_count, after_clock, choices_long, choices_take, choice_at}
use Rattle.run.proofs.CallLaws.{Slots, answers_of, slots_at, answers_long, steps_clock, steps_exist, run_slots}
use Rattle.rules.specs.Rules.{idle_byte, job_of, Chooses, picked, idled, Follows}
use Rattle.rules.specs.Meaning.{SlotTold, PlaceTold, StateTold, no_slot, RunTold, RunFollows, OnlyRun, FollowsDue, OffKeeps, RunStarts, RunGoesOn, RunExists}
use Rattle.rules.proofs.HistoryLaws.{PlaceHistory}
use Rattle.rules.proofs.PlaceLaws.{u_told, v_told, s_told}
use Rattle.rules.proofs.ChoiceLaws.{one_choice, off_chooses, chooses_off}
use Rattle.rules.proofs.RunLaws.{sound_after, place_sound, places_told, given_after, idle_after, tag_after, slot_told, tags_after, shorts_after}

-- a slot that is answered by the rules has the byte that they call for
chooses_byte :
    {l : JobList} {setting : Setting} {bytes : List ℕ} {n : ℕ} {slot : Slot} → SlotTold l setting bytes n slot
    → Chooses l setting n (take n bytes) (byte_of slot.choice)
chooses_byte {l} {setting} {bytes} {n} {slot} told = go slot.choice refl
  where
    go : (c : Choice) → slot.choice ≡ c → Chooses l setting n (take n bytes) (byte_of c)
    go (Given j) e = picked j ((told.given j).0 e)
    go Idle e = idled (told.idle.0 e)

module _ (l : JobList) (setting : Setting) (jobs : SoundList l) (allowed : Allowed setting) where
  abbrev fresh : State
  fresh = fresh_of l setting

  -- n slots of the fresh state keep the rules
  module _ (n : ℕ) (high : n ≤ clock_most) where
    abbrev bytes : List ℕ
    bytes = choices_of fresh n

    all : take n bytes ≡ bytes
    all = choices_take fresh n n (le_refl n)

    long : length bytes ≡ n
    long = choices_long fresh n

    choices_follow : Follows l setting bytes
    choices_follow i h =
        let inside : i < n = omega (arith, long) in
        subst (Chooses l setting i (take i bytes)) (sym (choice_at fresh idle_byte n i inside))
        (chooses_byte (slot_told l setting jobs allowed n high i inside))

    place_told : (j : ℕ) → j < l.count → PlaceTold l setting bytes n j (get_or (after_slots fresh n).places j place_of_zeros)
    place_told j listed =
        let now : State = after_slots fresh n in
        let sound : SoundState now = sound_after l setting jobs allowed n high in
        let history : PlaceHistory setting (job_of l j) j n bytes (get_or now.places j place_of_zeros) = places_told l setting jobs allowed n high j listed in
        let place = place_sound l setting jobs allowed n high j listed in
        record {
          job_is = history.same_job;
          e_is = history.e_is;
          p_is = history.p_is;
          u_is = u_told setting (job_of l j) j n bytes _ history place (jobs.jobs j listed) long;
          s_is = s_told setting (job_of l j) j n bytes _ history place (jobs.jobs j listed) long;
          v_is = v_told setting (job_of l j) j n bytes _ history place (jobs.jobs j listed) long;
          tag_is = tag_after l setting jobs allowed n high n (le_refl n) j listed;
        }

    state_told : StateTold l setting bytes (after_slots fresh n)
    state_told =
        let sound : SoundState (after_slots fresh n) = sound_after l setting jobs allowed n high in
        record {
          setting_is = after_setting fresh n;
          clock_is = after_clock fresh n ∙ omega (arith, long);
          count_is = after_count fresh n;
          places_long = sound.long;
          places_are = rw long place_told;
          others_are = λ j past h. past_blank sound j (omega (arith, after_count fresh n));
          given_is = given_after l setting jobs allowed n high;
          idle_is = idle_after l setting jobs allowed n high;
          tags_is = rw long (tags_after l setting jobs allowed n high n (le_refl n));
          shorts_is = rw long (shorts_after l setting jobs allowed n high n (le_refl n));
        }

  module _ (slots : List Slot) (state : State) (run : Run l setting slots state) where
    run_is : Slots fresh slots state
    run_is = run_slots run

    pub run_short : length slots ≤ clock_most
    run_short =
        let started = run.promise.1 ∙ state_passed l setting (start_checks l setting allowed ∙ (passes_exactly l).1 jobs) in
        let high = steps_clock (fresh_sound l setting jobs allowed) (subst (λ (s : State). Steps s slots state) started run.steps) in
        omega arith

    run_told : RunTold l setting slots state
    run_told =
        let n : ℕ = length slots in
        let same : choices_of fresh n ≡ bytes_of slots = sym run_is.bytes_are in
        record {
          follows = subst (Follows l setting) same (choices_follow n run_short);
          long = sym (ap length same) ∙ choices_long fresh n;
          slots_are =
              λ i h.
              subst (SlotTold l setting (bytes_of slots) i) (sym (slots_at no_slot run_is i h))
              (subst (λ (b : List ℕ). SlotTold l setting b i (turn_of (after_slots fresh i)).slot) same
              (slot_told l setting jobs allowed n run_short i h));
          state_is =
              subst (StateTold l setting (bytes_of slots)) (sym run_is.state_is)
              (subst (λ (b : List ℕ). StateTold l setting b (after_slots fresh n)) same (state_told n run_short));
        }

pub run_follows : RunFollows
run_follows = run_told

-- two lists of one length that keep the rules are one
pub follows_same :
    (l : JobList) (setting : Setting) (a b : List ℕ) → length a ≡ length b → Follows l setting a → Follows l setting b → a ≡ b
follows_same l setting a b same fa fb =
    sym (take_all (length a) a (le_refl (length a)))
    ∙ upto (length a) (le_refl (length a))
    ∙ take_all (length a) b (omega arith)
  where
    upto : (n : ℕ) → n ≤ length a → take n a ≡ take n b
    upto zero h = refl
    upto (suc n) h =
        let before : take n a ≡ take n b = upto n (omega arith) in
        let here : get_or a n idle_byte ≡ get_or b n idle_byte =
        one_choice l setting n (take n b)
        (subst (λ (seen : List ℕ). Chooses l setting n seen (get_or a n idle_byte)) before (fa n h)) (fb n (omega arith)) in
        take-suc a n idle_byte h ∙ ap₂ (λ (x : List ℕ) (y : ℕ). x ++ y ∷ []) before here ∙ sym (take-suc b n idle_byte (omega arith))

pub only_run : OnlyRun
only_run l setting jobs allowed slots state run bytes long follows =
    let told = run_told l setting jobs allowed slots state run in
    follows_same l setting bytes (bytes_of slots) (long ∙ sym told.long) follows told.follows

pub off_keeps : OffKeeps
off_keeps l setting jobs allowed off slots state run bytes long = (
  λ follows. only_run l setting jobs allowed slots state run bytes long (λ n h. off_chooses l setting off n _ (follows n h)),
  λ same.
      subst (FollowsDue l setting) (sym same)
      (λ n h. chooses_off l setting off n _ ((run_told l setting jobs allowed slots state run).follows n h)),
)

pub run_starts : RunStarts
run_starts l setting jobs allowed r promise =
    checked_one_to_one r.answer (Ok tt) (promise.0 ∙ start_checks l setting allowed ∙ (passes_exactly l).1 jobs)

pub run_goes_on : RunGoesOn
run_goes_on l setting jobs allowed slots state run r after promise = go (step_view state)
  where
    clock : state.clock ≡ length slots
    clock =
        let told = run_told l setting jobs allowed slots state run in
        told.state_is.clock_is ∙ told.long

    sound : SoundState state
    sound =
        rw (run_is l setting jobs allowed slots state run).state_is
        (sound_after l setting jobs allowed (length slots) (run_short l setting jobs allowed slots state run))

    go :
        StepView state
        → (length slots < clock_most → (slot : Slot) × (r ≡ Ok slot)) × (length slots ≡ clock_most → r ≡ Err ClockAtLimit)
    go (out_of_range broken e) = absurd (broken sound)
    go (at_limit good last e) =
        (λ below. absurd (omega (arith, clock)), λ at. step_one_to_one r (Err ClockAtLimit) (promise.0 ∙ e))
    go (goes_on_lem good below e) = (
      λ h. ((turn_of state).slot, step_one_to_one r (Ok (turn_of state).slot) (promise.0 ∙ e)),
      λ at. absurd (below (clock ∙ at)),
    )

pub run_exists : RunExists
run_exists l setting jobs allowed n high =
    let told = start_checks l setting allowed ∙ (passes_exactly l).1 jobs in
    let fresh = fresh_of l setting in
    record {
      slots = answers_of fresh n;
      state = after_slots fresh n;
      long = answers_long fresh n;
      run =
          record {
            started = record { answer = Ok tt; state = start_state l setting };
            promise = (sym told, refl);
            passes = refl;
            steps = rw (state_passed l setting told) (steps_exist n fresh (fresh_sound l setting jobs allowed) (omega arith));
          };
    }
