-- The statements of specs/TagMeaning: a window that ends short has its tag, and a slot of the window has told it.
use mathlib.Core.Path.{◌≡◌, refl, sym, ap, subst, ◌∙◌}
use mathlib.Core.Bool.{Bool, true, false, ◌||◌}
use mathlib.Core.List.{List}
use Prim.Native.Nat.{ℕ, zero, suc, ◌+◌, ◌*◌, ◌/◌, ◌%◌, ◌≤◌, ◌<◌}
use native.Mathlib.Nat.{mod-le, mod-lt, mul-pos, div-add-mod'}
use native.Mathlib.Omega.{arith}
use lib.Arith.{digits_mod}
use lib.Dec.{ltb, eqb}
use lib.ListN.{length, get_or}
use borrow.Author.Tests.{ltb-true, ltb-false}
use Rattle.job.specs.declared.record.Job.{Job}
use Rattle.job.specs.declared.list.JobList.{JobList}
use Rattle.job.specs.Sound.{SoundJob, SoundList}
use Rattle.job.proofs.TestLaws.{clash}
use Rattle.place.specs.declared.setting.Setting.{Setting}
use Rattle.place.specs.declared.record.Place.{Place}
use Rattle.place.specs.Place.{moved_of}
use Rattle.place.specs.Sound.{Allowed}
use Rattle.place.proofs.TagLaws.{short_tagged}
use Rattle.run.specs.declared.state.State.{State}
use Rattle.run.specs.declared.answer.Slot.{Slot}
use Rattle.run.specs.State.{clock_most, fresh_of}
use Rattle.run.specs.Choice.{chosen_of}
use Rattle.run.specs.Slot.{shorts_at, all_moved, turn_of}
use Rattle.run.specs.Run.{after_slots, choices_of}
use Rattle.run.specs.Calls.{bytes_of}
use Rattle.run.specs.SlotMeaning.{how_many, given}
use Rattle.run.proofs.HereLaws.{job_sound}
use Rattle.run.proofs.SlotLaws.{mask_exactly}
use Rattle.run.proofs.SlotMeaning.{worked_here}
use Rattle.run.proofs.RunLaws.{after_setting, after_count}
use Rattle.run.proofs.CallLaws.{one_slot, run_slots}
use Rattle.rules.specs.Rules.{window_start, job_of, tags, tagged, first_tags, ends_short}
use Rattle.rules.specs.Meaning.{no_slot, RunTold}
use Rattle.rules.specs.TagMeaning.{Member, TagTold, ShortsTold, ShortsTagged}
use Rattle.rules.proofs.SetLaws.{some_more}
use Rattle.rules.proofs.RunLaws.{sound_after, untagged_after, short_has_tag}
use Rattle.rules.proofs.Meaning.{run_short, run_follows}

-- the first number below n that has a property
record First (f : ℕ → Bool) (n : ℕ) : Type 0 where
  number : ℕ
  below : number < n
  has : f number ≡ true
  none_before : how_many f number ≡ 0

first : (f : ℕ → Bool) (n : ℕ) → ltb 0 (how_many f n) ≡ true → First f n
unfolding how_many
first f zero some = absurd (omega (arith, ltb-true 0 0 some))
first f (suc n) some = go (ltb 0 (how_many f n)) refl (first f n)
  where
    go : (b : Bool) → ltb 0 (how_many f n) ≡ b → (ltb 0 (how_many f n) ≡ true → First f n) → First f (suc n)
    go true e earlier =
        let one = earlier e in
        record { number = one.number; below = omega (arith, one.below); has = one.has; none_before = one.none_before }
    go false e earlier =
        record {
          number = n;
          below = omega arith;
          has = here (f n) refl;
          none_before = omega (arith, ltb-false 0 (how_many f n) e);
        }
      where
        here : (b : Bool) → f n ≡ b → b ≡ true
        here true is = refl
        here false is = absurd (clash e (rw is at some))

-- slots that answer each first tag of job j up to slot n have told the tag that it has after that slot
module _
    (l : JobList) (setting : Setting) (bytes : List ℕ) (slots : List Slot) (n j : ℕ) (sound : SoundJob (job_of l j))
    (answered : (i : ℕ) → i ≤ n → first_tags l setting bytes i j ≡ true → Member j (get_or slots i no_slot).tags)
  where
    abbrev job : Job
    job = job_of l j

    abbrev window : ℕ
    window = job.k * job.t

    abbrev start : ℕ
    start = window_start job n

    -- slot i of the window tags
    abbrev tags_in : ℕ → Bool
    tags_in i = tags l setting bytes (start + i) j

    here : start + n % window ≡ n
    here = omega (arith, mod-le n window)

    none_tagged : (i : ℕ) → i < window → how_many tags_in i ≡ 0 → tagged l setting bytes (start + i) j ≡ false
    unfolding tagged
    none_tagged i inside none =
        let whole : start ≡ n / window * window = omega (arith, div-add-mod' n window) in
        let gone : (start + i) % window ≡ i = ap (λ (x : ℕ). (x + i) % window) whole ∙ digits_mod (n / window) inside in
        let same : window_start job (start + i) ≡ start = omega (arith, gone) in
        rw (same, gone, none)

    tag_told : (tags l setting bytes n j || tagged l setting bytes n j) ≡ true → TagTold slots j start n
    unfolding tagged how_many
    tag_told has =
        let some : ltb 0 (how_many tags_in (suc (n % window))) ≡ true =
        some_more (tags_in (n % window)) (how_many tags_in (n % window)) ∙ rw here has in
        let one : First tags_in (suc (n % window)) = first tags_in (suc (n % window)) some in
        let inside : one.number < window = omega (arith, one.below, mod-lt n (mul-pos sound.k.low sound.t.low)) in
        let upto : start + one.number ≤ n = omega (arith, here, one.below) in
        record {
          slot = start + one.number;
          not_before = omega arith;
          not_after = upto;
          told = answered (start + one.number) upto (rw (one.has, none_tagged one.number inside one.none_before));
        }

pub shorts_told : ShortsTold
shorts_told l setting jobs allowed slots state run n j h bit =
    let told : RunTold l setting slots state = run_follows l setting jobs allowed slots state run in
    let short = ((told.slots_are n h).shorts j).0 bit in
    let same : choices_of (fresh_of l setting) (length slots) ≡ bytes_of slots = sym (run_slots run).bytes_are in
    tag_told l setting (bytes_of slots) slots n j (jobs.jobs j short.0)
    (λ i upto tag. ((told.slots_are i (omega arith)).tags j).1 (short.0, tag))
    (subst (λ (b : List ℕ). ends_short l setting b n j ≡ true → (tags l setting b n j || tagged l setting b n j) ≡ true) same
    (short_has_tag l setting jobs allowed (length slots) (run_short l setting jobs allowed slots state run) n h j short.0) short.1)

-- the place of a run's state, when the tags of its next slot are in
module _ (l : JobList) (setting : Setting) (jobs : SoundList l) (allowed : Allowed setting) (n : ℕ) (high : n ≤ clock_most) where
  abbrev now : State
  now = after_slots (fresh_of l setting) n

  tagged_here : (j : ℕ) → Member j (turn_of now).slot.shorts → (given now (turn_of now).slot.choice j).at.tag ≡ true
  unfolding turn_of all_moved moved_of
  tagged_here j bit =
      let sound = sound_after l setting jobs allowed n high in
      let short = (mask_exactly (shorts_at now.setting now.places (chosen_of now)) _ refl (λ i h. refl) j).0 bit in
      ap (λ (q : Place). q.at.tag) (sym (worked_here now sound j short.0))
      ∙ short_tagged (job_sound sound j short.0) (eqb j (chosen_of now))
      (rw (after_setting (fresh_of l setting) n) (untagged_after l setting jobs allowed n high j (omega (arith, short.0, after_count (fresh_of l setting) n))))
      short.1

pub shorts_tagged : ShortsTagged
shorts_tagged l setting jobs allowed slots state run r after promise slot done j =
    rw (one_slot r promise done).slot_is
    (subst (λ (s : State). Member j (turn_of s).slot.shorts → (given s (turn_of s).slot.choice j).at.tag ≡ true)
    (sym (run_slots run).state_is)
    (tagged_here l setting jobs allowed (length slots) (run_short l setting jobs allowed slots state run) j))
