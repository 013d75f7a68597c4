-- The writer's loop: what holds before each slot, and along its pass over the places.
use mathlib.Core.Path.{◌≡◌, refl, sym, ap, subst, ◌∙◌}
use mathlib.Core.Bool.{true, cond}
use mathlib.Core.List.{List, [], ◌∷◌, ◌++◌}
use Prim.Native.Nat.{ℕ, zero, suc, ◌+◌, ◌*◌, ◌≤◌, ◌<◌}
use native.Mathlib.Numerals.{add-one}
use native.Mathlib.Omega.{arith}
use lib.Dec.{eqb}
use lib.ListN.{length, take, set, length-set}
use lib.Seq.{get_or-set_same, get_or-set_other, take_all, take-suc-set}
use borrow.Author.Tests.{eqb-true}
use Rattle.job.specs.Limit.{count_most}
use Rattle.place.specs.declared.setting.Setting.{Setting}
use Rattle.place.specs.declared.record.Place.{Place}
use Rattle.place.specs.declared.inner.service.Outcome.{Outcome}
use Rattle.place.specs.declared.inner.choice.Held.{Held}
use Rattle.place.specs.Opening.{blank}
use Rattle.place.specs.Place.{moved_of}
use Rattle.place.specs.Choice.{candidate_of, no_place, nobody, better_of}
use Rattle.place.specs.Sound.{SoundPlace}
use Rattle.run.specs.declared.state.Totals.{Totals}
use Rattle.run.specs.declared.state.State.{State}
use Rattle.run.specs.State.{clock_most, sets_most, place_at}
use Rattle.run.specs.Choice.{held_upto, chosen_of}
use Rattle.run.specs.Slot.{choice_of, moved_at, places_upto, count_upto, tags_at, shorts_at, all_moved, counted_of, turn_of}
use Rattle.run.specs.Sound.{SoundState}
use Rattle.run.specs.Answer.{byte_of}
use Rattle.run.specs.Run.{after_slots, choices_of}
use Rattle.place.proofs.PlaceLaws.{moved_sound}
use Rattle.run.proofs.HereLaws.{job_sound}
use Rattle.run.proofs.SlotLaws.{placed_length, placed_now, place_more, count_high, count_more}
use Rattle.run.proofs.ChoiceLaws.{ChoiceView, none_chosen, one_chosen, choice_view, chosen_candidate}
use Rattle.run.proofs.RunLaws.{after_more, choices_more, after_setting, after_count, after_clock, after_sound}

-- what is known of the places as a slot begins
pub record Ready (setting : Setting) (count : ℕ) (places : List Place) (chosen : ℕ) : Type 0 where
  pub few : count ≤ count_most
  pub long : length places ≡ count_most
  pub sound : (i : ℕ) → i < count → SoundPlace setting (place_at places i)
  pub fair : (i : ℕ) → i < count → i ≡ chosen → candidate_of setting (place_at places i) ≡ true

-- the first i places are moved on, and `best` is the one of them to choose for the next slot
pub record Passing
    (setting : Setting) (before : List Place) (chosen count : ℕ) (places : List Place) (best : Held) (tagged short i : ℕ) : Type 0
  where
    pub ready : Ready setting count before chosen
    pub within : i ≤ count
    pub places_are : places ≡ places_upto setting before chosen i
    pub best_is : best ≡ held_upto setting places i
    pub tagged_is : tagged ≡ count_upto (tags_at setting before chosen) i
    pub short_is : short ≡ count_upto (shorts_at setting before chosen) i

-- the choice among the first n places looks at no place behind them
held_below :
    (setting : Setting) (places : List Place) (i : ℕ) (q : Place) (n : ℕ) → n ≤ i
    → held_upto setting (set places i q) n ≡ held_upto setting places n
unfolding held_upto
held_below setting places i q zero h = refl
held_below setting places i q (suc n) h =
    let same : place_at (set places i q) n ≡ place_at places n = get_or-set_other places i n q blank (omega arith) in
    rw (held_below setting places i q n (omega arith), same)

held_next :
    (setting : Setting) (places : List Place) (i : ℕ) (q : Place) → i < length places
    → held_upto setting (set places i q) (i + 1) ≡ better_of setting (held_upto setting places i) i q
unfolding held_upto
held_next setting places i q h =
    rw (add-one i)
    (let same : place_at (set places i q) i ≡ q = get_or-set_same places i q blank h in
    rw (held_below setting places i q i (omega arith), same))

module _ (setting : Setting) (before : List Place) (chosen count : ℕ) where
  pub pass_starts :
      {best : Held} → Ready setting count before chosen → best ≡ nobody → Passing setting before chosen count before best 0 0 0
  unfolding places_upto count_upto held_upto
  pass_starts ready e =
      record {
        ready = ready;
        within = omega arith;
        places_are = refl;
        best_is = e;
        tagged_is = refl;
        short_is = refl;
      }

module _
    {setting : Setting} {before : List Place} {chosen count : ℕ} {places : List Place} {best : Held} {tagged short i : ℕ}
    (p : Passing setting before chosen count places best tagged short i) where
  pub pass_counts : (tagged ≤ count_most) × (short ≤ count_most)
  pass_counts =
      let few = p.ready.few in
      let within = p.within in (
        rw p.tagged_is (omega (arith, count_high (tags_at setting before chosen) i)),
        rw p.short_is (omega (arith, count_high (shorts_at setting before chosen) i)),
      )

  pass_reads : place_at places i ≡ place_at before i
  pass_reads = placed_now setting before chosen i p.places_are

  pass_long : length places ≡ count_most
  pass_long = ap length p.places_are ∙ placed_length setting before chosen i ∙ p.ready.long

  module _ (listed : i < count) where
    pub pass_sound : SoundPlace setting (place_at places i)
    pass_sound = rw pass_reads (p.ready.sound i listed)

    pub pass_fair : eqb i chosen ≡ true → candidate_of setting (place_at places i) ≡ true
    pass_fair e = rw pass_reads (p.ready.fair i listed (eqb-true i chosen e))

    module _ {o : Outcome} (moves : o ≡ moved_of setting (place_at places i) (eqb i chosen)) where
      pub pass_moved_sound : SoundPlace setting o.place
      pass_moved_sound = rw moves (moved_sound pass_sound pass_fair)

      pub pass_more :
          {best' : Held} {tagged' short' : ℕ} → best' ≡ better_of setting best i o.place
          → tagged' ≡ cond o.tagged (tagged + 1) tagged → short' ≡ cond o.short (short + 1) short
          → Passing setting before chosen count (set places i o.place) best' tagged' short' (i + 1)
      pass_more b t s =
          let here : o ≡ moved_at setting before chosen i =
          moves ∙ ap (λ (q : Place). moved_of setting q (eqb i chosen)) pass_reads in
          record {
            ready = p.ready;
            within = omega arith;
            places_are = place_more setting before chosen i p.places_are here;
            best_is =
                b
                ∙ ap (λ (h : Held). better_of setting h i o.place) p.best_is
                ∙ sym (held_next setting places i o.place (omega (arith, pass_long, p.ready.few)));
            tagged_is = count_more (tags_at setting before chosen) i (ap (λ (x : Outcome). x.tagged) here) p.tagged_is t;
            short_is = count_more (shorts_at setting before chosen) i (ap (λ (x : Outcome). x.short) here) p.short_is s;
          }

  pub pass_done : i ≡ count → Passing setting before chosen count places best tagged short count
  pass_done e = subst (Passing setting before chosen count places best tagged short) e p

-- n slots of the buffer are written
pub record Filling (s : State) (len : ℕ) (buf : List ℕ) (places : List Place) (totals : Totals) (chosen n : ℕ) : Type 0 where
  pub sound : SoundState s
  pub room : s.clock + len ≤ clock_most
  pub within : n ≤ len
  pub long : length buf ≡ len
  pub places_are : places ≡ (after_slots s n).places
  pub totals_are : totals ≡ (after_slots s n).totals
  pub chosen_is : chosen ≡ chosen_of (after_slots s n)
  pub written : take n buf ≡ choices_of s n

pub fill_starts :
    {s : State} → SoundState s → (buf : List ℕ) → s.clock + length buf ≤ clock_most → {chosen : ℕ} → chosen ≡ chosen_of s
    → Filling s (length buf) buf s.places s.totals chosen 0
unfolding after_slots choices_of
fill_starts sound buf room e =
    record {
      sound = sound;
      room = room;
      within = omega arith;
      long = refl;
      places_are = refl;
      totals_are = refl;
      chosen_is = e;
      written = refl;
    }

chosen_high : (g : State) → g.count ≤ count_most → chosen_of g ≤ no_place
chosen_high g few = go (chosen_of g) (choice_view g)
  where
    go : (j : ℕ) → ChoiceView g j → j ≤ no_place
    go j (none_chosen none) = omega arith
    go j (one_chosen _ c) = omega (arith, c.listed)

-- the slot that a state is before, as the pass computes it
module _ (g : State) where
  turn_places : (turn_of g).state.places ≡ places_upto g.setting g.places (chosen_of g) g.count
  unfolding turn_of all_moved
  turn_places = refl

  turn_totals :
      (turn_of g).state.totals
      ≡ counted_of g.totals (eqb (chosen_of g) no_place) (count_upto (tags_at g.setting g.places (chosen_of g)) g.count)
      (count_upto (shorts_at g.setting g.places (chosen_of g)) g.count)
  unfolding turn_of all_moved
  turn_totals = refl

  turn_chosen : chosen_of (turn_of g).state ≡ (held_upto g.setting (turn_of g).state.places g.count).at
  unfolding turn_of chosen_of
  turn_chosen = refl

  turn_byte : byte_of (turn_of g).slot.choice ≡ byte_of (choice_of (chosen_of g))
  unfolding turn_of
  turn_byte = refl

module _
    {s : State} {len : ℕ} {buf : List ℕ} {places : List Place} {totals : Totals} {chosen n : ℕ}
    (f : Filling s len buf places totals chosen n) where
  here_sound : SoundState (after_slots s n)
  here_sound = after_sound s f.sound n (omega (arith, f.within, f.room))

  pub fill_chosen : chosen ≤ no_place
  fill_chosen = rw f.chosen_is (chosen_high (after_slots s n) here_sound.count.high)

  pub fill_ready : Ready s.setting s.count places chosen
  fill_ready =
      record {
        few = f.sound.count.high;
        long = ap length f.places_are ∙ here_sound.long;
        sound =
            λ i h.
            subst (λ (x : Setting). SoundPlace x (place_at places i)) (after_setting s n)
            (rw f.places_are (job_sound here_sound i (omega (arith, after_count s n))));
        fair =
            λ i h e.
            subst (λ (x : Setting). candidate_of x (place_at places i) ≡ true) (after_setting s n)
            (rw f.places_are (chosen_candidate (after_slots s n) i (omega (arith, f.sound.count.high)) (e ∙ f.chosen_is)));
      }

  pub fill_totals : n < len → (totals.given + totals.idle < clock_most) × (totals.tags ≤ sets_most * clock_most) × (totals.shorts ≤ sets_most * clock_most)
  fill_totals h =
      let g = here_sound in
      rw f.totals_are (omega (arith, g.slots, g.tags_high, g.shorts_high, after_clock s n, f.room))

  pub fill_more :
      {places' : List Place} {best : Held} {tagged short : ℕ} {byte : ℕ} {totals' : Totals} → n < len
      → Passing s.setting places chosen s.count places' best tagged short s.count
      → byte ≡ byte_of (choice_of chosen) → totals' ≡ counted_of totals (eqb chosen no_place) tagged short
      → Filling s len (set buf n byte) places' totals' best.at (n + 1)
  fill_more {places'} {best} {tagged} {short} {byte} {totals'} h p b t =
      let g = after_slots s n in
      let moved : places' ≡ (turn_of g).state.places =
      cc (p.places_are, f.places_are, f.chosen_is, after_setting s n, after_count s n, turn_places g) in
      record {
        sound = f.sound;
        room = f.room;
        within = omega arith;
        long = length-set buf n byte ∙ f.long;
        places_are = rw (after_more s n) moved;
        totals_are =
            rw (after_more s n)
            (cc (t, p.tagged_is, p.short_is, f.totals_are, f.places_are, f.chosen_is, after_setting s n, after_count s n, turn_totals g));
        chosen_is =
            rw (after_more s n)
            (cc (ap (λ (x : Held). x.at) p.best_is, moved, after_setting s n, after_count s n, turn_chosen g));
        written =
            let last : byte ≡ byte_of (turn_of g).slot.choice = cc (b, f.chosen_is, turn_byte g) in
            let shown : take (n + 1) (set buf n byte) ≡ take n buf ++ byte ∷ [] =
            rw (add-one n) (take-suc-set buf n byte (omega (arith, f.long))) in
            shown ∙ cc (f.written, last, choices_more s n);
      }

  -- the whole buffer is written
  module _ (all : n ≡ len) where
    pub done_state :
        ◌≡◌ {A = State}
        (record { setting = s.setting; clock = s.clock + length buf; count = s.count; places = places; totals = totals })
        (after_slots s len)
    done_state =
        rw (f.long, ← all)
        (λ dim.
        record {
          setting = sym (after_setting s n) dim;
          clock = sym (after_clock s n) dim;
          count = sym (after_count s n) dim;
          places = f.places_are dim;
          totals = f.totals_are dim;
        })

    pub done_bytes : buf ≡ choices_of s len
    done_bytes = sym (take_all n buf (omega (arith, f.long))) ∙ f.written ∙ ap (choices_of s) all
