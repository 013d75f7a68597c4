-- The statements of specs/Meaning about a timetable.
use mathlib.Core.Path.{◌≡◌, refl, sym, ap, ap₂, subst, ◌∙◌}
use mathlib.Core.Bool.{Bool, true, false, cond}
use mathlib.Core.Logic.{◌↔◌}
use mathlib.Core.List.{List, []}
use Prim.Native.Nat.{ℕ, ◌+◌, ◌≤◌, ◌<◌}
use native.Mathlib.Omega.{arith}
use lib.Dec.{leb, eqb}
use lib.ListN.{length, take, drop}
use borrow.Author.Tests.{leb-true, leb-false}
use Rattle.std.specs.Prelude.{Ok}
use Rattle.job.specs.Told.{Told, row, passed, told_checked}
use Rattle.job.proofs.TestLaws.{clash}
use Rattle.run.specs.declared.state.State.{State}
use Rattle.run.specs.State.{clock_most}
use Rattle.run.specs.Range.{state_in_range}
use Rattle.run.specs.Sound.{SoundState}
use Rattle.run.specs.Run.{after_slots, choices_of}
use Rattle.job.proofs.ToldLaws.{checked_one_to_one}
use Rattle.run.proofs.RangeLaws.{range_exactly}
use Rattle.run.proofs.CallLaws.{answers_of, answers_long, steps_slots, steps_exist}
use Rattle.text.specs.Written.{written}
use Rattle.text.proofs.WrittenLaws.{written_none, written_length, written_twice as text-twice}
use Rattle.text.proofs.WrittenParts.{written_part, written_front, written_rest}
use Rattle.run.proofs.RunLaws.{after_add, choices_add, choices_long, after_clock, after_sound}
use Rattle.timetable.specs.Table.{write_told, writes, write_state, write_bytes}
use Rattle.timetable.specs.Meaning.{Room, WritesSteps, WriteAnswers, WrittenTwice}

-- how a call ends
data WriteView (s : State) (len offset n : ℕ) : Told → Type 0 where
  out_of_range : (SoundState s → ⊥) → WriteView s len offset n (row 10 [])
  too_short : SoundState s → len < offset + n → WriteView s len offset n (row 12 [])
  past_clock : SoundState s → offset + n ≤ len → clock_most < s.clock + n → WriteView s len offset n (row 11 [])
  writes_on : Room s len offset n → WriteView s len offset n passed

write_view : (s : State) (len offset n : ℕ) → WriteView s len offset n (write_told s len offset n)
unfolding write_told
write_view s len offset n = go (state_in_range s) (leb (offset + n) len) (leb (s.clock + n) clock_most) refl refl refl
  where
    go :
        (a b c : Bool) → state_in_range s ≡ a → leb (offset + n) len ≡ b → leb (s.clock + n) clock_most ≡ c
        → WriteView s len offset n (write_told s len offset n)
    go false b c e f g = rw e (out_of_range (λ sound. clash e ((range_exactly s).1 sound)))
    go true false c e f g = rw (e, f) (too_short ((range_exactly s).0 e) (leb-false (offset + n) len f))
    go true true false e f g =
        rw (e, f, g)
        (past_clock ((range_exactly s).0 e) (leb-true (offset + n) len f) (leb-false (s.clock + n) clock_most g))
    go true true true e f g =
        rw (e, f, g)
        (writes_on (record { sound = (range_exactly s).0 e; fits = leb-true (offset + n) len f; clock = leb-true (s.clock + n) clock_most g }))

-- what each answer means, by its number
abbrev Means : State → ℕ → ℕ → ℕ → Told → Type 0
Means s len offset n t =
    cond (eqb t.number 10) (SoundState s → ⊥)
    (cond (eqb t.number 12) (SoundState s × (len < offset + n))
    (cond (eqb t.number 11) (SoundState s × (offset + n ≤ len) × (clock_most < s.clock + n)) (Room s len offset n)))

module _ (s : State) (len offset n : ℕ) where
  means : Means s len offset n (write_told s len offset n)
  means = go (write_told s len offset n) (write_view s len offset n)
    where
      go : (t : Told) → WriteView s len offset n t → Means s len offset n t
      go t (out_of_range h) = h
      go t (too_short sound h) = (sound, h)
      go t (past_clock sound h c) = (sound, h, c)
      go t (writes_on room) = room

  says : {t : Told} → write_told s len offset n ≡ t → Means s len offset n t
  says e = subst (Means s len offset n) e means

  told_when : (t : Told) → (SoundState s → (len < offset + n → ⊥) → (clock_most < s.clock + n → ⊥) → t ≡ passed) → (SoundState s → len < offset + n → t ≡ row 12 [])
      → ((SoundState s → ⊥) → t ≡ row 10 []) → (SoundState s → offset + n ≤ len → clock_most < s.clock + n → t ≡ row 11 []) → t ≡ write_told s len offset n
  told_when t written short range clock = go (write_told s len offset n) (write_view s len offset n)
    where
      go : (x : Told) → WriteView s len offset n x → t ≡ x
      go x (out_of_range h) = range h
      go x (too_short sound h) = short sound h
      go x (past_clock sound h c) = clock sound h c
      go x (writes_on room) = written room.sound (λ h. let f = room.fits in omega arith) (λ h. let f = room.clock in omega arith)

row_ten_exactly : (s : State) (len offset n : ℕ) → (write_told s len offset n ≡ row 10 []) ↔ (SoundState s → ⊥)
row_ten_exactly s len offset n = (
  says s len offset n,
  λ h.
      sym
      (told_when s len offset n (row 10 []) (λ sound _ _. absurd (h sound)) (λ sound _. absurd (h sound)) (λ _. refl)
      (λ sound _ _. absurd (h sound))),
)

row_twelve_exactly :
    (s : State) (len offset n : ℕ) → (write_told s len offset n ≡ row 12 []) ↔ (SoundState s × (len < offset + n))
row_twelve_exactly s len offset n = (
  says s len offset n,
  λ h.
      sym
      (told_when s len offset n (row 12 []) (λ _ room _. absurd (room h.1)) (λ _ _. refl) (λ out. absurd (out h.0))
      (λ _ room _. absurd (let f = h.1 in omega arith))),
)

row_eleven_exactly :
    (s : State) (len offset n : ℕ)
    → (write_told s len offset n ≡ row 11 []) ↔ (SoundState s × (offset + n ≤ len) × (clock_most < s.clock + n))
row_eleven_exactly s len offset n = (
  says s len offset n,
  λ h.
      sym
      (told_when s len offset n (row 11 []) (λ _ _ clock. absurd (clock h.2)) (λ _ short. absurd (let f = h.1 in omega arith))
      (λ out. absurd (out h.0)) (λ _ _ _. refl)),
)

pub writes_exactly : (s : State) (len offset n : ℕ) → (write_told s len offset n ≡ passed) ↔ Room s len offset n
writes_exactly s len offset n = (
  says s len offset n,
  λ room.
      sym
      (told_when s len offset n passed (λ _ _ _. refl) (λ _ short. absurd (let f = room.fits in omega arith))
      (λ out. absurd (out room.sound)) (λ _ _ clock. absurd (let f = room.clock in omega arith))),
)

-- the state and the bytes where it writes
module _ (s : State) (bytes : List ℕ) (offset n : ℕ) (room : Room s (length bytes) offset n) where
  told : write_told s (length bytes) offset n ≡ passed
  told = (writes_exactly s (length bytes) offset n).1 room

  state_written : write_state s (length bytes) offset n ≡ after_slots s n
  unfolding write_state
  state_written = rw told

  bytes_are : write_bytes s bytes offset n ≡ written bytes offset (choices_of s n)
  unfolding write_bytes
  bytes_are = rw told

none_written :
    (s : State) (bytes : List ℕ) (offset : ℕ) → (write_state s (length bytes) offset 0 ≡ s) × (write_bytes s bytes offset 0 ≡ bytes)
unfolding write_state write_bytes after_slots choices_of
none_written s bytes offset = (state (writes s (length bytes) offset 0), text (writes s (length bytes) offset 0))
  where
    state : (b : Bool) → cond b s s ≡ s
    state true = refl
    state false = refl

    text : (b : Bool) → cond b (written bytes offset []) bytes ≡ bytes
    text true = written_none bytes offset
    text false = refl

-- the first half of a call, and the call that goes on from it
module _ (s : State) (bytes : List ℕ) (offset n m : ℕ) (room : Room s (length bytes) offset (n + m)) where
  first_room : Room s (length bytes) offset n
  first_room = let f = room.fits in let c = room.clock in record { sound = room.sound; fits = omega arith; clock = omega arith }

  half_long : length (write_bytes s bytes offset n) ≡ length bytes
  half_long =
      let f = first_room.fits in
      ap length (bytes_are s bytes offset n first_room)
      ∙ written_length bytes offset (choices_of s n) (omega (arith, choices_long s n))

  second_room : Room (after_slots s n) (length (write_bytes s bytes offset n)) (offset + n) m
  second_room =
      let f = room.fits in
      let c = room.clock in
      record {
        sound = after_sound s room.sound n (omega arith);
        fits = omega (arith, half_long);
        clock = omega (arith, after_clock s n);
      }

  twice_state :
      write_state (after_slots s n) (length (write_bytes s bytes offset n)) (offset + n) m ≡ write_state s (length bytes) offset (n + m)
  twice_state =
      state_written (after_slots s n) (write_bytes s bytes offset n) (offset + n) m second_room
      ∙ sym (after_add s n m)
      ∙ sym (state_written s bytes offset (n + m) room)

  twice_bytes :
      write_bytes (after_slots s n) (write_bytes s bytes offset n) (offset + n) m ≡ write_bytes s bytes offset (n + m)
  twice_bytes =
      let f = room.fits in
      bytes_are (after_slots s n) (write_bytes s bytes offset n) (offset + n) m second_room
      ∙ ap (λ (x : List ℕ). written x (offset + n) (choices_of (after_slots s n) m)) (bytes_are s bytes offset n first_room)
      ∙ ap (λ (k : ℕ). written (written bytes offset (choices_of s n)) (offset + k) (choices_of (after_slots s n) m))
      (sym (choices_long s n))
      ∙ text-twice bytes offset (choices_of s n) (choices_of (after_slots s n) m)
      (omega (arith, choices_long s n, choices_long (after_slots s n) m))
      ∙ ap (written bytes offset) (sym (choices_add s n m))
      ∙ sym (bytes_are s bytes offset (n + m) room)

twice :
    (s : State) (bytes : List ℕ) (offset n m : ℕ) → Room s (length bytes) offset (n + m)
    → let next = write_state s (length bytes) offset n in
    let half = write_bytes s bytes offset n in
    (write_state next (length half) (offset + n) m ≡ write_state s (length bytes) offset (n + m))
    × (write_bytes next half (offset + n) m ≡ write_bytes s bytes offset (n + m))
twice s bytes offset n m room =
    let half = write_bytes s bytes offset n in
    let next = state_written s bytes offset n (first_room s bytes offset n m room) in (
      ap (λ (x : State). write_state x (length half) (offset + n) m) next ∙ twice_state s bytes offset n m room,
      ap (λ (x : State). write_bytes x half (offset + n) m) next ∙ twice_bytes s bytes offset n m room,
    )

refused_keeps :
    (s : State) (bytes : List ℕ) (offset n : ℕ) → (write_told s (length bytes) offset n ≡ passed → ⊥)
    → (write_state s (length bytes) offset n ≡ s) × (write_bytes s bytes offset n ≡ bytes)
unfolding write_state write_bytes
refused_keeps s bytes offset n refused =
    let number : writes s (length bytes) offset n ≡ false = go (write_told s (length bytes) offset n) (write_view s (length bytes) offset n) refused in
    (rw number, rw number)
  where
    go : (t : Told) → WriteView s (length bytes) offset n t → (t ≡ passed → ⊥) → eqb t.number 0 ≡ false
    go t (out_of_range broken) other = refl
    go t (too_short sound short) other = refl
    go t (past_clock sound fits clock) other = refl
    go t (writes_on room) other = absurd (other refl)

pub choices_written :
    (s : State) (bytes : List ℕ) (offset n : ℕ) → Room s (length bytes) offset n
    → WritesSteps s bytes offset n (write_state s (length bytes) offset n) (write_bytes s bytes offset n)
choices_written s bytes offset n room =
    let new = choices_of s n in
    let fits : offset + length new ≤ length bytes = let f = room.fits in omega (arith, choices_long s n) in
    let steps = steps_exist n s room.sound room.clock in
    let made = steps_slots steps in
    let count = answers_long s n in
    let after : write_bytes s bytes offset n ≡ written bytes offset new = bytes_are s bytes offset n room in
    record {
      slots = answers_of s n;
      long = count;
      steps = rw (state_written s bytes offset n room) steps;
      choices =
          ap (λ (x : List ℕ). take n (drop offset x)) after
          ∙ ap (λ (k : ℕ). take k (drop offset (written bytes offset new))) (sym (choices_long s n))
          ∙ written_part bytes offset new fits
          ∙ ap (choices_of s) (sym count)
          ∙ sym made.bytes_are;
      stays =
          rw after
          (record {
            long = written_length bytes offset new fits;
            front = written_front bytes offset new fits;
            behind = ap (λ (k : ℕ). drop (offset + k) (written bytes offset new)) (sym (choices_long s n)) ∙ written_rest bytes offset new fits ∙ ap (λ (k : ℕ). drop (offset + k) bytes) (choices_long s n);
          });
    }

pub write_answers : WriteAnswers
write_answers s before offset n r next after promise =
    let len = length before in
    let exactly = writes_exactly s len offset n in
    let told : r ≡ Ok tt → write_told s len offset n ≡ passed = λ p. sym promise.0 ∙ ap told_checked p in
    let passes : write_told s len offset n ≡ passed → r ≡ Ok tt = λ e. checked_one_to_one r (Ok tt) (promise.0 ∙ e) in
    let as-made : (write_state s len offset n ≡ s) × (write_bytes s before offset n ≡ before) → (next ≡ s) × (after ≡ before) =
    λ h. (promise.1 ∙ h.0, promise.2 ∙ h.1) in
    record {
      row_ten = rw promise.0 (row_ten_exactly s len offset n);
      row_twelve = rw promise.0 (row_twelve_exactly s len offset n);
      row_eleven = rw promise.0 (row_eleven_exactly s len offset n);
      passes = (λ p. exactly.0 (told p), λ room. passes (exactly.1 room));
      writes =
          λ p.
          subst (λ (x : State). WritesSteps s before offset n x after) (sym promise.1)
          (subst (WritesSteps s before offset n (write_state s len offset n)) (sym promise.2)
          (choices_written s before offset n (exactly.0 (told p))));
      keeps = λ refused. as-made (refused_keeps s before offset n (λ e. refused (passes e)));
      none = λ zero. as-made (rw zero (none_written s before offset));
    }

pub written_twice : WrittenTwice
written_twice s middle last end before half after all offset n m first second whole once more both passes =
    let room = (writes_exactly s (length before) offset (n + m)).0 (sym both.0 ∙ ap told_checked passes) in
    let same = twice s before offset n m room in (
      more.1
          ∙ ap₂ (λ (x : State) (h : List ℕ). write_state x (length h) (offset + n) m) once.1 once.2
          ∙ same.0
          ∙ sym both.1,
      more.2 ∙ ap₂ (λ (x : State) (h : List ℕ). write_bytes x h (offset + n) m) once.1 once.2 ∙ same.1 ∙ sym both.2,
    )
