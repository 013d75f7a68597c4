-- What a written timetable is, whatever result the promise of `write` allows. Each statement is proved in proofs/, under its name.
use Rattle.std.specs.Prelude.{ℕ, ◌+◌, ◌≤◌, ◌<◌, ◌≡◌, ◌↔◌, List, [], length, take, drop, Result, Ok}
use Rattle.job.specs.declared.refusal.Refusal.{Refusal}
use Rattle.job.specs.Told.{row, told_checked}
use Rattle.run.specs.declared.state.State.{State}
use Rattle.run.specs.declared.answer.Slot.{Slot}
use Rattle.run.specs.State.{clock_most}
use Rattle.run.specs.Sound.{SoundState}
use Rattle.run.specs.Calls.{Steps, bytes_of}
use Rattle.timetable.specs.Promise.{WritePromise}

-- it writes exactly if no row is given
pub record Room (s : State) (len offset n : ℕ) : Type 0 where
  pub sound : SoundState s
  pub fits : offset + n ≤ len
  pub clock : s.clock + n ≤ clock_most

-- 'other bytes stay'
pub record Stays (before after : List ℕ) (offset n : ℕ) : Type 0 where
  pub long : length after ≡ length before
  pub front : take offset after ≡ take offset before
  pub behind : drop (offset + n) after ≡ drop (offset + n) before

-- 'The next n choices are written from a stated offset .. It returns the state after those n slots': what n calls of `step` answer and leave
pub record WritesSteps (s : State) (before : List ℕ) (offset n : ℕ) (next : State) (after : List ℕ) : Type 0 where
  pub slots : List Slot
  pub long : length slots ≡ n
  pub steps : Steps s slots next
  pub choices : take n (drop offset after) ≡ bytes_of slots
  pub stays : Stays before after offset n

-- 'Tests: 10, 12 (offset + n above the length), 11 (clock + n above its limit).'
pub record WriteTold
    (s : State) (before : List ℕ) (offset n : ℕ) (r : Result (Unit {0}) Refusal) (next : State) (after : List ℕ) : Type 0
  where
    pub row_ten : (told_checked r ≡ row 10 []) ↔ (SoundState s → ⊥)
    pub row_twelve : (told_checked r ≡ row 12 []) ↔ (SoundState s × (length before < offset + n))
    pub row_eleven :
        (told_checked r ≡ row 11 []) ↔ (SoundState s × (offset + n ≤ length before) × (clock_most < s.clock + n))
    pub passes : (r ≡ Ok tt) ↔ Room s (length before) offset n
    pub writes : r ≡ Ok tt → WritesSteps s before offset n next after
    -- 'A refused .. timetable writes nothing; a state handed in comes back equal.'
    pub keeps : (r ≡ Ok tt → ⊥) → (next ≡ s) × (after ≡ before)
    -- 'n = 0 writes nothing and returns the state as it came.'
    pub none : n ≡ 0 → (next ≡ s) × (after ≡ before)

abbrev pub WriteAnswers : Type 0
WriteAnswers =
    (s : State) (before : List ℕ) (offset n : ℕ) (r : Result (Unit {0}) Refusal) (next : State) (after : List ℕ)
    → WritePromise s before offset n r next after → WriteTold s before offset n r next after

-- writing n and then m from there is writing n + m
abbrev pub WrittenTwice : Type 0
WrittenTwice =
    (s middle last end : State) (before half after all : List ℕ) (offset n m : ℕ) (first second whole : Result (Unit {0}) Refusal)
    → WritePromise s before offset n first middle half → WritePromise middle half (offset + n) m second last after
    → WritePromise s before offset (n + m) whole end all → whole ≡ Ok tt → (last ≡ end) × (after ≡ all)
