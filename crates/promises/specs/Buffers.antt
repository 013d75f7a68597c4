-- What a caller finds in the buffer that he lent: the choices that the rules call for. That `write` returns what n calls of `step` return,
-- and that other bytes stay, is said in timetable/specs/Meaning and entry/specs/Meaning. Each statement is proved in proofs/, under its name.
use Rattle.std.specs.Prelude.{ℕ, ◌≡◌, List, ◌++◌, length, take, drop, Result, Ok}
use Rattle.job.specs.declared.list.JobList.{JobList}
use Rattle.job.specs.declared.refusal.Refusal.{Refusal}
use Rattle.job.specs.Told.{told_checked}
use Rattle.job.specs.Sound.{SoundList}
use Rattle.place.specs.declared.setting.Setting.{Setting}
use Rattle.place.specs.Sound.{Allowed}
use Rattle.run.specs.declared.state.State.{State}
use Rattle.run.specs.declared.answer.Slot.{Slot}
use Rattle.run.specs.Calls.{Run, bytes_of}
use Rattle.rules.specs.Rules.{Follows}
use Rattle.rules.specs.Meaning.{StateTold}
use Rattle.timetable.specs.Promise.{WritePromise}
use Rattle.entry.specs.Promise.{FillPromise}
use Rattle.entry.specs.Meaning.{BytesOfList}

-- n bytes from the offset on
abbrev pub part : List ℕ → ℕ → ℕ → List ℕ
part bytes offset n = take n (drop offset bytes)

-- `write` of a run's state: with the choices before them, the bytes written keep the rules, and they tell the state returned
pub record WriteKeeps (l : JobList) (setting : Setting) (slots : List Slot) (offset n : ℕ) (after : List ℕ) (next : State) : Type 0 where
  pub long : length (part after offset n) ≡ n
  pub follows : Follows l setting (bytes_of slots ++ part after offset n)
  pub state_is : StateTold l setting (bytes_of slots ++ part after offset n) next

abbrev pub WriteFollows : Type 0
WriteFollows =
    (l : JobList) (setting : Setting) → SoundList l → Allowed setting → (slots : List Slot) (state : State)
    → Run l setting slots state → (before : List ℕ) (offset n : ℕ) (r : Result (Unit {0}) Refusal) (next : State) (after : List ℕ)
    → WritePromise state before offset n r next after → r ≡ Ok tt → WriteKeeps l setting slots offset n after next

-- `fill`, and so `filbertoss_fill` (`EntryFills` and `FillNumbers` of entry): where the number of the answer is 0, the bytes written keep the rules
pub record FillKeeps (l : JobList) (setting : Setting) (offset n : ℕ) (after : List ℕ) : Type 0 where
  pub long : length (part after offset n) ≡ n
  pub follows : Follows l setting (part after offset n)

abbrev pub FillFollows : Type 0
FillFollows =
    (jobs : List ℕ) (l : JobList) → BytesOfList jobs l → (setting : Setting) (before : List ℕ) (offset n : ℕ)
    (r : Result (Unit {0}) Refusal) (after : List ℕ) → FillPromise jobs setting before offset n r after → (told_checked r).number ≡ 0 → FillKeeps l setting offset n after
