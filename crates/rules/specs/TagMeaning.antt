-- 'A window that ends untagged is not short, in both models and orders, spare on or off, counted from its opening' (document 02, Item 2), of what
-- `start` and `step` answer by their promises. Each statement is proved in proofs/, under its name.
use Rattle.std.specs.Prelude.{ℕ, ◌/◌, ◌%◌, ◌^◌, ◌≤◌, ◌<◌, ◌≡◌, true, List, length, get_or, Result, Ok}
use Rattle.job.specs.declared.refusal.Refusal.{Refusal}
use Rattle.job.specs.declared.list.JobList.{JobList}
use Rattle.job.specs.Sound.{SoundList}
use Rattle.place.specs.declared.setting.Setting.{Setting}
use Rattle.place.specs.Sound.{Allowed}
use Rattle.run.specs.declared.state.State.{State}
use Rattle.run.specs.declared.answer.Slot.{Slot}
use Rattle.run.specs.Promise.{StepPromise}
use Rattle.run.specs.Calls.{Run}
use Rattle.run.specs.SlotMeaning.{given}
use Rattle.rules.specs.Rules.{window_start, job_of}
use Rattle.rules.specs.Meaning.{no_slot}

-- job j is in a set of a slot's answer: bit j of the mask
abbrev pub Member : ℕ → ℕ → Type 0
Member j set = set / 2 ^ j % 2 ≡ 1

-- one of the slots from the first to the last answers job j among its first tags
pub record TagTold (slots : List Slot) (j first last : ℕ) : Type 0 where
  pub slot : ℕ
  pub not_before : first ≤ slot
  pub not_after : slot ≤ last
  pub told : Member j (get_or slots slot no_slot).tags

-- in the words of the answers alone: where slot n of a run answers that job j's window ended short, a slot from that window's opening to n
-- answers its tag
abbrev pub ShortsTold : Type 0
ShortsTold =
    (l : JobList) (setting : Setting) → SoundList l → Allowed setting → (slots : List Slot) (state : State)
    → Run l setting slots state → (n j : ℕ) → n < length slots → Member j (get_or slots n no_slot).shorts
    → TagTold slots j (window_start (job_of l j) n) n

-- and its place has the tag when those of the slot are in, before the window's end clears it
abbrev pub ShortsTagged : Type 0
ShortsTagged =
    (l : JobList) (setting : Setting) → SoundList l → Allowed setting → (slots : List Slot) (state : State)
    → Run l setting slots state → (r : Result Slot Refusal) (after : State) → StepPromise state r after → (slot : Slot) → r ≡ Ok slot → (j : ℕ)
    → Member j slot.shorts → (given state slot.choice j).at.tag ≡ true
