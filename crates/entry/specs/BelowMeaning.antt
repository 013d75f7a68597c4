-- What `below` and its C entry return and leave, whatever their promises allow: the answers of `shortfall`, byte by byte. Each statement is proved in proofs/,
-- under its name.
use Rattle.std.specs.Prelude.{ℕ, ◌+◌, ◌*◌, ◌≤◌, ◌<◌, ◌≡◌, ◌↔◌, true, false, List, [], length, get_or, drop, None, Some, Result, Ok, Err}
use Rattle.job.specs.declared.list.JobList.{JobList}
use Rattle.job.specs.declared.refusal.Refusal.{Refusal}
use Rattle.job.specs.Told.{Told, row, passed, told, told_checked}
use Rattle.job.specs.Promise.{ListCheckPromise}
use Rattle.place.specs.declared.setting.Setting.{Setting}
use Rattle.place.specs.Sound.{Allowed}
use Rattle.shortfall.specs.declared.answer.Below.{Below}
use Rattle.shortfall.specs.declared.answer.Judgement.{Judgement}
use Rattle.shortfall.specs.Promise.{ShortfallPromise}
use Rattle.shortfall.specs.Meaning.{nothing}
use Rattle.entry.specs.Promise.{BelowPromise, BelowEntryPromise}
use Rattle.entry.specs.Meaning.{BytesOfList, Whole}

-- the number that stands in the four bytes from `at` on, low byte first
abbrev pub word_at : List ℕ → ℕ → ℕ
word_at bytes at =
    get_or bytes at 0 + 256 * get_or bytes (at + 1) 0 + 65536 * get_or bytes (at + 2) 0 + 16777216 * get_or bytes (at + 3) 0

-- a job's answer stands in the twelve bytes from `at` on: windows a cycle, short windows a cycle, first slot in which one ends short
pub record AnswerStands (bytes : List ℕ) (at : ℕ) (a : Below) : Type 0 where
  pub windows : word_at bytes at ≡ a.windows
  pub short : word_at bytes (at + 4) ≡ a.short
  -- 4,294,967,295 exactly where there is none
  pub never : (word_at bytes (at + 8) ≡ 4294967295) ↔ (a.first ≡ None)
  pub first : (n : ℕ) → a.first ≡ Some n → word_at bytes (at + 8) ≡ n
  pub bytes_all : (i : ℕ) → i < 12 → get_or bytes (at + i) 0 < 256

-- the answers stand from the buffer's start on, 12 bytes a job, and no other byte changes
pub record AnswersStand (l : JobList) (j : Judgement) (before after : List ℕ) : Type 0 where
  pub each : (i : ℕ) → i < l.count → AnswerStands after (i * 12) (get_or j.jobs i nothing)
  pub behind : drop (l.count * 12) after ≡ drop (l.count * 12) before
  pub long : length after ≡ length before

-- of the bytes of a list, beside what `shortfall` answers of the list, by what the answer tells: 15, 1 to 6, 8, 12
pub record BelowTold (l : JobList) (s : Setting) (before : List ℕ) (t : Told) (after : List ℕ) : Type 0 where
  pub row_fifteen : (t.number ≡ 15) ↔ (Allowed s → ⊥)
  -- rows 1 to 6, as `JobList::check` gives them
  pub list_rows : Allowed s → (refusal : Refusal) → ListCheckPromise l (Err refusal) → t ≡ told refusal
  -- '8: cycle over the limit'; then 12, a buffer of fewer than 12 bytes a job
  pub row_eight : (r : Result Judgement Refusal) → ShortfallPromise l s r → (t.number ≡ 8) ↔ (told_checked r ≡ row 8 [])
  pub row_twelve :
      (r : Result Judgement Refusal) → ShortfallPromise l s r
      → (t.number ≡ 12) ↔ ((told_checked r ≡ passed) × (length before < l.count * 12))
  pub passes :
      (r : Result Judgement Refusal) → ShortfallPromise l s r
      → (t.number ≡ 0) ↔ ((told_checked r ≡ passed) × (l.count * 12 ≤ length before))
  pub answers : t.number ≡ 0 → (j : Judgement) → ShortfallPromise l s (Ok j) → AnswersStand l j before after
  -- refused, no byte changes
  pub keeps : (t.number ≡ 0 → ⊥) → after ≡ before

-- `below`, in any setting
abbrev pub BelowAnswers : Type 0
BelowAnswers =
    (jobs : List ℕ) (l : JobList) → BytesOfList jobs l → (s : Setting) (before : List ℕ) (r : Result (Unit {0}) Refusal)
    (after : List ℕ)
    → BelowPromise jobs s before r after → BelowTold l s before (told_checked r) after

-- '14: job bytes not a multiple of 6'
abbrev pub BelowRowFourteen : Type 0
BelowRowFourteen =
    (jobs : List ℕ) (s : Setting) (before : List ℕ) (r : Result (Unit {0}) Refusal) (after : List ℕ) → BelowPromise jobs s before r after
    → (((told_checked r).number ≡ 14) ↔ (Whole jobs → ⊥)) × ((told_checked r).number ≡ 14 → after ≡ before)

-- the number r of an answer of `below`
abbrev pub BelowNumber : List ℕ → Setting → List ℕ → ℕ → List ℕ → Type 0
BelowNumber jobs s before r after =
    (answer : Result (Unit {0}) Refusal) × BelowPromise jobs s before answer after × (r ≡ (told_checked answer).number)

-- `filbertoss_below` is `below` in that order and model, with spare off or on; a `spare` of 2 or more is row 15, which goes behind row 14
pub record BelowEntryTold (jobs : List ℕ) (order model spare : ℕ) (before : List ℕ) (r : ℕ) (after : List ℕ) : Type 0 where
  pub off : spare ≡ 0 → BelowNumber jobs (record { order = order; model = model; spare = false }) before r after
  pub on : spare ≡ 1 → BelowNumber jobs (record { order = order; model = model; spare = true }) before r after
  pub row_fifteen : 1 < spare → Whole jobs → r ≡ 15
  pub row_fourteen : (Whole jobs → ⊥) → r ≡ 14
  pub keeps : 1 < spare → after ≡ before

abbrev pub EntryBelow : Type 0
EntryBelow =
    (jobs : List ℕ) (order model spare : ℕ) (before : List ℕ) (r : ℕ) (after : List ℕ)
    → BelowEntryPromise jobs order model spare before r after → BelowEntryTold jobs order model spare before r after
