-- A timetable, and when it is lawful and full: no order, no state and no search.
use Rattle.std.specs.Prelude.{ℕ, ◌+◌, ◌*◌, ◌≤◌, ◌<◌, ◌≡◌, ◌⊎◌, List, length, get_or, take, drop}
use Rattle.job.specs.declared.list.JobList.{JobList}
use Rattle.rules.specs.Rules.{idle_byte, slots_of, since_window, periods_begun, job_of}

-- 'A timetable for H slots names a job or idle in each slot.'
pub record Timetable (l : JobList) (slots : ℕ) (bytes : List ℕ) : Type 0 where
  pub long : length bytes ≡ slots
  pub named : (n : ℕ) → n < slots → (get_or bytes n idle_byte < l.count) ⊎ (get_or bytes n idle_byte ≡ idle_byte)

-- 'It is lawful if, for each job and slot, the slots given to that job in the window then open, that slot counted, are at most C
-- times the number of its periods begun in that window by the slot's start.'
abbrev pub Lawful : JobList → List ℕ → Type 0
Lawful l bytes =
    (i : ℕ) → i < l.count → (n : ℕ) → n < length bytes
    → let j = job_of l i in
    slots_of i (since_window j n (take (n + 1) bytes)) ≤ j.c * periods_begun j n

-- 'It is full if every window has at least m times C slots of its job': every window that ends inside the list
abbrev pub Full : JobList → List ℕ → Type 0
Full l bytes =
    (i : ℕ) → i < l.count → (w : ℕ)
    → let j = job_of l i in
    let window = j.k * j.t in
    w * window + window ≤ length bytes → j.m * j.c ≤ slots_of i (take window (drop (w * window) bytes))
