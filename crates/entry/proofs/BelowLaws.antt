-- The answers as bytes: how long they are, and how they are written one after another; and the tests of `below` and of its entry.
use mathlib.Core.Path.{◌≡◌, refl, sym, ap, subst, ◌∙◌}
use mathlib.Core.Bool.{Bool, true, false}
use mathlib.Core.List.{List, []}
use Prim.Native.Nat.{ℕ, zero, suc, ◌+◌, ◌*◌, ◌%◌, ◌≤◌, ◌<◌}
use native.Mathlib.Numerals.{add-one}
use native.Mathlib.Omega.{arith}
use lib.Dec.{eqb}
use lib.ListN.{length, get_or, take, length-append}
use lib.Seq.{get_or-take, length-take-le}
use borrow.Author.Tests.{eq-eqb, lt-ltb, le-ltb}
use Rattle.job.specs.Told.{Told, row, passed}
use Rattle.job.specs.Check.{otherwise}
use Rattle.job.specs.Sound.{SoundList}
use Rattle.job.specs.declared.list.JobList.{JobList}
use Rattle.job.specs.Limit.{count_most}
use Rattle.job.proofs.FilledLaws.{filled_long}
use Rattle.job.proofs.CheckLaws.{otherwise_refused}
use Rattle.job.proofs.TestLaws.{clash}
use Rattle.text.specs.Word.{word_bytes}
use Rattle.text.specs.Written.{written}
use Rattle.text.proofs.WordLaws.{word_long}
use Rattle.text.proofs.WrittenLaws.{Ends, ends_as, ends_length, ends_at_once, followed}
use Rattle.place.specs.declared.setting.Setting.{Setting}
use Rattle.shortfall.specs.declared.answer.Below.{Below}
use Rattle.shortfall.specs.declared.answer.Judgement.{Judgement}
use Rattle.shortfall.specs.Shortfall.{none_below, shortfall_told, cycle_judged}
use Rattle.shortfall.proofs.JudgeLaws.{RowView, strange, faulty, too_long, judgeable, row_view}
use Rattle.entry.specs.JobBytes.{list_from}
use Rattle.entry.specs.Entry.{whole_jobs}
use Rattle.entry.specs.Below.{first_number, answer_bytes, answers_upto, room_told, below_told, below_bytes, strange_spare, setting_by, below_entry_told, below_entry_bytes}
use Rattle.entry.specs.Meaning.{Whole}
use Rattle.entry.proofs.EntryLaws.{whole_told, broken_told}

-- 12 bytes a job
pub answer_long : (a : Below) → length (answer_bytes a) ≡ 12
unfolding answer_bytes word_bytes
answer_long a = refl

pub answers_long : (jobs : List Below) (n : ℕ) → length (answers_upto jobs n) ≡ n * 12
unfolding answers_upto
answers_long jobs zero = refl
answers_long jobs (suc n) =
    let last = answer_bytes (get_or jobs n none_below) in
    length-append (answers_upto jobs n) last ∙ omega (arith, answers_long jobs n, answer_long (get_or jobs n none_below))

-- of the first jobs alone
cut : (jobs : List Below) (k n : ℕ) → n ≤ k → answers_upto (take k jobs) n ≡ answers_upto jobs n
unfolding answers_upto
cut jobs k zero h = refl
cut jobs k (suc n) h = rw (cut jobs k n (omega arith), get_or-take k jobs n none_below)

pub answers_cut :
    (jobs : List Below) (k : ℕ) → k ≤ length jobs → answers_upto (take k jobs) (length (take k jobs)) ≡ answers_upto jobs k
answers_cut jobs k h = ap (answers_upto (take k jobs)) (length-take-le k jobs h) ∙ cut jobs k k (omega arith)

-- a number written
pub word_ends :
    {b₀ b : List ℕ} {at r : ℕ} (x : ℕ) → r ≡ at + 4 → b ≡ written b₀ at (word_bytes x) → at + 4 ≤ length b₀
    → Ends b₀ at (word_bytes x) b r
word_ends x place bytes room = record { place = omega (arith, word_long x); bytes = bytes; room = omega arith }

-- one job, by its three numbers
pub answer_ends :
    (a : Below) {b₀ b₁ b₂ b₃ : List ℕ} {at r₁ r₂ r₃ first : ℕ} → Ends b₀ at (word_bytes a.windows) b₁ r₁
    → Ends b₁ r₁ (word_bytes a.short) b₂ r₂ → first ≡ first_number a.first → Ends b₂ r₂ (word_bytes first) b₃ r₃
    → Ends b₀ at (answer_bytes a) b₃ r₃
unfolding answer_bytes
answer_ends a one two is three = followed (followed one two) (ends_as (ap word_bytes is) three)

pub answer_written :
    (a : Below) (b₀ : List ℕ) (at : ℕ) {b₁ b₂ b₃ : List ℕ} {r₁ r₂ first : ℕ} → at + 12 ≤ length b₀
    → r₁ ≡ at + 4 → b₁ ≡ written b₀ at (word_bytes a.windows)
    → r₂ ≡ r₁ + 4 → b₂ ≡ written b₁ r₁ (word_bytes a.short)
    → first ≡ first_number a.first → b₃ ≡ written b₂ r₂ (word_bytes first)
    → b₃ ≡ written b₀ at (answer_bytes a)
answer_written a b₀ at {r₂ = r₂} {first = n} room one windows two short is first =
    let w = word_ends a.windows one windows (omega arith) in
    let s = word_ends a.short two short (omega (arith, ends_length w)) in
    let f = word_ends {r = r₂ + 4} n refl first (omega (arith, ends_length w, ends_length s)) in
    (answer_ends a w s is f).bytes

-- the jobs, one after another
module _ (jobs : List Below) (b₀ : List ℕ) (room : length jobs * 12 ≤ length b₀) where
  pub answers_start : Ends b₀ 0 (answers_upto jobs 0) b₀ 0
  unfolding answers_upto
  answers_start = ends_at_once b₀ 0 (omega arith)

  module _ (i : ℕ) (more : i < length jobs) {b : List ℕ} {end : ℕ} (so_far : Ends b₀ 0 (answers_upto jobs i) b end) where
    pub answers_room : end + 12 ≤ length b
    answers_room = omega (arith, ends_length so_far, so_far.place, answers_long jobs i)

    pub answers_more :
        {b' : List ℕ} {r : ℕ} → r ≡ end + 12 → b' ≡ written b end (answer_bytes (get_or jobs i none_below))
        → Ends b₀ 0 (answers_upto jobs (i + 1)) b' r
    unfolding answers_upto
    answers_more {b'} {r} place bytes =
        let a = get_or jobs i none_below in
        subst (λ (n : ℕ). Ends b₀ 0 (answers_upto jobs n) b' r) (sym (add-one i))
        (followed so_far (record { place = omega (arith, answer_long a); bytes = bytes; room = omega (arith, answers_room) }))

-- the answers for the jobs of a list
pub answers_written :
    (l : JobList) (s : Setting) (b : List ℕ) {j : Judgement} {b' : List ℕ} → l.count ≤ count_most → j ≡ cycle_judged l s
    → b' ≡ written b 0 (answers_upto (take l.count j.jobs) (length (take l.count j.jobs)))
    → b' ≡ written b 0 (answers_upto (cycle_judged l s).jobs l.count)
answers_written l s b few is bytes =
    let jobs = (cycle_judged l s).jobs in
    let long : length jobs ≡ count_most = filled_long none_below _ l.count in
    bytes
    ∙ ap (λ (x : Judgement). written b 0 (answers_upto (take l.count x.jobs) (length (take l.count x.jobs)))) is
    ∙ ap (written b 0) (answers_cut jobs l.count (omega arith))

-- a list that is answered is sound
pub told_sound : (l : JobList) (setting : Setting) → (shortfall_told l setting).number ≡ 0 → SoundList l
told_sound l setting e = go (row_view l setting)
  where
    number : {t : Told} → shortfall_told l setting ≡ t → t.number ≡ 0
    number f = sym (ap (λ (t : Told). t.number) f) ∙ e

    go : RowView l setting → SoundList l
    go (strange none f) = absurd (omega (arith, number f))
    go (faulty a broken f refuses) = absurd (clash refuses (eq-eqb _ 0 (number f)))
    go (too_long a s long f) = s
    go (judgeable a s short f) = s

pub told_few : (l : JobList) (setting : Setting) → passed ≡ shortfall_told l setting → l.count ≤ 16
told_few l setting e = (told_sound l setting (ap (λ (t : Told). t.number) (sym e))).count.high

-- the tests of `below`
pub below_broken : (jobs : List ℕ) (setting : Setting) (len : ℕ) → (Whole jobs → ⊥) → below_told jobs setting len ≡ row 14 []
unfolding below_told
below_broken jobs setting len broken = broken_told jobs _ broken

module _ (jobs : List ℕ) (setting : Setting) (len : ℕ) (whole : Whole jobs) where
  pub below_refused :
      eqb (shortfall_told (list_from jobs) setting).number 0 ≡ false → below_told jobs setting len ≡ shortfall_told (list_from jobs) setting
  unfolding below_told
  below_refused refused = whole_told jobs _ whole ∙ otherwise_refused (shortfall_told (list_from jobs) setting) _ refused

  module _ (answered : (shortfall_told (list_from jobs) setting).number ≡ 0) where
    by_room : below_told jobs setting len ≡ room_told (list_from jobs).count len
    unfolding below_told otherwise
    by_room = whole_told jobs _ whole ∙ rw (eq-eqb (shortfall_told (list_from jobs) setting).number 0 answered)

    pub below_no_room : len < (list_from jobs).count * 12 → below_told jobs setting len ≡ row 12 []
    unfolding room_told
    below_no_room short = by_room ∙ rw (lt-ltb len ((list_from jobs).count * 12) short)

    pub below_passes : (list_from jobs).count * 12 ≤ len → below_told jobs setting len ≡ passed
    unfolding room_told
    below_passes fits = by_room ∙ rw (le-ltb len ((list_from jobs).count * 12) fits)

-- and what it leaves
module _ (jobs : List ℕ) (setting : Setting) (bytes : List ℕ) where
  pub below_stays :
      {t : Told} → below_told jobs setting (length bytes) ≡ t → eqb t.number 0 ≡ false → bytes ≡ below_bytes jobs setting bytes
  unfolding below_bytes
  below_stays told refused = rw (told, refused)

  pub below_writes :
      below_told jobs setting (length bytes) ≡ passed
      → below_bytes jobs setting bytes ≡ written bytes 0 (answers_upto (cycle_judged (list_from jobs) setting).jobs (list_from jobs).count)
  unfolding below_bytes
  below_writes told = rw told

-- the tests of the entry
spare_strange : (spare : ℕ) → 1 < spare → strange_spare spare ≡ true
spare_strange spare h = lt-ltb 1 spare h

spare_plain : (spare : ℕ) → spare ≤ 1 → strange_spare spare ≡ false
spare_plain spare h = le-ltb 1 spare h

module _ (jobs : List ℕ) (order model spare : ℕ) where
  pub entry_broken : (len : ℕ) → (Whole jobs → ⊥) → below_entry_told jobs order model spare len ≡ row 14 []
  unfolding below_entry_told
  entry_broken len broken = broken_told jobs _ broken

  pub entry_broken_stays : (bytes : List ℕ) → (Whole jobs → ⊥) → bytes ≡ below_entry_bytes jobs order model spare bytes
  unfolding below_entry_bytes
  entry_broken_stays bytes broken = go (strange_spare spare) refl
    where
      go : (b : Bool) → strange_spare spare ≡ b → bytes ≡ below_entry_bytes jobs order model spare bytes
      go true e = rw e
      go false e = rw e (below_stays jobs (setting_by order model spare) bytes (below_broken jobs _ (length bytes) broken) refl)

  module _ (strange-spare : 1 < spare) where
    pub entry_strange : (len : ℕ) → Whole jobs → below_entry_told jobs order model spare len ≡ row 15 []
    unfolding below_entry_told
    entry_strange len whole = whole_told jobs _ whole ∙ rw (spare_strange spare strange-spare)

    pub entry_strange_stays : (bytes : List ℕ) → bytes ≡ below_entry_bytes jobs order model spare bytes
    unfolding below_entry_bytes
    entry_strange_stays bytes = rw (spare_strange spare strange-spare)

  module _ (plain : spare ≤ 1) where
    pub entry_asks : (len : ℕ) → below_entry_told jobs order model spare len ≡ below_told jobs (setting_by order model spare) len
    unfolding below_entry_told below_told whole_jobs
    entry_asks len = go (eqb (length jobs % 6) 0) refl
      where
        go : (b : Bool) → eqb (length jobs % 6) 0 ≡ b → below_entry_told jobs order model spare len ≡ below_told jobs (setting_by order model spare) len
        go true e = rw (e, spare_plain spare plain)
        go false e = rw e

    pub entry_writes : (bytes : List ℕ) → below_entry_bytes jobs order model spare bytes ≡ below_bytes jobs (setting_by order model spare) bytes
    unfolding below_entry_bytes
    entry_writes bytes = rw (spare_plain spare plain)
