-- The answers read back from the bytes: each byte's place, the numbers that four bytes make, and how large the numbers are.
use mathlib.Core.Path.{◌≡◌, refl, sym, ap, subst, ◌∙◌}
use mathlib.Core.Logic.{◌↔◌}
use mathlib.Core.List.{List, [], ◌∷◌, ◌++◌}
use Prim.Native.Nat.{ℕ, zero, suc, ◌+◌, ◌*◌, ◌/◌, ◌%◌, ◌^◌, ◌≤◌, ◌<◌}
use native.Mathlib.Nat.{div-le_self}
use native.Mathlib.Decide.{ℕ_discrete}
use native.Mathlib.Omega.{arith}
use lib.ListN.{length, get_or, drop, get_or-append}
use lib.Seq.{get_or-append-add}
use Rattle.std.specs.Prelude.{Option, None, Some}
use Rattle.job.specs.declared.record.Job.{Job}
use Rattle.job.specs.declared.list.JobList.{JobList}
use Rattle.job.specs.Limit.{count_most, cycle_most}
use Rattle.job.specs.Check.{job_at}
use Rattle.job.specs.Window.{window_of}
use Rattle.job.proofs.FilledLaws.{filled_at}
use Rattle.admission.specs.Cycle.{cycle_of}
use Rattle.text.specs.Word.{word_bytes}
use Rattle.text.specs.Written.{written}
use Rattle.text.proofs.WordLaws.{word_reads_back}
use Rattle.text.proofs.WrittenLaws.{written_length}
use Rattle.text.proofs.WrittenParts.{written_rest}
use Rattle.place.specs.declared.setting.Setting.{Setting}
use Rattle.run.specs.State.{fresh_of}
use Rattle.shortfall.specs.declared.answer.Below.{Below}
use Rattle.shortfall.specs.Tally.{no_tally, tally_of, tally_at, tallies_of}
use Rattle.shortfall.specs.Shortfall.{below_of, none_below, cycle_judged}
use Rattle.shortfall.proofs.TallyLaws.{FirstIs, short_in, tally_high, tally_first}
use Rattle.entry.specs.Below.{first_number, answer_bytes, answers_upto}
use Rattle.entry.specs.BelowMeaning.{word_at, AnswerStands}
use Rattle.entry.proofs.BelowLaws.{answers_long}

-- byte k of job i's answer
answers_at :
    (jobs : List Below) (n i k : ℕ) → i < n → k < 12
    → get_or (answers_upto jobs n) (i * 12 + k) 0 ≡ get_or (answer_bytes (get_or jobs i none_below)) k 0
unfolding answers_upto
answers_at jobs zero i k h few = absurd (omega arith)
answers_at jobs (suc n) i k h few = go (ℕ_discrete i n) (λ less. answers_at jobs n i k less few)
  where
    go :
        Dec (i ≡ n) → (i < n → get_or (answers_upto jobs n) (i * 12 + k) 0 ≡ get_or (answer_bytes (get_or jobs i none_below)) k 0)
        → get_or (answers_upto jobs n ++ answer_bytes (get_or jobs n none_below)) (i * 12 + k) 0 ≡ get_or (answer_bytes (get_or jobs i none_below)) k 0
    go (yes same) earlier =
        rw same
        (ap (λ (x : ℕ). get_or (answers_upto jobs n ++ answer_bytes (get_or jobs n none_below)) (x + k) 0) (sym (answers_long jobs n))
        ∙ get_or-append-add (answers_upto jobs n) (answer_bytes (get_or jobs n none_below)) k 0)
    go (no other) earlier =
        get_or-append (answers_upto jobs n) (answer_bytes (get_or jobs n none_below)) 0 (i * 12 + k) (omega (arith, answers_long jobs n))
        ∙ earlier (omega arith)

-- every byte of an answer is one
abbrev Bytes : List ℕ → Type 0
Bytes [] = Unit {0}
Bytes (x ∷ text) = (x < 256) × Bytes text

byte_under : (text : List ℕ) → Bytes text → (k : ℕ) → get_or text k 0 < 256
byte_under [] bytes k = omega arith
byte_under (x ∷ text) bytes zero = bytes.0
byte_under (x ∷ text) bytes (suc k) = byte_under text bytes.1 k

under : (x : ℕ) → x % 256 < 256
under x = omega arith

all_bytes : (a : Below) → Bytes (answer_bytes a)
unfolding answer_bytes word_bytes
all_bytes a = search (under, tt) depth 20

-- a first slot below the number for never
abbrev Early : Option ℕ → Type 0
Early first = (n : ℕ) → first ≡ Some n → n < 4294967295

first_fits : (first : Option ℕ) → Early first → first_number first < 2 ^ 32
first_fits None early = omega arith
first_fits (Some n) early = omega (arith, early n refl)

first_never : (first : Option ℕ) → Early first → (first_number first ≡ 4294967295) ↔ (first ≡ None)
first_never None early = (λ e. refl, λ e. refl)
first_never (Some n) early = (λ e. absurd (omega (arith, early n refl)), λ e. cc)

-- numbers of 32 bits
record Small (a : Below) : Type 0 where
  windows : a.windows < 2 ^ 32
  short : a.short < 2 ^ 32
  first : Early a.first

-- an answer in the twelve bytes from `at` on
module _
    (bytes : List ℕ) (at : ℕ) (a : Below) (each : (k : ℕ) → k < 12 → get_or bytes (at + k) 0 ≡ get_or (answer_bytes a) k 0)
  where
    byte : {n : ℕ} (k : ℕ) → n ≡ at + k → k < 12 → get_or bytes n 0 ≡ get_or (answer_bytes a) k 0
    byte k same h = ap (λ (x : ℕ). get_or bytes x 0) same ∙ each k h

    -- four of its bytes make a number
    word :
        {n : ℕ} (o x : ℕ) → n ≡ at + o → o + 3 < 12 → x < 2 ^ 32
        → get_or (answer_bytes a) o 0 ≡ x % 256 → get_or (answer_bytes a) (o + 1) 0 ≡ x / 256 % 256
        → get_or (answer_bytes a) (o + 2) 0 ≡ x / 65536 % 256 → get_or (answer_bytes a) (o + 3) 0 ≡ x / 16777216 % 256
        → word_at bytes n ≡ x
    unfolding word_bytes
    word {n} o x same h fits is₀ is₁ is₂ is₃ =
        let first = byte {n = n} o same (omega arith) ∙ is₀ in
        let second = byte {n = n + 1} (o + 1) (omega arith) (omega arith) ∙ is₁ in
        let third = byte {n = n + 2} (o + 2) (omega arith) (omega arith) ∙ is₂ in
        let fourth = byte {n = n + 3} (o + 3) (omega arith) (omega arith) ∙ is₃ in
        omega (arith, word_reads_back x fits)

    answer_stands : Small a → AnswerStands bytes at a
    unfolding answer_bytes word_bytes
    answer_stands small =
        let first = word {n = at + 8} 8 (first_number a.first) refl (omega arith) (first_fits a.first small.first) refl refl refl refl in
        record {
          windows = word 0 a.windows (omega arith) (omega arith) small.windows refl refl refl refl;
          short = word 4 a.short refl (omega arith) small.short refl refl refl refl;
          never = subst (λ (x : ℕ). (x ≡ 4294967295) ↔ (a.first ≡ None)) (sym first) (first_never a.first small.first);
          first = λ n e. first ∙ ap first_number e;
          bytes_all = λ i h. subst (λ (x : ℕ). x < 256) (sym (each i h)) (byte_under (answer_bytes a) (all_bytes a) i);
        }

-- how large the numbers of a cycle are
module _ (l : JobList) (s : Setting) (few : l.count ≤ count_most) (short : cycle_of l ≤ cycle_most) where
  tally_small : (job : Job) (i : ℕ) → Small (below_of job (cycle_of l) (tally_of (fresh_of l s) i (cycle_of l)))
  tally_small job i =
      let h = cycle_of l in
      let fresh = fresh_of l s in
      let first : FirstIs (short_in fresh i) h (tally_of fresh i h).first = tally_first fresh i h in
      record {
        windows = omega (arith, div-le_self h (window_of job));
        short = omega (arith, tally_high fresh i h);
        first = λ n e. omega (arith, (subst (FirstIs (short_in fresh i) h) e first).below);
      }

  answers_small : (i : ℕ) → i < l.count → Small (get_or (cycle_judged l s).jobs i none_below)
  answers_small i h =
      let fresh = fresh_of l s in
      let cycle = cycle_of l in
      let tally : tally_at (tallies_of fresh cycle) i ≡ tally_of fresh i cycle =
      filled_at no_tally (λ j. tally_of fresh j cycle) l.count i h few in
      let is : get_or (cycle_judged l s).jobs i none_below ≡ below_of (job_at l.jobs i) cycle (tally_of fresh i cycle) =
      filled_at none_below (λ j. below_of (job_at l.jobs j) cycle (tally_at (tallies_of fresh cycle) j)) l.count i h few
      ∙ ap (below_of (job_at l.jobs i) cycle) tally in
      subst Small (sym is) (tally_small (job_at l.jobs i) i)

  -- the bytes as they are written
  module _ (before : List ℕ) (room : l.count * 12 ≤ length before) where
    abbrev text : List ℕ
    text = answers_upto (cycle_judged l s).jobs l.count

    text_long : length text ≡ l.count * 12
    text_long = answers_long (cycle_judged l s).jobs l.count

    pub each_stands : (i : ℕ) → i < l.count → AnswerStands (written before 0 text) (i * 12) (get_or (cycle_judged l s).jobs i none_below)
    each_stands i h =
        answer_stands (written before 0 text) (i * 12) (get_or (cycle_judged l s).jobs i none_below)
        (λ k few_bytes.
        get_or-append text (drop (0 + length text) before) 0 (i * 12 + k) (omega (arith, text_long))
        ∙ answers_at (cycle_judged l s).jobs l.count i k h few_bytes)
        (answers_small i h)

    pub behind_stays : drop (l.count * 12) (written before 0 text) ≡ drop (l.count * 12) before
    behind_stays =
        let end : 0 + length text ≡ l.count * 12 = omega (arith, text_long) in
        subst (λ (n : ℕ). drop n (written before 0 text) ≡ drop n before) end (written_rest before 0 text (omega arith))

    pub length_stays : length (written before 0 text) ≡ length before
    length_stays = written_length before 0 text (omega (arith, text_long))
