-- The run of one cycle: the tallies of the jobs, from slot to slot and along the pass over the places of each.
use mathlib.Core.Path.{◌≡◌, refl, sym, ap, subst, ◌∙◌}
use mathlib.Core.Bool.{Bool, true, false, cond}
use mathlib.Core.List.{List}
use Prim.Native.Nat.{ℕ, zero, suc, ◌+◌, ◌≤◌, ◌<◌}
use native.Mathlib.Numerals.{add-one}
use native.Mathlib.Decide.{dec_lt}
use native.Mathlib.Omega.{arith}
use lib.ListN.{length, set, replicate, length-set}
use lib.Seq.{ext_get_or}
use Rattle.std.proofs.lemmas.Grind.{common_steps}
use Rattle.std.specs.Prelude.{Option, None, Some}
use Rattle.std.specs.Option.{option_or}
use Rattle.job.specs.Limit.{count_most}
use Rattle.job.proofs.FilledLaws.{none_at, filled_long, filled_at, filled_past}
use Rattle.run.specs.declared.state.State.{State}
use Rattle.run.specs.Slot.{count_upto}
use Rattle.run.specs.Run.{after_slots}
use Rattle.run.proofs.SlotLaws.{count_high, count_is}
use Rattle.shortfall.proofs.CountLaws.{many_none}
use Rattle.shortfall.specs.declared.inner.Tally.{Tally}
use Rattle.shortfall.specs.Tally.{ends_short_in, no_tally, noted_of, tally_of, tally_at, tallies_of}

-- x is the first of the numbers below n with a property
pub record IsFirst (f : ℕ → Bool) (n x : ℕ) : Type 0 where
  pub below : x < n
  pub has : f x ≡ true
  pub none_before : (i : ℕ) → i < x → f i ≡ false

-- what a first slot says of the numbers below n with a property: it is the first of them, or there are none
abbrev pub FirstIs : (ℕ → Bool) → ℕ → Option ℕ → Type 0
FirstIs f n None = (i : ℕ) → i < n → f i ≡ false
FirstIs f n (Some x) = IsFirst f n x

-- what a tally counts: the slots in which a window of the job ends short, and the first of them
module _ (s : State) (j : ℕ) where
  abbrev pub short_in : ℕ → Bool
  short_in n = ends_short_in (after_slots s n) j

  counted_by : (b : Bool) (t : Tally) (n : ℕ) → (cond b (noted_of t n) t).short ≡ cond b (t.short + 1) t.short
  unfolding noted_of
  counted_by true t n = refl
  counted_by false t n = refl

  pub tally_counts : (n : ℕ) → (tally_of s j n).short ≡ count_upto short_in n
  unfolding tally_of count_upto
  tally_counts zero = refl
  tally_counts (suc n) =
      counted_by (short_in n) (tally_of s j n) n ∙ ap (λ (x : ℕ). cond (short_in n) (x + 1) x) (tally_counts n)

  pub tally_high : (n : ℕ) → (tally_of s j n).short ≤ n
  tally_high n = rw (tally_counts n) (count_high short_in n)

  pub tally_none : (n : ℕ) → ((i : ℕ) → i < n → short_in i ≡ false) → tally_of s j n ≡ no_tally
  unfolding tally_of
  tally_none zero none = refl
  tally_none (suc n) none = rw (none n (omega arith)) (tally_none n (λ i h. none i (omega arith)))

  pub tally_first : (n : ℕ) → FirstIs short_in n (tally_of s j n).first
  unfolding tally_of noted_of
  tally_first zero = λ i h. absurd (omega arith)
  tally_first (suc n) = go (short_in n) refl (tally_of s j n) (tally_first n)
    where
      later : {x : ℕ} → IsFirst short_in n x → IsFirst short_in (suc n) x
      later f = record { below = let b = f.below in omega arith; has = f.has; none_before = f.none_before }

      new : short_in n ≡ true → (first : Option ℕ) → FirstIs short_in n first → FirstIs short_in (suc n) (option_or first (Some n))
      new ends None none = record { below = omega arith; has = ends; none_before = none }
      new ends (Some x) before = later before

      same : short_in n ≡ false → (first : Option ℕ) → FirstIs short_in n first → FirstIs short_in (suc n) first
      same full None none = λ i h. grind (arith, none i)
      same full (Some x) before = later before

      go : (b : Bool) → short_in n ≡ b → (t : Tally) → FirstIs short_in n t.first → FirstIs short_in (suc n) (cond b (noted_of t n) t).first
      go true e t before = new e t.first before
      go false e t before = same e t.first before

  -- no first slot exactly where no window is short
  pub never_none : (n : ℕ) → (tally_of s j n).first ≡ None → (tally_of s j n).short ≡ 0
  never_none n never = ap (λ (t : Tally). t.short) (tally_none n (subst (FirstIs short_in n) never (tally_first n)))

  pub none_never : (n : ℕ) → (tally_of s j n).short ≡ 0 → (tally_of s j n).first ≡ None
  none_never n none =
      ap (λ (t : Tally). t.first)
      (tally_none n (many_none short_in n (sym (count_is short_in short_in n (λ i h. refl)) ∙ sym (tally_counts n) ∙ none)))

-- before slot n, or in it when the first i jobs are told
pub record Tallied (s : State) (n i : ℕ) (tallies : List Tally) : Type 0 where
  pub few : s.count ≤ count_most
  pub long : length tallies ≡ count_most
  pub told : (j : ℕ) → j < i → j < s.count → tally_at tallies j ≡ tally_of s j (n + 1)
  pub untold : (j : ℕ) → i ≤ j → j < s.count → tally_at tallies j ≡ tally_of s j n
  pub past : (j : ℕ) → s.count ≤ j → tally_at tallies j ≡ no_tally

tally_more : (s : State) (j n : ℕ) → tally_of s j (n + 1) ≡ cond (ends_short_in (after_slots s n) j) (noted_of (tally_of s j n) n) (tally_of s j n)
unfolding tally_of
tally_more s j n = ap (tally_of s j) (add-one n)

none_yet : (s : State) (j : ℕ) → tally_of s j 0 ≡ no_tally
unfolding tally_of
none_yet s j = refl

pub tallies_start : (s : State) → s.count ≤ count_most → {none : Tally} → none ≡ no_tally → Tallied s 0 0 (replicate count_most none)
unfolding tally_of
tallies_start s few e =
    rw e
    (record {
      few = few;
      long = refl;
      told = λ j h listed. absurd (omega arith);
      untold = λ j h listed. none_at no_tally count_most j;
      past = λ j h. none_at no_tally count_most j;
    })

module _ {s : State} {n i : ℕ} {tallies : List Tally} (t : Tallied s n i tallies) where
  -- the tally that is read: no more windows are short than there were slots
  pub tally_now : i < s.count → (tally_at tallies i).short ≤ n
  tally_now listed = rw (t.untold i (omega arith) listed) (tally_high s i n)

  -- one job more
  module _ {short : Bool} (listed : i < s.count) (is : short ≡ ends_short_in (after_slots s n) i) where
    next : tally_of s i (n + 1) ≡ cond short (noted_of (tally_at tallies i) n) (tally_at tallies i)
    next = cc (is, t.untold i (omega arith) listed, tally_more s i n)

    pub tallies_more : {tally : Tally} → short ≡ true → tally ≡ noted_of (tally_at tallies i) n → Tallied s n (i + 1) (set tallies i tally)
    tallies_more {tally} ends counts =
        record {
          few = t.few;
          long = length-set tallies i tally ∙ t.long;
          told = λ j h inside. grind (arith, common_steps, now, t.told j);
          untold = λ j h inside. grind (arith, common_steps, t.untold j);
          past = λ j h. grind (arith, common_steps, t.past j);
        }
      where
        now : tally ≡ tally_of s i (n + 1)
        now = counts ∙ sym (next ∙ ap (λ (b : Bool). cond b (noted_of (tally_at tallies i) n) (tally_at tallies i)) ends)

    pub tallies_same : short ≡ false → Tallied s n (i + 1) tallies
    tallies_same full =
        record {
          few = t.few;
          long = t.long;
          told = λ j h inside. grind (arith, now, t.told j);
          untold = λ j h inside. t.untold j (omega arith) inside;
          past = t.past;
        }
      where
        now : tally_at tallies i ≡ tally_of s i (n + 1)
        now = sym (next ∙ ap (λ (b : Bool). cond b (noted_of (tally_at tallies i) n) (tally_at tallies i)) full)

  -- all of them
  pub tallies_next : i ≡ s.count → Tallied s (n + 1) 0 tallies
  tallies_next all =
      record { few = t.few; long = t.long; told = λ j h inside. absurd (omega arith); untold = λ j h inside. t.told j (omega arith) inside; past = t.past }

  pub tallies_done : i ≡ 0 → tallies ≡ tallies_of s n
  tallies_done none =
      ext_get_or no_tally tallies (tallies_of s n) (t.long ∙ sym (filled_long no_tally (λ j. tally_of s j n) s.count))
      (λ j h. go j (dec_lt j s.count))
    where
      go : (j : ℕ) → Dec (j < s.count) → tally_at tallies j ≡ tally_at (tallies_of s n) j
      go j (yes inside) = t.untold j (omega arith) inside ∙ sym (filled_at no_tally (λ x. tally_of s x n) s.count j inside t.few)
      go j (no out) = t.past j (omega arith) ∙ sym (filled_past no_tally (λ x. tally_of s x n) s.count j (omega arith))

-- where no job has a short window
pub tallies_none :
    (s : State) → s.count ≤ count_most → (n : ℕ) {none : Tally} → none ≡ no_tally → ((j : ℕ) → j < s.count → tally_of s j n ≡ no_tally)
    → replicate count_most none ≡ tallies_of s n
tallies_none s few n is never =
    let start = tallies_start s few is in
    let still : Tallied s n 0 (replicate count_most _) =
    record {
      few = few;
      long = start.long;
      told = λ j h listed. absurd (omega arith);
      untold = λ j h listed. start.untold j h listed ∙ none_yet s j ∙ sym (never j listed);
      past = start.past;
    } in
    tallies_done still refl
