-- The loop that moves every place on by one slot.
use mathlib.Core.Path.{◌≡◌, refl, ap, subst, ◌∙◌}
use mathlib.Core.Bool.{cond}
use Prim.Native.Nat.{ℕ, ◌+◌, ◌*◌, ◌^◌, ◌≤◌, ◌<◌}
use native.Mathlib.Nat.{le_refl, pow-suc, pow-le-pow_right}
use native.Mathlib.Numerals.{add-one}
use native.Mathlib.Omega.{arith}
use lib.Dec.{eqb}
use lib.ListN.{set}
use Rattle.job.specs.Limit.{count_most}
use Rattle.place.specs.declared.record.Place.{Place}
use Rattle.place.specs.declared.inner.service.Outcome.{Outcome}
use Rattle.place.specs.Place.{moved_of}
use Rattle.run.specs.declared.state.State.{State}
use Rattle.run.specs.declared.inner.slot.Outcomes.{Outcomes}
use Rattle.run.specs.State.{place_at}
use Rattle.run.specs.Slot.{moved_at, places_upto, mask_upto, count_upto, tags_at, shorts_at, all_moved}
use Rattle.run.proofs.SlotLaws.{placed_now, place_more, mask_high, count_high, mask_more, count_more}

-- the first i places are moved on, and `one` is the bit of the next
pub record Moving (s : State) (at : ℕ) (all : Outcomes) (one i : ℕ) : Type 0 where
  pub within : i ≤ s.count
  pub all_is : all ≡ all_moved s.setting s.places i at
  pub one_is : one ≡ 2 ^ i

pub moving_starts :
    (s : State) (at : ℕ) → Moving s at (record { places = s.places; tags = 0; shorts = 0; tagged = 0; short = 0 }) 1 0
unfolding all_moved places_upto mask_upto count_upto
moving_starts s at = record { within = omega arith; all_is = refl; one_is = refl }

-- what the masks and the counts keep to
pub record Bounded (all : Outcomes) (one : ℕ) : Type 0 where
  pub tags_high : all.tags < one
  pub shorts_high : all.shorts < one
  pub tagged_high : all.tagged ≤ count_most
  pub short_high : all.short ≤ count_most
  pub one_high : one ≤ 65536

module _ {s : State} {at : ℕ} {all : Outcomes} {one i : ℕ} (m : Moving s at all one i) where
  pub moving_bounded : i ≤ count_most → Bounded all one
  unfolding all_moved
  moving_bounded h =
      let tags = tags_at s.setting s.places at in
      let shorts = shorts_at s.setting s.places at in
      rw (m.all_is, m.one_is)
      (record {
        tags_high = mask_high tags i;
        shorts_high = mask_high shorts i;
        tagged_high = omega (arith, count_high tags i);
        short_high = omega (arith, count_high shorts i);
        one_high = pow-le-pow_right {n = 2} (omega arith) h;
      })

  places_so_far : all.places ≡ places_upto s.setting s.places at i
  unfolding all_moved
  places_so_far = ap (λ (a : Outcomes). a.places) m.all_is

  -- the loop reads each place as it was before the slot
  pub moving_reads : place_at all.places i ≡ place_at s.places i
  moving_reads = placed_now s.setting s.places at i places_so_far

  pub moving_more :
      {o : Outcome} {tags shorts tagged short : ℕ} → i < s.count
      → o ≡ moved_of s.setting (place_at all.places i) (eqb i at)
      → tags ≡ cond o.tagged (all.tags + one) all.tags → shorts ≡ cond o.short (all.shorts + one) all.shorts
      → tagged ≡ cond o.tagged (all.tagged + 1) all.tagged → short ≡ cond o.short (all.short + 1) all.short
      → Moving s at
      (record { places = set all.places i o.place; tags = tags; shorts = shorts; tagged = tagged; short = short })
      (one * 2) (i + 1)
  unfolding all_moved
  moving_more {o} h e a b c d =
      let here : o ≡ moved_at s.setting s.places at i =
      e ∙ ap (λ (q : Place). moved_of s.setting q (eqb i at)) moving_reads in
      let tags = tags_at s.setting s.places at in
      let shorts = shorts_at s.setting s.places at in
      let is-tagged = ap (λ (x : Outcome). x.tagged) here in
      let is-short = ap (λ (x : Outcome). x.short) here in
      record {
        within = omega arith;
        all_is =
            λ dim. record {
              places = place_more s.setting s.places at i places_so_far here dim;
              tags = mask_more tags i is-tagged (ap (λ (x : Outcomes). x.tags) m.all_is) m.one_is a dim;
              shorts = mask_more shorts i is-short (ap (λ (x : Outcomes). x.shorts) m.all_is) m.one_is b dim;
              tagged = count_more tags i is-tagged (ap (λ (x : Outcomes). x.tagged) m.all_is) c dim;
              short = count_more shorts i is-short (ap (λ (x : Outcomes). x.short) m.all_is) d dim;
            };
        one_is = ap (λ (x : ℕ). x * 2) m.one_is ∙ rw (add-one, pow-suc);
      }

  pub moving_done : i ≡ s.count → all ≡ all_moved s.setting s.places s.count at
  moving_done e = subst (λ (n : ℕ). all ≡ all_moved s.setting s.places n at) e m.all_is

-- all places of a state moved on
pub all_bounded :
    (s : State) (at : ℕ) {all : Outcomes} → s.count ≤ count_most → all ≡ all_moved s.setting s.places s.count at → Bounded all (2 ^ s.count)
all_bounded s at few e = moving_bounded {s = s} {at = at} (record { within = le_refl s.count; all_is = e; one_is = refl }) few
