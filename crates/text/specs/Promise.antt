-- The promise of each public operation on a `Text`, which a clause sees as a list: what its contract says of a result `r`, of the text
-- as it is, and of the text after it.
use Rattle.std.specs.Prelude.{ℕ, List, [], Bool, ◌≡◌, ◌+◌, ◌≤◌, ◌↔◌, length, IsTrue}

-- `Text::new`, `Text::clear`
abbrev pub EmptyPromise : List ℕ → Type 0
EmptyPromise after = after ≡ []

-- `Text::as_slice`: the bytes, which are at most as many as there is room for
abbrev pub SlicePromise : List ℕ → List ℕ → Type 0
SlicePromise now r = r ≡ now

abbrev pub FitsPromise : ℕ → List ℕ → Type 0
FitsPromise most now = length now ≤ most

-- `Text::has_room`, of a text of room for `most` bytes
abbrev pub RoomPromise : ℕ → List ℕ → ℕ → Bool → Type 0
RoomPromise most now count r = IsTrue r ↔ (length now + count ≤ most)
