-- A text written into a buffer: its length, two texts one after the other, and a text byte by byte, from the front and from the back.
use mathlib.Core.Path.{◌≡◌, sym, ◌∙◌, ap, subst}
use mathlib.Core.List.{List, [], ◌∷◌, ◌++◌, append_assoc}
use Prim.Native.Nat.{ℕ, suc, ◌+◌, ◌≤◌, ◌<◌}
use native.Mathlib.Nat.{zero-add, add-zero, add_assoc, add-suc}
use native.Mathlib.Numerals.{add-one}
use native.Mathlib.Omega.{arith}
use lib.ListN.{length, get_or, take, drop, set, length-append, length-drop, length-set, take-append-drop}
use lib.Seq.{length-take-le, take_at, drop_at, drop-drop, drop-cons, take-suc, set_split, take-set-le, drop-set-lt, get_or-set_same}
use borrow.Rule.Slice.PartMut.{put_mid}
use Rattle.text.specs.Written.{written}

pub written_none : (b : List ℕ) (at : ℕ) → written b at [] ≡ b
written_none b at = rw add-zero (take-append-drop at b)

pub written_length : (b : List ℕ) (at : ℕ) (x : List ℕ) → at + length x ≤ length b → length (written b at x) ≡ length b
written_length b at x room =
    simp (length-append, length-drop) (omega (arith, length-take-le at b (omega arith)))

-- a part of a buffer, written as a slice of its own
pub written_mid : (b : List ℕ) (at k : ℕ) (x : List ℕ) → k ≡ length x → put_mid at k b x ≡ written b at x
written_mid b at k x long =
    ap (λ (l : List ℕ). take at b ++ (x ++ l)) (drop-drop k at b ∙ ap (λ (n : ℕ). drop (at + n) b) long)

-- one text after another is the two joined
pub written_twice :
    (b : List ℕ) (at : ℕ) (x y : List ℕ) → at + length x + length y ≤ length b
    → written (written b at x) (at + length x) y ≡ written b at (x ++ y)
written_twice b at x y room =
    let n = at + length x in
    let head = take at b ++ x in
    let whole : written b at x ≡ head ++ drop n b = sym (append_assoc (take at b) x (drop n b)) in
    let long : length head ≡ n = rw length-append (omega (arith, length-take-le at b (omega arith))) in
    let front : take n (written b at x) ≡ head = ap (take n) whole ∙ take_at head (drop n b) n long in
    let after : drop n (written b at x) ≡ drop n b = ap (drop n) whole ∙ drop_at head (drop n b) n long in
    let rest : drop (n + length y) (written b at x) ≡ drop (n + length y) b =
    sym (drop-drop (length y) n (written b at x)) ∙ ap (drop (length y)) after ∙ drop-drop (length y) n b in
    rw (front, rest) (simp (append_assoc, length-append, add_assoc))

-- what a writer that had room ensures: the text x stands from the place `at` on of what was b₀, and r is the place after it
pub record Ends (b₀ : List ℕ) (at : ℕ) (x b : List ℕ) (r : ℕ) : Type 0 where
  pub place : r ≡ at + length x
  pub bytes : b ≡ written b₀ at x
  pub room : r ≤ length b₀

pub ends :
    (b₀ : List ℕ) (at : ℕ) (x : List ℕ) {b : List ℕ} {r : ℕ} → (r ≡ at + length x) × (b ≡ written b₀ at x) → r ≤ length b₀
    → Ends b₀ at x b r
ends b₀ at x e room = record { place = e.0; bytes = e.1; room = room }

pub ends_length : {b₀ x b : List ℕ} {at r : ℕ} → Ends b₀ at x b r → length b ≡ length b₀
ends_length {b₀} {x} {b} {at} {r} e = ap length e.bytes ∙ written_length b₀ at x (omega arith)

-- an equal text
pub ends_as : {b₀ x y b : List ℕ} {at r : ℕ} → x ≡ y → Ends b₀ at x b r → Ends b₀ at y b r
ends_as {b₀} {b = b} {at = at} {r = r} same e = subst (λ (l : List ℕ). Ends b₀ at l b r) same e

-- nothing was written
pub ends_at_once : (b : List ℕ) (at : ℕ) → at ≤ length b → Ends b at [] b at
ends_at_once b at room = record { place = sym (add-zero at); bytes = sym (written_none b at); room = room }

-- one writer after another
pub followed : {b₀ x b y b' : List ℕ} {at r r' : ℕ} → Ends b₀ at x b r → Ends b r y b' r' → Ends b₀ at (x ++ y) b' r'
followed {b₀} {x} {b} {y} {b'} {at} {r} {r'} first second =
    let same : length b ≡ length b₀ = ends_length first in
    let place : r' ≡ at + length x + length y = omega arith in
    record {
      place = omega (arith, length-append x y);
      bytes =
          second.bytes
          ∙ ap (λ (l : List ℕ). written l r y) first.bytes
          ∙ ap (λ (n : ℕ). written (written b₀ at x) n y) first.place
          ∙ written_twice b₀ at x y (omega arith);
      room = omega arith;
    }

-- a text from the buffer's start on
pub from_start : {b₀ x b : List ℕ} {r : ℕ} → Ends b₀ 0 x b r → (r ≡ length x) × (b ≡ written b₀ 0 x)
from_start {b₀} {x} e = (e.place ∙ zero-add (length x), e.bytes)

-- a byte stored is a text of one byte
stored : (b : List ℕ) (at v : ℕ) → at < length b → set b at v ≡ written b at (v ∷ [])
stored b at v h = set_split b at v h ∙ ap (λ (n : ℕ). take at b ++ v ∷ drop n b) (sym (add-one at))

-- the next byte of a text, stored after those already written
pub written_next :
    (b : List ℕ) (at : ℕ) (text : List ℕ) (i : ℕ) → at + length text ≤ length b → i < length text
    → set (written b at (take i text)) (at + i) (get_or text i 0) ≡ written b at (take (i + 1) text)
written_next b at text i room more =
    let x = take i text in
    let v = get_or text i 0 in
    let long : length x ≡ i = length-take-le i text (omega arith) in
    stored (written b at x) (at + i) v (omega (arith, written_length b at x (omega arith)))
    ∙ ap (λ (n : ℕ). written (written b at x) (at + n) (v ∷ [])) (sym long)
    ∙ written_twice b at x (v ∷ []) (omega arith)
    ∙ ap (written b at) (sym (take-suc text i 0 more) ∙ ap (λ (n : ℕ). take n text) (sym (add-one i)))

-- the last byte of a text, stored before the others are written
pub written_last :
    (b : List ℕ) (at : ℕ) (x : List ℕ) (v : ℕ) → at + length x < length b
    → written (set b (at + length x) v) at x ≡ written b at (x ++ (v ∷ []))
written_last b at x v room =
    let n = at + length x in
    let b' = set b n v in
    let last : drop n b' ≡ v ∷ drop (suc n) b =
    drop-cons b' n 0 (omega (arith, length-set b n v))
    ∙ rw (get_or-set_same b n v 0 room, drop-set-lt (suc n) b n v (omega arith)) in
    rw (take-set-le at b n v (omega arith), last) (simp (append_assoc, length-append, add-one, add-suc))
