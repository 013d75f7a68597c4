-- What is read goes behind what was read before, in the buffer as in the reader.
use Rattle.std.proofs.Common.{◌≡◌, ℕ, ◌+◌, ◌≤◌, List, ◌++◌, length, take, sym, ap, ◌∙◌, append_assoc, rules}
use Rattle.std.specs.Prelude.{Some, None, Option}
use Rattle.std.proofs.Math.Seq.{take-append-add}
use Rattle.std.proofs.lemmas.List.{take-append-le, length-take-le}
use borrow.Rule.Slice.PartMut.{put_mid, post_of}
use Rattle.std.specs.Io.KnownBytes.{Consumes}
use Rattle.input.proofs.read_full.Goals as goal

consumes_more : (a b d : Option (List ℕ)) (xs ys : List ℕ) → Consumes a b xs → Consumes b d ys → Consumes a d (xs ++ ys)
consumes_more None b d xs ys first then = tt
consumes_more (Some x) None d xs ys first then = absurd first
consumes_more (Some x) (Some y) None xs ys first then = absurd then
consumes_more (Some x) (Some y) (Some z) xs ys first then =
    first ∙ ap (λ (l : List ℕ). xs ++ l) then ∙ sym (append_assoc xs ys z)

-- the buffer's start after a read into its rest
read_behind :
    (got more k : ℕ) (buf part : List ℕ) → got ≤ length buf → more ≤ length part
    → take (got + more) (put_mid got k buf part) ≡ take got buf ++ take more part
read_behind got more k buf part within fits =
    let rest = post_of got k buf in
    ap (λ (n : ℕ). take (n + more) (take got buf ++ (part ++ rest))) (sym (length-take-le got buf within))
    ∙ take-append-add (take got buf) (part ++ rest) more
    ∙ ap (λ (l : List ℕ). take got buf ++ l) (take-append-le more part rest fits)

pub loop-got-preserved : goal.loop-got-preserved
loop-got-preserved g c =
    let read = c.in_ok-more.ensures in
    let before = c.loop-got.invariant in (
      search rules,
      rw (read_behind c.loop-got.got c.in_ok-more.more _ c.loop-got.buf c.read.new.buf before.0 read.bound.0)
          (consumes_more _ _ _ _ _ before.1 read.bytes.0),
    )
