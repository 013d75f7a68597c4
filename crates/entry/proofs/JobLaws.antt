-- The list that is read from job bytes, and every list whose bytes they are: the same jobs, as far as the 16 records reach.
use mathlib.Core.Path.{◌≡◌, refl, sym, ap, ◌∙◌}
use mathlib.Core.List.{List}
use Prim.Native.Nat.{ℕ, ◌+◌, ◌*◌, ◌/◌, min, ◌<◌}
use native.Mathlib.Omega.{arith}
use lib.ListN.{length, get_or}
use Rattle.job.specs.declared.list.JobList.{JobList}
use Rattle.job.specs.Limit.{count_most}
use Rattle.job.specs.Check.{no_job, job_at}
use Rattle.job.proofs.FilledLaws.{filled_at}
use Rattle.job.proofs.AlikeLaws.{Same, listed}
use Rattle.entry.specs.JobBytes.{job_from, list_from}
use Rattle.entry.specs.Meaning.{JobStands, BytesOfList, Whole, WholeExactly}

-- the list that is read
module _ (bytes : List ℕ) where
  pair : (at : ℕ) → get_or bytes (at + 2) 0 + 256 * get_or bytes (at + 2 + 1) 0 ≡ get_or bytes (at + 2) 0 + 256 * get_or bytes (at + 3) 0
  pair at = ap (λ (k : ℕ). get_or bytes (at + 2) 0 + 256 * get_or bytes k 0) (omega arith)

  read_at : (i : ℕ) → i < min (length bytes / 6) count_most → job_at (list_from bytes).jobs i ≡ job_from bytes i
  read_at i h = filled_at no_job (job_from bytes) (min (length bytes / 6) count_most) i h (omega arith)

  pub read_holds : Whole bytes → BytesOfList bytes (list_from bytes)
  read_holds whole =
      record {
        whole = omega arith;
        each =
            λ i listed h.
            rw (read_at i (omega arith)) (record { c_is = refl; t_is = pair (i * 6); m_is = refl; k_is = refl });
      }

-- a list whose bytes they are
module _ (bytes : List ℕ) (l : JobList) (held : BytesOfList bytes l) where
  pub held_whole : Whole bytes
  held_whole = omega (arith, held.whole)

  held_count : length bytes / 6 ≡ l.count
  held_count = omega (arith, held.whole)

  stands_same : (i : ℕ) → i < min l.count count_most → job_from bytes i ≡ job_at l.jobs i
  stands_same i h =
      let is : JobStands bytes (i * 6) (job_at l.jobs i) = held.each i (omega arith) (omega arith) in
      λ x. record {
        c = sym is.c_is x;
        t = (pair bytes (i * 6) ∙ sym is.t_is) x;
        m = sym is.m_is x;
        k = sym is.k_is x;
      }

  pub held_same : Same (list_from bytes).jobs l.jobs (min l.count count_most)
  held_same i h = read_at bytes i (omega (arith, held_count)) ∙ stands_same i h

  pub read_is : list_from bytes ≡ listed (list_from bytes).jobs l.count
  read_is = ap (listed (list_from bytes).jobs) held_count

pub whole_exactly : WholeExactly
whole_exactly bytes = (λ whole. (list_from bytes, read_holds bytes whole), λ h. held_whole bytes h.0 h.1)
