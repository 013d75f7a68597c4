-- The loop's invariant: the bytes before `at` fitted, and the reader is the one after them.
use mathlib.Core.Path.{sym, ◌∙◌}
use native.Mathlib.Omega.{arith}
use borrow.Author.Rules.{rules}
use Rattle.job.specs.declared.refusal.Refusal.TheVariants.{SheetTooLong, SheetForm}
use Rattle.sheet.proofs.ReadLaws.{read_long, refusal_reads}
use Rattle.sheet.proofs.AlongLaws.{along_start, along_sound, along_more, along_misfit, along_end, along_open, along_reads}
use Rattle.sheet.proofs.reading.read.Goals as goal

pub returns-then-bytes-gt-BYTES_MOST : goal.returns-then-bytes-gt-BYTES_MOST
returns-then-bytes-gt-BYTES_MOST c = refusal_reads _ SheetTooLong (read_long _ (search rules))

pub loop-at-init : goal.loop-at-init
loop-at-init c = along_start _ c.start-reader.ensures

pub returns-then-not-fits : goal.returns-then-not-fits
returns-then-not-fits c =
    let misfit = sym c.fits.ensures ∙ c.if-not-fits.true in
    refusal_reads _ (SheetForm _) (along_misfit _ c.loop-at.invariant (search rules) (search rules) misfit)

pub advanced-reader-requires : goal.advanced-reader-requires
advanced-reader-requires c = along_sound _ c.loop-at.invariant (search rules)

pub loop-at-preserved : goal.loop-at-preserved
loop-at-preserved c =
    along_more _ c.loop-at.invariant (sym c.fits.ensures ∙ c.if-not-fits.false) c.advanced-reader.ensures

pub returns-then-not-between_lines : goal.returns-then-not-between_lines
returns-then-not-between_lines c =
    let whole = along_end _ c.loop-at.invariant (omega arith) in
    refusal_reads _ (SheetForm _) (along_open _ whole (search rules) (sym c.between_lines.ensures ∙ c.if-not-between_lines.true))

pub returns : goal.returns
returns c =
    let whole = along_end _ c.loop-at.invariant (omega arith) in
    let line = sym c.between_lines.ensures ∙ c.if-not-between_lines.false in
    along_reads _ whole (search rules) line c.checked.result c.checked.ensures.told c.checked.ensures.same
