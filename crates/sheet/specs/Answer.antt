-- 'Tests 17, 13, 16, 1 to 6.'
use Rattle.std.specs.Prelude.{ℕ, ◌&&◌, cond, List, [], ◌∷◌, ltb, length}
use Rattle.job.specs.Told.{Told, row, passed}
use Rattle.job.specs.Check.{otherwise}
use Rattle.sheet.specs.declared.reading.Sheet.{Sheet}
use Rattle.sheet.specs.declared.reader.Reader.{Reader}
use Rattle.sheet.specs.Form.{bytes_most}
use Rattle.sheet.specs.Sheet.{sheet_told}
use Rattle.sheet.specs.Reader.{between_lines, reader_upto, fits_upto, place_upto}

-- the reader at the end of the bytes
abbrev pub last_reader : List ℕ → Reader
last_reader bytes = reader_upto bytes (length bytes)

-- '13: sheet not of the stated form', naming 'the first byte after which no sheet can continue; the length, if the sheet ends too soon'
unfoldable pub form_told : List ℕ → Told
form_told bytes =
    cond (fits_upto bytes (length bytes) && between_lines (last_reader bytes)) passed
    (row 13 (place_upto bytes (length bytes) ∷ []))

-- '17: sheet over 4,096 bytes'
unfoldable pub read_told : List ℕ → Told
read_told bytes =
    cond (ltb bytes_most (length bytes)) (row 17 [])
    (otherwise (form_told bytes) (sheet_told (last_reader bytes).sheet))

-- the sheet that is handed back where nothing is refused
abbrev pub read_sheet : List ℕ → Sheet
read_sheet bytes = (last_reader bytes).sheet
