-- What a sheet holds once read, and its own tests: 16, then 1 to 6.
use Rattle.std.specs.Prelude.{◌||◌, cond, [], ltb, eqb}
use Rattle.job.specs.Told.{Told, row}
use Rattle.job.specs.Check.{list_told}
use Rattle.job.specs.Filled.{empty_list}
use Rattle.place.specs.Setting.{setting_of}
use Rattle.sheet.specs.declared.reading.Sheet.{Sheet}
use Rattle.sheet.specs.Form.{slots_most}

abbrev pub blank_sheet : Sheet
blank_sheet = record { setting = setting_of 0 0; slots = 0; list = empty_list 0 }

-- '16: sheet's slot count 0 or above 4,096'
unfoldable pub sheet_told : Sheet → Told
sheet_told s = cond (eqb s.slots 0 || ltb slots_most s.slots) (row 16 []) (list_told s.list)
