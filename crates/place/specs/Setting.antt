-- 'Order 0 is V, 1 is W; model 0 is relaxed, 1 is original'; 'a run setting, spare on or off' (document 02, Item 1). How a setting is made, and all
-- that is asked of one.
use Rattle.std.specs.Prelude.{ℕ, Bool, false, ◌&&◌, leb, eqb}
use Rattle.job.specs.Limit.{relaxed, original}
use Rattle.place.specs.declared.setting.Setting.{Setting}

abbrev pub order_v : ℕ
order_v = 0

abbrev pub order_w : ℕ
order_w = 1

-- a setting of an order and a model, with spare off; and one with another order, another model, or spare on or off
abbrev pub setting_of : ℕ → ℕ → Setting
setting_of order model = record { order = order; model = model; spare = false }

abbrev pub with_order : Setting → ℕ → Setting
with_order s order = record { order = order; model = s.model; spare = s.spare }

abbrev pub with_model : Setting → ℕ → Setting
with_model s model = record { order = s.order; model = model; spare = s.spare }

abbrev pub with_spare : Setting → Bool → Setting
with_spare s spare = record { order = s.order; model = s.model; spare = spare }

-- '15: order or model number not 0 or 1'
abbrev pub setting_allowed : Setting → Bool
setting_allowed s = leb s.order order_w && leb s.model original

-- how service is kept: by units, u ('Relaxed model'), or by instances, s and v ('Original model')
abbrev pub by_units : Setting → Bool
by_units s = eqb s.model relaxed

abbrev pub in_order_v : Setting → Bool
in_order_v s = eqb s.order order_v
