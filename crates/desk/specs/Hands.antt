-- What the desk has in hand.
use Rattle.std.specs.Prelude.{◌≡◌, None}
use Rattle.kinds.specs.declared.dates.Date.{Date}
use Rattle.desk_bands.specs.Setting.{on}
use Rattle.desk.specs.declared.hand.Hand.{Hand}

-- no bands on any date
abbrev pub NoBands : Hand → Type 0
NoBands h = (d : Date) → on h.bands d ≡ None
