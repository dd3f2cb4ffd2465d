-- The working table of a sharing, by its columns.
use Rattle.std.specs.Prelude.{ℕ, List, map, ℤ, slice_index}
use Rattle.sharing.specs.declared.rows.Row.{Row}

abbrev pub values : List Row → List ℤ
values rs = map (λ r. r.value) rs

abbrev pub shares : List Row → List ℤ
shares rs = map (λ r. r.share) rs

abbrev pub remainders : List Row → List ℕ
remainders rs = map (λ r. r.rest) rs

abbrev pub rest_at : List Row → ℕ → ℕ
rest_at rs k = slice_index (remainders rs) k
