-- What the number of a line tells as a claim, the share that it holds, and the shares as text.
use Rattle.std.specs.Prelude.{ℕ, List, ◌++◌, ℤ, codes}
use Rattle.std.specs.List.{flat_map}
use Rattle.std.specs.Fmt.{signed_decimal}
use Rattle.sharing.specs.declared.claims.Stake.{Stake}

abbrev pub told_by : Stake ℤ ℤ → ℤ
told_by c = c.value

abbrev pub held_by : Stake ℤ ℤ → ℤ
held_by c = c.share

-- each number after a blank
abbrev pub listed : List ℤ → List ℕ
listed zs = flat_map (λ z. codes " " ++ signed_decimal z) zs
