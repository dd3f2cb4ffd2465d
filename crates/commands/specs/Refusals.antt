-- The text of a refusal.
use Rattle.std.specs.Prelude.{ℕ, List, ◌++◌, codes}
use Rattle.kinds.specs.declared.refusals.Refusal.{Refusal}
use Rattle.kinds.specs.Texts.{grounded}

abbrev pub refused : Refusal → List ℕ
refused r = codes "REFUSED " ++ grounded r
