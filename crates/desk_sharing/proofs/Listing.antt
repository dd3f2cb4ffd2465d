-- One share more of a list that is written.
use Rattle.std.proofs.Common.{ℕ, ◌+◌, ◌<◌, List, [], ◌++◌, map, length, get_or, take, ℤ, codes, sym, ap, ◌∙◌}
use Rattle.std.proofs.Output.{has_written_append, has_written_of_eq}
use Rattle.std.proofs.lemmas.List.{flat_map_more, map_more}
use Rattle.std.specs.Fmt.{signed_decimal, HasWritten}
use Rattle.std.specs.declared.fmt.Formatter.{Formatter}
use Rattle.desk_sharing.specs.Figures.{held_by, listed}
use Rattle.sharing.specs.declared.claims.Stake.{Stake}

pub put_share : {W : Type 0} (took : W → List ℕ → W → Type 0) (xs : List (Stake ℤ ℤ)) (i : ℕ) (d : Stake ℤ ℤ) (f g h : Formatter W) → i < length xs → HasWritten took f (listed (map held_by (take i xs))) g → HasWritten took g (codes " " ++ signed_decimal (get_or xs i d).share) h → HasWritten took f (listed (map held_by (take (i + 1) xs))) h
put_share took xs i d f g h l before one =
    has_written_of_eq took f _ _ h (flat_map_more (λ z. codes " " ++ signed_decimal z) [] (map held_by (take i xs)) _ ∙ ap listed (sym (map_more held_by xs i d l))) (has_written_append took f _ g _ h before one)
