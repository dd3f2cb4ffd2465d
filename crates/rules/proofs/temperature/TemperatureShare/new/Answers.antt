use Rattle.std.proofs.Common.{arith}
use Rattle.std.proofs.lemmas.Int.{ints, clamps}
use Rattle.rules.proofs.temperature.TemperatureShare.new.Goals as goal

pub returns : goal.returns
returns c =
    let kept = c.clamp-kept.ensures in
    record {
      whole = omega (arith, ints);
      warm = λ h. omega (arith, ints, clamps);
      cold = λ h. omega (arith, ints, clamps);
      between = λ h k. omega (arith, ints, clamps);
    }
